use Rattle.std.proofs.Common.{◌≡◌, unwrap_or, drop, map}
use Rattle.package_declarations.specs.Components.{is_public, visibility_of}
use Rattle.text_grammar.specs.Last.{last_given}
use Rattle.stanza_imports.specs.Bodies.{placed_part}
use Rattle.package_declarations.proofs.component.is_public.Given as goal

abbrev pub invariant-loop-one : goal.invariant-loop-one
invariant-loop-one l = unwrap_or (last_given visibility_of (map placed_part (drop l.one-index l.placed))) l.public ≡ is_public (map placed_part l.placed)
