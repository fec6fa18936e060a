use Rattle.std.proofs.Common.{◌≡◌, ◌++◌, drop, flat_map}
use Rattle.stanza_imports.specs.Parts.{deps_said}
use Rattle.package_declarations.proofs.setup.push_parts.Given as goal

abbrev pub invariant-loop-part : goal.invariant-loop-part
invariant-loop-part l = l.deps ++ flat_map (λ part. deps_said part.said) (drop l.part-index l.parts) ≡ l.fn.deps ++ flat_map (λ part. deps_said part.said) l.parts
