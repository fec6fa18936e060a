use Rattle.std.proofs.Common.{◌≡◌, unwrap_or, drop}
use Rattle.text_grammar.specs.Last.{last_given}
use Rattle.package_declarations.specs.Setup.{custom_said}
use Rattle.package_declarations.proofs.setup.last_build_type.Given as goal

abbrev pub invariant-loop-field : goal.invariant-loop-field
invariant-loop-field l =
    unwrap_or (last_given (λ field. custom_said field.head) (drop l.field-index l.heads)) l.custom ≡ unwrap_or (last_given (λ field. custom_said field.head) l.heads) l.unsaid
