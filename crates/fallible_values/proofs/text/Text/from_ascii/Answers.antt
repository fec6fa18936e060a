use Rattle.std.proofs.Common.{Result, Ok, Err, refl}
use Rattle.std.specs.Result.{MatchResult, IsOk}
use Rattle.std.proofs.lemmas.Str.{IsUtf8-from_ascii}
use Rattle.fallible_values.proofs.text.Text.from_ascii.Goals as goal

ok_from_cases : {T E : Type 0} (r : Result T E) (P : T → Type 0) (Q : Type 0) (R : E → Type 0) → MatchResult r P (λ e. ¬ Q × R e) → Q → IsOk r
ok_from_cases (Ok x) P Q R h q = refl
ok_from_cases (Err e) P Q R h q = absurd (h.0 q)

pub unwrap-requires : goal.unwrap-requires
unwrap-requires c = ok_from_cases _ _ _ _ c.from_utf8.ensures.cases (IsUtf8-from_ascii _ c.requires)
