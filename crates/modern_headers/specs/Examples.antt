-- Small examples of words, and of lines on standard error.
use Rattle.std.specs.Prelude.{◌≡◌, refl, [], ◌∷◌, codes, None}
use Rattle.modern_files.specs.declared.status.Status.TheVariants.{Refused}
use Rattle.modern_headers.specs.Failure.{failure_of}
use Rattle.modern_headers.specs.Run.{words_of}

behind_the_name : words_of (codes "modern-headers" ∷ codes "list" ∷ []) ≡ codes "list" ∷ []
behind_the_name = refl

-- called without a name
no_name : words_of [] ≡ []
no_name = refl

-- a refusal is written on standard output
no_refusal_is_no_failure : failure_of Refused ≡ None
no_refusal_is_no_failure = refl
