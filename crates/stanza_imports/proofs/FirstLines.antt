-- The least line of several lists.
use Rattle.std.proofs.Common.{◌≡◌, ℕ, List, [], ◌∷◌, ◌++◌, sym, ap, ◌∙◌, refl, arith}
use Rattle.std.specs.Prelude.{Option, Some, None}
use Rattle.std.proofs.lemmas.Bool.Decides.{nat_tests}
use Rattle.std.proofs.lemmas.Grind.{common_steps}
use Rattle.stanza_imports.specs.Lines.{first_line, lesser}

pub lesser-none : (a : Option ℕ) → lesser a None ≡ a
lesser-none None = refl
lesser-none (Some a) = refl

some-some : (a b c : ℕ) → lesser (Some a) (lesser (Some b) (Some c)) ≡ lesser (lesser (Some a) (Some b)) (Some c)
some-some a b c = grind (arith, common_steps, nat_tests)

pub lesser-lesser : (a b c : Option ℕ) → lesser a (lesser b c) ≡ lesser (lesser a b) c
lesser-lesser None b c = refl
lesser-lesser (Some a) None c = refl
lesser-lesser (Some a) (Some b) None = sym (lesser-none (lesser (Some a) (Some b)))
lesser-lesser (Some a) (Some b) (Some c) = some-some a b c

pub first_line-append : (xs ys : List ℕ) → first_line (xs ++ ys) ≡ lesser (first_line xs) (first_line ys)
first_line-append [] ys = refl
first_line-append (x ∷ xs) ys = ap (lesser (Some x)) (first_line-append xs ys) ∙ lesser-lesser (Some x) (first_line xs) (first_line ys)
