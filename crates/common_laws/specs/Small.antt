-- Small laws of tests, orders, options and texts.
use Rattle.std.proofs.Common.{◌≡◌, ℕ, Bool, true, false, not, ◌||◌, List, ◌∷◌, ◌+◌, ◌<◌, min, ◌-◌, ◌^◌, arith, Option, Some, None, refl, sym, ap, ◌∙◌, subst}
use Rattle.std.specs.Prelude.{IfSome, OnErr, Result, Ok, Err}
use Rattle.std.specs.declared.cmp.Ordering.{Ordering}
use Rattle.std.specs.declared.cmp.Ordering.TheVariants.{Less, Equal, Greater}
use Rattle.std.specs.Ordering.{is_eq, is_lt, ordering_then}
use Rattle.std.proofs.lemmas.Bool.{false≢true}
use Rattle.std.proofs.lemmas.Grind.{common_steps}
use Rattle.std.proofs.lemmas.Slice.Eq.{bytes_eq-Decides}
use Rattle.plan_types.specs.Bytes.{same_text}
use Rattle.plan_types.specs.Name.{is_letter_or_digit}

-- ---- tests

pub not-from : (a : Bool) → (a ≡ true → ⊥) → not a ≡ true
not-from true h = absurd (h refl)
not-from false h = refl

pub not-to : (a : Bool) → not a ≡ true → a ≡ true → ⊥
not-to true h k = false≢true h
not-to false h k = false≢true k

pub or-last : (a b : Bool) → (a || (b || false)) ≡ (b || a)
or-last true true = refl
or-last true false = refl
or-last false true = refl
or-last false false = refl

-- ---- orders

pub is-less : (o : Ordering) → is_lt o ≡ true → o ≡ Less
is-less Less e = refl
is-less Equal e = absurd (false≢true e)
is-less Greater e = absurd (false≢true e)

pub is-equal : (o : Ordering) → is_eq o ≡ true → o ≡ Equal
is-equal Less e = absurd (false≢true e)
is-equal Equal e = refl
is-equal Greater e = absurd (false≢true e)

pub second-equal : (first second : Ordering) → ordering_then first second ≡ Equal → second ≡ Equal
second-equal Less second e = absurd (cc e)
second-equal Equal second e = e
second-equal Greater second e = absurd (cc e)

-- ---- options and results

pub if_some : {X : Type 0} (P : X → Type 0) (o : Option X) → ((x : X) → o ≡ Some x → P x) → IfSome o P
if_some P None f = tt
if_some P (Some x) f = f x refl

pub some_at : {X : Type 0} (P : X → Type 0) (o : Option X) (x : X) → o ≡ Some x → IfSome o P → P x
some_at P o x e h = let Q : Option _ → Type 0 = λ o. IfSome o P in subst Q e h

pub on-err : {T E : Type 0} (r : Result T E) (P : Type 0) → P → OnErr r P
on-err (Ok t) P h = tt
on-err (Err e) P h = h

-- ---- numbers

-- the minimum of a number and the greatest 64-bit number
abbrev pub capped : ℕ → ℕ
capped n = min n (2 ^ 64 - 1)

pub capped-add : (a b : ℕ) → capped (capped a + capped b) ≡ capped (a + b)
capped-add a b = grind (arith, common_steps)

-- ---- bytes and texts

pub letter-small : (b : ℕ) → is_letter_or_digit b ≡ true → b < 128
letter-small b h = grind (arith, common_steps)

pub same-is : (xs ys : List ℕ) → same_text xs ys ≡ true → xs ≡ ys
same-is xs ys e = (bytes_eq-Decides xs ys).0 e

pub head_same : {a b : ℕ} {as' bs : List ℕ} → a ∷ as' ≡ b ∷ bs → a ≡ b
head_same e = cc

pub tail_same : {a b : ℕ} {as' bs : List ℕ} → a ∷ as' ≡ b ∷ bs → as' ≡ bs
tail_same e = cc
