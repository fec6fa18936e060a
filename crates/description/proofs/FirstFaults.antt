-- The first fault of several lists.
use Rattle.std.proofs.Common.{◌≡◌, ℕ, ◌<◌, ◌≤◌, Bool, true, false, ◌&&◌, ◌||◌, ◌==◌, List, [], ◌∷◌, ◌++◌, sym, ap, ◌∙◌, refl, arith, if◌then◌else◌, ◌+◌, take, get_or, length, flat_map, ◌⊎◌, inl, inr}
use Rattle.std.proofs.lemmas.Bool.{false_from_ne_true, false≢true, ltb-true, ltb-false, lt-ltb, eqb-true, eq-eqb, and_parts, or_cases, or_parts}
use Rattle.std.specs.Prelude.{Option, Some, None, nat_lt}
use Rattle.std.proofs.lemmas.List.{append-nil, map-append, take_more}
use Rattle.std.proofs.lemmas.Grind.{flat_map-append}
use Rattle.std.proofs.Math.Bool.{or-true}
use Rattle.plan_types.specs.declared.refusal.Cause.{Cause}
use Rattle.description.specs.Faults.{at}
use Rattle.description.specs.FaultOrder.{earlier, first, is_before, rank}
use Rattle.description.specs.declared.fault_order.At.{At}

and-later : (x y : Bool) → (x && y) ≡ false → x ≡ true → y ≡ false
and-later true y h t = h
and-later false y h t = absurd (false≢true t)

abbrev Before : At → At → Type 0
Before a b = (a.line < b.line) ⊎ ((a.line ≡ b.line) × (rank a.cause < rank b.cause))

before-from : (a b : At) → is_before a b ≡ true → Before a b
before-from a b h = elim (or_cases (nat_lt a.line b.line) (a.line == b.line && nat_lt (rank a.cause) (rank b.cause)) h) [
  | inl lt ↦ inl (ltb-true a.line b.line lt)
  | inr both ↦ let parts = and_parts (a.line == b.line) (nat_lt (rank a.cause) (rank b.cause)) both in inr (eqb-true a.line b.line parts.0, ltb-true (rank a.cause) (rank b.cause) parts.1)
]

before-to : (a b : At) → Before a b → is_before a b ≡ true
before-to a b (inl lt) = ap (λ t. t || (a.line == b.line && nat_lt (rank a.cause) (rank b.cause))) (lt-ltb a.line b.line lt)
before-to a b (inr both) =
    ap (λ t. nat_lt a.line b.line || (t && nat_lt (rank a.cause) (rank b.cause))) (eq-eqb a.line b.line both.0)
    ∙ ap (λ t. nat_lt a.line b.line || t) (lt-ltb (rank a.cause) (rank b.cause) both.1)
    ∙ or-true (nat_lt a.line b.line)

not-from : (a b : At) → is_before a b ≡ false → (b.line ≤ a.line) × (a.line ≡ b.line → rank b.cause ≤ rank a.cause)
not-from a b h =
    let parts = or_parts (nat_lt a.line b.line) (a.line == b.line && nat_lt (rank a.cause) (rank b.cause)) h in
    (ltb-false a.line b.line parts.0, λ e. ltb-false (rank a.cause) (rank b.cause) (and-later (a.line == b.line) (nat_lt (rank a.cause) (rank b.cause)) parts.1 (eq-eqb a.line b.line e)))

no-before : (a b c : At) → is_before b a ≡ false → is_before c b ≡ false → Before c a → ⊥
no-before a b c p q (inl lt) = let ba = not-from b a p in let cb = not-from c b q in omega (arith, ba.0, cb.0, lt)
no-before a b c p q (inr both) =
    let ba = not-from b a p in let cb = not-from c b q in
    let one : b.line ≡ a.line = omega (arith, ba.0, cb.0, both.0) in
    let two : c.line ≡ b.line = omega (arith, ba.0, cb.0, both.0) in
    omega (arith, ba.1 one, cb.1 two, both.1)

-- "not before" is transitive
not-before : (a b c : At) → is_before b a ≡ false → is_before c b ≡ false → is_before c a ≡ false
not-before a b c p q = false_from_ne_true (is_before c a) (λ h. no-before a b c p q (before-from c a h))

before-before : (a b c : At) → is_before b a ≡ true → is_before c b ≡ true → is_before c a ≡ true
before-before a b c p q = before-to c a (joined (before-from b a p) (before-from c b q))
  where
    joined : Before b a → Before c b → Before c a
    joined (inl x) (inl y) = inl (omega (arith, x, y))
    joined (inl x) (inr y) = inl (omega (arith, x, y.0))
    joined (inr x) (inl y) = inl (omega (arith, x.0, y))
    joined (inr x) (inr y) = inr (y.0 ∙ x.0, omega (arith, x.1, y.1))

earlier-some : (a b : At) (t : Bool) → is_before b a ≡ t → earlier (Some a) (Some b) ≡ (if t then Some b else Some a)
earlier-some a b t h = ap (λ v. if v then Some b else Some a) h

by-cases : (a b c : At) (ba cb : Bool) → is_before b a ≡ ba → is_before c b ≡ cb → earlier (Some a) (earlier (Some b) (Some c)) ≡ earlier (earlier (Some a) (Some b)) (Some c)
by-cases a b c true true p q =
    ap (earlier (Some a)) (earlier-some b c true q) ∙ earlier-some a c true (before-before a b c p q) ∙ sym (earlier-some b c true q) ∙ ap (λ v. earlier v (Some c)) (sym (earlier-some a b true p))
by-cases a b c true false p q =
    ap (earlier (Some a)) (earlier-some b c false q) ∙ earlier-some a b true p ∙ sym (earlier-some b c false q) ∙ ap (λ v. earlier v (Some c)) (sym (earlier-some a b true p))
by-cases a b c false true p q =
    ap (earlier (Some a)) (earlier-some b c true q) ∙ ap (λ v. earlier v (Some c)) (sym (earlier-some a b false p))
by-cases a b c false false p q =
    ap (earlier (Some a)) (earlier-some b c false q) ∙ earlier-some a b false p ∙ sym (earlier-some a c false (not-before a b c p q)) ∙ ap (λ v. earlier v (Some c)) (sym (earlier-some a b false p))

pub earlier-none : (a : Option At) → earlier a None ≡ a
earlier-none None = refl
earlier-none (Some a) = refl

pub earlier-earlier : (a b c : Option At) → earlier a (earlier b c) ≡ earlier (earlier a b) c
earlier-earlier None b c = refl
earlier-earlier (Some a) None c = refl
earlier-earlier (Some a) (Some b) None = sym (earlier-none (earlier (Some a) (Some b)))
earlier-earlier (Some a) (Some b) (Some c) = by-cases a b c (is_before b a) (is_before c b) refl refl

pub first-append : (xs ys : List At) → first (xs ++ ys) ≡ earlier (first xs) (first ys)
first-append [] ys = refl
first-append (x ∷ xs) ys = ap (earlier (Some x)) (first-append xs ys) ∙ earlier-earlier (Some x) (first xs) (first ys)

pub at-append : (line : ℕ) (xs ys : List Cause) → first (at line (xs ++ ys)) ≡ earlier (first (at line xs)) (first (at line ys))
at-append line xs ys = ap first (map-append (λ cause. record { line = line; cause = cause }) xs ys) ∙ first-append (at line xs) (at line ys)

-- one more element
pub first-more : {A : Type 0} (f : A → List At) (xs : List A) (n : ℕ) (x : A) → n < length xs → x ≡ get_or xs n x →
    earlier (first (flat_map f (take n xs))) (first (f x)) ≡ first (flat_map f (take (n + 1) xs))
first-more f xs n x lt is =
    ap (λ l. earlier (first (flat_map f (take n xs))) (first l)) (sym (append-nil (f x)))
    ∙ sym (first-append (flat_map f (take n xs)) (flat_map f (x ∷ [])))
    ∙ ap first (sym (flat_map-append f (take n xs) (x ∷ [])))
    ∙ ap (λ v. first (flat_map f (take n xs ++ v ∷ []))) is
    ∙ ap (λ l. first (flat_map f l)) (sym (take_more xs n x lt))

pub earlier-of : {c a b x y : Option At} → c ≡ earlier a b → a ≡ x → b ≡ y → c ≡ earlier x y
earlier-of {b = b} {x = x} h p q = h ∙ ap (λ v. earlier v b) p ∙ ap (earlier x) q
