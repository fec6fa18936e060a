-- Shared: lists: members, tests of all and of some, and numbers that rise.
use Rattle.std.proofs.Common.{◌≡◌, ℕ, zero, suc, ◌+◌, ◌-◌, ◌<◌, ◌≤◌, Bool, true, false, cond, List, [], ◌∷◌, ◌++◌, map, refl, sym, ap, ◌∙◌, subst, inl, inr, arith, append_assoc}
use Rattle.std.specs.List.{Contains, filter, range_with_len}
use Rattle.std.proofs.lemmas.Bool.{false≢true}
use Rattle.std.proofs.lemmas.List.{append-nil, map-append}
use Rattle.std.proofs.lemmas.List.Elements.{filter-append}
use Rattle.solver_index.specs.Places.{rising, between}
use Rattle.common_laws.specs.Lists.{contains-none, contains-cases}

-- ---- numbers that rise

pub range-join : (a m n : ℕ) → range_with_len a (m + n) ≡ range_with_len a m ++ range_with_len (a + m) n
range-join a zero n =
    let first : zero + n ≡ n = omega arith in
    let second : a + zero ≡ a = omega arith in
    ap (range_with_len a) first ∙ ap (λ b. range_with_len b n) (sym second)
range-join a (suc m) n =
    let first : suc m + n ≡ suc (m + n) = omega arith in
    let second : (a + 1) + m ≡ a + suc m = omega arith in
    ap (range_with_len a) first ∙ ap (λ l. a ∷ l) (range-join (a + 1) m n ∙ ap (λ b. range_with_len (a + 1) m ++ range_with_len b n) second)

pub between-join : (a b c : ℕ) → a ≤ b → b ≤ c → between a c ≡ between a b ++ between b c
between-join a b c low high =
    let whole : c - a ≡ (b - a) + (c - b) = omega (arith, low, high) in
    let middle : a + (b - a) ≡ b = omega (arith, low) in
    ap (range_with_len a) whole ∙ range-join a (b - a) (c - b) ∙ ap (λ m. between a b ++ range_with_len m (c - b)) middle

pub between-none : (a b : ℕ) → b ≤ a → between a b ≡ []
between-none a b h = let none : b - a ≡ 0 = omega (arith, h) in ap (range_with_len a) none

pub between-one : (a : ℕ) → between a (a + 1) ≡ a ∷ []
between-one a = let one : (a + 1) - a ≡ 1 = omega arith in ap (range_with_len a) one

pub between-more : (a i : ℕ) → a ≤ i → between a (i + 1) ≡ between a i ++ i ∷ []
between-more a i low = between-join a i (i + 1) low (omega arith) ∙ ap (λ l. between a i ++ l) (between-one i)

pub rising-between : (n : ℕ) → rising n ≡ between 0 n
rising-between zero = refl
rising-between (suc n) =
    let next : suc n ≡ n + 1 = omega arith in
    ap (λ l. l ++ n ∷ []) (rising-between n) ∙ sym (between-more 0 n (omega arith)) ∙ ap (between 0) (sym next)

pub range-has : (a n x : ℕ) → Contains (range_with_len a n) x → (a ≤ x) × (x < a + n)
range-has a zero x h = absurd (contains-none x h)
range-has a (suc n) x h =
    elim (contains-cases a (range_with_len (a + 1) n) x h) [
      | inl e ↦ (omega (arith, e), omega (arith, e))
      | inr r ↦ let in_rest = range-has (a + 1) n x r in (omega (arith, in_rest.0), omega (arith, in_rest.1))
    ]

pub between-has : (a b x : ℕ) → Contains (between a b) x → (a ≤ x) × (x < b)
between-has a b x h = let in_range = range-has a (b - a) x h in (in_range.0, omega (arith, in_range.0, in_range.1))

pub rising-below : (n x : ℕ) → Contains (rising n) x → x < n
rising-below n x h = (between-has 0 n x (subst (λ l. Contains l x) (rising-between n) h)).1

pub filter-more : (test : ℕ → Bool) (a i : ℕ) (b : Bool) → a ≤ i → test i ≡ b → filter test (between a (i + 1)) ≡ filter test (between a i) ++ cond b (i ∷ []) []
filter-more test a i b low is = ap (filter test) (between-more a i low) ∙ filter-append test (between a i) (i ∷ []) ∙ ap (λ c. filter test (between a i) ++ cond c (i ∷ []) []) is

-- one more number that passes, and one that doesn't
pub kept-more : (test : ℕ → Bool) (front : List ℕ) (a i : ℕ) → a ≤ i → test i ≡ true → (front ++ filter test (between a i)) ++ i ∷ [] ≡ front ++ filter test (between a (i + 1))
kept-more test front a i low is = append_assoc front (filter test (between a i)) (i ∷ []) ∙ ap (λ l. front ++ l) (sym (filter-more test a i true low is))

pub dropped-more : (test : ℕ → Bool) (front : List ℕ) (a i : ℕ) → a ≤ i → test i ≡ false → front ++ filter test (between a i) ≡ front ++ filter test (between a (i + 1))
dropped-more test front a i low is = ap (λ l. front ++ l) (sym (append-nil (filter test (between a i))) ∙ sym (filter-more test a i false low is))

pub rising-more : (test : ℕ → Bool) (n : ℕ) (b : Bool) → test n ≡ b → filter test (rising (n + 1)) ≡ filter test (rising n) ++ cond b (n ∷ []) []
rising-more test n b is =
    ap (filter test) (rising-between (n + 1)) ∙ filter-more test 0 n b (omega arith) is ∙ ap (λ l. filter test l ++ cond b (n ∷ []) []) (sym (rising-between n))

pub map-more : {X : Type 0} (f : ℕ → X) (n : ℕ) → map f (rising (n + 1)) ≡ map f (rising n) ++ f n ∷ []
map-more f n = let next : n + 1 ≡ suc n = omega arith in ap (λ m. map f (rising m)) next ∙ map-append f (rising n) (n ∷ [])

pub false-back : (a b : Bool) → (a ≡ true → b ≡ true) → b ≡ false → a ≡ false
false-back true b h k = absurd (false≢true (sym k ∙ h refl))
false-back false b h k = refl
