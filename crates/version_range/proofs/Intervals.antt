-- Shared: each operator is a half-open interval of versions.
use Rattle.std.proofs.Common.{◌≡◌, ℕ, zero, suc, ◌+◌, ◌<◌, Bool, true, false, not, ◌&&◌, List, [], ◌∷◌, ◌++◌, length, Result, Ok, Err, refl, sym, ap, ◌∙◌, subst, arith}
use Rattle.std.specs.Prelude.{nat_eq, IfOk}
use Rattle.std.specs.declared.cmp.Ordering.{Ordering}
use Rattle.std.specs.declared.cmp.Ordering.TheVariants.{Less, Equal, Greater}
use Rattle.std.specs.Ordering.{is_lt, is_le, is_gt, is_ge, is_eq, nat_cmp, ordering_then}
use Rattle.std.specs.List.{starts_with}
use Rattle.std.proofs.lemmas.Bool.Decides.{nat_tests}
use Rattle.std.proofs.lemmas.Bool.{false≢true}
use Rattle.std.proofs.lemmas.Cmp.{nat_cmp_total, tied_itself}
use Rattle.plan_types.specs.declared.version.Version.{Version}
use Rattle.plan_types.specs.Members.{order, major_end}
use Rattle.version_range.specs.Version.{IsVersion, IsNumber}
use Rattle.version_range.specs.Cuts.{is_below, HasNumbers, inside, are_ends, AreEndsOf, prefix_end}
use Rattle.version_range.proofs.RisingEnds.{below_through, not_below_through}
use Rattle.version_range.proofs.RelaxedCuts.{least}

pub version_some : (ps : List ℕ) → IsVersion ps → 0 < length ps
version_some [] h = absurd h
version_some (n ∷ ns) h = omega arith

pub inside_two : (e f : Version) → is_below e f ≡ true → (v : Version) → inside (e ∷ f ∷ []) v ≡ not (is_below v e) && is_below v f
inside_two e f h v = by (is_below v e) refl (is_below v f) refl
  where
    by : (s : Bool) → is_below v e ≡ s → (t : Bool) → is_below v f ≡ t → inside (e ∷ f ∷ []) v ≡ not (is_below v e) && is_below v f
    by true p true q = rw (p, q) refl
    by true p false q = absurd (false≢true (sym q ∙ below_through v e f p h))
    by false p true q = rw (p, q) refl
    by false p false q = rw (p, q) refl

-- ---- just above x is x.0

then_le : (o p q : Ordering) → is_lt p ≡ is_le q → is_lt (ordering_then o p) ≡ is_le (ordering_then o q)
then_le Less p q e = refl
then_le Equal p q e = e
then_le Greater p q e = refl

pub up_to : (vs xs : List ℕ) → is_lt (order vs (xs ++ 0 ∷ [])) ≡ is_le (order vs xs)
up_to [] [] = refl
up_to (zero ∷ []) [] = refl
up_to (zero ∷ v ∷ vs) [] = refl
up_to (suc n ∷ vs) [] = grind (arith, nat_tests)
up_to [] (x ∷ xs) = refl
up_to (v ∷ vs) (x ∷ xs) = then_le (nat_cmp v x) (order vs (xs ++ 0 ∷ [])) (order vs xs) (up_to vs xs)

then_same : (x : ℕ) (o : Ordering) → ordering_then (nat_cmp x x) o ≡ o
then_same x o = ap (λ p. ordering_then p o) (tied_itself nat_cmp_total x)

pub itself : (xs : List ℕ) → order xs xs ≡ Equal
itself [] = refl
itself (x ∷ xs) = then_same x (order xs xs) ∙ itself xs

not_lt : (o : Ordering) → not (is_lt o) ≡ is_ge o
not_lt Less = refl
not_lt Equal = refl
not_lt Greater = refl

not_le : (o : Ordering) → not (is_le o) ≡ is_gt o
not_le Less = refl
not_le Equal = refl
not_le Greater = refl

both_eq : (o : Ordering) → not (is_lt o) && is_le o ≡ is_eq o
both_eq Less = refl
both_eq Equal = refl
both_eq Greater = refl

-- ---- the end of a prefix

then_prefix : (o : Ordering) (p q r : Ordering) (s : Bool) → not (is_lt p) && is_lt q ≡ s → not (is_lt (ordering_then o p)) && is_lt (ordering_then o q) ≡ is_eq o && s
then_prefix Less p q r s e = refl
then_prefix Equal p q r s e = e
then_prefix Greater p q r s e = refl

same_number : (n a : ℕ) → is_eq (nat_cmp n a) ≡ nat_eq a n
same_number n a = grind (arith, nat_tests)

pub prefix_ends : (vs xs : List ℕ) → 0 < length xs → not (is_lt (order vs xs)) && is_lt (order vs (prefix_end xs)) ≡ starts_with nat_eq vs xs
prefix_ends vs [] some = absurd (omega arith)
prefix_ends [] (x ∷ []) some = refl
prefix_ends [] (x ∷ y ∷ xs) some = refl
prefix_ends (v ∷ []) (x ∷ []) some = grind (arith, nat_tests)
prefix_ends (v ∷ w ∷ vs) (x ∷ []) some = grind (arith, nat_tests)
prefix_ends (v ∷ vs) (x ∷ y ∷ xs) some =
    then_prefix (nat_cmp v x) (order vs (y ∷ xs)) (order vs (prefix_end (y ∷ xs))) Equal (starts_with nat_eq vs (y ∷ xs)) (prefix_ends vs (y ∷ xs) (omega arith))
    ∙ ap (λ t. t && starts_with nat_eq vs (y ∷ xs)) (same_number v x)

pub below_raised : (xs : List ℕ) → 0 < length xs → is_lt (order xs (prefix_end xs)) ≡ true
below_raised [] some = absurd (omega arith)
below_raised (x ∷ []) some = grind (arith, nat_tests)
below_raised (x ∷ y ∷ xs) some = ap is_lt (then_same x (order (y ∷ xs) (prefix_end (y ∷ xs)))) ∙ below_raised (y ∷ xs) (omega arith)

pub below_major : (xs : List ℕ) → 0 < length xs → is_lt (order xs (major_end xs)) ≡ true
below_major [] some = absurd (omega arith)
below_major (x ∷ []) some = grind (arith, nat_tests)
below_major (x ∷ y ∷ []) some = grind (arith, nat_tests)
below_major (x ∷ y ∷ z ∷ xs) some = grind (arith, nat_tests)

pub raised_last : (front : List ℕ) (last : ℕ) → prefix_end (front ++ last ∷ []) ≡ front ++ (last + 1) ∷ []
raised_last [] last = refl
raised_last (x ∷ []) last = refl
raised_last (x ∷ y ∷ front) last = ap (λ l. x ∷ l) (raised_last (y ∷ front) last)

pub last_number : (front : List ℕ) (last : ℕ) → IsVersion (front ++ last ∷ []) → IsNumber last
last_number [] last h = h
last_number (x ∷ []) last h = h.1
last_number (x ∷ y ∷ front) last h = last_number (y ∷ front) last h.1

-- ---- the operators

module _ (x lo hi v : Version) where
  at_copy : lo ≡ x → is_below v lo ≡ is_lt (order v.parts x.parts)
  at_copy e = ap (is_below v) e

  at_next : hi.parts ≡ x.parts ++ 0 ∷ [] → is_below v hi ≡ is_le (order v.parts x.parts)
  at_next e = ap (λ ps. is_lt (order v.parts ps)) e ∙ up_to v.parts x.parts

  pub equal_is : lo ≡ x → hi.parts ≡ x.parts ++ 0 ∷ [] → not (is_below v lo) && is_below v hi ≡ is_eq (order v.parts x.parts)
  equal_is p q = (λ i. not (at_copy p i) && at_next q i) ∙ both_eq (order v.parts x.parts)

  pub prefix_is : 0 < length x.parts → lo ≡ x → hi.parts ≡ prefix_end x.parts → not (is_below v lo) && is_below v hi ≡ starts_with nat_eq v.parts x.parts
  prefix_is some p q = (λ i. not (at_copy p i) && is_lt (order v.parts (q i))) ∙ prefix_ends v.parts x.parts some

  pub at_least_is : lo ≡ x → not (is_below v lo) ≡ is_ge (order v.parts x.parts)
  at_least_is p = ap not (at_copy p) ∙ not_lt (order v.parts x.parts)

  pub above_is : hi.parts ≡ x.parts ++ 0 ∷ [] → not (is_below v hi) ≡ is_gt (order v.parts x.parts)
  above_is q = ap not (at_next q) ∙ not_le (order v.parts x.parts)

  pub at_most_is : HasNumbers v → lo.parts ≡ 0 ∷ [] → hi.parts ≡ x.parts ++ 0 ∷ [] → not (is_below v lo) && is_below v hi ≡ is_le (order v.parts x.parts)
  at_most_is n p q = λ i. not (least lo v p n i) && at_next q i

  pub below_is : HasNumbers v → lo.parts ≡ 0 ∷ [] → hi ≡ x → not (is_below v lo) && is_below v hi ≡ is_lt (order v.parts x.parts)
  below_is n p q = λ i. not (least lo v p n i) && is_below v (q i)

  pub none_below : HasNumbers v → lo.parts ≡ 0 ∷ [] → is_below lo x ≡ false → false ≡ is_lt (order v.parts x.parts)
  none_below n p q = sym (not_below_through x lo v q (least lo v p n))

  pub major_is : lo ≡ x → hi.parts ≡ major_end x.parts → not (is_below v lo) && is_below v hi ≡ is_ge (order v.parts x.parts) && is_lt (order v.parts (major_end x.parts))
  major_is p q = λ i. (ap not (at_copy p) ∙ not_lt (order v.parts x.parts)) i && is_lt (order v.parts (q i))

pub any_is : (lo v : Version) → lo.parts ≡ 0 ∷ [] → HasNumbers v → not (is_below v lo) ≡ true
any_is lo v p n = ap not (least lo v p n)

pub rises_equal : (x lo hi : Version) → lo ≡ x → hi.parts ≡ x.parts ++ 0 ∷ [] → is_below lo hi ≡ true
rises_equal x lo hi p q = at_next x lo hi lo q ∙ ap (λ l. is_le (order l.parts x.parts)) p ∙ ap is_le (itself x.parts)

pub rises_prefix : (x lo hi : Version) → 0 < length x.parts → lo ≡ x → hi.parts ≡ prefix_end x.parts → is_below lo hi ≡ true
rises_prefix x lo hi some p q = (λ i. is_lt (order (ap (λ l. l.parts) p i) (q i))) ∙ below_raised x.parts some

pub rises_major : (x lo hi : Version) → 0 < length x.parts → lo ≡ x → hi.parts ≡ major_end x.parts → is_below lo hi ≡ true
rises_major x lo hi some p q = (λ i. is_lt (order (ap (λ l. l.parts) p i) (q i))) ∙ below_major x.parts some

pub numbers_of : (x lo : Version) → IsVersion x.parts → lo ≡ x → HasNumbers lo
numbers_of x lo h e = subst HasNumbers (sym e) (version_some x.parts h)

-- the same set by another test
pub ends_of : {E : Type 0} (answer : Result (List Version) E) (here test : Version → Bool) → IfOk answer (λ ends. are_ends ends ≡ true) → IfOk answer (λ ends. (v : Version) → inside ends v ≡ here v) → ((v : Version) → HasNumbers v → here v ≡ test v) → IfOk answer (AreEndsOf test)
ends_of (Ok ends) here test are members same = (are, λ v n. members v ∙ same v n)
ends_of (Err fault) here test are members same = tt
