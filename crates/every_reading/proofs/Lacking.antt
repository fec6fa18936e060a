-- The units that lack one are marked one by one: a unit gets a mark if it needs a marked one, until there is none
-- left.
use Rattle.std.proofs.Common.{◌≡◌, ◌⊎◌, inl, inr, ◌+◌, ◌<◌, ◌≤◌, ℕ, zero, suc, Bool, true, false, not, ◌&&◌, ◌||◌, if◌then◌else◌, List, [], ◌∷◌, length, map, refl, sym, ap, ◌∙◌, subst, arith}
use Rattle.std.specs.Prelude.{◌==◌, slice_index_or}
use Rattle.std.specs.List.{list_any}
use Rattle.std.proofs.lemmas.Bool.{and_from, and_parts, eqb-false, eqb-true, eq-eqb, false≢true, not-true, or_cases, or_left, or_right}
use Rattle.std.proofs.lemmas.List.{length-map}
use Rattle.common_laws.specs.Graphs.{IsMarked, Needs, marked_within, needs_within}
use Rattle.common_laws.specs.Lists.{any-at, any-from}
use Rattle.broken_units.specs.Leads.{ReachesMarked, here, over}
use Rattle.every_reading.proofs.CycleAnswers.{below_more}
use Rattle.index_files.specs.declared.unit.Unit.{Unit}
use Rattle.index_assembly.specs.Lacks.{AreLacking, lacks_one, needed_places}

-- ---- a search for a number that passes a test

abbrev Has : (ℕ → Bool) → ℕ → Type 0
Has test n = ((u : ℕ) × (u < n) × (test u ≡ true)) ⊎ ((u : ℕ) → u < n → test u ≡ false)

has_by : (test : ℕ → Bool) (n : ℕ) (t : Bool) → test n ≡ t → Has test n → Has test (suc n)
has_by test n t q (inl found) = let l = found.1 in inl (found.0, omega (arith, l), found.2)
has_by test n true q (inr none) = inl (n, omega arith, q)
has_by test n false q (inr none) = inr (below_more test n none q)

search_all : (test : ℕ → Bool) (n : ℕ) → Has test n
search_all test zero = inr (λ u l. absurd (omega (arith, l)))
search_all test (suc n) = has_by test n (test n) refl (search_all test n)

-- ---- marks

abbrev one_more : (ℕ → Bool) → ℕ → ℕ → Bool
one_more mark u w = (w == u) || mark w

abbrev one_unless : Bool → ℕ
one_unless marked = if marked then 0 else 1

-- the number of the first `n` without a mark
abbrev unmarked : (ℕ → Bool) → ℕ → ℕ
unmarked mark zero = 0
unmarked mark (suc n) = one_unless (mark n) + unmarked mark n

less_by : (a b : Bool) → one_unless (a || b) ≤ one_unless b
less_by true true = omega arith
less_by true false = omega arith
less_by false b = omega arith

unmarked_less : (mark : ℕ → Bool) (u n : ℕ) → unmarked (one_more mark u) n ≤ unmarked mark n
unmarked_less mark u zero = omega arith
unmarked_less mark u (suc n) = let first = less_by (n == u) (mark n) in let rest = unmarked_less mark u n in omega (arith, first, rest)

unmarked_drops : (mark : ℕ → Bool) (u n : ℕ) → u < n → mark u ≡ false → unmarked (one_more mark u) n < unmarked mark n
unmarked_drops mark u zero l new = absurd (omega (arith, l))
unmarked_drops mark u (suc n) l new = by (u == n) refl (λ lower. unmarked_drops mark u n lower new)
  where
    by : (t : Bool) → (u == n) ≡ t → (u < n → unmarked (one_more mark u) n < unmarked mark n) → unmarked (one_more mark u) (suc n) < unmarked mark (suc n)
    by true q drops =
        let same = eqb-true u n q in
        let before : one_unless (mark n) ≡ 1 = ap (λ w. one_unless (mark w)) (sym same) ∙ ap one_unless new in
        let after = ap one_unless (or_left (n == u) (mark n) (eq-eqb n u (sym same))) in
        let rest = unmarked_less mark u n in
        omega (arith, before, after, rest)
    by false q drops =
        let other = eqb-false u n q in
        let first = less_by (n == u) (mark n) in
        let rest = drops (omega (arith, other, l)) in
        omega (arith, first, rest)

abbrev table : (ℕ → Bool) → ℕ → List Bool
table mark zero = []
table mark (suc n) = mark 0 ∷ table (λ i. mark (suc i)) n

table_length : (mark : ℕ → Bool) (n : ℕ) → length (table mark n) ≡ n
table_length mark zero = refl
table_length mark (suc n) = ap suc (table_length (λ i. mark (suc i)) n)

table_at : (mark : ℕ → Bool) (n i : ℕ) → i < n → slice_index_or (table mark n) i false ≡ mark i
table_at mark zero i l = absurd (omega (arith, l))
table_at mark (suc n) zero l = refl
table_at mark (suc n) (suc i) l = table_at (λ k. mark (suc k)) n i (omega (arith, l))

module _ (needs : List (List ℕ)) (marks : List Bool) where
  abbrev IsRight : (ℕ → Bool) → Type 0
  IsRight mark = (u : ℕ) → mark u ≡ true → ReachesMarked needs marks u

  abbrev Begins : (ℕ → Bool) → Type 0
  Begins mark = (u : ℕ) → IsMarked marks u → mark u ≡ true

  abbrev Found : Type 0
  Found = (mark : ℕ → Bool) × IsRight mark × ((u : ℕ) → ReachesMarked needs marks u → mark u ≡ true)

  abbrev is_next : (ℕ → Bool) → ℕ → Bool
  is_next mark u = not (mark u) && list_any mark (slice_index_or needs u [])

  module _ (mark : ℕ → Bool) where
    module _ (begins : Begins mark) (none : (u : ℕ) → u < length needs → is_next mark u ≡ false) where
      over_marked : (u v : ℕ) → Needs needs u v → mark v ≡ true → mark u ≡ true
      over_marked u v need h = by (mark u) refl
        where
          by : (t : Bool) → mark u ≡ t → mark u ≡ true
          by true q = q
          by false q =
              let next = and_from (not (mark u)) (list_any mark (slice_index_or needs u [])) (ap not q) (any-from mark (slice_index_or needs u []) v need h) in
              absurd (false≢true (sym (none u (needs_within needs u v need)) ∙ next))

      closed : (u : ℕ) → ReachesMarked needs marks u → mark u ≡ true
      closed u (here h) = begins u h
      closed u (over v need h) = over_marked u v need (closed v h)

    module _ (right : IsRight mark) (u : ℕ) (next : is_next mark u ≡ true) where
      abbrev parts : (not (mark u) ≡ true) × (list_any mark (slice_index_or needs u []) ≡ true)
      parts = and_parts (not (mark u)) (list_any mark (slice_index_or needs u [])) next

      leads_too : ReachesMarked needs marks u
      leads_too = let found = any-at mark (slice_index_or needs u []) parts.1 in over found.0 found.1 (right found.0 found.2)

      right_more : IsRight (one_more mark u)
      right_more w h =
          elim (or_cases (w == u) (mark w) h) [
            | inl same ↦ subst (ReachesMarked needs marks) (sym (eqb-true w u same)) leads_too
            | inr marked ↦ right w marked
          ]

  grow_by : (mark : ℕ → Bool) → IsRight mark → Begins mark → Has (is_next mark) (length needs)
      → ((u : ℕ) → u < length needs → is_next mark u ≡ true → Found) → Found
  grow_by mark right begins (inl found) more = more found.0 found.1 found.2
  grow_by mark right begins (inr none) more = (mark, right, closed mark begins none)

  drops : (mark : ℕ → Bool) (right : IsRight mark) (u : ℕ) → u < length needs → is_next mark u ≡ true
      → unmarked (one_more mark u) (length needs) < unmarked mark (length needs)
  drops mark right u l next = unmarked_drops mark u (length needs) l (not-true (mark u) (parts mark right u next).0)

  grow : (fuel : ℕ) (mark : ℕ → Bool) → unmarked mark (length needs) ≤ fuel → IsRight mark → Begins mark → Found
  grow zero mark low right begins =
      grow_by mark right begins (search_all (is_next mark) (length needs)) (λ u l next. absurd (let less = drops mark right u l next in omega (arith, low, less)))
  grow (suc fuel) mark low right begins =
      grow_by mark right begins (search_all (is_next mark) (length needs))
      (λ u l next.
      let less = drops mark right u l next in
      grow fuel (one_more mark u) (omega (arith, low, less)) (right_more mark right u next)
      (λ w h. or_right (w == u) (mark w) (begins w h)))

  abbrev at_first : ℕ → Bool
  at_first u = slice_index_or marks u false

  some_marks : Found
  some_marks = grow (unmarked at_first (length needs)) at_first (omega arith) (λ u h. here h) (λ u h. h)

  within : (n : ℕ) → length needs ≡ n → length marks ≡ n → (u : ℕ) → ReachesMarked needs marks u → u < n
  within n e k u (here h) = let l = marked_within marks u h in omega (arith, k, l)
  within n e k u (over v need h) = let l = needs_within needs u v need in omega (arith, e, l)

pub some_lacking : (units : List Unit) → (lacking : List Bool) × AreLacking units lacking
some_lacking units =
    let needs = map (needed_places units) units in
    let marks = map (lacks_one units) units in
    let found = some_marks needs marks in
    let n = length units in
    let inside = within needs marks n (length-map units (needed_places units)) (length-map units (lacks_one units)) in (
      table found.0 n,
      record {
        length_is = table_length found.0 n;
        leads = λ i. (
          λ marked.
              let l = marked_within (table found.0 n) i marked in
              let is = table_length found.0 n in
              found.1 i (sym (table_at found.0 n i (omega (arith, l, is))) ∙ marked),
          λ leads. table_at found.0 n i (inside i leads) ∙ found.2 i leads,
        );
      },
    )
