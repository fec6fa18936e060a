-- The closure is unique: a reached name is in every closure, so two closures have the same names. A part of the closure
-- has no more files than the whole.
use Rattle.std.proofs.Common.{◌≡◌, ℕ, ◌+◌, ◌≤◌, Bool, true, false, inl, inr, List, [], ◌∷◌, ◌++◌, map, refl, sym, ◌∙◌, ap, subst, arith}
use Rattle.std.specs.Prelude.{flat_map}
use Rattle.std.specs.List.{AllByRecursion, IsDistinct, list_all}
use Rattle.std.specs.Cmp.Lexicographic.{bytes_decides}
use Rattle.std.proofs.lemmas.Bool.{and_parts, false≢true, or_cases}
use Rattle.std.proofs.lemmas.List.Sums.{sum_by-append}
use Rattle.outside_folder.specs.Files.{Bytes, Files}
use Rattle.index_files.specs.Closure.{Ground, IsBeyond, IsClosure, IsPart, IsReached, IsVisit, Visit, by_name, found_of, mentioned, names_of, root, roots, visited_files}
use Rattle.index_files.specs.File.{count_all, count_of, size_all, size_of}
use Rattle.index_files.specs.Names.{is_listed}
use Rattle.index_files.specs.Totals.{is_too_many}
use Rattle.package_index.proofs.Outcomes.{HasOneSource}
use Rattle.package_index.proofs.Taken.{IsIn, Leaves, at-in, left-count, taken, taken-all}
use Rattle.package_index.proofs.Visits.{has-versions, one-visit, same-dirs}
use Rattle.plan_types.specs.Bytes.{same_text}
use Rattle.index_files.proofs.FileTotals.{more_is_too_many}

-- ---- members

all-in : {X : Type 0} (p : X → Bool) (xs : List X) (x : X) → list_all p xs ≡ true → IsIn xs x → p x ≡ true
all-in p [] x h i = absurd i
all-in p (y ∷ xs) x h (inl e) = ap p e ∙ (and_parts (p y) (list_all p xs) h).0
all-in p (y ∷ xs) x h (inr i) = all-in p xs x (and_parts (p y) (list_all p xs) h).1 i

-- a member of a subset is in the set
listed-there : (names xs : List Bytes) (name : Bytes) → list_all (is_listed names) xs ≡ true → is_listed xs name ≡ true → is_listed names name ≡ true
listed-there names [] name h k = absurd (false≢true k)
listed-there names (x ∷ xs) name h k =
    let all = and_parts (is_listed names x) (list_all (is_listed names) xs) h in
    elim (or_cases (same_text name x) (is_listed xs name) k) [
      | inl e ↦ ap (is_listed names) ((bytes_decides name x).0 e) ∙ all.0
      | inr i ↦ listed-there names xs name all.1 i
    ]

-- a listed name has a visit
visit-listed : (visits : List Visit) (name : Bytes) → is_listed (names_of visits) name ≡ true → (visit : Visit) × IsIn visits visit × (name ≡ visit.name)
visit-listed [] name h = absurd (false≢true h)
visit-listed (v ∷ visits) name h = elim (or_cases (same_text name v.name) (is_listed (names_of visits) name) h) [
  | inl e ↦ (v, inl refl, (bytes_decides name v.name).0 e)
  | inr i ↦ let f = visit-listed visits name i in (f.0, inr f.1, f.2)
]

-- ---- visits without their releases

abbrev bare : Visit → Visit
bare v = record { name = v.name; dirs = v.dirs; releases = [] }

bare-in : (visits : List Visit) (v : Visit) → IsIn visits v → IsIn (map bare visits) (bare v)
bare-in [] v i = absurd i
bare-in (w ∷ visits) v (inl e) = inl (ap bare e)
bare-in (w ∷ visits) v (inr i) = inr (bare-in visits v i)

from-bare : (visits : List Visit) (b : Visit) → IsIn (map bare visits) b → (v : Visit) × IsIn visits v × (b ≡ bare v)
from-bare [] b i = absurd i
from-bare (v ∷ visits) b (inl e) = (v, inl refl, e)
from-bare (v ∷ visits) b (inr i) = let f = from-bare visits b i in (f.0, inr f.1, f.2)

bare-names : (visits : List Visit) → names_of (map bare visits) ≡ names_of visits
bare-names [] = refl
bare-names (v ∷ visits) = ap (λ names. v.name ∷ names) (bare-names visits)

-- ---- counts

module _ {R : Type 0} (reads : Visit → List R) (bare-reads : (v : Visit) → reads (bare v) ≡ reads v) where
  bare-all : (visits : List Visit) → flat_map reads (map bare visits) ≡ flat_map reads visits
  bare-all [] = refl
  bare-all (v ∷ visits) = λ i. bare-reads v i ++ bare-all visits i

  -- a part, each visit once, has no more files than the whole
  part-counts : (count : List R → ℕ) → count [] ≡ 0 → ((a b : List R) → count (a ++ b) ≡ count a + count b) → (parts visits : List Visit) → IsDistinct same_text (names_of parts)
      → ((z : Visit) → IsIn (map bare parts) z → IsIn (map bare visits) z) → count (flat_map reads parts) ≤ count (flat_map reads visits)
  part-counts count none add parts visits once there =
      let t = taken (λ (v : Visit). v.name) (map bare parts) (map bare visits) (subst (IsDistinct same_text) (sym (bare-names parts)) once) there in
      let c = left-count reads count add (map bare parts) (map bare visits) t.0 none t.1 in
      let a = ap count (bare-all parts) in
      let b = ap count (bare-all visits) in
      omega (arith, a, b, c)

module _ (one_source : HasOneSource) (ground : Ground) (files : Files) where
  -- ---- reached names

  module _ (visits : List Visit) (closure : IsClosure ground files visits) where
    mentioned-there : (v : Visit) (name : Bytes) → IsIn visits v → is_listed (mentioned ground (found_of v)) name ≡ true → is_listed (names_of visits) name ≡ true
    mentioned-there v name i h =
        listed-there (names_of visits) (mentioned ground (found_of v)) name
        (all-in (λ (w : Visit). list_all (is_listed (names_of visits)) (mentioned ground (found_of w))) visits v closure.closed i) h

    reached-there : (name : Bytes) → IsReached ground files name → is_listed (names_of visits) name ≡ true
    reached-there n (root name h) = listed-there (names_of visits) (roots ground) name closure.begun h
    reached-there n (by_name visit name r v h) =
        let f = visit-listed visits visit.name (reached-there visit.name r) in
        let one = one-visit ground files one_source visit f.0 f.2 v (at-in (IsVisit ground files) visits f.0 closure.read f.1) in
        mentioned-there f.0 name f.1 (ap (λ w. is_listed (mentioned ground (found_of w)) name) (sym one) ∙ h)

    -- a reached name has its visit in the closure
    visit-there : (v : Visit) → IsReached ground files v.name → IsVisit ground files v → IsIn visits v
    visit-there v r h =
        let f = visit-listed visits v.name (reached-there v.name r) in
        let one = one-visit ground files one_source v f.0 f.2 h (at-in (IsVisit ground files) visits f.0 closure.read f.1) in
        subst (IsIn visits) (sym one) f.1

    -- the versions of a part are those in the closure
    part-there : (v : Visit) → IsPart ground files v → IsIn (map bare visits) (bare v)
    part-there v p =
        let f = visit-listed visits v.name (reached-there v.name p.reached) in
        let dirs = same-dirs ground files v f.0 f.2 p.versions (has-versions ground files f.0 (at-in (IsVisit ground files) visits f.0 closure.read f.1)) in
        subst (IsIn (map bare visits)) (λ i. record { name = sym f.2 i; dirs = sym dirs i; releases = [] }) (bare-in visits f.0 f.1)

    parts-there : (parts : List Visit) → AllByRecursion (IsPart ground files) parts → (z : Visit) → IsIn (map bare parts) z → IsIn (map bare visits) z
    parts-there parts all z i =
        let f = from-bare parts z i in
        subst (IsIn (map bare visits)) (sym f.2) (part-there f.0 (at-in (IsPart ground files) parts f.0 all f.1))

  -- ---- outcomes

  -- if a part of the closure has too many files, the whole has
  part-too-many : (count size : ℕ) → IsBeyond ground count size files → (visits : List Visit) → IsClosure ground files visits
      → is_too_many (count + count_all (flat_map (visited_files ground files) visits)) (size + size_all (flat_map (visited_files ground files) visits)) ≡ true
  part-too-many count size beyond visits closure =
      let parts = beyond.parts in
      let there = parts-there visits closure parts beyond.inside in
      let c = part-counts (visited_files ground files) (λ v. refl) count_all refl (sum_by-append count_of) parts visits beyond.once there in
      let s = part-counts (visited_files ground files) (λ v. refl) size_all refl (sum_by-append size_of) parts visits beyond.once there in
      let some = flat_map (visited_files ground files) parts in
      let all = flat_map (visited_files ground files) visits in
      more_is_too_many (count + count_all some) (size + size_all some) (count + count_all all) (size + size_all all) (omega (arith, c)) (omega (arith, s)) beyond.many

  visits-there : (visits : List Visit) → IsClosure ground files visits → (others : List Visit) → IsClosure ground files others → (v : Visit) → IsIn others v → IsIn visits v
  visits-there visits closure others other v i =
      visit-there visits closure v (at-in (λ (w : Visit). IsReached ground files w.name) others v other.reached i) (at-in (IsVisit ground files) others v other.read i)

  -- two closures differ only in the order of their names
  pub one-closure : (visits others : List Visit) → IsClosure ground files visits → IsClosure ground files others → Leaves visits others []
  one-closure visits others closure other =
      taken-all (λ (v : Visit). v.name) visits others closure.once other.once
      (visits-there others other visits closure) (visits-there visits closure others other)

  -- a closure that was read hasn't too many files
  pub never-beyond : {A : Type 0} (count size : ℕ) → IsBeyond ground count size files → (visits : List Visit) → IsClosure ground files visits
      → is_too_many (count + count_all (flat_map (visited_files ground files) visits)) (size + size_all (flat_map (visited_files ground files) visits)) ≡ false → A
  never-beyond count size beyond visits closure few = absurd (false≢true (sym few ∙ part-too-many count size beyond visits closure))
