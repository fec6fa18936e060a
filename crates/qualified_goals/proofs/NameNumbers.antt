-- Shared: sets of names built by insertion, and the goal order by numbers.
use Rattle.std.proofs.Common.{◌≡◌, ℕ, ◌<◌, Bool, true, false, cond, ◌||◌, List, [], ◌∷◌, ◌++◌, ◌+◌, length, map, fold, take, get_or, refl, sym, ap, ◌∙◌, subst, append_assoc, append-nil, if◌then◌else◌, inl, inr}
use Rattle.std.specs.List.{list_any, dedup, dedup_from, AllByRecursion, IsDistinct}
use Rattle.std.specs.List.Sorted.{IsSorted, IsStrictlySortedBy}
use Rattle.std.specs.Cmp.{IsTotalOrder, nat_cmp_is}
use Rattle.std.specs.Cmp.Lexicographic.{slice_cmp, nat_list_eq_equiv, texts_ties}
use Rattle.std.specs.Ordering.{nat_cmp, ordering_then, ordering_reverse}
use Rattle.std.specs.declared.cmp.Ordering.{Ordering}
use Rattle.std.specs.declared.cmp.Ordering.TheVariants.{Less, Equal, Greater}
use Rattle.std.proofs.lemmas.Cmp.{nat_cmp_total, nat_list_cmp_total, on_total, then_total, tied_itself}
use Rattle.std.proofs.lemmas.Bool.{cases_order}
use Rattle.std.proofs.Math.Bool.{or-false}
use Rattle.std.proofs.lemmas.List.{length-map, map-append, take_more}
use Rattle.std.proofs.lemmas.Grind.{fold-append}
use Rattle.std.proofs.lemmas.List.Folds.{list_any-append}
use Rattle.std.proofs.lemmas.List.Kept.{IsStrictlySortedBy-dedup}
use Rattle.std.proofs.lemmas.Map.Keys.{IsDistinct-head, IsDistinct-tail, Less-from_sorted}
use Rattle.indexmap.specs.IndexSet.{insert_key}
use Rattle.plan_types.specs.declared.index.Package.{Package}
use Rattle.qualified_goals.specs.declared.variable.Qual.{Qual}
use Rattle.qualified_goals.specs.declared.variable.Qual.TheVariants.{Top, Setup, Exe}
use Rattle.qualified_goals.specs.declared.variable.Part.{Part}
use Rattle.qualified_goals.specs.declared.variable.Part.TheVariants.{Package as ThePackage, Flag, Tests, Benches}
use Rattle.qualified_goals.specs.Variable.{qual_cmp, part_cmp}
use Rattle.qualified_goals.specs.Names.{Name, NameTable, is_listed, class_of, package_cmp, by_package, by_flag, qual_order, part_order, HasQual, HasPart, AreNumbers, IsGoalOrder}
use Rattle.plan_types.specs.Bytes.{same_text}
use Rattle.common_laws.specs.Small.{or-last}
use Rattle.plan_types.specs.Packages.{no_package}

-- in a list of distinct names, a name isn't among those before it
none-before : (names : List Name) (name : Name) (more : List Name) → IsDistinct same_text (names ++ name ∷ more) → list_any (same_text name) names ≡ false
none-before [] name more h = refl
none-before (n ∷ names) name more h =
    let first = at-end names name more (IsDistinct-head same_text n (names ++ name ∷ more) h) in
    ap (λ b. b || list_any (same_text name) names) (nat_list_eq_equiv.symm name n ∙ first) ∙ none-before names name more (IsDistinct-tail same_text n (names ++ name ∷ more) h)
  where
    at-end : (ns : List Name) (m : Name) (more : List Name) → AllByRecursion (λ y. same_text n y ≡ false) (ns ++ m ∷ more) → same_text n m ≡ false
    at-end [] m more h = h.0
    at-end (x ∷ ns) m more h = at-end ns m more h.1

-- inserting distinct names appends them
put-all : (names more : List Name) → IsDistinct same_text (names ++ more) → fold (insert_key same_text) names more ≡ names ++ more
put-all names [] h = sym (append-nil names)
put-all names (n ∷ more) h =
    let fresh = none-before names n more h in
    ap (λ b. fold (insert_key same_text) (if b then names else names ++ n ∷ []) more) fresh
    ∙ put-all (names ++ n ∷ []) more (subst (IsDistinct same_text) (sym (append_assoc names (n ∷ []) more)) h)
    ∙ append_assoc names (n ∷ []) more

pub distinct-kept : (names : List Name) → IsDistinct same_text names → fold (insert_key same_text) [] names ≡ names
distinct-kept names h = put-all [] names h

-- sorted distinct names are strictly sorted

kept-from : (name : Name) (names : List Name) → IsDistinct same_text (name ∷ names) → dedup_from same_text name names ≡ name ∷ names
kept-from name [] h = refl
kept-from name (n ∷ names) h =
    let differ : same_text n name ≡ false = nat_list_eq_equiv.symm n name ∙ (IsDistinct-head same_text name (n ∷ names) h).0 in
    ap (λ b. cond b (dedup_from same_text name names) (name ∷ dedup_from same_text n names)) differ
    ∙ ap (λ ns. name ∷ ns) (kept-from n names (IsDistinct-tail same_text name (n ∷ names) h))

kept : (names : List Name) → IsDistinct same_text names → dedup same_text names ≡ names
kept [] h = refl
kept (n ∷ names) h = kept-from n names h

pub sorted-rise : (names : List Name) → IsSorted (slice_cmp nat_cmp) names → IsDistinct same_text names → IsStrictlySortedBy (slice_cmp nat_cmp) names
sorted-rise names sorted distinct = subst (IsStrictlySortedBy (slice_cmp nat_cmp)) (kept names distinct) (IsStrictlySortedBy-dedup nat_list_cmp_total texts_ties names sorted)

-- insertion keeps the set of names

or-turn : (a b c : Bool) → ((a || b) || c) ≡ (b || (a || c))
or-turn true true c = refl
or-turn true false c = refl
or-turn false true c = refl
or-turn false false c = refl

same-listed : (k q : Name) (names : List Name) → same_text q k ≡ true → is_listed names q ≡ is_listed names k
same-listed k q [] h = refl
same-listed k q (n ∷ names) h = ap (λ b. b || is_listed names q) (nat_list_eq_equiv.congr q k n h) ∙ ap (λ b. same_text k n || b) (same-listed k q names h)

listed-insert : (names : List Name) (k q : Name) → is_listed (insert_key same_text names k) q ≡ (same_text q k || is_listed names q)
listed-insert names k q =
    elim (is_listed names k) as (λ b. is_listed names k ≡ b → is_listed (if b then names else names ++ k ∷ []) q ≡ (same_text q k || is_listed names q)) [
      | true ↦ λ e. elim (same_text q k) as (λ c. same_text q k ≡ c → is_listed names q ≡ (c || is_listed names q)) [
        | true ↦ λ f. same-listed k q names f ∙ e
        | false ↦ λ f. refl
      ] refl
      | false ↦ λ e. list_any-append (same_text q) names (k ∷ []) ∙ or-last (is_listed names q) (same_text q k)
    ] refl

listed-all : (names more : List Name) (q : Name) → is_listed (fold (insert_key same_text) names more) q ≡ (is_listed names q || is_listed more q)
listed-all names [] q = sym (or-false (is_listed names q))
listed-all names (n ∷ more) q =
    listed-all (insert_key same_text names n) more q
    ∙ ap (λ b. b || is_listed more q) (listed-insert names n q)
    ∙ or-turn (same_text q n) (is_listed names q) (is_listed more q)

pub names-stay : (names : List Name) (q : Name) → is_listed (fold (insert_key same_text) [] names) q ≡ is_listed names q
names-stay names q = listed-all [] names q

-- in a strictly sorted list, the order of places is the order of items

place-order : {K : Type 0} (R : K → K → Ordering) → IsTotalOrder R → (xs : List K) → IsStrictlySortedBy R xs → (d : K) (i j : ℕ) → i < length xs → j < length xs → nat_cmp i j ≡ R (get_or xs i d) (get_or xs j d)
place-order R total xs sorted d i j hi hj = elim (cases_order i j) [
  | inl e ↦ sym (nat_cmp_is i j Equal e) ∙ sym (tied_itself total (get_or xs i d)) ∙ ap (λ k. R (get_or xs i d) (get_or xs k d)) e
  | inr r ↦ elim r [
    | inl less ↦ sym (nat_cmp_is i j Less less) ∙ sym (Less-from_sorted R xs i j d sorted less hj)
    | inr more ↦ sym (nat_cmp_is i j Greater more) ∙ sym (total.antisymm (get_or xs i d) (get_or xs j d) ∙ ap ordering_reverse (Less-from_sorted R xs j i d sorted more hi))
  ]
]

pub package_cmp_total : IsTotalOrder package_cmp
package_cmp_total = then_total (on_total class_of nat_cmp_total) (on_total (λ (p : Package). p.name) nat_list_cmp_total)

module _ (packages : List Package) (names : NameTable) (sorted : IsStrictlySortedBy package_cmp packages) (are : AreNumbers packages names) where
  as-package : (p : ℕ) → p < length names.packages → p < length packages
  as-package p h = subst (λ n. p < n) (ap length are.packages_are ∙ length-map packages (λ (q : Package). q.name)) h

  by-package : (p q : ℕ) → p < length names.packages → q < length names.packages → nat_cmp p q ≡ by_package packages p q
  by-package p q hp hq = place-order package_cmp package_cmp_total packages sorted no_package p q (as-package p hp) (as-package q hq)

  by-flag : (f g : ℕ) → f < length names.flags → g < length names.flags → nat_cmp f g ≡ by_flag names.flags f g
  by-flag f g hf hg = place-order (slice_cmp nat_cmp) nat_list_cmp_total names.flags are.flags_rise [] f g hf hg

  by-qual : (q r : Qual) → HasQual names q → HasQual names r → qual_cmp q r ≡ qual_order packages q r
  by-qual Top Top h k = refl
  by-qual Top (Setup q) h k = refl
  by-qual Top (Exe q u) h k = refl
  by-qual (Setup p) Top h k = refl
  by-qual (Setup p) (Setup q) h k = by-package p q h k
  by-qual (Setup p) (Exe q u) h k = refl
  by-qual (Exe p t) Top h k = refl
  by-qual (Exe p t) (Setup q) h k = refl
  by-qual (Exe p t) (Exe q u) h k = ap (λ o. ordering_then o (nat_cmp t u)) (by-package p q h.0 k.0) ∙ ap (ordering_then (by_package packages p q)) (by-package t u h.1 k.1)

  by-part : (q r : Part) → HasPart names q → HasPart names r → part_cmp q r ≡ part_order names.flags q r
  by-part ThePackage ThePackage h k = refl
  by-part ThePackage (Flag g) h k = refl
  by-part ThePackage Tests h k = refl
  by-part ThePackage Benches h k = refl
  by-part (Flag f) ThePackage h k = refl
  by-part (Flag f) (Flag g) h k = by-flag f g h k
  by-part (Flag f) Tests h k = refl
  by-part (Flag f) Benches h k = refl
  by-part Tests ThePackage h k = refl
  by-part Tests (Flag g) h k = refl
  by-part Tests Tests h k = refl
  by-part Tests Benches h k = refl
  by-part Benches ThePackage h k = refl
  by-part Benches (Flag g) h k = refl
  by-part Benches Tests h k = refl
  by-part Benches Benches h k = refl

  pub goal-order : IsGoalOrder packages names
  goal-order v w hv hw =
      ap (λ o. ordering_then o (ordering_then (nat_cmp v.«package» w.«package») (part_cmp v.part w.part))) (by-qual v.qual w.qual hv.qual_is hw.qual_is)
      ∙ ap (λ o. ordering_then (qual_order packages v.qual w.qual) (ordering_then o (part_cmp v.part w.part))) (by-package v.«package» w.«package» hv.package_is hw.package_is)
      ∙ ap (λ o. ordering_then (qual_order packages v.qual w.qual) (ordering_then (by_package packages v.«package» w.«package») o)) (by-part v.part w.part hv.part_is hw.part_is)

-- one more name is inserted
pub put-one : {X : Type 0} (name : X → Name) (start : List Name) (xs : List X) (i : ℕ) (x : X) (before after : List Name) (n : Name)
    → i < length xs → x ≡ get_or xs i x → n ≡ name x → before ≡ fold (insert_key same_text) start (map name (take i xs)) → after ≡ insert_key same_text before n
    → after ≡ fold (insert_key same_text) start (map name (take (i + 1) xs))
put-one name start xs i x before after n within at is so_far put =
    put ∙ ap (λ m. insert_key same_text before m) (is ∙ ap name at) ∙ ap (λ ns. insert_key same_text ns (name (get_or xs i x))) so_far
    ∙ sym (ap (λ ys. fold (insert_key same_text) start (map name ys)) (take_more xs i x within) ∙ ap (fold (insert_key same_text) start) (map-append name (take i xs) (get_or xs i x ∷ [])) ∙ fold-append (insert_key same_text) start (map name (take i xs)) (name (get_or xs i x) ∷ []))
