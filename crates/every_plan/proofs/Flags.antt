-- Names in byte order, each once.
use Rattle.std.proofs.Common.{◌≡◌, Bool, true, false, ◌||◌, List, [], ◌∷◌, refl, sym, ap, ◌∙◌, Ordering, Less, Equal, Greater}
use Rattle.std.specs.Cmp.Lexicographic.{slice_cmp}
use Rattle.std.specs.List.{AllByRecursion}
use Rattle.std.specs.List.Sorted.{IsStrictlySortedBy}
use Rattle.std.specs.Ordering.{nat_cmp, ordering_reverse}
use Rattle.std.proofs.lemmas.Cmp.{nat_list_cmp_total}
use Rattle.std.proofs.lemmas.Map.Lookups.{exact_bytes}
use Rattle.plan_types.specs.Bytes.{same_text}
use Rattle.plan_types.specs.declared.index.Package.{Package}
use Rattle.qualified_goals.specs.Names.{AreNumbers, Name, NameTable, flag_names, is_listed, package_names}
use Rattle.common_laws.specs.Each.{each-then}

abbrev cmp : Name → Name → Ordering
cmp = slice_cmp nat_cmp

abbrev by_order : Ordering → Name → Name → List Name → List Name → List Name
by_order Less name x xs more = name ∷ x ∷ xs
by_order Equal name x xs more = x ∷ xs
by_order Greater name x xs more = x ∷ more

abbrev add : Name → List Name → List Name
add name [] = name ∷ []
add name (x ∷ xs) = by_order (cmp name x) name x xs (add name xs)

each_by : (P : Name → Type 0) (o : Ordering) (name x : Name) (xs more : List Name) → P name → AllByRecursion P (x ∷ xs) → AllByRecursion P more → AllByRecursion P (by_order o name x xs more)
each_by P Less name x xs more h all rest = (h, all)
each_by P Equal name x xs more h all rest = all
each_by P Greater name x xs more h all rest = (all.0, rest)

each_add : (P : Name → Type 0) (name : Name) (xs : List Name) → P name → AllByRecursion P xs → AllByRecursion P (add name xs)
each_add P name [] h all = (h, tt)
each_add P name (x ∷ xs) h all = each_by P (cmp name x) name x xs (add name xs) h all (each_add P name xs h all.1)

rises_by : (o : Ordering) (name x : Name) (xs : List Name) → cmp name x ≡ o → IsStrictlySortedBy cmp (x ∷ xs) → IsStrictlySortedBy cmp (add name xs)
    → IsStrictlySortedBy cmp (by_order o name x xs (add name xs))
unfolding IsStrictlySortedBy
rises_by Less name x xs e rises more =
    ((e, each-then (λ y. cmp x y ≡ Less) (λ y. cmp name y ≡ Less) xs (λ y less. nat_list_cmp_total.trans name x y e less) rises.0), rises)
rises_by Equal name x xs e rises more = rises
rises_by Greater name x xs e rises more =
    (each_add (λ y. cmp x y ≡ Less) name xs (nat_list_cmp_total.antisymm x name ∙ ap ordering_reverse e) rises.0, more)

rises_add : (name : Name) (xs : List Name) → IsStrictlySortedBy cmp xs → IsStrictlySortedBy cmp (add name xs)
unfolding IsStrictlySortedBy
rises_add name [] rises = (tt, tt)
rises_add name (x ∷ xs) rises = rises_by (cmp name x) name x xs refl rises (rises_add name xs rises.1)

twice : (a b : Bool) → (a || b) ≡ (a || (a || b))
twice true b = refl
twice false b = refl

swapped : (a b c : Bool) → (a || (b || c)) ≡ (b || (a || c))
swapped true true c = refl
swapped true false c = refl
swapped false true c = refl
swapped false false c = refl

listed_by : (o : Ordering) (name x : Name) (xs : List Name) (m : Name) → cmp name x ≡ o → is_listed (add name xs) m ≡ (same_text m name || is_listed xs m)
    → is_listed (by_order o name x xs (add name xs)) m ≡ (same_text m name || is_listed (x ∷ xs) m)
listed_by Less name x xs m e more = refl
listed_by Equal name x xs m e more =
    twice (same_text m x) (is_listed xs m) ∙ ap (λ y. same_text m y || (same_text m x || is_listed xs m)) (sym (exact_bytes name x e))
listed_by Greater name x xs m e more = ap (λ b. same_text m x || b) more ∙ swapped (same_text m x) (same_text m name) (is_listed xs m)

listed_add : (name : Name) (xs : List Name) (m : Name) → is_listed (add name xs) m ≡ (same_text m name || is_listed xs m)
listed_add name [] m = refl
listed_add name (x ∷ xs) m = listed_by (cmp name x) name x xs m refl (listed_add name xs m)

abbrev all_added : List Name → List Name
all_added [] = []
all_added (name ∷ names) = add name (all_added names)

all_rise : (names : List Name) → IsStrictlySortedBy cmp (all_added names)
unfolding IsStrictlySortedBy
all_rise [] = tt
all_rise (name ∷ names) = rises_add name (all_added names) (all_rise names)

all_listed : (names : List Name) (m : Name) → is_listed (all_added names) m ≡ is_listed names m
all_listed [] m = refl
all_listed (name ∷ names) m = listed_add name (all_added names) m ∙ ap (λ b. same_text m name || b) (all_listed names m)

pub some_numbers : (packages : List Package) → (names : NameTable) × AreNumbers packages names
some_numbers packages = (
  record { packages = package_names packages; flags = all_added (flag_names packages) },
  record { packages_are = refl; flags_rise = all_rise (flag_names packages); flags_are = all_listed (flag_names packages) },
)
