-- Shared: releases of a sound package: no two places have one version.
use Rattle.std.proofs.Common.{◌≡◌, ◌<◌, ℕ, zero, suc, true, false, List, [], ◌∷◌, ◌++◌, length, map, refl, sym, ap, ◌∙◌, subst, arith}
use Rattle.std.specs.List.{AllByRecursion, Contains}
use Rattle.std.specs.List.Sorted.{IsStrictlySortedBy}
use Rattle.std.specs.declared.cmp.Ordering.TheVariants.{Less, Equal}
use Rattle.std.proofs.lemmas.Bool.{false≢true}
use Rattle.std.proofs.lemmas.Cmp.{nat_list_cmp_total, tied_itself}
use Rattle.std.proofs.lemmas.List.{get_or_append_left}
use Rattle.std.proofs.lemmas.List.Elements.{Contains-get_or}
use Rattle.common_laws.specs.Lists.{contains-filter}
use Rattle.plan_types.specs.Members.{order}
use Rattle.plan_types.specs.Packages.{is_installed}
use Rattle.plan_types.specs.declared.index.Entry.{Entry}
use Rattle.plan_types.specs.declared.index.Package.{Package}
use Rattle.flatten.specs.Sound.{IsInOrder, releases, units}
use Rattle.solver_index.specs.Places.{entry_at, no_entry}

abbrev numbers : Entry → List ℕ
numbers e = e.instance.version.parts

not-less : (x y : List ℕ) → x ≡ y → order x y ≡ Less → ⊥
not-less x y same less = let both : Less ≡ Equal = sym less ∙ ap (order x) (sym same) ∙ tied_itself nat_list_cmp_total x in cc both

-- what stands behind a version is above it
above-at : (x : List ℕ) (es : List Entry) (i : ℕ) → AllByRecursion (λ y. order x y ≡ Less) (map numbers es) → i < length es → order x (numbers (entry_at es i)) ≡ Less
above-at x [] i h lt = absurd (omega (arith, lt))
above-at x (e ∷ es) zero h lt = h.0
above-at x (e ∷ es) (suc i) h lt = above-at x es i h.1 (omega (arith, lt))

-- in a list that rises a version stands at one place
one-place : (es : List Entry) (i j : ℕ) → IsStrictlySortedBy order (map numbers es) → i < length es → j < length es → numbers (entry_at es i) ≡ numbers (entry_at es j) → i ≡ j
unfolding IsStrictlySortedBy
one-place [] i j h first second same = absurd (omega (arith, first))
one-place (e ∷ es) zero zero h first second same = refl
one-place (e ∷ es) zero (suc j) h first second same = absurd (not-less (numbers e) (numbers (entry_at es j)) same (above-at (numbers e) es j h.0 (omega (arith, second))))
one-place (e ∷ es) (suc i) zero h first second same = absurd (not-less (numbers e) (numbers (entry_at es i)) (sym same) (above-at (numbers e) es i h.0 (omega (arith, first))))
one-place (e ∷ es) (suc i) (suc j) h first second same = ap suc (one-place es i j h.1 (omega (arith, first)) (omega (arith, second)) same)

-- what isn't installed stands before all units
source-place : (front rest : List Entry) (i : ℕ) → ((e : Entry) → Contains rest e → is_installed e.body ≡ true) → i < length (front ++ rest)
    → is_installed (entry_at (front ++ rest) i).body ≡ false → i < length front
source-place [] rest i are lt source = absurd (false≢true (sym source ∙ are (entry_at rest i) (Contains-get_or rest i no_entry lt)))
source-place (e ∷ front) rest zero are lt source = omega arith
source-place (e ∷ front) rest (suc i) are lt source = let inner = source-place front rest i are (omega (arith, lt)) source in omega (arith, inner)

-- two sources with one version stand at one place
pub one-release : (p : Package) → IsInOrder p → (i j : ℕ) → i < length p.entries → j < length p.entries
    → is_installed (entry_at p.entries i).body ≡ false → is_installed (entry_at p.entries j).body ≡ false
    → (entry_at p.entries i).instance.version.parts ≡ (entry_at p.entries j).instance.version.parts → i ≡ j
one-release p is i j =
    let front = releases p in
    let rest = units p in
    let installed : (e : Entry) → Contains rest e → is_installed e.body ≡ true = λ e h. (contains-filter (λ (f : Entry). is_installed f.body) p.entries e h).1 in
    subst (λ es. i < length es → j < length es → is_installed (entry_at es i).body ≡ false → is_installed (entry_at es j).body ≡ false
    → numbers (entry_at es i) ≡ numbers (entry_at es j) → i ≡ j) (sym is.releases_first)
    (λ first second source other same.
    let below = source-place front rest i installed first source in
    let next = source-place front rest j installed second other in
    one-place front i j is.versions_rise below next
    (ap numbers (sym (get_or_append_left front rest no_entry i below)) ∙ same ∙ ap numbers (get_or_append_left front rest no_entry j next)))
