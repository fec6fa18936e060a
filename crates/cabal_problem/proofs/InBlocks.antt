-- In a sound index the instances of each package are in blocks.
use Rattle.std.proofs.Common.{◌≡◌, zero, suc, Bool, true, false, not, List, [], ◌∷◌, ◌++◌, map, refl, sym, ap, ◌∙◌, subst}
use Rattle.std.specs.List.{AllByRecursion, Contains}
use Rattle.std.specs.List.Sorted.{IsStrictlySortedBy}
use Rattle.std.specs.declared.cmp.Ordering.{Ordering}
use Rattle.std.specs.declared.cmp.Ordering.TheVariants.{Less, Equal, Greater}
use Rattle.std.specs.Ordering.{is_lt, nat_cmp, ordering_reverse, ordering_then}
use Rattle.std.specs.Cmp.{IsTotalOrder}
use Rattle.std.specs.Cmp.Lexicographic.{on_texts, slice_cmp}
use Rattle.std.proofs.lemmas.Bool.{false≢true, not-true}
use Rattle.plan_types.specs.Members.{order}
use Rattle.plan_types.specs.declared.condition.Env.{Env}
use Rattle.plan_types.specs.declared.index.Entry.{Entry}
use Rattle.plan_types.specs.declared.index.Index.{Index}
use Rattle.plan_types.specs.declared.index.Package.{Package}
use Rattle.plan_types.specs.declared.version.Version.{Version}
use Rattle.version_range.proofs.RisingEnds.{not_below_back}
use Rattle.flatten.specs.Sound.{IsInOrder, IsPackage, IsSound, releases, unit_order, units}
use Rattle.common_laws.specs.Lists.{contains-filter, contains-head, contains-tail}
use Rattle.solver_index.specs.Blocks.{AllAreInBlocks, AreInBlocks, MayFollow}
use Rattle.cabal_problem.proofs.Findings.{each-at}
use Rattle.common_laws.specs.Each.{each-append}
use Rattle.plan_types.specs.Packages.{is_installed}

abbrev AreOf : Bool → List Entry → Type 0
AreOf kind entries = (e : Entry) → Contains entries e → is_installed e.body ≡ kind

tail-of : (kind : Bool) (e : Entry) (entries : List Entry) → AreOf kind (e ∷ entries) → AreOf kind entries
tail-of kind e entries h f k = h f (contains-tail e entries f k)

-- ---- one kind

-- a release may follow one with a lower version
release-follows : (a b : Entry) → is_installed a.body ≡ false → order a.instance.version.parts b.instance.version.parts ≡ Less → MayFollow a b
release-follows a b source less = (λ h. absurd (false≢true (sym source ∙ h)), λ same. not_below_back a.instance.version b.instance.version (ap is_lt less))

total : IsTotalOrder (λ (v w : Version). order v.parts w.parts)
total = on_texts (λ (v : Version). v.parts)

not-later : (o p : Ordering) → ordering_then o p ≡ Less → is_lt (ordering_reverse o) ≡ false
not-later Less p h = refl
not-later Equal p h = refl
not-later Greater p h = absurd (cc h)

-- a unit may follow one with the same or a lower version
unit-follows : (a b : Entry) → is_installed b.body ≡ true → unit_order a b ≡ Less → MayFollow a b
unit-follows a b unit less =
    let v = a.instance.version in
    let w = b.instance.version in
    (λ h. unit, λ same. ap is_lt (total.antisymm w v) ∙ not-later (order v.parts w.parts) (slice_cmp nat_cmp a.instance.unit b.instance.unit) less)

releases-behind : (a : Entry) (entries : List Entry) → is_installed a.body ≡ false → AllByRecursion (λ y. order a.instance.version.parts y ≡ Less) (map (λ (e : Entry). e.instance.version.parts) entries)
    → AllByRecursion (MayFollow a) entries
releases-behind a [] source h = tt
releases-behind a (e ∷ entries) source h = (release-follows a e source h.0, releases-behind a entries source h.1)

units-behind : (a : Entry) (entries : List Entry) → AreOf true entries → AllByRecursion (λ e. unit_order a e ≡ Less) entries → AllByRecursion (MayFollow a) entries
units-behind a [] are h = tt
units-behind a (e ∷ entries) are h = (unit-follows a e (are e (contains-head e entries)) h.0, units-behind a entries (tail-of true e entries are) h.1)

releases-in-blocks : (entries : List Entry) → AreOf false entries → IsStrictlySortedBy order (map (λ (e : Entry). e.instance.version.parts) entries) → AreInBlocks entries
unfolding IsStrictlySortedBy
releases-in-blocks [] are h = tt
releases-in-blocks (e ∷ entries) are h = (releases-behind e entries (are e (contains-head e entries)) h.0, releases-in-blocks entries (tail-of false e entries are) h.1)

units-in-blocks : (entries : List Entry) → AreOf true entries → IsStrictlySortedBy unit_order entries → AreInBlocks entries
unfolding IsStrictlySortedBy
units-in-blocks [] are h = tt
units-in-blocks (e ∷ entries) are h = (units-behind e entries (tail-of true e entries are) h.0, units-in-blocks entries (tail-of true e entries are) h.1)

-- ---- both

units-follow : (a : Entry) (entries : List Entry) → is_installed a.body ≡ false → AreOf true entries → AllByRecursion (MayFollow a) entries
units-follow a [] source are = tt
units-follow a (e ∷ entries) source are = (
  (λ h. are e (contains-head e entries), λ same. absurd (false≢true (sym source ∙ same ∙ are e (contains-head e entries)))),
  units-follow a entries source (tail-of true e entries are),
)

joined-in-blocks : (front rest : List Entry) → AreOf false front → AreOf true rest → AreInBlocks front → AreInBlocks rest → AreInBlocks (front ++ rest)
joined-in-blocks [] rest sources are h k = k
joined-in-blocks (e ∷ front) rest sources are h k = (
  each-append (MayFollow e) front rest h.0 (units-follow e rest (sources e (contains-head e front)) are),
  joined-in-blocks front rest (tail-of false e front sources) are h.1 k,
)

package-in-blocks : (p : Package) → IsInOrder p → AreInBlocks p.entries
package-in-blocks p is =
    let sources : AreOf false (releases p) = λ e h. not-true (is_installed e.body) (contains-filter (λ (f : Entry). not (is_installed f.body)) p.entries e h).1 in
    let installed : AreOf true (units p) = λ e h. (contains-filter (λ (f : Entry). is_installed f.body) p.entries e h).1 in
    subst AreInBlocks (sym is.releases_first)
    (joined-in-blocks (releases p) (units p) sources installed (releases-in-blocks (releases p) sources is.versions_rise) (units-in-blocks (units p) installed is.units_rise))

all-in : (packages : List Package) → ((q : Package) → Contains packages q → AreInBlocks q.entries) → AllAreInBlocks packages
all-in [] h p = tt
all-in (q ∷ packages) h zero = h q (contains-head q packages)
all-in (q ∷ packages) h (suc p) = all-in packages (λ r k. h r (contains-tail q packages r k)) p

pub all-in-blocks : (env : Env) (index : Index) → IsSound env index → AllAreInBlocks index.packages
all-in-blocks env index is = all-in index.packages (λ q h. package-in-blocks q (each-at (IsPackage env index) index.packages q is.packages h).in_order)
