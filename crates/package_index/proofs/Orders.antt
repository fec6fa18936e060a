-- The orders of packages, releases and units, and the keys that they distinguish.
use Rattle.std.proofs.Common.{◌≡◌, ℕ, List, Ordering, Equal}
use Rattle.std.specs.Cmp.{IsTotalOrder}
use Rattle.std.specs.Cmp.Lexicographic.{slice_cmp}
use Rattle.std.specs.Ordering.{nat_cmp}
use Rattle.std.proofs.lemmas.Cmp.{nat_cmp_total, nat_list_cmp_total, on_total, then_total}
use Rattle.std.proofs.lemmas.Map.Lookups.{exact_bytes}
use Rattle.plan_types.specs.Members.{order}
use Rattle.plan_types.specs.declared.index.Entry.{Entry}
use Rattle.plan_types.specs.declared.index.Package.{Package}
use Rattle.flatten.specs.Sound.{unit_order}
use Rattle.qualified_goals.specs.Names.{class_of, package_cmp}
use Rattle.package_index.proofs.Package.{id_of}
use Rattle.package_index.proofs.Releases.{numbers_of}
use Rattle.common_laws.specs.Small.{second-equal}

abbrev pub name_of : Package → List ℕ
name_of p = p.name

pub package-told : (p q : Package) → package_cmp p q ≡ Equal → p.name ≡ q.name
package-told p q e = exact_bytes p.name q.name (second-equal (nat_cmp (class_of p) (class_of q)) (slice_cmp nat_cmp p.name q.name) e)

abbrev pub version_order : Entry → Entry → Ordering
version_order a b = order (numbers_of a) (numbers_of b)

pub version_order_total : IsTotalOrder version_order
version_order_total = on_total numbers_of nat_list_cmp_total

pub version-told : (a b : Entry) → version_order a b ≡ Equal → numbers_of a ≡ numbers_of b
version-told a b e = exact_bytes (numbers_of a) (numbers_of b) e

pub unit_order_total : IsTotalOrder unit_order
unit_order_total = then_total (on_total numbers_of nat_list_cmp_total) (on_total id_of nat_list_cmp_total)

pub unit-told : (a b : Entry) → unit_order a b ≡ Equal → id_of a ≡ id_of b
unit-told a b e = exact_bytes (id_of a) (id_of b) (second-equal (order (numbers_of a) (numbers_of b)) (slice_cmp nat_cmp (id_of a) (id_of b)) e)
