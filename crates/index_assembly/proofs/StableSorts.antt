-- Shared: a stable sort gives the ordered list.
use Rattle.std.proofs.Common.{◌≡◌, Bool, List, [], ◌∷◌, if◌then◌else◌, refl, sym, ap, ◌∙◌}
use Rattle.std.specs.Cmp.{IsStrictWeakOrder}
use Rattle.std.specs.List.Sorted.{IsSortedBy, IsStableBy}
use Rattle.std.proofs.lemmas.Cmp.{on_total, then_total, nat_cmp_total, nat_list_cmp_total}
use Rattle.std.proofs.lemmas.List.Sorted.{ranks_by}
use Rattle.plan_types.specs.declared.index.Entry.{Entry}
use Rattle.plan_types.specs.declared.index.Package.{Package}
use Rattle.plan_types.specs.declared.index.Skipped.{Skipped}
use Rattle.qualified_goals.specs.Names.{class_of}
use Rattle.qualified_goals.proofs.NameNumbers.{package_cmp_total}
use Rattle.common_laws.specs.StableSorts as stable
use Rattle.index_assembly.specs.Order.{put, in_order}
use Rattle.index_assembly.specs.Entries.{is_unit_below, is_version_below}
use Rattle.index_assembly.specs.Index.{is_package_below, is_path_below}

module _ {X : Type 0} (lt : X → X → Bool) (order : IsStrictWeakOrder lt) where
  put-is : (x : X) (xs : List X) → put lt x xs ≡ stable.put lt order x xs
  put-is x [] = refl
  put-is x (y ∷ ys) = ap (λ l. if lt y x then y ∷ l else x ∷ y ∷ ys) (put-is x ys)

  in-order-is : (xs : List X) → in_order lt xs ≡ stable.put_all lt order xs
  in-order-is [] = refl
  in-order-is (x ∷ xs) = put-is x (in_order lt xs) ∙ ap (stable.put lt order x) (in-order-is xs)

  pub sorted-is : (before after : List X) → IsSortedBy lt after → IsStableBy lt before after → after ≡ in_order lt before
  sorted-is before after sorted stays = stable.stable-is lt order before after sorted stays ∙ sym (in-order-is before)

pub version-order : IsStrictWeakOrder is_version_below
version-order = ranks_by nat_list_cmp_total (λ (e : Entry). e.instance.version.parts)

pub unit-order : IsStrictWeakOrder is_unit_below
unit-order = ranks_by (then_total (on_total (λ (e : Entry). e.instance.version.parts) nat_list_cmp_total) (on_total (λ (e : Entry). e.instance.unit) nat_list_cmp_total)) (λ (e : Entry). e)

pub package-order : IsStrictWeakOrder is_package_below
package-order = ranks_by package_cmp_total (λ (p : Package). p)

pub path-order : IsStrictWeakOrder is_path_below
path-order = ranks_by nat_list_cmp_total (λ (s : Skipped). s.path)
