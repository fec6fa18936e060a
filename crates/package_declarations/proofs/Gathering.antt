-- The gathered state keeps its meaning as the table grows.
use Rattle.std.proofs.Common.{◌≡◌, List, [], ◌∷◌, ◌++◌, slice_get, Option, None, Some, ap, ◌∙◌, append-nil}
use Rattle.std.specs.Prelude.{IfSome}
use Rattle.std.proofs.lemmas.Grind.{flat_map-append}
use Rattle.std.proofs.lemmas.List.Elements.{All-append, All-from_recursion, All-weaker}
use Rattle.plan_types.specs.Guarded.{AreTabled, in_groups, of_group}
use Rattle.plan_types.specs.declared.condition.Cond.{Cond}
use Rattle.plan_types.specs.declared.description.DepGroup.{DepGroup}
use Rattle.package_declarations.specs.Gathering.{GroupsTabled}
use Rattle.package_declarations.specs.Levels.{Grown}
use Rattle.package_declarations.specs.declared.gathered.Groups.{Groups}
use Rattle.package_declarations.proofs.Levels.{kept}

some-kept : (a b : List Cond) → Grown a b → (group : Option DepGroup) → IfSome group (λ (g : DepGroup). slice_get a g.number ≡ Some g.when) → IfSome group (λ (g : DepGroup). slice_get b g.number ≡ Some g.when)
some-kept a b grown None tabled = tt
some-kept a b grown (Some group) tabled = kept a b grown group.number group.when tabled

pub groups-kept : (a b : List Cond) → Grown a b → (groups : Groups) → GroupsTabled a groups → GroupsTabled b groups
groups-kept a b grown groups tabled = record {
  closed =
      All-weaker (λ (g : DepGroup). slice_get a g.number ≡ Some g.when) (λ (g : DepGroup). slice_get b g.number ≡ Some g.when)
      (λ g. kept a b grown g.number g.when) groups.closed tabled.closed;
  current = some-kept a b grown groups.current tabled.current;
}

pub pushed-group : (closed : List DepGroup) (group : DepGroup) → in_groups (closed ++ group ∷ []) ≡ in_groups closed ++ of_group group
pushed-group closed group = flat_map-append of_group closed (group ∷ []) ∙ ap (λ l. in_groups closed ++ l) (append-nil (of_group group))

pub tabled-pushed : (conds : List Cond) (closed : List DepGroup) (group : DepGroup) → AreTabled conds closed → slice_get conds group.number ≡ Some group.when → AreTabled conds (closed ++ group ∷ [])
tabled-pushed conds closed group tabled is =
    let P = λ (g : DepGroup). slice_get conds g.number ≡ Some g.when in
    All-append P closed (group ∷ []) tabled (All-from_recursion P (group ∷ []) (is, tt))
