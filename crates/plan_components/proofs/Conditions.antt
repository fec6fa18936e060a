-- A dependency counts iff its component is buildable and its branches are taken.
use Rattle.std.proofs.Common.{◌≡◌, ◌<◌, Bool, true, false, not, ◌&&◌, ◌||◌, cond, List, [], ◌∷◌, ◌++◌, map, flat_map, refl, sym, ap, ◌∙◌, arith}
use Rattle.std.specs.Prelude.{filter}
use Rattle.std.proofs.lemmas.List.Concat.{flat_map-append}
use Rattle.std.proofs.lemmas.List.Elements.{filter-append}
use Rattle.std.proofs.Math.Bool.{and-false, and-true}
use Rattle.std.proofs.lemmas.Bool.{and_right}
use Rattle.plan_types.specs.declared.condition.Cond.{Cond, size-Cond}
use Rattle.plan_types.specs.declared.condition.Cond.TheVariants.{And}
use Rattle.plan_types.specs.declared.condition.Cond.TheViews.{sized-And}
use Rattle.plan_types.specs.declared.condition.Env.{Env}
use Rattle.plan_types.specs.declared.condition.FlagSet.{FlagSet}
use Rattle.plan_types.specs.declared.dependency.Dep.{Dep}
use Rattle.plan_types.specs.declared.description.Component.{Component}
use Rattle.plan_types.specs.Guarded.{GuardedDep}
use Rattle.conditionals.specs.declared.value.Tri.{Tri}
use Rattle.conditionals.specs.declared.value.Tri.TheVariants.{Yes, No, Unknown}
use Rattle.conditionals.specs.Layers.{value-And}
use Rattle.conditionals.specs.Paths.{is_wanted}
use Rattle.conditionals.specs.Value.{and_then, flag_in, value}
use Rattle.flatten.specs.WholeCondition.{whole_condition}
use Rattle.common_laws.specs.Lists.{filter-nothing}
use Rattle.plan_components.specs.declared.node.Node.{Node}
use Rattle.plan_components.specs.Chosen.{Selection, condition_holds}
use Rattle.plan_components.specs.declared.node.Need.{Need}
use Rattle.plan_components.specs.Needs.{component_needs, counts, dep_needs, is_asked, needs_among}

both-yes : (a b : Tri) → is_wanted true (and_then a b) ≡ (is_wanted true a && is_wanted true b)
both-yes Yes b = refl
both-yes No b = refl
both-yes Unknown b = refl

-- `&&` is Yes iff both its sides are
pub sides-hold : (env : Env) (flags : List FlagSet) (whole front last : Cond) → whole ≡ And front last → condition_holds env flags whole ≡ (condition_holds env flags front && condition_holds env flags last)
sides-hold env flags whole front last is =
    ap (condition_holds env flags) is ∙ ap (is_wanted true) (value-And env (flag_in flags) front last) ∙ both-yes (value env (flag_in flags) front) (value env (flag_in flags) last)

-- if the last side is Yes, the others decide; if it isn't, the whole isn't
pub others-decide : (env : Env) (flags : List FlagSet) (whole front last : Cond) → whole ≡ And front last → condition_holds env flags last ≡ true → condition_holds env flags front ≡ condition_holds env flags whole
others-decide env flags whole front last is h = sym (sides-hold env flags whole front last is ∙ ap (λ b. condition_holds env flags front && b) h ∙ and-true (condition_holds env flags front))

pub last-decides : (env : Env) (flags : List FlagSet) (whole front last : Cond) → whole ≡ And front last → condition_holds env flags last ≡ false → false ≡ condition_holds env flags whole
last-decides env flags whole front last is h = sym (sides-hold env flags whole front last is ∙ ap (λ b. condition_holds env flags front && b) h ∙ and-false (condition_holds env flags front))

pub goes-down : (whole front last : Cond) → whole ≡ And front last → size-Cond front < size-Cond whole
goes-down whole front last is = let size = ap size-Cond is ∙ sized-And front last in omega (arith, size)

whole-holds : (env : Env) (flags : List FlagSet) (component : Component) (guarded : GuardedDep)
    → condition_holds env flags (whole_condition component guarded) ≡ (condition_holds env flags component.build.buildable && condition_holds env flags guarded.when)
whole-holds env flags component guarded =
    ap (is_wanted true) (value-And env (flag_in flags) component.build.buildable guarded.when)
    ∙ both-yes (value env (flag_in flags) component.build.buildable) (value env (flag_in flags) guarded.when)

module _ (selection : Selection) (flags : List FlagSet) (own : Bool) (component : Component) where
  -- if the component is buildable, the branches decide
  pub by_branches : (guarded : GuardedDep) → condition_holds selection.env flags component.build.buildable ≡ true
      → counts selection flags own component guarded ≡ ((own || not guarded.dep.internal) && condition_holds selection.env flags guarded.when)
  by_branches guarded h =
      ap (λ b. (own || not guarded.dep.internal) && b) (whole-holds selection.env flags component guarded ∙ ap (λ b. b && condition_holds selection.env flags guarded.when) h)

  -- the dependencies of one group, if its branches are taken, and if they aren't
  module _ (built : condition_holds selection.env flags component.build.buildable ≡ true) (when : Cond) (node : Node) where
    abbrev here : Dep → GuardedDep
    here dep = record { when = when; dep = dep }

    abbrev counted : Bool → Dep → List GuardedDep → List GuardedDep
    counted b dep deps = cond b (here dep ∷ filter (counts selection flags own component) deps) (filter (counts selection flags own component) deps)

    abbrev needed : GuardedDep → List Need
    needed guarded = dep_needs selection node guarded.dep

    pub all-among : condition_holds selection.env flags when ≡ true → (deps : List Dep)
        → needs_among selection node flags own component (map here deps) ≡ flat_map (dep_needs selection node) (filter (is_asked own) deps)
    all-among h [] = refl
    all-among h (dep ∷ deps) =
        ap (λ b. flat_map needed (counted b dep (map here deps))) (by_branches (here dep) built ∙ ap (λ b. is_asked own dep && b) h ∙ and-true (is_asked own dep))
        ∙ by (is_asked own dep) (all-among h deps)
      where
        by : (b : Bool) → needs_among selection node flags own component (map here deps) ≡ flat_map (dep_needs selection node) (filter (is_asked own) deps)
            → flat_map needed (counted b dep (map here deps)) ≡ flat_map (dep_needs selection node) (cond b (dep ∷ filter (is_asked own) deps) (filter (is_asked own) deps))
        by true more = ap (λ l. dep_needs selection node dep ++ l) more
        by false more = more

    pub none-among : condition_holds selection.env flags when ≡ false → (deps : List Dep) → needs_among selection node flags own component (map here deps) ≡ []
    none-among h [] = refl
    none-among h (dep ∷ deps) =
        ap (λ b. flat_map needed (counted b dep (map here deps))) (by_branches (here dep) built ∙ ap (λ b. is_asked own dep && b) h ∙ and-false (is_asked own dep))
        ∙ none-among h deps

  pub among-append : (node : Node) (front rest : List GuardedDep)
      → needs_among selection node flags own component (front ++ rest) ≡ needs_among selection node flags own component front ++ needs_among selection node flags own component rest
  among-append node front rest =
      ap (flat_map (λ (g : GuardedDep). dep_needs selection node g.dep)) (filter-append (counts selection flags own component) front rest)
      ∙ flat_map-append (λ (g : GuardedDep). dep_needs selection node g.dep) (filter (counts selection flags own component) front) (filter (counts selection flags own component) rest)

  -- if the component isn't buildable, no dependency counts
  none-counts : (guarded : GuardedDep) → condition_holds selection.env flags component.build.buildable ≡ false → counts selection flags own component guarded ≡ false
  none-counts guarded h =
      and_right (own || not guarded.dep.internal) _ (whole-holds selection.env flags component guarded ∙ ap (λ b. b && condition_holds selection.env flags guarded.when) h)

  pub no_needs : (node : Node) → condition_holds selection.env flags component.build.buildable ≡ false → component_needs selection node flags own component ≡ []
  no_needs node h =
      ap (flat_map (λ (g : GuardedDep). dep_needs selection node g.dep))
      (filter-nothing (counts selection flags own component) component.build.deps (λ g inside. none-counts g h))
