-- Shared: the choices of a trail on which each is of another variable.
use Rattle.std.proofs.Common.{◌≡◌, inl, inr, ℕ, List, [], ◌∷◌, ◌++◌, Some, sym, subst}
use Rattle.std.specs.List.{Contains}
use Rattle.common_laws.specs.Lists.{contains-append, contains-cases, contains-none}
use Rattle.plan_types.specs.declared.condition.Env.{Env}
use Rattle.plan_types.specs.declared.index.Package.{Package}
use Rattle.plan_types.specs.declared.project.Project.{Project}
use Rattle.qualified_goals.specs.Names.{NameTable}
use Rattle.choice_problem.specs.declared.problem.Choice.{Choice}
use Rattle.choice_problem.specs.Trail.{AreNew, before_any, one_more, value_in}
use Rattle.choice_problem.specs.Valid.{IsWholeValid}
use Rattle.choice_problem.proofs.TrailLemmas.{Passes, value_in-kept, value_in-new}
use Rattle.cabal_problem.specs.WholeDemands.{whole_problem}
use Rattle.frozen_choices.specs.Plain.{AreInDomains}

-- the trail as a map makes them
pub new-passes : (trail : List Choice) → AreNew trail → Passes (value_in trail) trail
new-passes trail before_any c h = absurd (contains-none c h)
new-passes trail (one_more {before} new d free is) c h =
    subst (λ t. value_in t c.var ≡ Some c.val) (sym is)
    (elim (contains-append before (d ∷ []) c (subst (λ l. Contains l c) is h)) [
      | inl l ↦ value_in-kept before (d ∷ []) c.var c.val (new-passes before new c l)
      | inr r ↦ elim (contains-cases d [] c r) [
        | inl e ↦ subst (λ (x : Choice). value_in (before ++ d ∷ []) x.var ≡ Some x.val) e (value_in-new before [] d.var d.val free)
        | inr none ↦ absurd (contains-none c none)
      ]
    ])

-- where it is whole and valid, they take values of their domains
pub valid-in-domains : (env : Env) (packages : List Package) (project : Project) (names : NameTable) (orders : List (List ℕ)) (trail : List Choice) → AreNew trail
    → IsWholeValid (whole_problem env packages project names orders) (value_in trail) → AreInDomains packages trail
valid-in-domains env packages project names orders trail new valid c h = (valid.holds.assignment.choice c (new-passes trail new c h)).value
