use Rattle.std.proofs.Common.{◌≡◌, true, ap, ◌∙◌, sym, subst}
use Rattle.plan_types.specs.Name.{is_package_name}
use Rattle.plan_types.specs.declared.constraint.Scope.TheVariants.{SetupOf}
use Rattle.constraint_text.specs.Constraints.{Target, scope_of}
use Rattle.entry_text.proofs.FoundEntries.{ok_so}
use Rattle.constraint_text.proofs.constraints.target.Goals as goal

pub returns-in-Some-scope_of-clause-found : goal.returns-in-Some-scope_of-clause-found
returns-in-Some-scope_of-clause-found c =
    Target.word c.in-Some.more.now (sym c.name_at.ensures.rest ∙ c.in-Some.ensures.some) (ap scope_of (sym c.name_at.ensures.name) ∙ sym c.in-Some-scope_of.ensures) c.name_run.ensures.front c.name_run.ensures.rest

pub returns-in-Some-byte_after-clause-found : goal.returns-in-Some-byte_after-clause-found
returns-in-Some-byte_after-clause-found c =
    ok_so _ _ c.setup_of.result
    (λ p is. Target.setup_of is.0 (sym c.name_at.ensures.rest ∙ is.1) (subst (λ n. is_package_name n ≡ true) c.name_at.ensures.name is.2) (is.3 ∙ ap SetupOf c.name_at.ensures.name) is.4 is.5)
    c.setup_of.ensures.found
