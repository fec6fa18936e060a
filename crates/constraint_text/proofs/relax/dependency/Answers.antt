use Rattle.std.proofs.Common.{◌≡◌, true, ap, ◌∙◌, sym, subst}
use Rattle.plan_types.specs.Name.{is_package_name}
use Rattle.plan_types.specs.declared.dependency.RelaxOwner.TheVariants as owners
use Rattle.std.specs.Prelude.{None}
use Rattle.constraint_text.specs.Relaxes.{Owner, Dependency}
use Rattle.constraint_text.proofs.OneRelax.{all_text, never_all, never_of}
use Rattle.entry_text.proofs.FoundEntries.{ok_so, fault_so}
use Rattle.constraint_text.proofs.relax.dependency.Goals as goal

pub returns-then-is_all-clause-found : goal.returns-then-is_all-clause-found
returns-then-is_all-clause-found c =
    let run = c.owner_run.ensures in
    ok_so _ _ c.all_of.result
    (λ relax is. Dependency.all (sym run.rest ∙ all_text _ (sym c.is_all.ensures ∙ c.if-is_all.true)) (subst (λ n. is_package_name n ≡ true) run.front is.0)
    (is.1 ∙ (λ i. record { owner = owners.Package (run.front i); dep = None })))
    c.all_of.ensures.found

pub returns-then-is_all-clause-fault : goal.returns-then-is_all-clause-fault
returns-then-is_all-clause-fault c =
    let run = c.owner_run.ensures in
    fault_so _ _ c.all_of.result
    (λ cause bad. record { is = bad.0; stands_for_none = never_all c.args.word.now (sym run.rest ∙ all_text _ (sym c.is_all.ensures ∙ c.if-is_all.true)) (sym (ap is_package_name run.front) ∙ bad.1) })
    c.all_of.ensures.fault

pub returns-in-Some-clause-found : goal.returns-in-Some-clause-found
returns-in-Some-clause-found c =
    let run = c.owner_run.ensures in
    ok_so _ _ c.one_of.result
    (λ relax is. Dependency.of relax.owner c.in-Some.name.now (sym run.rest ∙ c.in-Some.ensures.some) (subst (λ t. Owner t relax.owner) run.front is.0) is.1 (λ i. record { owner = relax.owner; dep = is.2 i }))
    c.one_of.ensures.found

pub returns-in-Some-clause-fault : goal.returns-in-Some-clause-fault
returns-in-Some-clause-fault c =
    let run = c.owner_run.ensures in
    fault_so _ _ c.one_of.result
    (λ cause never. record {
      is = never.0;
      stands_for_none = never_of c.args.word.now _ c.in-Some.name.now run.rest c.in-Some.ensures.some (sym c.is_all.ensures ∙ c.if-is_all.false) (λ o w h. never.1 o (subst (λ t. Owner t o) (sym run.front) w) h);
    })
    c.one_of.ensures.fault
