use Rattle.std.proofs.Common.{◌∙◌, sym, refl}
use Rattle.constraint_text.specs.Relaxes.{Owner}
use Rattle.constraint_text.proofs.OneRelax.{star_text, not_star, bad_owner}
use Rattle.entry_text.proofs.FoundEntries.{ok_so, fault_so}
use Rattle.constraint_text.proofs.relax.owner.Goals as goal

pub returns-then-is_star-clause-found : goal.returns-then-is_star-clause-found
returns-then-is_star-clause-found c = Owner.any (star_text c.args.text.now (sym c.is_star.ensures ∙ c.if-is_star.true)) refl

pub returns-then-not-is_package_name-clause-found : goal.returns-then-not-is_package_name-clause-found
returns-then-not-is_package_name-clause-found c =
    ok_so _ _ c.release.result (λ o is. Owner.release is.0 is.1 (sym c.is_package_name.ensures ∙ c.if-not-is_package_name.true) is.2 is.3) c.release.ensures.found

pub returns-then-not-is_package_name-clause-fault : goal.returns-then-not-is_package_name-clause-fault
returns-then-not-is_package_name-clause-fault c =
    fault_so _ _ c.release.result
    (bad_owner c.args.text.now (not_star c.args.text.now (sym c.is_star.ensures ∙ c.if-is_star.false)) (sym c.is_package_name.ensures ∙ c.if-not-is_package_name.true))
    c.release.ensures.fault
