use Rattle.std.proofs.Common.{subst, sym, ap, ◌∙◌, arith}
use Rattle.version_range.specs.Version.{IsVersion, IsNumber}
use Rattle.version_range.specs.Cuts.{prefix_end}
use Rattle.version_range.proofs.Intervals.{raised_last, last_number}
use Rattle.version_range.proofs.interval.after_prefix.Goals as goal

pub overflow_add-last : goal.overflow_add-last
overflow_add-last c =
    let small : IsNumber c.in-Some.last = last_number c.pop.new.self c.in-Some.last (subst IsVersion (sym (ap (λ v. v.parts) c.in_ok-parts.ensures) ∙ c.in-Some.ensures) c.requires) in
    omega arith

pub returns-in_ok-push-in-Some : goal.returns-in_ok-push-in-Some
returns-in_ok-push-in-Some c =
    c.in_ok-push-in-Some.ensures.ok
    ∙ sym (raised_last c.pop.new.self c.in-Some.last)
    ∙ ap prefix_end (sym c.in-Some.ensures ∙ ap (λ v. v.parts) c.in_ok-parts.ensures)
