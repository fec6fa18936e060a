use Rattle.std.proofs.Common.{◌≡◌, ◌∙◌, subst}
use Rattle.plan_types.specs.Members.{members}
use Rattle.version_range.specs.Cuts.{Relaxes, inside}
use Rattle.constraint_set.specs.Relaxed.{relaxes}
use Rattle.constraint_set.proofs.Relaxes.{both-ends}
use Rattle.constraint_set.proofs.constraints.Constraints.relaxed.Goals as goal

pub returns : goal.returns
returns c = λ project names stands.
    let newer : c.relaxes-newer.result ≡ relaxes project.newer c.args.owner.now c.args.dep.now = c.relaxes-newer.ensures ∙ stands.newer_are c.args.owner.now c.args.dep.now in
    let older : c.relaxes-older.result ≡ relaxes project.older c.args.owner.now c.args.dep.now = c.relaxes-older.ensures ∙ stands.older_are c.args.owner.now c.args.dep.now in
    let relaxed : Relaxes c.relaxes-newer.result c.relaxes-older.result (members c.args.range.now) (inside c.let_older.new.cuts) = both-ends c.relaxes-newer.result c.relaxes-older.result (members c.args.range.now) c.in_ok-cuts.cuts c.let_newer.new.cuts c.let_older.new.cuts c.in_ok-cuts.ensures c.let_newer.ensures c.let_older.ensures in
    subst (λ b. Relaxes b (relaxes project.older c.args.owner.now c.args.dep.now) (members c.args.range.now) (inside c.let_older.new.cuts)) newer
    (subst (λ b. Relaxes c.relaxes-newer.result b (members c.args.range.now) (inside c.let_older.new.cuts)) older relaxed)
