use Rattle.std.proofs.Common.{◌≡◌, ◌++◌, List, map, Option, append-nil, ap, ◌∙◌, sym}
use Rattle.std.proofs.lemmas.Option.{get_or_from_slice_get}
use Rattle.plan_types.specs.Guarded.{GuardedDep, in_groups, under}
use Rattle.plan_types.specs.declared.condition.Cond.TheVariants.{Always}
use Rattle.plan_types.specs.declared.description.DepGroup.{DepGroup}
use Rattle.package_declarations.specs.Gathering.{deps_in, in_group}
use Rattle.package_declarations.proofs.Gathering.{pushed-group}
use Rattle.package_declarations.proofs.gathered.Groups.with.Goals as goal
use Rattle.package_declarations.proofs.gathered.Groups.with.Goals.{in-Some+else-group-number+in_ok-push, in_default}

pub returns-clause-deps : goal.returns-clause-deps
returns-clause-deps c place is tabled =
    let when = c.in_ok-when.ensures ∙ get_or_from_slice_get c.args.conds.now c.args.number place Always is in
    let with_last : Option DepGroup → List GuardedDep = λ group. in_groups c.args.self.closed ++ in_group group in
    let before : in_groups c.match-current.closed ≡ deps_in c.args.self = elim c.match-current.branch [
      | in-Some+else-group-number+in_ok-push w ↦
          ap in_groups (w.closed-is ∙ w.in_ok-push.ensures.ok) ∙ pushed-group c.args.self.closed w.in-Some.group ∙ ap with_last (sym w.in-Some.is)
      | in_default w ↦ ap in_groups w.closed-is ∙ sym (append-nil (in_groups c.args.self.closed)) ∙ ap with_last (sym w.in_default.is)
    ] in
    (λ i. before i ++ map (under (when i)) c.args.deps)
