use Rattle.std.proofs.Common.{◌≡◌, ℕ, ◌∙◌, ap, List, [], ◌∷◌, None, Some, slice_get, subst}
use Rattle.std.proofs.lemmas.Option.{get_or_from_slice_get}
use Rattle.plan_types.specs.Conditions.{numbered}
use Rattle.plan_types.specs.declared.condition.Cond.{Cond}
use Rattle.plan_types.specs.declared.condition.Cond.TheVariants.{Always}
use Rattle.section_syntax.specs.Branch.{all_of}
use Rattle.package_declarations.specs.Gathering.{joined_some}
use Rattle.package_declarations.specs.Levels.{IsNumbered}
use Rattle.package_declarations.proofs.gathered.Gathered.into_build.Goals as goal
use Rattle.package_declarations.proofs.gathered.Gathered.into_build.Goals.{in-Some, in-None}

barred-by : (conds : List Cond) (free : ℕ) (barred : List Cond) → IsNumbered conds (Some free) (joined_some barred) → numbered conds free ≡ all_of barred
barred-by conds free [] is = absurd is
barred-by conds free (cond ∷ barred) is = get_or_from_slice_get conds free (all_of (cond ∷ barred)) Always is

barred-by-none : (conds : List Cond) (barred : List Cond) → slice_get conds 0 ≡ Some Always → IsNumbered conds None (joined_some barred) → numbered conds 0 ≡ all_of barred
barred-by-none conds [] root is = get_or_from_slice_get conds 0 Always Always root
barred-by-none conds (cond ∷ barred) root is = absurd is

pub returns-clause-buildable : goal.returns-clause-buildable
returns-clause-buildable c opened barred stands =
    let conds = c.args.self.conds in
    let free : numbered conds c.match-barred.free ≡ all_of barred = elim c.match-barred.branch [
      | in-Some w ↦ ap (numbered conds) w.free-is ∙ barred-by conds _ barred (subst (λ n. IsNumbered conds n (joined_some barred)) w.in-Some.is stands.free)
      | in-None w ↦ ap (numbered conds) w.free-is ∙ barred-by-none conds barred stands.root (subst (λ n. IsNumbered conds n (joined_some barred)) w.in-None.is stands.free)
    ] in
    ap (λ build. build.buildable) c.new.ensures ∙ c.in_ok-buildable.ensures ∙ free
