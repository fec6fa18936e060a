use Rattle.std.proofs.Common.{◌++◌, List, [], length, map, take, slice_get, subst, sym, ap, ◌∙◌}
use Rattle.plan_types.specs.Guarded.{under}
use Rattle.plan_types.specs.declared.condition.Cond.TheVariants.{Always}
use Rattle.plan_types.specs.declared.dependency.Dep.{Dep}
use Rattle.section_syntax.specs.Chained.{chain_after}
use Rattle.package_declarations.specs.Declarations.{meant}
use Rattle.package_declarations.specs.Gathering.{bars, deps_in, joined_some, place_in}
use Rattle.package_declarations.specs.Levels.{AreLevels, IsNumbered, chain_at, number_at}
use Rattle.package_declarations.proofs.Gathering.{groups-kept}
use Rattle.package_declarations.proofs.Levels.{chain-numbered, grown-both, kept, levels-kept, levels-taken, numbered-kept, place-numbered}
use Rattle.stanza_imports.specs.Bodies.{placed_part}
use Rattle.package_declarations.proofs.gathered.Gathered.with.Goals as goal

pub returns-clause-stands : goal.returns-clause-stands
returns-clause-stands c opened barred stands =
    let part = placed_part c.args.placed.now in
    let depth = length part.branches in
    let old = c.args.self.conds in
    let mid = c.with_bar.new.conds in
    let new = c.enter.new.conds in
    let here = take depth opened in
    let before = slice_get opened depth in
    let place = place_in opened part in
    let barring = c.in_ok-barred.ensures.grown in
    let entering = c.in_ok-enter.ensures.grown in
    let grown = grown-both old mid new barring entering in
    let left = c.leave-chain.ensures.levels ∙ ap (λ n. take n c.args.self.levels) c.len.ensures in
    let are = subst (λ l. AreLevels old [] l here) (sym left) (levels-taken old [] depth c.args.self.levels opened stands.levels) in
    let at = c.number_at-here.ensures ∙ ap number_at c.as_slice.ensures in
    let is = ap (slice_get old) at ∙ place-numbered old c.leave-chain.new.levels here stands.root are in
    let chain = c.leave-chain.ensures.chain ∙ ap (λ n. chain_at c.args.self.levels n) c.len.ensures in
    let numbered = subst (λ n. IsNumbered old n (chain_after before)) (sym chain) (chain-numbered old [] depth c.args.self.levels opened stands.levels) in
    record {
      root = kept old new grown 0 Always stands.root;
      levels =
          c.in_ok-enter.ensures.levels here before (levels-kept old mid barring [] c.leave-chain.new.levels here are)
          (numbered-kept old mid barring c.leave-chain.result (chain_after before) numbered);
      groups = groups-kept old new grown c.in_ok-groups.groups (c.in_ok-groups.ensures.tabled place is stands.groups);
      free =
          numbered-kept mid new entering c.in_ok-barred.barred (joined_some (barred ++ bars part.said place))
          (c.in_ok-barred.ensures.free barred place stands.free is);
    }

pub returns-clause-deps : goal.returns-clause-deps
returns-clause-deps c file tells opened barred stands =
    let part = placed_part c.args.placed.now in
    let depth = length part.branches in
    let old = c.args.self.conds in
    let here = take depth opened in
    let place = place_in opened part in
    let left = c.leave-chain.ensures.levels ∙ ap (λ n. take n c.args.self.levels) c.len.ensures in
    let are = subst (λ l. AreLevels old [] l here) (sym left) (levels-taken old [] depth c.args.self.levels opened stands.levels) in
    let at = c.number_at-here.ensures ∙ ap number_at c.as_slice.ensures in
    let is = ap (slice_get old) at ∙ place-numbered old c.leave-chain.new.levels here stands.root are in
    c.in_ok-groups.ensures.deps place is stands.groups
    ∙ ap (λ (deps : List Dep). deps_in c.args.self.groups ++ map (under place) deps) (c.in_ok-deps.ensures file tells ∙ ap (map (meant file)) c.asked.ensures)
