-- the choice is accepted, or the value fails with its conflict
use Rattle.std.proofs.Common.{true, ◌≡◌, ◌+◌, ◌++◌, ◌∷◌, [], List, Option, Some, None, ap, sym, ◌∙◌, subst, refl}
use Rattle.qualified_goals.specs.declared.variable.Var.{Var}
use Rattle.choice_problem.specs.Active.{is_open}
use Rattle.choice_problem.specs.Trail.{choice_of}
use Rattle.choice_problem.specs.Conflict.{conflict}
use Rattle.validation.specs.declared.verdict.Verdict.TheVariants.{Accepted, Conflict}
use Rattle.validation.specs.Verdict.{verdict_of, Leaves}
use Rattle.backjump.specs.Walk.{nodes_of, search_of, load, Moves}
use Rattle.backjump.specs.declared.walk.Turn.TheVariants.{Try, Back}
use Rattle.backjump.specs.declared.walk.WalkStep.TheVariants.{On}
use Rattle.backjump.proofs.Moves.{with_state, choose-kept, choose-failed}
use Rattle.backjump.proofs.walk.Walk.choose.Goals as goal

accepted : (o : Option (List Var)) → verdict_of o ≡ Accepted → o ≡ None
accepted None h = refl
accepted (Some set) h = absurd (cc h)

refused : (o : Option (List Var)) (set : List Var) → verdict_of o ≡ Conflict set → o ≡ Some set
refused None set h = absurd (cc h)
refused (Some other) set h = let same : other ≡ set = cc h in ap Some same

pub choose_open-requires-clause-open : goal.choose_open-requires-clause-open
choose_open-requires-clause-open g c =
    let p = g.C.Choices.problem c.args.choices.now in
    let at = c.requires.1.at in
    let top = c.top.ensures (nodes_of at.outer) at.point.node at.held.nodes in
    subst (λ v. is_open p c.args.self.now.state.trail v ≡ true) (sym top) (subst (λ t. is_open p t at.point.node.var ≡ true) (sym at.prefix_is) at.is.opened)

pub returns-in-Accepted-clause-step : goal.returns-in-Accepted-clause-step
returns-in-Accepted-clause-step g c visited at =
    let p = g.C.Choices.problem c.args.choices.now in
    let s = search_of p g.G.Guide.picks c.args.limit in
    let w = c.args.self.now in
    let n = c.args.value in
    let top : c.top.result ≡ at.at.point.node.var = c.top.ensures (nodes_of at.at.outer) at.at.point.node at.at.held.nodes in
    let kept = accepted (conflict p w.state.trail (choice_of c.top.result n)) (sym c.in_ok-choose_open.ensures.verdict ∙ c.in-Accepted.is) in
    let leaves = subst (λ v. Leaves p w.state c.choose_open.new.self (choice_of c.top.result n) v) c.in-Accepted.is c.in_ok-choose_open.ensures.leaves in
    choose-kept g.G.Guide.recalls s w visited n c.saturating_add-self.result c.choose_open.new.self c.chosen.new.self at c.saturating_add-self.ensures
    (subst (λ v. conflict p w.state.trail (choice_of v n) ≡ None) top kept)
    leaves.0
    (subst (λ v. c.choose_open.new.self.trail ≡ w.state.trail ++ choice_of v n ∷ []) top leaves.1)
    (c.chosen.ensures at.at.met w.state.trail (choice_of at.at.point.node.var n) (sym top) at.at.held.recalled)

pub returns-in_ok-learn-in-Conflict-clause-step : goal.returns-in_ok-learn-in-Conflict-clause-step
returns-in_ok-learn-in-Conflict-clause-step g c visited at =
    let p = g.C.Choices.problem c.args.choices.now in
    let s = search_of p g.G.Guide.picks c.args.limit in
    let w = c.args.self.now in
    let n = c.args.value in
    let set = c.in-Conflict.set in
    let top : c.top.result ≡ at.at.point.node.var = c.top.ensures (nodes_of at.at.outer) at.at.point.node at.at.held.nodes in
    let failed = refused (conflict p w.state.trail (choice_of c.top.result n)) set (sym c.in_ok-choose_open.ensures.verdict ∙ c.in-Conflict.is) in
    let same = subst (λ v. Leaves p w.state c.choose_open.new.self (choice_of c.top.result n) v) c.in-Conflict.is c.in_ok-choose_open.ensures.leaves in
    let trail = c.trail.ensures.trail ∙ ap (λ x. x.trail) same in
    subst (λ x. Moves g.G.Guide.recalls s (with_state w x c.saturating_add-self.result c.learn.new.self) (visited + 1) (4 + load w Try) (On (Back set))) (sym same)
    (choose-failed g.G.Guide.recalls s w visited n c.saturating_add-self.result set c.learn.new.self at c.saturating_add-self.ensures
    (subst (λ v. conflict p w.state.trail (choice_of v n) ≡ Some set) top failed)
    (subst (λ l. g.G.Guide.recalls c.learn.new.self (set ∷ at.at.met) l) trail
    (c.in_ok-learn-in-Conflict.ensures.ok at.at.met (subst (λ l. g.G.Guide.recalls w.guide at.at.met l) (sym trail) at.at.held.recalled))))
