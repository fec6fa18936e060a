use Rattle.std.proofs.Common.{◌≡◌, ◌∙◌, sym, ap, subst, map, [], ◌∷◌, ◌++◌, None}
use Rattle.choice_problem.specs.declared.problem.Choice.{Choice}
use Rattle.choice_problem.specs.Conflict.{first_set, conflict}
use Rattle.choice_problem.specs.ConflictSet.{has}
use Rattle.choice_problem.specs.Trail.{value_in}
use Rattle.validation.specs.View.{View}
use Rattle.validation.specs.Pending.{AreOwned, count_before}
use Rattle.choice_stack.specs.Stack.{made}
use Rattle.validation.specs.Verdict.{verdict_of, set_after}
use Rattle.validation.proofs.Verdicts.{Ready, ready, none-from, early, conflict-early, conflict-weighed, none-lasting, stands-made}
use Rattle.validation.proofs.Settles.{settled}
use Rattle.validation.proofs.Weighed.{demands-owned}
use Rattle.validation.proofs.state.State.choose_open.Given as given
use Rattle.validation.proofs.state.State.choose_open.Goals as goal
use Rattle.validation.proofs.state.State.choose_open.Goals.{After-self, In_ok-addition, In_ok-set-2}

-- the stack may try the choice
mine : (g : given.Over) (c : After-self g) → Ready (g.C.Choices.problem c.args.choices.now) c.self.inside.stack c.args.c
mine g c =
    ready (g.C.Choices.problem c.args.choices.now) c.self.inside.stack c.args.self.now c.args.c (g.met.C.Choices.lawful c.args.choices.now) c.self.view_is
    c.requires.stands c.requires.open c.requires.value

-- the addition has the choice's demands
demands : (g : given.Over) (c : In_ok-addition g) → c.in_ok-addition.addition.demands ≡ (g.C.Choices.problem c.args.choices.now).demands c.args.c
demands g c = c.in_ok-addition.ensures.demands ∙ c.in_ok-demands.ensures

-- where no rule gave a set before the addition, the conflict is the set after it
weighed : (g : given.Over) (c : In_ok-set-2 g) → Ready (g.C.Choices.problem c.args.choices.now) c.self.inside.stack c.args.c
    → c.in_ok-addition.addition.demands ≡ (g.C.Choices.problem c.args.choices.now).demands c.args.c
    → conflict (g.C.Choices.problem c.args.choices.now) c.args.self.now.trail c.args.c ≡ c.in_ok-set-2.field-0
weighed g c mine demands =
    let p = g.C.Choices.problem c.args.choices.now in
    let x = c.self.inside.stack in
    let added = c.in_ok-addition.addition in
    let first : None ≡ first_set (early p x c.args.c) = sym (none-from c.in_ok-set.field-0 c.in_default.not-Some) ∙ c.in_ok-set.ensures in
    let second : c.in_ok-set-2.field-0 ≡ set_after (made x c.args.c added.demands) =
    c.in_ok-set-2.ensures ∙ ap (λ (d : Choice). set_after (made x d added.demands)) c.in_ok-addition.ensures.choice in
    ap (λ (s : View). conflict p s.trail c.args.c) (sym c.self.view_is) ∙ conflict-weighed p x c.args.c added.demands c.in_ok-set-2.field-0 mine demands first second

pub fault_before-requires : goal.fault_before-requires
fault_before-requires g c = (mine g (goal.at.fault_before-requires g c).After-self).choice

pub returns-in-Some-clause-verdict : goal.returns-in-Some-clause-verdict
returns-in-Some-clause-verdict g c =
    let p = g.C.Choices.problem c.args.choices.now in
    let ready = mine g (goal.at.returns-in-Some-clause-verdict g c).After-self in
    sym (ap verdict_of (ap (λ (s : View). conflict p s.trail c.args.c) (sym c.self.view_is)
    ∙ conflict-early p c.self.inside.stack c.args.c c.in-Some.set ready (sym c.in-Some.is ∙ c.in_ok-set.ensures)))

pub demands-requires : goal.demands-requires
demands-requires g c = (mine g (goal.at.demands-requires g c).After-self).choice

pub of-requires : goal.of-requires
of-requires g c = (mine g (goal.at.of-requires g c).After-self).free

pub fault_after-requires-clause-free : goal.fault_after-requires-clause-free
fault_after-requires-clause-free g c =
    ap (λ (d : Choice). value_in c.self.inside.stack.trail d.var) c.in_ok-addition.ensures.choice ∙ (mine g (goal.at.fault_after-requires-clause-free g c).After-self).free

pub fault_after-requires-clause-settled : goal.fault_after-requires-clause-settled
fault_after-requires-clause-settled g c =
    settled (g.C.Choices.problem c.args.choices.now) c.self.inside.stack (g.met.C.Choices.lawful c.args.choices.now) (mine g (goal.at.fault_after-requires-clause-settled g c).After-self).stands

pub fault_after-requires-clause-owned : goal.fault_after-requires-clause-owned
fault_after-requires-clause-owned g c =
    let s = goal.at.fault_after-requires-clause-owned g c in
    let added = c.in_ok-addition.addition in
    subst (λ (d : Choice). AreOwned d.var added.demands) (sym c.in_ok-addition.ensures.choice)
    (demands-owned (g.C.Choices.problem c.args.choices.now) c.args.c added.demands (g.met.C.Choices.lawful c.args.choices.now) (mine g s.After-self).choice (demands g s.In_ok-addition))

pub fault_after-requires-clause-lasting : goal.fault_after-requires-clause-lasting
fault_after-requires-clause-lasting g c = (mine g (goal.at.fault_after-requires-clause-lasting g c).After-self).stands.lasting

pub make-requires-clause-new : goal.make-requires-clause-new
make-requires-clause-new g c =
    ap (λ (d : Choice). value_in c.self.inside.stack.trail d.var) c.in_ok-addition.ensures.choice ∙ (mine g (goal.at.make-requires-clause-new g c).After-self).free

pub make-requires-clause-asked : goal.make-requires-clause-asked
make-requires-clause-asked g c =
    let targets = map (λ e. e.target) c.self.inside.stack.active in
    ap (λ (d : Choice). has targets d.var) c.in_ok-addition.ensures.choice ∙ (mine g (goal.at.make-requires-clause-asked g c).After-self).asked

pub returns-in-Some-2-clause-verdict : goal.returns-in-Some-2-clause-verdict
returns-in-Some-2-clause-verdict g c =
    let s = goal.at.returns-in-Some-2-clause-verdict g c in
    sym (ap verdict_of (weighed g s.In_ok-set-2 (mine g s.After-self) (demands g s.In_ok-addition) ∙ c.in-Some-2.is))

pub returns-clause-verdict : goal.returns-clause-verdict
returns-clause-verdict g c =
    let s = goal.at.returns-clause-verdict g c in
    let none = none-from c.in_ok-set-2.field-0 c.in_default-2.not-Some in
    sym (ap verdict_of (weighed g s.In_ok-set-2 (mine g s.After-self) (demands g s.In_ok-addition) ∙ none))

pub returns-clause-leaves : goal.returns-clause-leaves
returns-clause-leaves g c =
    let s = goal.at.returns-clause-leaves g c in
    let x = c.self.inside.stack in
    let added = c.in_ok-addition.addition in
    let last : c.in_ok-set-2.field-0 ≡ None = none-from c.in_ok-set-2.field-0 c.in_default-2.not-Some in
    let same : c.make.new.self ≡ made x c.args.c added.demands = c.in_ok-make.ensures.ok ∙ ap (λ (d : Choice). made x d added.demands) c.in_ok-addition.ensures.choice in
    let lasting = none-lasting c.make.new.self (count_before c.make.new.self) (sym last ∙ c.in_ok-set-2.ensures ∙ ap set_after (sym c.in_ok-make.ensures.ok)) in (
      stands-made (g.C.Choices.problem c.args.choices.now) x c.make.new.self c.args.c added.demands (mine g s.After-self) (demands g s.In_ok-addition) same lasting,
      ap (λ (s : View). s.trail) same ∙ ap (λ (s : View). s.trail ++ c.args.c ∷ []) c.self.view_is,
    )
