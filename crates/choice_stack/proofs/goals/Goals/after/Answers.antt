use Rattle.std.proofs.Common.{◌≡◌, ◌<◌, ◌∙◌, ℕ, Option, Some, true, false, cond, find, length, sym, ap, subst, arith}
use Rattle.goal_links.specs.Links.{var_at, vars_behind}
use Rattle.goal_links.specs.Mentions.{Mentioned}
use Rattle.choice_stack.specs.Open.{is_behind}
use Rattle.choice_stack.proofs.OpenVariables.{vars_from, from-first, from-next, stands-at, behind-is}
use Rattle.choice_stack.proofs.goals.Goals.after.Goals as goal

pub loop-at-init : goal.loop-at-init
loop-at-init c =
    let s = c.self.inside.mentions.row in
    record {
      rest = sym (ap (find (is_behind c.args.v)) (from-first s c.first-at.result c.first-at.ensures.first));
      stands = stands-at s c.first-at.result c.first-at.ensures.within c.first-at.ensures.linked;
    }

pub returns-then-is_behind-clause-after : goal.returns-then-is_behind-clause-after
returns-then-is_behind-clause-after c =
    let s = c.self.inside.mentions.row in
    let n = c.in-Some.entry in
    let test : is_behind c.args.v (var_at s.vars n) ≡ true = ap (is_behind c.args.v) (sym c.var_of-w.ensures) ∙ sym c.is_behind.ensures ∙ c.if-is_behind.true in
    let found : find (is_behind c.args.v) s.linked ≡ Some (var_at s.vars n) =
    c.loop-at.invariant.rest ∙ ap (λ (o : Option ℕ). find (is_behind c.args.v) (vars_from s o)) c.in-Some.is
    ∙ ap (λ b. cond b (Some (var_at s.vars n)) (find (is_behind c.args.v) (vars_behind s n))) test in
    ap Some c.var_of-w.ensures ∙ sym found ∙ ap (λ (m : Mentioned). find (is_behind c.args.v) m.row.linked) c.self.view_is ∙ behind-is c.args.v c.args.self.now.row.linked

pub loop-at-smaller : goal.loop-at-smaller
loop-at-smaller c =
    let s = c.self.inside.mentions.row in
    let rest = from-next s c.in-Some.entry c.next-at.result c.self.invariant.rising c.next-at.ensures.next in
    subst (λ (o : Option ℕ). length (vars_from s c.next-at.result) < length (vars_from s o)) (sym c.in-Some.is) (omega (arith, ap length rest))

pub loop-at-preserved : goal.loop-at-preserved
loop-at-preserved c =
    let s = c.self.inside.mentions.row in
    let n = c.in-Some.entry in
    let test : is_behind c.args.v (var_at s.vars n) ≡ false = ap (is_behind c.args.v) (sym c.var_of-w.ensures) ∙ sym c.is_behind.ensures ∙ c.if-is_behind.false in
    let rest = from-next s n c.next-at.result c.self.invariant.rising c.next-at.ensures.next in
    record {
      rest =
          c.loop-at.invariant.rest ∙ ap (λ (o : Option ℕ). find (is_behind c.args.v) (vars_from s o)) c.in-Some.is
          ∙ ap (λ b. cond b (Some (var_at s.vars n)) (find (is_behind c.args.v) (vars_behind s n))) test
          ∙ sym (ap (find (is_behind c.args.v)) rest);
      stands = stands-at s c.next-at.result c.next-at.ensures.within c.next-at.ensures.linked;
    }

pub returns-clause-after : goal.returns-clause-after
returns-clause-after c =
    let s = c.self.inside.mentions.row in
    sym (c.loop-at.invariant.rest ∙ ap (λ (o : Option ℕ). find (is_behind c.args.v) (vars_from s o)) c.in_default.is)
    ∙ ap (λ (m : Mentioned). find (is_behind c.args.v) m.row.linked) c.self.view_is ∙ behind-is c.args.v c.args.self.now.row.linked
