use Rattle.std.proofs.Common.{◌≡◌, ◌<◌, ◌++◌, ◌∷◌, [], ◌∙◌, ℕ, List, Option, true, IfSome, length, sym, ap, subst, arith, append_assoc, append-nil}
use Rattle.goal_links.specs.Row.{has_node}
use Rattle.goal_links.specs.Chains.{cell_at, chain_at}
use Rattle.goal_links.specs.Links.{chain_with}
use Rattle.goal_links.specs.Mentions.{Mentioned}
use Rattle.goal_links.proofs.ChainWalks.{said-once, walk_from, walk-first, walk-on}
use Rattle.goal_links.proofs.mentions.Mentions.cells_in.Goals as goal

pub loop-at-init : goal.loop-at-init
loop-at-init c =
    let s = c.self.inside.links in
    let chain = chain_at s.chains c.args.entry in
    record {
      cells =
          sym (walk-first chain c.chain_first-at.result (said-once s c.self.inside.count c.self.invariant c.args.entry (subst (λ (m : Mentioned). c.args.entry < length m.row.vars) (sym c.self.view_is) c.requires)) c.chain_first-at.ensures.first)
          ∙ ap (λ (l : List ℕ). l ++ walk_from chain c.chain_first-at.result) (sym c.new-found.ensures.items);
      on = record { within = c.chain_first-at.ensures.within; linked = c.chain_first-at.ensures.linked; owner = c.chain_first-at.ensures.owner };
    }

pub chain_next-at-requires-clause-cell : goal.chain_next-at-requires-clause-cell
chain_next-at-requires-clause-cell c = subst (λ (o : Option ℕ). IfSome o (λ k. k < length c.self.inside.links.cells)) c.in-Some.is c.loop-at.invariant.on.within

pub chain_next-at-requires-clause-linked : goal.chain_next-at-requires-clause-linked
chain_next-at-requires-clause-linked c =
    subst (λ (o : Option ℕ). IfSome o (λ k. has_node (chain_with c.self.inside.links k) k ≡ true)) c.in-Some.is c.loop-at.invariant.on.linked

pub loop-at-smaller : goal.loop-at-smaller
loop-at-smaller c =
    let s = c.self.inside.links in
    let rest = walk-on s c.args.entry (said-once s c.self.inside.count c.self.invariant c.args.entry (subst (λ (m : Mentioned). c.args.entry < length m.row.vars) (sym c.self.view_is) c.requires)) c.loop-at.at c.chain_next-at.result c.in-Some.cell c.loop-at.invariant.on c.in-Some.is c.chain_next-at.ensures.next in
    omega (arith, ap length rest)

pub loop-at-preserved : goal.loop-at-preserved
loop-at-preserved c =
    let s = c.self.inside.links in
    let chain = chain_at s.chains c.args.entry in
    let k = c.in-Some.cell in
    let rest = walk-on s c.args.entry (said-once s c.self.inside.count c.self.invariant c.args.entry (subst (λ (m : Mentioned). c.args.entry < length m.row.vars) (sym c.self.view_is) c.requires)) c.loop-at.at c.chain_next-at.result k c.loop-at.invariant.on c.in-Some.is c.chain_next-at.ensures.next in
    let behind_k = walk_from chain c.chain_next-at.result in
    record {
      cells =
          c.loop-at.invariant.cells ∙ ap (λ (l : List ℕ). c.loop-at.found.items ++ l) rest
          ∙ sym (append_assoc c.loop-at.found.items (k ∷ []) behind_k)
          ∙ ap (λ (l : List ℕ). l ++ behind_k) (sym c.in_ok-push.ensures.items);
      on = record {
        within = c.chain_next-at.ensures.within;
        linked = c.chain_next-at.ensures.linked;
        owner =
            subst (λ (e : ℕ). IfSome c.chain_next-at.result (λ n. (cell_at s.cells n).entry ≡ e))
            (subst (λ (o : Option ℕ). IfSome o (λ n. (cell_at s.cells n).entry ≡ c.args.entry)) c.in-Some.is c.loop-at.invariant.on.owner) c.chain_next-at.ensures.owner;
      };
    }

pub returns : goal.returns
returns c =
    let s = c.self.inside.links in
    let chain = chain_at s.chains c.args.entry in
    sym (c.loop-at.invariant.cells ∙ ap (λ (o : Option ℕ). c.loop-at.found.items ++ walk_from chain o) c.in_default.is
    ∙ append-nil c.loop-at.found.items)
    ∙ ap (λ (m : Mentioned). chain_at m.row.chains c.args.entry) c.self.view_is
