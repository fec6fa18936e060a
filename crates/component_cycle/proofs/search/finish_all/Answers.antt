use Rattle.std.proofs.Common.{◌≡◌, ◌<◌, List, [], length, get_or, set, sym, ap, ◌∙◌, subst, inl, inr, arith, get_or-set_same, get_or-set_other, length-set}
use Rattle.std.proofs.lemmas.Bool.{cases_eq}
use Rattle.component_cycle.specs.declared.search.NodeState.{NodeState}
use Rattle.component_cycle.specs.declared.search.NodeState.TheVariants.{Unseen, Finished}
use Rattle.component_cycle.specs.Search.{costs}
use Rattle.component_cycle.proofs.Costs.{costs-set, cost-seen}
use Rattle.component_cycle.proofs.search.finish_all.Goals as goal

pub loop-node-preserved : goal.loop-node-preserved
loop-node-preserved c =
    let inv = c.loop-node.invariant in
    let j = c.loop-node.node-index in
    let states = c.loop-node.states in
    let node = get_or c.args.nodes.now j 0 in
    let x = Finished c.args.on_cycle in
    let is : c.set.new.self ≡ set states node x = c.set.ensures in
    let below : j < length c.args.nodes.now = c.loop-node-test.true in
    let first : node < length c.args.states.now = c.requires.inside j 0 below in
    let inside : node < length states = omega (arith, inv.count, first) in
    record {
      count = ap length is ∙ length-set states node x ∙ inv.count;
      settled = λ i h. elim (cases_eq (get_or c.args.nodes.now i 0) node) [
        | inl e ↦ subst (λ v. get_or c.set.new.self v Unseen ≡ x) (sym e) (ap (λ (ss : List NodeState). get_or ss node Unseen) is ∙ get_or-set_same states node x Unseen inside)
        | inr ne ↦
            let k : i < j = elim (cases_eq i j) [ inl e ↦ absurd (ne (ap (λ n. get_or c.args.nodes.now n 0) e)) | inr n ↦ omega (arith, h, n) ] in
            ap (λ (ss : List NodeState). get_or ss (get_or c.args.nodes.now i 0) Unseen) is ∙ get_or-set_other states node (get_or c.args.nodes.now i 0) x Unseen ne ∙ inv.settled i k
      ];
      others = λ v h.
          ap (λ (ss : List NodeState). get_or ss v Unseen) is ∙ get_or-set_other states node v x Unseen (λ e. h j (omega arith) (sym e)) ∙ inv.others v (λ i k. h i (omega (arith, k)));
      seen = λ v h e.
          elim (cases_eq v node) [
            | inl same ↦
                let now : get_or c.set.new.self v Unseen ≡ x = subst (λ u. get_or c.set.new.self u Unseen ≡ x) (sym same) (ap (λ (ss : List NodeState). get_or ss node Unseen) is ∙ get_or-set_same states node x Unseen inside) in
                absurd (cc (now, e))
            | inr ne ↦ inv.seen v h (sym (ap (λ (ss : List NodeState). get_or ss v Unseen) is ∙ get_or-set_other states node v x Unseen ne) ∙ e)
          ];
      costs = λ needs len h.
          let seen = inv.seen node (h j below) in
          let step = costs-set needs states node x (omega (arith, first, len)) (inv.count ∙ len) in
          let none = cost-seen (get_or needs node []) (get_or states node Unseen) seen in
          ap (costs needs) is ∙ omega (arith, step, none) ∙ inv.costs needs len h;
    }
