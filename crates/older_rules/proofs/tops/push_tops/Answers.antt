use Rattle.std.proofs.Common.{◌≡◌, ◌++◌, [], sym, ap, ◌∙◌, drop, arith}
use Rattle.std.proofs.lemmas.List.{append-nil, drop_all}
use Rattle.cabal_lexer.specs.Tree.{tree_of}
use Rattle.older_rules.specs.Tops.{tops, tops_told}
use Rattle.older_rules.proofs.tops.push_tops.Goals as goal

pub returns-clause-items : goal.returns-clause-items
unfolding tops
returns-clause-items c =
    let r = c.args.rewriting.now in
    let over : drop c.loop-item.item-index c.args.items.now ≡ [] = drop_all c.loop-item.item-index c.args.items.now (omega (arith, c.loop-item-test.false, c.loop-item.auto.item-index-end)) in
    sym (append-nil c.loop-item.out) ∙ ap (λ rest. c.loop-item.out ++ tops r.edition r.tools.now.entries r.names.now.entries (tree_of rest)) (sym over) ∙ c.loop-item.invariant.0

pub returns-clause-changes : goal.returns-clause-changes
unfolding tops_told
returns-clause-changes c =
    let r = c.args.rewriting.now in
    let over : drop c.loop-item.item-index c.args.items.now ≡ [] = drop_all c.loop-item.item-index c.args.items.now (omega (arith, c.loop-item-test.false, c.loop-item.auto.item-index-end)) in
    sym (append-nil c.loop-item.changes) ∙ ap (λ rest. c.loop-item.changes ++ tops_told r.edition r.tools.now.entries (tree_of rest)) (sym over) ∙ c.loop-item.invariant.1
