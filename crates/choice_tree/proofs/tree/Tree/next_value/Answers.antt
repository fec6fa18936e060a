-- the last node gives its next value, or is unchanged where none is left
use Rattle.std.proofs.Common.{◌≡◌, [], ◌≢◌, ◌-◌, List, ◌++◌, ◌∷◌, length, sym, subst, arith}
use Rattle.std.specs.Prelude.{slice_set, MatchOption}
use Rattle.choice_tree.specs.declared.tree.TreeNode.{TreeNode}
use Rattle.choice_tree.specs.Tree.{values_left, GivesNext}
use Rattle.choice_tree.proofs.NodePaths.{grown-set, next-of}
use Rattle.choice_tree.proofs.tree.Tree.next_value.Goals as goal

pub invariant_of-self : goal.invariant_of-self
invariant_of-self c =
    let k : c.len-last.result - 1 ≡ length c.self.inside.nodes.items - 1 = omega (arith, c.len-last.ensures) in
    let some : c.self.inside.nodes.items ≢ [] = subst (λ l. l ≢ []) (sym c.self.view_is) c.requires in
    grown-set c.self.inside.nodes.items c.index_mut.result.now c.give.new.node (c.len-last.result - 1) some k (c.index_mut.ensures.value) c.self.invariant c.give.ensures.within

pub returns : goal.returns
returns c =
    let k : c.len-last.result - 1 ≡ length c.self.inside.nodes.items - 1 = omega (arith, c.len-last.ensures) in
    subst
    (λ l. (outer : List TreeNode) (node : TreeNode) → l ≡ outer ++ node ∷ [] → MatchOption c.give.result
    ((values_left node ≡ []) × (slice_set c.self.inside.nodes.items (c.len-last.result - 1) c.give.new.node ≡ l))
    (GivesNext outer node (slice_set c.self.inside.nodes.items (c.len-last.result - 1) c.give.new.node)))
    c.self.view_is
    (next-of c.self.inside.nodes.items c.index_mut.result.now c.give.new.node (c.len-last.result - 1) c.give.result k c.index_mut.ensures.value c.give.ensures.next)
