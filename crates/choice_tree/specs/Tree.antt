-- The nodes of a path, and the values that they have given.
use Rattle.std.specs.Prelude.{◌≡◌, ℕ, ◌+◌, ◌-◌, ◌<◌, ◌≤◌, List, [], ◌∷◌, ◌++◌, length, drop, slice_index, All}
use Rattle.qualified_goals.specs.declared.variable.Var.{Var}
use Rattle.choice_problem.specs.declared.problem.Choice.{Choice}
use Rattle.choice_problem.specs.Trail.{choice_of}
use Rattle.choice_tree.specs.declared.tree.TreeNode.{TreeNode}

-- a node that has given no value yet
abbrev pub fresh : Var → List ℕ → TreeNode
fresh var values = record { var = var; values = values; given = 0 }

-- the node after it has given one more value
abbrev pub stepped : TreeNode → TreeNode
stepped node = record { var = node.var; values = node.values; given = node.given + 1 }

-- the values that a node hasn't given yet
abbrev pub values_left : TreeNode → List ℕ
values_left node = drop node.given node.values

-- the variable with the value given last
abbrev pub choice_at : TreeNode → Choice
choice_at node = choice_of node.var (slice_index node.values (node.given - 1))

-- the last node has given a value, if there is a node
abbrev pub HasGiven : List TreeNode → Type 0
HasGiven nodes = (outer : List TreeNode) (node : TreeNode) → nodes ≡ outer ++ node ∷ [] → 0 < node.given

-- no node has given more values than it has, and each but the last has given one
pub record IsGrown (nodes : List TreeNode) : Type 0 where
  pub within : All (λ node. node.given ≤ length node.values) nodes
  pub given : (outer : List TreeNode) (last : TreeNode) → nodes ≡ outer ++ last ∷ [] → All (λ node. 0 < node.given) outer

-- the node gave n, the first of the values left
pub record Gives (old new : TreeNode) (n : ℕ) : Type 0 where
  pub left : values_left old ≡ n ∷ values_left (stepped old)
  pub choice : choice_at (stepped old) ≡ choice_of old.var n
  pub node : new ≡ stepped old

-- the last node gave n, the first of its values left
pub record GivesNext (outer : List TreeNode) (node : TreeNode) (new : List TreeNode) (n : ℕ) : Type 0 where
  pub left : values_left node ≡ n ∷ values_left (stepped node)
  pub choice : choice_at (stepped node) ≡ choice_of node.var n
  pub nodes : new ≡ outer ++ stepped node ∷ []
