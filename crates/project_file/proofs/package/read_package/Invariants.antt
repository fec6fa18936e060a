use Rattle.std.proofs.Common.{◌≡◌, ◌++◌, drop}
use Rattle.cabal_lexer.specs.Tree.{tree_of}
use Rattle.project_file.specs.Parts.{flag_parts}
use Rattle.project_file.proofs.package.read_package.Given as goal

-- the parts so far and those of the rest are all parts
abbrev pub invariant-loop-item : goal.invariant-loop-item
invariant-loop-item l = l.parts ++ flag_parts l.args (tree_of (drop l.item-index l.items)) ≡ l.initial.parts ++ flag_parts l.args (tree_of l.items)
