use Rattle.std.proofs.Common.{◌≡◌, List, ◌++◌, ◌+◌, ◌*◌, drop}
use Rattle.std.specs.Prelude.{None}
use Rattle.plan_types.specs.declared.element.Element.{size-Element}
use Rattle.plan_types.specs.declared.element.Element.TheVariants.{Section}
use Rattle.cabal_lexer.specs.Tree.{tree_of}
use Rattle.project_file.specs.Parts.{Says}
use Rattle.project_file.specs.declared.part.ProjectPart.{ProjectPart}
use Rattle.project_file.proofs.parts.+items.Given as goal

-- an item's depth, and who calls whom with the same items
abbrev pub decreases-read_taken : goal.decreases-read_taken
decreases-read_taken l = 5 * goal.size-read_taken l + 4

abbrev pub decreases-read_items : goal.decreases-read_items
decreases-read_items l = 5 * goal.size-read_items l + 3

abbrev pub decreases-read_item : goal.decreases-read_item
decreases-read_item l = 5 * goal.size-read_item l + 2

abbrev pub decreases-read_section : goal.decreases-read_section
decreases-read_section l = 5 * size-Element (Section l.section.now.line l.section.now.name.now l.section.now.args.now l.section.now.items.now) + 1

abbrev pub decreases-read_branch : goal.decreases-read_branch
decreases-read_branch l = 5 * size-Element (Section l.section.now.line l.section.now.name.now l.section.now.args.now l.section.now.items.now)

-- the parts of the first items, followed by those of the rest, are the parts of all
abbrev pub invariant-read_items-loop-item : goal.invariant-read_items-loop-item
invariant-read_items-loop-item l =
    (more : List ProjectPart) → Says l.env (tree_of (drop l.item-index l.items)) l.chain more →
    (found : List ProjectPart) × Says l.env (tree_of l.items) None found × (l.parts ++ more ≡ l.initial.parts ++ found)
