use Rattle.std.proofs.Common.{◌≡◌, List, ◌++◌, ◌+◌, ◌*◌, map, drop}
use Rattle.std.specs.Prelude.{None}
use Rattle.plan_types.specs.declared.element.Element.{size-Element}
use Rattle.plan_types.specs.declared.element.Element.TheVariants.{Section}
use Rattle.section_syntax.specs.declared.part.SectionPart.{SectionPart}
use Rattle.section_syntax.specs.Branch.{condition}
use Rattle.section_syntax.specs.Items.{Items, import_fits}
use Rattle.cabal_lexer.specs.Tree.{Tree, end, tree_of}
use Rattle.section_syntax.proofs.items.+items.Given as goal

-- an item's depth, and who calls whom with the same item
abbrev pub decreases-read_items : goal.decreases-read_items
decreases-read_items l = 3 * goal.size-read_items l + 2

abbrev pub decreases-read_item : goal.decreases-read_item
decreases-read_item l = 3 * goal.size-read_item l + 1

abbrev pub decreases-read_section : goal.decreases-read_section
decreases-read_section l = 3 * size-Element (Section l.section.now.line l.section.now.name.now l.section.now.args.now l.section.now.items.now)

-- the kept state is that of the earlier items; their parts, followed by those of the others, are the parts of all
abbrev pub invariant-read_items-loop-item : goal.invariant-read_items-loop-item
invariant-read_items-loop-item l =
    (l.branches ≡ l.initial.branches)
    × (front : Tree) × (l.before.fits ≡ import_fits l.inside.spec l.inside.kind front (map condition l.initial.branches))
    × ((more : List SectionPart) → Items l.inside.spec l.inside.kind front (tree_of (drop l.item-index l.items)) (map condition l.initial.branches) l.before.chain more
    → (found : List SectionPart) × Items l.inside.spec l.inside.kind end (tree_of l.items) (map condition l.initial.branches) None found
    × (l.parts ++ more ≡ l.initial.parts ++ found))
