use Rattle.std.proofs.Common.{◌+◌, ◌-◌, ◌*◌, ◌≤◌, length, drop}
use Rattle.cabal_lexer.proofs.Blocks.{Leads}
use Rattle.cabal_lexer.proofs.elements.+layout.Given as goal

-- A nested call goes one level deeper, or reads a part of the same element.
abbrev pub decreases-read_items : goal.decreases-read_items
decreases-read_items l = 3 * (66 - l.depth) + 2

abbrev pub decreases-read_element : goal.decreases-read_element
decreases-read_element l = 3 * (66 - l.depth) + 1

abbrev pub decreases-read_section : goal.decreases-read_section
decreases-read_section l = 3 * (66 - l.depth)

abbrev pub decreases-read_braced_section : goal.decreases-read_braced_section
decreases-read_braced_section l = 3 * (66 - l.depth)

abbrev pub invariant-read_items-loop-line : goal.invariant-read_items-loop-line
invariant-read_items-loop-line l = Leads l.bound l.depth l.braced l.lines l.items (drop l.at l.lines) × (l.at ≤ length l.lines)

abbrev pub decreases-read_items-loop-line : goal.decreases-read_items-loop-line
decreases-read_items-loop-line l = length l.lines - l.at
