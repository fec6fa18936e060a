use Rattle.std.proofs.Common.{List, ◌++◌, drop}
use Rattle.section_syntax.specs.declared.part.HeadField.{HeadField}
use Rattle.section_syntax.specs.declared.part.Section.{Section}
use Rattle.section_syntax.specs.File.{Says}
use Rattle.cabal_lexer.specs.Tree.{tree_of}
use Rattle.section_syntax.proofs.file.read_file.Given as goal

-- the reading of the first elements, followed by one of the others, is one of all
abbrev pub invariant-loop-item : goal.invariant-loop-item
invariant-loop-item l = (more_heads : List HeadField) (more_sections : List Section) → Says l.spec (tree_of (drop l.item-index l.items)) more_heads more_sections →
    Says l.spec (tree_of l.items) (l.heads ++ more_heads) (l.sections ++ more_sections)
