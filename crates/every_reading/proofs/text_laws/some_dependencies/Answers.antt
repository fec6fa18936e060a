use Rattle.depend_text.specs.Depends.{LibraryEntry, LibraryFault, ToolEntry, ToolFault}
use Rattle.every_reading.proofs.EntryAnswers as proof
use Rattle.every_reading.proofs.DependencyAnswers.{some_library, some_tool}
use Rattle.every_reading.proofs.text_laws.some_dependencies.Goals as goal

pub returns-clause-depends : goal.returns-clause-depends
returns-clause-depends c spec kind line = proof.some_reading (LibraryEntry spec kind line) (LibraryFault spec) (some_library spec kind line)

pub returns-clause-tools : goal.returns-clause-tools
returns-clause-tools c spec line = proof.some_reading (ToolEntry spec line) (ToolFault spec) (some_tool spec line)
