use Rattle.depend_text.specs.Depends.{LibraryEntry, LibraryFault, ToolEntry, ToolFault}
use Rattle.entry_text.proofs.OneReading as proof
use Rattle.depend_text.proofs.OneLibrary.{library_settled, tool_settled}
use Rattle.depend_text.proofs.laws.one_fault.Goals as goal

pub returns-clause-depends : goal.returns-clause-depends
returns-clause-depends c spec kind line = proof.one_first (LibraryEntry spec kind line) (LibraryFault spec) (library_settled spec kind line)

pub returns-clause-tools : goal.returns-clause-tools
returns-clause-tools c spec line = proof.one_first (ToolEntry spec line) (ToolFault spec) (tool_settled spec line)
