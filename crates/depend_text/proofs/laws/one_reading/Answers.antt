use Rattle.depend_text.specs.Depends.{LibraryEntry, ToolEntry}
use Rattle.entry_text.proofs.OneReading as proof
use Rattle.depend_text.proofs.OneLibrary.{library_settled, tool_settled}
use Rattle.depend_text.proofs.laws.one_reading.Goals as goal

pub returns-clause-depends : goal.returns-clause-depends
returns-clause-depends c spec kind line = proof.one_reading (LibraryEntry spec kind line) (library_settled spec kind line).one

pub returns-clause-tools : goal.returns-clause-tools
returns-clause-tools c spec line = proof.one_reading (ToolEntry spec line) (tool_settled spec line).one
