use Rattle.depend_text.specs.Depends.{several}
use Rattle.entry_text.proofs.FoundEntries.{ok_so}
use Rattle.depend_text.proofs.part.named_libraries.Goals as goal

pub returns-in-Some-clause-found : goal.returns-in-Some-clause-found
returns-in-Some-clause-found c =
    ok_so _ _ c.listed_libraries.result (λ p is. several c.in-Some.list.now is.1.0 c.in-Some.ensures.some is.0 is.1.1 is.1.2) c.listed_libraries.ensures.found
