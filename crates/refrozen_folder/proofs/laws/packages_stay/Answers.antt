use Rattle.std.proofs.Common.{subst}
use Rattle.refrozen_folder.proofs.Index.{same-index}
use Rattle.refrozen_folder.proofs.Locals.{AreOthers, locals-other}
use Rattle.refrozen_folder.proofs.Places.{same-locals}
use Rattle.refrozen_folder.proofs.laws.packages_stay.Goals as goal

pub returns-clause-locals : goal.returns-clause-locals
returns-clause-locals c files now text entries is = same-locals files now text is entries

pub returns-clause-index : goal.returns-clause-index
returns-clause-index c env places extra files now text entries locals index is found h =
    same-index files now text is env places extra locals index (subst AreOthers found (locals-other files entries)) h
