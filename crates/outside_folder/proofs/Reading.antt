-- One more read of a file.
use Rattle.std.proofs.Common.{◌≡◌, ℕ, ◌<◌, List, [], ◌∷◌, ◌++◌, length, Option, Some, None, Result, Ok, Err, refl, sym, subst}
use Rattle.std.specs.Prelude.{IfOk, IsErrOf}
use Rattle.std.proofs.lemmas.List.Sums.{fold-append}
use Rattle.std.specs.declared.io.Error.{Error}
use Rattle.outside_folder.specs.Files.{Bytes}
use Rattle.outside_folder.specs.RealFolder.{GivesPieces, IsReadAs, IsUnread, joined}
use Rattle.outside_folder.specs.declared.folder.FolderFault.{FolderFault}
use Rattle.outside_folder.specs.declared.folder.FolderFault.TheVariants.{Failed, TooLarge, NoMemory}

pub GivesPieces-more : {F : Type 0} (gives : F → Result Bytes Error → F → Type 0) (file : F) (pieces : List Bytes) (now : F) (piece : Bytes) (next : F)
    → GivesPieces gives file pieces now → gives now (Ok piece) next → 0 < length piece → GivesPieces gives file (pieces ++ piece ∷ []) next
GivesPieces-more gives file [] now piece next so_far gave some = (next, subst (λ f. gives f (Ok piece) next) (sym so_far) gave, some, refl)
GivesPieces-more gives file (one ∷ pieces) now piece next so_far gave some =
    (so_far.0, so_far.1, so_far.2, GivesPieces-more gives so_far.0 pieces now piece next so_far.3 gave some)

pub joined-more : (pieces : List Bytes) (piece : Bytes) → joined (pieces ++ piece ∷ []) ≡ joined pieces ++ piece
joined-more pieces piece = fold-append (λ bytes piece. bytes ++ piece) [] pieces (piece ∷ [])

-- the answer after these pieces and then an error of a read
pub stopped : {F : Type 0} (gives : F → Result Bytes Error → F → Type 0) (path : Bytes) (file : F) (pieces : List Bytes) (now : F) (error : Error) (next : F) (answer : Result (Option Bytes) FolderFault)
    → GivesPieces gives file pieces now → gives now (Err error) next → IsUnread path error answer → IfOk answer (λ bytes. bytes ≡ None) → (IsErrOf answer TooLarge → ⊥) → IsReadAs gives path file answer
stopped gives path file pieces now error next (Ok (Some bytes)) so_far gave told never large = absurd (cc never)
stopped gives path file pieces now error next (Ok None) so_far gave told never large = (joined pieces, error, (pieces, now, next, so_far, refl, gave), told)
stopped gives path file pieces now error next (Err Failed) so_far gave told never large = (joined pieces, error, (pieces, now, next, so_far, refl, gave), told)
stopped gives path file pieces now error next (Err TooLarge) so_far gave told never large = absurd (large refl)
stopped gives path file pieces now error next (Err NoMemory) so_far gave told never large = tt
