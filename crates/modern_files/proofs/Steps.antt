-- One more frame, one more list, and the end of a run.
use Rattle.std.proofs.Common.{◌≡◌, ℕ, ◌+◌, ◌<◌, ◌≤◌, List, [], ◌∷◌, ◌++◌, length, length-append, take, drop, get_or, Option, Some, None, Result, Ok, Err, true, false, ◌==◌, refl, sym, ap, ◌∙◌, subst, inl, inr, arith}
use Rattle.std.specs.Prelude.{IsErrAnd}
use Rattle.std.specs.Option.{option_map}
use Rattle.std.proofs.Math.Seq.{take-append-add}
use Rattle.std.proofs.lemmas.Bool.{false≢true}
use Rattle.std.proofs.lemmas.Bool.Decides.{nat_tests}
use Rattle.std.proofs.lemmas.List.{append-nil, append_assoc, drop_more, take-append-drop, take_more}
use Rattle.plan_types.specs.Refusal.{Answers, Settles}
use Rattle.plan_types.specs.declared.refusal.Halt.{Halt}
use Rattle.plan_types.specs.declared.refusal.Halt.TheVariants as halt
use Rattle.plan_types.specs.declared.refusal.Refusal.{Refusal}
use Rattle.outside_folder.specs.Calls.{content_at}
use Rattle.outside_folder.specs.Files.{Bytes, Files}
use Rattle.outside_folder.specs.Sink.{Appends, AppendsPrefix}
use Rattle.plan_print.specs.Texts.{refusal_text}
use Rattle.modern_files.specs.Frames.{AreFrames, IsFrame}
use Rattle.modern_files.specs.Lists.{AreListed, IsListed, behind}
use Rattle.modern_files.specs.Output.{AreFirst, Writes, WritesFrame, WritesFrames, WritesText, WritesUsage, cut, frames, no_room, out_of_memory, refused, unread, usage, usage_text, whole}
use Rattle.modern_files.specs.Status.{status_of}
use Rattle.modern_files.specs.declared.status.Status.{Status}
use Rattle.modern_files.specs.declared.status.Status.TheVariants as status
use Rattle.modern_files.specs.declared.status.Stop.{Stop}
use Rattle.modern_files.specs.declared.status.Stop.TheVariants as stop

-- one write after another
pub Appends-then : (old mid new : Option (List ℕ)) (a b : List ℕ) → Appends old mid a → Appends mid new b → Appends old new (a ++ b)
Appends-then None mid new a b first second = second ∙ ap (option_map (λ bytes. bytes ++ b)) first
Appends-then (Some x) mid new a b first second = second ∙ ap (option_map (λ bytes. bytes ++ b)) first ∙ ap Some (append_assoc x a b)

-- ---- frames

frames-more : (files : Files) (first : List Bytes) (path text frame : Bytes) → AreFrames files first text → IsFrame path (content_at files path) frame
    → AreFrames files (first ++ path ∷ []) (text ++ frame)
frames-more files [] path text frame none is = (frame, [], is, refl, ap (λ t. t ++ frame) none ∙ sym (append-nil frame))
frames-more files (other ∷ first) path text frame are is =
    (are.0, are.1 ++ frame, are.2, frames-more files first path are.1 frame are.3 is, ap (λ t. t ++ frame) are.4 ∙ append_assoc are.0 are.1 frame)

-- the frames of the first files were written
abbrev pub Wrote : Files → List Bytes → ℕ → Option Bytes → Option Bytes → Type 0
Wrote files paths i old new = (text : Bytes) × AreFrames files (take i paths) text × Appends old new text

pub frames-next : (files : Files) (paths : List Bytes) (i : ℕ) (path text frame : Bytes) → i < length paths → path ≡ get_or paths i path
    → AreFrames files (take i paths) text → IsFrame path (content_at files path) frame → AreFrames files (take (i + 1) paths) (text ++ frame)
frames-next files paths i path text frame within at are is =
    subst (λ first. AreFrames files first (text ++ frame)) (ap (λ p. take i paths ++ p ∷ []) at ∙ sym (take_more paths i path within))
    (frames-more files (take i paths) path text frame are is)

pub first-frames : (files : Files) (paths : List Bytes) (i : ℕ) (text : Bytes) → AreFrames files (take i paths) text → AreFirst files paths text
first-frames files paths i text are = record { first = take i paths; rest = drop i paths; are = sym (take-append-drop i paths); frames = are }

-- ---- lists

behind-none : (more : Result (List Bytes) Refusal) → behind [] more ≡ more
behind-none (Ok paths) = refl
behind-none (Err refusal) = refl

behind-both : (paths new : List Bytes) (more : Result (List Bytes) Refusal) → behind paths (behind new more) ≡ behind (paths ++ new) more
behind-both paths new (Ok more) = ap Ok (sym (append_assoc paths new more))
behind-both paths new (Err refusal) = refl

-- what is listed of the lists from a place on is listed behind these paths
abbrev pub Goes : Files → List Bytes → ℕ → List Bytes → Type 0
Goes files lists i paths = (more : Result (List Bytes) Refusal) → AreListed files (drop i lists) more → AreListed files lists (behind paths more)

pub lists-begin : (files : Files) (lists : List Bytes) → Goes files lists 0 []
lists-begin files lists more are = subst (AreListed files lists) (sym (behind-none more)) are

at-place : (files : Files) (lists : List Bytes) (i : ℕ) (list : Bytes) (found : Result (List Bytes) Refusal) → i < length lists → list ≡ get_or lists i list
    → AreListed files (list ∷ drop (i + 1) lists) found → AreListed files (drop i lists) found
at-place files lists i list found within at are =
    subst (λ rest. AreListed files rest found) (ap (λ l. l ∷ drop (i + 1) lists) at ∙ sym (drop_more lists i list within)) are

pub lists-next : (files : Files) (lists : List Bytes) (i : ℕ) (list : Bytes) (paths new : List Bytes) → i < length lists → list ≡ get_or lists i list
    → Goes files lists i paths → IsListed list (content_at files list) (Ok new) → Goes files lists (i + 1) (paths ++ new)
lists-next files lists i list paths new within at goes is more are =
    subst (AreListed files lists) (behind-both paths new more)
    (goes (behind new more) (at-place files lists i list (behind new more) within at (Ok new, is, (more, are, refl))))

pub lists-refused : (files : Files) (lists : List Bytes) (i : ℕ) (list : Bytes) (paths : List Bytes) (refusal : Refusal) → i < length lists
    → list ≡ get_or lists i list → Goes files lists i paths → IsListed list (content_at files list) (Err refusal) → AreListed files lists (Err refusal)
lists-refused files lists i list paths refusal within at goes is =
    goes (Err refusal) (at-place files lists i list (Err refusal) within at (Err refusal, is, refl))

pub lists-end : (files : Files) (lists : List Bytes) (i : ℕ) (paths : List Bytes) → drop i lists ≡ [] → Goes files lists i paths → AreListed files lists (Ok paths)
lists-end files lists i paths over goes =
    subst (λ p. AreListed files lists (Ok p)) (append-nil paths) (goes (Ok []) (subst (λ rest. AreListed files rest (Ok [])) (sym over) refl))

-- ---- stops

-- an error that a `?` passes on
pub err-passed : {T E : Type 0} {e : E} (r : Result T E) → IsErrAnd r (λ y. y ≡ e) → r ≡ Err e
err-passed (Ok x) h = absurd h
err-passed (Err y) h = ap Err h

pub listed-stop : (files : Files) (lists : List Bytes) (i : ℕ) (list : Bytes) (paths : List Bytes) (stop : Halt) → i < length lists
    → list ≡ get_or lists i list → Goes files lists i paths → Settles (IsListed list (content_at files list)) (Err stop) → Answers (AreListed files lists) (Err stop)
listed-stop files lists i list paths halt.NoMemory within at goes is = tt
listed-stop files lists i list paths halt.Failed within at goes is = absurd is
listed-stop files lists i list paths (halt.Refused refusal) within at goes is = lists-refused files lists i list paths refusal within at goes is

prefix-then : (old mid new : Option Bytes) (text frame : Bytes) → Appends old mid text → AppendsPrefix mid new frame → AppendsPrefix old new (text ++ frame)
prefix-then old mid new text frame wrote part = (
  length text + part.0,
  omega (arith, length-append text frame, part.1),
  subst (Appends old new) (sym (take-append-add text frame part.0)) (Appends-then old mid new text (take part.0 frame) wrote part.2),
)

pub stopped : (files : Files) (paths : List Bytes) (i : ℕ) (path : Bytes) (old mid new : Option Bytes) (why : Stop) → i < length paths → path ≡ get_or paths i path
    → Wrote files paths i old mid → WritesFrame files path mid new (Err why) → WritesFrames files paths old new (Err why)
stopped files paths i path old mid new stop.Unread within at wrote is = (wrote.0, first-frames files paths i wrote.0 wrote.1, subst (λ now. Appends old now wrote.0) (sym is) wrote.2)
stopped files paths i path old mid new stop.NoMemory within at wrote is = (wrote.0, first-frames files paths i wrote.0 wrote.1, subst (λ now. Appends old now wrote.0) (sym is) wrote.2)
stopped files paths i path old mid new stop.Unwritten within at wrote is = (
  wrote.0 ++ is.0,
  first-frames files paths (i + 1) (wrote.0 ++ is.0) (frames-next files paths i path wrote.0 is.0 within at wrote.1 is.1),
  prefix-then old mid new wrote.0 is.0 wrote.2 is.2,
)

-- ---- the whole run

no-elements : (n : ℕ) → (n == 0) ≡ true → n ≡ 0
no-elements n h = grind (arith, nat_tests)

pub no-list : (lists : List Bytes) → true ≡ (length lists == 0) → lists ≡ []
no-list [] h = refl
no-list (list ∷ lists) h = let none = no-elements (length (list ∷ lists)) (sym h) in absurd (omega (arith, none))

pub some-list : (lists : List Bytes) → false ≡ (length lists == 0) → lists ≡ [] → ⊥
some-list [] h e = false≢true h
some-list (list ∷ lists) h e = absurd (cc e)

pub usage-written : (files : Files) (old new : Option Bytes) (end : Status) → WritesUsage old new end → Writes files [] old new end
usage-written files old new status.Usage is = whole usage_text usage is
usage-written files old new status.WriteFault is = cut usage_text (inl (status.Usage, usage)) is
usage-written files old new status.Written is = absurd is
usage-written files old new status.Refused is = absurd is
usage-written files old new status.ReadFault is = absurd is
usage-written files old new status.NoMemory is = absurd is

pub frames-written : (files : Files) (lists paths : List Bytes) (old new : Option Bytes) (r : Result Unit Stop) → (lists ≡ [] → ⊥) → AreListed files lists (Ok paths)
    → WritesFrames files paths old new r → Writes files lists old new (status_of status.Written r)
frames-written files [] paths old new r some listed is = absurd (some refl)
frames-written files (list ∷ lists) paths old new (Ok all) some listed is = whole is.0 (frames paths listed is.1) is.2
frames-written files (list ∷ lists) paths old new (Err stop.Unread) some listed is = unread paths is.0 listed is.1 is.2
frames-written files (list ∷ lists) paths old new (Err stop.NoMemory) some listed is = out_of_memory paths is.0 listed is.1 is.2
frames-written files (list ∷ lists) paths old new (Err stop.Unwritten) some listed is = cut is.0 (inr (paths, listed, is.1)) is.2

pub refusal-written : (files : Files) (lists : List Bytes) (refusal : Refusal) (old new : Option Bytes) (r : Result Unit Stop) → (lists ≡ [] → ⊥) → AreListed files lists (Err refusal)
    → WritesText (refusal_text refusal) old new r → Writes files lists old new (status_of status.Refused r)
refusal-written files [] why old new r some listed is = absurd (some refl)
refusal-written files (list ∷ lists) why old new (Ok all) some listed is = whole (refusal_text why) (refused why listed) is
refusal-written files (list ∷ lists) why old new (Err stop.Unread) some listed is = absurd is
refusal-written files (list ∷ lists) why old new (Err stop.NoMemory) some listed is = no_room is
refusal-written files (list ∷ lists) why old new (Err stop.Unwritten) some listed is = cut (refusal_text why) (inl (status.Refused, refused why listed)) is
