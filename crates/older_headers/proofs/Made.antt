-- From what is said of the elements to what becomes of the file.
use Rattle.std.proofs.Common.{◌≡◌, ℕ, List, inl, inr}
use Rattle.std.specs.Prelude.{Result, Err, IfErr}
use Rattle.plan_types.specs.Refusal.{RefusesAt}
use Rattle.plan_types.specs.declared.element.Element.{Element}
use Rattle.plan_types.specs.declared.refusal.Cause.{Cause}
use Rattle.plan_types.specs.declared.refusal.Fault.{Fault}
use Rattle.plan_types.specs.declared.refusal.Fault.TheVariants as fault
use Rattle.older_layout.specs.OlderTree.{IsOlderTree}
use Rattle.older_rules.specs.Modern.{IsModern}
use Rattle.older_rules.specs.declared.modern.Modern.{Modern}
use Rattle.older_headers.specs.declared.answer.Answer.{Answer}
use Rattle.older_headers.specs.declared.answer.Answer.TheVariants.{Unchanged, Rewritten}
use Rattle.older_headers.specs.Answers.{IsAnswer, IsMade, IsRead, IsRefusal, IsSaid, IsUnsaid}

pub answer-from : (bytes : List ℕ) (modern : Modern) → (IsRead bytes → ⊥) → IsMade bytes modern → (answer : Answer) → IsSaid modern answer → IsAnswer bytes answer
answer-from bytes modern unread made Unchanged said = absurd said
answer-from bytes modern unread made (Rewritten text changes) said = (unread, modern, made, said)

pub refusal-from : (bytes : List ℕ) (modern : Modern) → (IsRead bytes → ⊥) → IsMade bytes modern → (at : Fault) → RefusesAt (IsUnsaid modern) at → RefusesAt (IsRefusal bytes) at
refusal-from bytes modern unread made fault.NoMemory unsaid = tt
refusal-from bytes modern unread made (fault.At line why) unsaid = (unread, inr (inr (modern, made, unsaid)))

pub ruled-from : (bytes : List ℕ) (older : List Element) → (IsRead bytes → ⊥) → IsOlderTree bytes older → (at : Fault) →
    RefusesAt (λ line why. IsModern older (Err (line, why))) at → RefusesAt (IsRefusal bytes) at
ruled-from bytes older unread tree fault.NoMemory ruled = tt
ruled-from bytes older unread tree (fault.At line why) ruled = (unread, inr (inl (record { older = older; tree = tree; rules = ruled })))

pub passed-on : {A : Type 0} (Q : ℕ → Cause → Type 0) (result : Result A Fault) (at : Fault) → result ≡ Err at → RefusesAt Q at → IfErr result (RefusesAt Q)
passed-on Q result at is h = rw is h
