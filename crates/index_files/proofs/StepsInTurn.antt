-- Shared: items processed one after another, as far as they are processed.
use Rattle.std.proofs.Common.{◌≡◌, ℕ, List, [], ◌∷◌, ◌++◌, Option, Result, Ok, Err, refl, sym, ap, ◌∙◌, subst}
use Rattle.std.proofs.lemmas.List.{append_assoc, append-nil}
use Rattle.std.specs.Prelude.{IsErrAnd}
use Rattle.outside_folder.specs.Calls.{Leaves, halt_of}
use Rattle.outside_folder.specs.Files.{Files}
use Rattle.outside_folder.specs.declared.calls.Trouble.{Trouble}
use Rattle.outside_folder.specs.declared.calls.Trouble.TheVariants.{Failed, NoMemory}
use Rattle.plan_types.specs.declared.refusal.Halt.{Halt}
use Rattle.plan_types.specs.declared.refusal.Halt.TheVariants as halt
use Rattle.plan_types.specs.declared.refusal.Refusal.{Refusal}
use Rattle.plan_types.specs.Refusal.{Answers, Settles}
use Rattle.index_files.specs.InTurn.{GoesOn, InTurn, OnPart, Steps}

module _ {X O S R : Type 0} (Comes : X → O → Type 0) (step : S → X → O → Result S R) where
  -- these items take the first state to the second
  abbrev pub Through : S → List X → S → Type 0
  Through from front to = (rest : List X) (outcome : Result S R) → InTurn Comes step to rest outcome → InTurn Comes step from (front ++ rest) outcome

  pub begun : (s : S) → Through s [] s
  begun s rest outcome h = h

  goes : (from to : S) (x : X) (rest : List X) (outcome : Result S R) → Steps Comes step from x (Ok to) → InTurn Comes step to rest outcome → InTurn Comes step from (x ∷ rest) outcome
  goes from to x rest outcome s h =
      (s.0, s.1, subst (λ next. GoesOn {T = S} next (λ taken. InTurn Comes step taken rest outcome) outcome) (sym s.2) h)

  pub more : (from mid to : S) (front : List X) (x : X) → Through from front mid → Steps Comes step mid x (Ok to) → Through from (front ++ x ∷ []) to
  more from mid to front x t s rest outcome h =
      subst (λ xs. InTurn Comes step from xs outcome) (sym (append_assoc front (x ∷ []) rest)) (t (x ∷ rest) outcome (goes mid to x rest outcome s h))

  pub refused : (from mid : S) (front : List X) (x : X) (rest : List X) (r : R) → Through from front mid → Steps Comes step mid x (Err r) → InTurn Comes step from ((front ++ x ∷ []) ++ rest) (Err r)
  refused from mid front x rest r t s =
      subst (λ xs. InTurn Comes step from xs (Err r)) (sym (append_assoc front (x ∷ []) rest))
      (t (x ∷ rest) (Err r) (s.0, s.1, subst (λ next. GoesOn {T = S} next (λ taken. InTurn Comes step taken rest (Err r)) (Err r)) (sym s.2) (refl {a = Err r})))

  pub whole : (from to : S) (front : List X) → Through from front to → InTurn Comes step from front (Ok to)
  whole from to front t = subst (λ xs. InTurn Comes step from xs (Ok to)) (append-nil front) (t [] (Ok to) refl)

  -- at most one outcome
  module _ (one : (x : X) (a b : O) → Comes x a → Comes x b → a ≡ b) where
    one-next : (xs : List X) → ((s : S) (a b : Result S R) → InTurn Comes step s xs a → InTurn Comes step s xs b → a ≡ b)
        → (next : Result S R) (a b : Result S R) → GoesOn {T = S} next (λ taken. InTurn Comes step taken xs a) a → GoesOn {T = S} next (λ taken. InTurn Comes step taken xs b) b → a ≡ b
    one-next xs ih (Ok next) a b h k = ih next a b h k
    one-next xs ih (Err r) a b h k = h ∙ sym k

    pub one-outcome : (s : S) (xs : List X) (a b : Result S R) → InTurn Comes step s xs a → InTurn Comes step s xs b → a ≡ b
    one-outcome s [] a b h k = h ∙ sym k
    one-outcome s (x ∷ xs) a b h k =
        one-next xs (λ t c d p q. one-outcome t xs c d p q) (step s x h.0) a b h.2
        (subst (λ o. GoesOn {T = S} (step s x o) (λ taken. InTurn Comes step taken xs b) b) (one x k.0 h.0 k.1 h.1) k.2)

-- an error that a `?` passes on
pub err-passed : {T E : Type 0} {e : E} (r : Result T E) → IsErrAnd r (λ y. y ≡ e) → r ≡ Err e
err-passed (Ok x) h = absurd h
err-passed (Err y) h = ap Err h

-- a halt of one step is that of all, whatever items follow
pub halted : {X O S A : Type 0} (Comes : X → O → Type 0) (step : S → X → O → Result S Refusal) (f : A → S) (from mid : S) (front : List X) (x : X) (rest : List X) {xs : List X} (h : Halt)
    → xs ≡ (front ++ x ∷ []) ++ rest → Through Comes step from front mid → Settles (OnPart f (Steps Comes step mid x)) (Err h) → Settles (OnPart f (InTurn Comes step from xs)) (Err h)
halted Comes step f from mid front x rest halt.NoMemory e t s = tt
halted Comes step f from mid front x rest halt.Failed e t s = s
halted Comes step f from mid front x rest (halt.Refused r) e t s =
    subst (λ ys. InTurn Comes step from ys (Err r)) (sym e) (refused Comes step from mid front x rest r t s)

-- ---- calls of a folder

pub settled : {A : Type 0} (Is : Result A Refusal → Type 0) (result : Result A Halt) → Settles Is result → Answers Is result
settled Is (Ok a) h = h
settled Is (Err halt.NoMemory) h = tt
settled Is (Err halt.Failed) h = absurd h
settled Is (Err (halt.Refused r)) h = h

-- trouble of the folder becomes the same halt
pub troubled : {A : Type 0} (Is : Result A Refusal → Type 0) (trouble : Trouble) → Answers Is (Err (halt_of trouble))
troubled Is Failed = tt
troubled Is NoMemory = tt

pub refused-as : {A B : Type 0} (Is : Result A Refusal → Type 0) (Was : Result B Refusal → Type 0) (h : Halt) → ((r : Refusal) → Is (Err r) → Was (Err r))
    → Answers Is (Err h) → Answers Was (Err h)
refused-as Is Was halt.NoMemory from a = tt
refused-as Is Was halt.Failed from a = tt
refused-as Is Was (halt.Refused r) from a = from r a

-- if neither failure happened, `Leaves` holds for the one as for the other
pub quiet : {F failed then : Type 0} (tells : F → Option Files) (faults : F → ℕ) (old new : F) → (then → ⊥) → (failed → ⊥)
    → Leaves tells faults old new failed → Leaves tells faults old new then
quiet tells faults old new never none h = record { same_files = h.same_files; later = h.later; rose = λ t. absurd (never t); still = λ _. h.still none }

-- a halt of a step without calls of a folder, passed on, is no failed call
pub never-passed : {A B : Type 0} (Is : Result A Refusal → Type 0) (h : Halt) (r : Result B Halt) → Settles Is (Err h) → r ≡ Err h → r ≡ Err halt.Failed → ⊥
never-passed Is h r s e k = let failed : h ≡ halt.Failed = cc (e, k) in subst (λ (h : Halt). Settles Is (Err h)) failed s
