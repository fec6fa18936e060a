-- Reading lines one by one.
use Rattle.std.proofs.Common.{◌≡◌, ◌+◌, ⊎_elim, inl, inr, ℕ, suc, zero, List, [], ◌∷◌, ◌++◌, refl, sym, subst, ap, ◌∙◌, arith, append_assoc}
use Rattle.replay_text.specs.declared.event.EventsFault.{EventsFault}
use Rattle.replay_text.specs.declared.event.EventsFault.TheVariants.{NoMemory, Bad}
use Rattle.replay_text.specs.declared.event.JobEvent.{JobEvent}
use Rattle.replay_text.specs.Reading.{Adds, AreEvents, BadAt, FirstBad, IsFirstBad, IsGood, empty, here, later, one}

pub append-nil : {X : Type 0} (xs : List X) → xs ++ [] ≡ xs
append-nil [] = refl
append-nil (x ∷ xs) = ap (λ l. x ∷ l) (append-nil xs)

good : (line : List ℕ) (old new : List JobEvent) → Adds line old new → IsGood line
good line old new a = ⊎_elim (λ e. inl e.0) (λ e. inr (e.0, e.1)) a

module _ (whole rest more : List (List ℕ)) (line : List ℕ) where
  pub goes_more : (old new : List JobEvent) → rest ≡ line ∷ more → Adds line old new
      → ((events : List JobEvent) → AreEvents rest events → AreEvents whole (old ++ events)) → (events : List JobEvent) → AreEvents more events → AreEvents whole (new ++ events)
  goes_more old new split a goes events h = ⊎_elim
      (λ e. subst (λ l. AreEvents whole (l ++ events)) (sym e.1)
      (goes events (subst (λ l. AreEvents l events) (sym split) (subst (λ l. AreEvents (l ∷ more) events) (sym e.0) (empty h)))))
      (λ e. subst (λ l. AreEvents whole (l ++ events)) (sym e.2)
      (subst (λ l. AreEvents whole l) (sym (append_assoc old (e.0 ∷ []) events)) (goes (e.0 ∷ events) (subst (λ l. AreEvents l (e.0 ∷ events)) (sym split) (one line e.0 e.1 h)))))
      a

  pub bad_later : (number : ℕ) (old new : List JobEvent) → rest ≡ line ∷ more → Adds line old new
      → ((n : ℕ) → IsFirstBad rest n → IsFirstBad whole (number + n)) → (n : ℕ) → IsFirstBad more n → IsFirstBad whole (number + 1 + n)
  bad_later number old new split a bad n h =
      let e : number + suc n ≡ number + 1 + n = omega arith in
      subst (λ k. IsFirstBad whole k) e (bad (suc n) (subst (λ l. IsFirstBad l (suc n)) (sym split) (later line (good line old new a) h)))

  pub bad_here : (number : ℕ) (fault : EventsFault) → rest ≡ line ∷ more → ((n : ℕ) → IsFirstBad rest n → IsFirstBad whole (number + n)) → BadAt line (number + 1) fault → FirstBad whole fault
  bad_here number NoMemory split bad b = tt
  bad_here number (Bad told) split bad b =
      subst (λ k. IsFirstBad whole k) (sym b.0) (bad (suc zero) (subst (λ l. IsFirstBad l (suc zero)) (sym split) (here line b.1)))

-- a bad line's fault has its number
pub bad_number : (number : ℕ) (fault : EventsFault) (line : List ℕ) (told : ℕ) → BadAt line number fault → fault ≡ Bad told → told ≡ number
bad_number number NoMemory line told b e = absurd (cc e)
bad_number number (Bad n) line told b e = let same : n ≡ told = cc e in sym same ∙ b.0
