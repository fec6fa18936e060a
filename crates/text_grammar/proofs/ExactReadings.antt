-- Shared: a text has a value or a fault, never both, and at most one first fault.
use Rattle.std.proofs.Common.{◌≡◌, ℕ, List, [], ◌∷◌, ◌++◌, Result, Ok, Err, refl, sym, ap, ◌∙◌, subst, append_assoc, append-nil}
use Rattle.std.specs.Result.{IfOk, IfErr, MatchResult}
use Rattle.plan_types.specs.declared.refusal.Cause.{Cause}
use Rattle.plan_types.specs.declared.refusal.TextFault.{TextFault}
use Rattle.plan_types.specs.declared.refusal.TextFault.TheVariants.{NoMemory, Bad}
use Rattle.plan_types.specs.Refusal.{Refuses}
use Rattle.text_grammar.specs.FirstFault.{Viable, Stuck, FirstFault}

-- of two prefixes of a text, one is a prefix of the other
pub data Order (xs ys zs ws : List ℕ) : Type 0 where
  shorter : (b : ℕ) (between : List ℕ) → zs ≡ xs ++ b ∷ between → ys ≡ b ∷ (between ++ ws) → Order xs ys zs ws
  same : xs ≡ zs → ys ≡ ws → Order xs ys zs ws
  longer : (b : ℕ) (between : List ℕ) → xs ≡ zs ++ b ∷ between → ws ≡ b ∷ (between ++ ys) → Order xs ys zs ws

pub order : (xs ys zs ws : List ℕ) → xs ++ ys ≡ zs ++ ws → Order xs ys zs ws
order [] ys [] ws e = same refl e
order [] ys (z ∷ zs) ws e = shorter z zs refl e
order (x ∷ xs) ys [] ws e = longer x xs refl (sym e)
order (x ∷ xs) ys (z ∷ zs) ws e = by (order xs ys zs ws (cc e))
  where
    head : x ≡ z
    head = cc e

    by : Order xs ys zs ws → Order (x ∷ xs) ys (z ∷ zs) ws
    by (shorter b between p q) = shorter b between (λ i. sym head i ∷ p i) q
    by (same p q) = same (λ i. head i ∷ p i) q
    by (longer b between p q) = longer b between (λ i. head i ∷ p i) q

module _ {A : Type 0} (Stands : List ℕ → A → Type 0) (CauseAt : List ℕ → List ℕ → Cause → Type 0) where
  -- no continuation completes a stuck prefix
  stuck_not : (front rest : List ℕ) (b : ℕ) (others : List ℕ) → rest ≡ b ∷ others → Stuck Stands front rest → (more : List ℕ) (x : A) → Stands ((front ++ b ∷ []) ++ more) x → ⊥
  stuck_not front rest b others e stuck more x s = subst (Stuck Stands front) e stuck (more, x, s)

  pub value_or_fault : (text : List ℕ) (x : A) (cause : Cause) → Stands text x → FirstFault Stands CauseAt text cause → ⊥
  value_or_fault text x cause s f = by f.rest refl
    where
      whole : Stands (f.front ++ f.rest) x
      whole = subst (λ t. Stands t x) f.whole s

      by : (rest : List ℕ) → f.rest ≡ rest → ⊥
      by [] e = subst (Stuck Stands f.front) e f.stops x (subst (λ t. Stands t x) (ap (λ t. f.front ++ t) e ∙ append-nil f.front) whole)
      by (b ∷ rest) e = stuck_not f.front f.rest b rest e f.stops rest x (subst (λ t. Stands t x) (ap (λ t. f.front ++ t) e ∙ sym (append_assoc f.front (b ∷ []) rest)) whole)

  -- a viable prefix isn't longer than a stuck one
  not_longer : (front rest longer-front : List ℕ) (b : ℕ) (between others : List ℕ) → longer-front ≡ front ++ b ∷ between → rest ≡ b ∷ others → Stuck Stands front rest → Viable Stands longer-front → ⊥
  not_longer front rest longer-front b between others p q stuck v =
      stuck_not front rest b others q stuck (between ++ v.0) v.1
      (subst (λ t. Stands t v.1) (ap (λ t. t ++ v.0) p ∙ append_assoc front (b ∷ between) v.0 ∙ sym (append_assoc front (b ∷ []) (between ++ v.0))) v.2)

  module _ (one_cause : (front rest : List ℕ) (c d : Cause) → CauseAt front rest c → CauseAt front rest d → c ≡ d) where
    pub one_fault : (text : List ℕ) (c d : Cause) → FirstFault Stands CauseAt text c → FirstFault Stands CauseAt text d → c ≡ d
    one_fault text c d f g = by (order f.front f.rest g.front g.rest (sym f.whole ∙ g.whole))
      where
        by : Order f.front f.rest g.front g.rest → c ≡ d
        by (shorter b between p q) = absurd (not_longer f.front f.rest g.front b between (between ++ g.rest) p q f.stops g.goes_on)
        by (same p q) = one_cause g.front g.rest c d (subst (λ front. CauseAt front g.rest c) p (subst (λ rest. CauseAt f.front rest c) q f.is)) g.is
        by (longer b between p q) = absurd (not_longer g.front g.rest f.front b between (between ++ f.rest) p q g.stops f.goes_on)

    -- ---- results of calls

    module _ (text : List ℕ) (one_value : (x y : A) → Stands text x → Stands text y → x ≡ y) where
      pub only_value : (answer : Result A TextFault) → IfOk answer (λ x. Stands text x) → IfErr answer (Refuses (FirstFault Stands CauseAt text))
          → (x : A) → Stands text x → MatchResult answer (λ found. found ≡ x) (Refuses (λ cause. ⊥))
      only_value (Ok y) a b x h = one_value y x a h
      only_value (Err NoMemory) a b x h = tt
      only_value (Err (Bad cause)) a b x h = value_or_fault text x cause h b

      pub only_fault : (answer : Result A TextFault) → IfOk answer (λ x. Stands text x) → IfErr answer (Refuses (FirstFault Stands CauseAt text))
          → (cause : Cause) → FirstFault Stands CauseAt text cause → MatchResult answer (λ found. ⊥) (Refuses (λ why. why ≡ cause))
      only_fault (Ok y) a b cause h = value_or_fault text y cause a h
      only_fault (Err NoMemory) a b cause h = tt
      only_fault (Err (Bad why)) a b cause h = one_fault text why cause b h
