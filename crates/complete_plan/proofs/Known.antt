-- A condition that is Yes is so still where more is known of flags.
use Rattle.std.proofs.Common.{◌≡◌, ◌⊎◌, inl, inr, ⊎_elim, ℕ, Bool, true, Some, None, List, refl, sym, ap, ◌∙◌, subst}
use Rattle.std.proofs.lemmas.Bool.{false≢true}
use Rattle.plan_types.specs.declared.condition.Cond.{Cond, roll-Cond, map-Cond}
use Rattle.plan_types.specs.declared.condition.Cond.TheOpen as layer
use Rattle.plan_types.specs.declared.condition.Cond.TheFolds.{fold-roll-Cond, ind-Cond}
use Rattle.plan_types.specs.declared.condition.Env.{Env}
use Rattle.conditionals.specs.declared.value.Tri.{Tri}
use Rattle.conditionals.specs.declared.value.Tri.TheVariants.{Yes, No, Unknown}
use Rattle.conditionals.specs.Paths.{is_wanted}
use Rattle.conditionals.specs.Value.{Flags, and_then, flag_value, negated, or_else, value, value_step}

-- a value that is known stays
abbrev Stays : Tri → Tri → Type 0
Stays v w = (v ≡ Unknown) ⊎ (v ≡ w)

not-stays : (v w : Tri) → Stays v w → Stays (negated v) (negated w)
not-stays v w h = ⊎_elim (λ e. inl (ap negated e)) (λ e. inr (ap negated e)) h

and-stays : (v w x y : Tri) → Stays v w → Stays x y → Stays (and_then v x) (and_then w y)
and-stays Yes w x y h k = ⊎_elim (λ e. absurd (cc e)) (λ e. subst (λ t. Stays x (and_then t y)) e k) h
and-stays No w x y h k = ⊎_elim (λ e. absurd (cc e)) (λ e. inr (ap (λ t. and_then t y) e)) h
and-stays Unknown w x y h k = inl refl

or-stays : (v w x y : Tri) → Stays v w → Stays x y → Stays (or_else v x) (or_else w y)
or-stays Yes w x y h k = ⊎_elim (λ e. absurd (cc e)) (λ e. inr (ap (λ t. or_else t y) e)) h
or-stays No w x y h k = ⊎_elim (λ e. absurd (cc e)) (λ e. subst (λ t. Stays x (or_else t y)) e k) h
or-stays Unknown w x y h k = inl refl

module _ (env : Env) (flags others : Flags) (kept : (name : List ℕ) (on : Bool) → flags name ≡ Some on → others name ≡ Some on) where
  abbrev Claim : Cond → Type 0
  Claim c = Stays (value env flags c) (value env others c)

  flag-stays : (name : List ℕ) → Stays (flag_value (flags name)) (flag_value (others name))
  flag-stays name =
      elim (flags name) as (λ o. flags name ≡ o → Stays (flag_value o) (flag_value (others name))) [
        | None ↦ λ e. inl refl
        | Some on ↦ λ e. inr (ap flag_value (sym (kept name on e)))
      ] refl

  by-layer : (y : layer.Cond-F Cond) → Stays (value_step env flags (map-Cond Cond Tri (value env flags) y)) (value_step env others (map-Cond Cond Tri (value env others) y))
      → Claim (roll-Cond y)
  by-layer y h =
      let first = fold-roll-Cond Tri (value_step env flags) y in
      let second = fold-roll-Cond Tri (value_step env others) y in
      ⊎_elim (λ e. inl (first ∙ e)) (λ e. inr (first ∙ e ∙ sym second)) h

  step : (y : layer.Cond-F ((c : Cond) × Claim c)) → Claim (roll-Cond (map-Cond ((c : Cond) × Claim c) Cond (λ e. e.0) y))
  step layer.Always = by-layer layer.Always (inr refl)
  step layer.Never = by-layer layer.Never (inr refl)
  step (layer.Flag name) = by-layer (layer.Flag name) (flag-stays name)
  step (layer.Os name) = by-layer (layer.Os name) (inr refl)
  step (layer.Arch name) = by-layer (layer.Arch name) (inr refl)
  step (layer.Impl name range) = by-layer (layer.Impl name range) (inr refl)
  step (layer.Not c) = by-layer (layer.Not c.0) (not-stays (value env flags c.0) (value env others c.0) c.1)
  step (layer.And l r) =
      by-layer (layer.And l.0 r.0) (and-stays (value env flags l.0) (value env others l.0) (value env flags r.0) (value env others r.0) l.1 r.1)
  step (layer.Or l r) =
      by-layer (layer.Or l.0 r.0) (or-stays (value env flags l.0) (value env others l.0) (value env flags r.0) (value env others r.0) l.1 r.1)

  stays : (c : Cond) → Claim c
  stays = ind-Cond Claim (λ x y is. subst (λ z. Claim (roll-Cond z)) is (step y))

  pub yes-stays : (c : Cond) → is_wanted true (value env flags c) ≡ true → is_wanted true (value env others c) ≡ true
  yes-stays c h = ⊎_elim (λ e. absurd (false≢true (sym (ap (is_wanted true) e) ∙ h))) (λ e. subst (λ v. is_wanted true v ≡ true) e h) (stays c)
