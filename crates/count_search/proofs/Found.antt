-- Records found by the derived equality of variables.
use Rattle.std.proofs.Common.{◌≡◌, ℕ, List, [], ◌∷◌, true, false, cond, Option, Some, None, ◌∙◌, sym, ap, subst, refl, inl, inr, ◌⊎◌}
use Rattle.std.specs.Option.{option_map}
use Rattle.std.specs.List.{slice_get}
use Rattle.std.specs.Map.{lookup, lookup_key}
use Rattle.qualified_goals.specs.declared.variable.Var.{Var}
use Rattle.qualified_goals.specs.Variable.{same_var}
use Rattle.qualified_goals.specs.SameVariable.{same_var-is, same_var-refl}
use Rattle.qualified_goals.specs.contracts.variable.VarPartialEq.TheImpl.{eq-value}
use Rattle.choice_problem.proofs.PartialMaps.{eq-same}
use Rattle.count_search.specs.declared.records.Met.{Met}
use Rattle.count_search.specs.Records.{record_in, IsPlaced}

pub found : (records : List (Var × Met)) (v : Var) → lookup (eq-value.it v) records ≡ record_in records v
found [] v = refl
found (e ∷ records) v =
    ap (λ b. cond b (Some e.1) (lookup (eq-value.it v) records)) (eq-same v e.0)
    ∙ ap (λ r. cond (same_var v e.0) (Some e.1) r) (found records v)

pub changed : (old new : List (Var × Met)) (v w : Var) (o : Option Met) → lookup (eq-value.it w) new ≡ cond (eq-value.it v w) o (lookup (eq-value.it w) old)
    → record_in new w ≡ cond (same_var v w) o (record_in old w)
changed old new v w o h =
    sym (found new w) ∙ h ∙ ap (λ b. cond b o (lookup (eq-value.it w) old)) (eq-same v w)
    ∙ ap (λ r. cond (same_var v w) o r) (found old w)

-- a record is put at the place of another one
pub put-mapped : (inside now after : List (Var × Met)) (v : Var) (place : ℕ) (old met : Met) (change : Met → Met) → inside ≡ now → IsPlaced now v place old → met ≡ change old
    → ((was : Met) → slice_get inside place ≡ Some (v, was) → (w : Var) → record_in after w ≡ cond (same_var v w) (Some met) (record_in inside w))
    → (w : Var) → record_in after w ≡ cond (same_var v w) (option_map change (record_in now v)) (record_in now w)
put-mapped inside now after v place old met change view placed is put w =
    let there = subst (λ l. IsPlaced l v place old) (sym view) placed in
    put old there.there w ∙ ap (λ l. cond (same_var v w) (Some met) (record_in l w)) view
    ∙ ap (λ o. cond (same_var v w) o (record_in now w)) (ap Some is ∙ ap (option_map change) (sym placed.first))

pub equal : (v w : Var) → eq-value.it v w ≡ true → v ≡ w
equal v w h = same_var-is v w (sym (eq-same v w) ∙ h)

-- a key that is found is the variable
pub key-of : (records : List (Var × Met)) (v key : Var) → lookup_key (eq-value.it v) records ≡ Some key → v ≡ key
key-of [] v key h = absurd (cc h)
key-of (e ∷ records) v key h =
    elim (eq-value.it v e.0) as (λ b. eq-value.it v e.0 ≡ b → cond b (Some e.0) (lookup_key (eq-value.it v) records) ≡ Some key → v ≡ key) [
      | true ↦ λ k same. let is : e.0 ≡ key = cc same in equal v e.0 k ∙ is
      | false ↦ λ k more. key-of records v key more
    ] refl h

pub placed : (records : List (Var × Met)) (place : ℕ) (key v : Var) (met : Met) → key ≡ v → slice_get records place ≡ Some (key, met) → record_in records v ≡ Some met
    → IsPlaced records v place met
placed records place key v met same there first = record { there = there ∙ ap (λ w. Some (w, met)) same; first = first }

-- two variables are the same or not
pub one-or-other : (v w : Var) → (v ≡ w) ⊎ (same_var v w ≡ false)
one-or-other v w = elim (same_var v w) as (λ b. same_var v w ≡ b → (v ≡ w) ⊎ (b ≡ false)) [ true ↦ λ e. inl (same_var-is v w e) | false ↦ λ e. inr refl ] refl

-- a change of a record that isn't there changes nothing
pub absent : (records : List (Var × Met)) (f : Met → Met) (v w : Var) → record_in records v ≡ None
    → record_in records w ≡ cond (same_var v w) (option_map f (record_in records v)) (record_in records w)
absent records f v w none =
    elim (one-or-other v w) [
      | inl e ↦
          ap (record_in records) (sym e) ∙ none
          ∙ sym (ap (λ b. cond b (option_map f (record_in records v)) (record_in records w)) (ap (same_var v) (sym e) ∙ same_var-refl v) ∙ ap (option_map f) none)
      | inr other ↦ sym (ap (λ b. cond b (option_map f (record_in records v)) (record_in records w)) other)
    ]

-- putting the record that is there changes nothing
pub kept : (records : List (Var × Met)) (v w : Var) (met : Met) → record_in records v ≡ Some met → record_in records w ≡ cond (same_var v w) (Some met) (record_in records w)
kept records v w met there =
    elim (one-or-other v w) [
      | inl e ↦ ap (record_in records) (sym e) ∙ there ∙ sym (ap (λ b. cond b (Some met) (record_in records w)) (ap (same_var v) (sym e) ∙ same_var-refl v))
      | inr other ↦ sym (ap (λ b. cond b (Some met) (record_in records w)) other)
    ]
