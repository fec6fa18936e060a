-- An entry of named ranges or of constraints denotes one, or nothing.
use Rattle.std.proofs.Common.{◌≡◌, ◌⊎◌, inl, inr, ℕ, Bool, true, false, List, ◌∷◌, ◌++◌, drop, Option, Some, None, refl, sym, ap, ◌∙◌}
use Rattle.std.specs.Prelude.{codes, if◌then◌else◌, map}
use Rattle.std.specs.Char.{to_ascii_lowercase}
use Rattle.std.proofs.lemmas.Bool.{false≢true, true≢false}
use Rattle.plan_types.specs.Bytes.{begins_with}
use Rattle.plan_types.specs.Name.{is_flag_name, is_package_name}
use Rattle.plan_types.specs.declared.condition.FlagSet.{FlagSet}
use Rattle.plan_types.specs.declared.constraint.Constraint.{Constraint}
use Rattle.plan_types.specs.declared.constraint.Scope.{Scope}
use Rattle.plan_types.specs.declared.constraint.Scope.TheVariants as scopes
use Rattle.plan_types.specs.declared.constraint.What.{What}
use Rattle.plan_types.specs.declared.constraint.What.TheVariants as what
use Rattle.plan_types.specs.declared.range.Spec.TheVariants.{V3_0}
use Rattle.plan_types.specs.declared.refusal.Cause.TheVariants.{BadConstraint}
use Rattle.common_laws.specs.Small.{tail_same}
use Rattle.text_grammar.proofs.LeadingBlanks.{Begun, begun}
use Rattle.version_range.specs.Grammar.{Stands}
use Rattle.entry_text.specs.Entries.{Each}
use Rattle.entry_text.specs.Words.{run, behind, is_name_byte, name_of, behind_name, words}
use Rattle.constraint_text.specs.Faults.{IsBadConstraint}
use Rattle.constraint_text.specs.Named.{NamedEntry}
use Rattle.constraint_text.specs.Constraints.{Target, scope_of, asked_alone, Flag, on, off, Required, alone, flags, Requires, ConstraintEntry}
use Rattle.constraint_text.proofs.OneConstraint.{bad_target, bad_what, never_asks}
use Rattle.every_reading.specs.Answered.{Answered}
use Rattle.every_reading.proofs.DecidedReadings.{Decided, front_decided}
use Rattle.every_reading.proofs.LoopReadings.{range_decided}
use Rattle.every_reading.proofs.EntryAnswers.{each_decided}

-- ---- named ranges

pub named_decided : (text : List ℕ) → Decided (NamedEntry text)
named_decided text = by (is_package_name (name_of text)) refl (range_decided (behind_name text))
  where
    by : (t : Bool) → is_package_name (name_of text) ≡ t → Decided (Stands V3_0 64 (behind_name text)) → Decided (NamedEntry text)
    by true h (inl found) = inl (record { name = name_of text; range = found.0 }, record { form = h; name = refl; range = found.1 })
    by true h (inr never) = inr (λ x entry. never x.range entry.range)
    by false h found = inr (λ x entry. true≢false (sym entry.form ∙ h))

-- ---- the target of a constraint

abbrev HasTarget : List ℕ → Type 0
HasTarget text = ((scope : Scope) × («package» : List ℕ) × (rest : List ℕ) × Target text scope «package» rest)
    ⊎ ((scope : Scope) («package» rest : List ℕ) → Target text scope «package» rest → ⊥)

some_none : {A : Type 0} (x : A) (o : Option A) → o ≡ Some x → o ≡ None → ⊥
some_none x o e f = absurd cc

module _ (text : List ℕ) where
  starts_so : (byte : ℕ) (rest : List ℕ) → begins_with byte (behind_name text) ≡ false → behind_name text ≡ byte ∷ rest → begins_with byte (byte ∷ rest) ≡ true → ⊥
  starts_so byte rest h e is = false≢true (sym h ∙ ap (begins_with byte) e ∙ is)

  no_scope : (more : List ℕ) → behind_name text ≡ 46 ∷ more → scope_of (name_of text) ≡ None → (scope : Scope) («package» rest : List ℕ) → Target text scope «package» rest → ⊥
  no_scope more e none scope «package» rest (Target.top h i s p r) = starts_so 46 more h e refl
  no_scope more e none scope «package» rest (Target.word more' f s p r) = some_none scope (scope_of (name_of text)) s none
  no_scope more e none scope «package» rest (Target.setup_of more' f h s p r) = true≢false (ap (begins_with 46) (sym e ∙ f))

  no_setup : (part : List ℕ) → begins_with 46 (behind_name text) ≡ false → behind_name text ≡ 58 ∷ part
      → ((more : List ℕ) → behind_name text ≡ codes ":setup." ++ more → is_package_name (name_of text) ≡ true → ⊥) → (scope : Scope) («package» rest : List ℕ) → Target text scope «package» rest → ⊥
  no_setup part other e never scope «package» rest (Target.top h i s p r) = starts_so 58 part i e refl
  no_setup part other e never scope «package» rest (Target.word more f s p r) = starts_so 46 more other f refl
  no_setup part other e never scope «package» rest (Target.setup_of more f h s p r) = never more f h

  scoped : (more : List ℕ) → behind_name text ≡ 46 ∷ more → (o : Option Scope) → scope_of (name_of text) ≡ o → HasTarget text
  scoped more e (Some scope) q = inl (scope, run is_name_byte more, behind is_name_byte more, Target.word more e q refl refl)
  scoped more e None q = inr (no_scope more e q)

  owned : (part : List ℕ) → begins_with 46 (behind_name text) ≡ false → behind_name text ≡ 58 ∷ part
      → Decided (λ (more : List ℕ). behind_name text ≡ codes ":setup." ++ more) → (t : Bool) → is_package_name (name_of text) ≡ t → HasTarget text
  owned part other e (inl found) true h =
      inl (scopes.SetupOf (name_of text), run is_name_byte found.0, behind is_name_byte found.0, Target.setup_of found.0 found.1 h refl refl refl)
  owned part other e (inl found) false h = inr (no_setup part other e (λ more f is. true≢false (sym is ∙ h)))
  owned part other e (inr never) t h = inr (no_setup part other e (λ more f is. never more f))

  target_by : Begun 46 (behind_name text) → Begun 58 (behind_name text) → HasTarget text
  target_by (inl point) colon = scoped point.0 point.1 (scope_of (name_of text)) refl
  target_by (inr other) (inr none) = inl (scopes.Top, name_of text, behind_name text, Target.top other none refl refl refl)
  target_by (inr other) (inl colon) = owned colon.0 other colon.1 (front_decided (codes ":setup.") (behind_name text)) (is_package_name (name_of text)) refl

  target_decided : HasTarget text
  target_decided = target_by (begun 46 (behind_name text)) (begun 58 (behind_name text))

-- ---- the requirement

module _ (word : List ℕ) where
  no_flag : (byte : ℕ) (name : List ℕ) → word ≡ byte ∷ name → is_flag_name name ≡ false → (flag : FlagSet) → Flag word flag → ⊥
  no_flag byte name e h flag (on other f is s) = true≢false (sym is ∙ ap is_flag_name (tail_same (sym f ∙ e)) ∙ h)
  no_flag byte name e h flag (off other f is s) = true≢false (sym is ∙ ap is_flag_name (tail_same (sym f ∙ e)) ∙ h)

  no_sign : begins_with 43 word ≡ false → begins_with 45 word ≡ false → (flag : FlagSet) → Flag word flag → ⊥
  no_sign plus minus flag (on other f is s) = false≢true (sym plus ∙ ap (begins_with 43) f)
  no_sign plus minus flag (off other f is s) = false≢true (sym minus ∙ ap (begins_with 45) f)

  switched_on : (name : List ℕ) → word ≡ 43 ∷ name → (t : Bool) → is_flag_name name ≡ t → Decided (Flag word)
  switched_on name e true h = inl (record { name = map to_ascii_lowercase name; on = true }, on name e h refl)
  switched_on name e false h = inr (no_flag 43 name e h)

  switched_off : (name : List ℕ) → word ≡ 45 ∷ name → (t : Bool) → is_flag_name name ≡ t → Decided (Flag word)
  switched_off name e true h = inl (record { name = map to_ascii_lowercase name; on = false }, off name e h refl)
  switched_off name e false h = inr (no_flag 45 name e h)

  flag_by : Begun 43 word → Begun 45 word → Decided (Flag word)
  flag_by (inl plus) minus = switched_on plus.0 plus.1 (is_flag_name plus.0) refl
  flag_by (inr plus) (inl minus) = switched_off minus.0 minus.1 (is_flag_name minus.0) refl
  flag_by (inr plus) (inr minus) = inr (no_sign plus minus)

  flag_decided : Decided (Flag word)
  flag_decided = flag_by (begun 43 word) (begun 45 word)

asked_decided : (parts : List (List ℕ)) → Decided (Required parts)
asked_decided parts = by (asked_alone parts) refl (each_decided Flag flag_decided parts)
  where
    never_asked : asked_alone parts ≡ None → ((set : List FlagSet) → Each Flag parts set → ⊥) → (w : What) → Required parts w → ⊥
    never_asked q never w (alone e) = some_none w (asked_alone parts) e q
    never_asked q never w (flags set each is) = never set each

    by : (o : Option What) → asked_alone parts ≡ o → Decided (Each Flag parts) → Decided (Required parts)
    by (Some w) q set = inl (w, alone q)
    by None q (inl set) = inl (what.Flags set.0, flags set.0 set.1 refl)
    by None q (inr never) = inr (never_asked q never)

asks_decided : (text : List ℕ) → Decided (Requires text)
asks_decided text = by (range_decided text) (asked_decided (words text))
  where
    by : Decided (Stands V3_0 64 text) → Decided (Required (words text)) → Decided (Requires text)
    by (inl found) asked = inl (what.Range found.0, Requires.range found.0 found.1 refl)
    by (inr none) (inl asked) = inl (asked.0, Requires.other none asked.1)
    by (inr none) (inr never) = inr (never_asks text none never)

-- ---- a constraint

-- the name of the package, by the text after the first name
abbrev package_in : List ℕ → List ℕ → List ℕ
package_in name text =
    if begins_with 46 text then run is_name_byte (drop 1 text)
    else if begins_with 58 text then run is_name_byte (drop 7 text)
    else name

asked_of : (text : List ℕ) (scope : Scope) («package» rest : List ℕ) → Target text scope «package» rest → «package» ≡ package_in (name_of text) (behind_name text)
asked_of text scope «package» rest (Target.top h i s p r) = p ∙ sym (rw h (rw i refl))
asked_of text scope «package» rest (Target.word more f s p r) = p ∙ sym (ap (package_in (name_of text)) f)
asked_of text scope «package» rest (Target.setup_of more f h s p r) = p ∙ sym (ap (package_in (name_of text)) f)

module _ (text : List ℕ) (scope : Scope) («package» rest : List ℕ) (target : Target text scope «package» rest) where
  no_name : is_package_name «package» ≡ false → (x : Constraint) → ConstraintEntry text x → ⊥
  no_name h x entry =
      let same = asked_of text x.scope x.«package» entry.rest entry.target ∙ sym (asked_of text scope «package» rest target) in
      true≢false (sym entry.form ∙ ap is_package_name same ∙ h)

  of_target : (t : Bool) → is_package_name «package» ≡ t → Decided (Requires rest) → Answered (ConstraintEntry text) (IsBadConstraint ConstraintEntry text)
  of_target false h asked = inr (BadConstraint, record { is = refl; stands_for_none = no_name h })
  of_target true h (inl asked) = inl (record { scope = scope; «package» = «package»; what = asked.0 }, record { rest = rest; target = target; form = h; asks = asked.1 })
  of_target true h (inr never) = inr (BadConstraint, bad_what text scope «package» rest target BadConstraint (record { is = refl; stands_for_none = never }))

pub some_constraint : (text : List ℕ) → Answered (ConstraintEntry text) (IsBadConstraint ConstraintEntry text)
some_constraint text = by (target_decided text)
  where
    by : HasTarget text → Answered (ConstraintEntry text) (IsBadConstraint ConstraintEntry text)
    by (inl found) = of_target text found.0 found.1 found.2 found.3 (is_package_name found.1) refl (asks_decided found.2)
    by (inr never) = inr (BadConstraint, bad_target text BadConstraint (refl, never))
