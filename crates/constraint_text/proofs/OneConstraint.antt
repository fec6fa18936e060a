-- Shared: an entry of a project's constraints has at most one reading.
use Rattle.std.proofs.Common.{◌≡◌, ℕ, true, false, List, ◌∷◌, ◌++◌, Option, Some, None, refl, sym, ap, ◌∙◌, subst}
use Rattle.std.specs.Prelude.{codes, map}
use Rattle.std.specs.Char.{to_ascii_lowercase}
use Rattle.std.proofs.lemmas.Bool.{true≢false, false≢true}
use Rattle.std.proofs.lemmas.Option.{same_Some}
use Rattle.plan_types.specs.Bytes.{begins_with}
use Rattle.plan_types.specs.declared.condition.FlagSet.{FlagSet}
use Rattle.plan_types.specs.declared.constraint.Constraint.{Constraint}
use Rattle.plan_types.specs.declared.constraint.Scope.{Scope}
use Rattle.plan_types.specs.declared.constraint.What.{What}
use Rattle.plan_types.specs.declared.constraint.What.TheVariants as what
use Rattle.plan_types.specs.declared.range.Spec.TheVariants.{V3_0}
use Rattle.plan_types.specs.declared.range.Range.{Range}
use Rattle.plan_types.specs.declared.refusal.Cause.{Cause}
use Rattle.plan_types.specs.declared.refusal.Cause.TheVariants.{BadConstraint}
use Rattle.plan_types.specs.Name.{is_package_name}
use Rattle.version_range.specs.Grammar.{Stands}
use Rattle.version_range.proofs.OneRange.{one_range}
use Rattle.entry_text.specs.Entries.{Each, First, here, later}
use Rattle.entry_text.specs.Entries as entries
use Rattle.entry_text.specs.Words.{run, behind, is_name_byte, behind_name, words}
use Rattle.constraint_text.specs.Constraints.{Target, required_by, asked_alone, Flag, on, off, Required, alone, flags, Requires, range, other, ConstraintEntry}
use Rattle.entry_text.proofs.OneReading.{Settled, one_each, each_or_first}
use Rattle.common_laws.specs.Small.{tail_same}
use Rattle.constraint_text.specs.Faults.{IsBadConstraint}
use Rattle.constraint_text.proofs.OneNamed.{project_settled}

mark : (byte : ℕ) (text rest : List ℕ) → begins_with byte text ≡ false → text ≡ byte ∷ rest → begins_with byte (byte ∷ rest) ≡ true → ⊥
mark byte text rest h e is = false≢true (sym h ∙ ap (begins_with byte) e ∙ is)

point_or_colon : (text more rest : List ℕ) → text ≡ codes "." ++ more → text ≡ codes ":setup." ++ rest → ⊥
point_or_colon text more rest e f = true≢false (ap (begins_with 46) (sym e ∙ f))

drop_setup : (more rest : List ℕ) → codes ":setup." ++ more ≡ codes ":setup." ++ rest → more ≡ rest
drop_setup more rest e = tail_same (tail_same (tail_same (tail_same (tail_same (tail_same (tail_same e))))))

one_target : (text : List ℕ) (s s' : Scope) (p p' r r' : List ℕ) → Target text s p r → Target text s' p' r' → (s ≡ s') × (p ≡ p') × (r ≡ r')
one_target text s s' p p' r r' (Target.top h i e f g) (Target.top h' i' e' f' g') = (e ∙ sym e', f ∙ sym f', g ∙ sym g')
one_target text s s' p p' r r' (Target.top h i e f g) (Target.word more a b c d) = absurd (mark 46 (behind_name text) more h a refl)
one_target text s s' p p' r r' (Target.top h i e f g) (Target.setup_of more a b c d k) = absurd (mark 58 (behind_name text) (codes "setup." ++ more) i a refl)
one_target text s s' p p' r r' (Target.word more a b c d) (Target.top h i e f g) = absurd (mark 46 (behind_name text) more h a refl)
one_target text s s' p p' r r' (Target.word more a b c d) (Target.word more' a' b' c' d') =
    let same : more ≡ more' = tail_same (sym a ∙ a') in
    (same_Some _ _ (sym b ∙ b'), c ∙ ap (run is_name_byte) same ∙ sym c', d ∙ ap (behind is_name_byte) same ∙ sym d')
one_target text s s' p p' r r' (Target.word more a b c d) (Target.setup_of more' a' b' c' d' k) = absurd (point_or_colon (behind_name text) more more' a a')
one_target text s s' p p' r r' (Target.setup_of more a b c d k) (Target.top h i e f g) = absurd (mark 58 (behind_name text) (codes "setup." ++ more) i a refl)
one_target text s s' p p' r r' (Target.setup_of more a b c d k) (Target.word more' a' b' c' d') = absurd (point_or_colon (behind_name text) more' more a' a)
one_target text s s' p p' r r' (Target.setup_of more a b c d k) (Target.setup_of more' a' b' c' d' k') =
    let same : more ≡ more' = drop_setup more more' (sym a ∙ a') in
    (c ∙ sym c', d ∙ ap (run is_name_byte) same ∙ sym d', k ∙ ap (behind is_name_byte) same ∙ sym k')

plus_or_minus : (text a b : List ℕ) → text ≡ codes "+" ++ a → text ≡ codes "-" ++ b → ⊥
plus_or_minus text a b e f = true≢false (ap (begins_with 43) (sym e ∙ f))

one_flag : (part : List ℕ) (x y : FlagSet) → Flag part x → Flag part y → x ≡ y
one_flag part x y (on name e h is) (on name' e' h' is') = is ∙ (λ i. record { name = map to_ascii_lowercase (tail_same (sym e ∙ e') i); on = true }) ∙ sym is'
one_flag part x y (on name e h is) (off name' e' h' is') = absurd (plus_or_minus part name name' e e')
one_flag part x y (off name e h is) (on name' e' h' is') = absurd (plus_or_minus part name' name e' e)
one_flag part x y (off name e h is) (off name' e' h' is') = is ∙ (λ i. record { name = map to_ascii_lowercase (tail_same (sym e ∙ e') i); on = false }) ∙ sym is'

no_word : (part : List ℕ) (flag : FlagSet) → Flag part flag → required_by part ≡ None
no_word part flag (on name e h is) = ap required_by e
no_word part flag (off name e h is) = ap required_by e

some_none : {A : Type 0} (x : A) (o : Option A) → o ≡ Some x → o ≡ None → ⊥
some_none x o e f = absurd cc

no_flags : (parts : List (List ℕ)) (set : List FlagSet) (w : What) → Each Flag parts set → asked_alone parts ≡ Some w → ⊥
no_flags parts set w entries.none h = some_none w None h refl
no_flags parts set w (entries.more {part = part} {x = flag} is entries.none) h = some_none w (required_by part) h (no_word part flag is)
no_flags parts set w (entries.more is (entries.more is' each)) h = some_none w None h refl

one_asked : (parts : List (List ℕ)) (x y : What) → Required parts x → Required parts y → x ≡ y
one_asked parts x y (alone e) (alone f) = same_Some _ _ (sym e ∙ f)
one_asked parts x y (alone e) (flags set each is) = absurd (no_flags parts set x each e)
one_asked parts x y (flags set each is) (alone e) = absurd (no_flags parts set y each e)
one_asked parts x y (flags set each is) (flags set' each' is') = is ∙ ap what.Flags (one_each Flag one_flag parts set set' each each') ∙ sym is'

pub one_asks : (text : List ℕ) (x y : What) → Requires text x → Requires text y → x ≡ y
one_asks text x y (range r h is) (range s k is') = is ∙ ap what.Range (one_range V3_0 64 text r s h k) ∙ sym is'
one_asks text x y (range r h is) (other never a) = absurd (never r h)
one_asks text x y (other never a) (range r h is) = absurd (never r h)
one_asks text x y (other never a) (other never' b) = one_asked (words text) x y a b

one_entry : (text : List ℕ) (x y : Constraint) → ConstraintEntry text x → ConstraintEntry text y → x ≡ y
one_entry text x y e f =
    let t = one_target text x.scope y.scope x.«package» y.«package» e.rest f.rest e.target f.target in
    let asks = one_asks f.rest x.what y.what (subst (λ r. Requires r x.what) t.2 e.asks) f.asks in
    λ i. record { scope = t.0 i; «package» = t.1 i; what = asks i }

pub constraint_settled : Settled ConstraintEntry (IsBadConstraint ConstraintEntry)
constraint_settled = project_settled ConstraintEntry one_entry

first_bad : {A : Type 0} (Part : List ℕ → A → Type 0) (parts : List (List ℕ)) (cause : Cause) → First Part (IsBadConstraint Part) parts cause → cause ≡ BadConstraint
first_bad Part parts cause (here fault) = fault.is
first_bad Part parts cause (later {parts = rest} is first) = first_bad Part rest cause first

never_asked : (parts : List (List ℕ)) (cause : Cause) → asked_alone parts ≡ None → First Flag (IsBadConstraint Flag) parts cause → (w : What) → Required parts w → ⊥
never_asked parts cause h first w (alone e) = some_none w (asked_alone parts) e h
never_asked parts cause h first w (flags set each is) = each_or_first Flag (IsBadConstraint Flag) (λ part flag c is fault. fault.stands_for_none flag is) parts set cause each first

pub bad_asked : (parts : List (List ℕ)) → asked_alone parts ≡ None → (cause : Cause) → First Flag (IsBadConstraint Flag) parts cause → (cause ≡ BadConstraint) × ((w : What) → Required parts w → ⊥)
bad_asked parts h cause first = (first_bad Flag parts cause first, never_asked parts cause h first)

pub never_asks : (text : List ℕ) → ((r : Range) → Stands V3_0 64 text r → ⊥) → ((w : What) → Required (words text) w → ⊥) → (w : What) → Requires text w → ⊥
never_asks text no_range never w (range r h is) = no_range r h
never_asks text no_range never w (other none' a) = never w a

pub bad_target : (text : List ℕ) (cause : Cause) → (cause ≡ BadConstraint) × ((scope : Scope) («package» rest : List ℕ) → Target text scope «package» rest → ⊥) → IsBadConstraint ConstraintEntry text cause
bad_target text cause never = record { is = never.0; stands_for_none = λ x e. never.1 x.scope x.«package» e.rest e.target }

pub bad_what : (text : List ℕ) (scope : Scope) («package» rest : List ℕ) → Target text scope «package» rest → (cause : Cause) → IsBadConstraint Requires rest cause → IsBadConstraint ConstraintEntry text cause
bad_what text scope «package» rest target cause fault = record {
  is = fault.is;
  stands_for_none = λ x e. let t = one_target text scope x.scope «package» x.«package» rest e.rest target e.target in
      fault.stands_for_none x.what (subst (λ r. Requires r x.what) (sym t.2) e.asks);
}

pub constraint_entry : (text : List ℕ) (x : Constraint) (name rest : List ℕ) → Target text x.scope name rest → is_package_name name ≡ true → x.«package» ≡ name → Requires rest x.what → ConstraintEntry text x
constraint_entry text x name rest target h e asks = record {
  rest = rest;
  target = subst (λ p. Target text x.scope p rest) (sym e) target;
  form = subst (λ p. is_package_name p ≡ true) (sym e) h;
  asks = asks;
}
