-- Shared: a text has at most one tree, at most one first fault, and never both.
use Rattle.std.proofs.Common.{◌≡◌, ℕ, suc, Bool, true, false, List, [], ◌∷◌, ◌++◌, length, refl, sym, ◌∙◌, ap, subst, arith, append_assoc, append-nil}
use Rattle.std.proofs.Common.{◌⊎◌, inl, inr}
use Rattle.std.specs.Result.{IfOk, IfErr, MatchResult}
use Rattle.std.specs.Str.{IsUtf8}
use Rattle.plan_types.specs.declared.refusal.Fault.{Fault}
use Rattle.plan_types.specs.declared.refusal.Fault.TheVariants as faults
use Rattle.std.specs.Prelude.{nat_le, if◌then◌else◌}
use Rattle.std.proofs.lemmas.Bool.Decides.{nat_tests}
use Rattle.std.specs.declared.result.Result.{Result}
use Rattle.std.specs.declared.result.Result.TheVariants.{Ok, Err}
use Rattle.plan_types.specs.declared.element.Element.{Element}
use Rattle.plan_types.specs.declared.refusal.Cause.{Cause}
use Rattle.plan_types.specs.declared.refusal.Cause.TheVariants.{UnclosedBrace, TooDeep}
use Rattle.cabal_lexer.specs.Lines.{Line, kept_lines}
use Rattle.cabal_lexer.specs.Opening.{Opening, opening, within, cause_of}
use Rattle.cabal_lexer.specs.Layout.{Ends, Stands, Fails, Cut, At}
use Rattle.cabal_lexer.specs.Fault.{StandsFor, Viable, FirstFault, IsTree, IsFault}
use Rattle.plan_types.specs.Refusal.{RefusesAt}
use Rattle.cabal_lexer.specs.Fault as fault
use Rattle.cabal_lexer.proofs.Reading.{Outcome, done, stands_read, fails_read}
use Rattle.cabal_lexer.proofs.Reading as reading
use Rattle.cabal_lexer.proofs.LineCutting.{stands_cut, fails_at, judge}
use Rattle.cabal_lexer.proofs.Soundness.{Closing, Misfits, misfits, left_open, split}

-- ---- lines that parse as items don't fail

whole_read : {bound depth : ℕ} {braced : Bool} (lines : List Line) {items : List Element} → Stands bound depth braced lines items →
    reading.read (suc (length lines)) bound depth braced lines ≡ done items []
whole_read {bound} {depth} {braced} lines {items} s =
    subst (λ v. reading.read (suc (length lines)) bound depth braced v ≡ done items []) (append-nil lines)
    (stands_read s [] (suc (length lines)) tt (rw (append-nil lines) (omega arith)))

pub one_items : {bound depth : ℕ} {braced : Bool} (lines : List Line) {a b : List Element} → Stands bound depth braced lines a → Stands bound depth braced lines b → a ≡ b
one_items lines s t = let p = whole_read lines s in let q = whole_read lines t in cc

pub stands_or_fails : {bound depth : ℕ} {braced : Bool} (lines : List Line) {items : List Element} {at : Line} {cause : Cause} →
    Stands bound depth braced lines items → Fails bound depth braced lines at cause → ⊥
stands_or_fails lines s f = let p = whole_read lines s in let q = fails_read f (suc (length lines)) (omega arith) in cc

pub one_failure : {bound depth : ℕ} {braced : Bool} (lines : List Line) {at bt : Line} {c d : Cause} →
    Fails bound depth braced lines at c → Fails bound depth braced lines bt d → (at ≡ bt) × (c ≡ d)
one_failure lines f g =
    let p = fails_read f (suc (length lines)) (omega arith) in let q = fails_read g (suc (length lines)) (omega arith) in (cc, cc)

-- ---- soundness

pub sound_whole : (lines : List Line) {items : List Element} → StandsFor lines items → Viable lines
sound_whole lines {items} s = record { closers = []; close = refl; items = items; stands = subst (λ v. StandsFor v items) (sym (append-nil lines)) s }

-- nothing ends a whole text
no_end : (rest : List Line) → Ends 0 false rest → rest ≡ []
no_end [] h = refl
no_end (line ∷ rest) h = absurd (grind (arith, nat_tests))

-- a cut of a whole text has no rest
pub whole_cut : {lines rest : List Line} {items : List Element} → Cut 0 1 false lines items rest → StandsFor lines items
whole_cut {lines} {rest} {items} c =
    subst (λ v. StandsFor v items) (sym (c.whole ∙ ap (λ v. c.front ++ v) (no_end rest c.ended) ∙ append-nil c.front)) c.stands

sound_closing : (front whole : List Line) → Closing 0 1 false front whole → Viable front
sound_closing front whole c = record { closers = c.closers; close = c.close; items = c.items; stands = c.stands }

-- sound lines have no misfit
misfits_unsound : {lines : List Line} {at : Line} {cause : Cause} (m : Misfits 0 1 false lines at cause) (more : List Line) → Viable (m.front ++ at ∷ more) → ⊥
misfits_unsound {lines} {at} m more s =
    stands_or_fails (m.front ++ at ∷ (more ++ s.closers)) (subst (λ v. StandsFor v s.items) (append_assoc m.front (at ∷ more) s.closers) s.stands) (m.again (more ++ s.closers))

pub sound_front : (front others : List Line) → Viable (front ++ others) → Viable front
sound_front front others s = elim (judge (suc (length front)) 0 1 false front (omega arith)) [
  | stands_cut c ↦ sound_whole front (whole_cut c)
  | fails_at {at = at} f ↦ elim (split f) [
    | misfits m ↦ absurd (misfits_unsound m (m.rest ++ others)
        (subst Viable (ap (λ v. v ++ others) m.whole ∙ append_assoc m.front (at ∷ m.rest) others) s))
    | left_open is c ↦ sound_closing front front c
  ]
]

-- ---- the first fault

too_deep : (b : Bool) (o : Opening) (cause : Cause) → (if b then Ok o else Err TooDeep) ≡ Err cause → cause ≡ TooDeep
too_deep true o cause e = cc
too_deep false o cause e = cc

cause-within : (depth : ℕ) (r : Result Opening Cause) (cause : Cause) → within depth r ≡ Err cause → cause ≡ cause_of r
cause-within depth (Err c) cause e = cc
cause-within depth (Ok o) cause e = too_deep (nat_le depth 64) o cause e

pub first_fault : {lines : List Line} {at : Line} {cause : Cause} → Fails 0 1 false lines at cause → FirstFault lines at.number cause
first_fault {lines} {at} {cause} f = elim (split f) [
  | misfits m ↦
      subst (λ v. FirstFault v at.number cause) (sym m.whole)
      (subst (λ v. FirstFault (m.front ++ at ∷ m.rest) at.number v) (sym (cause-within m.inner (opening at.text) cause m.because))
      (fault.misfit m.front at m.rest (λ shorter others w. sound_front shorter others (subst Viable w (sound_closing m.front _ m.closing))) (misfits_unsound m [])))
  | left_open is c ↦
      subst (λ v. FirstFault lines at.number v) (sym is)
      (fault.unclosed lines at (sound_closing lines lines c) (λ items s. stands_or_fails lines s f) (subst (λ v. Fails 0 1 false lines at v) is f))
]

pub never_both : {lines : List Line} {items : List Element} {line : ℕ} {cause : Cause} → StandsFor lines items → FirstFault lines line cause → ⊥
never_both s (fault.misfit front line rest before not_sound) =
    not_sound (sound_front (front ++ line ∷ []) rest (subst Viable (sym (append_assoc front (line ∷ []) rest)) (sound_whole _ s)))
never_both s (fault.unclosed lines line sound none fails) = none _ s

-- two prefixes of one list: equal, or one inside the other
parts : {A : Type 0} (front other : List A) (x y : A) (rest more : List A) → front ++ x ∷ rest ≡ other ++ y ∷ more →
    (x ≡ y) ⊎ (((others : List A) × (other ≡ (front ++ x ∷ []) ++ others)) ⊎ ((others : List A) × (front ≡ (other ++ y ∷ []) ++ others)))
parts [] [] x y rest more e = inl cc
parts [] (z ∷ other) x y rest more e = let same : x ≡ z = cc in inr (inl (other, ap (λ v. v ∷ other) (sym same)))
parts (z ∷ front) [] x y rest more e = let same : z ≡ y = cc in inr (inr (front, ap (λ v. v ∷ front) same))
parts (z ∷ front) (w ∷ other) x y rest more e =
    let same : z ≡ w = cc in
    let tails : front ++ x ∷ rest ≡ other ++ y ∷ more = cc in
    elim (parts front other x y rest more tails) [
      | inl h ↦ inl h
      | inr h ↦ elim h [
        | inl k ↦ inr (inl (k.0, ap (λ v. w ∷ v) k.1 ∙ ap (λ v. v ∷ (front ++ x ∷ []) ++ k.0) (sym same)))
        | inr k ↦ inr (inr (k.0, ap (λ v. z ∷ v) k.1 ∙ ap (λ v. v ∷ (other ++ y ∷ []) ++ k.0) same))
      ]
    ]

sound_line : (front : List Line) (line : Line) (rest : List Line) → Viable (front ++ line ∷ rest) → Viable (front ++ line ∷ [])
sound_line front line rest s = sound_front (front ++ line ∷ []) rest (subst Viable (sym (append_assoc front (line ∷ []) rest)) s)

same_fault : {lines others : List Line} {n m : ℕ} {c d : Cause} → FirstFault lines n c → FirstFault others m d → lines ≡ others → (n ≡ m) × (c ≡ d)
same_fault (fault.misfit front line rest before not_sound) (fault.misfit other at more sooner unsound) e =
    elim (parts front other line at rest more e) [
      | inl h ↦ (ap (λ l. l.number) h, ap (λ l. cause_of (opening l.text)) h)
      | inr h ↦ elim h [
        | inl k ↦ absurd (not_sound (sooner (front ++ line ∷ []) k.0 k.1))
        | inr k ↦ absurd (unsound (before (other ++ at ∷ []) k.0 k.1))
      ]
    ]
same_fault (fault.misfit front line rest before not_sound) (fault.unclosed lines at sound none fails) e =
    absurd (not_sound (sound_line front line rest (subst Viable (sym e) sound)))
same_fault (fault.unclosed lines at sound none fails) (fault.misfit front line rest before not_sound) e =
    absurd (not_sound (sound_line front line rest (subst Viable e sound)))
same_fault (fault.unclosed lines line sound none fails) (fault.unclosed others at sound' none' fails') e =
    let one = one_failure others (subst (λ v. Fails 0 1 false v line UnclosedBrace) e fails) fails' in
    (ap (λ l. l.number) one.0, refl)

pub one_fault : {lines : List Line} {n m : ℕ} {c d : Cause} → FirstFault lines n c → FirstFault lines m d → (n ≡ m) × (c ≡ d)
one_fault f g = same_fault f g refl

-- ---- for the bytes of a text

pub one_tree : (bytes : List ℕ) (a b : List Element) → IsTree bytes a → IsTree bytes b → a ≡ b
one_tree bytes a b s t = one_items (kept_lines bytes) s.1 t.1

pub tree_or_fault : (bytes : List ℕ) (items : List Element) (line : ℕ) (cause : Cause) → IsTree bytes items → IsFault bytes line cause → ⊥
tree_or_fault bytes items line cause s (inl h) = h.0 s.0
tree_or_fault bytes items line cause s (inr h) = never_both s.1 h.1

pub one_refusal : (bytes : List ℕ) (n m : ℕ) (c d : Cause) → IsFault bytes n c → IsFault bytes m d → (n ≡ m) × (c ≡ d)
one_refusal bytes n m c d (inl h) (inl k) = (h.1 ∙ sym k.1, h.2 ∙ sym k.2)
one_refusal bytes n m c d (inl h) (inr k) = absurd (h.0 k.0)
one_refusal bytes n m c d (inr h) (inl k) = absurd (k.0 h.0)
one_refusal bytes n m c d (inr h) (inr k) = one_fault h.1 k.1

pub At-first : (lines : List Line) (f : Fault) → At (Fails 0 1 false lines) f → RefusesAt (FirstFault lines) f
At-first lines faults.NoMemory h = tt
At-first lines (faults.At number cause) h = subst (λ n. FirstFault lines n cause) (sym h.1) (first_fault h.2)

first-refused : (bytes : List ℕ) (lines : List Line) (f : Fault) → lines ≡ kept_lines bytes → IsUtf8 bytes → RefusesAt (FirstFault lines) f → RefusesAt (IsFault bytes) f
first-refused bytes lines faults.NoMemory e u h = tt
first-refused bytes lines (faults.At number cause) e u h = inr (u, subst (λ v. FirstFault v number cause) e h)

-- ---- for a result

pub fault-of_lines : (bytes : List ℕ) (lines : List Line) (r : Result (List Element) Fault) → lines ≡ kept_lines bytes → IsUtf8 bytes →
    IfErr r (RefusesAt (FirstFault lines)) → IfErr r (RefusesAt (IsFault bytes))
fault-of_lines bytes lines (Ok items) e u h = tt
fault-of_lines bytes lines (Err f) e u h = first-refused bytes lines f e u h

pub tree_found : (bytes : List ℕ) (r : Result (List Element) Fault) → IfOk r (λ items. IsTree bytes items) → IfErr r (RefusesAt (IsFault bytes)) →
    (items : List Element) → IsTree bytes items → MatchResult r (λ found. found ≡ items) (RefusesAt (λ _ _. ⊥))
tree_found bytes (Ok found) tree fault items s = one_tree bytes found items tree s
tree_found bytes (Err faults.NoMemory) tree fault items s = tt
tree_found bytes (Err (faults.At line cause)) tree fault items s = tree_or_fault bytes items line cause s fault

pub fault_found : (bytes : List ℕ) (r : Result (List Element) Fault) → IfOk r (λ items. IsTree bytes items) → IfErr r (RefusesAt (IsFault bytes)) →
    (line : ℕ) (cause : Cause) → IsFault bytes line cause → MatchResult r (λ _. ⊥) (RefusesAt (λ at why. (at ≡ line) × (why ≡ cause)))
fault_found bytes (Ok found) tree fault line cause f = tree_or_fault bytes found line cause tree f
fault_found bytes (Err faults.NoMemory) tree fault line cause f = tt
fault_found bytes (Err (faults.At at why)) tree fault line cause f = one_refusal bytes at line why cause fault f
