-- Shared: readers of a prefix of a text, and where each is stuck.
use Rattle.std.proofs.Common.{◌≡◌, ◌≢◌, ◌⊎◌, inl, inr, ℕ, Bool, true, false, List, [], ◌∷◌, ◌++◌, Option, Some, None, Result, Ok, Err, refl, sym, ap, ◌∙◌, subst, append_assoc, append-nil}
use Rattle.std.specs.Prelude.{if◌then◌else◌}
use Rattle.std.proofs.lemmas.Bool.{false≢true}
use Rattle.plan_types.specs.declared.refusal.Cause.{Cause}
use Rattle.plan_types.specs.declared.refusal.Cause.TheVariants.{NeedsVersion}
use Rattle.text_grammar.specs.FirstFault.{Viable, Stuck}
use Rattle.text_grammar.proofs.TextKind.{Digits, Kind, miss, IsNewer, starts, ends_with}

abbrev pub Reader : Type 0 → Type 0
Reader A = List ℕ → Result (A × List ℕ) Cause

abbrev pub head_of : List ℕ → Option ℕ
head_of [] = None
head_of (b ∷ bs) = Some b

abbrev pub errs : {A : Type 0} → Result A Cause → Bool
errs (Ok x) = false
errs (Err cause) = true

-- ---- what may follow

-- the last byte of a joined text is that of its second part
pub ends_behind : (test : ℕ → Bool) (front : List ℕ) (b : ℕ) (bs : List ℕ) → ends_with test (front ++ b ∷ bs) ≡ ends_with test (b ∷ bs)
ends_behind test [] b bs = refl
ends_behind test (x ∷ []) b bs = refl
ends_behind test (x ∷ y ∷ front) b bs = ends_behind test (y ∷ front) b bs

pub ends_some : (test : ℕ → Bool) (front back : List ℕ) → back ≢ [] → ends_with test (front ++ back) ≡ ends_with test back
ends_some test front [] some = absurd (some refl)
ends_some test front (b ∷ bs) some = ends_behind test front b bs

pub ends_kept : (test : ℕ → Bool) (front back : List ℕ) → ends_with test front ≡ false → ends_with test (front ++ back) ≡ ends_with test back
ends_kept test front [] h = ap (ends_with test) (append-nil front) ∙ h
ends_kept test front (b ∷ bs) h = ends_behind test front b bs

-- after a final digit, the rest doesn't begin with a byte that continues a number
abbrev pub Apart : Digits → List ℕ → List ℕ → Type 0
Apart digits front rest = ends_with digits.digit front ≡ true → starts digits.on rest ≡ false

module _ (digits : Digits) where
  pub apart_same_head : (front rest again : List ℕ) → head_of rest ≡ head_of again → Apart digits front rest → Apart digits front again
  apart_same_head front [] [] e h d = h d
  apart_same_head front [] (b ∷ again) e h d = absurd (cc e)
  apart_same_head front (b ∷ rest) [] e h d = absurd (cc e)
  apart_same_head front (b ∷ rest) (c ∷ again) e h d = let same : b ≡ c = cc e in subst (λ x. digits.on x ≡ false) same (h d)

  pub apart_before : (pre front rest : List ℕ) → ends_with digits.digit pre ≡ false → Apart digits front rest → Apart digits (pre ++ front) rest
  apart_before pre front rest e a d = a (sym (ends_kept digits.digit pre front e) ∙ d)

  pub apart_within : (pre front rest : List ℕ) → ends_with digits.digit pre ≡ false → Apart digits (pre ++ front) rest → Apart digits front rest
  apart_within pre front rest e a d = a (ends_kept digits.digit pre front e ∙ d)

  -- what may follow a text depends only on its end
  pub apart_longer : (pre text rest : List ℕ) → text ≢ [] → Apart digits text rest → Apart digits (pre ++ text) rest
  apart_longer pre text rest some a d = a (sym (ends_some digits.digit pre text some) ∙ d)

  pub apart_shorter : (pre text rest : List ℕ) → text ≢ [] → Apart digits (pre ++ text) rest → Apart digits text rest
  apart_shorter pre text rest some a d = a (ends_some digits.digit pre text some ∙ d)

pub some_append : (front back : List ℕ) → back ≢ [] → front ++ back ≢ []
some_append [] back some e = some e
some_append (b ∷ bs) back some e = cc e

-- ---- successful reads

-- a prefix that denotes x, and a rest that may follow it
pub record Read {A : Type 0} (L : List ℕ → A → Type 0) (E : List ℕ → List ℕ → Type 0) (text : List ℕ) (x : A) (rest : List ℕ) : Type 0 where
  pub front : List ℕ
  pub whole : text ≡ front ++ rest
  pub is : L front x
  pub apart : E front rest

-- ---- where a reader is stuck

-- the reader fails on every text that continues with the same byte
abbrev pub Dead : {A : Type 0} → (List ℕ → Result A Cause) → List ℕ → List ℕ → Type 0
Dead P front rest = (again : List ℕ) → head_of again ≡ head_of rest → errs (P (front ++ again)) ≡ true

-- the reader fails on every text that continues with a digit
abbrev pub NoDigit : Digits → {A : Type 0} → (List ℕ → Result A Cause) → List ℕ → Type 0
NoDigit digits P front = (digit : ℕ) (again : List ℕ) → digits.digit digit ≡ true → errs (P (front ++ digit ∷ again)) ≡ true

-- Why the reader P of the language L is stuck. L' and P' are those of the wider grammar.
pub data Why {A B : Type 0} (kind : Kind) (L L' : List ℕ → A → Type 0) (P P' : List ℕ → Result B Cause) (front rest : List ℕ) : Cause → Type 0 where
  new_form : IsNewer kind rest → Dead P' front rest → Why kind L L' P P' front rest NeedsVersion
  digit_due : (IsNewer kind rest → ⊥) → ends_with kind.digits.digit front ≡ false → (digit : ℕ) → kind.digits.digit digit ≡ true → (more : List ℕ) (x : A) → L (front ++ digit ∷ more) x → Dead P' front rest → Why kind L L' P P' front rest kind.due
  digit_more : (IsNewer kind rest → ⊥) → ends_with kind.digits.digit front ≡ true → starts kind.digits.digit rest ≡ true → Dead P' front rest → Why kind L L' P P' front rest kind.due
  wider : (b : ℕ) (bs : List ℕ) {cause : Cause} → rest ≡ b ∷ bs → kind.wide b ≡ Some cause → NoDigit kind.digits P' front → (more : List ℕ) (x : A) → L' (front ++ b ∷ more) x → Dead P front rest → Why kind L L' P P' front rest cause
  behind_digit : (IsNewer kind rest → ⊥) → ends_with kind.digits.digit front ≡ true → starts kind.digits.digit rest ≡ false → Dead P' front rest → Why kind L L' P P' front rest kind.other
  no_digit : (IsNewer kind rest → ⊥) → ends_with kind.digits.digit front ≡ false → NoDigit kind.digits P' front → Dead P' front rest → Why kind L L' P P' front rest kind.other

pub record Fault {A B : Type 0} (kind : Kind) (L L' : List ℕ → A → Type 0) (P P' : List ℕ → Result B Cause) (text : List ℕ) (cause : Cause) : Type 0 where
  pub front : List ℕ
  pub rest : List ℕ
  pub whole : text ≡ front ++ rest
  pub more : List ℕ
  pub value : A
  pub goes_on : L (front ++ more) value
  pub why : Why kind L L' P P' front rest cause

-- the reason where the byte that is due is no digit
pub due_why : {A B : Type 0} (kind : Kind) (L L' : List ℕ → A → Type 0) (P P' : List ℕ → Result B Cause) (front rest : List ℕ) → Dead P' front rest
    → (ends_with kind.digits.digit front ≡ true → starts kind.digits.digit rest ≡ false) → (ends_with kind.digits.digit front ≡ false → NoDigit kind.digits P' front) → Why kind L L' P P' front rest (miss kind rest)
due_why kind L L' P P' front rest dead other none = by (kind.newer rest) refl (ends_with kind.digits.digit front) refl
  where
    by : (t : Bool) → kind.newer rest ≡ t → (d : Bool) → ends_with kind.digits.digit front ≡ d → Why kind L L' P P' front rest (if t then NeedsVersion else kind.other)
    by true q d e = new_form q dead
    by false q true e = behind_digit (λ n. false≢true (sym q ∙ n)) e (other e) dead
    by false q false e = no_digit (λ n. false≢true (sym q ∙ n)) e (none e) dead

unfoldable pub due_fault : {A B : Type 0} (kind : Kind) (L L' : List ℕ → A → Type 0) (P P' : List ℕ → Result B Cause) (front rest more : List ℕ) (x : A) → L (front ++ more) x → Dead P' front rest
    → (ends_with kind.digits.digit front ≡ true → starts kind.digits.digit rest ≡ false) → (ends_with kind.digits.digit front ≡ false → NoDigit kind.digits P' front) → Fault kind L L' P P' (front ++ rest) (miss kind rest)
due_fault kind L L' P P' front rest more x goes dead other none = record {
  front = front;
  rest = rest;
  whole = refl;
  more = more;
  value = x;
  goes_on = goes;
  why = due_why kind L L' P P' front rest dead other none;
}

-- each text of L, after `pre`, can be completed to a text of K
abbrev pub Completes : {A B : Type 0} → (List ℕ → A → Type 0) → List ℕ → (List ℕ → B → Type 0) → Type 0
Completes L pre K = (text : List ℕ) (x : _) → L text x → (after : List ℕ) × (y : _) × K (pre ++ (text ++ after)) y

-- ---- faults of a part as faults of the whole

-- a text that begins with the same byte as the rest, or with a digit
abbrev pub Like : Digits → List ℕ → List ℕ → Type 0
Like digits again rest = (head_of again ≡ head_of rest) ⊎ (starts digits.digit again ≡ true)

-- if R fails on a text like this, S fails on it after `pre`
abbrev pub PassesLike : Digits → {B D : Type 0} → (List ℕ → Result B Cause) → (List ℕ → Result D Cause) → List ℕ → List ℕ → List ℕ → Type 0
PassesLike digits R S pre front rest = (again : List ℕ) → Like digits again rest → errs (R (front ++ again)) ≡ true → errs (S (pre ++ (front ++ again))) ≡ true

abbrev pub Passes : {B D : Type 0} → (List ℕ → Result B Cause) → (List ℕ → Result D Cause) → List ℕ → List ℕ → Type 0
Passes R S pre front = (again : List ℕ) → errs (R (front ++ again)) ≡ true → errs (S (pre ++ (front ++ again))) ≡ true

pub regroup : (pre front more after : List ℕ) → pre ++ ((front ++ more) ++ after) ≡ (pre ++ front) ++ (more ++ after)
regroup pre front more after = ap (λ t. pre ++ t) (append_assoc front more after) ∙ sym (append_assoc pre front (more ++ after))

module _ (digits : Digits) {B D : Type 0} (R : List ℕ → Result B Cause) (S : List ℕ → Result D Cause) (pre front rest : List ℕ) (pass : PassesLike digits R S pre front rest) where
  pub dead_up : Dead R front rest → Dead S (pre ++ front) rest
  dead_up dead again same = ap (λ t. errs (S t)) (append_assoc pre front again) ∙ pass again (inl same) (dead again same)

  digit_up : NoDigit digits R front → NoDigit digits S (pre ++ front)
  digit_up none digit again is = ap (λ t. errs (S t)) (append_assoc pre front (digit ∷ again)) ∙ pass (digit ∷ again) (inr is) (none digit again is)

-- A fault of P is one of Q, which reads `pre` first and fails where P fails; the language of P completes that of Q.
module _ {A B C D : Type 0} (kind : Kind) (L L' : List ℕ → A → Type 0) (P P' : List ℕ → Result B Cause) (K K' : List ℕ → C → Type 0) (Q Q' : List ℕ → Result D Cause) (pre : List ℕ) (completes : Completes L pre K) (completes' : Completes L' pre K') where
  pub why_up : (front rest : List ℕ) {cause : Cause} → ends_with kind.digits.digit (pre ++ front) ≡ ends_with kind.digits.digit front → PassesLike kind.digits P Q pre front rest → PassesLike kind.digits P' Q' pre front rest
      → Why kind L L' P P' front rest cause → Why kind K K' Q Q' (pre ++ front) rest cause
  why_up front rest ends pass pass' (new_form form dead) = new_form form (dead_up kind.digits P' Q' pre front rest pass' dead)
  why_up front rest ends pass pass' (digit_due form last digit is more x goes dead) =
      let done = completes (front ++ digit ∷ more) x goes in
      digit_due form (ends ∙ last) digit is (more ++ done.0) done.1 (subst (λ t. K t done.1) (regroup pre front (digit ∷ more) done.0) done.2) (dead_up kind.digits P' Q' pre front rest pass' dead)
  why_up front rest ends pass pass' (digit_more form last digit dead) = digit_more form (ends ∙ last) digit (dead_up kind.digits P' Q' pre front rest pass' dead)
  why_up front rest ends pass pass' (wider b bs first names none more x goes dead) =
      let done = completes' (front ++ b ∷ more) x goes in
      wider b bs first names (digit_up kind.digits P' Q' pre front rest pass' none) (more ++ done.0) done.1 (subst (λ t. K' t done.1) (regroup pre front (b ∷ more) done.0) done.2) (dead_up kind.digits P Q pre front rest pass dead)
  why_up front rest ends pass pass' (behind_digit form last other dead) = behind_digit form (ends ∙ last) other (dead_up kind.digits P' Q' pre front rest pass' dead)
  why_up front rest ends pass pass' (no_digit form last none dead) = no_digit form (ends ∙ last) (digit_up kind.digits P' Q' pre front rest pass' none) (dead_up kind.digits P' Q' pre front rest pass' dead)

  unfoldable pub fault_up_like : (text : List ℕ) (cause : Cause) (f : Fault kind L L' P P' text cause) → ends_with kind.digits.digit (pre ++ f.front) ≡ ends_with kind.digits.digit f.front
      → PassesLike kind.digits P Q pre f.front f.rest → PassesLike kind.digits P' Q' pre f.front f.rest → Fault kind K K' Q Q' (pre ++ text) cause
  fault_up_like text cause f ends pass pass' =
      let done = completes (f.front ++ f.more) f.value f.goes_on in
      record {
        front = pre ++ f.front;
        rest = f.rest;
        whole = ap (λ t. pre ++ t) f.whole ∙ sym (append_assoc pre f.front f.rest);
        more = f.more ++ done.0;
        value = done.1;
        goes_on = subst (λ t. K t done.1) (regroup pre f.front f.more done.0) done.2;
        why = why_up f.front f.rest ends pass pass' f.why;
      }

  unfoldable pub fault_up : (text : List ℕ) (cause : Cause) (f : Fault kind L L' P P' text cause) → ends_with kind.digits.digit (pre ++ f.front) ≡ ends_with kind.digits.digit f.front
      → Passes P Q pre f.front → Passes P' Q' pre f.front → Fault kind K K' Q Q' (pre ++ text) cause
  fault_up text cause f ends pass pass' = fault_up_like text cause f ends (λ again like h. pass again h) (λ again like h. pass' again h)

-- a stuck reader fails on every text that continues with the same byte
pub why_dead : {A B : Type 0} (kind : Kind) (L L' : List ℕ → A → Type 0) (P P' : List ℕ → Result B Cause) (front rest : List ℕ) {cause : Cause} → Why kind L L' P P' front rest cause
    → (again : List ℕ) → head_of again ≡ head_of rest → errs (P (front ++ again)) ≡ false → errs (P' (front ++ again)) ≡ false → ⊥
why_dead kind L L' P P' front rest (new_form form dead) again same h k = false≢true (sym k ∙ dead again same)
why_dead kind L L' P P' front rest (digit_due form last digit is others x goes dead) again same h k = false≢true (sym k ∙ dead again same)
why_dead kind L L' P P' front rest (digit_more form last digit dead) again same h k = false≢true (sym k ∙ dead again same)
why_dead kind L L' P P' front rest (wider b bs first names none others x goes dead) again same h k = false≢true (sym h ∙ dead again same)
why_dead kind L L' P P' front rest (behind_digit form last other dead) again same h k = false≢true (sym k ∙ dead again same)
why_dead kind L L' P P' front rest (no_digit form last none dead) again same h k = false≢true (sym k ∙ dead again same)

pub head_some : (again : List ℕ) (b : ℕ) (bs : List ℕ) → head_of again ≡ head_of (b ∷ bs) → again ≢ []
head_some [] b bs same e = cc same
head_some (c ∷ again) b bs same e = cc e

pub digit_some : (test : ℕ → Bool) (again : List ℕ) → starts test again ≡ true → again ≢ []
digit_some test [] h e = false≢true h
digit_some test (b ∷ bs) h e = cc e

-- ---- a whole text

-- a viable prefix, one byte longer
pub viable_by : {A : Type 0} (L : List ℕ → A → Type 0) (front : List ℕ) (b : ℕ) (others : List ℕ) (x : A) → L (front ++ b ∷ others) x → Viable L (front ++ b ∷ [])
viable_by L front b others x s = (others, x, subst (λ t. L t x) (sym (append_assoc front (b ∷ []) others)) s)

-- The readers accept all of their languages, so a stuck prefix has no completion.
module _ {A B : Type 0} (kind : Kind) (L L' : List ℕ → A → Type 0) (P P' : List ℕ → Result B Cause)
    (finds : (text : List ℕ) (x : A) → L text x → errs (P text) ≡ false) (finds' : (text : List ℕ) (x : A) → L' text x → errs (P' text) ≡ false)
    (widens : (text : List ℕ) (x : A) → L text x → L' text x) where
  not_stands : (front rest : List ℕ) {cause : Cause} → Why kind L L' P P' front rest cause → (again : List ℕ) → head_of again ≡ head_of rest → (x : A) → L (front ++ again) x → ⊥
  not_stands front rest why again same x s = why_dead kind L L' P P' front rest why again same (finds (front ++ again) x s) (finds' (front ++ again) x (widens (front ++ again) x s))

  pub stuck_of : (front rest : List ℕ) {cause : Cause} → Why kind L L' P P' front rest cause → Stuck L front rest
  stuck_of front [] why = λ x s. not_stands front [] why [] refl x (subst (λ t. L t x) (sym (append-nil front)) s)
  stuck_of front (b ∷ rest) why = λ v. not_stands front (b ∷ rest) why (b ∷ v.0) refl v.1 (subst (λ t. L t v.1) (append_assoc front (b ∷ []) v.0) v.2)

  -- if the reader accepts no digit here, the language has none here
  pub no_viable_digit : (front : List ℕ) → NoDigit kind.digits P' front → (digit : ℕ) → kind.digits.digit digit ≡ true → Viable L (front ++ digit ∷ []) → ⊥
  no_viable_digit front none digit d v =
      let s = widens (front ++ digit ∷ v.0) v.1 (subst (λ t. L t v.1) (append_assoc front (digit ∷ []) v.0) v.2) in
      false≢true (sym (finds' (front ++ digit ∷ v.0) v.1 s) ∙ none digit v.0 d)

  -- if the wider reader is stuck too, the wider language has no completion
  pub not_wider : (front : List ℕ) (b : ℕ) (rest : List ℕ) → Dead P' front (b ∷ rest) → Viable L' (front ++ b ∷ []) → ⊥
  not_wider front b rest dead v =
      let s = subst (λ t. L' t v.1) (append_assoc front (b ∷ []) v.0) v.2 in
      false≢true (sym (finds' (front ++ b ∷ v.0) v.1 s) ∙ dead (b ∷ v.0) refl)
