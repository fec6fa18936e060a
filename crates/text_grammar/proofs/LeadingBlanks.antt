-- Shared: the first byte of a text, and the blanks before it.
use Rattle.std.proofs.Common.{◌≡◌, ◌≢◌, ◌⊎◌, inl, inr, ℕ, Bool, true, false, List, [], ◌∷◌, ◌++◌, length, Option, Some, None, Result, Ok, Err, refl, sym, ap, ◌∙◌, subst, append-nil, arith}
use Rattle.std.specs.Prelude.{◌==◌}
use Rattle.std.specs.List.{list_all}
use Rattle.std.proofs.lemmas.Bool.{false≢true, and_parts, and_from, eqb-true, eq-eqb}
use Rattle.plan_types.specs.declared.refusal.Cause.{Cause}
use Rattle.plan_types.specs.Bytes.{is_blank, Blanks, begins_with}
use Rattle.text_grammar.specs.Reading.{skip_blanks, byte_after, byte_due}
use Rattle.text_grammar.proofs.TextKind.{Digits, starts, ends_with}
use Rattle.text_grammar.proofs.FrontReaders.{head_of, Like}

-- ---- the first byte

-- each text of the language begins with a byte that fails the test
abbrev pub Never : {A : Type 0} → (ℕ → Bool) → (List ℕ → A → Type 0) → Type 0
Never test L = (text : List ℕ) (x : _) → L text x → (b : ℕ) × (bs : List ℕ) × (text ≡ b ∷ bs) × (test b ≡ false)

pub never_starts : {A : Type 0} (test : ℕ → Bool) (L : List ℕ → A → Type 0) → Never test L → (text : List ℕ) (x : A) → L text x → (rest : List ℕ) → starts test (text ++ rest) ≡ false
never_starts test L never text x l rest = let f = never text x l in ap (λ t. starts test (t ++ rest)) f.2 ∙ f.3

pub never_empty : {A : Type 0} (test : ℕ → Bool) (L : List ℕ → A → Type 0) → Never test L → (text : List ℕ) (x : A) → L text x → text ≢ []
never_empty test L never text x l e = let f = never text x l in cc (e, f.2)

abbrev pub NotDigits : Digits → (ℕ → Bool) → Type 0
NotDigits digits test = (b : ℕ) → digits.digit b ≡ true → test b ≡ false

pub starts_same : (test : ℕ → Bool) (rest again : List ℕ) → head_of again ≡ head_of rest → starts test again ≡ starts test rest
starts_same test [] [] e = refl
starts_same test [] (b ∷ again) e = absurd (cc e)
starts_same test (b ∷ rest) [] e = absurd (cc e)
starts_same test (b ∷ rest) (c ∷ again) e = let same : c ≡ b = cc e in ap test same

pub starts_digit : (digits : Digits) (test : ℕ → Bool) → NotDigits digits test → (again : List ℕ) → starts digits.digit again ≡ true → starts test again ≡ false
starts_digit digits test none [] d = refl
starts_digit digits test none (b ∷ again) d = none b d

-- if the first byte fails the test, it fails for a like rest too
pub starts_like : (digits : Digits) (test : ℕ → Bool) → NotDigits digits test → (front rest again : List ℕ) → Like digits again rest → starts test (front ++ rest) ≡ false → starts test (front ++ again) ≡ false
starts_like digits test none [] rest again (inl e) h = starts_same test rest again e ∙ h
starts_like digits test none [] rest again (inr d) h = starts_digit digits test none again d
starts_like digits test none (b ∷ front) rest again like h = h

-- a byte that passes differs from one that doesn't
pub other_byte : (test : ℕ → Bool) (byte : ℕ) → test byte ≡ false → (b : ℕ) → test b ≡ true → (b == byte) ≡ false
other_byte test byte none b h = by (b == byte) refl
  where
    by : (t : Bool) → (b == byte) ≡ t → t ≡ false
    by false q = refl
    by true q = absurd (false≢true (sym none ∙ ap test (sym (eqb-true b byte q)) ∙ h))

pub no_digits : (digits : Digits) (byte : ℕ) → digits.digit byte ≡ false → NotDigits digits (λ c. c == byte)
no_digits digits byte other = other_byte digits.digit byte other

pub begins_like : (digits : Digits) (byte : ℕ) → digits.digit byte ≡ false → (front rest again : List ℕ) → Like digits again rest → begins_with byte (front ++ rest) ≡ false → begins_with byte (front ++ again) ≡ false
begins_like digits byte other front rest again like h = starts_like digits (λ c. c == byte) (no_digits digits byte other) front rest again like h

-- ---- a byte that is read

pub byte_here : (byte : ℕ) (rest : List ℕ) → byte_after byte (byte ∷ rest) ≡ Some rest
byte_here byte rest = rw (eq-eqb byte byte refl) refl

pub byte_gone : (byte : ℕ) (text : List ℕ) → begins_with byte text ≡ false → byte_after byte text ≡ None
byte_gone byte [] h = refl
byte_gone byte (b ∷ bs) h = rw h refl

abbrev pub Begun : ℕ → List ℕ → Type 0
Begun byte text = ((rest : List ℕ) × (text ≡ byte ∷ rest)) ⊎ (begins_with byte text ≡ false)

pub begun : (byte : ℕ) (text : List ℕ) → Begun byte text
begun byte [] = inr refl
begun byte (b ∷ bs) = by (b == byte) refl
  where
    by : (t : Bool) → (b == byte) ≡ t → Begun byte (b ∷ bs)
    by true q = inl (bs, ap (λ c. c ∷ bs) (eqb-true b byte q))
    by false q = inr q

pub due_here : (missing : List ℕ → Cause) (byte : ℕ) (rest : List ℕ) → byte_due missing byte (byte ∷ rest) ≡ Ok rest
due_here missing byte rest = ap (λ (o : Option (List ℕ)). elim o as (λ _. Result (List ℕ) Cause) [ None ↦ Err (missing (byte ∷ rest)) | Some more ↦ Ok more ]) (byte_here byte rest)

pub due_gone : (missing : List ℕ → Cause) (byte : ℕ) (text : List ℕ) → begins_with byte text ≡ false → byte_due missing byte text ≡ Err (missing text)
due_gone missing byte text h = ap (λ (o : Option (List ℕ)). elim o as (λ _. Result (List ℕ) Cause) [ None ↦ Err (missing text) | Some more ↦ Ok more ]) (byte_gone byte text h)

-- ---- blanks

module _ (digits : Digits) where
  pub blank_no_digit : (b : ℕ) → is_blank b ≡ true → digits.digit b ≡ false
  blank_no_digit b h = digits.digit_on b (digits.blank_on b h)

  pub blanks_none : NotDigits digits is_blank
  blanks_none b d = by (is_blank b) refl
    where
      by : (t : Bool) → is_blank b ≡ t → t ≡ false
      by false q = refl
      by true q = absurd (false≢true (sym (blank_no_digit b q) ∙ d))

  pub blanks_go_on : (blanks rest : List ℕ) → Blanks blanks → starts digits.on rest ≡ false → starts digits.on (blanks ++ rest) ≡ false
  blanks_go_on [] rest all g = g
  blanks_go_on (b ∷ bs) rest all g = digits.blank_on b (and_parts (is_blank b) (list_all is_blank bs) all).0

  pub ends_blanks : (blanks : List ℕ) → Blanks blanks → ends_with digits.digit blanks ≡ false
  ends_blanks [] h = refl
  ends_blanks (b ∷ []) h = blank_no_digit b (and_parts (is_blank b) true h).0
  ends_blanks (b ∷ c ∷ bs) h = ends_blanks (c ∷ bs) (and_parts (is_blank b) (list_all is_blank (c ∷ bs)) h).1

-- a text as its leading blanks and the rest
pub record Cut (text : List ℕ) : Type 0 where
  pub blanks : List ℕ
  pub all : Blanks blanks
  pub whole : text ≡ blanks ++ skip_blanks text
  pub none : starts is_blank (skip_blanks text) ≡ false

pub cut : (text : List ℕ) → Cut text
cut [] = record { blanks = []; all = refl; whole = refl; none = refl }
cut (b ∷ bs) = by (cut bs) (is_blank b) refl
  where
    by : Cut bs → (t : Bool) → is_blank b ≡ t → Cut (b ∷ bs)
    by c true q = let e : skip_blanks (b ∷ bs) ≡ skip_blanks bs = rw q refl in record {
      blanks = b ∷ c.blanks;
      all = and_from (is_blank b) (list_all is_blank c.blanks) q c.all;
      whole = ap (λ t. b ∷ t) c.whole ∙ ap (λ t. b ∷ (c.blanks ++ t)) (sym e);
      none = ap (starts is_blank) e ∙ c.none;
    }
    by c false q = let e : skip_blanks (b ∷ bs) ≡ b ∷ bs = rw q refl in record {
      blanks = [];
      all = refl;
      whole = sym e;
      none = ap (starts is_blank) e ∙ q;
    }

pub skip_over : (blanks text : List ℕ) → Blanks blanks → starts is_blank text ≡ false → skip_blanks (blanks ++ text) ≡ text
skip_over [] [] all h = refl
skip_over [] (b ∷ bs) all h = rw h refl
skip_over (b ∷ bs) text all h = let p = and_parts (is_blank b) (list_all is_blank bs) all in rw p.0 (skip_over bs text p.1 h)

-- ---- texts of blanks alone

pub no_length : (text : List ℕ) → (length text == 0) ≡ true → text ≡ []
no_length [] h = refl
no_length (b ∷ bs) h = absurd (omega (arith, eqb-true (length (b ∷ bs)) 0 h))

pub some_length : (text : List ℕ) → text ≢ [] → (length text == 0) ≡ false
some_length [] some = absurd (some refl)
some_length (b ∷ bs) some = by (length (b ∷ bs) == 0) refl
  where
    by : (t : Bool) → (length (b ∷ bs) == 0) ≡ t → (length (b ∷ bs) == 0) ≡ false
    by true q = absurd (some (no_length (b ∷ bs) q))
    by false q = q

pub all_blanks : (text : List ℕ) → skip_blanks text ≡ [] → Blanks text
all_blanks text h = let c = cut text in subst Blanks (sym (c.whole ∙ ap (λ t. c.blanks ++ t) h ∙ append-nil c.blanks)) c.all

pub skip_all : (text : List ℕ) → Blanks text → skip_blanks text ≡ []
skip_all text are = ap skip_blanks (sym (append-nil text)) ∙ skip_over text [] are refl

pub blanks_parts : (xs ys : List ℕ) → Blanks (xs ++ ys) → Blanks xs × Blanks ys
blanks_parts [] ys h = (refl, h)
blanks_parts (x ∷ xs) ys h =
    let p = and_parts (is_blank x) (list_all is_blank (xs ++ ys)) h in
    let q = blanks_parts xs ys p.1 in
    (and_from (is_blank x) (list_all is_blank xs) p.0 q.0, q.1)

pub blanks_push : (xs : List ℕ) (b : ℕ) → Blanks xs → is_blank b ≡ true → Blanks (xs ++ b ∷ [])
blanks_push [] b h q = and_from (is_blank b) true q refl
blanks_push (x ∷ xs) b h q = let p = and_parts (is_blank x) (list_all is_blank xs) h in and_from (is_blank x) (list_all is_blank (xs ++ b ∷ [])) p.0 (blanks_push xs b p.1 q)
