-- Shared: readers of a byte or blanks and then a part, each correct for its language.
use Rattle.std.proofs.Common.{◌≡◌, inl, inr, ℕ, Bool, true, false, List, [], ◌∷◌, ◌++◌, Option, Some, None, Result, Ok, Err, refl, sym, ap, ◌∙◌, subst, append-nil}
use Rattle.std.specs.Prelude.{◌==◌}
use Rattle.std.proofs.lemmas.Bool.{false≢true}
use Rattle.plan_types.specs.declared.refusal.Cause.{Cause}
use Rattle.plan_types.specs.Bytes.{is_blank, begins_with}
use Rattle.text_grammar.specs.Reading.{◌>>=◌, byte_after, byte_due, valued}
use Rattle.text_grammar.specs.Parts.{Led}
use Rattle.text_grammar.proofs.TextKind.{Digits, Kind, miss}
use Rattle.text_grammar.proofs.FrontReaders.{Reader, errs, Apart, ends_kept, apart_before, apart_within, Read, Like, Fault, due_fault, fault_up_like}
use Rattle.text_grammar.proofs.ChainParts.{ok_parts}
use Rattle.text_grammar.proofs.LeadingBlanks.{Never, never_starts, starts_same, no_digits, begins_like, byte_here, byte_gone, Begun, begun, due_here, due_gone}
use Rattle.text_grammar.proofs.MarkReaders.{led_at, led_reads, led_read, led_fault}

-- the reader is correct for this language, and fails only where it is stuck
pub record Good {A : Type 0} (kind : Kind) (L : List ℕ → A → Type 0) (R : Reader A) : Type 0 where
  pub read : (text : List ℕ) (x : A) (rest : List ℕ) → R text ≡ Ok (x, rest) → Read L (Apart kind.digits) text x rest
  pub reads : (text : List ℕ) (x : A) (rest : List ℕ) → L text x → Apart kind.digits text rest → R (text ++ rest) ≡ Ok (x, rest)
  pub fault : (text : List ℕ) (cause : Cause) → R text ≡ Err cause → Fault kind L L R R text cause

-- ---- blanks

pub good_led : {A : Type 0} (kind : Kind) (K : List ℕ → A → Type 0) (R : Reader A) → Good kind K R → Never is_blank K → Good kind (Led K) (led_at R)
good_led kind K R k never = record { read = led_read kind.digits K R k.read; reads = led_reads kind.digits K R never k.reads; fault = led_fault kind K K R R k.fault }

-- ---- a byte

pub data After {A : Type 0} (byte : ℕ) (K : List ℕ → A → Type 0) : List ℕ → A → Type 0 where
  after : {text : List ℕ} {x : A} → K text x → After byte K (byte ∷ text) x

pub data Choice {A : Type 0} (byte : ℕ) (K M : List ℕ → A → Type 0) : List ℕ → A → Type 0 where
  here : {text : List ℕ} {x : A} → K text x → Choice byte K M (byte ∷ text) x
  there : {text : List ℕ} {x : A} → M text x → Choice byte K M text x

abbrev pub choose : {A : Type 0} → ℕ → Reader A → Reader A → Reader A
choose byte R T text = elim (byte_after byte text) [ Some rest ↦ R rest | None ↦ T text ]

abbrev pub due : {A : Type 0} → (List ℕ → Cause) → ℕ → Reader A → Reader A
due missing byte R text = byte_due missing byte text >>= R

module _ {A : Type 0} (kind : Kind) (byte : ℕ) (other : kind.digits.digit byte ≡ false) (K : List ℕ → A → Type 0) (R : Reader A) (k : Good kind K R) where
  abbrev is_byte : ℕ → Bool
  is_byte c = c == byte

  byte_read : (text : List ℕ) (x : A) (rest : List ℕ) → R text ≡ Ok (x, rest) → (L : List ℕ → A → Type 0) → ((t : List ℕ) → K t x → L (byte ∷ t) x) → Read L (Apart kind.digits) (byte ∷ text) x rest
  byte_read text x rest h L to = let r = k.read text x rest h in record {
    front = byte ∷ r.front;
    whole = ap (λ t. byte ∷ t) r.whole;
    is = to r.front r.is;
    apart = apart_before kind.digits (byte ∷ []) r.front rest other r.apart;
  }

  byte_fault : (text : List ℕ) (cause : Cause) → R text ≡ Err cause → (L : List ℕ → A → Type 0) (S : Reader A) → ((t : List ℕ) (x : A) → K t x → L (byte ∷ t) x) → ((t : List ℕ) → S (byte ∷ t) ≡ R t) → Fault kind L L S S (byte ∷ text) cause
  byte_fault text cause h L S to same =
      let f = k.fault text cause h in
      let completes : (t : List ℕ) (x : A) → K t x → (end : List ℕ) × (y : A) × L (byte ∷ (t ++ end)) y = λ t x l. ([], x, subst (λ u. L (byte ∷ u) x) (sym (append-nil t)) (to t x l)) in
      let passes : (again : List ℕ) → Like kind.digits again f.rest → errs (R (f.front ++ again)) ≡ true → errs (S (byte ∷ (f.front ++ again))) ≡ true = λ again like e. ap errs (same (f.front ++ again)) ∙ e in
      fault_up_like kind K K R R L L S S (byte ∷ []) completes completes text cause f (ends_kept kind.digits.digit (byte ∷ []) f.front other) passes passes

  -- a required byte
  module _ (sample : List ℕ) (value : A) (is : K sample value) where
    passed : (rest : List ℕ) → due (miss kind) byte R (byte ∷ rest) ≡ R rest
    passed rest = ap (λ r. r >>= R) (due_here (miss kind) byte rest)

    missed : (text : List ℕ) → begins_with byte text ≡ false → due (miss kind) byte R text ≡ Err (miss kind text)
    missed text h = ap (λ r. r >>= R) (due_gone (miss kind) byte text h)

    due_reads : {text : List ℕ} {x : A} → After byte K text x → (rest : List ℕ) → Apart kind.digits text rest → due (miss kind) byte R (text ++ rest) ≡ Ok (x, rest)
    due_reads {x = x} (after {text = text} l) rest a = passed (text ++ rest) ∙ k.reads text x rest l (apart_within kind.digits (byte ∷ []) text rest other a)

    due_read : (text : List ℕ) (x : A) (rest : List ℕ) → due (miss kind) byte R text ≡ Ok (x, rest) → Read (After byte K) (Apart kind.digits) text x rest
    due_read text x rest h = by (begun byte text)
      where
        by : Begun byte text → Read (After byte K) (Apart kind.digits) text x rest
        by (inl p) = subst (λ t. Read (After byte K) (Apart kind.digits) t x rest) (sym p.1) (byte_read p.0 x rest (sym (passed p.0) ∙ ap (due (miss kind) byte R) (sym p.1) ∙ h) (After byte K) (λ t l. after l))
        by (inr g) = absurd (cc (h, missed text g))

    missed_fault : (text : List ℕ) (cause : Cause) → due (miss kind) byte R text ≡ Err cause → Fault kind (After byte K) (After byte K) (due (miss kind) byte R) (due (miss kind) byte R) text cause
    missed_fault text cause h = by (begun byte text)
      where
        by : Begun byte text → Fault kind (After byte K) (After byte K) (due (miss kind) byte R) (due (miss kind) byte R) text cause
        by (inl p) = subst (λ t. Fault kind (After byte K) (After byte K) (due (miss kind) byte R) (due (miss kind) byte R) t cause) (sym p.1)
            (byte_fault p.0 cause (sym (passed p.0) ∙ ap (due (miss kind) byte R) (sym p.1) ∙ h) (After byte K) (due (miss kind) byte R) (λ t x l. after l) passed)
        by (inr g) =
            let same : miss kind text ≡ cause = cc (h, missed text g) in
            subst (Fault kind (After byte K) (After byte K) (due (miss kind) byte R) (due (miss kind) byte R) text) same
            (due_fault kind (After byte K) (After byte K) (due (miss kind) byte R) (due (miss kind) byte R) [] text (byte ∷ sample) value (after is)
            (λ again e. ap errs (missed again (starts_same is_byte text again e ∙ g)))
            (λ d. absurd (false≢true d))
            (λ d digit again e. ap errs (missed (digit ∷ again) (no_digits kind.digits byte other digit e))))

    pub good_due : Good kind (After byte K) (due (miss kind) byte R)
    good_due = record { read = due_read; reads = λ text x rest l a. due_reads l rest a; fault = missed_fault }

  -- a choice by the first byte
  module _ (M : List ℕ → A → Type 0) (T : Reader A) (m : Good kind M T) (never : Never is_byte M) where
    choose_here : (rest : List ℕ) → choose byte R T (byte ∷ rest) ≡ R rest
    choose_here rest = ap (λ (o : Option (List ℕ)). elim o [ Some more ↦ R more | None ↦ T (byte ∷ rest) ]) (byte_here byte rest)

    choose_gone : (text : List ℕ) → begins_with byte text ≡ false → choose byte R T text ≡ T text
    choose_gone text h = ap (λ (o : Option (List ℕ)). elim o [ Some more ↦ R more | None ↦ T text ]) (byte_gone byte text h)

    choose_reads : {text : List ℕ} {x : A} → Choice byte K M text x → (rest : List ℕ) → Apart kind.digits text rest → choose byte R T (text ++ rest) ≡ Ok (x, rest)
    choose_reads {x = x} (here {text = text} l) rest a = choose_here (text ++ rest) ∙ k.reads text x rest l (apart_within kind.digits (byte ∷ []) text rest other a)
    choose_reads {x = x} (there {text = text} l) rest a = choose_gone (text ++ rest) (never_starts is_byte M never text x l rest) ∙ m.reads text x rest l a

    choose_read : (text : List ℕ) (x : A) (rest : List ℕ) → choose byte R T text ≡ Ok (x, rest) → Read (Choice byte K M) (Apart kind.digits) text x rest
    choose_read text x rest h = by (begun byte text)
      where
        by : Begun byte text → Read (Choice byte K M) (Apart kind.digits) text x rest
        by (inl p) = subst (λ t. Read (Choice byte K M) (Apart kind.digits) t x rest) (sym p.1) (byte_read p.0 x rest (sym (choose_here p.0) ∙ ap (choose byte R T) (sym p.1) ∙ h) (Choice byte K M) (λ t l. here l))
        by (inr g) = let r = m.read text x rest (sym (choose_gone text g) ∙ h) in record { front = r.front; whole = r.whole; is = there r.is; apart = r.apart }

    choose_fault : (text : List ℕ) (cause : Cause) → choose byte R T text ≡ Err cause → Fault kind (Choice byte K M) (Choice byte K M) (choose byte R T) (choose byte R T) text cause
    choose_fault text cause h = by (begun byte text)
      where
        by : Begun byte text → Fault kind (Choice byte K M) (Choice byte K M) (choose byte R T) (choose byte R T) text cause
        by (inl p) = subst (λ t. Fault kind (Choice byte K M) (Choice byte K M) (choose byte R T) (choose byte R T) t cause) (sym p.1)
            (byte_fault p.0 cause (sym (choose_here p.0) ∙ ap (choose byte R T) (sym p.1) ∙ h) (Choice byte K M) (choose byte R T) (λ t x l. here l) choose_here)
        by (inr g) =
            let f = m.fault text cause (sym (choose_gone text g) ∙ h) in
            let completes : (t : List ℕ) (x : A) → M t x → (end : List ℕ) × (y : A) × Choice byte K M (t ++ end) y = λ t x l. ([], x, subst (λ u. Choice byte K M u x) (sym (append-nil t)) (there l)) in
            let passes : (again : List ℕ) → Like kind.digits again f.rest → errs (T (f.front ++ again)) ≡ true → errs (choose byte R T (f.front ++ again)) ≡ true =
            λ again like e. ap errs (choose_gone (f.front ++ again) (begins_like kind.digits byte other f.front f.rest again like (sym (ap (begins_with byte) f.whole) ∙ g))) ∙ e in
            fault_up_like kind M M T T (Choice byte K M) (Choice byte K M) (choose byte R T) (choose byte R T) [] completes completes text cause f refl passes passes

    pub good_choose : Good kind (Choice byte K M) (choose byte R T)
    good_choose = record { read = choose_read; reads = λ text x rest l a. choose_reads l rest a; fault = choose_fault }

-- ---- nothing more

pub data Done {A : Type 0} (x : A) : List ℕ → A → Type 0 where
  done : Done x [] x

pub good_done : {A : Type 0} (kind : Kind) (x : A) → Good kind (Done x) (λ text. Ok (x, text))
good_done {A} kind x = record {
  read = λ text y rest h. let p = ok_parts x y text rest h in record { front = []; whole = p.1; is = subst (Done x []) p.0 done; apart = λ d. absurd (false≢true d) };
  reads = reads;
  fault = λ text cause h. absurd (cc h);
}
  where
    reads : (text : List ℕ) (y : A) (rest : List ℕ) → Done x text y → Apart kind.digits text rest → (let p : Result (A × List ℕ) Cause = Ok (x, text ++ rest) in let q : Result (A × List ℕ) Cause = Ok (y, rest) in p ≡ q)
    reads text y rest done a = refl

-- ---- the same texts, with other values

pub errs_valued : {A B : Type 0} (f : A → B) (r : Result (A × List ℕ) Cause) → errs r ≡ true → errs (valued f r) ≡ true
errs_valued f (Ok p) h = h
errs_valued f (Err cause) h = h

pub valued_itself : {A : Type 0} (r : Result (A × List ℕ) Cause) → r ≡ valued (λ x. x) r
valued_itself (Ok p) = refl
valued_itself (Err cause) = refl

pub map_read : {A B : Type 0} (digits : Digits) (L : List ℕ → A → Type 0) (R : Reader A) → ((text : List ℕ) (x : A) (rest : List ℕ) → R text ≡ Ok (x, rest) → Read L (Apart digits) text x rest)
    → (f : A → B) (K : List ℕ → B → Type 0) → ((text : List ℕ) (x : A) → L text x → K text (f x)) → (Q : Reader B) → ((text : List ℕ) → Q text ≡ valued f (R text))
    → (text : List ℕ) (y : B) (rest : List ℕ) → Q text ≡ Ok (y, rest) → Read K (Apart digits) text y rest
map_read {A} digits L R read f K to Q same text y rest h = by (R text) refl
  where
    by : (o : Result (A × List ℕ) Cause) → R text ≡ o → Read K (Apart digits) text y rest
    by (Err cause) q = absurd (cc (h, same text, ap (valued f) q))
    by (Ok p) q =
        let r = read text p.0 p.1 q in
        let e = ok_parts (f p.0) y p.1 rest (sym (same text ∙ ap (valued f) q) ∙ h) in
        record { front = r.front; whole = r.whole ∙ ap (λ t. r.front ++ t) e.1; is = subst (K r.front) e.0 (to r.front p.0 r.is); apart = subst (Apart digits r.front) e.1 r.apart }

module _ {A B : Type 0} (kind : Kind) (L : List ℕ → A → Type 0) (R : Reader A) (g : Good kind L R) (f : A → B) (K : List ℕ → B → Type 0)
    (to : (text : List ℕ) (x : A) → L text x → K text (f x)) (from : (text : List ℕ) (y : B) → K text y → (x : A) × L text x × (y ≡ f x)) (Q : Reader B) (same : (text : List ℕ) → Q text ≡ valued f (R text)) where
  map_fault : (text : List ℕ) (cause : Cause) → Q text ≡ Err cause → Fault kind K K Q Q text cause
  map_fault text cause h = by (R text) refl
    where
      by : (o : Result (A × List ℕ) Cause) → R text ≡ o → Fault kind K K Q Q text cause
      by (Ok p) q = absurd (cc (h, same text, ap (valued f) q))
      by (Err why) q =
          let is : why ≡ cause = cc (h, same text, ap (valued f) q) in
          let completes : (t : List ℕ) (x : A) → L t x → (end : List ℕ) × (y : B) × K (t ++ end) y = λ t x l. ([], f x, subst (λ u. K u (f x)) (sym (append-nil t)) (to t x l)) in
          let f' = g.fault text cause (q ∙ ap Err is) in
          let passes : (again : List ℕ) → Like kind.digits again f'.rest → errs (R (f'.front ++ again)) ≡ true → errs (Q (f'.front ++ again)) ≡ true = λ again like e. ap errs (same (f'.front ++ again)) ∙ errs_valued f (R (f'.front ++ again)) e in
          fault_up_like kind L L R R K K Q Q [] completes completes text cause f' refl passes passes

  pub good_map : Good kind K Q
  good_map = record {
    read = map_read kind.digits L R g.read f K to Q same;
    reads = λ text y rest l a. let x = from text y l in same (text ++ rest) ∙ ap (valued f) (g.reads text x.0 rest x.1 a) ∙ ap (λ v. Ok (v, rest)) (sym x.2);
    fault = map_fault;
  }

-- an equal reader and an equal language
pub good_as : {A : Type 0} (kind : Kind) (L : List ℕ → A → Type 0) (R : Reader A) → Good kind L R → (K : List ℕ → A → Type 0) → ((text : List ℕ) (x : A) → L text x → K text x) → ((text : List ℕ) (x : A) → K text x → L text x)
    → (Q : Reader A) → ((text : List ℕ) → Q text ≡ R text) → Good kind K Q
good_as {A} kind L R g K to from Q same = good_map kind L R g (λ x. x) K to (λ text x l. (x, from text x l, refl)) Q (λ text. same text ∙ valued_itself (R text))
