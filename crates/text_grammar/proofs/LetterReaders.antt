-- Shared: readers of a byte that passes a test and then a part, and of words in any case.
use Rattle.std.proofs.Common.{◌≡◌, ℕ, Bool, true, false, List, [], ◌∷◌, ◌++◌, Option, Some, None, Result, Ok, Err, refl, sym, ap, ◌∙◌, subst, append-nil}
use Rattle.std.specs.Prelude.{◌==◌}
use Rattle.std.specs.Char.{to_ascii_lowercase}
use Rattle.std.specs.List.{list_all}
use Rattle.std.proofs.lemmas.Bool.{false≢true, and_parts, eqb-true, eq-eqb}
use Rattle.plan_types.specs.declared.refusal.Cause.{Cause}
use Rattle.text_grammar.specs.Reading.{◌>>=◌, pass_after, is_letter, letter_after, word_due, valued}
use Rattle.text_grammar.specs.Parts.{Worded, worded}
use Rattle.plan_types.specs.Bytes.{is_blank}
use Rattle.text_grammar.specs.Parts.{Led, led}
use Rattle.text_grammar.proofs.TextKind.{Digits, Kind, miss, starts}
use Rattle.text_grammar.proofs.FrontReaders.{Reader, errs, Apart, ends_kept, apart_before, apart_within, Read, Like, Fault, due_fault, fault_up_like}
use Rattle.text_grammar.proofs.LeadingBlanks.{Never, never_starts, starts_same, NotDigits, starts_like}
use Rattle.text_grammar.proofs.ChainParts.{ok_parts}
use Rattle.text_grammar.proofs.MarkReaders.{led_at, led_reads, led_read, led_fault}
use Rattle.text_grammar.proofs.ReaderSteps.{Good, errs_valued, map_read, valued_itself}

-- ---- a language inside a wider one

-- the reader is correct for this language
pub record Reads {A : Type 0} (digits : Digits) (L : List ℕ → A → Type 0) (R : Reader A) : Type 0 where
  pub read : (text : List ℕ) (x : A) (rest : List ℕ) → R text ≡ Ok (x, rest) → Read L (Apart digits) text x rest
  pub reads : (text : List ℕ) (x : A) (rest : List ℕ) → L text x → Apart digits text rest → R (text ++ rest) ≡ Ok (x, rest)

-- both readers are correct for their languages, and the first fails only where it is stuck
pub record Pair {A : Type 0} (kind : Kind) (L L' : List ℕ → A → Type 0) (R R' : Reader A) : Type 0 where
  pub narrow : Reads kind.digits L R
  pub wide : Reads kind.digits L' R'
  pub wider : (text : List ℕ) (x : A) → L text x → L' text x
  pub fault : (text : List ℕ) (cause : Cause) → R text ≡ Err cause → Fault kind L L' R R' text cause

pub same_pair : {A : Type 0} (kind : Kind) (L : List ℕ → A → Type 0) (R : Reader A) → Good kind L R → Pair kind L L R R
same_pair kind L R g = record { narrow = record { read = g.read; reads = g.reads }; wide = record { read = g.read; reads = g.reads }; wider = λ text x l. l; fault = g.fault }

-- ---- the first byte

pub pass_here : (test : ℕ → Bool) (b : ℕ) (rest : List ℕ) → test b ≡ true → pass_after test (b ∷ rest) ≡ Some rest
pass_here test b rest h = rw h refl

pub pass_gone : (test : ℕ → Bool) (text : List ℕ) → starts test text ≡ false → pass_after test text ≡ None
pass_gone test [] h = refl
pass_gone test (b ∷ bs) h = rw h refl

-- the first byte passes the test, or doesn't
pub data First (test : ℕ → Bool) (text : List ℕ) : Type 0 where
  passes : (b : ℕ) (rest : List ℕ) → text ≡ b ∷ rest → test b ≡ true → First test text
  fails : starts test text ≡ false → First test text

pub first : (test : ℕ → Bool) (text : List ℕ) → First test text
first test [] = fails refl
first test (b ∷ bs) = by (test b) refl
  where
    by : (t : Bool) → test b ≡ t → First test (b ∷ bs)
    by true q = passes b bs refl q
    by false q = fails q

-- ---- a required byte, and a choice by the first byte

pub data Passing {A : Type 0} (test : ℕ → Bool) (K : List ℕ → A → Type 0) : List ℕ → A → Type 0 where
  passing : (b : ℕ) {text : List ℕ} {x : A} → test b ≡ true → K text x → Passing test K (b ∷ text) x

pub data Fork {A : Type 0} (test : ℕ → Bool) (K M : List ℕ → A → Type 0) : List ℕ → A → Type 0 where
  here : (b : ℕ) {text : List ℕ} {x : A} → test b ≡ true → K text x → Fork test K M (b ∷ text) x
  there : {text : List ℕ} {x : A} → M text x → Fork test K M text x

abbrev pub pass_choose : {A : Type 0} → (ℕ → Bool) → Reader A → Reader A → Reader A
pass_choose test R T text = elim (pass_after test text) [ None ↦ T text | Some rest ↦ R rest ]

abbrev pub pass_due : {A : Type 0} → (List ℕ → Cause) → (ℕ → Bool) → Reader A → Reader A
pass_due missing test R text = elim (pass_after test text) [ None ↦ Err (missing text) | Some rest ↦ R rest ]

none : (digits : Digits) (test : ℕ → Bool) → ((b : ℕ) → test b ≡ true → digits.digit b ≡ false) → NotDigits digits test
none digits test other b d = by (test b) refl
  where
    by : (t : Bool) → test b ≡ t → t ≡ false
    by false q = refl
    by true q = absurd (false≢true (sym (other b q) ∙ d))

module _ {A : Type 0} (digits : Digits) (test : ℕ → Bool) (other : (b : ℕ) → test b ≡ true → digits.digit b ≡ false) where
  module _ (K : List ℕ → A → Type 0) (R : Reader A) where
    choose_here : (T : Reader A) (b : ℕ) → test b ≡ true → (rest : List ℕ) → pass_choose test R T (b ∷ rest) ≡ R rest
    choose_here T b h rest = ap (λ (o : Option (List ℕ)). elim o [ None ↦ T (b ∷ rest) | Some more ↦ R more ]) (pass_here test b rest h)

    choose_gone : (T : Reader A) (text : List ℕ) → starts test text ≡ false → pass_choose test R T text ≡ T text
    choose_gone T text h = ap (λ (o : Option (List ℕ)). elim o [ None ↦ T text | Some more ↦ R more ]) (pass_gone test text h)

    module _ (k : Reads digits K R) where
      byte_read : (b : ℕ) → test b ≡ true → (text : List ℕ) (x : A) (rest : List ℕ) → R text ≡ Ok (x, rest) → (L : List ℕ → A → Type 0) → ((t : List ℕ) → K t x → L (b ∷ t) x) → Read L (Apart digits) (b ∷ text) x rest
      byte_read b is text x rest h L to = let r = k.read text x rest h in record {
        front = b ∷ r.front;
        whole = ap (λ t. b ∷ t) r.whole;
        is = to r.front r.is;
        apart = apart_before digits (b ∷ []) r.front rest (other b is) r.apart;
      }

      -- a required byte
      module _ (missing : List ℕ → Cause) where
        due_reads : {text : List ℕ} {x : A} → Passing test K text x → (rest : List ℕ) → Apart digits text rest → pass_due missing test R (text ++ rest) ≡ Ok (x, rest)
        due_reads {x = x} (passing b {text = text} h l) rest a = choose_here (λ t. Err (missing t)) b h (text ++ rest) ∙ k.reads text x rest l (apart_within digits (b ∷ []) text rest (other b h) a)

        due_read : (text : List ℕ) (x : A) (rest : List ℕ) → pass_due missing test R text ≡ Ok (x, rest) → Read (Passing test K) (Apart digits) text x rest
        due_read text x rest h = by (first test text)
          where
            by : First test text → Read (Passing test K) (Apart digits) text x rest
            by (passes b more e p) = subst (λ t. Read (Passing test K) (Apart digits) t x rest) (sym e) (byte_read b p more x rest (sym (choose_here (λ t. Err (missing t)) b p more) ∙ ap (pass_due missing test R) (sym e) ∙ h) (Passing test K) (λ t l. passing b p l))
            by (fails g) = absurd (cc (h, choose_gone (λ t. Err (missing t)) text g))

        pub reads_due : Reads digits (Passing test K) (pass_due missing test R)
        reads_due = record { read = due_read; reads = λ text x rest l a. due_reads l rest a }

      -- a choice by the first byte
      module _ (M : List ℕ → A → Type 0) (T : Reader A) (m : Reads digits M T) (never : Never test M) where
        choose_reads : {text : List ℕ} {x : A} → Fork test K M text x → (rest : List ℕ) → Apart digits text rest → pass_choose test R T (text ++ rest) ≡ Ok (x, rest)
        choose_reads {x = x} (here b {text = text} h l) rest a = choose_here T b h (text ++ rest) ∙ k.reads text x rest l (apart_within digits (b ∷ []) text rest (other b h) a)
        choose_reads {x = x} (there {text = text} l) rest a = choose_gone T (text ++ rest) (never_starts test M never text x l rest) ∙ m.reads text x rest l a

        choose_read : (text : List ℕ) (x : A) (rest : List ℕ) → pass_choose test R T text ≡ Ok (x, rest) → Read (Fork test K M) (Apart digits) text x rest
        choose_read text x rest h = by (first test text)
          where
            by : First test text → Read (Fork test K M) (Apart digits) text x rest
            by (passes b more e p) = subst (λ t. Read (Fork test K M) (Apart digits) t x rest) (sym e) (byte_read b p more x rest (sym (choose_here T b p more) ∙ ap (pass_choose test R T) (sym e) ∙ h) (Fork test K M) (λ t l. here b p l))
            by (fails g) = let r = m.read text x rest (sym (choose_gone T text g) ∙ h) in record { front = r.front; whole = r.whole; is = there r.is; apart = r.apart }

        pub reads_choose : Reads digits (Fork test K M) (pass_choose test R T)
        reads_choose = record { read = choose_read; reads = λ text x rest l a. choose_reads l rest a }

-- ---- faults

module _ {A : Type 0} (kind : Kind) (test : ℕ → Bool) (other : (b : ℕ) → test b ≡ true → kind.digits.digit b ≡ false) (K K' : List ℕ → A → Type 0) (R R' : Reader A) (k : Pair kind K K' R R') where
  byte_fault : (b : ℕ) → test b ≡ true → (text : List ℕ) (cause : Cause) → R text ≡ Err cause → (L L' : List ℕ → A → Type 0) (S S' : Reader A) → ((t : List ℕ) (x : A) → K t x → L (b ∷ t) x) → ((t : List ℕ) (x : A) → K' t x → L' (b ∷ t) x)
      → ((t : List ℕ) → S (b ∷ t) ≡ R t) → ((t : List ℕ) → S' (b ∷ t) ≡ R' t) → Fault kind L L' S S' (b ∷ text) cause
  byte_fault b is text cause h L L' S S' to to' same same' =
      let f = k.fault text cause h in
      fault_up_like kind K K' R R' L L' S S' (b ∷ [])
      (λ t x l. ([], x, subst (λ u. L (b ∷ u) x) (sym (append-nil t)) (to t x l))) (λ t x l. ([], x, subst (λ u. L' (b ∷ u) x) (sym (append-nil t)) (to' t x l)))
      text cause f (ends_kept kind.digits.digit (b ∷ []) f.front (other b is))
      (λ again like e. ap errs (same (f.front ++ again)) ∙ e) (λ again like e. ap errs (same' (f.front ++ again)) ∙ e)

  -- a required byte
  module _ (byte : ℕ) (is-byte : test byte ≡ true) (sample : List ℕ) (value : A) (is : K sample value) where
    abbrev D : Reader A
    D = pass_due (miss kind) test R

    abbrev D' : Reader A
    D' = pass_due (miss kind) test R'

    missed : (S : Reader A) (text : List ℕ) → starts test text ≡ false → errs (pass_due (miss kind) test S text) ≡ true
    missed S text h = ap errs (choose_gone kind.digits test other K S (λ t. Err (miss kind t)) text h)

    missed_fault : (text : List ℕ) (cause : Cause) → D text ≡ Err cause → Fault kind (Passing test K) (Passing test K') D D' text cause
    missed_fault text cause h = by (first test text)
      where
        by : First test text → Fault kind (Passing test K) (Passing test K') D D' text cause
        by (passes b more e p) = subst (λ t. Fault kind (Passing test K) (Passing test K') D D' t cause) (sym e)
            (byte_fault b p more cause (sym (choose_here kind.digits test other K R (λ t. Err (miss kind t)) b p more) ∙ ap D (sym e) ∙ h) (Passing test K) (Passing test K') D D'
            (λ t x l. passing b p l) (λ t x l. passing b p l) (choose_here kind.digits test other K R (λ t. Err (miss kind t)) b p) (choose_here kind.digits test other K' R' (λ t. Err (miss kind t)) b p))
        by (fails g) =
            let same : miss kind text ≡ cause = cc (h, choose_gone kind.digits test other K R (λ t. Err (miss kind t)) text g) in
            subst (Fault kind (Passing test K) (Passing test K') D D' text) same
            (due_fault kind (Passing test K) (Passing test K') D D' [] text (byte ∷ sample) value (passing byte is-byte is)
            (λ again e. missed R' again (starts_same test text again e ∙ g))
            (λ d. absurd (false≢true d))
            (λ d digit again e. missed R' (digit ∷ again) (none kind.digits test other digit e)))

    pub pair_due : Pair kind (Passing test K) (Passing test K') D D'
    pair_due = record {
      narrow = reads_due kind.digits test other K R k.narrow (miss kind);
      wide = reads_due kind.digits test other K' R' k.wide (miss kind);
      wider = wider;
      fault = missed_fault;
    }
      where
        wider : (text : List ℕ) (x : A) → Passing test K text x → Passing test K' text x
        wider text x (passing b {text = t} p l) = passing b p (k.wider t x l)

  -- a choice by the first byte
  module _ (M M' : List ℕ → A → Type 0) (T T' : Reader A) (m : Pair kind M M' T T') (never : Never test M) (never' : Never test M') where
    abbrev C : Reader A
    C = pass_choose test R T

    abbrev C' : Reader A
    C' = pass_choose test R' T'

    choose_fault : (text : List ℕ) (cause : Cause) → C text ≡ Err cause → Fault kind (Fork test K M) (Fork test K' M') C C' text cause
    choose_fault text cause h = by (first test text)
      where
        by : First test text → Fault kind (Fork test K M) (Fork test K' M') C C' text cause
        by (passes b more e p) = subst (λ t. Fault kind (Fork test K M) (Fork test K' M') C C' t cause) (sym e)
            (byte_fault b p more cause (sym (choose_here kind.digits test other K R T b p more) ∙ ap C (sym e) ∙ h) (Fork test K M) (Fork test K' M') C C'
            (λ t x l. here b p l) (λ t x l. here b p l) (choose_here kind.digits test other K R T b p) (choose_here kind.digits test other K' R' T' b p))
        by (fails g) =
            let f = m.fault text cause (sym (choose_gone kind.digits test other K R T text g) ∙ h) in
            let still : (again : List ℕ) → Like kind.digits again f.rest → starts test (f.front ++ again) ≡ false = λ again like. starts_like kind.digits test (none kind.digits test other) f.front f.rest again like (sym (ap (starts test) f.whole) ∙ g) in
            fault_up_like kind M M' T T' (Fork test K M) (Fork test K' M') C C' []
            (λ t x l. ([], x, subst (λ u. Fork test K M u x) (sym (append-nil t)) (there l))) (λ t x l. ([], x, subst (λ u. Fork test K' M' u x) (sym (append-nil t)) (there l)))
            text cause f refl
            (λ again like e. ap errs (choose_gone kind.digits test other K R T (f.front ++ again) (still again like)) ∙ e)
            (λ again like e. ap errs (choose_gone kind.digits test other K' R' T' (f.front ++ again) (still again like)) ∙ e)

    pub pair_choose : Pair kind (Fork test K M) (Fork test K' M') C C'
    pair_choose = record {
      narrow = reads_choose kind.digits test other K R k.narrow M T m.narrow never;
      wide = reads_choose kind.digits test other K' R' k.wide M' T' m.wide never';
      wider = wider;
      fault = choose_fault;
    }
      where
        wider : (text : List ℕ) (x : A) → Fork test K M text x → Fork test K' M' text x
        wider text x (here b {text = t} p l) = here b p (k.wider t x l)
        wider text x (there l) = there (m.wider text x l)

-- ---- blanks

pub pair_led : {A : Type 0} (kind : Kind) (K K' : List ℕ → A → Type 0) (R R' : Reader A) → Pair kind K K' R R' → Never is_blank K → Never is_blank K' → Pair kind (Led K) (Led K') (led_at R) (led_at R')
pair_led {A} kind K K' R R' k never never' = record {
  narrow = record { read = led_read kind.digits K R k.narrow.read; reads = led_reads kind.digits K R never k.narrow.reads };
  wide = record { read = led_read kind.digits K' R' k.wide.read; reads = led_reads kind.digits K' R' never' k.wide.reads };
  wider = wider;
  fault = led_fault kind K K' R R' k.fault;
}
  where
    wider : (text : List ℕ) (x : A) → Led K text x → Led K' text x
    wider text x (led blanks {text = t} are l) = led blanks are (k.wider t x l)

-- ---- the same texts, with other values

module _ {A B : Type 0} (kind : Kind) (f : A → B) where
  reads_map : (L : List ℕ → A → Type 0) (R : Reader A) → Reads kind.digits L R → (K : List ℕ → B → Type 0) → ((text : List ℕ) (x : A) → L text x → K text (f x)) → ((text : List ℕ) (y : B) → K text y → (x : A) × L text x × (y ≡ f x))
      → (Q : Reader B) → ((text : List ℕ) → Q text ≡ valued f (R text)) → Reads kind.digits K Q
  reads_map L R g K to from Q same = record {
    read = map_read kind.digits L R g.read f K to Q same;
    reads = λ text y rest l a. let x = from text y l in same (text ++ rest) ∙ ap (valued f) (g.reads text x.0 rest x.1 a) ∙ ap (λ v. Ok (v, rest)) (sym x.2);
  }

  module _ (L L' : List ℕ → A → Type 0) (R R' : Reader A) (g : Pair kind L L' R R') (K K' : List ℕ → B → Type 0)
      (to : (text : List ℕ) (x : A) → L text x → K text (f x)) (from : (text : List ℕ) (y : B) → K text y → (x : A) × L text x × (y ≡ f x))
      (to' : (text : List ℕ) (x : A) → L' text x → K' text (f x)) (from' : (text : List ℕ) (y : B) → K' text y → (x : A) × L' text x × (y ≡ f x))
      (Q Q' : Reader B) (same : (text : List ℕ) → Q text ≡ valued f (R text)) (same' : (text : List ℕ) → Q' text ≡ valued f (R' text)) where
    map_fault : (text : List ℕ) (cause : Cause) → Q text ≡ Err cause → Fault kind K K' Q Q' text cause
    map_fault text cause h = by (R text) refl
      where
        by : (o : Result (A × List ℕ) Cause) → R text ≡ o → Fault kind K K' Q Q' text cause
        by (Ok p) q = absurd (cc (h, same text, ap (valued f) q))
        by (Err why) q =
            let is : why ≡ cause = cc (h, same text, ap (valued f) q) in
            let f' = g.fault text cause (q ∙ ap Err is) in
            fault_up_like kind L L' R R' K K' Q Q' []
            (λ t x l. ([], f x, subst (λ u. K u (f x)) (sym (append-nil t)) (to t x l))) (λ t x l. ([], f x, subst (λ u. K' u (f x)) (sym (append-nil t)) (to' t x l)))
            text cause f' refl
            (λ again like e. ap errs (same (f'.front ++ again)) ∙ errs_valued f (R (f'.front ++ again)) e)
            (λ again like e. ap errs (same' (f'.front ++ again)) ∙ errs_valued f (R' (f'.front ++ again)) e)

    pub pair_map : Pair kind K K' Q Q'
    pair_map = record {
      narrow = reads_map L R g.narrow K to from Q same;
      wide = reads_map L' R' g.wide K' to' from' Q' same';
      wider = λ text y k. let x = from text y k in subst (K' text) (sym x.2) (to' text x.0 (g.wider text x.0 x.1));
      fault = map_fault;
    }

-- equal readers and equal languages
pub pair_as : {A : Type 0} (kind : Kind) (L L' : List ℕ → A → Type 0) (R R' : Reader A) → Pair kind L L' R R' → (K K' : List ℕ → A → Type 0)
    → ((text : List ℕ) (x : A) → L text x → K text x) → ((text : List ℕ) (x : A) → K text x → L text x) → ((text : List ℕ) (x : A) → L' text x → K' text x) → ((text : List ℕ) (x : A) → K' text x → L' text x)
    → (Q Q' : Reader A) → ((text : List ℕ) → Q text ≡ R text) → ((text : List ℕ) → Q' text ≡ R' text) → Pair kind K K' Q Q'
pair_as {A} kind L L' R R' g K K' to from to' from' Q Q' same same' =
    pair_map kind (λ x. x) L L' R R' g K K' to (λ text x l. (x, from text x l, refl)) to' (λ text x l. (x, from' text x l, refl)) Q Q' (λ text. same text ∙ valued_itself (R text)) (λ text. same' text ∙ valued_itself (R' text))

-- ---- words in any case, in texts without digits

module _ {A : Type 0} (kind : Kind) (no-digits : (b : ℕ) → kind.digits.digit b ≡ false) (K K' : List ℕ → A → Type 0) (R R' : Reader A) (k : Pair kind K K' R R') (sample : List ℕ) (value : A) (is : K sample value) where
  abbrev word_at : List ℕ → Reader A → Reader A
  word_at word S text = word_due (miss kind) word text >>= S

  word_step : (letter : ℕ) (letters : List ℕ) (S : Reader A) (text : List ℕ) → word_at (letter ∷ letters) S text ≡ pass_due (miss kind) (is_letter letter) (word_at letters S) text
  word_step letter letters S text = by (letter_after letter text)
    where
      by : (o : Option (List ℕ)) → (elim o as (λ _. Result (List ℕ) Cause) [ None ↦ Err (miss kind text) | Some rest ↦ word_due (miss kind) letters rest ]) >>= S ≡ elim o as (λ _. Result (A × List ℕ) Cause) [ None ↦ Err (miss kind text) | Some rest ↦ word_due (miss kind) letters rest >>= S ]
      by None = refl
      by (Some rest) = refl

  to_word : (L : List ℕ → A → Type 0) (letter : ℕ) (letters text : List ℕ) (x : A) → Passing (is_letter letter) (Worded letters L) text x → Worded (letter ∷ letters) L text x
  to_word L letter letters text x (passing b p (worded front {text = t} e l)) = worded (b ∷ front) (λ i. eqb-true (to_ascii_lowercase b) letter p i ∷ e i) l

  from_word : (L : List ℕ → A → Type 0) (letter : ℕ) (letters text : List ℕ) (x : A) → Worded (letter ∷ letters) L text x → Passing (is_letter letter) (Worded letters L) text x
  from_word L letter letters text x (worded [] e l) = absurd (cc e)
  from_word L letter letters text x (worded (b ∷ front) e l) = passing b (eq-eqb (to_ascii_lowercase b) letter (cc e)) (worded front (cc e) l)

  done_word : (L : List ℕ → A → Type 0) (text : List ℕ) (x : A) → L text x → Worded [] L text x
  done_word L text x l = worded [] refl l

  undone_word : (L : List ℕ → A → Type 0) (text : List ℕ) (x : A) → Worded [] L text x → L text x
  undone_word L text x (worded [] e l) = l
  undone_word L text x (worded (b ∷ front) e l) = absurd (cc e)

  sampled : (word : List ℕ) → list_all (λ letter. is_letter letter letter) word ≡ true → Worded word K (word ++ sample) value
  sampled [] h = worded [] refl is
  sampled (letter ∷ letters) h = let p = and_parts (is_letter letter letter) (list_all (λ l. is_letter l l) letters) h in to_word K letter letters (letter ∷ (letters ++ sample)) value (passing letter p.0 (sampled letters p.1))

  pub pair_word : (word : List ℕ) → list_all (λ letter. is_letter letter letter) word ≡ true → Pair kind (Worded word K) (Worded word K') (word_at word R) (word_at word R')
  pair_word [] h = pair_as kind K K' R R' k (Worded [] K) (Worded [] K') (done_word K) (undone_word K) (done_word K') (undone_word K') (word_at [] R) (word_at [] R') (λ text. refl) (λ text. refl)
  pair_word (letter ∷ letters) h =
      let p = and_parts (is_letter letter letter) (list_all (λ l. is_letter l l) letters) h in
      pair_as kind (Passing (is_letter letter) (Worded letters K)) (Passing (is_letter letter) (Worded letters K')) (pass_due (miss kind) (is_letter letter) (word_at letters R)) (pass_due (miss kind) (is_letter letter) (word_at letters R'))
      (pair_due kind (is_letter letter) (λ b q. no-digits b) (Worded letters K) (Worded letters K') (word_at letters R) (word_at letters R') (pair_word letters p.1) letter p.0 (letters ++ sample) value (sampled letters p.1))
      (Worded (letter ∷ letters) K) (Worded (letter ∷ letters) K') (to_word K letter letters) (from_word K letter letters) (to_word K' letter letters) (from_word K' letter letters)
      (word_at (letter ∷ letters) R) (word_at (letter ∷ letters) R') (word_step letter letters R) (word_step letter letters R')

-- a word begins with its first letter, in any case
pub never_word : {A : Type 0} (other letter : ℕ) (letters : List ℕ) (L : List ℕ → A → Type 0) → (letter == other) ≡ false → Never (is_letter other) (Worded (letter ∷ letters) L)
never_word other letter letters L apart text x (worded [] e l) = absurd (cc e)
never_word other letter letters L apart text x (worded (b ∷ front) {text = t} e l) = let same : to_ascii_lowercase b ≡ letter = cc e in (b, front ++ t, refl, ap (λ c. c == other) same ∙ apart)

-- no word begins with a byte that isn't a letter
pub solid_word : {A : Type 0} (test : ℕ → Bool) (letter : ℕ) (letters : List ℕ) (L : List ℕ → A → Type 0) → ((b : ℕ) → is_letter letter b ≡ true → test b ≡ false) → Never test (Worded (letter ∷ letters) L)
solid_word test letter letters L apart text x (worded [] e l) = absurd (cc e)
solid_word test letter letters L apart text x (worded (b ∷ front) {text = t} e l) = (b, front ++ t, refl, apart b (eq-eqb (to_ascii_lowercase b) letter (cc e)))
