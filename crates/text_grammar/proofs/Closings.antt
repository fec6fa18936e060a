-- Shared: a part, blanks and a closing byte, and what may follow a part and blanks.
use Rattle.std.proofs.Common.{◌≡◌, ◌⊎◌, inl, inr, ℕ, Bool, true, false, List, [], ◌∷◌, ◌++◌, Result, Ok, Err, refl, sym, ap, ◌∙◌, subst, append_assoc, append-nil}
use Rattle.std.proofs.lemmas.Bool.{false≢true}
use Rattle.plan_types.specs.declared.refusal.Cause.{Cause}
use Rattle.plan_types.specs.Bytes.{is_blank, Blanks, begins_with}
use Rattle.text_grammar.specs.Reading.{◌>>=◌, skip_blanks, byte_due}
use Rattle.text_grammar.proofs.TextKind.{Digits, Kind, miss, starts, ends_with}
use Rattle.text_grammar.proofs.FrontReaders.{Reader, head_of, errs, Apart, apart_same_head, ends_behind, Read, Like, Fault, due_fault, fault_up}
use Rattle.text_grammar.proofs.ChainParts.{ok_parts, errs_then}
use Rattle.text_grammar.proofs.LeadingBlanks.{starts_like, begins_like, Begun, begun, due_here, due_gone, blanks_none, ends_blanks, cut, skip_over}

-- ---- after a part and blanks

-- Another text after the blanks: it begins with the same byte, or with a digit that no digit precedes.
pub record Instead (digits : Digits) (front behind again : List ℕ) : Type 0 where
  pub begins : (head_of again ≡ head_of (skip_blanks behind)) ⊎ ((starts digits.digit again ≡ true) × (ends_with digits.digit (front ++ (cut behind).blanks) ≡ false))

abbrev pub instead : List ℕ → List ℕ → List ℕ
instead behind again = (cut behind).blanks ++ again

pub like_instead : (digits : Digits) {front behind again : List ℕ} → Instead digits front behind again → Like digits again (skip_blanks behind)
like_instead digits i = elim i.begins [ inl same ↦ inl same | inr p ↦ inr p.0 ]

pub skip_instead : (digits : Digits) {front behind again : List ℕ} → Instead digits front behind again → skip_blanks (instead behind again) ≡ again
skip_instead digits {behind = behind} {again = again} i = let c = cut behind in skip_over c.blanks again c.all (starts_like digits is_blank (blanks_none digits) [] (skip_blanks behind) again (like_instead digits i) c.none)

pub begins_instead : (digits : Digits) (byte : ℕ) → digits.digit byte ≡ false → {front behind again : List ℕ} → Instead digits front behind again → begins_with byte (skip_blanks behind) ≡ false → begins_with byte (skip_blanks (instead behind again)) ≡ false
begins_instead digits byte other {behind = behind} {again = again} i h = ap (begins_with byte) (skip_instead digits i) ∙ begins_like digits byte other [] (skip_blanks behind) again (like_instead digits i) h

apart_next : (digits : Digits) (front blanks rest again : List ℕ) → Apart digits front (blanks ++ rest) → (head_of again ≡ head_of rest) ⊎ (ends_with digits.digit (front ++ blanks) ≡ false) → Apart digits front (blanks ++ again)
apart_next digits front [] rest again a (inl same) = apart_same_head digits front rest again (sym same) a
apart_next digits front [] rest again a (inr last) = λ d. absurd (false≢true (sym last ∙ ap (ends_with digits.digit) (append-nil front) ∙ d))
apart_next digits front (b ∷ bs) rest again a o = a

pub apart_instead : (digits : Digits) {front behind again : List ℕ} → Instead digits front behind again → Apart digits front behind → Apart digits front (instead behind again)
apart_instead digits {front = front} {behind = behind} {again = again} i a =
    apart_next digits front (cut behind).blanks (skip_blanks behind) again (subst (Apart digits front) (cut behind).whole a) (elim i.begins [ inl same ↦ inl same | inr p ↦ inr p.1 ])

apart_end : (digits : Digits) (front blanks rest : List ℕ) → Blanks blanks → Apart digits front (blanks ++ rest) → ends_with digits.digit (front ++ blanks) ≡ true → starts digits.digit rest ≡ false
apart_end digits front [] [] all a d = refl
apart_end digits front [] (b ∷ rest) all a d = digits.digit_on b (a (ap (ends_with digits.digit) (sym (append-nil front)) ∙ d))
apart_end digits front (b ∷ bs) rest all a d = absurd (false≢true (sym (ends_behind digits.digit front b bs ∙ ends_blanks digits (b ∷ bs) all) ∙ d))

-- A fault after a part and blanks: neither the rest nor such another text may follow.
pub misplaced : {A B : Type 0} (kind : Kind) (K K' : List ℕ → A → Type 0) (Q Q' : List ℕ → Result B Cause) (front behind : List ℕ) → Apart kind.digits front behind
    → (more : List ℕ) (x : A) → K (front ++ instead behind more) x → ((again : List ℕ) → Instead kind.digits front behind again → errs (Q' (front ++ instead behind again)) ≡ true)
    → Fault kind K K' Q Q' (front ++ behind) (miss kind (skip_blanks behind))
misplaced kind K K' Q Q' front behind apart more x goes fails =
    let c = cut behind in
    let rest = skip_blanks behind in
    let stuck : (again : List ℕ) → Instead kind.digits front behind again → errs (Q' ((front ++ c.blanks) ++ again)) ≡ true = λ again i. ap (λ t. errs (Q' t)) (append_assoc front c.blanks again) ∙ fails again i in
    subst (λ t. Fault kind K K' Q Q' t (miss kind rest)) (append_assoc front c.blanks rest ∙ ap (λ t. front ++ t) (sym c.whole))
    (due_fault kind K K' Q Q' (front ++ c.blanks) rest more x (subst (λ t. K t x) (sym (append_assoc front c.blanks more)) goes)
    (λ again same. stuck again (record { begins = inl same }))
    (apart_end kind.digits front c.blanks rest c.all (subst (Apart kind.digits front) c.whole apart))
    (λ last digit again is. stuck (digit ∷ again) (record { begins = inr (is, last) })))

-- ---- the part, blanks and the byte

pub data Closed {A : Type 0} (close : ℕ) (L : List ℕ → A → Type 0) : List ℕ → A → Type 0 where
  closed : (text after : List ℕ) {x : A} → L text x → Blanks after → Closed close L (text ++ (after ++ close ∷ [])) x

abbrev pub closed_at : {A : Type 0} → (List ℕ → Cause) → ℕ → A × List ℕ → Result (A × List ℕ) Cause
closed_at missing close r = byte_due missing close (skip_blanks r.1) >>= λ rest. Ok (r.0, rest)

abbrev pub closing : {A : Type 0} → (List ℕ → Cause) → ℕ → Reader A → Reader A
closing missing close P text = P text >>= closed_at missing close

closed_here : {A : Type 0} (kind : Kind) (close : ℕ) (x : A) (text rest : List ℕ) → skip_blanks text ≡ close ∷ rest → closed_at (miss kind) close (x, text) ≡ Ok (x, rest)
closed_here {A} kind close x text rest e = ap (λ r. ◌>>=◌ {B = A × List ℕ} r (λ more. Ok (x, more))) (ap (byte_due (miss kind) close) e ∙ due_here (miss kind) close rest)

closed_gone : {A : Type 0} (kind : Kind) (close : ℕ) (x : A) (text : List ℕ) → begins_with close (skip_blanks text) ≡ false → closed_at (miss kind) close (x, text) ≡ Err (miss kind (skip_blanks text))
closed_gone {A} kind close x text h = ap (λ r. ◌>>=◌ {B = A × List ℕ} r (λ more. Ok (x, more))) (due_gone (miss kind) close (skip_blanks text) h)

last_close : (test : ℕ → Bool) (text after : List ℕ) (close : ℕ) → test close ≡ false → ends_with test (text ++ (after ++ close ∷ [])) ≡ false
last_close test text after close other = ap (ends_with test) (sym (append_assoc text after (close ∷ []))) ∙ ends_behind test (text ++ after) close [] ∙ other

module _ {A : Type 0} (kind : Kind) (close : ℕ) (other : kind.digits.digit close ≡ false) (solid : is_blank close ≡ false)
    (L : List ℕ → A → Type 0) (E : List ℕ → List ℕ → Type 0) (P : Reader A) where
  -- blanks and the closing byte may follow the part
  module _ (reads : (text : List ℕ) (x : A) (rest : List ℕ) → L text x → E text rest → P (text ++ rest) ≡ Ok (x, rest))
      (closes : (text : List ℕ) (x : A) (after rest : List ℕ) → L text x → Blanks after → E text (after ++ close ∷ rest)) where
    pub closed_reads : {text : List ℕ} {x : A} → Closed close L text x → (rest : List ℕ) → closing (miss kind) close P (text ++ rest) ≡ Ok (x, rest)
    closed_reads {x = x} (closed text after l all) rest =
        ap (closing (miss kind) close P) (append_assoc text (after ++ close ∷ []) rest ∙ ap (λ t. text ++ t) (append_assoc after (close ∷ []) rest))
        ∙ ap (λ r. r >>= closed_at (miss kind) close) (reads text x (after ++ close ∷ rest) l (closes text x after rest l all))
        ∙ closed_here kind close x (after ++ close ∷ rest) rest (skip_over after (close ∷ rest) all solid)

  module _ (read : (text : List ℕ) (x : A) (rest : List ℕ) → P text ≡ Ok (x, rest) → Read L E text x rest) where
    pub closed_read : (text : List ℕ) (x : A) (rest : List ℕ) → closing (miss kind) close P text ≡ Ok (x, rest) → Read (Closed close L) (Apart kind.digits) text x rest
    closed_read text x rest h = by (P text) refl
      where
        at : (p : A × List ℕ) → Read L E text p.0 p.1 → closed_at (miss kind) close p ≡ Ok (x, rest) → Begun close (skip_blanks p.1) → Read (Closed close L) (Apart kind.digits) text x rest
        at p r e (inr g) = absurd (cc (e, closed_gone kind close p.0 p.1 g))
        at p r e (inl b) =
            let c = cut p.1 in
            let parts = ok_parts p.0 x b.0 rest (sym (closed_here kind close p.0 p.1 b.0 b.1) ∙ e) in
            record {
              front = r.front ++ (c.blanks ++ close ∷ []);
              whole = r.whole ∙ ap (λ t. r.front ++ t) (c.whole ∙ ap (λ t. c.blanks ++ t) (b.1 ∙ ap (λ t. close ∷ t) parts.1) ∙ sym (append_assoc c.blanks (close ∷ []) rest)) ∙ sym (append_assoc r.front (c.blanks ++ close ∷ []) rest);
              is = subst (Closed close L (r.front ++ (c.blanks ++ close ∷ []))) parts.0 (closed r.front c.blanks r.is c.all);
              apart = λ d. absurd (false≢true (sym (last_close kind.digits.digit r.front c.blanks close other) ∙ d));
            }

        by : (o : Result (A × List ℕ) Cause) → P text ≡ o → Read (Closed close L) (Apart kind.digits) text x rest
        by (Err cause) q = absurd (cc (h, ap (λ r. r >>= closed_at (miss kind) close) q))
        by (Ok p) q = at p (read text p.0 p.1 q) (sym (ap (λ r. r >>= closed_at (miss kind) close) q) ∙ h) (begun close (skip_blanks p.1))

    -- the faults; L', E' and P' are those of the wider grammar
    module _ (L' : List ℕ → A → Type 0) (E' : List ℕ → List ℕ → Type 0) (P' : Reader A)
        (wider : (text : List ℕ) (x : A) → L text x → L' text x)
        (apart : (text rest : List ℕ) → E text rest → Apart kind.digits text rest)
        (next : (text behind again : List ℕ) → E text behind → Instead kind.digits text behind again → E' text (instead behind again))
        (reads' : (text : List ℕ) (x : A) (rest : List ℕ) → L' text x → E' text rest → P' (text ++ rest) ≡ Ok (x, rest))
        (fault : (text : List ℕ) (cause : Cause) → P text ≡ Err cause → Fault kind L L' P P' text cause) where
      abbrev ClosedFault : List ℕ → Cause → Type 0
      ClosedFault = Fault kind (Closed close L) (Closed close L') (closing (miss kind) close P) (closing (miss kind) close P')

      not_closed : (text behind : List ℕ) (x : A) → L text x → E text behind → begins_with close (skip_blanks behind) ≡ false → ClosedFault (text ++ behind) (miss kind (skip_blanks behind))
      not_closed text behind x l e gone =
          misplaced kind (Closed close L) (Closed close L') (closing (miss kind) close P) (closing (miss kind) close P') text behind (apart text behind e)
          (close ∷ []) x (closed text (cut behind).blanks l (cut behind).all)
          (λ again i. ap (λ r. errs (r >>= closed_at (miss kind) close)) (reads' text x (instead behind again) (wider text x l) (next text behind again e i))
          ∙ ap errs (closed_gone kind close x (instead behind again) (begins_instead kind.digits close other i gone)))

      pub closed_fault : (text : List ℕ) (cause : Cause) → closing (miss kind) close P text ≡ Err cause → ClosedFault text cause
      closed_fault text cause h = by (P text) refl
        where
          at : (p : A × List ℕ) → Read L E text p.0 p.1 → closed_at (miss kind) close p ≡ Err cause → Begun close (skip_blanks p.1) → ClosedFault text cause
          at p r e (inl b) = absurd (cc (e, closed_here kind close p.0 p.1 b.0 b.1))
          at p r e (inr g) =
              let same : miss kind (skip_blanks p.1) ≡ cause = cc (e, closed_gone kind close p.0 p.1 g) in
              subst (λ t. ClosedFault t cause) (sym r.whole) (subst (ClosedFault (r.front ++ p.1)) same (not_closed r.front p.1 p.0 r.is r.apart g))

          completes : (K : List ℕ → A → Type 0) (t : List ℕ) (x : A) → K t x → (end : List ℕ) × (y : A) × Closed close K (t ++ end) y
          completes K t x l = (close ∷ [], x, closed t [] l refl)

          by : (o : Result (A × List ℕ) Cause) → P text ≡ o → ClosedFault text cause
          by (Ok p) q = at p (read text p.0 p.1 q) (sym (ap (λ r. r >>= closed_at (miss kind) close) q) ∙ h) (begun close (skip_blanks p.1))
          by (Err why) q =
              let is : why ≡ cause = cc (h, ap (λ r. r >>= closed_at (miss kind) close) q) in
              let f = fault text cause (q ∙ ap Err is) in
              fault_up kind L L' P P' (Closed close L) (Closed close L') (closing (miss kind) close P) (closing (miss kind) close P') [] (completes L) (completes L') text cause f refl
              (λ again e. errs_then (P (f.front ++ again)) (closed_at (miss kind) close) e)
              (λ again e. errs_then (P' (f.front ++ again)) (closed_at (miss kind) close) e)
