-- Shared: a whole text denotes a condition or has a first fault, never both.
use Rattle.std.proofs.Common.{◌≡◌, ◌≢◌, inl, inr, ℕ, suc, Bool, true, false, ◌&&◌, List, [], ◌∷◌, ◌++◌, length, Some, None, Result, Ok, Err, refl, sym, ap, ◌∙◌, subst, append-nil}
use Rattle.std.specs.Prelude.{◌==◌, if◌then◌else◌}
use Rattle.std.specs.Result.{IfOk, IfErr, MatchResult}
use Rattle.std.proofs.lemmas.Bool.{false≢true, true≢false, and_parts, eqb-true}
use Rattle.plan_types.specs.declared.refusal.Cause.{Cause}
use Rattle.plan_types.specs.declared.refusal.Cause.TheVariants.{NeedsVersion, TooDeep, BadCond}
use Rattle.plan_types.specs.declared.refusal.TextFault.{TextFault}
use Rattle.plan_types.specs.declared.refusal.TextFault.TheVariants.{NoMemory, Bad}
use Rattle.plan_types.specs.Refusal.{Refuses}
use Rattle.plan_types.specs.declared.range.Spec.{Spec}
use Rattle.plan_types.specs.declared.range.Range.{Range}
use Rattle.plan_types.specs.declared.condition.Cond.{Cond}
use Rattle.plan_types.specs.Bytes.{Blanks, begins_with}
use Rattle.text_grammar.specs.FirstFault.{Viable, Stuck}
use Rattle.text_grammar.specs.Reading.{◌>>=◌, Gives, skip_blanks}
use Rattle.text_grammar.proofs.TextKind.{starts}
use Rattle.text_grammar.proofs.FrontReaders.{Reader, head_of, errs, Dead, Why, new_form, digit_due, digit_more, wider, behind_digit, no_digit, Fault, fault_up_like, head_some, viable_by, stuck_of, not_wider}
use Rattle.text_grammar.proofs.LeadingBlanks.{cut, no_length, some_length, all_blanks, skip_all}
use Rattle.text_grammar.proofs.ChainParts.{errs_then}
use Rattle.text_grammar.proofs.Closings.{Instead, instead, skip_instead, misplaced}
use Rattle.text_grammar.proofs.Operands.{Rules}
use Rattle.text_grammar.proofs.ExactReadings as exactly
use Rattle.text_grammar.proofs.TwoChains.{AfterTerms, after_instead}
use Rattle.plan_types.specs.Format.{is_old}
use Rattle.condition_text.specs.Grammar as grammar
use Rattle.condition_text.specs.Grammar.{Versions, WiderVersions, Factor, InnerFactor, Reads, reads, Stands, Wider, WiderAt, too_deep, needs_version, CauseAt, bad_cond, FirstFault}
use Rattle.condition_text.specs.Reading.{cond_tail, condition_at, ended, whole_at, whole_by, opened_at}
use Rattle.condition_text.proofs.CondKind.{no_bytes, cond_kind, is_opener, apart, ends_none}
use Rattle.condition_text.proofs.CondTails.{wide_tail}
use Rattle.condition_text.proofs.Factors.{Conditions, cond_rules, cond_rules', wider_conds, conds_fault}

ended_ok : (p : Cond × List ℕ) → (length (skip_blanks p.1) == 0) ≡ true → ended p ≡ Ok p.0
ended_ok p e = rw e refl

ended_err : (p : Cond × List ℕ) → (length (skip_blanks p.1) == 0) ≡ false → ended p ≡ Err BadCond
ended_err p e = rw e refl

-- ---- a reader is correct for its language

module _ (spec : Spec) (T : List ℕ → Range → Type 0) (m : ℕ) (P : Reader Cond) (rules : Rules (Conditions T m) (AfterTerms (cond_kind spec) refl refl refl) P) where
  after_end : (front after : List ℕ) → Blanks after → AfterTerms (cond_kind spec) refl refl refl front after
  after_end front after are = ((apart front after, ap (begins_with 38) (skip_all after are)), ap (begins_with 124) (skip_all after are))

  whole_finds : (text : List ℕ) (c : Cond) → Reads T m text c → (P text >>= ended) ≡ Ok c
  whole_finds text c (reads front after l are) =
      ap (λ o. o >>= ended) (rules.reads front c after l (after_end front after are)) ∙ rw (ap (λ t. length t == 0) (skip_all after are)) refl

  whole_found : (text : List ℕ) (c : Cond) → (P text >>= ended) ≡ Ok c → Reads T m text c
  whole_found text c h = by (P text) refl
    where
      at : (p : Cond × List ℕ) → P text ≡ Ok p → (t : Bool) → (length (skip_blanks p.1) == 0) ≡ t → ended p ≡ Ok c → Reads T m text c
      at p q false e k = absurd (cc (k, ended_err p e))
      at p q true e k =
          let got = rules.read text p.0 p.1 q in
          let same : p.0 ≡ c = cc (k, ended_ok p e) in
          subst (Reads T m text) same (subst (λ t. Reads T m t p.0) (sym got.whole) (reads got.front p.1 got.is (all_blanks p.1 (no_length (skip_blanks p.1) e))))

      by : (o : Result (Cond × List ℕ) Cause) → P text ≡ o → Reads T m text c
      by (Err cause) q = absurd (cc (h, ap (λ o. o >>= ended) q))
      by (Ok p) q = at p q (length (skip_blanks p.1) == 0) refl (sym (ap (λ o. o >>= ended) q) ∙ h)

module _ (spec : Spec) (n : ℕ) where
  abbrev P : Reader Cond
  P = condition_at (cond_tail spec n) n

  abbrev P' : Reader Cond
  P' = condition_at (wide_tail spec n) (suc n)

  abbrev C : List ℕ → Cond → Type 0
  C = Conditions (Versions spec n) n

  abbrev C' : List ℕ → Cond → Type 0
  C' = Conditions (WiderVersions spec n) (suc n)

  abbrev W : List ℕ → Result Cond Cause
  W text = P text >>= ended

  abbrev W' : List ℕ → Result Cond Cause
  W' text = P' text >>= ended

  pub finds : (text : List ℕ) (c : Cond) → Stands spec n text c → W text ≡ Ok c
  finds = whole_finds spec (Versions spec n) n P (cond_rules spec n n)

  finds' : (text : List ℕ) (c : Cond) → Wider spec n text c → W' text ≡ Ok c
  finds' = whole_finds spec (WiderVersions spec n) (suc n) P' (cond_rules' spec n n)

  pub found : (text : List ℕ) (c : Cond) → W text ≡ Ok c → Stands spec n text c
  found = whole_found spec (Versions spec n) n P (cond_rules spec n n)

  widens : (text : List ℕ) (c : Cond) → Stands spec n text c → Wider spec n text c
  widens text c (reads front after l are) = reads front after (wider_conds spec n n front c l) are

  abbrev TextFault' : List ℕ → Cause → Type 0
  TextFault' = Fault (cond_kind spec) (Stands spec n) (Wider spec n) W W'

  -- ---- a fault of the condition

  inner_fault : (text : List ℕ) (cause : Cause) → P text ≡ Err cause → TextFault' text cause
  inner_fault text cause h =
      let f = conds_fault spec n n text cause h in
      fault_up_like (cond_kind spec) C C' P P' (Stands spec n) (Wider spec n) W W' []
      (λ t c l. ([], c, reads t [] l refl)) (λ t c l. ([], c, reads t [] l refl)) text cause f refl
      (λ again like e. errs_then (P (f.front ++ again)) ended e) (λ again like e. errs_then (P' (f.front ++ again)) ended e)

  -- ---- text after the condition

  module _ (front behind : List ℕ) (c : Cond) (l : C front c) (after : AfterTerms (cond_kind spec) refl refl refl front behind) (some : skip_blanks behind ≢ []) where
    still_some : (again : List ℕ) → Instead no_bytes front behind again → again ≢ []
    still_some again i = elim i.begins [ inl same ↦ by (skip_blanks behind) some same | inr p ↦ absurd (none again p.0) ]
      where
        none : (again : List ℕ) → starts no_bytes.digit again ≡ true → ⊥
        none [] h = false≢true h
        none (b ∷ again) h = false≢true h

        by : (rest : List ℕ) → rest ≢ [] → head_of again ≡ head_of rest → again ≢ []
        by [] some same = absurd (some refl)
        by (b ∷ bs) some same = head_some again b bs same

    left_over : (again : List ℕ) → Instead no_bytes front behind again → errs (W' (front ++ instead behind again)) ≡ true
    left_over again i =
        ap (λ o. errs (o >>= ended)) ((cond_rules' spec n n).reads front c (instead behind again) (wider_conds spec n n front c l) (after_instead (cond_kind spec) refl refl refl front behind again after i))
        ∙ rw (ap (λ t. length t == 0) (skip_instead no_bytes i) ∙ some_length again (still_some again i)) refl

    left_fault : TextFault' (front ++ behind) BadCond
    left_fault = misplaced (cond_kind spec) (Stands spec n) (Wider spec n) W W' front behind after.0.0
        [] c (reads front (instead behind []) l (subst Blanks (sym (append-nil (cut behind).blanks)) (cut behind).all)) left_over

  pub text_fault : (text : List ℕ) (cause : Cause) → W text ≡ Err cause → TextFault' text cause
  text_fault text cause h = by (P text) refl
    where
      at : (p : Cond × List ℕ) → P text ≡ Ok p → (t : Bool) → (length (skip_blanks p.1) == 0) ≡ t → ended p ≡ Err cause → TextFault' text cause
      at p q true e k = absurd (cc (k, ended_ok p e))
      at p q false e k =
          let got = (cond_rules spec n n).read text p.0 p.1 q in
          let some : skip_blanks p.1 ≢ [] = λ none. true≢false (sym (ap (λ t. length t == 0) none) ∙ e) in
          let same : BadCond ≡ cause = cc (k, ended_err p e) in
          subst (λ t. TextFault' t cause) (sym got.whole) (subst (TextFault' (got.front ++ p.1)) same (left_fault got.front p.1 p.0 got.is got.apart some))

      by : (o : Result (Cond × List ℕ) Cause) → P text ≡ o → TextFault' text cause
      by (Err why) q = let same : why ≡ cause = cc (h, ap (λ o. o >>= ended) q) in inner_fault text cause (q ∙ ap Err same)
      by (Ok p) q = at p q (length (skip_blanks p.1) == 0) refl (sym (ap (λ o. o >>= ended) q) ∙ h)

  -- ---- the first fault

  abbrev At : List ℕ → List ℕ → Cause → Type 0
  At = Why (cond_kind spec) (Stands spec n) (Wider spec n) W W'

  reads_it : (text : List ℕ) (c : Cond) → Stands spec n text c → errs (W text) ≡ false
  reads_it text c s = ap errs (finds text c s)

  reads_wide : (text : List ℕ) (c : Cond) → Wider spec n text c → errs (W' text) ≡ false
  reads_wide text c s = ap errs (finds' text c s)

  stuck : (front rest : List ℕ) {cause : Cause} → At front rest cause → Stuck (Stands spec n) front rest
  stuck = stuck_of (cond_kind spec) (Stands spec n) (Wider spec n) W W' reads_it reads_wide widens

  none_wider : (front rest : List ℕ) → Dead W' front rest → (cause : Cause) → WiderAt spec n front rest cause → ⊥
  none_wider front rest dead cause (too_deep b others h v) = not_wider (cond_kind spec) (Stands spec n) (Wider spec n) W W' reads_it reads_wide widens front b others dead v
  none_wider front rest dead cause (needs_version others v) = not_wider (cond_kind spec) (Stands spec n) (Wider spec n) W W' reads_it reads_wide widens front 123 others dead v

  wider_at : (front rest : List ℕ) (b : ℕ) (bs : List ℕ) (cause : Cause) → rest ≡ b ∷ bs → (cond_kind spec).wide b ≡ Some cause → Viable (Wider spec n) (front ++ b ∷ []) → WiderAt spec n front rest cause
  wider_at front rest b bs cause first names v = by (is_opener b) refl
    where
      opener : is_opener b ≡ true → (cond_kind spec).wide b ≡ Some TooDeep
      opener q = rw q refl

      other : is_opener b ≡ false → (cond_kind spec).wide b ≡ (if is_old spec && b == 123 then Some NeedsVersion else None)
      other q = rw q refl

      set : (t : Bool) → (is_old spec && b == 123) ≡ t → (if t then Some NeedsVersion else None) ≡ Some cause → WiderAt spec n front rest cause
      set false q k = absurd (cc k)
      set true q k =
          let at = eqb-true b 123 (and_parts (is_old spec) (b == 123) q).1 in
          let is : NeedsVersion ≡ cause = cc k in
          subst (WiderAt spec n front rest) is (subst (λ t. WiderAt spec n front t NeedsVersion) (sym (first ∙ ap (λ c. c ∷ bs) at)) (needs_version bs (subst (λ c. Viable (Wider spec n) (front ++ c ∷ [])) at v)))

      by : (t : Bool) → is_opener b ≡ t → WiderAt spec n front rest cause
      by true q =
          let is : TooDeep ≡ cause = cc (names, opener q) in
          subst (WiderAt spec n front rest) is (subst (λ t. WiderAt spec n front t TooDeep) (sym first) (too_deep b bs q v))
      by false q = set (is_old spec && b == 123) refl (sym (other q) ∙ names)

  cause_of : (front rest : List ℕ) {cause : Cause} → At front rest cause → CauseAt spec n front rest cause
  cause_of front rest (new_form form dead) = absurd (false≢true form)
  cause_of front rest (digit_due form last digit is more c s dead) = absurd (false≢true is)
  cause_of front rest (digit_more form last digit dead) = absurd (false≢true (sym (ends_none front) ∙ last))
  cause_of front rest (wider b bs {cause = cause} first names none more c s dead) = grammar.wider (wider_at front rest b bs cause first names (viable_by (Wider spec n) front b more c s))
  cause_of front rest (behind_digit form last other dead) = absurd (false≢true (sym (ends_none front) ∙ last))
  cause_of front rest (no_digit form last none dead) = bad_cond (none_wider front rest dead)

  pub first_fault : (text : List ℕ) (cause : Cause) → W text ≡ Err cause → FirstFault spec n text cause
  first_fault text cause h =
      let f = text_fault text cause h in
      record { front = f.front; rest = f.rest; whole = f.whole; goes_on = (f.more, f.value, f.goes_on); stops = stuck f.front f.rest f.why; is = cause_of f.front f.rest f.why }

  -- ---- uniqueness

  pub one_condition : (text : List ℕ) (c d : Cond) → Stands spec n text c → Stands spec n text d → c ≡ d
  one_condition text c d a b = let p = finds text c a in let q = finds text d b in cc

  pub condition_or_fault : (text : List ℕ) (c : Cond) (cause : Cause) → Stands spec n text c → FirstFault spec n text cause → ⊥
  condition_or_fault = exactly.value_or_fault (Stands spec n) (CauseAt spec n)

  -- the byte decides the cause
  one_wider : (front rest rest' : List ℕ) (c d : Cause) → rest ≡ rest' → WiderAt spec n front rest c → WiderAt spec n front rest' d → c ≡ d
  one_wider front rest rest' c d e (too_deep b r h v) (too_deep b' r' h' v') = refl
  one_wider front rest rest' c d e (too_deep b r h v) (needs_version r' v') = let at : b ≡ 123 = cc e in absurd (false≢true (ap is_opener (sym at) ∙ h))
  one_wider front rest rest' c d e (needs_version r v) (too_deep b r' h v') = let at : 123 ≡ b = cc e in absurd (false≢true (ap is_opener at ∙ h))
  one_wider front rest rest' c d e (needs_version r v) (needs_version r' v') = refl

  one_cause : (front rest : List ℕ) (c d : Cause) → CauseAt spec n front rest c → CauseAt spec n front rest d → c ≡ d
  one_cause front rest c d (grammar.wider p) (grammar.wider q) = one_wider front rest rest c d refl p q
  one_cause front rest c d (grammar.wider {cause = e} p) (bad_cond none) = absurd (none e p)
  one_cause front rest c d (bad_cond none) (grammar.wider {cause = e} p) = absurd (none e p)
  one_cause front rest c d (bad_cond none) (bad_cond none') = refl

  pub one_fault : (text : List ℕ) (c d : Cause) → FirstFault spec n text c → FirstFault spec n text d → c ≡ d
  one_fault = exactly.one_fault (Stands spec n) (CauseAt spec n) one_cause

-- ---- results of calls

module _ (spec : Spec) (text : List ℕ) where
  -- the first `(` or `!` takes one of 65
  abbrev read : Result Cond Cause
  read = whole_by (opened_at (cond_tail spec 64) 65) text

  of_is : read ≡ whole_at (cond_tail spec 64) 64 text
  unfolding opened_at
  of_is = refl

  cond_found : (answer : Result Cond TextFault) → Gives (λ c. c) answer read → IfOk answer (λ c. Stands spec 64 text c)
  cond_found (Ok c) h = found spec 64 text c (sym of_is ∙ h)
  cond_found (Err fault) h = tt

  fault_found : (answer : Result Cond TextFault) → Gives (λ c. c) answer read → IfErr answer (Refuses (FirstFault spec 64 text))
  fault_found (Ok c) h = tt
  fault_found (Err NoMemory) h = tt
  fault_found (Err (Bad cause)) h = first_fault spec 64 text cause (sym of_is ∙ h)

  -- what a call returns, when it gives what the reader gives
  pub answered : (answer : Result Cond TextFault) → Gives (λ c. c) answer read
      → IfOk answer (λ c. Stands spec 64 text c) × IfErr answer (Refuses (FirstFault spec 64 text))
      × ((c : Cond) → Stands spec 64 text c → MatchResult answer (λ found. found ≡ c) (Refuses (λ cause. ⊥)))
      × ((cause : Cause) → FirstFault spec 64 text cause → MatchResult answer (λ found. ⊥) (Refuses (λ why. why ≡ cause)))
  answered answer h =
      let c = cond_found answer h in
      let f = fault_found answer h in (
        c,
        f,
        exactly.only_value (Stands spec 64) (CauseAt spec 64) (one_cause spec 64) text (one_condition spec 64 text) answer c f,
        exactly.only_fault (Stands spec 64) (CauseAt spec 64) (one_cause spec 64) text (one_condition spec 64 text) answer c f,
      )
