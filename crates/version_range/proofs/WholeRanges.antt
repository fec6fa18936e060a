-- Shared: a whole text denotes a range or has a first fault.
use Rattle.std.proofs.Common.{◌≡◌, ◌≢◌, inl, inr, ℕ, suc, Bool, true, false, List, [], ◌∷◌, ◌++◌, codes, length, Some, None, Result, Ok, Err, refl, sym, ap, ◌∙◌, subst, append_assoc, append-nil, arith}
use Rattle.std.specs.Prelude.{◌==◌, if◌then◌else◌}
use Rattle.std.specs.Char.{is_ascii_digit}
use Rattle.std.specs.List.{list_all}
use Rattle.std.proofs.lemmas.Bool.{false≢true, true≢false, and_parts, eqb-true}
use Rattle.plan_types.specs.declared.range.Spec.{Spec}
use Rattle.plan_types.specs.declared.range.Range.{Range}
use Rattle.plan_types.specs.declared.range.Range.TheVariants.{Any}
use Rattle.plan_types.specs.declared.refusal.Cause.{Cause}
use Rattle.plan_types.specs.declared.refusal.Cause.TheVariants.{BadRange, TooDeep}
use Rattle.version_range.specs.Read.{cause_at, range_in, inside, range_of}
use Rattle.text_grammar.specs.Reading.{◌>>=◌, skip_blanks}
use Rattle.version_range.specs.Version.{begins_with_digit}
use Rattle.plan_types.specs.Format.{is_old}
use Rattle.version_range.specs.Grammar.{atom, any, Factor, Term, Terms, Inside, Stands, empty, range, Viable, IsNewForm, OpensTooMany, CauseAt, needs_version, bad_version, too_deep, bad_range, FirstFault}
use Rattle.plan_types.specs.Bytes.{begins_with, is_blank, Blanks}
use Rattle.text_grammar.specs.Parts.{Led, led, one, more}
use Rattle.text_grammar.proofs.FrontReaders.{head_of, errs, Dead, NoDigit, Like, Why, new_form, digit_due, digit_more, wider, behind_digit, no_digit, Fault, fault_up_like, why_dead, head_some, digit_some, viable_by, stuck_of, no_viable_digit, not_wider}
use Rattle.text_grammar.specs.FirstFault.{Stuck}
use Rattle.text_grammar.proofs.LeadingBlanks.{starts_same, starts_digit, blanks_none, blanks_go_on, cut, skip_over, no_length, some_length, all_blanks, skip_all, blanks_parts, blanks_push}
use Rattle.text_grammar.proofs.ChainParts.{errs_then}
use Rattle.text_grammar.proofs.Closings.{Instead, instead, like_instead, skip_instead, misplaced}
use Rattle.text_grammar.proofs.Operands.{Rules}
use Rattle.version_range.proofs.RangeFactors.{AfterRange, after_instead, factor_unblank, inside_rules, range_rules, range_fault, wider_inside, wider_terms}
use Rattle.text_grammar.proofs.TextKind.{starts}
use Rattle.version_range.proofs.RangeKind.{on_number, decimals, range_kind}

-- the range of a whole text, if only blanks follow it
abbrev pub to_end : Spec → Range × List ℕ → Result Range Cause
to_end spec r = let rest = skip_blanks r.1 in if length rest == 0 then Ok r.0 else Err (cause_at spec BadRange rest)

-- the reader of a whole text, with at most n parentheses open
abbrev pub text_at : Spec → ℕ → List ℕ → Result Range Cause
text_at spec n text = if length (skip_blanks text) == 0 then Ok Any else range_in (inside n spec) spec text >>= to_end spec

pub range_of_is : (spec : Spec) (text : List ℕ) → range_of spec text ≡ text_at spec 64 text
unfolding range_of
range_of_is spec text = refl

to_end_ok : (spec : Spec) (p : Range × List ℕ) → (length (skip_blanks p.1) == 0) ≡ true → to_end spec p ≡ Ok p.0
to_end_ok spec p e = rw e refl

to_end_err : (spec : Spec) (p : Range × List ℕ) → (length (skip_blanks p.1) == 0) ≡ false → to_end spec p ≡ Err (cause_at spec BadRange (skip_blanks p.1))
to_end_err spec p e = rw e refl

blank_is_any : (spec : Spec) (n : ℕ) (text : List ℕ) → (length (skip_blanks text) == 0) ≡ true → text_at spec n text ≡ Ok Any
blank_is_any spec n text e = rw e refl

-- a text that isn't blanks only
abbrev NotBlank : List ℕ → Type 0
NotBlank text = skip_blanks text ≢ []

module _ (spec : Spec) where
  module _ (n : ℕ) where
    abbrev ranges-rules : Rules (Terms spec (Inside spec n)) AfterRange (range_in (inside n spec) spec)
    ranges-rules = range_rules spec n

    led_not_blank : (text : List ℕ) (r : Range) → Led (Factor spec (Inside spec n)) text r → Blanks text → ⊥
    led_not_blank text r (led blanks {text = part} are is) h =
        let u = factor_unblank spec (Inside spec n) (inside n spec) (inside_rules spec n) part r is in
        let p = (blanks_parts blanks part h).1 in
        true≢false (sym (and_parts (is_blank u.0) (list_all is_blank u.1) (subst Blanks u.2 p)).0 ∙ u.3)

    term_not_blank : (text : List ℕ) (r : Range) → Term spec (Inside spec n) text r → Blanks text → ⊥
    term_not_blank text r (one f) h = led_not_blank text r f h
    term_not_blank text r (more {text = front} {next = next} {left = left} c k) h = term_not_blank front left c (blanks_parts front next h).0

    terms_not_blank : (text : List ℕ) (r : Range) → Terms spec (Inside spec n) text r → Blanks text → ⊥
    terms_not_blank text r (one f) h = term_not_blank text r f h
    terms_not_blank text r (more {text = front} {next = next} {left = left} c k) h = terms_not_blank front left c (blanks_parts front next h).0

    -- reading a text that isn't blanks only
    at_range : (text : List ℕ) → NotBlank text → text_at spec n text ≡ (range_in (inside n spec) spec text >>= to_end spec)
    at_range text some = rw (some_length (skip_blanks text) some) refl

    pub finds : (text : List ℕ) (r : Range) → Stands spec n text r → text_at spec n text ≡ Ok r
    finds text r (empty blanks) = rw (ap (λ t. length t == 0) (skip_all text blanks)) refl
    finds text r (range front after c are) =
        at_range (front ++ after) (λ e. terms_not_blank front r c (blanks_parts front after (all_blanks (front ++ after) e)).0)
        ∙ ap (λ o. o >>= to_end spec) (ranges-rules.reads front r after c (((λ d. ap (starts on_number) (sym (append-nil after)) ∙ blanks_go_on decimals after [] are refl), begins 38), begins 124))
        ∙ rw (ap (λ t. length t == 0) (skip_all after are)) refl
      where
        begins : (byte : ℕ) → begins_with byte (skip_blanks after) ≡ false
        begins byte = ap (begins_with byte) (skip_all after are)

    pub wider_stands : (text : List ℕ) (r : Range) → Stands spec n text r → Stands spec (suc n) text r
    wider_stands text r (empty blanks) = empty blanks
    wider_stands text r (range front after c are) = range front after (wider_terms spec (Inside spec n) (Inside spec (suc n)) (wider_inside spec n) front r c) are

  abbrev TextFault : ℕ → List ℕ → Cause → Type 0
  TextFault n = Fault (range_kind spec) (Stands spec n) (Stands spec (suc n)) (text_at spec n) (text_at spec (suc n))

  -- ---- a fault of the range

  -- a fault after blanks isn't at a blank
  stuck_behind_blanks : (n : ℕ) (text : List ℕ) (cause : Cause) (f : Fault (range_kind spec) (Terms spec (Inside spec n)) (Terms spec (Inside spec (suc n))) (range_in (inside n spec) spec) (range_in (inside (suc n) spec) spec) text cause)
      → Blanks f.front → starts is_blank f.rest ≡ false
  stuck_behind_blanks n text cause f are = by f.rest refl
    where
      any_read : (m : ℕ) (b : ℕ) → is_blank b ≡ true → errs (range_in (inside m spec) spec (f.front ++ (b ∷ codes "-any"))) ≡ false
      any_read m b blank =
          let blanks : Blanks (f.front ++ b ∷ []) = blanks_push f.front b are blank in
          ap (λ t. errs (range_in (inside m spec) spec t)) (sym (append_assoc f.front (b ∷ []) (codes "-any")) ∙ sym (append-nil ((f.front ++ b ∷ []) ++ codes "-any")))
          ∙ ap errs ((range_rules spec m).reads ((f.front ++ b ∷ []) ++ codes "-any") Any [] (one (one (led (f.front ++ b ∷ []) blanks (atom any)))) (((λ d. refl), refl), refl))

      blank_no : (b : ℕ) (rest : List ℕ) → f.rest ≡ b ∷ rest → is_blank b ≡ true → ⊥
      blank_no b rest e blank =
          why_dead (range_kind spec) (Terms spec (Inside spec n)) (Terms spec (Inside spec (suc n))) (range_in (inside n spec) spec) (range_in (inside (suc n) spec) spec) f.front f.rest f.why
          (b ∷ codes "-any") (ap head_of (sym e)) (any_read n b blank) (any_read (suc n) b blank)

      by : (rest : List ℕ) → f.rest ≡ rest → starts is_blank f.rest ≡ false
      by [] e = ap (starts is_blank) e
      by (b ∷ rest) e = at (is_blank b) refl
        where
          at : (t : Bool) → is_blank b ≡ t → starts is_blank f.rest ≡ false
          at true q = absurd (blank_no b rest e q)
          at false q = ap (starts is_blank) e ∙ q

  range_stuck : (n : ℕ) (text : List ℕ) (cause : Cause) → NotBlank text → range_in (inside n spec) spec text ≡ Err cause → TextFault n text cause
  range_stuck n text cause some h =
      fault_up_like (range_kind spec) (Terms spec (Inside spec n)) (Terms spec (Inside spec (suc n))) (range_in (inside n spec) spec) (range_in (inside (suc n) spec) spec)
      (Stands spec n) (Stands spec (suc n)) (text_at spec n) (text_at spec (suc n)) []
      (λ t r c. ([], r, range t [] c refl)) (λ t r c. ([], r, range t [] c refl)) text cause f refl
      (λ again like e. ap errs (at_range n (f.front ++ again) (not_blank again like)) ∙ errs_then (range_in (inside n spec) spec (f.front ++ again)) (to_end spec) e)
      (λ again like e. ap errs (at_range (suc n) (f.front ++ again) (not_blank again like)) ∙ errs_then (range_in (inside (suc n) spec) spec (f.front ++ again)) (to_end spec) e)
    where
      f : Fault (range_kind spec) (Terms spec (Inside spec n)) (Terms spec (Inside spec (suc n))) (range_in (inside n spec) spec) (range_in (inside (suc n) spec) spec) text cause
      f = range_fault spec n text cause h

      behind_blanks : Blanks f.front → (again : List ℕ) → Like decimals again f.rest → (rest : List ℕ) → f.rest ≡ rest → NotBlank (f.front ++ again)
      behind_blanks are again like [] e empty' = some (ap skip_blanks (f.whole ∙ ap (λ t. f.front ++ t) e ∙ append-nil f.front) ∙ skip_all f.front are)
      behind_blanks are again (inl same) (b ∷ rest) e empty' =
          head_some again b rest (same ∙ ap head_of e) (sym (skip_over f.front again are (starts_same is_blank f.rest again same ∙ stuck_behind_blanks n text cause f are)) ∙ empty')
      behind_blanks are again (inr digit) (b ∷ rest) e empty' =
          digit_some is_ascii_digit again digit (sym (skip_over f.front again are (starts_digit decimals is_blank (blanks_none decimals) again digit)) ∙ empty')

      not_blank : (again : List ℕ) → Like decimals again f.rest → NotBlank (f.front ++ again)
      not_blank again like = by (list_all is_blank f.front) refl
        where
          by : (t : Bool) → list_all is_blank f.front ≡ t → NotBlank (f.front ++ again)
          by true q = behind_blanks q again like f.rest refl
          by false q = λ e. false≢true (sym q ∙ (blanks_parts f.front again (all_blanks (f.front ++ again) e)).0)

  -- ---- text after the range

  module _ (n : ℕ) (front behind : List ℕ) (r : Range) (c : Terms spec (Inside spec n) front r) (after : AfterRange front behind) (some : skip_blanks behind ≢ []) where
    wide-c : Terms spec (Inside spec (suc n)) front r
    wide-c = wider_terms spec (Inside spec n) (Inside spec (suc n)) (wider_inside spec n) front r c

    still_some : (again : List ℕ) → Like decimals again (skip_blanks behind) → again ≢ []
    still_some again (inr digit) = digit_some is_ascii_digit again digit
    still_some again (inl same) = by (skip_blanks behind) some same
      where
        by : (rest : List ℕ) → rest ≢ [] → head_of again ≡ head_of rest → again ≢ []
        by [] some same = absurd (some refl)
        by (b ∷ bs) some same = head_some again b bs same

    left_over : (again : List ℕ) → Instead decimals front behind again → errs (text_at spec (suc n) (front ++ instead behind again)) ≡ true
    left_over again i =
        ap errs (at_range (suc n) (front ++ instead behind again) (λ e. terms_not_blank (suc n) front r wide-c (blanks_parts front (instead behind again) (all_blanks (front ++ instead behind again) e)).0))
        ∙ ap (λ o. errs (o >>= to_end spec)) ((range_rules spec (suc n)).reads front r (instead behind again) wide-c (after_instead front behind again after i))
        ∙ rw (ap (λ t. length t == 0) (skip_instead decimals i) ∙ some_length again (still_some again (like_instead decimals i))) refl

    left_fault : TextFault n (front ++ behind) (cause_at spec BadRange (skip_blanks behind))
    left_fault = misplaced (range_kind spec) (Stands spec n) (Stands spec (suc n)) (text_at spec n) (text_at spec (suc n)) front behind after.0.0
        [] r (range front (instead behind []) c (subst Blanks (sym (append-nil (cut behind).blanks)) (cut behind).all)) left_over

  -- ---- results of the reader

  pub text_fault : (n : ℕ) (text : List ℕ) (cause : Cause) → text_at spec n text ≡ Err cause → TextFault n text cause
  text_fault n text cause h = by (length (skip_blanks text) == 0) refl
    where
      left : (p : Range × List ℕ) → range_in (inside n spec) spec text ≡ Ok p → ((t : Bool) → (length (skip_blanks p.1) == 0) ≡ t → to_end spec p ≡ Err cause → TextFault n text cause)
      left p q true e k = absurd (cc (k, to_end_ok spec p e))
      left p q false e k =
          let got = (range_rules spec n).read text p.0 p.1 q in
          let some : skip_blanks p.1 ≢ [] = λ none. true≢false (sym (ap (λ t. length t == 0) none) ∙ e) in
          let same : cause_at spec BadRange (skip_blanks p.1) ≡ cause = cc (k, to_end_err spec p e) in
          subst (λ t. TextFault n t cause) (sym got.whole) (subst (TextFault n (got.front ++ p.1)) same (left_fault n got.front p.1 p.0 got.is got.apart some))

      ranged : NotBlank text → (o : Result (Range × List ℕ) Cause) → range_in (inside n spec) spec text ≡ o → TextFault n text cause
      ranged some (Err why) q =
          let same : why ≡ cause = cc (h, at_range n text some, ap (λ o. o >>= to_end spec) q) in
          range_stuck n text cause some (q ∙ ap Err same)
      ranged some (Ok p) q = left p q (length (skip_blanks p.1) == 0) refl (sym (at_range n text some ∙ ap (λ o. o >>= to_end spec) q) ∙ h)

      by : (t : Bool) → (length (skip_blanks text) == 0) ≡ t → TextFault n text cause
      by true e = absurd (cc (h, blank_is_any spec n text e))
      by false e = ranged (λ none. true≢false (sym (ap (λ t. length t == 0) none) ∙ e)) (range_in (inside n spec) spec text) refl

  pub found : (n : ℕ) (text : List ℕ) (r : Range) → text_at spec n text ≡ Ok r → Stands spec n text r
  found n text r h = by (length (skip_blanks text) == 0) refl
    where
      ended : (p : Range × List ℕ) → range_in (inside n spec) spec text ≡ Ok p → ((t : Bool) → (length (skip_blanks p.1) == 0) ≡ t → to_end spec p ≡ Ok r → Stands spec n text r)
      ended p q false e k = absurd (cc (k, to_end_err spec p e))
      ended p q true e k =
          let got = (range_rules spec n).read text p.0 p.1 q in
          let same : p.0 ≡ r = cc (k, to_end_ok spec p e) in
          subst (Stands spec n text) same (subst (λ t. Stands spec n t p.0) (sym got.whole) (range got.front p.1 got.is (all_blanks p.1 (no_length (skip_blanks p.1) e))))

      ranged : NotBlank text → (o : Result (Range × List ℕ) Cause) → range_in (inside n spec) spec text ≡ o → Stands spec n text r
      ranged some (Err why) q = absurd (cc (h, at_range n text some, ap (λ o. o >>= to_end spec) q))
      ranged some (Ok p) q = ended p q (length (skip_blanks p.1) == 0) refl (sym (at_range n text some ∙ ap (λ o. o >>= to_end spec) q) ∙ h)

      by : (t : Bool) → (length (skip_blanks text) == 0) ≡ t → Stands spec n text r
      by true e = let same : Any ≡ r = cc (h, blank_is_any spec n text e) in subst (Stands spec n text) same (empty (all_blanks text (no_length (skip_blanks text) e)))
      by false e = ranged (λ none. true≢false (sym (ap (λ t. length t == 0) none) ∙ e)) (range_in (inside n spec) spec text) refl

  -- ---- the first fault

  module _ (n : ℕ) where
    abbrev At : List ℕ → List ℕ → Cause → Type 0
    At = Why (range_kind spec) (Stands spec n) (Stands spec (suc n)) (text_at spec n) (text_at spec (suc n))

    read_whole : (m : ℕ) (text : List ℕ) (r : Range) → Stands spec m text r → errs (text_at spec m text) ≡ false
    read_whole m text r s = ap errs (finds m text r s)

    stuck : (front rest : List ℕ) {cause : Cause} → At front rest cause → Stuck (Stands spec n) front rest
    stuck = stuck_of (range_kind spec) (Stands spec n) (Stands spec (suc n)) (text_at spec n) (text_at spec (suc n)) (read_whole n) (read_whole (suc n)) (wider_stands n)

    no_digit_here : (front : List ℕ) → NoDigit decimals (text_at spec (suc n)) front → (digit : ℕ) → is_ascii_digit digit ≡ true → Viable spec n (front ++ digit ∷ []) → ⊥
    no_digit_here = no_viable_digit (range_kind spec) (Stands spec n) (Stands spec (suc n)) (text_at spec n) (text_at spec (suc n)) (read_whole n) (read_whole (suc n)) (wider_stands n)

    not_deeper : (front rest : List ℕ) → Dead (text_at spec (suc n)) front rest → OpensTooMany spec n front rest → ⊥
    not_deeper front [] dead o = false≢true o.0
    not_deeper front (b ∷ rest) dead o =
        not_wider (range_kind spec) (Stands spec n) (Stands spec (suc n)) (text_at spec n) (text_at spec (suc n)) (read_whole n) (read_whole (suc n)) (wider_stands n)
        front b rest dead (subst (λ c. Viable spec (suc n) (front ++ c ∷ [])) (sym (eqb-true b 40 o.0)) o.1)

    not_new : (rest : List ℕ) → begins_with 40 rest ≡ true → IsNewForm spec rest → ⊥
    not_new [] h form = false≢true h
    not_new (b ∷ rest) h form =
        let p = and_parts (is_old spec) (b == 123) form in
        let two : 40 ≡ 123 = sym (eqb-true b 40 h) ∙ eqb-true b 123 p.1 in
        absurd (omega (arith, two))

    not_digit_open : (rest : List ℕ) → begins_with 40 rest ≡ true → begins_with_digit rest ≡ true → ⊥
    not_digit_open [] h d = false≢true h
    not_digit_open (b ∷ rest) h d = false≢true (ap is_ascii_digit (sym (eqb-true b 40 h)) ∙ d)

    cause_of : (front rest : List ℕ) {cause : Cause} → At front rest cause → CauseAt spec n front rest cause
    cause_of front rest (new_form form dead) = needs_version form
    cause_of front rest (digit_due form last digit is others r s dead) = bad_version form (inl (last, (digit, is, viable_by (Stands spec n) front digit others r s)))
    cause_of front rest (digit_more form last digit dead) = bad_version form (inr (last, digit))
    cause_of front rest (wider b bs {cause = cause} first names none others r s dead) = opens (b == 40) refl
      where
        opens : (t : Bool) → (b == 40) ≡ t → CauseAt spec n front rest cause
        opens false q = absurd (cc (names, q, by_test q))
          where
            by_test : (b == 40) ≡ false → (range_kind spec).wide b ≡ None
            by_test q = rw q refl
        opens true q =
            let at : begins_with 40 rest ≡ true = ap (begins_with 40) first ∙ q in
            let same : TooDeep ≡ cause = cc (names, by_test q) in
            subst (CauseAt spec n front rest) same
            (too_deep (not_new rest at)
            (λ due. elim due [ inl p ↦ no_digit_here front none p.1.0 p.1.1 p.1.2 | inr p ↦ not_digit_open rest at p.1 ])
            (at, subst (λ c. Viable spec (suc n) (front ++ c ∷ [])) (eqb-true b 40 q) (viable_by (Stands spec (suc n)) front b others r s)))
          where
            by_test : (b == 40) ≡ true → (range_kind spec).wide b ≡ Some TooDeep
            by_test q = rw q refl
    cause_of front rest (behind_digit form last other dead) =
        bad_range form (λ due. elim due [ inl p ↦ false≢true (sym p.0 ∙ last) | inr p ↦ false≢true (sym other ∙ p.1) ]) (not_deeper front rest dead)
    cause_of front rest (no_digit form last none dead) =
        bad_range form (λ due. elim due [ inl p ↦ no_digit_here front none p.1.0 p.1.1 p.1.2 | inr p ↦ false≢true (sym last ∙ p.0) ]) (not_deeper front rest dead)

  pub first_fault : (n : ℕ) (text : List ℕ) (cause : Cause) → text_at spec n text ≡ Err cause → FirstFault spec n text cause
  first_fault n text cause h =
      let f = text_fault n text cause h in
      record { front = f.front; rest = f.rest; whole = f.whole; goes_on = (f.more, f.value, f.goes_on); stops = stuck n f.front f.rest f.why; is = cause_of n f.front f.rest f.why }
