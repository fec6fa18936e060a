-- Shared: reading factors, terms and ranges.
use Rattle.std.proofs.Common.{◌≡◌, inl, inr, ℕ, zero, suc, Bool, true, false, List, [], ◌∷◌, ◌++◌, codes, Option, Some, None, Result, Ok, Err, refl, sym, ap, ◌∙◌, subst, append_assoc, append-nil}
use Rattle.std.specs.Prelude.{◌==◌}
use Rattle.std.specs.Char.{is_ascii_digit}
use Rattle.std.proofs.lemmas.Bool.{false≢true}
use Rattle.plan_types.specs.declared.range.Spec.{Spec}
use Rattle.plan_types.specs.declared.range.Range.{Range}
use Rattle.plan_types.specs.declared.range.Range.TheVariants.{Any, Both, Either}
use Rattle.plan_types.specs.declared.refusal.Cause.{Cause}
use Rattle.version_range.specs.Read.{factor_at, term_at, range_in, inside}
use Rattle.version_range.specs.Version.{begins_with_digit}
use Rattle.version_range.specs.Grammar.{Atom, any, Factor, atom, enclosed, Terms, Inside}
use Rattle.plan_types.specs.Bytes.{begins_with, is_blank, Blanks}
use Rattle.text_grammar.specs.Parts.{led, one}
use Rattle.text_grammar.proofs.FrontReaders.{Reader, errs, Apart, ends_kept, apart_before, Read, Dead, NoDigit, Like, wider, Fault, fault_up, fault_up_like}
use Rattle.text_grammar.proofs.LeadingBlanks.{Never, never_starts, no_digits, begins_like, byte_gone, Begun, begun}
use Rattle.text_grammar.proofs.Closings.{Instead, instead, Closed, closed, closing, closed_reads, closed_read, closed_fault}
use Rattle.version_range.proofs.RangeAtoms.{atom_at, atom_read, atom_reads, atom_fault, never_atom}
use Rattle.text_grammar.proofs.Operands.{Rules}
use Rattle.version_range.proofs.RangeKind.{decimals, range_kind}
use Rattle.version_range.specs.Read.{missing}
use Rattle.plan_types.specs.declared.range.Spec.TheVariants.{V3_0}
use Rattle.text_grammar.proofs.TextKind.{Kind}
use Rattle.text_grammar.proofs.TwoChains.{AfterTerms}
use Rattle.text_grammar.proofs.TwoChains as two

-- ---- what may follow

-- all cabal-versions have the same digits
abbrev numbers : Kind
numbers = range_kind V3_0

abbrev pub AfterRange : List ℕ → List ℕ → Type 0
AfterRange = AfterTerms numbers refl refl refl

-- a closing parenthesis
pub close_follows : (text blanks again : List ℕ) → Blanks blanks → AfterRange text (blanks ++ (41 ∷ again))
close_follows = two.close_follows numbers refl refl refl

pub after_instead : (front rest again : List ℕ) → AfterRange front rest → Instead decimals front rest again → AfterRange front (instead rest again)
after_instead = two.after_instead numbers refl refl refl

-- ---- a factor, by the reader of its parentheses

at_open : (I : Reader Range) (spec : Spec) (rest : List ℕ) → factor_at I spec (40 ∷ rest) ≡ closing (missing spec) 41 I rest
unfolding factor_at
at_open I spec rest = refl

at_atom : (I : Reader Range) (spec : Spec) (text : List ℕ) → begins_with 40 text ≡ false → factor_at I spec text ≡ atom_at spec text
unfolding factor_at
at_atom I spec text other = ap (λ (o : Option (List ℕ)). elim o [ Some rest ↦ closing (missing spec) 41 I rest | None ↦ atom_at spec text ]) (byte_gone 40 text other)

opened : {spec : Spec} {L : List ℕ → Range → Type 0} {text : List ℕ} {r : Range} → Closed 41 L text r → Factor spec L (40 ∷ text) r
opened {spec = spec} {L = L} {r = r} (closed text after is all) = subst (λ t. Factor spec L (40 ∷ t) r) (append_assoc text after (41 ∷ [])) (enclosed text after is all)

pub never_factor : (spec : Spec) (L : List ℕ → Range → Type 0) (test : ℕ → Bool) → test 40 ≡ false → Never test (Atom spec) → Never test (Factor spec L)
never_factor spec L test open' never text r (atom a) = never text r a
never_factor spec L test open' never text r (enclosed front blanks is all) = (40, (front ++ blanks) ++ codes ")", refl, open')

module _ (spec : Spec) (L : List ℕ → Range → Type 0) (I : Reader Range) (rules : Rules L AfterRange I) where
  factor_reads : (text : List ℕ) (r : Range) (rest : List ℕ) → Factor spec L text r → Apart decimals text rest → factor_at I spec (text ++ rest) ≡ Ok (r, rest)
  factor_reads text r rest (atom a) e =
      at_atom I spec (text ++ rest) (never_starts (λ c. c == 40) (Atom spec) (never_atom spec (λ c. c == 40) refl refl refl refl refl) text r a rest) ∙ atom_reads spec text r rest a e
  factor_reads text r rest (enclosed front blanks is all) e =
      ap (λ t. factor_at I spec (40 ∷ (t ++ rest))) (append_assoc front blanks (41 ∷ []))
      ∙ at_open I spec ((front ++ (blanks ++ 41 ∷ [])) ++ rest)
      ∙ closed_reads (range_kind spec) 41 refl refl L AfterRange I rules.reads (λ text x after rest' l all'. close_follows text after rest' all') (closed front blanks is all) rest

  factor_read : (text : List ℕ) (r : Range) (rest : List ℕ) → factor_at I spec text ≡ Ok (r, rest) → Read (Factor spec L) (Apart decimals) text r rest
  factor_read text r rest h = by (begun 40 text)
    where
      by : Begun 40 text → Read (Factor spec L) (Apart decimals) text r rest
      by (inr other) =
          let a = atom_read spec text r rest (sym (at_atom I spec text other) ∙ h) in
          record { front = a.front; whole = a.whole; is = atom a.is; apart = a.apart }
      by (inl p) =
          let c = closed_read (range_kind spec) 41 refl refl L AfterRange I rules.read p.0 r rest (sym (at_open I spec p.0) ∙ sym (ap (factor_at I spec) p.1) ∙ h) in
          record {
            front = 40 ∷ c.front;
            whole = p.1 ∙ ap (λ t. 40 ∷ t) c.whole;
            is = opened c.is;
            apart = apart_before decimals (40 ∷ []) c.front rest refl c.apart;
          }

  pub factor_unblank : Never is_blank (Factor spec L)
  factor_unblank = never_factor spec L is_blank refl (never_atom spec is_blank refl refl refl refl refl)

  terms_rules : Rules (Terms spec L) AfterRange (range_in I spec)
  unfolding range_in term_at
  terms_rules = two.terms_rules (range_kind spec) refl refl refl Both Either (Factor spec L) (factor_at I spec) factor_unblank factor_reads factor_read

pub inside_rules : (spec : Spec) (n : ℕ) → Rules (Inside spec n) AfterRange (inside n spec)
unfolding Inside inside
inside_rules spec zero = record {
  reads = λ text r rest none e. absurd none;
  read = λ text r rest h. absurd (cc h);
  some = λ text r none e. none;
}
inside_rules spec (suc n) = terms_rules spec (Inside spec n) (inside n spec) (inside_rules spec n)

-- ---- one more parenthesis

module _ (spec : Spec) (L L' : List ℕ → Range → Type 0) (wider : (text : List ℕ) (r : Range) → L text r → L' text r) where
  wider_factor : (text : List ℕ) (r : Range) → Factor spec L text r → Factor spec L' text r
  wider_factor text r (atom a) = atom a
  wider_factor text r (enclosed front blanks is are) = enclosed front blanks (wider front r is) are

  pub wider_terms : (text : List ℕ) (r : Range) → Terms spec L text r → Terms spec L' text r
  wider_terms = two.wider_terms (range_kind spec) refl refl refl Both Either (Factor spec L) (Factor spec L') wider_factor

pub wider_inside : (spec : Spec) (n : ℕ) (text : List ℕ) (r : Range) → Inside spec n text r → Inside spec (suc n) text r
unfolding Inside
wider_inside spec zero text r none = absurd none
wider_inside spec (suc n) text r c = wider_terms spec (Inside spec n) (Inside spec (suc n)) (wider_inside spec n) text r c

-- ---- faults of a factor

module _ (spec : Spec) (L L' : List ℕ → Range → Type 0) (I I' : Reader Range) (rules : Rules L AfterRange I) (rules' : Rules L' AfterRange I') (wider : (text : List ℕ) (r : Range) → L text r → L' text r) where
  abbrev FactorFault : List ℕ → Cause → Type 0
  FactorFault = Fault (range_kind spec) (Factor spec L) (Factor spec L') (factor_at I spec) (factor_at I' spec)

  atom_fails : (text : List ℕ) (cause : Cause) → begins_with 40 text ≡ false → atom_at spec text ≡ Err cause → FactorFault text cause
  atom_fails text cause other h =
      let f = atom_fault spec text cause h in
      let still : (again : List ℕ) → Like decimals again f.rest → begins_with 40 (f.front ++ again) ≡ false = λ again like. begins_like decimals 40 refl f.front f.rest again like (sym (ap (begins_with 40) f.whole) ∙ other) in
      fault_up_like (range_kind spec) (Atom spec) (Atom spec) (atom_at spec) (atom_at spec) (Factor spec L) (Factor spec L') (factor_at I spec) (factor_at I' spec) []
      (λ t r k. ([], r, subst (λ t'. Factor spec L t' r) (sym (append-nil t)) (atom k)))
      (λ t r k. ([], r, subst (λ t'. Factor spec L' t' r) (sym (append-nil t)) (atom k)))
      text cause f refl
      (λ again like e. ap errs (at_atom I spec (f.front ++ again) (still again like)) ∙ e)
      (λ again like e. ap errs (at_atom I' spec (f.front ++ again) (still again like)) ∙ e)

  module _ (opened_fault : (text : List ℕ) (cause : Cause) → closing (missing spec) 41 I text ≡ Err cause → FactorFault (40 ∷ text) cause) where
    factor_fault : (text : List ℕ) (cause : Cause) → factor_at I spec text ≡ Err cause → FactorFault text cause
    factor_fault text cause h = by (begun 40 text)
      where
        by : Begun 40 text → FactorFault text cause
        by (inr other) = atom_fails text cause other (sym (at_atom I spec text other) ∙ h)
        by (inl p) = subst (λ t. FactorFault t cause) (sym p.1) (opened_fault p.0 cause (sym (at_open I spec p.0) ∙ sym (ap (factor_at I spec) p.1) ∙ h))

    terms_fault : (text : List ℕ) (cause : Cause) → range_in I spec text ≡ Err cause → Fault (range_kind spec) (Terms spec L) (Terms spec L') (range_in I spec) (range_in I' spec) text cause
    unfolding range_in term_at
    terms_fault = two.terms_fault (range_kind spec) refl refl refl Both Either (Factor spec L) (Factor spec L') (wider_factor spec L L' wider) (factor_at I spec) (factor_at I' spec)
        (factor_unblank spec L I rules) (factor_unblank spec L' I' rules') (factor_reads spec L I rules) (factor_read spec L I rules) (factor_reads spec L' I' rules') (factor_read spec L' I' rules')
        (codes "-any") Any (atom any) factor_fault

-- ---- at each depth

-- no atom begins with a digit
atom_digit : (spec : Spec) (text : List ℕ) → begins_with_digit text ≡ true → errs (atom_at spec text) ≡ true
atom_digit spec text d = by (atom_at spec text) refl
  where
    by : (o : Result (Range × List ℕ) Cause) → atom_at spec text ≡ o → errs o ≡ true
    by (Err cause) q = refl
    by (Ok p) q =
        let a = atom_read spec text p.0 p.1 q in
        let none = never_starts is_ascii_digit (Atom spec) (never_atom spec is_ascii_digit refl refl refl refl refl) a.front p.0 a.is p.1 in
        absurd (false≢true (sym none ∙ sym (ap begins_with_digit a.whole) ∙ d))

any_stands : (spec : Spec) (L : List ℕ → Range → Type 0) → Terms spec L (codes "-any") Any
any_stands spec L = one (one (led [] refl (atom any)))

abbrev OpenedFault : Spec → ℕ → List ℕ → Cause → Type 0
OpenedFault spec n = Fault (range_kind spec) (Factor spec (Inside spec n)) (Factor spec (Inside spec (suc n))) (factor_at (inside n spec) spec) (factor_at (inside (suc n) spec) spec)

module _ (spec : Spec) where
  abbrev depth-rules : (n : ℕ) → Rules (Inside spec n) AfterRange (inside n spec)
  depth-rules n = inside_rules spec n

  -- one parenthesis too many
  opened_zero : (text : List ℕ) (cause : Cause) → closing (missing spec) 41 (inside zero spec) text ≡ Err cause → OpenedFault spec zero (40 ∷ text) cause
  unfolding Inside inside
  opened_zero text cause h = subst (OpenedFault spec zero (40 ∷ text)) (cc h) (record {
    front = [];
    rest = 40 ∷ text;
    whole = refl;
    more = codes "-any";
    value = Any;
    goes_on = atom any;
    why = wider 40 text refl refl no_digit_opens (codes "-any)") Any (enclosed (codes "-any") [] (any_stands spec (Inside spec zero)) refl) still_deep;
  })
    where
      no_digit_opens : NoDigit decimals (factor_at (inside (suc zero) spec) spec) []
      no_digit_opens digit again d = ap errs (at_atom (inside (suc zero) spec) spec (digit ∷ again) (no_digits decimals 40 refl digit d)) ∙ atom_digit spec (digit ∷ again) d

      still_deep : Dead (factor_at (inside zero spec) spec) [] (40 ∷ text)
      still_deep [] same = absurd (cc same)
      still_deep (b ∷ again) same = let open' : b ≡ 40 = cc same in subst (λ x. errs (factor_at (inside zero spec) spec (x ∷ again)) ≡ true) (sym open') (ap errs (at_open (inside zero spec) spec again))

  -- the fault of a range in parentheses, or of its closing parenthesis
  opened_more : (n : ℕ) → ((text : List ℕ) (cause : Cause) → inside n spec text ≡ Err cause → Fault (range_kind spec) (Inside spec n) (Inside spec (suc n)) (inside n spec) (inside (suc n) spec) text cause)
      → (text : List ℕ) (cause : Cause) → closing (missing spec) 41 (inside n spec) text ≡ Err cause → OpenedFault spec n (40 ∷ text) cause
  opened_more n fault text cause h =
      fault_up (range_kind spec) (Closed 41 (Inside spec n)) (Closed 41 (Inside spec (suc n))) (closing (missing spec) 41 (inside n spec)) (closing (missing spec) 41 (inside (suc n) spec))
      (Factor spec (Inside spec n)) (Factor spec (Inside spec (suc n))) (factor_at (inside n spec) spec) (factor_at (inside (suc n) spec) spec) (40 ∷ [])
      (completes (Inside spec n)) (completes (Inside spec (suc n))) text cause f (ends_kept is_ascii_digit (40 ∷ []) f.front refl)
      (λ again e. ap errs (at_open (inside n spec) spec (f.front ++ again)) ∙ e)
      (λ again e. ap errs (at_open (inside (suc n) spec) spec (f.front ++ again)) ∙ e)
    where
      f : Fault (range_kind spec) (Closed 41 (Inside spec n)) (Closed 41 (Inside spec (suc n))) (closing (missing spec) 41 (inside n spec)) (closing (missing spec) 41 (inside (suc n) spec)) text cause
      f = closed_fault (range_kind spec) 41 refl refl (Inside spec n) AfterRange (inside n spec) (depth-rules n).read (Inside spec (suc n)) AfterRange (inside (suc n) spec)
          (wider_inside spec n) (λ t rest e. e.0.0) after_instead (depth-rules (suc n)).reads fault text cause h

      completes : (L : List ℕ → Range → Type 0) (t : List ℕ) (r : Range) → Closed 41 L t r → (after : List ℕ) × (y : Range) × Factor spec L (40 ∷ (t ++ after)) y
      completes L t r k = ([], r, subst (λ t'. Factor spec L (40 ∷ t') r) (sym (append-nil t)) (opened k))

  deeper : (n : ℕ) → ((text : List ℕ) (cause : Cause) → closing (missing spec) 41 (inside n spec) text ≡ Err cause → OpenedFault spec n (40 ∷ text) cause)
      → (text : List ℕ) (cause : Cause) → inside (suc n) spec text ≡ Err cause → Fault (range_kind spec) (Inside spec (suc n)) (Inside spec (suc (suc n))) (inside (suc n) spec) (inside (suc (suc n)) spec) text cause
  unfolding Inside inside
  deeper n opened_fault text cause h = terms_fault spec (Inside spec n) (Inside spec (suc n)) (inside n spec) (inside (suc n) spec) (depth-rules n) (depth-rules (suc n)) (wider_inside spec n) opened_fault text cause h

  opened_fault : (n : ℕ) (text : List ℕ) (cause : Cause) → closing (missing spec) 41 (inside n spec) text ≡ Err cause → OpenedFault spec n (40 ∷ text) cause
  opened_fault zero text cause h = opened_zero text cause h
  opened_fault (suc n) text cause h = opened_more (suc n) (deeper n (opened_fault n)) text cause h

  -- the faults of a range with at most n open parentheses are those of its parts
  pub range_fault : (n : ℕ) (text : List ℕ) (cause : Cause) → range_in (inside n spec) spec text ≡ Err cause
      → Fault (range_kind spec) (Terms spec (Inside spec n)) (Terms spec (Inside spec (suc n))) (range_in (inside n spec) spec) (range_in (inside (suc n) spec) spec) text cause
  range_fault n = terms_fault spec (Inside spec n) (Inside spec (suc n)) (inside n spec) (inside (suc n) spec) (depth-rules n) (depth-rules (suc n)) (wider_inside spec n) (opened_fault n)

  pub range_rules : (n : ℕ) → Rules (Terms spec (Inside spec n)) AfterRange (range_in (inside n spec) spec)
  range_rules n = terms_rules spec (Inside spec n) (inside n spec) (depth-rules n)
