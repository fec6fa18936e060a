-- Reading factors and conditions.
use Rattle.std.proofs.Common.{◌≡◌, inl, inr, ℕ, zero, suc, Bool, true, false, List, [], ◌∷◌, ◌++◌, codes, Option, Some, None, Result, Ok, Err, refl, sym, ap, ◌∙◌, subst, append_assoc, append-nil}
use Rattle.std.specs.Prelude.{◌==◌}
use Rattle.plan_types.specs.declared.refusal.Cause.{Cause}
use Rattle.plan_types.specs.declared.refusal.Cause.TheVariants.{TooDeep}
use Rattle.plan_types.specs.declared.range.Spec.{Spec}
use Rattle.plan_types.specs.declared.range.Range.{Range}
use Rattle.plan_types.specs.declared.condition.Cond.{Cond}
use Rattle.plan_types.specs.declared.condition.Cond.TheVariants.{Always, Not, And, Or}
use Rattle.plan_types.specs.Bytes.{is_blank, begins_with}
use Rattle.text_grammar.specs.Parts.{Led, led, Terms, one}
use Rattle.text_grammar.specs.Reading.{skip_blanks, byte_after, terms_at, valued}
use Rattle.text_grammar.proofs.TextKind.{miss}
use Rattle.text_grammar.proofs.FrontReaders.{Reader, errs, Apart, Read, Dead, Like, Fault, wider, fault_up, fault_up_like}
use Rattle.text_grammar.proofs.LeadingBlanks.{Never, never_starts, begins_like, byte_gone, Begun, begun, skip_over, cut}
use Rattle.text_grammar.proofs.MarkReaders.{led_at, led_fault}
use Rattle.text_grammar.proofs.Closings.{Closed, closed, closing, closed_reads, closed_read, closed_fault}
use Rattle.text_grammar.proofs.Operands.{Rules}
use Rattle.text_grammar.proofs.TwoChains.{AfterTerms, close_follows, after_instead, terms_rules, wider_terms, terms_fault}
use Rattle.text_grammar.proofs.LetterReaders.{Reads, Pair}
use Rattle.condition_text.specs.Grammar.{Versions, WiderVersions, Atom, always, Factor, atom, negated, inner_factor, InnerFactor}
use Rattle.condition_text.specs.Reading.{atom_at, factor_at, opened_at, cond_tail, condition_at}
use Rattle.condition_text.proofs.CondKind.{no_bytes, cond_kind, ends_none, apart, no_digit_stands}
use Rattle.condition_text.proofs.CondTails.{wide_tail}
use Rattle.condition_text.proofs.Atoms.{no_atom, atom_pair}

-- ---- a factor, by the reader of its inner factors

module _ (P : Reader Range) (Q : Reader Cond) (spec : Spec) where
  at_paren : (rest : List ℕ) → factor_at P Q (40 ∷ rest) ≡ closing (miss (cond_kind spec)) 41 (terms_at And Or (miss (cond_kind spec)) Q) rest
  unfolding factor_at
  at_paren rest = refl

  at_bang : (rest : List ℕ) → factor_at P Q (33 ∷ rest) ≡ valued Not (Q (skip_blanks rest))
  unfolding factor_at
  at_bang rest = refl

  at_atom : (text : List ℕ) → begins_with 40 text ≡ false → begins_with 33 text ≡ false → factor_at P Q text ≡ atom_at P text
  unfolding factor_at
  at_atom text paren bang =
      ap (λ (o : Option (List ℕ)). elim o [ Some rest ↦ closing (miss (cond_kind spec)) 41 (terms_at And Or (miss (cond_kind spec)) Q) rest | None ↦ elim (byte_after 33 text) [ Some rest ↦ valued Not (Q (skip_blanks rest)) | None ↦ atom_at P text ] ]) (byte_gone 40 text paren)
      ∙ ap (λ (o : Option (List ℕ)). elim o [ Some rest ↦ valued Not (Q (skip_blanks rest)) | None ↦ atom_at P text ]) (byte_gone 33 text bang)

enclosed : {T : List ℕ → Range → Type 0} {O : List ℕ → Cond → Type 0} {text : List ℕ} {c : Cond} → Closed 41 (Terms And Or O) text c → Factor T O (40 ∷ text) c
enclosed {T = T} {O = O} {c = c} (closed text after is all) = subst (λ t. Factor T O (40 ∷ t) c) (append_assoc text after (41 ∷ [])) (inner_factor text after is all)

after_bang : {T : List ℕ → Range → Type 0} {O : List ℕ → Cond → Type 0} {text : List ℕ} {c : Cond} → Led O text c → Factor T O (33 ∷ text) (Not c)
after_bang (led blanks are is) = negated blanks are is

never_factor : (T : List ℕ → Range → Type 0) (O : List ℕ → Cond → Type 0) (test : ℕ → Bool) → test 40 ≡ false → test 33 ≡ false → Never test (Atom T) → Never test (Factor T O)
never_factor T O test paren bang none text c (atom a) = none text c a
never_factor T O test paren bang none text c (negated blanks {text = t} are l) = (33, blanks ++ t, refl, bang)
never_factor T O test paren bang none text c (inner_factor t after l are) = (40, (t ++ after) ++ codes ")", refl, paren)

no_blank_atom : (T : List ℕ → Range → Type 0) → Never is_blank (Atom T)
no_blank_atom T = no_atom T is_blank refl refl refl refl refl refl refl refl refl refl

module _ (T : List ℕ → Range → Type 0) where
  not_paren : (text : List ℕ) (c : Cond) (rest : List ℕ) → Atom T text c → begins_with 40 (text ++ rest) ≡ false
  not_paren text c rest a = never_starts (λ b. b == 40) (Atom T) (no_atom T (λ b. b == 40) refl refl refl refl refl refl refl refl refl refl) text c a rest

  not_bang : (text : List ℕ) (c : Cond) (rest : List ℕ) → Atom T text c → begins_with 33 (text ++ rest) ≡ false
  not_bang text c rest a = never_starts (λ b. b == 33) (Atom T) (no_atom T (λ b. b == 33) refl refl refl refl refl refl refl refl refl refl) text c a rest

valued_ok : (o : Result (Cond × List ℕ) Cause) (p : Cond × List ℕ) → valued Not o ≡ Ok p → (q : Cond × List ℕ) × (o ≡ Ok q) × (p ≡ (Not q.0, q.1))
valued_ok (Ok q) p h = (q, refl, cc h)
valued_ok (Err cause) p h = absurd (cc h)

module _ (spec : Spec) (T : List ℕ → Range → Type 0) (P : Reader Range) (atoms : Reads no_bytes (Atom T) (atom_at P)) (O : List ℕ → Cond → Type 0) (Q : Reader Cond) (o : Reads no_bytes O Q) (unblank : Never is_blank O) where
  abbrev rules : Rules (Terms And Or O) (AfterTerms (cond_kind spec) refl refl refl) (terms_at And Or (miss (cond_kind spec)) Q)
  rules = terms_rules (cond_kind spec) refl refl refl And Or O Q unblank o.reads o.read

  pub factor_reads : Reads no_bytes (Factor T O) (factor_at P Q)
  factor_reads = record { read = read; reads = reads }
    where
      reads : (text : List ℕ) (c : Cond) (rest : List ℕ) → Factor T O text c → Apart no_bytes text rest → factor_at P Q (text ++ rest) ≡ Ok (c, rest)
      reads text c rest (atom a) e = at_atom P Q spec (text ++ rest) (not_paren T text c rest a) (not_bang T text c rest a) ∙ atoms.reads text c rest a e
      reads text c rest (negated blanks {text = t} {c = d} are l) e =
          at_bang P Q spec ((blanks ++ t) ++ rest)
          ∙ ap (λ u. valued Not (Q u)) (ap skip_blanks (append_assoc blanks t rest) ∙ skip_over blanks (t ++ rest) are (never_starts is_blank O unblank t d l rest))
          ∙ ap (valued Not) (o.reads t d rest l (apart t rest))
      reads text c rest (inner_factor t after l are) e =
          ap (λ u. factor_at P Q (40 ∷ (u ++ rest))) (append_assoc t after (41 ∷ []))
          ∙ at_paren P Q spec ((t ++ (after ++ 41 ∷ [])) ++ rest)
          ∙ closed_reads (cond_kind spec) 41 refl refl (Terms And Or O) (AfterTerms (cond_kind spec) refl refl refl) (terms_at And Or (miss (cond_kind spec)) Q) rules.reads
          (λ u x after' rest' l' all. close_follows (cond_kind spec) refl refl refl u after' rest' all) (closed t after l are) rest

      read : (text : List ℕ) (c : Cond) (rest : List ℕ) → factor_at P Q text ≡ Ok (c, rest) → Read (Factor T O) (Apart no_bytes) text c rest
      read text c rest h = by (begun 40 text) (begun 33 text)
        where
          by : Begun 40 text → Begun 33 text → Read (Factor T O) (Apart no_bytes) text c rest
          by (inl p) b =
              let got = closed_read (cond_kind spec) 41 refl refl (Terms And Or O) (AfterTerms (cond_kind spec) refl refl refl) (terms_at And Or (miss (cond_kind spec)) Q) rules.read p.0 c rest (sym (at_paren P Q spec p.0) ∙ sym (ap (factor_at P Q) p.1) ∙ h) in
              record { front = 40 ∷ got.front; whole = p.1 ∙ ap (λ t. 40 ∷ t) got.whole; is = enclosed got.is; apart = apart (40 ∷ got.front) rest }
          by (inr other) (inl p) =
              let v = valued_ok (Q (skip_blanks p.0)) (c, rest) (sym (at_bang P Q spec p.0) ∙ sym (ap (factor_at P Q) p.1) ∙ h) in
              let got = o.read (skip_blanks p.0) v.0.0 v.0.1 v.1 in
              let b = cut p.0 in
              let left : v.0.1 ≡ rest = sym (ap (λ r. r.1) v.2) in
              record {
                front = 33 ∷ (b.blanks ++ got.front);
                whole = p.1 ∙ ap (λ t. 33 ∷ t) (b.whole ∙ ap (λ t. b.blanks ++ t) (got.whole ∙ ap (λ t. got.front ++ t) left) ∙ sym (append_assoc b.blanks got.front rest));
                is = subst (Factor T O (33 ∷ (b.blanks ++ got.front))) (sym (ap (λ r. r.0) v.2)) (negated b.blanks b.all got.is);
                apart = apart (33 ∷ (b.blanks ++ got.front)) rest;
              }
          by (inr other) (inr none) =
              let got = atoms.read text c rest (sym (at_atom P Q spec text other none) ∙ h) in
              record { front = got.front; whole = got.whole; is = atom got.is; apart = got.apart }

-- ---- at each depth

module _ (T : List ℕ → Range → Type 0) where
  opened_unblank : (m : ℕ) → Never is_blank (InnerFactor T m)
  unfolding InnerFactor
  opened_unblank zero text c l = absurd l
  opened_unblank (suc m) text c l = never_factor T (InnerFactor T m) is_blank refl refl (no_blank_atom T) text c l

  module _ (spec : Spec) (P : Reader Range) (atoms : Reads no_bytes (Atom T) (atom_at P)) where
    opened_reads : (m : ℕ) → Reads no_bytes (InnerFactor T m) (opened_at P m)
    unfolding InnerFactor opened_at
    opened_reads zero = record { read = λ text c rest h. absurd (cc h); reads = λ text c rest l e. absurd l }
    opened_reads (suc m) = factor_reads spec T P atoms (InnerFactor T m) (opened_at P m) (opened_reads m) (opened_unblank m)

    pub factors_read : (m : ℕ) → Reads no_bytes (Factor T (InnerFactor T m)) (factor_at P (opened_at P m))
    factors_read m = factor_reads spec T P atoms (InnerFactor T m) (opened_at P m) (opened_reads m) (opened_unblank m)

  pub factor_unblank : (m : ℕ) → Never is_blank (Factor T (InnerFactor T m))
  factor_unblank m = never_factor T (InnerFactor T m) is_blank refl refl (no_blank_atom T)

-- `true` is a factor at every depth
true_opened : (T : List ℕ → Range → Type 0) (m : ℕ) → InnerFactor T (suc m) (codes "true") Always
unfolding InnerFactor
true_opened T m = atom (always refl)

-- conditions with at most so many open at once
abbrev pub Conditions : (List ℕ → Range → Type 0) → ℕ → List ℕ → Cond → Type 0
Conditions T m = Terms And Or (Factor T (InnerFactor T m))

module _ (spec : Spec) (n : ℕ) where
  abbrev V : List ℕ → Range → Type 0
  V = Versions spec n

  abbrev V' : List ℕ → Range → Type 0
  V' = WiderVersions spec n

  abbrev P : Reader Range
  P = cond_tail spec n

  abbrev P' : Reader Range
  P' = wide_tail spec n

  abbrev atoms : Pair (cond_kind spec) (Atom V) (Atom V') (atom_at P) (atom_at P')
  atoms = atom_pair spec n

  wider_factor : (O O' : List ℕ → Cond → Type 0) → ((text : List ℕ) (c : Cond) → O text c → O' text c) → (text : List ℕ) (c : Cond) → Factor V O text c → Factor V' O' text c
  wider_factor O O' w text c (atom a) = atom (atoms.wider text c a)
  wider_factor O O' w text c (negated blanks {text = t} {c = d} are l) = negated blanks are (w t d l)
  wider_factor O O' w text c (inner_factor t after l are) = inner_factor t after (wider_terms (cond_kind spec) refl refl refl And Or O O' w t c l) are

  wider_opened : (m : ℕ) (text : List ℕ) (c : Cond) → InnerFactor V m text c → InnerFactor V' (suc m) text c
  unfolding InnerFactor
  wider_opened zero text c l = absurd l
  wider_opened (suc m) text c l = wider_factor (InnerFactor V m) (InnerFactor V' (suc m)) (wider_opened m) text c l

  pub wider_factors : (m : ℕ) (text : List ℕ) (c : Cond) → Factor V (InnerFactor V m) text c → Factor V' (InnerFactor V' (suc m)) text c
  wider_factors m = wider_factor (InnerFactor V m) (InnerFactor V' (suc m)) (wider_opened m)

  abbrev F : ℕ → Reader Cond
  F m = factor_at P (opened_at P m)

  abbrev F' : ℕ → Reader Cond
  F' m = factor_at P' (opened_at P' (suc m))

  abbrev FactorFault : ℕ → List ℕ → Cause → Type 0
  FactorFault m = Fault (cond_kind spec) (Factor V (InnerFactor V m)) (Factor V' (InnerFactor V' (suc m))) (F m) (F' m)

  -- an atom fails
  atom_fails : (m : ℕ) (text : List ℕ) (cause : Cause) → begins_with 40 text ≡ false → begins_with 33 text ≡ false → atom_at P text ≡ Err cause → FactorFault m text cause
  atom_fails m text cause paren bang h =
      let f = atoms.fault text cause h in
      let still : (byte : ℕ) → begins_with byte text ≡ false → (again : List ℕ) → Like no_bytes again f.rest → begins_with byte (f.front ++ again) ≡ false =
      λ byte other again like. begins_like no_bytes byte refl f.front f.rest again like (sym (ap (begins_with byte) f.whole) ∙ other) in
      fault_up_like (cond_kind spec) (Atom V) (Atom V') (atom_at P) (atom_at P') (Factor V (InnerFactor V m)) (Factor V' (InnerFactor V' (suc m))) (F m) (F' m) []
      (λ t c k. ([], c, subst (λ u. Factor V (InnerFactor V m) u c) (sym (append-nil t)) (atom k)))
      (λ t c k. ([], c, subst (λ u. Factor V' (InnerFactor V' (suc m)) u c) (sym (append-nil t)) (atom k)))
      text cause f refl
      (λ again like e. ap errs (at_atom P (opened_at P m) spec (f.front ++ again) (still 40 paren again like) (still 33 bang again like)) ∙ e)
      (λ again like e. ap errs (at_atom P' (opened_at P' (suc m)) spec (f.front ++ again) (still 40 paren again like) (still 33 bang again like)) ∙ e)

  abbrev Parens : ℕ → Type 0
  Parens m = (text : List ℕ) (cause : Cause) → closing (miss (cond_kind spec)) 41 (terms_at And Or (miss (cond_kind spec)) (opened_at P m)) text ≡ Err cause → FactorFault m (40 ∷ text) cause

  abbrev Bangs : ℕ → Type 0
  Bangs m = (text : List ℕ) (cause : Cause) → valued Not (opened_at P m (skip_blanks text)) ≡ Err cause → FactorFault m (33 ∷ text) cause

  factor_fault : (m : ℕ) → Parens m → Bangs m → (text : List ℕ) (cause : Cause) → F m text ≡ Err cause → FactorFault m text cause
  factor_fault m parens bangs text cause h = by (begun 40 text) (begun 33 text)
    where
      by : Begun 40 text → Begun 33 text → FactorFault m text cause
      by (inl p) b = subst (λ t. FactorFault m t cause) (sym p.1) (parens p.0 cause (sym (at_paren P (opened_at P m) spec p.0) ∙ sym (ap (F m) p.1) ∙ h))
      by (inr other) (inl p) = subst (λ t. FactorFault m t cause) (sym p.1) (bangs p.0 cause (sym (at_bang P (opened_at P m) spec p.0) ∙ sym (ap (F m) p.1) ∙ h))
      by (inr other) (inr none) = atom_fails m text cause other none (sym (at_atom P (opened_at P m) spec text other none) ∙ h)

  -- ---- one parenthesis or `!` too many

  still_deep : (b : ℕ) (rest : List ℕ) → ((again : List ℕ) → errs (F zero (b ∷ again)) ≡ true) → Dead (F zero) [] (b ∷ rest)
  still_deep b rest fails [] head = absurd (cc head)
  still_deep b rest fails (c ∷ again) head = let at : c ≡ b = cc head in subst (λ x. errs (F zero (x ∷ again)) ≡ true) (sym at) (fails again)

  -- without room no factor is read
  deep : (text : List ℕ) → opened_at P zero text ≡ Err TooDeep
  unfolding opened_at
  deep text = refl

  deep_paren : (text : List ℕ) → closing (miss (cond_kind spec)) 41 (terms_at And Or (miss (cond_kind spec)) (opened_at P zero)) text ≡ Err TooDeep
  unfolding opened_at
  deep_paren text = refl

  -- stuck at a `(` or `!`, which the wider grammar continues
  at_opener : (b : ℕ) (text more : List ℕ) (c : Cond) (cause : Cause) → TooDeep ≡ cause → (cond_kind spec).wide b ≡ Some TooDeep → Factor V' (InnerFactor V' (suc zero)) (b ∷ more) c → ((again : List ℕ) → errs (F zero (b ∷ again)) ≡ true) → FactorFault zero (b ∷ text) cause
  at_opener b text more c cause is names goes fails =
      subst (FactorFault zero (b ∷ text)) is
      (record {
        front = [];
        rest = b ∷ text;
        whole = refl;
        more = codes "true";
        value = Always;
        goes_on = atom (always refl);
        why = wider b text refl names (no_digit_stands (F' zero) []) more c goes (still_deep b text fails);
      })

  paren_zero : Parens zero
  paren_zero text cause h =
      at_opener 40 text (codes "true)") Always cause (cc (h, deep_paren text)) refl (inner_factor (codes "true") [] (one (one (led [] refl (true_opened V' zero)))) refl)
      (λ again. ap errs (at_paren P (opened_at P zero) spec again ∙ deep_paren again))

  bang_zero : Bangs zero
  bang_zero text cause h =
      at_opener 33 text (codes "true") (Not Always) cause (cc (h, ap (valued Not) (deep (skip_blanks text)))) refl (negated [] refl (true_opened V' zero))
      (λ again. ap errs (at_bang P (opened_at P zero) spec again ∙ ap (valued Not) (deep (skip_blanks again))))

  -- ---- faults of inner factors

  abbrev OpenedFault : ℕ → List ℕ → Cause → Type 0
  OpenedFault m = Fault (cond_kind spec) (InnerFactor V m) (InnerFactor V' (suc m)) (opened_at P m) (opened_at P' (suc m))

  module _ (m : ℕ) (fault : (text : List ℕ) (cause : Cause) → opened_at P (suc m) text ≡ Err cause → OpenedFault (suc m) text cause) where
    abbrev O : List ℕ → Cond → Type 0
    O = InnerFactor V (suc m)

    abbrev O' : List ℕ → Cond → Type 0
    O' = InnerFactor V' (suc (suc m))

    abbrev Q : Reader Cond
    Q = opened_at P (suc m)

    abbrev Q' : Reader Cond
    Q' = opened_at P' (suc (suc m))

    abbrev o-reads : Reads no_bytes O Q
    o-reads = opened_reads V spec P atoms.narrow (suc m)

    abbrev o-reads' : Reads no_bytes O' Q'
    o-reads' = opened_reads V' spec P' atoms.wide (suc (suc m))

    abbrev in-rules : Rules (Terms And Or O) (AfterTerms (cond_kind spec) refl refl refl) (terms_at And Or (miss (cond_kind spec)) Q)
    in-rules = terms_rules (cond_kind spec) refl refl refl And Or O Q (opened_unblank V (suc m)) o-reads.reads o-reads.read

    abbrev in-rules' : Rules (Terms And Or O') (AfterTerms (cond_kind spec) refl refl refl) (terms_at And Or (miss (cond_kind spec)) Q')
    in-rules' = terms_rules (cond_kind spec) refl refl refl And Or O' Q' (opened_unblank V' (suc (suc m))) o-reads'.reads o-reads'.read

    paren_more : Parens (suc m)
    paren_more text cause h =
        fault_up (cond_kind spec) (Closed 41 (Terms And Or O)) (Closed 41 (Terms And Or O')) (closing (miss (cond_kind spec)) 41 (terms_at And Or (miss (cond_kind spec)) Q)) (closing (miss (cond_kind spec)) 41 (terms_at And Or (miss (cond_kind spec)) Q'))
        (Factor V O) (Factor V' O') (F (suc m)) (F' (suc m)) (40 ∷ [])
        (λ t c k. ([], c, subst (λ u. Factor V O (40 ∷ u) c) (sym (append-nil t)) (enclosed k))) (λ t c k. ([], c, subst (λ u. Factor V' O' (40 ∷ u) c) (sym (append-nil t)) (enclosed k)))
        text cause f (ends_none (40 ∷ f.front) ∙ sym (ends_none f.front))
        (λ again e. ap errs (at_paren P Q spec (f.front ++ again)) ∙ e) (λ again e. ap errs (at_paren P' Q' spec (f.front ++ again)) ∙ e)
      where
        f : Fault (cond_kind spec) (Closed 41 (Terms And Or O)) (Closed 41 (Terms And Or O')) (closing (miss (cond_kind spec)) 41 (terms_at And Or (miss (cond_kind spec)) Q)) (closing (miss (cond_kind spec)) 41 (terms_at And Or (miss (cond_kind spec)) Q')) text cause
        f = closed_fault (cond_kind spec) 41 refl refl (Terms And Or O) (AfterTerms (cond_kind spec) refl refl refl) (terms_at And Or (miss (cond_kind spec)) Q) in-rules.read
            (Terms And Or O') (AfterTerms (cond_kind spec) refl refl refl) (terms_at And Or (miss (cond_kind spec)) Q')
            (λ t c l. wider_terms (cond_kind spec) refl refl refl And Or O O' (wider_opened (suc m)) t c l) (λ t rest e. e.0.0) (after_instead (cond_kind spec) refl refl refl) in-rules'.reads
            (terms_fault (cond_kind spec) refl refl refl And Or O O' (wider_opened (suc m)) Q Q' (opened_unblank V (suc m)) (opened_unblank V' (suc (suc m))) o-reads.reads o-reads.read o-reads'.reads o-reads'.read
            (codes "true") Always (true_opened V m) fault) text cause h

    negated_errs : (o : Result (Cond × List ℕ) Cause) → errs o ≡ true → errs (valued Not o) ≡ true
    negated_errs (Ok p) h = h
    negated_errs (Err cause) h = refl

    negated_err : (o : Result (Cond × List ℕ) Cause) (cause : Cause) → valued Not o ≡ Err cause → o ≡ Err cause
    negated_err (Ok p) cause h = absurd (cc h)
    negated_err (Err why) cause h = let is : why ≡ cause = cc h in ap Err is

    bang_more : Bangs (suc m)
    bang_more text cause h =
        let f = led_fault (cond_kind spec) O O' Q Q' fault text cause (negated_err (Q (skip_blanks text)) cause h) in
        fault_up (cond_kind spec) (Led O) (Led O') (led_at Q) (led_at Q') (Factor V O) (Factor V' O') (F (suc m)) (F' (suc m)) (33 ∷ [])
        (λ t c k. ([], Not c, subst (λ u. Factor V O (33 ∷ u) (Not c)) (sym (append-nil t)) (after_bang k))) (λ t c k. ([], Not c, subst (λ u. Factor V' O' (33 ∷ u) (Not c)) (sym (append-nil t)) (after_bang k)))
        text cause f (ends_none (33 ∷ f.front) ∙ sym (ends_none f.front))
        (λ again e. ap errs (at_bang P Q spec (f.front ++ again)) ∙ negated_errs (Q (skip_blanks (f.front ++ again))) e)
        (λ again e. ap errs (at_bang P' Q' spec (f.front ++ again)) ∙ negated_errs (Q' (skip_blanks (f.front ++ again))) e)

  below : (m : ℕ) → ((text : List ℕ) (cause : Cause) → F m text ≡ Err cause → FactorFault m text cause) → (text : List ℕ) (cause : Cause) → opened_at P (suc m) text ≡ Err cause → OpenedFault (suc m) text cause
  unfolding InnerFactor opened_at
  below m fault = fault

  -- the faults of a factor with at most m open are those of its parts
  pub factors_fault : (m : ℕ) (text : List ℕ) (cause : Cause) → F m text ≡ Err cause → FactorFault m text cause
  factors_fault zero text cause h = factor_fault zero paren_zero bang_zero text cause h
  factors_fault (suc m) text cause h = factor_fault (suc m) (paren_more m (below m (factors_fault m))) (bang_more m (below m (factors_fault m))) text cause h

  -- ---- whole conditions

  pub cond_rules : (m : ℕ) → Rules (Conditions V m) (AfterTerms (cond_kind spec) refl refl refl) (condition_at P m)
  cond_rules m = let r = factors_read V spec P atoms.narrow m in terms_rules (cond_kind spec) refl refl refl And Or (Factor V (InnerFactor V m)) (F m) (factor_unblank V m) r.reads r.read

  pub cond_rules' : (m : ℕ) → Rules (Conditions V' (suc m)) (AfterTerms (cond_kind spec) refl refl refl) (condition_at P' (suc m))
  cond_rules' m = let r = factors_read V' spec P' atoms.wide (suc m) in terms_rules (cond_kind spec) refl refl refl And Or (Factor V' (InnerFactor V' (suc m))) (F' m) (factor_unblank V' (suc m)) r.reads r.read

  pub wider_conds : (m : ℕ) (text : List ℕ) (c : Cond) → Conditions V m text c → Conditions V' (suc m) text c
  wider_conds m = wider_terms (cond_kind spec) refl refl refl And Or (Factor V (InnerFactor V m)) (Factor V' (InnerFactor V' (suc m))) (wider_factors m)

  pub conds_fault : (m : ℕ) (text : List ℕ) (cause : Cause) → condition_at P m text ≡ Err cause
      → Fault (cond_kind spec) (Conditions V m) (Conditions V' (suc m)) (condition_at P m) (condition_at P' (suc m)) text cause
  conds_fault m =
      let r = factors_read V spec P atoms.narrow m in
      let r' = factors_read V' spec P' atoms.wide (suc m) in
      terms_fault (cond_kind spec) refl refl refl And Or (Factor V (InnerFactor V m)) (Factor V' (InnerFactor V' (suc m))) (wider_factors m) (F m) (F' m) (factor_unblank V m) (factor_unblank V' (suc m)) r.reads r.read r'.reads r'.read
      (codes "true") Always (atom (always refl)) (factors_fault m)
