-- Reading sets.
use Rattle.std.proofs.Common.{◌≡◌, inl, inr, ℕ, Bool, true, false, List, [], ◌∷◌, ◌++◌, Option, Some, None, Result, Ok, Err, refl, sym, ap, ◌∙◌, subst, append_assoc, append-nil}
use Rattle.std.specs.Prelude.{codes}
use Rattle.std.specs.Char.{is_ascii_digit}
use Rattle.std.specs.List.{list_all}
use Rattle.std.proofs.lemmas.Bool.{and_parts}
use Rattle.plan_types.specs.declared.range.Range.{Range}
use Rattle.plan_types.specs.declared.range.Range.TheVariants.{Either}
use Rattle.plan_types.specs.declared.range.Spec.{Spec}
use Rattle.plan_types.specs.declared.version.Version.{Version}
use Rattle.plan_types.specs.declared.refusal.Cause.{Cause}
use Rattle.version_range.specs.declared.operator.Operator.{Operator}
use Rattle.version_range.specs.Grammar.{ends_with_digit, of_version, Compared, compared, Members}
use Rattle.plan_types.specs.Bytes.{begins_with, is_blank, Blanks}
use Rattle.text_grammar.specs.Parts.{Led, Behind, behind}
use Rattle.version_range.specs.Read.{version_at, compared_at, next_member, set_at}
use Rattle.text_grammar.specs.Reading.{◌>>=◌, skip_blanks, byte_after, chained, valued}
use Rattle.text_grammar.proofs.FrontReaders.{Reader, some_append, apart_longer, apart_shorter, errs, Apart, apart_before, apart_within, ends_behind, ends_kept, Read, Like, Fault, fault_up_like}
use Rattle.text_grammar.proofs.ChainParts.{errs_then, as_next, as_next_ok, as_next_none, as_next_err, Parts, all_of, reads, read_all, NextFault, fault_all}
use Rattle.text_grammar.proofs.LeadingBlanks.{Never, never_starts, never_empty, NotDigits, byte_gone, Begun, begun, blanks_none, blanks_go_on, Cut, cut, skip_over}
use Rattle.text_grammar.proofs.ReaderSteps.{Good, good_led, good_map, good_as}
use Rattle.text_grammar.proofs.Closings.{Instead, instead, begins_instead, apart_instead, Closed, closing, closed_at, closed_reads, closed_read, closed_fault}
use Rattle.version_range.proofs.VersionReaders.{VersionText, version_read, version_reads, version_fault, version_first}
use Rattle.text_grammar.proofs.TextKind.{starts}
use Rattle.version_range.proofs.RangeKind.{on_number, blank_off, decimals, range_kind}
use Rattle.version_range.specs.Read.{missing}

-- ---- versions that are compared

version_good : (spec : Spec) → Good (range_kind spec) VersionText (version_at false spec)
version_good spec = record { read = version_read spec; reads = version_reads spec; fault = version_fault spec }

compared_same : (op : Operator) (spec : Spec) (text : List ℕ) → compared_at op spec text ≡ valued (of_version op) (version_at false spec text)
unfolding compared_at
compared_same op spec text = by (version_at false spec text)
  where
    by : (r : Result (Version × List ℕ) Cause) → ◌>>=◌ {B = Range × List ℕ} r (λ v. Ok (of_version op v.0, v.1)) ≡ valued (of_version op) r
    by (Ok p) = refl
    by (Err cause) = refl

pub compared_good : (spec : Spec) (op : Operator) → Good (range_kind spec) (Compared op) (compared_at op spec)
compared_good spec op = good_map (range_kind spec) VersionText (version_at false spec) (version_good spec) (of_version op) (Compared op)
    (λ text v p. subst (λ t. Compared op t (of_version op v)) (sym p.0) (compared v p.1)) from (compared_at op spec) (compared_same op spec)
  where
    from : (text : List ℕ) (y : Range) → Compared op text y → (v : Version) × VersionText text v × (y ≡ of_version op v)
    from text y (compared v h) = (v, (refl, h), refl)

pub never_version : (test : ℕ → Bool) → NotDigits decimals test → Never test VersionText
never_version test none text v l = let f = version_first text v l in (f.0, f.1, f.2, none f.0 f.3)

pub never_compared : (op : Operator) (test : ℕ → Bool) → NotDigits decimals test → Never test (Compared op)
never_compared op test none text r (compared v h) = never_version test none text v (refl, h)

-- ---- the members of a set

-- a text that begins with a mark or a blank doesn't continue a number
never_behind : {A : Type 0} (mark : ℕ) → on_number mark ≡ false → (L : List ℕ → A → Type 0) → Never on_number (Behind (mark ∷ []) L)
never_behind mark other L text x (behind [] {text = t} all l) = (mark, t, refl, other)
never_behind mark other L text x (behind (b ∷ bs) {text = t} all l) = (b, (bs ++ mark ∷ []) ++ t, refl, blank_off b (and_parts (is_blank b) (list_all is_blank bs) all).0)

-- the reader of a member
abbrev member_at : Spec → Operator → Reader Range
member_at spec op text = compared_at op spec (skip_blanks text)

module _ (spec : Spec) (op : Operator) where
  abbrev Next : List ℕ → Range → Type 0
  Next = Behind (codes ",") (Led (Compared op))

  member_good : Good (range_kind spec) (Led (Compared op)) (member_at spec op)
  member_good = good_led (range_kind spec) (Compared op) (compared_at op spec) (compared_good spec op) (never_compared op is_blank (blanks_none decimals))

  next_here : (text more : List ℕ) → skip_blanks text ≡ 44 ∷ more → next_member op spec text ≡ as_next (member_at spec op more)
  unfolding next_member compared_at
  next_here text more e = ap (λ t. elim (byte_after 44 t) [ None ↦ Ok None | Some m ↦ version_at false spec (skip_blanks m) >>= λ p. Ok (Some (of_version op p.0, p.1)) ]) e ∙ by (version_at false spec (skip_blanks more))
    where
      by : (r : Result (Version × List ℕ) Cause) → ◌>>=◌ {B = Option (Range × List ℕ)} r (λ p. Ok (Some (of_version op p.0, p.1))) ≡ as_next (◌>>=◌ {B = Range × List ℕ} r (λ v. Ok (of_version op v.0, v.1)))
      by (Ok p) = refl
      by (Err cause) = refl

  next_gone : (text : List ℕ) → begins_with 44 (skip_blanks text) ≡ false → next_member op spec text ≡ Ok None
  unfolding next_member
  next_gone text h = ap (λ (o : Option (List ℕ)). elim o [ None ↦ Ok None | Some m ↦ version_at false spec (skip_blanks m) >>= λ p. Ok (Some (of_version op p.0, p.1)) ]) (byte_gone 44 (skip_blanks text) h)

  no_next : (text : List ℕ) → next_member op spec text ≡ Ok None → begins_with 44 (skip_blanks text) ≡ false
  no_next text h = by (begun 44 (skip_blanks text))
    where
      by : Begun 44 (skip_blanks text) → begins_with 44 (skip_blanks text) ≡ false
      by (inl p) = absurd (as_next_none (member_at spec op p.0) (sym (next_here text p.0 p.1) ∙ h))
      by (inr g) = g

  over_mark : (blanks : List ℕ) → Blanks blanks → (text : List ℕ) → skip_blanks ((blanks ++ 44 ∷ []) ++ text) ≡ 44 ∷ text
  over_mark blanks all text = ap skip_blanks (append_assoc blanks (44 ∷ []) text) ∙ skip_over blanks (44 ∷ text) all refl

  next_reads : {text : List ℕ} {y : Range} → Next text y → (rest : List ℕ) → Apart decimals text rest → next_member op spec (text ++ rest) ≡ Ok (Some (y, rest))
  next_reads {y = y} (behind blanks {text = text} all l) rest a =
      let pre = blanks ++ 44 ∷ [] in
      next_here ((pre ++ text) ++ rest) (text ++ rest) (ap skip_blanks (append_assoc pre text rest) ∙ over_mark blanks all (text ++ rest))
      ∙ ap as_next (member_good.reads text y rest l (apart_within decimals pre text rest (ends_behind is_ascii_digit blanks 44 []) a))

  next_read : (text : List ℕ) (y : Range) (rest : List ℕ) → next_member op spec text ≡ Ok (Some (y, rest)) → Read Next (Apart decimals) text y rest
  next_read text y rest h = by (begun 44 (skip_blanks text))
    where
      by : Begun 44 (skip_blanks text) → Read Next (Apart decimals) text y rest
      by (inr g) = absurd (cc (h, next_gone text g))
      by (inl p) =
          let c = cut text in
          let r = member_good.read p.0 y rest (as_next_ok (member_at spec op p.0) (y, rest) (sym (next_here text p.0 p.1) ∙ h)) in
          record {
            front = (c.blanks ++ 44 ∷ []) ++ r.front;
            whole = c.whole ∙ ap (λ t. c.blanks ++ t) (p.1 ∙ ap (λ t. 44 ∷ t) r.whole) ∙ sym (append_assoc c.blanks (44 ∷ []) (r.front ++ rest)) ∙ sym (append_assoc (c.blanks ++ 44 ∷ []) r.front rest);
            is = behind c.blanks c.all r.is;
            apart = apart_before decimals (c.blanks ++ 44 ∷ []) r.front rest (ends_behind is_ascii_digit c.blanks 44 []) r.apart;
          }

  never_next : Never on_number Next
  never_next = never_behind 44 refl (Led (Compared op))

  rules : Parts (Led (Compared op)) Next (Apart decimals) (member_at spec op) (next_member op spec)
  rules = record {
    first_reads = member_good.reads;
    first_read = member_good.read;
    next_reads = λ text y rest l a. next_reads l rest a;
    next_read = next_read;
    next_some = λ y n. never_empty on_number Next never_next [] y n refl;
    opens = λ text next rest y n d. never_starts on_number Next never_next next y n rest;
    behind = λ text next rest y n a. apart_longer decimals text next rest (never_empty on_number Next never_next next y n) a;
    within = λ text next rest y n a. apart_shorter decimals text next rest (never_empty on_number Next never_next next y n) a;
  }

  abbrev NextFails : List ℕ → Cause → Type 0
  NextFails = NextFault (range_kind spec) Either (Led (Compared op)) (Led (Compared op)) Next Next (Apart decimals) (member_at spec op) (member_at spec op) (next_member op spec) (next_member op spec) rules rules (λ t x l. l) (λ t x l. l)

  fault_behind : (blanks text : List ℕ) → Blanks blanks → (cause : Cause) → Fault (range_kind spec) (Led (Compared op)) (Led (Compared op)) (member_at spec op) (member_at spec op) text cause → NextFails ((blanks ++ 44 ∷ []) ++ text) cause
  unfolding fault_up_like
  fault_behind blanks text all cause f =
      let pre = blanks ++ 44 ∷ [] in
      let completes : (t : List ℕ) (x : Range) → Led (Compared op) t x → (end : List ℕ) × (y : Range) × Next (pre ++ (t ++ end)) y = λ t x l. ([], x, subst (λ u. Next (pre ++ u) x) (sym (append-nil t)) (behind blanks all l)) in
      let passes : (again : List ℕ) → Like decimals again f.rest → errs (member_at spec op (f.front ++ again)) ≡ true → errs (next_member op spec (pre ++ (f.front ++ again))) ≡ true =
      λ again like e. ap errs (next_here (pre ++ (f.front ++ again)) (f.front ++ again) (over_mark blanks all (f.front ++ again))) ∙ errs_then (member_at spec op (f.front ++ again)) (λ p. Ok (Some p)) e in
      let ends : ends_with_digit (pre ++ f.front) ≡ ends_with_digit f.front = ends_kept is_ascii_digit pre f.front (ends_behind is_ascii_digit blanks 44 []) in
      record {
        fault = fault_up_like (range_kind spec) (Led (Compared op)) (Led (Compared op)) (member_at spec op) (member_at spec op) Next Next (next_member op spec) (next_member op spec) pre completes completes text cause f ends passes passes;
        begun = λ e. some_append blanks (44 ∷ f.front) (λ k. cc k) (sym (append_assoc blanks (44 ∷ []) f.front) ∙ e);
        opens = λ before again d. ap (starts on_number) (append_assoc (blanks ++ 44 ∷ []) f.front again ∙ append_assoc blanks (44 ∷ []) (f.front ++ again)) ∙ blanks_go_on decimals blanks (44 ∷ (f.front ++ again)) all refl;
      }

  next_fault : (text : List ℕ) (cause : Cause) → next_member op spec text ≡ Err cause → NextFails text cause
  next_fault text cause h = by (begun 44 (skip_blanks text)) (cut text)
    where
      by : Begun 44 (skip_blanks text) → Cut text → NextFails text cause
      by (inr g) c = absurd (cc (h, next_gone text g))
      by (inl p) c =
          let split : text ≡ (c.blanks ++ 44 ∷ []) ++ p.0 = c.whole ∙ ap (λ t. c.blanks ++ t) p.1 ∙ sym (append_assoc c.blanks (44 ∷ []) p.0) in
          subst (λ t. NextFails t cause) (sym split) (fault_behind c.blanks p.0 c.all cause (member_good.fault p.0 cause (as_next_err (member_at spec op p.0) cause (sym (next_here text p.0 p.1) ∙ h))))

  -- ---- the set

  abbrev members_at : Reader Range
  members_at = all_of Either (member_at spec op) (next_member op spec)

  -- what may follow the members
  abbrev Ends : List ℕ → List ℕ → Type 0
  Ends text rest = Apart decimals text rest × (next_member op spec rest ≡ Ok None)

  members_reads : (text : List ℕ) (x : Range) (rest : List ℕ) → Members op text x → Ends text rest → members_at (text ++ rest) ≡ Ok (x, rest)
  members_reads text x rest l e = reads Either (Led (Compared op)) Next (Apart decimals) (member_at spec op) (next_member op spec) rules l rest e.0 e.1

  members_read : (text : List ℕ) (x : Range) (rest : List ℕ) → members_at text ≡ Ok (x, rest) → Read (Members op) Ends text x rest
  members_read text x rest h =
      let a = read_all Either (Led (Compared op)) Next (Apart decimals) (member_at spec op) (next_member op spec) rules text x rest h in
      let r = a.read in
      record { front = r.front; whole = r.whole; is = r.is; apart = (r.apart, a.none) }

  members_fault : (text : List ℕ) (cause : Cause) → members_at text ≡ Err cause → Fault (range_kind spec) (Members op) (Members op) members_at members_at text cause
  members_fault text cause h = fault_all (range_kind spec) Either (Led (Compared op)) (Led (Compared op)) Next Next (Apart decimals) (member_at spec op) (member_at spec op) (next_member op spec) (next_member op spec) rules rules (λ t x l. l) (λ t x l. l) next_fault member_good.fault text cause h

  ends_instead : (text rest again : List ℕ) → Ends text rest → Instead decimals text rest again → Ends text (instead rest again)
  ends_instead text rest again e i = (apart_instead decimals i e.0, next_gone (instead rest again) (begins_instead decimals 44 refl i (no_next rest e.1)))

  closes : (text : List ℕ) (x : Range) (after rest : List ℕ) → Members op text x → Blanks after → Ends text (after ++ 125 ∷ rest)
  closes text x after rest l all = ((λ d. blanks_go_on decimals after (125 ∷ rest) all refl), next_gone (after ++ 125 ∷ rest) (ap (begins_with 44) (skip_over after (125 ∷ rest) all refl)))

  set_same : (text : List ℕ) → set_at op spec text ≡ closing (missing spec) 125 members_at text
  unfolding set_at compared_at
  set_same text = by (version_at false spec (skip_blanks text))
    where
      by : (r : Result (Version × List ℕ) Cause) → ◌>>=◌ {B = Range × List ℕ} r (λ v. chained Either (next_member op spec) (of_version op v.0, v.1) >>= closed_at (missing spec) 125)
          ≡ ((◌>>=◌ {B = Range × List ℕ} r (λ v. Ok (of_version op v.0, v.1))) >>= chained Either (next_member op spec)) >>= closed_at (missing spec) 125
      by (Ok p) = refl
      by (Err cause) = refl

  pub set_good : Good (range_kind spec) (Closed 125 (Members op)) (set_at op spec)
  set_good = good_as (range_kind spec) (Closed 125 (Members op)) (closing (missing spec) 125 members_at) (record {
    read = closed_read (range_kind spec) 125 refl refl (Members op) Ends members_at members_read;
    reads = λ text x rest l a. closed_reads (range_kind spec) 125 refl refl (Members op) Ends members_at members_reads closes l rest;
    fault = closed_fault (range_kind spec) 125 refl refl (Members op) Ends members_at members_read (Members op) Ends members_at (λ t x l. l) (λ t r e. e.0) ends_instead members_reads members_fault;
  }) (Closed 125 (Members op)) (λ t x l. l) (λ t x l. l) (set_at op spec) set_same
