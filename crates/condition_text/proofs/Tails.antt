-- Reading a range and the parenthesis that ends a test.
use Rattle.std.proofs.Common.{◌≡◌, inl, inr, ℕ, suc, Bool, true, false, ◌&&◌, ◌||◌, List, [], ◌∷◌, ◌++◌, codes, Option, Some, None, Ok, Err, refl, sym, ap, ◌∙◌, subst, append_assoc, append-nil}
use Rattle.std.specs.Prelude.{◌==◌}
use Rattle.std.specs.List.{list_all}
use Rattle.std.proofs.lemmas.Bool.{false≢true, true≢false, or_parts}
use Rattle.plan_types.specs.declared.refusal.Cause.{Cause}
use Rattle.plan_types.specs.declared.range.Spec.{Spec}
use Rattle.plan_types.specs.declared.range.Range.{Range}
use Rattle.plan_types.specs.declared.range.Range.TheVariants.{Any}
use Rattle.plan_types.specs.Bytes.{is_blank, Blanks, begins_with}
use Rattle.text_grammar.specs.Parts.{Led, led, one, more}
use Rattle.text_grammar.specs.Reading.{skip_blanks, byte_after}
use Rattle.text_grammar.proofs.TextKind.{starts}
use Rattle.text_grammar.proofs.FrontReaders.{Reader, head_of, errs, Apart, Read, Fault, Like, why_dead, fault_up_like}
use Rattle.text_grammar.proofs.LeadingBlanks.{starts_like, blanks_none, Begun, begun, byte_here, byte_gone, cut, skip_over, no_digits, blanks_push}
use Rattle.text_grammar.proofs.Closings.{Closed, closed, closing, closed_reads, closed_read, closed_fault}
use Rattle.text_grammar.proofs.ChainParts.{ok_parts}
use Rattle.version_range.specs.Read.{missing, range_in, inside}
use Rattle.version_range.specs.Grammar.{any, Factor, Term, Terms, Inside, empty, range, atom}
use Rattle.version_range.proofs.RangeKind.{decimals, range_kind}
use Rattle.version_range.proofs.RangeAtoms.{never_atom}
use Rattle.version_range.proofs.RangeFactors.{AfterRange, close_follows, after_instead, never_factor, range_rules, range_fault, wider_inside, wider_terms}
use Rattle.condition_text.specs.Grammar.{Versions, versions}
use Rattle.condition_text.specs.Reading.{tail_at}

abbrev pub ranges : Spec → ℕ → Reader Range
ranges spec n = closing (missing spec) 41 (range_in (inside n spec) spec)

module _ (spec : Spec) (n : ℕ) where
  at_close : (text rest : List ℕ) → skip_blanks text ≡ 41 ∷ rest → tail_at spec n text ≡ Ok (Any, rest)
  at_close text rest e = ap (λ (o : Option (List ℕ)). elim o [ Some left ↦ Ok (Any, left) | None ↦ ranges spec n text ]) (ap (byte_after 41) e ∙ byte_here 41 rest)

  pub at_ranges : (text : List ℕ) → begins_with 41 (skip_blanks text) ≡ false → tail_at spec n text ≡ ranges spec n text
  at_ranges text other = ap (λ (o : Option (List ℕ)). elim o [ Some left ↦ Ok (Any, left) | None ↦ ranges spec n text ]) (byte_gone 41 (skip_blanks text) other)

-- a blank, or the `)` that ends the test
abbrev ends : ℕ → Bool
ends b = is_blank b || b == 41

-- blanks, and then a byte that fails the test
pub record Starts (test : ℕ → Bool) (text : List ℕ) : Type 0 where
  pub blanks : List ℕ
  pub byte : ℕ
  pub behind : List ℕ
  pub whole : text ≡ blanks ++ byte ∷ behind
  pub all : Blanks blanks
  pub apart : test byte ≡ false

module _ (spec : Spec) (n : ℕ) (test : ℕ → Bool) (open' : test 40 ≡ false) (minus : test 45 ≡ false) (below : test 60 ≡ false) (equal : test 61 ≡ false) (above : test 62 ≡ false) (major : test 94 ≡ false) where
  led_starts : (text : List ℕ) (r : Range) → Led (Factor spec (Inside spec n)) text r → Starts test text
  led_starts text r (led blanks {text = part} are is) =
      let f = never_factor spec (Inside spec n) test open' (never_atom spec test minus below equal above major) part r is in
      record { blanks = blanks; byte = f.0; behind = f.1; whole = ap (λ t. blanks ++ t) f.2; all = are; apart = f.3 }

  longer : (text next : List ℕ) → Starts test text → Starts test (text ++ next)
  longer text next s = record { blanks = s.blanks; byte = s.byte; behind = s.behind ++ next; whole = ap (λ t. t ++ next) s.whole ∙ append_assoc s.blanks (s.byte ∷ s.behind) next; all = s.all; apart = s.apart }

  term_starts : (text : List ℕ) (r : Range) → Term spec (Inside spec n) text r → Starts test text
  term_starts text r (one f) = led_starts text r f
  term_starts text r (more {text = front} {next = next} {left = left} c k) = longer front next (term_starts front left c)

  pub terms_start : (text : List ℕ) (r : Range) → Terms spec (Inside spec n) text r → Starts test text
  terms_start text r (one f) = term_starts text r f
  terms_start text r (more {text = front} {next = next} {left = left} c k) = longer front next (terms_start front left c)

module _ (spec : Spec) (n : ℕ) where
  range_starts : (text : List ℕ) (r : Range) → Terms spec (Inside spec n) text r → Starts ends text
  range_starts = terms_start spec n ends refl refl refl refl refl refl

  not_close : (text rest : List ℕ) → Starts ends text → begins_with 41 (skip_blanks (text ++ rest)) ≡ false
  not_close text rest s =
      let p = or_parts (is_blank s.byte) (s.byte == 41) s.apart in
      ap (λ t. begins_with 41 (skip_blanks t)) (ap (λ t. t ++ rest) s.whole ∙ append_assoc s.blanks (s.byte ∷ s.behind) rest)
      ∙ ap (begins_with 41) (skip_over s.blanks (s.byte ∷ (s.behind ++ rest)) s.all p.0)
      ∙ p.1

  as_closed : (text after : List ℕ) (r : Range) → Terms spec (Inside spec n) text r → Blanks after → Closed 41 (Terms spec (Inside spec n)) ((text ++ after) ++ codes ")") r
  as_closed text after r c are = subst (λ t. Closed 41 (Terms spec (Inside spec n)) t r) (sym (append_assoc text after (codes ")"))) (closed text after c are)

  range_read_closed : {text : List ℕ} {r : Range} → Closed 41 (Terms spec (Inside spec n)) text r → (rest : List ℕ) → ranges spec n (text ++ rest) ≡ Ok (r, rest)
  range_read_closed = closed_reads (range_kind spec) 41 refl refl (Terms spec (Inside spec n)) AfterRange (range_in (inside n spec) spec) (range_rules spec n).reads (λ text x after rest l all. close_follows text after rest all)

  pub tail_reads : (text : List ℕ) (r : Range) (rest : List ℕ) → Versions spec n text r → tail_at spec n (text ++ rest) ≡ Ok (r, rest)
  tail_reads text r rest (versions front (empty blanks)) =
      at_close spec n ((front ++ codes ")") ++ rest) rest (ap skip_blanks (append_assoc front (codes ")") rest) ∙ skip_over front (41 ∷ rest) blanks refl)
  tail_reads text r rest (versions front (range part after c are)) =
      at_ranges spec n (((part ++ after) ++ codes ")") ++ rest)
      (ap (λ t. begins_with 41 (skip_blanks t)) (append_assoc (part ++ after) (codes ")") rest ∙ append_assoc part after (codes ")" ++ rest)) ∙ not_close part (after ++ (codes ")" ++ rest)) (range_starts part r c))
      ∙ range_read_closed (as_closed part after r c are) rest

  from_closed : {text : List ℕ} {r : Range} → Closed 41 (Terms spec (Inside spec n)) text r → Versions spec n text r
  from_closed {r = r} (closed text after c are) = subst (λ t. Versions spec n t r) (append_assoc text after (codes ")")) (versions (text ++ after) (range text after c are))

  pub tail_read : (text : List ℕ) (r : Range) (rest : List ℕ) → tail_at spec n text ≡ Ok (r, rest) → Read (Versions spec n) (Apart decimals) text r rest
  tail_read text r rest h = by (begun 41 (skip_blanks text))
    where
      by : Begun 41 (skip_blanks text) → Read (Versions spec n) (Apart decimals) text r rest
      by (inl p) =
          let c = cut text in
          let both = ok_parts Any r p.0 rest (sym (at_close spec n text p.0 p.1) ∙ h) in
          let value = both.0 in
          let left = both.1 in
          record {
            front = c.blanks ++ codes ")";
            whole = c.whole ∙ ap (λ t. c.blanks ++ t) (p.1 ∙ ap (λ t. 41 ∷ t) left) ∙ sym (append_assoc c.blanks (codes ")") rest);
            is = subst (Versions spec n (c.blanks ++ codes ")")) value (versions c.blanks (empty c.all));
            apart = closes c.blanks;
          }
        where
          closes : (blanks : List ℕ) → Apart decimals (blanks ++ codes ")") rest
          closes [] d = absurd (false≢true d)
          closes (x ∷ []) d = absurd (false≢true d)
          closes (x ∷ y ∷ blanks) d = closes (y ∷ blanks) d
      by (inr other) =
          let got = closed_read (range_kind spec) 41 refl refl (Terms spec (Inside spec n)) AfterRange (range_in (inside n spec) spec) (range_rules spec n).read text r rest (sym (at_ranges spec n text other) ∙ h) in
          record { front = got.front; whole = got.whole; is = from_closed got.is; apart = got.apart }

-- ---- a prefix that isn't blank decides

over : (b : ℕ) (others : List ℕ) → is_blank b ≡ true → skip_blanks (b ∷ others) ≡ skip_blanks others
over b others k = rw k refl

solid : (b : ℕ) (others : List ℕ) → is_blank b ≡ false → skip_blanks (b ∷ others) ≡ b ∷ others
solid b others k = rw k refl

held_step : (b : ℕ) (xs ys : List ℕ) → (is_blank b ≡ true → begins_with 41 (skip_blanks ys) ≡ false) → begins_with 41 (skip_blanks (b ∷ xs)) ≡ false → begins_with 41 (skip_blanks (b ∷ ys)) ≡ false
held_step b xs ys behind h = by (is_blank b) refl
  where
    by : (t : Bool) → is_blank b ≡ t → begins_with 41 (skip_blanks (b ∷ ys)) ≡ false
    by true k = ap (begins_with 41) (over b ys k) ∙ behind k
    by false k = ap (begins_with 41) (solid b ys k) ∙ sym (ap (begins_with 41) (solid b xs k)) ∙ h

rest_blank : (b : ℕ) (front : List ℕ) → is_blank b ≡ true → list_all is_blank (b ∷ front) ≡ false → list_all is_blank front ≡ false
rest_blank b front k q = ap (λ t. t && list_all is_blank front) (sym k) ∙ q

-- if the prefix isn't blank, the rest doesn't matter
held : (rest again front : List ℕ) → list_all is_blank front ≡ false → begins_with 41 (skip_blanks (front ++ rest)) ≡ false → begins_with 41 (skip_blanks (front ++ again)) ≡ false
held rest again [] q h = absurd (true≢false q)
held rest again (b ∷ front) q h =
    held_step b (front ++ rest) (front ++ again) (λ k. held rest again front (rest_blank b front k q) (ap (begins_with 41) (sym (over b (front ++ rest) k)) ∙ h)) h

-- ---- faults

module _ (spec : Spec) (n : ℕ) where
  abbrev RangesFault : List ℕ → Cause → Type 0
  RangesFault = Fault (range_kind spec) (Closed 41 (Terms spec (Inside spec n))) (Closed 41 (Terms spec (Inside spec (suc n)))) (ranges spec n) (ranges spec (suc n))

  ranges_fault : (text : List ℕ) (cause : Cause) → ranges spec n text ≡ Err cause → RangesFault text cause
  ranges_fault = closed_fault (range_kind spec) 41 refl refl (Terms spec (Inside spec n)) AfterRange (range_in (inside n spec) spec) (range_rules spec n).read
      (Terms spec (Inside spec (suc n))) AfterRange (range_in (inside (suc n) spec) spec) (λ t r c. wider_terms spec (Inside spec n) (Inside spec (suc n)) (wider_inside spec n) t r c)
      (λ t rest e. e.0.0) after_instead (range_rules spec (suc n)).reads (range_fault spec n)

  -- after blanks it isn't stuck at a blank
  any_range : (m : ℕ) (front : List ℕ) (b : ℕ) → Blanks front → is_blank b ≡ true → errs (ranges spec m (front ++ (b ∷ codes "-any)"))) ≡ false
  any_range m front b are blank =
      let blanks : Blanks (front ++ b ∷ []) = blanks_push front b are blank in
      let any-text = (front ++ b ∷ []) ++ codes "-any" in
      ap (λ t. errs (ranges spec m t)) (sym (append-nil ((any-text ++ []) ++ codes ")") ∙ ap (λ t. t ++ codes ")") (append-nil any-text) ∙ append_assoc (front ++ b ∷ []) (codes "-any") (codes ")") ∙ append_assoc front (b ∷ []) (codes "-any)")))
      ∙ ap errs (range_read_closed spec m (as_closed spec m ((front ++ b ∷ []) ++ codes "-any") [] Any (one (one (led (front ++ b ∷ []) blanks (atom any)))) refl) [])

  module _ (text : List ℕ) (cause : Cause) (other : begins_with 41 (skip_blanks text) ≡ false) (f : RangesFault text cause) where
    no_blank : Blanks f.front → (rest : List ℕ) → f.rest ≡ rest → starts is_blank rest ≡ false
    no_blank are [] e = refl
    no_blank are (b ∷ rest) e = at (is_blank b) refl
      where
        at : (t : Bool) → is_blank b ≡ t → t ≡ false
        at false q = refl
        at true q = absurd (why_dead (range_kind spec) (Closed 41 (Terms spec (Inside spec n))) (Closed 41 (Terms spec (Inside spec (suc n)))) (ranges spec n) (ranges spec (suc n)) f.front f.rest f.why
            (b ∷ codes "-any)") (ap head_of (sym e)) (any_range n f.front b are q) (any_range (suc n) f.front b are q))

    still : (again : List ℕ) → Like decimals again f.rest → begins_with 41 (skip_blanks (f.front ++ again)) ≡ false
    still again like = by (list_all is_blank f.front) refl
      where
        by : (t : Bool) → list_all is_blank f.front ≡ t → begins_with 41 (skip_blanks (f.front ++ again)) ≡ false
        by true q =
            let unblank = no_blank q f.rest refl in
            ap (begins_with 41) (skip_over f.front again q (starts_like decimals is_blank (blanks_none decimals) [] f.rest again like unblank))
            ∙ starts_like decimals (λ c. c == 41) (no_digits decimals 41 refl) [] f.rest again like (sym (ap (begins_with 41) (ap skip_blanks f.whole ∙ skip_over f.front f.rest q unblank)) ∙ other)
        by false q = held f.rest again f.front q (sym (ap (λ t. begins_with 41 (skip_blanks t)) f.whole) ∙ other)

  pub tail_fault : (text : List ℕ) (cause : Cause) → tail_at spec n text ≡ Err cause → Fault (range_kind spec) (Versions spec n) (Versions spec (suc n)) (tail_at spec n) (tail_at spec (suc n)) text cause
  tail_fault text cause h = by (begun 41 (skip_blanks text))
    where
      by : Begun 41 (skip_blanks text) → Fault (range_kind spec) (Versions spec n) (Versions spec (suc n)) (tail_at spec n) (tail_at spec (suc n)) text cause
      by (inl p) = absurd (cc (h, at_close spec n text p.0 p.1))
      by (inr other) =
          let f = ranges_fault text cause (sym (at_ranges spec n text other) ∙ h) in
          fault_up_like (range_kind spec) (Closed 41 (Terms spec (Inside spec n))) (Closed 41 (Terms spec (Inside spec (suc n)))) (ranges spec n) (ranges spec (suc n))
          (Versions spec n) (Versions spec (suc n)) (tail_at spec n) (tail_at spec (suc n)) []
          (λ t r c. ([], r, subst (λ u. Versions spec n u r) (sym (append-nil t)) (from_closed spec n c)))
          (λ t r c. ([], r, subst (λ u. Versions spec (suc n) u r) (sym (append-nil t)) (from_closed spec (suc n) c)))
          text cause f refl
          (λ again like e. ap errs (at_ranges spec n (f.front ++ again) (still text cause other f again like)) ∙ e)
          (λ again like e. ap errs (at_ranges spec (suc n) (f.front ++ again) (still text cause other f again like)) ∙ e)
