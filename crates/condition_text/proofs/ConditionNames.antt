-- Shared: reading names in parentheses.
use Rattle.std.proofs.Common.{◌≡◌, inl, inr, ℕ, suc, ◌+◌, ◌<◌, Bool, true, false, ◌&&◌, List, [], ◌∷◌, ◌++◌, Result, Ok, Err, refl, sym, ap, ◌∙◌, subst, length, take, drop, arith, length-append}
use Rattle.std.specs.List.{list_all, prefix_len}
use Rattle.std.specs.Str.{IsAscii}
use Rattle.std.proofs.lemmas.Str.Ascii.{IsAscii-nil, IsAscii-cons}
use Rattle.std.proofs.lemmas.Bool.Decides.{nat_tests}
use Rattle.std.proofs.lemmas.Bool.{false≢true, and_parts, and_from, eqb-true}
use Rattle.plan_types.specs.declared.refusal.Cause.{Cause}
use Rattle.plan_types.specs.declared.refusal.Cause.TheVariants.{BadCond}
use Rattle.plan_types.specs.declared.range.Spec.{Spec}
use Rattle.plan_types.specs.Bytes.{is_blank, Blanks}
use Rattle.text_grammar.specs.Parts.{Led, led}
use Rattle.std.specs.Result.{IfOk}
use Rattle.plan_types.specs.declared.refusal.TextFault.{TextFault}
use Rattle.text_grammar.specs.Reading.{Gives, skip_blanks}
use Rattle.text_grammar.proofs.TextKind.{miss, starts}
use Rattle.text_grammar.proofs.FrontReaders.{Reader, head_of, errs, Read, Fault, no_digit}
use Rattle.text_grammar.proofs.LeadingBlanks.{Never, starts_same, cut}
use Rattle.text_grammar.proofs.Closings.{Instead, instead, Closed, closed, closing, closed_reads, closed_read, closed_fault}
use Rattle.text_grammar.proofs.LetterReaders.{Reads, Pair, Passing, passing, pair_due, pair_led}
use Rattle.text_grammar.proofs.MarkReaders.{led_at}
use Rattle.condition_text.specs.declared.name.NameForm.{NameForm}
use Rattle.condition_text.specs.declared.name.NameForm.TheVariants.{Flag, Part, Compiler}
use Rattle.condition_text.specs.Forms.{first_of, part_of}
use Rattle.condition_text.specs.Reading.{split, name_at, named_at}
use Rattle.condition_text.proofs.CondKind.{no_bytes, cond_kind, is_open, apart, no_digit_stands}

-- ---- the longest run

pub split_front : (test : ℕ → Bool) (front rest : List ℕ) → list_all test front ≡ true → starts test rest ≡ false → split test (front ++ rest) ≡ (front, rest)
split_front test [] [] h k = refl
split_front test [] (b ∷ rest) h k = rw k refl
split_front test (b ∷ front) rest h k =
    let p = and_parts (test b) (list_all test front) h in
    let q = split_front test front rest p.1 k in
    rw p.0 (ap (λ r. (b ∷ r.0, r.1)) q)

pub record Split (test : ℕ → Bool) (text : List ℕ) : Type 0 where
  pub whole : text ≡ (split test text).0 ++ (split test text).1
  pub all : list_all test (split test text).0 ≡ true
  pub stops : starts test (split test text).1 ≡ false

pub split_is : (test : ℕ → Bool) (text : List ℕ) → Split test text
split_is test [] = record { whole = refl; all = refl; stops = refl }
split_is test (b ∷ bs) = by (test b) refl (split_is test bs)
  where
    by : (t : Bool) → test b ≡ t → Split test bs → Split test (b ∷ bs)
    by true q s =
        let e : split test (b ∷ bs) ≡ (b ∷ (split test bs).0, (split test bs).1) = rw q refl in
        record {
          whole = ap (λ t. b ∷ t) s.whole ∙ sym (ap (λ r. r.0 ++ r.1) e);
          all = ap (λ r. list_all test r.0) e ∙ and_from (test b) (list_all test (split test bs).0) q s.all;
          stops = ap (λ r. starts test r.1) e ∙ s.stops;
        }
    by false q s =
        let e : split test (b ∷ bs) ≡ ([], b ∷ bs) = rw q refl in
        record { whole = sym (ap (λ r. r.0 ++ r.1) e); all = ap (λ r. list_all test r.0) e; stops = ap (λ r. starts test r.1) e ∙ q }

-- a first byte, and bytes that pass
pub data Run (first part : ℕ → Bool) : List ℕ → List ℕ → Type 0 where
  run : (b : ℕ) (bs : List ℕ) → (first b && part b) ≡ true → list_all part bs ≡ true → Run first part (b ∷ bs) (b ∷ bs)

module _ (first part : ℕ → Bool) where
  abbrev pub Ends : List ℕ → List ℕ → Type 0
  Ends front rest = starts part rest ≡ false

  abbrev begins : ℕ → Bool
  begins b = first b && part b

  at_name : (b : ℕ) (bs : List ℕ) → begins b ≡ true → name_at first part (b ∷ bs) ≡ Ok (split part (b ∷ bs))
  unfolding name_at
  at_name b bs h = rw h refl

  at_other : (text : List ℕ) → starts begins text ≡ false → name_at first part text ≡ Err BadCond
  unfolding name_at
  at_other [] h = refl
  at_other (b ∷ bs) h = rw h refl

  pub run_reads : (text x rest : List ℕ) → Run first part text x → Ends text rest → name_at first part (text ++ rest) ≡ Ok (x, rest)
  run_reads text x rest (run b bs h all) e =
      at_name b (bs ++ rest) h ∙ ap Ok (split_front part (b ∷ bs) rest (and_from (part b) (list_all part bs) (and_parts (first b) (part b) h).1 all) e)

  pub run_read : (text x rest : List ℕ) → name_at first part text ≡ Ok (x, rest) → Read (Run first part) Ends text x rest
  run_read [] x rest h = absurd (cc (h, at_other [] refl))
  run_read (b ∷ bs) x rest h = by (begins b) refl
    where
      by : (t : Bool) → begins b ≡ t → Read (Run first part) Ends (b ∷ bs) x rest
      by false q = absurd (cc (h, at_other (b ∷ bs) q))
      by true q =
          let s = split_is part bs in
          let p = and_parts (first b) (part b) q in
          let front = (split part bs).0 in
          let left = (split part bs).1 in
          let e : (let o : Result (List ℕ × List ℕ) Cause = Ok (b ∷ front, left) in let o' : Result (List ℕ × List ℕ) Cause = Ok (x, rest) in o ≡ o') =
          sym (at_name b bs q ∙ ap Ok (ap (split part) (ap (λ t. b ∷ t) s.whole) ∙ split_front part (b ∷ front) left (and_from (part b) (list_all part front) p.1 s.all) s.stops)) ∙ h in
          let r = parts (b ∷ front) x left rest e in
          record {
            front = b ∷ front;
            whole = ap (λ t. b ∷ t) s.whole ∙ ap (λ t. (b ∷ front) ++ t) r.1;
            is = subst (Run first part (b ∷ front)) r.0 (run b front q s.all);
            apart = subst (λ t. starts part t ≡ false) r.1 s.stops;
          }
        where
          parts : (a c : List ℕ) (d e : List ℕ) → (let o : Result (List ℕ × List ℕ) Cause = Ok (a, d) in let o' : Result (List ℕ × List ℕ) Cause = Ok (c, e) in o ≡ o') → (a ≡ c) × (d ≡ e)
          parts a c d e h =
              let p : List ℕ × List ℕ = (a, d) in
              let q : List ℕ × List ℕ = (c, e) in
              let pair : p ≡ q = cc h in
              (ap (λ r. r.0) pair, ap (λ r. r.1) pair)

  module _ (spec : Spec) (sample : ℕ) (sampled : begins sample ≡ true) where
    pub name_fault : (text : List ℕ) (cause : Cause) → name_at first part text ≡ Err cause → Fault (cond_kind spec) (Run first part) (Run first part) (name_at first part) (name_at first part) text cause
    name_fault text cause h = by (starts begins text) refl
      where
        none : (text : List ℕ) → starts begins text ≡ true → name_at first part text ≡ Err cause → ⊥
        none [] q k = false≢true q
        none (b ∷ bs) q k = cc (k, at_name b bs q)

        by : (t : Bool) → starts begins text ≡ t → Fault (cond_kind spec) (Run first part) (Run first part) (name_at first part) (name_at first part) text cause
        by true q = absurd (none text q h)
        by false q =
            let is : BadCond ≡ cause = cc (h, at_other text q) in
            subst (Fault (cond_kind spec) (Run first part) (Run first part) (name_at first part) (name_at first part) text) is
            (record {
              front = [];
              rest = text;
              whole = refl;
              more = sample ∷ [];
              value = sample ∷ [];
              goes_on = run sample [] sampled refl;
              why = no_digit (λ n. false≢true n) refl (no_digit_stands (name_at first part) []) (λ again head. ap errs (at_other again (starts_same begins text again head ∙ q)));
            })

  -- ---- in parentheses

  module _ (spec : Spec) (sample : ℕ) (sampled : begins sample ≡ true) (close : part 41 ≡ false) (blank : (b : ℕ) → is_blank b ≡ true → part b ≡ false) where
    abbrev closed-name : Reader (List ℕ)
    closed-name = closing (miss (cond_kind spec)) 41 (name_at first part)

    ends_blanks : (blanks rest : List ℕ) → Blanks blanks → starts part rest ≡ false → starts part (blanks ++ rest) ≡ false
    ends_blanks [] rest all h = h
    ends_blanks (b ∷ blanks) rest all h = blank b (and_parts (is_blank b) (list_all is_blank blanks) all).0

    next : (text behind again : List ℕ) → Ends text behind → Instead no_bytes text behind again → Ends text (instead behind again)
    next text behind again e i = by (cut behind).blanks (cut behind).all (cut behind).whole
      where
        head : head_of again ≡ head_of (skip_blanks behind)
        head = elim i.begins [ inl same ↦ same | inr p ↦ absurd (none again p.0) ]
          where
            none : (again : List ℕ) → starts no_bytes.digit again ≡ true → ⊥
            none [] h = false≢true h
            none (b ∷ again) h = false≢true h

        by : (blanks : List ℕ) → Blanks blanks → behind ≡ blanks ++ skip_blanks behind → starts part (blanks ++ again) ≡ false
        by [] all whole = starts_same part (skip_blanks behind) again head ∙ ap (starts part) (sym whole) ∙ e
        by (b ∷ blanks) all whole = blank b (and_parts (is_blank b) (list_all is_blank blanks) all).0

    name_pair : Pair (cond_kind spec) (Closed 41 (Run first part)) (Closed 41 (Run first part)) closed-name closed-name
    name_pair = record { narrow = reads_closed; wide = reads_closed; wider = λ text x l. l; fault = fault }
      where
        reads_closed : Reads no_bytes (Closed 41 (Run first part)) closed-name
        reads_closed = record {
          read = closed_read (cond_kind spec) 41 refl refl (Run first part) Ends (name_at first part) run_read;
          reads = λ text x rest l a. closed_reads (cond_kind spec) 41 refl refl (Run first part) Ends (name_at first part) run_reads (λ t y after more k all. ends_blanks after (41 ∷ more) all close) l rest;
        }

        fault : (text : List ℕ) (cause : Cause) → closed-name text ≡ Err cause → Fault (cond_kind spec) (Closed 41 (Run first part)) (Closed 41 (Run first part)) closed-name closed-name text cause
        fault = closed_fault (cond_kind spec) 41 refl refl (Run first part) Ends (name_at first part) run_read (Run first part) Ends (name_at first part) (λ t x l. l) (λ t rest e. apart t rest) next run_reads (name_fault spec sample sampled)

    never_blank : Never is_blank (Closed 41 (Run first part))
    never_blank text x (closed t after (run b bs h all) are) = (b, bs ++ (after ++ 41 ∷ []), refl, solid b (and_parts (first b) (part b) h).1)
      where
        solid : (b : ℕ) → part b ≡ true → is_blank b ≡ false
        solid b h = by (is_blank b) refl
          where
            by : (t : Bool) → is_blank b ≡ t → t ≡ false
            by false q = refl
            by true q = absurd (false≢true (sym (blank b q) ∙ h))

    never_open : {A : Type 0} (K : List ℕ → A → Type 0) → Never is_blank (Passing is_open K)
    never_open K text x (passing b {text = t} h l) = (b, t, refl, ap is_blank (by b h) ∙ refl)
      where
        by : (b : ℕ) → is_open b ≡ true → b ≡ 40
        by b h = eqb-true b 40 h

    pub argument_pair : Pair (cond_kind spec) (Led (Passing is_open (Led (Closed 41 (Run first part))))) (Led (Passing is_open (Led (Closed 41 (Run first part))))) (named_at first part) (named_at first part)
    argument_pair =
        let inner = pair_led (cond_kind spec) (Closed 41 (Run first part)) (Closed 41 (Run first part)) closed-name closed-name name_pair never_blank never_blank in
        let opens = pair_due (cond_kind spec) is_open (λ b h. refl) (Led (Closed 41 (Run first part))) (Led (Closed 41 (Run first part))) (led_at closed-name) (led_at closed-name) inner 40 refl
        ([] ++ ((sample ∷ []) ++ ([] ++ 41 ∷ []))) (sample ∷ []) (led [] refl (closed (sample ∷ []) [] (run sample [] sampled refl) refl)) in
        pair_led (cond_kind spec) (Passing is_open (Led (Closed 41 (Run first part)))) (Passing is_open (Led (Closed 41 (Run first part)))) _ _ opens (never_open (Led (Closed 41 (Run first part)))) (never_open (Led (Closed 41 (Run first part))))

-- ---- the extent of a name

module _ (first part : ℕ → Bool) where
  pub run_shorter : (text x rest : List ℕ) → name_at first part text ≡ Ok (x, rest) → length rest < length text
  run_shorter text x rest h = let got = run_read first part text x rest h in by got.is got.whole
    where
      by : {front y : List ℕ} → Run first part front y → text ≡ front ++ rest → length rest < length text
      by (run b bs p q) e = subst (λ t. length rest < length t) (sym e) (omega (arith, length-append bs rest))

  pub run_all : (text x rest : List ℕ) → name_at first part text ≡ Ok (x, rest) → list_all part x ≡ true
  run_all text x rest h = let got = run_read first part text x rest h in by got.is
    where
      by : {front y : List ℕ} → Run first part front y → list_all part y ≡ true
      by (run b bs p q) = and_from (part b) (list_all part bs) (and_parts (first b) (part b) p).1 q

pub split_prefix : (test : ℕ → Bool) (text : List ℕ) → split test text ≡ (take (prefix_len test text) text, drop (prefix_len test text) text)
split_prefix test [] = refl
split_prefix test (b ∷ bs) = by (test b) refl (split_prefix test bs)
  where
    by : (t : Bool) → test b ≡ t → split test bs ≡ (take (prefix_len test bs) bs, drop (prefix_len test bs) bs) → split test (b ∷ bs) ≡ (take (prefix_len test (b ∷ bs)) (b ∷ bs), drop (prefix_len test (b ∷ bs)) (b ∷ bs))
    by true q e =
        let n : prefix_len test (b ∷ bs) ≡ suc (prefix_len test bs) = more q in
        let front : split test (b ∷ bs) ≡ (b ∷ (split test bs).0, (split test bs).1) = rw q refl in
        front ∙ ap (λ r. (b ∷ r.0, r.1)) e ∙ sym (ap (λ m. (take m (b ∷ bs), drop m (b ∷ bs))) n)
      where
        add : (m : ℕ) → 1 + m ≡ suc m
        add m = omega arith

        more : test b ≡ true → prefix_len test (b ∷ bs) ≡ suc (prefix_len test bs)
        more q = rw q (add (prefix_len test bs))
    by false q e = rw q refl

pub ascii_all : (test : ℕ → Bool) → ((b : ℕ) → test b ≡ true → b < 128) → (bs : List ℕ) → list_all test bs ≡ true → IsAscii bs
ascii_all test small [] h = IsAscii-nil
ascii_all test small (b ∷ bs) h = let p = and_parts (test b) (list_all test bs) h in IsAscii-cons b bs (small b p.0) (ascii_all test small bs p.1)

part_small : (form : NameForm) (b : ℕ) → part_of form b ≡ true → b < 128
part_small Flag b h = grind (arith, nat_tests)
part_small Part b h = grind (arith, nat_tests)
part_small Compiler b h = grind (arith, nat_tests)

pub name_ascii : (form : NameForm) (text x rest : List ℕ) → name_at (first_of form) (part_of form) text ≡ Ok (x, rest) → IsAscii x
name_ascii form text x rest h = ascii_all (part_of form) (part_small form) x (run_all (first_of form) (part_of form) text x rest h)

module _ {A : Type 0} (view : A → List ℕ × List ℕ) (form : NameForm) (text : List ℕ) where
  pub name_within : (r : Result A TextFault) → Gives view r (name_at (first_of form) (part_of form) text) → IfOk r (λ p. length (view p).1 < length text)
  name_within (Ok p) h = run_shorter (first_of form) (part_of form) text (view p).0 (view p).1 h
  name_within (Err fault) h = tt

  pub name_is_ascii : (r : Result A TextFault) → Gives view r (name_at (first_of form) (part_of form) text) → IfOk r (λ p. IsAscii (view p).0)
  name_is_ascii (Ok p) h = name_ascii form text (view p).0 (view p).1 h
  name_is_ascii (Err fault) h = tt
