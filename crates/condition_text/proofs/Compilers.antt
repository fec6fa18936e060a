-- Reading a compiler and its versions in parentheses.
use Rattle.std.proofs.Common.{◌≡◌, ℕ, suc, Bool, true, false, List, [], ◌∷◌, ◌++◌, codes, Result, Ok, Err, refl, sym, ap, ◌∙◌, subst, append_assoc, append-nil, arith}
use Rattle.std.specs.List.{list_all}
use Rattle.std.specs.Str.{str_to_ascii_lowercase}
use Rattle.std.proofs.lemmas.Bool.{false≢true, and_parts, and_from, eqb-true}
use Rattle.std.proofs.lemmas.Bool.Decides.{nat_tests}
use Rattle.plan_types.specs.declared.refusal.Cause.{Cause}
use Rattle.plan_types.specs.declared.range.Spec.{Spec}
use Rattle.plan_types.specs.declared.range.Range.{Range}
use Rattle.plan_types.specs.declared.range.Range.TheVariants.{Any}
use Rattle.plan_types.specs.Bytes.{is_blank, Blanks}
use Rattle.plan_types.specs.Name.{is_letter_or_digit}
use Rattle.text_grammar.specs.Parts.{Led, led}
use Rattle.text_grammar.specs.Reading.{◌>>=◌}
use Rattle.text_grammar.proofs.TextKind.{starts}
use Rattle.text_grammar.proofs.FrontReaders.{Reader, errs, Apart, Read, Like, Fault, fault_up_like}
use Rattle.text_grammar.proofs.LeadingBlanks.{Never, never_starts, starts_like}
use Rattle.text_grammar.proofs.ChainParts.{ok_parts, errs_then}
use Rattle.text_grammar.proofs.LetterReaders.{Reads, Pair, Passing, passing, pair_due, pair_led}
use Rattle.version_range.specs.Grammar.{empty, range}
use Rattle.condition_text.specs.Grammar.{is_compiler_name, Versions, versions, WiderVersions, deeper, broken}
use Rattle.condition_text.specs.Reading.{name_at, compiler_at, cond_tail, argument}
use Rattle.condition_text.proofs.CondKind.{no_bytes, cond_kind, is_open, ends_none, apart}
use Rattle.condition_text.proofs.Tails.{terms_start}
use Rattle.condition_text.proofs.CondTails.{wide_tail, tail_pair}
use Rattle.condition_text.proofs.ConditionNames.{Run, run, run_reads, run_read, name_fault}

-- ---- the rest after a compiler's name begins with no name byte

blank_apart : (b : ℕ) → is_blank b ≡ true → is_letter_or_digit b ≡ false
blank_apart b h = grind (arith, nat_tests)

behind_blanks : (blanks : List ℕ) (c : ℕ) (others : List ℕ) → Blanks blanks → is_letter_or_digit c ≡ false → (b : ℕ) × (bs : List ℕ) × (blanks ++ c ∷ others ≡ b ∷ bs) × (is_letter_or_digit b ≡ false)
behind_blanks [] c others all h = (c, others, refl, h)
behind_blanks (x ∷ blanks) c others all h = (x, blanks ++ c ∷ others, refl, blank_apart x (and_parts (is_blank x) (list_all is_blank blanks) all).0)

versions_apart : (spec : Spec) (n : ℕ) → Never is_letter_or_digit (Versions spec n)
versions_apart spec n text r (versions part (empty blanks)) = behind_blanks part 41 [] blanks refl
versions_apart spec n text r (versions part (range front after c are)) =
    let s = terms_start spec n is_letter_or_digit refl refl refl refl refl refl front r c in
    let f = behind_blanks s.blanks s.byte ((s.behind ++ after) ++ codes ")") s.all s.apart in
    (f.0, f.1, ap (λ t. (t ++ after) ++ codes ")") s.whole ∙ ap (λ t. t ++ codes ")") (append_assoc s.blanks (s.byte ∷ s.behind) after) ∙ append_assoc s.blanks (s.byte ∷ (s.behind ++ after)) (codes ")") ∙ f.2, f.3)

wider_apart : (spec : Spec) (n : ℕ) → Never is_letter_or_digit (WiderVersions spec n)
wider_apart spec n text r (deeper v) = versions_apart spec (suc n) text r v
wider_apart spec n text r (broken [] old v) = (123, [], refl, refl)
wider_apart spec n text r (broken (b ∷ front) old v) =
    let f = versions_apart spec n ((b ∷ front ++ v.0) ++ codes ")") v.1 (versions (b ∷ front ++ v.0) v.2) in
    let same : b ≡ f.0 = cc f.2 in
    (b, front ++ codes "{", refl, ap is_letter_or_digit same ∙ f.3)

-- ---- the name and the range

pub data Named (Tail : List ℕ → Range → Type 0) : List ℕ → List ℕ × Range → Type 0 where
  named : (name : List ℕ) {text : List ℕ} {r : Range} → is_compiler_name name ≡ true → Tail text r → Named Tail (name ++ text) (str_to_ascii_lowercase name, r)

abbrev part : ℕ → Bool
part = is_letter_or_digit

as_run : (name : List ℕ) → is_compiler_name name ≡ true → Run part part name name
as_run [] h = absurd (false≢true h)
as_run (b ∷ bs) h = let p = and_parts (part b) (list_all part bs) h in run b bs (and_from (part b) (part b) p.0 p.0) p.1

of_run : (name x : List ℕ) → Run part part name x → (is_compiler_name name ≡ true) × (name ≡ x)
of_run name x (run b bs h all) = (and_from (part b) (list_all part bs) (and_parts (part b) (part b) h).0 all, refl)

module _ (T : List ℕ → Range → Type 0) (P : Reader Range) (never : Never part T) (t : Reads no_bytes T P) where
  after_name : (name rest : List ℕ) → name_at part part (name ++ rest) ≡ Ok (name, rest) → compiler_at P (name ++ rest) ≡ (P rest >>= λ q. Ok ((str_to_ascii_lowercase name, q.0), q.1))
  after_name name rest e = ap (λ o. ◌>>=◌ {B = (List ℕ × Range) × List ℕ} o (λ p. P p.1 >>= λ q. Ok ((str_to_ascii_lowercase p.0, q.0), q.1))) e

  reads_named : Reads no_bytes (Named T) (compiler_at P)
  reads_named = record { read = read; reads = reads }
    where
      reads : (text : List ℕ) (x : List ℕ × Range) (rest : List ℕ) → Named T text x → Apart no_bytes text rest → compiler_at P (text ++ rest) ≡ Ok (x, rest)
      reads text x rest (named name {text = tail} {r = r} h l) a =
          ap (compiler_at P) (append_assoc name tail rest)
          ∙ after_name name (tail ++ rest) (run_reads part part name name (tail ++ rest) (as_run name h) (never_starts part T never tail r l rest))
          ∙ ap (λ o. ◌>>=◌ {B = (List ℕ × Range) × List ℕ} o (λ q. Ok ((str_to_ascii_lowercase name, q.0), q.1))) (t.reads tail r rest l (apart tail rest))

      read : (text : List ℕ) (x : List ℕ × Range) (rest : List ℕ) → compiler_at P text ≡ Ok (x, rest) → Read (Named T) (Apart no_bytes) text x rest
      read text x rest h = by (name_at part part text) refl
        where
          at : (name left : List ℕ) → name_at part part text ≡ Ok (name, left) → (o : Result (Range × List ℕ) Cause) → P left ≡ o → Read (Named T) (Apart no_bytes) text x rest
          at name left q (Err cause) k = absurd (cc (h, ap (λ o. ◌>>=◌ {B = (List ℕ × Range) × List ℕ} o (λ p. P p.1 >>= λ q. Ok ((str_to_ascii_lowercase p.0, q.0), q.1))) q, ap (λ o. ◌>>=◌ {B = (List ℕ × Range) × List ℕ} o (λ q. Ok ((str_to_ascii_lowercase name, q.0), q.1))) k))
          at name left q (Ok p) k =
              let got = run_read part part text name left q in
              let r = of_run got.front name got.is in
              let tail = t.read left p.0 p.1 k in
              let e = ok_parts (str_to_ascii_lowercase name, p.0) x p.1 rest (sym (ap (λ o. ◌>>=◌ {B = (List ℕ × Range) × List ℕ} o (λ p. P p.1 >>= λ q. Ok ((str_to_ascii_lowercase p.0, q.0), q.1))) q ∙ ap (λ o. ◌>>=◌ {B = (List ℕ × Range) × List ℕ} o (λ q. Ok ((str_to_ascii_lowercase name, q.0), q.1))) k) ∙ h) in
              record {
                front = got.front ++ tail.front;
                whole = got.whole ∙ ap (λ u. got.front ++ u) tail.whole ∙ sym (append_assoc got.front tail.front p.1) ∙ ap (λ u. (got.front ++ tail.front) ++ u) e.1;
                is = subst (Named T (got.front ++ tail.front)) (ap (λ u. (str_to_ascii_lowercase u, p.0)) r.1 ∙ e.0) (named got.front r.0 tail.is);
                apart = apart (got.front ++ tail.front) rest;
              }

          by : (o : Result (List ℕ × List ℕ) Cause) → name_at part part text ≡ o → Read (Named T) (Apart no_bytes) text x rest
          by (Err cause) q = absurd (cc (h, ap (λ o. ◌>>=◌ {B = (List ℕ × Range) × List ℕ} o (λ p. P p.1 >>= λ q. Ok ((str_to_ascii_lowercase p.0, q.0), q.1))) q))
          by (Ok p) q = at p.0 p.1 q (P p.1) refl

module _ (spec : Spec) (L L' : List ℕ → Range → Type 0) (P P' : Reader Range) (tails : Pair (cond_kind spec) L L' P P') (never : Never part L) (never' : Never part L') (sample_tail : L (codes ")") Any) where
  abbrev NamedFault : List ℕ → Cause → Type 0
  NamedFault = Fault (cond_kind spec) (Named L) (Named L') (compiler_at P) (compiler_at P')

  fails_name : (S : Reader Range) (text : List ℕ) → errs (name_at part part text) ≡ true → errs (compiler_at S text) ≡ true
  fails_name S text h = errs_then (name_at part part text) (λ p. S p.1 >>= λ q. Ok ((str_to_ascii_lowercase p.0, q.0), q.1)) h

  -- no name
  no_name : (text : List ℕ) (cause : Cause) → name_at part part text ≡ Err cause → NamedFault text cause
  no_name text cause h =
      fault_up_like (cond_kind spec) (Run part part) (Run part part) (name_at part part) (name_at part part) (Named L) (Named L') (compiler_at P) (compiler_at P') []
      (λ t x k. (codes ")", (str_to_ascii_lowercase t, Any), named t (of_run t x k).0 sample_tail))
      (λ t x k. (codes ")", (str_to_ascii_lowercase t, Any), named t (of_run t x k).0 (tails.wider (codes ")") Any sample_tail)))
      text cause (name_fault part part spec 97 refl text cause h) refl
      (λ again like e. fails_name P _ e) (λ again like e. fails_name P' _ e)

  -- the versions fail
  no_tail : (text name left : List ℕ) (cause : Cause) → name_at part part text ≡ Ok (name, left) → P left ≡ Err cause → NamedFault text cause
  no_tail text name left cause q h =
      let got = run_read part part text name left q in
      let r = of_run got.front name got.is in
      let f = tails.fault left cause h in
      let apart-front : starts part (f.front ++ f.rest) ≡ false = sym (ap (starts part) f.whole) ∙ got.apart in
      let still : (again : List ℕ) → Like no_bytes again f.rest → starts part (f.front ++ again) ≡ false = λ again like. starts_like no_bytes part (λ b d. absurd (false≢true d)) f.front f.rest again like apart-front in
      subst (λ t. NamedFault t cause) (sym got.whole)
      (fault_up_like (cond_kind spec) L L' P P' (Named L) (Named L') (compiler_at P) (compiler_at P') got.front
      (λ t x k. ([], (str_to_ascii_lowercase got.front, x), named got.front r.0 (subst (λ u. L u x) (sym (append-nil t)) k)))
      (λ t x k. ([], (str_to_ascii_lowercase got.front, x), named got.front r.0 (subst (λ u. L' u x) (sym (append-nil t)) k)))
      left cause f (ends_none (got.front ++ f.front) ∙ sym (ends_none f.front))
      (λ again like e. passes P (λ b k. k) got.front (f.front ++ again) r.0 (still again like) e)
      (λ again like e. passes P' (λ b k. k) got.front (f.front ++ again) r.0 (still again like) e))
    where
      passes : (S : Reader Range) → ((b : Bool) → b ≡ true → b ≡ true) → (name rest : List ℕ) → is_compiler_name name ≡ true → starts part rest ≡ false → errs (S rest) ≡ true → errs (compiler_at S (name ++ rest)) ≡ true
      passes S id name rest is apart e =
          ap (λ o. errs (◌>>=◌ {B = (List ℕ × Range) × List ℕ} o (λ p. S p.1 >>= λ q. Ok ((str_to_ascii_lowercase p.0, q.0), q.1)))) (run_reads part part name name rest (as_run name is) apart)
          ∙ errs_then (S rest) (λ q. Ok ((str_to_ascii_lowercase name, q.0), q.1)) e

  named_fault : (text : List ℕ) (cause : Cause) → compiler_at P text ≡ Err cause → NamedFault text cause
  named_fault text cause h = by (name_at part part text) refl
    where
      at : (p : List ℕ × List ℕ) → name_at part part text ≡ Ok p → (o : Result (Range × List ℕ) Cause) → P p.1 ≡ o → NamedFault text cause
      at p q (Ok x) k = absurd (cc (h, ap (λ o. ◌>>=◌ {B = (List ℕ × Range) × List ℕ} o (λ p. P p.1 >>= λ q. Ok ((str_to_ascii_lowercase p.0, q.0), q.1))) q, ap (λ o. ◌>>=◌ {B = (List ℕ × Range) × List ℕ} o (λ q. Ok ((str_to_ascii_lowercase p.0, q.0), q.1))) k))
      at p q (Err why) k =
          let is : why ≡ cause = cc (h, ap (λ o. ◌>>=◌ {B = (List ℕ × Range) × List ℕ} o (λ p. P p.1 >>= λ q. Ok ((str_to_ascii_lowercase p.0, q.0), q.1))) q, ap (λ o. ◌>>=◌ {B = (List ℕ × Range) × List ℕ} o (λ q. Ok ((str_to_ascii_lowercase p.0, q.0), q.1))) k) in
          no_tail text p.0 p.1 cause q (k ∙ ap Err is)

      by : (o : Result (List ℕ × List ℕ) Cause) → name_at part part text ≡ o → NamedFault text cause
      by (Err why) q =
          let is : why ≡ cause = cc (h, ap (λ o. ◌>>=◌ {B = (List ℕ × Range) × List ℕ} o (λ p. P p.1 >>= λ q. Ok ((str_to_ascii_lowercase p.0, q.0), q.1))) q) in
          no_name text cause (q ∙ ap Err is)
      by (Ok p) q = at p q (P p.1) refl

  wider_named : (text : List ℕ) (x : List ℕ × Range) → Named L text x → Named L' text x
  wider_named text x (named name {text = t} {r = r} h l) = named name h (tails.wider t r l)

  named_pair : Pair (cond_kind spec) (Named L) (Named L') (compiler_at P) (compiler_at P')
  named_pair = record {
    narrow = reads_named L P never tails.narrow;
    wide = reads_named L' P' never' tails.wide;
    wider = wider_named;
    fault = named_fault;
  }

  -- ---- in parentheses

  never_blank : (T : List ℕ → Range → Type 0) → Never is_blank (Named T)
  never_blank T text x (named [] h l) = absurd (false≢true h)
  never_blank T text x (named (b ∷ bs) {text = t} h l) = (b, bs ++ t, refl, solid b (and_parts (part b) (list_all part bs) h).0)
    where
      solid : (b : ℕ) → part b ≡ true → is_blank b ≡ false
      solid b h = grind (arith, nat_tests)

  never_open : {A : Type 0} (K : List ℕ → A → Type 0) → Never is_blank (Passing is_open K)
  never_open K text x (passing b {text = t} h l) = (b, t, refl, ap is_blank (eqb-true b 40 h))

  named_in_parentheses : Pair (cond_kind spec) (Led (Passing is_open (Led (Named L)))) (Led (Passing is_open (Led (Named L')))) (argument (compiler_at P)) (argument (compiler_at P'))
  named_in_parentheses =
      let inner = pair_led (cond_kind spec) (Named L) (Named L') (compiler_at P) (compiler_at P') named_pair (never_blank L) (never_blank L') in
      let opens = pair_due (cond_kind spec) is_open (λ b h. refl) (Led (Named L)) (Led (Named L')) _ _ inner 40 refl
      ([] ++ (97 ∷ [] ++ codes ")")) (codes "a", Any) (led [] refl (named (97 ∷ []) refl sample_tail)) in
      pair_led (cond_kind spec) (Passing is_open (Led (Named L))) (Passing is_open (Led (Named L'))) _ _ opens (never_open (Led (Named L))) (never_open (Led (Named L')))

pub impl_pair : (spec : Spec) (n : ℕ) → Pair (cond_kind spec) (Led (Passing is_open (Led (Named (Versions spec n))))) (Led (Passing is_open (Led (Named (WiderVersions spec n))))) (argument (compiler_at (cond_tail spec n))) (argument (compiler_at (wide_tail spec n)))
impl_pair spec n = named_in_parentheses spec (Versions spec n) (WiderVersions spec n) (cond_tail spec n) (wide_tail spec n) (tail_pair spec n) (versions_apart spec n) (wider_apart spec n) (versions [] (empty refl))
