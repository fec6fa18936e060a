-- Reading the range of a test, in the grammar of conditions and in the wider one, where a `{` may end it.
use Rattle.std.proofs.Common.{◌≡◌, ◌≢◌, ℕ, suc, Bool, true, false, ◌&&◌, List, [], ◌∷◌, ◌++◌, codes, Some, None, Result, Ok, Err, refl, sym, ap, ◌∙◌, subst, append_assoc, append-nil}
use Rattle.std.specs.Prelude.{◌==◌, if◌then◌else◌}
use Rattle.std.specs.List.{list_all}
use Rattle.std.proofs.lemmas.Bool.{false≢true, and_parts, and_from, eqb-true}
use Rattle.plan_types.specs.declared.refusal.Cause.{Cause}
use Rattle.plan_types.specs.declared.refusal.Cause.TheVariants.{NeedsVersion, TooDeep, BadCond}
use Rattle.plan_types.specs.declared.range.Spec.{Spec}
use Rattle.plan_types.specs.declared.range.Range.{Range}
use Rattle.plan_types.specs.declared.range.Range.TheVariants.{Any}
use Rattle.plan_types.specs.Bytes.{begins_with}
use Rattle.text_grammar.proofs.TextKind.{IsNewer}
use Rattle.text_grammar.proofs.FrontReaders.{Reader, head_of, errs, Apart, Read, Dead, Why, new_form, digit_due, digit_more, wider, behind_digit, no_digit, Fault, why_dead}
use Rattle.text_grammar.proofs.ChainParts.{ok_parts}
use Rattle.text_grammar.proofs.ExactReadings.{Order, shorter, same, longer, order}
use Rattle.text_grammar.proofs.LetterReaders.{Reads, Pair}
use Rattle.plan_types.specs.Format.{is_old}
use Rattle.version_range.specs.Grammar.{Stands, Viable}
use Rattle.version_range.proofs.RangeKind.{decimals, range_kind}
use Rattle.version_range.proofs.NoBraces.{is_plain, Plain, plain_append, plain_parts, stands_plain}
use Rattle.version_range.proofs.WholeRanges.{wider_stands}
use Rattle.condition_text.specs.Grammar.{Versions, versions, WiderVersions, deeper, broken}
use Rattle.condition_text.specs.Reading.{cond_cause, with_cond_causes, tail_at, cond_tail}
use Rattle.condition_text.proofs.CondKind.{no_bytes, cond_kind, ends_none, apart, no_digit_stands}
use Rattle.condition_text.proofs.Tails.{tail_reads, tail_read, tail_fault}

-- ---- readers

abbrev breaks : {A : Type 0} → Result A Cause → Bool
breaks (Ok x) = false
breaks (Err NeedsVersion) = true
breaks (Err cause) = false

abbrev behind_brace : List ℕ → List ℕ
behind_brace [] = []
behind_brace (b ∷ bs) = if b == 123 then bs else behind_brace bs

abbrev or_broken : Result (Range × List ℕ) Cause → Bool → List ℕ → Result (Range × List ℕ) Cause
or_broken (Ok p) b text = Ok p
or_broken (Err cause) true text = Ok (Any, behind_brace text)
or_broken (Err cause) false text = Err BadCond

abbrev pub wide_tail : Spec → ℕ → Reader Range
wide_tail spec n text = or_broken (tail_at spec (suc n) text) (breaks (tail_at spec n text)) text

-- ---- lists

brace_behind : (front others : List ℕ) → Plain front → behind_brace (front ++ 123 ∷ others) ≡ others
brace_behind [] others h = refl
brace_behind (b ∷ front) others h =
    let p = and_parts (is_plain b) (list_all is_plain front) h in
    by (b == 123) refl p.0 (brace_behind front others p.1)
  where
    by : (t : Bool) → (b == 123) ≡ t → is_plain b ≡ true → behind_brace (front ++ 123 ∷ others) ≡ others → behind_brace (b ∷ (front ++ 123 ∷ others)) ≡ others
    by true q k rest = absurd (false≢true (sym (plain_not q) ∙ k))
      where
        plain_not : (b == 123) ≡ true → is_plain b ≡ false
        plain_not q = rw q refl
    by false q k rest = rw q rest

-- a non-empty rest of a text has the last byte of the text
pub record Ended (front more text : List ℕ) (c : ℕ) : Type 0 where
  pub middle : List ℕ
  pub more_is : more ≡ middle ++ c ∷ []
  pub text_is : text ≡ front ++ middle

ended : (front more text : List ℕ) (c : ℕ) → more ≢ [] → front ++ more ≡ text ++ c ∷ [] → Ended front more text c
ended [] more text c some e = record { middle = text; more_is = e; text_is = refl }
ended (b ∷ front) more [] c some e = absurd (some (nothing front (cc e)))
  where
    nothing : (xs : List ℕ) → xs ++ more ≡ [] → more ≡ []
    nothing [] k = k
    nothing (x ∷ xs) k = absurd (cc k)
ended (b ∷ front) more (x ∷ text) c some e =
    let head : b ≡ x = cc e in
    let r = ended front more text c some (cc e) in
    record { middle = r.middle; more_is = r.more_is; text_is = λ i. sym head i ∷ r.text_is i }

not_plain : (front others : List ℕ) → Plain (front ++ 123 ∷ others) → ⊥
not_plain front others h = let p = plain_parts front (123 ∷ others) h in false≢true (and_parts (is_plain 123) (list_all is_plain others) p.1).0

no_end : (xs ys : List ℕ) (c : ℕ) → xs ++ (ys ++ c ∷ []) ≡ [] → ⊥
no_end [] [] c e = cc e
no_end [] (y ∷ ys) c e = cc e
no_end (x ∷ xs) ys c e = cc e

module _ (spec : Spec) where
  versions_plain : (m : ℕ) → is_old spec ≡ true → (text : List ℕ) (r : Range) → Versions spec m text r → Plain text
  versions_plain m old text r (versions part s) = plain_append part (codes ")") (stands_plain spec old m part r s) refl

  wider_versions : (m : ℕ) (text : List ℕ) (r : Range) → Versions spec m text r → Versions spec (suc m) text r
  wider_versions m text r (versions part s) = versions part (wider_stands spec m part r s)

  tail_ok : (m : ℕ) (text : List ℕ) (r : Range) → Versions spec m text r → errs (tail_at spec m text) ≡ false
  tail_ok m text r v = ap (λ t. errs (tail_at spec m t)) (sym (append-nil text)) ∙ ap errs (tail_reads spec m text r [] v)

  abbrev TailFault : ℕ → List ℕ → Cause → Type 0
  TailFault m = Fault (range_kind spec) (Versions spec m) (Versions spec (suc m)) (tail_at spec m) (tail_at spec (suc m))

  -- a text that continues past the stuck place isn't in the language
  not_past : (m : ℕ) (text : List ℕ) (cause : Cause) (f : TailFault m text cause) (b : ℕ) (others between more : List ℕ) (r : Range) → f.rest ≡ b ∷ others → Versions spec m (f.front ++ (b ∷ (between ++ more))) r → ⊥
  not_past m text cause f b others between more r e v =
      why_dead (range_kind spec) (Versions spec m) (Versions spec (suc m)) (tail_at spec m) (tail_at spec (suc m)) f.front f.rest f.why (b ∷ (between ++ more)) (ap head_of (sym e))
      (tail_ok m (f.front ++ (b ∷ (between ++ more))) r v) (tail_ok (suc m) (f.front ++ (b ∷ (between ++ more))) r (wider_versions m (f.front ++ (b ∷ (between ++ more))) r v))

  module _ (m : ℕ) (front : List ℕ) (v : Viable spec m front) where
    completed : Versions spec m (front ++ (v.0 ++ codes ")")) v.1
    completed = subst (λ t. Versions spec m t v.1) (append_assoc front v.0 (codes ")")) (versions (front ++ v.0) v.2)

    front_plain : is_old spec ≡ true → Plain front
    front_plain old = (plain_parts front (v.0 ++ codes ")") (versions_plain m old (front ++ (v.0 ++ codes ")")) v.1 completed)).0

    -- no range is read before a `{` in 2.4
    not_read : is_old spec ≡ true → (others : List ℕ) (p : Range × List ℕ) → tail_at spec m (front ++ 123 ∷ others) ≡ Ok p → ⊥
    not_read old others p h =
        let got = tail_read spec m (front ++ 123 ∷ others) p.0 p.1 h in
        by got (order front (123 ∷ others) got.front p.1 got.whole)
      where
        whole_read : (ends d : List ℕ) (x : Range) → Versions spec m ends x → front ≡ ends ++ d → ⊥
        whole_read ends d x l e =
            let all : Versions spec m (ends ++ (d ++ (v.0 ++ codes ")"))) v.1 = subst (λ t. Versions spec m t v.1) (ap (λ t. t ++ (v.0 ++ codes ")")) e ∙ append_assoc ends d (v.0 ++ codes ")")) completed in
            let one = tail_reads spec m ends x (d ++ (v.0 ++ codes ")")) l in
            let two = ap (tail_at spec m) (append-nil (ends ++ (d ++ (v.0 ++ codes ")")))) ∙ refl in
            let both = ok_parts x v.1 (d ++ (v.0 ++ codes ")")) [] (sym one ∙ sym two ∙ tail_reads spec m (ends ++ (d ++ (v.0 ++ codes ")"))) v.1 [] all) in
            no_end d v.0 41 both.1

        by : (got : Read (Versions spec m) (Apart decimals) (front ++ 123 ∷ others) p.0 p.1) → Order front (123 ∷ others) got.front p.1 → ⊥
        by got (shorter b between e q) =
            let at : b ≡ 123 = cc (sym q) in
            not_plain front between (subst Plain (e ∙ ap (λ c. front ++ c ∷ between) at) (versions_plain m old got.front p.0 got.is))
        by got (same e q) = whole_read got.front [] p.0 got.is (e ∙ sym (append-nil got.front))
        by got (longer b between e q) = whole_read got.front (b ∷ between) p.0 got.is e

    -- the reader is stuck at the `{`
    module _ (old : is_old spec ≡ true) (others : List ℕ) (cause : Cause) (f : TailFault m (front ++ 123 ∷ others) cause) where
      stuck_here : f.rest ≡ 123 ∷ others
      stuck_here = by (order f.front f.rest front (123 ∷ others) (sym f.whole))
        where
          by : Order f.front f.rest front (123 ∷ others) → f.rest ≡ 123 ∷ others
          by (shorter b between e q) =
              absurd (not_past m (front ++ 123 ∷ others) cause f b (between ++ 123 ∷ others) between (v.0 ++ codes ")") v.1 q
              (subst (λ t. Versions spec m t v.1) (ap (λ t. t ++ (v.0 ++ codes ")")) e ∙ append_assoc f.front (b ∷ between) (v.0 ++ codes ")")) completed))
          by (same e q) = q
          by (longer b between e q) =
              let at : b ≡ 123 = cc (sym q) in
              absurd (not_plain front (between ++ f.more) (subst Plain (ap (λ t. t ++ f.more) (e ∙ ap (λ c. front ++ c ∷ between) at) ∙ append_assoc front (123 ∷ between) f.more) (versions_plain m old (f.front ++ f.more) f.value f.goes_on)))

      is_newer : IsNewer (range_kind spec) f.rest
      is_newer = ap (λ t. is_old spec && begins_with 123 t) stuck_here ∙ and_from (is_old spec) true old refl

      cause_here : {rest : List ℕ} {c : Cause} → rest ≡ 123 ∷ others → IsNewer (range_kind spec) rest → Why (range_kind spec) (Versions spec m) (Versions spec (suc m)) (tail_at spec m) (tail_at spec (suc m)) f.front rest c → c ≡ NeedsVersion
      cause_here e n (new_form form dead) = refl
      cause_here e n (digit_due form last digit is more x goes dead) = absurd (form n)
      cause_here e n (digit_more form last digit dead) = absurd (form n)
      cause_here e n (wider b bs first names none more x goes dead) =
          let at : b ≡ 123 = cc (sym first, e) in
          absurd (cc (sym names, ap (range_kind spec).wide at))
      cause_here e n (behind_digit form last other dead) = absurd (form n)
      cause_here e n (no_digit form last none dead) = absurd (form n)

      pub needs : cause ≡ NeedsVersion
      needs = cause_here stuck_here is_newer f.why

  -- ---- the two readers

  module _ (n : ℕ) where
    told_read : (text : List ℕ) (r : Range) (rest : List ℕ) → cond_tail spec n text ≡ Ok (r, rest) → tail_at spec n text ≡ Ok (r, rest)
    told_read text r rest h = by (tail_at spec n text) refl
      where
        by : (o : Result (Range × List ℕ) Cause) → tail_at spec n text ≡ o → tail_at spec n text ≡ Ok (r, rest)
        by (Ok p) q = q ∙ sym (ap with_cond_causes q) ∙ h
        by (Err cause) q = absurd (cc (h, ap with_cond_causes q))

    cond_reads : Reads no_bytes (Versions spec n) (cond_tail spec n)
    cond_reads = record {
      read = λ text r rest h. let got = tail_read spec n text r rest (told_read text r rest h) in record { front = got.front; whole = got.whole; is = got.is; apart = apart got.front rest };
      reads = λ text r rest l a. ap with_cond_causes (tail_reads spec n text r rest l);
    }

    viable_front : (text : List ℕ) (cause : Cause) (f : TailFault n text cause) (others : List ℕ) → f.rest ≡ 123 ∷ others → errs (tail_at spec (suc n) text) ≡ true → Viable spec n f.front
    viable_front text cause f others e fails = by f.value f.goes_on
      where
        some : Versions spec n (f.front ++ f.more) f.value → f.more ≢ []
        some v none =
            let front-is : Versions spec n f.front f.value = subst (λ t. Versions spec n t f.value) (ap (λ t. f.front ++ t) none ∙ append-nil f.front) v in
            false≢true (sym (ap errs (tail_reads spec (suc n) f.front f.value f.rest (wider_versions n f.front f.value front-is))) ∙ ap (λ t. errs (tail_at spec (suc n) t)) (sym f.whole) ∙ fails)

        of : {whole : List ℕ} {r : Range} → Versions spec n whole r → whole ≡ f.front ++ f.more → Viable spec n f.front
        of {r = r} (versions text s) e =
            let m = ended f.front f.more text 41 (some f.goes_on) (sym e) in
            (m.middle, r, subst (λ t. Stands spec n t r) m.text_is s)

        by : (r : Range) → Versions spec n (f.front ++ f.more) r → Viable spec n f.front
        by r v = of v refl

    old_of : (rest : List ℕ) → IsNewer (range_kind spec) rest → (is_old spec ≡ true) × ((others : List ℕ) × (rest ≡ 123 ∷ others))
    old_of [] h = absurd (false≢true (sym (by (is_old spec)) ∙ h))
      where
        by : (t : Bool) → (t && false) ≡ false
        by true = refl
        by false = refl
    old_of (b ∷ bs) h = let p = and_parts (is_old spec) (b == 123) h in (p.0, (bs, ap (λ c. c ∷ bs) (eqb-true b 123 p.1)))

    newer_of : {front rest : List ℕ} {c : Cause} → Why (range_kind spec) (Versions spec n) (Versions spec (suc n)) (tail_at spec n) (tail_at spec (suc n)) front rest c → c ≡ NeedsVersion → IsNewer (range_kind spec) rest
    newer_of (new_form form dead) e = form
    newer_of (digit_due form last digit is more x goes dead) e = absurd (cc e)
    newer_of (digit_more form last digit dead) e = absurd (cc e)
    newer_of (wider b bs first names none more x goes dead) e = absurd (wide_name b (names ∙ ap Some e))
      where
        wide_name : (b : ℕ) → (range_kind spec).wide b ≡ Some NeedsVersion → ⊥
        wide_name b h = by (b == 40) h
          where
            by : (t : Bool) → (if t then Some TooDeep else None) ≡ Some NeedsVersion → ⊥
            by true k = cc k
            by false k = cc k
    newer_of (behind_digit form last other dead) e = absurd (cc e)
    newer_of (no_digit form last none dead) e = absurd (cc e)

    -- the results of the readers
    breaks_of : {A : Type 0} (o : Result A Cause) → breaks o ≡ true → o ≡ Err NeedsVersion
    breaks_of {A = A} (Ok x) h = absurd (false≢true h)
    breaks_of {A = A} (Err cause) h = by cause h
      where
        by : (cause : Cause) → breaks {A = A} (Err cause) ≡ true → (let o : Result A Cause = Err cause in o ≡ Err NeedsVersion)
        by NeedsVersion h = refl
        by cause h = absurd (false≢true h)

    wide_here : (text : List ℕ) (o : Result (Range × List ℕ) Cause) → tail_at spec (suc n) text ≡ o → (t : Bool) → breaks (tail_at spec n text) ≡ t → wide_tail spec n text ≡ or_broken o t text
    wide_here text o q t k = ap (λ o'. or_broken o' (breaks (tail_at spec n text)) text) q ∙ ap (λ t'. or_broken o t' text) k

    not_wide : (m : ℕ) (front : List ℕ) (v : Viable spec m front) → is_old spec ≡ true → (others : List ℕ) → (cause : Cause) × (tail_at spec m (front ++ 123 ∷ others) ≡ Err cause)
    not_wide m front v old others = by (tail_at spec m (front ++ 123 ∷ others)) refl
      where
        by : (o : Result (Range × List ℕ) Cause) → tail_at spec m (front ++ 123 ∷ others) ≡ o → (cause : Cause) × (tail_at spec m (front ++ 123 ∷ others) ≡ Err cause)
        by (Ok p) q = absurd (not_read m front v old others p q)
        by (Err cause) q = (cause, q)

    wide_reads : (text : List ℕ) (r : Range) (rest : List ℕ) → WiderVersions spec n text r → wide_tail spec n (text ++ rest) ≡ Ok (r, rest)
    wide_reads text r rest (deeper v) = wide_here (text ++ rest) (Ok (r, rest)) (tail_reads spec (suc n) text r rest v) (breaks (tail_at spec n (text ++ rest))) refl
    wide_reads text r rest (broken front old v) =
        let e = append_assoc front (codes "{") rest in
        let narrow = not_wide n front v old rest in
        let v' : Viable spec (suc n) front = (v.0, v.1, wider_stands spec n (front ++ v.0) v.1 v.2) in
        let far = not_wide (suc n) front v' old rest in
        let f = tail_fault spec n (front ++ 123 ∷ rest) narrow.0 narrow.1 in
        let is : tail_at spec n (front ++ 123 ∷ rest) ≡ Err NeedsVersion = narrow.1 ∙ ap Err (needs n front v old rest narrow.0 f) in
        ap (wide_tail spec n) e
        ∙ wide_here (front ++ 123 ∷ rest) (Err far.0) far.1 true (ap breaks is)
        ∙ ap (λ t. Ok (Any, t)) (brace_behind front rest (front_plain n front v old))

    wide_read : (text : List ℕ) (r : Range) (rest : List ℕ) → wide_tail spec n text ≡ Ok (r, rest) → Read (WiderVersions spec n) (Apart no_bytes) text r rest
    wide_read text r rest h = by (tail_at spec (suc n) text) refl (breaks (tail_at spec n text)) refl
      where
        by : (o : Result (Range × List ℕ) Cause) → tail_at spec (suc n) text ≡ o → (t : Bool) → breaks (tail_at spec n text) ≡ t → Read (WiderVersions spec n) (Apart no_bytes) text r rest
        by (Ok p) q t k =
            let e = ok_parts p.0 r p.1 rest (sym (wide_here text (Ok p) q t k) ∙ h) in
            let got = tail_read spec (suc n) text p.0 p.1 q in
            record { front = got.front; whole = got.whole ∙ ap (λ t. got.front ++ t) e.1; is = subst (WiderVersions spec n got.front) e.0 (deeper got.is); apart = apart got.front rest }
        by (Err cause) q false k = absurd (cc (h, wide_here text (Err cause) q false k))
        by (Err cause) q true k =
            let f = tail_fault spec n text NeedsVersion (breaks_of (tail_at spec n text) k) in
            let o = old_of f.rest (newer_of f.why refl) in
            let v = viable_front text NeedsVersion f o.1.0 o.1.1 (ap errs q) in
            let whole : text ≡ f.front ++ 123 ∷ o.1.0 = f.whole ∙ ap (λ t. f.front ++ t) o.1.1 in
            let e = ok_parts Any r (behind_brace text) rest (sym (wide_here text (Err cause) q true k) ∙ h) in
            let left : o.1.0 ≡ rest = sym (ap behind_brace whole ∙ brace_behind f.front o.1.0 (front_plain n f.front v o.0)) ∙ e.1 in
            record {
              front = f.front ++ codes "{";
              whole = whole ∙ sym (append_assoc f.front (codes "{") o.1.0) ∙ ap (λ t. (f.front ++ codes "{") ++ t) left;
              is = subst (WiderVersions spec n (f.front ++ codes "{")) e.0 (broken f.front o.0 v);
              apart = apart (f.front ++ codes "{") rest;
            }

    -- ---- faults

    narrow_dead : (front rest : List ℕ) → Dead (tail_at spec (suc n)) front rest → Dead (cond_tail spec n) front rest
    narrow_dead front rest dead again head = by (tail_at spec n (front ++ again)) refl
      where
        by : (o : Result (Range × List ℕ) Cause) → tail_at spec n (front ++ again) ≡ o → errs (cond_tail spec n (front ++ again)) ≡ true
        by (Err cause) q = ap (λ o. errs (with_cond_causes o)) q
        by (Ok p) q =
            let got = tail_read spec n (front ++ again) p.0 p.1 q in
            absurd (false≢true (sym (ap errs (tail_reads spec (suc n) got.front p.0 p.1 (wider_versions n got.front p.0 got.is))) ∙ ap (λ t. errs (tail_at spec (suc n) t)) (sym got.whole) ∙ dead again head))

    told_errs : {A : Type 0} (o : Result A Cause) → errs o ≡ true → errs (with_cond_causes o) ≡ true
    told_errs (Ok x) h = h
    told_errs (Err cause) h = refl

    -- if the byte isn't a `{`, the wider reader is stuck too
    wide_dead : (front rest more : List ℕ) (x : Range) → Versions spec n (front ++ more) x → (IsNewer (range_kind spec) rest → ⊥) → Dead (tail_at spec (suc n)) front rest → Dead (wide_tail spec n) front rest
    wide_dead front rest more x goes form dead again head = by (tail_at spec (suc n) (front ++ again)) refl (breaks (tail_at spec n (front ++ again))) refl
      where
        newer_same : (again rest : List ℕ) → head_of again ≡ head_of rest → IsNewer (range_kind spec) again → IsNewer (range_kind spec) rest
        newer_same [] [] e h = h
        newer_same [] (b ∷ rest) e h = absurd (cc e)
        newer_same (b ∷ again) [] e h = absurd (cc e)
        newer_same (b ∷ again) (c ∷ rest) e h = let at : b ≡ c = cc e in subst (λ y. IsNewer (range_kind spec) (y ∷ rest)) at h

        not_here : (f : TailFault n (front ++ again) NeedsVersion) → Order f.front f.rest front again → ⊥
        not_here f (shorter b between e q) =
            not_past n (front ++ again) NeedsVersion f b (between ++ again) between more x q
            (subst (λ t. Versions spec n t x) (ap (λ t. t ++ more) e ∙ append_assoc f.front (b ∷ between) more) goes)
        not_here f (same e q) = form (newer_same again rest head (subst (IsNewer (range_kind spec)) q (newer_of f.why refl)))
        not_here f (longer b between e q) =
            let v = subst (λ t. Versions spec n t f.value) (ap (λ t. t ++ f.more) e ∙ append_assoc front (b ∷ between) f.more) f.goes_on in
            false≢true (sym (tail_ok (suc n) (front ++ (b ∷ (between ++ f.more))) f.value (wider_versions n (front ++ (b ∷ (between ++ f.more))) f.value v)) ∙ dead (b ∷ (between ++ f.more)) (ap head_of (sym q) ∙ head))

        by : (o : Result (Range × List ℕ) Cause) → tail_at spec (suc n) (front ++ again) ≡ o → (t : Bool) → breaks (tail_at spec n (front ++ again)) ≡ t → errs (wide_tail spec n (front ++ again)) ≡ true
        by (Ok p) q t k = absurd (false≢true (sym (ap errs q) ∙ dead again head))
        by (Err cause) q false k = ap errs (wide_here (front ++ again) (Err cause) q false k)
        by (Err cause) q true k =
            let f = tail_fault spec n (front ++ again) NeedsVersion (breaks_of (tail_at spec n (front ++ again)) k) in
            absurd (not_here f (order f.front f.rest front again (sym f.whole)))

    abbrev CondWhy : List ℕ → List ℕ → Cause → Type 0
    CondWhy = Why (cond_kind spec) (Versions spec n) (WiderVersions spec n) (cond_tail spec n) (wide_tail spec n)

    other_why : (front rest more : List ℕ) (x : Range) → Versions spec n (front ++ more) x → (IsNewer (range_kind spec) rest → ⊥) → Dead (tail_at spec (suc n)) front rest → CondWhy front rest BadCond
    other_why front rest more x goes form dead = no_digit (λ h. false≢true h) (ends_none front) (no_digit_stands (wide_tail spec n) front) (wide_dead front rest more x goes form dead)

    cond_why : (text : List ℕ) {cause : Cause} (front rest more : List ℕ) (x : Range) → text ≡ front ++ rest → errs (tail_at spec n text) ≡ true → Versions spec n (front ++ more) x
        → ((others : List ℕ) → rest ≡ 123 ∷ others → errs (tail_at spec (suc n) text) ≡ true → Viable spec n front)
        → Why (range_kind spec) (Versions spec n) (Versions spec (suc n)) (tail_at spec n) (tail_at spec (suc n)) front rest cause → CondWhy front rest (cond_cause cause)
    cond_why text front rest more x whole fails goes viable (new_form form dead) =
        let o = old_of rest form in
        let v = viable o.1.0 o.1.1 (ap (λ t. errs (tail_at spec (suc n) t)) whole ∙ dead rest refl) in
        wider 123 o.1.0 o.1.1 (names o.0) (no_digit_stands (wide_tail spec n) front) [] Any (broken front o.0 v) (narrow_dead front rest dead)
      where
        names : is_old spec ≡ true → (cond_kind spec).wide 123 ≡ Some NeedsVersion
        names old = rw old refl
    cond_why text front rest more x whole fails goes viable (digit_due form last digit is others y l dead) = other_why front rest more x goes form dead
    cond_why text front rest more x whole fails goes viable (digit_more form last digit dead) = other_why front rest more x goes form dead
    cond_why text front rest more x whole fails goes viable (wider b bs {cause = cause} first names none others y l dead) = by (b == 40) refl
      where
        by : (t : Bool) → (b == 40) ≡ t → CondWhy front rest (cond_cause cause)
        by false q = absurd (cc (names, wide_none q))
          where
            wide_none : (b == 40) ≡ false → (range_kind spec).wide b ≡ None
            wide_none q = rw q refl
        by true q =
            let at = eqb-true b 40 q in
            let is : TooDeep ≡ cause = cc (sym names, wide_some q) in
            subst (λ c. CondWhy front rest (cond_cause c)) is
            (wider b bs first (ap (cond_kind spec).wide at) (no_digit_stands (wide_tail spec n) front) others y (deeper l) (λ again head. told_errs (tail_at spec n (front ++ again)) (dead again head)))
          where
            wide_some : (b == 40) ≡ true → (range_kind spec).wide b ≡ Some TooDeep
            wide_some q = rw q refl
    cond_why text front rest more x whole fails goes viable (behind_digit form last other dead) = other_why front rest more x goes form dead
    cond_why text front rest more x whole fails goes viable (no_digit form last none dead) = other_why front rest more x goes form dead

    cond_fault : (text : List ℕ) (cause : Cause) → cond_tail spec n text ≡ Err cause → Fault (cond_kind spec) (Versions spec n) (WiderVersions spec n) (cond_tail spec n) (wide_tail spec n) text cause
    cond_fault text cause h = by (tail_at spec n text) refl
      where
        by : (o : Result (Range × List ℕ) Cause) → tail_at spec n text ≡ o → Fault (cond_kind spec) (Versions spec n) (WiderVersions spec n) (cond_tail spec n) (wide_tail spec n) text cause
        by (Ok p) q = absurd (cc (h, ap with_cond_causes q))
        by (Err why) q =
            let f = tail_fault spec n text why q in
            let is : cond_cause why ≡ cause = cc (h, ap with_cond_causes q) in
            subst (Fault (cond_kind spec) (Versions spec n) (WiderVersions spec n) (cond_tail spec n) (wide_tail spec n) text) is
            (record {
              front = f.front;
              rest = f.rest;
              whole = f.whole;
              more = f.more;
              value = f.value;
              goes_on = f.goes_on;
              why = cond_why text f.front f.rest f.more f.value f.whole (ap errs q) f.goes_on (viable_front text why f) f.why;
            })

    pub tail_pair : Pair (cond_kind spec) (Versions spec n) (WiderVersions spec n) (cond_tail spec n) (wide_tail spec n)
    tail_pair = record {
      narrow = cond_reads;
      wide = record { read = wide_read; reads = λ text r rest l a. wide_reads text r rest l };
      wider = λ text r v. deeper (wider_versions n text r v);
      fault = cond_fault;
    }
