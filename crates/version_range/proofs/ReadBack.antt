-- The printed text of a range denotes that range.
use Rattle.std.proofs.Common.{◌≡◌, ℕ, zero, suc, ◌+◌, ◌-◌, ◌≤◌, max, ◌==◌, cond, Bool, true, false, codes, List, [], ◌∷◌, ◌++◌, refl, sym, ap, ◌∙◌, subst, arith}
use Rattle.std.specs.Fmt.{decimal}
use Rattle.std.specs.Str.{all_ascii_digits}
use Rattle.std.proofs.lemmas.Bool.{ne_eqb, and_parts}
use Rattle.std.proofs.lemmas.List.{append-nil}
use Rattle.plan_types.specs.declared.range.Spec.{Spec}
use Rattle.plan_types.specs.declared.version.Version.{Version}
use Rattle.plan_types.specs.declared.range.Range.{Range, roll-Range, map-Range}
use Rattle.plan_types.specs.declared.range.Range.TheOpen as layer
use Rattle.plan_types.specs.declared.range.Range.TheFolds.{fold-roll-Range, ind-Range}
use Rattle.plan_types.specs.declared.range.Range.TheVariants.{Any, Nothing, Prefix, Both, Either, rolls-Any, rolls-Nothing, rolls-Equal, rolls-Prefix, rolls-AtLeast, rolls-Above, rolls-AtMost, rolls-Below, rolls-Major, rolls-Both, rolls-Either}
use Rattle.version_range.specs.declared.print.RangePlace.{RangePlace}
use Rattle.version_range.specs.declared.print.RangePlace.TheVariants as places
use Rattle.version_range.specs.declared.operator.Operator.{Operator}
use Rattle.version_range.specs.declared.operator.Operator.TheVariants as operators
use Rattle.version_range.specs.Version.{has_versions, versions_step, is_version, IsVersion, version_text}
use Rattle.version_range.specs.Grammar.{compared, Atom, any, none, version, prefix, Factor, atom, enclosed, Term, Terms, Inside, Stands, range, operator_text, of_version}
use Rattle.text_grammar.specs.Parts.{Led, led, behind, Chain, one, more}
use Rattle.version_range.specs.Print.{text_in, text_step, as_term, as_whole, range_text, most_open}
use Rattle.version_range.specs.Print as print
use Rattle.version_range.proofs.Printed.{text_Both, text_Either}
use Rattle.version_range.proofs.VersionNumbers.{decimal_digits, digit_front, version_from}

-- the language at a place, with at most k more parentheses open
abbrev At : Spec → ℕ → RangePlace → List ℕ → Range → Type 0
At spec k places.Whole text r = Terms spec (Inside spec k) text r
At spec k places.Term text r = Term spec (Inside spec k) text r
At spec k places.Factor text r = Factor spec (Inside spec k) text r

-- one more blank before a chain
lead : {A B : Type 0} {join : A → B → A} {Part : List ℕ → A → Type 0} {Next : List ℕ → B → Type 0} {text : List ℕ} {x : A} → Chain join (Led Part) Next text x → Chain join (Led Part) Next (32 ∷ text) x
lead (one (led blanks b p)) = one (led (32 ∷ blanks) b p)
lead (more c d) = more (lead c) d

-- the number of open parentheses after a text
abbrev open_behind : ℕ → List ℕ → ℕ
open_behind n [] = n
open_behind n (b ∷ bs) = open_behind (cond (b == 40) (n + 1) (cond (b == 41) (n - 1) n)) bs

behind_append : (xs ys : List ℕ) (n : ℕ) → open_behind n (xs ++ ys) ≡ open_behind (open_behind n xs) ys
behind_append [] ys n = refl
behind_append (x ∷ xs) ys n = behind_append xs ys (cond (x == 40) (n + 1) (cond (x == 41) (n - 1) n))

most_at_least : (xs : List ℕ) (n : ℕ) → n ≤ most_open n xs
most_at_least [] n = omega arith
most_at_least (x ∷ xs) n = omega arith

most_append : (xs ys : List ℕ) (n : ℕ) → most_open n (xs ++ ys) ≡ max (most_open n xs) (most_open (open_behind n xs) ys)
most_append [] ys n = omega (arith, most_at_least ys n)
most_append (x ∷ xs) ys n = omega (arith, most_append xs ys (cond (x == 40) (n + 1) (cond (x == 41) (n - 1) n)))

-- a text with balanced parentheses
abbrev IsBalanced : List ℕ → Type 0
IsBalanced text = (n : ℕ) → open_behind n text ≡ n

balanced_append : (xs ys : List ℕ) → IsBalanced xs → IsBalanced ys → IsBalanced (xs ++ ys)
balanced_append xs ys h k n = behind_append xs ys n ∙ ap (λ m. open_behind m ys) (h n) ∙ k n

within_parts : (xs ys : List ℕ) (n m : ℕ) → IsBalanced xs → most_open n (xs ++ ys) ≤ m → (most_open n xs ≤ m) × (most_open n ys ≤ m)
within_parts xs ys n m h le =
    let e : most_open n (xs ++ ys) ≡ max (most_open n xs) (most_open n ys) = most_append xs ys n ∙ ap (λ i. max (most_open n xs) (most_open i ys)) (h n) in
    (omega (arith, e, le), omega (arith, e, le))

digits_balanced : (ds : List ℕ) → all_ascii_digits ds ≡ true → IsBalanced ds
digits_balanced [] all n = refl
digits_balanced (d ∷ ds) all n =
    let p = digit_front d ds all in
    let left : (d == 40) ≡ false = ne_eqb d 40 (λ e. omega (arith, e, p.0.0)) in
    let right : (d == 41) ≡ false = ne_eqb d 41 (λ e. omega (arith, e, p.0.0)) in
    ap (λ b. open_behind (cond b (n + 1) (cond (d == 41) (n - 1) n)) ds) left
    ∙ ap (λ b. open_behind (cond b (n - 1) n) ds) right
    ∙ digits_balanced ds p.1 n

version_balanced : (ps : List ℕ) → IsVersion ps → IsBalanced (version_text ps)
version_balanced [] h n = absurd h
version_balanced (p ∷ []) h n = digits_balanced (decimal p) (decimal_digits p h) n
version_balanced (p ∷ q ∷ ps) h n = balanced_append (decimal p) (46 ∷ version_text (q ∷ ps)) (digits_balanced (decimal p) (decimal_digits p h.0)) (version_balanced (q ∷ ps) h.1) n

enclosed_balanced : (body : List ℕ) → IsBalanced body → IsBalanced (print.enclosed body)
enclosed_balanced body h n = behind_append body (41 ∷ []) (n + 1) ∙ ap (λ m. m - 1) (h (n + 1)) ∙ omega arith

term_balanced : (body : List ℕ) (place : RangePlace) → IsBalanced body → IsBalanced (as_term place body)
term_balanced body places.Factor h = enclosed_balanced body h
term_balanced body place h = h

whole_balanced : (body : List ℕ) (place : RangePlace) → IsBalanced body → IsBalanced (as_whole place body)
whole_balanced body places.Whole h = h
whole_balanced body place h = enclosed_balanced body h

operator_balanced : (op : Operator) → IsBalanced (operator_text op)
operator_balanced operators.Equal n = refl
operator_balanced operators.AtLeast n = refl
operator_balanced operators.Above n = refl
operator_balanced operators.AtMost n = refl
operator_balanced operators.Below n = refl
operator_balanced operators.Major n = refl

module _ (spec : Spec) where
  -- n parentheses are open before the text
  record Reads (r : Range) : Type 0 where
    balanced : (place : RangePlace) → IsBalanced (text_in r place)
    stands : (place : RangePlace) (n k : ℕ) → most_open n (text_in r place) ≤ n + k → At spec k place (text_in r place) r

  -- a factor is allowed at each place
  everywhere : (place : RangePlace) (k : ℕ) (text : List ℕ) (r : Range) → Factor spec (Inside spec k) text r → At spec k place text r
  everywhere places.Whole k text r f = one (one (led [] refl f))
  everywhere places.Term k text r f = one (led [] refl f)
  everywhere places.Factor k text r f = f

  module _ (body : List ℕ) (r : Range) where
    in_parentheses : ((n k : ℕ) → most_open n body ≤ n + k → Terms spec (Inside spec k) body r) → (n k : ℕ) → most_open n (print.enclosed body) ≤ n + k → Factor spec (Inside spec k) (print.enclosed body) r
    unfolding Inside
    in_parentheses reads n zero le = absurd (omega (arith, le, most_at_least (body ++ 41 ∷ []) (n + 1)))
    in_parentheses reads n (suc k) le =
        let inner = reads (n + 1) k (omega (arith, le, most_append body (41 ∷ []) (n + 1))) in
        subst (λ t. Factor spec (Inside spec (suc k)) (40 ∷ (t ++ 41 ∷ [])) r) (append-nil body) (enclosed body [] inner refl)

    whole_placed : ((n k : ℕ) → most_open n body ≤ n + k → Terms spec (Inside spec k) body r) → (place : RangePlace) (n k : ℕ) → most_open n (as_whole place body) ≤ n + k → At spec k place (as_whole place body) r
    whole_placed reads places.Whole n k le = reads n k le
    whole_placed reads places.Term n k le = one (led [] refl (in_parentheses reads n k le))
    whole_placed reads places.Factor n k le = in_parentheses reads n k le

    term_placed : ((n k : ℕ) → most_open n body ≤ n + k → Term spec (Inside spec k) body r) → (place : RangePlace) (n k : ℕ) → most_open n (as_term place body) ≤ n + k → At spec k place (as_term place body) r
    term_placed reads places.Whole n k le = one (reads n k le)
    term_placed reads places.Term n k le = reads n k le
    term_placed reads places.Factor n k le = in_parentheses (λ m j h. one (reads m j h)) n k le

  both : (xs ys : List ℕ) (l r : Range) (k : ℕ) → Term spec (Inside spec k) xs l → Factor spec (Inside spec k) ys r → Term spec (Inside spec k) (xs ++ (codes " && " ++ ys)) (Both l r)
  both xs ys l r k h f = more h (behind (32 ∷ []) refl (led (32 ∷ []) refl f))

  either : (xs ys : List ℕ) (l r : Range) (k : ℕ) → Terms spec (Inside spec k) xs l → Term spec (Inside spec k) ys r → Terms spec (Inside spec k) (xs ++ (codes " || " ++ ys)) (Either l r)
  either xs ys l r k h t = more h (behind (32 ∷ []) refl (lead t))

  atom_reads : (r : Range) (text : List ℕ) → text_in r ≡ (λ place. text) → IsBalanced text → Atom spec text r → Reads r
  atom_reads r text is balanced a = record {
    balanced = λ place n. ap (λ f. open_behind n (f place)) is ∙ balanced n;
    stands = λ place n k le. subst (λ f. At spec k place (f place) r) (sym is) (everywhere place k text r (atom a));
  }

  -- two operands at their places, the first at the place of the chain
  module _ (joint : Range → Range → Range) (first second : RangePlace) (between : List ℕ) (l r : Range) (a : Reads l) (b : Reads r) (level : IsBalanced between) where
    abbrev body : List ℕ
    body = text_in l first ++ (between ++ text_in r second)

    behind_balanced : IsBalanced (between ++ text_in r second)
    behind_balanced = balanced_append between (text_in r second) level (b.balanced second)

    body_reads : ((k : ℕ) → At spec k first (text_in l first) l → At spec k second (text_in r second) r → At spec k first body (joint l r)) → (n k : ℕ) → most_open n body ≤ n + k → At spec k first body (joint l r)
    body_reads join n k le =
        let p = within_parts (text_in l first) (between ++ text_in r second) n (n + k) (a.balanced first) le in
        let q = within_parts between (text_in r second) n (n + k) level p.1 in
        join k (a.stands first n k p.0) (b.stands second n k q.1)

    chain_reads : (around : RangePlace → List ℕ → List ℕ) → ((place : RangePlace) → text_in (joint l r) place ≡ around place body) → ((place : RangePlace) → IsBalanced body → IsBalanced (around place body)) → ((place : RangePlace) (n k : ℕ) → most_open n (around place body) ≤ n + k → At spec k place (around place body) (joint l r)) → Reads (joint l r)
    chain_reads around is balanced placed = record {
      balanced = λ place n. ap (open_behind n) (is place) ∙ balanced place (balanced_append (text_in l first) (between ++ text_in r second) (a.balanced first) behind_balanced) n;
      stands = λ place n k le. subst (λ t. At spec k place t (joint l r)) (sym (is place)) (placed place n k (subst (λ t. most_open n t ≤ n + k) (is place) le));
    }

  both_reads : (l r : Range) → Reads l → Reads r → Reads (Both l r)
  both_reads l r a b = chain_reads Both places.Term places.Factor (codes " && ") l r a b (λ n. refl) as_term (λ place. text_Both (Both l r) l r place refl) (term_balanced _)
      (term_placed _ (Both l r) (body_reads Both places.Term places.Factor (codes " && ") l r a b (λ n. refl) (both (text_in l places.Term) (text_in r places.Factor) l r)))

  either_reads : (l r : Range) → Reads l → Reads r → Reads (Either l r)
  either_reads l r a b = chain_reads Either places.Whole places.Term (codes " || ") l r a b (λ n. refl) as_whole (λ place. text_Either (Either l r) l r place refl) (whole_balanced _)
      (whole_placed _ (Either l r) (body_reads Either places.Whole places.Term (codes " || ") l r a b (λ n. refl) (either (text_in l places.Whole) (text_in r places.Term) l r)))

  abbrev Claim : Range → Type 0
  Claim r = has_versions r ≡ true → Reads r

  -- an operator and its version
  compared_reads : (op : Operator) (v : Version) (r : Range) → r ≡ of_version op v → has_versions r ≡ is_version v.parts → text_in r ≡ (λ place. operator_text op ++ version_text v.parts) → Claim r
  compared_reads op v r same tested is h =
      let ok = sym tested ∙ h in
      let balanced = balanced_append (operator_text op) (version_text v.parts) (operator_balanced op) (version_balanced v.parts (version_from v.parts ok)) in
      let is_atom = subst (Atom spec (operator_text op ++ version_text v.parts)) (sym same) (version op (led [] refl (compared v ok))) in
      atom_reads r (operator_text op ++ version_text v.parts) is balanced is_atom

  prefix_reads : (v : Version) (r : Range) → r ≡ Prefix v → has_versions r ≡ is_version v.parts → text_in r ≡ (λ place. codes "==" ++ version_text v.parts ++ codes ".*") → Claim r
  prefix_reads v r same tested is h =
      let ok = sym tested ∙ h in
      let balanced = balanced_append (codes "==" ++ version_text v.parts) (codes ".*") (version_balanced v.parts (version_from v.parts ok)) (λ n. refl) in
      let is_atom = subst (Atom spec (codes "==" ++ version_text v.parts ++ codes ".*")) (sym same) (prefix [] v refl ok) in
      atom_reads r (codes "==" ++ version_text v.parts ++ codes ".*") is balanced is_atom

  step : (y : layer.Range-F ((r : Range) × Claim r)) → Claim (roll-Range (map-Range ((r : Range) × Claim r) Range (λ e. e.0) y))
  step layer.Any = λ h. subst Reads (sym rolls-Any) (atom_reads Any (codes "-any") (ap text_in (sym rolls-Any) ∙ fold-roll-Range (RangePlace → List ℕ) text_step layer.Any) (λ n. refl) any)
  step layer.Nothing = λ h. subst Reads (sym rolls-Nothing) (atom_reads Nothing (codes "-none") (ap text_in (sym rolls-Nothing) ∙ fold-roll-Range (RangePlace → List ℕ) text_step layer.Nothing) (λ n. refl) none)
  step (layer.Equal v) = compared_reads operators.Equal v (roll-Range (layer.Equal v)) (rolls-Equal v) (fold-roll-Range Bool versions_step (layer.Equal v)) (fold-roll-Range (RangePlace → List ℕ) text_step (layer.Equal v))
  step (layer.Prefix v) = prefix_reads v (roll-Range (layer.Prefix v)) (rolls-Prefix v) (fold-roll-Range Bool versions_step (layer.Prefix v)) (fold-roll-Range (RangePlace → List ℕ) text_step (layer.Prefix v))
  step (layer.AtLeast v) = compared_reads operators.AtLeast v (roll-Range (layer.AtLeast v)) (rolls-AtLeast v) (fold-roll-Range Bool versions_step (layer.AtLeast v)) (fold-roll-Range (RangePlace → List ℕ) text_step (layer.AtLeast v))
  step (layer.Above v) = compared_reads operators.Above v (roll-Range (layer.Above v)) (rolls-Above v) (fold-roll-Range Bool versions_step (layer.Above v)) (fold-roll-Range (RangePlace → List ℕ) text_step (layer.Above v))
  step (layer.AtMost v) = compared_reads operators.AtMost v (roll-Range (layer.AtMost v)) (rolls-AtMost v) (fold-roll-Range Bool versions_step (layer.AtMost v)) (fold-roll-Range (RangePlace → List ℕ) text_step (layer.AtMost v))
  step (layer.Below v) = compared_reads operators.Below v (roll-Range (layer.Below v)) (rolls-Below v) (fold-roll-Range Bool versions_step (layer.Below v)) (fold-roll-Range (RangePlace → List ℕ) text_step (layer.Below v))
  step (layer.Major v) = compared_reads operators.Major v (roll-Range (layer.Major v)) (rolls-Major v) (fold-roll-Range Bool versions_step (layer.Major v)) (fold-roll-Range (RangePlace → List ℕ) text_step (layer.Major v))
  step (layer.Both l r) = λ h.
      let p = and_parts (has_versions l.0) (has_versions r.0) (sym (fold-roll-Range Bool versions_step (layer.Both l.0 r.0)) ∙ h) in
      subst Reads (sym (rolls-Both l.0 r.0)) (both_reads l.0 r.0 (l.1 p.0) (r.1 p.1))
  step (layer.Either l r) = λ h.
      let p = and_parts (has_versions l.0) (has_versions r.0) (sym (fold-roll-Range Bool versions_step (layer.Either l.0 r.0)) ∙ h) in
      subst Reads (sym (rolls-Either l.0 r.0)) (either_reads l.0 r.0 (l.1 p.0) (r.1 p.1))

  reads : (r : Range) → Claim r
  reads = ind-Range Claim (λ x y is. subst (λ z. Claim (roll-Range z)) is (step y))

pub reads_back : (spec : Spec) (deepest : ℕ) (r : Range) → has_versions r ≡ true → most_open 0 (range_text r) ≤ deepest → Stands spec deepest (range_text r) r
reads_back spec deepest r h le =
    let t = (reads spec r h).stands places.Whole 0 deepest (omega (arith, le)) in
    subst (λ text. Stands spec deepest text r) (append-nil (range_text r)) (range (range_text r) [] t refl)
