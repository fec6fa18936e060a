-- The words behind a name: which they are, and when they aren't a range.
use Rattle.std.proofs.Common.{◌≡◌, ℕ, Bool, true, false, cond, not, ◌||◌, List, [], ◌∷◌, ◌++◌, length, refl, sym, ap, ◌∙◌, subst, inl, inr, append_assoc, append-nil, arith}
use Rattle.std.specs.Prelude.{◌⊎◌, ◌==◌, codes, filter, flat_map}
use Rattle.std.specs.List.{list_all, All, slice_split, onto_first}
use Rattle.std.proofs.lemmas.Bool.{and_parts, false≢true}
use Rattle.std.proofs.lemmas.Bool.Decides.{nat_tests}
use Rattle.std.proofs.lemmas.List.Folds.{list_all-append}
use Rattle.std.proofs.lemmas.List.Splits.{slice_split-cons_yes, slice_split-cons_no, slice_split_none, slice_split_at}
use Rattle.plan_types.specs.Bytes.{is_blank, Blanks}
use Rattle.plan_types.specs.declared.range.Range.{Range}
use Rattle.plan_types.specs.declared.range.Spec.TheVariants.{V3_0}
use Rattle.text_grammar.specs.Parts.{Led, led, Behind, behind, one, more}
use Rattle.version_range.specs.declared.operator.Operator.{Operator}
use Rattle.version_range.specs.declared.operator.Operator.TheVariants.{Equal, AtLeast, Above, AtMost, Below, Major}
use Rattle.version_range.specs.Grammar.{Atom, any, none, version, prefix, set, Factor, atom, enclosed, Term, Terms, Inside, Stands, empty, range, operator_text}
use Rattle.entry_text.specs.Words.{is_word, words}
use Rattle.common_laws.specs.Passing.{all-less}
use Rattle.common_laws.specs.Lists.{all-at, all-where, filter-all}
use Rattle.freeze_text.proofs.Plain.{is_plain_byte}

off : (t : Bool) → not t ≡ true → t ≡ false
off true h = absurd (false≢true h)
off false h = refl

-- no byte is a blank
abbrev pub is_solid : List ℕ → Bool
is_solid word = list_all (λ b. not (is_blank b)) word

solid-all : (word : List ℕ) → is_solid word ≡ true → All (λ b. is_blank b ≡ false) word
solid-all word h = all-where (λ b. is_blank b ≡ false) word (λ b k. off (is_blank b) (all-at (λ b. not (is_blank b)) word b h k))

-- words, a space before each
abbrev pub spaced : List (List ℕ) → List ℕ
spaced found = flat_map (λ word. 32 ∷ word) found

split-words : (word : List ℕ) (others : List (List ℕ)) → is_solid word ≡ true → list_all is_solid others ≡ true → slice_split is_blank (word ++ spaced others) ≡ word ∷ others
split-words word [] h k = ap (slice_split is_blank) (append-nil word) ∙ slice_split_none is_blank word (solid-all word h)
split-words word (next ∷ others) h k =
    let both = and_parts (is_solid next) (list_all is_solid others) k in
    slice_split_at is_blank word 32 (next ++ spaced others) (solid-all word h) refl ∙ ap (λ l. word ∷ l) (split-words next others both.0 both.1)

pub words-spaced : (found : List (List ℕ)) → list_all is_solid found ≡ true → list_all is_word found ≡ true → words (spaced found) ≡ found
words-spaced found h k = ap (filter is_word) (split-words [] found refl h) ∙ filter-all is_word found (λ word c. all-at is_word found word k c)

words-skip : (blanks text : List ℕ) → Blanks blanks → words (blanks ++ text) ≡ words text
words-skip [] text h = refl
words-skip (b ∷ blanks) text h =
    let both = and_parts (is_blank b) (list_all is_blank blanks) h in
    ap (filter is_word) (slice_split-cons_yes is_blank b (blanks ++ text) both.0) ∙ words-skip blanks text both.1

words-none : (blanks : List ℕ) → Blanks blanks → words blanks ≡ []
words-none blanks h = ap words (sym (append-nil blanks)) ∙ words-skip blanks [] h

-- one word alone
words-end : (b : ℕ) (word after : List ℕ) → is_solid (b ∷ word) ≡ true → Blanks after → words ((b ∷ word) ++ after) ≡ (b ∷ word) ∷ []
words-end b word [] h k = ap words (append-nil (b ∷ word)) ∙ ap (filter is_word) (slice_split_none is_blank (b ∷ word) (solid-all (b ∷ word) h)) ∙ kept
  where
    kept : filter is_word ((b ∷ word) ∷ []) ≡ (b ∷ word) ∷ []
    kept = let some : (length (b ∷ word) == 0) ≡ false = grind (arith, nat_tests) in ap (λ t. cond (not t) ((b ∷ word) ∷ []) []) some
words-end b word (c ∷ after) h k =
    let both = and_parts (is_blank c) (list_all is_blank after) k in
    let some : (length (b ∷ word) == 0) ≡ false = grind (arith, nat_tests) in
    ap (filter is_word) (slice_split_at is_blank (b ∷ word) c after (solid-all (b ∷ word) h) both.0)
    ∙ ap (λ t. cond (not t) ((b ∷ word) ∷ words after) (words after)) some
    ∙ ap (λ l. (b ∷ word) ∷ l) (words-none after both.1)

-- the first word begins with the first byte
begins-word : (b : ℕ) (text : List ℕ) → is_blank b ≡ false → (word : List ℕ) × (more : List (List ℕ)) × (words (b ∷ text) ≡ (b ∷ word) ∷ more)
begins-word b text h = by (slice_split is_blank text) (slice_split-cons_no is_blank b text h)
  where
    first : (word : List ℕ) (parts : List (List ℕ)) → filter is_word ((b ∷ word) ∷ parts) ≡ (b ∷ word) ∷ filter is_word parts
    first word parts = let some : (length (b ∷ word) == 0) ≡ false = grind (arith, nat_tests) in ap (λ t. cond (not t) ((b ∷ word) ∷ filter is_word parts) (filter is_word parts)) some

    by : (parts : List (List ℕ)) → slice_split is_blank (b ∷ text) ≡ onto_first b parts → (word : List ℕ) × (more : List (List ℕ)) × (words (b ∷ text) ≡ (b ∷ word) ∷ more)
    by [] e = ([], [], ap (filter is_word) e ∙ first [] [])
    by (part ∷ parts) e = (part, filter is_word parts, ap (filter is_word) e ∙ first part parts)

-- no byte is this one
abbrev Lacks : ℕ → List ℕ → Type 0
Lacks byte text = list_all (λ b. not (b == byte)) text ≡ true

lacks-parts : (byte : ℕ) (xs ys : List ℕ) → Lacks byte (xs ++ ys) → Lacks byte xs × Lacks byte ys
lacks-parts byte xs ys h = and_parts (list_all (λ b. not (b == byte)) xs) (list_all (λ b. not (b == byte)) ys) (sym (list_all-append (λ b. not (b == byte)) xs ys) ∙ h)

abbrev In : List ℕ → Range → Type 0
In = Inside V3_0 64

-- without `&` a term is one factor, and without `|` a range one term
no-and : (text : List ℕ) (r : Range) → Behind (codes "&&") (Led (Factor V3_0 In)) text r → Lacks 38 text → ⊥
no-and text r (behind blanks {text = rest} are is) h = false≢true (lacks-parts 38 blanks (codes "&&") (lacks-parts 38 (blanks ++ codes "&&") rest h).0).1

no-or : (text : List ℕ) (r : Range) → Behind (codes "||") (Term V3_0 In) text r → Lacks 124 text → ⊥
no-or text r (behind blanks {text = rest} are is) h = false≢true (lacks-parts 124 blanks (codes "||") (lacks-parts 124 (blanks ++ codes "||") rest h).0).1

one-factor : (text : List ℕ) (r : Range) → Term V3_0 In text r → Lacks 38 text → Led (Factor V3_0 In) text r
one-factor text r (one f) h = f
one-factor text r (more {text = front} {next = next} {right = right} c k) h = absurd (no-and next right k (lacks-parts 38 front next h).1)

one-term : (text : List ℕ) (r : Range) → Terms V3_0 In text r → Lacks 124 text → Term V3_0 In text r
one-term text r (one f) h = f
one-term text r (more {text = front} {next = next} {right = right} c k) h = absurd (no-or next right k (lacks-parts 124 front next h).1)

-- without `(` it stands alone
one-atom : (text : List ℕ) (r : Range) → Factor V3_0 In text r → Lacks 40 text → Atom V3_0 text r
one-atom text r (atom a) h = a
one-atom text r (enclosed inner after is are) h = absurd (false≢true h)

-- the first byte of an operator
abbrev pub is_operator : ℕ → Bool
is_operator b = b == 61 || (b == 62 || (b == 60 || b == 94))

-- how an atom begins
data Shape (text : List ℕ) : Type 0 where
  any_version : text ≡ codes "-any" → Shape text
  no_version : text ≡ codes "-none" → Shape text
  compares : (b : ℕ) (rest : List ℕ) → text ≡ b ∷ rest → is_operator b ≡ true → Shape text

operator-shape : (op : Operator) (rest : List ℕ) → Shape (operator_text op ++ rest)
operator-shape Equal rest = compares 61 (61 ∷ rest) refl refl
operator-shape AtLeast rest = compares 62 (61 ∷ rest) refl refl
operator-shape Above rest = compares 62 rest refl refl
operator-shape AtMost rest = compares 60 (61 ∷ rest) refl refl
operator-shape Below rest = compares 60 rest refl refl
operator-shape Major rest = compares 94 (codes ">=" ++ rest) refl refl

set-shape : (op : Operator) (blanks inner after : List ℕ) → Shape (operator_text op ++ blanks ++ codes "{" ++ inner ++ after ++ codes "}")
set-shape Equal blanks inner after = compares 61 _ refl refl
set-shape AtLeast blanks inner after = compares 62 _ refl refl
set-shape Above blanks inner after = compares 62 _ refl refl
set-shape AtMost blanks inner after = compares 60 _ refl refl
set-shape Below blanks inner after = compares 60 _ refl refl
set-shape Major blanks inner after = compares 94 _ refl refl

shape-of : (text : List ℕ) (r : Range) → Atom V3_0 text r → Shape text
shape-of text r any = any_version refl
shape-of text r none = no_version refl
shape-of text r (version op {text = rest} is) = operator-shape op rest
shape-of text r (prefix blanks v are is) = compares 61 _ refl refl
shape-of text r (set op blanks inner after has are is also) = set-shape op blanks inner after

operator-solid : (b : ℕ) → is_operator b ≡ true → is_blank b ≡ false
operator-solid b h = grind (arith, nat_tests)

head-is : (a b : ℕ) (xs ys : List ℕ) (l k : List (List ℕ)) → (a ∷ xs) ∷ l ≡ (b ∷ ys) ∷ k → a ≡ b
head-is a b xs ys l k e = cc

-- one of the two words that are ranges stands alone
abbrev pub IsRangeWord : List (List ℕ) → Type 0
IsRangeWord found = (found ≡ codes "-any" ∷ []) ⊎ (found ≡ codes "-none" ∷ [])

shape-word : (text after : List ℕ) (b : ℕ) (word : List ℕ) (rest : List (List ℕ)) → words (text ++ after) ≡ (b ∷ word) ∷ rest → is_operator b ≡ false → Blanks after → Shape text
    → IsRangeWord (words (text ++ after))
shape-word text after b word rest e other are (any_version is) = inl (ap (λ t. words (t ++ after)) is ∙ words-end 45 (codes "any") after refl are)
shape-word text after b word rest e other are (no_version is) = inr (ap (λ t. words (t ++ after)) is ∙ words-end 45 (codes "none") after refl are)
shape-word text after b word rest e other are (compares c tail is compared) =
    let found = begins-word c (tail ++ after) (operator-solid c compared) in
    let same : c ≡ b = head-is c b found.0 word found.1 rest (sym found.2 ∙ ap (λ t. words (t ++ after)) (sym is) ∙ e) in
    absurd (false≢true (sym other ∙ ap is_operator (sym same) ∙ compared))

led-word : (front after : List ℕ) (r : Range) (b : ℕ) (word : List ℕ) (rest : List (List ℕ)) → words (front ++ after) ≡ (b ∷ word) ∷ rest → is_operator b ≡ false → Lacks 40 front → Blanks after
    → Led (Factor V3_0 In) front r → IsRangeWord (words (front ++ after))
led-word front after r b word rest e other lacks are (led blanks {text = text} blank is) =
    let same : words ((blanks ++ text) ++ after) ≡ words (text ++ after) = ap words (append_assoc blanks text after) ∙ words-skip blanks (text ++ after) blank in
    subst IsRangeWord (sym same) (shape-word text after b word rest (sym same ∙ e) other are (shape-of text r (one-atom text r is (lacks-parts 40 blanks text lacks).1)))

no-bar : (b : ℕ) → is_plain_byte b ≡ true → not (b == 124) ≡ true
no-bar b h = grind (arith, nat_tests)

no-and-sign : (b : ℕ) → is_plain_byte b ≡ true → not (b == 38) ≡ true
no-and-sign b h = grind (arith, nat_tests)

no-open : (b : ℕ) → is_plain_byte b ≡ true → not (b == 40) ≡ true
no-open b h = grind (arith, nat_tests)

lacks : (byte : ℕ) → ((b : ℕ) → is_plain_byte b ≡ true → not (b == byte) ≡ true) → (front after : List ℕ) → list_all is_plain_byte (front ++ after) ≡ true → Lacks byte front
lacks byte apart front after plain = (lacks-parts byte front after (all-less is_plain_byte (λ b. not (b == byte)) apart (front ++ after) plain)).0

-- `-any` or `-none` is the one word of such a text that is a range
pub only-word : (text : List ℕ) (b : ℕ) (word : List ℕ) (rest : List (List ℕ)) → words text ≡ (b ∷ word) ∷ rest → is_operator b ≡ false → list_all is_plain_byte text ≡ true
    → (r : Range) → Stands V3_0 64 text r → IsRangeWord (words text)
only-word text b word rest e other plain r (empty blanks) = absurd (no-words (sym e ∙ words-none text blanks))
  where
    no-words : (b ∷ word) ∷ rest ≡ [] → ⊥
    no-words h = cc h
only-word text b word rest e other plain r (range front after c are) =
    led-word front after r b word rest e other (lacks 40 no-open front after plain) are
    (one-factor front r (one-term front r c (lacks 124 no-bar front after plain)) (lacks 38 no-and-sign front after plain))
