-- Reading words and tests.
use Rattle.std.proofs.Common.{◌≡◌, ◌⊎◌, inl, inr, ℕ, ◌+◌, Bool, true, false, ◌&&◌, List, [], ◌∷◌, ◌++◌, codes, Ok, refl, sym, ap, ◌∙◌, subst, append_assoc, append-nil, arith}
use Rattle.std.specs.Prelude.{◌==◌, nat_lt}
use Rattle.std.specs.Char.{to_ascii_lowercase}
use Rattle.std.specs.List.{list_all}
use Rattle.std.specs.Str.{str_to_ascii_lowercase}
use Rattle.std.proofs.lemmas.Bool.{false≢true, and_parts, and_from, eqb-true, eq-eqb}
use Rattle.std.proofs.lemmas.Bool.Decides.{nat_tests}
use Rattle.plan_types.specs.declared.range.Spec.{Spec}
use Rattle.plan_types.specs.declared.range.Range.{Range}
use Rattle.plan_types.specs.declared.range.Range.TheVariants.{Any}
use Rattle.plan_types.specs.declared.condition.Cond.{Cond}
use Rattle.plan_types.specs.declared.condition.Cond.TheVariants.{Always, Never, Flag, Os, Arch, Impl}
use Rattle.plan_types.specs.Bytes.{is_blank}
use Rattle.plan_types.specs.Name.{is_component_byte, is_component_name, is_flag_name}
use Rattle.text_grammar.specs.Parts.{Led, led, Worded, worded}
use Rattle.text_grammar.specs.Reading.{is_letter, valued}
use Rattle.text_grammar.proofs.FrontReaders.{Reader}
use Rattle.text_grammar.proofs.LeadingBlanks as spaces
use Rattle.text_grammar.proofs.Closings.{Closed, closed}
use Rattle.text_grammar.proofs.ReaderSteps.{Done, done, good_done}
use Rattle.text_grammar.proofs.LetterReaders.{Pair, same_pair, Passing, passing, Fork, here, there, pair_choose, pair_map, pair_as, pair_word, never_word, solid_word}
use Rattle.version_range.specs.Grammar.{empty}
use Rattle.condition_text.specs.Grammar.{Name, name, Enclosed, enclosed, Compiled, compiled, Versions, versions, WiderVersions, Atom, always, never, flag, os, arch, compiler}
use Rattle.condition_text.specs.Reading.{named_at, begins_flag, argument, compiler_at, cond_tail, flag_at, os_at, arch_at, impl_at, word_at, from_a, from_o, after_f, from_f, atom_at}
use Rattle.condition_text.proofs.CondKind.{cond_kind, is_open}
use Rattle.condition_text.proofs.CondTails.{wide_tail}
use Rattle.condition_text.proofs.ConditionNames.{Run, run, argument_pair}
use Rattle.condition_text.proofs.Compilers.{Named, named, impl_pair}
use Rattle.conditionals.specs.Environment.{system_of}

-- ---- letters

letter_byte : (l b : ℕ) → is_letter l b ≡ true → (b ≡ l) ⊎ (b + 32 ≡ l)
letter_byte l b h = by (nat_lt b 65) refl (nat_lt b 91) refl (eqb-true (to_ascii_lowercase b) l h)
  where
    by : (s : Bool) → nat_lt b 65 ≡ s → (t : Bool) → nat_lt b 91 ≡ t → to_ascii_lowercase b ≡ l → (b ≡ l) ⊎ (b + 32 ≡ l)
    by true q t k e = inl (sym (small q) ∙ e)
      where
        small : nat_lt b 65 ≡ true → to_ascii_lowercase b ≡ b
        small q = rw q refl
    by false q true k e = inr (sym (upper q k) ∙ e)
      where
        upper : nat_lt b 65 ≡ false → nat_lt b 91 ≡ true → to_ascii_lowercase b ≡ b + 32
        upper q k = rw q (rw k refl)
    by false q false k e = inl (sym (other q k) ∙ e)
      where
        other : nat_lt b 65 ≡ false → nat_lt b 91 ≡ false → to_ascii_lowercase b ≡ b
        other q k = rw q (rw k refl)

-- a test that both cases of a letter fail
solid : (test : ℕ → Bool) (l u : ℕ) → u + 32 ≡ l → test l ≡ false → test u ≡ false → (b : ℕ) → is_letter l b ≡ true → test b ≡ false
solid test l u e lower upper b h = by (letter_byte l b h)
  where
    by : (b ≡ l) ⊎ (b + 32 ≡ l) → test b ≡ false
    by (inl same) = ap test same ∙ lower
    by (inr same) = let at : b ≡ u = omega (arith, same, e) in ap test at ∙ upper

never_fork : {A : Type 0} (test first : ℕ → Bool) (K M : List ℕ → A → Type 0) → ((b : ℕ) → first b ≡ true → test b ≡ false) → spaces.Never test M → spaces.Never test (Fork first K M)
never_fork test first K M apart none text x (here b {text = t} h k) = (b, t, refl, apart b h)
never_fork test first K M apart none text x (there m) = none text x m

letters_apart : (m l : ℕ) → (l == m) ≡ false → (b : ℕ) → is_letter l b ≡ true → is_letter m b ≡ false
letters_apart m l apart b h = ap (λ c. c == m) (eqb-true (to_ascii_lowercase b) l h) ∙ apart

-- ---- other values

pub data Image {A B : Type 0} (f : A → B) (L : List ℕ → A → Type 0) : List ℕ → B → Type 0 where
  image : {text : List ℕ} {x : A} → L text x → Image f L text (f x)

of_image : {A B : Type 0} (f : A → B) (L : List ℕ → A → Type 0) (text : List ℕ) (y : B) → Image f L text y → (x : A) × L text x × (y ≡ f x)
of_image f L text y (image {x = x} l) = (x, l, refl)

-- ---- names in parentheses

abbrev In : (ℕ → Bool) → (ℕ → Bool) → List ℕ → List ℕ → Type 0
In first part = Led (Passing is_open (Led (Closed 41 (Run first part))))

flat : (before inner text after : List ℕ) → before ++ (40 ∷ (inner ++ (text ++ (after ++ 41 ∷ [])))) ≡ ((((before ++ codes "(") ++ inner) ++ text) ++ after) ++ codes ")"
flat before inner text after =
    sym (append_assoc ((((before ++ codes "(") ++ inner) ++ text)) after (codes ")")
    ∙ append_assoc ((before ++ codes "(") ++ inner) text (after ++ codes ")")
    ∙ append_assoc (before ++ codes "(") inner (text ++ (after ++ codes ")"))
    ∙ append_assoc before (codes "(") (inner ++ (text ++ (after ++ codes ")"))))

module _ (form : List ℕ → Bool) (first part : ℕ → Bool)
    (to-form : (b : ℕ) (bs : List ℕ) → (first b && part b) ≡ true → list_all part bs ≡ true → form (b ∷ bs) ≡ true)
    (of-form : (text : List ℕ) → form text ≡ true → Run first part text text) where
  to_enclosed : (text x : List ℕ) → In first part text x → Enclosed (Name form) text (str_to_ascii_lowercase x)
  to_enclosed text x (led before are (passing b h (led inner all (closed t after (run c cs p q) ends)))) =
      subst (λ u. Enclosed (Name form) u (str_to_ascii_lowercase (c ∷ cs)))
      (sym (flat before inner (c ∷ cs) after) ∙ ap (λ y. before ++ (y ∷ (inner ++ ((c ∷ cs) ++ (after ++ 41 ∷ []))))) (sym (eqb-true b 40 h)))
      (enclosed before inner after are all (name (c ∷ cs) (to-form c cs p q)) ends)

  of_enclosed : (text y : List ℕ) → Enclosed (Name form) text y → (x : List ℕ) × In first part text x × (y ≡ str_to_ascii_lowercase x)
  of_enclosed text y (enclosed before inner after are all (name t h) ends) =
      (t, subst (λ u. In first part u t) (flat before inner t after) (led before are (passing 40 refl (led inner all (closed t after (of-form t h) ends)))), refl)

abbrev part : ℕ → Bool
part = is_component_byte

to_flag : (b : ℕ) (bs : List ℕ) → (begins_flag b && part b) ≡ true → list_all part bs ≡ true → is_flag_name (b ∷ bs) ≡ true
to_flag b bs h all = let p = and_parts (begins_flag b) (part b) h in and_from (begins_flag b) (list_all part (b ∷ bs)) p.0 (and_from (part b) (list_all part bs) p.1 all)

of_flag : (text : List ℕ) → is_flag_name text ≡ true → Run begins_flag part text text
of_flag [] h = absurd (false≢true h)
of_flag (b ∷ bs) h = let p = and_parts (begins_flag b) (list_all part (b ∷ bs)) h in let q = and_parts (part b) (list_all part bs) p.1 in run b bs (and_from (begins_flag b) (part b) p.0 q.0) q.1

to_component : (b : ℕ) (bs : List ℕ) → (part b && part b) ≡ true → list_all part bs ≡ true → is_component_name (b ∷ bs) ≡ true
to_component b bs h all = and_from (part b) (list_all part bs) (and_parts (part b) (part b) h).0 all

of_component : (text : List ℕ) → is_component_name text ≡ true → Run part part text text
of_component [] h = absurd (false≢true h)
of_component (b ∷ bs) h = let p = and_parts (part b) (list_all part bs) h in run b bs (and_from (part b) (part b) p.0 p.0) p.1

-- ---- a compiler in parentheses

module _ (T : List ℕ → Range → Type 0) where
  abbrev InCompiler : List ℕ → List ℕ × Range → Type 0
  InCompiler = Led (Passing is_open (Led (Named T)))

  flat_named : (before inner n text : List ℕ) → before ++ (40 ∷ (inner ++ (n ++ text))) ≡ (((before ++ codes "(") ++ inner) ++ n) ++ text
  flat_named before inner n text =
      sym (append_assoc ((before ++ codes "(") ++ inner) n text ∙ append_assoc (before ++ codes "(") inner (n ++ text) ∙ append_assoc before (codes "(") (inner ++ (n ++ text)))

  to_compiled : (text : List ℕ) (x : List ℕ × Range) → InCompiler text x → Compiled T text x
  to_compiled text x (led before are (passing b h (led inner all (named n {text = t} {r = r} is l)))) =
      subst (λ u. Compiled T u (str_to_ascii_lowercase n, r)) (sym (flat_named before inner n t) ∙ ap (λ y. before ++ (y ∷ (inner ++ (n ++ t)))) (sym (eqb-true b 40 h))) (compiled before inner n are all is l)

  of_compiled : (text : List ℕ) (x : List ℕ × Range) → Compiled T text x → InCompiler text x
  of_compiled text x (compiled before inner n {text = t} {r = r} are all is l) =
      subst (λ u. InCompiler u (str_to_ascii_lowercase n, r)) (flat_named before inner n t) (led before are (passing 40 refl (led inner all (named n is l))))

-- ---- the tree of words

abbrev FlagL : List ℕ → Cond → Type 0
FlagL = Image (λ x. Flag (str_to_ascii_lowercase x)) (In begins_flag part)

abbrev OsL : List ℕ → Cond → Type 0
OsL = Image (λ x. Os (system_of (str_to_ascii_lowercase x))) (In part part)

abbrev ArchL : List ℕ → Cond → Type 0
ArchL = Image (λ x. Arch (str_to_ascii_lowercase x)) (In part part)

abbrev TrueL : List ℕ → Cond → Type 0
TrueL = Worded (codes "rue") (Done Always)

abbrev FalseL : List ℕ → Cond → Type 0
FalseL = Worded (codes "lse") (Done Never)

abbrev AfterF : List ℕ → Cond → Type 0
AfterF = Fork (is_letter 97) FalseL (Worded (codes "lag") FlagL)

module _ (T : List ℕ → Range → Type 0) where
  abbrev ImplL : List ℕ → Cond → Type 0
  ImplL = Image (λ c. Impl c.0 c.1) (InCompiler T)

  abbrev FromA : List ℕ → Cond → Type 0
  FromA = Fork (is_letter 97) (Worded (codes "rch") ArchL) (Worded (codes "impl") ImplL)

  abbrev FromO : List ℕ → Cond → Type 0
  FromO = Fork (is_letter 111) (Worded (codes "s") OsL) FromA

  abbrev FromF : List ℕ → Cond → Type 0
  FromF = Fork (is_letter 102) AfterF FromO

  abbrev Words : List ℕ → Cond → Type 0
  Words = Fork (is_letter 116) TrueL FromF

  -- a first letter, and the others
  with_first : {A : Type 0} (letter : ℕ) (letters : List ℕ) (K : List ℕ → A → Type 0) (b : ℕ) (text : List ℕ) (x : A) → is_letter letter b ≡ true → Worded letters K text x → Worded (letter ∷ letters) K (b ∷ text) x
  with_first letter letters K b text x h (worded front {text = t} e k) = worded (b ∷ front) (λ i. eqb-true (to_ascii_lowercase b) letter h i ∷ e i) k

  map_word : {A B : Type 0} (word : List ℕ) (K : List ℕ → A → Type 0) (K' : List ℕ → B → Type 0) (f : A → B) → ((text : List ℕ) (x : A) → K text x → K' text (f x)) → (text : List ℕ) (x : A) → Worded word K text x → Worded word K' text (f x)
  map_word word K K' f g text x (worded front {text = t} e k) = worded front e (g t x k)

  whole_word : (word : List ℕ) (c : Cond) (text : List ℕ) (x : Cond) → Worded word (Done c) text x → (str_to_ascii_lowercase text ≡ word) × (c ≡ x)
  whole_word word c text x (worded front e done) = (ap str_to_ascii_lowercase (append-nil front) ∙ e, refl)

  tested : {A : Type 0} (word : List ℕ) (f : A → Cond) (K : List ℕ → A → Type 0) (text : List ℕ) (c : Cond) → Worded word (Image f K) text c → (x : A) × Worded word K text x × (c ≡ f x)
  tested word f K text c (worded front {text = t} e (image {x = x} k)) = (x, worded front e k, refl)

  of_words : (text : List ℕ) (c : Cond) → Words text c → Atom T text c
  of_words text c (here b {text = t} h w) = let p = whole_word (116 ∷ codes "rue") Always (b ∷ t) c (with_first 116 (codes "rue") (Done Always) b t c h w) in subst (Atom T (b ∷ t)) p.1 (always p.0)
  of_words text c (there (here b h (here b' {text = t} h' w))) =
      let p = whole_word (102 ∷ 97 ∷ codes "lse") Never (b ∷ b' ∷ t) c (with_first 102 (97 ∷ codes "lse") (Done Never) b (b' ∷ t) c h (with_first 97 (codes "lse") (Done Never) b' t c h' w)) in subst (Atom T (b ∷ b' ∷ t)) p.1 (never p.0)
  of_words text c (there (here b h (there {text = t} w))) =
      let p = tested (102 ∷ codes "lag") (λ x. Flag (str_to_ascii_lowercase x)) (In begins_flag part) (b ∷ t) c (with_first 102 (codes "lag") FlagL b t c h w) in
      subst (Atom T (b ∷ t)) (sym p.2) (flag (map_word (codes "flag") (In begins_flag part) (Enclosed (Name is_flag_name)) str_to_ascii_lowercase (to_enclosed is_flag_name begins_flag part to_flag of_flag) (b ∷ t) p.0 p.1))
  of_words text c (there (there (here b {text = t} h w))) =
      let p = tested (111 ∷ codes "s") (λ x. Os (system_of (str_to_ascii_lowercase x))) (In part part) (b ∷ t) c (with_first 111 (codes "s") OsL b t c h w) in
      subst (Atom T (b ∷ t)) (sym p.2) (os (map_word (codes "os") (In part part) (Enclosed (Name is_component_name)) str_to_ascii_lowercase (to_enclosed is_component_name part part to_component of_component) (b ∷ t) p.0 p.1))
  of_words text c (there (there (there (here b {text = t} h w)))) =
      let p = tested (97 ∷ codes "rch") (λ x. Arch (str_to_ascii_lowercase x)) (In part part) (b ∷ t) c (with_first 97 (codes "rch") ArchL b t c h w) in
      subst (Atom T (b ∷ t)) (sym p.2) (arch (map_word (codes "arch") (In part part) (Enclosed (Name is_component_name)) str_to_ascii_lowercase (to_enclosed is_component_name part part to_component of_component) (b ∷ t) p.0 p.1))
  of_words text c (there (there (there (there {text = t} w)))) =
      let p = tested (codes "impl") (λ x. Impl x.0 x.1) (InCompiler T) t c w in
      subst (Atom T t) (sym p.2) (compiler (map_word (codes "impl") (InCompiler T) (Compiled T) (λ x. x) (to_compiled T) t p.0 p.1))

  -- the converse
  cut_first : {A : Type 0} (letter : ℕ) (letters : List ℕ) (K : List ℕ → A → Type 0) (text : List ℕ) (x : A) → Worded (letter ∷ letters) K text x → (b : ℕ) × (t : List ℕ) × (text ≡ b ∷ t) × (is_letter letter b ≡ true) × Worded letters K t x
  cut_first letter letters K text x (worded [] e k) = absurd (cc e)
  cut_first letter letters K text x (worded (b ∷ front) {text = t} e k) = (b, front ++ t, refl, eq-eqb (to_ascii_lowercase b) letter (cc e), worded front (cc e) k)

  word_of : (word : List ℕ) (c : Cond) (text : List ℕ) → str_to_ascii_lowercase text ≡ word → Worded word (Done c) text c
  word_of word c text e = subst (λ t. Worded word (Done c) t c) (append-nil text) (worded text e done)

  test_word : {A B : Type 0} (word : List ℕ) (f : A → Cond) (g : B → Cond) (K : List ℕ → A → Type 0) (K' : List ℕ → B → Type 0) → ((text : List ℕ) (y : B) → K' text y → (x : A) × K text x × (g y ≡ f x))
      → (text : List ℕ) (y : B) → Worded word K' text y → Worded word (Image f K) text (g y)
  test_word word f g K K' back text y (worded front {text = t} e k) = let p = back t y k in worded front e (subst (Image f K t) (sym p.2) (image p.1))

  to_words : (text : List ℕ) (c : Cond) → Atom T text c → Words text c
  to_words text c (always e) =
      let p = cut_first 116 (codes "rue") (Done Always) text Always (word_of (codes "true") Always text e) in
      subst (λ t. Words t Always) (sym p.2) (here p.0 p.3 p.4)
  to_words text c (never e) =
      let p = cut_first 102 (codes "alse") (Done Never) text Never (word_of (codes "false") Never text e) in
      let q = cut_first 97 (codes "lse") (Done Never) p.1 Never p.4 in
      subst (λ t. Words t Never) (sym p.2) (there (here p.0 p.3 (subst (λ t. AfterF t Never) (sym q.2) (here q.0 q.3 q.4))))
  to_words text c (flag {f = f} w) =
      let p = cut_first 102 (codes "lag") FlagL text (Flag f) (test_word (codes "flag") (λ x. Flag (str_to_ascii_lowercase x)) Flag (In begins_flag part) (Enclosed (Name is_flag_name)) (λ t y k. let q = of_enclosed is_flag_name begins_flag part to_flag of_flag t y k in (q.0, q.1, ap Flag q.2)) text f w) in
      subst (λ t. Words t (Flag f)) (sym p.2) (there (here p.0 p.3 (there p.4)))
  to_words text c (os {x = x} w) =
      let p = cut_first 111 (codes "s") OsL text (Os (system_of x)) (test_word (codes "os") (λ y. Os (system_of (str_to_ascii_lowercase y))) (λ y. Os (system_of y)) (In part part) (Enclosed (Name is_component_name)) (λ t y k. let q = of_enclosed is_component_name part part to_component of_component t y k in (q.0, q.1, ap (λ z. Os (system_of z)) q.2)) text x w) in
      subst (λ t. Words t (Os (system_of x))) (sym p.2) (there (there (here p.0 p.3 p.4)))
  to_words text c (arch {x = x} w) =
      let p = cut_first 97 (codes "rch") ArchL text (Arch x) (test_word (codes "arch") (λ y. Arch (str_to_ascii_lowercase y)) Arch (In part part) (Enclosed (Name is_component_name)) (λ t y k. let q = of_enclosed is_component_name part part to_component of_component t y k in (q.0, q.1, ap Arch q.2)) text x w) in
      subst (λ t. Words t (Arch x)) (sym p.2) (there (there (there (here p.0 p.3 p.4))))
  to_words text c (compiler {c = x} w) =
      there (there (there (there (test_word (codes "impl") (λ y. Impl y.0 y.1) (λ y. Impl y.0 y.1) (InCompiler T) (Compiled T) (λ t y k. (y, of_compiled T t y k, refl)) text x w))))

  -- ---- the first bytes of atoms

  module _ (test : ℕ → Bool) (t-no : (b : ℕ) → is_letter 116 b ≡ true → test b ≡ false) (f-no : (b : ℕ) → is_letter 102 b ≡ true → test b ≡ false) (o-no : (b : ℕ) → is_letter 111 b ≡ true → test b ≡ false)
      (a-no : (b : ℕ) → is_letter 97 b ≡ true → test b ≡ false) (i-no : (b : ℕ) → is_letter 105 b ≡ true → test b ≡ false) where
    words_apart : spaces.Never test Words
    words_apart = never_fork test (is_letter 116) TrueL FromF t-no (never_fork test (is_letter 102) AfterF FromO f-no (never_fork test (is_letter 111) (Worded (codes "s") OsL) FromA o-no
        (never_fork test (is_letter 97) (Worded (codes "rch") ArchL) (Worded (codes "impl") ImplL) a-no (solid_word test 105 (codes "mpl") ImplL i-no))))

    pub never_atom : spaces.Never test (Atom T)
    never_atom text c a = words_apart text c (to_words text c a)

  -- a test that the first letters of atoms fail, in both cases
  pub no_atom : (test : ℕ → Bool) → test 116 ≡ false → test 84 ≡ false → test 102 ≡ false → test 70 ≡ false → test 111 ≡ false → test 79 ≡ false → test 97 ≡ false → test 65 ≡ false → test 105 ≡ false → test 73 ≡ false → spaces.Never test (Atom T)
  no_atom test t1 t2 f1 f2 o1 o2 a1 a2 i1 i2 = never_atom test (solid test 116 84 refl t1 t2) (solid test 102 70 refl f1 f2) (solid test 111 79 refl o1 o2) (solid test 97 65 refl a1 a2) (solid test 105 73 refl i1 i2)

-- ---- readers

module _ (spec : Spec) (V V' : List ℕ → Range → Type 0) (P P' : Reader Range) (compilers : Pair (cond_kind spec) (InCompiler V) (InCompiler V') (argument (compiler_at P)) (argument (compiler_at P'))) (sample_tail : V (codes ")") Any) where
  no-bytes : (b : ℕ) → (cond_kind spec).digits.digit b ≡ false
  no-bytes b = refl

  mapped : {A : Type 0} (f : A → Cond) (L L' : List ℕ → A → Type 0) (R R' : Reader A) → Pair (cond_kind spec) L L' R R' → (Q Q' : Reader Cond) → ((text : List ℕ) → Q text ≡ valued f (R text)) → ((text : List ℕ) → Q' text ≡ valued f (R' text)) → Pair (cond_kind spec) (Image f L) (Image f L') Q Q'
  mapped f L L' R R' p Q Q' same same' = pair_map (cond_kind spec) f L L' R R' p (Image f L) (Image f L') (λ t x l. image l) (of_image f L) (λ t x l. image l) (of_image f L') Q Q' same same'

  done_pair : (c : Cond) → Pair (cond_kind spec) (Done c) (Done c) (λ t. Ok (c, t)) (λ t. Ok (c, t))
  done_pair c = same_pair (cond_kind spec) (Done c) (λ t. Ok (c, t)) (good_done (cond_kind spec) c)

  true_pair : Pair (cond_kind spec) TrueL TrueL (word_at (codes "rue") (λ t. Ok (Always, t))) (word_at (codes "rue") (λ t. Ok (Always, t)))
  true_pair = pair_word (cond_kind spec) no-bytes (Done Always) (Done Always) (λ t. Ok (Always, t)) (λ t. Ok (Always, t)) (done_pair Always) [] Always done (codes "rue") refl

  false_pair : Pair (cond_kind spec) FalseL FalseL (word_at (codes "lse") (λ t. Ok (Never, t))) (word_at (codes "lse") (λ t. Ok (Never, t)))
  false_pair = pair_word (cond_kind spec) no-bytes (Done Never) (Done Never) (λ t. Ok (Never, t)) (λ t. Ok (Never, t)) (done_pair Never) [] Never done (codes "lse") refl

  -- `(a)`
  sample_name : (first : ℕ → Bool) → (first 97 && part 97) ≡ true → In first part (codes "(a)") (codes "a")
  sample_name first h = led [] refl (passing 40 refl (led [] refl (closed (codes "a") [] (run 97 [] h refl) refl)))

  blank_part : (b : ℕ) → is_blank b ≡ true → part b ≡ false
  blank_part b h = grind (arith, nat_tests)

  flag_pair : Pair (cond_kind spec) FlagL FlagL flag_at flag_at
  flag_pair = let p = argument_pair begins_flag part spec 97 refl refl blank_part in mapped (λ x. Flag (str_to_ascii_lowercase x)) (In begins_flag part) (In begins_flag part) (named_at begins_flag part) (named_at begins_flag part) p flag_at flag_at (λ t. refl) (λ t. refl)

  os_pair : Pair (cond_kind spec) OsL OsL os_at os_at
  os_pair = let p = argument_pair part part spec 97 refl refl blank_part in mapped (λ x. Os (system_of (str_to_ascii_lowercase x))) (In part part) (In part part) (named_at part part) (named_at part part) p os_at os_at (λ t. refl) (λ t. refl)

  arch_pair : Pair (cond_kind spec) ArchL ArchL arch_at arch_at
  arch_pair = let p = argument_pair part part spec 97 refl refl blank_part in mapped (λ x. Arch (str_to_ascii_lowercase x)) (In part part) (In part part) (named_at part part) (named_at part part) p arch_at arch_at (λ t. refl) (λ t. refl)

  compiler_pair : Pair (cond_kind spec) (ImplL V) (ImplL V') (impl_at P) (impl_at P')
  compiler_pair = mapped (λ c. Impl c.0 c.1) (InCompiler V) (InCompiler V') (argument (compiler_at P)) (argument (compiler_at P')) compilers (impl_at P) (impl_at P') (λ t. refl) (λ t. refl)

  flag_word : Pair (cond_kind spec) (Worded (codes "lag") FlagL) (Worded (codes "lag") FlagL) (word_at (codes "lag") flag_at) (word_at (codes "lag") flag_at)
  flag_word = pair_word (cond_kind spec) no-bytes FlagL FlagL flag_at flag_at flag_pair (codes "(a)") (Flag (codes "a")) (image (sample_name begins_flag refl)) (codes "lag") refl

  os_word : Pair (cond_kind spec) (Worded (codes "s") OsL) (Worded (codes "s") OsL) (word_at (codes "s") os_at) (word_at (codes "s") os_at)
  os_word = pair_word (cond_kind spec) no-bytes OsL OsL os_at os_at os_pair (codes "(a)") (Os (codes "a")) (image (sample_name part refl)) (codes "s") refl

  arch_word : Pair (cond_kind spec) (Worded (codes "rch") ArchL) (Worded (codes "rch") ArchL) (word_at (codes "rch") arch_at) (word_at (codes "rch") arch_at)
  arch_word = pair_word (cond_kind spec) no-bytes ArchL ArchL arch_at arch_at arch_pair (codes "(a)") (Arch (codes "a")) (image (sample_name part refl)) (codes "rch") refl

  impl_word : Pair (cond_kind spec) (Worded (codes "impl") (ImplL V)) (Worded (codes "impl") (ImplL V')) (word_at (codes "impl") (impl_at P)) (word_at (codes "impl") (impl_at P'))
  impl_word = pair_word (cond_kind spec) no-bytes (ImplL V) (ImplL V') (impl_at P) (impl_at P') compiler_pair (codes "(a)") (Impl (codes "a") Any)
      (image (led [] refl (passing 40 refl (led [] refl (named (codes "a") refl sample_tail))))) (codes "impl") refl

  a_pair : Pair (cond_kind spec) (FromA V) (FromA V') (from_a P) (from_a P')
  a_pair = pair_choose (cond_kind spec) (is_letter 97) (λ b h. refl) (Worded (codes "rch") ArchL) (Worded (codes "rch") ArchL) (word_at (codes "rch") arch_at) (word_at (codes "rch") arch_at) arch_word
      (Worded (codes "impl") (ImplL V)) (Worded (codes "impl") (ImplL V')) (word_at (codes "impl") (impl_at P)) (word_at (codes "impl") (impl_at P')) impl_word
      (never_word 97 105 (codes "mpl") (ImplL V) refl) (never_word 97 105 (codes "mpl") (ImplL V') refl)

  never_a : (T : List ℕ → Range → Type 0) (m : ℕ) → (97 == m) ≡ false → (105 == m) ≡ false → spaces.Never (is_letter m) (FromA T)
  never_a T m a i = never_fork (is_letter m) (is_letter 97) (Worded (codes "rch") ArchL) (Worded (codes "impl") (ImplL T)) (letters_apart m 97 a) (never_word m 105 (codes "mpl") (ImplL T) i)

  never_o : (T : List ℕ → Range → Type 0) (m : ℕ) → (111 == m) ≡ false → (97 == m) ≡ false → (105 == m) ≡ false → spaces.Never (is_letter m) (FromO T)
  never_o T m o a i = never_fork (is_letter m) (is_letter 111) (Worded (codes "s") OsL) (FromA T) (letters_apart m 111 o) (never_a T m a i)

  never_f : (T : List ℕ → Range → Type 0) (m : ℕ) → (102 == m) ≡ false → (111 == m) ≡ false → (97 == m) ≡ false → (105 == m) ≡ false → spaces.Never (is_letter m) (FromF T)
  never_f T m f o a i = never_fork (is_letter m) (is_letter 102) AfterF (FromO T) (letters_apart m 102 f) (never_o T m o a i)

  o_pair : Pair (cond_kind spec) (FromO V) (FromO V') (from_o P) (from_o P')
  o_pair = pair_choose (cond_kind spec) (is_letter 111) (λ b h. refl) (Worded (codes "s") OsL) (Worded (codes "s") OsL) (word_at (codes "s") os_at) (word_at (codes "s") os_at) os_word
      (FromA V) (FromA V') (from_a P) (from_a P') a_pair (never_a V 111 refl refl) (never_a V' 111 refl refl)

  after_pair : Pair (cond_kind spec) AfterF AfterF after_f after_f
  after_pair = pair_choose (cond_kind spec) (is_letter 97) (λ b h. refl) FalseL FalseL (word_at (codes "lse") (λ t. Ok (Never, t))) (word_at (codes "lse") (λ t. Ok (Never, t))) false_pair
      (Worded (codes "lag") FlagL) (Worded (codes "lag") FlagL) (word_at (codes "lag") flag_at) (word_at (codes "lag") flag_at) flag_word (never_word 97 108 (codes "ag") FlagL refl) (never_word 97 108 (codes "ag") FlagL refl)

  f_pair : Pair (cond_kind spec) (FromF V) (FromF V') (from_f P) (from_f P')
  f_pair = pair_choose (cond_kind spec) (is_letter 102) (λ b h. refl) AfterF AfterF after_f after_f after_pair (FromO V) (FromO V') (from_o P) (from_o P') o_pair (never_o V 102 refl refl refl) (never_o V' 102 refl refl refl)

  words_pair : Pair (cond_kind spec) (Words V) (Words V') (atom_at P) (atom_at P')
  unfolding atom_at
  words_pair = pair_choose (cond_kind spec) (is_letter 116) (λ b h. refl) TrueL TrueL (word_at (codes "rue") (λ t. Ok (Always, t))) (word_at (codes "rue") (λ t. Ok (Always, t))) true_pair
      (FromF V) (FromF V') (from_f P) (from_f P') f_pair (never_f V 116 refl refl refl refl) (never_f V' 116 refl refl refl refl)

  whole_pair : Pair (cond_kind spec) (Atom V) (Atom V') (atom_at P) (atom_at P')
  whole_pair = pair_as (cond_kind spec) (Words V) (Words V') (atom_at P) (atom_at P') words_pair (Atom V) (Atom V') (of_words V) (to_words V) (of_words V') (to_words V') (atom_at P) (atom_at P') (λ t. refl) (λ t. refl)

pub atom_pair : (spec : Spec) (n : ℕ) → Pair (cond_kind spec) (Atom (Versions spec n)) (Atom (WiderVersions spec n)) (atom_at (cond_tail spec n)) (atom_at (wide_tail spec n))
atom_pair spec n = whole_pair spec (Versions spec n) (WiderVersions spec n) (cond_tail spec n) (wide_tail spec n) (impl_pair spec n) (versions [] (empty refl))
