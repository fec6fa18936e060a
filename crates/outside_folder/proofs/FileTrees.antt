-- Shared: when files form a tree.
use Rattle.std.proofs.Common.{◌≡◌, ◌≢◌, ◌⊎◌, inl, inr, ⊎_elim, ℕ, zero, suc, ◌+◌, ◌<◌, Bool, true, false, not, cond, ◌&&◌, ◌||◌, List, [], ◌∷◌, ◌++◌, length, take, drop, get_or, Option, Some, None, refl, sym, subst, ap, ◌∙◌, arith, length-take, length-drop}
use Rattle.std.specs.Prelude.{is_some, option_and_then}
use Rattle.std.proofs.Math.Seq.{drop-cons}
use Rattle.std.specs.List.{list_any}
use Rattle.std.specs.Str.{bytes_eq}
use Rattle.std.proofs.lemmas.Bool.{cases_Bool, cases_lt, false≢true, and_parts, and_from, not-true, or_parts}
use Rattle.std.proofs.lemmas.Slice.Eq.{bytes_eq-Decides}
use Rattle.outside_folder.specs.Files.{Bytes, is_path, is_tree, is_under, after, clashes, slash}
use Rattle.outside_folder.specs.MemFile.{told, Placed, AreDistinct, IsFront, IsFree, IsUnderFile}
use Rattle.outside_folder.specs.declared.mem_folder.MemFile.{MemFile}
use Rattle.outside_folder.proofs.Places.{Table, placed_at, not_placed, found, missing, placed_push, distinct_push}
use Rattle.std.specs.BTreeMap.{get_by_text}
use Rattle.std.specs.Map.{update}
use Rattle.std.proofs.lemmas.List.{take_more, get_or-take, get_or-drop, get_or_read}

-- all paths are well-formed, and no two files clash
pub record Good (files : List MemFile) : Type 0 where
  pub paths : (i : ℕ) (d : MemFile) → i < length files → is_path (get_or files i d).path ≡ true
  pub apart : (i j : ℕ) (d : MemFile) → i < j → j < length files → clashes (get_or files i d).path (get_or files j d).path ≡ false

not_any : (p : Bytes → Bool) (files : List MemFile) → list_any (λ other. p other.0) (told files) ≡ false → (k : ℕ) (d : MemFile) → k < length files → p (get_or files k d).path ≡ false
not_any p [] h k d lt = absurd (omega (arith, lt))
not_any p (g ∷ gs) h zero d lt = (or_parts (p g.path) _ h).0
not_any p (g ∷ gs) h (suc k) d lt = not_any p gs ((or_parts (p g.path) _ h).1) k d (omega (arith, lt))

any_none : (p : Bytes → Bool) (files : List MemFile) → ((k : ℕ) (d : MemFile) → k < length files → p (get_or files k d).path ≡ false) → list_any (λ other. p other.0) (told files) ≡ false
any_none p [] h = refl
any_none p (g ∷ gs) h = ap (λ t. t || list_any (λ other. p other.0) (told gs)) (h 0 g (omega arith)) ∙ any_none p gs (λ k d lt. h (suc k) d (omega (arith, lt)))

good_path : (g : MemFile) (gs : List MemFile) → is_path g.path ≡ true → Good gs → (i : ℕ) (d : MemFile) → i < length (g ∷ gs) → is_path (get_or (g ∷ gs) i d).path ≡ true
good_path g gs one more zero d lt = one
good_path g gs one more (suc i) d lt = more.paths i d (omega (arith, lt))

good_apart : (g : MemFile) (gs : List MemFile) → ((k : ℕ) (d : MemFile) → k < length gs → clashes g.path (get_or gs k d).path ≡ false) → Good gs →
    (i j : ℕ) (d : MemFile) → i < j → j < length (g ∷ gs) → clashes (get_or (g ∷ gs) i d).path (get_or (g ∷ gs) j d).path ≡ false
good_apart g gs one more i zero d ij lt = absurd (omega (arith, ij))
good_apart g gs one more zero (suc j) d ij lt = one j d (omega (arith, lt))
good_apart g gs one more (suc i) (suc j) d ij lt = more.apart i j d (omega (arith, ij)) (omega (arith, lt))

pub tree_good : (files : List MemFile) → is_tree (told files) ≡ true → Good files
tree_good [] h = record { paths = λ i d lt. absurd (omega (arith, lt)); apart = λ i j d ij lt. absurd (omega (arith, lt)) }
tree_good (g ∷ gs) h =
    let apart = not (list_any (λ other. clashes g.path other.0) (told gs)) in
    let one = and_parts (is_path g.path && apart) (is_tree (told gs)) h in
    let two = and_parts (is_path g.path) apart one.0 in
    let more = tree_good gs one.1 in
    record {
      paths = good_path g gs two.0 more;
      apart = good_apart g gs (not_any (clashes g.path) gs (not-true _ two.1)) more;
    }

pub good_tree : (files : List MemFile) → Good files → is_tree (told files) ≡ true
good_tree [] h = refl
good_tree (g ∷ gs) h =
    let apart = not (list_any (λ other. clashes g.path other.0) (told gs)) in
    and_from (is_path g.path && apart) (is_tree (told gs))
    (and_from (is_path g.path) apart (h.paths 0 g (omega arith)) (ap not (any_none (clashes g.path) gs (λ k d lt. h.apart 0 (suc k) d (omega arith) (omega (arith, lt))))))
    (good_tree gs (record { paths = λ i d lt. h.paths (suc i) d (omega (arith, lt)); apart = λ i j d ij lt. h.apart (suc i) (suc j) d (omega (arith, ij)) (omega (arith, lt)) }))

begins : (rest : Bytes) (t : Bool) → bytes_eq (slash ∷ []) (take 1 rest) ≡ t → is_some (cond t (Some (drop 1 rest)) None) ≡ true → (0 < length rest) × (get_or rest 0 0 ≡ slash)
begins [] true e h = absurd (cc)
begins (b ∷ bs) true e h = (omega arith, sym (ap (λ l. get_or l 0 0) ((bytes_eq-Decides (slash ∷ []) (b ∷ [])).0 e)))
begins rest false e h = absurd (cc)

abbrev under_if : Bytes → Bool → Bool
under_if rest t = is_some (option_and_then (after (slash ∷ [])) (cond t (Some rest) None))

front_if : (dir path : Bytes) (t : Bool) → bytes_eq dir (take (length dir) path) ≡ t → is_under dir path ≡ true → IsFront path (length dir) × (take (length dir) path ≡ dir)
front_if dir path true e h =
    let rest : Bytes = drop (length dir) path in
    let first = begins rest (bytes_eq (slash ∷ []) (take 1 rest)) refl (sym (ap (under_if rest) e) ∙ h) in
    let here = first.1 in
    let zero_more : length dir ≡ length dir + 0 = omega arith in
    ((omega (arith, first.0, length-drop (length dir) path), ap (λ k. get_or path k 0) zero_more ∙ sym (get_or-drop (length dir) path 0 0) ∙ here), sym ((bytes_eq-Decides dir (take (length dir) path)).0 e))
front_if dir path false e h = absurd (false≢true (sym (ap (under_if (drop (length dir) path)) e) ∙ h))

-- a directory above a path is a prefix of it before a slash
pub front_under : (dir path : Bytes) → is_under dir path ≡ true → IsFront path (length dir) × (take (length dir) path ≡ dir)
front_under dir path h = front_if dir path (bytes_eq dir (take (length dir) path)) refl h

pub under_front : (path : Bytes) (n : ℕ) → IsFront path n → is_under (take n path) path ≡ true
under_front path n h =
    let dir = take n path in
    let len : length dir ≡ n = omega (arith, length-take n path, h.0) in
    let same = (bytes_eq-Decides dir (take (length dir) path)).1 (ap (λ k. take k path) (sym len)) in
    let rest = drop (length dir) path in
    let one : slash ∷ [] ≡ take 1 rest = ap (λ b. b ∷ []) (sym h.1) ∙ ap (take 1) (sym (drop-cons path n 0 h.0)) ∙ ap (λ k. take 1 (drop k path)) (sym len) in
    ap (under_if rest) same ∙ ap (λ t. is_some (cond t (Some (drop 1 rest)) None)) ((bytes_eq-Decides (slash ∷ []) (take 1 rest)).1 one)

some_of : (place : Option ℕ) → is_some place ≡ true → (k : ℕ) × (place ≡ Some k)
some_of None h = absurd (cc)
some_of (Some k) h = (k, refl)

none_of : (place : Option ℕ) → is_some place ≡ false → place ≡ None
none_of None h = refl
none_of (Some k) h = absurd (cc)

-- two files with the same path form no tree
pub same_path : (files : List MemFile) (i j : ℕ) (d : MemFile) → i < j → j < length files → (get_or files i d).path ≡ (get_or files j d).path → is_tree (told files) ≡ false
same_path files i j d ij lt same = ⊎_elim
    (λ h. let p = (get_or files i d).path in let q = (get_or files j d).path in
    absurd (false≢true (sym ((or_parts (bytes_eq p q) (is_under p q) ((or_parts (bytes_eq p q || is_under p q) (is_under q p) ((tree_good files h).apart i j d ij lt)).0)).0) ∙ (bytes_eq-Decides p q).1 same)))
    (λ h. h)
    (cases_Bool (is_tree (told files)))

-- a file with the path of an earlier file forms no tree with it
pub contained : (files : List MemFile) (n : ℕ) (f : MemFile) (places : Table) → n < length files → f ≡ get_or files n f → Placed (take n files) places → is_some (get_by_text places f.path) ≡ true → is_tree (told files) ≡ false
contained files n f places lt is placed some =
    let at : (k : ℕ) × (get_by_text places f.path ≡ Some k) = some_of (get_by_text places f.path) some in
    let there = placed_at (take n files) places f.path at.0 placed at.1 in
    let old = found (take n files) f.path _ (there.1 f) in
    let below : old.0 < n = omega (arith, old.1, length-take n files) in
    same_path files old.0 n f below lt (ap (λ g. g.path) (sym (get_or-take n files old.0 f below)) ∙ old.2 f ∙ ap (λ g. g.path) is)

pub table_more : (files : List MemFile) (n : ℕ) (f : MemFile) (places places' : Table) (key : Bytes) → n < length files → f ≡ get_or files n f → AreDistinct (take n files) → Placed (take n files) places →
    is_some (get_by_text places f.path) ≡ false → key ≡ f.path → ((path : Bytes) → get_by_text places' path ≡ update bytes_eq (get_by_text places) key (Some n) path) →
    AreDistinct (take (n + 1) files) × Placed (take (n + 1) files) places'
table_more files n f places places' key lt is distinct placed some key-is step =
    let more = take_more files n f lt ∙ ap (λ x. take n files ++ x ∷ []) (sym is) in
    let none = none_of (get_by_text places f.path) some in
    let len : n ≡ length (take n files) = omega (arith, length-take n files, lt) in (
      subst AreDistinct (sym more) (distinct_push (take n files) f distinct (not_placed (take n files) places f.path placed none)),
      subst (λ x. Placed x places') (sym more) (placed_push (take n files) f places places' placed none
          (λ path. step path ∙ ap (λ k. cond (bytes_eq k path) (Some n) (get_by_text places path)) key-is ∙ ap (λ k. cond (bytes_eq f.path path) (Some k) (get_by_text places path)) len)),
    )

-- in a tree no file is under another
clash : (files : List MemFile) (i j : ℕ) (d : MemFile) → i < length files → j < length files → Good files → is_under (get_or files i d).path (get_or files j d).path ≡ true → i ≢ j → ⊥
clash files i j d ilt jlt good under differ =
    let p = (get_or files i d).path in
    let q = (get_or files j d).path in
    ⊎_elim
    (λ ij. false≢true (sym ((or_parts (bytes_eq p q) (is_under p q) ((or_parts (bytes_eq p q || is_under p q) (is_under q p) (good.apart i j d ij jlt)).0)).1) ∙ under))
    (λ ji. false≢true (sym ((or_parts (bytes_eq q p || is_under q p) (is_under p q) (good.apart j i d (omega (arith, ji, differ)) ilt)).1) ∙ under))
    (cases_lt i j)

differ : (files : List MemFile) (i j : ℕ) (d : MemFile) → i < j → j < length files → AreDistinct files → bytes_eq (get_or files i d).path (get_or files j d).path ≡ false
differ files i j d ij lt distinct = ⊎_elim (λ h. absurd (distinct i j d ij lt ((bytes_eq-Decides (get_or files i d).path (get_or files j d).path).0 h))) (λ h. h) (cases_Bool (bytes_eq (get_or files i d).path (get_or files j d).path))

-- ---- files with no file above them

-- the first files fit
abbrev pub Fits : List MemFile → Table → ℕ → Type 0
Fits files places n = (k : ℕ) (d : MemFile) → k < n → k < length files → (is_path (get_or files k d).path ≡ true) × IsFree places (get_or files k d).path

pub fits_more : (files : List MemFile) (places : Table) (n : ℕ) (f : MemFile) → n < length files → f ≡ get_or files n f → (is_path f.path ≡ true) × IsFree places f.path → Fits files places n → Fits files places (n + 1)
fits_more files places n f lt is here before k d low within = ⊎_elim
    (λ kn. before k d kn within)
    (λ nk. let same : k ≡ n = omega (arith, nk, low) in
    subst (λ g. (is_path g.path ≡ true) × IsFree places g.path) (get_or_read files n f lt is d ∙ ap (λ j. get_or files j d) (sym same)) here)
    (cases_lt k n)

module _ (files : List MemFile) (places : Table) (placed : Placed files places) where
  -- a file above one of the files: no tree
  under_file : (j : ℕ) (d : MemFile) → j < length files → IsUnderFile places (get_or files j d).path → is_tree (told files) ≡ false
  under_file j d lt h =
      let path = (get_or files j d).path in
      let at = some_of (get_by_text places (take h.0 path)) h.2 in
      let there = placed_at files places (take h.0 path) at.0 placed at.1 in
      let above = found files (take h.0 path) _ (there.1 d) in
      let same : (get_or files above.0 d).path ≡ take h.0 path = above.2 d in
      let under : is_under (get_or files above.0 d).path path ≡ true = ap (λ p. is_under p path) same ∙ under_front path h.0 h.1 in
      let shorter : length (get_or files above.0 d).path < length path = omega (arith, ap length same, length-take h.0 path, h.1.0) in
      ⊎_elim (λ tree. absurd (clash files above.0 j d above.1 lt (tree_good files tree) under (λ e. omega (arith, shorter, ap (λ k. length (get_or files k d).path) e)))) (λ no. no) (cases_Bool (is_tree (told files)))

  pub bad_file : (j : ℕ) (d : MemFile) → j < length files → (is_path (get_or files j d).path ≡ false) ⊎ IsUnderFile places (get_or files j d).path → is_tree (told files) ≡ false
  bad_file j d lt (inl h) = ⊎_elim (λ tree. absurd (false≢true (sym h ∙ (tree_good files tree).paths j d lt))) (λ no. no) (cases_Bool (is_tree (told files)))
  bad_file j d lt (inr h) = under_file j d lt h

  never_under : (i j : ℕ) (d : MemFile) → i < length files → j < length files → Fits files places (length files) → is_under (get_or files i d).path (get_or files j d).path ≡ false
  never_under i j d ilt jlt fits = ⊎_elim
      (λ h. let front = front_under (get_or files i d).path (get_or files j d).path h in
      let none = (fits j d jlt jlt).1 (length (get_or files i d).path) front.0 in
      absurd (missing files (get_or files i d).path (not_placed files places (get_or files i d).path placed (ap (get_by_text places) (sym front.1) ∙ none)) i d ilt refl))
      (λ h. h)
      (cases_Bool (is_under (get_or files i d).path (get_or files j d).path))

  pub fit_tree : AreDistinct files → Fits files places (length files) → is_tree (told files) ≡ true
  fit_tree distinct fits = good_tree files (record {
    paths = λ i d lt. (fits i d lt lt).0;
    apart = λ i j d ij lt.
        let ilt : i < length files = omega (arith, ij, lt) in
        let p = (get_or files i d).path in
        let q = (get_or files j d).path in
        ap (λ t. t || is_under p q || is_under q p) (differ files i j d ij lt distinct) ∙ ap (λ t. t || is_under q p) (never_under i j d ilt lt fits) ∙ never_under j i d lt ilt fits;
  })
