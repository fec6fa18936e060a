-- The generated files are a tree: their paths are well-formed, and no two clash.
use Rattle.std.proofs.Common.{◌≡◌, ℕ, zero, suc, ◌+◌, ◌<◌, ◌≤◌, Bool, true, false, not, ◌&&◌, ◌||◌, List, [], ◌∷◌, ◌++◌, length, take, drop, get_or, refl, sym, ap, ◌∙◌, length-append, append_assoc, arith}
use Rattle.std.specs.Prelude.{All, codes, flat_map, ◌==◌}
use Rattle.std.specs.List.{list_all, list_any, range_with_len, slice_split}
use Rattle.std.specs.Fmt.{decimal}
use Rattle.std.proofs.lemmas.Bool.{and_from, and_parts, false_from_ne_true, not-true, or_from}
use Rattle.std.proofs.lemmas.Grind.{common_steps}
use Rattle.std.proofs.lemmas.Fmt.{decimal_digit, decimal_is_IsNumeral}
use Rattle.std.proofs.lemmas.List.{drop_at, take_at}
use Rattle.std.proofs.lemmas.List.Elements.{All-nil, All-cons, All-append}
use Rattle.std.proofs.lemmas.List.Splits.{slice_split_at, slice_split_none}
use Rattle.common_laws.specs.Small.{same-is, tail_same}
use Rattle.plan_types.specs.Bytes.{same_text}
use Rattle.outside_folder.specs.Files.{Bytes, Files, clashes, is_path, is_tree, is_under, slash}
use Rattle.outside_folder.proofs.FileTrees.{front_under}
use Rattle.plan_generate.specs.Text.{name, version_path}
use Rattle.plan_generate.specs.Generated.{generated, main_file, package_files, version_file}
use Rattle.plan_generate.proofs.Names.{IsInside, digits-inside, name-inside, name-length, name-tells}

-- a text without a `/`
inside-all : (bs : List ℕ) → list_all (λ b. not (b == 47)) bs ≡ true → All IsInside bs
inside-all [] h = All-nil IsInside
inside-all (b ∷ bs) h = let both = and_parts (not (b == 47)) (list_all (λ b. not (b == 47)) bs) h in All-cons IsInside b bs (not-true (b == 47) both.0) (inside-all bs both.1)

-- the parts of a path after the version, and after the package's name
abbrev behind_version : ℕ → List ℕ
behind_version number = codes "/" ++ (name number ++ codes ".cabal")

abbrev behind_name : ℕ → ℕ → List ℕ
behind_name number version = codes "/" ++ (decimal version ++ behind_version number)

grouped : (number version : ℕ) → version_path number version ≡ codes "index/" ++ (name number ++ behind_name number version)
grouped number version =
    let own = name number in
    let mark = codes "/" in
    let shown = decimal version in
    ap (λ l. codes "index/" ++ l)
    (append_assoc ((((own ++ mark) ++ shown) ++ mark)) own (codes ".cabal")
    ∙ append_assoc ((own ++ mark) ++ shown) mark (own ++ codes ".cabal")
    ∙ append_assoc (own ++ mark) shown (behind_version number)
    ∙ append_assoc own mark (shown ++ behind_version number))

some : (b : ℕ) (bs : List ℕ) → not (length (b ∷ bs) == 0) ≡ true
some b bs = grind (arith, common_steps)

module _ (number version : ℕ) (few : number ≤ 2000) (digit : version < 10) where
  parts : slice_split (λ b. b == slash) (version_path number version)
      ≡ codes "index" ∷ name number ∷ decimal version ∷ (name number ++ codes ".cabal") ∷ []
  parts =
      ap (slice_split (λ b. b == slash)) (grouped number version)
      ∙ slice_split_at (λ b. b == slash) (codes "index") slash (name number ++ behind_name number version)
      (inside-all (codes "index") refl) refl
      ∙ ap (λ l. codes "index" ∷ l)
      (slice_split_at (λ b. b == slash) (name number) slash (decimal version ++ behind_version number) (name-inside number few) refl
      ∙ ap (λ l. name number ∷ l)
      (slice_split_at (λ b. b == slash) (decimal version) slash (name number ++ codes ".cabal") (digits-inside (decimal version) ((decimal_is_IsNumeral version (omega arith)).0.1)) refl
      ∙ ap (λ l. decimal version ∷ l)
      (slice_split_none (λ b. b == slash) (name number ++ codes ".cabal")
      (All-append IsInside (name number) (codes ".cabal") (name-inside number few) (inside-all (codes ".cabal") refl)))))

  pub path-is : is_path (version_path number version) ≡ true
  path-is =
      let filled : List ℕ → Bool = λ part. not (length part == 0) in
      ap (list_all filled) parts
      ∙ ap (λ shown. list_all filled (codes "index" ∷ name number ∷ shown ∷ (name number ++ codes ".cabal") ∷ [])) (decimal_digit version digit)
      ∙ and_from (filled (name number)) _ (some 103 _) (and_from (filled (name number ++ codes ".cabal")) true (some 103 _) refl)

  pub path-length : length (version_path number version) ≡ 27
  path-length =
      let of_name = name-length number few in
      let of_digit : length (decimal version) ≡ 1 = ap length (decimal_digit version digit) in
      let first = length-append (name number) (behind_name number version) in
      let second = length-append (decimal version) (behind_version number) in
      let third = length-append (name number) (codes ".cabal") in
      omega (arith, ap length (grouped number version), of_name, of_digit, first, second, third)

-- `version_path` is injective
paths-tell : (p q v w : ℕ) → 0 < p → p ≤ 2000 → 0 < q → q ≤ 2000 → v < 10 → w < 10 → version_path p v ≡ version_path q w → (p ≡ q) × (v ≡ w)
paths-tell p q v w p-some p-few q-some q-few v-digit w-digit e = (
  name-tells p q p-some p-few q-some q-few
      (sym (take_at (name p) (behind_name p v) 6 (name-length p p-few)) ∙ ap (λ l. take 6 (drop 6 l)) alike
      ∙ take_at (name q) (behind_name q w) 6 (name-length q q-few)),
  omega (arith, digits),
)
  where
    alike : codes "index/" ++ (name p ++ behind_name p v) ≡ codes "index/" ++ (name q ++ behind_name q w)
    alike = sym (grouped p v) ∙ e ∙ grouped q w

    behind : behind_name p v ≡ behind_name q w
    behind =
        sym (drop_at (name p) (behind_name p v) 6 (name-length p p-few)) ∙ ap (λ l. drop 6 (drop 6 l)) alike
        ∙ drop_at (name q) (behind_name q w) 6 (name-length q q-few)

    digits : 48 + v ≡ 48 + w
    digits =
        sym (ap (λ d. get_or (d ++ behind_version p) 0 0) (decimal_digit v v-digit)) ∙ ap (λ l. get_or l 0 0) (tail_same behind)
        ∙ ap (λ d. get_or (d ++ behind_version q) 0 0) (decimal_digit w w-digit)

-- different paths of the same length don't clash
apart : (one other : Bytes) → length one ≡ length other → (one ≡ other → ⊥) → clashes one other ≡ false
apart one other same differ =
    or_from (same_text one other || is_under one other) (is_under other one)
    (or_from (same_text one other) (is_under one other)
    (false_from_ne_true (same_text one other) (λ t. differ (same-is one other t)))
    (false_from_ne_true (is_under one other) (λ under. let front = front_under one other under in omega (arith, front.0.0, same))))
    (false_from_ne_true (is_under other one) (λ under. let front = front_under other one under in omega (arith, front.0.0, same)))

versions-apart : (p q v w : ℕ) → 0 < p → p ≤ 2000 → 0 < q → q ≤ 2000 → v < 10 → w < 10 → (p ≡ q → v ≡ w → ⊥)
    → clashes (version_path p v) (version_path q w) ≡ false
versions-apart p q v w p-some p-few q-some q-few v-digit w-digit differ =
    apart (version_path p v) (version_path q w) (path-length p v p-few v-digit ∙ sym (path-length q w q-few w-digit))
    (λ e. let both = paths-tell p q v w p-some p-few q-some q-few v-digit w-digit e in differ both.0 both.1)

-- one more file
tree-more : (file : Bytes × Bytes) (files : Files) → is_path file.0 ≡ true → list_any (λ other. clashes file.0 other.0) files ≡ false → is_tree files ≡ true
    → is_tree (file ∷ files) ≡ true
tree-more file files path none tree =
    let free = not (list_any (λ other. clashes file.0 other.0) files) in
    and_from (is_path file.0 && free) (is_tree files) (and_from (is_path file.0) free path (ap not none)) tree

module _ (count : ℕ) where
  -- the files of so many packages, from this number on, and of the local package
  abbrev from : ℕ → ℕ → Files
  from number many = flat_map (package_files count) (range_with_len number many) ++ main_file count ∷ []

  free-before : (p v number many : ℕ) → 0 < p → p < number → number + many ≤ 2001 → v < 10
      → list_any (λ other. clashes (version_path p v) other.0) (from number many) ≡ false
  free-before p v number zero some before fits digit = refl
  free-before p v number (suc many) some before fits digit =
      let clear : (w : ℕ) → w < 10 → clashes (version_path p v) (version_path number w) ≡ false =
      λ w small. versions-apart p number v w some (omega arith) (omega arith) (omega arith) digit small (λ e f. omega (arith, e, before)) in
      or_from (clashes (version_path p v) (version_path number 1)) _ (clear 1 (omega arith))
      (or_from (clashes (version_path p v) (version_path number 2)) _ (clear 2 (omega arith))
      (or_from (clashes (version_path p v) (version_path number 3)) _ (clear 3 (omega arith))
      (free-before p v (number + 1) many some (omega arith) (omega arith) digit)))

  tree-from : (number many : ℕ) → 0 < number → number + many ≤ 2001 → is_tree (from number many) ≡ true
  tree-from number zero some fits = refl
  tree-from number (suc many) some fits =
      let rest = from (number + 1) many in
      let path : (v : ℕ) → v < 10 → is_path (version_path number v) ≡ true = λ v digit. path-is number v (omega arith) digit in
      let clear : (v w : ℕ) → v < 10 → w < 10 → v < w → clashes (version_path number v) (version_path number w) ≡ false =
      λ v w v-digit w-digit less. versions-apart number number v w some (omega arith) some (omega arith) v-digit w-digit (λ e f. omega (arith, f, less)) in
      let free : (v : ℕ) → v < 10 → list_any (λ other. clashes (version_path number v) other.0) rest ≡ false =
      λ v digit. free-before number v (number + 1) many some (omega arith) (omega arith) digit in
      tree-more (version_file count number 1) (version_file count number 2 ∷ version_file count number 3 ∷ rest) (path 1 (omega arith))
      (or_from (clashes (version_path number 1) (version_path number 2)) _ (clear 1 2 (omega arith) (omega arith) (omega arith))
      (or_from (clashes (version_path number 1) (version_path number 3)) _ (clear 1 3 (omega arith) (omega arith) (omega arith)) (free 1 (omega arith))))
      (tree-more (version_file count number 2) (version_file count number 3 ∷ rest) (path 2 (omega arith))
      (or_from (clashes (version_path number 2) (version_path number 3)) _ (clear 2 3 (omega arith) (omega arith) (omega arith)) (free 2 (omega arith)))
      (tree-more (version_file count number 3) rest (path 3 (omega arith)) (free 3 (omega arith))
      (tree-from (number + 1) many (omega arith) (omega arith))))

  pub generated-tree : count ≤ 2000 → is_tree (generated count) ≡ true
  generated-tree few = tree-from 1 count (omega arith) (omega arith)
