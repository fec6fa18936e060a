-- A name is listed in a directory iff a file is at its path or below it: as a file in the first case, as a directory
-- in the second.
use Rattle.std.proofs.Common.{◌≡◌, ℕ, Bool, true, false, cond, List, [], ◌∷◌, ◌&&◌, ◌||◌, length, map, Option, Some, None, refl, sym, ap, ◌∙◌, subst, arith, length-append, inl, inr}
use Rattle.std.specs.Prelude.{filter, fold, is_some, not, ◌==◌, unwrap_or}
use Rattle.std.specs.List.{list_all, list_any}
use Rattle.std.specs.BTreeMap.{insert_entry}
use Rattle.std.specs.Cmp.Lexicographic.{slice_cmp}
use Rattle.std.specs.Option.{option_map}
use Rattle.std.specs.Ordering.{nat_cmp, match_ordering}
use Rattle.std.specs.declared.cmp.Ordering.{Ordering}
use Rattle.std.specs.declared.cmp.Ordering.TheVariants.{Less, Equal, Greater}
use Rattle.std.proofs.lemmas.Bool.{and_from, and_parts, cases_Bool, false≢true, not-true, or_parts, or_right}
use Rattle.std.proofs.lemmas.Bool.Decides.{nat_tests}
use Rattle.std.proofs.lemmas.Grind.{common_steps}
use Rattle.std.proofs.lemmas.Slice.Eq.{bytes_eq-Decides}
use Rattle.common_laws.specs.Small.{same-is}
use Rattle.plan_types.specs.Bytes.{begins_with, same_text}
use Rattle.outside_folder.specs.Files.{Bytes, Files, as_names, clashes, file_at, first_name, inside, is_path, is_tree, is_under, name_in, names_in as entries_in, slash, unless_missing, with_name}
use Rattle.outside_folder.specs.declared.folder.Name.{Name}
use Rattle.project_paths.specs.Listings.{names_in}
use Rattle.project_paths.specs.Places.{below, is_matched, path_in, place_in}
use Rattle.project_paths.specs.MatchedPaths.{directory, is_plain, plain_file, standing, unless_empty}
use Rattle.project_paths.specs.Wildcards.{fits, fits_byte, matches, tails}
use Rattle.project_paths.proofs.Listed.{AreAlike, is_named, of_name, of-names}
use Rattle.project_paths.proofs.Paths.{file-named, named-file, named-under, plain-byte, under-is, under-named}

-- ---- a plain name matches itself alone

fits-is : (name other : Bytes) → list_all is_plain name ≡ true → fits name other ≡ true → name ≡ other
fits-is [] [] h t = refl
fits-is [] (b ∷ bs) h t = absurd (false≢true t)
fits-is (p ∷ ps) other h t =
    let both = and_parts (is_plain p) (list_all is_plain ps) h in
    let star = (plain-byte p both.0).0 in
    by (λ bs. fits-is ps bs both.1) other (sym (ap (λ s. cond s (list_any (fits ps) (tails other)) (fits_byte p (fits ps) other)) star) ∙ t)
  where
    by : ((bs : Bytes) → fits ps bs ≡ true → ps ≡ bs) → (other : Bytes) → fits_byte p (fits ps) other ≡ true → p ∷ ps ≡ other
    by rest [] t = absurd (false≢true t)
    by rest (b ∷ bs) t =
        let both = and_parts (p == b) (fits ps bs) t in
        let one : p ≡ b = let same = both.0 in grind (arith, nat_tests) in
        ap (λ x. x ∷ ps) one ∙ ap (λ l. b ∷ l) (rest bs both.1)

fits-self : (name : Bytes) → list_all is_plain name ≡ true → fits name name ≡ true
fits-self [] h = refl
fits-self (p ∷ ps) h =
    let both = and_parts (is_plain p) (list_all is_plain ps) h in
    let star = (plain-byte p both.0).0 in
    let one : (p == p) ≡ true = grind (arith, nat_tests) in
    ap (λ s. cond s (list_any (fits ps) (tails (p ∷ ps))) (p == p && fits ps ps)) star ∙ and_from (p == p) (fits ps ps) one (fits-self ps both.1)

matches-plain : (name other : Bytes) → list_all is_plain name ≡ true → matches name other ≡ same_text name other
matches-plain name other h = by (same_text name other) refl
  where
    hidden : Bytes → Bytes → Bool
    hidden name other = begins_with 46 other && not (begins_with 46 name)

    never : (t : Bool) → (t && not t) ≡ false
    never true = refl
    never false = refl

    by : (s : Bool) → same_text name other ≡ s → matches name other ≡ s
    by true e = ap (matches name) (sym (same-is name other e)) ∙ ap (λ t. cond t false (fits name name)) (never (begins_with 46 name)) ∙ fits-self name h
    by false e = elim (cases_Bool (matches name other)) [
      | inl t ↦ absurd (false≢true (sym e ∙ (bytes_eq-Decides name other).1 (fits-is name other h (fitting (begins_with 46 other && not (begins_with 46 name)) t))))
      | inr f ↦ f
    ]
      where
        fitting : (hid : Bool) → cond hid false (fits name other) ≡ true → fits name other ≡ true
        fitting true t = absurd (false≢true t)
        fitting false t = t

matched-names : (name : Bytes) (entries : List (Bytes × Bool)) → list_all is_plain name ≡ true → filter (is_matched name) (as_names entries) ≡ as_names (of_name name entries)
matched-names name [] h = refl
matched-names name (e ∷ es) h = ap (λ t. cond t (record { text = e.0; folder = e.1 } ∷ filter (is_matched name) (as_names es)) (filter (is_matched name) (as_names es))) (matches-plain name e.0 h) ∙ by (matched-names name es h) (same_text name e.0)
  where
    by : filter (is_matched name) (as_names es) ≡ as_names (of_name name es) → (t : Bool) → cond t (record { text = e.0; folder = e.1 } ∷ filter (is_matched name) (as_names es)) (filter (is_matched name) (as_names es)) ≡ as_names (cond t (e ∷ of_name name es) (of_name name es))
    by more true = ap (λ (l : List Name). record { text = e.0; folder = e.1 } ∷ l) more
    by more false = more

-- ---- the names in a directory

pub listed-names : (files : Files) (dir : Bytes) → names_in files dir ≡ as_names (entries_in files dir)
listed-names files [] = refl
listed-names files (b ∷ bs) = by (entries_in files (b ∷ bs))
  where
    by : (entries : List (Bytes × Bool)) → unwrap_or (unless_missing (b ∷ bs) entries) [] ≡ as_names entries
    by [] = refl
    by (e ∷ es) = refl

abbrev has_some : List (Bytes × Bool) → Bool
has_some entries = not (length entries == 0)

insert-some : (es : List (Bytes × Bool)) (k : Bytes) (v : Bool) → has_some (insert_entry (slice_cmp nat_cmp) es k v) ≡ true
insert-some [] k v = refl
insert-some (e ∷ es) k v = by (slice_cmp nat_cmp k e.0)
  where
    by : (o : Ordering) → has_some (match_ordering o ((k, v) ∷ e ∷ es) ((e.0, v) ∷ es) (e ∷ insert_entry (slice_cmp nat_cmp) es k v)) ≡ true
    by Less = grind arith
    by Equal = grind arith
    by Greater = grind arith

with-some : (es : List (Bytes × Bool)) (one : Option (Bytes × Bool)) → has_some (with_name es one) ≡ is_some one || has_some es
with-some es None = refl
with-some es (Some one) = insert-some es one.0 one.1

fold-some : (dir : Bytes) (files : Files) (es : List (Bytes × Bool)) → has_some (fold (λ names file. with_name names (name_in dir file.0)) es files) ≡ list_any (λ file. is_some (name_in dir file.0)) files || has_some es
fold-some dir [] es = refl
fold-some dir (f ∷ fs) es =
    fold-some dir fs (with_name es (name_in dir f.0)) ∙ ap (λ t. list_any (λ file. is_some (name_in dir file.0)) fs || t) (with-some es (name_in dir f.0))
    ∙ swap (list_any (λ file. is_some (name_in dir file.0)) fs) (is_some (name_in dir f.0)) (has_some es)
  where
    swap : (a b c : Bool) → (a || (b || c)) ≡ ((b || a) || c)
    swap true true c = refl
    swap true false c = refl
    swap false b c = swap-rest b c
      where
        swap-rest : (b c : Bool) → (b || c) ≡ ((b || false) || c)
        swap-rest true c = refl
        swap-rest false c = refl

or-none : (t : Bool) → (t || false) ≡ t
or-none true = refl
or-none false = refl

-- a directory other than the root has names iff a path is below it
some-under : (files : Files) (b : ℕ) (bs : Bytes) → has_some (entries_in files (b ∷ bs)) ≡ list_any (λ file. is_under (b ∷ bs) file.0) files
some-under files b bs = fold-some (b ∷ bs) files [] ∙ or-none (list_any (λ file. is_some (name_in (b ∷ bs) file.0)) files) ∙ same files
  where
    mapped-some : (o : Option Bytes) → is_some (option_map first_name o) ≡ is_some o
    mapped-some None = refl
    mapped-some (Some r) = refl

    same : (fs : Files) → list_any (λ file. is_some (name_in (b ∷ bs) file.0)) fs ≡ list_any (λ file. is_under (b ∷ bs) file.0) fs
    same [] = refl
    same (f ∷ fs) = ap (λ t. t || list_any (λ file. is_some (name_in (b ∷ bs) file.0)) fs) (mapped-some (inside (b ∷ bs) f.0)) ∙ ap (λ t. is_under (b ∷ bs) f.0 || t) (same fs)

-- ---- no path lies below a file

not-under-itself : (path : Bytes) → is_under path path ≡ false
not-under-itself path = elim (cases_Bool (is_under path path)) [
  | inl t ↦ let found = under-is path path t in let len = length-append path (slash ∷ found.0) in let own = ap length found.1 in absurd (omega (arith, own, len))
  | inr f ↦ f
]

-- a path that clashes with no file doesn't clash with the path of one
apart-from : (one path : Bytes) (files : Files) → list_any (λ other. clashes one other.0) files ≡ false → is_some (file_at files path) ≡ true → clashes one path ≡ false
apart-from one path [] h t = absurd (false≢true t)
apart-from one path (f ∷ fs) h t = by (apart-from one path fs parts.1) (same_text f.0 path) refl t
  where
    parts : (clashes one f.0 ≡ false) × (list_any (λ other. clashes one other.0) fs ≡ false)
    parts = or_parts (clashes one f.0) (list_any (λ other. clashes one other.0) fs) h

    by : (is_some (file_at fs path) ≡ true → clashes one path ≡ false) → (s : Bool) → same_text f.0 path ≡ s → is_some (cond s (Some f.1) (file_at fs path)) ≡ true → clashes one path ≡ false
    by more true e t = subst (λ p. clashes one p ≡ false) (same-is f.0 path e) parts.0
    by more false e t = more t

beside : (one other : Bytes) → clashes one other ≡ false → (is_under one other ≡ false) × (is_under other one ≡ false)
beside one other h =
    let both = or_parts (same_text one other || is_under one other) (is_under other one) h in
    ((or_parts (same_text one other) (is_under one other) both.0).1, both.1)

none-under : (path : Bytes) (files : Files) → list_any (λ other. clashes path other.0) files ≡ false → list_any (λ file. is_under path file.0) files ≡ false
none-under path [] h = refl
none-under path (f ∷ fs) h =
    let both = or_parts (clashes path f.0) (list_any (λ other. clashes path other.0) fs) h in
    ap (λ b. b || list_any (λ file. is_under path file.0) fs) (beside path f.0 both.0).0 ∙ none-under path fs both.1

pub none-under-file : (files : Files) (path : Bytes) → is_tree files ≡ true → is_some (file_at files path) ≡ true → list_any (λ file. is_under path file.0) files ≡ false
none-under-file [] path tree t = refl
none-under-file (f ∷ fs) path tree t =
    let two = and_parts _ (is_tree fs) tree in
    let none = not-true (list_any (λ other. clashes f.0 other.0) fs) (and_parts (is_path f.0) (not (list_any (λ other. clashes f.0 other.0) fs)) two.0).1 in
    by (none-under-file fs path two.1) none (same_text f.0 path) refl t
  where
    by : (is_some (file_at fs path) ≡ true → list_any (λ file. is_under path file.0) fs ≡ false) → list_any (λ other. clashes f.0 other.0) fs ≡ false
        → (s : Bool) → same_text f.0 path ≡ s → is_some (cond s (Some f.1) (file_at fs path)) ≡ true → is_under path f.0 || list_any (λ file. is_under path file.0) fs ≡ false
    by more none true e t =
        let same = same-is f.0 path e in
        ap (λ p. is_under path p || list_any (λ file. is_under path file.0) fs) same ∙ ap (λ b. b || list_any (λ file. is_under path file.0) fs) (not-under-itself path) ∙ none-under path fs (subst (λ p. list_any (λ other. clashes p other.0) fs ≡ false) same none)
    by more none false e t = ap (λ b. b || list_any (λ file. is_under path file.0) fs) (beside f.0 path (apart-from f.0 path fs none t)).1 ∙ more t

no-root-file : (files : Files) → is_tree files ≡ true → is_some (file_at files []) ≡ false
no-root-file [] tree = refl
no-root-file ((path, bytes) ∷ fs) tree =
    let two = and_parts _ (is_tree fs) tree in
    by path (and_parts (is_path path) _ two.0).0 (no-root-file fs two.1)
  where
    by : (path : Bytes) → is_path path ≡ true → is_some (file_at fs []) ≡ false → is_some (cond (same_text path []) (Some bytes) (file_at fs [])) ≡ false
    by [] own h = absurd (false≢true own)
    by (b ∷ bs) own h = h

none-some : (entries : List (Bytes × Bool)) → has_some entries ≡ false → entries ≡ []
none-some [] h = refl
none-some (e ∷ es) h = let some : has_some (e ∷ es) ≡ true = grind arith in absurd (false≢true (sym h ∙ some))

-- no names are listed at a file's path
pub none-in-file : (files : Files) (path : Bytes) → is_tree files ≡ true → is_some (file_at files path) ≡ true → names_in files path ≡ []
none-in-file files [] tree t = absurd (false≢true (sym (no-root-file files tree) ∙ t))
none-in-file files (b ∷ bs) tree t =
    listed-names files (b ∷ bs) ∙ ap as_names (none-some (entries_in files (b ∷ bs)) (some-under files b bs ∙ none-under-file files (b ∷ bs) tree t))

-- a directory other than the root is there iff a path is below it
folder-if : (path : Bytes) → not (length path == 0) ≡ true → (files : Files) → unless_empty path (names_in files path) ≡ cond (list_any (λ file. is_under path file.0) files) (directory path ∷ []) []
folder-if [] h files = absurd (false≢true h)
folder-if (b ∷ bs) h files =
    ap (unless_empty (b ∷ bs)) (listed-names files (b ∷ bs)) ∙ by (entries_in files (b ∷ bs)) ∙ ap (λ t. cond t (directory (b ∷ bs) ∷ []) []) (some-under files b bs)
  where
    by : (entries : List (Bytes × Bool)) → unless_empty (b ∷ bs) (as_names entries) ≡ cond (has_some entries) (directory (b ∷ bs) ∷ []) []
    by [] = refl
    by (e ∷ es) = let some : has_some (e ∷ es) ≡ true = grind arith in sym (ap (λ t. cond t (directory (b ∷ bs) ∷ []) []) some)

-- ---- the place at the path of a plain name in a directory

module _ (dir name : Bytes) (plain : list_all is_plain name ≡ true) where
  abbrev path : Bytes
  path = path_in dir name

  abbrev names_it : Bytes × Bytes → Bool
  names_it file = is_named name (name_in dir file.0)

  -- if only wrong paths have the name otherwise, and no file has a wrong path, the files are alike in it
  alike : (wrong : Bytes → Bool) (folder : Bool) → ((one : Bytes) (other : Bool) → wrong one ≡ false → name_in dir one ≡ Some (name, other) → other ≡ folder) →
      (files : Files) → list_any (λ file. wrong file.0) files ≡ false → AreAlike dir name folder files
  alike wrong folder is [] h = tt
  alike wrong folder is (f ∷ fs) h =
      let both = or_parts (wrong f.0) (list_any (λ file. wrong file.0) fs) h in
      ((λ other. is f.0 other both.0), alike wrong folder is fs both.1)

  as-file : (one : Bytes) (other : Bool) → is_under path one ≡ false → name_in dir one ≡ Some (name, other) → other ≡ false
  as-file one true h e = absurd (false≢true (sym h ∙ named-under name dir one e))
  as-file one false h e = refl

  as-folder : (one : Bytes) (other : Bool) → same_text one path ≡ false → name_in dir one ≡ Some (name, other) → other ≡ true
  as-folder one true h e = refl
  as-folder one false h e = absurd (false≢true (sym h ∙ (bytes_eq-Decides one path).1 (named-file name dir one e)))

  same-name : same_text name name ≡ true
  same-name = (bytes_eq-Decides name name).1 refl

  file-names : (files : Files) → is_some (file_at files path) ≡ true → list_any names_it files ≡ true
  file-names [] t = absurd (false≢true t)
  file-names (f ∷ fs) t = by (file-names fs) (same_text f.0 path) refl t
    where
      by : (is_some (file_at fs path) ≡ true → list_any names_it fs ≡ true) → (s : Bool) → same_text f.0 path ≡ s → is_some (cond s (Some f.1) (file_at fs path)) ≡ true → names_it f || list_any names_it fs ≡ true
      by more true e t = ap (λ p. is_named name (name_in dir p) || list_any names_it fs) (same-is f.0 path e) ∙ ap (λ o. is_named name o || list_any names_it fs) (file-named name dir plain) ∙ ap (λ b. b || list_any names_it fs) same-name
      by more false e t = or_right (names_it f) (list_any names_it fs) (more t)

  no-file : (files : Files) → is_some (file_at files path) ≡ false → list_any (λ file. same_text file.0 path) files ≡ false
  no-file [] h = refl
  no-file (f ∷ fs) h = by (no-file fs) (same_text f.0 path) h
    where
      by : (is_some (file_at fs path) ≡ false → list_any (λ file. same_text file.0 path) fs ≡ false) → (s : Bool) → is_some (cond s (Some f.1) (file_at fs path)) ≡ false → s || list_any (λ file. same_text file.0 path) fs ≡ false
      by more true h = absurd (false≢true (sym h))
      by more false h = more h

  not-named : (one : Bytes) → same_text one path ≡ false → is_under path one ≡ false → (found : Option (Bytes × Bool)) → name_in dir one ≡ found → is_named name found ≡ false
  not-named one apart outside None e = refl
  not-named one apart outside (Some found) e = elim (cases_Bool (same_text name found.0)) [
    | inl t ↦ absurd (never found.1 (e ∙ ap (λ n. Some (n, found.1)) (sym (same-is name found.0 t))))
    | inr f ↦ f
  ]
    where
      never : (folder : Bool) → name_in dir one ≡ Some (name, folder) → ⊥
      never true h = false≢true (sym outside ∙ named-under name dir one h)
      never false h = false≢true (sym apart ∙ (bytes_eq-Decides one path).1 (named-file name dir one h))

  names-under : (one : Bytes) → same_text one path ≡ false → is_named name (name_in dir one) ≡ is_under path one
  names-under one apart = elim (cases_Bool (is_under path one)) [
    | inl t ↦ ap (is_named name) (under-named name dir one plain t) ∙ same-name ∙ sym t
    | inr f ↦ not-named one apart f (name_in dir one) refl ∙ sym f
  ]

  any-under : (files : Files) → list_any (λ file. same_text file.0 path) files ≡ false → list_any names_it files ≡ list_any (λ file. is_under path file.0) files
  any-under [] h = refl
  any-under (f ∷ fs) h =
      let both = or_parts (same_text f.0 path) (list_any (λ file. same_text file.0 path) fs) h in
      ap (λ b. b || list_any names_it fs) (names-under f.0 both.0) ∙ ap (λ b. is_under path f.0 || b) (any-under fs both.1)

  path-some : (dir : Bytes) → not (length name == 0) ≡ true → not (length (path_in dir name) == 0) ≡ true
  path-some [] h = h
  path-some (b ∷ bs) h = grind (arith, common_steps)

  one-place : (t folder : Bool) → map (place_in dir) (as_names (cond t ((name, folder) ∷ []) [])) ≡ cond t (record { path = path; folder = folder } ∷ []) []
  one-place true folder = refl
  one-place false folder = refl

  -- the place at its path is the one that it matches in the directory
  pub literal-below : (files : Files) → is_tree files ≡ true → not (length name == 0) ≡ true → standing files path ≡ below files name (directory dir)
  literal-below files tree some = by (is_some (file_at files path)) refl
    where
      matched : (folder : Bool) → AreAlike dir name folder files → below files name (directory dir) ≡ cond (list_any names_it files) (record { path = path; folder = folder } ∷ []) []
      matched folder like =
          ap (λ ns. map (place_in dir) (filter (is_matched name) ns)) (listed-names files dir)
          ∙ ap (map (place_in dir)) (matched-names name (entries_in files dir) plain ∙ ap as_names (of-names dir name folder files like)) ∙ one-place (list_any names_it files) folder

      by : (t : Bool) → is_some (file_at files path) ≡ t → cond t (plain_file path ∷ []) (unless_empty path (names_in files path)) ≡ below files name (directory dir)
      by true t = sym (matched false (alike (is_under path) false as-file files (none-under-file files path tree t)) ∙ ap (λ b. cond b (plain_file path ∷ []) []) (file-names files t))
      by false t =
          let apart = no-file files t in
          folder-if path (path-some dir some) files
          ∙ sym (matched true (alike (λ one. same_text one path) true as-folder files apart) ∙ ap (λ b. cond b (directory path ∷ []) []) (any-under files apart))
