-- The next name of a path below a directory.
use Rattle.std.proofs.Common.{◌≡◌, ℕ, ◌+◌, ◌<◌, ◌≤◌, Bool, true, false, cond, [], ◌∷◌, ◌++◌, length, take, drop, get_or, Option, Some, None, refl, sym, ap, ◌∙◌, arith, append_assoc, nat_lt, length-append, append-nil}
use Rattle.std.specs.Prelude.{is_some, ◌==◌, not, ◌&&◌, option_and_then}
use Rattle.std.specs.List.{list_all, position_or_len}
use Rattle.std.specs.Option.{option_map}
use Rattle.std.specs.Str.{bytes_eq}
use Rattle.std.proofs.lemmas.Bool.{and_parts, not-true}
use Rattle.std.proofs.lemmas.Bool.Decides.{nat_tests}
use Rattle.std.proofs.lemmas.List.{drop_at, drop_more, take-append-drop, take_all, take_at}
use Rattle.std.proofs.lemmas.List.Sums.{passes_at_first}
use Rattle.std.proofs.lemmas.Slice.Eq.{bytes_eq-Decides}
use Rattle.outside_folder.specs.Files.{Bytes, after, first_name, inside, is_under, name_in, slash}
use Rattle.outside_folder.proofs.FileTrees.{front_under}
use Rattle.project_paths.specs.Places.{path_in}
use Rattle.project_paths.specs.MatchedPaths.{is_plain}

abbrev is_slash : ℕ → Bool
is_slash b = b == slash

pub plain-byte : (b : ℕ) → is_plain b ≡ true → ((b == 42) ≡ false) × ((b == 47) ≡ false)
plain-byte b h =
    let two = and_parts (not (b == 42)) (not (b == 47)) (and_parts (not (b == 42) && not (b == 47)) (not (b == 0)) h).0 in
    (not-true (b == 42) two.0, not-true (b == 47) two.1)

-- ---- the first name of a path

-- the first slash is behind a plain name
slash-behind : (name rest : Bytes) → list_all is_plain name ≡ true → position_or_len is_slash (name ++ rest) ≡ length name + position_or_len is_slash rest
slash-behind [] rest h = omega arith
slash-behind (b ∷ bs) rest h =
    let both = and_parts (is_plain b) (list_all is_plain bs) h in
    let other = (plain-byte b both.0).1 in
    let more = slash-behind bs rest both.1 in
    ap (λ t. cond (not t) (1 + position_or_len is_slash (bs ++ rest)) 0) other ∙ omega (arith, more)

cut : (n : ℕ) (name path : Bytes) (folder : Bool) → take n path ≡ name → nat_lt n (length path) ≡ folder → position_or_len is_slash path ≡ n → first_name path ≡ (name, folder)
cut n name path folder front more at =
    ap (λ k. (take k path, nat_lt k (length path))) at ∙ ap (λ l. (l, nat_lt n (length path))) front ∙ ap (λ t. (name, t)) more

first-plain : (name : Bytes) → list_all is_plain name ≡ true → first_name name ≡ (name, false)
first-plain name h =
    let at = sym (ap (position_or_len is_slash) (append-nil name)) ∙ slash-behind name [] h in
    let n : position_or_len is_slash name ≡ length name = omega (arith, at) in
    let end : nat_lt (length name) (length name) ≡ false = grind (arith, nat_tests) in
    cut (length name) name name false (take_all (length name) name (omega arith)) end n

first-more : (name rest : Bytes) → list_all is_plain name ≡ true → first_name (name ++ slash ∷ rest) ≡ (name, true)
first-more name rest h =
    let path = name ++ slash ∷ rest in
    let at = slash-behind name (slash ∷ rest) h in
    let none : position_or_len is_slash (slash ∷ rest) ≡ 0 = refl in
    let n : position_or_len is_slash path ≡ length name = omega (arith, at, none) in
    let len = length-append name (slash ∷ rest) in
    let some : length (slash ∷ rest) ≡ 1 + length rest = omega arith in
    let inner : nat_lt (length name) (length path) ≡ true = let lt : length name < length path = omega (arith, len, some) in grind (arith, nat_tests) in
    cut (length name) name path true (take_at name (slash ∷ rest) (length name) refl) inner n

whole-name : (path name : Bytes) → first_name path ≡ (name, false) → path ≡ name
whole-name path name h =
    let t : nat_lt (position_or_len is_slash path) (length path) ≡ false = ap (λ n. n.1) h in
    let end : length path ≤ position_or_len is_slash path = grind (arith, nat_tests) in
    sym (take_all (position_or_len is_slash path) path end) ∙ ap (λ n. n.0) h

name-before : (path name : Bytes) → first_name path ≡ (name, true) → (rest : Bytes) × (path ≡ name ++ slash ∷ rest)
name-before path name h =
    let n = position_or_len is_slash path in
    let t : nat_lt n (length path) ≡ true = ap (λ n. n.1) h in
    let lt : n < length path = grind (arith, nat_tests) in
    let here : get_or path n 0 ≡ slash = is-slash (get_or path n 0) (passes_at_first is_slash path 0 lt) in
    (drop (n + 1) path, sym (take-append-drop n path) ∙ ap (λ l. take n path ++ l) (drop_more path n 0 lt) ∙ ap (λ l. l ++ get_or path n 0 ∷ drop (n + 1) path) (ap (λ n. n.0) h) ∙ ap (λ b. name ++ b ∷ drop (n + 1) path) here)
  where
    is-slash : (b : ℕ) → is_slash b ≡ true → b ≡ slash
    is-slash b e = grind (arith, nat_tests)

-- ---- paths below a directory

abbrev inside_if : Bytes → Bytes → Bool → Option Bytes
inside_if dir path t = option_and_then (after (slash ∷ [])) (cond t (Some (drop (length dir) path)) None)

abbrev after_if : Bytes → Bool → Option Bytes
after_if rest t = cond t (Some (drop 1 (slash ∷ rest))) None

pub inside-of : (dir rest : Bytes) → inside dir (dir ++ slash ∷ rest) ≡ Some rest
inside-of dir rest =
    let path = dir ++ slash ∷ rest in
    let same : bytes_eq dir (take (length dir) path) ≡ true = (bytes_eq-Decides dir (take (length dir) path)).1 (sym (take_at dir (slash ∷ rest) (length dir) refl)) in
    let one : bytes_eq (slash ∷ []) (take 1 (slash ∷ rest)) ≡ true = (bytes_eq-Decides (slash ∷ []) (take 1 (slash ∷ rest))).1 refl in
    ap (inside_if dir path) same ∙ ap (after (slash ∷ [])) (drop_at dir (slash ∷ rest) (length dir) refl) ∙ ap (after_if rest) one

some-of : {X : Type 0} (o : Option X) → is_some o ≡ true → (x : X) × (o ≡ Some x)
some-of None h = absurd (cc h)
some-of (Some x) h = (x, refl)

pub under-is : (dir path : Bytes) → is_under dir path ≡ true → (rest : Bytes) × (path ≡ dir ++ slash ∷ rest)
under-is dir path h =
    let front = front_under dir path h in
    let n = length dir in
    (drop (n + 1) path, sym (take-append-drop n path) ∙ ap (λ l. take n path ++ l) (drop_more path n 0 front.0.0) ∙ ap (λ l. l ++ get_or path n 0 ∷ drop (n + 1) path) front.1 ∙ ap (λ b. dir ++ b ∷ drop (n + 1) path) front.0.1)

inside-is : (dir path rest : Bytes) → inside dir path ≡ Some rest → path ≡ dir ++ slash ∷ rest
inside-is dir path rest h =
    let found = under-is dir path (ap is_some h) in
    let same : Some rest ≡ Some found.0 = sym h ∙ ap (inside dir) found.1 ∙ inside-of dir found.0 in
    let is : found.0 ≡ rest = cc same in
    found.1 ∙ ap (λ r. dir ++ slash ∷ r) is

mapped : {X Y : Type 0} (f : X → Y) (o : Option X) (y : Y) → option_map f o ≡ Some y → (x : X) × (o ≡ Some x) × (f x ≡ y)
mapped f None y h = absurd (cc h)
mapped f (Some x) y h = (x, refl, cc h)

-- ---- the next name of a path

module _ (name : Bytes) where
  pub file-named : (dir : Bytes) → list_all is_plain name ≡ true → name_in dir (path_in dir name) ≡ Some (name, false)
  file-named [] h = ap Some (first-plain name h)
  file-named (b ∷ bs) h = ap (option_map first_name) (inside-of (b ∷ bs) name) ∙ ap Some (first-plain name h)

  folder-named : (dir rest : Bytes) → list_all is_plain name ≡ true → name_in dir (path_in dir name ++ slash ∷ rest) ≡ Some (name, true)
  folder-named [] rest h = ap Some (first-more name rest h)
  folder-named (b ∷ bs) rest h =
      ap (λ path. option_map first_name (inside (b ∷ bs) path)) (append_assoc (b ∷ bs) (slash ∷ name) (slash ∷ rest))
      ∙ ap (option_map first_name) (inside-of (b ∷ bs) (name ++ slash ∷ rest)) ∙ ap Some (first-more name rest h)

  pub under-named : (dir path : Bytes) → list_all is_plain name ≡ true → is_under (path_in dir name) path ≡ true → name_in dir path ≡ Some (name, true)
  under-named dir path h under =
      let found = under-is (path_in dir name) path under in
      ap (name_in dir) found.1 ∙ folder-named dir found.0 h

  pub named-file : (dir path : Bytes) → name_in dir path ≡ Some (name, false) → path ≡ path_in dir name
  named-file [] path h = whole-name path name (cc h)
  named-file (b ∷ bs) path h =
      let found = mapped first_name (inside (b ∷ bs) path) (name, false) h in
      inside-is (b ∷ bs) path found.0 found.1 ∙ ap (λ r. (b ∷ bs) ++ slash ∷ r) (whole-name found.0 name found.2)

  named-folder : (dir path : Bytes) → name_in dir path ≡ Some (name, true) → (rest : Bytes) × (path ≡ path_in dir name ++ slash ∷ rest)
  named-folder [] path h = name-before path name (cc h)
  named-folder (b ∷ bs) path h =
      let found = mapped first_name (inside (b ∷ bs) path) (name, true) h in
      let cut = name-before found.0 name found.2 in
      (cut.0, inside-is (b ∷ bs) path found.0 found.1 ∙ ap (λ r. (b ∷ bs) ++ slash ∷ r) cut.1 ∙ sym (append_assoc (b ∷ bs) (slash ∷ name) (slash ∷ cut.0)))

  pub named-under : (dir path : Bytes) → name_in dir path ≡ Some (name, true) → is_under (path_in dir name) path ≡ true
  named-under dir path h =
      let found = named-folder dir path h in
      ap (λ p. is_some (inside (path_in dir name) p)) found.1 ∙ ap is_some (inside-of (path_in dir name) found.0)
