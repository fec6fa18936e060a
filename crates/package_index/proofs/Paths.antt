-- A release file is in the directory of one name alone, whatever bytes the name has: the number of slashes gives its
-- length.
use Rattle.std.proofs.Common.{◌≡◌, ℕ, ◌+◌, true, ◌==◌, List, [], ◌∷◌, ◌++◌, cond, sym, refl, ◌∙◌, ap, arith}
use Rattle.std.specs.Prelude.{codes}
use Rattle.std.specs.Char.{is_ascii_digit}
use Rattle.std.specs.Fmt.{decimal}
use Rattle.std.specs.Str.{all_ascii_digits}
use Rattle.std.proofs.lemmas.Bool.{and_parts}
use Rattle.std.proofs.lemmas.Bool.Decides.{nat_tests}
use Rattle.std.proofs.lemmas.List.{append_assoc, append_cancel_left}
use Rattle.version_range.specs.Version.{IsVersion, version_text}
use Rattle.version_range.proofs.VersionNumbers.{decimal_digits}
use Rattle.outside_folder.specs.Files.{Bytes}
use Rattle.index_files.specs.Places.{release_path}
use Rattle.plan_types.specs.declared.index.Places.{Places}

abbrev one_if_slash : ℕ → ℕ
one_if_slash b = cond (b == 47) 1 0

abbrev slashes : Bytes → ℕ
slashes [] = 0
slashes (b ∷ bs) = one_if_slash b + slashes bs

abbrev pub HasNoSlash : Bytes → Type 0
HasNoSlash text = slashes text ≡ 0

slashes-append : (xs ys : Bytes) → slashes (xs ++ ys) ≡ slashes xs + slashes ys
slashes-append [] ys = omega arith
slashes-append (x ∷ xs) ys = let h = slashes-append xs ys in omega (arith, h)

-- ---- versions

no-slash : (b : ℕ) → is_ascii_digit b ≡ true → one_if_slash b ≡ 0
no-slash b h = grind (arith, nat_tests)

digits-alone : (text : Bytes) → all_ascii_digits text ≡ true → HasNoSlash text
digits-alone [] h = refl
digits-alone (b ∷ bs) h =
    let p = and_parts (is_ascii_digit b) (all_ascii_digits bs) h in
    let one = no-slash b p.0 in
    let more = digits-alone bs p.1 in
    omega (arith, one, more)

pub version-alone : (parts : List ℕ) → IsVersion parts → HasNoSlash (version_text parts)
version-alone [] h = refl
version-alone (n ∷ []) h = digits-alone (decimal n) (decimal_digits n h)
version-alone (n ∷ m ∷ ns) h =
    let whole = slashes-append (decimal n) (46 ∷ version_text (m ∷ ns)) in
    let one = digits-alone (decimal n) (decimal_digits n h.0) in
    let more = version-alone (m ∷ ns) h.1 in
    omega (arith, whole, one, more)

-- ---- names

first-byte : (x y : ℕ) (xs ys : Bytes) → x ∷ xs ≡ y ∷ ys → x ≡ y
first-byte x y xs ys e = cc e

other-bytes : (x y : ℕ) (xs ys : Bytes) → x ∷ xs ≡ y ∷ ys → xs ≡ ys
other-bytes x y xs ys e = cc e

slash-first : (y : ℕ) (ys : Bytes) → 47 ≡ y → HasNoSlash (y ∷ ys) → ⊥
slash-first y ys e h = let k = ap (λ b. slashes (b ∷ ys)) e in omega (arith, h, k)

before-slash : (m n xs ys : Bytes) → m ++ 47 ∷ xs ≡ n ++ 47 ∷ ys → slashes m ≡ slashes n → m ≡ n
before-slash [] [] xs ys e c = refl
before-slash [] (y ∷ n) xs ys e c = absurd (slash-first y n (first-byte 47 y xs (n ++ 47 ∷ ys) e) (sym c))
before-slash (x ∷ m) [] xs ys e c = absurd (slash-first x m (sym (first-byte x 47 (m ++ 47 ∷ xs) ys e)) c)
before-slash (x ∷ m) (y ∷ n) xs ys e c =
    let one = first-byte x y (m ++ 47 ∷ xs) (n ++ 47 ∷ ys) e in
    let counted = ap (λ b. slashes (b ∷ m)) one in
    ap (λ b. b ∷ m) one ∙ ap (λ bs. y ∷ bs) (before-slash m n xs ys (other-bytes x y (m ++ 47 ∷ xs) (n ++ 47 ∷ ys) e) (omega (arith, c, counted)))

-- the path below the index directory
abbrev behind : Bytes → Bytes → Bytes
behind name dir = name ++ 47 ∷ (dir ++ 47 ∷ (name ++ codes ".cabal"))

behind-slashes : (name dir : Bytes) → HasNoSlash dir → slashes (behind name dir) ≡ 2 + slashes name + slashes name
behind-slashes name dir none =
    let a = slashes-append name (47 ∷ (dir ++ 47 ∷ (name ++ codes ".cabal"))) in
    let b = slashes-append dir (47 ∷ (name ++ codes ".cabal")) in
    let c = slashes-append name (codes ".cabal") in
    omega (arith, a, b, c, none)

path-is : (places : Places) (name dir : Bytes) → release_path places name dir ≡ places.index ++ 47 ∷ behind name dir
path-is places name dir =
    let slash : Bytes = 47 ∷ [] in
    let file = name ++ codes ".cabal" in
    let below = places.index ++ slash in
    append_assoc ((((below ++ name) ++ slash) ++ dir) ++ slash) name (codes ".cabal") ∙ append_assoc (((below ++ name) ++ slash) ++ dir) slash file
    ∙ append_assoc ((below ++ name) ++ slash) dir (47 ∷ file) ∙ append_assoc (below ++ name) slash (dir ++ 47 ∷ file)
    ∙ append_assoc below name (47 ∷ (dir ++ 47 ∷ file)) ∙ append_assoc places.index slash (behind name dir)

-- the path is a release file of this name
abbrev pub IsPathOf : Places → Bytes → Bytes → Type 0
IsPathOf places name path = (dir : Bytes) × HasNoSlash dir × (path ≡ release_path places name dir)

pub one-name : (places : Places) (m n path : Bytes) → IsPathOf places m path → IsPathOf places n path → m ≡ n
one-name places m n path h k =
    let together = sym (path-is places m h.0) ∙ sym h.2 ∙ k.2 ∙ path-is places n k.0 in
    let tails = append_cancel_left places.index (47 ∷ behind m h.0) (47 ∷ behind n k.0) together in
    let e : behind m h.0 ≡ behind n k.0 = other-bytes 47 47 (behind m h.0) (behind n k.0) tails in
    let a = behind-slashes m h.0 h.1 in
    let b = behind-slashes n k.0 k.1 in
    let c = ap slashes e in
    before-slash m n (h.0 ++ 47 ∷ (m ++ codes ".cabal")) (k.0 ++ 47 ∷ (n ++ codes ".cabal")) e (omega (arith, a, b, c))
