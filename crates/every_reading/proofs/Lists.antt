-- Listed names, and the number of names not seen yet.
use Rattle.std.proofs.Common.{◌≡◌, ◌+◌, ◌<◌, ◌≤◌, ℕ, suc, Bool, true, false, ◌||◌, if◌then◌else◌, List, [], ◌∷◌, ◌++◌, length, refl, sym, ap, ◌∙◌, arith, None}
use Rattle.std.specs.Prelude.{nat_lt, position}
use Rattle.std.specs.List.{AllByRecursion, IsDistinct, list_any, position_or_len}
use Rattle.std.specs.Cmp.Lexicographic.{bytes_decides}
use Rattle.std.proofs.lemmas.Bool.{false≢true, ltb-true, or_left, or_right}
use Rattle.std.proofs.lemmas.Cmp.{nat_list_eq_equiv}
use Rattle.std.proofs.lemmas.List.Folds.{list_any-append}
use Rattle.outside_folder.specs.Files.{Bytes}
use Rattle.plan_types.specs.Bytes.{same_text}
use Rattle.index_files.specs.Names.{is_listed}
use Rattle.common_laws.specs.Each.{each-front}

-- a property of listed names holds of each
pub each_of : (P : Bytes → Type 0) (xs : List Bytes) → ((x : Bytes) → is_listed xs x ≡ true → P x) → AllByRecursion P xs
each_of P [] f = tt
each_of P (x ∷ xs) f = (f x (or_left (same_text x x) (is_listed xs x) (nat_list_eq_equiv.refl x)), each_of P xs (λ y h. f y (or_right (same_text y x) (is_listed xs y) h)))

pub distinct_front : (xs ys : List Bytes) → IsDistinct same_text (xs ++ ys) → IsDistinct same_text xs
unfolding IsDistinct
distinct_front [] ys once = tt
distinct_front (x ∷ xs) ys once = (each-front (λ y. same_text x y ≡ false) xs ys once.0, distinct_front xs ys once.1)

-- in a list of distinct names, a name is not among those before it
pub not_in_front : (xs : List Bytes) (name : Bytes) (ys : List Bytes) → IsDistinct same_text (xs ++ name ∷ ys) → is_listed xs name ≡ false
unfolding IsDistinct
not_in_front [] name ys once = refl
not_in_front (x ∷ xs) name ys once = ap (λ b. b || is_listed xs name) other ∙ not_in_front xs name ys once.1
  where
    at : (zs : List Bytes) → AllByRecursion (λ y. same_text x y ≡ false) (zs ++ name ∷ ys) → same_text x name ≡ false
    at [] all = all.0
    at (z ∷ zs) all = at zs all.1

    other : same_text name x ≡ false
    other = nat_list_eq_equiv.symm name x ∙ at xs once.0

-- ---- the number not seen yet

abbrev one_unless : Bool → ℕ
one_unless seen = if seen then 0 else 1

abbrev pub left : List Bytes → List Bytes → ℕ
left [] seen = 0
left (x ∷ xs) seen = one_unless (is_listed seen x) + left xs seen

more_seen : (seen : List Bytes) (name x : Bytes) → is_listed (seen ++ name ∷ []) x ≡ is_listed seen x || (same_text x name || false)
more_seen seen name x = list_any-append (same_text x) seen (name ∷ [])

less_by : (a b : Bool) → one_unless (a || b) ≤ one_unless a
less_by true b = omega arith
less_by false true = omega arith
less_by false false = omega arith

pub left_less : (xs seen : List Bytes) (name : Bytes) → left xs (seen ++ name ∷ []) ≤ left xs seen
left_less [] seen name = omega arith
left_less (x ∷ xs) seen name =
    let here = less_by (is_listed seen x) (same_text x name || false) in
    let is = ap one_unless (more_seen seen name x) in
    let more = left_less xs seen name in
    omega (arith, here, is, more)

-- it drops with a new name that is seen
pub left_drops : (xs seen : List Bytes) (name : Bytes) → is_listed xs name ≡ true → is_listed seen name ≡ false → left xs (seen ++ name ∷ []) < left xs seen
left_drops [] seen name h new = absurd (false≢true h)
left_drops (x ∷ xs) seen name h new = by (same_text name x) refl (λ behind. left_drops xs seen name behind new)
  where
    by : (t : Bool) → same_text name x ≡ t → (is_listed xs name ≡ true → left xs (seen ++ name ∷ []) < left xs seen) → left (x ∷ xs) (seen ++ name ∷ []) < left (x ∷ xs) seen
    by true q drops =
        let same = (bytes_decides name x).0 q in
        let before : one_unless (is_listed seen x) ≡ 1 = ap (λ n. one_unless (is_listed seen n)) (sym same) ∙ ap one_unless new in
        let listed : is_listed (seen ++ name ∷ []) x ≡ true =
        more_seen seen name x ∙ or_right (is_listed seen x) (same_text x name || false) (or_left (same_text x name) false ((bytes_decides x name).1 (sym same))) in
        let after = ap one_unless listed in
        let more = left_less xs seen name in
        omega (arith, before, after, more)
    by false q drops =
        let here = less_by (is_listed seen x) (same_text x name || false) in
        let is = ap one_unless (more_seen seen name x) in
        let more = drops (ap (λ b. b || is_listed xs name) (sym q) ∙ h) in
        omega (arith, here, is, more)

-- ---- no place

one_more : (n : ℕ) → 1 + n ≡ suc n
one_more n = omega arith

no_place : {X : Type 0} (test : X → Bool) (xs : List X) → list_any test xs ≡ false → position_or_len test xs ≡ length xs
no_place test [] h = refl
no_place test (x ∷ xs) h = by (test x) refl (no_place test xs)
  where
    by : (t : Bool) → test x ≡ t → (list_any test xs ≡ false → position_or_len test xs ≡ length xs) → position_or_len test (x ∷ xs) ≡ length (x ∷ xs)
    by true q more = absurd (false≢true (sym h ∙ or_left (test x) (list_any test xs) q))
    by false q more = rw q (ap (λ n. 1 + n) (more (ap (λ b. b || list_any test xs) (sym q) ∙ h)) ∙ one_more (length xs))

not_less : (n : ℕ) → nat_lt n n ≡ false
not_less n = by (nat_lt n n) refl
  where
    by : (t : Bool) → nat_lt n n ≡ t → t ≡ false
    by true q = absurd (let l = ltb-true n n q in omega (arith, l))
    by false q = refl

pub no_position : {X : Type 0} (test : X → Bool) (xs : List X) → list_any test xs ≡ false → position test xs ≡ None
no_position test xs h = let is = no_place test xs h in rw is (rw (not_less (length xs)) refl)
