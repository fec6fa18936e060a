-- Shared: names inserted into a set.
use Rattle.std.proofs.Common.{◌≡◌, ℕ, ◌<◌, ◌+◌, Bool, true, false, List, [], ◌∷◌, ◌++◌, length, map, take, get_or, refl, sym, ◌∙◌, ap, append_assoc, append-nil, if◌then◌else◌}
use Rattle.std.specs.Prelude.{flat_map}
use Rattle.std.specs.List.{AllByRecursion, IsDistinct, list_all}
use Rattle.std.specs.Cmp.Lexicographic.{nat_list_eq_equiv}
use Rattle.std.proofs.lemmas.List.{map-append, take_more}
use Rattle.std.proofs.lemmas.Grind.{fold-append, flat_map-append}
use Rattle.std.proofs.lemmas.List.Folds.{list_any-append}
use Rattle.index_files.specs.Names.{is_listed, put, put_all}
use Rattle.outside_folder.specs.Files.{Bytes}
use Rattle.plan_types.specs.Bytes.{same_text}
use Rattle.std.proofs.lemmas.Bool.{or_left, or_right, and_from, and_parts}
use Rattle.std.proofs.lemmas.Map.Keys.{IsDistinct-push}
use Rattle.common_laws.specs.Each.{each-append}

-- ---- one more round of a loop

module _ {X : Type 0} (f : X → List Bytes) (start : List Bytes) (xs : List X) (i : ℕ) (x : X) (within : i < length xs) (at : x ≡ get_or xs i x) where
  flat_turn : put_all start (flat_map f (take (i + 1) xs)) ≡ put_all (put_all start (flat_map f (take i xs))) (f x)
  flat_turn =
      ap (λ ys. put_all start (flat_map f ys)) (take_more xs i x within)
      ∙ ap (put_all start) (flat_map-append f (take i xs) (get_or xs i x ∷ []))
      ∙ fold-append put start (flat_map f (take i xs)) (flat_map f (get_or xs i x ∷ []))
      ∙ ap (λ ns. put_all (put_all start (flat_map f (take i xs))) ns) (append-nil (f (get_or xs i x)) ∙ ap f (sym at))

  -- the set after one more element
  pub put_more : (before after : List Bytes) → before ≡ put_all start (flat_map f (take i xs)) → after ≡ put_all before (f x)
      → after ≡ put_all start (flat_map f (take (i + 1) xs))
  put_more before after so_far put = put ∙ ap (λ ns. put_all ns (f x)) so_far ∙ sym flat_turn

module _ {X : Type 0} (f : X → Bytes) (start : List Bytes) (xs : List X) (i : ℕ) (x : X) (within : i < length xs) (at : x ≡ get_or xs i x) where
  pub put_one : (before after : List Bytes) → before ≡ put_all start (map f (take i xs)) → after ≡ put before (f x) → after ≡ put_all start (map f (take (i + 1) xs))
  put_one before after so_far is =
      is ∙ ap (λ ns. put ns (f x)) so_far ∙ ap (λ y. put (put_all start (map f (take i xs))) (f y)) at
      ∙ sym (ap (λ ys. put_all start (map f ys)) (take_more xs i x within) ∙ ap (put_all start) (map-append f (take i xs) (get_or xs i x ∷ [])) ∙ fold-append put start (map f (take i xs)) (f (get_or xs i x) ∷ []))

-- ---- members

pub listed-left : (names more : List Bytes) (q : Bytes) → is_listed names q ≡ true → is_listed (names ++ more) q ≡ true
listed-left names more q h = list_any-append (same_text q) names more ∙ or_left (is_listed names q) (is_listed more q) h

pub listed-last : (names : List Bytes) (q : Bytes) → is_listed (names ++ q ∷ []) q ≡ true
listed-last names q = list_any-append (same_text q) names (q ∷ []) ∙ or_right (is_listed names q) (is_listed (q ∷ []) q) (or_left (same_text q q) false (nat_list_eq_equiv.refl q))

-- one inserted name
module _ (names : List Bytes) (n : Bytes) where
  pub put-listed : is_listed (put names n) n ≡ true
  put-listed = elim (is_listed names n) as (λ b. is_listed names n ≡ b → is_listed (if b then names else names ++ n ∷ []) n ≡ true) [
    | true ↦ λ e. e
    | false ↦ λ e. listed-last names n
  ] refl

  pub put-grows : (more : List Bytes) × (put names n ≡ names ++ more)
  put-grows = elim (is_listed names n) as (λ b. (more : List Bytes) × ((if b then names else names ++ n ∷ []) ≡ names ++ more)) [
    | true ↦ ([], sym (append-nil names))
    | false ↦ (n ∷ [], refl)
  ]

  pub put-each : (P : Bytes → Type 0) → AllByRecursion P names → P n → AllByRecursion P (put names n)
  put-each P h p = elim (is_listed names n) as (λ b. AllByRecursion P (if b then names else names ++ n ∷ [])) [
    | true ↦ h
    | false ↦ each-append P names (n ∷ []) h (p, tt)
  ]

pub put-distinct : (names : List Bytes) (n : Bytes) → IsDistinct same_text names → IsDistinct same_text (put names n)
put-distinct names n h = elim (is_listed names n) as (λ b. is_listed names n ≡ b → IsDistinct same_text (if b then names else names ++ n ∷ [])) [
  | true ↦ λ e. h
  | false ↦ λ e. IsDistinct-push nat_list_eq_equiv names n h e
] refl

-- several inserted names

pub put-all-grows : (names more : List Bytes) → (rest : List Bytes) × (put_all names more ≡ names ++ rest)
put-all-grows names [] = ([], sym (append-nil names))
put-all-grows names (n ∷ more) =
    let first = put-grows names n in
    let others = put-all-grows (put names n) more in
    (first.0 ++ others.0, others.1 ∙ ap (λ ns. ns ++ others.0) first.1 ∙ append_assoc names first.0 others.0)

pub put-all-distinct : (names more : List Bytes) → IsDistinct same_text names → IsDistinct same_text (put_all names more)
put-all-distinct names [] h = h
put-all-distinct names (n ∷ more) h = put-all-distinct (put names n) more (put-distinct names n h)

pub put-all-each : (P : Bytes → Type 0) (names more : List Bytes) → AllByRecursion P names → AllByRecursion P more → AllByRecursion P (put_all names more)
put-all-each P names [] h k = h
put-all-each P names (n ∷ more) h k = put-all-each P (put names n) more (put-each names n P h k.0) k.1

pub still-listed : (names more : List Bytes) (q : Bytes) → is_listed names q ≡ true → is_listed (put_all names more) q ≡ true
still-listed names more q h = let g = put-all-grows names more in ap (λ ns. is_listed ns q) g.1 ∙ listed-left names g.0 q h

pub all-put : (names more : List Bytes) → list_all (is_listed (put_all names more)) more ≡ true
all-put names [] = refl
all-put names (n ∷ more) = and_from _ _ (still-listed (put names n) more n (put-listed names n)) (all-put (put names n) more)

pub all-still : (names more xs : List Bytes) → list_all (is_listed names) xs ≡ true → list_all (is_listed (put_all names more)) xs ≡ true
all-still names more [] h = refl
all-still names more (x ∷ xs) h =
    and_from _ _ (still-listed names more x ((and_parts (is_listed names x) (list_all (is_listed names) xs) h).0)) (all-still names more xs ((and_parts (is_listed names x) (list_all (is_listed names) xs) h).1))

pub each-all-still : {X : Type 0} (f : X → List Bytes) (names more : List Bytes) (xs : List X) → list_all (λ x. list_all (is_listed names) (f x)) xs ≡ true → list_all (λ x. list_all (is_listed (put_all names more)) (f x)) xs ≡ true
each-all-still f names more [] h = refl
each-all-still f names more (x ∷ xs) h =
    and_from _ _ (all-still names more (f x) ((and_parts (list_all (is_listed names) (f x)) (list_all (λ y. list_all (is_listed names) (f y)) xs) h).0))
    (each-all-still f names more xs ((and_parts (list_all (is_listed names) (f x)) (list_all (λ y. list_all (is_listed names) (f y)) xs) h).1))

pub all-last : {X : Type 0} (p : X → Bool) (xs : List X) (x : X) → list_all p xs ≡ true → p x ≡ true → list_all p (xs ++ x ∷ []) ≡ true
all-last p [] x h e = and_from (p x) true e refl
all-last p (y ∷ xs) x h e = and_from (p y) _ ((and_parts (p y) (list_all p xs) h).0) (all-last p xs x ((and_parts (p y) (list_all p xs) h).1) e)
