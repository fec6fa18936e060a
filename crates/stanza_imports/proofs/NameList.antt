-- Shared: lists of names, compared by their views.
use Rattle.std.proofs.Common.{◌≡◌, ℕ, suc, ◌+◌, ◌<◌, ◌&&◌, get_or, drop, drop-cons, add-one, not, length, cond, Bool, true, false, ◌||◌, if◌then◌else◌, List, [], ◌∷◌, ◌++◌, map, sym, ap, ◌∙◌, refl}
use Rattle.std.specs.Prelude.{Some, None, nat_lt, position}
use Rattle.std.specs.List.{list_all, list_any, position_or_len}
use Rattle.std.specs.Cmp.Lexicographic.{nat_list_eq_equiv}
use Rattle.std.proofs.lemmas.List.{map-append, length-map}
use Rattle.std.proofs.lemmas.List.Folds.{list_any-append}
use Rattle.stanza_imports.specs.Names.{has, with_name}
use Rattle.plan_types.specs.Bytes.{same_text}
use Rattle.std.proofs.Math.Bool.{or-false}

module _ {A : Type 0} (now : A → List ℕ) where
  pub any-shown : (test : List ℕ → Bool) (keys : List A) → list_any (λ k. test (now k)) keys ≡ list_any test (map now keys)
  any-shown test [] = refl
  any-shown test (key ∷ keys) = ap (λ b. test (now key) || b) (any-shown test keys)

  place-shown : (test : List ℕ → Bool) (keys : List A) → position_or_len (λ k. test (now k)) keys ≡ position_or_len test (map now keys)
  place-shown test [] = refl
  place-shown test (key ∷ keys) = ap (λ n. cond (not (test (now key))) (1 + n) 0) (place-shown test keys)

  pub position-shown : (test : List ℕ → Bool) (keys : List A) → position (λ k. test (now k)) keys ≡ position test (map now keys)
  position-shown test keys =
      ap (λ n. cond (nat_lt n (length keys)) (Some n) None) (place-shown test keys)
      ∙ ap (λ m. cond (nat_lt (position_or_len test (map now keys)) m) (Some (position_or_len test (map now keys))) None) (sym (length-map keys now))

  map-if : (b : Bool) (xs ys : List A) → map now (if b then xs else ys) ≡ (if b then map now xs else map now ys)
  map-if true xs ys = refl
  map-if false xs ys = refl

  pub with-shown : (name : A) (keys : List A) → map now (if list_any (λ k. same_text (now name) (now k)) keys then keys else keys ++ name ∷ []) ≡ with_name (map now keys) (now name)
  with-shown name keys =
      map-if (list_any (λ k. same_text (now name) (now k)) keys) keys (keys ++ name ∷ [])
      ∙ ap (λ b. if b then map now keys else map now (keys ++ name ∷ [])) (any-shown (same_text (now name)) keys)
      ∙ ap (λ more. if has (map now keys) (now name) then map now keys else more) (map-append now keys (name ∷ []))

same-listed : (other name : List ℕ) → same_text other name ≡ true → (names : List (List ℕ)) → has names other ≡ has names name
same-listed other name is [] = refl
same-listed other name is (n ∷ names) = ap (λ b. b || has names other) (nat_list_eq_equiv.congr other name n is) ∙ ap (λ b. same_text name n || b) (same-listed other name is names)

-- a set has the inserted name besides those it had
pub has-with : (names : List (List ℕ)) (name other : List ℕ) → has (with_name names name) other ≡ (has names other || same_text other name)
has-with names name other = by (has names name) refl
  where
    kept : has names name ≡ true → same_text other name ≡ true → has names other ≡ true
    kept there is = same-listed other name is names ∙ there

    absorbed : (a b : Bool) → (b ≡ true → a ≡ true) → a ≡ (a || b)
    absorbed true b h = refl
    absorbed false true h = h refl
    absorbed false false h = refl

    by : (t : Bool) → has names name ≡ t → has (with_name names name) other ≡ (has names other || same_text other name)
    by true there = ap (λ b. has (if b then names else names ++ name ∷ []) other) there ∙ absorbed (has names other) (same_text other name) (kept there)
    by false gone = ap (λ b. has (if b then names else names ++ name ∷ []) other) gone ∙ list_any-append (same_text other) names (name ∷ []) ∙ ap (λ b. has names other || b) (or-false (same_text other name))

-- a test over a list, one element further
module _ {A : Type 0} (test : A → Bool) (xs : List A) (n : ℕ) (x : A) (lt : n < length xs) (is : get_or xs n x ≡ x) where
  here : list_all test (drop n xs) ≡ (test x && list_all test (drop (n + 1) xs))
  here = ap (list_all test) (drop-cons xs n x lt) ∙ ap (λ v. test v && list_all test (drop (suc n) xs)) is ∙ ap (λ m. test x && list_all test (drop m xs)) (sym (add-one n))

  pub all-next : test x ≡ true → list_all test (drop (n + 1) xs) ≡ list_all test (drop n xs)
  all-next h = ap (λ b. b && list_all test (drop (n + 1) xs)) (sym h) ∙ sym here

  pub all-stops : test x ≡ false → false ≡ list_all test (drop n xs)
  all-stops h = ap (λ b. b && list_all test (drop (n + 1) xs)) (sym h) ∙ sym here
