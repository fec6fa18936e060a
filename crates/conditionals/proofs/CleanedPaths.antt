-- Shared: paths without repeated settings.
use Rattle.std.proofs.Common.{◌≡◌, Bool, true, false, not, ◌&&◌, cond, List, [], ◌∷◌, ◌++◌, refl, sym, ap, ◌∙◌, append-nil}
use Rattle.std.specs.Prelude.{filter}
use Rattle.std.specs.List.{list_all}
use Rattle.std.proofs.lemmas.List.Elements.{filter-append}
use Rattle.std.proofs.lemmas.Bool.{and_parts}
use Rattle.plan_types.specs.declared.condition.FlagSet.{FlagSet}
use Rattle.conditionals.specs.Paths.{Path, is_same, agree, is_consistent, kept_once}
use Rattle.conditionals.proofs.Cleaning.{unlike}
use Rattle.plan_types.specs.Bytes.{same_text}
use Rattle.common_laws.specs.Small.{same-is}

-- ---- filters

filter_of : {A : Type 0} (p : A → Bool) (x : A) (xs : List A) (b : Bool) → p x ≡ b → filter p (x ∷ xs) ≡ cond b (x ∷ filter p xs) (filter p xs)
filter_of p x xs b e = ap (λ c. cond c (x ∷ filter p xs) (filter p xs)) e

filter_twice : {A : Type 0} (p : A → Bool) (xs : List A) → filter p (filter p xs) ≡ filter p xs
filter_twice p [] = refl
filter_twice p (x ∷ xs) = by (p x) refl (filter_twice p xs)
  where
    by : (b : Bool) → p x ≡ b → filter p (filter p xs) ≡ filter p xs → filter p (cond b (x ∷ filter p xs) (filter p xs)) ≡ cond b (x ∷ filter p xs) (filter p xs)
    by true e more = filter_of p x (filter p xs) true e ∙ ap (λ l. x ∷ l) more
    by false e more = more

filter_swap : {A : Type 0} (p q : A → Bool) (xs : List A) → filter p (filter q xs) ≡ filter q (filter p xs)
filter_swap p q [] = refl
filter_swap p q (x ∷ xs) = by (p x) (q x) refl refl (filter_swap p q xs)
  where
    by : (a b : Bool) → p x ≡ a → q x ≡ b → filter p (filter q xs) ≡ filter q (filter p xs) → filter p (cond b (x ∷ filter q xs) (filter q xs)) ≡ filter q (cond a (x ∷ filter p xs) (filter p xs))
    by true true e f more = filter_of p x (filter q xs) true e ∙ ap (λ l. x ∷ l) more ∙ sym (filter_of q x (filter p xs) true f)
    by true false e f more = more ∙ sym (filter_of q x (filter p xs) false f)
    by false true e f more = filter_of p x (filter q xs) false e ∙ more
    by false false e f more = more

filter_front : {A : Type 0} (p : A → Bool) (xs ys : List A) → filter p (filter p xs ++ ys) ≡ filter p (xs ++ ys)
filter_front p xs ys = filter-append p (filter p xs) ys ∙ ap (λ l. l ++ filter p ys) (filter_twice p xs) ∙ sym (filter-append p xs ys)

abbrev other : FlagSet → FlagSet → Bool
other s t = not (same_text s.name t.name)

-- ---- a part without repeated settings

unlike_kept : (s : FlagSet) (path : Path) → unlike s (kept_once path) ≡ kept_once (unlike s path)
unlike_kept s [] = refl
unlike_kept s (t ∷ path) = by (same_text s.name t.name) refl (unlike_kept s path)
  where
    by : (b : Bool) → same_text s.name t.name ≡ b → unlike s (kept_once path) ≡ kept_once (unlike s path)
        → cond (not b) (t ∷ unlike s (unlike t (kept_once path))) (unlike s (unlike t (kept_once path))) ≡ kept_once (cond (not b) (t ∷ unlike s path) (unlike s path))
    by true e more =
        ap (λ name. unlike s (filter (λ u. not (same_text name u.name)) (kept_once path))) (sym (same-is s.name t.name e))
        ∙ filter_twice (other s) (kept_once path)
        ∙ more
    by false e more = ap (λ l. t ∷ l) (filter_swap (other s) (other t) (kept_once path) ∙ ap (unlike t) more)

pub front_kept : (front back : Path) → kept_once (kept_once front ++ back) ≡ kept_once (front ++ back)
front_kept [] back = refl
front_kept (s ∷ front) back =
    ap (λ l. s ∷ l) (
    unlike_kept s (unlike s (kept_once front) ++ back)
    ∙ ap kept_once (filter_front (other s) (kept_once front) back)
    ∙ sym (unlike_kept s (kept_once front ++ back))
    ∙ ap (unlike s) (front_kept front back)
    )

pub back_kept : (front back : Path) → kept_once (front ++ kept_once back) ≡ kept_once (front ++ back)
back_kept [] back = ap kept_once (sym (append-nil (kept_once back))) ∙ front_kept back [] ∙ ap kept_once (append-nil back)
back_kept (s ∷ front) back = ap (λ l. s ∷ unlike s l) (back_kept front back)

-- ---- tests of all settings

filtered_all : (p q : FlagSet → Bool) (path : Path) → list_all p path ≡ true → list_all p (filter q path) ≡ true
filtered_all p q [] all = refl
filtered_all p q (s ∷ path) all =
    let parts = and_parts (p s) (list_all p path) all in
    by (q s) parts.0 (filtered_all p q path parts.1)
  where
    by : (b : Bool) → p s ≡ true → list_all p (filter q path) ≡ true → list_all p (cond b (s ∷ filter q path) (filter q path)) ≡ true
    by true here more = λ i. here i && more i
    by false here more = more

kept_all : (p : FlagSet → Bool) (path : Path) → list_all p path ≡ true → list_all p (kept_once path) ≡ true
kept_all p [] all = refl
kept_all p (s ∷ path) all =
    let parts = and_parts (p s) (list_all p path) all in
    λ i. parts.0 i && filtered_all p (other s) (kept_once path) (kept_all p path parts.1) i

same_answer : (a b : Bool) → is_same a b ≡ true → a ≡ b
same_answer true true e = refl
same_answer true false e = absurd (cc e)
same_answer false true e = absurd (cc e)
same_answer false false e = refl

under : (a b c d : Bool) → (a && c) ≡ (a && d) → (a && (b && c)) ≡ (a && (b && d))
under true b c d e = ap (λ x. b && x) e
under false b c d e = refl

under_same : (a b c d : Bool) → b ≡ a → (a && c) ≡ (a && d) → (a && c) ≡ (a && (b && d))
under_same true b c d same_text e = e ∙ ap (λ x. x && d) (sym same_text)
under_same false b c d same_text e = refl

module _ (p : FlagSet → Bool) where
  alike : (s t : FlagSet) → same_text s.name t.name ≡ true → is_same s.on t.on ≡ true → p t ≡ p s
  alike s t e o =
      let one : t ≡ s = λ i. record { name = sym (same-is s.name t.name e) i; on = sym (same_answer s.on t.on o) i } in
      ap p one

  dropped : (s : FlagSet) (path : Path) → list_all (agree s) path ≡ true → (p s && list_all p (unlike s path)) ≡ (p s && list_all p path)
  dropped s [] all = refl
  dropped s (t ∷ path) all = by (same_text s.name t.name) refl (and_parts _ _ all).0 (dropped s path (and_parts _ _ all).1)
    where
      by : (b : Bool) → same_text s.name t.name ≡ b → cond b (is_same s.on t.on) true ≡ true → (p s && list_all p (unlike s path)) ≡ (p s && list_all p path)
          → (p s && list_all p (cond (not b) (t ∷ unlike s path) (unlike s path))) ≡ (p s && list_all p (t ∷ path))
      by true e o more = under_same (p s) (p t) _ _ (alike s t e o) more
      by false e o more = under (p s) (p t) _ _ more

  pub all_kept : (path : Path) → is_consistent path ≡ true → list_all p (kept_once path) ≡ list_all p path
  all_kept [] e = refl
  all_kept (s ∷ path) e = dropped s (kept_once path) (kept_all (agree s) path (and_parts _ _ e).0) ∙ ap (λ b. p s && b) (all_kept path (and_parts _ _ e).1)

-- ---- consistency

filtered_consistent : (q : FlagSet → Bool) (path : Path) → is_consistent path ≡ true → is_consistent (filter q path) ≡ true
filtered_consistent q [] e = refl
filtered_consistent q (s ∷ path) e = by (q s) (filtered_all (agree s) q path (and_parts _ _ e).0) (filtered_consistent q path (and_parts _ _ e).1)
  where
    by : (b : Bool) → list_all (agree s) (filter q path) ≡ true → is_consistent (filter q path) ≡ true → is_consistent (cond b (s ∷ filter q path) (filter q path)) ≡ true
    by true all more = λ i. all i && more i
    by false all more = more

pub kept_consistent : (path : Path) → is_consistent path ≡ true → is_consistent (kept_once path) ≡ true
kept_consistent [] e = refl
kept_consistent (s ∷ path) e =
    let all = filtered_all (agree s) (other s) (kept_once path) (kept_all (agree s) path (and_parts _ _ e).0) in
    let more = filtered_consistent (other s) (kept_once path) (kept_consistent path (and_parts _ _ e).1) in
    λ i. all i && more i
