-- Lists of which some items give nothing.
use Rattle.std.proofs.Common.{◌≡◌, Bool, true, false, cond, List, [], ◌∷◌, ◌++◌, map, flat_map, refl, sym, ap, ◌∙◌}
use Rattle.std.specs.Prelude.{filter, fold}
use Rattle.std.specs.List.{AllByRecursion, list_all}
use Rattle.std.proofs.lemmas.Bool.{and_from, and_parts}
use Rattle.std.proofs.lemmas.List.{map-append}
use Rattle.std.proofs.lemmas.List.Elements.{filter-append}
use Rattle.std.specs.BTreeSet.{insert_key}
use Rattle.std.specs.Ordering.{match_ordering}
use Rattle.std.specs.declared.cmp.Ordering.{Ordering}
use Rattle.std.specs.declared.cmp.Ordering.TheVariants.{Less, Equal, Greater}

-- types that a library doesn't export, by its functions: what one takes, what it gives, and what it lists
abbrev pub taken_by : {A B : Type 0} → (A → B) → Type 0
taken_by {A = A} f = A

abbrev pub given_by : {A B : Type 0} → (A → B) → Type 0
given_by {B = B} f = B

abbrev pub listed_by : {A B : Type 0} → (A → List B) → Type 0
listed_by {B = B} f = B

-- what is mapped of those that pass, item by item
pub map-filter : {X Y Z : Type 0} (f : Y → Z) (test : Y → Bool) (g : X → Y) (xs : List X) → map f (filter test (map g xs)) ≡ flat_map (λ x. map f (filter test (g x ∷ []))) xs
map-filter f test g [] = refl
map-filter f test g (x ∷ xs) =
    ap (map f) (filter-append test (g x ∷ []) (map g xs)) ∙ map-append f (filter test (g x ∷ [])) (filter test (map g xs))
    ∙ ap (λ l. map f (filter test (g x ∷ [])) ++ l) (map-filter f test g xs)

pub filter-map : {X Y : Type 0} (test : Y → Bool) (g : X → Y) (xs : List X) → filter test (map g xs) ≡ flat_map (λ x. filter test (g x ∷ [])) xs
filter-map test g [] = refl
filter-map test g (x ∷ xs) = filter-append test (g x ∷ []) (map g xs) ∙ ap (λ l. filter test (g x ∷ []) ++ l) (filter-map test g xs)

pub filter-flat : {X Y : Type 0} (test : Y → Bool) (f : X → List Y) (xs : List X) → filter test (flat_map f xs) ≡ flat_map (λ x. filter test (f x)) xs
filter-flat test f [] = refl
filter-flat test f (x ∷ xs) = filter-append test (f x) (flat_map f xs) ∙ ap (λ l. filter test (f x) ++ l) (filter-flat test f xs)

pub flat-map : {X Y Z : Type 0} (f : Y → List Z) (g : X → Y) (xs : List X) → flat_map f (map g xs) ≡ flat_map (λ x. f (g x)) xs
flat-map f g [] = refl
flat-map f g (x ∷ xs) = ap (λ l. f (g x) ++ l) (flat-map f g xs)

pub flat-same : {X Y : Type 0} (f g : X → List Y) (xs : List X) → ((x : X) → f x ≡ g x) → flat_map f xs ≡ flat_map g xs
flat-same f g [] same = refl
flat-same f g (x ∷ xs) same = ap (λ l. l ++ flat_map f xs) (same x) ∙ ap (λ l. g x ++ l) (flat-same f g xs same)

-- items that don't pass give nothing
module _ {X Y : Type 0} (test : X → Bool) (f : X → List Y) (none : (x : X) → test x ≡ false → f x ≡ []) where
  pub flat-passing : (xs : List X) → flat_map f xs ≡ flat_map f (filter test xs)
  flat-passing [] = refl
  flat-passing (x ∷ xs) =
      elim (test x) as (λ t. test x ≡ t → f x ++ flat_map f xs ≡ flat_map f (cond t (x ∷ filter test xs) (filter test xs))) [
        | true ↦ λ is. ap (λ l. f x ++ l) (flat-passing xs)
        | false ↦ λ is. ap (λ l. l ++ flat_map f xs) (none x is) ∙ flat-passing xs
      ] refl

  pub flat-alike : (xs ys : List X) → filter test xs ≡ filter test ys → flat_map f xs ≡ flat_map f ys
  flat-alike xs ys same = flat-passing xs ∙ ap (flat_map f) same ∙ sym (flat-passing ys)

pub map-each : {X Y : Type 0} (P : Y → Type 0) (f : X → Y) (xs : List X) → ((x : X) → P (f x)) → AllByRecursion P (map f xs)
map-each P f [] h = tt
map-each P f (x ∷ xs) h = (h x, map-each P f xs h)

pub map-alike : {X Y : Type 0} (f g : X → Y) (xs : List X) → AllByRecursion (λ x. f x ≡ g x) xs → map f xs ≡ map g xs
map-alike f g [] h = refl
map-alike f g (x ∷ xs) h = ap (λ y. y ∷ map f xs) h.0 ∙ ap (λ l. g x ∷ l) (map-alike f g xs h.1)

pub each-further : {X : Type 0} (P Q : X → Type 0) (xs : List X) → ((x : X) → P x → Q x) → AllByRecursion P xs → AllByRecursion Q xs
each-further P Q [] step h = tt
each-further P Q (x ∷ xs) step h = (step x h.0, each-further P Q xs step h.1)

-- keys in order
module _ {K : Type 0} (cmp : K → K → Ordering) (test : K → Bool) where
  all-insert : (xs : List K) (k : K) → list_all test xs ≡ true → test k ≡ true → list_all test (insert_key cmp xs k) ≡ true
  all-insert [] k h is = and_from (test k) true is refl
  all-insert (x ∷ xs) k h is = by (all-insert xs k (and_parts (test x) (list_all test xs) h).1 is) (cmp k x)
    where
      by : list_all test (insert_key cmp xs k) ≡ true → (o : Ordering) → list_all test (match_ordering o (k ∷ x ∷ xs) (x ∷ xs) (x ∷ insert_key cmp xs k)) ≡ true
      by later Less = and_from (test k) (list_all test (x ∷ xs)) is h
      by later Equal = h
      by later Greater = and_from (test x) (list_all test (insert_key cmp xs k)) (and_parts (test x) (list_all test xs) h).0 later

  pub all-in-order : (ks xs : List K) → list_all test xs ≡ true → list_all test ks ≡ true → list_all test (fold (insert_key cmp) xs ks) ≡ true
  all-in-order [] xs h is = h
  all-in-order (k ∷ ks) xs h is =
      let parts = and_parts (test k) (list_all test ks) is in
      all-in-order ks (insert_key cmp xs k) (all-insert xs k h parts.0) parts.1
