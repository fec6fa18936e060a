-- What holds of each item of a list, tests of which some passes, and lists whose items stand in a relation place by place.
use Rattle.std.proofs.Common.{◌≡◌, Bool, true, false, List, [], ◌∷◌, ◌++◌, map, flat_map, refl, sym, ◌∙◌, subst, inl, inr}
use Rattle.std.specs.List.{AllByRecursion, AllZip, Contains, list_any}
use Rattle.std.proofs.lemmas.Bool.{false≢true}
use Rattle.common_laws.specs.Lists.{any-from, contains-cases, contains-head, contains-none, contains-tail}

pub each-at : {X : Type 0} (P : X → Type 0) (xs : List X) (x : X) → AllByRecursion P xs → Contains xs x → P x
each-at P [] x h k = absurd (contains-none x k)
each-at P (y ∷ xs) x h k = elim (contains-cases y xs x k) [ inl same ↦ subst P same h.0 | inr later ↦ each-at P xs x h.1 later ]

-- ---- tests

module _ {X : Type 0} (test : X → Bool) where
  -- where none passes
  pub none-at : (xs : List X) (x : X) → list_any test xs ≡ false → Contains xs x → test x ≡ false
  none-at xs x h k =
      elim (test x) as (λ b. test x ≡ b → b ≡ false) [
        | true ↦ λ e. absurd (false≢true (sym h ∙ any-from test xs x k e))
        | false ↦ λ e. refl
      ] refl

-- ---- place by place

module _ {X Y : Type 0} (R : X → Y → Type 0) where
  -- an item that stands in the relation with one of the others
  pub record HasRight (ys : List Y) (x : X) : Type 0 where
    pub other : Y
    pub among : Contains ys other
    pub related : R x other

  pub record HasLeft (xs : List X) (y : Y) : Type 0 where
    pub other : X
    pub among : Contains xs other
    pub related : R other y

  pub zip-right : (xs : List X) (ys : List Y) → AllZip R xs ys → (x : X) → Contains xs x → HasRight ys x
  zip-right [] ys h x k = absurd (contains-none x k)
  zip-right (z ∷ xs) [] h x k = absurd h
  zip-right (z ∷ xs) (y ∷ ys) h x k =
      elim (contains-cases z xs x k) [
        | inl same ↦ record { other = y; among = contains-head y ys; related = subst (λ w. R w y) same h.0 }
        | inr later ↦ let found = zip-right xs ys h.1 x later in
            record { other = found.other; among = contains-tail y ys found.other found.among; related = found.related }
      ]

  pub zip-left : (xs : List X) (ys : List Y) → AllZip R xs ys → (y : Y) → Contains ys y → HasLeft xs y
  zip-left xs [] h y k = absurd (contains-none y k)
  zip-left [] (z ∷ ys) h y k = absurd h
  zip-left (x ∷ xs) (z ∷ ys) h y k =
      elim (contains-cases z ys y k) [
        | inl same ↦ record { other = x; among = contains-head x xs; related = subst (λ w. R x w) same h.0 }
        | inr later ↦ let found = zip-left xs ys h.1 y later in
            record { other = found.other; among = contains-tail x xs found.other found.among; related = found.related }
      ]

  pub zip-append : (xs : List X) (ys : List Y) (us : List X) (vs : List Y) → AllZip R xs ys → AllZip R us vs → AllZip R (xs ++ us) (ys ++ vs)
  zip-append [] [] us vs h k = k
  zip-append [] (y ∷ ys) us vs h k = absurd h
  zip-append (x ∷ xs) [] us vs h k = absurd h
  zip-append (x ∷ xs) (y ∷ ys) us vs h k = (h.0, zip-append xs ys us vs h.1 k)

-- of two maps of one list
pub zip-map : {X Y Z : Type 0} (R : X → Y → Type 0) (f : Z → X) (g : Z → Y) (zs : List Z) → ((z : Z) → Contains zs z → R (f z) (g z)) → AllZip R (map f zs) (map g zs)
zip-map R f g [] h = tt
zip-map R f g (z ∷ zs) h = (h z (contains-head z zs), zip-map R f g zs (λ y k. h y (contains-tail z zs y k)))

-- of the images of both
pub zip-mapped : {X Z : Type 0} (R : X → X → Type 0) (f : Z → X) (zs ws : List Z) → AllZip (λ z w. R (f z) (f w)) zs ws → AllZip R (map f zs) (map f ws)
zip-mapped R f [] [] h = tt
zip-mapped R f [] (w ∷ ws) h = absurd h
zip-mapped R f (z ∷ zs) [] h = absurd h
zip-mapped R f (z ∷ zs) (w ∷ ws) h = (h.0, zip-mapped R f zs ws h.1)

pub zip-flat : {X Y Z : Type 0} (R : X → Y → Type 0) (f : Z → List X) (g : Z → List Y) (zs : List Z) → ((z : Z) → AllZip R (f z) (g z)) → AllZip R (flat_map f zs) (flat_map g zs)
zip-flat R f g [] h = tt
zip-flat R f g (z ∷ zs) h = zip-append R (f z) (g z) (flat_map f zs) (flat_map g zs) (h z) (zip-flat R f g zs h)

-- with itself
pub zip-self : {X : Type 0} (R : X → X → Type 0) (xs : List X) → ((x : X) → R x x) → AllZip R xs xs
zip-self R [] h = tt
zip-self R (x ∷ xs) h = (h x, zip-self R xs h)
