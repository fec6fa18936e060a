-- Shared: neighbours of items under an injective renaming.
use Rattle.std.proofs.Common.{◌≡◌, ℕ, zero, suc, length, map, Bool, true, false, cond, ◌||◌, List, [], ◌∷◌, ◌++◌, Option, Some, refl, ap, ◌∙◌, subst, inl, inr, ◌⊎◌}
use Rattle.std.specs.List.{Contains, list_any, filter, slice_get}
use Rattle.std.specs.Option.{option_map}
use Rattle.std.proofs.Math.ListN.{set}
use Rattle.common_laws.specs.Lists.{contains-head, contains-tail}
use Rattle.goal_links.specs.Beside.{last_from, first_of, beside_from, behind_first}

pub any-mapped : {X Y : Type 0} (f : X → Y) (p : Y → Bool) (q : X → Bool) (xs : List X) → ((x : X) → Contains xs x → p (f x) ≡ q x) → list_any p (map f xs) ≡ list_any q xs
any-mapped f p q [] h = refl
any-mapped f p q (x ∷ xs) h =
    ap (λ b. b || list_any p (map f xs)) (h x (contains-head x xs)) ∙ ap (λ b. q x || b) (any-mapped f p q xs (λ y c. h y (contains-tail x xs y c)))

pub filter-mapped : {X Y : Type 0} (f : X → Y) (p : Y → Bool) (q : X → Bool) (xs : List X) → ((x : X) → Contains xs x → p (f x) ≡ q x) → filter p (map f xs) ≡ map f (filter q xs)
filter-mapped f p q [] h = refl
filter-mapped {X} {Y} f p q (x ∷ xs) h =
    ap (λ b. cond b (f x ∷ filter p (map f xs)) (filter p (map f xs))) (h x (contains-head x xs))
    ∙ ap (λ l. cond (q x) (f x ∷ l) l) (filter-mapped f p q xs (λ y c. h y (contains-tail x xs y c)))
    ∙ elim (q x) as (λ b. cond b (f x ∷ map f (filter q xs)) (map f (filter q xs)) ≡ map f (cond b (x ∷ filter q xs) (filter q xs))) [ true ↦ refl | false ↦ refl ]

pub behind-mapped : {X Y : Type 0} (f : X → Y) (p : Y → Bool) (q : X → Bool) (xs : List X) → ((x : X) → Contains xs x → p (f x) ≡ q x)
    → behind_first p (map f xs) ≡ map f (behind_first q xs)
behind-mapped f p q [] h = refl
behind-mapped f p q (x ∷ xs) h =
    ap (λ b. cond b (map f xs) (behind_first p (map f xs))) (h x (contains-head x xs))
    ∙ ap (λ l. cond (q x) (map f xs) l) (behind-mapped f p q xs (λ y c. h y (contains-tail x xs y c)))
    ∙ elim (q x) as (λ b. cond b (map f xs) (map f (behind_first q xs)) ≡ map f (cond b xs (behind_first q xs))) [ true ↦ refl | false ↦ refl ]

pub first-mapped : {X Y : Type 0} (f : X → Y) (xs : List X) → first_of (map f xs) ≡ option_map f (first_of xs)
first-mapped f [] = refl
first-mapped f (x ∷ xs) = refl

pub last-mapped : {X Y : Type 0} (f : X → Y) (before : Option X) (xs : List X) → last_from (option_map f before) (map f xs) ≡ option_map f (last_from before xs)
last-mapped f before [] = refl
last-mapped f before (x ∷ xs) = last-mapped f (Some x) xs

-- two neighbours, renamed
abbrev pub both : {X Y : Type 0} → (X → Y) → Option X × Option X → Option Y × Option Y
both f sides = (option_map f sides.0, option_map f sides.1)

pub beside-mapped : {X Y : Type 0} (f : X → Y) (p : Y → Bool) (q : X → Bool) (before : Option X) (xs : List X) → ((x : X) → Contains xs x → p (f x) ≡ q x)
    → beside_from p (option_map f before) (map f xs) ≡ both f (beside_from q before xs)
beside-mapped f p q before [] h = refl
beside-mapped {X} {Y} f p q before (x ∷ xs) h =
    let here : Option Y × Option Y = (option_map f before, first_of (map f xs)) in
    let there : Option X × Option X = (before, first_of xs) in
    ap (λ b. cond b here (beside_from p (Some (f x)) (map f xs))) (h x (contains-head x xs))
    ∙ ap (λ l. cond (q x) here l) (beside-mapped f p q (Some x) xs (λ y c. h y (contains-tail x xs y c)))
    ∙ elim (q x) as (λ b. cond b here (both f (beside_from q (Some x) xs)) ≡ both f (cond b there (beside_from q (Some x) xs))) [
      | true ↦ ap (λ (o : Option Y). let s : Option Y × Option Y = (option_map f before, o) in s) (first-mapped f xs)
      | false ↦ refl
    ]

pub map-parted : {X Y : Type 0} (f : X → Y) (xs : List X) (front rest : List Y) → map f xs ≡ front ++ rest
    → (as' : List X) × (bs : List X) × (xs ≡ as' ++ bs) × (map f as' ≡ front) × (map f bs ≡ rest)
map-parted f xs [] rest h = ([], xs, refl, refl, h)
map-parted f [] (y ∷ front) rest h = absurd (cc h)
map-parted {X} {Y} f (x ∷ xs) (y ∷ front) rest h =
    let e : f x ≡ y = cc in
    let more = map-parted f xs front rest cc in
    (x ∷ more.0, more.1, ap (λ l. x ∷ l) more.2, ap (λ z. z ∷ map f more.0) e ∙ ap (λ l. y ∷ l) more.3, more.4)

pub map-alike : {X Y : Type 0} (f g : X → Y) (xs : List X) → ((k : ℕ) (x : X) → slice_get xs k ≡ Some x → f x ≡ g x) → map f xs ≡ map g xs
map-alike f g [] h = refl
map-alike f g (x ∷ xs) h = ap (λ y. y ∷ map f xs) (h 0 x refl) ∙ ap (λ l. g x ∷ l) (map-alike f g xs (λ k y e. h (suc k) y e))

pub get-contains : {X : Type 0} (xs : List X) (k : ℕ) (x : X) → slice_get xs k ≡ Some x → Contains xs x
get-contains [] k x h = absurd (cc h)
get-contains (y ∷ xs) zero x h = let e : y ≡ x = cc in subst (λ z. Contains (y ∷ xs) z) e (contains-head y xs)
get-contains (y ∷ xs) (suc k) x h = contains-tail y xs x (get-contains xs k x h)

-- the item at a place after a write
pub get-set : {X : Type 0} (xs : List X) (i : ℕ) (v : X) (k : ℕ) (x : X) → slice_get (set xs i v) k ≡ Some x → ((k ≡ i) × (v ≡ x)) ⊎ (slice_get xs k ≡ Some x)
get-set [] i v k x h = absurd (cc h)
get-set (y ∷ xs) zero v zero x h = inl (refl, cc)
get-set (y ∷ xs) zero v (suc k) x h = inr h
get-set (y ∷ xs) (suc i) v zero x h = inr h
get-set (y ∷ xs) (suc i) v (suc k) x h = elim (get-set xs i v k x h) [ inl p ↦ inl (ap suc p.0, p.1) | inr p ↦ inr p ]

pub get-push : {X : Type 0} (xs : List X) (v : X) (k : ℕ) (x : X) → slice_get (xs ++ v ∷ []) k ≡ Some x → (v ≡ x) ⊎ (slice_get xs k ≡ Some x)
get-push [] v zero x h = inl cc
get-push [] v (suc k) x h = absurd (cc h)
get-push (y ∷ xs) v zero x h = inr h
get-push (y ∷ xs) v (suc k) x h = get-push xs v k x h

pub get-last : {X : Type 0} (xs : List X) (v : X) → slice_get (xs ++ v ∷ []) (length xs) ≡ Some v
get-last [] v = refl
get-last (y ∷ xs) v = get-last xs v

pub get-left : {X : Type 0} (xs ys : List X) (n : ℕ) (x : X) → slice_get xs n ≡ Some x → slice_get (xs ++ ys) n ≡ Some x
get-left [] ys n x h = absurd (cc h)
get-left (y ∷ xs) ys zero x h = h
get-left (y ∷ xs) ys (suc n) x h = get-left xs ys n x h
