-- Lemmas on lists: members, tests of all and of some, filters, pairs, and indices.
use Rattle.std.proofs.Common.{◌≡◌, ◌≢◌, ℕ, zero, suc, ◌+◌, ◌<◌, Bool, true, false, cond, not, ◌&&◌, ◌||◌, List, [], ◌∷◌, ◌++◌, length, map, take, drop, get_or, refl, sym, ap, ◌∙◌, subst, inl, inr, arith, ◌⊎◌, ⊎_elim, add-one, length-append}
use Rattle.std.specs.List.{Contains, All, AllPairs, filter, flat_map, list_all, list_any, position_or_len}
use Rattle.std.proofs.Math.Seq.{drop-cons}
use Rattle.std.proofs.lemmas.Bool.{false≢true, and_parts, and_from}
use Rattle.std.proofs.lemmas.List.{take_more}
use Rattle.std.proofs.lemmas.List.Elements.{Contains-get_or}

pub contains-head : {X : Type 0} (x : X) (xs : List X) → Contains (x ∷ xs) x
contains-head x xs = (0, omega arith, refl)

pub contains-tail : {X : Type 0} (y : X) (xs : List X) (x : X) → Contains xs x → Contains (y ∷ xs) x
contains-tail y xs x h = (suc h.0, omega (arith, h.1), h.2)

pub contains-none : {X : Type 0} (x : X) → Contains [] x → ⊥
contains-none x h = omega (arith, h.1)

pub contains-cases : {X : Type 0} (y : X) (xs : List X) (x : X) → Contains (y ∷ xs) x → (y ≡ x) ⊎ Contains xs x
contains-cases y xs x (zero, h, e) = inl e
contains-cases y xs x (suc k, h, e) = inr (k, omega (arith, h), e)

pub contains-left : {X : Type 0} (xs ys : List X) (x : X) → Contains xs x → Contains (xs ++ ys) x
contains-left [] ys x h = absurd (contains-none x h)
contains-left (y ∷ xs) ys x h =
    elim (contains-cases y xs x h) [ inl e ↦ subst (λ z. Contains (y ∷ xs ++ ys) z) e (contains-head y (xs ++ ys)) | inr k ↦ contains-tail y (xs ++ ys) x (contains-left xs ys x k) ]

pub contains-right : {X : Type 0} (xs ys : List X) (x : X) → Contains ys x → Contains (xs ++ ys) x
contains-right [] ys x h = h
contains-right (y ∷ xs) ys x h = contains-tail y (xs ++ ys) x (contains-right xs ys x h)

pub contains-append : {X : Type 0} (xs ys : List X) (x : X) → Contains (xs ++ ys) x → Contains xs x ⊎ Contains ys x
contains-append [] ys x h = inr h
contains-append (y ∷ xs) ys x h =
    elim (contains-cases y (xs ++ ys) x h) [
      | inl e ↦ inl (subst (λ z. Contains (y ∷ xs) z) e (contains-head y xs))
      | inr k ↦ elim (contains-append xs ys x k) [ inl l ↦ inl (contains-tail y xs x l) | inr r ↦ inr r ]
    ]

-- an item of a `flat_map` comes from some item of the list
pub contains-flat_map : {X Y : Type 0} (f : X → List Y) (xs : List X) (y : Y) → Contains (flat_map f xs) y → (x : X) × Contains xs x × Contains (f x) y
contains-flat_map f [] y h = absurd (contains-none y h)
contains-flat_map f (x ∷ xs) y h =
    elim (contains-append (f x) (flat_map f xs) y h) [
      | inl l ↦ (x, contains-head x xs, l)
      | inr r ↦ let found = contains-flat_map f xs y r in (found.0, contains-tail x xs found.0 found.1, found.2)
    ]

pub flat_map-contains : {X Y : Type 0} (f : X → List Y) (xs : List X) (x : X) (y : Y) → Contains xs x → Contains (f x) y → Contains (flat_map f xs) y
flat_map-contains f [] x y h k = absurd (contains-none x h)
flat_map-contains f (z ∷ xs) x y h k =
    elim (contains-cases z xs x h) [
      | inl e ↦ contains-left (f z) (flat_map f xs) y (subst (λ w. Contains (f w) y) (sym e) k)
      | inr r ↦ contains-right (f z) (flat_map f xs) y (flat_map-contains f xs x y r k)
    ]

pub map-contains : {X Y : Type 0} (f : X → Y) (xs : List X) (x : X) → Contains xs x → Contains (map f xs) (f x)
map-contains f [] x h = absurd (contains-none x h)
map-contains f (z ∷ xs) x h =
    elim (contains-cases z xs x h) [
      | inl e ↦ subst (λ w. Contains (f z ∷ map f xs) (f w)) e (contains-head (f z) (map f xs))
      | inr r ↦ contains-tail (f z) (map f xs) (f x) (map-contains f xs x r)
    ]

pub contains-map : {X Y : Type 0} (f : X → Y) (xs : List X) (y : Y) → Contains (map f xs) y → (x : X) × Contains xs x × (f x ≡ y)
contains-map f [] y h = absurd (contains-none y h)
contains-map f (x ∷ xs) y h =
    elim (contains-cases (f x) (map f xs) y h) [
      | inl e ↦ (x, contains-head x xs, e)
      | inr r ↦ let found = contains-map f xs y r in (found.0, contains-tail x xs found.0 found.1, found.2)
    ]

-- a kept item is in the list and passes the test
pub contains-filter : {X : Type 0} (test : X → Bool) (xs : List X) (x : X) → Contains (filter test xs) x → Contains xs x × (test x ≡ true)
contains-filter test [] x h = absurd (contains-none x h)
contains-filter test (y ∷ xs) x h =
    elim (test y) as (λ b. test y ≡ b → Contains (cond b (y ∷ filter test xs) (filter test xs)) x → Contains (y ∷ xs) x × (test x ≡ true)) [
      | true ↦ λ is k. elim (contains-cases y (filter test xs) x k) [
        | inl e ↦ (subst (λ z. Contains (y ∷ xs) z) e (contains-head y xs), subst (λ z. test z ≡ true) e is)
        | inr r ↦ let found = contains-filter test xs x r in (contains-tail y xs x found.0, found.1)
      ]
      | false ↦ λ is k. let found = contains-filter test xs x k in (contains-tail y xs x found.0, found.1)
    ] refl h

-- if a filter keeps nothing, no item passes
pub filter-none : {X : Type 0} (test : X → Bool) (xs : List X) → filter test xs ≡ [] → (x : X) → Contains xs x → test x ≡ false
filter-none test [] e x h = absurd (contains-none x h)
filter-none test (y ∷ xs) e x h =
    elim (test y) as (λ b. test y ≡ b → cond b (y ∷ filter test xs) (filter test xs) ≡ [] → test x ≡ false) [
      | true ↦ λ is k. absurd (cc k)
      | false ↦ λ is k. elim (contains-cases y xs x h) [ inl same ↦ subst (λ z. test z ≡ false) same is | inr r ↦ filter-none test xs k x r ]
    ] refl e

pub all-at : {X : Type 0} (test : X → Bool) (xs : List X) (x : X) → list_all test xs ≡ true → Contains xs x → test x ≡ true
all-at test [] x h k = absurd (contains-none x k)
all-at test (y ∷ xs) x h k =
    elim (contains-cases y xs x k) [
      | inl e ↦ subst (λ z. test z ≡ true) e ((and_parts (test y) (list_all test xs) h).0)
      | inr r ↦ all-at test xs x ((and_parts (test y) (list_all test xs) h).1) r
    ]

pub all-from : {X : Type 0} (test : X → Bool) (xs : List X) → ((x : X) → Contains xs x → test x ≡ true) → list_all test xs ≡ true
all-from test [] h = refl
all-from test (y ∷ xs) h = and_from (test y) (list_all test xs) (h y (contains-head y xs)) (all-from test xs (λ x k. h x (contains-tail y xs x k)))

pub all-append : {X : Type 0} (test : X → Bool) (xs ys : List X) → list_all test (xs ++ ys) ≡ list_all test xs && list_all test ys
all-append test [] ys = refl
all-append test (x ∷ xs) ys = elim (test x) as (λ b. b && list_all test (xs ++ ys) ≡ (b && list_all test xs) && list_all test ys) [ true ↦ all-append test xs ys | false ↦ refl ]

pub all-flat_map : {X Y : Type 0} (test : Y → Bool) (f : X → List Y) (xs : List X) → list_all test (flat_map f xs) ≡ list_all (λ x. list_all test (f x)) xs
all-flat_map test f [] = refl
all-flat_map test f (x ∷ xs) = all-append test (f x) (flat_map f xs) ∙ ap (λ b. list_all test (f x) && b) (all-flat_map test f xs)

-- equal prefixes cancel
pub cancel-front : {X : Type 0} (xs ys zs : List X) → xs ++ ys ≡ xs ++ zs → ys ≡ zs
cancel-front [] ys zs h = h
cancel-front (x ∷ xs) ys zs h = cancel-front xs ys zs (cc h)

-- a list without one occurrence of an item
pub without : {X : Type 0} (xs : List X) (x : X) → Contains xs x → (rest : List X) × (suc (length rest) ≡ length xs) × ((y : X) → Contains xs y → (x ≡ y → ⊥) → Contains rest y)
without [] x h = absurd (contains-none x h)
without (z ∷ xs) x h =
    elim (contains-cases z xs x h) [
      | inl e ↦ (xs, refl, λ y k ne. elim (contains-cases z xs y k) [ inl f ↦ absurd (ne (sym e ∙ f)) | inr r ↦ r ])
      | inr r ↦
          let found = without xs x r in (
            z ∷ found.0,
            ap suc found.1,
            λ y k ne. elim (contains-cases z xs y k) [
              | inl f ↦ subst (λ w. Contains (z ∷ found.0) w) f (contains-head z found.0)
              | inr s ↦ contains-tail z found.0 y (found.2 y s ne)
            ],
          )
    ]

pub once-head : {X : Type 0} (x : X) (xs : List X) → AllPairs (λ a b. a ≢ b) (x ∷ xs) → Contains xs x → ⊥
once-head x xs h k = h 0 (suc k.0) x (omega arith) (omega (arith, k.1)) (sym k.2)

pub once-tail : {X : Type 0} (x : X) (xs : List X) → AllPairs (λ a b. a ≢ b) (x ∷ xs) → AllPairs (λ a b. a ≢ b) xs
once-tail x xs h i j d l k = h (suc i) (suc j) d (omega (arith, l)) (omega (arith, k))

-- in a list without repetition, an item that precedes `a` is in the part in front of `a`
pub earlier-in-front : {X : Type 0} (a b : X) (front rest before between after : List X)
    → AllPairs (λ x y. x ≢ y) (front ++ a ∷ rest) → front ++ a ∷ rest ≡ before ++ (b ∷ between ++ (a ∷ after)) → Contains front b
earlier-in-front a b [] rest [] between after once e =
    absurd (once-head a rest once (subst (λ l. Contains l a) (sym (cc e)) (contains-right between (a ∷ after) a (contains-head a after))))
earlier-in-front a b [] rest (x ∷ before) between after once e =
    absurd (once-head a rest once (subst (λ l. Contains l a) (sym (cc e))
    (contains-right before (b ∷ between ++ (a ∷ after)) a (contains-tail b (between ++ (a ∷ after)) a (contains-right between (a ∷ after) a (contains-head a after))))))
earlier-in-front a b (y ∷ front) rest [] between after once e = subst (λ z. Contains (y ∷ front) z) (cc e) (contains-head y front)
earlier-in-front a b (y ∷ front) rest (x ∷ before) between after once e =
    contains-tail y front b (earlier-in-front a b front rest before between after (once-tail y (front ++ a ∷ rest) once) (cc e))

pub any-at : {X : Type 0} (test : X → Bool) (xs : List X) → list_any test xs ≡ true → (x : X) × Contains xs x × (test x ≡ true)
any-at test [] h = absurd (false≢true h)
any-at test (y ∷ xs) h =
    elim (test y) as (λ b. test y ≡ b → b || list_any test xs ≡ true → (x : _) × Contains (y ∷ xs) x × (test x ≡ true)) [
      | true ↦ λ e k. (y, contains-head y xs, e)
      | false ↦ λ e k. let found = any-at test xs k in (found.0, contains-tail y xs found.0 found.1, found.2)
    ] refl h

pub any-from : {X : Type 0} (test : X → Bool) (xs : List X) (x : X) → Contains xs x → test x ≡ true → list_any test xs ≡ true
any-from test [] x h k = absurd (contains-none x h)
any-from test (y ∷ xs) x h k =
    elim (test y) as (λ b. test y ≡ b → b || list_any test xs ≡ true) [
      | true ↦ λ e. refl
      | false ↦ λ e. elim (contains-cases y xs x h) [
        | inl same ↦ absurd (false≢true (sym e ∙ ap test same ∙ k))
        | inr r ↦ any-from test xs x r k
      ]
    ] refl

pub all-where : {X : Type 0} (P : X → Type 0) (xs : List X) → ((x : X) → Contains xs x → P x) → All P xs
all-where P xs h k d below = h (get_or xs k d) (Contains-get_or xs k d below)

pub pairs-cons : {X : Type 0} (R : X → X → Type 0) (x : X) (xs : List X) → ((y : X) → Contains xs y → R x y) → AllPairs R xs → AllPairs R (x ∷ xs)
pairs-cons R x xs h rest zero zero d low high = absurd (omega (arith, low))
pairs-cons R x xs h rest zero (suc j) d low high = h (get_or xs j d) (Contains-get_or xs j d (omega (arith, high)))
pairs-cons R x xs h rest (suc i) zero d low high = absurd (omega (arith, low))
pairs-cons R x xs h rest (suc i) (suc j) d low high = rest i j d (omega (arith, low)) (omega (arith, high))

pub pairs-head : {X : Type 0} (R : X → X → Type 0) (x : X) (xs : List X) (y : X) → AllPairs R (x ∷ xs) → Contains xs y → R x y
pairs-head R x xs y h k = subst (λ z. R x z) k.2 (h 0 (suc k.0) y (omega arith) (omega (arith, k.1)))

pub pairs-tail : {X : Type 0} (R : X → X → Type 0) (x : X) (xs : List X) → AllPairs R (x ∷ xs) → AllPairs R xs
pairs-tail R x xs h i j d low high = h (suc i) (suc j) d (omega (arith, low)) (omega (arith, high))

pub pairs-nil : {X : Type 0} (R : X → X → Type 0) → AllPairs R []
pairs-nil R i j d low high = absurd (omega (arith, high))

-- an item that passes is kept
pub filter-contains : {X : Type 0} (test : X → Bool) (xs : List X) (x : X) → Contains xs x → test x ≡ true → Contains (filter test xs) x
filter-contains test [] x h k = absurd (contains-none x h)
filter-contains test (y ∷ xs) x h k =
    elim (test y) as (λ b. test y ≡ b → Contains (cond b (y ∷ filter test xs) (filter test xs)) x) [
      | true ↦ λ is. elim (contains-cases y xs x h) [
        | inl e ↦ subst (λ z. Contains (y ∷ filter test xs) z) e (contains-head y (filter test xs))
        | inr r ↦ contains-tail y (filter test xs) x (filter-contains test xs x r k)
      ]
      | false ↦ λ is. elim (contains-cases y xs x h) [
        | inl e ↦ absurd (false≢true (sym is ∙ ap test e ∙ k))
        | inr r ↦ filter-contains test xs x r k
      ]
    ] refl

-- filters by tests that agree on each member
pub filter-same : {X : Type 0} (test other : X → Bool) (xs : List X) → ((x : X) → Contains xs x → test x ≡ other x) → filter test xs ≡ filter other xs
filter-same test other [] h = refl
filter-same test other (x ∷ xs) h =
    ap (λ b. cond b (x ∷ filter test xs) (filter test xs)) (h x (contains-head x xs))
    ∙ ap (λ l. cond (other x) (x ∷ l) l) (filter-same test other xs (λ y k. h y (contains-tail x xs y k)))

-- two filters in a row
pub filter-twice : {X : Type 0} (test other : X → Bool) (xs : List X) → filter other (filter test xs) ≡ filter (λ x. test x && other x) xs
filter-twice test other [] = refl
filter-twice test other (x ∷ xs) =
    elim (test x) as (λ b. filter other (cond b (x ∷ filter test xs) (filter test xs)) ≡ cond (b && other x) (x ∷ filter (λ y. test y && other y) xs) (filter (λ y. test y && other y) xs)) [
      | true ↦ ap (λ l. cond (other x) (x ∷ l) l) (filter-twice test other xs)
      | false ↦ filter-twice test other xs
    ]

pub filter-all : {X : Type 0} (test : X → Bool) (xs : List X) → ((x : X) → Contains xs x → test x ≡ true) → filter test xs ≡ xs
filter-all test [] h = refl
filter-all test (x ∷ xs) h =
    ap (λ b. cond b (x ∷ filter test xs) (filter test xs)) (h x (contains-head x xs)) ∙ ap (λ l. x ∷ l) (filter-all test xs (λ y k. h y (contains-tail x xs y k)))

pub filter-nothing : {X : Type 0} (test : X → Bool) (xs : List X) → ((x : X) → Contains xs x → test x ≡ false) → filter test xs ≡ []
filter-nothing test [] h = refl
filter-nothing test (x ∷ xs) h =
    ap (λ b. cond b (x ∷ filter test xs) (filter test xs)) (h x (contains-head x xs)) ∙ filter-nothing test xs (λ y k. h y (contains-tail x xs y k))

-- a map of a map
pub map-map : {X Y Z : Type 0} (f : X → Y) (g : Y → Z) (xs : List X) → map g (map f xs) ≡ map (λ x. g (f x)) xs
map-map f g [] = refl
map-map f g (x ∷ xs) = ap (λ l. g (f x) ∷ l) (map-map f g xs)

pub filter-alike : {X : Type 0} (p q : X → Bool) → ((x : X) → p x ≡ q x) → (xs : List X) → filter p xs ≡ filter q xs
filter-alike p q h [] = refl
filter-alike p q h (x ∷ xs) = ap (λ b. cond b (x ∷ filter p xs) (filter p xs)) (h x) ∙ ap (λ l. cond (q x) (x ∷ l) l) (filter-alike p q h xs)

pub drop_at : {A : Type 0} (xs : List A) (i : ℕ) (x : A) → i < length xs → x ≡ get_or xs i x → drop i xs ≡ x ∷ drop (i + 1) xs
drop_at xs i x h is = drop-cons xs i x h ∙ (λ j. sym is j ∷ drop (sym (add-one i) j) xs)

pub take_at : {A : Type 0} (xs : List A) (i : ℕ) (x : A) → i < length xs → x ≡ get_or xs i x → take (i + 1) xs ≡ take i xs ++ x ∷ []
take_at xs i x h is = take_more xs i x h ∙ ap (λ v. take i xs ++ v ∷ []) (sym is)

pub map-nil : {X Y : Type 0} (f : X → Y) (xs : List X) → map f xs ≡ [] → xs ≡ []
map-nil f [] h = refl
map-nil f (x ∷ xs) h = absurd (cc h)

-- ---- places

-- a split of a list with one more item at its end
pub push_split : {X : Type 0} (front order rest : List X) (u node : X) → order ++ node ∷ [] ≡ front ++ u ∷ rest
    → ((front ≡ order) × (u ≡ node)) ⊎ ((less : List X) × (order ≡ front ++ u ∷ less))
push_split [] [] rest u node e = inl (refl, sym (ap (λ l. get_or l 0 node) e))
push_split [] (x ∷ xs) rest u node e = inr (xs, ap (λ k. k ∷ xs) (ap (λ l. get_or l 0 x) e))
push_split (f ∷ fs) [] rest u node e = absurd (omega (arith, ap length e, length-append fs (u ∷ rest)))
push_split (f ∷ fs) (x ∷ xs) rest u node e =
    let h : x ≡ f = ap (λ l. get_or l 0 x) e in
    ⊎_elim (λ b. inl (ap (λ l. f ∷ l) b.0 ∙ ap (λ k. k ∷ xs) (sym h), b.1)) (λ b. inr (b.0, ap (λ k. k ∷ xs) h ∙ ap (λ l. f ∷ l) b.1))
    (push_split fs xs rest u node (ap (λ (l : List _). elim l [ [] ↦ [] | y ∷ ys ↦ ys ]) e))

-- where some member passes a test, the first of them has a place
pub place-below : {X : Type 0} (test : X → Bool) (xs : List X) → list_any test xs ≡ true → position_or_len test xs < length xs
place-below test [] h = absurd (false≢true h)
place-below test (x ∷ xs) h =
    elim (test x) as (λ b. test x ≡ b → b || list_any test xs ≡ true → cond (not b) (1 + position_or_len test xs) 0 < suc (length xs)) [
      | true ↦ λ e k. omega arith
      | false ↦ λ e k. let rest = place-below test xs k in omega (arith, rest)
    ] refl h
