-- Lists of nodes: their members, and the neighbours of a node.
use Rattle.std.proofs.Common.{◌≡◌, ℕ, ◌<◌, IfSome, eqb, eqb-true, eq-eqb, ne_eqb, true, false, not, cond, ◌||◌, List, [], ◌∷◌, ◌++◌, Option, Some, None, refl, sym, ap, ◌∙◌, subst, inl, inr}
use Rattle.std.specs.List.{Contains}
use Rattle.std.proofs.lemmas.Bool.{false≢true, or_right}
use Rattle.common_laws.specs.Lists.{contains-head, contains-tail, contains-none, contains-cases, contains-left, contains-right, contains-append, contains-filter}
use Rattle.goal_links.specs.Beside.{last_from, last_of, first_of, beside_from, behind_first}
use Rattle.goal_links.specs.Ring.{AreOnce}
use Rattle.goal_links.specs.Row.{AreBelow, StandsIn, has_node, without_node, behind}
use Rattle.goal_links.proofs.Paths.{once-start, once-back, once-apart, last-contains}
use Rattle.goal_links.proofs.Rings.{has-contains}

pub contains-has : (ns : List ℕ) (n : ℕ) → Contains ns n → has_node ns n ≡ true
contains-has [] n h = absurd (contains-none n h)
contains-has (m ∷ ns) n h =
    elim (contains-cases m ns n h) [
      | inl e ↦ ap (λ b. b || has_node ns n) (eq-eqb n m (sym e))
      | inr r ↦ or_right (eqb n m) (has_node ns n) (contains-has ns n r)
    ]

pub hasn't : (ns : List ℕ) (n : ℕ) → has_node ns n ≡ false → Contains ns n → ⊥
hasn't ns n h c = false≢true (sym h ∙ contains-has ns n c)

pub not-in : (ns : List ℕ) (n : ℕ) → (Contains ns n → ⊥) → has_node ns n ≡ false
not-in ns n h = elim (has_node ns n) as (λ b. has_node ns n ≡ b → b ≡ false) [ true ↦ λ e. absurd (h (has-contains ns n e)) | false ↦ λ e. refl ] refl

head-not : (w : ℕ) (xs : List ℕ) (n : ℕ) → (Contains (w ∷ xs) n → ⊥) → eqb n w ≡ false
head-not w xs n h = ne_eqb n w (λ e. h (subst (λ k. Contains (w ∷ xs) k) (sym e) (contains-head w xs)))

tail-not : (w : ℕ) (xs : List ℕ) (n : ℕ) → (Contains (w ∷ xs) n → ⊥) → Contains xs n → ⊥
tail-not w xs n h c = h (contains-tail w xs n c)

pub behind-parted : (xs : List ℕ) (n : ℕ) (ys : List ℕ) → (Contains xs n → ⊥) → behind_first (eqb n) (xs ++ n ∷ ys) ≡ ys
behind-parted [] n ys h = ap (λ b. cond b ys (behind_first (eqb n) ys)) (eq-eqb n n refl)
behind-parted (w ∷ xs) n ys h =
    ap (λ b. cond b (xs ++ n ∷ ys) (behind_first (eqb n) (xs ++ n ∷ ys))) (head-not w xs n h) ∙ behind-parted xs n ys (tail-not w xs n h)

pub beside-parted : (before : Option ℕ) (xs : List ℕ) (n : ℕ) (ys : List ℕ) → (Contains xs n → ⊥) → beside_from (eqb n) before (xs ++ n ∷ ys) ≡ (last_from before xs, first_of ys)
beside-parted before [] n ys h = ap (λ b. cond b (before, first_of ys) (beside_from (eqb n) (Some n) ys)) (eq-eqb n n refl)
beside-parted before (w ∷ xs) n ys h =
    ap (λ b. cond b (before, first_of (xs ++ n ∷ ys)) (beside_from (eqb n) (Some w) (xs ++ n ∷ ys))) (head-not w xs n h) ∙ beside-parted (Some w) xs n ys (tail-not w xs n h)

pub without-none : (ns : List ℕ) (n : ℕ) → (Contains ns n → ⊥) → without_node n ns ≡ ns
without-none [] n h = refl
without-none (w ∷ ns) n h =
    ap (λ b. cond (not b) (w ∷ without_node n ns) (without_node n ns)) (head-not w ns n h) ∙ ap (λ l. w ∷ l) (without-none ns n (tail-not w ns n h))

pub without-parted : (xs : List ℕ) (n : ℕ) (ys : List ℕ) → (Contains xs n → ⊥) → (Contains ys n → ⊥) → without_node n (xs ++ n ∷ ys) ≡ xs ++ ys
without-parted [] n ys h k = ap (λ b. cond (not b) (n ∷ without_node n ys) (without_node n ys)) (eq-eqb n n refl) ∙ without-none ys n k
without-parted (w ∷ xs) n ys h k =
    ap (λ b. cond (not b) (w ∷ without_node n (xs ++ n ∷ ys)) (without_node n (xs ++ n ∷ ys))) (head-not w xs n h)
    ∙ ap (λ l. w ∷ l) (without-parted xs n ys (tail-not w xs n h) k)

-- a different node is a member as before
pub has-other : (xs : List ℕ) (n : ℕ) (ys : List ℕ) (k : ℕ) → (k ≡ n → ⊥) → has_node (xs ++ n ∷ ys) k ≡ has_node (xs ++ ys) k
has-other [] n ys k h = ap (λ b. b || has_node ys k) (ne_eqb k n h)
has-other (w ∷ xs) n ys k h = ap (λ b. eqb k w || b) (has-other xs n ys k h)

pub has-itself : (xs : List ℕ) (n : ℕ) (ys : List ℕ) → has_node (xs ++ n ∷ ys) n ≡ true
has-itself xs n ys = contains-has (xs ++ n ∷ ys) n (contains-right xs (n ∷ ys) n (contains-head n ys))

pub apart-front : (xs : List ℕ) (n : ℕ) (ys : List ℕ) → AreOnce None (xs ++ n ∷ ys) → Contains xs n → ⊥
apart-front xs n ys once c = once-apart None xs (n ∷ ys) n once c (contains-head n ys)

pub apart-back : (xs : List ℕ) (n : ℕ) (ys : List ℕ) → AreOnce None (xs ++ n ∷ ys) → Contains ys n → ⊥
apart-back xs n ys once c = once-start (Some n) ys n (once-back None xs n ys once) c refl

behind-last : (start : Option ℕ) (x : ℕ) (xs ys : List ℕ) → AreOnce start (x ∷ xs ++ ys) → behind (last_from (Some x) xs) (x ∷ xs ++ ys) ≡ ys
behind-last start x [] ys h = ap (λ b. cond b ys (behind_first (eqb x) ys)) (eq-eqb x x refl)
behind-last start x (w ∷ xs) ys h =
    let last = last-contains w xs in
    let other : eqb last.0 x ≡ false = ne_eqb last.0 x (λ e. once-start (Some x) (w ∷ xs ++ ys) last.0 h.1 (contains-left (w ∷ xs) ys last.0 last.2) (ap Some (sym e))) in
    ap (λ p. behind p (x ∷ w ∷ xs ++ ys)) last.1
    ∙ ap (λ b. cond b (w ∷ xs ++ ys) (behind_first (eqb last.0) (w ∷ xs ++ ys))) other
    ∙ sym (ap (λ p. behind p (w ∷ xs ++ ys)) last.1) ∙ behind-last (Some x) w xs ys h.1

-- the nodes behind the last one of a prefix are the rest
pub behind-front : (xs ys : List ℕ) → AreOnce None (xs ++ ys) → behind (last_of xs) (xs ++ ys) ≡ ys
behind-front [] ys h = refl
behind-front (x ∷ xs) ys h = behind-last None x xs ys h

pub in-front : (xs : List ℕ) (n : ℕ) (ys : List ℕ) (k : ℕ) → Contains xs k → Contains (xs ++ n ∷ ys) k
in-front xs n ys k c = contains-left xs (n ∷ ys) k c

pub in-back : (xs : List ℕ) (n : ℕ) (ys : List ℕ) (k : ℕ) → Contains ys k → Contains (xs ++ n ∷ ys) k
in-back xs n ys k c = contains-right xs (n ∷ ys) k (contains-tail n ys k c)

pub not-either : (xs : List ℕ) (n : ℕ) (ys : List ℕ) → (Contains xs n → ⊥) → (Contains ys n → ⊥) → Contains (xs ++ ys) n → ⊥
not-either xs n ys h k c = elim (contains-append xs ys n c) [ inl a ↦ h a | inr b ↦ k b ]

-- a different node remains
pub without-other : (ns : List ℕ) (n k : ℕ) → (k ≡ n → ⊥) → has_node (without_node n ns) k ≡ has_node ns k
without-other [] n k h = refl
without-other (m ∷ ns) n k h =
    elim (eqb n m) as (λ b. eqb n m ≡ b → has_node (cond (not b) (m ∷ without_node n ns) (without_node n ns)) k ≡ eqb k m || has_node ns k) [
      | true ↦ λ e. without-other ns n k h ∙ sym (ap (λ b. b || has_node ns k) (ne_eqb k m (λ i. h (i ∙ sym (eqb-true n m e)))))
      | false ↦ λ e. ap (λ b. eqb k m || b) (without-other ns n k h)
    ] refl

-- a place among the remaining nodes is one among all
pub stands-without : (n : ℕ) (ns : List ℕ) (place : Option ℕ) → StandsIn (without_node n ns) place → StandsIn ns place
stands-without n ns None h = tt
stands-without n ns (Some k) h = contains-has ns k (contains-filter (λ m. not (eqb n m)) ns k (has-contains (without_node n ns) k h)).0

pub place-below : (count : ℕ) (ns : List ℕ) (place : Option ℕ) → AreBelow count ns → StandsIn ns place → IfSome place (λ n. n < count)
place-below count ns None h k = tt
place-below count ns (Some n) h k = h n k
