-- Paths: their parts; they have no node twice; a node linked or unlinked.
use Rattle.std.proofs.Common.{◌≡◌, ℕ, eqb-true, eq-eqb, append-nil, ◌<◌, ◌≤◌, arith, length, true, false, cond, List, [], ◌∷◌, ◌++◌, Option, Some, None, refl, sym, ap, ◌∙◌, subst, inl, inr, length-append}
use Rattle.std.specs.List.{Contains}
use Rattle.common_laws.specs.Lists.{contains-head, contains-tail, contains-none, contains-cases, contains-left, contains-right}
use Rattle.choice_problem.proofs.EdgePaths.{parted}
use Rattle.goal_links.specs.Beside.{last_from, first_or}
use Rattle.goal_links.specs.Ring.{AreOnce, IsPath, same_place, with_place}

pub last-end : (start : Option ℕ) (xs : List ℕ) (n : ℕ) → last_from start (xs ++ n ∷ []) ≡ Some n
last-end start [] n = refl
last-end start (x ∷ xs) n = last-end (Some x) xs n

pub last-contains : (n : ℕ) (ns : List ℕ) → (k : ℕ) × (last_from (Some n) ns ≡ Some k) × Contains (n ∷ ns) k
last-contains n [] = (n, refl, contains-head n [])
last-contains n (m ∷ ns) = let more = last-contains m ns in (more.0, more.1, contains-tail n (m ∷ ns) more.0 more.2)

module _ (next prev : Option ℕ → Option ℕ) (count : ℕ) where
  pub path-parts : (start : Option ℕ) (xs : List ℕ) (x : ℕ) (ys : List ℕ) (end : Option ℕ) → IsPath next prev count start (xs ++ x ∷ ys) end
      → IsPath next prev count start xs (Some x) × (x < count) × IsPath next prev count (Some x) ys end
  path-parts start [] x ys end h = ((h.0, h.1), h.2, h.3)
  path-parts start (w ∷ xs) x ys end h = let more = path-parts (Some w) xs x ys end h.3 in ((h.0, h.1, h.2, more.0), more.1, more.2)

  pub path-joined : (start : Option ℕ) (xs : List ℕ) (x : ℕ) (ys : List ℕ) (end : Option ℕ) → IsPath next prev count start xs (Some x) → x < count
      → IsPath next prev count (Some x) ys end → IsPath next prev count start (xs ++ x ∷ ys) end
  path-joined start [] x ys end h k l = (h.0, h.1, k, l)
  path-joined start (w ∷ xs) x ys end h k l = (h.0, h.1, h.2, path-joined (Some w) xs x ys end h.3 k l)

  pub path-last : (start : Option ℕ) (xs : List ℕ) (end : Option ℕ) → IsPath next prev count start xs end → prev end ≡ last_from start xs
  path-last start [] end h = h.1
  path-last start (w ∷ xs) end h = path-last (Some w) xs end h.3

  pub path-first : (start : Option ℕ) (xs : List ℕ) (end : Option ℕ) → IsPath next prev count start xs end → next start ≡ first_or end xs
  path-first start [] end h = h.0
  path-first start (w ∷ xs) end h = h.0

  pub path-within : (start : Option ℕ) (xs : List ℕ) (end : Option ℕ) → IsPath next prev count start xs end → (k : ℕ) → Contains xs k → k < count
  path-within start [] end h k c = absurd (contains-none k c)
  path-within start (w ∷ xs) end h k c =
      elim (contains-cases w xs k c) [
        | inl e ↦ subst (λ n. n < count) e h.2
        | inr r ↦ path-within (Some w) xs end h.3 k r
      ]

  pub path-more : (more : ℕ) (start : Option ℕ) (xs : List ℕ) (end : Option ℕ) → count ≤ more → IsPath next prev count start xs end → IsPath next prev more start xs end
  path-more more start [] end le h = h
  path-more more start (w ∷ xs) end le h = (h.0, h.1, omega (arith, h.2, le), path-more more (Some w) xs end le h.3)

  -- the path from a place to the end is unique
  path-one : (start : Option ℕ) (xs ys : List ℕ) → IsPath next prev count start xs None → IsPath next prev count start ys None → xs ≡ ys
  path-one start [] [] h k = refl
  path-one start [] (y ∷ ys) h k = absurd (cc (sym h.0 ∙ k.0))
  path-one start (x ∷ xs) [] h k = absurd (cc (sym h.0 ∙ k.0))
  path-one start (x ∷ xs) (y ∷ ys) h k =
      let e : Some x ≡ Some y = sym h.0 ∙ k.0 in
      let same : x ≡ y = cc in
      ap (λ z. z ∷ xs) same ∙ ap (λ l. y ∷ l) (path-one (Some y) xs ys (subst (λ z. IsPath next prev count (Some z) xs None) same h.3) k.3)

  -- so it doesn't return to its start
  pub path-fresh : (start : Option ℕ) (xs : List ℕ) → IsPath next prev count start xs None → (k : ℕ) → Contains xs k → start ≡ Some k → ⊥
  path-fresh start xs h k c e =
      let p = parted xs k c in
      let parts = path-parts start p.0 k p.1 None (subst (λ l. IsPath next prev count start l None) p.2 h) in
      let same : xs ≡ p.1 = path-one start xs p.1 h (subst (λ s. IsPath next prev count s p.1 None) (sym e) parts.2) in
      let len : length xs ≡ length (p.0 ++ k ∷ p.1) = ap length p.2 in
      let shorter : length xs ≡ length p.1 = ap length same in
      omega (arith, len, shorter, length-append p.0 (k ∷ p.1))

pub path-once : (next prev : Option ℕ → Option ℕ) (count : ℕ) (start : Option ℕ) (xs : List ℕ) → IsPath next prev count start xs None → AreOnce start xs
path-once next prev count start [] h = tt
path-once next prev count start (x ∷ xs) h = (path-fresh next prev count start (x ∷ xs) h, path-once next prev count (Some x) xs h.3)

module _ (next prev next2 prev2 : Option ℕ → Option ℕ) (count : ℕ) where
  -- a path stays where its nodes keep their neighbours
  pub path-stays : (start : Option ℕ) (xs : List ℕ) (end : Option ℕ) → next2 start ≡ next start → ((k : ℕ) → Contains xs k → next2 (Some k) ≡ next (Some k))
      → ((k : ℕ) → Contains xs k → prev2 (Some k) ≡ prev (Some k)) → prev2 end ≡ prev end
      → IsPath next prev count start xs end → IsPath next2 prev2 count start xs end
  path-stays start [] end first on back last h = (first ∙ h.0, last ∙ h.1)
  path-stays start (x ∷ xs) end first on back last h =
      let here = contains-head x xs in (
        first ∙ h.0,
        back x here ∙ h.1,
        h.2,
        path-stays (Some x) xs end (on x here) (λ k c. on k (contains-tail x xs k c)) (λ k c. back k (contains-tail x xs k c)) last h.3,
      )

  -- a path has another end where its last node has another next node
  pub path-turned : (start : Option ℕ) (xs : List ℕ) (end to : Option ℕ) → AreOnce start xs
      → next2 (last_from start xs) ≡ to → prev2 to ≡ last_from start xs → ((at : Option ℕ) → (at ≡ last_from start xs → ⊥) → next2 at ≡ next at)
      → ((k : ℕ) → Contains xs k → prev2 (Some k) ≡ prev (Some k))
      → IsPath next prev count start xs end → IsPath next2 prev2 count start xs to
  path-turned start [] end to once on back others before h = (on, back)
  path-turned start (x ∷ xs) end to once on back others before h =
      let last = last-contains x xs in (
        others start (λ e. once.0 last.0 last.2 (e ∙ last.1)) ∙ h.0,
        before x (contains-head x xs) ∙ h.1,
        h.2,
        path-turned (Some x) xs end to once.1 on back others (λ k c. before k (contains-tail x xs k c)) h.3,
      )

-- places

pub place-itself : (p : Option ℕ) → same_place p p ≡ true
place-itself None = refl
place-itself (Some n) = eq-eqb n n refl

pub place-is : (p q : Option ℕ) → same_place p q ≡ true → p ≡ q
place-is None None h = refl
place-is None (Some n) h = cc
place-is (Some m) None h = cc
place-is (Some m) (Some n) h = ap Some (eqb-true m n h)

pub place-other : (p q : Option ℕ) → (p ≡ q → ⊥) → same_place p q ≡ false
place-other p q h = elim (same_place p q) as (λ b. same_place p q ≡ b → b ≡ false) [ true ↦ λ e. absurd (h (place-is p q e)) | false ↦ λ e. refl ] refl

put-there : (p to : Option ℕ) (old : Option ℕ → Option ℕ) (at : Option ℕ) → p ≡ at → with_place p to old at ≡ to
put-there p to old at h = ap (λ b. cond b to (old at)) (ap (same_place p) (sym h) ∙ place-itself p)

put-elsewhere : (p to : Option ℕ) (old : Option ℕ → Option ℕ) (at : Option ℕ) → (p ≡ at → ⊥) → with_place p to old at ≡ old at
put-elsewhere p to old at h = ap (λ b. cond b to (old at)) (place-other p at h)

-- members of a list without repeated nodes

pub once-start : (start : Option ℕ) (xs : List ℕ) (k : ℕ) → AreOnce start xs → Contains xs k → start ≡ Some k → ⊥
once-start start [] k h c e = contains-none k c
once-start start (x ∷ xs) k h c e = h.0 k c e

pub once-front : (start : Option ℕ) (xs ys : List ℕ) → AreOnce start (xs ++ ys) → AreOnce start xs
once-front start [] ys h = tt
once-front start (x ∷ xs) ys h = (λ k c. h.0 k (contains-left (x ∷ xs) ys k c), once-front (Some x) xs ys h.1)

pub once-back : (start : Option ℕ) (xs : List ℕ) (y : ℕ) (ys : List ℕ) → AreOnce start (xs ++ y ∷ ys) → AreOnce (Some y) ys
once-back start [] y ys h = h.1
once-back start (x ∷ xs) y ys h = once-back (Some x) xs y ys h.1

pub once-apart : (start : Option ℕ) (xs ys : List ℕ) (k : ℕ) → AreOnce start (xs ++ ys) → Contains xs k → Contains ys k → ⊥
once-apart start [] ys k h c d = contains-none k c
once-apart start (x ∷ xs) ys k h c d =
    elim (contains-cases x xs k c) [
      | inl e ↦ once-start (Some x) (xs ++ ys) k h.1 (contains-right xs ys k d) (ap Some e)
      | inr r ↦ once-apart (Some x) xs ys k h.1 r d
    ]

-- the first and the last node of a list are members
pub not-last : (xs : List ℕ) (k : ℕ) → (Contains xs k → ⊥) → last_from None xs ≡ Some k → ⊥
not-last [] k h e = cc e
not-last (x ∷ xs) k h e =
    let last = last-contains x xs in
    let is : Some last.0 ≡ Some k = sym last.1 ∙ e in
    let same : last.0 ≡ k = cc in
    h (subst (λ n. Contains (x ∷ xs) n) same last.2)

pub not-first : (ys : List ℕ) (k : ℕ) → (Contains ys k → ⊥) → first_or None ys ≡ Some k → ⊥
not-first [] k h e = cc e
not-first (y ∷ ys) k h e = let same : y ≡ k = cc in h (subst (λ n. Contains (y ∷ ys) n) same (contains-head y ys))

module _ (next prev next2 prev2 : Option ℕ → Option ℕ) (count : ℕ) where
  -- a node unlinked: its neighbours are joined
  pub path-unlinked : (xs : List ℕ) (x : ℕ) (ys : List ℕ) → IsPath next prev count None (xs ++ x ∷ ys) None
      → ((at : Option ℕ) → next2 at ≡ with_place (prev (Some x)) (next (Some x)) next at)
      → ((at : Option ℕ) → prev2 at ≡ with_place (next (Some x)) (prev (Some x)) prev at) → IsPath next2 prev2 count None (xs ++ ys) None
  path-unlinked xs x ys h on back =
      let parts = path-parts next prev count None xs x ys None h in
      let once = path-once next prev count None (xs ++ x ∷ ys) h in
      let p : prev (Some x) ≡ last_from None xs = path-last next prev count None xs (Some x) parts.0 in
      let q : next (Some x) ≡ first_or None ys = path-first next prev count (Some x) ys None parts.2 in
      let turned : IsPath next2 prev2 count None xs (next (Some x)) =
      path-turned next prev next2 prev2 count None xs (Some x) (next (Some x)) (once-front None xs (x ∷ ys) once)
      (on (last_from None xs) ∙ put-there (prev (Some x)) (next (Some x)) next (last_from None xs) p)
      (back (next (Some x)) ∙ put-there (next (Some x)) (prev (Some x)) prev (next (Some x)) refl ∙ p)
      (λ at ne. on at ∙ put-elsewhere (prev (Some x)) (next (Some x)) next at (λ e. ne (sym e ∙ p)))
      (λ k c. back (Some k) ∙ put-elsewhere (next (Some x)) (prev (Some x)) prev (Some k)
      (λ e. not-first ys k (λ d. once-apart None xs (x ∷ ys) k once c (contains-tail x ys k d)) (sym q ∙ e))) parts.0 in
      elim ys as (λ ys. IsPath next prev count (Some x) ys None → AreOnce None (xs ++ x ∷ ys) → IsPath next2 prev2 count None (xs ++ ys) None) [
        | [] ↦ λ rest once.
            subst (λ l. IsPath next2 prev2 count None l None) (sym (append-nil xs)) (subst (λ to. IsPath next2 prev2 count None xs to) rest.0 turned)
        | y ∷ ys ↦ λ rest once.
            let past : (k : ℕ) → Contains (y ∷ ys) k → prev (Some x) ≡ Some k → ⊥ =
            λ k c e. not-last xs k (λ d. once-apart None xs (x ∷ y ∷ ys) k once d (contains-tail x (y ∷ ys) k c)) (sym p ∙ e) in
            let behind : AreOnce (Some y) ys = (once-back None xs x (y ∷ ys) once).1 in
            path-joined next2 prev2 count None xs y ys None (subst (λ to. IsPath next2 prev2 count None xs to) rest.0 turned) rest.2
            (path-stays next prev next2 prev2 count (Some y) ys None
            (on (Some y) ∙ put-elsewhere (prev (Some x)) (next (Some x)) next (Some y) (past y (contains-head y ys)))
            (λ k c. on (Some k) ∙ put-elsewhere (prev (Some x)) (next (Some x)) next (Some k) (past k (contains-tail y ys k c)))
            (λ k c. back (Some k) ∙ put-elsewhere (next (Some x)) (prev (Some x)) prev (Some k) (λ e. once-start (Some y) ys k behind c (sym rest.0 ∙ e)))
            (back None ∙ put-elsewhere (next (Some x)) (prev (Some x)) prev None (λ e. let no : Some y ≡ None = sym rest.0 ∙ e in cc no)) rest.3)
      ] parts.2 once

  -- a node linked between its neighbours
  pub path-linked : (xs : List ℕ) (x : ℕ) (ys : List ℕ) → IsPath next prev count None (xs ++ ys) None → (Contains (xs ++ ys) x → ⊥) → x < count
      → prev (Some x) ≡ last_from None xs → next (Some x) ≡ first_or None ys
      → ((at : Option ℕ) → next2 at ≡ with_place (prev (Some x)) (Some x) next at)
      → ((at : Option ℕ) → prev2 at ≡ with_place (next (Some x)) (Some x) prev at) → IsPath next2 prev2 count None (xs ++ x ∷ ys) None
  path-linked xs x ys h new within p q on back =
      let not-p : prev (Some x) ≡ Some x → ⊥ = λ e. not-last xs x (λ d. new (contains-left xs ys x d)) (sym p ∙ e) in
      let not-q : next (Some x) ≡ Some x → ⊥ = λ e. not-first ys x (λ d. new (contains-right xs ys x d)) (sym q ∙ e) in
      let once = path-once next prev count None (xs ++ ys) h in
      let next-x : next2 (Some x) ≡ next (Some x) = on (Some x) ∙ put-elsewhere (prev (Some x)) (Some x) next (Some x) not-p in
      let prev-x : prev2 (Some x) ≡ prev (Some x) = back (Some x) ∙ put-elsewhere (next (Some x)) (Some x) prev (Some x) not-q in
      let turned : (end : Option ℕ) → IsPath next prev count None xs end → IsPath next2 prev2 count None xs (Some x) =
      λ end path. path-turned next prev next2 prev2 count None xs end (Some x) (once-front None xs ys once)
      (on (last_from None xs) ∙ put-there (prev (Some x)) (Some x) next (last_from None xs) p) (prev-x ∙ p)
      (λ at ne. on at ∙ put-elsewhere (prev (Some x)) (Some x) next at (λ e. ne (sym e ∙ p)))
      (λ k c. back (Some k) ∙ put-elsewhere (next (Some x)) (Some x) prev (Some k)
      (λ e. not-first ys k (λ d. once-apart None xs ys k once c d) (sym q ∙ e))) path in
      elim ys as (λ ys. IsPath next prev count None (xs ++ ys) None → AreOnce None (xs ++ ys) → next (Some x) ≡ first_or None ys → IsPath next2 prev2 count None (xs ++ x ∷ ys) None) [
        | [] ↦ λ h once q.
            path-joined next2 prev2 count None xs x [] None (turned None (subst (λ l. IsPath next prev count None l None) (append-nil xs) h)) within
            (next-x ∙ q, back None ∙ put-there (next (Some x)) (Some x) prev None q)
        | y ∷ ys ↦ λ h once q.
            let parts = path-parts next prev count None xs y ys None h in
            let past : (k : ℕ) → Contains (y ∷ ys) k → prev (Some x) ≡ Some k → ⊥ =
            λ k c e. not-last xs k (λ d. once-apart None xs (y ∷ ys) k once d c) (sym p ∙ e) in
            let behind : AreOnce (Some y) ys = once-back None xs y ys once in
            path-joined next2 prev2 count None xs x (y ∷ ys) None (turned (Some y) parts.0) within (
              next-x ∙ q,
              back (Some y) ∙ put-there (next (Some x)) (Some x) prev (Some y) q,
              parts.1,
              path-stays next prev next2 prev2 count (Some y) ys None
                  (on (Some y) ∙ put-elsewhere (prev (Some x)) (Some x) next (Some y) (past y (contains-head y ys)))
                  (λ k c. on (Some k) ∙ put-elsewhere (prev (Some x)) (Some x) next (Some k) (past k (contains-tail y ys k c)))
                  (λ k c. back (Some k) ∙ put-elsewhere (next (Some x)) (Some x) prev (Some k) (λ e. once-start (Some y) ys k behind c (sym q ∙ e)))
                  (back None ∙ put-elsewhere (next (Some x)) (Some x) prev None (λ e. let no : Some y ≡ None = sym q ∙ e in cc no)) parts.2,
            )
      ] h once q
