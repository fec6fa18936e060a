-- The search before its first root, between two roots, and after its last.
use Rattle.std.proofs.Common.{◌≡◌, ◌≢◌, Bool, true, false, cond, ℕ, ◌<◌, List, [], length, Option, Some, None, position, replicate, get_or, refl, sym, ap, ◌∙◌, subst, inl, inr, arith}
use Rattle.std.specs.List.{Contains, position_or_len}
use Rattle.std.proofs.lemmas.List.Sums.{fails_before_first}
use borrow.Author.Tests.{lt-ltb}
use Rattle.std.proofs.lemmas.Bool.{cases_lt, false≢true, true_from_ne_false}
use Rattle.std.proofs.lemmas.List.{get_or_past, length-replicate, get_or-replicate}
use Rattle.std.proofs.lemmas.List.Quantifiers.{position-Some}
use Rattle.component_cycle.specs.declared.search.NodeState.TheVariants.{Unseen, OnPath, Finished}
use Rattle.component_cycle.specs.declared.search.Search.{Search}
use Rattle.component_cycle.specs.Cycle.{IsOnCycle, IsFirstOnCycle}
use Rattle.common_laws.specs.Lists.{contains-none}
use Rattle.common_laws.specs.Graphs.{IsPath, Needs, last, more, needs_within}
use Rattle.component_cycle.specs.Search.{state, IsSound, AllReach, is_on_cycle}
use Rattle.component_cycle.proofs.Joins.{sound-beside}

abbrev pub start : ℕ → Search
start n = record { states = replicate n Unseen; path = []; waiting = []; marks = [] }

start-unseen : (n v : ℕ) → state (start n) v ≡ Unseen
start-unseen n v =
    elim (cases_lt v n) [
      | inl less ↦ get_or-replicate n v Unseen Unseen less
      | inr past ↦ get_or_past (replicate n Unseen) v Unseen (omega (arith, length-replicate n Unseen, past))
    ]

pub start-sound : (needs : List (List ℕ)) → IsSound needs (start (length needs)) None
start-sound needs =
    let n = length needs in
    record {
      count = length-replicate n Unseen;
      placed = λ u i k. let both : Unseen ≡ OnPath i = sym (start-unseen n u) ∙ k in absurd (cc both);
      standing = λ i l. absurd (omega (arith, l));
      closed = λ u v b k edge. let both : Unseen ≡ Finished b = sym (start-unseen n u) ∙ k in absurd (cc both);
      right = λ u b k. let both : Unseen ≡ Finished b = sym (start-unseen n u) ∙ k in absurd (cc both);
      marked = λ m c. absurd (contains-none m c);
      rising = λ i j d less below. absurd (omega (arith, below));
      covered = λ i l. absurd (omega (arith, l));
      forward = λ i j le l. absurd (omega (arith, l));
      back = λ i j le l k. absurd (omega (arith, l));
      known = λ i v l edge. absurd (omega (arith, l));
      source = λ l below. absurd (omega (arith, below));
    }

-- if no position is found, no element passes
position-None : {X : Type 0} (p : X → Bool) (xs : List X) → position p xs ≡ None → (k : ℕ) (d : X) → k < length xs → p (get_or xs k d) ≡ false
position-None p xs e k d l =
    elim (cases_lt (position_or_len p xs) (length xs)) [
      | inl less ↦ let found : position p xs ≡ Some (position_or_len p xs) = ap (λ b. cond b (Some (position_or_len p xs)) None) (lt-ltb (position_or_len p xs) (length xs) less) in absurd (cc (found, e))
      | inr ge ↦ fails_before_first p xs k d (omega (arith, l, ge))
    ]

module _ (needs : List (List ℕ)) (s : Search) (h : IsSound needs s None) (idle : s.marks ≡ []) where
  pub no-path : (i : ℕ) → i < length s.path → ⊥
  no-path i l = let one = h.covered i l in contains-none one.0 (subst (λ ms. Contains ms one.0) idle one.1)

  pub root-leads : (v : ℕ) → AllReach needs s v
  root-leads v i l = absurd (no-path i l)

  pub root-sound : (v : ℕ) → IsSound needs s (Some v)
  root-sound v = sound-beside needs s None (Some v) h (λ i w l known. absurd (no-path i l))

  module _ (seen : (v : ℕ) → v < length needs → state s v ≢ Unseen) where
    all-settled : (v : ℕ) → v < length needs → (b : Bool) × (state s v ≡ Finished b)
    all-settled v l =
        elim (state s v) as (λ x. state s v ≡ x → (b : Bool) × (state s v ≡ Finished b)) [
          | Unseen ↦ λ k. absurd (seen v l k)
          | OnPath i ↦ λ k. absurd (no-path i (h.placed v i k).0)
          | Finished b ↦ λ k. (b, k)
        ] refl

    first-edge : (u v : ℕ) → IsPath (Needs needs) u v → u < length needs
    first-edge u v (last edge) = needs_within needs u v edge
    first-edge u v (more {w = x} edge p) = needs_within needs u x edge

    -- the state of a node on a cycle is `Settled(true)`
    says : (u : ℕ) → IsOnCycle needs u → is_on_cycle (state s u) ≡ true
    says u c =
        let found = all-settled u (first-edge u u c) in
        ap is_on_cycle found.1 ∙ true_from_ne_false found.0 (λ k. (h.right u found.0 found.1).none k c)

    said : (u : ℕ) → is_on_cycle (state s u) ≡ true → IsOnCycle needs u
    said u k =
        elim (state s u) as (λ x. state s u ≡ x → IsOnCycle needs u) [
          | Unseen ↦ λ e. absurd (false≢true (sym (ap is_on_cycle e) ∙ k))
          | OnPath i ↦ λ e. absurd (false≢true (sym (ap is_on_cycle e) ∙ k))
          | Finished b ↦ λ e. (h.right u b e).cycle (sym (ap is_on_cycle e) ∙ k)
        ] refl

    pub first-is : (found : Option ℕ) → found ≡ position is_on_cycle s.states → IsFirstOnCycle needs found
    first-is None e = λ u c.
        let l = first-edge u u c in
        absurd (false≢true (sym (position-None is_on_cycle s.states (sym e) u Unseen (omega (arith, l, h.count))) ∙ says u c))
    first-is (Some u) e =
        let at-u = position-Some is_on_cycle s.states u Unseen (sym e) in
        (said u at-u.1, λ v c. elim (cases_lt v u) [ inr ge ↦ ge | inl less ↦ absurd (false≢true (sym (at-u.2 v less) ∙ says v c)) ])
