-- Rows: the neighbours of a node, and a node unlinked or linked.
use Rattle.std.proofs.Common.{◌≡◌, ℕ, zero, suc, ◌+◌, ◌-◌, ◌<◌, arith, length, eqb, eqb-true, eq-eqb, Bool, true, false, cond, List, [], ◌∷◌, ◌++◌, Option, Some, None, append_assoc, append-nil, refl, sym, ap, ◌∙◌, subst, get_or, take, drop}
use Rattle.std.specs.List.{Contains, slice_get}
use Rattle.std.proofs.Math.ListN.{set}
use Rattle.std.proofs.Math.Seq.{ext_get_or, take-append_seam}
use Rattle.std.proofs.lemmas.List.{length-set, get_or-set_same, get_or-set_other, get_or_append_left, length-append}
use Rattle.std.proofs.lemmas.Bool.{false≢true}
use Rattle.std.proofs.lemmas.Option.{slice_get-get_or, slice_get_within, get_or_from_slice_get}
use Rattle.common_laws.specs.Lists.{contains-head, contains-tail, contains-left, contains-right}
use Rattle.choice_problem.proofs.EdgePaths.{parted}
use Rattle.goal_links.specs.declared.ring.RingNode.{RingNode}
use Rattle.goal_links.specs.Beside.{last_of, first_of, beside, behind_first}
use Rattle.goal_links.specs.Ring.{AreOnce, IsPath, IsRing, no_node, ring_of, next_at, prev_at, with_place, IsWithin}
use Rattle.goal_links.specs.Row.{Line, with_node, has_node, without_node, behind, StandsIn, MayReturn, IsGap, kept_from}
use Rattle.goal_links.proofs.Paths.{last-end, path-parts, path-last, path-first, path-stays, path-more, path-unlinked, path-linked, last-contains, place-other, not-last, not-first}
use Rattle.goal_links.proofs.Rings.{has-contains, ring-once, ring-within, ring-is}
use Rattle.goal_links.proofs.Nodes.{contains-has, hasn't, not-in, behind-parted, beside-parted, without-parted, has-other, has-itself, apart-front, apart-back, behind-front, in-front, in-back, not-either}

abbrev pub Sides : Type 0
Sides = Option ℕ × Option ℕ

abbrev pub line : List ℕ → List (Option Sides) → Line
line linked kept = record { linked = linked; kept = kept }

-- the nodes are a row with these linked nodes and kept neighbours
abbrev pub IsRow : RingNode → List RingNode → List ℕ → List (Option Sides) → Type 0
IsRow ends nodes linked kept = IsRing ends nodes (ring_of ends nodes) × (ring_of ends nodes ≡ linked) × (kept_from (ring_of ends nodes) 0 nodes ≡ kept)

-- that row is the one that contracts see
pub row-line : (ends : RingNode) (nodes : List RingNode) (linked : List ℕ) (kept : List (Option Sides)) → IsRow ends nodes linked kept
    → line (ring_of ends nodes) (kept_from (ring_of ends nodes) 0 nodes) ≡ line linked kept
row-line ends nodes linked kept h =
    let first : line (ring_of ends nodes) (kept_from (ring_of ends nodes) 0 nodes) ≡ line linked (kept_from (ring_of ends nodes) 0 nodes) = ap (λ l. line l (kept_from (ring_of ends nodes) 0 nodes)) h.1 in
    first ∙ ap (line linked) h.2

-- what a slice of all nodes leaves behind
pub written : (n : ℕ) (new old : List RingNode) → length new ≡ n → take n (new ++ drop (length new) old) ≡ new
written n new old e = ap (λ k. take k (new ++ drop (length new) old)) (sym e) ∙ take-append_seam new (drop (length new) old)

-- kept neighbours

-- the neighbours of a node
abbrev pub sides_of : RingNode → Option Sides
sides_of node = Some (node.prev, node.next)

-- the neighbours of the node at a place
abbrev pub neighbours : List RingNode → ℕ → Option Sides
neighbours nodes k = sides_of (get_or nodes k no_node)

pub kept-length : (linked : List ℕ) (n : ℕ) (nodes : List RingNode) → length (kept_from linked n nodes) ≡ length nodes
kept-length linked n [] = refl
kept-length linked n (node ∷ nodes) = ap suc (kept-length linked (suc n) nodes)

kept-get : (linked : List ℕ) (n : ℕ) (nodes : List RingNode) (k : ℕ) → k < length nodes
    → get_or (kept_from linked n nodes) k None ≡ cond (has_node linked (n + k)) None (neighbours nodes k)
kept-get linked n [] k h = absurd (omega (arith, h))
kept-get linked n (node ∷ nodes) zero h = ap (λ m. cond (has_node linked m) None (Some (node.prev, node.next))) (omega arith)
kept-get linked n (node ∷ nodes) (suc k) h =
    kept-get linked (suc n) nodes k (omega (arith, h))
    ∙ ap (λ m. cond (has_node linked m) None (neighbours nodes k)) (omega arith)

pub kept-at : (linked : List ℕ) (nodes : List RingNode) (k : ℕ) → k < length nodes
    → get_or (kept_from linked 0 nodes) k None ≡ cond (has_node linked k) None (neighbours nodes k)
kept-at linked nodes k h =
    kept-get linked 0 nodes k h
    ∙ ap (λ m. cond (has_node linked m) None (neighbours nodes k)) (omega arith)

abbrev pub AreSame : RingNode → RingNode → Type 0
AreSame m n = (m.prev ≡ n.prev) × (m.next ≡ n.next)

same-sides : (m n : RingNode) → AreSame m n → sides_of m ≡ sides_of n
same-sides m n h =
    let left : sides_of m ≡ Some (n.prev, m.next) = ap (λ (p : Option ℕ). let s : Option Sides = Some (p, m.next) in s) h.0 in
    left ∙ ap (λ (q : Option ℕ). let s : Option Sides = Some (n.prev, q) in s) h.1

-- the kept neighbours change at one node
pub kept-changed : (linked linked2 : List ℕ) (nodes nodes2 : List RingNode) (x : ℕ) (v : Option Sides) → length nodes2 ≡ length nodes → x < length nodes
    → ((k : ℕ) → (k ≡ x → ⊥) → has_node linked2 k ≡ has_node linked k)
    → ((k : ℕ) → (k ≡ x → ⊥) → has_node linked k ≡ false → AreSame (get_or nodes2 k no_node) (get_or nodes k no_node))
    → cond (has_node linked2 x) None (neighbours nodes2 x) ≡ v
    → kept_from linked2 0 nodes2 ≡ set (kept_from linked 0 nodes) x v
kept-changed linked linked2 nodes nodes2 x v len within has same at =
    let old = kept_from linked 0 nodes in
    let new = kept_from linked2 0 nodes2 in
    let lens : length new ≡ length nodes = kept-length linked2 0 nodes2 ∙ len in
    ext_get_or None new (set old x v) (lens ∙ sym (length-set old x v ∙ kept-length linked 0 nodes)) (λ k h.
    let in2 : k < length nodes2 = omega (arith, h, lens, len) in
    let in1 : k < length nodes = omega (arith, h, lens) in
    let here = kept-at linked2 nodes2 k in2 in
    elim (eqb k x) as (λ b. eqb k x ≡ b → get_or new k None ≡ get_or (set old x v) k None) [
      | true ↦ λ e.
          let is : k ≡ x = eqb-true k x e in
          let in-old : x < length old = omega (arith, within, kept-length linked 0 nodes) in
          ap (λ m. get_or new m None) is ∙ kept-at linked2 nodes2 x (omega (arith, within, len)) ∙ at
          ∙ sym (get_or-set_same old x v None in-old) ∙ ap (λ m. get_or (set old x v) m None) (sym is)
      | false ↦ λ e.
          let other : k ≡ x → ⊥ = λ i. false≢true (sym e ∙ eq-eqb k x i) in
          here ∙ ap (λ b. cond b None (neighbours nodes2 k)) (has k other)
          ∙ elim (has_node linked k) as (λ b. has_node linked k ≡ b
          → cond b None (neighbours nodes2 k) ≡ cond b None (neighbours nodes k)) [
            | true ↦ λ i. refl
            | false ↦ λ i. same-sides (get_or nodes2 k no_node) (get_or nodes k no_node) (same k other i)
          ] refl
          ∙ sym (kept-at linked nodes k in1) ∙ sym (get_or-set_other old x k v None other)
    ] refl)

-- the neighbours of a node of a ring

module _ (ends : RingNode) (nodes : List RingNode) (ns : List ℕ) (h : IsRing ends nodes ns) where
  pub linked-within : (n : ℕ) → has_node ns n ≡ true → n < length nodes
  linked-within n k = ring-within ends nodes ns h n (has-contains ns n k)

  pub linked-next : (n : ℕ) → has_node ns n ≡ true → (get_or nodes n no_node).next ≡ first_of (behind_first (eqb n) ns)
  linked-next n k =
      let p = parted ns n (has-contains ns n k) in
      let path = subst (λ l. IsRing ends nodes l) p.2 h in
      let once = ring-once ends nodes (p.0 ++ n ∷ p.1) path in
      let parts = path-parts (next_at ends nodes) (prev_at ends nodes) (length nodes) None p.0 n p.1 None path in
      path-first (next_at ends nodes) (prev_at ends nodes) (length nodes) (Some n) p.1 None parts.2
      ∙ sym (ap (λ l. first_of (behind_first (eqb n) l)) p.2 ∙ ap first_of (behind-parted p.0 n p.1 (apart-front p.0 n p.1 once)))

-- nodes other than the one at a place
pub same-elsewhere : (p : Option ℕ) (to : Option ℕ) (old : Option ℕ → Option ℕ) (k : ℕ) → (p ≡ Some k → ⊥) → with_place p to old (Some k) ≡ old (Some k)
same-elsewhere p to old k h = ap (λ b. cond b to (old (Some k))) (place-other p (Some k) h)

module _ (ends ends2 : RingNode) (nodes nodes2 : List RingNode) (len : length nodes2 ≡ length nodes) (n : ℕ) where
  -- the ring, its nodes and kept neighbours after a node is unlinked
  pub row-unlinked : IsRing ends nodes (ring_of ends nodes) → has_node (ring_of ends nodes) n ≡ true
      → ((at : Option ℕ) → next_at ends2 nodes2 at ≡ with_place (prev_at ends nodes (Some n)) (next_at ends nodes (Some n)) (next_at ends nodes) at)
      → ((at : Option ℕ) → prev_at ends2 nodes2 at ≡ with_place (next_at ends nodes (Some n)) (prev_at ends nodes (Some n)) (prev_at ends nodes) at)
      → IsRow ends2 nodes2 (without_node n (ring_of ends nodes)) (set (kept_from (ring_of ends nodes) 0 nodes) n (Some (beside (eqb n) (ring_of ends nodes))))
  row-unlinked h in' on back =
      let ns = ring_of ends nodes in
      let part = parted ns n (has-contains ns n in') in
      let xs = part.0 in
      let ys = part.1 in
      let path = subst (λ l. IsRing ends nodes l) part.2 h in
      let once = ring-once ends nodes (xs ++ n ∷ ys) path in
      let front = apart-front xs n ys once in
      let back' = apart-back xs n ys once in
      let parts = path-parts (next_at ends nodes) (prev_at ends nodes) (length nodes) None xs n ys None path in
      let p : prev_at ends nodes (Some n) ≡ last_of xs = path-last (next_at ends nodes) (prev_at ends nodes) (length nodes) None xs (Some n) parts.0 in
      let q : next_at ends nodes (Some n) ≡ first_of ys = path-first (next_at ends nodes) (prev_at ends nodes) (length nodes) (Some n) ys None parts.2 in
      let new : IsRing ends2 nodes2 (xs ++ ys) =
      subst (λ (c : ℕ). IsPath (next_at ends2 nodes2) (prev_at ends2 nodes2) c None (xs ++ ys) None) (sym len)
      (path-unlinked (next_at ends nodes) (prev_at ends nodes) (next_at ends2 nodes2) (prev_at ends2 nodes2) (length nodes) xs n ys path on back) in
      let is : ring_of ends2 nodes2 ≡ xs ++ ys = ring-is ends2 nodes2 (xs ++ ys) new in
      let left : prev_at ends2 nodes2 (Some n) ≡ last_of xs =
      back (Some n) ∙ same-elsewhere (next_at ends nodes (Some n)) (prev_at ends nodes (Some n)) (prev_at ends nodes) n (λ e. not-first ys n back' (sym q ∙ e)) ∙ p in
      let right : next_at ends2 nodes2 (Some n) ≡ first_of ys =
      on (Some n) ∙ same-elsewhere (prev_at ends nodes (Some n)) (next_at ends nodes (Some n)) (next_at ends nodes) n (λ e. not-last xs n front (sym p ∙ e)) ∙ q in
      let beside-n : Option Sides = Some (last_of xs, first_of ys) in
      let at-n : cond (has_node (xs ++ ys) n) None (neighbours nodes2 n) ≡ beside-n =
      ap (λ b. cond b None (neighbours nodes2 n)) (not-in (xs ++ ys) n (not-either xs n ys front back'))
      ∙ same-sides (get_or nodes2 n no_node) (record { prev = last_of xs; next = first_of ys }) (left, right) in (
        subst (λ l. IsRing ends2 nodes2 l) (sym is) new,
        is ∙ sym (ap (without_node n) part.2 ∙ without-parted xs n ys front back'),
        ap (λ l. kept_from l 0 nodes2) is
            ∙ kept-changed (xs ++ n ∷ ys) (xs ++ ys) nodes nodes2 n beside-n len (linked-within ends nodes ns h n in')
            (λ k other. sym (has-other xs n ys k other))
            (λ k other out. let out2 = hasn't (xs ++ n ∷ ys) k out in (
              back (Some k) ∙ same-elsewhere (next_at ends nodes (Some n)) (prev_at ends nodes (Some n)) (prev_at ends nodes) k (λ e. not-first ys k (λ c. out2 (in-back xs n ys k c)) (sym q ∙ e)),
              on (Some k) ∙ same-elsewhere (prev_at ends nodes (Some n)) (next_at ends nodes (Some n)) (next_at ends nodes) k (λ e. not-last xs k (λ c. out2 (in-front xs n ys k c)) (sym p ∙ e)),
            ))
            at-n
            ∙ ap (λ l. set (kept_from l 0 nodes) n beside-n) (sym part.2)
            ∙ ap (λ s. set (kept_from ns 0 nodes) n (Some s)) (sym (ap (beside (eqb n)) part.2 ∙ beside-parted None xs n ys front)),
      )

-- the ring, its nodes and kept neighbours with one more unlinked node
kept-push : (linked : List ℕ) (n : ℕ) (nodes : List RingNode) (m : RingNode)
    → kept_from linked n (nodes ++ m ∷ []) ≡ kept_from linked n nodes ++ cond (has_node linked (n + length nodes)) None (sides_of m) ∷ []
kept-push linked n [] m = ap (λ k. cond (has_node linked k) None (sides_of m) ∷ []) (omega arith)
kept-push linked n (node ∷ nodes) m =
    ap (λ l. cond (has_node linked n) None (sides_of node) ∷ l)
    (kept-push linked (suc n) nodes m ∙ ap (λ k. kept_from linked (suc n) nodes ++ cond (has_node linked k) None (sides_of m) ∷ []) (omega arith))

pub ring-pushed : (ends : RingNode) (nodes : List RingNode) (m : RingNode) (ns : List ℕ) → IsRing ends nodes ns → IsRing ends (nodes ++ m ∷ []) ns
ring-pushed ends nodes m ns h =
    let within = ring-within ends nodes ns h in
    path-stays (next_at ends nodes) (prev_at ends nodes) (next_at ends (nodes ++ m ∷ [])) (prev_at ends (nodes ++ m ∷ [])) (length (nodes ++ m ∷ [])) None ns None refl
    (λ k c. ap (λ (n : RingNode). n.next) (get_or_append_left nodes (m ∷ []) no_node k (within k c)))
    (λ k c. ap (λ (n : RingNode). n.prev) (get_or_append_left nodes (m ∷ []) no_node k (within k c))) refl
    (path-more (next_at ends nodes) (prev_at ends nodes) (length nodes) (length (nodes ++ m ∷ [])) None ns None (omega (arith, length-append nodes (m ∷ []))) h)

pub row-pushed : (ends : RingNode) (nodes nodes2 : List RingNode) → nodes2 ≡ nodes ++ no_node ∷ [] → IsRing ends nodes (ring_of ends nodes)
    → IsRow ends nodes2 (ring_of ends nodes) (kept_from (ring_of ends nodes) 0 nodes ++ sides_of no_node ∷ [])
row-pushed ends nodes nodes2 e h =
    let ns = ring_of ends nodes in
    let new : IsRing ends nodes2 ns = subst (λ l. IsRing ends l ns) (sym e) (ring-pushed ends nodes no_node ns h) in
    let is = ring-is ends nodes2 ns new in
    let out : has_node ns (0 + length nodes) ≡ false =
    not-in ns (0 + length nodes) (λ c. let bad = ring-within ends nodes ns h (0 + length nodes) c in omega (arith, bad)) in (
      subst (λ l. IsRing ends nodes2 l) (sym is) new,
      is,
      ap (λ l. kept_from l 0 nodes2) is ∙ ap (kept_from ns 0) e ∙ kept-push ns 0 nodes no_node
          ∙ ap (λ b. kept_from ns 0 nodes ++ cond b None (sides_of no_node) ∷ []) out,
    )

-- a place in a row is linked where it is a node
pub stands : (place : Option ℕ) (n : ℕ) (ns now : List ℕ) → ns ≡ now → StandsIn now place → place ≡ Some n → has_node ns n ≡ true
stands place n ns now e h is = ap (λ (l : List ℕ). has_node l n) e ∙ subst (λ (p : Option ℕ). StandsIn now p) is h

module _ (ends ends2 : RingNode) (nodes nodes1 nodes2 : List RingNode) (n : ℕ) where
  -- the ring, its nodes and kept neighbours after a node is linked between its neighbours
  pub row-linked : (xs ys : List ℕ) → length nodes1 ≡ length nodes → length nodes2 ≡ length nodes → ((k : ℕ) → (k ≡ n → ⊥) → get_or nodes1 k no_node ≡ get_or nodes k no_node)
      → IsRing ends nodes (ring_of ends nodes) → ring_of ends nodes ≡ xs ++ ys → has_node (ring_of ends nodes) n ≡ false → n < length nodes
      → prev_at ends nodes1 (Some n) ≡ last_of xs → next_at ends nodes1 (Some n) ≡ first_of ys
      → ((at : Option ℕ) → next_at ends2 nodes2 at ≡ with_place (prev_at ends nodes1 (Some n)) (Some n) (next_at ends nodes1) at)
      → ((at : Option ℕ) → prev_at ends2 nodes2 at ≡ with_place (next_at ends nodes1 (Some n)) (Some n) (prev_at ends nodes1) at)
      → IsRow ends2 nodes2 (xs ++ n ∷ ys) (set (kept_from (ring_of ends nodes) 0 nodes) n None)
  row-linked xs ys len1 len2 others h parts new within p q on back =
      let out : Contains (xs ++ ys) n → ⊥ = hasn't (xs ++ ys) n (ap (λ l. has_node l n) (sym parts) ∙ new) in
      let not-here : (k : ℕ) → Contains (xs ++ ys) k → k ≡ n → ⊥ = λ k c e. out (subst (λ m. Contains (xs ++ ys) m) e c) in
      let path = subst (λ l. IsRing ends nodes l) parts h in
      let path1 : IsPath (next_at ends nodes1) (prev_at ends nodes1) (length nodes) None (xs ++ ys) None =
      path-stays (next_at ends nodes) (prev_at ends nodes) (next_at ends nodes1) (prev_at ends nodes1) (length nodes) None (xs ++ ys) None refl
      (λ k c. ap (λ (m : RingNode). m.next) (others k (not-here k c))) (λ k c. ap (λ (m : RingNode). m.prev) (others k (not-here k c))) refl path in
      let ring2 : IsRing ends2 nodes2 (xs ++ n ∷ ys) =
      subst (λ (c : ℕ). IsPath (next_at ends2 nodes2) (prev_at ends2 nodes2) c None (xs ++ n ∷ ys) None) (sym len2)
      (path-linked (next_at ends nodes1) (prev_at ends nodes1) (next_at ends2 nodes2) (prev_at ends2 nodes2) (length nodes) xs n ys path1 out within p q on back) in
      let is : ring_of ends2 nodes2 ≡ xs ++ n ∷ ys = ring-is ends2 nodes2 (xs ++ n ∷ ys) ring2 in (
        subst (λ l. IsRing ends2 nodes2 l) (sym is) ring2,
        is,
        ap (λ l. kept_from l 0 nodes2) is
            ∙ kept-changed (xs ++ ys) (xs ++ n ∷ ys) nodes nodes2 n None len2 within (λ k other. has-other xs n ys k other)
            (λ k other outside. let out2 = hasn't (xs ++ ys) k outside in (
              back (Some k) ∙ same-elsewhere (next_at ends nodes1 (Some n)) (Some n) (prev_at ends nodes1) k (λ e. not-first ys k (λ c. out2 (contains-right xs ys k c)) (sym q ∙ e))
                  ∙ ap (λ (m : RingNode). m.prev) (others k other),
              on (Some k) ∙ same-elsewhere (prev_at ends nodes1 (Some n)) (Some n) (next_at ends nodes1) k (λ e. not-last xs k (λ c. out2 (contains-left xs ys k c)) (sym p ∙ e))
                  ∙ ap (λ (m : RingNode). m.next) (others k other),
            ))
            (ap (λ b. cond b None (neighbours nodes2 n)) (has-itself xs n ys))
            ∙ ap (λ l. set (kept_from l 0 nodes) n None) (sym parts),
      )

module _ (ends : RingNode) (nodes : List RingNode) (h : IsRing ends nodes (ring_of ends nodes)) where
  -- the neighbours of a gap are nodes
  pub gap-within : (xs ys : List ℕ) → ring_of ends nodes ≡ xs ++ ys → IsWithin (length nodes) (last_of xs) × IsWithin (length nodes) (first_of ys)
  gap-within xs ys e =
      let within : (k : ℕ) → Contains (xs ++ ys) k → k < length nodes = ring-within ends nodes (xs ++ ys) (subst (λ l. IsRing ends nodes l) e h) in
      (last-within xs (λ k c. within k (contains-left xs ys k c)), first-within ys (λ k c. within k (contains-right xs ys k c)))
    where
      last-within : (xs : List ℕ) → ((k : ℕ) → Contains xs k → k < length nodes) → IsWithin (length nodes) (last_of xs)
      last-within [] h = tt
      last-within (x ∷ xs) h = let last = last-contains x xs in subst (IsWithin (length nodes)) (sym last.1) (h last.0 last.2)

      first-within : (ys : List ℕ) → ((k : ℕ) → Contains ys k → k < length nodes) → IsWithin (length nodes) (first_of ys)
      first-within [] h = tt
      first-within (y ∷ ys) h = h y (contains-head y ys)

  -- a node of the ring with its neighbours
  pub node-parted : (n : ℕ) → has_node (ring_of ends nodes) n ≡ true → (xs : List ℕ) × (ys : List ℕ) × (ring_of ends nodes ≡ xs ++ n ∷ ys)
      × (prev_at ends nodes (Some n) ≡ last_of xs) × (next_at ends nodes (Some n) ≡ first_of ys)
  node-parted n in' =
      let part = parted (ring_of ends nodes) n (has-contains (ring_of ends nodes) n in') in
      let parts = path-parts (next_at ends nodes) (prev_at ends nodes) (length nodes) None part.0 n part.1 None (subst (λ l. IsRing ends nodes l) part.2 h) in (
        part.0,
        part.1,
        part.2,
        path-last (next_at ends nodes) (prev_at ends nodes) (length nodes) None part.0 (Some n) parts.0,
        path-first (next_at ends nodes) (prev_at ends nodes) (length nodes) (Some n) part.1 None parts.2,
      )

  pub sides-within : (n : ℕ) → has_node (ring_of ends nodes) n ≡ true
      → IsWithin (length nodes) (prev_at ends nodes (Some n)) × IsWithin (length nodes) (next_at ends nodes (Some n))
  sides-within n in' =
      let part = node-parted n in' in
      let front = gap-within part.0 (n ∷ part.1) part.2 in
      let whole : ring_of ends nodes ≡ (part.0 ++ n ∷ []) ++ part.1 = part.2 ∙ sym (append_assoc part.0 (n ∷ []) part.1) in
      let back = gap-within (part.0 ++ n ∷ []) part.1 whole in
      (subst (IsWithin (length nodes)) (sym part.3) front.0, subst (IsWithin (length nodes)) (sym part.4) back.1)

  -- the nodes before a node are the same without it
  pub prev-stands : (n : ℕ) → has_node (ring_of ends nodes) n ≡ true → StandsIn (without_node n (ring_of ends nodes)) (prev_at ends nodes (Some n))
  prev-stands n in' =
      let part = node-parted n in' in
      let once = ring-once ends nodes (part.0 ++ n ∷ part.1) (subst (λ l. IsRing ends nodes l) part.2 h) in
      let left : without_node n (ring_of ends nodes) ≡ part.0 ++ part.1 =
      ap (without_node n) part.2 ∙ without-parted part.0 n part.1 (apart-front part.0 n part.1 once) (apart-back part.0 n part.1 once) in
      subst (λ l. StandsIn l (prev_at ends nodes (Some n))) (sym left) (subst (StandsIn (part.0 ++ part.1)) (sym part.3) (last-stands part.0 part.1))
    where
      last-stands : (xs ys : List ℕ) → StandsIn (xs ++ ys) (last_of xs)
      last-stands [] ys = tt
      last-stands (x ∷ xs) ys =
          let last = last-contains x xs in
          subst (StandsIn ((x ∷ xs) ++ ys)) (sym last.1) (contains-has ((x ∷ xs) ++ ys) last.0 (contains-left (x ∷ xs) ys last.0 last.2))

-- a row split at a place
pub place-parted : (ns : List ℕ) (place : Option ℕ) → StandsIn ns place → (xs : List ℕ) × (ys : List ℕ) × (ns ≡ xs ++ ys) × (last_of xs ≡ place)
place-parted ns None h = ([], ns, refl, refl)
place-parted ns (Some n) h =
    let part = parted ns n (has-contains ns n h) in
    (part.0 ++ n ∷ [], part.1, part.2 ∙ sym (append_assoc part.0 (n ∷ []) part.1), last-end None part.0 n)

-- a linked node keeps nothing
pub kept-none : (ends : RingNode) (nodes : List RingNode) → IsRing ends nodes (ring_of ends nodes) → (n : ℕ) → has_node (ring_of ends nodes) n ≡ true
    → slice_get (kept_from (ring_of ends nodes) 0 nodes) n ≡ Some None
kept-none ends nodes h n in' =
    let ns = ring_of ends nodes in
    let within = linked-within ends nodes ns h n in' in
    slice_get-get_or (kept_from ns 0 nodes) n None (omega (arith, within, kept-length ns 0 nodes))
    ∙ ap Some (kept-at ns nodes n within ∙ ap (λ b. cond b None (neighbours nodes n)) in')

-- a node that keeps neighbours is unlinked, and its fields have them
pub kept-is : (linked : List ℕ) (nodes : List RingNode) (n : ℕ) (sides : Sides) → slice_get (kept_from linked 0 nodes) n ≡ Some (Some sides)
    → (n < length nodes) × (has_node linked n ≡ false) × ((get_or nodes n no_node).prev ≡ sides.0) × ((get_or nodes n no_node).next ≡ sides.1)
kept-is linked nodes n sides h =
    let inside = slice_get_within (kept_from linked 0 nodes) n (Some sides) h in
    let within : n < length nodes = omega (arith, inside, kept-length linked 0 nodes) in
    let is : cond (has_node linked n) None (neighbours nodes n) ≡ Some sides = sym (kept-at linked nodes n within) ∙ get_or_from_slice_get (kept_from linked 0 nodes) n (Some sides) None h in
    let both : (b : Bool) → has_node linked n ≡ b → cond b None (neighbours nodes n) ≡ Some sides → (has_node linked n ≡ false) × (neighbours nodes n ≡ Some sides) =
    λ b. elim b as (λ b. has_node linked n ≡ b → cond b None (neighbours nodes n) ≡ Some sides → (has_node linked n ≡ false) × (neighbours nodes n ≡ Some sides)) [
      | true ↦ λ e k. absurd (cc k)
      | false ↦ λ e k. (e, k)
    ] in
    let r = both (has_node linked n) refl is in
    (within, r.0, ap (λ o. (either sides o).0) r.1, ap (λ o. (either sides o).1) r.1)
  where
    either : Sides → Option Sides → Sides
    either d None = d
    either d (Some s) = s

-- the same for the nodes as the calls hand them over and take them back

pub unlinked-row : (ends ends2 : RingNode) (nodes mid new : List RingNode) (len n : ℕ) → mid ≡ nodes → IsRing ends nodes (ring_of ends nodes) → has_node (ring_of ends nodes) n ≡ true
    → ((at : Option ℕ) → next_at ends2 new at ≡ with_place (prev_at ends mid (Some n)) (next_at ends mid (Some n)) (next_at ends mid) at)
    → ((at : Option ℕ) → prev_at ends2 new at ≡ with_place (next_at ends mid (Some n)) (prev_at ends mid (Some n)) (prev_at ends mid) at)
    → length new ≡ length mid → len ≡ length nodes
    → IsRow ends2 (take len (new ++ drop (length new) nodes)) (without_node n (ring_of ends nodes)) (set (kept_from (ring_of ends nodes) 0 nodes) n (Some (beside (eqb n) (ring_of ends nodes))))
unlinked-row ends ends2 nodes mid new len n e h in' on back same all =
    let left = without_node n (ring_of ends nodes) in
    let kept = set (kept_from (ring_of ends nodes) 0 nodes) n (Some (beside (eqb n) (ring_of ends nodes))) in
    subst (λ (l : List RingNode). IsRow ends2 l left kept) (sym (written len new nodes (same ∙ ap length e ∙ sym all)))
    (subst (λ (l : List RingNode). IsRow ends2 new (without_node n (ring_of ends l)) (set (kept_from (ring_of ends l) 0 l) n (Some (beside (eqb n) (ring_of ends l))))) e
    (row-unlinked ends ends2 mid new same n (subst (λ (l : List RingNode). IsRing ends l (ring_of ends l)) (sym e) h)
    (subst (λ (l : List RingNode). has_node (ring_of ends l) n ≡ true) (sym e) in') on back))

pub linked-row : (ends ends2 : RingNode) (nodes nodes1 mid new old : List RingNode) (len n : ℕ) (xs ys : List ℕ) → mid ≡ nodes1
    → length nodes1 ≡ length nodes → ((k : ℕ) → (k ≡ n → ⊥) → get_or nodes1 k no_node ≡ get_or nodes k no_node)
    → IsRing ends nodes (ring_of ends nodes) → ring_of ends nodes ≡ xs ++ ys → has_node (ring_of ends nodes) n ≡ false → n < length nodes
    → prev_at ends nodes1 (Some n) ≡ last_of xs → next_at ends nodes1 (Some n) ≡ first_of ys
    → ((at : Option ℕ) → next_at ends2 new at ≡ with_place (prev_at ends mid (Some n)) (Some n) (next_at ends mid) at)
    → ((at : Option ℕ) → prev_at ends2 new at ≡ with_place (next_at ends mid (Some n)) (Some n) (prev_at ends mid) at)
    → length new ≡ length mid → len ≡ length nodes
    → IsRow ends2 (take len (new ++ drop (length new) old)) (xs ++ n ∷ ys) (set (kept_from (ring_of ends nodes) 0 nodes) n None)
linked-row ends ends2 nodes nodes1 mid new old len n xs ys e len1 others h parts out within p q on back same all =
    let len-mid : length mid ≡ length nodes = ap length e ∙ len1 in
    subst (λ (l : List RingNode). IsRow ends2 l (xs ++ n ∷ ys) (set (kept_from (ring_of ends nodes) 0 nodes) n None)) (sym (written len new old (same ∙ len-mid ∙ sym all)))
    (row-linked ends ends2 nodes mid new n xs ys len-mid (same ∙ len-mid) (λ k other. ap (λ (l : List RingNode). get_or l k no_node) e ∙ others k other) h parts out within
    (ap (λ (l : List RingNode). prev_at ends l (Some n)) e ∙ p) (ap (λ (l : List RingNode). next_at ends l (Some n)) e ∙ q) on back)

-- a place with its known next node
pub gap-behind : (ends : RingNode) (nodes : List RingNode) → IsRing ends nodes (ring_of ends nodes) → (place next : Option ℕ) (xs ys : List ℕ)
    → ring_of ends nodes ≡ xs ++ ys → last_of xs ≡ place → next ≡ first_of (behind place (ring_of ends nodes)) → next ≡ first_of ys
gap-behind ends nodes h place next xs ys e last is =
    is ∙ ap (λ (l : List ℕ). first_of (behind place l)) e ∙ ap (λ p. first_of (behind p (xs ++ ys))) (sym last)
    ∙ ap first_of (behind-front xs ys (ring-once ends nodes (xs ++ ys) (subst (λ l. IsRing ends nodes l) e h)))

-- a node linked behind a place, with its neighbours written
module _ (ends : RingNode) (nodes : List RingNode) (h : IsRing ends nodes (ring_of ends nodes)) (place next : Option ℕ) (n : ℕ) (within : n < length nodes)
    (stands-in : StandsIn (ring_of ends nodes) place) (is : next ≡ first_of (behind place (ring_of ends nodes))) (mid : List RingNode) (e : mid ≡ set nodes n (record { prev = place; next = next })) where
  placed-at : get_or mid n no_node ≡ record { prev = place; next = next }
  placed-at = ap (λ (l : List RingNode). get_or l n no_node) e ∙ get_or-set_same nodes n (record { prev = place; next = next }) no_node within

  placed-length : length mid ≡ length nodes
  placed-length = ap length e ∙ length-set nodes n (record { prev = place; next = next })

  pub placed-node : n < length mid
  placed-node = omega (arith, within, placed-length)

  pub placed-prev : IsWithin (length mid) (prev_at ends mid (Some n))
  placed-prev =
      let part = place-parted (ring_of ends nodes) place stands-in in
      let gap = gap-within ends nodes h part.0 part.1 part.2 in
      subst (λ (c : ℕ). IsWithin c (prev_at ends mid (Some n))) (sym placed-length)
      (subst (IsWithin (length nodes)) (part.3 ∙ sym (ap (λ (m : RingNode). m.prev) placed-at)) gap.0)

  pub placed-next : IsWithin (length mid) (next_at ends mid (Some n))
  placed-next =
      let part = place-parted (ring_of ends nodes) place stands-in in
      let gap = gap-within ends nodes h part.0 part.1 part.2 in
      subst (λ (c : ℕ). IsWithin c (next_at ends mid (Some n))) (sym placed-length)
      (subst (IsWithin (length nodes)) (sym (ap (λ (m : RingNode). m.next) placed-at ∙ gap-behind ends nodes h place next part.0 part.1 part.2 part.3 is)) gap.1)

  module _ (ends2 : RingNode) (new old : List RingNode) (len : ℕ) (out : has_node (ring_of ends nodes) n ≡ false)
      (on : (at : Option ℕ) → next_at ends2 new at ≡ with_place (prev_at ends mid (Some n)) (Some n) (next_at ends mid) at)
      (back : (at : Option ℕ) → prev_at ends2 new at ≡ with_place (next_at ends mid (Some n)) (Some n) (prev_at ends mid) at)
      (same : length new ≡ length mid) (all : len ≡ length nodes) where
    pub placed-row : (xs ys : List ℕ) → ring_of ends nodes ≡ xs ++ ys → last_of xs ≡ place
        → IsRow ends2 (take len (new ++ drop (length new) old)) (xs ++ n ∷ ys) (set (kept_from (ring_of ends nodes) 0 nodes) n None)
    placed-row xs ys parts last =
        linked-row ends ends2 nodes mid mid new old len n xs ys refl placed-length
        (λ k other. ap (λ (l : List RingNode). get_or l k no_node) e ∙ get_or-set_other nodes n k (record { prev = place; next = next }) no_node other)
        h parts out within (ap (λ (m : RingNode). m.prev) placed-at ∙ sym last)
        (ap (λ (m : RingNode). m.next) placed-at ∙ gap-behind ends nodes h place next xs ys parts last is) on back same all

    pub placed-somewhere : (xs : List ℕ) × (ys : List ℕ) × IsRow ends2 (take len (new ++ drop (length new) old)) (xs ++ n ∷ ys) (set (kept_from (ring_of ends nodes) 0 nodes) n None)
    placed-somewhere = let part = place-parted (ring_of ends nodes) place stands-in in (part.0, part.1, placed-row part.0 part.1 part.2 part.3)

-- a node relinked between the neighbours that it keeps
module _ (ends : RingNode) (nodes : List RingNode) (h : IsRing ends nodes (ring_of ends nodes)) (n : ℕ) (xs ys : List ℕ) (parts : ring_of ends nodes ≡ xs ++ ys)
    (kept : slice_get (kept_from (ring_of ends nodes) 0 nodes) n ≡ Some (Some (last_of xs, first_of ys))) (mid : List RingNode) (e : mid ≡ nodes) where
  pub returned-node : n < length mid
  returned-node = let k = kept-is (ring_of ends nodes) nodes n (last_of xs, first_of ys) kept in omega (arith, k.0, ap length e)

  pub returned-prev : IsWithin (length mid) (prev_at ends mid (Some n))
  returned-prev =
      let k = kept-is (ring_of ends nodes) nodes n (last_of xs, first_of ys) kept in
      subst (λ (l : List RingNode). IsWithin (length l) (prev_at ends l (Some n))) (sym e) (subst (IsWithin (length nodes)) (sym k.2) ((gap-within ends nodes h xs ys parts).0))

  pub returned-next : IsWithin (length mid) (next_at ends mid (Some n))
  returned-next =
      let k = kept-is (ring_of ends nodes) nodes n (last_of xs, first_of ys) kept in
      subst (λ (l : List RingNode). IsWithin (length l) (next_at ends l (Some n))) (sym e) (subst (IsWithin (length nodes)) (sym k.3) ((gap-within ends nodes h xs ys parts).1))

  pub returned-row : (ends2 : RingNode) (new old : List RingNode) (len : ℕ)
      → ((at : Option ℕ) → next_at ends2 new at ≡ with_place (prev_at ends mid (Some n)) (Some n) (next_at ends mid) at)
      → ((at : Option ℕ) → prev_at ends2 new at ≡ with_place (next_at ends mid (Some n)) (Some n) (prev_at ends mid) at)
      → length new ≡ length mid → len ≡ length nodes
      → IsRow ends2 (take len (new ++ drop (length new) old)) (xs ++ n ∷ ys) (set (kept_from (ring_of ends nodes) 0 nodes) n None)
  returned-row ends2 new old len on back same all =
      let k = kept-is (ring_of ends nodes) nodes n (last_of xs, first_of ys) kept in
      linked-row ends ends2 nodes nodes mid new old len n xs ys e refl (λ k other. refl) h parts k.1 k.0 k.2 k.3 on back same all

-- the next node, and the nodes behind it
pub behind-step : (ends : RingNode) (nodes : List RingNode) → IsRing ends nodes (ring_of ends nodes) → (place : Option ℕ) (n : ℕ) → StandsIn (ring_of ends nodes) place
    → Some n ≡ first_of (behind place (ring_of ends nodes)) → (behind place (ring_of ends nodes) ≡ n ∷ behind (Some n) (ring_of ends nodes)) × (has_node (ring_of ends nodes) n ≡ true)
behind-step ends nodes h place n stands-in e =
    let ns = ring_of ends nodes in
    let part = place-parted ns place stands-in in
    let once = ring-once ends nodes (part.0 ++ part.1) (subst (λ l. IsRing ends nodes l) part.2 h) in
    let rest : behind place ns ≡ part.1 = ap (behind place) part.2 ∙ ap (λ p. behind p (part.0 ++ part.1)) (sym part.3) ∙ behind-front part.0 part.1 once in
    let go : (ys : List ℕ) → Some n ≡ first_of ys → ns ≡ part.0 ++ ys → AreOnce None (part.0 ++ ys) → (ys ≡ n ∷ behind (Some n) ns) × (has_node ns n ≡ true) =
    λ ys. elim ys as (λ ys. Some n ≡ first_of ys → ns ≡ part.0 ++ ys → AreOnce None (part.0 ++ ys) → (ys ≡ n ∷ behind (Some n) ns) × (has_node ns n ≡ true)) [
      | [] ↦ λ e i once. absurd (cc e)
      | y ∷ ys ↦ λ e i once.
          let same : n ≡ y = cc in
          let is : ns ≡ part.0 ++ n ∷ ys = i ∙ ap (λ z. part.0 ++ z ∷ ys) (sym same) in
          let once' : AreOnce None (part.0 ++ n ∷ ys) = subst (λ z. AreOnce None (part.0 ++ z ∷ ys)) (sym same) once in
          let tail : behind_first (eqb n) ns ≡ ys = ap (behind_first (eqb n)) is ∙ behind-parted part.0 n ys (apart-front part.0 n ys once') in
          (ap (λ z. z ∷ ys) (sym same) ∙ ap (λ l. n ∷ l) (sym tail), ap (λ (l : List ℕ). has_node l n) is ∙ has-itself part.0 n ys)
    ] in
    let found = go part.1 (e ∙ ap first_of rest) part.2 once in
    (rest ∙ found.0, found.1)

-- the last node is removed
path-less : (next prev : Option ℕ → Option ℕ) (count less : ℕ) (start : Option ℕ) (xs : List ℕ) (end : Option ℕ) → ((k : ℕ) → Contains xs k → k < less)
    → IsPath next prev count start xs end → IsPath next prev less start xs end
path-less next prev count less start [] end le h = h
path-less next prev count less start (w ∷ xs) end le h =
    (h.0, h.1, le w (contains-head w xs), path-less next prev count less (Some w) xs end (λ k c. le k (contains-tail w xs k c)) h.3)

pub ring-popped : (ends : RingNode) (nodes less : List RingNode) (m : RingNode) (ns : List ℕ) → nodes ≡ less ++ m ∷ [] → IsRing ends nodes ns → ((k : ℕ) → Contains ns k → k < length less)
    → IsRing ends less ns
ring-popped ends nodes less m ns e h within =
    path-less (next_at ends less) (prev_at ends less) (length nodes) (length less) None ns None within
    (path-stays (next_at ends nodes) (prev_at ends nodes) (next_at ends less) (prev_at ends less) (length nodes) None ns None refl
    (λ k c. ap (λ (x : RingNode). x.next) (sym (ap (λ (l : List RingNode). get_or l k no_node) e ∙ get_or_append_left less (m ∷ []) no_node k (within k c))))
    (λ k c. ap (λ (x : RingNode). x.prev) (sym (ap (λ (l : List RingNode). get_or l k no_node) e ∙ get_or_append_left less (m ∷ []) no_node k (within k c)))) refl h)

module _ (ends : RingNode) (nodes less : List RingNode) (m : RingNode) (e : nodes ≡ less ++ m ∷ []) (h : IsRing ends nodes (ring_of ends nodes))
    (out : has_node (ring_of ends nodes) (length (kept_from (ring_of ends nodes) 0 nodes) - 1) ≡ false) where
  last-out : (k : ℕ) → Contains (ring_of ends nodes) k → k < length less
  last-out k c =
      let within = ring-within ends nodes (ring_of ends nodes) h k c in
      let len : length nodes ≡ length less + 1 = ap length e ∙ length-append less (m ∷ []) in
      let count : length (kept_from (ring_of ends nodes) 0 nodes) - 1 ≡ length less = omega (arith, len, kept-length (ring_of ends nodes) 0 nodes) in
      let not-last-node : k ≡ length less → ⊥ = λ i. hasn't (ring_of ends nodes) (length less) (ap (has_node (ring_of ends nodes)) (sym count) ∙ out) (subst (λ n. Contains (ring_of ends nodes) n) i c) in
      omega (arith, within, len, not-last-node)

  popped-ring : IsRing ends less (ring_of ends nodes)
  popped-ring = ring-popped ends nodes less m (ring_of ends nodes) e h last-out

  popped-is : ring_of ends less ≡ ring_of ends nodes
  popped-is = ring-is ends less (ring_of ends nodes) popped-ring

  pub row-popped : IsRing ends less (ring_of ends less)
  row-popped = subst (λ l. IsRing ends less l) (sym popped-is) popped-ring

  pub line-popped : (now : Line) → line (ring_of ends nodes) (kept_from (ring_of ends nodes) 0 nodes) ≡ with_node now → line (ring_of ends less) (kept_from (ring_of ends less) 0 less) ≡ now
  line-popped now i =
      let ns = ring_of ends nodes in
      let kept : kept_from ns 0 less ++ cond (has_node ns (0 + length less)) None (sides_of m) ∷ [] ≡ now.kept ++ sides_of no_node ∷ [] =
      sym (ap (kept_from ns 0) e ∙ kept-push ns 0 less m) ∙ ap (λ (v : Line). v.kept) i in
      ap (λ l. line l (kept_from l 0 less)) popped-is ∙ ap (λ l. line l (kept_from ns 0 less)) (ap (λ (v : Line). v.linked) i)
      ∙ ap (line now.linked) (front-same (kept_from ns 0 less) now.kept (cond (has_node ns (0 + length less)) None (sides_of m)) (sides_of no_node) kept)
    where
      front-same : {X : Type 0} (xs ys : List X) (x y : X) → xs ++ x ∷ [] ≡ ys ++ y ∷ [] → xs ≡ ys
      front-same [] [] x y h = refl
      front-same [] (w ∷ ys) x y h = absurd (no-front ys y cc)
        where
          no-front : {X : Type 0} (ys : List X) (y : X) → [] ≡ ys ++ y ∷ [] → ⊥
          no-front [] y h = cc h
          no-front (w ∷ ys) y h = cc h
      front-same (z ∷ xs) [] x y h = absurd (no-back xs x cc)
        where
          no-back : {X : Type 0} (ys : List X) (y : X) → ys ++ y ∷ [] ≡ [] → ⊥
          no-back [] y h = cc h
          no-back (w ∷ ys) y h = cc h
      front-same (z ∷ xs) (w ∷ ys) x y h = let i : z ≡ w = cc in ap (λ a. a ∷ xs) i ∙ ap (λ l. w ∷ l) (front-same xs ys x y cc)

-- where no node is removed, there is none
pub none-popped : (ends : RingNode) (nodes less : List RingNode) → nodes ≡ less ++ [] → length nodes ≡ 0 → IsRing ends nodes (ring_of ends nodes)
    → IsRing ends less (ring_of ends less) × ((now : Line) → line (ring_of ends nodes) (kept_from (ring_of ends nodes) 0 nodes) ≡ with_node now
    → line (ring_of ends less) (kept_from (ring_of ends less) 0 less) ≡ now)
none-popped ends nodes less e zero-long h =
    let same : nodes ≡ less = e ∙ append-nil less in (
      subst (λ (l : List RingNode). IsRing ends l (ring_of ends l)) same h,
      λ now i. absurd (too-long now (ap (λ (v : Line). length v.kept) i)),
    )
  where
    too-long : (now : Line) → length (kept_from (ring_of ends nodes) 0 nodes) ≡ length (now.kept ++ sides_of no_node ∷ []) → ⊥
    too-long now i = omega (arith, i, zero-long, kept-length (ring_of ends nodes) 0 nodes, length-append now.kept (sides_of no_node ∷ []))

-- the gap between the neighbours that a node keeps, as contracts see it
pub gap-kept : (view now : Line) → view ≡ now → (n : ℕ) → (may : MayReturn now n) → IsGap view n may.2.0 may.2.1
gap-kept view now is n may =
    let left : may.0 ≡ (last_of may.2.0, may.0.1) = ap (λ (l : Option ℕ). let s : Sides = (l, may.0.1) in s) (sym may.2.3) in
    let right : (last_of may.2.0, may.0.1) ≡ (last_of may.2.0, first_of may.2.1) = ap (λ (r : Option ℕ). let s : Sides = (last_of may.2.0, r) in s) (sym may.2.4) in
    (ap (λ (v : Line). v.linked) is ∙ may.2.2, ap (λ (v : Line). slice_get v.kept n) is ∙ may.1 ∙ ap (λ (s : Sides). Some (Some s)) (left ∙ right))

-- a place and its next node, as contracts see them
pub place-seen : (view now : Line) → view ≡ now → (place next : Option ℕ) → StandsIn now.linked place → next ≡ first_of (behind place now.linked)
    → StandsIn view.linked place × (next ≡ first_of (behind place view.linked))
place-seen view now is place next stands e = (
  subst (λ (v : Line). StandsIn v.linked place) (sym is) stands,
  e ∙ ap (λ (v : Line). first_of (behind place v.linked)) (sym is),
)
