-- A change of one chain leaves the others unchanged.
use Rattle.std.proofs.Common.{◌≡◌, ℕ, zero, suc, ◌+◌, ◌<◌, arith, length, eqb, eqb-true, eq-eqb, true, false, cond, List, [], ◌∷◌, ◌++◌, Option, Some, None, IfSome, IsTrue, refl, sym, ap, ◌∙◌, subst, inl, inr, ◌⊎◌, get_or, take, drop, append-nil}
use Rattle.std.specs.List.{Contains}
use Rattle.std.proofs.Math.ListN.{set}
use Rattle.std.proofs.Math.Seq.{ext_get_or}
use Rattle.std.proofs.lemmas.List.{length-set, get_or-set_same, get_or-set_other, get_or-map, get_or_append_left, length-append, map-append, length-map}
use Rattle.std.proofs.lemmas.Bool.{false≢true}
use Rattle.std.proofs.lemmas.List.{get_or_default}
use Rattle.common_laws.specs.Lists.{contains-head, contains-tail, contains-left, contains-right, contains-append, contains-none, contains-cases}
use Rattle.goal_links.specs.declared.ring.RingNode.{RingNode}
use Rattle.goal_links.specs.declared.chains.Cell.{Cell}
use Rattle.goal_links.specs.Beside.{last_of, first_of, behind_first}
use Rattle.goal_links.specs.Ring.{IsPath, IsRing, no_node, ring_of, next_at, prev_at, with_place, IsWithin}
use Rattle.goal_links.specs.Row.{has_node, without_node, behind}
use Rattle.goal_links.specs.Chains.{Chained, no_cell, cell_at, chain_at, chain_with, without_last, shortened, ends_at, chains_of, AreChains}
use Rattle.goal_links.proofs.Paths.{path-stays, path-last, path-first, not-last, not-first}
use Rattle.goal_links.proofs.Rings.{has-contains, ring-once, ring-within, ring-is}
use Rattle.goal_links.proofs.Nodes.{not-in, hasn't, contains-has, without-parted, apart-front, apart-back}
use Rattle.goal_links.proofs.Rows.{row-linked, row-unlinked, written, AreSame, same-elsewhere, gap-within, node-parted, sides-within, linked-next, ring-pushed}

-- the chain of an entry is the ring from its ends
pub chain-is : (ends nodes : List RingNode) (entry : ℕ) → entry < length ends → chain_at (chains_of ends nodes) entry ≡ ring_of (ends_at ends entry) nodes
chain-is ends nodes entry h = get_or-map (λ e. ring_of e nodes) ends entry no_node [] h

-- an entry that has a chain has ends
pub chain-fits : (ends nodes : List RingNode) (chains : List (List ℕ)) (entry : ℕ) → chains_of ends nodes ≡ chains → entry < length chains → entry < length ends
chain-fits ends nodes chains entry e h = omega (arith, h, ap length e, length-map ends (λ (x : RingNode). ring_of x nodes))

-- one chain changes, and the others' nodes don't
pub chain-changed : (ends nodes nodes2 : List RingNode) (cells : List Cell) (entry : ℕ) (end2 : RingNode) (ns2 : List ℕ) → AreChains ends nodes cells → entry < length ends
    → length nodes2 ≡ length nodes → IsRing end2 nodes2 (ring_of end2 nodes2) → ring_of end2 nodes2 ≡ ns2
    → ((k : ℕ) → Contains ns2 k → (cell_at cells k).entry ≡ entry)
    → ((k : ℕ) → ((cell_at cells k).entry ≡ entry → ⊥) → AreSame (get_or nodes2 k no_node) (get_or nodes k no_node))
    → AreChains (set ends entry end2) nodes2 cells × (chains_of (set ends entry end2) nodes2 ≡ set (chains_of ends nodes) entry ns2)
chain-changed ends nodes nodes2 cells entry end2 ns2 h within len ring is owned others =
    let ends2 = set ends entry end2 in
    let lens : length ends2 ≡ length ends = length-set ends entry end2 in
    let here : ends_at ends2 entry ≡ end2 = get_or-set_same ends entry end2 no_node within in
    let there : (e : ℕ) → (e ≡ entry → ⊥) → ends_at ends2 e ≡ ends_at ends e = λ e ne. get_or-set_other ends entry e end2 no_node ne in
    let stays : (e : ℕ) → e < length ends → (e ≡ entry → ⊥) → IsRing (ends_at ends e) nodes2 (ring_of (ends_at ends e) nodes) =
    λ e lt ne.
    let apart : (k : ℕ) → Contains (ring_of (ends_at ends e) nodes) k → (cell_at cells k).entry ≡ entry → ⊥ = λ k c i. ne (sym (h.owned e k lt c) ∙ i) in
    subst (λ (c : ℕ). IsPath (next_at (ends_at ends e) nodes2) (prev_at (ends_at ends e) nodes2) c None (ring_of (ends_at ends e) nodes) None) (sym len)
    (path-stays (next_at (ends_at ends e) nodes) (prev_at (ends_at ends e) nodes) (next_at (ends_at ends e) nodes2) (prev_at (ends_at ends e) nodes2) (length nodes)
    None (ring_of (ends_at ends e) nodes) None refl (λ k c. (others k (apart k c)).1) (λ k c. (others k (apart k c)).0) refl (h.rings e lt)) in
    let rings2 : (e : ℕ) → e < length ends → (e ≡ entry → ⊥) → ring_of (ends_at ends e) nodes2 ≡ ring_of (ends_at ends e) nodes =
    λ e lt ne. ring-is (ends_at ends e) nodes2 (ring_of (ends_at ends e) nodes) (stays e lt ne) in (
      record {
        paired = h.paired ∙ sym len;
        rings = λ e lt. elim (eqb e entry) as (λ b. eqb e entry ≡ b → IsRing (ends_at ends2 e) nodes2 (ring_of (ends_at ends2 e) nodes2)) [
          | true ↦ λ i. subst (λ (x : RingNode). IsRing x nodes2 (ring_of x nodes2)) (sym (ap (ends_at ends2) (eqb-true e entry i) ∙ here)) ring
          | false ↦ λ i.
              let ne : e ≡ entry → ⊥ = λ j. false≢true (sym i ∙ eq-eqb e entry j) in
              let lt2 : e < length ends = omega (arith, lt, lens) in
              subst (λ (x : RingNode). IsRing x nodes2 (ring_of x nodes2)) (sym (there e ne))
              (subst (λ l. IsRing (ends_at ends e) nodes2 l) (sym (rings2 e lt2 ne)) (stays e lt2 ne))
        ] refl;
        owned = λ e k lt c. elim (eqb e entry) as (λ b. eqb e entry ≡ b → (cell_at cells k).entry ≡ e) [
          | true ↦ λ i. let j = eqb-true e entry i in owned k (subst (λ l. Contains l k) (ap (λ (x : RingNode). ring_of x nodes2) (ap (ends_at ends2) j ∙ here) ∙ is) c) ∙ sym j
          | false ↦ λ i.
              let ne : e ≡ entry → ⊥ = λ j. false≢true (sym i ∙ eq-eqb e entry j) in
              let lt2 : e < length ends = omega (arith, lt, lens) in
              h.owned e k lt2 (subst (λ l. Contains l k) (ap (λ (x : RingNode). ring_of x nodes2) (there e ne) ∙ rings2 e lt2 ne) c)
        ] refl;
        entries = λ k lt. let old = h.entries k lt in omega (arith, old, lens);
      },
      ext_get_or [] (chains_of ends2 nodes2) (set (chains_of ends nodes) entry ns2)
          (length-map ends2 (λ e. ring_of e nodes2) ∙ lens ∙ sym (length-set (chains_of ends nodes) entry ns2 ∙ length-map ends (λ e. ring_of e nodes)))
          (λ e lt.
          let in2 : e < length ends2 = omega (arith, lt, length-map ends2 (λ e. ring_of e nodes2)) in
          let in1 : e < length ends = omega (arith, in2, lens) in
          get_or-map (λ e. ring_of e nodes2) ends2 e no_node [] in2
          ∙ elim (eqb e entry) as (λ b. eqb e entry ≡ b → ring_of (ends_at ends2 e) nodes2 ≡ get_or (set (chains_of ends nodes) entry ns2) e []) [
            | true ↦ λ i.
                let j = eqb-true e entry i in
                let fits : entry < length (chains_of ends nodes) = omega (arith, within, length-map ends (λ e. ring_of e nodes)) in
                ap (λ (x : RingNode). ring_of x nodes2) (ap (ends_at ends2) j ∙ here) ∙ is
                ∙ sym (get_or-set_same (chains_of ends nodes) entry ns2 [] fits) ∙ ap (λ m. get_or (set (chains_of ends nodes) entry ns2) m []) (sym j)
            | false ↦ λ i.
                let ne : e ≡ entry → ⊥ = λ j. false≢true (sym i ∙ eq-eqb e entry j) in
                ap (λ (x : RingNode). ring_of x nodes2) (there e ne) ∙ rings2 e in1 ne
                ∙ sym (get_or-set_other (chains_of ends nodes) entry e ns2 [] ne ∙ get_or-map (λ e. ring_of e nodes) ends e no_node [] in1)
          ] refl),
    )

-- the ends and nodes with one more entry

alone-ring : (nodes : List RingNode) → ring_of no_node nodes ≡ []
alone-ring nodes = ring-is no_node nodes [] (refl, refl)

at-push : {X : Type 0} (xs : List X) (x : X) (k : ℕ) (d : X) → k < length (xs ++ x ∷ []) → ((k < length xs) × (get_or (xs ++ x ∷ []) k d ≡ get_or xs k d)) ⊎ ((k ≡ length xs) × (get_or (xs ++ x ∷ []) k d ≡ x))
at-push [] x zero d h = inr (refl, refl)
at-push [] x (suc k) d h = absurd (omega (arith, h))
at-push (y ∷ xs) x zero d h = inl (omega arith, refl)
at-push (y ∷ xs) x (suc k) d h =
    elim (at-push xs x k d (omega (arith, h))) [
      | inl p ↦ inl (omega (arith, p.0), p.1)
      | inr p ↦ inr (ap suc p.0, p.1)
    ]

pub entry-pushed : (ends ends2 nodes : List RingNode) (cells : List Cell) → ends2 ≡ ends ++ no_node ∷ [] → AreChains ends nodes cells
    → AreChains ends2 nodes cells × (chains_of ends2 nodes ≡ chains_of ends nodes ++ [] ∷ [])
entry-pushed ends ends2 nodes cells e h = (
  subst (λ (l : List RingNode). AreChains l nodes cells) (sym e) (record {
    paired = h.paired;
    rings = λ n lt. elim (at-push ends no_node n no_node lt) [
      | inl p ↦ subst (λ (x : RingNode). IsRing x nodes (ring_of x nodes)) (sym p.1) (h.rings n p.0)
      | inr p ↦ subst (λ (x : RingNode). IsRing x nodes (ring_of x nodes)) (sym p.1) (subst (λ l. IsRing no_node nodes l) (sym (alone-ring nodes)) (refl, refl))
    ];
    owned = λ n k lt c. elim (at-push ends no_node n no_node lt) [
      | inl p ↦ h.owned n k p.0 (subst (λ (x : RingNode). Contains (ring_of x nodes) k) p.1 c)
      | inr p ↦ absurd (contains-none k (subst (λ l. Contains l k) (alone-ring nodes) (subst (λ (x : RingNode). Contains (ring_of x nodes) k) p.1 c)))
    ];
    entries = λ k lt. let old = h.entries k lt in omega (arith, old, length-append ends (no_node ∷ []));
  }),
  ap (λ (l : List RingNode). chains_of l nodes) e ∙ map-append (λ e. ring_of e nodes) ends (no_node ∷ [])
      ∙ ap (λ l. chains_of ends nodes ++ l ∷ []) (alone-ring nodes),
)

chains-same : (ends nodes nodes2 : List RingNode) → ((n : ℕ) → n < length ends → ring_of (ends_at ends n) nodes2 ≡ ring_of (ends_at ends n) nodes) → chains_of ends nodes2 ≡ chains_of ends nodes
chains-same [] nodes nodes2 h = refl
chains-same (e ∷ ends) nodes nodes2 h =
    ap (λ l. l ∷ chains_of ends nodes2) (h 0 (omega arith)) ∙ ap (λ l. ring_of e nodes ∷ l) (chains-same ends nodes nodes2 (λ n lt. h (suc n) (omega (arith, lt))))

pub cell-pushed : (ends nodes nodes2 : List RingNode) (cells cells2 : List Cell) (cell : Cell) → nodes2 ≡ nodes ++ no_node ∷ [] → cells2 ≡ cells ++ cell ∷ []
    → cell.entry < length ends → AreChains ends nodes cells → AreChains ends nodes2 cells2 × (chains_of ends nodes2 ≡ chains_of ends nodes)
cell-pushed ends nodes nodes2 cells cells2 cell e f fits h =
    let pushed = nodes ++ no_node ∷ [] in
    let stays : (n : ℕ) → n < length ends → IsRing (ends_at ends n) pushed (ring_of (ends_at ends n) nodes) =
    λ n lt. ring-pushed (ends_at ends n) nodes no_node (ring_of (ends_at ends n) nodes) (h.rings n lt) in
    let same : (n : ℕ) → n < length ends → ring_of (ends_at ends n) pushed ≡ ring_of (ends_at ends n) nodes =
    λ n lt. ring-is (ends_at ends n) pushed (ring_of (ends_at ends n) nodes) (stays n lt) in (
      subst (λ (l : List RingNode). AreChains ends l cells2) (sym e) (subst (λ (l : List Cell). AreChains ends pushed l) (sym f) (record {
        paired = length-append cells (cell ∷ []) ∙ ap (λ n. n + 1) h.paired ∙ sym (length-append nodes (no_node ∷ []));
        rings = λ n lt. subst (λ l. IsRing (ends_at ends n) pushed l) (sym (same n lt)) (stays n lt);
        owned = λ n k lt c.
            let old : Contains (ring_of (ends_at ends n) nodes) k = subst (λ l. Contains l k) (same n lt) c in
            let in-nodes = ring-within (ends_at ends n) nodes (ring_of (ends_at ends n) nodes) (h.rings n lt) k old in
            ap (λ (x : Cell). x.entry) (get_or_append_left cells (cell ∷ []) no_cell k (omega (arith, in-nodes, h.paired))) ∙ h.owned n k lt old;
        entries = λ k lt. elim (at-push cells cell k no_cell lt) [
          | inl p ↦ subst (λ (x : Cell). x.entry < length ends) (sym p.1) (h.entries k p.0)
          | inr p ↦ subst (λ (x : Cell). x.entry < length ends) (sym p.1) fits
        ];
      })),
      ap (chains_of ends) e ∙ chains-same ends nodes pushed same,
    )

-- a cell in no chain is replaced
pub cell-set : (ends nodes : List RingNode) (cells : List Cell) (place : ℕ) (cell : Cell) → AreChains ends nodes cells → place < length cells → cell.entry < length ends
    → has_node (chain_at (chains_of ends nodes) (cell_at cells place).entry) place ≡ false → AreChains ends nodes (set cells place cell)
cell-set ends nodes cells place cell h within fits out = record {
  paired = length-set cells place cell ∙ h.paired;
  rings = h.rings;
  owned = λ n k lt c.
      let apart : k ≡ place → ⊥ = λ i.
      let here : Contains (ring_of (ends_at ends n) nodes) place = subst (λ j. Contains (ring_of (ends_at ends n) nodes) j) i c in
      let own : (cell_at cells place).entry ≡ n = h.owned n place lt here in
      hasn't (ring_of (ends_at ends n) nodes) place
      (ap (λ (l : List ℕ). has_node l place) (sym (chain-is ends nodes n lt)) ∙ ap (λ j. has_node (chain_at (chains_of ends nodes) j) place) (sym own) ∙ out) here in
      ap (λ (x : Cell). x.entry) (get_or-set_other cells place k cell no_cell apart) ∙ h.owned n k lt c;
  entries = λ k lt. elim (eqb k place) as (λ b. eqb k place ≡ b → (cell_at (set cells place cell) k).entry < length ends) [
    | true ↦ λ e.
        let is : cell_at (set cells place cell) k ≡ cell = ap (cell_at (set cells place cell)) (eqb-true k place e) ∙ get_or-set_same cells place cell no_cell within in
        subst (λ (x : Cell). x.entry < length ends) (sym is) fits
    | false ↦ λ e.
        let is : cell_at (set cells place cell) k ≡ cell_at cells k = get_or-set_other cells place k cell no_cell (λ j. false≢true (sym e ∙ eq-eqb k place j)) in
        subst (λ (x : Cell). x.entry < length ends) (sym is) (h.entries k (omega (arith, lt, length-set cells place cell)))
  ] refl;
}

abbrev pub chained : List Cell → List (List ℕ) → Chained
chained cells chains = record { cells = cells; chains = chains }

pub chained-is : (cells cells2 : List Cell) (chains chains2 : List (List ℕ)) → cells ≡ cells2 → chains ≡ chains2 → chained cells chains ≡ chained cells2 chains2
chained-is cells cells2 chains chains2 e f =
    let first : chained cells chains ≡ chained cells2 chains = ap (λ c. chained c chains) e in
    first ∙ ap (chained cells2) f

module _ (ends nodes : List RingNode) (cells : List Cell) (h : AreChains ends nodes cells) (entry : ℕ) (fits : entry < length ends) where
  pub chain-first : (ends_at ends entry).next ≡ first_of (chain_at (chains_of ends nodes) entry)
  chain-first =
      path-first (next_at (ends_at ends entry) nodes) (prev_at (ends_at ends entry) nodes) (length nodes) None (ring_of (ends_at ends entry) nodes) None (h.rings entry fits)
      ∙ ap first_of (sym (chain-is ends nodes entry fits))

  pub chain-within : (o : Option ℕ) → ((xs : List ℕ) (ys : List ℕ) → ring_of (ends_at ends entry) nodes ≡ xs ++ ys → IsWithin (length nodes) o) → IfSome o (λ n. n < length cells)
  chain-within None f = tt
  chain-within (Some n) f = let k = f [] (ring_of (ends_at ends entry) nodes) refl in omega (arith, k, h.paired)

  -- the ends of a chain and the next of a cell are cells
  pub first-within : IfSome ((ends_at ends entry).next) (λ n. n < length cells)
  first-within =
      let gap = gap-within (ends_at ends entry) nodes (h.rings entry fits) [] (ring_of (ends_at ends entry) nodes) refl in
      chain-within ((ends_at ends entry).next) (λ xs ys e. subst (IsWithin (length nodes))
      (sym (path-first (next_at (ends_at ends entry) nodes) (prev_at (ends_at ends entry) nodes) (length nodes) None (ring_of (ends_at ends entry) nodes) None (h.rings entry fits))) gap.1)

  module _ (cell : ℕ) (in' : has_node (chain_at (chains_of ends nodes) entry) cell ≡ true) where
    in-ring : has_node (ring_of (ends_at ends entry) nodes) cell ≡ true
    in-ring = subst (λ l. has_node l cell ≡ true) (chain-is ends nodes entry fits) in'

    pub cell-within : cell < length nodes
    cell-within = ring-within (ends_at ends entry) nodes (ring_of (ends_at ends entry) nodes) (h.rings entry fits) cell (has-contains (ring_of (ends_at ends entry) nodes) cell in-ring)

    pub cell-next : (get_or nodes cell no_node).next ≡ first_of (behind (Some cell) (chain_at (chains_of ends nodes) entry))
    cell-next =
        linked-next (ends_at ends entry) nodes (ring_of (ends_at ends entry) nodes) (h.rings entry fits) cell in-ring
        ∙ ap (λ (l : List ℕ). first_of (behind (Some cell) l)) (sym (chain-is ends nodes entry fits))

    pub next-within : IfSome ((get_or nodes cell no_node).next) (λ n. n < length cells)
    next-within = chain-within ((get_or nodes cell no_node).next) (λ xs ys e. (sides-within (ends_at ends entry) nodes (h.rings entry fits) cell in-ring).1)

-- a list with a last item
pub last-parted : (xs : List ℕ) (n : ℕ) → last_of xs ≡ Some n → xs ≡ without_last xs ++ n ∷ []
last-parted [] n h = absurd (cc h)
last-parted (x ∷ []) n h = ap (λ z. z ∷ []) cc
last-parted (x ∷ y ∷ xs) n h = ap (λ l. x ∷ l) (last-parted (y ∷ xs) n h)

pub without-last : (xs : List ℕ) (n : ℕ) → without_last (xs ++ n ∷ []) ≡ xs
without-last [] n = refl
without-last (x ∷ []) n = refl
without-last (x ∷ y ∷ xs) n = ap (λ l. x ∷ l) (without-last (y ∷ xs) n)

-- a cell is appended to its chain, or removed from its end
module _ (ends nodes : List RingNode) (cells : List Cell) (h : AreChains ends nodes cells) (cell entry : ℕ) (fits : cell < length cells) (e : entry ≡ (cell_at cells cell).entry) where
  pub entry-fits : entry < length ends
  entry-fits = subst (λ n. n < length ends) (sym e) (h.entries cell fits)

  chain-ring : IsRing (ends_at ends entry) nodes (ring_of (ends_at ends entry) nodes)
  chain-ring = h.rings entry entry-fits

  chain-owned : (k : ℕ) → Contains (ring_of (ends_at ends entry) nodes) k → (cell_at cells k).entry ≡ entry
  chain-owned k c = h.owned entry k entry-fits c

  last-is : (ends_at ends entry).prev ≡ last_of (ring_of (ends_at ends entry) nodes)
  last-is = path-last (next_at (ends_at ends entry) nodes) (prev_at (ends_at ends entry) nodes) (length nodes) None (ring_of (ends_at ends entry) nodes) None chain-ring

  module _ (prev : Option ℕ) (prev-is : prev ≡ (ends_at ends entry).prev) (mid : List RingNode) (mid-is : mid ≡ set nodes cell (record { prev = prev; next = None })) (end : RingNode) (end-is : end ≡ ends_at ends entry) where
    mid-at : get_or mid cell no_node ≡ record { prev = prev; next = None }
    mid-at = ap (λ (l : List RingNode). get_or l cell no_node) mid-is ∙ get_or-set_same nodes cell (record { prev = prev; next = None }) no_node (omega (arith, fits, h.paired))

    mid-other : (k : ℕ) → (k ≡ cell → ⊥) → get_or mid k no_node ≡ get_or nodes k no_node
    mid-other k ne = ap (λ (l : List RingNode). get_or l k no_node) mid-is ∙ get_or-set_other nodes cell k (record { prev = prev; next = None }) no_node ne

    mid-length : length mid ≡ length nodes
    mid-length = ap length mid-is ∙ length-set nodes cell (record { prev = prev; next = None })

    pub appended-prev : IsWithin (length mid) (prev_at end mid (Some cell))
    appended-prev =
        let gap = gap-within (ends_at ends entry) nodes chain-ring (ring_of (ends_at ends entry) nodes) [] (sym (append-nil (ring_of (ends_at ends entry) nodes))) in
        subst (λ (c : ℕ). IsWithin c (prev_at end mid (Some cell))) (sym mid-length)
        (subst (IsWithin (length nodes)) (sym (ap (λ (x : RingNode). x.prev) mid-at ∙ prev-is ∙ last-is)) gap.0)

    pub appended-chains : (end2 : RingNode) (new old : List RingNode) (len : ℕ) → has_node (chain_at (chains_of ends nodes) entry) cell ≡ false
        → ((at : Option ℕ) → next_at end2 new at ≡ with_place (prev_at end mid (Some cell)) (Some cell) (next_at end mid) at)
        → ((at : Option ℕ) → prev_at end2 new at ≡ with_place (next_at end mid (Some cell)) (Some cell) (prev_at end mid) at)
        → length new ≡ length mid → len ≡ length nodes
        → AreChains (set ends entry end2) (take len (new ++ drop (length new) old)) cells
        × (chains_of (set ends entry end2) (take len (new ++ drop (length new) old)) ≡ set (chains_of ends nodes) entry (chain_at (chains_of ends nodes) entry ++ cell ∷ []))
    appended-chains end2 new old len outside on back same all =
        let ns = ring_of (ends_at ends entry) nodes in
        let end' = ends_at ends entry in
        let is : chain_at (chains_of ends nodes) entry ≡ ns = chain-is ends nodes entry entry-fits in
        let out : has_node ns cell ≡ false = ap (λ (l : List ℕ). has_node l cell) (sym is) ∙ outside in
        let on' : (at : Option ℕ) → next_at end2 new at ≡ with_place (prev_at end' mid (Some cell)) (Some cell) (next_at end' mid) at =
        λ at. on at ∙ ap (λ (x : RingNode). with_place (prev_at x mid (Some cell)) (Some cell) (next_at x mid) at) end-is in
        let back' : (at : Option ℕ) → prev_at end2 new at ≡ with_place (next_at end' mid (Some cell)) (Some cell) (prev_at end' mid) at =
        λ at. back at ∙ ap (λ (x : RingNode). with_place (next_at x mid (Some cell)) (Some cell) (prev_at x mid) at) end-is in
        let p : prev_at end' mid (Some cell) ≡ last_of ns = ap (λ (x : RingNode). x.prev) mid-at ∙ prev-is ∙ last-is in
        let q : next_at end' mid (Some cell) ≡ None = ap (λ (x : RingNode). x.next) mid-at in
        let row = row-linked end' end2 nodes mid new cell ns [] mid-length (same ∙ mid-length) mid-other chain-ring (sym (append-nil ns)) out
        (omega (arith, fits, h.paired)) p q on' back' in
        let changed = chain-changed ends nodes new cells entry end2 (ns ++ cell ∷ []) h entry-fits (same ∙ mid-length) row.0 row.1
        (λ k c. elim (contains-append ns (cell ∷ []) k c) [
          | inl a ↦ chain-owned k a
          | inr b ↦ elim (contains-cases cell [] k b) [ inl i ↦ ap (λ n. (cell_at cells n).entry) (sym i) ∙ sym e | inr none ↦ absurd (contains-none k none) ]
        ])
        (λ k ne.
        let other : k ≡ cell → ⊥ = λ i. ne (ap (λ n. (cell_at cells n).entry) i ∙ sym e) in (
          back' (Some k) ∙ same-elsewhere (next_at end' mid (Some cell)) (Some cell) (prev_at end' mid) k (λ i. let no : None ≡ Some k = sym q ∙ i in cc no) ∙ ap (λ (x : RingNode). x.prev) (mid-other k other),
          on' (Some k) ∙ same-elsewhere (prev_at end' mid (Some cell)) (Some cell) (next_at end' mid) k (λ i. not-last ns k (λ c. ne (chain-owned k c)) (sym p ∙ i)) ∙ ap (λ (x : RingNode). x.next) (mid-other k other),
        )) in
        subst (λ (l : List RingNode). AreChains (set ends entry end2) l cells × (chains_of (set ends entry end2) l ≡ set (chains_of ends nodes) entry (chain_at (chains_of ends nodes) entry ++ cell ∷ [])))
        (sym (written len new old (same ∙ mid-length ∙ sym all)))
        (changed.0, changed.1 ∙ ap (λ (l : List ℕ). set (chains_of ends nodes) entry (l ++ cell ∷ [])) (sym is))

  module _ (last : last_of (chain_at (chains_of ends nodes) entry) ≡ Some cell) (mid : List RingNode) (mid-is : mid ≡ nodes) (end : RingNode) (end-is : end ≡ ends_at ends entry) where
    ring-parted : ring_of (ends_at ends entry) nodes ≡ without_last (ring_of (ends_at ends entry) nodes) ++ cell ∷ []
    ring-parted = last-parted (ring_of (ends_at ends entry) nodes) cell (ap last_of (sym (chain-is ends nodes entry entry-fits)) ∙ last)

    in-chain : has_node (ring_of (ends_at ends entry) nodes) cell ≡ true
    in-chain = contains-has (ring_of (ends_at ends entry) nodes) cell
        (subst (λ l. Contains l cell) (sym ring-parted) (contains-right (without_last (ring_of (ends_at ends entry) nodes)) (cell ∷ []) cell (contains-head cell [])))

    pub shortened-prev : IsWithin (length mid) (prev_at end mid (Some cell))
    shortened-prev = subst (λ (l : List RingNode). IsWithin (length l) (prev_at end l (Some cell))) (sym mid-is) ((sides-within (ends_at ends entry) nodes chain-ring cell in-chain).0)

    pub shortened-next : IsWithin (length mid) (next_at end mid (Some cell))
    shortened-next = subst (λ (l : List RingNode). IsWithin (length l) (next_at end l (Some cell))) (sym mid-is) ((sides-within (ends_at ends entry) nodes chain-ring cell in-chain).1)

    pub shortened-chains : (end2 : RingNode) (new old : List RingNode) (len : ℕ)
        → ((at : Option ℕ) → next_at end2 new at ≡ with_place (prev_at end mid (Some cell)) (next_at end mid (Some cell)) (next_at end mid) at)
        → ((at : Option ℕ) → prev_at end2 new at ≡ with_place (next_at end mid (Some cell)) (prev_at end mid (Some cell)) (prev_at end mid) at)
        → length new ≡ length mid → len ≡ length nodes
        → AreChains (set ends entry end2) (take len (new ++ drop (length new) old)) cells
        × (chains_of (set ends entry end2) (take len (new ++ drop (length new) old)) ≡ set (chains_of ends nodes) entry (without_last (chain_at (chains_of ends nodes) entry)))
    shortened-chains end2 new old len on back same all =
        let ns = ring_of (ends_at ends entry) nodes in
        let front = without_last ns in
        let end' = ends_at ends entry in
        let lens : length new ≡ length nodes = same ∙ ap length mid-is in
        let on' : (at : Option ℕ) → next_at end2 new at ≡ with_place (prev_at end' nodes (Some cell)) (next_at end' nodes (Some cell)) (next_at end' nodes) at =
        λ at. on at ∙ ap (λ (x : RingNode). with_place (prev_at x mid (Some cell)) (next_at x mid (Some cell)) (next_at x mid) at) end-is
        ∙ ap (λ (l : List RingNode). with_place (prev_at end' l (Some cell)) (next_at end' l (Some cell)) (next_at end' l) at) mid-is in
        let back' : (at : Option ℕ) → prev_at end2 new at ≡ with_place (next_at end' nodes (Some cell)) (prev_at end' nodes (Some cell)) (prev_at end' nodes) at =
        λ at. back at ∙ ap (λ (x : RingNode). with_place (next_at x mid (Some cell)) (prev_at x mid (Some cell)) (prev_at x mid) at) end-is
        ∙ ap (λ (l : List RingNode). with_place (next_at end' l (Some cell)) (prev_at end' l (Some cell)) (prev_at end' l) at) mid-is in
        let part = node-parted end' nodes chain-ring cell in-chain in
        let whole : IsRing end' nodes (front ++ cell ∷ []) = subst (λ l. IsRing end' nodes l) ring-parted chain-ring in
        let once = ring-once end' nodes (front ++ cell ∷ []) whole in
        let row = row-unlinked end' end2 nodes new lens cell chain-ring in-chain on' back' in
        let left : without_node cell ns ≡ front =
        ap (without_node cell) ring-parted ∙ without-parted front cell [] (apart-front front cell [] once) (apart-back front cell [] once) ∙ append-nil front in
        let in-ns : (xs ys : List ℕ) (k : ℕ) → ns ≡ xs ++ ys → Contains (xs ++ ys) k → (cell_at cells k).entry ≡ entry =
        λ xs ys k i c. chain-owned k (subst (λ l. Contains l k) (sym i) c) in
        let changed = chain-changed ends nodes new cells entry end2 front h entry-fits lens row.0 (row.1 ∙ left)
        (λ k c. in-ns front (cell ∷ []) k ring-parted (contains-left front (cell ∷ []) k c))
        (λ k ne. (
          back' (Some k) ∙ same-elsewhere (next_at end' nodes (Some cell)) (prev_at end' nodes (Some cell)) (prev_at end' nodes) k
              (λ i. not-first part.1 k (λ c. ne (in-ns part.0 (cell ∷ part.1) k part.2 (contains-right part.0 (cell ∷ part.1) k (contains-tail cell part.1 k c)))) (sym part.4 ∙ i)),
          on' (Some k) ∙ same-elsewhere (prev_at end' nodes (Some cell)) (next_at end' nodes (Some cell)) (next_at end' nodes) k
              (λ i. not-last part.0 k (λ c. ne (in-ns part.0 (cell ∷ part.1) k part.2 (contains-left part.0 (cell ∷ part.1) k c))) (sym part.3 ∙ i)),
        )) in
        subst (λ (l : List RingNode). AreChains (set ends entry end2) l cells × (chains_of (set ends entry end2) l ≡ set (chains_of ends nodes) entry (without_last (chain_at (chains_of ends nodes) entry))))
        (sym (written len new old (lens ∙ sym all)))
        (changed.0, changed.1 ∙ ap (λ (l : List ℕ). set (chains_of ends nodes) entry (without_last l)) (sym (chain-is ends nodes entry entry-fits)))

-- a cell of a chain is in the chain of its entry
pub in-own-chain : (ends nodes : List RingNode) (cells : List Cell) → AreChains ends nodes cells → (entry : ℕ) → entry < length ends → (now : Chained)
    → chained cells (chains_of ends nodes) ≡ now → (o : Option ℕ) → IfSome o (λ n. Contains (ring_of (ends_at ends entry) nodes) n)
    → IfSome o (λ n. IsTrue (has_node (chain_with now n) n))
in-own-chain ends nodes cells h entry fits now is None c = tt
in-own-chain ends nodes cells h entry fits now is (Some n) c =
    ap (λ (v : Chained). has_node (chain_with v n) n) (sym is) ∙ ap (λ e. has_node (chain_at (chains_of ends nodes) e) n) (h.owned entry n fits c)
    ∙ ap (λ (l : List ℕ). has_node l n) (chain-is ends nodes entry fits) ∙ contains-has (ring_of (ends_at ends entry) nodes) n c

pub first-in : (o : Option ℕ) (ns : List ℕ) → o ≡ first_of ns → IfSome o (λ n. Contains ns n)
first-in None ns e = tt
first-in (Some n) [] e = absurd (cc e)
first-in (Some n) (m ∷ ns) e = let same : n ≡ m = cc in subst (λ k. Contains (m ∷ ns) k) (sym same) (contains-head m ns)

pub behind-in : (ns : List ℕ) (m n : ℕ) → Contains (behind_first (eqb m) ns) n → Contains ns n
behind-in [] m n c = c
behind-in (k ∷ ns) m n c =
    elim (eqb m k) as (λ b. Contains (cond b ns (behind_first (eqb m) ns)) n → Contains (k ∷ ns) n) [
      | true ↦ λ d. contains-tail k ns n d
      | false ↦ λ d. contains-tail k ns n (behind-in ns m n d)
    ] c

pub some-more : (o : Option ℕ) (P Q : ℕ → Type 0) → ((n : ℕ) → P n → Q n) → IfSome o P → IfSome o Q
some-more None P Q f h = tt
some-more (Some n) P Q f h = f n h

pub cell-owner : (ends nodes : List RingNode) (cells : List Cell) → AreChains ends nodes cells → (entry : ℕ) → entry < length ends → (now : Chained)
    → chained cells (chains_of ends nodes) ≡ now → (o : Option ℕ) → IfSome o (λ n. Contains (ring_of (ends_at ends entry) nodes) n)
    → IfSome o (λ n. (cell_at now.cells n).entry ≡ entry)
cell-owner ends nodes cells h entry fits now is None c = tt
cell-owner ends nodes cells h entry fits now is (Some n) c = ap (λ (v : Chained). (cell_at v.cells n).entry) (sym is) ∙ h.owned entry n fits c

-- the cell, if there is one, is in the chain of this entry
pub record Tells (now : Chained) (entry : ℕ) (o : Option ℕ) : Type 0 where
  pub within : IfSome o (λ n. n < length now.cells)
  pub linked : IfSome o (λ n. IsTrue (has_node (chain_with now n) n))
  pub owner : IfSome o (λ n. (cell_at now.cells n).entry ≡ entry)

module _ (ends nodes : List RingNode) (cells : List Cell) (h : AreChains ends nodes cells) (now : Chained) (is : chained cells (chains_of ends nodes) ≡ now) where
  tells : (entry : ℕ) → entry < length ends → (o : Option ℕ) → IfSome o (λ n. n < length cells) → IfSome o (λ n. Contains (ring_of (ends_at ends entry) nodes) n) → Tells now entry o
  tells entry fits o within inside = record {
    within = subst (λ (v : Chained). IfSome o (λ n. n < length v.cells)) is within;
    linked = in-own-chain ends nodes cells h entry fits now is o inside;
    owner = cell-owner ends nodes cells h entry fits now is o inside;
  }

  -- the ends of a chain
  module _ (entry : ℕ) (has : entry < length now.chains) (end : RingNode) (end-is : end ≡ get_or ends entry end) where
    end-fits : entry < length ends
    end-fits = chain-fits ends nodes now.chains entry (ap (λ (v : Chained). v.chains) is) has

    end-at : end ≡ ends_at ends entry
    end-at = end-is ∙ get_or_default ends entry end no_node end-fits

    pub first-tells : Tells now entry end.next
    first-tells =
        let told = ap (λ (n : RingNode). n.next) end-at in
        tells entry end-fits end.next (subst (λ (o : Option ℕ). IfSome o (λ n. n < length cells)) (sym told) (first-within ends nodes cells h entry end-fits))
        (first-in end.next (ring_of (ends_at ends entry) nodes) (told ∙ chain-first ends nodes cells h entry end-fits ∙ ap first_of (chain-is ends nodes entry end-fits)))

  module _ (cell : ℕ) (has : cell < length now.cells) where
    cell-fits : cell < length cells
    cell-fits = omega (arith, has, ap (λ (v : Chained). length v.cells) is)

    -- the cell behind one that is linked
    module _ (linked : has_node (chain_with now cell) cell ≡ true) (node : RingNode) (node-is : node ≡ get_or nodes cell node) where
      abbrev own : ℕ
      own = (cell_at cells cell).entry

      own-fits : own < length ends
      own-fits = h.entries cell cell-fits

      in-own : has_node (chain_at (chains_of ends nodes) own) cell ≡ true
      in-own = ap (λ (v : Chained). has_node (chain_with v cell) cell) is ∙ linked

      node-at : node ≡ get_or nodes cell no_node
      node-at = node-is ∙ get_or_default nodes cell node no_node (cell-within ends nodes cells h own own-fits cell in-own)

      pub next-told : node.next ≡ first_of (behind (Some cell) (chain_with now cell))
      next-told =
          ap (λ (n : RingNode). n.next) node-at ∙ cell-next ends nodes cells h own own-fits cell in-own
          ∙ ap (λ (v : Chained). first_of (behind (Some cell) (chain_with v cell))) is

      pub next-tells : Tells now (cell_at now.cells cell).entry node.next
      next-tells =
          let told = ap (λ (n : RingNode). n.next) node-at in
          let ring = ring_of (ends_at ends own) nodes in
          subst (λ (v : Chained). Tells now (cell_at v.cells cell).entry node.next) is
          (tells own own-fits node.next (subst (λ (o : Option ℕ). IfSome o (λ n. n < length cells)) (sym told) (next-within ends nodes cells h own own-fits cell in-own))
          (some-more node.next (λ n. Contains (behind (Some cell) ring) n) (λ n. Contains ring n) (λ n d. behind-in ring cell n d)
          (first-in node.next (behind (Some cell) ring)
          (told ∙ cell-next ends nodes cells h own own-fits cell in-own ∙ ap (λ (l : List ℕ). first_of (behind (Some cell) l)) (chain-is ends nodes own own-fits)))))

    -- the last cell is removed from its chain
    module _ (last : last_of (chain_with now cell) ≡ Some cell) (row : Cell) (row-is : row ≡ get_or cells cell row) (mid : List RingNode) (mid-is : mid ≡ nodes)
        (end : RingNode) (end-is : end ≡ get_or ends row.entry end) where
      row-entry : row.entry ≡ (cell_at cells cell).entry
      row-entry = ap (λ (x : Cell). x.entry) (row-is ∙ get_or_default cells cell row no_cell cell-fits)

      row-end : end ≡ ends_at ends row.entry
      row-end = end-is ∙ get_or_default ends row.entry end no_node (entry-fits ends nodes cells h cell row.entry cell-fits row-entry)

      row-last : last_of (chain_at (chains_of ends nodes) row.entry) ≡ Some cell
      row-last = ap (λ n. last_of (chain_at (chains_of ends nodes) n)) row-entry ∙ ap (λ (v : Chained). last_of (chain_with v cell)) is ∙ last

      pub off-prev : IsWithin (length mid) (prev_at end mid (Some cell))
      off-prev = shortened-prev ends nodes cells h cell row.entry cell-fits row-entry row-last mid mid-is end row-end

      pub off-next : IsWithin (length mid) (next_at end mid (Some cell))
      off-next = shortened-next ends nodes cells h cell row.entry cell-fits row-entry row-last mid mid-is end row-end

      pub off-chains : (end2 : RingNode) (new old : List RingNode) (len : ℕ)
          → ((at : Option ℕ) → next_at end2 new at ≡ with_place (prev_at end mid (Some cell)) (next_at end mid (Some cell)) (next_at end mid) at)
          → ((at : Option ℕ) → prev_at end2 new at ≡ with_place (next_at end mid (Some cell)) (prev_at end mid (Some cell)) (prev_at end mid) at)
          → length new ≡ length mid → len ≡ length nodes
          → AreChains (set ends row.entry end2) (take len (new ++ drop (length new) old)) cells
          × (chained cells (chains_of (set ends row.entry end2) (take len (new ++ drop (length new) old))) ≡ shortened now cell)
      off-chains end2 new old len on back same all =
          let chains = shortened-chains ends nodes cells h cell row.entry cell-fits row-entry row-last mid mid-is end row-end end2 new old len on back same all in
          let before = chains_of ends nodes in (
            chains.0,
            chained-is cells cells (chains_of (set ends row.entry end2) (take len (new ++ drop (length new) old)))
                (set before (cell_at cells cell).entry (without_last (chain_at before (cell_at cells cell).entry))) refl
                (chains.1 ∙ ap (λ n. set before n (without_last (chain_at before n))) row-entry)
                ∙ ap (λ (v : Chained). shortened v cell) is,
          )

-- a new cell is in no chain
pub outside-all : (ends nodes : List RingNode) (cells : List Cell) → AreChains ends nodes cells → (entry : ℕ) → entry < length ends
    → has_node (chain_at (chains_of ends nodes) entry) (length cells) ≡ false
outside-all ends nodes cells h entry fits =
    ap (λ (l : List ℕ). has_node l (length cells)) (chain-is ends nodes entry fits)
    ∙ not-in (ring_of (ends_at ends entry) nodes) (length cells) (λ c.
    let within = ring-within (ends_at ends entry) nodes (ring_of (ends_at ends entry) nodes) (h.rings entry fits) (length cells) c in
    omega (arith, within, h.paired))
