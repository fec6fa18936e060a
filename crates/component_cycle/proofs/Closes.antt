-- The last group is settled once none of its targets waits.
use Rattle.std.proofs.Common.{◌≡◌, ◌≢◌, Bool, true, ℕ, ◌+◌, ◌-◌, ◌<◌, ◌≤◌, List, [], ◌∷◌, ◌++◌, length, take, drop, None, get_or, refl, sym, ap, ◌∙◌, subst, inl, inr, ◌⊎◌, arith, length-drop}
use Rattle.std.specs.List.{All, Contains, AllPairs}
use Rattle.std.proofs.lemmas.Bool.{cases_eq, cases_lt, false≢true}
use Rattle.std.proofs.lemmas.List.{get_or-take, get_or-drop, length-take-le, get_or_past, get_or_default, length_push}
use Rattle.std.proofs.lemmas.List.Elements.{Contains-push, Contains-push_cases, Contains-append_left}
use Rattle.component_cycle.specs.declared.search.NodeState.{NodeState}
use Rattle.component_cycle.specs.declared.search.NodeState.TheVariants.{Unseen, OnPath, Finished}
use Rattle.component_cycle.specs.declared.search.GroupStart.{GroupStart}
use Rattle.component_cycle.specs.declared.search.Search.{Search}
use Rattle.component_cycle.specs.Cycle.{IsOnCycle}
use Rattle.common_laws.specs.Graphs.{Needs, IsPath, last, more}
use Rattle.component_cycle.specs.Search.{state, at, IsNotBefore, Reaches, IsKnown, settled, on_path, waits, looked_at, HasSource, IsRight, IsBelow, IsSound, IsCyclic, Lowers, costs}
use Rattle.component_cycle.proofs.Reaches.{path-join, path-apart, path-keeps}
use Rattle.component_cycle.proofs.Joins.{rising-front, rising-last, last-greatest}

module _ (needs : List (List ℕ)) (s : Search) (h : IsSound needs s None) (ms : List GroupStart) (m : GroupStart) (e : s.marks ≡ ms ++ m ∷ []) (idle : length s.waiting ≤ m.waiting) where
  last-mark : Contains s.marks m
  last-mark = subst (λ l. Contains l m) (sym e) (Contains-push ms m)

  cases : (x : GroupStart) → Contains s.marks x → Contains ms x ⊎ (m ≡ x)
  cases x c = Contains-push_cases ms m x (subst (λ l. Contains l x) e c)

  in-old : (x : GroupStart) → Contains ms x → Contains s.marks x
  in-old x c = subst (λ l. Contains l x) (sym e) (Contains-append_left ms (m ∷ []) x c)

  greatest : (x : GroupStart) → Contains s.marks x → x.place ≤ m.place
  greatest x c = (last-greatest ms m x (subst (λ l. AllPairs IsBelow l) e h.rising) (subst (λ l. Contains l x) e c)).0

  pub group-starts : m.place < length s.path
  group-starts = (h.marked m last-mark).0

  -- a target of a node in the group is settled, or in the group
  need : (i w : ℕ) → m.place ≤ i → i < length s.path → Needs needs (at s i) w
      → ((b : Bool) × (state s w ≡ Finished b)) ⊎ ((p : ℕ) × (m.place ≤ p) × (p < length s.path) × (at s p ≡ w))
  need i w from l edge =
      elim (h.known i w l edge) [
        | settled b k ↦ inl (b, k)
        | on_path p k f ↦ let place = h.placed w p k in inr (p, f m last-mark from, place.0, place.1)
        | waits x below k f ↦ let low : m.waiting ≤ x = f m last-mark from in absurd (omega (arith, below, low, idle))
        | looked_at k ↦ absurd (cc k)
      ]

  -- nodes of the group reach each other
  within : (i j : ℕ) → m.place ≤ i → i < length s.path → m.place ≤ j → j < length s.path → Reaches needs (at s i) (at s j)
  within i j from l start k =
      elim (cases_lt j i) [
        | inr ge ↦ h.forward i j ge k
        | inl less ↦ h.back j i (omega (arith, less)) l (λ x c le. let top = greatest x c in omega (arith, top, start))
      ]

  two-cycle : (i j : ℕ) → i ≢ j → m.place ≤ i → i < length s.path → m.place ≤ j → j < length s.path → IsOnCycle needs (at s i)
  two-cycle i j ne from l start k =
      let apart : at s i ≢ at s j = λ same.
      let both : OnPath i ≡ OnPath j = sym (h.standing i l) ∙ ap (state s) same ∙ h.standing j k in ne (cc both) in
      path-join needs (at s i) (at s j) (at s i)
      (path-apart needs (at s i) (at s j) apart (within i j from l start k))
      (path-apart needs (at s j) (at s i) (λ same. apart (sym same)) (within j i start k from l))

  several-right : m.place + 1 < length s.path → (i : ℕ) → m.place ≤ i → i < length s.path → IsOnCycle needs (at s i)
  several-right longer i from l =
      elim (cases_eq i m.place) [
        | inl same ↦ two-cycle i (m.place + 1) (λ k. omega (arith, k, same)) from l (omega arith) longer
        | inr ne ↦ two-cycle i m.place ne from l (omega arith) group-starts
      ]

  IsSettled : ℕ → Type 0
  IsSettled w = (b : Bool) × (state s w ≡ Finished b)

  settled-keeps : (u v : ℕ) → IsSettled u → Needs needs u v → IsSettled v
  unfolding IsSettled
  settled-keeps u v k edge = h.closed u v k.0 k.1 edge

  not-settled : (i : ℕ) → i < length s.path → IsSettled (at s i) → ⊥
  unfolding IsSettled
  not-settled i l k = let both : OnPath i ≡ Finished k.0 = sym (h.standing i l) ∙ k.1 in cc both

  alone-first : (w : ℕ) → m.place + 1 ≡ length s.path → Needs needs (at s m.place) w → IsSettled w ⊎ (w ≡ at s m.place)
  unfolding IsSettled
  alone-first w only edge =
      elim (need m.place w (omega arith) group-starts edge) [
        | inl k ↦ inl k
        | inr k ↦ let is : k.0 ≡ m.place = omega (arith, k.1, k.2, only) in inr (sym (sym (ap (at s) is) ∙ k.3))
      ]

  alone-path : (u : ℕ) → m.place + 1 ≡ length s.path → IsPath (Needs needs) (at s m.place) u → u ≡ at s m.place → Needs needs (at s m.place) (at s m.place)
  alone-path u only (last edge) same = subst (λ w. Needs needs (at s m.place) w) same edge
  alone-path u only (more {w = x} edge p) same =
      elim (alone-first x only edge) [
        | inr back ↦ subst (λ w. Needs needs (at s m.place) w) back edge
        | inl k ↦ absurd (not-settled m.place group-starts (subst IsSettled same (path-keeps needs IsSettled settled-keeps x u k p)))
      ]

  module _ (b : Bool) (cyclic : IsCyclic needs (drop m.place s.path) b) where
    group-length : length (drop m.place s.path) ≡ length s.path - m.place
    group-length = length-drop m.place s.path

    group-at : (k : ℕ) → get_or (drop m.place s.path) k 0 ≡ at s (m.place + k)
    group-at k = get_or-drop m.place s.path k 0

    pub group-right : (i : ℕ) → m.place ≤ i → i < length s.path → IsRight needs (at s i) b
    group-right i from l =
        elim (cases_lt (m.place + 1) (length s.path)) [
          | inl several ↦
              let yes : b ≡ true = cyclic.several (omega (arith, group-length, several)) in
              record { cycle = λ k. several-right several i from l; none = λ k c. absurd (false≢true (sym k ∙ yes)) }
          | inr few ↦
              let only : m.place + 1 ≡ length s.path = omega (arith, few, group-starts) in
              let is : i ≡ m.place = omega (arith, from, l, only) in
              let test = cyclic.alone (omega (arith, group-length, only)) in
              let here : get_or (drop m.place s.path) 0 0 ≡ at s i = group-at 0 ∙ ap (at s) (omega (arith, is)) in
              record {
                cycle = λ k. last (subst (λ u. Needs needs u u) here (test.0 k));
                none = λ k c.
                    let edge = alone-path (at s i) only (subst (λ u. IsPath (Needs needs) u (at s i)) (ap (at s) is) c) (ap (at s) is) in
                    absurd (false≢true (sym k ∙ test.1 (subst (λ u. Needs needs u u) (ap (at s) (sym is) ∙ sym here) edge)));
              }
        ]

    module _ (states : List NodeState) (count : length states ≡ length s.states)
        (set : (i : ℕ) → m.place ≤ i → i < length s.path → get_or states (at s i) Unseen ≡ Finished b)
        (others : (u : ℕ) → ((i : ℕ) → m.place ≤ i → i < length s.path → at s i ≢ u) → get_or states u Unseen ≡ state s u) where
      abbrev t : Search
      t = record { states = states; path = take m.place s.path; waiting = s.waiting; marks = ms }

      IsInGroup : ℕ → Type 0
      IsInGroup u = (i : ℕ) × (m.place ≤ i) × (i < length s.path) × (at s i ≡ u)

      in-or-out : (u : ℕ) → IsInGroup u ⊎ ((IsInGroup u → ⊥) × (state t u ≡ state s u))
      unfolding IsInGroup
      in-or-out u =
          let out : (IsInGroup u → ⊥) → (IsInGroup u → ⊥) × (state t u ≡ state s u) = λ no. (no, others u (λ i from l is. no (i, from, l, is))) in
          elim (state s u) as (λ x. state s u ≡ x → IsInGroup u ⊎ ((IsInGroup u → ⊥) × (state t u ≡ state s u))) [
            | Unseen ↦ λ k. inr (out (λ g. let both : OnPath g.0 ≡ Unseen = sym (h.standing g.0 g.2) ∙ ap (state s) g.3 ∙ k in cc both))
            | Finished d ↦ λ k. inr (out (λ g. let both : OnPath g.0 ≡ Finished d = sym (h.standing g.0 g.2) ∙ ap (state s) g.3 ∙ k in cc both))
            | OnPath i ↦ λ k. let place = h.placed u i k in
                elim (cases_lt i m.place) [
                  | inr ge ↦ inl (i, ge, place.0, place.1)
                  | inl less ↦ inr (out (λ g.
                      let both : OnPath g.0 ≡ OnPath i = sym (h.standing g.0 g.2) ∙ ap (state s) g.3 ∙ k in
                      let same : g.0 ≡ i = cc both in omega (arith, same, less, g.1)))
                ]
          ] refl

      in-state : (u : ℕ) → IsInGroup u → state t u ≡ Finished b
      unfolding IsInGroup
      in-state u g = subst (λ w. state t w ≡ Finished b) g.3 (set g.0 g.1 g.2)

      short : length t.path ≡ m.place
      short = length-take-le m.place s.path (omega (arith, group-starts))

      at-front : (i : ℕ) → i < m.place → at t i ≡ at s i
      at-front i l = get_or-take m.place s.path i 0 l

      -- a settled node keeps its state
      kept-settled : (u : ℕ) (d : Bool) → state s u ≡ Finished d → state t u ≡ Finished d
      unfolding IsInGroup
      kept-settled u d k =
          elim (in-or-out u) [
            | inr out ↦ out.1 ∙ k
            | inl g ↦ let both : OnPath g.0 ≡ Finished d = sym (h.standing g.0 g.2) ∙ ap (state s) g.3 ∙ k in absurd (cc both)
          ]

      placed : (u i : ℕ) → state t u ≡ OnPath i → (i < length t.path) × (at t i ≡ u)
      unfolding IsInGroup
      placed u i k =
          elim (in-or-out u) [
            | inl g ↦ let both : Finished b ≡ OnPath i = sym (in-state u g) ∙ k in absurd (cc both)
            | inr out ↦
                let place = h.placed u i (sym out.1 ∙ k) in
                elim (cases_lt i m.place) [
                  | inl less ↦ (omega (arith, less, short), at-front i less ∙ place.1)
                  | inr ge ↦ absurd (out.0 (i, ge, place.0, place.1))
                ]
          ]

      below : (i : ℕ) → i < length t.path → i < m.place
      below i l = omega (arith, short, l)

      in-s : (i : ℕ) → i < m.place → i < length s.path
      in-s i l = omega (arith, group-starts, l)

      standing-front : (i : ℕ) → i < m.place → state t (at s i) ≡ OnPath i
      unfolding IsInGroup
      standing-front i l =
          elim (in-or-out (at s i)) [
            | inr out ↦ out.1 ∙ h.standing i (in-s i l)
            | inl g ↦
                let both : OnPath g.0 ≡ OnPath i = sym (h.standing g.0 g.2) ∙ ap (state s) g.3 ∙ h.standing i (in-s i l) in
                let same : g.0 ≡ i = cc both in absurd (omega (arith, same, l, g.1))
          ]

      standing : (i : ℕ) → i < length t.path → state t (at t i) ≡ OnPath i
      standing i l = ap (state t) (at-front i (below i l)) ∙ standing-front i (below i l)

      closed : (u w : ℕ) (d : Bool) → state t u ≡ Finished d → Needs needs u w → (c : Bool) × (state t w ≡ Finished c)
      unfolding IsInGroup
      closed u w d k edge =
          elim (in-or-out u) [
            | inl g ↦ elim (need g.0 w g.1 g.2 (subst (λ x. Needs needs x w) (sym g.3) edge)) [
              | inl done ↦ (done.0, kept-settled w done.0 done.1)
              | inr on ↦ (b, in-state w on)
            ]
            | inr out ↦ let old = h.closed u w d (sym out.1 ∙ k) edge in (old.0, kept-settled w old.0 old.1)
          ]

      right : (u : ℕ) (d : Bool) → state t u ≡ Finished d → IsRight needs u d
      unfolding IsInGroup
      right u d k =
          elim (in-or-out u) [
            | inl g ↦
                let both : Finished b ≡ Finished d = sym (in-state u g) ∙ k in
                let same : b ≡ d = cc both in
                subst (λ x. IsRight needs u x) same (subst (λ w. IsRight needs w b) g.3 (group-right g.0 g.1 g.2))
            | inr out ↦ h.right u d (sym out.1 ∙ k)
          ]

      marked : (x : GroupStart) → Contains ms x → (x.place < length t.path) × (x.waiting ≤ length s.waiting)
      marked x c =
          let less = (rising-last ms m x (subst (λ l. AllPairs IsBelow l) e h.rising) c).0 in
          (omega (arith, less, short), (h.marked x (in-old x c)).1)

      covered : (i : ℕ) → i < length t.path → (x : GroupStart) × Contains ms x × (x.place ≤ i)
      covered i l =
          let was = h.covered i (in-s i (below i l)) in
          elim (cases was.0 was.1) [
            | inl old ↦ (was.0, old, was.2)
            | inr same ↦ let is : m.place ≡ was.0.place = ap (λ (x : GroupStart). x.place) same in absurd (omega (arith, is, was.2, below i l))
          ]

      reaches-as : (i j : ℕ) → i < m.place → j < m.place → Reaches needs (at s i) (at s j) → Reaches needs (at t i) (at t j)
      reaches-as i j l k r = subst (λ x. Reaches needs x (at t j)) (sym (at-front i l)) (subst (λ y. Reaches needs (at s i) y) (sym (at-front j k)) r)

      forward : (i j : ℕ) → i ≤ j → j < length t.path → Reaches needs (at t i) (at t j)
      forward i j le l =
          let high = below j l in
          reaches-as i j (omega (arith, le, high)) high (h.forward i j le (in-s j high))

      not-before : (i j : ℕ) → i < m.place → IsNotBefore t i j → IsNotBefore s i j
      not-before i j l k x c le =
          elim (cases x c) [
            | inl old ↦ k x old le
            | inr same ↦ let is : m.place ≡ x.place = ap (λ (y : GroupStart). y.place) same in absurd (omega (arith, is, le, l))
          ]

      back : (i j : ℕ) → i ≤ j → j < length t.path → IsNotBefore t j i → Reaches needs (at t j) (at t i)
      back i j le l k =
          let high = below j l in
          reaches-as j i high (omega (arith, le, high)) (h.back i j le (in-s j high) (not-before j i high k))

      known-front : (i w : ℕ) → IsKnown s None i w → IsKnown t None i w
      known-front i w (settled d k) = settled d (kept-settled w d k)
      known-front i w (looked_at k) = looked_at k
      known-front i w (waits l low k f) = waits l low k (λ x c le. f x (in-old x c) le)
      known-front i w (on_path p k f) =
          let place = h.placed w p k in
          elim (cases_lt p m.place) [
            | inl less ↦ on_path p (subst (λ u. state t u ≡ OnPath p) place.1 (standing-front p less)) (λ x c le. f x (in-old x c) le)
            | inr ge ↦ settled b (subst (λ u. state t u ≡ Finished b) place.1 (set p ge place.0))
          ]

      source : (l : ℕ) → l < length s.waiting → HasSource needs t l
      source l low =
          let was = h.source l low in
          let front : was.place < m.place =
          elim (cases_lt was.place m.place) [ inl k ↦ k | inr ge ↦ let late : m.waiting ≤ l = (was.same_group m last-mark).0 ge in absurd (omega (arith, late, low, idle)) ] in
          record {
            place = was.place;
            within = omega (arith, front, short);
            edge = subst (λ u. Needs needs u (get_or s.waiting l 0)) (sym (at-front was.place front)) was.edge;
            same_group = λ x c. was.same_group x (in-old x c);
          }

      pub closed-sound : IsSound needs t None
      closed-sound =
          record {
            count = count ∙ h.count;
            placed = placed;
            standing = standing;
            closed = closed;
            right = right;
            marked = marked;
            rising = rising-front ms m (subst (λ l. AllPairs IsBelow l) e h.rising);
            covered = covered;
            forward = forward;
            back = back;
            known = λ i w l edge. known-front i w (h.known i w (in-s i (below i l)) (subst (λ u. Needs needs u w) (at-front i (below i l)) edge));
            source = source;
          }

      pub closed-seen : (u : ℕ) → state s u ≢ Unseen → state t u ≢ Unseen
      closed-seen u ne k =
          elim (in-or-out u) [
            | inl g ↦ let both : Finished b ≡ Unseen = sym (in-state u g) ∙ k in cc both
            | inr out ↦ ne (sym out.1 ∙ k)
          ]

  pub in-states : (i : ℕ) → i < length s.path → at s i < length s.states
  in-states i l =
      elim (cases_lt (at s i) (length s.states)) [
        | inl less ↦ less
        | inr past ↦ let both : OnPath i ≡ Unseen = sym (h.standing i l) ∙ get_or_past s.states (at s i) Unseen past in absurd (cc both)
      ]

  module _ (group : List ℕ) (is : group ≡ drop m.place s.path) where
    group-size : length group ≡ length s.path - m.place
    group-size = ap length is ∙ length-drop m.place s.path

    in-path : (k : ℕ) → k < length group → m.place + k < length s.path
    in-path k l = omega (arith, l, group-size)

    node-at : (k d : ℕ) → k < length group → get_or group k d ≡ at s (m.place + k)
    node-at k d l = ap (λ (x : List ℕ). get_or x k d) is ∙ get_or-drop m.place s.path k d ∙ get_or_default s.path (m.place + k) d 0 (in-path k l)

    pub group-in-states : All (λ v. v < length s.states) group
    group-in-states k d l = let low = in-states (m.place + k) (in-path k l) in omega (arith, low, node-at k d l)

    pub group-in-graph : All (λ v. v < length needs) group
    group-in-graph k d l = omega (arith, group-in-states k d l, h.count)

    group-seen : (k : ℕ) → k < length group → state s (get_or group k 0) ≢ Unseen
    group-seen k l same =
        let both : OnPath (m.place + k) ≡ Unseen = sym (h.standing (m.place + k) (in-path k l)) ∙ ap (state s) (sym (node-at k 0 l)) ∙ same in
        cc both

    -- a place of the group, as one of the path
    place-in : (i : ℕ) → m.place ≤ i → i < length s.path → (i - m.place < length group) × (get_or group (i - m.place) 0 ≡ at s i)
    place-in i from l =
        let low : i - m.place < length group = omega (arith, from, l, group-size) in
        (low, node-at (i - m.place) 0 low ∙ ap (at s) (omega (arith, from)))

    module _ (b : Bool) (cyclic : IsCyclic needs group b) (states : List NodeState) (count : length states ≡ length s.states)
        (set : (k : ℕ) → k < length group → get_or states (get_or group k 0) Unseen ≡ Finished b)
        (others : (v : ℕ) → (Contains group v → ⊥) → get_or states v Unseen ≡ state s v)
        (spent : (graph : List (List ℕ)) → length s.states ≡ length graph → ((k : ℕ) → k < length group → state s (get_or group k 0) ≢ Unseen) → costs graph states ≡ costs graph s.states) where
      set-on-path : (i : ℕ) → m.place ≤ i → i < length s.path → get_or states (at s i) Unseen ≡ Finished b
      set-on-path i from l =
          let place = place-in i from l in
          subst (λ v. get_or states v Unseen ≡ Finished b) place.1 (set (i - m.place) place.0)

      others-outside : (u : ℕ) → ((i : ℕ) → m.place ≤ i → i < length s.path → at s i ≢ u) → get_or states u Unseen ≡ state s u
      others-outside u outside = others u (λ k. outside (m.place + k.0) (omega arith) (in-path k.0 k.1) (sym (node-at k.0 u k.1) ∙ k.2))

      cyclic-here : IsCyclic needs (drop m.place s.path) b
      cyclic-here = subst (λ g. IsCyclic needs g b) is cyclic

      pub closed-steps : Lowers needs s (record { states = states; path = take m.place s.path; waiting = s.waiting; marks = ms })
      closed-steps =
          record {
            sound = closed-sound b cyclic-here states count set-on-path others-outside;
            seen = closed-seen b cyclic-here states count set-on-path others-outside;
            less = let same = spent needs h.count group-seen in omega (arith, same, ap length e, length_push ms m);
          }
