-- An unseen node is appended to the path as a group of its own.
use Rattle.std.proofs.Common.{◌≡◌, ◌≢◌, Bool, ℕ, ◌+◌, ◌-◌, ◌<◌, ◌≤◌, List, [], ◌∷◌, length, Some, None, get_or, refl, sym, ap, ◌∙◌, subst, inl, inr, ◌⊎◌, arith, get_or-set_same, get_or-set_other, length-set, length-append}
use Rattle.std.specs.List.{Contains, AllPairs}
use Rattle.std.proofs.lemmas.Bool.{cases_eq, cases_lt}
use Rattle.std.proofs.lemmas.List.{get_or_append_left, get_or-append-add, get_or_push, length_push, get_or_default}
use Rattle.std.proofs.lemmas.List.Quantifiers.{all_pairs_push}
use Rattle.std.proofs.lemmas.List.Elements.{Contains-push, Contains-push_cases, Contains-append_left, Contains-get_or}
use Rattle.component_cycle.specs.declared.search.NodeState.{NodeState}
use Rattle.component_cycle.specs.declared.search.NodeState.TheVariants.{Unseen, OnPath, Finished}
use Rattle.component_cycle.specs.declared.search.GroupStart.{GroupStart}
use Rattle.component_cycle.specs.declared.search.Search.{Search}
use Rattle.common_laws.specs.Graphs.{Needs}
use Rattle.component_cycle.specs.Search.{state, at, IsNotBefore, Reaches, IsKnown, settled, on_path, waits, looked_at, HasSource, IsRight, IsBelow, IsSound, AllReach, DoesNotRaise, entered, cost, to_do}
use Rattle.component_cycle.proofs.Costs.{costs-set}

module _ (needs : List (List ℕ)) (s : Search) (v : ℕ) (h : IsSound needs s (Some v)) (unseen : state s v ≡ Unseen) (inside : v < length needs) (leads : AllReach needs s v) where
  abbrev t : Search
  t = entered needs v s

  abbrev n : ℕ
  n = length s.path

  abbrev mark : GroupStart
  mark = record { place = length s.path; waiting = length s.waiting }

  state-here : state t v ≡ OnPath n
  state-here = get_or-set_same s.states v (OnPath n) Unseen (omega (arith, h.count, inside))

  state-other : (u : ℕ) → u ≢ v → state t u ≡ state s u
  state-other u ne = get_or-set_other s.states v u (OnPath n) Unseen ne

  at-old : (i : ℕ) → i < n → at t i ≡ at s i
  at-old i l = get_or_append_left s.path (v ∷ []) 0 i l

  at-new : at t n ≡ v
  at-new = get_or_push s.path v 0 n refl

  path-length : length t.path ≡ n + 1
  path-length = length_push s.path v

  -- a seen node isn't v
  not-v : (u : ℕ) → state s u ≢ Unseen → u ≢ v
  not-v u ne e = ne (ap (state s) e ∙ unseen)

  kept : (u : ℕ) (x : NodeState) → state s u ≡ x → x ≢ Unseen → state t u ≡ x
  kept u x e ne = state-other u (not-v u (λ k. ne (sym e ∙ k))) ∙ e

  on-apart : (i : ℕ) → OnPath i ≢ Unseen
  on-apart i e = cc e

  settled-apart : (b : Bool) → Finished b ≢ Unseen
  settled-apart b e = cc e

  placed : (u i : ℕ) → state t u ≡ OnPath i → (i < length t.path) × (at t i ≡ u)
  placed u i e =
      elim (cases_eq u v) [
        | inl same ↦
            let k : i ≡ n = let both : OnPath i ≡ OnPath n = sym e ∙ ap (state t) same ∙ state-here in cc both in
            (omega (arith, k, path-length), ap (at t) k ∙ at-new ∙ sym same)
        | inr ne ↦
            let old = h.placed u i (sym (state-other u ne) ∙ e) in
            (omega (arith, old.0, path-length), at-old i old.0 ∙ old.1)
      ]

  last-or-old : (i : ℕ) → i < length t.path → (i < n) ⊎ (i ≡ n)
  last-or-old i l = elim (cases_lt i n) [ inl k ↦ inl k | inr k ↦ inr (omega (arith, path-length)) ]

  standing : (i : ℕ) → i < length t.path → state t (at t i) ≡ OnPath i
  standing i l =
      elim (last-or-old i l) [
        | inl old ↦ ap (state t) (at-old i old) ∙ kept (at s i) (OnPath i) (h.standing i old) (on-apart i)
        | inr new ↦ ap (state t) (ap (at t) new ∙ at-new) ∙ state-here ∙ ap OnPath (sym new)
      ]

  was-settled : (u : ℕ) (b : Bool) → state t u ≡ Finished b → state s u ≡ Finished b
  was-settled u b e =
      elim (cases_eq u v) [
        | inl same ↦ let both : OnPath n ≡ Finished b = sym state-here ∙ ap (state t) (sym same) ∙ e in absurd (cc both)
        | inr ne ↦ sym (state-other u ne) ∙ e
      ]

  closed : (u w : ℕ) (b : Bool) → state t u ≡ Finished b → Needs needs u w → (d : Bool) × (state t w ≡ Finished d)
  closed u w b e edge =
      let old = h.closed u w b (was-settled u b e) edge in
      (old.0, kept w (Finished old.0) old.1 (settled-apart old.0))

  waiting-longer : length s.waiting ≤ length t.waiting
  waiting-longer = omega (arith, length-append s.waiting (get_or needs v []))

  mark-cases : (m : GroupStart) → Contains t.marks m → Contains s.marks m ⊎ (mark ≡ m)
  mark-cases m k = Contains-push_cases s.marks mark m k

  marked : (m : GroupStart) → Contains t.marks m → (m.place < length t.path) × (m.waiting ≤ length t.waiting)
  marked m k =
      elim (mark-cases m k) [
        | inl old ↦ let was = h.marked m old in (omega (arith, was.0, path-length), omega (arith, was.1, waiting-longer))
        | inr new ↦ subst (λ (x : GroupStart). (x.place < length t.path) × (x.waiting ≤ length t.waiting)) new (omega (arith, path-length), waiting-longer)
      ]

  rising : AllPairs IsBelow t.marks
  rising = all_pairs_push IsBelow s.marks mark h.rising (λ k d l. h.marked (get_or s.marks k d) (Contains-get_or s.marks k d l))

  covered : (i : ℕ) → i < length t.path → (m : GroupStart) × Contains t.marks m × (m.place ≤ i)
  covered i l =
      elim (last-or-old i l) [
        | inl old ↦ let was = h.covered i old in (was.0, Contains-append_left s.marks (mark ∷ []) was.0 was.1, was.2)
        | inr new ↦ (mark, Contains-push s.marks mark, omega (arith, new))
      ]

  reaches-as : (i j u w : ℕ) → at t i ≡ u → at t j ≡ w → Reaches needs u w → Reaches needs (at t i) (at t j)
  reaches-as i j u w e f r = subst (λ x. Reaches needs x (at t j)) (sym e) (subst (λ y. Reaches needs u y) (sym f) r)

  forward : (i j : ℕ) → i ≤ j → j < length t.path → Reaches needs (at t i) (at t j)
  forward i j le l =
      elim (last-or-old j l) [
        | inl old ↦ reaches-as i j (at s i) (at s j) (at-old i (omega (arith, le, old))) (at-old j old) (h.forward i j le old)
        | inr new ↦ elim (cases_lt i n) [
          | inl less ↦ reaches-as i j (at s i) v (at-old i less) (ap (at t) new ∙ at-new) (inr (leads i less))
          | inr same ↦ let e : i ≡ j = omega (arith, le, new, same) in inl (ap (at t) e)
        ]
      ]

  not-before-old : (i j : ℕ) → i < n → IsNotBefore s i j → IsNotBefore t i j
  not-before-old i j l k m c le =
      elim (mark-cases m c) [
        | inl old ↦ k m old le
        | inr new ↦ let is : n ≡ m.place = ap (λ (x : GroupStart). x.place) new in absurd (omega (arith, is, le, l))
      ]

  back : (i j : ℕ) → i ≤ j → j < length t.path → IsNotBefore t j i → Reaches needs (at t j) (at t i)
  back i j le l k =
      elim (last-or-old j l) [
        | inl old ↦
            reaches-as j i (at s j) (at s i) (at-old j old) (at-old i (omega (arith, le, old)))
            (h.back i j le old (λ m c. k m (Contains-append_left s.marks (mark ∷ []) m c)))
        | inr new ↦
            let from : n ≤ i = k mark (Contains-push s.marks mark) (omega (arith, new)) in
            let e : j ≡ i = omega (arith, le, new, from) in
            inl (ap (at t) e)
      ]

  -- the targets of nodes that were on the path before
  known-old : (i w : ℕ) → i < n → IsKnown s (Some v) i w → IsKnown t None i w
  known-old i w l (settled b e) = settled b (kept w (Finished b) e (settled-apart b))
  known-old i w l (on_path p e k) = on_path p (kept w (OnPath p) e (on-apart p)) (not-before-old i p l k)
  known-old i w l (waits x lx e k) =
      waits x (omega (arith, lx, waiting-longer)) (get_or_append_left s.waiting (get_or needs v []) 0 x lx ∙ e)
      (λ m c le. elim (mark-cases m c) [
        | inl old ↦ k m old le
        | inr new ↦ let is : n ≡ m.place = ap (λ (x : GroupStart). x.place) new in absurd (omega (arith, is, le, l))
      ])
  known-old i w l (looked_at e) =
      let same : v ≡ w = cc e in
      on_path n (ap (state t) (sym same) ∙ state-here)
      (λ m c le. elim (mark-cases m c) [
        | inl old ↦ let was = (h.marked m old).0 in omega (arith, was)
        | inr new ↦ let is : n ≡ m.place = ap (λ (x : GroupStart). x.place) new in omega (arith, is)
      ])

  waiting-new : (k : ℕ) → get_or t.waiting (length s.waiting + k) 0 ≡ get_or (get_or needs v []) k 0
  waiting-new k = get_or-append-add s.waiting (get_or needs v []) k 0

  waiting-length : length t.waiting ≡ length s.waiting + length (get_or needs v [])
  waiting-length = length-append s.waiting (get_or needs v [])

  marks-wait : (m : GroupStart) → Contains t.marks m → (m.place ≤ n) × (m.waiting ≤ length s.waiting)
  marks-wait m c =
      elim (mark-cases m c) [
        | inl old ↦ let was = h.marked m old in (omega (arith, was.0), was.1)
        | inr new ↦ let is : n ≡ m.place = ap (λ (x : GroupStart). x.place) new in let waits : length s.waiting ≡ m.waiting = ap (λ (x : GroupStart). x.waiting) new in (omega (arith, is), omega (arith, waits))
      ]

  known-new : (w : ℕ) → Needs needs v w → IsKnown t None n w
  known-new w (k, l, e) =
      waits (length s.waiting + k) (omega (arith, l, waiting-length)) (waiting-new k ∙ get_or_default (get_or needs v []) k 0 w l ∙ e)
      (λ m c le. let was = (marks-wait m c).1 in omega (arith, was))

  known : (i w : ℕ) → i < length t.path → Needs needs (at t i) w → IsKnown t None i w
  known i w l edge =
      elim (last-or-old i l) [
        | inl old ↦ known-old i w old (h.known i w old (subst (λ u. Needs needs u w) (at-old i old) edge))
        | inr new ↦ subst (λ j. IsKnown t None j w) (sym new) (known-new w (subst (λ u. Needs needs u w) (ap (at t) new ∙ at-new) edge))
      ]

  source : (l : ℕ) → l < length t.waiting → HasSource needs t l
  source l below =
      elim (cases_lt l (length s.waiting)) [
        | inl old ↦
            let was = h.source l old in
            record {
              place = was.place;
              within = omega (arith, was.within, path-length);
              edge = subst (λ u. Needs needs u (get_or t.waiting l 0)) (sym (at-old was.place was.within))
                  (subst (λ w. Needs needs (at s was.place) w) (sym (get_or_append_left s.waiting (get_or needs v []) 0 l old)) was.edge);
              same_group = λ m c. elim (mark-cases m c) [
                | inl k ↦ was.same_group m k
                | inr new ↦
                    let is : n ≡ m.place = ap (λ (x : GroupStart). x.place) new in
                    let waits : length s.waiting ≡ m.waiting = ap (λ (x : GroupStart). x.waiting) new in
                    let low = was.within in
                    ((λ le. absurd (omega (arith, is, le, low))), (λ le. absurd (omega (arith, waits, le, old))))
              ];
            }
        | inr new ↦
            let k = l - length s.waiting in
            let sum : length s.waiting + k ≡ l = omega (arith, new) in
            let in_needs : k < length (get_or needs v []) = omega (arith, new, below, waiting-length) in
            let value : get_or (get_or needs v []) k 0 ≡ get_or t.waiting l 0 = sym (waiting-new k) ∙ ap (λ x. get_or t.waiting x 0) sum in
            record {
              place = n;
              within = omega (arith, path-length);
              edge = subst (λ u. Needs needs u (get_or t.waiting l 0)) (sym at-new) (subst (λ w. Needs needs v w) value (Contains-get_or (get_or needs v []) k 0 in_needs));
              same_group = λ m c. let was = marks-wait m c in ((λ le. omega (arith, was.1, new)), (λ le. was.0));
            }
      ]

  right : (u : ℕ) (b : Bool) → state t u ≡ Finished b → IsRight needs u b
  right u b e = h.right u b (was-settled u b e)

  pub entered-sound : IsSound needs t None
  entered-sound =
      record {
        count = length-set s.states v (OnPath n) ∙ h.count;
        placed = placed;
        standing = standing;
        closed = closed;
        right = right;
        marked = marked;
        rising = rising;
        covered = covered;
        forward = forward;
        back = back;
        known = known;
        source = source;
      }

  pub entered-seen : (u : ℕ) → state s u ≢ Unseen → state t u ≢ Unseen
  entered-seen u ne e = ne (sym (state-other u (not-v u ne)) ∙ e)

  pub entered-less : to_do needs t < to_do needs s
  entered-less =
      let set = costs-set needs s.states v (OnPath n) inside h.count in
      let was : cost (get_or needs v []) (state s v) ≡ length (get_or needs v []) + 2 = ap (cost (get_or needs v [])) unseen in
      omega (arith, set, was, waiting-length, length_push s.marks mark)

  pub entered-follows : DoesNotRaise needs s t
  entered-follows = record { sound = entered-sound; seen = entered-seen; less = omega (arith, entered-less) }

  pub entered-root : state t v ≢ Unseen
  entered-root e = let both : OnPath n ≡ Unseen = sym state-here ∙ e in cc both
