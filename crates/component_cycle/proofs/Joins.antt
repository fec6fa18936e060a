-- An edge from the last group to a node of the path merges the groups from its own on.
use Rattle.std.proofs.Common.{◌≡◌, Bool, ℕ, ◌+◌, ◌<◌, ◌≤◌, List, [], ◌∷◌, ◌++◌, length, Option, Some, None, MatchOption, get_or, refl, sym, ap, ◌∙◌, subst, inl, inr, ◌⊎◌, arith}
use Rattle.std.specs.List.{Contains, AllPairs}
use Rattle.std.proofs.lemmas.Bool.{cases_lt}
use Rattle.std.proofs.lemmas.List.{get_or_append_left, get_or_push, length_push, same_from_push}
use Rattle.std.proofs.lemmas.List.Elements.{Contains-push, Contains-push_cases, Contains-append_left}
use Rattle.component_cycle.specs.declared.search.NodeState.TheVariants.{OnPath, Finished}
use Rattle.component_cycle.specs.declared.search.GroupStart.{GroupStart}
use Rattle.component_cycle.specs.declared.search.Search.{Search}
use Rattle.common_laws.specs.Graphs.{Needs, IsPath, last as one_edge}
use Rattle.component_cycle.specs.Search.{state, at, IsNotBefore, Reaches, IsKnown, settled, on_path, waits, looked_at, HasSource, IsBelow, IsSound, HasLast, AllReach}
use Rattle.component_cycle.proofs.Reaches.{reaches-path, path-reaches}

-- marks without the last one
pub rising-front : (ms : List GroupStart) (m : GroupStart) → AllPairs IsBelow (ms ++ m ∷ []) → AllPairs IsBelow ms
rising-front ms m h i j d less below =
    let longer = length_push ms m in
    let pair = h i j d less (omega (arith, below, longer)) in
    let a = get_or_append_left ms (m ∷ []) d i (omega (arith, less, below)) in
    let b = get_or_append_left ms (m ∷ []) d j below in
    subst (λ x. IsBelow x (get_or ms j d)) a (subst (λ y. IsBelow (get_or (ms ++ m ∷ []) i d) y) b pair)

-- the last mark is the greatest
pub rising-last : (ms : List GroupStart) (m x : GroupStart) → AllPairs IsBelow (ms ++ m ∷ []) → Contains ms x → IsBelow x m
rising-last ms m x h (k, below, e) =
    let longer = length_push ms m in
    let pair = h k (length ms) x below (omega (arith, longer)) in
    let a = get_or_append_left ms (m ∷ []) x k below ∙ e in
    let b = get_or_push ms m x (length ms) refl in
    subst (λ y. IsBelow y m) a (subst (λ y. IsBelow (get_or (ms ++ m ∷ []) k x) y) b pair)

pub last-greatest : (ms : List GroupStart) (m x : GroupStart) → AllPairs IsBelow (ms ++ m ∷ []) → Contains (ms ++ m ∷ []) x → (x.place ≤ m.place) × (x.waiting ≤ m.waiting)
last-greatest ms m x h c =
    elim (Contains-push_cases ms m x c) [
      | inl old ↦ let below = rising-last ms m x h old in (omega (arith, below.0), below.1)
      | inr e ↦ subst (λ (y : GroupStart). (y.place ≤ m.place) × (y.waiting ≤ m.waiting)) e (omega arith, omega arith)
    ]

no-mark : (m : GroupStart) → Contains [] m → ⊥
no-mark m c = omega (arith, c.1)

abbrev pub with_marks : Search → List GroupStart → Search
with_marks s ms = record { states = s.states; path = s.path; waiting = s.waiting; marks = ms }

abbrev pub with_waiting : Search → List ℕ → Search
with_waiting s waiting = record { states = s.states; path = s.path; waiting = waiting; marks = s.marks }

-- the invariant with other waiting targets, other marks and another current edge
sound-with : (needs : List (List ℕ)) (s : Search) (old new : Option ℕ) (waiting : List ℕ) (marks : List GroupStart) → let t : Search = with_marks (with_waiting s waiting) marks in
    IsSound needs s old
    → ((m : GroupStart) → Contains marks m → (m.place < length s.path) × (m.waiting ≤ length waiting))
    → AllPairs IsBelow marks
    → ((i : ℕ) → i < length s.path → (m : GroupStart) × Contains marks m × (m.place ≤ i))
    → ((i j : ℕ) → i ≤ j → j < length s.path → IsNotBefore t j i → Reaches needs (at s j) (at s i))
    → ((i w : ℕ) → i < length s.path → Needs needs (at s i) w → IsKnown t new i w)
    → ((l : ℕ) → l < length waiting → HasSource needs t l)
    → IsSound needs t new
sound-with needs s old new waiting marks h marked rising covered back known source =
    record {
      count = h.count;
      placed = h.placed;
      standing = h.standing;
      closed = h.closed;
      right = h.right;
      marked = marked;
      rising = rising;
      covered = covered;
      forward = h.forward;
      back = back;
      known = known;
      source = source;
    }

-- the invariant with another current edge
pub sound-beside : (needs : List (List ℕ)) (s : Search) (old new : Option ℕ) → IsSound needs s old → ((i w : ℕ) → i < length s.path → IsKnown s old i w → IsKnown s new i w) → IsSound needs s new
sound-beside needs s old new h more =
    sound-with needs s old new s.waiting s.marks h h.marked h.rising h.covered h.back (λ i w l edge. more i w l (h.known i w l edge)) h.source

module _ (needs : List (List ℕ)) (s : Search) (v p : ℕ) (h : IsSound needs s (Some v)) (leads : AllReach needs s v) (here : state s v ≡ OnPath p) where
  module _ (ms : List GroupStart) (m : GroupStart) (e : s.marks ≡ ms ++ m ∷ []) (later : p < m.place) where
    abbrev t : Search
    t = with_marks s ms

    in-old : (x : GroupStart) → Contains ms x → Contains s.marks x
    in-old x c = subst (λ l. Contains l x) (sym e) (Contains-append_left ms (m ∷ []) x c)

    cases : (x : GroupStart) → Contains s.marks x → Contains ms x ⊎ (m ≡ x)
    cases x c = Contains-push_cases ms m x (subst (λ l. Contains l x) e c)

    not-before : (i j : ℕ) → IsNotBefore s i j → IsNotBefore t i j
    not-before i j k x c le = k x (in-old x c) le

    covered : (i : ℕ) → i < length s.path → (x : GroupStart) × Contains ms x × (x.place ≤ i)
    covered i l =
        let one = h.covered i l in
        elim (cases one.0 one.1) [
          | inl old ↦ (one.0, old, one.2)
          | inr last ↦
              let is : m.place ≡ one.0.place = ap (λ (x : GroupStart). x.place) last in
              let at-p = h.covered p (h.placed v p here).0 in
              elim (cases at-p.0 at-p.1) [
                | inl old ↦ (at-p.0, old, omega (arith, at-p.2, later, is, one.2))
                | inr same ↦ let k : m.place ≡ at-p.0.place = ap (λ (x : GroupStart). x.place) same in absurd (omega (arith, k, at-p.2, later))
              ]
        ]

    back : (i j : ℕ) → i ≤ j → j < length s.path → IsNotBefore t j i → Reaches needs (at s j) (at s i)
    back i j le l k =
        elim (cases_lt j m.place) [
          | inl less ↦
              h.back i j le l (λ x c below. elim (cases x c) [
                | inl old ↦ k x old below
                | inr same ↦ let is : m.place ≡ x.place = ap (λ (y : GroupStart). y.place) same in absurd (omega (arith, is, below, less))
              ])
          | inr ge ↦
              let place = h.placed v p here in
              let to-p : IsPath (Needs needs) (at s j) (at s p) = subst (λ w. IsPath (Needs needs) (at s j) w) (sym place.1) (leads j l) in
              elim (cases_lt i p) [
                | inr on ↦ inr (path-reaches needs (at s j) (at s p) (at s i) to-p (h.forward p i on (omega (arith, le, l))))
                | inl before ↦
                    inr (path-reaches needs (at s j) (at s p) (at s i) to-p (h.back i p (omega (arith, before)) place.0 (λ x c below. elim (cases x c) [
                      | inl old ↦ k x old (omega (arith, below, later, ge))
                      | inr same ↦ let is : m.place ≡ x.place = ap (λ (y : GroupStart). y.place) same in absurd (omega (arith, is, below, later))
                    ])))
              ]
        ]

    known-on : (i w : ℕ) → IsKnown s (Some v) i w → IsKnown t (Some v) i w
    known-on i w (settled b k) = settled b k
    known-on i w (on_path q k f) = on_path q k (not-before i q f)
    known-on i w (waits l below k f) = waits l below k (λ x c. f x (in-old x c))
    known-on i w (looked_at k) = looked_at k

    pub joined-sound : IsSound needs t (Some v)
    joined-sound =
        sound-with needs s (Some v) (Some v) s.waiting ms h (λ x c. h.marked x (in-old x c)) (rising-front ms m (subst (λ l. AllPairs IsBelow l) e h.rising)) covered back
        (λ i w l edge. known-on i w (h.known i w l edge))
        (λ l below. let was = h.source l below in record { place = was.place; within = was.within; edge = was.edge; same_group = λ x c. was.same_group x (in-old x c) })

  known-done : ((x : GroupStart) → Contains s.marks x → x.place ≤ p) → (i w : ℕ) → IsKnown s (Some v) i w → IsKnown s None i w
  known-done low i w (settled b k) = settled b k
  known-done low i w (on_path q k f) = on_path q k f
  known-done low i w (waits l below k f) = waits l below k f
  known-done low i w (looked_at k) = let same : v ≡ w = cc k in on_path p (ap (state s) (sym same) ∙ here) (λ x c le. low x c)

  -- all groups are merged
  pub joined-done : ((x : GroupStart) → Contains s.marks x → x.place ≤ p) → IsSound needs s None
  joined-done low = sound-beside needs s (Some v) None h (λ i w l. known-done low i w)

  -- the same if the last group doesn't begin after the place
  pub joined-all : (s.marks ≡ []) ⊎ HasLast s.marks (λ m. m.place ≤ p) → (x : GroupStart) → Contains s.marks x → x.place ≤ p
  joined-all (inl none) x k = absurd (no-mark x (subst (λ l. Contains l x) none k))
  joined-all (inr (m, (front, is), low)) x k =
      let top = last-greatest front m x (subst (λ l. AllPairs IsBelow l) is h.rising) (subst (λ l. Contains l x) is k) in
      omega (arith, top.0, low)

-- the target of the edge is settled
module _ (needs : List (List ℕ)) (s : Search) (v : ℕ) (h : IsSound needs s (Some v)) (b : Bool) (here : state s v ≡ Finished b) where
  known-settled : (i w : ℕ) → IsKnown s (Some v) i w → IsKnown s None i w
  known-settled i w (settled d k) = settled d k
  known-settled i w (on_path q k f) = on_path q k f
  known-settled i w (waits l below k f) = waits l below k f
  known-settled i w (looked_at k) = let same : v ≡ w = cc k in settled b (ap (state s) (sym same) ∙ here)

  pub settled-sound : IsSound needs s None
  settled-sound = sound-beside needs s (Some v) None h (λ i w l. known-settled i w)

-- an edge is taken from the last group
module _ (needs : List (List ℕ)) (s : Search) (h : IsSound needs s None) (ms : List GroupStart) (m : GroupStart) (e : s.marks ≡ ms ++ m ∷ []) (rest : List ℕ) (v : ℕ) (last : s.waiting ≡ rest ++ v ∷ []) (some : m.waiting ≤ length rest) where
  abbrev popped : Search
  popped = with_waiting s rest

  greatest : (x : GroupStart) → Contains s.marks x → (x.place ≤ m.place) × (x.waiting ≤ m.waiting)
  greatest x c = last-greatest ms m x (subst (λ l. AllPairs IsBelow l) e h.rising) (subst (λ l. Contains l x) e c)

  last-mark : Contains s.marks m
  last-mark = subst (λ l. Contains l m) (sym e) (Contains-push ms m)

  longer : length s.waiting ≡ length rest + 1
  longer = ap length last ∙ length_push rest v

  known-rest : (i w : ℕ) → IsKnown s None i w → IsKnown popped (Some v) i w
  known-rest i w (settled b k) = settled b k
  known-rest i w (on_path q k f) = on_path q k f
  known-rest i w (looked_at k) = absurd (cc k)
  known-rest i w (waits l below k f) =
      elim (cases_lt l (length rest)) [
        | inl less ↦ waits l less (sym (ap (λ x. get_or x l 0) last ∙ get_or_append_left rest (v ∷ []) 0 l less) ∙ k) f
        | inr ge ↦
            let is : l ≡ length rest = omega (arith, ge, below, longer) in
            looked_at (ap Some (sym (ap (λ x. get_or s.waiting x 0) is ∙ ap (λ x. get_or x (length rest) 0) last ∙ get_or_push rest v 0 (length rest) refl) ∙ k))
      ]

  source-of-rest : (l : ℕ) → l < length rest → HasSource needs popped l
  source-of-rest l below =
      let was = h.source l (omega (arith, below, longer)) in
      record {
        place = was.place;
        within = was.within;
        edge = subst (λ w. Needs needs (at s was.place) w) (ap (λ x. get_or x l 0) last ∙ get_or_append_left rest (v ∷ []) 0 l below) was.edge;
        same_group = was.same_group;
      }

  pub looked-sound : IsSound needs popped (Some v)
  looked-sound =
      sound-with needs s None (Some v) rest s.marks h (λ x c. let was = h.marked x c in (was.0, omega (arith, (greatest x c).1, some))) h.rising h.covered h.back
      (λ i w l edge. known-rest i w (h.known i w l edge)) source-of-rest

  value : get_or s.waiting (length rest) 0 ≡ v
  value = ap (λ x. get_or x (length rest) 0) last ∙ get_or_push rest v 0 (length rest) refl

  source : HasSource needs s (length rest)
  source = h.source (length rest) (omega (arith, longer))

  edge : Needs needs (at s source.place) v
  edge = subst (λ w. Needs needs (at s source.place) w) value source.edge

  to-source : (i : ℕ) → i < length s.path → Reaches needs (at s i) (at s source.place)
  to-source i l =
      elim (cases_lt source.place i) [
        | inr ge ↦ h.forward i source.place ge source.within
        | inl less ↦
            h.back source.place i (omega (arith, less)) l
            (λ x c le. let from : m.place ≤ source.place = (source.same_group m last-mark).1 some in omega (arith, (greatest x c).0, from))
      ]

  pub looked-leads : AllReach needs popped v
  looked-leads i l = reaches-path needs (at s i) (at s source.place) v (to-source i l) (one_edge edge)

  pub looked-edge : (u : ℕ) × Needs needs u v
  looked-edge = (at s source.place, edge)

-- a list after its last item is removed
pub popped-is : {X : Type 0} (taken : Option X) (old new front : List X) (x : X)
    → MatchOption taken ((old ≡ []) × (new ≡ [])) (λ last. old ≡ new ++ last ∷ []) → old ≡ front ++ x ∷ [] → new ≡ front
popped-is None old new front x k e = absurd (omega (arith, ap length e, length_push front x, ap length k.0))
popped-is (Some last) old new front x k e = (same_from_push new front last x (sym k ∙ e)).0
