-- Shared: walks along edges, and the test that bounds their length.
use Rattle.std.proofs.Common.{◌≡◌, ℕ, zero, suc, ◌<◌, ◌≤◌, Bool, true, false, cond, not, ◌&&◌, List, [], ◌∷◌, ◌++◌, length, refl, sym, ap, ◌∙◌, subst, inl, inr, ◌⊎◌, arith}
use Rattle.std.specs.List.{Contains, filter, list_any}
use Rattle.std.proofs.lemmas.Bool.{false≢true, or_cases, or_left, or_right, and_parts, and_from}
use Rattle.qualified_goals.specs.declared.variable.Var.{Var}
use Rattle.qualified_goals.specs.Variable.{same_var}
use Rattle.choice_problem.specs.Conflict.{Edge, leads}
use Rattle.qualified_goals.specs.SameVariable.{same_var-is, same_var-refl}
use Rattle.common_laws.specs.Lists.{contains-none, contains-cases, contains-filter, filter-contains, any-from, any-at}

filter-short : {X : Type 0} (test : X → Bool) (xs : List X) → length (filter test xs) ≤ length xs
filter-short test [] = omega arith
filter-short test (y ∷ xs) =
    elim (test y) as (λ b. length (cond b (y ∷ filter test xs) (filter test xs)) ≤ suc (length xs)) [
      | true ↦ omega (arith, filter-short test xs)
      | false ↦ omega (arith, filter-short test xs)
    ]

-- an item that doesn't pass makes it shorter
filter-shorter : {X : Type 0} (test : X → Bool) (xs : List X) (x : X) → Contains xs x → test x ≡ false → length (filter test xs) < length xs
filter-shorter test [] x h k = absurd (contains-none x h)
filter-shorter test (y ∷ xs) x h k =
    elim (test y) as (λ b. test y ≡ b → length (cond b (y ∷ filter test xs) (filter test xs)) < suc (length xs)) [
      | true ↦ λ is. elim (contains-cases y xs x h) [
        | inl e ↦ absurd (false≢true (sym k ∙ ap test (sym e) ∙ is))
        | inr r ↦ omega (arith, filter-shorter test xs x r k)
      ]
      | false ↦ λ is. omega (arith, filter-short test xs)
    ] refl

-- a list parted at one of its members
pub parted : {X : Type 0} (xs : List X) (x : X) → Contains xs x → (front : List X) × (rest : List X) × (xs ≡ front ++ x ∷ rest)
parted [] x h = absurd (contains-none x h)
parted (y ∷ xs) x h =
    elim (contains-cases y xs x h) [
      | inl e ↦ ([], xs, ap (λ z. z ∷ xs) e)
      | inr r ↦ let tail = parted xs x r in (y ∷ tail.0, tail.1, ap (λ l. y ∷ l) tail.2)
    ]

-- no edge, or one after another
pub data Way (edges : List Edge) : Var → Var → Type 0 where
  start : {v w : Var} → v ≡ w → Way edges v w
  step : {v w : Var} → (e : Edge) → Contains edges e → e.from ≡ v → Way edges e.to w → Way edges v w

pub way-edge : (edges : List Edge) (e : Edge) → Contains edges e → Way edges e.from e.to
way-edge edges e h = step e h refl (start refl)

pub way-join : (edges : List Edge) (u v w : Var) → Way edges u v → Way edges v w → Way edges u w
way-join edges u v w (start e) b = subst (λ x. Way edges x w) (sym e) b
way-join edges u v w (step e h k a) b = step e h k (way-join edges e.to v w a b)

pub way-more : (edges more : List Edge) (v w : Var) → ((e : Edge) → Contains edges e → Contains more e) → Way edges v w → Way more v w
way-more edges more v w all (start e) = start e
way-more edges more v w all (step e h k a) = step e (all e h) k (way-more edges more e.to w all a)

pub leads-way : (n : ℕ) (edges : List Edge) (v w : Var) → leads n edges v w ≡ true → Way edges v w
leads-way zero edges v w h = start (same_var-is v w h)
leads-way (suc n) edges v w h =
    elim (or_cases (same_var v w) (list_any (λ e. same_var e.from v && leads n edges e.to w) edges) h) [
      | inl same ↦ start (same_var-is v w same)
      | inr any ↦
          let found = any-at (λ (e : Edge). same_var e.from v && leads n edges e.to w) edges any in
          let e = found.0 in
          step e found.1 (same_var-is e.from v ((and_parts (same_var e.from v) (leads n edges e.to w) found.2).0))
          (leads-way n edges e.to w ((and_parts (same_var e.from v) (leads n edges e.to w) found.2).1))
    ]

leads-start : (n : ℕ) (edges : List Edge) (v w : Var) → v ≡ w → leads n edges v w ≡ true
leads-start zero edges v w h = subst (λ x. same_var v x ≡ true) h (same_var-refl v)
leads-start (suc n) edges v w h =
    or_left (same_var v w) (list_any (λ e. same_var e.from v && leads n edges e.to w) edges) (subst (λ x. same_var v x ≡ true) h (same_var-refl v))

leads-step : (n : ℕ) (edges : List Edge) (v w : Var) (e : Edge) → Contains edges e → e.from ≡ v → leads n edges e.to w ≡ true → leads (suc n) edges v w ≡ true
leads-step n edges v w e h k rest =
    or_right (same_var v w) (list_any (λ e. same_var e.from v && leads n edges e.to w) edges)
    (any-from (λ (e : Edge). same_var e.from v && leads n edges e.to w) edges e h
    (and_from (same_var e.from v) (leads n edges e.to w) (subst (λ x. same_var e.from x ≡ true) k (same_var-refl e.from)) rest))

-- more edges lead as far
leads-more : (n : ℕ) (edges more : List Edge) (v w : Var) → ((e : Edge) → Contains edges e → Contains more e) → leads n edges v w ≡ true → leads n more v w ≡ true
leads-more zero edges more v w all h = h
leads-more (suc n) edges more v w all h =
    elim (or_cases (same_var v w) (list_any (λ e. same_var e.from v && leads n edges e.to w) edges) h) [
      | inl same ↦ leads-start (suc n) more v w (same_var-is v w same)
      | inr any ↦
          let found = any-at (λ (e : Edge). same_var e.from v && leads n edges e.to w) edges any in
          let e = found.0 in
          leads-step n more v w e (all e found.1) (same_var-is e.from v ((and_parts (same_var e.from v) (leads n edges e.to w) found.2).0))
          (leads-more n edges more e.to w all ((and_parts (same_var e.from v) (leads n edges e.to w) found.2).1))
    ]

-- the edges that leave other variables than v
abbrev elsewhere : Var → List Edge → List Edge
elsewhere v edges = filter (λ e. not (same_var e.from v)) edges

-- an edge that leaves v, and a way on that never does
record Leaves (edges : List Edge) (v w : Var) : Type 0 where
  edge : Edge
  member : Contains edges edge
  from : edge.from ≡ v
  rest : Way (elsewhere v edges) edge.to w

-- a way never leaves v, or leaves it a last time
leaves : (edges : List Edge) (v u w : Var) → Way edges u w → Way (elsewhere v edges) u w ⊎ Leaves edges v w
leaves edges v u w (start e) = inl (start e)
leaves edges v u w (step e h k a) =
    elim (leaves edges v e.to w a) [
      | inl way ↦ elim (same_var e.from v) as (λ b. same_var e.from v ≡ b → Way (elsewhere v edges) u w ⊎ Leaves edges v w) [
        | true ↦ λ is. inr (record { edge = e; member = h; from = same_var-is e.from v is; rest = way })
        | false ↦ λ is. inl (step e (filter-contains (λ (e : Edge). not (same_var e.from v)) edges e h (ap not is)) k way)
      ] refl
      | inr found ↦ inr found
    ]

kept : (edges : List Edge) (v : Var) (e : Edge) → Contains (elsewhere v edges) e → Contains edges e × (not (same_var e.from v) ≡ true)
kept edges v e h = contains-filter (λ (e : Edge). not (same_var e.from v)) edges e h

-- a way that never leaves where it starts ends there
stays : (edges : List Edge) (v w : Var) → Way (elsewhere v edges) v w → v ≡ w
stays edges v w (start e) = e
stays edges v w (step e h k a) =
    absurd (false≢true (sym (ap not (subst (λ x. same_var e.from x ≡ true) k (same_var-refl e.from))) ∙ (kept edges v e h).1))

way-within : (n : ℕ) (edges : List Edge) (v w : Var) → length edges ≤ n → Way edges v w → leads n edges v w ≡ true
way-within zero edges v w short way =
    elim (leaves edges v v w way) [
      | inl stay ↦ leads-start zero edges v w (stays edges v w stay)
      | inr out ↦ absurd (omega (arith, out.member.1, short))
    ]
way-within (suc n) edges v w short way =
    elim (leaves edges v v w way) [
      | inl stay ↦ leads-start (suc n) edges v w (stays edges v w stay)
      | inr out ↦
          let left = ap not (subst (λ x. same_var out.edge.from x ≡ true) out.from (same_var-refl out.edge.from)) in
          let less = filter-shorter (λ (e : Edge). not (same_var e.from v)) edges out.edge out.member left in
          leads-step n edges v w out.edge out.member out.from
          (leads-more n (elsewhere v edges) edges out.edge.to w (λ e h. (kept edges v e h).0)
          (way-within n (elsewhere v edges) out.edge.to w (omega (arith, less, short)) out.rest))
    ]

-- no way is longer than there are edges
pub way-leads : (edges : List Edge) (v w : Var) → Way edges v w → leads (length edges) edges v w ≡ true
way-leads edges v w way = way-within (length edges) edges v w (omega arith) way
