-- A stack with a choice added: the demands that would become Yes, and the edges of all that would be active.
use Rattle.std.proofs.Common.{◌≡◌, ◌↔◌, ℕ, ◌+◌, length, take, drop, Bool, true, false, cond, List, [], ◌∷◌, ◌++◌, Some, None, find, refl, sym, ap, ◌∙◌, subst, inl, inr, ◌⊎◌, length-append}
use Rattle.std.specs.List.{Contains, list_any, slice_get}
use Rattle.std.proofs.lemmas.Bool.{false≢true}
use Rattle.std.proofs.lemmas.Grind.{flat_map-append}
use Rattle.std.proofs.lemmas.List.Elements.{filter-append, All-contains}
use Rattle.std.proofs.Math.Seq.{take-append_seam, drop-append_seam}
use Rattle.qualified_goals.specs.declared.variable.Var.{Var}
use Rattle.qualified_goals.specs.Variable.{same_var}
use Rattle.qualified_goals.specs.SameVariable.{same_var-is, same_var-refl}
use Rattle.choice_problem.specs.declared.problem.Choice.{Choice}
use Rattle.choice_problem.specs.declared.problem.Demand.{Demand}
use Rattle.choice_problem.specs.Problem.{Problem, IsChoice, IsOwned, Lawful}
use Rattle.choice_problem.specs.Conflict.{Edge, edges_by, edges_of, is_broken, set_of_first, lasting_set, first_clash}
use Rattle.common_laws.specs.Lists.{contains-head, contains-tail, contains-append, contains-left, contains-right, contains-filter}
use Rattle.demand_cycles.specs.Cycles.{HasEdge}
use Rattle.validation.specs.View.{View}
use Rattle.choice_stack.specs.Stack.{front_of, is_first, is_owned_by, is_turned, made, names, targets_by, turned}
use Rattle.choice_stack.specs.declared.addition.Addition.{Addition}
use Rattle.validation.specs.Pending.{ArePending, AreOwned, count_before, first_broken}
use Rattle.choice_stack.proofs.DemandGraphs.{edge-names, edge-owned}
use Rattle.choice_stack.proofs.OpenVariables.{get-front, get-right}
use Rattle.choice_stack.proofs.StackLemmas.{front-of, last-number}

-- the first broken demand

pub first-left : (test : Demand → Bool) (xs ys : List Demand) (set : List Var) → set_of_first (find test xs) ≡ Some set → set_of_first (find test (xs ++ ys)) ≡ Some set
first-left test [] ys set h = absurd (cc h)
first-left test (x ∷ xs) ys set h =
    elim (test x) as (λ b. set_of_first (cond b (Some x) (find test xs)) ≡ Some set → set_of_first (cond b (Some x) (find test (xs ++ ys))) ≡ Some set) [
      | true ↦ λ e. e
      | false ↦ λ e. first-left test xs ys set e
    ] h

pub first-right : (test : Demand → Bool) (xs ys : List Demand) → set_of_first (find test xs) ≡ None → set_of_first (find test (xs ++ ys)) ≡ set_of_first (find test ys)
first-right test [] ys h = refl
first-right test (x ∷ xs) ys h =
    elim (test x) as (λ b. set_of_first (cond b (Some x) (find test xs)) ≡ None → set_of_first (cond b (Some x) (find test (xs ++ ys))) ≡ set_of_first (find test ys)) [
      | true ↦ λ e. absurd (cc e)
      | false ↦ λ e. first-right test xs ys e
    ] h

-- edges of two lists of demands

pub edge-either : (xs ys : List Demand) (v w : Var) → HasEdge (edges_of (xs ++ ys)) v w → HasEdge (edges_of xs) v w ⊎ HasEdge (edges_of ys) v w
edge-either xs ys v w (e, within, from, to) =
    elim (contains-append (edges_of xs) (edges_of ys) e (subst (λ (l : List Edge). Contains l e) (flat_map-append edges_by xs ys) within)) [
      | inl k ↦ inl (e, k, from, to)
      | inr k ↦ inr (e, k, from, to)
    ]

pub edge-left : (xs ys : List Demand) (v w : Var) → HasEdge (edges_of xs) v w → HasEdge (edges_of (xs ++ ys)) v w
edge-left xs ys v w (e, within, from, to) =
    (e, subst (λ (l : List Edge). Contains l e) (sym (flat_map-append edges_by xs ys)) (contains-left (edges_of xs) (edges_of ys) e within), from, to)

pub edge-right : (xs ys : List Demand) (v w : Var) → HasEdge (edges_of ys) v w → HasEdge (edges_of (xs ++ ys)) v w
edge-right xs ys v w (e, within, from, to) =
    (e, subst (λ (l : List Edge). Contains l e) (sym (flat_map-append edges_by xs ys)) (contains-right (edges_of xs) (edges_of ys) e within), from, to)

-- a demand that one variable owns, another one doesn't
pub none-owned : (demands : List Demand) (u v : Var) → AreOwned u demands → same_var u v ≡ false → targets_by v demands ≡ []
none-owned [] u v owned other = refl
none-owned (d ∷ demands) u v owned other =
    let own : is_owned_by v d ≡ false = first-other d.when u v (owned d (contains-head d demands)) other in
    ap (λ b. cond b (d.target ∷ []) [] ++ targets_by v demands) own
    ∙ none-owned demands u v (λ e k. owned e (contains-tail d demands e k)) other
  where
    first-other : (when : List Choice) (u v : Var) → is_first u when ≡ true → same_var u v ≡ false → is_first v when ≡ false
    first-other [] u v h other = refl
    first-other (owner ∷ others) u v h other = ap (λ w. same_var w v) (same_var-is owner.var u h) ∙ other

-- members found in three lists are those of all
pub found-joined : (R : List Demand → Var → Type 0) → ((xs ys : List Demand) (v : Var) → R (xs ++ ys) v → R xs v ⊎ R ys v)
    → ((xs ys : List Demand) (v : Var) → R xs v → R (xs ++ ys) v) → ((xs ys : List Demand) (v : Var) → R ys v → R (xs ++ ys) v)
    → (active woken fresh : List Demand) (first second third : List Var) → ((v : Var) → (Contains first v) ↔ (R active v)) → ((v : Var) → (Contains second v) ↔ (R woken v))
    → ((v : Var) → (Contains third v) ↔ (R fresh v)) → (v : Var) → (Contains (first ++ (second ++ third)) v) ↔ (R (active ++ (woken ++ fresh)) v)
found-joined R either left right active woken fresh first second third a b c v = (
  λ h. elim (contains-append first (second ++ third) v h) [
    | inl k ↦ left active (woken ++ fresh) v ((a v).0 k)
    | inr k ↦ right active (woken ++ fresh) v (elim (contains-append second third v k) [
      | inl l ↦ left woken fresh v ((b v).0 l)
      | inr r ↦ right woken fresh v ((c v).0 r)
    ])
  ],
  λ h. elim (either active (woken ++ fresh) v h) [
    | inl k ↦ contains-left first (second ++ third) v ((a v).1 k)
    | inr k ↦ contains-right first (second ++ third) v (elim (either woken fresh v k) [
      | inl l ↦ contains-left second third v ((b v).1 l)
      | inr r ↦ contains-right second third v ((c v).1 r)
    ])
  ],
)

-- a pending choice

module _ (s : View) (c : Choice) (demands : List Demand) where
  pub before-is : count_before (made s c demands) ≡ length s.active
  before-is = last-number s.active_before (length s.active)

  pub weighed-lasting : lasting_set s.trail s.active ≡ None
      → lasting_set (front_of (made s c demands).trail) (take (count_before (made s c demands)) (made s c demands).active) ≡ None
  weighed-lasting h =
      ap (λ (t : List Choice). lasting_set t (take (count_before (made s c demands)) (made s c demands).active)) (front-of s.trail c)
      ∙ ap (λ (n : ℕ). lasting_set s.trail (take n (made s c demands).active)) before-is
      ∙ ap (lasting_set s.trail) (take-append_seam s.active (turned (s.trail ++ c ∷ []) c.var (s.listed ++ demands))) ∙ h

  pub weighed-clash : first_clash (front_of (made s c demands).trail) (take (count_before (made s c demands)) (made s c demands).active) ≡ first_clash s.trail s.active
  weighed-clash =
      ap (λ (t : List Choice). first_clash t (take (count_before (made s c demands)) (made s c demands).active)) (front-of s.trail c)
      ∙ ap (λ (n : ℕ). first_clash s.trail (take n (made s c demands).active)) before-is
      ∙ ap (first_clash s.trail) (take-append_seam s.active (turned (s.trail ++ c ∷ []) c.var (s.listed ++ demands)))

module _ (s : View) (a : Addition) (woken fresh : List Demand) (count : ℕ) (h : ArePending s a woken fresh count) where
  pub pending-active : (made s a.choice a.demands).active ≡ s.active ++ (woken ++ fresh)
  pending-active =
      let trail = s.trail ++ a.choice ∷ [] in
      ap (λ l. s.active ++ l) (filter-append (is_turned trail a.choice.var) s.listed a.demands ∙ ap (λ l. l ++ turned trail a.choice.var a.demands) (sym h.woken_is) ∙ ap (λ l. woken ++ l) (sym h.fresh_is))

  pub pending-count : count ≡ length (made s a.choice a.demands).active
  pending-count =
      h.counted ∙ ap (λ n. length s.active + n) (sym (length-append woken fresh)) ∙ sym (length-append s.active (woken ++ fresh)) ∙ ap length (sym pending-active)

  pub pending-length : length (made s a.choice a.demands).active ≡ length s.active + (length woken + length fresh)
  pending-length = sym pending-count ∙ h.counted

  -- the demand at a place
  pub pending-first : (n : ℕ) (d : Demand) → slice_get s.active n ≡ Some d → slice_get (made s a.choice a.demands).active n ≡ Some d
  pending-first n d e = ap (λ (l : List Demand). slice_get l n) pending-active ∙ get-front s.active (woken ++ fresh) n d e

  pub pending-second : (n k : ℕ) (d : Demand) → n ≡ length s.active + k → slice_get woken k ≡ Some d → slice_get (made s a.choice a.demands).active n ≡ Some d
  pending-second n k d is e =
      ap (λ (l : List Demand). slice_get l n) pending-active ∙ ap (slice_get (s.active ++ (woken ++ fresh))) is
      ∙ get-right s.active (woken ++ fresh) k ∙ get-front woken fresh k d e

  pub pending-third : (n k : ℕ) (d : Demand) → n ≡ length s.active + (length woken + k) → slice_get fresh k ≡ Some d → slice_get (made s a.choice a.demands).active n ≡ Some d
  pending-third n k d is e =
      ap (λ (l : List Demand). slice_get l n) pending-active ∙ ap (slice_get (s.active ++ (woken ++ fresh))) is
      ∙ get-right s.active (woken ++ fresh) (length woken + k) ∙ get-right woken fresh k ∙ e

  pub pending-broken : set_of_first (find (is_broken (s.trail ++ a.choice ∷ [])) (woken ++ fresh)) ≡ set_of_first (first_broken (made s a.choice a.demands))
  pending-broken =
      ap (λ (l : List Demand). set_of_first (find (is_broken (s.trail ++ a.choice ∷ [])) l))
      (sym (ap (λ n. drop n (made s a.choice a.demands).active) (before-is s a.choice a.demands) ∙ ap (drop (length s.active)) pending-active ∙ drop-append_seam s.active (woken ++ fresh)))

  pub fresh-owned : AreOwned a.choice.var fresh
  fresh-owned d k = h.owned d (contains-filter (is_turned (s.trail ++ a.choice ∷ []) a.choice.var) a.demands d (subst (λ (ds : List Demand). Contains ds d) h.fresh_is k)).0

  pub pending-chosen : (v w : Var) → same_var a.choice.var v ≡ false → HasEdge (edges_of (made s a.choice a.demands).active) v w → list_any (names v) s.listed ≡ true
  pending-chosen v w other edge =
      let trail = s.trail ++ a.choice ∷ [] in
      elim (edge-either s.active (woken ++ fresh) v w (subst (λ (ds : List Demand). HasEdge (edges_of ds) v w) pending-active edge)) [
        | inl k ↦ edge-names s.active s.listed v w (λ d in'. ((h.settled d).0 in').0) k
        | inr k ↦ elim (edge-either woken fresh v w k) [
          | inl l ↦ edge-names woken s.listed v w (λ d in'. (contains-filter (is_turned trail a.choice.var) s.listed d (subst (λ (ds : List Demand). Contains ds d) h.woken_is in')).0) l
          | inr r ↦
              let own = edge-owned fresh a.choice.var v w fresh-owned r in
              absurd (false≢true (sym other ∙ own))
        ]
      ]

-- a choice owns its demands
pub demands-owned : (p : Problem) (c : Choice) (demands : List Demand) → Lawful p → IsChoice p c → demands ≡ p.demands c → AreOwned c.var demands
demands-owned p c demands lawful choice is d k =
    let owned = All-contains (IsOwned p c) (p.demands c) d (lawful.demands c choice) (subst (λ (ds : List Demand). Contains ds d) is k) in
    ap (is_first c.var) owned.condition ∙ same_var-refl c.var
