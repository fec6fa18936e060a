-- The users of each node, as the nodes are read one by one.
use Rattle.std.proofs.Common.{◌≡◌, ◌<◌, ◌≤◌, ◌+◌, ◌||◌, ◌&&◌, ◌⊎◌, inl, inr, ⊎_elim, ℕ, zero, suc, Bool, true, false, not, cond, List, [], ◌∷◌, ◌++◌, length, map, take, get_or, set, refl, sym, subst, ap, ◌∙◌, arith, length-append, take_all}
use Rattle.std.specs.Prelude.{◌↔◌, ◌==◌, Contains, All, count_by, flat_map}
use Rattle.std.specs.List.{list_any}
use Rattle.std.proofs.lemmas.Bool.{cases_eq, cases_lt, or_cases, or_left, or_right}
use Rattle.std.proofs.lemmas.List.{get_or-set_same, get_or-set_other, length-set, map-append, take_more}
use Rattle.std.proofs.lemmas.List.Folds.{list_any-append}
use Rattle.std.proofs.lemmas.List.Elements.{Contains-append_left, Contains-get_or, Contains-push, Contains-push_cases}
use Rattle.std.proofs.lemmas.List.Sums.{sum_by-append, sum_by-cons}
use Rattle.keyed_lists.specs.Lists.{items_at}
use Rattle.plan_types.specs.Bytes.{same_text}
use Rattle.common_laws.specs.Lists.{contains-none, contains-cases, contains-head, contains-tail, contains-append, contains-left, contains-right}
use Rattle.plan_nodes.specs.Line.{no_line}
use Rattle.plan_nodes.specs.declared.node.PlanNode.{PlanNode}
use Rattle.plan_jobs.specs.declared.job.JobState.{JobState}
use Rattle.plan_jobs.specs.declared.needs.Needs.{Needs}
use Rattle.plan_jobs.specs.Events.{NeedsNode, is_installed, node_at, lists_id}
use Rattle.plan_jobs.specs.Board.{IsUser, is_completed, is_open, open_needs, times, with_user}
use Rattle.plan_jobs.specs.Building.{AddsPlace, AreOf, first_state, listed_places}
use Rattle.plan_jobs.proofs.Counts.{other_place, same_place, some_open}
use Rattle.plan_jobs.proofs.Replies.{needs_within}

-- the tables of the first k nodes
pub record IsRead (nodes : List PlanNode) (k : ℕ) (needs : Needs) : Type 0 where
  pub states : needs.states ≡ map first_state (take k nodes)
  pub reached : length needs.states ≡ k
  pub count : length needs.users.items ≡ k
  pub users : (user place : ℕ) → IsUser needs.users.items user place ↔ NeedsNode nodes user place × (user < k)
  pub unmet : (place : ℕ) → place < k → get_or needs.unmet place 0 ≡ open_needs needs.users.items needs.states place
  pub counts : length needs.unmet ≡ k
  pub places : (id : List ℕ) (place : ℕ) → Contains (items_at same_text needs.places id) place ↔ (place < k) × (same_text (node_at nodes place).id id ≡ true)

past_end : {X : Type 0} (xs : List X) (i : ℕ) (d : X) → get_or (xs ++ d ∷ []) i d ≡ get_or xs i d
past_end [] zero d = refl
past_end [] (suc i) d = refl
past_end (x ∷ xs) zero d = refl
past_end (x ∷ xs) (suc i) d = past_end xs i d

at_end : (xs : List ℕ) (x d : ℕ) → get_or (xs ++ x ∷ []) (length xs) d ≡ x
at_end [] x d = refl
at_end (y ∷ xs) x d = at_end xs x d

in_front : (xs : List ℕ) (x i d : ℕ) → i < length xs → get_or (xs ++ x ∷ []) i d ≡ get_or xs i d
in_front [] x i d lt = absurd (omega (arith, lt))
in_front (y ∷ xs) x zero d lt = refl
in_front (y ∷ xs) x (suc i) d lt = in_front xs x i d (omega (arith, lt))

append-nil : {X : Type 0} (xs : List X) → xs ++ [] ≡ xs
append-nil [] = refl
append-nil (x ∷ xs) = ap (λ l. x ∷ l) (append-nil xs)

-- the users after one more entry of a list
user_more : (users : List (List ℕ)) (user place : ℕ) → place < length users → (a b : ℕ)
    → IsUser (set users place (get_or users place [] ++ user ∷ [])) a b ↔ IsUser users a b ⊎ ((a ≡ user) × (b ≡ place))
user_more users user place lt a b =
    let list = get_or users place [] ++ user ∷ [] in
    ⊎_elim
    (λ e.
    let here : get_or (set users place list) b [] ≡ list = ap (λ k. get_or (set users place list) k []) e ∙ get_or-set_same users place list [] lt in
    let was : get_or users b [] ≡ get_or users place [] = ap (λ k. get_or users k []) e in (
      (λ c. ⊎_elim (λ o. inl (subst (λ l. Contains l a) (sym was) o)) (λ s. inr (sym s, e)) (Contains-push_cases (get_or users place []) user a (subst (λ l. Contains l a) here c))),
      λ c. subst (λ l. Contains l a) (sym here) (⊎_elim
          (λ o. Contains-append_left (get_or users place []) (user ∷ []) a (subst (λ l. Contains l a) was o))
          (λ s. subst (λ k. Contains list k) (sym s.0) (Contains-push (get_or users place []) user)) c),
    ))
    (λ n.
    let stays = get_or-set_other users place b list [] n in (
      (λ c. inl (subst (λ l. Contains l a) stays c)),
      λ c. ⊎_elim (λ o. subst (λ l. Contains l a) (sym stays) o) (λ s. absurd (n s.1)) c,
    ))
    (cases_eq b place)

with_count : (user : ℕ) (places : List ℕ) (users : List (List ℕ)) → length (with_user user users places) ≡ length users
with_count user [] users = refl
with_count user (p ∷ places) users = with_count user places _ ∙ length-set users p _

tail_within : (n p : ℕ) (places : List ℕ) → All (λ q. q < n) (p ∷ places) → All (λ q. q < n) places
tail_within n p places all k d lt = all (suc k) d (omega (arith, lt))

head_within : (n p : ℕ) (places : List ℕ) → All (λ q. q < n) (p ∷ places) → p < n
head_within n p places all = all 0 0 (omega arith)

with_users : (user : ℕ) (places : List ℕ) (users : List (List ℕ)) → All (λ p. p < length users) places → (a b : ℕ)
    → IsUser (with_user user users places) a b ↔ IsUser users a b ⊎ ((a ≡ user) × Contains places b)
with_users user [] users all a b = ((λ c. inl c), λ c. ⊎_elim (λ o. o) (λ s. absurd (contains-none b s.1)) c)
with_users user (p ∷ places) users all a b =
    let next = set users p (get_or users p [] ++ user ∷ []) in
    let same : length next ≡ length users = length-set users p (get_or users p [] ++ user ∷ []) in
    let rest = with_users user places next (subst (λ n. All (λ q. q < n) places) (sym same) (tail_within (length users) p places all)) a b in
    let one = user_more users user p (head_within (length users) p places all) a b in (
      (λ c. ⊎_elim
          (λ o. ⊎_elim (λ u. inl u) (λ s. inr (s.0, subst (λ k. Contains (p ∷ places) k) (sym s.1) (contains-head p places))) (one.0 o))
          (λ s. inr (s.0, contains-tail p places b s.1))
          (rest.0 c)),
      λ c. rest.1 (⊎_elim
          (λ o. inl (one.1 (inl o)))
          (λ s. ⊎_elim (λ e. inl (one.1 (inr (s.0, sym e)))) (λ i. inr (s.0, i)) (contains-cases p places b s.1))
          c),
    )

-- a changed list that counts a user as often leaves the user's count of needs
open_list : (users : List (List ℕ)) (states : List JobState) (place user : ℕ) (list : List ℕ) → times user list ≡ times user (get_or users place [])
    → open_needs (set users place list) states user ≡ open_needs users states user
open_list [] states place user list e = refl
open_list (l ∷ users) [] zero user list e = refl
open_list (l ∷ users) [] (suc place) user list e = refl
open_list (l ∷ users) (s ∷ states) zero user list e = ap (λ n. cond (is_completed s) 0 n + open_needs users states user) e
open_list (l ∷ users) (s ∷ states) (suc place) user list e = ap (λ n. cond (is_completed s) 0 (times user l) + n) (open_list users states place user list e)

open_one : (users : List (List ℕ)) (states : List JobState) (place user : ℕ) (list : List ℕ) → length users ≡ length states → place < length users
    → times user list ≡ times user (get_or users place []) + 1 → open_needs (set users place list) states user ≡ open_needs users states user + cond (is_open states place) 1 0
open_one [] states place user list same lt e = absurd (omega (arith, lt))
open_one (l ∷ users) [] place user list same lt e = absurd (omega (arith, same))
open_one (l ∷ users) (s ∷ states) zero user list same lt e =
    elim (is_completed s) as (λ b. cond b 0 (times user list) + open_needs users states user ≡ cond b 0 (times user l) + open_needs users states user + cond (not b) 1 0) [
      | true ↦ omega arith
      | false ↦ omega (arith, e)
    ]
open_one (l ∷ users) (s ∷ states) (suc place) user list same lt e =
    let k = open_one users states place user list (omega (arith, same)) (omega (arith, lt)) e in omega (arith, k)

times_push : (list : List ℕ) (user other : ℕ) → times other (list ++ user ∷ []) ≡ times other list + times other (user ∷ [])
times_push list user other = sum_by-append (λ o. cond (o == other) 1 0) list (user ∷ [])

open_other : (states : List JobState) (user other : ℕ) → (user ≡ other → ⊥) → (places : List ℕ) (users : List (List ℕ)) → open_needs (with_user user users places) states other ≡ open_needs users states other
open_other states user other n [] users = refl
open_other states user other n (p ∷ places) users =
    let list = get_or users p [] ++ user ∷ [] in
    let e = times_push (get_or users p []) user other in
    let one : times other (user ∷ []) ≡ 0 = ap (λ b. 0 + cond b 1 0) (other_place user other n) in
    open_other states user other n places (set users p list) ∙ open_list users states p other list (omega (arith, e, one))

open_own : (states : List JobState) (user : ℕ) (places : List ℕ) (users : List (List ℕ)) → length users ≡ length states → All (λ p. p < length users) places
    → open_needs (with_user user users places) states user ≡ open_needs users states user + count_by (is_open states) places
open_own states user [] users same all = omega arith
open_own states user (p ∷ places) users same all =
    let list = get_or users p [] ++ user ∷ [] in
    let e = times_push (get_or users p []) user user in
    let one : times user (user ∷ []) ≡ 1 = ap (λ b. 0 + cond b 1 0) (same_place user user refl) in
    let count : length (set users p list) ≡ length users = length-set users p list in
    let here = open_one users states p user list same (head_within (length users) p places all) (omega (arith, e, one)) in
    let rest = open_own states user places (set users p list) (count ∙ same) (subst (λ n. All (λ q. q < n) places) (sym count) (tail_within (length users) p places all)) in
    let first : count_by (is_open states) (p ∷ places) ≡ cond (is_open states p) 1 0 + count_by (is_open states) places = sum_by-cons (λ q. cond (is_open states q) 1 0) p places in
    omega (arith, here, rest, first)

open_push : (users : List (List ℕ)) (states : List JobState) (state : JobState) (user : ℕ) → length users ≡ length states
    → open_needs (users ++ [] ∷ []) (states ++ state ∷ []) user ≡ open_needs users states user
open_push [] [] state user same = elim (is_completed state) as (λ b. cond b 0 0 + 0 ≡ 0) [ true ↦ refl | false ↦ refl ]
open_push [] (s ∷ states) state user same = absurd (omega (arith, same))
open_push (l ∷ users) [] state user same = absurd (omega (arith, same))
open_push (l ∷ users) (s ∷ states) state user same = ap (λ n. cond (is_completed s) 0 (times user l) + n) (open_push users states state user (omega (arith, same)))

-- the places of the needed identifiers
module _ (nodes : List PlanNode) (k : ℕ) (needs : Needs) (r : IsRead nodes k needs) where
  found : (ids : List (List ℕ)) (place : ℕ) → Contains (flat_map (items_at same_text needs.places) ids) place ↔ (place < k) × (list_any (same_text (node_at nodes place).id) ids ≡ true)
  found [] place = ((λ c. absurd (contains-none place c)), λ c. absurd (let e = c.1 in cc))
  found (id ∷ ids) place =
      let here = r.places id place in
      let rest = found ids place in
      let test = same_text (node_at nodes place).id in (
        (λ c. ⊎_elim
            (λ l. let p = here.0 l in (p.0, or_left (test id) (list_any test ids) p.1))
            (λ l. let p = rest.0 l in (p.0, or_right (test id) (list_any test ids) p.1))
            (contains-append (items_at same_text needs.places id) (flat_map (items_at same_text needs.places) ids) place c)),
        λ c. ⊎_elim
            (λ e. contains-left (items_at same_text needs.places id) (flat_map (items_at same_text needs.places) ids) place (here.1 (c.0, e)))
            (λ e. contains-right (items_at same_text needs.places id) (flat_map (items_at same_text needs.places) ids) place (rest.1 (c.0, e)))
            (or_cases (test id) (list_any test ids) c.1),
      )

  module _ (node : PlanNode) where
    abbrev libs : List ℕ
    libs = flat_map (items_at same_text needs.places) node.libs

    abbrev tools : List ℕ
    tools = flat_map (items_at same_text needs.places) node.tools

    abbrev setups : List ℕ
    setups = flat_map (items_at same_text needs.places) node.setups

    in_lists : (place : ℕ) → Contains (libs ++ tools ++ setups) place ↔ (place < k) × (list_any (same_text (node_at nodes place).id) (node.libs ++ node.tools ++ node.setups) ≡ true)
    in_lists place =
        let test = same_text (node_at nodes place).id in
        let a = list_any test node.libs in
        let b = list_any test node.tools in
        let d = list_any test node.setups in
        let e : list_any test (node.libs ++ node.tools ++ node.setups) ≡ (a || b) || d =
        list_any-append test (node.libs ++ node.tools) node.setups ∙ ap (λ x. x || d) (list_any-append test node.libs node.tools) in (
          (λ c. ⊎_elim
              (λ l. ⊎_elim
              (λ l. let p = (found node.libs place).0 l in (p.0, e ∙ or_left (a || b) d (or_left a b p.1)))
              (λ l. let p = (found node.tools place).0 l in (p.0, e ∙ or_left (a || b) d (or_right a b p.1)))
              (contains-append libs tools place l))
              (λ l. let p = (found node.setups place).0 l in (p.0, e ∙ or_right (a || b) d p.1))
              (contains-append (libs ++ tools) setups place c)),
          λ c. ⊎_elim
              (λ t. contains-left (libs ++ tools) setups place (⊎_elim
              (λ t. contains-left libs tools place ((found node.libs place).1 (c.0, t)))
              (λ t. contains-right libs tools place ((found node.tools place).1 (c.0, t)))
              (or_cases a b t)))
              (λ t. contains-right (libs ++ tools) setups place ((found node.setups place).1 (c.0, t)))
              (or_cases (a || b) d (sym e ∙ c.1)),
        )

    pub wanted_in : (place : ℕ) → Contains (listed_places needs.places node) place ↔ (place < k) × (lists_id node (node_at nodes place).id ≡ true)
    wanted_in place =
        elim (is_installed node.kind) as (λ b. Contains (cond b [] (libs ++ tools ++ setups)) place
        ↔ (place < k) × (not b && list_any (same_text (node_at nodes place).id) (node.libs ++ node.tools ++ node.setups) ≡ true)) [
          | true ↦ ((λ c. absurd (contains-none place c)), λ c. absurd (let e = c.1 in cc))
          | false ↦ in_lists place
        ]

    pub wanted_within : All (λ place. place < k) (listed_places needs.places node)
    wanted_within i d lt = ((wanted_in (get_or (listed_places needs.places node) i d)).0 (Contains-get_or (listed_places needs.places node) i d lt)).0

  module _ (new : Needs) (lt : k < length nodes) where
    abbrev node : PlanNode
    node = node_at nodes k

    abbrev list : List ℕ
    list = listed_places needs.places node

    module _ (places : AddsPlace needs.places node.id k new.places) (users : new.users.items ≡ with_user k needs.users.items list ++ [] ∷ [])
        (states : new.states ≡ needs.states ++ first_state node ∷ []) (unmet : new.unmet ≡ needs.unmet ++ count_by (is_open needs.states) list ∷ []) where
      inside : All (λ place. place < length needs.users.items) list
      inside = subst (λ n. All (λ place. place < n) list) (sym r.count) (wanted_within node)

      same : length needs.users.items ≡ length needs.states
      same = r.count ∙ sym r.reached

      user_in : (a b : ℕ) → IsUser new.users.items a b ↔ IsUser needs.users.items a b ⊎ ((a ≡ k) × Contains list b)
      user_in a b =
          let e : get_or new.users.items b [] ≡ get_or (with_user k needs.users.items list) b [] = ap (λ us. get_or us b []) users ∙ past_end (with_user k needs.users.items list) b [] in
          let w = with_users k list needs.users.items inside a b in
          ((λ c. w.0 (subst (λ l. Contains l a) e c)), λ c. subst (λ l. Contains l a) (sym e) (w.1 c))

      users_now : (a b : ℕ) → IsUser new.users.items a b ↔ NeedsNode nodes a b × (a < k + 1)
      users_now a b = (
        (λ c. ⊎_elim
            (λ o. let p = (r.users a b).0 o in let l = p.1 in (p.0, omega (arith, l)))
            (λ s. let e = s.0 in let w = (wanted_in node b).0 s.1 in
            (subst (λ u. NeedsNode nodes u b) (sym e) (w.0, w.1), omega (arith, e)))
            ((user_in a b).0 c)),
        λ c. let l = c.1 in (user_in a b).1 (⊎_elim
            (λ less. inl ((r.users a b).1 (c.0, less)))
            (λ more. let e : a ≡ k = omega (arith, l, more) in inr (e, (wanted_in node b).1 (subst (λ u. NeedsNode nodes u b) e c.0)))
            (cases_lt a k)),
      )

      open_now : (place : ℕ) → open_needs new.users.items new.states place ≡ open_needs (with_user k needs.users.items list) needs.states place
      open_now place =
          ap (λ us. open_needs us new.states place) users ∙ ap (λ ss. open_needs (with_user k needs.users.items list ++ [] ∷ []) ss place) states
          ∙ open_push (with_user k needs.users.items list) needs.states (first_state node) place (with_count k list needs.users.items ∙ same)

      none_before : open_needs needs.users.items needs.states k ≡ 0
      none_before = some_open needs.users.items needs.states k (λ place i. absurd (let l = ((r.users k place).0 i).1 in omega (arith, l)))

      unmet_now : (place : ℕ) → place < k + 1 → get_or new.unmet place 0 ≡ open_needs new.users.items new.states place
      unmet_now place l =
          let counted = r.counts in
          ⊎_elim
          (λ less.
          ap (λ us. get_or us place 0) unmet ∙ in_front needs.unmet (count_by (is_open needs.states) list) place 0 (omega (arith, counted, less))
          ∙ r.unmet place less ∙ sym (open_now place ∙ open_other needs.states k place (λ e. omega (arith, e, less)) list needs.users.items))
          (λ more. let e : k ≡ place = omega (arith, l, more) in
          subst (λ p. get_or new.unmet p 0 ≡ open_needs new.users.items new.states p) e
          (let own = open_own needs.states k list needs.users.items same inside in
          let none = none_before in
          let whole : open_needs (with_user k needs.users.items list) needs.states k ≡ count_by (is_open needs.states) list = omega (arith, own, none) in
          ap (λ us. get_or us k 0) unmet ∙ subst (λ n. get_or (needs.unmet ++ count_by (is_open needs.states) list ∷ []) n 0 ≡ count_by (is_open needs.states) list) counted
          (at_end needs.unmet (count_by (is_open needs.states) list) 0)
          ∙ sym (open_now k ∙ whole)))
          (cases_lt place k)

      place_case : (id : List ℕ) (place : ℕ) (b : Bool) → same_text node.id id ≡ b → items_at same_text new.places id ≡ items_at same_text needs.places id ++ cond b (k ∷ []) []
          → Contains (items_at same_text new.places id) place ↔ (place < k + 1) × (same_text (node_at nodes place).id id ≡ true)
      place_case id place true e is =
          let old = items_at same_text needs.places id in
          let o = r.places id place in (
            (λ c. ⊎_elim
                (λ l. let p = o.0 l in let lt = p.0 in (omega (arith, lt), p.1))
                (λ s. (omega (arith, s), subst (λ n. same_text (node_at nodes n).id id ≡ true) s e))
                (Contains-push_cases old k place (subst (λ l. Contains l place) is c))),
            λ c. let l = c.0 in subst (λ l. Contains l place) (sym is) (⊎_elim
                (λ less. Contains-append_left old (k ∷ []) place (o.1 (less, c.1)))
                (λ more. let s : k ≡ place = omega (arith, l, more) in subst (λ n. Contains (old ++ k ∷ []) n) s (Contains-push old k))
                (cases_lt place k)),
          )
      place_case id place false e is =
          let old = items_at same_text needs.places id in
          let o = r.places id place in
          let is' : items_at same_text new.places id ≡ old = is ∙ append-nil old in (
            (λ c. let p = o.0 (subst (λ l. Contains l place) is' c) in let lt = p.0 in (omega (arith, lt), p.1)),
            λ c. let l = c.0 in subst (λ l. Contains l place) (sym is') (⊎_elim
                (λ less. o.1 (less, c.1))
                (λ more. let s : place ≡ k = omega (arith, l, more) in
                absurd (let wrong : false ≡ true = sym e ∙ subst (λ n. same_text (node_at nodes n).id id ≡ true) s c.1 in cc))
                (cases_lt place k)),
          )

      places_now : (id : List ℕ) (place : ℕ) → Contains (items_at same_text new.places id) place ↔ (place < k + 1) × (same_text (node_at nodes place).id id ≡ true)
      places_now id place = place_case id place (same_text node.id id) refl (places id)

      pub read_one : IsRead nodes (k + 1) new
      read_one =
          record {
            states = states ∙ ap (λ ss. ss ++ first_state node ∷ []) r.states ∙ sym (map-append first_state (take k nodes) (node ∷ [])) ∙ ap (map first_state) (sym (take_more nodes k no_line lt));
            reached = ap length states ∙ length-append needs.states (first_state node ∷ []) ∙ ap (λ n. n + 1) r.reached;
            count = ap length users ∙ length-append (with_user k needs.users.items list) ([] ∷ []) ∙ ap (λ n. n + 1) (with_count k list needs.users.items ∙ r.count);
            users = users_now;
            unmet = unmet_now;
            counts = ap length unmet ∙ length-append needs.unmet (count_by (is_open needs.states) list ∷ []) ∙ ap (λ n. n + 1) r.counts;
            places = places_now;
          }

pub all_read : (nodes : List PlanNode) (k : ℕ) (needs : Needs) → length nodes ≤ k → k ≤ length nodes → IsRead nodes k needs → AreOf nodes needs
all_read nodes k needs past most r =
    let e : k ≡ length nodes = omega (arith, past, most) in
    record {
      states = r.states ∙ ap (map first_state) (take_all k nodes past);
      count = r.count ∙ e;
      users = λ user place. (
        (λ i. ((r.users user place).0 i).0),
        λ n. (r.users user place).1 (n, let w = needs_within nodes user place n in omega (arith, w, e)),
      );
      unmet = λ place lt. r.unmet place (omega (arith, lt, e));
      counts = r.counts ∙ e;
    }
