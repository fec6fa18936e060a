-- A search with backjumps tries at most as many values as one without.
use Rattle.std.proofs.Common.{◌≡◌, ℕ, zero, suc, ◌<◌, ◌≤◌, true, false, cond, not, List, [], ◌∷◌, ◌++◌, Some, None, refl, sym, subst, le_trans, arith}
use Rattle.std.specs.List.{Contains}
use Rattle.std.proofs.lemmas.List.Elements.{All-nil, All-contains}
use Rattle.plan_types.specs.declared.limit.Limit.{Limit}
use Rattle.qualified_goals.specs.declared.variable.Var.{Var}
use Rattle.choice_problem.specs.declared.problem.Choice.{Choice}
use Rattle.choice_problem.specs.Problem.{Problem, IsChoice, Lawful}
use Rattle.choice_problem.specs.General.{general}
use Rattle.choice_problem.specs.Trail.{value_in, choice_of, with_next}
use Rattle.choice_problem.specs.Active.{least_open, reason}
use Rattle.choice_problem.specs.Conflict.{conflict}
use Rattle.choice_problem.specs.ConflictSet.{has, set_of, union}
use Rattle.common_laws.specs.Lists.{contains-head, contains-tail}
use Rattle.choice_problem.specs.Answer.{Found, Failed, GaveUp, Past, Answer, Manner, one_visited, one_exhausted, gives_up, fails, exhausts, after_conflict, of_value, after_end, after_value, of_values, answer_from, nothing_yet, guided_answer, answer_of, plain_count}
use Rattle.choice_problem.proofs.SearchLimits.{answer_with, TriesFrom, after_end-tries, of_values-tries, answer-tries, limit-tries}
use Rattle.choice_problem.proofs.TrailLemmas.{Room, room-start, room-next, next-known, next-open, choices-general, general-lawful}
use Rattle.choice_problem.specs.Guide.{least}
use Rattle.choice_problem.specs.Guides.{least-is-guide}
use Rattle.choice_problem.proofs.SearchEnds.{unlimited, Open, Reaches, here, reach-push, reach-choices, never-gives-up, failed-none, found-valid}

-- a search without a limit, with backjumps and without

abbrev pub jumping : Manner
jumping = unlimited least true

abbrev pub plain : Manner
plain = unlimited least false

-- an exhausted point tries no more values
exhausts-visited : (manner : Manner) (p : Problem) (prefix : List Choice) (v : Var) (failed : List Var) (past : Past) → (exhausts manner p prefix v failed past).past.counts.visited ≡ past.counts.visited
exhausts-visited manner p prefix v failed past =
    elim (gives_up manner.limit prefix past.counts.exhausted) as (λ b. (cond b (answer_with GaveUp past)
    (fails (union failed (set_of (v ∷ reason p prefix v))) (one_exhausted past))).past.counts.visited ≡ past.counts.visited) [ true ↦ refl | false ↦ refl ]

-- the first search tried at most as much, and hasn't failed where the second has found a trail
record IsMost (answer other : Answer) : Type 0 where
  tries : answer.past.counts.visited ≤ other.past.counts.visited
  goes_on : other.ended ≡ GaveUp → ⊥
  agrees : (set : List Var) (found : List Choice) → answer.ended ≡ Failed set → other.ended ≡ Found found → ⊥

after-most : (v : Var) (answer other : Answer) (rest more : List Var → Past → Answer) → IsMost answer other
    → ((set : List Var) → TriesFrom other.past.counts.visited (more set other.past))
    → ((set failed : List Var) → (rest set answer.past).past.counts.visited ≤ (more failed other.past).past.counts.visited)
    → (after_value jumping v answer rest).past.counts.visited ≤ (after_value plain v other more).past.counts.visited
after-most v answer other rest more most tries rests =
    let stays : other.past.counts.visited ≤ (after_value plain v other more).past.counts.visited = after_end-tries other.past.counts.visited plain v other.ended other.past more (omega arith) tries in
    let first = most.tries in
    let leaves : answer.past.counts.visited ≤ (after_value plain v other more).past.counts.visited = omega (arith, stays, first) in
    elim (answer.ended) as (λ ended. answer.ended ≡ ended → (after_end jumping v ended answer.past rest).past.counts.visited ≤ (after_value plain v other more).past.counts.visited) [
      | Found trail ↦ λ e. leaves
      | GaveUp ↦ λ e. leaves
      | Failed set ↦ λ e.
          elim (not (has set v)) as (λ b. (cond b (answer_with (Failed set) answer.past) (rest set answer.past)).past.counts.visited ≤ (after_value plain v other more).past.counts.visited) [
            | true ↦ leaves
            | false ↦
                elim (other.ended) as (λ ended. other.ended ≡ ended → (rest set answer.past).past.counts.visited ≤ (after_end plain v ended other.past more).past.counts.visited) [
                  | Found trail ↦ λ k. absurd (most.agrees set trail e k)
                  | GaveUp ↦ λ k. absurd (most.goes_on k)
                  | Failed failed ↦ λ k. rests set failed
                ] refl
          ]
    ] refl

module _ (p : Problem) (lawful : Lawful p) where
  -- a prefix that a search reaches, and room for every known variable
  record IsReached (fuel : ℕ) (prefix : List Choice) : Type 0 where
    way : Reaches p (Open p) prefix []
    room : Room (general p) (general-lawful p lawful) fuel prefix

  reached-start : IsReached p.bound []
  reached-start = record { way = here refl; room = room-start (general p) (general-lawful p lawful) }

  reached-next : (fuel : ℕ) (prefix : List Choice) (v : Var) (n : ℕ) → IsReached (suc fuel) prefix → least_open p prefix ≡ Some v → Contains (p.order v prefix) n
      → conflict p prefix (choice_of v n) ≡ None → IsReached fuel (prefix ++ choice_of v n ∷ [])
  reached-next fuel prefix v n reached opened member free =
      let choices = reach-choices p (Open p) prefix [] reached.way (All-nil (IsChoice p)) in
      let all = choices-general p prefix choices in
      let known = next-known (general p) (general-lawful p lawful) prefix v all opened in
      record {
        way = reach-push p (Open p) prefix [] v n reached.way (next-open (general p) prefix v opened)
            (record { variable = known; value = All-contains (λ x. x < p.domain v) (p.order v prefix) n (lawful.order v known prefix choices).below member }) free;
        room = room-next (general p) (general-lawful p lawful) fuel prefix v n all (next-open (general p) prefix v opened) reached.room;
      }

  -- there a search can't both fail and find a trail
  reached-end : (fuel : ℕ) (prefix : List Choice) (past now : Past) (set : List Var) (found : List Choice) → IsReached fuel prefix
      → (answer_from fuel jumping p prefix past).ended ≡ Failed set → (answer_from fuel plain p prefix now).ended ≡ Found found → ⊥
  reached-end fuel prefix past now set found reached failed h =
      let from = found-valid p lawful plain least-is-guide fuel prefix now found reached.way reached.room h in
      failed-none p lawful fuel jumping prefix past set least-is-guide (reach-choices p (Open p) prefix [] reached.way (All-nil (IsChoice p))) failed (value_in found) from.valid.holds from.passes

  module _ (fuel : ℕ) (below : (prefix : List Choice) (past now : Past) → IsReached fuel prefix → past.counts.visited ≤ now.counts.visited
      → (answer_from fuel jumping p prefix past).past.counts.visited ≤ (answer_from fuel plain p prefix now).past.counts.visited) where
    of_value-most : (prefix : List Choice) (v : Var) (n : ℕ) (past now : Past) → IsReached (suc fuel) prefix → least_open p prefix ≡ Some v → Contains (p.order v prefix) n → past.counts.visited ≤ now.counts.visited
        → IsMost (of_value (answer_from fuel jumping p) p prefix (choice_of v n) past) (of_value (answer_from fuel plain p) p prefix (choice_of v n) now)
    of_value-most prefix v n past now reached opened member few =
        let after = prefix ++ choice_of v n ∷ [] in
        elim (conflict p prefix (choice_of v n)) as (λ o. conflict p prefix (choice_of v n) ≡ o
        → IsMost (after_conflict o past (answer_from fuel jumping p after past)) (after_conflict o now (answer_from fuel plain p after now))) [
          | None ↦ λ e.
              let is = reached-next fuel prefix v n reached opened member e in
              record { tries = below after past now is few; goes_on = never-gives-up p least fuel false after now; agrees = λ set found. reached-end fuel after past now set found is }
          | Some set ↦ λ e. record { tries = few; goes_on = λ k. cc k; agrees = λ set found k l. cc l }
        ] refl

    of_values-most : (prefix : List Choice) (v : Var) (values : List ℕ) (failed others : List Var) (past now : Past) → IsReached (suc fuel) prefix → least_open p prefix ≡ Some v
        → ((n : ℕ) → Contains values n → Contains (p.order v prefix) n) → past.counts.visited ≤ now.counts.visited
        → (of_values (answer_from fuel jumping p) jumping p prefix v values failed past).past.counts.visited ≤ (of_values (answer_from fuel plain p) plain p prefix v values others now).past.counts.visited
    of_values-most prefix v [] failed others past now reached opened members few =
        subst (λ n. n ≤ (exhausts plain p prefix v others now).past.counts.visited) (sym (exhausts-visited jumping p prefix v failed past))
        (subst (λ n. past.counts.visited ≤ n) (sym (exhausts-visited plain p prefix v others now)) few)
    of_values-most prefix v (n ∷ values) failed others past now reached opened members few =
        let c = choice_of v n in
        let answer = of_value (answer_from fuel jumping p) p prefix c (one_visited past) in
        let other = of_value (answer_from fuel plain p) p prefix c (one_visited now) in
        let most = of_value-most prefix v n (one_visited past) (one_visited now) reached opened (members n (contains-head n values)) (omega (arith, few)) in
        after-most v answer other
        (λ set count. of_values (answer_from fuel jumping p) jumping p prefix v values (union failed set) count) (λ set count. of_values (answer_from fuel plain p) plain p prefix v values (union others set) count)
        most
        (λ set. of_values-tries (answer_from fuel plain p) plain p prefix v values (union others set) other.past (answer-tries fuel plain p))
        (λ set more. of_values-most prefix v values (union failed set) (union others more) answer.past other.past reached opened (λ m k. members m (contains-tail n values m k)) most.tries)

  answer-most : (fuel : ℕ) (prefix : List Choice) (past now : Past) → IsReached fuel prefix → past.counts.visited ≤ now.counts.visited
      → (answer_from fuel jumping p prefix past).past.counts.visited ≤ (answer_from fuel plain p prefix now).past.counts.visited
  answer-most zero prefix past now reached few = few
  answer-most (suc fuel) prefix past now reached few =
      elim (least_open p prefix) as (λ o. least_open p prefix ≡ o
      → (with_next o (answer_with (Found prefix) past) (λ v. of_values (answer_from fuel jumping p) jumping p prefix v (p.order v prefix) [] past)).past.counts.visited
      ≤ (with_next o (answer_with (Found prefix) now) (λ v. of_values (answer_from fuel plain p) plain p prefix v (p.order v prefix) [] now)).past.counts.visited) [
        | None ↦ λ e. few
        | Some v ↦ λ e. of_values-most fuel (answer-most fuel) prefix v (p.order v prefix) [] [] past now reached e (λ n k. k) few
      ] refl

  pub tries-most : (limit : Limit) → (answer_of p limit).past.counts.visited ≤ plain_count p
  unfolding guided_answer plain_count
  tries-most limit =
      le_trans (limit-tries least p limit) (answer-most p.bound [] nothing_yet nothing_yet reached-start (omega arith))
