-- The marks after a list of events, and the right replies.
use Rattle.std.proofs.Common.{◌≡◌, ◌<◌, ⊎_elim, ℕ, Bool, true, List, length, sym, subst, ap, ◌∙◌, arith}
use Rattle.std.proofs.lemmas.Bool.{cases_lt}
use Rattle.std.proofs.lemmas.List.{get_or_past}
use Rattle.common_laws.specs.Graphs.{IsMarked, IsPath, last, more}
use Rattle.plan_nodes.specs.Line.{no_line}
use Rattle.plan_nodes.specs.declared.node.PlanNode.{PlanNode}
use Rattle.plan_jobs.specs.declared.job.JobState.{JobState}
use Rattle.plan_jobs.specs.Marks.{IsLeastMarked, NoneMarked}
use Rattle.plan_jobs.specs.Events.{Event, IsHeld, IsLeastReady, IsReady, NeedsNode, node_at, running_after, state_after, lists_id}
use Rattle.plan_jobs.specs.Board.{AreAfter, IsUser, Keeps, is_completed, state_at}
use Rattle.plan_jobs.proofs.Counts.{some_open}
use Rattle.plan_jobs.proofs.Changes.{held_by_way, ready_met}
use Rattle.plan_jobs.proofs.NextStates.{after_count, after_running, after_state}

-- only nodes have needs
pub needs_within : (nodes : List PlanNode) (place need : ℕ) → NeedsNode nodes place need → place < length nodes
needs_within nodes place need n = ⊎_elim
    (λ lt. lt)
    (λ ge. let e : lists_id no_line (node_at nodes need).id ≡ true = ap (λ node. lists_id node (node_at nodes need).id) (sym (get_or_past nodes place no_line ge)) ∙ n.1 in cc)
    (cases_lt place (length nodes))

pub path_down : (nodes : List PlanNode) (place need : ℕ) → IsPath (NeedsNode nodes) place need → need < place
path_down nodes place need (last n) = n.0
path_down nodes place need (more {w = next} n p) = let k = path_down nodes next need p in let l = n.0 in omega (arith, k, l)

pub path_starts : (nodes : List PlanNode) (place need : ℕ) → IsPath (NeedsNode nodes) place need → place < length nodes
path_starts nodes place need (last n) = needs_within nodes place need n
path_starts nodes place need (more {w = next} n p) = needs_within nodes place next n

pub path_by : (E F : ℕ → ℕ → Type 0) → ((a b : ℕ) → E a b → F a b) → (place need : ℕ) → IsPath E place need → IsPath F place need
path_by E F by place need (last e) = last (by place need e)
path_by E F by place need (more {w = next} e p) = more (by place next e) (path_by E F by next need p)

module _ (users : List (List ℕ)) (states : List JobState) (unmet : List ℕ) (ready held to_hold : List Bool) (running top : ℕ)
    (k : Keeps users states unmet ready held to_hold running top) (nodes : List PlanNode) (slots : ℕ) (events : List Event)
    (a : AreAfter nodes slots events (record { users = users; states = states; slots = top })) where
  in_nodes : (place : ℕ) → place < length states → place < length nodes
  in_nodes place lt = subst (λ n. place < n) (after_count nodes slots events _ a) lt

  in_states : (place : ℕ) → place < length nodes → place < length states
  in_states place lt = subst (λ n. place < n) (sym (after_count nodes slots events _ a)) lt

  so : (place : ℕ) → place < length nodes → state_at states place ≡ state_after nodes events place
  so place lt = after_state nodes slots events _ a place lt

  need_in : (place need : ℕ) → NeedsNode nodes place need → need < length nodes
  need_in place need n = let w = needs_within nodes place need n in let l = n.0 in omega (arith, w, l)

  pub ready_in : (place : ℕ) → IsMarked ready place → IsReady nodes events place
  ready_in place m =
      let r = (k.first place).0 m in
      let lt = in_nodes place r.0 in
      record {
        node = lt;
        waits = sym (so place lt) ∙ r.1;
        met = λ need n. sym (so need (need_in place need n)) ∙ ready_met users states unmet ready held to_hold running top k place m need ((a.users place need).1 n);
      }

  pub ready_out : (place : ℕ) → IsReady nodes events place → IsMarked ready place
  ready_out place r =
      let lt = in_states place r.node in
      let none = some_open users states place
      (λ need i. let n = (a.users place need).0 i in ap is_completed (so need (need_in place need n) ∙ r.met need n)) in
      (k.first place).1 (lt, so place r.node ∙ r.waits, k.counts.each place lt ∙ none)

  pub least_in : (place : ℕ) → IsLeastMarked ready place → IsLeastReady nodes events place
  least_in place l = record { ready = ready_in place l.marked; least = λ other r. l.least other (ready_out other r) }

  pub none_in : NoneMarked ready → (place : ℕ) → IsReady nodes events place → ⊥
  none_in n place r = n place (ready_out place r)

  pub running_in : running ≡ running_after nodes events
  running_in = k.run ∙ after_running nodes slots events _ a

  pub slots_in : (running ≡ top → ⊥) → running_after nodes events ≡ slots → ⊥
  slots_in n e = n (running_in ∙ e ∙ sym a.limit)

  pub held_in : (place : ℕ) → IsMarked held place → IsHeld nodes events place
  held_in place m =
      let h = k.holds.sound place m in
      let path = path_by (IsUser users) (NeedsNode nodes) (λ user need i. (a.users user need).0 i) place h.need h.path in
      let lt = path_starts nodes place h.need path in
      let less = path_down nodes place h.need path in
      let need_lt : h.need < length nodes = omega (arith, lt, less) in
      record {
        waits = sym (so place lt) ∙ h.waits;
        need = h.need;
        path = path;
        failed = sym (so h.need need_lt) ∙ h.broken;
      }

  pub held_out : (place : ℕ) → IsHeld nodes events place → IsMarked held place
  held_out place h =
      let lt = path_starts nodes place h.need h.path in
      let less = path_down nodes place h.need h.path in
      let need_lt : h.need < length nodes = omega (arith, lt, less) in
      held_by_way users states k.begun held k.holds place h.need (so place lt ∙ h.waits)
      (path_by (NeedsNode nodes) (IsUser users) (λ user need n. (a.users user need).1 n) place h.need h.path) (so h.need need_lt ∙ h.failed)
