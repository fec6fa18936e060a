-- The nodes before all events.
use Rattle.std.proofs.Common.{◌≡◌, ◌<◌, ◌≤◌, ◌+◌, ◌||◌, ◌++◌, cond, ℕ, Bool, true, false, not, List, [], ◌∷◌, length, map, refl, sym, subst, ap, ◌∙◌, arith}
use Rattle.std.specs.Prelude.{count_by}
use Rattle.std.specs.List.{list_any}
use Rattle.plan_types.specs.Bytes.{same_text}
use Rattle.std.proofs.lemmas.Bool.{and_parts}
use Rattle.std.proofs.lemmas.List.{get_or-map, ext_get_or, length-map}
use Rattle.std.proofs.lemmas.List.Sums.{sum_by-cons}
use Rattle.plan_nodes.specs.Line.{no_line}
use Rattle.plan_nodes.specs.declared.node.PlanNode.{PlanNode}
use Rattle.plan_jobs.specs.declared.job.JobState.TheVariants.{Waiting}
use Rattle.plan_jobs.specs.declared.needs.Needs.{Needs}
use Rattle.plan_jobs.specs.Marks.{NoneMarked}
use Rattle.plan_jobs.specs.Events.{is_installed, is_running, node_at, state_after, state_by, states_after, lists_id}
use Rattle.plan_jobs.specs.Board.{AreAfter, AreBegun, AreHeld, AreReady, HasFailed, Keeps, is_begun, state_at}
use Rattle.plan_jobs.specs.Building.{AreOf, first_state}
use Rattle.plan_jobs.proofs.NextStates.{history_begins, state_in, states_count}
use Rattle.plan_jobs.proofs.Replies.{needs_within}

or_last : (b : Bool) → b || false ≡ b
or_last true = refl
or_last false = refl

first_is : (nodes : List PlanNode) (place : ℕ) → first_state (node_at nodes place) ≡ state_after nodes [] place
first_is nodes place =
    ap (λ x. state_by x (is_installed (node_at nodes place).kind) false) (sym (or_last (node_at nodes place).unbuildable))
    ∙ ap (λ y. state_by ((node_at nodes place).unbuildable || false) y false) (sym (or_last (is_installed (node_at nodes place).kind)))

pub first_states : (nodes : List PlanNode) → map first_state nodes ≡ states_after nodes []
first_states nodes =
    ext_get_or Waiting (map first_state nodes) (states_after nodes []) (length-map nodes first_state ∙ sym (states_count nodes []))
    (λ i lt. let in_nodes = subst (λ n. i < n) (length-map nodes first_state) lt in
    get_or-map first_state nodes i no_line Waiting in_nodes ∙ first_is nodes i ∙ sym (state_in nodes [] i in_nodes))

not_run : (a b : Bool) → is_running (state_by a b false) ≡ false
not_run true b = refl
not_run false true = refl
not_run false false = refl

pub none_run : (nodes : List PlanNode) → count_by is_running (map first_state nodes) ≡ 0
none_run [] = refl
none_run (node ∷ nodes) =
    sum_by-cons (λ s. cond (is_running s) 1 0) (first_state node) (map first_state nodes)
    ∙ ap (λ b. cond b 1 0 + count_by is_running (map first_state nodes)) (not_run node.unbuildable (is_installed node.kind))
    ∙ ap (λ n. 0 + n) (none_run nodes)

installed_begun : (a b : Bool) → is_begun (state_by a b false) ≡ true → b ≡ true
installed_begun true b e = absurd (cc)
installed_begun false true e = refl
installed_begun false false e = absurd (cc)

-- an installed node needs nothing
pub wants_none : (node : PlanNode) (id : List ℕ) → is_installed node.kind ≡ true → lists_id node id ≡ true → ⊥
wants_none node id there listed_places =
    let wrong : not true ≡ true = ap not (sym there) ∙ (and_parts (not (is_installed node.kind)) (list_any (same_text id) (node.libs ++ node.tools ++ node.setups)) listed_places).0 in cc

module _ (nodes : List PlanNode) (needs : Needs) (r : AreOf nodes needs) where
  count : length needs.states ≡ length nodes
  count = ap length r.states ∙ length-map nodes first_state

  state_first : (place : ℕ) → place < length nodes → state_at needs.states place ≡ first_state (node_at nodes place)
  state_first place lt = ap (λ s. state_at s place) r.states ∙ get_or-map first_state nodes place no_line Waiting lt

  pub begun_at_first : AreBegun needs.users.items needs.states
  begun_at_first =
      record {
        count = r.count ∙ sym count;
        within = λ user place i. subst (λ n. user < n) (sym count) (needs_within nodes user place ((r.users user place).0 i));
        met = λ user place i begun.
            let n = (r.users user place).0 i in
            let lt = needs_within nodes user place n in
            let node = node_at nodes user in
            let there = installed_begun node.unbuildable (is_installed node.kind) (ap is_begun (sym (state_first user lt)) ∙ begun) in
            absurd (wants_none node (node_at nodes place).id there n.1);
      }

  pub keeps_at_first : (ready held to_hold : List Bool) (slots : ℕ) → length needs.states ≤ length ready → AreReady needs.states needs.unmet ready
      → AreHeld needs.users.items needs.states (HasFailed needs.states) held → length needs.states ≤ length to_hold → NoneMarked to_hold
      → Keeps needs.users.items needs.states needs.unmet ready held to_hold 0 slots
  keeps_at_first ready held to_hold slots room first holds space idle =
      record {
        begun = begun_at_first;
        counts = record { count = r.counts ∙ sym count; each = λ place lt. r.unmet place (subst (λ n. place < n) count lt) };
        room = room;
        first = first;
        holds = holds;
        space = space;
        idle = idle;
        run = sym (ap (count_by is_running) r.states ∙ none_run nodes);
        few = omega arith;
      }

  pub after_none : (slots : ℕ) → AreAfter nodes slots [] (record { users = needs.users.items; states = needs.states; slots = slots })
  after_none slots =
      record {
        history = history_begins nodes slots;
        users = r.users;
        states = r.states ∙ first_states nodes;
        limit = refl;
      }
