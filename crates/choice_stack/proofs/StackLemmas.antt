-- Shared: stacks: choices with their marks, and the open variables.
use Rattle.std.proofs.Common.{◌≡◌, ℕ, zero, suc, ◌+◌, ◌-◌, arith, length, get_or, take, drop, true, false, not, cond, ◌&&◌, ◌||◌, List, [], ◌∷◌, ◌++◌, Some, None, is_none, is_some, map, refl, sym, ap, ◌∙◌, subst, append_assoc, length-append}
use Rattle.std.proofs.lemmas.List.{map-append, take-append-le, take-append-drop}
use Rattle.std.proofs.Math.ListN.{get_or-append}
use Rattle.std.proofs.lemmas.Bool.{false≢true}
use Rattle.std.proofs.Math.Seq.{take-length, take-append_seam, get_or-append_seam}
use Rattle.qualified_goals.specs.declared.variable.Var.{Var}
use Rattle.choice_problem.specs.declared.problem.Choice.{Choice}
use Rattle.choice_problem.specs.declared.problem.Demand.{Demand}
use Rattle.qualified_goals.specs.Variable.{same_var}
use Rattle.qualified_goals.specs.SameVariable.{same_var-is, same_var-refl}
use Rattle.choice_problem.specs.Trail.{AreNew, value_in}
use Rattle.choice_problem.specs.Trail.AreNew.{before_any, one_more}
use Rattle.choice_problem.specs.ConflictSet.{is_rising, has, without}
use Rattle.choice_problem.proofs.RisingVariables.{has-without}
use Rattle.goal_links.specs.Beside.{beside}
use Rattle.goal_links.specs.Links.{Entries}
use Rattle.goal_links.specs.declared.mentions.Mention.{Mention}
use Rattle.choice_stack.specs.declared.stack.Mark.{Mark}
use Rattle.choice_problem.proofs.TrailEnds.{snoc-none, snoc-same, value-push, value-pop}
use Rattle.choice_stack.specs.View.{View}
use Rattle.choice_stack.specs.Open.{Keeps, StayKept, MayComeBack, any_var, is_other, is_chosen_in}
use Rattle.goal_links.specs.Mentions.{places_of, vars_at}
use Rattle.choice_stack.specs.Stack.{front_of, last_number, undone, no_demand, demand_at, demands_at, watchers_by, watchers_from, AreTargets, AreOpen, IsHeld, IsMark, AreMarks, AreParts}
use Rattle.choice_stack.specs.Stack.AreMarks.{none, on}

-- targets

pub targets-tail : (listed : List Demand) (m : Mention) (ms : List Mention) → AreTargets listed (m ∷ ms) → AreTargets listed ms
targets-tail listed m ms h = record {
  within = λ front k rest e. h.within (m ∷ front) k rest (ap (λ l. m ∷ l) e);
  target = λ front k rest e. h.target (m ∷ front) k rest (ap (λ l. m ∷ l) e);
}

pub targets-vars : (listed : List Demand) (ms : List Mention) → AreTargets listed ms → map (λ d. d.target) (demands_at listed (places_of ms)) ≡ vars_at ms
targets-vars listed [] h = refl
targets-vars listed (m ∷ ms) h =
    ap (λ v. v ∷ map (λ d. d.target) (demands_at listed (places_of ms))) (sym (h.target [] m ms refl))
    ∙ ap (λ vs. m.var ∷ vs) (targets-vars listed ms (targets-tail listed m ms h))

pub targets-grow : (listed more : List Demand) (ms : List Mention) → AreTargets listed ms → AreTargets (listed ++ more) ms
targets-grow listed more ms h = record {
  within = λ front m rest e. let less = h.within front m rest e in omega (arith, less, length-append listed more);
  target = λ front m rest e.
      h.target front m rest e ∙ ap (λ (d : Demand). d.target) (sym (get_or-append listed more no_demand m.place (h.within front m rest e)));
}

-- marks

pub marks-targets : {trail : List Choice} {marks : List Mark} {listed : List Demand} {active : List Mention} {s : Entries} → AreMarks trail marks listed active s → AreTargets listed active
marks-targets (none targets) = targets
marks-targets (on c m levels e f is targets) = targets

pub marks-new : {trail : List Choice} {marks : List Mark} {listed : List Demand} {active : List Mention} {s : Entries} → AreMarks trail marks listed active s → AreNew trail
marks-new (none targets) = before_any
marks-new (on {front = front} c m levels e f is targets) = one_more {before = front} (marks-new levels) c is.new e

pub marks-grow : {trail : List Choice} {marks : List Mark} {listed : List Demand} {active : List Mention} {s : Entries} (more : List Demand)
    → AreMarks trail marks listed active s → AreMarks trail marks (listed ++ more) active s
marks-grow {listed = listed} {active = active} more (none targets) = none (targets-grow listed more active targets)
marks-grow {listed = listed} {active = active} {s = s} more (on {front = front} {less = less} c m levels e f is targets) =
    let same = sym (take-append-le m.listed listed more is.listed_within) in
    on {front = front} {less = less} c m (subst (λ (ds : List Demand). AreMarks front less ds (take m.active active) s) same levels) e f
    (record {
      new = is.new;
      asked = is.asked;
      held = is.held;
      listed_within = omega (arith, is.listed_within, length-append listed more);
      active_within = is.active_within;
      watchers = is.watchers ∙ ap (λ (ds : List Demand). length (watchers_from 0 ds)) same;
    })
    (targets-grow listed more active targets)

pub marks-push : {trail : List Choice} {marks : List Mark} {listed : List Demand} {active : List Mention} {s : Entries} (more : List Mention)
    → AreMarks trail marks listed active s → AreTargets listed (active ++ more) → AreMarks trail marks listed (active ++ more) s
marks-push more (none before) targets = none targets
marks-push {listed = listed} {active = active} {s = s} more (on {front = front} {less = less} c m levels e f is before) targets =
    let same = sym (take-append-le m.active active more is.active_within) in
    on {front = front} {less = less} c m (subst (λ (ms : List Mention). AreMarks front less (take m.listed listed) ms s) same levels) e f
    (record {
      new = is.new;
      asked = ap (λ (ms : List Mention). has (vars_at ms) c.var) (sym same) ∙ is.asked;
      held = subst (λ (ms : List Mention). IsHeld front c.var m.entry ms s) same is.held;
      listed_within = is.listed_within;
      active_within = omega (arith, is.active_within, length-append active more);
      watchers = is.watchers;
    })
    targets

pub marks-hold : {trail : List Choice} {marks : List Mark} {listed : List Demand} {active : List Mention} {s : Entries} (c : Choice) (m : Mark)
    → AreMarks trail marks listed active s → value_in trail c.var ≡ None → has (vars_at active) c.var ≡ true → IsHeld trail c.var m.entry active s
    → m.listed ≡ length listed → m.active ≡ length active → m.watchers ≡ length (watchers_from 0 listed) → AreMarks (trail ++ c ∷ []) (marks ++ m ∷ []) listed active s
marks-hold {trail = trail} {marks = marks} {listed = listed} {active = active} {s = s} c m levels new asked held l a w =
    let all_listed : take m.listed listed ≡ listed = ap (λ n. take n listed) l ∙ take-length listed in
    let all_active : take m.active active ≡ active = ap (λ n. take n active) a ∙ take-length active in
    on {front = trail} {less = marks} c m
    (subst (λ (ms : List Mention). AreMarks trail marks (take m.listed listed) ms s) (sym all_active)
    (subst (λ (ds : List Demand). AreMarks trail marks ds active s) (sym all_listed) levels))
    refl refl
    (record {
      new = new;
      asked = ap (λ (ms : List Mention). has (vars_at ms) c.var) all_active ∙ asked;
      held = subst (λ (ms : List Mention). IsHeld trail c.var m.entry ms s) (sym all_active) held;
      listed_within = omega (arith, l);
      active_within = omega (arith, a);
      watchers = w ∙ ap (λ (ds : List Demand). length (watchers_from 0 ds)) (sym all_listed);
    })
    (marks-targets levels)

-- one more choice leaves the chosen variables chosen, and its own variable is chosen

pub chosen-on : (front trail : List Choice) (c : Choice) (v : Var) → trail ≡ front ++ c ∷ [] → value_in front c.var ≡ None → is_chosen_in front v ≡ true → is_chosen_in trail v ≡ true
chosen-on front trail c v e free h =
    ap (λ cs. is_some (value_in cs v)) e ∙ ap is_some (value-push front c v free)
    ∙ elim (same_var c.var v) as (λ b. is_some (cond b (Some c.val) (value_in front v)) ≡ true) [ true ↦ refl | false ↦ h ]

pub chosen-last : (front trail : List Choice) (c : Choice) → trail ≡ front ++ c ∷ [] → value_in front c.var ≡ None → is_chosen_in trail c.var ≡ true
chosen-last front trail c e free =
    ap (λ cs. is_some (value_in cs c.var)) e ∙ ap is_some (value-push front c c.var free)
    ∙ ap (λ b. is_some (cond b (Some c.val) (value_in front c.var))) (same_var-refl c.var)

-- a variable that isn't chosen differs from each that is
pub chosen-other : (trail : List Choice) (u v : Var) → is_chosen_in trail u ≡ false → is_chosen_in trail v ≡ true → is_other u v ≡ true
chosen-other trail u v free h =
    elim (same_var u v) as (λ b. same_var u v ≡ b → not b ≡ true) [
      | true ↦ λ e. absurd (false≢true (sym free ∙ ap (is_chosen_in trail) (same_var-is u v e) ∙ h))
      | false ↦ λ e. refl
    ] refl

-- marks stay right while the entries of chosen variables keep their neighbours
pub marks-keep : {trail : List Choice} {marks : List Mark} {listed : List Demand} {active : List Mention} {s : Entries} (t : Entries)
    → AreMarks trail marks listed active s → StayKept (is_chosen_in trail) s t → AreMarks trail marks listed active t
marks-keep t (none targets) stay = none targets
marks-keep {trail = trail} t (on {front = front} {less = less} c m levels e f is targets) stay =
    on {front = front} {less = less} c m
    (marks-keep t levels (λ n v sides chosen k. stay n v sides (chosen-on front trail c v e is.new chosen) k))
    e f
    (record {
      new = is.new;
      asked = is.asked;
      held = record {
        before = is.held.before;
        rising = is.held.rising;
        opened = is.held.opened;
        kept = stay m.entry c.var (beside (same_var c.var) is.held.before) (chosen-last front trail c e is.new) is.held.kept;
      };
      listed_within = is.listed_within;
      active_within = is.active_within;
      watchers = is.watchers;
    })
    targets

-- the open variables after a variable has a value
pub open-hold : (active : List Mention) (trail : List Choice) (vars less : List Var) (c : Choice) → AreOpen active trail vars → value_in trail c.var ≡ None
    → ((v : Var) → has less v ≡ (not (same_var c.var v) && has vars v)) → AreOpen active (trail ++ c ∷ []) less
open-hold active trail vars less c h free less_is v =
    less_is v ∙ ap (λ b. not (same_var c.var v) && b) (h v)
    ∙ elim (same_var c.var v) as (λ b. not b && (has (vars_at active) v && is_none (value_in trail v)) ≡ has (vars_at active) v && is_none (cond b (Some c.val) (value_in trail v))) [
      | true ↦ elim (has (vars_at active) v) as (λ b. false ≡ b && false) [ true ↦ refl | false ↦ refl ]
      | false ↦ refl
    ]
    ∙ ap (λ o. has (vars_at active) v && is_none o) (sym (value-push trail c v free))

pub parts-open : (trail : List Choice) (marks : List Mark) (listed : List Demand) (active watchers : List Mention) (s : Entries) (v : Var)
    → AreParts trail marks listed active watchers s → value_in trail v ≡ None → has (vars_at active) v ≡ true → has s.linked v ≡ true
parts-open trail marks listed active watchers s v h free asked =
    h.opened v ∙ ap (λ b. b && is_none (value_in trail v)) asked ∙ ap is_none free

pub parts-hold : (trail after : List Choice) (marks above : List Mark) (listed : List Demand) (active watchers : List Mention) (s t : Entries)
    (c : Choice) (m : Mark) → AreParts trail marks listed active watchers s → value_in trail c.var ≡ None → has (vars_at active) c.var ≡ true
    → m.listed ≡ length listed → m.active ≡ length active → m.watchers ≡ length watchers → after ≡ trail ++ c ∷ [] → above ≡ marks ++ m ∷ []
    → is_rising s.linked ≡ true → Keeps t m.entry c.var (beside (same_var c.var) s.linked) → StayKept any_var s t
    → ((v : Var) → has t.linked v ≡ (is_other c.var v && has s.linked v)) → AreParts after above listed active watchers t
parts-hold trail after marks above listed active watchers s t c m h free asked l a w after_is above_is rising kept stay less_is =
    let before = marks-keep t h.levels (λ n v sides chosen k. stay n v sides refl k) in
    let held : IsHeld trail c.var m.entry active t = record { before = s.linked; rising = rising; opened = h.opened; kept = kept } in
    record {
      levels =
          subst (λ (cs : List Choice). AreMarks cs above listed active t) (sym after_is)
          (subst (λ (ms : List Mark). AreMarks (trail ++ c ∷ []) ms listed active t) (sym above_is) (marks-hold c m before free asked held l a (w ∙ ap length h.waiting)));
      waiting = h.waiting;
      opened = subst (λ (cs : List Choice). AreOpen active cs t.linked) (sym after_is) (open-hold active trail s.linked t.linked c h.opened free less_is);
    }

pub parts-none : (trail : List Choice) (marks : List Mark) (listed : List Demand) (active watchers : List Mention) (s : Entries)
    → trail ≡ [] → marks ≡ [] → listed ≡ [] → active ≡ [] → watchers ≡ [] → s.linked ≡ []
    → AreParts trail marks listed active watchers s
parts-none trail marks listed active watchers s t m l a w v = record {
  levels =
      subst (λ (cs : List Choice). AreMarks cs marks listed active s) (sym t) (subst (λ (ms : List Mark). AreMarks [] ms listed active s) (sym m) (none (record {
        within = λ front x rest e. absurd (snoc-none front x rest (sym a ∙ e));
        target = λ front x rest e. absurd (snoc-none front x rest (sym a ∙ e));
      })));
  waiting = w ∙ ap (watchers_from 0) (sym l);
  opened = λ x. ap (λ vs. has vs x) v ∙ sym (ap (λ ms. has (vars_at ms) x && is_none (value_in trail x)) a);
}

-- demands that are listed, and the variables that they wait for

pub waits-append : (n : ℕ) (xs ys : List Demand) → watchers_from n (xs ++ ys) ≡ watchers_from n xs ++ watchers_from (n + length xs) ys
waits-append n [] ys = ap (λ k. watchers_from k ys) (omega arith)
waits-append n (x ∷ xs) ys =
    ap (λ ws. watchers_by n x.when ++ ws) (waits-append (suc n) xs ys) ∙ sym (append_assoc (watchers_by n x.when) (watchers_from (suc n) xs) (watchers_from (suc n + length xs) ys))
    ∙ ap (λ k. (watchers_by n x.when ++ watchers_from (suc n) xs) ++ watchers_from k ys) (omega arith)

waits-cut : (k : ℕ) (listed : List Demand) → take (length (watchers_from 0 (take k listed))) (watchers_from 0 listed) ≡ watchers_from 0 (take k listed)
waits-cut k listed =
    ap (λ ds. take (length (watchers_from 0 (take k listed))) (watchers_from 0 ds)) (sym (take-append-drop k listed))
    ∙ ap (take (length (watchers_from 0 (take k listed)))) (waits-append 0 (take k listed) (drop k listed))
    ∙ take-append_seam (watchers_from 0 (take k listed)) (watchers_from (0 + length (take k listed)) (drop k listed))

pub demands-grow : (listed more : List Demand) (ms : List Mention) → AreTargets listed ms → demands_at (listed ++ more) (places_of ms) ≡ demands_at listed (places_of ms)
demands-grow listed more [] h = refl
demands-grow listed more (m ∷ ms) h =
    ap (λ d. d ∷ demands_at (listed ++ more) (places_of ms)) (get_or-append listed more no_demand m.place (h.within [] m ms refl))
    ∙ ap (λ ds. demand_at listed m.place ∷ ds) (demands-grow listed more ms (targets-tail listed m ms h))

-- registering entries keeps the invariant of a stack
pub parts-keep : (trail : List Choice) (marks : List Mark) (listed : List Demand) (active watchers : List Mention) (s t : Entries)
    → AreParts trail marks listed active watchers s → t.linked ≡ s.linked → StayKept any_var s t → AreParts trail marks listed active watchers t
parts-keep trail marks listed active watchers s t h same stay = record {
  levels = marks-keep t h.levels (λ n v sides chosen k. stay n v sides refl k);
  waiting = h.waiting;
  opened = λ v. ap (λ (vars : List Var). has vars v) same ∙ h.opened v;
}

pub parts-same : (trail after : List Choice) (marks above : List Mark) (listed ds : List Demand) (active ms watchers ws : List Mention) (s : Entries)
    → after ≡ trail → above ≡ marks → ds ≡ listed → ms ≡ active → ws ≡ watchers → AreParts trail marks listed active watchers s → AreParts after above ds ms ws s
parts-same trail after marks above listed ds active ms watchers ws s t m l a w h =
    subst (λ (x : List Choice). AreParts x above ds ms ws s) (sym t) (subst (λ (x : List Mark). AreParts trail x ds ms ws s) (sym m)
    (subst (λ (x : List Demand). AreParts trail marks x ms ws s) (sym l) (subst (λ (x : List Mention). AreParts trail marks listed x ws s) (sym a)
    (subst (λ (x : List Mention). AreParts trail marks listed active x s) (sym w) h))))

-- more demands listed, and more active
pub parts-grow : (trail : List Choice) (marks : List Mark) (listed after more : List Demand) (active asked above watchers waits : List Mention) (s t : Entries)
    → AreParts trail marks listed active watchers s → after ≡ listed ++ more → above ≡ active ++ asked → waits ≡ watchers ++ watchers_from (length listed) more
    → AreTargets (listed ++ more) (active ++ asked) → AreOpen above trail t.linked → StayKept (is_chosen_in trail) s t
    → AreParts trail marks after above waits t
parts-grow trail marks listed after more active asked above watchers waits s t h after_is above_is waits_is targets opened stay = record {
  levels =
      subst (λ (ds : List Demand). AreMarks trail marks ds above t) (sym after_is)
      (subst (λ (ms : List Mention). AreMarks trail marks (listed ++ more) ms t) (sym above_is)
      (marks-push asked (marks-keep t (marks-grow more h.levels) stay) targets));
  waiting =
      waits_is ∙ ap (λ ws. ws ++ watchers_from (length listed) more) h.waiting ∙ ap (λ n. watchers_from 0 listed ++ watchers_from n more) (omega arith)
      ∙ sym (waits-append 0 listed more) ∙ ap (watchers_from 0) (sym after_is);
  opened = opened;
}

-- the last choice removed

pub marks-undo : {trail : List Choice} {marks : List Mark} {listed : List Demand} {active : List Mention} {s : Entries} (front : List Choice) (c : Choice) (less : List Mark) (m : Mark)
    → AreMarks trail marks listed active s → trail ≡ front ++ c ∷ [] → marks ≡ less ++ m ∷ []
    → AreMarks front less (take m.listed listed) (take m.active active) s × IsMark front c m listed active s
marks-undo front c less m (none targets) e f = absurd (snoc-none front c [] e)
marks-undo {listed = listed} {active = active} {s = s} front c less m (on {front = front'} {less = less'} c' m' levels e' f' is targets) e f =
    let choices = snoc-same front' c' front c (sym e' ∙ e) in
    let numbers = snoc-same less' m' less m (sym f' ∙ f) in (
      subst (λ (cs : List Choice). AreMarks cs less (take m.listed listed) (take m.active active) s) choices.0
          (subst (λ (ms : List Mark). AreMarks front' ms (take m.listed listed) (take m.active active) s) numbers.0
          (subst (λ (k : Mark). AreMarks front' less' (take k.listed listed) (take k.active active) s) numbers.1 levels)),
      subst (λ (cs : List Choice). IsMark cs c m listed active s) choices.0
          (subst (λ (k : Choice). IsMark front' k m listed active s) choices.1
          (subst (λ (k : Mark). IsMark front' c' k listed active s) numbers.1 is)),
    )

pub marks-some : {trail : List Choice} {marks : List Mark} {listed : List Demand} {active : List Mention} {s : Entries} (front : List Choice) (c : Choice)
    → AreMarks trail marks listed active s → trail ≡ front ++ c ∷ [] → (less : List Mark) × (m : Mark) × (marks ≡ less ++ m ∷ [])
marks-some front c (none targets) e = absurd (snoc-none front c [] e)
marks-some front c (on {less = less} c' m levels e' f is targets) e = (less, m, f)

-- after a choice is undone, its variable may be relinked
pub comes-back : (front : List Choice) (c : Choice) (entry : ℕ) (asked : List Mention) (s t : Entries) → IsHeld front c.var entry asked s → value_in front c.var ≡ None
    → has (vars_at asked) c.var ≡ true → StayKept (is_chosen_in (front ++ c ∷ [])) s t → AreOpen asked (front ++ c ∷ []) t.linked → MayComeBack t entry
comes-back front c entry asked s t held free there stay opened = record {
  var = c.var;
  before = held.before;
  rising = held.rising;
  there = held.opened c.var ∙ ap (λ b. b && is_none (value_in front c.var)) there ∙ ap is_none free;
  kept = stay entry c.var (beside (same_var c.var) held.before) (chosen-last front (front ++ c ∷ []) c refl free) held.kept;
  others = λ v.
      opened v ∙ sym (open-hold asked front held.before (without c.var held.before) c held.opened free (has-without c.var held.before) v)
      ∙ has-without c.var held.before v;
}

pub parts-undo : (trail front : List Choice) (marks less : List Mark) (listed fewer : List Demand) (active asked watchers left : List Mention) (s t u : Entries)
    (c : Choice) (m : Mark) → AreParts trail marks listed active watchers s → trail ≡ front ++ c ∷ [] → marks ≡ less ++ m ∷ []
    → asked ≡ take m.active active → AreOpen asked trail t.linked → StayKept (is_chosen_in trail) s t → left ≡ take m.watchers watchers → fewer ≡ take m.listed listed
    → ((v : Var) → has u.linked v ≡ (same_var c.var v || has t.linked v)) → StayKept (is_other c.var) t u
    → AreParts front less fewer asked left u
parts-undo trail front marks less listed fewer active asked watchers left s t u c m h e f asked_is opened stay left_is fewer_is more_is back =
    let level = marks-undo front c less m h.levels e f in
    let free : is_chosen_in front c.var ≡ false = ap is_some level.1.new in
    let levels = marks-keep u level.0 (λ n v sides chosen k.
    back n v sides (chosen-other front c.var v free chosen) (stay n v sides (chosen-on front trail c v e level.1.new chosen) k)) in
    record {
      levels =
          subst (λ (ms : List Mention). AreMarks front less fewer ms u) (sym asked_is)
          (subst (λ (ds : List Demand). AreMarks front less ds (take m.active active) u) (sym fewer_is) levels);
      waiting =
          left_is ∙ ap (take m.watchers) h.waiting ∙ ap (λ n. take n (watchers_from 0 listed)) level.1.watchers ∙ waits-cut m.listed listed
          ∙ ap (watchers_from 0) (sym fewer_is);
      opened = λ v.
          more_is v ∙ ap (λ b. same_var c.var v || b) (opened v)
          ∙ elim (same_var c.var v) as (λ b. same_var c.var v ≡ b
          → b || (has (vars_at asked) v && is_none (value_in trail v)) ≡ has (vars_at asked) v && is_none (cond b None (value_in trail v))) [
            | true ↦ λ k.
                let there : has (vars_at asked) v ≡ true = ap (has (vars_at asked)) (sym (same_var-is c.var v k)) ∙ ap (λ ms. has (vars_at ms) c.var) asked_is ∙ level.1.asked in
                sym (ap (λ b. b && true) there)
            | false ↦ λ k. refl
          ] refl
          ∙ ap (λ o. has (vars_at asked) v && is_none o)
          (ap (λ cs. cond (same_var c.var v) None (value_in cs v)) e ∙ value-pop front c v level.1.new);
    }

-- the view of a stack

abbrev seen : List Choice → List Demand → List Demand → List ℕ → List ℕ → View
seen trail listed active listed_before active_before =
    record { trail = trail; listed = listed; active = active; listed_before = listed_before; active_before = active_before }

pub seen-same : (t u : List Choice) (l m a b : List Demand) (n k i j : List ℕ) → t ≡ u → l ≡ m → a ≡ b → n ≡ k → i ≡ j → seen t l a n i ≡ seen u m b k j
seen-same t u l m a b n k i j e f g h o =
    ap (λ x. seen x l a n i) e ∙ ap (λ x. seen u x a n i) f ∙ ap (λ x. seen u m x n i) g ∙ ap (λ x. seen u m b x i) h ∙ ap (λ x. seen u m b k x) o

pub front-of : {X : Type 0} (front : List X) (x : X) → front_of (front ++ x ∷ []) ≡ front
front-of front x =
    ap (λ n. take n (front ++ x ∷ [])) (let e : length (front ++ x ∷ []) - 1 ≡ length front = omega (arith, length-append front (x ∷ [])) in e) ∙ take-append_seam front (x ∷ [])

pub last-number : (front : List ℕ) (n : ℕ) → last_number (front ++ n ∷ []) ≡ n
last-number front n =
    ap (λ k. get_or (front ++ n ∷ []) k 0) (let e : length (front ++ n ∷ []) - 1 ≡ length front = omega (arith, length-append front (n ∷ [])) in e)
    ∙ get_or-append_seam front n [] 0

demands-take : (n : ℕ) (listed : List Demand) (ms : List Mention) → demands_at listed (places_of (take n ms)) ≡ take n (demands_at listed (places_of ms))
demands-take zero listed ms = refl
demands-take (suc n) listed [] = refl
demands-take (suc n) listed (m ∷ ms) = ap (λ ds. demand_at listed m.place ∷ ds) (demands-take n listed ms)

demands-cut : (k : ℕ) (listed : List Demand) (ms : List Mention) → AreTargets (take k listed) ms → demands_at (take k listed) (places_of ms) ≡ demands_at listed (places_of ms)
demands-cut k listed ms h =
    sym (demands-grow (take k listed) (drop k listed) ms h) ∙ ap (λ ds. demands_at ds (places_of ms)) (take-append-drop k listed)

pub undone-seen : {s : Entries} (trail front : List Choice) (marks less : List Mark) (listed fewer : List Demand) (active asked : List Mention) (c : Choice) (m : Mark)
    → AreMarks trail marks listed active s → trail ≡ front ++ c ∷ [] → marks ≡ less ++ m ∷ [] → asked ≡ take m.active active → fewer ≡ take m.listed listed
    → seen front fewer (demands_at fewer (places_of asked)) (map (λ k. k.listed) less) (map (λ k. k.active) less)
    ≡ undone (seen trail listed (demands_at listed (places_of active)) (map (λ k. k.listed) marks) (map (λ k. k.active) marks))
undone-seen trail front marks less listed fewer active asked c m levels e f asked_is fewer_is =
    let inner = marks-targets (marks-undo front c less m levels e f).0 in
    let listed_marks : map (λ (k : Mark). k.listed) marks ≡ map (λ (k : Mark). k.listed) less ++ m.listed ∷ [] = ap (map (λ (k : Mark). k.listed)) f ∙ map-append (λ (k : Mark). k.listed) less (m ∷ []) in
    let active_marks : map (λ (k : Mark). k.active) marks ≡ map (λ (k : Mark). k.active) less ++ m.active ∷ [] = ap (map (λ (k : Mark). k.active)) f ∙ map-append (λ (k : Mark). k.active) less (m ∷ []) in
    let was_listed : last_number (map (λ (k : Mark). k.listed) marks) ≡ m.listed = ap last_number listed_marks ∙ last-number (map (λ (k : Mark). k.listed) less) m.listed in
    let was_active : last_number (map (λ (k : Mark). k.active) marks) ≡ m.active = ap last_number active_marks ∙ last-number (map (λ (k : Mark). k.active) less) m.active in
    seen-same front (front_of trail) fewer (take (last_number (map (λ (k : Mark). k.listed) marks)) listed) (demands_at fewer (places_of asked))
    (take (last_number (map (λ (k : Mark). k.active) marks)) (demands_at listed (places_of active))) (map (λ (k : Mark). k.listed) less)
    (front_of (map (λ (k : Mark). k.listed) marks)) (map (λ (k : Mark). k.active) less) (front_of (map (λ (k : Mark). k.active) marks))
    (sym (ap front_of e ∙ front-of front c))
    (fewer_is ∙ ap (λ n. take n listed) (sym was_listed))
    (ap (λ ds. demands_at ds (places_of asked)) fewer_is ∙ ap (λ ms. demands_at (take m.listed listed) (places_of ms)) asked_is
    ∙ demands-cut m.listed listed (take m.active active) inner ∙ demands-take m.active listed active
    ∙ ap (λ n. take n (demands_at listed (places_of active))) (sym was_active))
    (sym (ap front_of listed_marks ∙ front-of (map (λ (k : Mark). k.listed) less) m.listed))
    (sym (ap front_of active_marks ∙ front-of (map (λ (k : Mark). k.active) less) m.active))

pub length-active : (listed : List Demand) (ms : List Mention) → length (demands_at listed (places_of ms)) ≡ length ms
length-active listed [] = refl
length-active listed (m ∷ ms) = ap suc (length-active listed ms)
