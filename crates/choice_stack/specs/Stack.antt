-- Stacks of choices: their invariant, and their changes.
use Rattle.std.specs.Prelude.{◌≡◌, ◌↔◌, ℕ, zero, suc, ◌-◌, ◌<◌, ◌≤◌, Bool, true, false, not, cond, ◌&&◌, List, [], ◌∷◌, ◌++◌, length, take, map, filter, None, is_none, slice_index_or, option_to_list, flat_map}
use Rattle.std.specs.List.{Contains, list_any}
use Rattle.qualified_goals.specs.declared.variable.Var.{Var}
use Rattle.choice_problem.specs.declared.problem.Choice.{Choice}
use Rattle.choice_problem.specs.declared.problem.Demand.{Demand}
use Rattle.qualified_goals.specs.Variable.{same_var}
use Rattle.choice_problem.specs.Active.{asks_for}
use Rattle.choice_problem.specs.Assignment.{is_yes}
use Rattle.choice_problem.specs.Trail.{value_in}
use Rattle.choice_problem.specs.ConflictSet.{is_rising, has}
use Rattle.goal_links.specs.Beside.{beside}
use Rattle.goal_links.specs.Links.{Entries}
use Rattle.goal_links.specs.Mentions.{mention_of, vars_at}
use Rattle.goal_links.specs.declared.mentions.Mention.{Mention}
use Rattle.choice_stack.specs.declared.stack.Mark.{Mark}
use Rattle.choice_stack.specs.View.{View}
use Rattle.choice_stack.specs.Open.{Keeps}
use Rattle.demand_cycles.specs.Cycles.{owner_of}
pub use Rattle.demand_agreement.specs.Places.{no_demand, demand_at, AllBelow}

-- the demands at some places
abbrev pub demands_at : List Demand → List ℕ → List Demand
demands_at listed places = map (demand_at listed) places

-- count consecutive places from n on
abbrev pub rising_from : ℕ → ℕ → List ℕ
rising_from n zero = []
rising_from n (suc count) = n ∷ rising_from (suc n) count

-- whether any of the choices is of the variable
abbrev pub are_naming : Var → List Choice → Bool
are_naming v choices = list_any (λ c. same_var c.var v) choices

-- the variables that a demand waits for, each once
abbrev pub watchers_by : ℕ → List Choice → List Mention
watchers_by n [] = []
watchers_by n (c ∷ rest) = cond (are_naming c.var rest) (watchers_by n rest) (mention_of c.var n ∷ watchers_by n rest)

-- whether choices name each variable once
abbrev pub are_once : List Choice → Bool
are_once [] = true
are_once (c ∷ rest) = not (are_naming c.var rest) && are_once rest

-- the same for several demands, numbered from n
abbrev pub watchers_from : ℕ → List Demand → List Mention
watchers_from n [] = []
watchers_from n (d ∷ demands) = watchers_by n d.when ++ watchers_from (suc n) demands

-- each mention is of the target of a listed demand, with its place
pub record AreTargets (listed : List Demand) (active : List Mention) : Type 0 where
  pub within : (front : List Mention) (m : Mention) (rest : List Mention) → active ≡ front ++ m ∷ rest → m.place < length listed
  pub target : (front : List Mention) (m : Mention) (rest : List Mention) → active ≡ front ++ m ∷ rest → m.var ≡ (demand_at listed m.place).target

-- the variables are the targets of active demands without a value
abbrev pub AreOpen : List Mention → List Choice → List Var → Type 0
AreOpen active trail vars = (v : Var) → has vars v ≡ (has (vars_at active) v && is_none (value_in trail v))

-- the entry of a chosen variable keeps its neighbours among the variables that were open before the choice
pub record IsHeld (front : List Choice) (v : Var) (entry : ℕ) (asked : List Mention) (s : Entries) : Type 0 where
  pub before : List Var
  pub rising : is_rising before ≡ true
  pub opened : AreOpen asked front before
  pub kept : Keeps s entry v (beside (same_var v) before)

-- the mark of a choice of an open variable: the counts before it, and its variable's entry
pub record IsMark (front : List Choice) (c : Choice) (m : Mark) (listed : List Demand) (active : List Mention) (s : Entries) : Type 0 where
  pub new : value_in front c.var ≡ None
  pub asked : has (vars_at (take m.active active)) c.var ≡ true
  pub held : IsHeld front c.var m.entry (take m.active active) s
  pub listed_within : m.listed ≤ length listed
  pub active_within : m.active ≤ length active
  pub watchers : m.watchers ≡ length (watchers_from 0 (take m.listed listed))

-- choices with their marks: each mark is right for the demands listed and active before its choice
pub data AreMarks : List Choice → List Mark → List Demand → List Mention → Entries → Type 0 where
  none : {listed : List Demand} {active : List Mention} {s : Entries} → AreTargets listed active → AreMarks [] [] listed active s
  on : {front trail : List Choice} {less marks : List Mark} {listed : List Demand} {active : List Mention} {s : Entries} → (c : Choice) → (m : Mark)
      → AreMarks front less (take m.listed listed) (take m.active active) s → trail ≡ front ++ c ∷ [] → marks ≡ less ++ m ∷ []
      → IsMark front c m listed active s → AreTargets listed active → AreMarks trail marks listed active s

-- the invariant of a stack
pub record AreParts (trail : List Choice) (marks : List Mark) (listed : List Demand) (active watchers : List Mention) (s : Entries) : Type 0 where
  pub levels : AreMarks trail marks listed active s
  pub waiting : watchers ≡ watchers_from 0 listed
  pub opened : AreOpen active trail s.linked

-- a list without its last item
abbrev pub front_of : {X : Type 0} → List X → List X
front_of xs = take (length xs - 1) xs

-- the last number of a list
abbrev pub last_number : List ℕ → ℕ
last_number ns = slice_index_or ns (length ns - 1) 0

-- the view without the last choice
abbrev pub undone : View → View
undone s = record {
  trail = front_of s.trail;
  listed = take (last_number s.listed_before) s.listed;
  active = take (last_number s.active_before) s.active;
  listed_before = front_of s.listed_before;
  active_before = front_of s.active_before;
}

-- one more choice
abbrev pub held : View → Choice → View
held s c = record {
  trail = s.trail ++ c ∷ [];
  listed = s.listed;
  active = s.active;
  listed_before = s.listed_before ++ length s.listed ∷ [];
  active_before = s.active_before ++ length s.active ∷ [];
}

-- more demands are listed
abbrev pub with_listed : View → List Demand → View
with_listed s more = record s { listed = s.listed ++ more }

-- more demands are active
abbrev pub with_active : View → List Demand → View
with_active s more = record s { active = s.active ++ more }

-- whether a demand's condition names a variable
abbrev pub names : Var → Demand → Bool
names v d = are_naming v d.when

-- whether a demand names a variable and is Yes
abbrev pub is_turned : List Choice → Var → Demand → Bool
is_turned trail v d = names v d && is_yes (value_in trail) d

-- the place of the demand, if it names the variable and is Yes
abbrev pub place_turned : List Choice → Var → List Demand → ℕ → List ℕ
place_turned trail v listed place = cond (is_turned trail v (demand_at listed place)) (place ∷ []) []

-- the demands that name a variable and are Yes
abbrev pub turned : List Choice → Var → List Demand → List Demand
turned trail v listed = filter (is_turned trail v) listed

-- one more choice, with its demands listed, and those active that become Yes
abbrev pub made : View → Choice → List Demand → View
made s c demands = with_active (with_listed (held s c) demands) (turned (s.trail ++ c ∷ []) c.var (s.listed ++ demands))

-- the owners' variables of the demands
abbrev pub owners_of : List Demand → List Var
owners_of demands = flat_map (λ d. option_to_list (owner_of d)) demands

-- the owner's variable of a demand on the variable
abbrev pub source_on : Var → Demand → List Var
source_on v d = cond (asks_for v d) (option_to_list (owner_of d)) []

-- the owners' variables of the demands on the variable
abbrev pub sources_on : Var → List Demand → List Var
sources_on v demands = flat_map (source_on v) demands

-- whether a variable is that of the first choice of a condition
abbrev pub is_first : Var → List Choice → Bool
is_first v [] = false
is_first v (owner ∷ others) = same_var owner.var v

-- whether a variable owns a demand
abbrev pub is_owned_by : Var → Demand → Bool
is_owned_by v d = is_first v d.when

-- the target of a demand that the variable owns
abbrev pub target_by : Var → Demand → List Var
target_by v d = cond (is_owned_by v d) (d.target ∷ []) []

-- the targets of the demands that the variable owns
abbrev pub targets_by : Var → List Demand → List Var
targets_by v demands = flat_map (target_by v) demands

-- the active demands are the listed ones that are Yes
abbrev pub IsSettled : View → Type 0
IsSettled s = (d : Demand) → (Contains s.active d) ↔ (Contains s.listed d × (is_yes (value_in s.trail) d ≡ true))
