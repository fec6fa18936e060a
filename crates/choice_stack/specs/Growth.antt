-- Mentions that are ready before a choice: of variables for which new demands wait, and of targets that become active.
use Rattle.std.specs.Prelude.{◌≡◌, ℕ, ◌+◌, ◌≤◌, List, ◌++◌, length, map, take}
use Rattle.choice_problem.specs.declared.problem.Demand.{Demand}
use Rattle.goal_links.specs.Mentions.{mention_of}
use Rattle.goal_links.specs.declared.mentions.Mention.{Mention}
use Rattle.choice_stack.specs.declared.growth.Ready.{Ready}
use Rattle.choice_stack.specs.Stack.{demand_at, watchers_from}

-- mentions of the targets of the demands at the places, where demands are numbered from first
abbrev pub mentions_at : ℕ → List Demand → List ℕ → List Mention
mentions_at first demands places = map (λ n. mention_of (demand_at demands n).target (first + n)) places

-- the first ready mentions are those of the new demands and of the demands that become active
pub record IsReady (listed : List Demand) (waiting active : List Mention) (demands : List Demand) (woken fresh : List ℕ) (ready : Ready) : Type 0 where
  pub waiting_is : take ready.waiting waiting ≡ watchers_from (length listed) demands
  pub waiting_within : ready.waiting ≤ length waiting
  pub active_is : take ready.active active ≡ mentions_at 0 listed woken ++ mentions_at (length listed) demands fresh
  pub active_within : ready.active ≤ length active
