-- The steps from the paths of a left side to those of the whole.
use Rattle.std.specs.Prelude.{◌<◌, Bool, true, false, ◌&&◌, ◌||◌, List, [], ◌∷◌, ◌++◌}
use Rattle.plan_types.specs.declared.condition.Cond.{Cond, size-Cond}
use Rattle.plan_types.specs.declared.condition.Env.{Env}
use Rattle.conditionals.specs.declared.path.BothPaths.{BothPaths}
use Rattle.conditionals.specs.declared.path.WantedPaths.{WantedPaths}
use Rattle.conditionals.specs.declared.path.PathStep.{PathStep}
use Rattle.conditionals.specs.declared.path.PathStep.TheVariants.{Not, And, Or}
use Rattle.conditionals.specs.Paths.{Path, followed, paths_of}

-- the paths if they are needed, else none
abbrev pub needed : Bool → List Path → List Path
needed true paths = paths
needed false paths = []

-- the needed lists of a condition; the others are empty
abbrev pub lists_of : Env → Cond → WantedPaths → BothPaths
lists_of env cond need = record { yes = needed need.yes (paths_of env cond true); no = needed need.no (paths_of env cond false) }

-- the lists of a negated condition
abbrev pub swap_lists : BothPaths → BothPaths
swap_lists lists = record { yes = lists.no; no = lists.yes }

-- the lists of `&&`
abbrev pub join_and : WantedPaths → BothPaths → BothPaths → BothPaths
join_and need left right = record { yes = needed need.yes (followed left.yes right.yes); no = needed need.no (left.no ++ followed left.yes right.no) }

-- the lists of `||`
abbrev pub join_or : WantedPaths → BothPaths → BothPaths → BothPaths
join_or need left right = record { yes = needed need.yes (left.yes ++ followed left.no right.yes); no = needed need.no (followed left.no right.no) }

-- the paths of a condition for both values
abbrev pub all_lists : Env → Cond → BothPaths
all_lists env cond = record { yes = paths_of env cond true; no = paths_of env cond false }

-- the lists after a step, from those of the left side
abbrev pub step_up : Env → PathStep → BothPaths → BothPaths
step_up env Not lists = swap_lists lists
step_up env (And right need) lists = join_and need lists (all_lists env right.now)
step_up env (Or right need) lists = join_or need lists (all_lists env right.now)

-- the lists after all pending steps; the last step comes first
abbrev pub finish : Env → List PathStep → BothPaths → BothPaths
finish env [] lists = lists
finish env (step ∷ steps) lists = step_up env step (finish env steps lists)

-- a pending operand is smaller than the condition
abbrev pub IsSmaller : Cond → PathStep → Type 0
IsSmaller cond Not = Unit {0}
IsSmaller cond (And right need) = size-Cond right.now < size-Cond cond
IsSmaller cond (Or right need) = size-Cond right.now < size-Cond cond

-- which paths of the left side of `&&` are needed, given whether the right side has paths
abbrev pub left_of_and : WantedPaths → Bool → Bool → WantedPaths
left_of_and need some-yes some-no = record { yes = (need.yes && some-yes) || (need.no && some-no); no = need.no }

-- which paths of the left side of `||` are needed
abbrev pub left_of_or : WantedPaths → Bool → Bool → WantedPaths
left_of_or need some-yes some-no = record { yes = need.yes; no = (need.yes && some-yes) || (need.no && some-no) }

-- which paths of the right side are needed; none if it is joined to no path
abbrev pub asked : WantedPaths → List Path → WantedPaths
asked need [] = record { yes = false; no = false }
asked need (path ∷ paths) = need
