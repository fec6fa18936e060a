-- The paths of a condition: some path holds iff the condition has the wanted value.
use Rattle.std.specs.Prelude.{ℕ, Bool, true, false, not, ◌&&◌, Option, None, Some, List, [], ◌∷◌, ◌++◌, map, filter, if◌then◌else◌}
use Rattle.std.specs.List.{list_all, filter_map}
use Rattle.plan_types.specs.declared.condition.Cond.{Cond}
use Rattle.plan_types.specs.declared.condition.Cond.TheOpen.{Cond-F, Always, Never, Flag, Os, Arch, Impl, Not, And, Or}
use Rattle.plan_types.specs.declared.condition.Cond.TheFolds.{fold-Cond}
use Rattle.plan_types.specs.declared.condition.Env.{Env}
use Rattle.plan_types.specs.declared.condition.FlagSet.{FlagSet}
use Rattle.conditionals.specs.declared.value.Tri.{Tri}
use Rattle.conditionals.specs.declared.value.Tri.TheVariants.{Yes, No, Unknown}
use Rattle.conditionals.specs.Environment.{is_system, is_processor, is_compiler}
use Rattle.conditionals.specs.Value.{Flags}
use Rattle.plan_types.specs.Bytes.{same_text}

-- a path: a list of settings of flags
abbrev pub Path : Type 0
Path = List FlagSet

-- one empty path if the two values are equal, else no path
abbrev pub fixed : Bool → Bool → List Path
fixed true true = [] ∷ []
fixed true false = []
fixed false true = []
fixed false false = [] ∷ []

-- a setting of a flag
abbrev pub sets : List ℕ → Bool → FlagSet
sets name on = record { name = name; on = on }

-- each path of the first followed by each path of the second
abbrev pub followed : List Path → List Path → List Path
followed [] second = []
followed (path ∷ first) second = map (λ next. path ++ next) second ++ followed first second

-- the paths of one layer of a condition, from those of its parts
abbrev pub paths_step : Env → Cond-F (Bool → List Path) → Bool → List Path
paths_step env Always want = fixed true want
paths_step env Never want = fixed false want
paths_step env (Flag name) want = (sets name want ∷ []) ∷ []
paths_step env (Os name) want = fixed (is_system env name) want
paths_step env (Arch name) want = fixed (is_processor env name) want
paths_step env (Impl name range) want = fixed (is_compiler env name range) want
paths_step env (Not inner) want = inner (not want)
paths_step env (And left right) true = followed (left true) (right true)
paths_step env (And left right) false = left false ++ followed (left true) (right false)
paths_step env (Or left right) true = left true ++ followed (left false) (right true)
paths_step env (Or left right) false = followed (left false) (right false)

-- all paths of a condition for true or false, contradictory ones included
abbrev pub paths_of : Env → Cond → Bool → List Path
paths_of env = fold-Cond (Bool → List Path) (paths_step env)

-- whether two booleans are equal
abbrev pub is_same : Bool → Bool → Bool
is_same true on = on
is_same false on = not on

-- two settings agree: they are of different flags, or equal
abbrev pub agree : FlagSet → FlagSet → Bool
agree s t = if same_text s.name t.name then is_same s.on t.on else true

-- whether a path is consistent: no flag is both on and off
abbrev pub is_consistent : Path → Bool
is_consistent [] = true
is_consistent (s ∷ path) = list_all (agree s) path && is_consistent path

-- a path without repeated settings; the first of each is kept
abbrev pub kept_once : Path → Path
kept_once [] = []
kept_once (s ∷ path) = s ∷ filter (λ t. not (same_text s.name t.name)) (kept_once path)

-- a path with each setting once; none if it is contradictory
abbrev pub clean_path : Path → Option Path
clean_path path = if is_consistent path then Some (kept_once path) else None

-- the paths without contradictory ones, with each setting once
abbrev pub clean_paths : List Path → List Path
clean_paths = filter_map clean_path

-- whether a flag is known to have this setting
abbrev pub has_setting : Option Bool → Bool → Bool
has_setting None on = false
has_setting (Some is) on = is_same is on

-- whether a path holds: all its settings agree with a partial assignment, which sets all its flags
abbrev pub holds : Flags → Path → Bool
holds flags = list_all (λ s. has_setting (flags s.name) s.on)

-- whether a value is the wanted one: Yes for true, No for false
abbrev pub is_wanted : Bool → Tri → Bool
is_wanted true Yes = true
is_wanted true No = false
is_wanted true Unknown = false
is_wanted false Yes = false
is_wanted false No = true
is_wanted false Unknown = false
