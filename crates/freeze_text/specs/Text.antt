-- The text of constraints.
use Rattle.std.specs.Prelude.{ℕ, Bool, ◌==◌, ◌||◌, nat_eq, List, [], ◌∷◌, ◌++◌, flat_map, length, codes, if◌then◌else◌}
use Rattle.std.specs.List.{ends_with}
use Rattle.plan_types.specs.declared.condition.FlagSet.{FlagSet}
use Rattle.plan_types.specs.declared.constraint.Constraint.{Constraint}
use Rattle.plan_types.specs.declared.constraint.Scope.{Scope}
use Rattle.plan_types.specs.declared.constraint.Scope.TheVariants.{Top, Any, Setup, SetupOf}
use Rattle.plan_types.specs.declared.constraint.What.{What}
use Rattle.plan_types.specs.declared.constraint.What.TheVariants.{Range, Installed, Source, Flags, Tests, Benches}
use Rattle.version_range.specs.Print.{range_text}

-- nothing, `any.`, `setup.` or `p:setup.`
abbrev pub scope_text : Scope → List ℕ
scope_text Top = []
scope_text Any = codes "any."
scope_text Setup = codes "setup."
scope_text (SetupOf owner) = owner ++ codes ":setup."

-- a flag that is on or off, after a space
abbrev pub flag_text : FlagSet → List ℕ
flag_text set = (if set.on then codes " +" else codes " -") ++ set.name

-- what a constraint asks for, after a space
abbrev pub what_text : What → List ℕ
what_text (Range range) = codes " " ++ range_text range
what_text Installed = codes " installed"
what_text Source = codes " source"
what_text (Flags sets) = flat_map flag_text sets
what_text Tests = codes " test"
what_text Benches = codes " bench"

-- a constraint: its scope, its package, and what it asks for
abbrev pub constraint_text : Constraint → List ℕ
constraint_text c = scope_text c.scope ++ (c.«package» ++ what_text c.what)

-- the end of a line, with a comma before it unless it is the last
abbrev pub end_text : Bool → List ℕ
end_text last = if last then codes "\n" else codes ",\n"

-- a constraint on a line of its own
abbrev pub line_text : Constraint → Bool → List ℕ
line_text c last = codes "    " ++ (constraint_text c ++ end_text last)

-- constraints, one a line, with a comma after each but the last
abbrev pub lines_text : List Constraint → List ℕ
lines_text [] = []
lines_text (c ∷ constraints) = line_text c (length constraints == 0) ++ lines_text constraints

-- a project file with these constraints, empty if there are none
abbrev pub freeze_text : List Constraint → List ℕ
freeze_text [] = []
freeze_text (c ∷ constraints) = codes "constraints:\n" ++ lines_text (c ∷ constraints)

-- whether a text is empty or ends with a line end
abbrev pub ends_with_newline : List ℕ → Bool
ends_with_newline text = length text == 0 || ends_with nat_eq text (10 ∷ [])

-- a text with a line end behind its last line
abbrev pub with_newline : List ℕ → List ℕ
with_newline text = if ends_with_newline text then text else text ++ 10 ∷ []

-- a text of constraints behind what a freeze file says
abbrev pub refrozen_text : List ℕ → List Constraint → List ℕ
refrozen_text before constraints = with_newline before ++ freeze_text constraints
