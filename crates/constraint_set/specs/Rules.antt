-- The kept form of constraints: what they require by package and part, in the order of the constraints, with scopes.
use Rattle.std.specs.Prelude.{◌≡◌, ℕ, Bool, true, false, not, ◌&&◌, List, [], ◌∷◌, ◌++◌, map, flat_map, nat_eq, if◌then◌else◌}
use Rattle.indexmap.specs.IndexMap.{IndexMap}
use Rattle.plan_types.specs.Members.{members}
use Rattle.plan_types.specs.declared.constraint.Constraint.{Constraint}
use Rattle.plan_types.specs.declared.constraint.What.{What}
use Rattle.plan_types.specs.declared.constraint.What.TheVariants.{Range as OfRange, Installed as OfUnit, Source as OfSource, Flags, Tests, Benches}
use Rattle.plan_types.specs.declared.index.Instance.{Instance}
use Rattle.qualified_goals.specs.declared.variable.Qual.{Qual}
use Rattle.qualified_goals.specs.declared.variable.Part.{Part}
use Rattle.qualified_goals.specs.declared.variable.Part.TheVariants.{Package, Flag, Tests as TestPart, Benches as BenchPart}
use Rattle.qualified_goals.specs.Names.{NameTable}
use Rattle.constraint_set.specs.Bars.{is_on, is_unit, is_value, values_of}
use Rattle.keyed_lists.specs.Lists.{items_at}
use Rattle.constraint_set.specs.NumberedScope.{numbered, numbered_covers}
use Rattle.constraint_set.specs.declared.numbered_scope.NumberedScope.{NumberedScope}
use Rattle.constraint_set.specs.declared.rules.Requirement.{Requirement}
use Rattle.constraint_set.specs.declared.rules.Requirement.TheVariants.{Range, Installed, Source}
use Rattle.constraint_set.specs.declared.rules.Rule.{Rule}
use Rattle.constraint_set.specs.declared.rules.PartRule.{PartRule}
use Rattle.constraint_set.specs.declared.rules.PartOf.{PartOf}
use Rattle.constraint_set.specs.declared.rules.Rules.{Rules}

-- whether a requirement excludes an instance
abbrev pub excluded : Requirement → Instance → Bool
excluded (Range range) i = not (members range i.version)
excluded Installed i = not (is_unit i.origin)
excluded Source i = is_unit i.origin

-- whether a rule bars an instance under a qualifier
abbrev pub rule_bars : Qual → Instance → Rule → Bool
rule_bars qual i rule = numbered_covers rule.scope qual && excluded rule.wanted i

-- whether a setting requires a value under a qualifier
abbrev pub is_set : Qual → Bool → PartRule → Bool
is_set qual on setting = numbered_covers setting.scope qual && is_value setting.on on

-- whether two parts are equal
abbrev pub is_part : Part → Part → Bool
is_part Package Package = true
is_part Package (Flag g) = false
is_part Package TestPart = false
is_part Package BenchPart = false
is_part (Flag f) Package = false
is_part (Flag f) (Flag g) = nat_eq f g
is_part (Flag f) TestPart = false
is_part (Flag f) BenchPart = false
is_part TestPart Package = false
is_part TestPart (Flag g) = false
is_part TestPart TestPart = true
is_part TestPart BenchPart = false
is_part BenchPart Package = false
is_part BenchPart (Flag g) = false
is_part BenchPart TestPart = false
is_part BenchPart BenchPart = true

-- whether two parts of packages are equal
abbrev pub is_part_of : PartOf → PartOf → Bool
is_part_of a b = nat_eq a.«package» b.«package» && is_part a.part b.part

-- the settings of a part of a package
abbrev pub settings_at : {S : Type 0} → IndexMap PartOf (List PartRule) S → ℕ → Part → List PartRule
settings_at parts p part = items_at is_part_of parts (record { «package» = p; part = part })

-- what a constraint requires of its package
abbrev pub requirement_of : What → List Requirement
requirement_of (OfRange range) = Range range ∷ []
requirement_of OfUnit = Installed ∷ []
requirement_of OfSource = Source ∷ []
requirement_of (Flags sets) = []
requirement_of Tests = []
requirement_of Benches = []

-- these requirements as rules of one scope
abbrev pub rules_as : NumberedScope → List Requirement → List Rule
rules_as scope wanted = map (λ w. record { scope = scope; wanted = w }) wanted

-- these values as settings of one scope
abbrev pub settings_as : NumberedScope → List Bool → List PartRule
settings_as scope values = map (λ on. record { scope = scope; on = on }) values

-- the rules that a constraint makes for its package
abbrev pub rules_of : NameTable → Constraint → List Rule
rules_of names c = rules_as (numbered names c.scope) (requirement_of c.what)

-- the settings that a constraint makes for a part of its package
abbrev pub settings_of : NameTable → Part → Constraint → List PartRule
settings_of names part c = settings_as (numbered names c.scope) (values_of names c.what part)

-- the rules that a constraint makes for a given package
abbrev pub rules_on : NameTable → ℕ → Constraint → List Rule
rules_on names p c = if is_on names c p then rules_of names c else []

-- the settings that a constraint makes for a part of a given package
abbrev pub settings_on : NameTable → ℕ → Part → Constraint → List PartRule
settings_on names p part c = if is_on names c p then settings_of names part c else []

-- these items for one package, none for others
abbrev pub at_package : {X : Type 0} → ℕ → List X → ℕ → List X
at_package «package» items p = if nat_eq «package» p then items else []

-- one setting for one part of one package, none for others
abbrev pub at_part : ℕ → Part → PartRule → ℕ → Part → List PartRule
at_part «package» part setting p other = if nat_eq «package» p && is_part part other then setting ∷ [] else []

-- more rules are appended to those of each package
abbrev pub AddsRules : Rules → Rules → (ℕ → List Rule) → Type 0
AddsRules old new more = (p : ℕ) → items_at nat_eq new.packages p ≡ items_at nat_eq old.packages p ++ more p

-- more settings are appended to those of each part
abbrev pub AddsSettings : Rules → Rules → (ℕ → Part → List PartRule) → Type 0
AddsSettings old new more = (p : ℕ) (part : Part) → settings_at new.parts p part ≡ settings_at old.parts p part ++ more p part

-- the kept rules and settings are those of the constraints
pub record RulesAre (names : NameTable) (constraints : List Constraint) (rules : Rules) : Type 0 where
  pub packages_are : (p : ℕ) → items_at nat_eq rules.packages p ≡ flat_map (rules_on names p) constraints
  pub parts_are : (p : ℕ) (part : Part) → settings_at rules.parts p part ≡ flat_map (settings_on names p part) constraints
