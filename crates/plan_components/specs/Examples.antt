-- The definitions on a small index. A local package `main` has a library that is buildable if the flag `a` is on, and
-- needs the installed unit `base` then.
use Rattle.std.specs.Prelude.{◌≡◌, ℕ, true, false, List, [], ◌∷◌, codes, refl}
use Rattle.plan_types.specs.declared.dependency.DepKind.TheVariants as dep_kind
use Rattle.plan_types.specs.declared.description.CompKind.TheVariants.{Library, Executable}
use Rattle.plan_types.specs.declared.condition.Cond.TheVariants.{Always}
use Rattle.conditionals.specs.Layers.{value-Flag, value-And}
use Rattle.plan_types.specs.declared.description.Description.{Description}
use Rattle.plan_types.specs.declared.index.Body.TheVariants.{Source as SourceBody, Installed}
use Rattle.plan_types.specs.declared.index.Package.{Package}
use Rattle.plan_types.specs.declared.index.Source.{Source}
use Rattle.plan_types.specs.declared.index.UnitRecord.{UnitRecord}
use Rattle.plan_types.specs.declared.range.Spec.TheVariants.{V3_0}
use Rattle.flatten.specs.Demands.{demands_of}
use Rattle.flatten.specs.Examples.{linux, a, component, on, under}
use Rattle.flatten.specs.Exposure.{exposed}
use Rattle.flatten.specs.OwnComponents.{is_executable}
use Rattle.flatten.specs.Sound.{instance_of}
use Rattle.qualified_goals.specs.declared.variable.Part.TheVariants.{Flag}
use Rattle.qualified_goals.specs.declared.variable.Qual.TheVariants.{Top}
use Rattle.qualified_goals.specs.Names.{NameTable}
use Rattle.choice_problem.specs.declared.problem.Choice.{Choice}
use Rattle.choice_problem.specs.Trail.{choice_of, value_in}
use Rattle.cabal_problem.specs.Values.{package_var}
use Rattle.plan_components.specs.declared.node.Piece.TheVariants.{Whole, One}
use Rattle.plan_components.specs.Chosen.{Selection, part_var}
use Rattle.plan_components.specs.Needs.{need_of, needs_of}
use Rattle.plan_components.specs.Wanted.{as_pieces, first_nodes, node_of, places}

ruleset by_kind = (value-Flag, value-And)

abbrev main : Description
main = record {
  spec = V3_0;
  name = codes "main";
  version = record { parts = 1 ∷ [] };
  custom = false;
  flags = record { line = 2; name = codes "a"; default = true; manual = false } ∷ [];
  components = component Library [] a (under a (on (codes "base")) ∷ []) ∷ [];
  setup = [];
  digest = [];
  warnings = [];
}

abbrev base : UnitRecord
base = record { name = codes "base"; version = record { parts = 4 ∷ 18 ∷ [] }; id = codes "base-4.18"; depends = [] }

abbrev of_base : Package
of_base = record {
  name = codes "base";
  local = false;
  extra = false;
  entries = record { instance = instance_of false (Installed base []); body = Installed base [] } ∷ [];
}

abbrev source : Source
source = record { description = main; flat = demands_of linux main; exposed = exposed linux main }

abbrev of_main : Package
of_main = record {
  name = codes "main";
  local = true;
  extra = false;
  entries = record {
    instance = instance_of true (SourceBody source);
    body = SourceBody source;
  } ∷ [];
}

abbrev names : NameTable
names = record { packages = codes "base" ∷ codes "main" ∷ []; flags = codes "a" ∷ [] }

-- both packages are chosen, and the flag `a` has this value
abbrev trail : ℕ → List Choice
trail value = choice_of (package_var Top 0) 0 ∷ choice_of (package_var Top 1) 0 ∷ choice_of (part_var Top 1 (Flag 0)) value ∷ []

abbrev selection : ℕ → Selection
selection value = record { packages = of_base ∷ of_main ∷ []; names = names; env = linux; value_of = value_in (trail value) }

-- with the flag on, the library is the first node
begun : first_nodes (selection 1) ≡ node_of Top 1 (One 0) ∷ []
begun = simp by_kind refl

-- with the flag off, the library isn't buildable, and no component is wanted
nothing_wanted : first_nodes (selection 0) ≡ []
nothing_wanted = simp by_kind refl

-- the library needs the unit
needs_base : needs_of (selection 1) (node_of Top 1 (One 0)) ≡ need_of dep_kind.Library Top 0 Whole ∷ []
needs_base = simp by_kind refl

-- an unbuildable component needs nothing
needs_nothing : needs_of (selection 0) (node_of Top 1 (One 0)) ≡ []
needs_nothing = simp by_kind refl

-- the unit needs nothing either
unit_needs_nothing : needs_of (selection 1) (node_of Top 0 Whole) ≡ []
unit_needs_nothing = refl

-- ---- pieces

executables : places (λ c. is_executable c.kind) (component Library [] Always [] ∷ component Executable (codes "e") Always [] ∷ []) ≡ 1 ∷ []
executables = refl

one_by_one : as_pieces false (3 ∷ 5 ∷ []) ≡ One 3 ∷ One 5 ∷ []
one_by_one = refl

-- a package with a setup script of its own is one piece
as_a_whole : as_pieces true (3 ∷ 5 ∷ []) ≡ Whole ∷ []
as_a_whole = refl

-- or none, if none of its components is meant
not_at_all : as_pieces true [] ≡ []
not_at_all = refl
