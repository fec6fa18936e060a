-- The flags and component places of a package under a qualifier.
use Rattle.std.specs.Prelude.{◌≡◌, ℕ, Bool, true, false, List, [], slice_get, Option, Some, None}
use Rattle.std.specs.declared.hash.FoldHasher.{FoldHasher}
use Rattle.std.specs.declared.hash.BuildHasherDefault.{BuildHasherDefault}
use Rattle.indexmap.specs.IndexMap.{IndexMap}
use Rattle.keyed_lists.specs.Lists.{items_at}
use Rattle.plan_types.specs.Bytes.{same_text}
use Rattle.plan_types.specs.declared.dependency.Dep.{Dep}
use Rattle.plan_types.specs.declared.description.Component.{Component}
use Rattle.plan_types.specs.declared.condition.FlagSet.{FlagSet}
use Rattle.plan_types.specs.declared.description.Description.{Description}
use Rattle.plan_types.specs.declared.index.Body.{Body}
use Rattle.plan_types.specs.declared.index.Body.TheVariants.{Source, Installed}
use Rattle.qualified_goals.specs.declared.variable.Qual.{Qual}
use Rattle.plan_components.specs.declared.owner.KnownOwner.{KnownOwner}
use Rattle.plan_components.specs.declared.node.Node.{Node}
use Rattle.plan_components.specs.Chosen.{Selection, body_at, chosen_flags}
use Rattle.plan_components.specs.Needs.{means}
use Rattle.plan_components.specs.Wanted.{places}

-- the flags of a chosen instance with their values; a unit has none
abbrev pub flags_by : Selection → Qual → ℕ → Option Body → List FlagSet
flags_by selection q p None = []
flags_by selection q p (Some (Installed record_of needs)) = []
flags_by selection q p (Some (Source source)) = chosen_flags selection q p source.description

-- the same for the instance that is chosen under a qualifier
abbrev pub flags_at : Selection → Qual → ℕ → List FlagSet
flags_at selection q p = flags_by selection q p (body_at selection q p)

-- the components of a chosen instance; a unit has none
abbrev pub components_by : Option Body → List Component
components_by None = []
components_by (Some (Installed record_of needs)) = []
components_by (Some (Source source)) = source.description.components

-- the same for the instance that is chosen under a qualifier
abbrev pub components_at : Selection → Qual → ℕ → List Component
components_at selection q p = components_by (body_at selection q p)

-- the places of components by their names
abbrev pub NamedPlaces : Type 0
NamedPlaces = IndexMap (List ℕ) (List ℕ) (BuildHasherDefault FoldHasher)

-- whether a component has a name
abbrev pub has_name : List ℕ → Component → Bool
has_name name component = same_text component.name name

-- the places are those of the components, by name
abbrev pub AreNamed : List Component → NamedPlaces → Type 0
AreNamed components named = (name : List ℕ) → items_at same_text named name ≡ places (has_name name) components

-- all components that pass the test have this name
abbrev pub Names : (Component → Bool) → List ℕ → Type 0
Names test name = (component : Component) → test component ≡ true → has_name name component ≡ true

-- whether a component passes a test; false if there is none
abbrev pub passes_one : (Component → Bool) → Option Component → Bool
passes_one test None = false
passes_one test (Some component) = test component

-- whether a dependency means the component at a place
abbrev pub means_at : Dep → List Component → ℕ → Bool
means_at dep components place = passes_one (means dep.kind dep) (slice_get components place)

-- the flags and places are those of the owner's package
pub record IsKnown (selection : Selection) (known : KnownOwner) : Type 0 where
  pub flags : known.flags ≡ flags_at selection known.owner.qual known.owner.«package»
  pub named : AreNamed (components_at selection known.owner.qual known.owner.«package») known.places

-- the description has the flags and the components of the instance that is chosen for the node
pub record IsSourceOf (selection : Selection) (node : Node) (d : Description) : Type 0 where
  pub flags : flags_at selection node.qual node.«package» ≡ chosen_flags selection node.qual node.«package» d
  pub components : components_at selection node.qual node.«package» ≡ d.components
