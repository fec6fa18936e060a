-- Names of components, as a plan prints them.
use Rattle.std.specs.Prelude.{ℕ, List, [], ◌∷◌, ◌++◌, codes, slice_get, Option, Some, None}
use Rattle.plan_types.specs.declared.description.CompKind.{CompKind}
use Rattle.plan_types.specs.declared.description.CompKind.TheVariants.{Library, Executable, Test, Bench, Foreign}
use Rattle.plan_types.specs.declared.description.Component.{Component}
use Rattle.plan_types.specs.declared.description.Description.{Description}
use Rattle.plan_components.specs.declared.node.Piece.{Piece}
use Rattle.plan_components.specs.declared.node.Piece.TheVariants.{Whole, One}

-- the printed word of a component's kind
abbrev pub kind_word : CompKind → List ℕ
kind_word Library = codes "lib"
kind_word Executable = codes "exe"
kind_word Test = codes "test"
kind_word Bench = codes "bench"
kind_word Foreign = codes "flib"

-- the word of its kind, a colon and its name; only the word for the main library, which has no name
abbrev pub component_name : CompKind → List ℕ → List ℕ
component_name kind [] = kind_word kind
component_name kind (b ∷ bs) = kind_word kind ++ codes ":" ++ b ∷ bs

-- the name of a component; empty if there is none
abbrev pub name_of_one : Option Component → List ℕ
name_of_one None = []
name_of_one (Some component) = component_name component.kind component.name

-- the name of a piece: that of its component, or `package` if the package is built as a whole
abbrev pub piece_name : Description → Piece → List ℕ
piece_name d Whole = codes "package"
piece_name d (One place) = name_of_one (slice_get d.components place)
