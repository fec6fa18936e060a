-- The source of a `.cabal` file in an environment.
use Rattle.std.specs.Prelude.{◌≡◌, ◌⊎◌, ℕ, List, Option, Some, None}
use Rattle.std.specs.declared.result.Result.{Result}
use Rattle.std.specs.declared.result.Result.TheVariants.{Ok, Err}
use Rattle.hex.specs.Hex.{encode_lower}
use Rattle.sha2.specs.Sha256.{sha256}
use Rattle.plan_types.specs.declared.condition.Env.{Env}
use Rattle.plan_types.specs.declared.description.Description.{Description}
use Rattle.plan_types.specs.declared.element.Element.{Element}
use Rattle.plan_types.specs.declared.refusal.Cause.{Cause}
use Rattle.plan_types.specs.declared.refusal.Cause.TheVariants.{TooManyPaths}
use Rattle.cabal_lexer.specs.Fault.{IsTree, IsFault}
use Rattle.description.specs.Description.{Describes}
use Rattle.description.specs.FaultOrder.{is_at}
use Rattle.description.specs.declared.fault_order.At.{At}
use Rattle.flatten.specs.Demands.{demands_of, first_with_too_many_paths}
use Rattle.flatten.specs.Exposure.{exposed}
use Rattle.plan_types.specs.declared.index.Source.{Source}

-- the SHA-256 of a file, in lower-case digits
abbrev pub digest_of : List ℕ → List ℕ
digest_of bytes = encode_lower (sha256 bytes)

-- a description with its demands and exposed components
abbrev pub source_of : Env → Description → Source
source_of env d = record { description = d; flat = demands_of env d; exposed = exposed env d }

-- a dependency with too many paths is a fault at its line
abbrev pub unless_beyond : Option ℕ → Source → Result Source At
unless_beyond None source = Ok source
unless_beyond (Some line) source = Err (is_at line TooManyPaths)

-- the outcome of a description as a source
abbrev pub OfDescription : Env → Result Description At → Result Source At → Type 0
OfDescription env (Err at) outcome = outcome ≡ Err at
OfDescription env (Ok d) outcome = outcome ≡ unless_beyond (first_with_too_many_paths env d) (source_of env d)

-- the outcome of a file's elements
abbrev pub OfTree : Env → List Element → List ℕ → Result Source At → Type 0
OfTree env items digest outcome = (described : Result Description At) × Describes items digest described × OfDescription env described outcome

-- the outcome is a fault of the layout
pub record HasLayoutFault (bytes : List ℕ) (outcome : Result Source At) : Type 0 where
  pub line : ℕ
  pub cause : Cause
  pub fault : IsFault bytes line cause
  pub outcome_is : outcome ≡ Err (is_at line cause)

-- the outcome is that of the file's elements
pub record HasTree (env : Env) (bytes : List ℕ) (outcome : Result Source At) : Type 0 where
  pub items : List Element
  pub tree : IsTree bytes items
  pub comes : OfTree env items (digest_of bytes) outcome

-- the outcome of a file's bytes: its source or its first fault
abbrev pub IsSource : Env → List ℕ → Result Source At → Type 0
IsSource env bytes outcome = HasLayoutFault bytes outcome ⊎ HasTree env bytes outcome
