-- The parts that the elements of a file become.
use Rattle.std.specs.Prelude.{◌≡◌, ℕ, Bool, true, false, ◌||◌, if◌then◌else◌, List, [], ◌∷◌, ◌++◌, codes, Option, Some, None}
use Rattle.std.specs.declared.result.Result.{Result}
use Rattle.plan_types.specs.Bytes.{joined_text, same_text}
use Rattle.plan_types.specs.Name.{is_package_name}
use Rattle.plan_types.specs.declared.condition.Env.{Env}
use Rattle.plan_types.specs.declared.condition.FlagSet.{FlagSet}
use Rattle.plan_types.specs.declared.constraint.Scope.TheVariants.{Top}
use Rattle.plan_types.specs.declared.constraint.What.TheVariants.{Flags}
use Rattle.plan_types.specs.declared.refusal.Cause.{Cause}
use Rattle.plan_types.specs.declared.refusal.Cause.TheVariants.{BadName, Unsupported}
use Rattle.plan_types.specs.declared.element.Element.{Element}
use Rattle.cabal_lexer.specs.Tree.{Tree, end, field, section, Goes, in_front, tree_of}
use Rattle.project_file.specs.Branches.{Decides, branch_fault, chain_behind, is_taken}
use Rattle.project_file.specs.Fields.{FieldSays, or_bad}
use Rattle.project_file.specs.Flags.{flags_in}
use Rattle.project_file.specs.Words.{field_word, section_word}
use Rattle.project_file.specs.declared.part.ProjectPart.{ProjectPart}
use Rattle.project_file.specs.declared.part.ProjectSaid.{ProjectSaid}
use Rattle.project_file.specs.declared.part.ProjectSaid.TheVariants as said
use Rattle.project_file.specs.declared.words.ProjectBranchWord.{ProjectBranchWord}
use Rattle.project_file.specs.declared.words.SectionWord.{SectionWord}
use Rattle.project_file.specs.declared.words.SectionWord.TheVariants as sections

-- the content at its line, if there is any
abbrev pub placed : ℕ → Option ProjectSaid → List ProjectPart
placed line None = []
placed line (Some found) = record { line = line; said = found } ∷ []

-- ---- a `package` section

-- the section of all packages, which can't set flags
abbrev pub is_every : List ℕ → Bool
is_every args = same_text args (codes "*")

-- the flags of a package as a constraint at top level
abbrev pub said_flags : List ℕ → List FlagSet → ProjectSaid
said_flags args flags = said.Constraints (record { scope = Top; «package» = args; what = Flags flags } ∷ [])

-- the content of a `flags` field
abbrev pub flags_said : List ℕ → List ℕ → ProjectSaid
flags_said args text = if is_every args then said.Bad Unsupported else or_bad (said_flags args) (flags_in text)

-- the part of a field in a `package` section
abbrev pub flag_part : List ℕ → ℕ → List ℕ → List ℕ → List ProjectPart
flag_part args line name text = if same_text name (codes "flags") then record { line = line; said = flags_said args text } ∷ [] else []

-- only the `flags` fields of a `package` section are read, and no sections inside it
unfoldable pub flag_parts : List ℕ → Tree → List ProjectPart
flag_parts args end = []
flag_parts args (field line name values behind) = flag_part args line name (joined_text values) ++ flag_parts args behind
flag_parts args (section line name inner items behind) = flag_parts args behind

-- the parts of a `package` section
abbrev pub package_parts : ℕ → List ℕ → Tree → List ProjectPart
package_parts line args items =
    if is_every args || is_package_name args then flag_parts args items
    else record { line = line; said = said.Bad BadName } ∷ []

-- ---- a branch

-- the items of a branch are read only if it is taken
abbrev pub IfTaken : Bool → (List ProjectPart → Type 0) → List ProjectPart → Type 0
IfTaken true Within found = Within found
IfTaken false Within found = found ≡ []

-- a branch with its parts, and the chain for what is after it
pub record IsBranch (env : Env) (word : ProjectBranchWord) (line : ℕ) (args : List ℕ) (chain : Option Bool) (Within : List ProjectPart → Type 0) (left : Option Bool) (found : List ProjectPart) : Type 0 where
  pub own : Result Bool Cause
  pub within : List ProjectPart
  pub decides : Decides env word args own
  pub inside : IfTaken (is_taken word chain own) Within within
  pub chain_is : left ≡ chain_behind word chain own
  pub are : found ≡ placed line (branch_fault word chain own) ++ within

-- ---- all elements

-- a section with its parts, and the parts after it
abbrev pub SectionSays : Env → SectionWord → ℕ → List ℕ → List ℕ → Tree → Option Bool → (List ProjectPart → Type 0) → (Option Bool → List ProjectPart → Type 0) → List ProjectPart → Type 0
SectionSays env (sections.Branch word) line name args items chain Within Behind parts =
    (left : Option Bool) × (found : List ProjectPart) × (more : List ProjectPart) × IsBranch env word line args chain Within left found × Behind left more × (parts ≡ found ++ more)
SectionSays env sections.Package line name args items chain Within Behind parts =
    (more : List ProjectPart) × Behind None more × (parts ≡ package_parts line args items ++ more)
SectionSays env sections.Warned line name args items chain Within Behind parts =
    (more : List ProjectPart) × Behind None more × (parts ≡ placed line (Some (said.Warning name)) ++ more)
SectionSays env sections.Unsupported line name args items chain Within Behind parts =
    (more : List ProjectPart) × Behind None more × (parts ≡ placed line (Some (said.Bad Unsupported)) ++ more)
SectionSays env sections.Unread line name args items chain Within Behind parts = Behind None parts

-- The parts that the elements become. The chain is that of a branch directly before.
unfoldable pub Says : Env → Tree → Option Bool → List ProjectPart → Type 0
Says env end chain parts = parts ≡ []
Says env (field line name values behind) chain parts =
    (found : Option ProjectSaid) × (more : List ProjectPart) × FieldSays (field_word name) name (joined_text values) found
    × Says env behind None more × (parts ≡ placed line found ++ more)
Says env (section line name args items behind) chain parts =
    SectionSays env (section_word name) line name args items chain (λ within. Says env items None within) (λ left more. Says env behind left more) parts

-- parts with this property were appended
abbrev pub Adds : (List ProjectPart → Type 0) → List ProjectPart → List ProjectPart → Type 0
Adds Are old new = (found : List ProjectPart) × Are found × (new ≡ old ++ found)

-- the parts that these elements become
abbrev pub SaysAll : Env → List Element → List ProjectPart → Type 0
SaysAll env items parts = Says env (tree_of items) None parts

-- the parts of an element were appended: followed by those of the elements after it, they are the parts of both
abbrev pub ItemAdds : Env → Element → Option Bool → Option Bool → List ProjectPart → List ProjectPart → Type 0
ItemAdds env item chain left old new =
    (behind : Tree) (more : List ProjectPart) → Says env behind left more → Goes (λ said. Says env (in_front item behind) chain said) old new more

-- the same for the parts of a section
abbrev pub SectionAdds : Env → ℕ → List ℕ → List ℕ → List Element → Option Bool → Option Bool → List ProjectPart → List ProjectPart → Type 0
SectionAdds env line name args items chain left old new =
    (behind : Tree) (more : List ProjectPart) → Says env behind left more →
    Goes (λ said. SectionSays env (section_word name) line name args (tree_of items) chain (λ within. SaysAll env items within) (λ left said. Says env behind left said) said) old new more

-- the flags of an element in a `package` section were appended: followed by those after it, they are all flags
abbrev pub FlagsAdded : List ℕ → Element → List ProjectPart → List ProjectPart → Type 0
FlagsAdded args item old new = (behind : Tree) → new ++ flag_parts args behind ≡ old ++ flag_parts args (in_front item behind)
