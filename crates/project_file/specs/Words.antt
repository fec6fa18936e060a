-- The fields and sections of a project file, by their names.
use Rattle.std.specs.Prelude.{ℕ, if◌then◌else◌, List, codes}
use Rattle.project_file.specs.declared.part.Switch.TheVariants as switch
use Rattle.project_file.specs.declared.words.ProjectBranchWord.TheVariants.{If, Elif, Else}
use Rattle.project_file.specs.declared.words.FieldKind.TheVariants as kinds
use Rattle.project_file.specs.declared.words.ProjectFieldWord.{ProjectFieldWord}
use Rattle.project_file.specs.declared.words.ProjectFieldWord.TheVariants as fields
use Rattle.project_file.specs.declared.words.SectionWord.{SectionWord}
use Rattle.plan_types.specs.Bytes.{same_text}
use Rattle.project_file.specs.declared.words.SectionWord.TheVariants as sections

-- the field of a name
abbrev pub field_word : List ℕ → ProjectFieldWord
field_word name =
    if same_text name (codes "packages") then fields.Read kinds.Packages
    else if same_text name (codes "optional-packages") then fields.Read kinds.OptionalPackages
    else if same_text name (codes "extra-packages") then fields.Read kinds.Extra
    else if same_text name (codes "constraints") then fields.Read kinds.Constraints
    else if same_text name (codes "preferences") then fields.Read kinds.Preferences
    else if same_text name (codes "allow-newer") then fields.Read kinds.Newer
    else if same_text name (codes "allow-older") then fields.Read kinds.Older
    else if same_text name (codes "tests") then fields.Read (kinds.Switch switch.Tests)
    else if same_text name (codes "benchmarks") then fields.Read (kinds.Switch switch.Benchmarks)
    else if same_text name (codes "prefer-oldest") then fields.Read (kinds.Switch switch.PreferOldest)
    else if same_text name (codes "allow-boot-library-installs") then fields.Read (kinds.Switch switch.BootInstalls)
    else if same_text name (codes "max-backjumps") then fields.Read kinds.Limit
    else if same_text name (codes "index-state") then fields.Warned
    else if same_text name (codes "active-repositories") then fields.Warned
    else if same_text name (codes "import") then fields.Unsupported
    else fields.Unread

-- the section of a name
abbrev pub section_word : List ℕ → SectionWord
section_word name =
    if same_text name (codes "if") then sections.Branch If
    else if same_text name (codes "elif") then sections.Branch Elif
    else if same_text name (codes "else") then sections.Branch Else
    else if same_text name (codes "package") then sections.Package
    else if same_text name (codes "repository") then sections.Warned
    else if same_text name (codes "source-repository-package") then sections.Unsupported
    else sections.Unread
