-- The setup script of a package, and its dependencies.
use Rattle.std.specs.Prelude.{ℕ, Bool, true, false, if◌then◌else◌, List, [], ◌∷◌, flat_map, Option, None, unwrap_or, codes}
use Rattle.std.specs.List.{list_any}
use Rattle.plan_types.specs.declared.dependency.Dep.{Dep}
use Rattle.plan_types.specs.declared.dependency.DepKind.TheVariants as dep_kind
use Rattle.plan_types.specs.declared.dependency.LibName.TheVariants.{Main}
use Rattle.plan_types.specs.declared.range.Range.TheVariants.{Any}
use Rattle.section_syntax.specs.declared.part.File.{File}
use Rattle.section_syntax.specs.declared.part.Head.{Head}
use Rattle.section_syntax.specs.declared.part.Head.TheVariants as head
use Rattle.section_syntax.specs.declared.part.SectionPart.{SectionPart}
use Rattle.section_syntax.specs.declared.part.Said.{Said}
use Rattle.section_syntax.specs.declared.part.Section.{Section}
use Rattle.section_syntax.specs.declared.part.SectionKind.{SectionKind}
use Rattle.section_syntax.specs.declared.part.SectionKind.TheVariants as kinds
use Rattle.text_grammar.specs.Last.{last_given}
use Rattle.package_declarations.specs.Given.{given}
use Rattle.stanza_imports.specs.Parts.{deps_said}

-- whether a section is for the setup script
abbrev pub is_setup : SectionKind → Bool
is_setup (kinds.Component kind) = false
is_setup kinds.Common = false
is_setup kinds.Flag = false
is_setup kinds.Setup = true

-- whether a field makes the build type `Custom`
abbrev pub custom_said : Head → Option Bool
custom_said (head.Name name) = None
custom_said (head.Version version) = None
custom_said (head.BuildType custom) = custom

-- whether the package has its own setup script: by the last build type, else by whether there is a `custom-setup`
abbrev pub is_custom : File → Bool
is_custom file = unwrap_or (last_given (λ field. custom_said field.head) file.heads) (list_any (λ section. is_setup section.kind) file.sections)

-- whether a part is a field of dependencies
abbrev pub is_dependency : Said → Bool
is_dependency said = (given said).dependency

-- the parts of the setup sections
abbrev pub setup_parts : List Section → List SectionPart
setup_parts sections = flat_map (λ section. if is_setup section.kind then section.parts else []) sections

-- a default setup dependency: any version of a package
abbrev pub any_version : List ℕ → Dep
any_version name = record { line = 0; kind = dep_kind.Setup; «package» = name; libs = Main ∷ []; exe = []; range = Any; internal = false }

-- the written dependencies, even if none are listed, else the two default ones
abbrev pub setup_deps : List Section → List Dep
setup_deps sections =
    if list_any (λ part. is_dependency part.said) (setup_parts sections) then flat_map (λ part. deps_said part.said) (setup_parts sections)
    else any_version (codes "base") ∷ any_version (codes "Cabal") ∷ []

-- the dependencies of the setup script; none without a script of the package's own
abbrev pub setup : File → List Dep
setup file = if is_custom file then setup_deps file.sections else []
