-- The dependencies of the setup script.
use Rattle.std.proofs.Common.{◌≡◌, ℕ, Bool, true, false, ◌&&◌, if◌then◌else◌, List, [], ◌∷◌, flat_map, codes, refl, sym, ap, ◌∙◌}
use Rattle.std.specs.List.{list_all, list_any, AllByRecursion}
use Rattle.std.specs.Prelude.{None}
use Rattle.std.proofs.lemmas.Bool.{and_from}
use Rattle.plan_types.specs.Name.{is_package_name}
use Rattle.plan_types.specs.declared.range.Range.TheFolds.{fold-roll-Range}
use Rattle.plan_types.specs.declared.range.Range.TheOpen as layer
use Rattle.plan_types.specs.declared.range.Range.TheVariants.{Any, rolls-Any}
use Rattle.plan_types.specs.declared.range.Spec.{Spec}
use Rattle.version_range.specs.Version.{has_versions, versions_step}
use Rattle.cabal_lexer.specs.Tree.{end}
use Rattle.section_syntax.specs.declared.part.File.{File}
use Rattle.section_syntax.specs.declared.part.Section.{Section}
use Rattle.section_syntax.specs.declared.part.SectionKind.{SectionKind}
use Rattle.section_syntax.specs.declared.part.SectionKind.TheVariants as kinds
use Rattle.package_declarations.specs.Setup.{any_version, is_custom, is_dependency, is_setup, setup, setup_deps, setup_parts}
use Rattle.flatten.specs.Sound.{is_of_setup}
use Rattle.common_laws.specs.Passing.{all-append, all-flat}
use Rattle.sound_description.proofs.ReadDeps.{is_read, is_read_part, items-read, kinds_in}
use Rattle.sound_description.proofs.Said.{IsReadSection}
use Rattle.stanza_imports.specs.Parts.{deps_said}

one-read : (spec : Spec) (section : Section) → IsReadSection spec section → (kind : SectionKind) → section.kind ≡ kind → list_all (is_read_part is_of_setup) (if is_setup section.kind then section.parts else []) ≡ true
one-read spec section read (kinds.Component kind) is = rw is refl
one-read spec section read kinds.Common is = rw is refl
one-read spec section read kinds.Flag is = rw is refl
one-read spec section read kinds.Setup is =
    ap (λ k. list_all (is_read_part is_of_setup) (if is_setup k then section.parts else [])) is
    ∙ ap (λ k. list_all (is_read_part (kinds_in k)) section.parts) (sym is)
    ∙ items-read spec section.kind end read.tree [] None section.parts read.items

parts-read : (spec : Spec) (sections : List Section) → AllByRecursion (IsReadSection spec) sections → list_all (is_read_part is_of_setup) (setup_parts sections) ≡ true
parts-read spec [] each = refl
parts-read spec (section ∷ sections) each =
    all-append (is_read_part is_of_setup) (if is_setup section.kind then section.parts else []) (setup_parts sections) (one-read spec section each.0 section.kind refl) (parts-read spec sections each.1)

any-read : (name : List ℕ) → is_package_name name ≡ true → is_read is_of_setup (any_version name) ≡ true
any-read name formed =
    and_from (is_package_name name) (has_versions Any) formed (ap has_versions (sym rolls-Any) ∙ fold-roll-Range Bool versions_step layer.Any)

pub setup-read : (spec : Spec) (file : File) → AllByRecursion (IsReadSection spec) file.sections → list_all (is_read is_of_setup) (setup file) ≡ true
setup-read spec file each =
    elim (is_custom file) as (λ b. list_all (is_read is_of_setup) (if b then setup_deps file.sections else []) ≡ true) [
      | true ↦ elim (list_any (λ part. is_dependency part.said) (setup_parts file.sections)) as (λ b. list_all (is_read is_of_setup)
          (if b then flat_map (λ part. deps_said part.said) (setup_parts file.sections) else any_version (codes "base") ∷ any_version (codes "Cabal") ∷ []) ≡ true) [
            | true ↦ all-flat (is_read_part is_of_setup) (is_read is_of_setup) (λ part. deps_said part.said) (λ part e. e) (setup_parts file.sections) (parts-read spec file.sections each)
            | false ↦ and_from (is_read is_of_setup (any_version (codes "base"))) (is_read is_of_setup (any_version (codes "Cabal")) && true) (any-read (codes "base") refl)
                (and_from (is_read is_of_setup (any_version (codes "Cabal"))) true (any-read (codes "Cabal") refl) refl)
          ]
      | false ↦ refl
    ]
