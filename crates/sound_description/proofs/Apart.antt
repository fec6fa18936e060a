-- No library has the name of its package.
use Rattle.std.proofs.Common.{◌≡◌, ℕ, Bool, true, false, not, ◌&&◌, List, [], ◌∷◌, flat_map, Some, refl, ap, ◌∙◌, subst}
use Rattle.std.specs.List.{list_all, AllByRecursion}
use Rattle.std.proofs.lemmas.Bool.{and_from}
use Rattle.plan_types.specs.declared.description.CompKind.TheVariants as component
use Rattle.plan_types.specs.declared.description.Component.{Component}
use Rattle.section_syntax.specs.declared.part.File.{File}
use Rattle.section_syntax.specs.declared.part.Section.{Section}
use Rattle.section_syntax.specs.declared.part.SectionKind.{SectionKind}
use Rattle.section_syntax.specs.declared.part.SectionKind.TheVariants as kinds
use Rattle.package_declarations.specs.Components.{component_in}
use Rattle.package_declarations.specs.Declarations.{is_library as declares_library, is_own, own_name}
use Rattle.stanza_imports.specs.Imports.{with_imports_replaced}
use Rattle.stanza_imports.specs.KnownStanzas.{Stanzas, all_replaced, stanzas_behind, sections_from}
use Rattle.stanza_imports.proofs.ImportOrder.{from-known}
use Rattle.sound_description.proofs.Faultless.{IsFaultless}
use Rattle.common_laws.specs.Passing.{all-append}
use Rattle.sound_description.proofs.Names.{apart-back}
use Rattle.plan_types.specs.Bytes.{same_text}
use Rattle.plan_types.specs.Packages.{is_library}

module _ (file : File) (name : List ℕ) (named : own_name file.heads ≡ Some name) where
  abbrev is_apart : Component → Bool
  is_apart component = not (is_library component.kind && same_text component.name name)

  one-apart : (section : Section) (kind : SectionKind) → section.kind ≡ kind → (declares_library kind && same_text name section.name) ≡ false → list_all is_apart (component_in file section) ≡ true
  one-apart section (kinds.Component component.Library) is e = rw is (and_from (not (same_text section.name name)) true (ap not (apart-back name section.name e)) refl)
  one-apart section (kinds.Component component.Executable) is e = rw is refl
  one-apart section (kinds.Component component.Test) is e = rw is refl
  one-apart section (kinds.Component component.Bench) is e = rw is refl
  one-apart section (kinds.Component component.Foreign) is e = rw is refl
  one-apart section kinds.Common is e = rw is refl
  one-apart section kinds.Flag is e = rw is refl
  one-apart section kinds.Setup is e = rw is refl

  from-apart : (sections : List Section) (stanzas : Stanzas) → AllByRecursion (IsFaultless file) sections → list_all is_apart (flat_map (component_in file) (sections_from stanzas sections)) ≡ true
  from-apart [] stanzas each = refl
  from-apart (section ∷ sections) stanzas each =
      let here = record section { parts = all_replaced stanzas section.parts } in
      all-append is_apart (component_in file here) (flat_map (component_in file) (sections_from (stanzas_behind stanzas section) sections))
      (one-apart here section.kind refl (subst (λ own. (declares_library section.kind && is_own own section.name) ≡ false) named each.0.apart)) (from-apart sections (stanzas_behind stanzas section) each.1)

  pub libraries_apart : (sections : List Section) → AllByRecursion (IsFaultless file) sections
      → list_all (λ component. not (is_library component.kind && same_text component.name name)) (flat_map (component_in file) (with_imports_replaced sections)) ≡ true
  libraries_apart sections each = ap (λ replaced. list_all is_apart (flat_map (component_in file) replaced)) (from-known sections) ∙ from-apart sections [] each
