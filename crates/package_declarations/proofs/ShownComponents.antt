-- The components of a file, read from the built components.
use Rattle.std.proofs.Common.{◌≡◌, List, [], ◌∷◌, ◌++◌, map, flat_map, sym, ap, ◌∙◌, refl}
use Rattle.std.proofs.lemmas.List.{map-append}
use Rattle.common_laws.specs.Lists.{map-map}
use Rattle.plan_types.specs.declared.description.Component.{Component}
use Rattle.section_syntax.specs.declared.part.File.{File}
use Rattle.section_syntax.specs.declared.part.Section.{Section}
use Rattle.section_syntax.specs.declared.part.SectionKind.{SectionKind}
use Rattle.section_syntax.specs.declared.part.SectionKind.TheVariants as kinds
use Rattle.package_declarations.specs.Components.{component, component_in, components}
use Rattle.stanza_imports.specs.Imports.{with_imports_replaced}
use Rattle.stanza_imports.specs.declared.stanzas.Bodies.{Bodies}
use Rattle.stanza_imports.specs.Bodies.{table, Shown, built_component, shown_in, AreBodiesOf}

module _ (file : File) where
  abbrev pub shown_component : Shown → Component
  shown_component s = component file s.section s.kind

  one : (section : Section) (kind : SectionKind) → section.kind ≡ kind → component_in file section ≡ map shown_component (shown_in section)
  one section (kinds.Component kind) is = rw is refl
  one section kinds.Common is = rw is refl
  one section kinds.Flag is = rw is refl
  one section kinds.Setup is = rw is refl

  each : (sections : List Section) → flat_map (component_in file) sections ≡ map shown_component (flat_map shown_in sections)
  each [] = refl
  each (section ∷ sections) =
      (λ i. one section section.kind refl i ++ each sections i)
      ∙ sym (map-append shown_component (shown_in section) (flat_map shown_in sections))

  pub all_shown : (bodies : Bodies) → AreBodiesOf file.sections bodies →
      map (λ built. component file (built_component (table bodies.stanzas.bodies.items) built).section built.kind) bodies.built.items ≡ components file
  all_shown bodies stand =
      sym (map-map (built_component (table bodies.stanzas.bodies.items)) shown_component bodies.built.items)
      ∙ ap (map shown_component) stand.shown
      ∙ sym (each (with_imports_replaced file.sections))
