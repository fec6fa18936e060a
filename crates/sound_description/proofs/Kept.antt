-- Properties of the components of a file without faults.
use Rattle.std.proofs.Common.{◌≡◌, ℕ, Bool, true, false, ◌&&◌, if◌then◌else◌, List, [], ◌∷◌, flat_map, None, refl, sym, ap, ◌∙◌}
use Rattle.std.specs.List.{list_all, AllByRecursion}
use Rattle.std.specs.declared.result.Result.TheVariants.{Ok, Err}
use Rattle.std.proofs.lemmas.Bool.{and_parts, and_from}
use Rattle.plan_types.specs.declared.condition.Cond.TheVariants.{Not}
use Rattle.plan_types.specs.declared.dependency.Dep.{Dep}
use Rattle.plan_types.specs.declared.description.CompKind.{CompKind}
use Rattle.plan_types.specs.declared.description.Component.{Component}
use Rattle.plan_types.specs.Guarded.{GuardedDep}
use Rattle.plan_types.specs.declared.range.Spec.{Spec}
use Rattle.plan_types.specs.declared.refusal.Cause.TheVariants as causes
use Rattle.section_syntax.specs.Branch.{all_of}
use Rattle.section_syntax.specs.declared.part.SectionPart.{SectionPart}
use Rattle.section_syntax.specs.declared.part.Said.{Said}
use Rattle.section_syntax.specs.declared.part.Said.TheVariants as said
use Rattle.cabal_lexer.specs.Tree.{end}
use Rattle.section_syntax.specs.declared.part.File.{File}
use Rattle.section_syntax.specs.declared.part.Section.{Section}
use Rattle.section_syntax.specs.declared.part.SectionKind.{SectionKind}
use Rattle.section_syntax.specs.declared.part.SectionKind.TheVariants as kinds
use Rattle.package_declarations.specs.Components.{barrier, buildable, component, component_in, guarded, unbuildable_said}
use Rattle.package_declarations.specs.Declarations.{declares, is_flag, is_known, meant}
use Rattle.description.specs.Faults.{of_said}
use Rattle.stanza_imports.specs.Imports.{with_imports_replaced}
use Rattle.flatten.specs.Conditions.{is_well_formed}
use Rattle.flatten.specs.Sound.{is_of_components}
use Rattle.sound_description.proofs.Asking.{asks-Not, all-asked}
use Rattle.sound_description.proofs.Branches.{items-good}
use Rattle.sound_description.proofs.Faultless.{IsFaultless, unless-none}
use Rattle.sound_description.proofs.Imported.{is_component_part, is_well, IsWell, sections-well}
use Rattle.common_laws.specs.Passing.{all-append, all-both, all-flat, all-less, all-map}
use Rattle.sound_description.proofs.OwnComponents.{is_kept}
use Rattle.sound_description.proofs.ReadDeps.{is_read, items-read, is_read_part, kinds_in}
use Rattle.sound_description.proofs.Said.{IsReadSection}
use Rattle.stanza_imports.specs.Parts.{deps_said}

-- ---- a part of a component or stanza

said-known : (file : File) (one : Said) → of_said file one ≡ [] → list_all (is_known file) (deps_said one) ≡ true
said-known file (said.Import names fits) none = refl
said-known file (said.Depends (Ok deps)) none = unless-none (list_all (is_known file) deps) causes.UnknownComponent none
said-known file (said.Depends (Err cause)) none = refl
said-known file (said.Buildable value) none = refl
said-known file (said.Visibility value) none = refl
said-known file (said.Default value) none = refl
said-known file (said.Manual value) none = refl
said-known file said.BuildTools none = refl
said-known file (said.Branch word condition fits) none = refl
said-known file said.Misplaced none = refl

parts-known : (file : File) (parts : List SectionPart) → AllByRecursion (λ part. of_said file part.said ≡ []) parts → list_all (λ part. list_all (is_known file) (deps_said part.said)) parts ≡ true
parts-known file [] each = refl
parts-known file (part ∷ parts) each =
    and_from (list_all (is_known file) (deps_said part.said)) (list_all (λ (one : SectionPart). list_all (is_known file) (deps_said one.said)) parts) (said-known file part.said each.0) (parts-known file parts each.1)

-- a dependency that was read, and whose own components are declared
abbrev pub is_stated : File → Dep → Bool
is_stated file dep = is_read is_of_components dep && is_known file dep

component-kinds : (kind : SectionKind) → is_component_part kind ≡ true → kinds_in kind ≡ is_of_components
component-kinds (kinds.Component kind) e = refl
component-kinds kinds.Common e = refl
component-kinds kinds.Flag e = refl
component-kinds kinds.Setup e = absurd (cc e)

module _ (spec : Spec) (file : File) (known : List ℕ → Bool) (found : (name : List ℕ) → declares is_flag file.sections name ≡ true → known name ≡ true) where
  one-well : (section : Section) → IsReadSection spec section → IsFaultless file section → IsWell (is_well_formed known) (is_stated file) section
  one-well section read faultless is =
      let kind = component-kinds section.kind is in
      let good = items-good file known found spec section.kind end read.tree [] None section.parts refl tt faultless.parts read.items in
      let of_kind = ap (λ k. list_all (is_read_part k) section.parts) (sym kind) ∙ items-read spec section.kind end read.tree [] None section.parts read.items in
      let stated = all-less (λ part. list_all (is_read is_of_components) (deps_said part.said) && list_all (is_known file) (deps_said part.said)) (λ part. list_all (is_stated file) (deps_said part.said))
      (λ part e. let both = and_parts (list_all (is_read is_of_components) (deps_said part.said)) (list_all (is_known file) (deps_said part.said)) e in
      all-both (is_read is_of_components) (is_known file) (deps_said part.said) both.0 both.1)
      section.parts (all-both (λ part. list_all (is_read is_of_components) (deps_said part.said)) (λ part. list_all (is_known file) (deps_said part.said)) section.parts of_kind (parts-known file section.parts faultless.parts)) in
      all-both (λ part. list_all (is_well_formed known) part.branches) (λ part. list_all (is_stated file) (deps_said part.said)) section.parts good stated

  each-well : (sections : List Section) → AllByRecursion (IsReadSection spec) sections → AllByRecursion (IsFaultless file) sections → AllByRecursion (IsWell (is_well_formed known) (is_stated file)) sections
  each-well [] read faultless = tt
  each-well (section ∷ sections) read faultless = (one-well section read.0 faultless.0, each-well sections read.1 faultless.1)

  pub replaced-well : AllByRecursion (IsReadSection spec) file.sections → AllByRecursion (IsFaultless file) file.sections → AllByRecursion (IsWell (is_well_formed known) (is_stated file)) (with_imports_replaced file.sections)
  replaced-well read faultless = sections-well (is_well_formed known) (is_stated file) file.sections (each-well file.sections read faultless)

-- ---- a component

module _ (known : List ℕ → Bool) (name : List ℕ) (others : List Component) where
  abbrev pub is_guarded_well : GuardedDep → Bool
  is_guarded_well guarded = is_well_formed known guarded.when && is_kept name others guarded.dep

  -- a component with well-formed conditions and kept dependencies
  abbrev pub is_component_well : Component → Bool
  is_component_well component = is_well_formed known component.build.buildable && list_all is_guarded_well component.build.deps

  module _ (file : File) (kept : (dep : Dep) → is_stated file dep ≡ true → is_kept name others (meant file dep) ≡ true) where
    abbrev is_part : SectionPart → Bool
    is_part = is_well (is_well_formed known) (is_stated file)

    branches-asked : (part : SectionPart) → is_part part ≡ true → is_well_formed known (all_of part.branches) ≡ true
    branches-asked part well = all-asked known part.branches (and_parts (list_all (is_well_formed known) part.branches) (list_all (is_stated file) (deps_said part.said)) well).0

    guarded-well : (part : SectionPart) → is_part part ≡ true → list_all is_guarded_well (guarded file part) ≡ true
    guarded-well part well =
        all-map (is_stated file) is_guarded_well (λ dep. record { when = all_of part.branches; dep = meant file dep })
        (λ dep e. and_from (is_well_formed known (all_of part.branches)) (is_kept name others (meant file dep)) (branches-asked part well) (kept dep e))
        (deps_said part.said) (and_parts (list_all (is_well_formed known) part.branches) (list_all (is_stated file) (deps_said part.said)) well).1

    barrier-asked : (part : SectionPart) → is_part part ≡ true → list_all (is_well_formed known) (barrier part) ≡ true
    barrier-asked part well =
        elim (unbuildable_said part.said) as (λ b. list_all (is_well_formed known) (if b then Not (all_of part.branches) ∷ [] else []) ≡ true) [
          | true ↦ and_from (is_well_formed known (Not (all_of part.branches))) true (asks-Not known (all_of part.branches) ∙ branches-asked part well) refl
          | false ↦ refl
        ]

    component-well : (section : Section) (kind : CompKind) → list_all is_part section.parts ≡ true → is_component_well (component file section kind) ≡ true
    component-well section kind well =
        and_from (is_well_formed known (buildable section.parts)) (list_all is_guarded_well (flat_map (guarded file) section.parts))
        (all-asked known (flat_map barrier section.parts) (all-flat is_part (is_well_formed known) barrier barrier-asked section.parts well))
        (all-flat is_part is_guarded_well (guarded file) guarded-well section.parts well)

    one-component : (section : Section) → IsWell (is_well_formed known) (is_stated file) section → (kind : SectionKind) → section.kind ≡ kind → list_all is_component_well (component_in file section) ≡ true
    one-component section well (kinds.Component kind) is =
        rw is (and_from (is_component_well (component file section kind)) true (component-well section kind (well (ap is_component_part is))) refl)
    one-component section well kinds.Common is = rw is refl
    one-component section well kinds.Flag is = rw is refl
    one-component section well kinds.Setup is = rw is refl

    pub components-well : (sections : List Section) → AllByRecursion (IsWell (is_well_formed known) (is_stated file)) sections → list_all is_component_well (flat_map (component_in file) sections) ≡ true
    components-well [] each = refl
    components-well (section ∷ sections) each =
        all-append is_component_well (component_in file section) (flat_map (component_in file) sections) (one-component section each.0 section.kind refl) (components-well sections each.1)
