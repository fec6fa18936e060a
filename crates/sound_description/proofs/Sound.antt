-- A description that was read is sound.
use Rattle.std.proofs.Common.{◌≡◌, ℕ, Bool, true, not, ◌&&◌, if◌then◌else◌, List, [], ◌∷◌, map, Some, None, sym, ap, ◌∙◌, subst}
use Rattle.std.specs.List.{list_all, AllByRecursion, IsDistinct}
use Rattle.std.specs.declared.result.Result.TheVariants.{Ok}
use Rattle.std.proofs.lemmas.Bool.{and_parts, and_from, not-true}
use Rattle.plan_types.specs.Name.{is_package_name}
use Rattle.plan_types.specs.declared.dependency.Dep.{Dep}
use Rattle.plan_types.specs.declared.description.Component.{Component}
use Rattle.plan_types.specs.declared.description.Description.{Description}
use Rattle.plan_types.specs.declared.description.FlagDecl.{FlagDecl}
use Rattle.plan_types.specs.Guarded.{GuardedDep}
use Rattle.plan_types.specs.declared.element.Element.{Element}
use Rattle.plan_types.specs.declared.range.Spec.{Spec}
use Rattle.plan_types.specs.declared.version.Version.{Version}
use Rattle.component_cycle.specs.Cycle.{IsFirstOnCycle}
use Rattle.version_range.specs.Version.{has_versions, is_version}
use Rattle.cabal_lexer.specs.Tree.{tree_of}
use Rattle.section_syntax.specs.declared.part.File.{File}
use Rattle.package_declarations.specs.Components.{components}
use Rattle.package_declarations.specs.Cycles.{needs}
use Rattle.package_declarations.specs.Declarations.{is_known, meant, own_name}
use Rattle.description.specs.Description.{Describes, description}
use Rattle.description.proofs.RepeatedNames.{repeated_from}
use Rattle.package_declarations.specs.Flags.{AreFlags}
use Rattle.stanza_imports.specs.Imports.{with_imports_replaced}
use Rattle.package_declarations.specs.Setup.{setup}
use Rattle.description.specs.declared.faults.Class.TheVariants.{Component as OfComponent, Flag as OfFlag}
use Rattle.flatten.specs.Conditions.{is_well_formed}
use Rattle.flatten.specs.Demands.{ExternalDep, external, outward, outward_in, outward_of}
use Rattle.flatten.specs.OwnComponents.{finds_all}
use Rattle.flatten.specs.Sound.{IsDescription, asked_packages, component_deps, conditions, declares_flag, is_of_components, is_of_setup}
use Rattle.sound_description.proofs.Apart.{libraries_apart}
use Rattle.sound_description.proofs.Described.{IsOf, is_of}
use Rattle.sound_description.proofs.Faultless.{IsFaultless}
use Rattle.sound_description.proofs.FlagNames.{flag_found, flag_names, flags_lower}
use Rattle.sound_description.proofs.FlagsRise.{flags_rise}
use Rattle.sound_description.proofs.Kept.{components-well, is_component_well, is_guarded_well, is_stated, replaced-well}
use Rattle.common_laws.specs.Passing.{all-append, all-filter, all-flat, all-less, all-map}
use Rattle.sound_description.proofs.Names.{component-names, once}
use Rattle.sound_description.proofs.NoCycle.{no_cycle}
use Rattle.sound_description.proofs.OwnComponents.{exe-found, is_kept, lib-found, meant-kept}
use Rattle.sound_description.proofs.ReadDeps.{is_read}
use Rattle.sound_description.proofs.Said.{IsReadSection, name-formed, sections-read, version-formed}
use Rattle.sound_description.proofs.SetupDeps.{setup-read}
use Rattle.plan_types.specs.Bytes.{same_text}

-- ---- the parts of the test of a dependency

module _ (kinds : Bool) (inside : Bool) (name : Bool) (range : Bool) where
  read-parts : (kinds && inside && name && range) ≡ true → (kinds ≡ true) × (inside ≡ true) × (name ≡ true) × (range ≡ true)
  read-parts e =
      let last = and_parts (kinds && inside && name) range e in
      let before = and_parts (kinds && inside) name last.0 in
      let first = and_parts kinds inside before.0 in
      (first.0, first.1, before.1, last.1)

module _ (spec : Spec) (file : File) (digest name : List ℕ) (version : Version) (flags : List FlagDecl) (flags_are : AreFlags file.sections flags)
    (named : own_name file.heads ≡ Some name) (formed : is_package_name name ≡ true)
    (read : AllByRecursion (IsReadSection spec) file.sections) (faultless : AllByRecursion (IsFaultless file) file.sections)
    (components_once : repeated_from OfComponent [] file.sections ≡ []) where
  abbrev all_components : List Component
  all_components = components file

  abbrev whole : Description
  whole = description file flags digest name version

  kept : (dep : Dep) → is_stated file dep ≡ true → is_kept name all_components (meant file dep) ≡ true
  kept dep e =
      let both = and_parts (is_read is_of_components dep) (is_known file dep) e in
      let parts = read-parts (is_of_components dep.kind) (not dep.internal) (is_package_name dep.«package») (has_versions dep.range) both.0 in
      meant-kept file name named formed all_components (lib-found file file.sections) (exe-found file file.sections)
      dep (parts.0, parts.2, parts.3) (not-true dep.internal parts.1) both.1

  abbrev is_well : Component → Bool
  is_well = is_component_well (declares_flag whole) name all_components

  abbrev is_guarded : GuardedDep → Bool
  is_guarded = is_guarded_well (declares_flag whole) name all_components

  all-well : list_all is_well all_components ≡ true
  all-well =
      components-well (declares_flag whole) name all_components file kept (with_imports_replaced file.sections)
      (replaced-well spec file (declares_flag whole) (flag_found file.sections flags flags_are) read faultless)

  deps-of : (c : Component) → is_well c ≡ true → list_all is_guarded c.build.deps ≡ true
  deps-of c e = (and_parts (is_well_formed (declares_flag whole) c.build.buildable) (list_all is_guarded c.build.deps) e).1

  deps-kept : list_all (is_kept name all_components) (component_deps whole) ≡ true
  deps-kept = all-flat is_well (is_kept name all_components) (λ component. map (λ guarded. guarded.dep) component.build.deps)
      (λ c e. all-map is_guarded (is_kept name all_components) (λ guarded. guarded.dep) (λ g h. (and_parts (is_well_formed (declares_flag whole) g.when) (is_kept name all_components g.dep) h).1) c.build.deps (deps-of c e))
      all_components all-well

  abbrev is_found : Dep → Bool
  is_found dep = if dep.internal then same_text dep.«package» name && finds_all dep.kind dep all_components else true

  kept-parts : (dep : Dep) → is_kept name all_components dep ≡ true → (is_of_components dep.kind ≡ true) × (is_package_name dep.«package» ≡ true) × (has_versions dep.range ≡ true) × (is_found dep ≡ true)
  kept-parts dep e = read-parts (is_of_components dep.kind) (is_package_name dep.«package») (has_versions dep.range) (is_found dep) e

  setup-parts : (dep : Dep) → is_read is_of_setup dep ≡ true → (is_of_setup dep.kind ≡ true) × (not dep.internal ≡ true) × (is_package_name dep.«package» ≡ true) × (has_versions dep.range ≡ true)
  setup-parts dep e = read-parts (is_of_setup dep.kind) (not dep.internal) (is_package_name dep.«package») (has_versions dep.range) e

  setup-is : list_all (is_read is_of_setup) (setup file) ≡ true
  setup-is = setup-read spec file read

  components-distinct : IsDistinct same_text (map (λ component. component.name) all_components)
  components-distinct = subst (IsDistinct same_text) (sym (component-names file file.sections)) (once OfComponent file.sections components_once)

  conditions-well : list_all (is_well_formed (declares_flag whole)) (conditions whole) ≡ true
  conditions-well =
      let asks = is_well_formed (declares_flag whole) in
      all-flat is_well asks (λ component. component.build.buildable ∷ map (λ guarded. guarded.when) component.build.deps)
      (λ c e. and_from (asks c.build.buildable) (list_all asks (map (λ (guarded : GuardedDep). guarded.when) c.build.deps)) (and_parts (asks c.build.buildable) (list_all is_guarded c.build.deps) e).0
      (all-map is_guarded asks (λ guarded. guarded.when) (λ g h. (and_parts (asks g.when) (is_kept name all_components g.dep) h).0) c.build.deps (deps-of c e)))
      all_components all-well

  pub sound : repeated_from OfFlag [] file.sections ≡ [] → IsFirstOnCycle (needs all_components) None → IsDescription whole
  sound flags_once none = record {
    flags_rise = flags_rise file.sections flags flags_are flags_once;
    flag_names = flag_names file file.sections flags flags_are faultless;
    flags_lower = flags_lower spec file.sections flags flags_are read;
    components_once = components-distinct;
    libraries_apart = libraries_apart file name named file.sections faultless;
    component_kinds = all-less (is_kept name all_components) (λ dep. is_of_components dep.kind) (λ dep e. (kept-parts dep e).0) (component_deps whole) deps-kept;
    setup_kinds = all-less (is_read is_of_setup) (λ dep. is_of_setup dep.kind && not dep.internal)
        (λ dep e. let parts = setup-parts dep e in and_from (is_of_setup dep.kind) (not dep.internal) parts.0 parts.1) (setup file) setup-is;
    conditions_ask_well = conditions-well;
    ranges_have_versions = all-append (λ dep. has_versions dep.range) (component_deps whole) (setup file)
        (all-less (is_kept name all_components) (λ dep. has_versions dep.range) (λ dep e. (kept-parts dep e).2) (component_deps whole) deps-kept)
        (all-less (is_read is_of_setup) (λ dep. has_versions dep.range) (λ dep e. (setup-parts dep e).3) (setup file) setup-is);
    own_components = all-less (is_kept name all_components) is_found (λ dep e. (kept-parts dep e).3) (component_deps whole) deps-kept;
    no_cycle = no_cycle all_components components-distinct none;
  }

  pub asked : list_all is_package_name (asked_packages whole) ≡ true
  asked =
      let of_at = λ (at : ExternalDep). is_package_name at.guarded.dep.«package» in
      let of_guarded = λ (g : GuardedDep). is_package_name g.dep.«package» in
      all-append is_package_name (map (λ at. at.guarded.dep.«package») (outward whole)) (map (λ dep. dep.«package») (setup file))
      (all-map of_at is_package_name (λ at. at.guarded.dep.«package») (λ at e. e) (outward whole)
      (all-flat is_well of_at outward_in
      (λ c e. all-map of_guarded of_at (outward_of c) (λ g h. h) (external c.build.deps)
      (all-filter of_guarded (λ guarded. not guarded.dep.internal) c.build.deps
      (all-less is_guarded of_guarded (λ g h. (kept-parts g.dep (and_parts (is_well_formed (declares_flag whole) g.when) (is_kept name all_components g.dep) h).1).1) c.build.deps (deps-of c e))))
      all_components all-well))
      (all-map (is_read is_of_setup) is_package_name (λ dep. dep.«package») (λ dep e. (setup-parts dep e).2) (setup file) setup-is)

-- ---- the description

module _ (items : List Element) (digest : List ℕ) (d : Description) (describes : Describes items digest (Ok d)) where
  abbrev of : IsOf items digest d
  of = is_of items digest d describes

  read : AllByRecursion (IsReadSection of.spec) of.file.sections
  read = sections-read of.spec (tree_of items) of.file.heads of.file.sections of.says.1

  formed : is_package_name of.name ≡ true
  formed = name-formed of.spec (tree_of items) of.file.heads of.file.sections of.says.1 of.name of.named

  pub described_sound : IsDescription d
  described_sound = subst IsDescription (sym of.is) (sound of.spec of.file digest of.name of.version of.flags of.declared of.named formed read of.faultless.sections of.faultless.components of.faultless.flags of.acyclic)

  pub name_formed : is_package_name d.name ≡ true
  name_formed = ap (λ (e : Description). is_package_name e.name) of.is ∙ formed

  pub version_formed : is_version d.version.parts ≡ true
  version_formed = ap (λ (e : Description). is_version e.version.parts) of.is ∙ version-formed of.spec (tree_of items) of.file.heads of.file.sections of.says.1 of.version of.versioned

  pub packages_formed : list_all is_package_name (asked_packages d) ≡ true
  packages_formed = ap (λ e. list_all is_package_name (asked_packages e)) of.is ∙ asked of.spec of.file digest of.name of.version of.flags of.declared of.named formed read of.faultless.sections of.faultless.components

  pub digest_kept : d.digest ≡ digest
  digest_kept = ap (λ (e : Description). e.digest) of.is
