-- Internal dependencies find their components.
use Rattle.std.proofs.Common.{◌≡◌, ℕ, Bool, true, false, ◌&&◌, if◌then◌else◌, List, [], ◌∷◌, flat_map, Some, inl, inr, refl, sym, ap, ◌∙◌, subst}
use Rattle.std.specs.List.{list_all, list_any}
use Rattle.std.proofs.lemmas.Bool.{false≢true, and_parts, and_from, or_left, or_cases}
use Rattle.plan_types.specs.Name.{is_package_name}
use Rattle.plan_types.specs.declared.dependency.Dep.{Dep}
use Rattle.plan_types.specs.declared.dependency.DepKind.{DepKind}
use Rattle.plan_types.specs.declared.dependency.DepKind.TheVariants.{Library, Tool, Setup}
use Rattle.plan_types.specs.declared.dependency.LibName.{LibName}
use Rattle.plan_types.specs.declared.dependency.LibName.TheVariants as lib
use Rattle.plan_types.specs.declared.description.CompKind.TheVariants as component
use Rattle.plan_types.specs.declared.description.Component.{Component}
use Rattle.version_range.specs.Version.{has_versions}
use Rattle.section_syntax.specs.declared.part.File.{File}
use Rattle.section_syntax.specs.declared.part.Section.{Section}
use Rattle.section_syntax.specs.declared.part.SectionKind.{SectionKind}
use Rattle.section_syntax.specs.declared.part.SectionKind.TheVariants as kinds
use Rattle.package_declarations.specs.Components.{component_in}
use Rattle.package_declarations.specs.Declarations.{declares, is_bare, is_known, is_library, is_executable, is_own, known_by, meaning, meaning_by, meant, meant_as, own_name}
use Rattle.stanza_imports.specs.Imports.{with_imports_replaced}
use Rattle.stanza_imports.specs.KnownStanzas.{Stanzas, all_replaced, stanzas_behind, sections_from}
use Rattle.stanza_imports.proofs.ImportOrder.{from-known}
use Rattle.package_declarations.specs.declared.declarations.Meaning.{Meaning}
use Rattle.package_declarations.specs.declared.declarations.Meaning.TheVariants.{Other, Own, OwnLibrary}
use Rattle.flatten.specs.OwnComponents.{finds_all, is_exe, is_lib, name_of}
use Rattle.flatten.specs.Sound.{is_of_components}
use Rattle.common_laws.specs.Passing.{all-less, any-front, any-back}
use Rattle.sound_description.proofs.Names.{itself, same-back}
use Rattle.plan_types.specs.Bytes.{same_text}
use Rattle.plan_types.specs.Packages.{library_name, is_library as is_library_kind}

-- ---- declared components

module _ (file : File) (of_kind : SectionKind → Bool) (test : Component → Bool) (name : List ℕ)
    (one : (section : Section) (kind : SectionKind) → section.kind ≡ kind → (of_kind kind && same_text name section.name) ≡ true → list_any test (component_in file section) ≡ true) where
  found-from : (sections : List Section) (stanzas : Stanzas) → declares of_kind sections name ≡ true → list_any test (flat_map (component_in file) (sections_from stanzas sections)) ≡ true
  found-from [] stanzas e = e
  found-from (section ∷ sections) stanzas e =
      let here = record section { parts = all_replaced stanzas section.parts } in
      let rest = flat_map (component_in file) (sections_from (stanzas_behind stanzas section) sections) in
      elim (or_cases (of_kind section.kind && same_text name section.name) (declares of_kind sections name) e) [
        | inl h ↦ any-front test (component_in file here) rest (one here section.kind refl h)
        | inr h ↦ any-back test (component_in file here) rest (found-from sections (stanzas_behind stanzas section) h)
      ]

  pub declared-found : (sections : List Section) → declares of_kind sections name ≡ true → list_any test (flat_map (component_in file) (with_imports_replaced sections)) ≡ true
  declared-found sections e = ap (λ replaced. list_any test (flat_map (component_in file) replaced)) (from-known sections) ∙ found-from sections [] e

module _ (file : File) where
  one-lib : (l : LibName) (section : Section) (kind : SectionKind) → section.kind ≡ kind → (is_library kind && same_text (name_of l) section.name) ≡ true → list_any (λ c. is_lib c l) (component_in file section) ≡ true
  one-lib l section (kinds.Component kind) is e =
      let both = and_parts (is_library_kind kind) (same_text (name_of l) section.name) e in
      rw is (or_left (is_library_kind kind && same_text section.name (name_of l)) false
      (and_from (is_library_kind kind) (same_text section.name (name_of l)) both.0 (same-back (name_of l) section.name both.1)))
  one-lib l section kinds.Common is e = absurd (false≢true e)
  one-lib l section kinds.Flag is e = absurd (false≢true e)
  one-lib l section kinds.Setup is e = absurd (false≢true e)

  one-exe : (exe : List ℕ) (section : Section) (kind : SectionKind) → section.kind ≡ kind → (is_executable kind && same_text exe section.name) ≡ true → list_any (λ c. is_exe c exe) (component_in file section) ≡ true
  one-exe exe section (kinds.Component component.Library) is e = absurd (false≢true e)
  one-exe exe section (kinds.Component component.Executable) is e = rw is (or_left (same_text section.name exe) false (same-back exe section.name e))
  one-exe exe section (kinds.Component component.Test) is e = absurd (false≢true e)
  one-exe exe section (kinds.Component component.Bench) is e = absurd (false≢true e)
  one-exe exe section (kinds.Component component.Foreign) is e = absurd (false≢true e)
  one-exe exe section kinds.Common is e = absurd (false≢true e)
  one-exe exe section kinds.Flag is e = absurd (false≢true e)
  one-exe exe section kinds.Setup is e = absurd (false≢true e)

  lib-name : (l : LibName) → library_name l ≡ name_of l
  lib-name lib.Main = refl
  lib-name (lib.Named name) = refl

  pub lib-found : (sections : List Section) (l : LibName) → declares is_library sections (library_name l) ≡ true → list_any (λ c. is_lib c l) (flat_map (component_in file) (with_imports_replaced sections)) ≡ true
  lib-found sections l e = declared-found file is_library (λ c. is_lib c l) (name_of l) (one-lib l) sections (ap (declares is_library sections) (sym (lib-name l)) ∙ e)

  pub exe-found : (sections : List Section) (exe : List ℕ) → declares is_executable sections exe ≡ true → list_any (λ c. is_exe c exe) (flat_map (component_in file) (with_imports_replaced sections)) ≡ true
  exe-found sections exe e = declared-found file is_executable (λ c. is_exe c exe) exe (one-exe exe) sections e

-- ---- the meaning of a dependency

-- A kept dependency of a component is well-formed, and finds its components if it is internal.
abbrev pub is_kept : List ℕ → List Component → Dep → Bool
is_kept name components dep =
    is_of_components dep.kind && is_package_name dep.«package» && has_versions dep.range
    && (if dep.internal then same_text dep.«package» name && finds_all dep.kind dep components else true)

module _ (file : File) (name : List ℕ) (named : own_name file.heads ≡ Some name) (formed : is_package_name name ≡ true) (components : List Component)
    (libs : (l : LibName) → declares is_library file.sections (library_name l) ≡ true → list_any (λ c. is_lib c l) components ≡ true)
    (exes : (exe : List ℕ) → declares is_executable file.sections exe ≡ true → list_any (λ c. is_exe c exe) components ≡ true) where
  -- the premise on a dependency with this meaning
  abbrev Finds : Meaning → Dep → Type 0
  Finds Other dep = Unit {0}
  Finds Own dep = (same_text name dep.«package» ≡ true) × (finds_all dep.kind dep components ≡ true)
  Finds OwnLibrary dep = (dep.kind ≡ Library) × (declares is_library file.sections dep.«package» ≡ true)

  finds : (kind : DepKind) (dep : Dep) (own library libraries executable : Bool) → dep.kind ≡ kind → own ≡ same_text name dep.«package» → (library ≡ true → declares is_library file.sections dep.«package» ≡ true)
      → libraries ≡ list_all (λ l. declares is_library file.sections (library_name l)) dep.libs → executable ≡ declares is_executable file.sections dep.exe
      → known_by (meaning_by kind own library) kind libraries executable ≡ true → Finds (meaning_by kind own library) dep
  finds Library dep true library libraries executable is mine named here there known = (
    sym mine,
    ap (λ k. finds_all k dep components) is ∙ all-less (λ l. declares is_library file.sections (library_name l)) (λ l. list_any (λ c. is_lib c l) components) libs dep.libs (sym here ∙ known),
  )
  finds Library dep false true libraries executable is mine named here there known = (is, named refl)
  finds Library dep false false libraries executable is mine named here there known = tt
  finds Tool dep true library libraries executable is mine named here there known = (sym mine, ap (λ k. finds_all k dep components) is ∙ exes dep.exe (sym there ∙ known))
  finds Tool dep false library libraries executable is mine named here there known = tt
  finds Setup dep own library libraries executable is mine named here there known = tt

  -- its kind, its package name and its versions
  abbrev Plain : Dep → Type 0
  Plain dep = (is_of_components dep.kind ≡ true) × (is_package_name dep.«package» ≡ true) × (has_versions dep.range ≡ true)

  kept-is : (dep : Dep) → Plain dep → (if dep.internal then same_text dep.«package» name && finds_all dep.kind dep components else true) ≡ true → is_kept name components dep ≡ true
  kept-is dep plain own =
      and_from (is_of_components dep.kind && is_package_name dep.«package» && has_versions dep.range) (if dep.internal then same_text dep.«package» name && finds_all dep.kind dep components else true)
      (and_from (is_of_components dep.kind && is_package_name dep.«package») (has_versions dep.range) (and_from (is_of_components dep.kind) (is_package_name dep.«package») plain.0 plain.1) plain.2) own

  finds-same : (kind : DepKind) (dep : Dep) → finds_all kind (record dep { internal = true }) components ≡ finds_all kind dep components
  finds-same Library dep = refl
  finds-same Tool dep = refl
  finds-same Setup dep = refl

  as-meant : (means : Meaning) (dep : Dep) → Plain dep → dep.internal ≡ false → Finds means dep → is_kept name components (meant_as means (Some name) dep) ≡ true
  as-meant Other dep plain outside found = kept-is dep plain (ap (λ b. if b then same_text dep.«package» name && finds_all dep.kind dep components else true) outside)
  as-meant Own dep plain outside found =
      kept-is (record dep { internal = true }) plain (and_from (same_text dep.«package» name) (finds_all dep.kind (record dep { internal = true }) components) (same-back name dep.«package» found.0) (finds-same dep.kind dep ∙ found.1))
  as-meant OwnLibrary dep plain outside found =
      let own : Dep = record dep { «package» = name; libs = lib.Named dep.«package» ∷ []; internal = true } in
      kept-is own (plain.0, formed, plain.2) (and_from (same_text name name) (finds_all dep.kind own components) (itself name)
      (ap (λ k. finds_all k own components) found.0 ∙ and_from (list_any (λ c. is_lib c (lib.Named dep.«package»)) components) true (libs (lib.Named dep.«package») found.1) refl))

  pub meant-kept : (dep : Dep) → Plain dep → dep.internal ≡ false → is_known file dep ≡ true → is_kept name components (meant file dep) ≡ true
  meant-kept dep plain outside known =
      let mine = is_own (own_name file.heads) dep.«package» in
      let library = is_bare file.spec dep.libs && declares is_library file.sections dep.«package» in
      subst (λ own. is_kept name components (meant_as (meaning file dep) own dep) ≡ true) (sym named)
      (as-meant (meaning file dep) dep plain outside
      (finds dep.kind dep mine library (list_all (λ l. declares is_library file.sections (library_name l)) dep.libs) (declares is_executable file.sections dep.exe) refl
      (ap (λ own. is_own own dep.«package») named)
      (λ e. (and_parts (is_bare file.spec dep.libs) (declares is_library file.sections dep.«package») e).1) refl refl known))
