-- A property of all parts of components and stanzas still holds once imports are replaced.
use Rattle.std.proofs.Common.{◌≡◌, ℕ, Bool, true, false, ◌&&◌, if◌then◌else◌, List, [], ◌∷◌, ◌++◌, map, refl, sym, ap, ◌∙◌, subst}
use Rattle.std.specs.List.{list_all, AllByRecursion}
use Rattle.std.proofs.lemmas.Bool.{and_parts, and_from}
use Rattle.plan_types.specs.declared.condition.Cond.{Cond}
use Rattle.plan_types.specs.declared.dependency.Dep.{Dep}
use Rattle.section_syntax.specs.declared.part.SectionPart.{SectionPart}
use Rattle.section_syntax.specs.declared.part.Said.{Said}
use Rattle.section_syntax.specs.declared.part.Said.TheVariants as said
use Rattle.section_syntax.specs.declared.part.Section.{Section}
use Rattle.section_syntax.specs.declared.part.SectionKind.{SectionKind}
use Rattle.section_syntax.specs.declared.part.SectionKind.TheVariants as kinds
use Rattle.stanza_imports.specs.Imports.{under, with_imports_replaced}
use Rattle.stanza_imports.specs.KnownStanzas.{Stanzas, parts_of, replaced, all_replaced, stanzas_behind, sections_from}
use Rattle.stanza_imports.proofs.ImportOrder.{from-known}
use Rattle.common_laws.specs.Passing.{all-append, all-map, all-flat, all-any}
use Rattle.plan_types.specs.Bytes.{same_text}
use Rattle.stanza_imports.specs.Parts.{deps_said}

-- sections whose parts come into components
abbrev pub is_component_part : SectionKind → Bool
is_component_part (kinds.Component kind) = true
is_component_part kinds.Common = true
is_component_part kinds.Flag = false
is_component_part kinds.Setup = false

-- branches and dependencies that pass
module _ (asks : Cond → Bool) (fits : Dep → Bool) where
  abbrev pub is_well : SectionPart → Bool
  is_well part = list_all asks part.branches && list_all fits (deps_said part.said)

  abbrev pub IsWell : Section → Type 0
  IsWell section = is_component_part section.kind ≡ true → list_all is_well section.parts ≡ true

  abbrev are_well : List ℕ × List SectionPart → Bool
  are_well stanza = list_all is_well stanza.1

  found-well : (stanzas : Stanzas) (name : List ℕ) → list_all are_well stanzas ≡ true → list_all is_well (parts_of stanzas name) ≡ true
  found-well [] name all = refl
  found-well (stanza ∷ stanzas) name all =
      let parts = and_parts (list_all is_well stanza.1) (list_all are_well stanzas) all in
      elim (same_text name stanza.0) as (λ b. list_all is_well (if b then stanza.1 else parts_of stanzas name) ≡ true) [
        | true ↦ parts.0
        | false ↦ found-well stanzas name parts.1
      ]

  under-well : (branches : List Cond) → list_all asks branches ≡ true → (part : SectionPart) → is_well part ≡ true → is_well (under branches part) ≡ true
  under-well branches here part well =
      let parts = and_parts (list_all asks part.branches) (list_all fits (deps_said part.said)) well in
      and_from (list_all asks (branches ++ part.branches)) (list_all fits (deps_said part.said)) (all-append asks branches part.branches here parts.0) parts.1

  replaced-well : (stanzas : Stanzas) → list_all are_well stanzas ≡ true → (part : SectionPart) → is_well part ≡ true → list_all is_well (replaced stanzas part) ≡ true
  replaced-well stanzas all part well = by part.said refl
    where
      kept : replaced stanzas part ≡ part ∷ [] → list_all is_well (replaced stanzas part) ≡ true
      kept alone = ap (list_all is_well) alone ∙ and_from (is_well part) true well refl

      by : (one : Said) → part.said ≡ one → list_all is_well (replaced stanzas part) ≡ true
      by (said.Import names stands) is =
          rw is (all-flat (λ name. true) is_well (λ name. map (under part.branches) (parts_of stanzas name))
          (λ name e. all-map is_well is_well (under part.branches) (under-well part.branches (and_parts (list_all asks part.branches) (list_all fits (deps_said part.said)) well).0) (parts_of stanzas name) (found-well stanzas name all))
          names (all-any (λ name. true) (λ name. refl) names))
      by (said.Depends deps) is = kept (rw is refl)
      by (said.Buildable value) is = kept (rw is refl)
      by (said.Visibility value) is = kept (rw is refl)
      by (said.Default value) is = kept (rw is refl)
      by (said.Manual value) is = kept (rw is refl)
      by said.BuildTools is = kept (rw is refl)
      by (said.Branch word condition stands) is = kept (rw is refl)
      by said.Misplaced is = kept (rw is refl)

  all-replaced-well : (stanzas : Stanzas) → list_all are_well stanzas ≡ true → (parts : List SectionPart) → list_all is_well parts ≡ true → list_all is_well (all_replaced stanzas parts) ≡ true
  all-replaced-well stanzas all parts well = all-flat is_well is_well (replaced stanzas) (replaced-well stanzas all) parts well

  behind-well : (stanzas : Stanzas) → list_all are_well stanzas ≡ true → (section : Section) → IsWell section → (kind : SectionKind) → section.kind ≡ kind → list_all are_well (stanzas_behind stanzas section) ≡ true
  behind-well stanzas all section well (kinds.Component kind) is = rw is all
  behind-well stanzas all section well kinds.Common is =
      rw is (all-append are_well stanzas ((section.name, all_replaced stanzas section.parts) ∷ []) all
      (and_from (list_all is_well (all_replaced stanzas section.parts)) true (all-replaced-well stanzas all section.parts (well (ap is_component_part is))) refl))
  behind-well stanzas all section well kinds.Flag is = rw is all
  behind-well stanzas all section well kinds.Setup is = rw is all

  from-well : (sections : List Section) (stanzas : Stanzas) → list_all are_well stanzas ≡ true → AllByRecursion IsWell sections → AllByRecursion IsWell (sections_from stanzas sections)
  from-well [] stanzas all each = tt
  from-well (section ∷ sections) stanzas all each = (
    λ is. all-replaced-well stanzas all section.parts (each.0 is),
    from-well sections (stanzas_behind stanzas section) (behind-well stanzas all section each.0 section.kind refl) each.1,
  )

  pub sections-well : (sections : List Section) → AllByRecursion IsWell sections → AllByRecursion IsWell (with_imports_replaced sections)
  sections-well sections each = subst (AllByRecursion IsWell) (sym (from-known sections)) (from-well sections [] refl each)
