-- Shared: imports replaced by earlier sections are the same as those replaced by the known stanzas.
use Rattle.std.proofs.Common.{◌≡◌, ℕ, true, false, cond, if◌then◌else◌, List, [], ◌∷◌, ◌++◌, flat_map, sym, ap, ◌∙◌, refl, append_assoc}
use Rattle.std.specs.Prelude.{Some, None}
use Rattle.std.specs.List.{find, fold}
use Rattle.std.proofs.lemmas.Grind.{flat_map-append}
use Rattle.std.proofs.lemmas.List.{append-nil}
use Rattle.plan_types.specs.Bytes.{same_text}
use Rattle.section_syntax.specs.declared.part.SectionPart.{SectionPart}
use Rattle.section_syntax.specs.declared.part.Section.{Section}
use Rattle.section_syntax.specs.declared.part.SectionKind.{SectionKind}
use Rattle.section_syntax.specs.declared.part.SectionKind.TheVariants as kinds
use Rattle.stanza_imports.specs.Imports.{is_stanza, parts_for, replaced_behind, stanza_parts, with_imports_replaced}
use Rattle.stanza_imports.specs.KnownStanzas.{Stanzas, all_replaced, parts_of, sections_from, stanzas_behind}

-- the common stanza that a section is, by its name
abbrev known_in : Section → Stanzas
known_in section = elim section.kind [
  | kinds.Component kind ↦ []
  | kinds.Common ↦ (section.name, section.parts) ∷ []
  | kinds.Flag ↦ []
  | kinds.Setup ↦ []
]

abbrev all_known : List Section → Stanzas
all_known = flat_map known_in

one-known : (line : ℕ) (own : List ℕ) (parts : List SectionPart) (kind : SectionKind) (sections : List Section) (name : List ℕ) → stanza_parts sections name ≡ parts_of (all_known sections) name →
    let section : Section = record { line = line; kind = kind; name = own; parts = parts } in
    stanza_parts (section ∷ sections) name ≡ parts_of (all_known (section ∷ sections)) name
one-known line own parts (kinds.Component kind) sections name rest = rest
one-known line own parts kinds.Common sections name rest =
    let section : Section = record { line = line; kind = kinds.Common; name = own; parts = parts } in
    elim (same_text name own) as (λ b. (elim (cond b (Some section) (find (is_stanza name) sections)) [ None ↦ [] | Some stanza ↦ stanza.parts ]) ≡ (if b then parts else parts_of (all_known sections) name)) [
      | true ↦ refl
      | false ↦ rest
    ]
one-known line own parts kinds.Flag sections name rest = rest
one-known line own parts kinds.Setup sections name rest = rest

parts-known : (sections : List Section) (name : List ℕ) → stanza_parts sections name ≡ parts_of (all_known sections) name
parts-known [] name = refl
parts-known (section ∷ sections) name = one-known section.line section.name section.parts section.kind sections name (parts-known sections name)

module _ (before : List Section) (section : Section) where
  as-known : replaced_behind before section ≡ record section { parts = all_replaced (all_known before) section.parts }
  as-known = λ i. record section { parts = flat_map (parts_for (λ name. parts-known before name i)) section.parts }

  known-behind : all_known (before ++ replaced_behind before section ∷ []) ≡ stanzas_behind (all_known before) section
  known-behind =
      ap (λ one. all_known (before ++ one ∷ [])) as-known
      ∙ flat_map-append known_in before (record section { parts = all_replaced (all_known before) section.parts } ∷ [])
      ∙ by section.kind refl
    where
      by : (kind : SectionKind) → section.kind ≡ kind → all_known before ++ (known_in (record section { parts = all_replaced (all_known before) section.parts }) ++ []) ≡ stanzas_behind (all_known before) section
      by (kinds.Component kind) is = rw is (append-nil (all_known before))
      by kinds.Common is = rw is refl
      by kinds.Flag is = rw is (append-nil (all_known before))
      by kinds.Setup is = rw is (append-nil (all_known before))

in-order : (before sections : List Section) → fold (λ before section. before ++ replaced_behind before section ∷ []) before sections ≡ before ++ sections_from (all_known before) sections
in-order before [] = sym (append-nil before)
in-order before (section ∷ sections) =
    let more = before ++ replaced_behind before section ∷ [] in
    in-order more sections
    ∙ append_assoc before (replaced_behind before section ∷ []) (sections_from (all_known more) sections)
    ∙ (λ i. before ++ as-known before section i ∷ sections_from (known-behind before section i) sections)

pub from-known : (sections : List Section) → with_imports_replaced sections ≡ sections_from [] sections
from-known sections = in-order [] sections
