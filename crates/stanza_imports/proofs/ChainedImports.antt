-- Shared: parts stay chained when imports are replaced.
use Rattle.std.proofs.Common.{◌≡◌, ℕ, true, false, if◌then◌else◌, List, [], ◌∷◌, ◌++◌, map, flat_map, sym, subst, ap, ◌∙◌, append_assoc}
use Rattle.std.specs.Prelude.{All, slice_get}
use Rattle.std.specs.List.{AllByRecursion}
use Rattle.std.proofs.lemmas.List.{append-nil, map-append}
use Rattle.std.proofs.lemmas.List.Elements.{All-from_recursion, recursion_from_All}
use Rattle.common_laws.specs.Each.{each-append, each-of-map}
use Rattle.plan_types.specs.Bytes.{same_text}
use Rattle.plan_types.specs.declared.condition.Cond.{Cond}
use Rattle.section_syntax.specs.Branch.{condition}
use Rattle.section_syntax.specs.Chained.{AreChained, FitsBehind, AreSectionParts, begun}
use Rattle.section_syntax.specs.declared.branch.Branch.{Branch}
use Rattle.section_syntax.specs.declared.part.SectionPart.{SectionPart}
use Rattle.section_syntax.specs.declared.part.Said.{Said}
use Rattle.section_syntax.specs.declared.part.Said.TheVariants as said
use Rattle.section_syntax.specs.declared.part.Section.{Section}
use Rattle.section_syntax.specs.declared.part.SectionKind.{SectionKind}
use Rattle.section_syntax.specs.declared.part.SectionKind.TheVariants as kinds
use Rattle.section_syntax.proofs.ChainedParts.{chained-behind, chained-part, first-stands}
use Rattle.stanza_imports.specs.Bodies.{Shown, AreBodiesOf, body_parts, built_component, shown_in, table}
use Rattle.stanza_imports.specs.Imports.{parts_for, under, with_imports_replaced}
use Rattle.stanza_imports.specs.KnownStanzas.{Stanzas, all_replaced, parts_of, sections_from, stanzas_behind}
use Rattle.stanza_imports.specs.declared.stanzas.Bodies.{Bodies}
use Rattle.stanza_imports.specs.declared.stanzas.Built.{Built}
use Rattle.stanza_imports.proofs.ImportOrder.{from-known}

-- ---- parts

-- parts stay chained with branches put outside, followed by parts that are chained in these
under-chained : (outer opened : List Branch) (parts more : List SectionPart) → AreChained opened parts → AreChained outer more → AreChained (outer ++ opened) (map (under (map condition outer)) parts ++ more)
under-chained outer opened [] more chained rest = chained-behind outer opened more rest
under-chained outer opened (part ∷ parts) more chained rest =
    let first = first-stands opened part parts chained in
    let new = begun part.said (slice_get first.back 0) in
    let stands : map condition outer ++ part.branches ≡ map condition (outer ++ first.front) =
    ap (λ v. map condition outer ++ v) first.stands ∙ sym (map-append condition outer first.front) in
    let others = map (under (map condition outer)) parts ++ more in
    let behind : AreChained ((outer ++ first.front) ++ new) others =
    subst (λ v. AreChained v others) (sym (append_assoc outer first.front new)) (under-chained outer (first.front ++ new) parts more first.rest rest) in
    subst (λ v. AreChained v (under (map condition outer) part ∷ others)) (append_assoc outer first.front first.back ∙ ap (λ v. outer ++ v) (sym first.split))
    (chained-part (outer ++ first.front) first.back (under (map condition outer) part) others stands behind first.fits)

module _ (of_stanza : List ℕ → List SectionPart) (each : (name : List ℕ) → AreSectionParts (of_stanza name)) where
  names-chained : (outer : List Branch) (names : List (List ℕ)) (more : List SectionPart) → AreChained outer more →
      AreChained outer (flat_map (λ name. map (under (map condition outer)) (of_stanza name)) names ++ more)
  names-chained outer [] more rest = rest
  names-chained outer (name ∷ names) more rest =
      let here = map (under (map condition outer)) (of_stanza name) in
      let others = flat_map (λ n. map (under (map condition outer)) (of_stanza n)) names in
      subst (AreChained outer) (sym (append_assoc here others more))
      (subst (λ v. AreChained v (here ++ (others ++ more))) (append-nil outer) (under-chained outer [] (of_stanza name) (others ++ more) (each name) (names-chained outer names more rest)))

  one-chained : (line : ℕ) (front back : List Branch) (branches : List Cond) (one : Said) (more : List SectionPart) → branches ≡ map condition front → AreChained (front ++ begun one (slice_get back 0)) more → FitsBehind one (slice_get back 0) →
      AreChained (front ++ back) (parts_for of_stanza (record { line = line; branches = branches; said = one }) ++ more)
  one-chained line front back branches (said.Import names fits) more stands rest fit =
      subst (λ v. AreChained (front ++ back) (flat_map (λ name. map (under v) (of_stanza name)) names ++ more)) (sym stands)
      (chained-behind front back (flat_map (λ name. map (under (map condition front)) (of_stanza name)) names ++ more)
      (names-chained front names more (subst (λ v. AreChained v more) (append-nil front) rest)))
  one-chained line front back branches (said.Depends deps) more stands rest fit = chained-part front back (record { line = line; branches = branches; said = said.Depends deps }) more stands rest fit
  one-chained line front back branches (said.Buildable value) more stands rest fit = chained-part front back (record { line = line; branches = branches; said = said.Buildable value }) more stands rest fit
  one-chained line front back branches (said.Visibility value) more stands rest fit = chained-part front back (record { line = line; branches = branches; said = said.Visibility value }) more stands rest fit
  one-chained line front back branches (said.Default value) more stands rest fit = chained-part front back (record { line = line; branches = branches; said = said.Default value }) more stands rest fit
  one-chained line front back branches (said.Manual value) more stands rest fit = chained-part front back (record { line = line; branches = branches; said = said.Manual value }) more stands rest fit
  one-chained line front back branches said.BuildTools more stands rest fit = chained-part front back (record { line = line; branches = branches; said = said.BuildTools }) more stands rest fit
  one-chained line front back branches (said.Branch word own fits) more stands rest fit = chained-part front back (record { line = line; branches = branches; said = said.Branch word own fits }) more stands rest fit
  one-chained line front back branches said.Misplaced more stands rest fit = chained-part front back (record { line = line; branches = branches; said = said.Misplaced }) more stands rest fit

  pub replaced-chained : (opened : List Branch) (parts : List SectionPart) → AreChained opened parts → AreChained opened (flat_map (parts_for of_stanza) parts)
  unfolding AreChained
  replaced-chained opened [] chained = tt
  replaced-chained opened (part ∷ parts) chained =
      let first = first-stands opened part parts chained in
      let new = begun part.said (slice_get first.back 0) in
      subst (λ v. AreChained v (parts_for of_stanza part ++ flat_map (parts_for of_stanza) parts)) (sym first.split)
      (one-chained part.line first.front first.back part.branches part.said (flat_map (parts_for of_stanza) parts) first.stands (replaced-chained (first.front ++ new) parts first.rest) first.fits)

-- ---- sections

-- the parts of each stanza are chained
abbrev StanzasChained : Stanzas → Type 0
StanzasChained stanzas = AllByRecursion (λ one. AreSectionParts one.1) stanzas

-- the parts of each section are chained
abbrev SectionsChained : List Section → Type 0
SectionsChained sections = AllByRecursion (λ one. AreSectionParts one.parts) sections

found-chained : (stanzas : Stanzas) (name : List ℕ) → StanzasChained stanzas → AreSectionParts (parts_of stanzas name)
unfolding AreChained
found-chained [] name chained = tt
found-chained (one ∷ stanzas) name chained =
    elim (same_text name one.0) as (λ b. AreSectionParts (if b then one.1 else parts_of stanzas name)) [
      | true ↦ chained.0
      | false ↦ found-chained stanzas name chained.1
    ]

all-chained : (stanzas : Stanzas) (parts : List SectionPart) → StanzasChained stanzas → AreSectionParts parts → AreSectionParts (all_replaced stanzas parts)
all-chained stanzas parts known chained = replaced-chained (parts_of stanzas) (λ name. found-chained stanzas name known) [] parts chained

known-chained : (stanzas : Stanzas) (line : ℕ) (kind : SectionKind) (name : List ℕ) (parts : List SectionPart) → StanzasChained stanzas → AreSectionParts parts →
    StanzasChained (stanzas_behind stanzas (record { line = line; kind = kind; name = name; parts = parts }))
known-chained stanzas line (kinds.Component kind) name parts known chained = known
known-chained stanzas line kinds.Common name parts known chained =
    each-append (λ (one : List ℕ × List SectionPart). AreSectionParts one.1) stanzas ((name, all_replaced stanzas parts) ∷ []) known (all-chained stanzas parts known chained, tt)
known-chained stanzas line kinds.Flag name parts known chained = known
known-chained stanzas line kinds.Setup name parts known chained = known

from-chained : (stanzas : Stanzas) (sections : List Section) → StanzasChained stanzas → SectionsChained sections → SectionsChained (sections_from stanzas sections)
from-chained stanzas [] known chained = tt
from-chained stanzas (section ∷ sections) known chained = (
  all-chained stanzas section.parts known chained.0,
  from-chained (stanzas_behind stanzas section) sections (known-chained stanzas section.line section.kind section.name section.parts known chained.0) chained.1,
)

each-section : (sections : List Section) → SectionsChained sections → SectionsChained (with_imports_replaced sections)
each-section sections chained = subst SectionsChained (sym (from-known sections)) (from-chained [] sections tt chained)

pub sections-chained : (sections : List Section) → All (λ one. AreSectionParts one.parts) sections → All (λ one. AreSectionParts one.parts) (with_imports_replaced sections)
sections-chained sections chained =
    let P = λ (one : Section). AreSectionParts one.parts in
    All-from_recursion P (with_imports_replaced sections) (each-section sections (recursion_from_All P sections chained))

-- ---- components

section-shown : (line : ℕ) (kind : SectionKind) (name : List ℕ) (parts : List SectionPart) → AreSectionParts parts →
    AllByRecursion (λ one. AreSectionParts one.section.parts) (shown_in (record { line = line; kind = kind; name = name; parts = parts }))
section-shown line (kinds.Component kind) name parts chained = (chained, tt)
section-shown line kinds.Common name parts chained = tt
section-shown line kinds.Flag name parts chained = tt
section-shown line kinds.Setup name parts chained = tt

each-shown : (sections : List Section) → SectionsChained sections → AllByRecursion (λ one. AreSectionParts one.section.parts) (flat_map shown_in sections)
each-shown [] chained = tt
each-shown (section ∷ sections) chained =
    each-append (λ (one : Shown). AreSectionParts one.section.parts) (shown_in section) (flat_map shown_in sections)
    (section-shown section.line section.kind section.name section.parts chained.0) (each-shown sections chained.1)

pub shown-chained : (sections : List Section) → All (λ one. AreSectionParts one.parts) sections → All (λ one. AreSectionParts one.section.parts) (flat_map shown_in (with_imports_replaced sections))
shown-chained sections chained =
    All-from_recursion (λ (one : Shown). AreSectionParts one.section.parts) (flat_map shown_in (with_imports_replaced sections))
    (each-shown (with_imports_replaced sections) (each-section sections (recursion_from_All (λ (one : Section). AreSectionParts one.parts) sections chained)))

pub bodies-chained : (sections : List Section) (bodies : Bodies) → AreBodiesOf sections bodies → All (λ one. AreSectionParts one.parts) sections →
    All (λ one. AreSectionParts (body_parts (table bodies.stanzas.bodies.items) one.body)) bodies.built.items
bodies-chained sections bodies stand chained =
    let told = table bodies.stanzas.bodies.items in
    let shown = recursion_from_All (λ (one : Shown). AreSectionParts one.section.parts) (flat_map shown_in (with_imports_replaced sections)) (shown-chained sections chained) in
    All-from_recursion (λ (one : Built). AreSectionParts (body_parts told one.body)) bodies.built.items
    (each-of-map (λ (one : Shown). AreSectionParts one.section.parts) (built_component told) bodies.built.items
    (subst (AllByRecursion (λ (one : Shown). AreSectionParts one.section.parts)) (sym stand.shown) shown))
