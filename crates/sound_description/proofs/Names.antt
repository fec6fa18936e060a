-- Distinct names of sections.
use Rattle.std.proofs.Common.{◌≡◌, ℕ, Bool, true, false, not, if◌then◌else◌, List, [], ◌∷◌, ◌++◌, map, flat_map, refl, sym, ap, ◌∙◌}
use Rattle.std.specs.List.{AllByRecursion, IsDistinct}
use Rattle.std.specs.Cmp.Lexicographic.{bytes_decides}
use Rattle.std.proofs.lemmas.Bool.{false≢true, or_parts, not-true}
use Rattle.std.proofs.lemmas.List.{map-append}
use Rattle.std.proofs.lemmas.List.Folds.{list_any-append}
use Rattle.plan_types.specs.declared.refusal.Cause.TheVariants as causes
use Rattle.plan_types.specs.declared.description.Component.{Component}
use Rattle.plan_types.specs.declared.description.FlagDecl.{FlagDecl}
use Rattle.section_syntax.specs.declared.part.File.{File}
use Rattle.section_syntax.specs.declared.part.Section.{Section}
use Rattle.section_syntax.specs.declared.part.SectionKind.{SectionKind}
use Rattle.section_syntax.specs.declared.part.SectionKind.TheVariants as kinds
use Rattle.package_declarations.specs.Components.{component_in}
use Rattle.description.specs.Faults.{unless, at, is_class}
use Rattle.description.specs.NamesBefore.{names_behind, again}
use Rattle.description.proofs.RepeatedNames.{repeated_from}
use Rattle.package_declarations.specs.Flags.{flag_of, declared_flags}
use Rattle.stanza_imports.specs.Imports.{with_imports_replaced}
use Rattle.stanza_imports.specs.KnownStanzas.{Stanzas, all_replaced, stanzas_behind, sections_from}
use Rattle.stanza_imports.proofs.ImportOrder.{from-known}
use Rattle.stanza_imports.specs.Names.{has, with_name}
use Rattle.package_declarations.specs.Declarations.{is_flag}
use Rattle.description.specs.declared.faults.Class.{Class}
use Rattle.description.specs.declared.faults.Class.TheVariants.{Flag, Component as OfComponent}
use Rattle.sound_description.proofs.Faultless.{unless-none}
use Rattle.common_laws.specs.Passing.{none-front, none-back, each-less}
use Rattle.plan_types.specs.Bytes.{same_text}
use Rattle.common_laws.specs.Lists.{map-nil}
use Rattle.common_laws.specs.Small.{same-is}

pub itself : (xs : List ℕ) → same_text xs xs ≡ true
itself xs = (bytes_decides xs xs).1 refl

-- `same_text` is symmetric
pub same-back : (xs ys : List ℕ) → same_text xs ys ≡ true → same_text ys xs ≡ true
same-back xs ys e = let is = same-is xs ys e in (λ i. same_text (sym is i) (is i)) ∙ e

pub apart-back : (xs ys : List ℕ) → same_text xs ys ≡ false → same_text ys xs ≡ false
apart-back xs ys e = by (same_text ys xs) (same-back ys xs)
  where
    by : (b : Bool) → (b ≡ true → same_text xs ys ≡ true) → b ≡ false
    by true f = absurd (false≢true (sym e ∙ f refl))
    by false f = refl

-- the names of the sections of a class
abbrev pub one_named : Class → Section → List (List ℕ)
one_named class section = if is_class class section.kind then section.name ∷ [] else []

abbrev pub named : Class → List Section → List (List ℕ)
named class sections = flat_map (one_named class) sections

-- a name apart from some names and one more
module _ (before : List (List ℕ)) (name : List ℕ) where
  too : (other : List ℕ) → has (before ++ name ∷ []) other ≡ false → (has before other ≡ false) × (same_text name other ≡ false)
  too other e =
      let parts = or_parts (has before other) (has (name ∷ []) other) (sym (list_any-append (same_text other) before (name ∷ [])) ∙ e) in
      (parts.0, apart-back other name ((or_parts (same_text other name) false parts.1).0))

once-step : (b : Bool) (class : Class) (before : List (List ℕ)) (name : List ℕ) (line : ℕ) (sections : List Section)
    → (if b then at line (unless (not (has before name)) causes.DuplicateName) else []) ≡ []
    → repeated_from class (if b then with_name before name else before) sections ≡ []
    → ((known : List (List ℕ)) → repeated_from class known sections ≡ [] → IsDistinct same_text (named class sections) × AllByRecursion (λ n. has known n ≡ false) (named class sections))
    → IsDistinct same_text ((if b then name ∷ [] else []) ++ named class sections) × AllByRecursion (λ n. has before n ≡ false) ((if b then name ∷ [] else []) ++ named class sections)
unfolding IsDistinct
once-step false class before name line sections here there more = more before there
once-step true class before name line sections here there more =
    let new = not-true (has before name) (unless-none (not (has before name)) causes.DuplicateName
    (map-nil (λ cause. record { line = line; cause = cause }) (unless (not (has before name)) causes.DuplicateName) here)) in
    let behind : repeated_from class (before ++ name ∷ []) sections ≡ [] = ap (λ b. repeated_from class (if b then before else before ++ name ∷ []) sections) (sym new) ∙ there in
    let rest = more (before ++ name ∷ []) behind in (
      (each-less (λ n. has (before ++ name ∷ []) n ≡ false) (λ n. same_text name n ≡ false) (λ n e. (too before name n e).1) (named class sections) rest.1, rest.0),
      (new, each-less (λ n. has (before ++ name ∷ []) n ≡ false) (λ n. has before n ≡ false) (λ n e. (too before name n e).0) (named class sections) rest.1),
    )

once-from : (class : Class) (sections : List Section) (before : List (List ℕ)) → repeated_from class before sections ≡ []
    → IsDistinct same_text (named class sections) × AllByRecursion (λ n. has before n ≡ false) (named class sections)
unfolding IsDistinct
once-from class [] before e = (tt, tt)
once-from class (section ∷ sections) before e =
    let rest = repeated_from class (names_behind class before section) sections in
    once-step (is_class class section.kind) class before section.name section.line sections (none-front (again class before section) rest e) (none-back (again class before section) rest e)
    (λ known h. once-from class sections known h)

-- the names of a class of sections are distinct
pub once : (class : Class) (sections : List Section) → repeated_from class [] sections ≡ [] → IsDistinct same_text (named class sections)
once class sections e = (once-from class sections [] e).0

-- ---- the names of flags and components

one_flag : (section : Section) (kind : SectionKind) → section.kind ≡ kind → map (λ flag. flag.name) (if is_flag section.kind then flag_of section ∷ [] else []) ≡ one_named Flag section
one_flag section (kinds.Component kind) is = rw is refl
one_flag section kinds.Common is = rw is refl
one_flag section kinds.Flag is = rw is refl
one_flag section kinds.Setup is = rw is refl

pub flag-names : (sections : List Section) → map (λ flag. flag.name) (declared_flags sections) ≡ named Flag sections
flag-names [] = refl
flag-names (section ∷ sections) =
    map-append (λ (flag : FlagDecl). flag.name) (if is_flag section.kind then flag_of section ∷ [] else []) (declared_flags sections)
    ∙ (λ i. one_flag section section.kind refl i ++ flag-names sections i)

module _ (file : File) where
  one_component : (section : Section) (kind : SectionKind) → section.kind ≡ kind → map (λ component. component.name) (component_in file section) ≡ one_named OfComponent section
  one_component section (kinds.Component kind) is = rw is refl
  one_component section kinds.Common is = rw is refl
  one_component section kinds.Flag is = rw is refl
  one_component section kinds.Setup is = rw is refl

  names-from : (sections : List Section) (stanzas : Stanzas) → map (λ component. component.name) (flat_map (component_in file) (sections_from stanzas sections)) ≡ named OfComponent sections
  names-from [] stanzas = refl
  names-from (section ∷ sections) stanzas =
      let here = record section { parts = all_replaced stanzas section.parts } in
      map-append (λ (component : Component). component.name) (component_in file here) (flat_map (component_in file) (sections_from (stanzas_behind stanzas section) sections))
      ∙ (λ i. one_component here section.kind refl i ++ names-from sections (stanzas_behind stanzas section) i)

  pub component-names : (sections : List Section) → map (λ component. component.name) (flat_map (component_in file) (with_imports_replaced sections)) ≡ named OfComponent sections
  component-names sections = ap (λ replaced. map (λ (component : Component). component.name) (flat_map (component_in file) replaced)) (from-known sections) ∙ names-from sections []
