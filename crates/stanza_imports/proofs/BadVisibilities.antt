-- The first bad visibility of built components.
use Rattle.std.proofs.Common.{◌≡◌, ℕ, Bool, true, false, if◌then◌else◌, List, [], ◌∷◌, ◌++◌, map, flat_map, sym, ap, ◌∙◌, refl}
use Rattle.std.specs.Prelude.{Option, None}
use Rattle.std.proofs.lemmas.List.{map-append}
use Rattle.section_syntax.specs.declared.part.Section.{Section}
use Rattle.section_syntax.specs.declared.part.SectionKind.{SectionKind}
use Rattle.section_syntax.specs.declared.part.SectionKind.TheVariants as kinds
use Rattle.stanza_imports.specs.Standing.{bad_in}
use Rattle.stanza_imports.specs.Lines.{first_line, lesser}
use Rattle.stanza_imports.specs.Imports.{with_imports_replaced}
use Rattle.stanza_imports.specs.declared.stanzas.Bodies.{Bodies}
use Rattle.stanza_imports.specs.declared.stanzas.Built.{Built}
use Rattle.stanza_imports.proofs.FirstLines.{lesser-lesser, lesser-none, first_line-append}
use Rattle.common_laws.specs.Lists.{map-map}
use Rattle.stanza_imports.specs.Bodies.{table, first_bad, Shown, built_component, shown_in, AreBodiesOf}
use Rattle.stanza_imports.specs.Parts.{is_named_library, bad_visibility, bad_visibilities}

-- the least of the lines that are there
abbrev pub least : List (Option ℕ) → Option ℕ
least [] = None
least (one ∷ more) = lesser one (least more)

abbrev pub worst : List Built → Option ℕ
worst built = least (map bad_in built)

least-push : (xs : List (Option ℕ)) (x : Option ℕ) → least (xs ++ x ∷ []) ≡ lesser (least xs) x
least-push [] x = lesser-none x
least-push (y ∷ xs) x = ap (lesser y) (least-push xs x) ∙ lesser-lesser y (least xs) x

pub worst-push : (xs : List Built) (x : Built) → worst (xs ++ x ∷ []) ≡ lesser (worst xs) (bad_in x)
worst-push xs x = ap least (map-append bad_in xs (x ∷ [])) ∙ least-push (map bad_in xs) (bad_in x)

abbrev bad_shown : Shown → Option ℕ
bad_shown s = if is_named_library s.kind s.section.name then s.told.bad_visibility else None

one_bad : (b : Bool) (section : Section) → (if b then first_bad section.parts else None) ≡ first_line (if b then flat_map bad_visibility section.parts else [])
one_bad true section = refl
one_bad false section = refl

of_section : (section : Section) (kind : SectionKind) (rest : List ℕ) (more : List Shown) → section.kind ≡ kind → least (map bad_shown more) ≡ first_line rest →
    least (map bad_shown (shown_in section ++ more)) ≡ first_line (bad_visibilities section ++ rest)
of_section section (kinds.Component kind) rest more is e =
    rw is (ap (lesser (if is_named_library kind section.name then first_bad section.parts else None)) e
    ∙ ap (λ v. lesser v (first_line rest)) (one_bad (is_named_library kind section.name) section)
    ∙ sym (first_line-append (if is_named_library kind section.name then flat_map bad_visibility section.parts else []) rest))
of_section section kinds.Common rest more is e = rw is e
of_section section kinds.Flag rest more is e = rw is e
of_section section kinds.Setup rest more is e = rw is e

of_sections : (sections : List Section) → least (map bad_shown (flat_map shown_in sections)) ≡ first_line (flat_map bad_visibilities sections)
of_sections [] = refl
of_sections (section ∷ sections) = of_section section section.kind (flat_map bad_visibilities sections) (flat_map shown_in sections) refl (of_sections sections)

pub worst_of : (sections : List Section) (bodies : Bodies) → AreBodiesOf sections bodies → worst bodies.built.items ≡ first_line (flat_map bad_visibilities (with_imports_replaced sections))
worst_of sections bodies stand =
    ap least (sym (map-map (built_component (table bodies.stanzas.bodies.items)) bad_shown bodies.built.items))
    ∙ ap (λ v. least (map bad_shown v)) stand.shown
    ∙ of_sections (with_imports_replaced sections)
