-- The parts of the setup sections, section by section.
use Rattle.std.proofs.Common.{◌≡◌, Bool, true, false, if◌then◌else◌, ◌&&◌, ◌||◌, List, [], ◌∷◌, refl, sym, ap, ◌∙◌}
use Rattle.std.specs.List.{list_any}
use Rattle.std.proofs.lemmas.List.Folds.{list_any-append}
use Rattle.section_syntax.specs.declared.part.SectionPart.{SectionPart}
use Rattle.section_syntax.specs.declared.part.Section.{Section}
use Rattle.package_declarations.specs.Setup.{is_setup, setup_parts}

in-section : (test : SectionPart → Bool) (b : Bool) (parts : List SectionPart) → list_any test (if b then parts else []) ≡ (b && list_any test parts)
in-section test true parts = refl
in-section test false parts = refl

-- some part passes a test iff a setup section has one that does
pub any-part : (test : SectionPart → Bool) (sections : List Section) → list_any (λ section. is_setup section.kind && list_any test section.parts) sections ≡ list_any test (setup_parts sections)
any-part test [] = refl
any-part test (section ∷ sections) =
    ap (λ b. (is_setup section.kind && list_any test section.parts) || b) (any-part test sections)
    ∙ ap (λ b. b || list_any test (setup_parts sections)) (sym (in-section test (is_setup section.kind) section.parts))
    ∙ sym (list_any-append test (if is_setup section.kind then section.parts else []) (setup_parts sections))
