use Rattle.std.proofs.Common.{◌∙◌, rules}
use Rattle.std.specs.Prelude.{◌&&◌}
use Rattle.std.specs.List.{list_any}
use Rattle.std.proofs.lemmas.Iterator.Search.{any_from_yields_List}
use Rattle.std.proofs.lemmas.Iterator.{YieldsList-from_slice}
use Rattle.section_syntax.specs.declared.part.Section.{Section}
use Rattle.package_declarations.specs.Setup.{is_dependency, is_setup}
use Rattle.package_declarations.proofs.SetupParts.{any-part}
use Rattle.package_declarations.proofs.setup.has_deps.Goals as goal

pub returns : goal.returns
returns c =
    any_from_yields_List (λ (section : Section). is_setup section.kind && list_any (λ part. is_dependency part.said) section.parts) _ _ _ c.any.ensures.ran (YieldsList-from_slice c.args.sections.now cc) (λ x b q called. search rules)
    ∙ any-part (λ part. is_dependency part.said) c.args.sections.now
