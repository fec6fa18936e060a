use Rattle.std.proofs.Common.{◌∙◌, ap, refl}
use Rattle.package_declarations.specs.Declarations.{own_name, declares, is_flag, is_library, is_executable}
use Rattle.package_declarations.proofs.declarations.Declared.of.Goals as goal

pub returns : goal.returns
returns c = record {
  spec = refl;
  name = c.own_name.ensures ∙ ap own_name c.as_slice.ensures;
  flags = λ name. c.in_ok-names_of.ensures name ∙ ap (λ s. declares is_flag s name) c.as_slice-sections.ensures;
  libraries = λ name. c.in_ok-names_of-2.ensures name ∙ ap (λ s. declares is_library s name) c.as_slice-sections.ensures;
  executables = λ name. c.in_ok-names_of-3.ensures name ∙ ap (λ s. declares is_executable s name) c.as_slice-sections.ensures;
}
