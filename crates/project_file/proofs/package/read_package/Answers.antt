use Rattle.std.proofs.Common.{◌++◌, ◌∷◌, [], cond, sym, ap, ◌∙◌}
use Rattle.cabal_lexer.specs.Tree.{tree_of}
use Rattle.plan_types.specs.declared.refusal.Cause.TheVariants.{BadName}
use Rattle.project_file.specs.Parts.{flag_parts}
use Rattle.project_file.specs.declared.part.ProjectPart.{ProjectPart}
use Rattle.project_file.specs.declared.part.ProjectSaid.TheVariants as said
use Rattle.project_file.proofs.Walk.{flag_end}
use Rattle.project_file.proofs.package.read_package.Goals as goal

pub returns : goal.returns
returns c =
    let bad : ProjectPart = record { line = c.args.line; said = said.Bad BadName } in
    flag_end c.args.args.now c.args.items.now c.loop-item.item-index c.loop-item.parts _ c.loop-item-test.false c.loop-item.invariant
    ∙ ap (λ about. c.args.parts.now ++ cond about (flag_parts c.args.args.now (tree_of c.args.items.now)) (bad ∷ [])) (sym c.if-not-is_about.false ∙ c.is_about.ensures)
