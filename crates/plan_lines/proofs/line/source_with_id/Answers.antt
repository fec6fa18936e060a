use Rattle.std.proofs.Common.{refl, ap, ◌∙◌}
use Rattle.store_id.specs.NodeText.{names_each_once}
use Rattle.plan_components.specs.Chosen.{chosen_flag, selection_of}
use Rattle.plan_lines.proofs.Named.{named}
use Rattle.plan_lines.proofs.line.source_with_id.Goals as goal

pub id_by-requires : goal.id_by-requires
id_by-requires c =
    ap (names_each_once c.args.d.now.flags) c.in_ok-flags.ensures.flags
    ∙ named (chosen_flag (selection_of c.args.chosen.now) c.args.node.qual c.args.node.package) (λ decl. refl) c.args.d.now.flags c.requires
