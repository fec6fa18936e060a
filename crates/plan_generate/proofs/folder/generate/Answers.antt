use Rattle.std.proofs.Common.{ap, ◌∙◌, sym, Err}
use Rattle.std.proofs.lemmas.Bool.{false≢true}
use Rattle.outside_folder.specs.Files.{is_tree}
use Rattle.plan_generate.proofs.Trees.{generated-tree}
use Rattle.plan_generate.proofs.folder.generate.Goals as goal

pub unreachable-requires : goal.unreachable-requires
unreachable-requires c =
    false≢true (sym (c.in-Err-BadTree.ensures.bad_tree (ap Err c.in-Err-BadTree.field-0-is)) ∙ ap is_tree c.in_ok-files.ensures ∙ generated-tree c.args.count c.requires.1)
