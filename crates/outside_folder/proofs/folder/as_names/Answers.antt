-- the map's keys are in order, so the listed names are too
use Rattle.std.proofs.Common.{rules, ◌≡◌, sym, subst}
use Rattle.outside_folder.specs.Files.{as_names}
use Rattle.outside_folder.specs.Folder.{IsInOrder}
use Rattle.outside_folder.proofs.Orders.{names_in_order}
use Rattle.outside_folder.proofs.folder.as_names.Goals as goal

pub returns-clause-order : goal.returns-clause-order
returns-clause-order c =
    let all : c.loop-text.listed ≡ as_names c.args.names.entries = search rules in
    subst IsInOrder (sym all) (names_in_order c.args.names.entries c.into_iter-text-iterator.ensures.into_iter_gives.5)
