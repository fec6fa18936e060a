use Rattle.std.proofs.Common.{rules}
use Rattle.std.proofs.lemmas.Fn.{always_returns_same}
use Rattle.package_declarations.specs.Flags.{name_before}
use Rattle.package_declarations.proofs.FlagOrder.{name-order}
use Rattle.package_declarations.proofs.flag_list.sort.Goals as goal

pub returns-clause-sorted : goal.returns-clause-sorted
returns-clause-sorted c = c.in_ok-sort_by.ensures.sorted name_before name-order (always_returns_same _ _ _ (λ a r g h. search rules))

pub returns-clause-stable : goal.returns-clause-stable
returns-clause-stable c = c.in_ok-sort_by.ensures.stable name_before name-order (always_returns_same _ _ _ (λ a r g h. search rules))
