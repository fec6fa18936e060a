use Rattle.std.proofs.Common.{◌∙◌, ap}
use Rattle.qualified_goals.specs.Names.{flag_names, is_listed, package_names}
use Rattle.qualified_goals.proofs.NameNumbers.{goal-order}
use Rattle.qualified_goals.proofs.names.Names.of.Goals as goal

pub returns-clause-names : goal.returns-clause-names
returns-clause-names c = record {
  packages_are = c.in_ok-packages.ensures ∙ ap package_names c.as_slice.ensures;
  flags_rise = c.in_ok-flags.ensures.rising;
  flags_are = λ name. c.in_ok-flags.ensures.names name ∙ ap (λ packages. is_listed (flag_names packages) name) c.as_slice-2.ensures;
}

pub returns-clause-order : goal.returns-clause-order
returns-clause-order c = goal-order c.args.index.now.packages (record { packages = c.in_ok-packages.packages.keys; flags = c.in_ok-flags.flags.keys }) c.requires.rising (returns-clause-names c)
