use Rattle.std.proofs.Common.{◌∙◌, ap}
use Rattle.qualified_goals.specs.Names.{flag_names, is_listed}
use Rattle.qualified_goals.proofs.NameNumbers.{names-stay, sorted-rise}
use Rattle.qualified_goals.proofs.names.numbered_flags.Goals as goal

pub returns-clause-rising : goal.returns-clause-rising
returns-clause-rising c = sorted-rise c.sort.new.self.keys c.in_ok-sort.ensures.sorted c.sort.ensures.unique

pub returns-clause-names : goal.returns-clause-names
returns-clause-names c = λ name. c.sort.ensures.reordered.2 name ∙ ap (λ names. is_listed names name) c.in_ok-names.ensures ∙ names-stay (flag_names c.args.packages.now) name
