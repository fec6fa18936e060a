use Rattle.std.proofs.Common.{◌≡◌, true, sym, subst}
use Rattle.solver_index.specs.Blocks.{AllAreInBlocks}
use Rattle.solver_index.specs.Defaults.{AreDefaults}
use Rattle.solver_index.specs.Orders.{AreOrders}
use Rattle.solver_index.specs.Versions.{packages_have_versions}
use Rattle.cabal_problem.proofs.NewProblem.{made-lawful}
use Rattle.cabal_problem.proofs.InBlocks.{all-in-blocks}
use Rattle.cabal_problem.proofs.Findings.{all-versions}
use Rattle.cabal_problem.proofs.cabal_problem.CabalProblem.new.Goals as goal

pub of-requires-3-clause-versions : goal.of-requires-3-clause-versions
of-requires-3-clause-versions c =
    subst (λ ps. packages_have_versions ps ≡ true) (sym c.as_slice-packages.ensures) (all-versions c.args.settings.now.env c.args.index.now c.requires.sound)

pub of-requires-3-clause-blocks : goal.of-requires-3-clause-blocks
of-requires-3-clause-blocks c = subst (λ ps. AllAreInBlocks ps) (sym c.as_slice-packages.ensures) (all-in-blocks c.args.settings.now.env c.args.index.now c.requires.sound)

pub invariant_of-result-clause-lawful : goal.invariant_of-result-clause-lawful
invariant_of-result-clause-lawful c =
    let project = c.args.settings.now.project in
    made-lawful c.args.settings.now.env c.args.index.now project c.in_ok-names.names c.in_ok-tables.tables.orders c.requires.sound c.requires.extra c.in_ok-names.ensures.names
    (subst (λ ps. AreOrders project ps c.in_ok-tables.tables.orders) c.as_slice-packages.ensures c.in_ok-tables.ensures.orders)

pub invariant_of-result-clause-defaults : goal.invariant_of-result-clause-defaults
invariant_of-result-clause-defaults c =
    ∣ subst (λ ps. AreDefaults ps c.in_ok-names.names c.in_ok-tables.tables.defaults) c.as_slice-packages.ensures c.in_ok-tables.ensures.defaults ∣₁
