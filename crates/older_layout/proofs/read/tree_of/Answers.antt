use Rattle.std.proofs.Common.{◌∙◌, ap, subst}
use Rattle.std.specs.Result.{IfOk}
use Rattle.cabal_lexer.specs.Fault.{StandsFor}
use Rattle.older_layout.specs.Relaid.{relaid}
use Rattle.older_layout.proofs.OneOlderTree.{printable-tree}
use Rattle.older_layout.proofs.read.tree_of.Goals as goal

pub returns-clause-printable : goal.returns-clause-printable
returns-clause-printable c =
    let lines =
    c.as_slice-3.ensures.value ∙ c.in_ok-lines-2.ensures ∙ c.as_slice-2.ensures.value ∙ c.in_ok-lines.ensures ∙ ap relaid (c.as_slice.ensures.value ∙ c.in_ok-kept.ensures) in
    printable-tree c.args.text.now c.items_of.result c.utf8.text (subst (λ v. IfOk c.items_of.result (λ items. StandsFor v items)) lines c.items_of.ensures.tree)
