-- the text is read as what it was made from
use Rattle.std.proofs.Common.{◌≡◌, List, ℕ, sym, ap, ◌∙◌, subst}
use Rattle.freeze_text.proofs.Empty.{if-ok}
use Rattle.std.specs.List.{AllByRecursion}
use Rattle.freeze_text.specs.Reads.{IsPlainConstraint, IsReadAs}
use Rattle.freeze_text.specs.Text.{freeze_text}
use Rattle.freeze_text.proofs.text.text_of_freeze.Goals as goal

pub returns-clause-reads : goal.returns-clause-reads
returns-clause-reads c =
    let constraints = c.args.project.now.constraints in
    if-ok (λ t. t ≡ freeze_text c.as_slice.result.now) (λ t. AllByRecursion IsPlainConstraint constraints → IsReadAs t constraints) c.printed.result (λ text is plain. subst (λ (t : List ℕ). IsReadAs t constraints) (sym (is ∙ ap freeze_text c.as_slice.ensures)) (c.text_reads_back.ensures constraints plain)) c.printed.ensures
