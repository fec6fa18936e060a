use Rattle.std.proofs.Common.{◌≡◌, ◌++◌, ◌∷◌, [], ℕ, Bool, List, true, false, sym, ap, ◌∙◌}
use Rattle.std.proofs.lemmas.List.{append-nil}
use Rattle.solver_index.proofs.ListLaws.{rising-more}
use Rattle.freeze_file.specs.Steps.{is_setup_in}
use Rattle.freeze_file.proofs.project.setups_in.Goals as goal
use Rattle.freeze_file.proofs.project.setups_in.Goals.{then-has+in_ok-push, else-has}

pub loop-p-preserved : goal.loop-p-preserved
loop-p-preserved c =
    let test : ℕ → Bool = is_setup_in c.args.choices.now in
    let p = c.loop-p.p in
    let is : c.has.result ≡ test p = c.has.ensures ∙ c.in_ok-owners.ensures p in
    elim c.if-has.branch [
      | then-has+in_ok-push w ↦
          w.setups-is ∙ w.in_ok-push.ensures.ok ∙ ap (λ (s : List ℕ). s ++ p ∷ []) c.loop-p.invariant
          ∙ sym (rising-more test p true (sym is ∙ w.if-has.true))
      | else-has w ↦ w.setups-is ∙ c.loop-p.invariant ∙ sym (rising-more test p false (sym is ∙ w.if-has.false) ∙ append-nil _)
    ]
