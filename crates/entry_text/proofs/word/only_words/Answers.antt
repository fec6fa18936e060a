use Rattle.std.proofs.Common.{ap, sym, ◌∙◌}
use Rattle.entry_text.proofs.CommaCuts.{texts}
use Rattle.entry_text.proofs.Filtered.{word_kept, word_dropped}
use Rattle.entry_text.proofs.word.only_words.Goals as goal
use Rattle.entry_text.proofs.word.only_words.Goals.{then-is_word+in_ok-push, else-is_word}

pub loop-part-preserved : goal.loop-part-preserved
loop-part-preserved c =
    let parts = c.args.parts.now in
    let i = c.loop-part.part-index in
    elim c.if-is_word.branch [
      | then-is_word+in_ok-push w ↦
          ap (λ v. texts v.items) w.words-is ∙ ap texts w.in_ok-push.ensures.items
          ∙ word_kept parts i _ c.loop-part.words.items c.loop-part-test.true c.loop-part.invariant (sym c.is_word.ensures ∙ w.if-is_word.true)
      | else-is_word w ↦
          ap (λ v. texts v.items) w.words-is
          ∙ word_dropped parts i _ c.loop-part.words.items c.loop-part-test.true c.loop-part.invariant (sym c.is_word.ensures ∙ w.if-is_word.false)
    ]
