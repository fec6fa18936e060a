use Rattle.std.proofs.Common.{◌∙◌, ◌+◌, ap, sym, drop}
use Rattle.project_file.specs.Flags.{flag_of, flag_sets}
use Rattle.project_file.proofs.Values.{after_flags, flag_more}
use Rattle.project_file.proofs.flags.flag_sets.Goals as goal

pub loop-word-preserved : goal.loop-word-preserved
loop-word-preserved c =
    let words = c.args.words.now in
    let n = c.loop-word.word-index in
    let is = sym (c.in_ok-flag.ensures ∙ ap flag_of c.as_str.ensures) ∙ c.in-Some.is in
    flag_more words n c.word-item.result c.loop-word.flags c.in-Some.flag c.loop-word-test.true (sym c.word-item.is) is c.loop-word.invariant
    ∙ ap (λ f. after_flags f (flag_sets (drop (n + 1) words))) (sym c.in_ok-push.ensures.ok)
