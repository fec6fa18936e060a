use Rattle.std.proofs.Common.{◌≡◌, ◌+◌, ◌++◌, length, refl, sym, ◌∙◌, ap, arith}
use Rattle.std.specs.Prelude.{map}
use Rattle.std.proofs.lemmas.List.{length_push}
use Rattle.std.proofs.lemmas.Iterator.Splits.{YieldsList-from_lines}
use Rattle.std.proofs.lemmas.Iterator.Consumers.{YieldsList-turn, YieldsList-end}
use Rattle.cabal_lexer.specs.Lines.{kept_line, kept_from, without_mark}
use Rattle.cabal_lexer.proofs.Texts.{kept_from-yielded, lines-le, without_mark-le}
use Rattle.cabal_lexer.proofs.lines.kept_lines.Goals as goal

pub overflow_add-number : goal.overflow_add-number
overflow_add-number c =
    let t = YieldsList-turn (YieldsList-from_lines (without_mark c.args.text.now) (cc)) c.loop-raw.yielded _ c.loop-raw.yielded_by _ _ c.in-Some.raw c.in-Some.is c.next.ensures.steps in
    let small = lines-le (without_mark c.args.text.now) in
    let smaller = without_mark-le c.args.text.now in
    omega arith

pub loop-raw-init : goal.loop-raw-init
loop-raw-init c =
    let rest : c.into_iter-raw-iterator.result.rest.now ≡ without_mark c.args.text.now = cc in
    let smaller = without_mark-le c.args.text.now in
    (c.new-kept.ensures.items, refl, omega (arith, ap length rest))

pub loop-raw-preserved : goal.loop-raw-preserved
loop-raw-preserved c =
    let kept = c.in_ok-keep.ensures in (
      kept ∙ ap (λ v. v ++ kept_line (c.loop-raw.number + 1) c.in-Some.raw.now) c.loop-raw.invariant.0
          ∙ ap (λ n. kept_from 1 (map (λ r. r.now) c.loop-raw.yielded) ++ kept_line (n + 1) c.in-Some.raw.now) c.loop-raw.invariant.1
          ∙ sym (kept_from-yielded c.loop-raw.yielded c.in-Some.raw),
      omega (arith, length_push c.loop-raw.yielded c.in-Some.raw),
      omega (arith, c.in-Some.ensures.steps.0.1),
    )

pub returns : goal.returns
returns c =
    let t = YieldsList-end (YieldsList-from_lines (without_mark c.args.text.now) (cc)) c.loop-raw.yielded _ c.loop-raw.yielded_by _ _ c.in-None.is c.next.ensures.steps in
    c.loop-raw.invariant.0 ∙ ap (kept_from 1) t.0
