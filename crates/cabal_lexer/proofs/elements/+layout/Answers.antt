use Rattle.std.proofs.Common.{◌≡◌, ◌+◌, ◌++◌, [], ◌∷◌, drop, drop-drop, sym, ◌∙◌, ap, subst, arith}
use Rattle.std.proofs.lemmas.Result.{err_from_is_err_and}
use Rattle.cabal_lexer.specs.Opening.{lower_case, opening, within}
use Rattle.cabal_lexer.specs.Layout.{Fails, misfit, in_indented, in_enclosed, IsElement}
use Rattle.cabal_lexer.proofs.Blocks.{Leads, leads_more, leads_end}
use Rattle.cabal_lexer.proofs.Made.{made_section, made_braced_section, open_section, At-map}
use Rattle.cabal_lexer.proofs.elements.+layout.Goals as goal

pub read_braced_section-returns-in_err-items-clause-err : goal.read_braced_section-returns-in_err-items-clause-err
read_braced_section-returns-in_err-items-clause-err t c = λ bound braced e b.
    let p = err_from_is_err_and c.from_residual.result c.from_residual.ensures.1 in
    rw (p.1, p.2) (At-map _ (λ at cause f. in_enclosed c.args.line.now c.args.more.now e b f) c.in_err-items.ensures.cut)

pub read_braced_section-returns-then-count-more-clause-err : goal.read_braced_section-returns-then-count-more-clause-err
read_braced_section-returns-then-count-more-clause-err t c = λ bound braced e b. (
  c.args.line.now,
  c.number.ensures,
  open_section bound c.args.depth braced c.args.line.now c.args.more.now (lower_case c.args.heading.now.name.now) c.args.heading.now.args.now c.in_ok-items.items c.in_ok-items.count
      c.in_ok-items.ensures.cut (omega arith) e b,
)

pub read_braced_section-returns-clause-ok : goal.read_braced_section-returns-clause-ok
read_braced_section-returns-clause-ok t c = λ braced b.
    made_braced_section c.args.depth braced c.args.line.now c.args.more.now _ _ _ c.number-2.ensures (lower_case c.args.heading.now.name.now) c.args.heading.now.args.now c.in_ok-items.items c.in_ok-items.count
    c.in_ok-in_lower_case.ensures c.in_ok-from_str.ensures c.in_ok-items.ensures.cut (omega (arith, c.in_ok-items.ensures.taken)) b

pub read_section-returns-in_err-items-clause-err : goal.read_section-returns-in_err-items-clause-err
read_section-returns-in_err-items-clause-err t c = λ bound e b.
    let p = err_from_is_err_and c.from_residual.result c.from_residual.ensures.1 in
    rw (p.1, p.2) (At-map _ (λ at cause f. in_indented c.args.line.now c.args.more.now e b
    (subst (λ (n : _). Fails (n + 1) (c.args.depth + 1) c.args.braced c.args.more.now at cause) c.indent.ensures.value f)) c.in_err-items.ensures.cut)

pub read_section-returns-clause-ok : goal.read_section-returns-clause-ok
read_section-returns-clause-ok t c = λ b.
    made_section c.args.depth c.args.braced c.args.line.now c.args.more.now _ _ _ c.number.ensures (lower_case c.args.heading.now.name.now) c.args.heading.now.args.now c.in_ok-items.items c.indent.result _
    c.in_ok-in_lower_case.ensures c.in_ok-from_str.ensures c.indent.ensures.value c.in_ok-items.ensures.cut b

pub read_element-returns-in-Err-clause-err : goal.read_element-returns-in-Err-clause-err
read_element-returns-in-Err-clause-err t c = λ bound e.
    (c.args.line.now, c.number.ensures, misfit c.args.line.now c.args.more.now e (sym (c.in-Err.ensures.value ∙ ap (λ v. within c.args.depth (opening v)) c.text.ensures)))

pub read_items-loop-line-preserved : goal.read_items-loop-line-preserved
read_items-loop-line-preserved t c =
    let lines = c.args.lines.now in
    let at = c.loop-line.at in
    let line = c.in-Some.line.now in
    let item = c.in_ok-item.item in
    let inside = c.in-Some.ensures in
    let more = subst (λ v. Leads c.args.bound c.args.depth c.args.braced lines c.loop-line.items v) inside.1 c.loop-line.invariant.0 in
    let one = subst (λ v. IsElement c.args.depth c.args.braced line v item (drop c.in_ok-item.count v)) c.split_at.ensures.back c.in_ok-item.ensures.ok in
    let leads = leads_more c.args.bound c.args.depth c.args.braced lines c.loop-line.items line (drop (at + 1) lines) item (drop c.in_ok-item.count (drop (at + 1) lines)) more inside.2 one in
    let further : drop c.in_ok-item.count (drop (at + 1) lines) ≡ drop (at + (1 + c.in_ok-item.count)) lines =
    drop-drop c.in_ok-item.count (at + 1) lines ∙ ap (λ n. drop n lines) (omega arith) in (
      subst (λ v. Leads c.args.bound c.args.depth c.args.braced lines v (drop (at + (1 + c.in_ok-item.count)) lines)) (sym c.in_ok-push.ensures.ok)
          (subst (λ v. Leads c.args.bound c.args.depth c.args.braced lines (c.loop-line.items ++ item ∷ []) v) further leads),
      omega (arith, c.in_ok-item.ensures.taken, inside.0, c.split_at.ensures.back_len),
    )

pub read_items-returns-clause-cut : goal.read_items-returns-clause-cut
read_items-returns-clause-cut t c =
    leads_end c.args.bound c.args.depth c.args.braced c.args.lines.now c.loop-line.items _ c.loop-line.invariant.0 (c.in_default.ensures c.loop-line.invariant.1)
