use Rattle.std.proofs.Common.{◌<◌, length, sym, ◌∙◌, ap, subst}
use Rattle.plan_types.specs.Bytes.{begins_with}
use Rattle.cabal_lexer.specs.Lines.{Line}
use Rattle.older_layout.proofs.Turns.{next-close, behind-shorter}
use Rattle.older_layout.proofs.relaid.push_closers.Goals as goal

pub loop-alloc-smaller : goal.loop-alloc-smaller
loop-alloc-smaller c =
    let rest = c.loop-alloc.rest in
    let closes = sym (c.loop-alloc-test.ensures ∙ ap (begins_with 125) (c.as_bytes.ensures.value ∙ c.text.ensures)) in
    subst (λ (v : Line). length v.text < length rest.text) (sym c.behind-rest.ensures) (behind-shorter rest closes)

pub loop-alloc-preserved : goal.loop-alloc-preserved
loop-alloc-preserved c =
    let rest = c.loop-alloc.rest in
    let closes = sym (c.loop-alloc-test.ensures ∙ ap (begins_with 125) (c.as_bytes.ensures.value ∙ c.text.ensures)) in
    let h = c.loop-alloc.invariant in
    rw c.closed-state.ensures (rw c.behind-rest.ensures (rw c.in_ok-push_close.ensures
    (next-close h.0 c.loop-alloc.state rest c.loop-alloc.found.items _ _ closes (behind-shorter rest closes) h.1)))
