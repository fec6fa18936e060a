use Rattle.std.proofs.Common.{◌≡◌, ◌+◌, [], Err, sym, subst, ap, ◌∙◌, arith}
use Rattle.std.specs.Prelude.{MatchResult}
use Rattle.std.specs.Str.Lines.{lines}
use Rattle.std.proofs.lemmas.Result.{err_from_is_err_and}
use Rattle.replay_text.specs.Reading.{AreEvents, FirstBad, none}
use Rattle.replay_text.specs.declared.event.EventsFault.TheVariants.{Bad}
use Rattle.replay_text.proofs.Goes.{append-nil, bad_here, bad_later, bad_number, goes_more}
use Rattle.replay_text.proofs.read.read_events.Goals as goal

pub returns-in_err-add_event-clause-read : goal.returns-in_err-add_event-clause-read
returns-in_err-add_event-clause-read c =
    let p = err_from_is_err_and c.from_residual.result c.from_residual.ensures.1 in
    let e : c.from_residual.result ≡ Err c.in_err-add_event.field-0.0 = p.1 ∙ ap Err p.2 in
    subst (λ r. MatchResult r (AreEvents (lines c.args.bytes.now)) (FirstBad (lines c.args.bytes.now))) (sym e)
    (bad_here (lines c.args.bytes.now) (lines c.loop-line.rest.now) (lines c.in-Some.more.now) c.in-Some.line.now c.loop-line.number c.in_err-add_event.field-0.0
    c.in-Some.ensures.0 c.loop-line.invariant.bad c.in_err-add_event.ensures.err)

pub returns-in_err-add_event-clause-within : goal.returns-in_err-add_event-clause-within
returns-in_err-add_event-clause-within c number is =
    let p = err_from_is_err_and c.from_residual.result c.from_residual.ensures.1 in
    let e : c.from_residual.result ≡ Err c.in_err-add_event.field-0.0 = p.1 ∙ ap Err p.2 in
    let fault : c.in_err-add_event.field-0.0 ≡ Bad number = cc (sym e ∙ is) in
    let told = bad_number (c.loop-line.number + 1) c.in_err-add_event.field-0.0 c.in-Some.line.now number c.in_err-add_event.ensures.err fault in
    let few = c.loop-line.invariant.few in
    let less = c.in-Some.ensures.1 in
    omega (arith, told, few, less)

pub loop-line-preserved : goal.loop-line-preserved
loop-line-preserved c =
    let inv = c.loop-line.invariant in
    let a = c.in_ok-add_event.ensures.ok in
    let split = c.in-Some.ensures.0 in
    let less = c.in-Some.ensures.1 in
    let few = inv.few in
    record {
      goes = λ more h. goes_more (lines c.args.bytes.now) (lines c.loop-line.rest.now) (lines c.in-Some.more.now) c.in-Some.line.now c.loop-line.events c.add_event.new.events split a inv.goes more h;
      bad = λ n h. bad_later (lines c.args.bytes.now) (lines c.loop-line.rest.now) (lines c.in-Some.more.now) c.in-Some.line.now c.loop-line.number c.loop-line.events c.add_event.new.events split a inv.bad n h;
      few = omega (arith, few, less);
    }

pub returns-clause-read : goal.returns-clause-read
returns-clause-read c =
    subst (λ events. AreEvents (lines c.args.bytes.now) events) (append-nil c.loop-line.events)
    (c.loop-line.invariant.goes [] (subst (λ l. AreEvents l []) (sym c.in_default.ensures) none))
