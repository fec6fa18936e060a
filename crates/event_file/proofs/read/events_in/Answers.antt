use Rattle.std.proofs.Common.{◌≡◌, ◌≤◌, ℕ, List, Result, Ok, Err, length, refl, sym, subst, ap, arith}
use Rattle.std.specs.Str.Lines.{lines}
use Rattle.outside_folder.specs.Calls.{IsWithin}
use Rattle.outside_folder.specs.declared.calls.Content.{Content}
use Rattle.plan_types.specs.Refusal.{Settles, refusal_at}
use Rattle.plan_types.specs.declared.refusal.Cause.TheVariants.{BadEvent}
use Rattle.plan_types.specs.declared.refusal.Halt.{Halt}
use Rattle.plan_types.specs.declared.refusal.Refusal.{Refusal}
use Rattle.replay_text.specs.declared.event.JobEvent.{JobEvent}
use Rattle.replay_text.specs.Reading.{AreEvents, FirstBad, IsFirstBad}
use Rattle.event_file.specs.Events.{AreEventsIn}
use Rattle.event_file.proofs.read.events_in.Goals as goal

pub returns-in-Ok : goal.returns-in-Ok
returns-in-Ok c =
    let events = subst (λ (bytes : List ℕ). AreEvents (lines bytes) c.in-Ok.events) c.as_slice.ensures c.in-Ok.ensures.read in
    subst (λ (content : Content). AreEventsIn c.args.path.now content (Ok c.in-Ok.events)) (sym c.in-Bytes.is) (Ok c.in-Ok.events, events, refl)

pub bad_line-requires : goal.bad_line-requires
bad_line-requires c =
    let few = c.in-Err-Bad.ensures.within c.in-Err-Bad.line (ap Err c.in-Err-Bad.field-0-is) in
    let within = subst (λ (content : Content). IsWithin content) c.in-Bytes.is c.requires in
    let same = ap (λ (bytes : List ℕ). length bytes) c.as_slice.ensures in
    omega (arith, few, within, same)

pub returns-in_ok-bad_line-in-Err-Bad : goal.returns-in_ok-bad_line-in-Err-Bad
returns-in_ok-bad_line-in-Err-Bad c =
    let path = c.args.path.now in
    let bad = subst (FirstBad (lines c.as_slice.result.now)) c.in-Err-Bad.field-0-is c.in-Err-Bad.ensures.read in
    let first = subst (λ (bytes : List ℕ). IsFirstBad (lines bytes) c.in-Err-Bad.line) c.as_slice.ensures bad in
    subst (λ (halt : Halt). Settles {A = List JobEvent} (AreEventsIn path c.args.content.now) (Err halt)) (sym c.in_ok-bad_line-in-Err-Bad.ensures)
    (subst (λ (content : Content). AreEventsIn path content (Err (refusal_at path c.in-Err-Bad.line BadEvent))) (sym c.in-Bytes.is) (Err c.in-Err-Bad.line, first, refl))
