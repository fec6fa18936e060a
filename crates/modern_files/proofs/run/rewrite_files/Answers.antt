use Rattle.std.proofs.Common.{◌≡◌, List, [], Ok, Err, ◌∙◌, refl, subst, sym}
use Rattle.common_laws.specs.Small.{if_some, some_at}
use Rattle.outside_folder.specs.Files.{Bytes}
use Rattle.plan_types.specs.Refusal.{Answers}
use Rattle.plan_types.specs.declared.refusal.Halt.{Halt}
use Rattle.modern_files.specs.Lists.{AreListed}
use Rattle.modern_files.specs.Output.{Writes, WritesFrames, none_read, no_room}
use Rattle.modern_files.specs.declared.status.Status.{Status}
use Rattle.modern_files.proofs.Steps.{frames-written, no-list, refusal-written, some-list, usage-written}
use Rattle.modern_files.proofs.run.rewrite_files.Goals as goal

pub returns-then-is_empty-clause-observed : goal.returns-then-is_empty-clause-observed
returns-then-is_empty-clause-observed g c = if_some _ _ (λ files t.
    let old = g.S.Sink.bytes c.args.out.now in
    let new = g.S.Sink.bytes c.print_usage.new.out in
    subst (λ (lists : List Bytes). Writes files lists old new c.print_usage.result) (sym (no-list c.args.lists.now c.if-is_empty.ensures))
    (usage-written files old new c.print_usage.result c.print_usage.ensures.usage))

pub returns-in-Ok-clause-observed : goal.returns-in-Ok-clause-observed
returns-in-Ok-clause-observed g c = if_some _ _ (λ files t.
    let lists = c.args.lists.now in
    let old = g.S.Sink.bytes c.args.out.now in
    let new = g.S.Sink.bytes c.write_frames.new.out in
    let listed : AreListed files lists (Ok c.in-Ok.paths) = some_at _ _ files t c.in-Ok.ensures.observed in
    let is = some_at _ _ files (c.read_lists.ensures.folder.same_files ∙ t) c.write_frames.ensures.observed in
    let wrote : WritesFrames files c.in-Ok.paths old new c.write_frames.result = subst (λ (paths : List Bytes). WritesFrames files paths old new c.write_frames.result) c.as_slice.ensures is in
    subst (λ (end : Status). Writes files lists old new end) (sym c.status_of.ensures)
    (frames-written files lists c.in-Ok.paths old new c.write_frames.result (some-list lists c.if-is_empty.ensures) listed wrote))

pub returns-in-Err-Refused-clause-observed : goal.returns-in-Err-Refused-clause-observed
returns-in-Err-Refused-clause-observed g c = if_some _ _ (λ files t.
    let lists = c.args.lists.now in
    let refusal = c.in-Err-Refused.refusal in
    let found = some_at _ _ files t c.in-Err-Refused.ensures.observed in
    let listed : AreListed files lists (Err refusal) = subst (λ (halt : Halt). Answers (AreListed files lists) (Err halt)) c.in-Err-Refused.field-0-is found in
    subst (λ (end : Status). Writes files lists (g.S.Sink.bytes c.args.out.now) (g.S.Sink.bytes c.write_refusal.new.out) end) (sym c.status_of-in-Err-Refused.ensures)
    (refusal-written files lists refusal _ _ c.write_refusal.result (some-list lists c.if-is_empty.ensures) listed c.write_refusal.ensures.text))

pub returns-in-Err-Failed-clause-observed : goal.returns-in-Err-Failed-clause-observed
returns-in-Err-Failed-clause-observed g c = if_some _ _ (λ files t. none_read refl)

pub returns-in-Err-NoMemory-clause-observed : goal.returns-in-Err-NoMemory-clause-observed
returns-in-Err-NoMemory-clause-observed g c = if_some _ _ (λ files t. no_room refl)
