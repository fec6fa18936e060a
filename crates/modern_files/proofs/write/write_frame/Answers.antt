use Rattle.std.proofs.Common.{◌≡◌, Ok, Err, ◌∙◌, ap, subst, sym}
use Rattle.common_laws.specs.Small.{if_some, some_at}
use Rattle.outside_folder.specs.Calls.{content_at}
use Rattle.outside_folder.specs.Sink.{Appends, AppendsPrefix}
use Rattle.outside_folder.specs.declared.calls.Content.{Content}
use Rattle.modern_files.specs.Frames.{IsFrame}
use Rattle.modern_files.specs.Output.{WritesFrame}
use Rattle.modern_files.specs.declared.status.Stop.TheVariants.{Unwritten}
use Rattle.modern_files.proofs.Steps.{err-passed}
use Rattle.modern_files.proofs.write.write_frame.Goals as goal

pub returns-in_err-write_all-clause-observed : goal.returns-in_err-write_all-clause-observed
returns-in_err-write_all-clause-observed g c = if_some _ _ (λ files t.
    let path = c.args.path.now in
    let found : c.in_ok-content.content ≡ content_at files path = some_at _ _ files t c.in_ok-content.ensures.observed ∙ ap (content_at files) c.as_str.ensures in
    let is : IsFrame path (content_at files path) c.in_ok-frame.frame = subst (λ (at : Content). IsFrame path at c.in_ok-frame.frame) found c.in_ok-frame.ensures in
    let passed : c.from_residual-in_err-write_all.result ≡ Err Unwritten = err-passed c.from_residual-in_err-write_all.result c.from_residual-in_err-write_all.ensures.1 in
    subst (WritesFrame files path _ _) (sym passed)
    (c.in_ok-frame.frame, is, subst (AppendsPrefix (g.S.Sink.bytes c.args.out.now) (g.S.Sink.bytes c.write_all.new.sink)) c.as_bytes.ensures c.in_err-write_all.ensures.err))

pub returns-clause-observed : goal.returns-clause-observed
returns-clause-observed g c = if_some _ _ (λ files t.
    let path = c.args.path.now in
    let found : c.in_ok-content.content ≡ content_at files path = some_at _ _ files t c.in_ok-content.ensures.observed ∙ ap (content_at files) c.as_str.ensures in
    let is : IsFrame path (content_at files path) c.in_ok-frame.frame = subst (λ (at : Content). IsFrame path at c.in_ok-frame.frame) found c.in_ok-frame.ensures in
    let written : WritesFrame files path (g.S.Sink.bytes c.args.out.now) (g.S.Sink.bytes c.write_all.new.sink) (Ok tt) =
    (c.in_ok-frame.frame, is, subst (Appends (g.S.Sink.bytes c.args.out.now) (g.S.Sink.bytes c.write_all.new.sink)) c.as_bytes.ensures c.in_ok-write_all.ensures.ok) in
    written)
