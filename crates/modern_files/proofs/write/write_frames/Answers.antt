use Rattle.std.proofs.Common.{◌≡◌, ◌+◌, ◌++◌, Ok, Err, ◌∙◌, subst, sym}
use Rattle.common_laws.specs.Small.{if_some, some_at}
use Rattle.outside_folder.proofs.CallSequences.{onward}
use Rattle.modern_files.specs.Output.{WritesFrame, WritesFrames}
use Rattle.modern_files.proofs.Steps.{Appends-then, err-passed, frames-next, stopped}
use Rattle.modern_files.proofs.write.write_frames.Goals as goal

pub loop-path-preserved : goal.loop-path-preserved
loop-path-preserved g c = record {
  wrote = λ files t.
      let path = c.path-item.result in
      let so_far = c.loop-path.invariant.wrote files t in
      let more = some_at _ _ files (c.loop-path.invariant.folder.same_files ∙ t) c.in_ok-write_frame.ensures.observed in (
        so_far.0 ++ more.0,
        frames-next files c.args.paths.now c.loop-path.path-index path so_far.0 more.0 c.loop-path-test.true c.path-item.is so_far.1 more.1,
        Appends-then _ _ _ so_far.0 more.0 so_far.2 more.2,
      );
  folder = onward _ _ _ _ _ (λ never. absurd never) (λ e. cc e) c.loop-path.invariant.folder c.in_ok-write_frame.ensures.folder;
  still = c.in_ok-write_frame.ensures.sink.still (λ e. cc e) ∙ c.loop-path.invariant.still;
}

pub returns-in_err-write_frame-clause-observed : goal.returns-in_err-write_frame-clause-observed
returns-in_err-write_frame-clause-observed g c = if_some _ _ (λ files t.
    let path = c.path-item.result in
    let why = c.in_err-write_frame.field-0.0 in
    let passed : c.from_residual.result ≡ Err why = err-passed c.from_residual.result c.from_residual.ensures.1 in
    let is = some_at _ _ files (c.loop-path.invariant.folder.same_files ∙ t) c.in_err-write_frame.ensures.observed in
    subst (WritesFrames files c.args.paths.now _ _) (sym passed)
    (stopped files c.args.paths.now c.loop-path.path-index path _ _ _ why c.loop-path-test.true c.path-item.is (c.loop-path.invariant.wrote files t) is))
