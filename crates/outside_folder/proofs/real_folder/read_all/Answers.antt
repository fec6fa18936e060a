use Rattle.std.proofs.Common.{◌≡◌, ◌<◌, [], ◌∷◌, ◌++◌, length, take, sym, ap, ◌∙◌, arith, length-append}
use Rattle.outside_folder.proofs.Reading.{GivesPieces-more, joined-more, stopped}
use Rattle.outside_folder.proofs.real_folder.read_all.Goals as goal

pub loop-buffer-smaller : goal.loop-buffer-smaller
loop-buffer-smaller g c =
    let bound = c.in-Ok.ensures.bound in
    let test = c.in-Ok.count-test in
    let small = c.loop-buffer-test.true in
    let more = ap length c.in_ok-add_piece-in-Ok.ensures in
    let len = length-append c.loop-buffer.bytes.items (take c.in-Ok.count c.read_some.new.buffer) in
    omega (arith, bound.0, bound.1, test, small, len, more)

pub loop-buffer-preserved : goal.loop-buffer-preserved
loop-buffer-preserved g c =
    let so_far = c.loop-buffer.invariant.given in
    let piece = take c.in-Ok.count c.read_some.new.buffer in
    let some : 0 < length piece = let bound = c.in-Ok.ensures.bound in let test = c.in-Ok.count-test in omega (arith, bound.0, bound.1, test) in
    record {
      given = (
        so_far.0 ++ piece ∷ [],
        GivesPieces-more (g.S.SystemCalls.gives c.args.system.now) c.args.file so_far.0 c.loop-buffer.file piece c.read_some.new.file so_far.1 c.in-Ok.ensures.observed some,
        c.in_ok-add_piece-in-Ok.ensures ∙ ap (λ front. front ++ piece) so_far.2 ∙ sym (joined-more so_far.0 piece),
      );
      still = c.loop-buffer.invariant.still;
    }

pub returns-in-Err-clause-observed : goal.returns-in-Err-clause-observed
returns-in-Err-clause-observed g c =
    let so_far = c.loop-buffer.invariant.given in
    stopped (g.S.SystemCalls.gives c.args.system.now) c.args.path.now c.args.file so_far.0 c.loop-buffer.file c.in-Err.error c.read_some.new.file c.unread.result
    so_far.1 c.in-Err.ensures.observed c.unread.ensures.observed c.unread.ensures.never_read c.unread.ensures.never_too_large
