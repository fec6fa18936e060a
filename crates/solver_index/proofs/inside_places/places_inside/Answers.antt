use Rattle.std.proofs.Common.{ℕ, ◌++◌, length, ap, ◌∙◌}
use Rattle.std.specs.List.{filter}
use Rattle.version_range.specs.Cuts.{inside}
use Rattle.solver_index.specs.Blocks.{version_at}
use Rattle.solver_index.specs.Places.{between}
use Rattle.solver_index.proofs.Blocked.{releases-block, sources-fall, units-block}
use Rattle.solver_index.proofs.Segments.{halves-joined}
use Rattle.solver_index.proofs.inside_places.places_inside.Goals as goal

pub first_without-releases-requires-clause-falls : goal.first_without-releases-requires-clause-falls
first_without-releases-requires-clause-falls c = sources-fall c.args.entries.now c.requires.blocks

pub push_block-requires-clause-block : goal.push_block-requires-clause-block
push_block-requires-clause-block c =
    let first = c.first_without-releases.ensures in
    releases-block c.args.entries.now c.requires.blocks c.first_without-releases.result first.high first.front c.requires.numbers

pub push_block-requires-2-clause-block : goal.push_block-requires-2-clause-block
push_block-requires-2-clause-block c =
    let first = c.first_without-releases.ensures in
    units-block c.args.entries.now c.requires.blocks c.first_without-releases.result first.high first.rest c.requires.numbers

pub returns : goal.returns
returns c =
    let entries = c.args.entries.now in
    let test = λ (i : ℕ). inside c.args.cuts.now (version_at entries i) in
    let r = c.first_without-releases.result in
    c.in_ok-push_block-2.ensures ∙ ap (λ l. l ++ filter test (between r (length entries))) (c.in_ok-push_block.ensures ∙ ap (λ l. l ++ filter test (between 0 r)) c.new-found.ensures)
    ∙ halves-joined test (length entries) r c.first_without-releases.ensures.high
