use Rattle.std.proofs.Common.{◌≡◌, ℕ, true, false, ◌<◌, length, ap, ◌∙◌, sym, arith}
use Rattle.std.proofs.lemmas.List.{get_or_read}
use Rattle.plan_types.specs.declared.index.Entry.{Entry}
use Rattle.version_range.specs.Cuts.{inside}
use Rattle.solver_index.specs.Blocks.{version_at}
use Rattle.solver_index.specs.Places.{no_entry}
use Rattle.solver_index.proofs.Segments.{segment-dropped, segment-empty, segment-kept}
use Rattle.solver_index.proofs.inside_places.push_segment.Goals as goal
use Rattle.solver_index.proofs.inside_places.push_segment.Goals.{else-first-last-via-then-first-last+else-has, else-first-last-via-else-first-last}

pub returns-in_ok-push_run : goal.returns-in_ok-push_run
returns-in_ok-push_run c =
    let entries = c.args.entries.now in
    let first = c.args.first in
    let test = λ (i : ℕ). inside c.args.cuts.now (version_at entries i) in
    let within : first < length entries = omega (arith, c.if-first-last.true, c.requires.high) in
    let here = get_or_read entries first c.index-entries-first.result within c.index-entries-first.is no_entry in
    let is : test first ≡ true = ap (λ (e : Entry). inside c.args.cuts.now e.instance.version) (sym here ∙ c.index-entries-first.is) ∙ sym c.has.ensures ∙ c.if-has.true in
    c.in_ok-push_run.ensures ∙ segment-kept test c.args.found.now first c.args.last c.requires.uniform is

pub returns-else-first-last : goal.returns-else-first-last
returns-else-first-last c =
    let entries = c.args.entries.now in
    let first = c.args.first in
    let test = λ (i : ℕ). inside c.args.cuts.now (version_at entries i) in
    elim c.else-first-last.branch [
      | else-first-last-via-then-first-last+else-has w ↦
          let within : first < length entries = omega (arith, w.if-first-last.true, c.requires.high) in
          let here = get_or_read entries first w.index-entries-first.result within w.index-entries-first.is no_entry in
          let is : test first ≡ false = ap (λ (e : Entry). inside c.args.cuts.now e.instance.version) (sym here ∙ w.index-entries-first.is) ∙ sym w.has.ensures ∙ w.if-has.false in
          segment-dropped test c.args.found.now first c.args.last c.requires.uniform is
      | else-first-last-via-else-first-last w ↦ segment-empty test c.args.found.now first c.args.last w.if-first-last.false
    ]
