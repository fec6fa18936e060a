use Rattle.std.proofs.Common.{length, ap, sym, ◌∙◌}
use Rattle.std.proofs.lemmas.Bool.{eqb-true, eq-eqb}
use Rattle.std.proofs.lemmas.List.{nil_from_length}
use Rattle.version_range.proofs.RisingEnds.{empty_when}
use Rattle.version_range.proofs.cuts.Cuts.is_empty.Goals as goal

pub returns : goal.returns
returns c =
    let ends = c.self.inside.ends in
    let w = empty_when ends.items c.self.invariant in
    rw (← c.self.view_is) (
      λ t. w.0 (nil_from_length ends.items (sym ends.ok.0 ∙ eqb-true ends.len 0 (sym c.is_empty.ensures ∙ t))),
      λ f. c.is_empty.ensures ∙ eq-eqb ends.len 0 (ends.ok.0 ∙ ap length (w.1 f)),
    )
