use Rattle.std.proofs.Common.{◌++◌, ap, ◌∙◌, append_assoc, codes, Some}
use Rattle.std.proofs.lemmas.List.Elements.{All-pop}
use Rattle.version_range.specs.declared.print.RangePlace.TheVariants.{Term, Factor}
use Rattle.version_range.specs.declared.print.Rest.TheVariants.{Close, And, Or}
use Rattle.version_range.specs.Print.{text_in, IsSmaller}
use Rattle.version_range.proofs.Printed.{taken_up, popped}
use Rattle.version_range.proofs.print.+push_range.Goals as goal

pub loop-rest-preserved-in-Continue-branch-2 : goal.loop-rest-preserved-in-Continue-branch-2
loop-rest-preserved-in-Continue-branch-2 t c =
    let at = popped c.loop-rest.rests.items c.pop.new.self.items c.in-Some.rest Close c.in-Some.ensures.items c.in-Close.is in
    record {
      text = taken_up _ c.loop-rest.text c.push_str.new.self c.loop-rest.rests.items c.pop.new.self.items (Close) at c.loop-rest.invariant.text c.in_ok-push_str-in-Close.ensures.ok;
      smaller = (All-pop (IsSmaller c.args.range.now) c.loop-rest.rests.items c.pop.new.self.items (Some c.in-Some.rest) c.in-Some.ensures.items c.loop-rest.invariant.smaller).0;
    }

pub loop-rest-preserved-in-Continue-branch-4 : goal.loop-rest-preserved-in-Continue-branch-4
loop-rest-preserved-in-Continue-branch-4 t c =
    let at = popped c.loop-rest.rests.items c.pop.new.self.items c.in-Some.rest (And c.in-And.right) c.in-Some.ensures.items c.in-And.is in
    record {
      text = taken_up _ c.loop-rest.text c.push_range.new.text c.loop-rest.rests.items c.pop.new.self.items (And c.in-And.right) at c.loop-rest.invariant.text (c.in_ok-push_range-in-And.ensures ∙ ap (λ t. t ++ text_in c.in-And.right.now Factor) c.in_ok-push_str-in-And.ensures.ok ∙ append_assoc c.loop-rest.text (codes " && ") (text_in c.in-And.right.now Factor));
      smaller = (All-pop (IsSmaller c.args.range.now) c.loop-rest.rests.items c.pop.new.self.items (Some c.in-Some.rest) c.in-Some.ensures.items c.loop-rest.invariant.smaller).0;
    }

pub loop-rest-preserved : goal.loop-rest-preserved
loop-rest-preserved t c =
    let at = popped c.loop-rest.rests.items c.pop.new.self.items c.in-Some.rest (Or c.in-Or.right) c.in-Some.ensures.items c.in-Or.is in
    record {
      text = taken_up _ c.loop-rest.text c.push_range-in-Or.new.text c.loop-rest.rests.items c.pop.new.self.items (Or c.in-Or.right) at c.loop-rest.invariant.text (c.in_ok-push_range-in-Or.ensures ∙ ap (λ t. t ++ text_in c.in-Or.right.now Term) c.in_ok-push_str-in-Or.ensures.ok ∙ append_assoc c.loop-rest.text (codes " || ") (text_in c.in-Or.right.now Term));
      smaller = (All-pop (IsSmaller c.args.range.now) c.loop-rest.rests.items c.pop.new.self.items (Some c.in-Some.rest) c.in-Some.ensures.items c.loop-rest.invariant.smaller).0;
    }
