use Rattle.std.proofs.Common.{◌≡◌, ◌≤◌, ◌++◌}
use Rattle.std.specs.List.{All}
use Rattle.plan_types.specs.declared.range.Range.{size-Range}
use Rattle.version_range.specs.Print.{text_in, rests_text, IsSmaller}
use Rattle.version_range.proofs.print.push_left.Given as goal

-- the text so far, the rest and the pending texts make the whole
abbrev pub invariant-loop-left : goal.invariant-loop-left
invariant-loop-left l = record {
  text : (l.text ++ text_in l.left l.at) ++ rests_text l.rests.items ≡ l.fn.text ++ text_in l.range l.fn.place;
  inside : size-Range l.left ≤ size-Range l.range;
  smaller : All (IsSmaller l.range) l.rests.items;
}
