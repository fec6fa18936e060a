use Rattle.std.proofs.Common.{◌≡◌, ◌++◌, length}
use Rattle.std.specs.List.{All}
use Rattle.plan_types.specs.declared.range.Range.{size-Range}
use Rattle.version_range.specs.Print.{text_in, rests_text, IsSmaller}
use Rattle.version_range.proofs.print.+push_range.Given as goal

abbrev pub decreases-push_range : goal.decreases-push_range
decreases-push_range l = size-Range l.range.now

-- the text so far and the pending texts make the whole
abbrev pub invariant-loop-rest : goal.invariant-loop-rest
invariant-loop-rest l = record {
  text : l.text ++ rests_text l.rests.items ≡ l.fn.text ++ text_in l.range l.fn.place;
  smaller : All (IsSmaller l.range) l.rests.items;
}

abbrev pub decreases-loop-rest : goal.decreases-loop-rest
decreases-loop-rest l = length l.rests.items
