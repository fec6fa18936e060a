use Rattle.std.proofs.Common.{◌≡◌, ◌++◌, map, string_bytes}
use Rattle.std.specs.Vec.Iter.{into_iter_items}
use Rattle.modern_headers.specs.Run.{words_of}
use Rattle.modern_headers.proofs.words_of.Given as goal

-- the words so far, and the rest
abbrev pub invariant-loop-word : goal.invariant-loop-word
invariant-loop-word l = l.words ++ map string_bytes (into_iter_items l.word-iterator) ≡ words_of (map string_bytes (into_iter_items l.fn.args))
