use Rattle.std.proofs.Common.{◌≡◌, take}
use Rattle.std.specs.Prelude.{filter}
use Rattle.entry_text.specs.Words.{is_word}
use Rattle.entry_text.proofs.CommaCuts.{texts}
use Rattle.entry_text.proofs.word.only_words.Given as goal

abbrev pub invariant-loop-part : goal.invariant-loop-part
invariant-loop-part l = texts l.words.items ≡ filter is_word (texts (take l.part-index l.parts))
