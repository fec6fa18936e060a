use Rattle.std.proofs.Common.{◌≡◌, drop}
use Rattle.project_file.specs.Flags.{flag_sets}
use Rattle.project_file.proofs.Values.{after_flags}
use Rattle.project_file.proofs.flags.flag_sets.Given as goal

abbrev pub invariant-loop-word : goal.invariant-loop-word
invariant-loop-word l = flag_sets l.words ≡ after_flags l.flags (flag_sets (drop l.word-index l.words))
