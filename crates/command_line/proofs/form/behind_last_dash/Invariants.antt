use Rattle.std.proofs.Common.{◌≡◌, ◌≤◌, ◌+◌, length, take, not}
use Rattle.std.specs.Prelude.{◌==◌}
use Rattle.std.specs.List.{suffix_len}
use Rattle.command_line.proofs.form.behind_last_dash.Given as goal

-- the bytes after the place have no `-`
abbrev pub invariant-loop-place : goal.invariant-loop-place
invariant-loop-place l = record {
  within : l.place ≤ length l.text;
  passed : l.place + suffix_len (λ b. not (b == 45)) l.text ≡ length l.text + suffix_len (λ b. not (b == 45)) (take l.place l.text);
}

abbrev pub decreases-loop-place : goal.decreases-loop-place
decreases-loop-place l = l.place
