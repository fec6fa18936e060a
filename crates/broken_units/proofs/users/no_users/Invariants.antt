use Rattle.std.proofs.Common.{◌≡◌, ℕ, [], length, get_or}
use Rattle.broken_units.proofs.users.no_users.Given as goal

abbrev pub invariant-loop : goal.invariant-loop
invariant-loop l = (length l.users.items ≡ l.counter) × ((v : ℕ) → get_or l.users.items v [] ≡ [])
