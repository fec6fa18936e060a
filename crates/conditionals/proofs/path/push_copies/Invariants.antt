use Rattle.std.proofs.Common.{◌≡◌, ◌++◌, drop, map}
use Rattle.conditionals.proofs.path.push_copies.Given as goal

abbrev pub invariant-loop-next : goal.invariant-loop-next
invariant-loop-next l = l.paths ++ map (λ next. l.path ++ next) (drop l.next-index l.nexts) ≡ l.fn.paths ++ map (λ next. l.path ++ next) l.nexts
