-- the flags so far
use Rattle.std.proofs.Common.{◌≡◌, ◌++◌, map, take}
use Rattle.plan_components.specs.Chosen.{chosen_flag, selection_of}
use Rattle.plan_components.proofs.chosen.Chosen.push_flags.Given as goal

abbrev pub invariant-loop-decl : goal.invariant-loop-decl
invariant-loop-decl l = l.flags ≡ l.fn.flags ++ map (chosen_flag (selection_of l.self) l.qual l.«package») (take l.decl-index l.decls)
