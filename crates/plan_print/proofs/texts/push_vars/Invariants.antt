-- the variables so far
use Rattle.std.proofs.Common.{◌≡◌, ◌++◌, take}
use Rattle.std.specs.List.{flat_map}
use Rattle.plan_print.specs.Texts.{named_var}
use Rattle.plan_print.proofs.texts.push_vars.Given as goal

abbrev pub invariant-loop-var : goal.invariant-loop-var
invariant-loop-var l = l.text ≡ l.fn.text ++ flat_map (named_var l.names) (take l.var-index l.vars)
