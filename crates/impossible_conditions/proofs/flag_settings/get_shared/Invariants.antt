use Rattle.impossible_conditions.proofs.flag_settings.get_shared.Given as goal

abbrev pub invariant-loop-map : goal.invariant-loop-map
invariant-loop-map l = Unit {0}
