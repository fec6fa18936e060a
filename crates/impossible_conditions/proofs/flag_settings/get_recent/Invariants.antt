use Rattle.impossible_conditions.proofs.flag_settings.get_recent.Given as goal

abbrev pub invariant-loop-setting : goal.invariant-loop-setting
invariant-loop-setting l = Unit {0}
