use Rattle.frozen_plan.proofs.FoundAgain.{found-again}
use Rattle.frozen_plan.proofs.laws.found_again.Goals as goal

pub returns : goal.returns
returns c =
    found-again c.ends_right.ensures c.one_first.ensures c.general_is_lawful.ensures c.valid_as_whole.ensures c.problem_is_lawful.ensures c.frozen_bars_none.ensures
