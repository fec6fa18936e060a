use Rattle.plan_search.proofs.Right.{found-right}
use Rattle.plan_search.proofs.laws.what_is_found_is_right.Goals as goal

pub returns : goal.returns
returns c = found-right c.ends_right.ensures c.ends_valid.ensures c.limit_only_gives_up.ensures c.valid_as_whole.ensures c.problem_is_lawful.ensures
