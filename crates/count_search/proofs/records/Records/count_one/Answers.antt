-- the record at the variable's place has one more set
use Rattle.std.proofs.Common.{ℕ, ap}
use Rattle.count_search.specs.declared.records.Met.{Met}
use Rattle.count_search.specs.Records.{with_one_more}
use Rattle.count_search.proofs.Found.{put-mapped}
use Rattle.count_search.proofs.records.Records.count_one.Goals as goal

pub returns-clause-is : goal.returns-clause-is
returns-clause-is c =
    let met : ℕ → Met = λ sets. record { sets = sets; chosen = c.in_ok-place.old.chosen } in
    put-mapped _ _ _ c.args.v _ c.in_ok-place.old (met c.saturating_add.result) with_one_more c.self.view_is c.in_ok-place.ensures (ap met c.saturating_add.ensures) (c.put_at.ensures c.args.v)
