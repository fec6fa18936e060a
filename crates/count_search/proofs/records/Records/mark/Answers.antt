-- the record at the variable's place says whether it is chosen
use Rattle.std.proofs.Common.{refl}
use Rattle.count_search.specs.Records.{marked}
use Rattle.count_search.proofs.Found.{put-mapped}
use Rattle.count_search.proofs.records.Records.mark.Goals as goal

pub returns-clause-is : goal.returns-clause-is
returns-clause-is c = put-mapped _ _ _ c.args.v _ c.in_ok-place.old _ (marked c.args.chosen) c.self.view_is c.in_ok-place.ensures refl (c.put_at.ensures c.args.v)
