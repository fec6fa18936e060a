use Rattle.index_files.specs.Locals.{local_name}
use Rattle.index_files.proofs.Joined.{put-new}
use Rattle.index_files.proofs.locals.Locals.with.Goals as goal

pub invariant_of-result : goal.invariant_of-result
invariant_of-result c = record { named = put-new local_name c.args.self.list c.args.local _ _ _ _ c.args.self.named c.requires c.in_ok-name.ensures c.in_ok-insert.ensures.keys c.in_ok-push.ensures.ok }
