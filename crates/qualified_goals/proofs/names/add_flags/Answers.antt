use Rattle.plan_types.specs.declared.description.FlagDecl.{FlagDecl}
use Rattle.qualified_goals.proofs.NameNumbers.{put-one}
use Rattle.qualified_goals.proofs.names.add_flags.Goals as goal

pub loop-flag-preserved : goal.loop-flag-preserved
loop-flag-preserved c = put-one (λ (f : FlagDecl). f.name) c.args.names.now.keys c.args.flags.now c.loop-flag.flag-index c.flag-item.result c.loop-flag.names.keys c.insert.new.self.keys c.in_ok-copy.field-0 c.loop-flag-test.true c.flag-item.is c.in_ok-copy.ensures c.loop-flag.invariant c.in_ok-insert.ensures.keys
