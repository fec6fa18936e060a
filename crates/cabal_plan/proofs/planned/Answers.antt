-- `run` gets the given words
use Rattle.std.proofs.Common.{subst}
use Rattle.cabal_plan.specs.Run.{IsRunOver}
use Rattle.cabal_plan.specs.Taken.{sink_state}
use Rattle.cabal_plan.proofs.Meant.{meant}
use Rattle.cabal_plan.proofs.planned.Goals as goal

pub returns : goal.returns
returns g c =
    let run = c.run.ensures in
    subst (λ words. IsRunOver g.F.Folder.tells g.F.Folder.faults words c.args.folder.now c.run.new.folder (sink_state g.S.Sink.bytes g.S.Sink.faults c.args.out.now) (sink_state g.S.Sink.bytes g.S.Sink.faults c.run.new.out) c.run.result) c.as_slice.ensures
    (record {
      told = run.observed;
      means = meant c.as_slice.result.now (g.F.Folder.tells c.args.folder.now) (g.S.Sink.bytes c.args.out.now) (g.S.Sink.bytes c.run.new.out) c.run.result
          run.headline run.counting run.frozen run.replayed run.generated run.observed;
      one_text = run.one_text;
      in_order = run.in_order;
      usage_alone = run.usage;
      no_reading = λ none other. run.no_reading none;
      untouched = run.folder_untouched;
      reads = run.folder;
      writes = record { later = run.sink; rose = run.write_fault; still = run.sink_unchanged };
    })
