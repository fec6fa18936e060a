use Rattle.std.proofs.Common.{rules, refl, map, string_bytes}
use Rattle.std.specs.Vec.Iter.{into_iter_items}
use Rattle.command_line.specs.Reading.{reading}
use Rattle.plan_command.specs.Run.{out_of_memory}
use Rattle.cabal_plan.specs.Words.{words_of}
use Rattle.cabal_plan.proofs.Stopped.{nothing_printed}
use Rattle.cabal_plan.proofs.status_over.Goals as goal

pub returns-in-Err : goal.returns-in-Err
returns-in-Err g c = record {
  told = λ files reads. out_of_memory refl refl;
  means = λ files reads. nothing_printed (reading (words_of (map string_bytes (into_iter_items c.args.args)))) files (g.S.Sink.bytes c.args.out.now);
  one_text = out_of_memory refl refl;
  in_order = out_of_memory refl refl;
  usage_alone = search rules;
  no_reading = search rules;
  untouched = λ number limit is. (refl, search rules);
  reads = search rules;
  writes = search rules;
}
