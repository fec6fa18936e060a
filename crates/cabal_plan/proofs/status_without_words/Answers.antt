use Rattle.std.proofs.Common.{rules}
use Rattle.cabal_plan.proofs.status_without_words.Goals as goal

pub returns-else-eq : goal.returns-else-eq
returns-else-eq g c =
    let usage = c.print_usage.ensures in
    record {
      no_memory = search rules;
      no_text = λ other. (usage.status, usage.prints);
      writes = record { later = usage.sink; rose = usage.write_fault; still = usage.sink_unchanged };
    }
