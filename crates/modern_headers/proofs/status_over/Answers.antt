-- out of memory, with nothing written
use Rattle.std.proofs.Common.{refl, arith}
use Rattle.outside_folder.proofs.CallSequences.{still}
use Rattle.modern_files.specs.Output.{no_room}
use Rattle.modern_headers.proofs.status_over.Goals as goal

pub returns-in-Err : goal.returns-in-Err
returns-in-Err g c = record {
  writes = λ files t. no_room refl;
  usage_alone = λ e. absurd (cc e);
  reads = still _ _ _ (λ e. absurd (cc e));
  counted = record { later = omega arith; rose = λ e. absurd (cc e); still = λ never. refl };
}
