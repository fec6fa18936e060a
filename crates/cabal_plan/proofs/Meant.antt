-- The clauses on each command's output, and what the words' command means.
use Rattle.std.proofs.Common.{◌≡◌, ℕ, Bool, true, false, List, sym, subst, refl}
use Rattle.std.specs.Prelude.{Option, None, Some, if◌then◌else◌}
use Rattle.outside_folder.specs.Files.{Bytes, Files}
use Rattle.plan_types.specs.declared.limit.Limit.{Limit}
use Rattle.command_line.specs.Reading.{reading}
use Rattle.command_line.specs.declared.reading.Command.{Command}
use Rattle.command_line.specs.declared.reading.Command.TheVariants.{Freeze, Generate, Plan, Replay}
use Rattle.command_line.specs.declared.reading.Options.{Options}
use Rattle.plan_search.specs.declared.search.Picking.TheVariants.{Least, MostMet}
use Rattle.plan_command.specs.declared.status.Status.{Status}
use Rattle.plan_command.specs.Form.{form_of}
use Rattle.plan_command.specs.Meaning.{Means, MeansFreeze, MeansGenerated, MeansReplay}
use Rattle.plan_command.specs.Run.{IsOutputOf, IsOutputOfCommand, Prints, Reads}
use Rattle.cabal_plan.specs.Run.{PrintsMeaning}

module _ (words : List Bytes) (tells : Option Files) (old new : Option Bytes) (end : Status)
    (headline : (options : Options) (files : Files) → reading words ≡ Some (Plan options) → options.count_conflicts ≡ false → tells ≡ Some files
    → Prints (Means Least options.minimize (form_of options) options files) old new end)
    (counting : (options : Options) (files : Files) → reading words ≡ Some (Plan options) → options.count_conflicts ≡ true → tells ≡ Some files
    → Prints (Means MostMet options.minimize (form_of options) options files) old new end)
    (frozen : (options : Options) (files : Files) → reading words ≡ Some (Freeze options) → tells ≡ Some files → Prints (MeansFreeze options files) old new end)
    (replayed : (options : Options) (events : Bytes) (slots : ℕ) (files : Files) → reading words ≡ Some (Replay options events slots) → tells ≡ Some files
    → Prints (MeansReplay options events slots files) old new end)
    (generated : (number : ℕ) (limit : Limit) → reading words ≡ Some (Generate number limit) → Prints (MeansGenerated number limit) old new end)
    (observed : (files : Files) → Reads (reading words) tells files → Prints (IsOutputOf words files) old new end) where
  -- the search takes the least goal, or counts conflicts, as the options say
  planned : (options : Options) (files : Files) → reading words ≡ Some (Plan options) → tells ≡ Some files → (counts : Bool) → options.count_conflicts ≡ counts
      → Prints (Means (if counts then MostMet else Least) options.minimize (form_of options) options files) old new end
  planned options files is told true counts = counting options files is counts told
  planned options files is told false counts = headline options files is counts told

  by_command : (command : Option Command) → reading words ≡ command → (files : Files) → Reads command tells files → PrintsMeaning command files old new end
  by_command None is files reads =
      subst (λ c. Prints (IsOutputOfCommand c files) old new end) is (observed files (subst (λ c. Reads c tells files) (sym is) reads))
  by_command (Some (Plan options)) is files reads = planned options files is reads options.count_conflicts refl
  by_command (Some (Generate number limit)) is files reads = generated number limit is
  by_command (Some (Freeze options)) is files reads = frozen options files is reads
  by_command (Some (Replay options events slots)) is files reads = replayed options events slots files is reads

  pub meant : (files : Files) → Reads (reading words) tells files → PrintsMeaning (reading words) files old new end
  meant = by_command (reading words) refl
