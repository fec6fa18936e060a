-- The output of words is that of their command.
use Rattle.std.proofs.Common.{◌≡◌, List, Option, sym, subst}
use Rattle.command_line.specs.declared.reading.Options.{Options}
use Rattle.plan_search.specs.declared.search.Picking.{Picking}
use Rattle.plan_command.specs.Asked.{picking_of}
use Rattle.plan_command.specs.Form.{form_of}
use Rattle.plan_command.specs.Meaning.{Means}
use Rattle.outside_folder.specs.Files.{Bytes, Files}
use Rattle.command_line.specs.Reading.{reading}
use Rattle.command_line.specs.declared.reading.Command.{Command}
use Rattle.plan_command.specs.declared.status.Status.{Status}
use Rattle.plan_command.specs.Run.{IsOutputOf, IsOutputOfCommand, MayPrint, Prints, Reads}

module _ (words : List Bytes) (command : Option Command) (read : reading words ≡ command) where
  -- the files read for words are those read for their command
  pub read-for : (tells : Option Files) (files : Files) → Reads (reading words) tells files → Reads command tells files
  read-for tells files h = subst (λ (c : Option Command). Reads c tells files) read h

  -- so is the output
  pub told-for : (files : Files) (old new : Option Bytes) (result : Status) → Prints (IsOutputOfCommand command files) old new result → Prints (IsOutputOf words files) old new result
  told-for files old new result h = subst (λ (c : Option Command). Prints (IsOutputOfCommand c files) old new result) (sym read) h

  -- the same over any folder
  pub text-for : (old new : Option Bytes) (result : Status) → Prints (MayPrint command) old new result → Prints (MayPrint (reading words)) old new result
  text-for old new result h = subst (λ (c : Option Command). Prints (MayPrint c) old new result) (sym read) h

-- the meaning of an output, with the picking of the options
pub picked-so : (options : Options) (picking : Picking) → picking_of options ≡ picking → (files : Files) (old new : Option Bytes) (result : Status)
    → Prints (Means (picking_of options) options.minimize (form_of options) options files) old new result → Prints (Means picking options.minimize (form_of options) options files) old new result
picked-so options picking e files old new result h = subst (λ (p : Picking). Prints (Means p options.minimize (form_of options) options files) old new result) e h
