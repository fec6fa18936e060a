-- A run that stops before its command prints nothing.
use Rattle.std.proofs.Common.{refl}
use Rattle.std.specs.Prelude.{Option, None, Some}
use Rattle.outside_folder.specs.Files.{Bytes, Files}
use Rattle.command_line.specs.declared.reading.Command.{Command}
use Rattle.command_line.specs.declared.reading.Command.TheVariants.{Freeze, Generate, Plan, Replay}
use Rattle.plan_command.specs.declared.status.Status.TheVariants as status
use Rattle.plan_command.specs.Run.{out_of_memory}
use Rattle.cabal_plan.specs.Run.{PrintsMeaning}

pub nothing_printed : (command : Option Command) (files : Files) (old : Option Bytes) → PrintsMeaning command files old old status.NoMemory
nothing_printed None files old = out_of_memory refl refl
nothing_printed (Some (Plan options)) files old = out_of_memory refl refl
nothing_printed (Some (Generate number limit)) files old = out_of_memory refl refl
nothing_printed (Some (Freeze options)) files old = out_of_memory refl refl
nothing_printed (Some (Replay options events slots)) files old = out_of_memory refl refl
