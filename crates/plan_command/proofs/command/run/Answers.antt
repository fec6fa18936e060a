use Rattle.std.proofs.Common.{Some, None, sym, ap, ◌∙◌, if◌then◌else◌}
use Rattle.command_line.specs.Reading.{reading}
use Rattle.plan_search.specs.declared.search.Picking.TheVariants.{Least, MostMet}
use Rattle.plan_command.proofs.Buildable.{in-order}
use Rattle.plan_command.proofs.NoUsage.{no-usage}
use Rattle.plan_command.proofs.Words.{picked-so, read-for, text-for, told-for}
use Rattle.plan_command.proofs.command.run.Goals as goal

pub returns-in-Ok-clause-headline : goal.returns-in-Ok-clause-headline
returns-in-Ok-clause-headline g c = λ options files asked least t.
    picked-so options Least (ap (λ b. if b then MostMet else Least) least) files _ _ _ (c.perform.ensures.headline options files (cc (sym c.in-Ok.ensures.command ∙ asked)) t)

pub returns-in-Ok-clause-counting : goal.returns-in-Ok-clause-counting
returns-in-Ok-clause-counting g c = λ options files asked counting t.
    picked-so options MostMet (ap (λ b. if b then MostMet else Least) counting) files _ _ _ (c.perform.ensures.headline options files (cc (sym c.in-Ok.ensures.command ∙ asked)) t)

pub returns-in-Ok-clause-frozen : goal.returns-in-Ok-clause-frozen
returns-in-Ok-clause-frozen g c = λ options files asked t. c.perform.ensures.frozen options files (cc (sym c.in-Ok.ensures.command ∙ asked)) t

pub returns-in-Ok-clause-replayed : goal.returns-in-Ok-clause-replayed
returns-in-Ok-clause-replayed g c = λ options events slots files asked t. c.perform.ensures.replayed options events slots files (cc (sym c.in-Ok.ensures.command ∙ asked)) t

pub returns-in-Ok-clause-observed : goal.returns-in-Ok-clause-observed
returns-in-Ok-clause-observed g c = λ files read.
    let words = c.args.words.now in
    let command = Some c.in-Ok.command in
    told-for words command c.in-Ok.ensures.command files _ _ _
    (c.perform.ensures.observed files (read-for words command c.in-Ok.ensures.command (g.F.Folder.tells c.args.folder.now) files read))

pub returns-in-Err-Usage-clause-observed : goal.returns-in-Err-Usage-clause-observed
returns-in-Err-Usage-clause-observed g c = λ files read.
    told-for c.args.words.now None (c.in-Err-Usage.ensures.usage c.in-Err-Usage.field-0-is) files _ _ _ c.print_usage.ensures.prints

pub returns-in-Ok-clause-one_text : goal.returns-in-Ok-clause-one_text
returns-in-Ok-clause-one_text g c = text-for c.args.words.now (Some c.in-Ok.command) c.in-Ok.ensures.command _ _ _ c.perform.ensures.one_text

pub returns-in-Err-Usage-clause-one_text : goal.returns-in-Err-Usage-clause-one_text
returns-in-Err-Usage-clause-one_text g c = text-for c.args.words.now None (c.in-Err-Usage.ensures.usage c.in-Err-Usage.field-0-is) _ _ _ c.print_usage.ensures.prints

pub returns-in-Ok-clause-in_order : goal.returns-in-Ok-clause-in_order
returns-in-Ok-clause-in_order g c =
    in-order (reading c.args.words.now) _ _ _ (text-for c.args.words.now (Some c.in-Ok.command) c.in-Ok.ensures.command _ _ _ c.perform.ensures.one_text)

pub returns-in-Err-Usage-clause-in_order : goal.returns-in-Err-Usage-clause-in_order
returns-in-Err-Usage-clause-in_order g c =
    in-order (reading c.args.words.now) _ _ _ (text-for c.args.words.now None (c.in-Err-Usage.ensures.usage c.in-Err-Usage.field-0-is) _ _ _ c.print_usage.ensures.prints)

pub returns-in-Ok-clause-generated : goal.returns-in-Ok-clause-generated
returns-in-Ok-clause-generated g c = λ number limit asked. c.perform.ensures.generated number limit (cc (sym c.in-Ok.ensures.command ∙ asked))

pub returns-in-Ok-clause-folder_untouched : goal.returns-in-Ok-clause-folder_untouched
returns-in-Ok-clause-folder_untouched g c = λ number limit asked. c.perform.ensures.folder_untouched number limit (cc (sym c.in-Ok.ensures.command ∙ asked))

-- a command's output isn't the usage line
pub returns-in-Ok-clause-usage : goal.returns-in-Ok-clause-usage
returns-in-Ok-clause-usage g c = λ e. absurd (no-usage c.in-Ok.command _ _ _ c.perform.ensures.one_text e)
