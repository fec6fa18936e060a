use Rattle.version_range.specs.declared.print.Rest.TheVariants.{Close}
use Rattle.version_range.proofs.Printed.{opened, smaller_push}
use Rattle.version_range.proofs.print.open.Goals as goal

pub returns-clause-text : goal.returns-clause-text
returns-clause-text c = opened c.args.text.now c.push_str.new.self c.args.rests.now.items c.push.new.self.items c.in_ok-push_str.ensures.ok c.in_ok-push.ensures.items

pub returns-clause-smaller : goal.returns-clause-smaller
returns-clause-smaller c = λ range all. smaller_push range c.args.rests.now.items c.push.new.self.items Close c.in_ok-push.ensures.items tt all
