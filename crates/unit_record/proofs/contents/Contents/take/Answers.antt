use Rattle.std.proofs.Common.{Some, None, ap, ◌∙◌}
use Rattle.unit_record.specs.declared.field.RecordSaid.TheVariants.{Name, Version, Id, Depends, LibName, Unread}
use Rattle.unit_record.proofs.Pushed.{goes}
use Rattle.unit_record.proofs.contents.Contents.take.Goals as goal

pub returns-in-Name-Some : goal.returns-in-Name-Some
returns-in-Name-Some c = goes c.args.self.now c.args.line (Name (Some c.in-Name-Some.name)) (c.in-Name-Some.is ∙ ap Name c.in-Name-Some.field-0-is)

pub returns-in-Version-Some : goal.returns-in-Version-Some
returns-in-Version-Some c = goes c.args.self.now c.args.line (Version (Some c.in-Version-Some.version)) (c.in-Version-Some.is ∙ ap Version c.in-Version-Some.field-0-is)

pub returns-in-Id-Some : goal.returns-in-Id-Some
returns-in-Id-Some c = goes c.args.self.now c.args.line (Id (Some c.in-Id-Some.id)) (c.in-Id-Some.is ∙ ap Id c.in-Id-Some.field-0-is)

pub returns-in_ok-append-in-Depends : goal.returns-in_ok-append-in-Depends
returns-in_ok-append-in-Depends c fields before =
    ap (λ d. record c.args.self.now { depends = d }) c.in_ok-append-in-Depends.ensures.ok ∙ goes c.args.self.now c.args.line (Depends c.in-Depends.ids) c.in-Depends.is fields before

pub returns-in-LibName : goal.returns-in-LibName
returns-in-LibName c = goes c.args.self.now c.args.line LibName c.in-LibName.is

pub returns-in-Unread : goal.returns-in-Unread
returns-in-Unread c = goes c.args.self.now c.args.line Unread c.in-Unread.is

pub returns-in-Name-None : goal.returns-in-Name-None
returns-in-Name-None c fields before =
    c.bad_at.ensures ∙ goes c.args.self.now c.args.line (Name None) (c.in-Name-None.is ∙ ap Name c.in-Name-None.field-0-is) fields before

pub returns-in-Version-None : goal.returns-in-Version-None
returns-in-Version-None c fields before =
    c.bad_at-in-Version-None.ensures ∙ goes c.args.self.now c.args.line (Version None) (c.in-Version-None.is ∙ ap Version c.in-Version-None.field-0-is) fields before

pub returns-in-Id-None : goal.returns-in-Id-None
returns-in-Id-None c fields before =
    c.bad_at-in-Id-None.ensures ∙ goes c.args.self.now c.args.line (Id None) (c.in-Id-None.is ∙ ap Id c.in-Id-None.field-0-is) fields before
