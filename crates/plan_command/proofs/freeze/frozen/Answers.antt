use Rattle.plan_command.proofs.freeze.frozen.Goals as goal

pub planned-requires : goal.planned-requires
planned-requires c = record { sound = c.requires.sound; there = c.requires.there; marked = c.requires.marked }
