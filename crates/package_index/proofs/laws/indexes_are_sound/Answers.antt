use Rattle.package_index.proofs.Sound.{gathered-sound}
use Rattle.package_index.proofs.laws.indexes_are_sound.Goals as goal

pub returns : goal.returns
returns c env places extra readings index form formed made =
    gathered-sound extra readings index made env places form (record {
      sound = c.descriptions_are_sound.ensures;
      name = c.descriptions_are_well_formed.ensures.name;
      version = c.descriptions_are_well_formed.ensures.version;
      asked = c.descriptions_are_well_formed.ensures.asked;
    }) formed
