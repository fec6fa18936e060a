use Rattle.sound_description.proofs.Sound.{described_sound}
use Rattle.sound_description.proofs.laws.descriptions_are_sound.Goals as goal

pub returns : goal.returns
returns c items digest d describes = described_sound items digest d describes
