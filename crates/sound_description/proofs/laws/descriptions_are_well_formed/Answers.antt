use Rattle.sound_description.proofs.Sound.{name_formed, packages_formed, version_formed}
use Rattle.sound_description.proofs.laws.descriptions_are_well_formed.Goals as goal

pub returns-clause-name : goal.returns-clause-name
returns-clause-name c items digest d describes = name_formed items digest d describes

pub returns-clause-version : goal.returns-clause-version
returns-clause-version c items digest d describes = version_formed items digest d describes

pub returns-clause-asked : goal.returns-clause-asked
returns-clause-asked c items digest d describes = packages_formed items digest d describes
