use Rattle.std.proofs.Common.{Ok, refl}
use Rattle.index_assembly.specs.Folder.{IsFolderIndex}
use Rattle.index_files.proofs.StepsInTurn.{quiet}
use Rattle.common_laws.specs.Small.{if_some, some_at}
use Rattle.package_index.proofs.build.build_index.Goals as goal

pub returns-clause-observed : goal.returns-clause-observed
returns-clause-observed g c = if_some _ _ (λ files t.
    let made : IsFolderIndex c.args.env.now c.args.places.now c.args.extra.now c.args.locals.now files (Ok c.in_ok-index.index) =
    (Ok c.in_ok-readings.readings, some_at _ _ files t c.in_ok-readings.ensures.observed, (c.in_ok-index.index, c.in_ok-index.ensures, refl)) in
    made)

pub returns-clause-sound : goal.returns-clause-sound
returns-clause-sound g c =
    c.indexes_are_sound.ensures c.args.env.now c.args.places.now c.args.extra.now c.in_ok-readings.readings c.in_ok-index.index c.in_ok-readings.ensures.form c.requires c.in_ok-index.ensures

pub returns-clause-extra : goal.returns-clause-extra
returns-clause-extra g c =
    c.extras_are_there.ensures.has c.args.env.now c.args.places.now c.args.extra.now c.in_ok-readings.readings c.in_ok-index.index c.in_ok-readings.ensures.form c.in_ok-index.ensures

pub returns-clause-folder : goal.returns-clause-folder
returns-clause-folder g c = quiet _ _ _ _ (λ e. cc e) (λ e. cc e) c.in_ok-readings.ensures.folder
