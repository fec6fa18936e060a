use Rattle.std.proofs.Common.{◌≡◌, List, map, Ok, Err, ◌∙◌, subst, sym}
use Rattle.index_files.specs.Closure.{Ground}
use Rattle.index_files.specs.InTurn.{OnPart}
use Rattle.plan_types.specs.Refusal.{Answers}
use Rattle.index_files.specs.Locals.{ReadsLocals}
use Rattle.index_files.specs.Readings.{AreFromFiles, AreIndexed, AreReadings}
use Rattle.index_files.specs.Steps.{AreKept}
use Rattle.index_files.specs.Units.{ReadsUnits, unit_ids}
use Rattle.std.specs.List.{IsDistinct}
use Rattle.index_files.specs.declared.closure.FoundName.{FoundName}
use Rattle.index_files.specs.declared.local.Local.{Local}
use Rattle.index_files.specs.declared.locals.Locals.{Locals}
use Rattle.index_files.specs.declared.units.Counted.{Counted}
use Rattle.index_files.specs.declared.unit.Unit.{Unit}
use Rattle.index_files.proofs.Ending.{locals-refused, then-indexed, then-refused}
use Rattle.index_files.proofs.StepsInTurn.{err-passed, refused-as}
use Rattle.plan_types.specs.Bytes.{same_text}
use Rattle.common_laws.specs.Small.{if_some, some_at}
use Rattle.index_files.proofs.readings.read_index_files.Goals as goal

pub returns-in_err-locals-clause-observed : goal.returns-in_err-locals-clause-observed
returns-in_err-locals-clause-observed g c = if_some _ _ (λ files t.
    let passed : c.from_residual.result ≡ Err c.in_err-locals.field-0.0 = err-passed c.from_residual.result c.from_residual.ensures.1 in
    let Was = AreReadings c.args.env.now c.args.places.now c.args.extra.now c.args.paths.now files in
    let told = some_at _ _ files t c.in_err-locals.ensures.observed in
    subst (Answers Was) (sym passed)
    (refused-as (OnPart (λ (l : Locals). l.list) (ReadsLocals c.args.env.now _ files)) Was c.in_err-locals.field-0.0
    (λ r h. locals-refused c.args.env.now c.args.places.now c.args.extra.now c.args.paths.now files r (subst (λ ps. ReadsLocals c.args.env.now ps files (Err r)) c.as_slice.ensures h)) told))

pub returns-in_err-read-clause-observed : goal.returns-in_err-read-clause-observed
returns-in_err-read-clause-observed g c = if_some _ _ (λ files t.
    let passed : c.from_residual-in_err-read.result ≡ Err c.in_err-read.field-0.0 = err-passed c.from_residual-in_err-read.result c.from_residual-in_err-read.ensures.1 in
    let Was = AreReadings c.args.env.now c.args.places.now c.args.extra.now c.args.paths.now files in
    let locals = subst (λ ps. ReadsLocals c.args.env.now ps files (Ok c.in_ok-locals.locals.list)) c.as_slice.ensures (some_at _ _ files t c.in_ok-locals.ensures.observed) in
    let told = some_at _ _ files (c.in_ok-locals.ensures.folder.same_files ∙ t) c.in_err-read.ensures.observed in
    subst (Answers Was) (sym passed)
    (refused-as (OnPart (λ (n : Counted). n.units) (ReadsUnits c.args.places.now files)) Was c.in_err-read.field-0.0
    (λ r h. then-refused c.args.env.now c.args.places.now c.args.extra.now c.args.paths.now files c.in_ok-locals.locals.list r locals h) told))

pub returns-in_err-readings-clause-observed : goal.returns-in_err-readings-clause-observed
returns-in_err-readings-clause-observed g c = if_some _ _ (λ files t.
    let passed : c.from_residual-in_err-readings.result ≡ Err c.in_err-readings.field-0.0 = err-passed c.from_residual-in_err-readings.result c.from_residual-in_err-readings.ensures.1 in
    let Was = AreReadings c.args.env.now c.args.places.now c.args.extra.now c.args.paths.now files in
    let locals = subst (λ ps. ReadsLocals c.args.env.now ps files (Ok c.in_ok-locals.locals.list)) c.as_slice.ensures (some_at _ _ files t c.in_ok-locals.ensures.observed) in
    let still = c.in_ok-locals.ensures.folder.same_files ∙ t in
    let units = some_at _ _ files still c.in_ok-read.ensures.observed in
    let counts = some_at _ _ files still c.in_ok-read.ensures.counts in
    let told = some_at _ _ files (c.in_ok-read.ensures.folder.same_files ∙ still) c.in_err-readings.ensures.observed in
    let ground : Ground = record { env = c.args.env.now; places = c.args.places.now; locals = c.in_ok-locals.locals.list; units = c.in_ok-read.read.units; extra = c.args.extra.now } in
    subst (Answers Was) (sym passed)
    (refused-as (AreIndexed ground c.in_ok-read.read.totals.files c.in_ok-read.read.totals.bytes files) Was c.in_err-readings.field-0.0
    (λ r h. then-indexed c.args.env.now c.args.places.now c.args.extra.now c.args.paths.now files c.in_ok-locals.locals.list c.in_ok-read.read.units c.in_ok-read.read.totals (Err r) locals units counts h) told))

pub returns-clause-observed : goal.returns-clause-observed
returns-clause-observed g c = if_some _ _ (λ files t.
    let locals = subst (λ ps. ReadsLocals c.args.env.now ps files (Ok c.in_ok-locals.locals.list)) c.as_slice.ensures (some_at _ _ files t c.in_ok-locals.ensures.observed) in
    let still = c.in_ok-locals.ensures.folder.same_files ∙ t in
    let units = some_at _ _ files still c.in_ok-read.ensures.observed in
    let counts = some_at _ _ files still c.in_ok-read.ensures.counts in
    let told = some_at _ _ files (c.in_ok-read.ensures.folder.same_files ∙ still) c.in_ok-readings.ensures.observed in
    then-indexed c.args.env.now c.args.places.now c.args.extra.now c.args.paths.now files c.in_ok-locals.locals.list c.in_ok-read.read.units c.in_ok-read.read.totals (Ok c.in_ok-readings.readings) locals units counts told)

pub returns-clause-form : goal.returns-clause-form
returns-clause-form g c =
    let of = c.in_ok-readings.ensures.kept in
    let found = c.in_ok-readings.readings.found in
    record {
      locals = subst (AreFromFiles c.args.env.now) (sym of.locals) c.in_ok-locals.ensures.form;
      units_once = subst (λ (us : List Unit). IsDistinct same_text (unit_ids us)) (sym of.units) c.in_ok-read.ensures.once;
      units_formed = of.units_formed;
      kept =
          subst (λ (ls : List Local). AreKept (record { env = c.args.env.now; places = c.args.places.now; locals = ls; units = c.in_ok-readings.readings.units; extra = c.args.extra.now }) (map (λ (f : FoundName). f.name) found) found) (sym of.locals)
          (subst (λ (us : List Unit). AreKept (record { env = c.args.env.now; places = c.args.places.now; locals = c.in_ok-locals.locals.list; units = us; extra = c.args.extra.now }) (map (λ (f : FoundName). f.name) found) found) (sym of.units) of.kept);
    }
