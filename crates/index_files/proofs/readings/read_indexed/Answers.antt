use Rattle.std.proofs.Common.{◌≡◌, Err, refl, subst, sym}
use Rattle.plan_types.specs.declared.refusal.Halt.{Halt}
use Rattle.outside_folder.specs.Calls.{halt_of}
use Rattle.index_files.specs.Closure.{Ground, Reaches}
use Rattle.plan_types.specs.Refusal.{Answers}
use Rattle.index_files.specs.Readings.{AreIndexed, AreOverGround, AreRead}
use Rattle.index_files.proofs.Forms.{all-formed}
use Rattle.index_files.proofs.StepsInTurn.{err-passed, troubled}
use Rattle.common_laws.specs.Small.{if_some, some_at}
use Rattle.index_files.proofs.readings.read_indexed.Goals as goal

pub returns-in_err-found-clause-observed : goal.returns-in_err-found-clause-observed
returns-in_err-found-clause-observed g c = if_some _ _ (λ files t.
    let passed : c.from_residual-in_err-found.result ≡ Err (halt_of c.in_err-found.field-0.0) = err-passed c.from_residual-in_err-found.result c.from_residual-in_err-found.ensures.1 in
    let ground : Ground = record { env = c.args.env.now; places = c.args.places.now; locals = c.args.first.locals.list; units = c.args.first.counted.units; extra = c.args.extra.now } in
    let Is = AreIndexed ground c.args.first.counted.totals.files c.args.first.counted.totals.bytes files in
    subst (Answers Is) (sym passed) (troubled Is c.in_err-found.field-0.0))

pub returns-in_ok-too_many-in-None-clause-observed : goal.returns-in_ok-too_many-in-None-clause-observed
returns-in_ok-too_many-in-None-clause-observed g c = if_some _ _ (λ files t.
    let ground : Ground = record { env = c.args.env.now; places = c.args.places.now; locals = c.args.first.locals.list; units = c.args.first.counted.units; extra = c.args.extra.now } in
    let n = c.args.first.counted.totals.files in
    let m = c.args.first.counted.totals.bytes in
    let told = some_at _ _ files t c.in_ok-found.ensures.observed in
    let beyond = subst (Reaches ground n m files) c.in-None.is told in
    subst (λ (h : Halt). Answers (AreIndexed ground n m files) (Err h)) (sym c.in_ok-too_many-in-None.ensures) (record { beyond = beyond; refusal_is = refl }))

pub returns-in-Some-clause-observed : goal.returns-in-Some-clause-observed
returns-in-Some-clause-observed g c = if_some _ _ (λ files t.
    let ground : Ground = record { env = c.args.env.now; places = c.args.places.now; locals = c.args.first.locals.list; units = c.args.first.counted.units; extra = c.args.extra.now } in
    let n = c.args.first.counted.totals.files in
    let m = c.args.first.counted.totals.bytes in
    let told = some_at _ _ files t c.in_ok-found.ensures.observed in
    let whole = subst (Reaches ground n m files) c.in-Some.is told in
    subst (AreRead ground n m files) (sym c.readings_of.ensures) (record { locals = refl; units = refl; found = whole }))

pub returns-in-Some-clause-kept : goal.returns-in-Some-clause-kept
returns-in-Some-clause-kept g c =
    let ground : Ground = record { env = c.args.env.now; places = c.args.places.now; locals = c.args.first.locals.list; units = c.args.first.counted.units; extra = c.args.extra.now } in
    let kept = some_at _ _ _ c.in-Some.is c.in_ok-found.ensures.kept in
    subst (AreOverGround ground) (sym c.readings_of.ensures) (record { locals = refl; units = refl; units_formed = all-formed c.args.first.counted.units c.are_formed.ensures; kept = kept })
