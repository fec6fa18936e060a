use Rattle.std.proofs.Common.{◌≡◌, List, Ok, Err, true, map, ◌∙◌, subst, sym}
use Rattle.outside_folder.specs.Calls.{halt_of}
use Rattle.outside_folder.specs.Files.{Bytes}
use Rattle.index_files.specs.File.{CountsAll, file_found}
use Rattle.index_files.specs.InTurn.{OnPart}
use Rattle.plan_types.specs.Refusal.{Answers}
use Rattle.index_files.specs.Units.{AreUnitsOf, ReadsUnits}
use Rattle.index_files.specs.declared.units.Counted.{Counted}
use Rattle.index_files.proofs.StepsInTurn.{err-passed, troubled}
use Rattle.common_laws.specs.Small.{if_some, some_at}
use Rattle.index_files.proofs.readings.read_units.Goals as goal

pub returns-in_err-paths-clause-observed : goal.returns-in_err-paths-clause-observed
returns-in_err-paths-clause-observed g c = if_some _ _ (λ files t.
    let passed : c.from_residual.result ≡ Err (halt_of c.in_err-paths.field-0.0) = err-passed c.from_residual.result c.from_residual.ensures.1 in
    let Is = OnPart (λ (n : Counted). n.units) (ReadsUnits c.args.places.now files) in
    subst (Answers Is) (sym passed) (troubled Is c.in_err-paths.field-0.0))

pub returns-in_err-counted-clause-observed : goal.returns-in_err-counted-clause-observed
returns-in_err-counted-clause-observed g c = if_some _ _ (λ files t.
    let passed : c.from_residual-in_err-counted.result ≡ Err c.in_err-counted.field-0.0 = err-passed c.from_residual-in_err-counted.result c.from_residual-in_err-counted.ensures.1 in
    let paths = c.as_slice.ensures ∙ some_at _ _ files t c.in_ok-paths.ensures.observed in
    let told = some_at _ _ files (c.in_ok-paths.ensures.folder.same_files ∙ t) c.in_err-counted.ensures.observed in
    subst (Answers (OnPart (λ (n : Counted). n.units) (ReadsUnits c.args.places.now files))) (sym passed)
    (subst (λ (ps : List Bytes). Answers (OnPart (λ (n : Counted). n.units) (AreUnitsOf c.args.places.now (map (file_found true files) ps))) (Err c.in_err-counted.field-0.0)) paths told))

pub returns-clause-observed : goal.returns-clause-observed
returns-clause-observed g c = if_some _ _ (λ files t.
    let paths = c.as_slice.ensures ∙ some_at _ _ files t c.in_ok-paths.ensures.observed in
    let told = some_at _ _ files (c.in_ok-paths.ensures.folder.same_files ∙ t) c.in_ok-counted.ensures.observed in
    subst (λ (ps : List Bytes). AreUnitsOf c.args.places.now (map (file_found true files) ps) (Ok c.in_ok-counted.counted.units)) paths told)

pub returns-clause-counts : goal.returns-clause-counts
returns-clause-counts g c = if_some _ _ (λ files t.
    let paths = c.as_slice.ensures ∙ some_at _ _ files t c.in_ok-paths.ensures.observed in
    let counts = some_at _ _ files (c.in_ok-paths.ensures.folder.same_files ∙ t) c.in_ok-counted.ensures.counts in
    subst (λ (ps : List Bytes). CountsAll c.in_ok-counted.counted.totals (map (file_found true files) ps)) paths counts)
