use Rattle.std.proofs.Common.{◌≡◌, ◌+◌, List, [], ◌∷◌, ◌++◌, true, false, map, Err, ◌∙◌, ap, refl, subst, sym}
use Rattle.std.proofs.lemmas.Bool.{not-false, not-true}
use Rattle.outside_folder.proofs.CallSequences.{onward, still}
use Rattle.outside_folder.specs.Calls.{halt_of}
use Rattle.plan_types.specs.Refusal.{Answers}
use Rattle.plan_types.specs.declared.refusal.Halt.{Halt}
use Rattle.index_files.specs.File.{CountsAll, file_found}
use Rattle.index_files.specs.InTurn.{OnPart, Steps}
use Rattle.index_files.specs.Totals.{is_too_many}
use Rattle.index_files.specs.Units.{AreUnitsOf, RecordComes, with_record}
use Rattle.index_files.specs.declared.unit.Unit.{Unit}
use Rattle.index_files.specs.declared.units.Counted.{Counted}
use Rattle.index_files.proofs.Forms.{units-once}
use Rattle.index_files.proofs.KnownFiles.{all_known, map_take, split_known}
use Rattle.index_files.proofs.Recording.{bytes-on, counts-first, files-on, fit-first, fit-on, units-all, units-beyond, units-halted}
use Rattle.index_files.proofs.StepsInTurn.{Through, begun, err-passed, more, never-passed, troubled, whole}
use Rattle.common_laws.specs.Small.{if_some, some_at}
use Rattle.index_files.proofs.units.read_records.Goals as goal

pub loop-path-init : goal.loop-path-init
loop-path-init g c = record {
  taken = (
    [],
    subst (λ (us : List Unit). Through RecordComes with_record [] [] us) (sym c.new-units.ensures) (begun RecordComes with_record []),
    fit-first c.new-totals.result c.new-totals.ensures.files c.new-totals.ensures.bytes,
    counts-first c.new-totals.result c.new-totals.ensures.files c.new-totals.ensures.bytes,
    λ files t. refl,
  );
  folder = still _ _ _ (λ never. never);
}

pub loop-path-preserved : goal.loop-path-preserved
loop-path-preserved g c =
    let taken = c.loop-path.invariant.taken in
    let file = c.in_ok-file.file in
    let few : is_too_many (c.loop-path.totals.files + c.count.result) (c.loop-path.totals.bytes + c.size.result) ≡ false = not-true _ (sym c.if-not-count.ensures.fits) in
    let less = (λ i. is_too_many (c.loop-path.totals.files + sym c.count.ensures i) (c.loop-path.totals.bytes + sym c.size.ensures i)) ∙ few in
    let files_are = c.if-not-count.ensures.files ∙ ap (λ n. c.loop-path.totals.files + n) c.count.ensures in
    let bytes_are = c.if-not-count.ensures.bytes ∙ ap (λ n. c.loop-path.totals.bytes + n) c.size.ensures in
    record {
      taken = (
        taken.0 ++ file ∷ [],
        more RecordComes with_record [] c.loop-path.units c.in_ok-units.units taken.0 file taken.1 c.in_ok-units.ensures,
        fit-on taken.0 c.loop-path.totals _ _ file taken.2 less files_are bytes_are,
        record { files = files-on taken.0 c.loop-path.totals _ file taken.3 files_are; bytes = bytes-on taken.0 c.loop-path.totals _ file taken.3 bytes_are },
        λ files t.
            let found : file ≡ file_found true files c.path-item.result = some_at _ _ files (c.loop-path.invariant.folder.same_files ∙ t) c.in_ok-file.ensures.observed in
            (λ i. taken.4 files t i ++ found i ∷ []) ∙ sym (map_take (file_found true files) c.args.paths.now c.loop-path.path-index c.path-item.result c.loop-path-test.true c.path-item.is),
      );
      folder = onward _ _ _ _ _ (λ never. absurd never) (λ e. cc e) c.loop-path.invariant.folder c.in_ok-file.ensures.folder;
    }

pub returns-in_err-file-clause-observed : goal.returns-in_err-file-clause-observed
returns-in_err-file-clause-observed g c = if_some _ _ (λ files t.
    let passed : c.from_residual.result ≡ Err (halt_of c.in_err-file.field-0.0) = err-passed c.from_residual.result c.from_residual.ensures.1 in
    let Is = OnPart (λ (n : Counted). n.units) (AreUnitsOf c.args.places.now (map (file_found true files) c.args.paths.now)) in
    subst (Answers Is) (sym passed) (troubled Is c.in_err-file.field-0.0))

pub returns-then-not-count-clause-observed : goal.returns-then-not-count-clause-observed
returns-then-not-count-clause-observed g c = if_some _ _ (λ files t.
    let f = file_found true files in
    let taken = c.loop-path.invariant.taken in
    let all = split_known f c.args.paths.now c.loop-path.path-index c.path-item.result taken.0 c.in_ok-file.file c.loop-path-test.true c.path-item.is (taken.4 files t) (some_at _ _ files (c.loop-path.invariant.folder.same_files ∙ t) c.in_ok-file.ensures.observed) in
    let many = (λ i. is_too_many (c.loop-path.totals.files + sym c.count.ensures i) (c.loop-path.totals.bytes + sym c.size.ensures i)) ∙ not-false _ (sym c.if-not-count.ensures.fits) in
    let Is = OnPart (λ (n : Counted). n.units) (AreUnitsOf c.args.places.now (map f c.args.paths.now)) in
    subst (λ (h : Halt). Answers Is (Err h)) (sym c.in_ok-too_many.ensures)
    (units-beyond c.args.places.now (map f c.args.paths.now) taken.0 c.loop-path.units c.loop-path.totals taken.2 taken.1 c.in_ok-file.file all.0 all.1 many))

pub returns-in_err-units-clause-observed : goal.returns-in_err-units-clause-observed
returns-in_err-units-clause-observed g c = if_some _ _ (λ files t.
    let passed : c.from_residual-in_err-units.result ≡ Err c.in_err-units.field-0.0 = err-passed c.from_residual-in_err-units.result c.from_residual-in_err-units.ensures.1 in
    let f = file_found true files in
    let taken = c.loop-path.invariant.taken in
    let all = split_known f c.args.paths.now c.loop-path.path-index c.path-item.result taken.0 c.in_ok-file.file c.loop-path-test.true c.path-item.is (taken.4 files t) (some_at _ _ files (c.loop-path.invariant.folder.same_files ∙ t) c.in_ok-file.ensures.observed) in
    let less = (λ i. is_too_many (c.loop-path.totals.files + sym c.count.ensures i) (c.loop-path.totals.bytes + sym c.size.ensures i)) ∙ not-true _ (sym c.if-not-count.ensures.fits) in
    let Is = OnPart (λ (n : Counted). n.units) (AreUnitsOf c.args.places.now (map f c.args.paths.now)) in
    subst (Answers Is) (sym passed)
    (units-halted c.args.places.now (map f c.args.paths.now) taken.0 c.loop-path.units c.loop-path.totals taken.2 taken.1 c.in_ok-file.file all.0 all.1 less c.in_err-units.field-0.0 c.in_err-units.ensures))

pub returns-in_err-units-clause-folder : goal.returns-in_err-units-clause-folder
returns-in_err-units-clause-folder g c =
    let passed : c.from_residual-in_err-units.result ≡ Err c.in_err-units.field-0.0 = err-passed c.from_residual-in_err-units.result c.from_residual-in_err-units.ensures.1 in
    let Is = Steps RecordComes with_record c.loop-path.units c.in_ok-file.file in
    onward _ _ _ _ _ (λ e. absurd (never-passed Is c.in_err-units.field-0.0 c.from_residual-in_err-units.result c.in_err-units.ensures passed e)) (λ e. absurd (cc e))
    c.loop-path.invariant.folder c.in_ok-file.ensures.folder

pub returns-clause-observed : goal.returns-clause-observed
returns-clause-observed g c = if_some _ _ (λ files t.
    let f = file_found true files in
    let taken = c.loop-path.invariant.taken in
    let read = all_known f c.args.paths.now c.loop-path.path-index taken.0 c.loop-path-test.false (taken.4 files t) in
    units-all c.args.places.now (map f c.args.paths.now) taken.0 c.loop-path.units c.loop-path.totals taken.2 taken.1 read)

pub returns-clause-counts : goal.returns-clause-counts
returns-clause-counts g c = if_some _ _ (λ files t.
    let f = file_found true files in
    let taken = c.loop-path.invariant.taken in
    let read = all_known f c.args.paths.now c.loop-path.path-index taken.0 c.loop-path-test.false (taken.4 files t) in
    subst (CountsAll c.loop-path.totals) read taken.3)

pub returns-clause-once : goal.returns-clause-once
returns-clause-once g c =
    let taken = c.loop-path.invariant.taken in
    units-once taken.0 c.loop-path.units (whole RecordComes with_record [] c.loop-path.units taken.0 taken.1)
