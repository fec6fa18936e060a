use Rattle.std.proofs.Common.{◌≡◌, List, [], ◌∷◌, ◌++◌, true, Ok, Err, ◌∙◌, refl, subst, sym}
use Rattle.outside_folder.proofs.CallSequences.{onward, still}
use Rattle.outside_folder.specs.Calls.{halt_of}
use Rattle.index_files.specs.File.{file_found}
use Rattle.index_files.specs.InTurn.{OnPart, Steps}
use Rattle.plan_types.specs.Refusal.{Answers}
use Rattle.index_files.specs.Locals.{AreLocals, FileComes, ReadsLocals, with_file}
use Rattle.index_files.specs.declared.file.ReadFile.{ReadFile}
use Rattle.index_files.specs.declared.local.Local.{Local}
use Rattle.index_files.specs.declared.locals.Locals.{Locals}
use Rattle.index_files.proofs.Forms.{locals-from-files}
use Rattle.index_files.proofs.KnownFiles.{all_known, map_take, split_known}
use Rattle.index_files.proofs.StepsInTurn.{Through, begun, err-passed, halted, more, never-passed, settled, troubled, whole}
use Rattle.common_laws.specs.Small.{if_some, some_at}
use Rattle.index_files.proofs.locals.read_locals.Goals as goal

pub loop-path-init : goal.loop-path-init
loop-path-init g c = record {
  taken = ([], subst (λ (ls : List Local). Through (FileComes c.args.env.now) with_file [] [] ls) (sym c.new-locals.ensures) (begun (FileComes c.args.env.now) with_file []), λ files t. refl);
  folder = still _ _ _ (λ never. never);
}

pub loop-path-preserved : goal.loop-path-preserved
loop-path-preserved g c =
    let env = c.args.env.now in
    let taken = c.loop-path.invariant.taken in record {
      taken = (
        taken.0 ++ c.in_ok-file.file ∷ [],
        more (FileComes env) with_file [] c.loop-path.locals.list c.in_ok-locals.locals.list taken.0 c.in_ok-file.file taken.1 c.in_ok-locals.ensures,
        λ files t.
            let found : c.in_ok-file.file ≡ file_found true files c.path-item.result = some_at _ _ files (c.loop-path.invariant.folder.same_files ∙ t) c.in_ok-file.ensures.observed in
            (λ i. taken.2 files t i ++ found i ∷ []) ∙ sym (map_take (file_found true files) c.args.paths.now c.loop-path.path-index c.path-item.result c.loop-path-test.true c.path-item.is),
      );
      folder = onward _ _ _ _ _ (λ never. absurd never) (λ e. cc e) c.loop-path.invariant.folder c.in_ok-file.ensures.folder;
    }

pub returns-in_err-file-clause-observed : goal.returns-in_err-file-clause-observed
returns-in_err-file-clause-observed g c = if_some _ _ (λ files t.
    let passed : c.from_residual.result ≡ Err (halt_of c.in_err-file.field-0.0) = err-passed c.from_residual.result c.from_residual.ensures.1 in
    let Is = OnPart (λ (l : Locals). l.list) (ReadsLocals c.args.env.now c.args.paths.now files) in
    subst (Answers Is) (sym passed) (troubled Is c.in_err-file.field-0.0))

pub returns-in_err-locals-clause-observed : goal.returns-in_err-locals-clause-observed
returns-in_err-locals-clause-observed g c = if_some _ _ (λ files t.
    let passed : c.from_residual-in_err-locals.result ≡ Err c.in_err-locals.field-0.0 = err-passed c.from_residual-in_err-locals.result c.from_residual-in_err-locals.ensures.1 in
    let env = c.args.env.now in
    let f = file_found true files in
    let taken = c.loop-path.invariant.taken in
    let all = split_known f c.args.paths.now c.loop-path.path-index c.path-item.result taken.0 c.in_ok-file.file c.loop-path-test.true c.path-item.is (taken.2 files t) (some_at _ _ files (c.loop-path.invariant.folder.same_files ∙ t) c.in_ok-file.ensures.observed) in
    let Is = OnPart (λ (l : Locals). l.list) (ReadsLocals env c.args.paths.now files) in
    subst (Answers Is) (sym passed)
    (settled Is (Err c.in_err-locals.field-0.0)
    (halted (FileComes env) with_file (λ (l : Locals). l.list) [] c.loop-path.locals.list taken.0 c.in_ok-file.file all.0 c.in_err-locals.field-0.0 all.1 taken.1 c.in_err-locals.ensures)))

pub returns-in_err-locals-clause-folder : goal.returns-in_err-locals-clause-folder
returns-in_err-locals-clause-folder g c =
    let passed : c.from_residual-in_err-locals.result ≡ Err c.in_err-locals.field-0.0 = err-passed c.from_residual-in_err-locals.result c.from_residual-in_err-locals.ensures.1 in
    let Is = OnPart (λ (l : Locals). l.list) (Steps (FileComes c.args.env.now) with_file c.loop-path.locals.list c.in_ok-file.file) in
    onward _ _ _ _ _ (λ e. absurd (never-passed Is c.in_err-locals.field-0.0 c.from_residual-in_err-locals.result c.in_err-locals.ensures passed e)) (λ e. absurd (cc e))
    c.loop-path.invariant.folder c.in_ok-file.ensures.folder

pub returns-clause-observed : goal.returns-clause-observed
returns-clause-observed g c = if_some _ _ (λ files t.
    let taken = c.loop-path.invariant.taken in
    let read = all_known (file_found true files) c.args.paths.now c.loop-path.path-index taken.0 c.loop-path-test.false (taken.2 files t) in
    subst (λ (fs : List ReadFile). AreLocals c.args.env.now fs (Ok c.loop-path.locals.list)) read (whole (FileComes c.args.env.now) with_file [] c.loop-path.locals.list taken.0 taken.1))

pub returns-clause-form : goal.returns-clause-form
returns-clause-form g c =
    let taken = c.loop-path.invariant.taken in
    locals-from-files c.args.env.now taken.0 c.loop-path.locals.list (whole (FileComes c.args.env.now) with_file [] c.loop-path.locals.list taken.0 taken.1)
