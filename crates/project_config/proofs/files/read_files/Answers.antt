use Rattle.std.proofs.Common.{◌≡◌, false, [], ◌∷◌, ◌++◌, Option, None, Ok, Err, refl, ap, subst, sym, ◌∙◌}
use Rattle.std.proofs.lemmas.List.{nil_from_length}
use Rattle.std.proofs.lemmas.Result.{err_from_is_err_and}
use Rattle.outside_folder.proofs.CallSequences.{onward, still}
use Rattle.outside_folder.specs.Calls.{IsWithin as IsReadable, content_at}
use Rattle.outside_folder.specs.Files.{Bytes}
use Rattle.outside_folder.specs.declared.calls.Content.{Content}
use Rattle.outside_folder.specs.declared.calls.Content.TheVariants.{Bytes as Holds, TooLarge}
use Rattle.plan_types.specs.declared.refusal.Halt.{Halt}
use Rattle.plan_types.specs.declared.refusal.Halt.TheVariants.{Failed}
use Rattle.plan_types.specs.declared.project.Project.{Project}
use Rattle.plan_types.specs.Refusal.{Answers, Settles}
use Rattle.project_file.specs.Read.{IsWithFile}
use Rattle.project_file.specs.declared.read.ProjectText.{ProjectText}
use Rattle.project_file.proofs.ExtraPackages.{project-named}
use Rattle.project_config.specs.Freeze.{kept}
use Rattle.project_config.specs.Project.{AreSaid, project_files}
use Rattle.project_config.specs.declared.files.FilesProject.{FilesProject}
use Rattle.project_config.proofs.LocatedPackages.{all_said, large_said, refused_said}
use Rattle.project_config.proofs.Reading.{GoesOn, implicit_at_end, kept_at_end, more_read}
use Rattle.common_laws.specs.Small.{if_some, some_at}
use Rattle.project_config.proofs.files.read_files.Goals as goal

pub with_project_file-requires : goal.with_project_file-requires
with_project_file-requires g c = subst (λ (content : Content). IsReadable content) c.in-Bytes.is c.in_ok-content.ensures.within

pub loop-path-init : goal.loop-path-init
loop-path-init g c = record {
  taken = (
    [],
    c.empty_project-project.ensures c.args.env.now,
    λ files t.
        let all : c.into_iter-path-iterator.result.rest.items ≡ project_files = c.into_iter-path-iterator.ensures.into_iter_gives.0 ∙ c.into_vec-path-items.ensures ∙ c.in_ok-paths.ensures in
        subst (GoesOn files project_files [] false None) (sym all) (record { texts = refl; large = refl; missed_is = refl; kept_is = refl }),
  );
  folder = still _ _ _ (λ never. never);
}

pub loop-path-preserved : goal.loop-path-preserved
loop-path-preserved g c =
    let taken = c.loop-path.invariant.taken in record {
      taken = (
        taken.0 ++ record { path = c.in-Some.path; bytes = c.in-Bytes.bytes } ∷ [],
        (c.in_ok-more-in-Bytes.ensures taken.0 taken.1).0,
        λ files t.
            let found = some_at _ _ files (c.loop-path.invariant.folder.same_files ∙ t) c.in_ok-content.ensures.observed in
            let is : Holds c.in-Bytes.bytes ≡ content_at files c.in-Some.path = sym c.in-Bytes.is ∙ found ∙ ap (content_at files) c.as_str.ensures in
            let goes = subst (GoesOn files project_files taken.0 c.loop-path.implicit c.loop-path.freeze) c.in-Some.ensures.steps.0 (taken.2 files t) in
            let text : ProjectText = record { path = c.in-Some.path; bytes = c.in-Bytes.bytes } in
            let kept_is = c.kept-freeze.ensures ∙ ap (λ (b : Bytes). kept c.loop-path.freeze (record { path = c.in-Some.path; bytes = b })) (c.in_ok-more-in-Bytes.ensures taken.0 taken.1).1 in
            subst (λ (freeze : Option Bytes). GoesOn files project_files (taken.0 ++ text ∷ []) c.loop-path.implicit freeze c.next.new.self.rest.items) (sym kept_is)
            (more_read files project_files taken.0 c.loop-path.implicit c.loop-path.freeze c.in-Some.path c.next.new.self.rest.items goes c.in-Bytes.bytes is),
      );
      folder = onward _ _ _ _ _ (λ never. absurd never) (λ e. cc e) c.loop-path.invariant.folder c.in_ok-content.ensures.folder;
    }

pub returns-in-TooLarge-clause-observed : goal.returns-in-TooLarge-clause-observed
returns-in-TooLarge-clause-observed g c = if_some _ _ (λ files t.
    let taken = c.loop-path.invariant.taken in
    let found = some_at _ _ files (c.loop-path.invariant.folder.same_files ∙ t) c.in_ok-content.ensures.observed in
    let is : TooLarge ≡ content_at files c.in-Some.path = sym c.in-TooLarge.is ∙ found ∙ ap (content_at files) c.as_str.ensures in
    let goes = subst (GoesOn files project_files taken.0 c.loop-path.implicit c.loop-path.freeze) c.in-Some.ensures.steps.0 (taken.2 files t) in
    subst (λ (h : Halt). Answers {A = FilesProject} (AreSaid c.args.env.now files) (Err h)) (sym c.too_large.ensures)
    (large_said c.args.env.now files taken.0 c.loop-path.implicit c.loop-path.freeze c.loop-path.project c.in-Some.path c.next.new.self.rest.items is goes taken.1))

pub returns-in_err-more-in-Bytes-clause-observed : goal.returns-in_err-more-in-Bytes-clause-observed
returns-in_err-more-in-Bytes-clause-observed g c = if_some _ _ (λ files t.
    let p = err_from_is_err_and c.from_residual-in_err-more-in-Bytes.result c.from_residual-in_err-more-in-Bytes.ensures.1 in
    let passed : c.from_residual-in_err-more-in-Bytes.result ≡ Err c.in_err-more-in-Bytes.field-0.0 = p.1 ∙ ap Err p.2 in
    let taken = c.loop-path.invariant.taken in
    let found = some_at _ _ files (c.loop-path.invariant.folder.same_files ∙ t) c.in_ok-content.ensures.observed in
    let is : Holds c.in-Bytes.bytes ≡ content_at files c.in-Some.path = sym c.in-Bytes.is ∙ found ∙ ap (content_at files) c.as_str.ensures in
    let goes = subst (GoesOn files project_files taken.0 c.loop-path.implicit c.loop-path.freeze) c.in-Some.ensures.steps.0 (taken.2 files t) in
    subst (Answers (AreSaid c.args.env.now files)) (sym passed)
    (refused_said c.args.env.now files taken.0 c.loop-path.implicit c.loop-path.freeze c.in-Some.path c.in-Bytes.bytes c.next.new.self.rest.items c.in_err-more-in-Bytes.field-0.0 is goes
    (c.in_err-more-in-Bytes.ensures taken.0 taken.1)))

pub returns-in_err-more-in-Bytes-clause-folder :
    goal.returns-in_err-more-in-Bytes-clause-folder
returns-in_err-more-in-Bytes-clause-folder g c =
    let p = err_from_is_err_and c.from_residual-in_err-more-in-Bytes.result c.from_residual-in_err-more-in-Bytes.ensures.1 in
    let passed : c.from_residual-in_err-more-in-Bytes.result ≡ Err c.in_err-more-in-Bytes.field-0.0 = p.1 ∙ ap Err p.2 in
    let taken = c.loop-path.invariant.taken in
    let text : ProjectText = record { path = c.in-Some.path; bytes = c.in-Bytes.bytes } in
    let halts = c.in_err-more-in-Bytes.ensures taken.0 taken.1 in
    onward _ _ _ _ _
    (λ e.
    let failed : c.in_err-more-in-Bytes.field-0.0 ≡ Failed = cc (passed, e) in
    absurd (subst (λ (h : Halt). Settles {A = Project × Bytes} (IsWithFile c.args.env.now taken.0 text) (Err h)) failed halts))
    (λ e. absurd (cc e)) c.loop-path.invariant.folder c.in_ok-content.ensures.folder

pub returns-clause-observed : goal.returns-clause-observed
returns-clause-observed g c = if_some _ _ (λ files t.
    let taken = c.loop-path.invariant.taken in
    let none : c.loop-path.path-iterator.rest.items ≡ [] = nil_from_length _ (sym c.loop-path.path-iterator.rest.ok.0 ∙ c.in-None.ensures.steps.0) in
    let goes = subst (GoesOn files project_files taken.0 c.loop-path.implicit c.loop-path.freeze) none (taken.2 files t) in (
      all_said c.args.env.now files taken.0 c.loop-path.implicit c.loop-path.freeze c.loop-path.project goes taken.1,
      implicit_at_end files taken.0 c.loop-path.implicit c.loop-path.freeze goes,
      kept_at_end files taken.0 c.loop-path.implicit c.loop-path.freeze goes,
    ))

pub returns-clause-extra : goal.returns-clause-extra
returns-clause-extra g c = let taken = c.loop-path.invariant.taken in project-named c.args.env.now taken.0 (Ok c.loop-path.project) taken.1
