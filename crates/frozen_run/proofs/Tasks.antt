-- The task of a folder with a printed freeze file.
use Rattle.std.proofs.Common.{◌≡◌, ◌||◌, List, Result, Ok, refl, sym, ap, ◌∙◌, subst}
use Rattle.std.specs.Prelude.{codes, if◌then◌else◌}
use Rattle.std.specs.List.{AllByRecursion, list_any}
use Rattle.plan_types.specs.declared.condition.Env.{Env}
use Rattle.plan_types.specs.declared.constraint.Constraint.{Constraint}
use Rattle.plan_types.specs.declared.dependency.Named.{Named}
use Rattle.plan_types.specs.declared.index.Index.{Index}
use Rattle.plan_types.specs.declared.index.Places.{Places}
use Rattle.plan_types.specs.declared.project.Project.{Project}
use Rattle.plan_types.specs.declared.project.ProjectEntry.{ProjectEntry}
use Rattle.plan_types.specs.declared.refusal.Refusal.{Refusal}
use Rattle.flatten.specs.Sound.{IsSound}
use Rattle.outside_folder.specs.Calls.{content_at, content_of}
use Rattle.outside_folder.specs.Files.{Bytes, Files}
use Rattle.outside_folder.specs.declared.calls.Content.{Content}
use Rattle.outside_folder.specs.declared.calls.Content.TheVariants.{TooLarge, Bytes as Holds}
use Rattle.project_file.specs.Read.{IsProject}
use Rattle.project_paths.specs.Local.{local_files, sought}
use Rattle.project_config.specs.Project.{first_too_large, freeze_bytes, is_implicit, is_missing, project_files, texts_among}
use Rattle.index_assembly.specs.Folder.{IsFolderIndex}
use Rattle.qualified_goals.specs.Names.{NameTable}
use Rattle.choice_problem.specs.declared.problem.Choice.{Choice}
use Rattle.choice_problem.specs.General.{General}
use Rattle.choice_problem.specs.Trail.{value_in}
use Rattle.choice_problem.specs.Valid.{IsWholeValid}
use Rattle.freeze_text.specs.Reads.{IsPlainConstraint, with_constraints}
use Rattle.frozen_choices.specs.Frozen.{frozen}
use Rattle.frozen_choices.specs.Plain.{AreInDomains}
use Rattle.frozen_choices.proofs.DistinctChoices.{valid-in-domains}
use Rattle.command_line.specs.declared.reading.Options.{Options}
use Rattle.plan_task.specs.Task.{IsTask, task_of}
use Rattle.plan_task.specs.declared.task.Task.{Task}
use Rattle.plan_command.specs.Form.{frozen_form}
use Rattle.plan_command.specs.Meaning.{PlansFirst}
use Rattle.refrozen_folder.specs.Refrozen.{IsRefrozen}
use Rattle.frozen_run.specs.Again.{IsFrozenFolder, IsFrozenTask, settings_with, unlimited}
use Rattle.frozen_run.proofs.Made.{IsMadeOf, made-of, made-task}
use Rattle.frozen_run.proofs.Texts.{AddsAlone, AddsBehind, IsTold, any-file, large_of, texts_of}

-- what the laws of folders and of constraints say

abbrev pub FrozenIsPlain : Type 0
FrozenIsPlain = (env : Env) (index : Index) (names : NameTable) (trail : List Choice) → IsSound env index
    → AreInDomains index.packages trail → AllByRecursion IsPlainConstraint (frozen index.packages names trail)

abbrev pub LocalsStay : Type 0
LocalsStay = (files now : Files) (text : Bytes) (entries : List ProjectEntry) → IsRefrozen files text now → local_files now entries ≡ local_files files entries

abbrev pub IndexStays : Type 0
IndexStays = (env : Env) (places : Places) (extra : List Named) (files now : Files) (text : Bytes) (entries : List ProjectEntry) (locals : List Bytes) (index : Result Index Refusal)
    → IsRefrozen files text now → local_files files entries ≡ Ok locals → IsFolderIndex env places extra locals files index → IsFolderIndex env places extra locals now index

-- ---- the task with the printed text

-- it is there, and is that of the folder with the constraints of the trail
pub record HasFrozenTask (options : Options) (now : Files) (names : NameTable) (trail : List Choice) (task : Task) : Type 0 where
  pub after : Task
  pub is : IsTask (unlimited options) now (Ok after)
  pub frozen_task : IsFrozenTask names trail task after

module _ (alone : AddsAlone) (behind : AddsBehind) (plain : FrozenIsPlain) (stay : LocalsStay) (stays : IndexStays) (options : Options) (files now : Files) (text : Bytes) (plan : PlansFirst (frozen_form files) options files text)
    (again : IsFrozenFolder files text now) where
  abbrev constraints : List Constraint
  constraints = frozen plan.task.index.packages plan.names plan.trail

  made : IsMadeOf options files plan.task
  made = made-of options files plan.task plan.made

  are-plain : AllByRecursion IsPlainConstraint constraints
  are-plain =
      let whole = plan.means.problem_is in
      let valid = subst (λ (g : General). IsWholeValid g (value_in plan.trail)) whole.problem_is plan.means.first.whole_valid in
      plain plan.task.settings.env plan.task.index plan.names plan.trail plan.ready.sound
      (valid-in-domains plan.task.settings.env plan.task.index.packages plan.task.settings.project plan.names whole.orders plan.trail plan.means.new valid)

  abbrev m : Content
  m = content_at files (codes "cabal.project")

  abbrev l : Content
  l = content_at files (codes "cabal.project.local")

  told : IsTold options.env m l text made.project constraints
  told =
      subst (λ (t : Bytes). IsTold options.env m l t made.project constraints) (sym plan.text_is)
      (any-file alone behind options.env m l constraints made.project are-plain (freeze_bytes files) again.plainly made.small made.read)

  -- ---- what is found of the project files

  main : content_at now (codes "cabal.project") ≡ content_at files (codes "cabal.project")
  main = ap content_of (again.refrozen.others (codes "cabal.project") refl)

  freeze : content_at now (codes "cabal.project.freeze") ≡ Holds text
  freeze = ap content_of again.refrozen.freeze ∙ ap (λ t. if t then TooLarge else Holds text) again.small

  local : content_at now (codes "cabal.project.local") ≡ content_at files (codes "cabal.project.local")
  local = ap content_of (again.refrozen.others (codes "cabal.project.local") refl)

  same-texts : texts_among now project_files ≡ texts_of m (Holds text) l
  same-texts =
      ap (λ (c : Content). texts_of c (content_at now (codes "cabal.project.freeze")) (content_at now (codes "cabal.project.local"))) main
      ∙ ap (λ (c : Content). texts_of m c (content_at now (codes "cabal.project.local"))) freeze ∙ ap (λ (c : Content). texts_of m (Holds text) c) local

  same-large : first_too_large now project_files ≡ large_of m (Holds text) l
  same-large =
      ap (λ (c : Content). large_of c (content_at now (codes "cabal.project.freeze")) (content_at now (codes "cabal.project.local"))) main
      ∙ ap (λ (c : Content). large_of m c (content_at now (codes "cabal.project.local"))) freeze ∙ ap (λ (c : Content). large_of m (Holds text) c) local

  abbrev project_after : Project
  project_after = with_constraints told.adds.all made.project

  abbrev task_after : Task
  task_after = task_of (unlimited options) (with_constraints told.adds.all made.project) (freeze_bytes now) made.index

  is-task : IsTask (unlimited options) now (Ok task_after)
  is-task =
      made-task (unlimited options) now project_after made.locals made.index
      (subst (λ texts. IsProject options.env texts (Ok project_after)) (sym same-texts) told.adds.read)
      (same-large ∙ told.small)
      (stay files now text (sought (is_implicit now) made.project.entries) again.refrozen ∙ ap (λ (c : Content). local_files files (sought (is_missing c) made.project.entries)) main ∙ made.found)
      (stays options.env options.places made.project.extra files now text (sought (is_implicit files) made.project.entries) made.locals (Ok made.index) again.refrozen made.found made.indexed)

  is-frozen : IsFrozenTask plan.names plan.trail plan.task task_after
  is-frozen = record {
    constraints = told.adds.all;
    union = λ test. told.adds.union test ∙ ap (λ (t : Task). list_any test t.settings.project.constraints || list_any test constraints) (sym made.task_is);
    settings_are = ap (λ (t : Task). settings_with told.adds.all t.settings) (sym made.task_is);
    index_is = ap (λ (t : Task). t.index) (sym made.task_is);
  }

  pub has-task : HasFrozenTask options now plan.names plan.trail plan.task
  has-task = record { after = task_after; is = is-task; frozen_task = is-frozen }
