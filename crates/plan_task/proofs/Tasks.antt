-- A task is ready, and `Answers` is monotone.
use Rattle.std.proofs.Common.{◌≡◌, ℕ, List, [], ◌∷◌, Option, Result, Ok, Err, refl, sym, ap, subst, ◌∙◌}
use Rattle.std.specs.Prelude.{◌&&◌}
use Rattle.std.specs.List.{AllByRecursion}
use Rattle.plan_types.specs.declared.condition.Env.{Env}
use Rattle.plan_types.specs.declared.index.Body.{Body}
use Rattle.plan_types.specs.declared.index.Body.TheVariants.{Source, Installed}
use Rattle.plan_types.specs.declared.index.Entry.{Entry}
use Rattle.plan_types.specs.declared.index.Index.{Index}
use Rattle.plan_types.specs.declared.index.Package.{Package}
use Rattle.plan_types.specs.declared.limit.Limit.{Limit}
use Rattle.plan_types.specs.declared.project.Project.{Project}
use Rattle.plan_types.specs.declared.refusal.Halt.{Halt}
use Rattle.plan_types.specs.declared.refusal.Halt.TheVariants as halt
use Rattle.plan_types.specs.declared.refusal.Refusal.{Refusal}
use Rattle.flatten.specs.Sound.{IsBody, IsEntry, IsPackage, IsSound, has_unit, has_units}
use Rattle.outside_folder.specs.Files.{Bytes}
use Rattle.package_index.specs.Extra.{AreMarked, AreThere}
use Rattle.command_line.specs.declared.reading.Options.{Options}
use Rattle.plan_task.specs.Task.{IsReady, warned}
use Rattle.plan_task.specs.declared.task.Task.{Task}
use Rattle.plan_types.specs.Refusal.{Answers}

-- an index is as sound with other warnings
module _ (env : Env) (project : Project) (index : Index) where
  abbrev shown : Index
  shown = warned project index

  units-there : (ids names : List (List ℕ)) → has_units index ids names ≡ has_units shown ids names
  units-there [] [] = refl
  units-there [] (name ∷ names) = refl
  units-there (id ∷ ids) [] = refl
  units-there (id ∷ ids) (name ∷ names) = ap (λ b. has_unit index id name && b) (units-there ids names)

  sound-body : (body : Body) → IsBody env index body → IsBody env shown body
  sound-body (Source source) h = record {
    description = h.description;
    packages = h.packages;
    none_beyond = h.none_beyond;
    demands = h.demands;
    offers = h.offers;
  }
  sound-body (Installed unit needs) h = sym (units-there unit.depends needs) ∙ h

  sound-entries : (p : Package) (entries : List Entry) → AllByRecursion (IsEntry env index p) entries → AllByRecursion (IsEntry env shown p) entries
  sound-entries p [] h = h
  sound-entries p (entry ∷ entries) h =
      (record { instance_is = h.0.instance_is; named = h.0.named; version = h.0.version; body = sound-body entry.body h.0.body }, sound-entries p entries h.1)

  sound-packages : (packages : List Package) → AllByRecursion (IsPackage env index) packages → AllByRecursion (IsPackage env shown) packages
  sound-packages [] h = h
  sound-packages (p ∷ packages) h =
      (record { name = h.0.name; in_order = h.0.in_order; local_is_one = h.0.local_is_one; entries = sound-entries p p.entries h.0.entries }, sound-packages packages h.1)

  sound-warned : IsSound env index → IsSound env shown
  sound-warned h = record { in_goal_order = h.in_goal_order; packages = sound-packages index.packages h.packages }

abbrev pub task_with : Options → Project → Option Bytes → Limit → Index → Task
task_with options project freeze limit index = record { settings = record { env = options.env; project = project; limit = limit }; index = index; freeze = freeze }

-- a task is ready with any limit and freeze file
pub ready-with : (options : Options) (project : Project) (freeze : Option Bytes) (index : Index) → IsSound options.env index → AreThere project.extra index → AreMarked project.extra index
    → (limit : Limit) (made : Index) → made ≡ warned project index → IsReady (task_with options project freeze limit made)
ready-with options project freeze index sound there marked limit made is =
    let ready : IsReady (task_with options project freeze limit (warned project index)) =
    record { sound = sound-warned options.env project index sound; there = there; marked = marked } in
    subst (λ (i : Index). IsReady (task_with options project freeze limit i)) (sym is) ready

-- `Answers` is monotone in its relation

pub answered : {A : Type 0} (P Q : Result A Refusal → Type 0) → ((outcome : Result A Refusal) → P outcome → Q outcome) → (result : Result A Halt) → Answers P result → Answers Q result
answered P Q wider (Ok a) h = wider (Ok a) h
answered P Q wider (Err halt.NoMemory) h = tt
answered P Q wider (Err halt.Failed) h = tt
answered P Q wider (Err (halt.Refused refusal)) h = wider (Err refusal) h
