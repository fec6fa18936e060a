-- A project with the values of one more part.
use Rattle.std.proofs.Common.{◌≡◌, ℕ, Bool, false, List, [], ◌∷◌, ◌++◌, refl, sym, ap, ◌∙◌}
use Rattle.std.specs.Prelude.{Option, None, Some, unwrap_or}
use Rattle.std.specs.Option.{option_or}
use Rattle.text_grammar.specs.Last.{last_given}
use Rattle.text_grammar.proofs.LastValue.{last_push as said_push}
use Rattle.std.proofs.lemmas.Grind.{flat_map-append}
use Rattle.std.proofs.lemmas.List.{append-nil}
use Rattle.plan_types.specs.declared.limit.Limit.TheVariants.{At}
use Rattle.plan_types.specs.declared.project.Project.{Project}
use Rattle.project_file.specs.Project.{Given, Placed, all, given, given_at, last_or, project_from, with_switch}
use Rattle.project_file.specs.declared.part.ProjectSaid.{ProjectSaid}
use Rattle.project_file.specs.declared.part.ProjectSaid.TheVariants as said
use Rattle.project_file.specs.declared.part.Switch.{Switch}
use Rattle.project_file.specs.declared.part.Switch.TheVariants.{Tests, Benchmarks, PreferOldest, BootInstalls}

-- `xs ++ ys`, but `xs` itself if `ys` is empty
abbrev plus : {A : Type 0} → List A → List A → List A
plus xs [] = xs
plus xs (y ∷ ys) = xs ++ y ∷ ys

plus_is : {A : Type 0} (xs ys : List A) → plus xs ys ≡ xs ++ ys
plus_is xs [] = sym (append-nil xs)
plus_is xs (y ∷ ys) = refl

-- a project with the values of one more part
abbrev pub joined : Project → Given → Project
joined old g = record {
  entries = plus old.entries g.entries;
  extra = plus old.extra g.extra;
  constraints = plus old.constraints g.constraints;
  preferences = plus old.preferences g.preferences;
  newer = plus old.newer g.newer;
  older = plus old.older g.older;
  tests = unwrap_or g.tests old.tests;
  benchmarks = unwrap_or g.benchmarks old.benchmarks;
  limit = unwrap_or g.limit old.limit;
  prefer_oldest = unwrap_or g.prefer_oldest old.prefer_oldest;
  boot_installs = unwrap_or g.boot_installs old.boot_installs;
  warnings = plus old.warnings g.warnings;
}

unwrap_either : {A : Type 0} (value : A) (a b : Option A) → unwrap_or (option_or a b) value ≡ unwrap_or a (unwrap_or b value)
unwrap_either value None b = refl
unwrap_either value (Some x) b = refl

last_push : {A : Type 0} (value : A) (of : Given → Option A) (parts : List Placed) (part : Placed) → last_or value of (parts ++ part ∷ []) ≡ unwrap_or (of (given part)) (last_or value of parts)
last_push value of parts part =
    ap (λ o. unwrap_or o value) (said_push (λ p. of (given p)) parts part) ∙ unwrap_either value (of (given part)) (last_given (λ p. of (given p)) parts)

all_push : {A : Type 0} (of : Given → List A) (parts : List Placed) (part : Placed) → all of (parts ++ part ∷ []) ≡ plus (all of parts) (of (given part))
all_push of parts part =
    flat_map-append (λ p. of (given p)) parts (part ∷ []) ∙ ap (λ more. all of parts ++ more) (append-nil (of (given part))) ∙ sym (plus_is (all of parts) (of (given part)))

pub project_push : (parts : List Placed) (part : Placed) → project_from (parts ++ part ∷ []) ≡ joined (project_from parts) (given part)
project_push parts part i = record {
  entries = all_push (λ g. g.entries) parts part i;
  extra = all_push (λ g. g.extra) parts part i;
  constraints = all_push (λ g. g.constraints) parts part i;
  preferences = all_push (λ g. g.preferences) parts part i;
  newer = all_push (λ g. g.newer) parts part i;
  older = all_push (λ g. g.older) parts part i;
  tests = last_push false (λ g. g.tests) parts part i;
  benchmarks = last_push false (λ g. g.benchmarks) parts part i;
  limit = last_push (At 4000) (λ g. g.limit) parts part i;
  prefer_oldest = last_push false (λ g. g.prefer_oldest) parts part i;
  boot_installs = last_push false (λ g. g.boot_installs) parts part i;
  warnings = all_push (λ g. g.warnings) parts part i;
}

-- the project changes by the values of the part alone
pub goes : (path : List ℕ) (line : ℕ) {said told : ProjectSaid} (old : Project) {new : Project} → told ≡ said → new ≡ joined old (given_at path line said) →
    (before : List Placed) → old ≡ project_from before → new ≡ project_from (before ++ record { path = path; line = line; said = told } ∷ [])
goes path line {said = said} old is new-is before e =
    new-is ∙ ap (λ p. joined p (given_at path line said)) e ∙ ap (λ s. joined (project_from before) (given_at path line s)) (sym is)
    ∙ sym (project_push before (record { path = path; line = line; said = _ }))

-- a list of the project with these after it
pub list_is : {A : Type 0} (as' : List A → Project) (old more : List A) {new : List A} → new ≡ old ++ more → as' new ≡ as' (plus old more)
list_is as' old more e = ap as' (e ∙ sym (plus_is old more))

pub turned_is : (path : List ℕ) (line : ℕ) (which : Switch) (on : Bool) (old : Project) → with_switch which on old ≡ joined old (given_at path line (said.Switch which on))
turned_is path line Tests on old = refl
turned_is path line Benchmarks on old = refl
turned_is path line PreferOldest on old = refl
turned_is path line BootInstalls on old = refl
