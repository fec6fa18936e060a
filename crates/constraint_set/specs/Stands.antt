-- The kept constraints represent those of a project.
use Rattle.std.specs.Prelude.{◌≡◌}
use Rattle.plan_types.specs.declared.project.Project.{Project}
use Rattle.qualified_goals.specs.Names.{NameTable}
use Rattle.constraint_set.specs.declared.constraints.Constraints.{Constraints}
use Rattle.constraint_set.specs.Relaxing.{RelaxesAs}
use Rattle.constraint_set.specs.Rules.{RulesAre}

-- the kept rules, relaxing and settings are those of the project, by these numbers
pub record Represents (project : Project) (names : NameTable) (kept : Constraints) : Type 0 where
  pub rules_are : RulesAre names project.constraints kept.rules
  pub newer_are : RelaxesAs project.newer kept.newer
  pub older_are : RelaxesAs project.older kept.older
  pub tests_are : kept.tests ≡ project.tests
  pub benchmarks_are : kept.benchmarks ≡ project.benchmarks
  pub boot_installs_are : kept.boot_installs ≡ project.boot_installs
