-- The kept constraints bar and relax what the project does.
use Rattle.std.proofs.Common.{◌≡◌, Bool, not, ◌&&◌, ◌||◌, nat_eq, ap, ◌∙◌}
use Rattle.std.specs.List.{list_any}
use Rattle.plan_types.specs.declared.index.Instance.{Instance}
use Rattle.plan_types.specs.declared.project.Project.{Project}
use Rattle.qualified_goals.specs.declared.variable.Var.{Var}
use Rattle.qualified_goals.specs.Names.{NameTable, is_listed}
use Rattle.constraint_set.specs.declared.constraints.Constraints.{Constraints}
use Rattle.constraint_set.specs.declared.rules.PartRule.{PartRule}
use Rattle.constraint_set.specs.Bars.{requires_value, bars, bars_part, boot_libraries, excludes, applies, is_unit, is_value, names_flag, requires_stanza}
use Rattle.keyed_lists.specs.Lists.{items_at}
use Rattle.constraint_set.specs.Rules.{is_set, rule_bars, settings_at}
use Rattle.constraint_set.specs.Stands.{Represents}
use Rattle.constraint_set.proofs.Asked.{rules-bar, settings-ask, settings-name}

module _ (kept : Constraints) (project : Project) (names : NameTable) (stands : Represents project names kept) (v : Var) where
  pub bars-is : (i : Instance) (barred boot : Bool) → barred ≡ list_any (rule_bars v.qual i) (items_at nat_eq kept.rules.packages v.«package»)
      → boot ≡ (is_listed boot_libraries i.name && not (is_unit i.origin) && not kept.boot_installs) → (barred || boot) ≡ bars project names v i
  bars-is i barred boot h k =
      ap (λ b. b || boot) (h ∙ ap (list_any (rule_bars v.qual i)) (stands.rules_are.packages_are v.«package») ∙ rules-bar names v i project.constraints)
      ∙ ap (λ b. list_any (λ c. applies names c v && excludes c.what i) project.constraints || b) (k ∙ ap (λ b. is_listed boot_libraries i.name && not (is_unit i.origin) && not b) stands.boot_installs_are)

  pub part-is : (on asked wanted : Bool) → asked ≡ list_any (is_set v.qual (not on)) (settings_at kept.rules.parts v.«package» v.part)
      → wanted ≡ requires_stanza kept.tests kept.benchmarks v.part → (asked || (wanted && not on)) ≡ bars_part project names v on
  part-is on asked wanted h k =
      ap (λ b. b || (wanted && not on)) (h ∙ ap (list_any (is_set v.qual (not on))) (stands.rules_are.parts_are v.«package» v.part) ∙ settings-ask names v (not on) project.constraints)
      ∙ ap (λ b. list_any (λ c. applies names c v && requires_value names c.what v.part (not on)) project.constraints || (b && not on)) (k ∙ ap (λ b. requires_stanza b kept.benchmarks v.part) stands.tests_are ∙ ap (λ b. requires_stanza project.tests b v.part) stands.benchmarks_are)

  pub named-is : (on named : Bool) → named ≡ list_any (λ (s : PartRule). is_value s.on on) (settings_at kept.rules.parts v.«package» v.part) → named ≡ names_flag project names v on
  named-is on named h = h ∙ ap (list_any (λ (s : PartRule). is_value s.on on)) (stands.rules_are.parts_are v.«package» v.part) ∙ settings-name names v on project.constraints
