-- The definitions on small texts.
use Rattle.std.specs.Prelude.{◌≡◌, true, refl, codes, Some, None}
use Rattle.plan_types.specs.declared.constraint.Scope.TheVariants.{Setup}
use Rattle.plan_types.specs.declared.constraint.What.TheVariants.{Tests}
use Rattle.constraint_text.specs.Constraints.{scope_of, required_by}
use Rattle.constraint_text.specs.Relaxes.{relaxing_word}

every_setup : scope_of (codes "setup") ≡ Some Setup
every_setup = refl

no_scope : scope_of (codes "Any") ≡ None
no_scope = refl

the_tests : required_by (codes "test") ≡ Some Tests
the_tests = refl

everything_in_any_case : relaxing_word (codes "ALL") ≡ Some true
everything_in_any_case = refl

a_dependency_is_no_word : relaxing_word (codes "all:a") ≡ None
a_dependency_is_no_word = refl
