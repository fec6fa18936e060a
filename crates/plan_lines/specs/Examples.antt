-- Names of components.
use Rattle.std.specs.Prelude.{◌≡◌, [], codes, refl}
use Rattle.plan_types.specs.declared.description.CompKind.TheVariants.{Library, Test, Foreign}
use Rattle.plan_lines.specs.ComponentName.{component_name}

main_library : component_name Library [] ≡ codes "lib"
main_library = refl

named_library : component_name Library (codes "inner") ≡ codes "lib:inner"
named_library = refl

a_suite : component_name Test (codes "spec") ≡ codes "test:spec"
a_suite = refl

foreign_library : component_name Foreign (codes "c") ≡ codes "flib:c"
foreign_library = refl
