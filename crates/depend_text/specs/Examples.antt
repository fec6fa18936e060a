-- The definitions on small texts.
use Rattle.std.specs.Prelude.{◌≡◌, refl, codes}
use Rattle.plan_types.specs.declared.dependency.LibName.TheVariants.{Main, Named}
use Rattle.plan_types.specs.declared.refusal.Cause.TheVariants.{BadDepend, NeedsVersion}
use Rattle.depend_text.specs.Depends.{library, old_cause}

the_main_library : library (codes "a") (codes "a") ≡ Main
the_main_library = refl

a_library : library (codes "a") (codes "sub") ≡ Named (codes "sub")
a_library = refl

a_list_begins : old_cause (codes "{") ≡ NeedsVersion
a_list_begins = refl

no_library_begins : old_cause (codes " sub") ≡ BadDepend
no_library_begins = refl
