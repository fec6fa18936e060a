-- Texts of constraints, computed.
use Rattle.std.specs.Prelude.{◌≡◌, ℕ, Bool, true, false, List, [], ◌∷◌, codes, refl}
use Rattle.plan_types.specs.declared.condition.FlagSet.{FlagSet}
use Rattle.plan_types.specs.declared.constraint.Scope.TheVariants.{Any, SetupOf}
use Rattle.plan_types.specs.declared.constraint.What.TheVariants.{Flags, Installed}
use Rattle.plan_types.specs.Name.{is_lower}
use Rattle.freeze_text.specs.Reads.{are_flags}
use Rattle.freeze_text.specs.Text.{freeze_text}

abbrev set_to : Bool → List ℕ → FlagSet
set_to on name = record { name = name; on = on }

two_lines : freeze_text (record { scope = SetupOf (codes "p"); «package» = codes "base"; what = Installed } ∷ record { scope = Any; «package» = codes "q"; what = Flags (set_to true (codes "f") ∷ set_to false (codes "g") ∷ []) } ∷ [])
    ≡ codes "constraints:\n    p:setup.base installed,\n    any.q +f -g\n"
two_lines = refl

no_lines : freeze_text [] ≡ []
no_lines = refl

-- `-any` alone is a range
any_alone : are_flags (set_to false (codes "any") ∷ []) ≡ false
any_alone = refl

any_beside : are_flags (set_to false (codes "any") ∷ set_to true (codes "f") ∷ []) ≡ true
any_beside = refl

a_letter_in_upper_case : is_lower (codes "fooBar") ≡ false
a_letter_in_upper_case = refl
