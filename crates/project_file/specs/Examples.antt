-- The definitions on small texts.
use Rattle.std.specs.Prelude.{◌≡◌, refl, true, false, [], ◌∷◌, codes, Some, None}
use Rattle.std.specs.declared.result.Result.TheVariants.{Ok, Err}
use Rattle.plan_types.specs.declared.limit.Limit.TheVariants.{At, Unlimited}
use Rattle.plan_types.specs.declared.refusal.Cause.TheVariants.{BadField, ElseWithoutIf}
use Rattle.project_file.specs.Branches.{bare, branch_fault, chain_behind, is_taken}
use Rattle.project_file.specs.Flags.{flags_in}
use Rattle.project_file.specs.Project.{project_from}
use Rattle.project_file.specs.declared.part.ProjectSaid.TheVariants as said
use Rattle.project_file.specs.declared.part.Switch.TheVariants.{Tests}
use Rattle.text_grammar.specs.declared.word.Between.TheVariants.{SpacesAndCommas}
use Rattle.project_file.specs.declared.words.ProjectBranchWord.TheVariants.{Elif, Else}
use Rattle.text_grammar.specs.Words.{words}
use Rattle.version_range.specs.Number.{limit_of}

no_limit : limit_of (codes "-1") ≡ Some Unlimited
no_limit = refl

minus_zero : limit_of (codes "-000") ≡ Some (At 0)
minus_zero = refl

too_long : limit_of (codes "1234567890") ≡ None
too_long = refl

three_entries : words SpacesAndCommas (codes "a, ./b  c/") ≡ codes "a" ∷ codes "./b" ∷ codes "c/" ∷ []
three_entries = refl

three_flags : flags_in (codes "+a -B c") ≡ Some (record { name = codes "a"; on = true } ∷ record { name = codes "b"; on = false } ∷ record { name = codes "c"; on = true } ∷ [])
three_flags = refl

no_flag : flags_in (codes "+a,-b") ≡ None
no_flag = refl

-- `elif true` after a chain that took a branch, and after one that took none
behind_a_taken_branch : is_taken Elif (Some true) (Ok true) ≡ false
behind_a_taken_branch = refl

behind_another : is_taken Elif (Some false) (Ok true) ≡ true
behind_another = refl

still_taken : chain_behind Elif (Some true) (Ok false) ≡ Some true
still_taken = refl

else_with_a_condition : bare (codes "x") ≡ Err BadField
else_with_a_condition = refl

-- a fault of the condition comes before one of the place
a_bad_lone_elif : branch_fault Elif None (Err BadField) ≡ Some (said.Bad BadField)
a_bad_lone_elif = refl

a_lone_else : branch_fault Else None (Ok true) ≡ Some (said.Bad ElseWithoutIf)
a_lone_else = refl

-- the last value counts, from whatever file
the_last_holds : (project_from (record { path = codes "a"; line = 7; said = said.Switch Tests true } ∷ record { path = codes "b"; line = 1; said = said.Switch Tests false } ∷ [])).tests ≡ false
the_last_holds = refl

nothing_given : (project_from []).limit ≡ At 4000
nothing_given = refl
