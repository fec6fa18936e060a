-- The definitions on small files.
use Rattle.std.specs.Prelude.{◌≡◌, true, false, [], ◌∷◌, refl, codes, Some, None}
use Rattle.std.specs.declared.result.Result.TheVariants.{Ok, Err}
use Rattle.plan_types.specs.declared.condition.Cond.{Cond}
use Rattle.plan_types.specs.declared.condition.Cond.TheVariants.{Always, Flag, Not, And}
use Rattle.plan_types.specs.declared.description.CompKind.TheVariants.{Library}
use Rattle.plan_types.specs.declared.range.Spec.TheVariants.{V2_4, V3_0}
use Rattle.plan_types.specs.declared.refusal.Cause.TheVariants.{BadField}
use Rattle.section_syntax.specs.Branch.{all_of, bare, branch_of, chain_of, condition}
use Rattle.section_syntax.specs.Chained.{AreChained, begun, branches_behind}
use Rattle.section_syntax.specs.File.{section_name}
use Rattle.section_syntax.specs.Items.{Items, branch_fits, import_fits, visible}
use Rattle.cabal_lexer.specs.Tree.{end, field, section}
use Rattle.section_syntax.specs.Words.{field_word, inner_word, section_kind}
use Rattle.section_syntax.specs.declared.part.Said.TheVariants as said
use Rattle.section_syntax.specs.declared.part.SectionKind.TheVariants.{Component, Common, Flag as FlagSection, Setup}
use Rattle.section_syntax.specs.declared.words.BranchWord.TheVariants.{If, Elif, Else}
use Rattle.text_grammar.specs.Words.{boolean}
use Rattle.section_syntax.specs.declared.words.FieldWord.TheVariants as fields
use Rattle.section_syntax.specs.declared.words.InnerWord.TheVariants as inner

abbrev a : Cond
a = Flag (codes "a")

abbrev b : Cond
b = Flag (codes "b")

the_main_library : section_kind (codes "library") ≡ Some (Component Library)
the_main_library = refl

a_section_that_is_not_read : section_kind (codes "source-repository") ≡ None
a_section_that_is_not_read = refl

a_field_of_a_component : field_word Common (codes "build-depends") ≡ fields.Depends
a_field_of_a_component = refl

no_branches_in_a_setup : inner_word Setup (codes "if") ≡ inner.Misplaced
no_branches_in_a_setup = refl

nothing_in_a_flag : inner_word FlagSection (codes "if") ≡ inner.Unread
nothing_in_a_flag = refl

in_any_case : boolean (codes "TRUE") ≡ Some true
in_any_case = refl

a_flag_in_lower_case : section_name FlagSection (codes "Fast") ≡ codes "fast"
a_flag_in_lower_case = refl

visibility_from_3_0 : visible V2_4 (codes "public") ≡ None
visibility_from_3_0 = refl

is_public : visible V3_0 (codes "public") ≡ Some (said.Visibility (Some true))
is_public = refl

nothing_holds_always : all_of [] ≡ Always
nothing_holds_always = refl

grouped_from_the_left : all_of (a ∷ b ∷ a ∷ []) ≡ And (And a b) a
grouped_from_the_left = refl

-- `elif flag(b)` after `if flag(a)`, and the `else` after both
elif_negates : condition (branch_of Elif (Some (Not a)) (Ok b)) ≡ And (Not a) b
elif_negates = refl

else_negates_all : condition (branch_of Else (chain_of (branch_of Elif (Some (Not a)) (Ok b))) (Ok Always)) ≡ And (Not a) (Not b)
else_negates_all = refl

if_begins_a_chain : condition (branch_of If (Some a) (Ok b)) ≡ b
if_begins_a_chain = refl

nothing_behind_else : chain_of (branch_of Else (Some a) (Ok Always)) ≡ None
nothing_behind_else = refl

a_lone_elif : branch_fits Elif None ≡ false
a_lone_elif = refl

else_with_a_condition : bare (codes "x") ≡ Err BadField
else_with_a_condition = refl

-- an `elif` directly after `if flag(a)`, and a misplaced one
elif_begins : branches_behind (branch_of If None (Ok a) ∷ []) (record { line = 5; branches = []; said = said.Branch Elif (Ok b) true }) ≡ record { condition = And (Not a) b; chain = Some (And (Not a) (Not b)) } ∷ []
elif_begins = refl

elif_without_if : begun (said.Branch Elif (Ok b) false) (Some (branch_of If None (Ok a))) ≡ record { condition = b; chain = Some (Not b) } ∷ []
elif_without_if = refl

-- an import fits only after imports; in a branch from 3.0 on
behind_an_import : import_fits V2_4 (Component Library) (field 4 (codes "import") [] end) [] ≡ true
behind_an_import = refl

behind_another_field : import_fits V2_4 (Component Library) (field 4 (codes "buildable") [] end) [] ≡ false
behind_another_field = refl

in_a_branch_of_2_4 : import_fits V2_4 (Component Library) end (a ∷ []) ≡ false
in_a_branch_of_2_4 = refl

in_a_branch_of_3_0 : import_fits V3_0 (Component Library) end (a ∷ []) ≡ true
in_a_branch_of_3_0 = refl

-- `buildable: False` and a misplaced section
two_parts : Items V3_0 (Component Library) end (field 5 (codes "buildable") (codes "False" ∷ []) (section 6 (codes "x") [] end end)) (a ∷ []) None
    (record { line = 5; branches = a ∷ []; said = said.Buildable (Some false) } ∷ record { line = 6; branches = a ∷ []; said = said.Misplaced } ∷ [])
unfolding Items
two_parts = (Some (said.Buildable (Some false)), record { line = 6; branches = a ∷ []; said = said.Misplaced } ∷ [], refl, ([], refl, refl), refl)

-- a field in an `else` after `if flag(a)`
three_parts : AreChained []
    (record { line = 4; branches = []; said = said.Branch If (Ok a) true } ∷ record { line = 6; branches = []; said = said.Branch Else (Ok Always) true }
    ∷ record { line = 7; branches = Not a ∷ []; said = said.BuildTools } ∷ [])
unfolding AreChained
three_parts = (refl, (refl, (refl, tt, λ word own is. absurd (cc is)), λ word own is. cc is), λ word own is. cc is)
