-- The definitions on small files.
use Rattle.std.specs.Prelude.{◌≡◌, ℕ, true, false, List, [], ◌∷◌, map, refl, codes, Option, None, Some}
use Rattle.std.specs.declared.result.Result.TheVariants.{Err}
use Rattle.plan_types.specs.declared.condition.Cond.{Cond}
use Rattle.plan_types.specs.declared.condition.Cond.TheVariants.{Always, Flag, Not, And}
use Rattle.plan_types.specs.declared.dependency.Dep.{Dep}
use Rattle.plan_types.specs.declared.dependency.DepKind.TheVariants as dep_kind
use Rattle.plan_types.specs.declared.dependency.LibName.TheVariants.{Main, Named}
use Rattle.plan_types.specs.declared.description.CompKind.TheVariants.{Library}
use Rattle.plan_types.specs.declared.range.Range.TheVariants.{Any}
use Rattle.plan_types.specs.declared.refusal.Cause.{Cause}
use Rattle.plan_types.specs.declared.refusal.Cause.TheVariants.{BadField, BadName, DuplicateName, UnknownFlag, UnknownStanza, WrongCabalVersion}
use Rattle.plan_types.specs.declared.range.Spec.{Spec}
use Rattle.plan_types.specs.declared.range.Spec.TheVariants.{V3_0, V3_4}
use Rattle.section_syntax.specs.declared.part.File.{File}
use Rattle.section_syntax.specs.declared.part.Head.TheVariants as head
use Rattle.section_syntax.specs.declared.part.HeadField.{HeadField}
use Rattle.section_syntax.specs.declared.part.SectionPart.{SectionPart}
use Rattle.section_syntax.specs.declared.part.Said.{Said}
use Rattle.section_syntax.specs.declared.part.Said.TheVariants as said
use Rattle.section_syntax.specs.declared.part.Section.{Section}
use Rattle.section_syntax.specs.declared.part.SectionKind.{SectionKind}
use Rattle.section_syntax.specs.declared.part.SectionKind.TheVariants as kinds
use Rattle.cabal_lexer.specs.Tree.{end, field}
use Rattle.package_declarations.specs.Components.{buildable, is_public}
use Rattle.package_declarations.specs.Declarations.{meaning, meant, own_name}
use Rattle.description.specs.Description.{cabal_version, missing}
use Rattle.description.specs.Faults.{repeated, unknown_stanzas}
use Rattle.description.specs.FaultOrder.{first}
use Rattle.stanza_imports.specs.Imports.{with_imports_replaced}
use Rattle.package_declarations.specs.declared.declarations.Meaning.TheVariants.{Other, Own}
use Rattle.description.specs.declared.faults.Class.TheVariants.{Component}
use Rattle.description.specs.declared.fault_order.At.{At}

abbrev fault : ℕ → Cause → At
fault line cause = record { line = line; cause = cause }

abbrev part : ℕ → List Cond → Said → SectionPart
part line branches what = record { line = line; branches = branches; said = what }

abbrev section : ℕ → SectionKind → List ℕ → List SectionPart → Section
section line kind name parts = record { line = line; kind = kind; name = name; parts = parts }

abbrev a : Cond
a = Flag (codes "a")

abbrev b : Cond
b = Flag (codes "b")

-- the least line, and on one line the cause of the least rank
the_least_line : first (fault 7 BadName ∷ fault 5 UnknownFlag ∷ fault 5 BadField ∷ []) ≡ Some (fault 5 BadField)
the_least_line = refl

-- a part under `a` in a stanza that is imported under `b`
imported : with_imports_replaced
    (section 4 kinds.Common (codes "s") (part 5 (a ∷ []) (said.Buildable (Some false)) ∷ [])
    ∷ section 6 (kinds.Component Library) [] (part 7 (b ∷ []) (said.Import (codes "s" ∷ []) true) ∷ part 8 [] said.BuildTools ∷ []) ∷ [])
    ≡ section 4 kinds.Common (codes "s") (part 5 (a ∷ []) (said.Buildable (Some false)) ∷ [])
    ∷ section 6 (kinds.Component Library) [] (part 5 (b ∷ a ∷ []) (said.Buildable (Some false)) ∷ part 8 [] said.BuildTools ∷ []) ∷ []
imported = refl

not_buildable_twice : buildable (part 5 (b ∷ a ∷ []) (said.Buildable (Some false)) ∷ part 6 [] (said.Buildable (Some true)) ∷ part 7 [] (said.Buildable (Some false)) ∷ [])
    ≡ And (Not (And b a)) (Not Always)
not_buildable_twice = refl

the_last_word : is_public (part 5 [] (said.Visibility (Some true)) ∷ part 6 (a ∷ []) (said.Visibility (Some false)) ∷ []) ≡ true
the_last_word = refl

abbrev sections : List Section
sections = section 4 (kinds.Component Library) (codes "sub") [] ∷ []

abbrev on : List ℕ → Dep
on name = record { line = 9; kind = dep_kind.Library; «package» = name; libs = Main ∷ []; exe = []; range = Any; internal = false }

abbrev named : List (Option (List ℕ)) → List HeadField
named names = map (λ name. record { line = 2; head = head.Name name }) names

abbrev file : Spec → File
file spec = record { spec = spec; heads = named (Some (codes "main") ∷ []); sections = sections }

another_package : meaning (file V3_0) (on (codes "base")) ≡ Other
another_package = refl

the_own_package : meaning (file V3_0) (on (codes "main")) ≡ Own
the_own_package = refl

abbrev its_library : Dep
its_library = record { line = 9; kind = dep_kind.Library; «package» = codes "main"; libs = Named (codes "sub") ∷ []; exe = []; range = Any; internal = true }

an_own_library : meant (file V3_0) (on (codes "sub")) ≡ its_library
an_own_library = refl

-- `sub:{sub,sub}`
named_twice : meant (file V3_0) (record (on (codes "sub")) { libs = Main ∷ Main ∷ [] }) ≡ its_library
named_twice = refl

-- `sub:{sub,other}`
beside_another : meaning (file V3_0) (record (on (codes "sub")) { libs = Main ∷ Named (codes "other") ∷ [] }) ≡ Other
beside_another = refl

-- in 3.4 a bare name is that of a package
a_package_in_3_4 : meant (file V3_4) (on (codes "sub")) ≡ on (codes "sub")
a_package_in_3_4 = refl

the_own_package_in_3_4 : meaning (file V3_4) (record (on (codes "main")) { libs = Named (codes "sub") ∷ [] }) ≡ Own
the_own_package_in_3_4 = refl

the_last_name : own_name (named (Some (codes "a") ∷ Some (codes "b") ∷ [])) ≡ Some (codes "b")
the_last_name = refl

no_name_behind_a_bad_one : own_name (named (Some (codes "a") ∷ None ∷ [])) ≡ None
no_name_behind_a_bad_one = refl

a_second_library : repeated Component (section 4 (kinds.Component Library) [] [] ∷ section 5 (kinds.Component Library) [] [] ∷ []) ≡ fault 5 DuplicateName ∷ []
a_second_library = refl

a_stanza_behind : unknown_stanzas (section 4 (kinds.Component Library) [] (part 5 [] (said.Import (codes "s" ∷ []) true) ∷ []) ∷ section 6 kinds.Common (codes "s") [] ∷ []) ≡ fault 5 UnknownStanza ∷ []
a_stanza_behind = refl

another_version : cabal_version (field 1 (codes "cabal-version") (codes "3.6" ∷ []) end) ≡ Err (fault 1 WrongCabalVersion)
another_version = refl

no_version : cabal_version (field 1 (codes "name") (codes "main" ∷ []) end) ≡ Err missing
no_version = refl
