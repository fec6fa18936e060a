-- The last package name.
use Rattle.std.proofs.Common.{◌≡◌, ℕ, List, [], ◌∷◌, ◌++◌, ap, ◌∙◌, refl}
use Rattle.std.specs.Prelude.{Option}
use Rattle.std.specs.Option.{option_or}
use Rattle.text_grammar.specs.Last.{last_given}
use Rattle.text_grammar.proofs.LastValue.{last_push}
use Rattle.section_syntax.specs.declared.part.Head.{Head}
use Rattle.section_syntax.specs.declared.part.Head.TheVariants as head
use Rattle.section_syntax.specs.declared.part.HeadField.{HeadField}
use Rattle.package_declarations.specs.Declarations.{joined, name_behind, name_said, own_name}

-- a `name` field replaces the earlier ones
name-more : (before : Option (Option (List ℕ))) (h : Head) → joined (option_or (name_said h) before) ≡ name_behind (joined before) h
name-more before (head.Name name) = refl
name-more before (head.Version version) = refl
name-more before (head.BuildType custom) = refl

pub own-name-more : (heads : List HeadField) (field : HeadField) → own_name (heads ++ field ∷ []) ≡ name_behind (own_name heads) field.head
own-name-more heads field = ap joined (last_push (λ f. name_said f.head) heads field) ∙ name-more (last_given (λ f. name_said f.head) heads) field.head
