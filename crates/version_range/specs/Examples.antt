-- The definitions on small texts.
use Rattle.std.specs.Prelude.{◌≡◌, ℕ, Bool, ◌∷◌, [], true, false, refl, codes}
use Rattle.std.specs.Ordering.{is_eq, is_lt}
use Rattle.std.proofs.Common.{inl, inr, sym, ap, ◌∙◌, lit≤}
use Rattle.std.proofs.lemmas.Bool.{false≢true}
use Rattle.std.proofs.lemmas.Map.Lookups.{exact_bytes}
use Rattle.plan_types.specs.declared.version.Version.{Version}
use Rattle.plan_types.specs.Members.{order}
use Rattle.version_range.specs.Cuts.{inside, SomeAbove, IsRelaxed}
use Rattle.std.specs.Fmt.{digits}
use Rattle.common_laws.specs.Small.{is-equal}
use Rattle.plan_types.specs.declared.range.Range.TheVariants.{Any, AtLeast, Either}
use Rattle.plan_types.specs.declared.range.Spec.TheVariants.{V2_4}
use Rattle.version_range.specs.declared.operator.Operator.TheVariants as operator
use Rattle.version_range.specs.Version.{version_text}
use Rattle.version_range.specs.Print.{most_open}
use Rattle.version_range.specs.Grammar.{compared, any, version, atom, Stands, range, Viable, IsNewForm, ends_with_digit}
use Rattle.text_grammar.specs.Parts.{led, behind, one, more}

one_and_a_zero : version_text (1 ∷ 0 ∷ 12 ∷ []) ≡ codes "1.0.12"
unfolding digits
one_and_a_zero = refl

two_open : most_open 0 (codes "((-any) || -any) && (-none)") ≡ 2
two_open = refl

either_of_two : Stands V2_4 64 (codes ">= 1||-any") (Either (AtLeast (record { parts = 1 ∷ [] })) Any)
unfolding digits
either_of_two =
    range (codes ">= 1||-any") []
    (more
    (one (one (led [] refl (atom (version operator.AtLeast (led (codes " ") refl (compared (record { parts = 1 ∷ [] }) refl)))))))
    (behind [] refl (one (led [] refl (atom any)))))
    refl

-- ` -a` is viable: `ny` completes it
a_word_begun : Viable V2_4 64 (codes " -a")
a_word_begun = (codes "ny", Any, range (codes " -any") [] (one (one (led (codes " ") refl (atom any)))) refl)

a_set_is_new : IsNewForm V2_4 (codes "{1}")
a_set_is_new = refl

a_number_at_the_end : ends_with_digit (codes ">=1.2") ≡ true
a_number_at_the_end = refl

a_point_at_the_end : ends_with_digit (codes ">=1.") ≡ false
a_point_at_the_end = refl

abbrev one_and_a_half : Version
one_and_a_half = record { parts = 1 ∷ 5 ∷ [] }

abbrev one_number : ℕ → Version
one_number n = record { parts = n ∷ [] }

between_the_first_two_ends : inside (one_number 1 ∷ one_number 2 ∷ one_number 3 ∷ one_number 4 ∷ []) one_and_a_half ≡ true
between_the_first_two_ends = refl

at_the_second_end : inside (one_number 1 ∷ one_number 2 ∷ one_number 3 ∷ one_number 4 ∷ []) (one_number 2) ≡ false
at_the_second_end = refl

-- the set of 1 alone, relaxed
abbrev is_one : Version → Bool
is_one v = is_eq (order v.parts (1 ∷ []))

none_above_two : SomeAbove is_one (one_number 2) → ⊥
none_above_two s =
    let same = exact_bytes s.0.parts (1 ∷ []) (is-equal (order s.0.parts (1 ∷ [])) s.2) in
    false≢true (ap (λ parts. is_lt (order (2 ∷ []) parts)) (sym same) ∙ s.3)

newer_has_two : IsRelaxed true false is_one (one_number 2)
newer_has_two = inr (inl (refl, ((one_number 1, lit≤ tt, refl, refl), none_above_two)))

older_lacks_two : IsRelaxed false true is_one (one_number 2) → ⊥
older_lacks_two (inl h) = false≢true h
older_lacks_two (inr (inl r)) = false≢true r.0
older_lacks_two (inr (inr r)) = none_above_two r.1.0

nothing_stays_nothing : (v : Version) → IsRelaxed true true (λ w. false) v → ⊥
nothing_stays_nothing v (inl h) = false≢true h
nothing_stays_nothing v (inr (inl r)) = false≢true r.1.0.2
nothing_stays_nothing v (inr (inr r)) = false≢true r.1.0.2
