use Rattle.std.proofs.Common.{◌≡◌, ℕ, suc, Bool, List, [], ◌∷◌, length, true, ap, sym, ◌∙◌, map, get_or, refl, arith}
use Rattle.std.specs.Prelude.{nat_lt, ◌==◌}
use Rattle.std.proofs.lemmas.Bool.Decides.{nat_tests}
use Rattle.std.proofs.lemmas.Grind.{common_steps}
use Rattle.std.proofs.lemmas.Bool.{ltb-true}
use Rattle.stanza_imports.specs.Imports.{under}
use Rattle.stanza_imports.specs.KnownStanzas.{parts_of}
use Rattle.stanza_imports.specs.Names.{number_of}
use Rattle.stanza_imports.specs.declared.stanzas.ImportStep.{ImportStep}
use Rattle.stanza_imports.proofs.BodyMeanings.{means_same, not_there, there, empty_there, told_there}
use Rattle.stanza_imports.proofs.stanzas.Stanzas.import_one.Goals as goal

nothing : (xs : List ImportStep) {b : Bool} → b ≡ true → b ≡ (length xs == 0) → xs ≡ []
nothing [] is e = refl
nothing (x ∷ xs) {b} is e = absurd (some (length xs) b is e)
  where
    some : (n : ℕ) (b : Bool) → b ≡ true → b ≡ (suc n == 0) → ⊥
    some n b is e = grind (arith, common_steps, nat_tests)

pub returns-in_default : goal.returns-in_default
returns-in_default c known said knows means =
    means_same c.args.self.now.bodies.items c.args.body.now said (map (under c.args.branches.now) (parts_of known c.args.name.now))
    (ap (map (under c.args.branches.now)) (not_there known c.args.self.now knows c.args.name.now (ap (number_of c.args.self.now.names) (sym c.as_str.ensures) ∙ sym c.number_of.ensures ∙ c.in_default.is))) means

pub returns-then-is_empty : goal.returns-then-is_empty
returns-then-is_empty c known said knows means =
    means_same c.args.self.now.bodies.items c.args.body.now said (map (under c.args.branches.now) (parts_of known c.args.name.now))
    (ap (map (under c.args.branches.now)) (empty_there known c.args.self.now knows c.args.name.now c.in-Some.stanza c.in-Some-get.imported.now
    (ap (number_of c.args.self.now.names) (sym c.as_str.ensures) ∙ sym c.number_of.ensures ∙ c.in-Some.is)
    (ltb-true _ _ (sym (c.in-Some-get.ensures.lookup.0 ∙ ap (λ v. nat_lt c.in-Some.stanza (length v)) c.deref.ensures.value)))
    (c.in-Some-get.ensures.lookup.1 ∙ ap (λ v. get_or v c.in-Some.stanza c.in-Some-get.imported.now) c.deref.ensures.value)
    (sym c.as_slice.ensures.value ∙ nothing c.as_slice.result.now c.if-is_empty.true c.is_empty.ensures))) means

pub returns : goal.returns
returns c known said knows means =
    c.in_ok-push_import.ensures c.args.self.now.bodies.items said (parts_of known c.args.name.now) means (ltb-true _ _ (sym (c.in-Some-get.ensures.lookup.0 ∙ ap (λ v. nat_lt c.in-Some.stanza (length v)) c.deref.ensures.value)))
    (there known c.args.self.now knows c.args.name.now c.in-Some.stanza (ap (number_of c.args.self.now.names) (sym c.as_str.ensures) ∙ sym c.number_of.ensures ∙ c.in-Some.is))
    (told_there known c.args.self.now knows c.args.name.now c.in-Some.stanza c.in-Some-get.imported.now (ap (number_of c.args.self.now.names) (sym c.as_str.ensures) ∙ sym c.number_of.ensures ∙ c.in-Some.is)
    (ltb-true _ _ (sym (c.in-Some-get.ensures.lookup.0 ∙ ap (λ v. nat_lt c.in-Some.stanza (length v)) c.deref.ensures.value)))
    (c.in-Some-get.ensures.lookup.1 ∙ ap (λ v. get_or v c.in-Some.stanza c.in-Some-get.imported.now) c.deref.ensures.value))
