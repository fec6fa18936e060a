-- The parts of bodies as they grow, and as stanzas are added after those that they import.
use Rattle.std.proofs.Common.{◌≡◌, ℕ, ◌+◌, ◌<◌, ◌≤◌, true, length, List, [], ◌∷◌, ◌++◌, map, flat_map, get_or, take, sym, ap, ◌∙◌, refl, arith, length-append}
use Rattle.std.specs.Prelude.{None, Some, nat_lt, sum_by}
use Rattle.std.specs.List.{list_all}
use Rattle.std.proofs.lemmas.Bool.Decides.{nat_tests}
use Rattle.std.proofs.lemmas.Grind.{common_steps, flat_map-append}
use Rattle.std.proofs.lemmas.List.{append-nil, get_or_past, get_or-map}
use Rattle.std.proofs.lemmas.List.Sums.{sum_by-append, sum_by-cons}
use Rattle.std.proofs.lemmas.List.Folds.{list_all-append}
use Rattle.std.proofs.lemmas.Option.{slice_get_read}
use Rattle.plan_types.specs.declared.condition.Cond.{Cond}
use Rattle.section_syntax.specs.declared.part.SectionPart.{SectionPart}
use Rattle.stanza_imports.specs.Lines.{first_line, lesser}
use Rattle.stanza_imports.specs.Imports.{under}
use Rattle.stanza_imports.specs.KnownStanzas.{Stanzas, parts_of}
use Rattle.stanza_imports.specs.Names.{number_of}
use Rattle.stanza_imports.specs.Standing.{ExpandsTo, Knows, is_below, joined, summary_under}
use Rattle.stanza_imports.specs.declared.stanzas.StanzaBody.{StanzaBody}
use Rattle.stanza_imports.specs.declared.stanzas.Stanzas as tables
use Rattle.stanza_imports.specs.declared.stanzas.ImportStep.{ImportStep}
use Rattle.stanza_imports.specs.declared.stanzas.ImportStep.TheVariants as step
use Rattle.stanza_imports.proofs.FirstLines.{first_line-append}
use Rattle.stanza_imports.proofs.StanzaLookups.{by_number, by_none}
use Rattle.stanza_imports.proofs.BodyTurns.{told_at, in_front, length-in_turn, in_turn-append}
use Rattle.std.proofs.lemmas.Bool.{and_from, and_parts}
use Rattle.common_laws.specs.Small.{capped, capped-add}
use Rattle.stanza_imports.specs.Bodies.{step_parts, body_parts, table, first_bad, weight, weight_of, summary}
use Rattle.stanza_imports.specs.Parts.{bad_visibility}

pub first_bad-append : (xs ys : List SectionPart) → first_bad (xs ++ ys) ≡ lesser (first_bad xs) (first_bad ys)
first_bad-append xs ys = ap first_line (flat_map-append bad_visibility xs ys) ∙ first_line-append (flat_map bad_visibility xs) (flat_map bad_visibility ys)

weight-append : (xs ys : List SectionPart) → weight_of (xs ++ ys) ≡ capped (weight_of xs + weight_of ys)
weight-append xs ys =
    ap capped (sum_by-append weight xs ys) ∙ sym (capped-add (sum_by weight xs) (sum_by weight ys))

pub summary-append : (xs ys : List SectionPart) → summary (xs ++ ys) ≡ joined (summary xs) (summary ys)
summary-append xs ys = λ i. record { bad_visibility = first_bad-append xs ys i; weight = weight-append xs ys i }

-- branches add no weight
weight-under : (branches : List Cond) (parts : List SectionPart) → sum_by weight (map (under branches) parts) ≡ sum_by weight parts
weight-under branches [] = refl
weight-under branches (part ∷ parts) =
    sum_by-cons weight (under branches part) (map (under branches) parts)
    ∙ ap (λ n. weight part + n) (weight-under branches parts)
    ∙ sym (sum_by-cons weight part parts)

none_within : (c : Cond) (branches : List Cond) (parts : List SectionPart) → flat_map bad_visibility (map (under (c ∷ branches)) parts) ≡ []
none_within c branches [] = refl
none_within c branches (part ∷ parts) = none_within c branches parts

pub bad_inside : (c : Cond) (branches : List Cond) (parts : List SectionPart) → first_bad (map (under (c ∷ branches)) parts) ≡ None
bad_inside c branches parts = ap first_line (none_within c branches parts)

pub under_none : (parts : List SectionPart) → map (under []) parts ≡ parts
under_none [] = refl
under_none (part ∷ parts) = ap (λ v. part ∷ v) (under_none parts)

pub summary-under : (branches : List Cond) (parts : List SectionPart) → summary (map (under branches) parts) ≡ summary_under branches (summary parts)
summary-under [] parts = ap summary (under_none parts)
summary-under (c ∷ branches) parts =
    λ i. record { bad_visibility = bad_inside c branches parts i; weight = capped (weight-under (c ∷ branches) parts i) }

-- one more step
pub means_more : (stanzas : List StanzaBody) (old new : StanzaBody) (said parts : List SectionPart) (one : ImportStep) → new.steps.items ≡ old.steps.items ++ one ∷ [] →
    step_parts (table stanzas) one ≡ parts → is_below (length stanzas) one ≡ true → new.summary ≡ joined old.summary (summary parts) →
    ExpandsTo stanzas old said → ExpandsTo stanzas new (said ++ parts)
means_more stanzas old new said parts one steps is below told means = record {
  parts =
      ap (flat_map (step_parts (table stanzas))) steps
      ∙ flat_map-append (step_parts (table stanzas)) old.steps.items (one ∷ [])
      ∙ (λ i. means.parts i ++ (append-nil (step_parts (table stanzas) one) ∙ is) i);
  told = told ∙ ap (λ v. joined v (summary parts)) means.told ∙ sym (summary-append said parts);
  within =
      ap (list_all (is_below (length stanzas))) steps
      ∙ list_all-append (is_below (length stanzas)) old.steps.items (one ∷ [])
      ∙ and_from _ _ means.within (and_from _ _ below refl);
}

-- no more parts
pub means_same : (stanzas : List StanzaBody) (body : StanzaBody) (said parts : List SectionPart) → parts ≡ [] → ExpandsTo stanzas body said → ExpandsTo stanzas body (said ++ parts)
means_same stanzas body said parts none means = rw none (rw (append-nil said) means)

-- the stanza of a number
module _ (known : Stanzas) (stanzas : tables.Stanzas) (knows : Knows known stanzas) (name : List ℕ) where
  pub not_there : number_of stanzas.names name ≡ None → parts_of known name ≡ []
  not_there e = knows.found name ∙ by_none knows.ones name (ap (λ v. number_of v name) (sym knows.names) ∙ e)

  pub there : (n : ℕ) → number_of stanzas.names name ≡ Some n → get_or (table stanzas.bodies.items) n [] ≡ parts_of known name
  there n e =
      ap (λ v. get_or v n []) knows.parts
      ∙ sym (by_number knows.ones name n (ap (λ v. number_of v name) (sym knows.names) ∙ e))
      ∙ sym (knows.found name)

  pub not_within : (n : ℕ) → number_of stanzas.names name ≡ Some n → length stanzas.bodies.items ≤ n → parts_of known name ≡ []
  not_within n e h =
      sym (there n e) ∙ get_or_past (table stanzas.bodies.items) n [] (let l = length-in_turn body_parts [] stanzas.bodies.items in omega arith)

  pub empty_there : (n : ℕ) (body : StanzaBody) → number_of stanzas.names name ≡ Some n → n < length stanzas.bodies.items → body ≡ get_or stanzas.bodies.items n body → body.steps.items ≡ [] → parts_of known name ≡ []
  empty_there n body e h is none =
      sym (there n e) ∙ told_at body_parts [] n stanzas.bodies.items body (slice_get_read stanzas.bodies.items (length stanzas.bodies.items) n body refl h is) ∙ ap (flat_map (step_parts (table (take n stanzas.bodies.items)))) none

  pub told_there : (n : ℕ) (body : StanzaBody) → number_of stanzas.names name ≡ Some n → n < length stanzas.bodies.items → body ≡ get_or stanzas.bodies.items n body → body.summary ≡ summary (parts_of known name)
  told_there n body e h is =
      let bodies = stanzas.bodies.items in
      let l = length-in_turn body_parts [] bodies in
      sym (ap (λ (v : StanzaBody). v.summary) (sym is))
      ∙ sym (get_or-map (λ (v : StanzaBody). v.summary) bodies n body (summary []) h)
      ∙ ap (λ v. get_or v n (summary [])) knows.told
      ∙ get_or-map summary (table bodies) n [] (summary []) (omega arith)
      ∙ ap summary (there n e)

-- stanzas added after those that a body imports
module _ (stanzas more : List StanzaBody) where
  step_kept : (one : ImportStep) → is_below (length stanzas) one ≡ true → step_parts (table (stanzas ++ more)) one ≡ step_parts (table stanzas) one
  step_kept (step.Part part) below = refl
  step_kept (step.Import n branches) below =
      ap (λ v. map (under branches.now) (get_or v n [])) (in_turn-append body_parts [] stanzas more)
      ∙ ap (map (under branches.now)) (in_front body_parts [] n (table stanzas) more (before below))
    where
      before : nat_lt n (length stanzas) ≡ true → n < length (table stanzas)
      before e = let l = length-in_turn body_parts [] stanzas in grind (arith, common_steps, nat_tests)

  step_below : (one : ImportStep) → is_below (length stanzas) one ≡ true → is_below (length (stanzas ++ more)) one ≡ true
  step_below (step.Part part) below = refl
  step_below (step.Import n branches) below = let l = length-append stanzas more in grind (arith, common_steps, nat_tests)

  pub steps_kept : (steps : List ImportStep) → list_all (is_below (length stanzas)) steps ≡ true → flat_map (step_parts (table (stanzas ++ more))) steps ≡ flat_map (step_parts (table stanzas)) steps
  steps_kept [] e = refl
  steps_kept (one ∷ steps) e =
      let here = is_below (length stanzas) one in let rest = list_all (is_below (length stanzas)) steps in
      λ i. step_kept one ((and_parts here rest e).0) i ++ steps_kept steps ((and_parts here rest e).1) i

  pub steps_below : (steps : List ImportStep) → list_all (is_below (length stanzas)) steps ≡ true → list_all (is_below (length (stanzas ++ more))) steps ≡ true
  steps_below [] e = refl
  steps_below (one ∷ steps) e =
      let here = is_below (length stanzas) one in let rest = list_all (is_below (length stanzas)) steps in
      and_from _ _ (step_below one ((and_parts here rest e).0)) (steps_below steps ((and_parts here rest e).1))
