-- The elements of a file have at most one outcome.
use Rattle.std.proofs.Common.{◌≡◌, ℕ, List, sym, subst, ap, ◌∙◌}
use Rattle.std.specs.Prelude.{Option, None, Some}
use Rattle.std.specs.declared.result.Result.{Result}
use Rattle.std.specs.declared.result.Result.TheVariants.{Ok, Err}
use Rattle.plan_types.specs.declared.description.Description.{Description}
use Rattle.plan_types.specs.declared.element.Element.{Element}
use Rattle.plan_types.specs.declared.range.Spec.{Spec}
use Rattle.plan_types.specs.declared.version.Version.{Version}
use Rattle.component_cycle.specs.Cycle.{IsFirstOnCycle}
use Rattle.section_syntax.proofs.OneFile.{one_file}
use Rattle.section_syntax.specs.declared.part.File.{File}
use Rattle.package_declarations.specs.Cycles.{needs}
use Rattle.package_declarations.proofs.FlagOrder.{one-flags}
use Rattle.description.specs.Description.{IsFaultlessOutcome, IsFileOutcome, IsDescriptionOf, OfVersion, description, unless_circular}
use Rattle.description.specs.Faults.{faults}
use Rattle.description.specs.FaultOrder.{first}
use Rattle.description.specs.declared.fault_order.At.{At}

one-description : (file : File) (digest name : List ℕ) (version : Version) (a b : Description) →
    IsDescriptionOf file digest name version a → IsDescriptionOf file digest name version b → a ≡ b
one-description file digest name version a b p q =
    p.is ∙ ap (λ flags. description file flags digest name version) (one-flags file.sections a.flags b.flags p.flags q.flags) ∙ sym q.is

module _ (one_first : (graph : List (List ℕ)) (a b : Option ℕ) → IsFirstOnCycle graph a → IsFirstOnCycle graph b → a ≡ b) where
  one-comes : (file : File) (digest : List ℕ) (name : Option (List ℕ)) (version : Option Version) (a b : Result Description At) →
      IsFaultlessOutcome file digest name version a → IsFaultlessOutcome file digest name version b → a ≡ b
  one-comes file digest None version a b p q = p ∙ sym q
  one-comes file digest (Some name) None a b p q = p ∙ sym q
  one-comes file digest (Some name) (Some version) a b p q =
      let described = one-description file digest name version p.0 q.0 p.1 q.1 in
      let circular = one_first (needs q.0.components) p.2 q.2 (subst (λ (d : Description). IsFirstOnCycle (needs d.components) p.2) described p.3) q.3 in
      p.4 ∙ (λ i. unless_circular (circular i) (described i)) ∙ sym q.4

  one-comes-to : (file : File) (digest : List ℕ) (at : Option At) (a b : Result Description At) → IsFileOutcome file digest at a → IsFileOutcome file digest at b → a ≡ b
  one-comes-to file digest None a b p q = one-comes file digest _ _ a b p q
  one-comes-to file digest (Some at) a b p q = p ∙ sym q

  pub one-outcome : (version : Result Spec At) (items : List Element) (digest : List ℕ) (a b : Result Description At) → OfVersion version items digest a → OfVersion version items digest b → a ≡ b
  one-outcome (Err at) items digest a b p q = p ∙ sym q
  one-outcome (Ok spec) items digest a b p q =
      let file : p.0 ≡ q.0 = one_file spec items p.0 q.0 p.1 q.1 in
      one-comes-to q.0 digest (first (faults q.0)) a b (subst (λ f. IsFileOutcome f digest (first (faults f)) a) file p.2) q.2
