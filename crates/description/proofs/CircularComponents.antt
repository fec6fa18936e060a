-- The outcome of a file without faults of its own.
use Rattle.std.proofs.Common.{◌≡◌, ℕ, List, sym, subst, ap}
use Rattle.std.specs.Prelude.{Option, Some}
use Rattle.std.specs.declared.result.Result.TheVariants.{Err}
use Rattle.plan_types.specs.declared.description.Component.{Component}
use Rattle.plan_types.specs.declared.description.Description.{Description}
use Rattle.plan_types.specs.declared.refusal.Cause.TheVariants.{ComponentCycle}
use Rattle.plan_types.specs.declared.version.Version.{Version}
use Rattle.component_cycle.specs.Cycle.{IsFirstOnCycle}
use Rattle.section_syntax.specs.declared.part.File.{File}
use Rattle.package_declarations.specs.Cycles.{needs}
use Rattle.description.specs.Description.{IsFaultlessOutcome, IsDescriptionOf, line_of}
use Rattle.description.specs.FaultOrder.{is_at}

-- a component on a cycle
pub comes-circular : (file : File) (digest name : List ℕ) (version : Version) (named : Option (List ℕ)) (dated : Option Version) (d : Description)
    (components : List Component) (circular : Option ℕ) (number : ℕ) → named ≡ Some name → dated ≡ Some version →
    IsDescriptionOf file digest name version d → components ≡ d.components → IsFirstOnCycle (needs components) circular → circular ≡ Some number →
    IsFaultlessOutcome file digest named dated (Err (is_at (line_of components number) ComponentCycle))
comes-circular file digest name version named dated d components circular number named-is dated-is described components-are cycle circular-is =
    subst (λ n. IsFaultlessOutcome file digest n dated (Err (is_at (line_of components number) ComponentCycle))) (sym named-is)
    (subst (λ v. IsFaultlessOutcome file digest (Some name) v (Err (is_at (line_of components number) ComponentCycle))) (sym dated-is) (
      d,
      described,
      Some number,
      subst (λ cs. IsFirstOnCycle (needs cs) (Some number)) components-are (subst (IsFirstOnCycle (needs components)) circular-is cycle),
      ap (λ cs. Err (is_at (line_of cs number) ComponentCycle)) components-are,
    ))
