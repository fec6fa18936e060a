-- The file behind a description.
use Rattle.std.proofs.Common.{◌≡◌, ℕ, List, Option, Some, None, refl, subst, ◌∙◌}
use Rattle.std.specs.declared.result.Result.{Result}
use Rattle.std.specs.declared.result.Result.TheVariants.{Ok, Err}
use Rattle.plan_types.specs.declared.description.Description.{Description}
use Rattle.plan_types.specs.declared.description.FlagDecl.{FlagDecl}
use Rattle.plan_types.specs.declared.element.Element.{Element}
use Rattle.plan_types.specs.declared.range.Spec.{Spec}
use Rattle.plan_types.specs.declared.version.Version.{Version}
use Rattle.component_cycle.specs.Cycle.{IsFirstOnCycle}
use Rattle.section_syntax.specs.File.{IsFile}
use Rattle.cabal_lexer.specs.Tree.{tree_of}
use Rattle.section_syntax.specs.declared.part.File.{File}
use Rattle.package_declarations.specs.Components.{components}
use Rattle.package_declarations.specs.Cycles.{needs}
use Rattle.package_declarations.specs.Declarations.{own_name}
use Rattle.package_declarations.specs.Flags.{AreFlags}
use Rattle.description.specs.Description.{IsFaultlessOutcome, IsFileOutcome, Describes, IsDescriptionOf, OfVersion, cabal_version, description, unless_circular, version_of}
use Rattle.description.specs.Faults.{faults}
use Rattle.description.specs.FaultOrder.{first}
use Rattle.description.specs.declared.fault_order.At.{At}
use Rattle.sound_description.proofs.Faultless.{Faultless, faultless, first-none}

-- a description, and the faultless file that it is of
pub record IsOf (items : List Element) (digest : List ℕ) (d : Description) : Type 0 where
  pub spec : Spec
  pub file : File
  pub name : List ℕ
  pub version : Version
  pub says : IsFile spec items file
  pub faultless : Faultless file
  pub named : own_name file.heads ≡ Some name
  pub versioned : version_of file.heads ≡ Some version
  pub acyclic : IsFirstOnCycle (needs (components file)) None
  pub flags : List FlagDecl
  pub declared : AreFlags file.sections flags
  pub is : d ≡ description file flags digest name version

module _ (items : List Element) (digest : List ℕ) (d : Description) where
  not-err : (at : At) → unless_circular None d ≡ Err at → IsOf items digest d
  not-err at e = absurd (cc e)

  module _ (spec : Spec) (file : File) (says : IsFile spec items file) (none : Faultless file) where
    by-cycle : (name : List ℕ) (version : Version) → own_name file.heads ≡ Some name → version_of file.heads ≡ Some version → (described : Description) → IsDescriptionOf file digest name version described
        → (circular : Option ℕ) → IsFirstOnCycle (needs described.components) circular → Ok d ≡ unless_circular circular described → IsOf items digest d
    by-cycle name version named versioned described of (Some n) first e = not-err _ e
    by-cycle name version named versioned described of None first e = record {
      spec = spec;
      file = file;
      name = name;
      version = version;
      says = says;
      faultless = none;
      named = named;
      versioned = versioned;
      acyclic = subst (λ (v : Description). IsFirstOnCycle (needs v.components) None) of.is first;
      flags = described.flags;
      declared = of.flags;
      is = cc e ∙ of.is;
    }

    by-heads : (name : Option (List ℕ)) (version : Option Version) → own_name file.heads ≡ name → version_of file.heads ≡ version → IsFaultlessOutcome file digest name version (Ok d) → IsOf items digest d
    by-heads None version named versioned e = not-err _ e
    by-heads (Some name) None named versioned e = not-err _ e
    by-heads (Some name) (Some version) named versioned e = by-cycle name version named versioned e.0 e.1 e.2 e.3 e.4

  by-faults : (spec : Spec) (file : File) → IsFile spec items file → (at : Option At) → first (faults file) ≡ at → IsFileOutcome file digest at (Ok d) → IsOf items digest d
  by-faults spec file says (Some at) is e = not-err at e
  by-faults spec file says None is e = by-heads spec file says (faultless file (first-none (faults file) is)) (own_name file.heads) (version_of file.heads) refl refl e

  by-version : (version : Result Spec At) → OfVersion version items digest (Ok d) → IsOf items digest d
  by-version (Err at) e = not-err at e
  by-version (Ok spec) e = by-faults spec e.0 e.1 (first (faults e.0)) refl e.2

  pub is_of : Describes items digest (Ok d) → IsOf items digest d
  is_of e = by-version (cabal_version (tree_of items)) e
