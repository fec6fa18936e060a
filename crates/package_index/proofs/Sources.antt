-- Sources of files without fault.
use Rattle.std.proofs.Common.{◌≡◌, ℕ, true, inl, inr, List, Option, Some, None, Result, Ok, Err, refl, sym, subst}
use Rattle.std.specs.List.{list_all}
use Rattle.plan_types.specs.Name.{is_package_name}
use Rattle.plan_types.specs.declared.condition.Env.{Env}
use Rattle.plan_types.specs.declared.description.Description.{Description}
use Rattle.plan_types.specs.declared.element.Element.{Element}
use Rattle.version_range.specs.Version.{is_version}
use Rattle.description.specs.Description.{Describes}
use Rattle.description.specs.declared.fault_order.At.{At}
use Rattle.outside_folder.specs.declared.calls.Content.{Content}
use Rattle.outside_folder.specs.Files.{Bytes}
use Rattle.flatten.specs.Demands.{demands_of, first_with_too_many_paths}
use Rattle.flatten.specs.Exposure.{exposed}
use Rattle.flatten.specs.Sound.{IsDescription, asked_packages}
use Rattle.cabal_file.specs.Source.{OfDescription, source_of, unless_beyond}
use Rattle.plan_types.specs.declared.index.Source.{Source}
use Rattle.index_files.specs.Sources.{Comes, OfBytes, bytes_in}

-- all descriptions that are read are sound and well-formed
pub record AreDescribed : Type 0 where
  pub sound : (items : List Element) (digest : List ℕ) (d : Description) → Describes items digest (Ok d) → IsDescription d
  pub name : (items : List Element) (digest : List ℕ) (d : Description) → Describes items digest (Ok d) → is_package_name d.name ≡ true
  pub version : (items : List Element) (digest : List ℕ) (d : Description) → Describes items digest (Ok d) → is_version d.version.parts ≡ true
  pub asked : (items : List Element) (digest : List ℕ) (d : Description) → Describes items digest (Ok d) → list_all is_package_name (asked_packages d) ≡ true

pub record IsWell (env : Env) (source : Source) : Type 0 where
  pub described : IsDescription source.description
  pub name : is_package_name source.description.name ≡ true
  pub version : is_version source.description.version.parts ≡ true
  pub asked : list_all is_package_name (asked_packages source.description) ≡ true
  pub none_beyond : first_with_too_many_paths env source.description ≡ None
  pub demands : source.flat ≡ demands_of env source.description
  pub offers : source.exposed ≡ exposed env source.description

same-ok : {A B : Type 0} (a b : A) → ◌≡◌ {A = Result A B} (Ok a) (Ok b) → a ≡ b
same-ok a b e = cc e

not-err : {A B G : Type 0} (a : A) (b : B) → ◌≡◌ {A = Result A B} (Ok a) (Err b) → G
not-err a b e = absurd (cc e)

module _ (laws : AreDescribed) (env : Env) where
  of-paths : (items : List Element) (digest : List ℕ) (d : Description) (source : Source) (beyond : Option ℕ) → first_with_too_many_paths env d ≡ beyond → Describes items digest (Ok d)
      → ◌≡◌ {A = Result Source At} (Ok source) (unless_beyond beyond (source_of env d)) → IsWell env source
  of-paths items digest d source None within describes is =
      subst (IsWell env) (sym (same-ok source (source_of env d) is)) (record {
        described = laws.sound items digest d describes;
        name = laws.name items digest d describes;
        version = laws.version items digest d describes;
        asked = laws.asked items digest d describes;
        none_beyond = within;
        demands = refl;
        offers = refl;
      })
  of-paths items digest d source (Some line) within describes is = not-err source _ is

  of-described : (items : List Element) (digest : List ℕ) (described : Result Description At) (source : Source) → Describes items digest described → OfDescription env described (Ok source) → IsWell env source
  of-described items digest (Ok d) source describes is = of-paths items digest d source (first_with_too_many_paths env d) refl describes is
  of-described items digest (Err at) source describes is = not-err source at is

  of-bytes : (bytes : Option Bytes) (source : Source) → OfBytes env bytes (Ok source) → IsWell env source
  of-bytes None source is = not-err source _ is
  of-bytes (Some bytes) source (inl misfit) = not-err source _ misfit.outcome_is
  of-bytes (Some bytes) source (inr laid) = of-described laid.items _ laid.comes.0 source laid.comes.1 laid.comes.2

  pub source-well : (content : Content) (source : Source) → Comes env content (Ok source) → IsWell env source
  source-well content source comes = of-bytes (bytes_in content) source comes
