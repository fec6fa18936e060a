-- The elements of a file have a description or a first fault.
use Rattle.std.proofs.Common.{ℕ, List, Option, Some, None, Result, Ok, Err, refl}
use Rattle.plan_types.specs.declared.description.Description.{Description}
use Rattle.plan_types.specs.declared.description.FlagDecl.{FlagDecl}
use Rattle.plan_types.specs.declared.element.Element.{Element}
use Rattle.plan_types.specs.declared.range.Spec.{Spec}
use Rattle.plan_types.specs.declared.version.Version.{Version}
use Rattle.cabal_lexer.specs.Tree.{tree_of}
use Rattle.section_syntax.specs.declared.part.File.{File}
use Rattle.section_syntax.specs.declared.part.Section.{Section}
use Rattle.package_declarations.specs.Cycles.{needs}
use Rattle.package_declarations.specs.Declarations.{own_name}
use Rattle.package_declarations.specs.Flags.{AreFlags, declared_flags, name_before}
use Rattle.package_declarations.proofs.FlagOrder.{name-order}
use Rattle.common_laws.specs.StableSorts.{put_all}
use Rattle.description.specs.Description.{IsFaultlessOutcome, IsFileOutcome, Describes, OfVersion, cabal_version, description, missing, unless_circular, version_of}
use Rattle.description.specs.FaultOrder.{first}
use Rattle.description.specs.Faults.{faults}
use Rattle.description.specs.declared.fault_order.At.{At}
use Rattle.every_reading.proofs.CycleAnswers.{some_first}
use Rattle.every_reading.proofs.Sections.{some_file}
use Rattle.common_laws.specs.SortedInsertion.{all_move, all_sorted, all_stable}

some_flags : (sections : List Section) → (flags : List FlagDecl) × AreFlags sections flags
some_flags sections =
    let declared = declared_flags sections in (
      put_all name_before name-order declared,
      record { all = all_move name_before name-order declared; sorted = all_sorted name_before name-order declared; stable = all_stable name_before name-order declared },
    )

comes : (file : File) (digest : List ℕ) (name : Option (List ℕ)) (version : Option Version) → (outcome : Result Description At) × IsFaultlessOutcome file digest name version outcome
comes file digest None version = (Err missing, refl)
comes file digest (Some name) None = (Err missing, refl)
comes file digest (Some name) (Some version) =
    let flags = some_flags file.sections in
    let described = description file flags.0 digest name version in
    let circular = some_first (needs described.components) in
    (unless_circular circular.0 described, (described, record { flags = flags.1; is = refl }, circular.0, circular.1, refl))

comes_to : (file : File) (digest : List ℕ) (fault : Option At) → (outcome : Result Description At) × IsFileOutcome file digest fault outcome
comes_to file digest None = comes file digest (own_name file.heads) (version_of file.heads)
comes_to file digest (Some at) = (Err at, refl)

of_version : (version : Result Spec At) (items : List Element) (digest : List ℕ) → (outcome : Result Description At) × OfVersion version items digest outcome
of_version (Err at) items digest = (Err at, refl)
of_version (Ok spec) items digest =
    let file = some_file spec items in
    let outcome = comes_to file.0 digest (first (faults file.0)) in
    (outcome.0, (file.0, file.1, outcome.1))

pub some_description : (items : List Element) (digest : List ℕ) → (outcome : Result Description At) × Describes items digest outcome
some_description items digest = of_version (cabal_version (tree_of items)) items digest
