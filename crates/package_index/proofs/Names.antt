-- Package names are well-formed: the roots of the closure, and the names that are mentioned.
use Rattle.std.proofs.Common.{◌≡◌, ℕ, true, false, if◌then◌else◌, inl, inr, List, [], ◌∷◌, ◌++◌, map, Option, Some, None, refl, sym, subst}
use Rattle.std.specs.Prelude.{option_and_then, position}
use Rattle.std.specs.List.{AllByRecursion, list_any, slice_get}
use Rattle.std.specs.Cmp.Lexicographic.{bytes_decides}
use Rattle.std.proofs.lemmas.Bool.{or_cases}
use Rattle.std.proofs.lemmas.Option.{none-some}
use Rattle.plan_types.specs.Name.{is_package_name}
use Rattle.plan_types.specs.declared.condition.Env.{Env}
use Rattle.plan_types.specs.declared.dependency.Named.{Named}
use Rattle.flatten.specs.Sound.{asked_packages}
use Rattle.outside_folder.specs.Files.{Bytes}
use Rattle.index_files.specs.Closure.{Ground, asked_by_local, asked_locally, mentioned, roots}
use Rattle.index_files.specs.Locals.{local_name, local_names}
use Rattle.index_files.specs.Names.{is_listed}
use Rattle.index_files.specs.Releases.{asked_by, asked_in}
use Rattle.index_files.specs.Steps.{is_given}
use Rattle.index_files.specs.Units.{IsWellFormed, known_name, name_at, needed_among, needed_names, place_of, unit_name}
use Rattle.index_files.specs.declared.closure.FoundName.{FoundName}
use Rattle.index_files.specs.declared.local.Local.{Local}
use Rattle.index_files.specs.declared.release.Judged.{Judged}
use Rattle.index_files.specs.declared.release.Judged.TheVariants.{Readable, Faulty}
use Rattle.index_files.specs.declared.release.Release.{Release}
use Rattle.index_files.specs.declared.unit.Unit.{Unit}
use Rattle.common_laws.specs.Each.{each-any, each-append, each-at, each-flat, each-listed, each-map, each-then, from-some}
use Rattle.package_index.proofs.Releases.{IsReleaseOf}
use Rattle.package_index.proofs.Sources.{IsWell}
use Rattle.plan_types.specs.Bytes.{same_text}

abbrev HasForm : Bytes → Type 0
HasForm name = is_package_name name ≡ true

-- a name listed among well-formed ones is well-formed
listed-formed : (name : Bytes) (names : List Bytes) → AllByRecursion HasForm names → is_listed names name ≡ true → HasForm name
listed-formed name names all listed =
    from-some (same_text name) (HasForm name) names
    (each-then HasForm (λ other. same_text name other ≡ true → HasForm name) names (λ other h e. subst HasForm (sym ((bytes_decides name other).0 e)) h) all) listed

-- ---- dependencies of local packages

each-looked : (P : Local → Type 0) (locals : List Local) (place : Option ℕ) (local : Local) → AllByRecursion P locals → option_and_then (slice_get locals) place ≡ Some local → P local
each-looked P locals None local all is = absurd (none-some local is)
each-looked P locals (Some i) local all is = each-at P locals i local all is

asked-formed : (env : Env) (asking : Option Local) → ((local : Local) → asking ≡ Some local → IsWell env local.source) → AllByRecursion HasForm (asked_by_local asking)
asked-formed env None well = tt
asked-formed env (Some local) well = each-listed is_package_name (asked_packages local.source.description) (well local refl).asked

-- ---- needs of units

module _ (units : List Unit) (formed : AllByRecursion IsWellFormed units) where
  at-formed : (place : ℕ) → AllByRecursion HasForm (name_at units place)
  at-formed place =
      elim (slice_get units place) as (λ (o : Option Unit). slice_get units place ≡ o → AllByRecursion HasForm (elim o as (λ o. List Bytes) [ None ↦ [] | Some u ↦ unit_name u ∷ [] ])) [
        | None ↦ λ e. tt
        | Some u ↦ λ e. (IsWellFormed.name (each-at IsWellFormed units place u formed e), tt)
      ] refl

  known-formed : (id : Bytes) → AllByRecursion HasForm (known_name units id)
  known-formed id =
      elim (place_of units id) as (λ (o : Option ℕ). AllByRecursion HasForm (elim o as (λ o. List Bytes) [ None ↦ [] | Some place ↦ name_at units place ])) [
        | None ↦ tt
        | Some place ↦ at-formed place
      ]

  names-formed : (u : Unit) → AllByRecursion HasForm (needed_names units u)
  names-formed u = each-flat HasForm (known_name units) u.record_of.depends (each-any (λ id. AllByRecursion HasForm (known_name units id)) u.record_of.depends known-formed)

  needed-formed : (name : Bytes) (some : List Unit) → AllByRecursion HasForm (needed_among units name some)
  needed-formed name some =
      let needed : Unit → List Bytes = λ u. if same_text (unit_name u) name then needed_names units u else [] in
      each-flat HasForm needed some (each-any (λ u. AllByRecursion HasForm (needed u)) some (λ u.
      elim (same_text (unit_name u) name) as (λ b. AllByRecursion HasForm (if b then needed_names units u else [])) [
        | true ↦ names-formed u
        | false ↦ tt
      ]))

-- ---- dependencies of releases

release-formed : (env : Env) (name : Bytes) (judged : Judged) → IsReleaseOf env name judged → AllByRecursion HasForm (asked_by judged)
release-formed env name (Readable source) good = each-listed is_package_name (asked_packages source.description) good.well.asked
release-formed env name (Faulty line cause) good = tt

releases-formed : (env : Env) (name : Bytes) (releases : List Release) → AllByRecursion (λ r. IsReleaseOf env name r.judged) releases → AllByRecursion HasForm (asked_in releases)
releases-formed env name releases good =
    each-flat HasForm (λ r. asked_by r.judged) releases
    (each-then (λ r. IsReleaseOf env name r.judged) (λ r. AllByRecursion HasForm (asked_by r.judged)) releases (λ r h. release-formed env name r.judged h) good)

-- ---- all names

module _ (ground : Ground) (locals : AllByRecursion (λ l. IsWell ground.env l.source) ground.locals) (units : AllByRecursion IsWellFormed ground.units) where
  abbrev IsGoodFound : FoundName → Type 0
  IsGoodFound f = AllByRecursion (λ r. IsReleaseOf ground.env f.name r.judged) f.releases

  abbrev place_of_local : Bytes → Option ℕ
  place_of_local name = position (same_text name) (local_names ground.locals)

  mentioned-formed : (f : FoundName) → IsGoodFound f → AllByRecursion HasForm (mentioned ground f)
  mentioned-formed f good =
      each-append HasForm (asked_locally ground.locals f.name ++ needed_among ground.units f.name ground.units) (asked_in f.releases)
      (each-append HasForm (asked_locally ground.locals f.name) (needed_among ground.units f.name ground.units)
      (asked-formed ground.env (option_and_then (slice_get ground.locals) (place_of_local f.name)) (λ local is.
      each-looked (λ l. IsWell ground.env l.source) ground.locals (place_of_local f.name) local locals is))
      (needed-formed ground.units units f.name ground.units))
      (releases-formed ground.env f.name f.releases good)

  roots-formed : AllByRecursion (λ (named : Named). HasForm named.name) ground.extra → AllByRecursion HasForm (roots ground)
  roots-formed extra =
      each-append HasForm (local_names ground.locals) (map (λ named. named.name) ground.extra)
      (each-map HasForm local_name ground.locals (each-then (λ l. IsWell ground.env l.source) (λ l. HasForm (local_name l)) ground.locals (λ l w. w.name) locals))
      (each-map HasForm (λ (named : Named). named.name) ground.extra extra)

  pub given-formed : (found : List FoundName) (name : Bytes) → AllByRecursion (λ (named : Named). HasForm named.name) ground.extra → AllByRecursion IsGoodFound found → is_given ground found name ≡ true → HasForm name
  given-formed found name extra good given = elim (or_cases (is_listed (roots ground) name) (list_any (λ f. is_listed (mentioned ground f) name) found) given) [
    | inl begun ↦ listed-formed name (roots ground) (roots-formed extra) begun
    | inr mention ↦
        from-some (λ f. is_listed (mentioned ground f) name) (HasForm name) found
        (each-then IsGoodFound (λ f. is_listed (mentioned ground f) name ≡ true → HasForm name) found (λ f h e. listed-formed name (mentioned ground f) (mentioned-formed f h) e) good) mention
  ]
