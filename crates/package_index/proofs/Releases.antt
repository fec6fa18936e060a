-- The releases of a package: each has the name and version of its path, and versions are distinct.
use Rattle.std.proofs.Common.{◌≡◌, ℕ, Bool, true, false, if◌then◌else◌, ◌⊎◌, inl, inr, List, [], ◌∷◌, ◌++◌, map, flat_map, Result, Ok, Err, refl, sym, ap, ◌∙◌, subst}
use Rattle.std.specs.List.{AllByRecursion, IsDistinct}
use Rattle.std.specs.Cmp.Lexicographic.{bytes_decides}
use Rattle.std.proofs.lemmas.Bool.{and_parts}
use Rattle.plan_types.specs.declared.condition.Env.{Env}
use Rattle.plan_types.specs.declared.index.Entry.{Entry}
use Rattle.plan_types.specs.declared.refusal.Cause.TheVariants.{WrongPlace}
use Rattle.plan_types.specs.declared.version.Version.{Version}
use Rattle.description.specs.declared.fault_order.At.{At}
use Rattle.outside_folder.specs.declared.calls.Content.{Content}
use Rattle.outside_folder.specs.declared.calls.Content.TheVariants.{Missing, TooLarge, Bytes as Holds}
use Rattle.outside_folder.specs.Files.{Bytes}
use Rattle.plan_types.specs.declared.index.Source.{Source}
use Rattle.index_files.specs.Releases.{AreReleases, IsOneRelease, IsReleaseIn, is_in_place, judged_as}
use Rattle.index_files.specs.Sources.{Comes}
use Rattle.index_files.specs.Steps.{AreJudged}
use Rattle.index_files.specs.declared.release.Judged.{Judged}
use Rattle.index_files.specs.declared.release.Judged.TheVariants.{Readable, Faulty}
use Rattle.index_files.specs.declared.release.Release.{Release}
use Rattle.index_assembly.specs.Entries.{entries_in, source_entry}
use Rattle.common_laws.specs.Each.{each-append}
use Rattle.package_index.proofs.Sources.{IsWell}
use Rattle.plan_types.specs.Bytes.{same_text}

-- the entries before sorting
abbrev pub entries_of : List Release → List Entry
entries_of releases = flat_map (λ release. entries_in release.judged) releases

abbrev pub numbers_of : Entry → List ℕ
numbers_of e = e.instance.version.parts

-- a sound source with this name
pub record IsSourceOf (env : Env) (name : Bytes) (source : Source) : Type 0 where
  pub well : IsWell env source
  pub name_is : source.description.name ≡ name

-- a release of this name: its source is sound, if it is readable
abbrev pub IsReleaseOf : Env → Bytes → Judged → Type 0
IsReleaseOf env name (Readable source) = IsSourceOf env name source
IsReleaseOf env name (Faulty line cause) = Unit {0}

abbrev HasNumbers : List ℕ → Judged → Type 0
HasNumbers numbers (Readable source) = source.description.version.parts ≡ numbers
HasNumbers numbers (Faulty line cause) = Unit {0}

pub record AreGood (env : Env) (name : Bytes) (releases : List Release) : Type 0 where
  pub each : AllByRecursion (λ r. IsReleaseOf env name r.judged) releases
  pub once : IsDistinct same_text (map numbers_of (entries_of releases))

-- a property of the source, if it is readable
abbrev pub OfReadable : (Source → Type 0) → Judged → Type 0
OfReadable P (Readable source) = P source
OfReadable P (Faulty line cause) = Unit {0}

entries-in : (P : Entry → Type 0) (judged : Judged) → OfReadable (λ source. P (source_entry false source)) judged → AllByRecursion P (entries_in judged)
entries-in P (Readable source) h = (h, tt)
entries-in P (Faulty line cause) h = tt

pub each-entry : (P : Entry → Type 0) (releases : List Release) → AllByRecursion (λ r. OfReadable (λ source. P (source_entry false source)) r.judged) releases → AllByRecursion P (entries_of releases)
each-entry P [] h = tt
each-entry P (r ∷ releases) h = each-append P (entries_in r.judged) (entries_of releases) (entries-in P r.judged h.0) (each-entry P releases h.1)

module _ (env : Env) (well : (content : Content) (source : Source) → Comes env content (Ok source) → IsWell env source) (name : Bytes) where
  abbrev IsAt : List ℕ → Judged → Type 0
  IsAt numbers judged = IsReleaseOf env name judged × HasNumbers numbers judged

  -- versions in order, each with at most one release
  abbrev AreAt : List (List ℕ) → List Release → Type 0
  AreAt [] releases = releases ≡ []
  AreAt (numbers ∷ all) releases =
      AreAt all releases ⊎ ((r : Release) × (more : List Release) × IsAt numbers r.judged × AreAt all more × (releases ≡ r ∷ more))

  in-place : (version : Version) (source : Source) (place : Bool) → is_in_place name version source.description ≡ place → IsWell env source
      → IsAt version.parts (if place then Readable source else Faulty 0 WrongPlace)
  in-place version source true e w =
      let parts = and_parts (same_text source.description.name name) (same_text source.description.version.parts version.parts) e in
      (record { well = w; name_is = (bytes_decides source.description.name name).0 parts.0 }, (bytes_decides source.description.version.parts version.parts).0 parts.1)
  in-place version source false e w = (tt, tt)

  judged-at : (version : Version) (content : Content) (outcome : Result Source At) → Comes env content outcome → IsAt version.parts (judged_as name version outcome)
  judged-at version content (Ok source) comes = in-place version source (is_in_place name version source.description) refl (well content source comes)
  judged-at version content (Err at) comes = (tt, tt)

  -- at most one release is here
  abbrev Here : List ℕ → List Release → Type 0
  Here numbers here = (here ≡ []) ⊎ ((r : Release) × IsAt numbers r.judged × (here ≡ r ∷ []))

  one-here : (version : Version) (path : Bytes) (content : Content) (here : List Release) → IsOneRelease env name version path content here → Here version.parts here
  one-here version path content here one =
      inr (
        record { path = path; judged = one.0 },
        subst (IsAt version.parts) (sym one.1.2) (judged-at version content one.1.0 one.1.1),
        one.2,
      )

  is-here : (version : Version) (path : Bytes) (content : Content) (here : List Release) → IsReleaseIn env name version path content here → Here version.parts here
  is-here version path Missing here is = inl is
  is-here version path TooLarge here is = one-here version path TooLarge here is
  is-here version path (Holds bytes) here is = one-here version path (Holds bytes) here is

  put-on : (numbers : List ℕ) (all : List (List ℕ)) (here more releases : List Release) → Here numbers here → AreAt all more → releases ≡ here ++ more → AreAt (numbers ∷ all) releases
  put-on numbers all here more releases (inl none) at is = inl (subst (AreAt all) (sym (is ∙ ap (λ rs. rs ++ more) none)) at)
  put-on numbers all here more releases (inr (r, good, one)) at is = inr (r, more, good, at, is ∙ ap (λ rs. rs ++ more) one)

  none-at : (all : List (List ℕ)) (releases : List Release) → releases ≡ [] → AreAt all releases
  none-at [] releases is = is
  none-at (numbers ∷ all) releases is = inl (none-at all releases is)

  -- the releases of some directories and files; without files there are none
  are-at : (dirs : List _) (files : List _) (releases : List Release) → AreReleases env name dirs files releases → AreAt (map (λ dir. dir.version.parts) dirs) releases
  are-at [] files releases is = is
  are-at (dir ∷ dirs) [] releases is = none-at (map (λ d. d.version.parts) (dir ∷ dirs)) releases is
  are-at (dir ∷ dirs) (file ∷ files) releases (here, more, is, rest, joined) =
      put-on dir.version.parts (map (λ d. d.version.parts) dirs) here more releases (is-here dir.version file.path file.content here is) (are-at dirs files more rest) joined

  -- ---- consequences

  abbrev IsGood : Release → Type 0
  IsGood r = IsReleaseOf env name r.judged

  each-good : (all : List (List ℕ)) (releases : List Release) → AreAt all releases → AllByRecursion IsGood releases
  each-good [] releases is = subst (AllByRecursion IsGood) (sym is) tt
  each-good (numbers ∷ all) releases (inl at) = each-good all releases at
  each-good (numbers ∷ all) releases (inr (r, more, good, at, is)) = subst (AllByRecursion IsGood) (sym is) (good.0, each-good all more at)

  abbrev versions : List Release → List (List ℕ)
  versions releases = map numbers_of (entries_of releases)

  -- a property of the versions holds of those of the releases
  one-more : (P : List ℕ → Type 0) (numbers : List ℕ) (judged : Judged) (rest : List Entry) → HasNumbers numbers judged → P numbers → AllByRecursion P (map numbers_of rest) → AllByRecursion P (map numbers_of (entries_in judged ++ rest))
  one-more P numbers (Readable source) rest is h each = (subst P (sym is) h, each)
  one-more P numbers (Faulty line cause) rest is h each = each

  each-version : (P : List ℕ → Type 0) (all : List (List ℕ)) (releases : List Release) → AreAt all releases → AllByRecursion P all → AllByRecursion P (versions releases)
  each-version P [] releases is each = subst (λ rs. AllByRecursion P (versions rs)) (sym is) tt
  each-version P (numbers ∷ all) releases (inl at) each = each-version P all releases at each.1
  each-version P (numbers ∷ all) releases (inr (r, more, good, at, is)) each =
      subst (λ rs. AllByRecursion P (versions rs)) (sym is)
      (one-more P numbers r.judged (entries_of more) good.1 each.0 (each-version P all more at each.1))

  one-apart : (numbers : List ℕ) (judged : Judged) (rest : List Entry) → HasNumbers numbers judged → AllByRecursion (λ w. same_text numbers w ≡ false) (map numbers_of rest) → IsDistinct same_text (map numbers_of rest)
      → IsDistinct same_text (map numbers_of (entries_in judged ++ rest))
  unfolding IsDistinct
  one-apart numbers (Readable source) rest is apart once = (subst (λ v. AllByRecursion (λ w. same_text v w ≡ false) (map numbers_of rest)) (sym is) apart, once)
  one-apart numbers (Faulty line cause) rest is apart once = once

  once-at : (all : List (List ℕ)) (releases : List Release) → AreAt all releases → IsDistinct same_text all → IsDistinct same_text (versions releases)
  unfolding IsDistinct
  once-at [] releases is once = subst (λ rs. IsDistinct same_text (versions rs)) (sym is) tt
  once-at (numbers ∷ all) releases (inl at) once = once-at all releases at once.1
  once-at (numbers ∷ all) releases (inr (r, more, good, at, is)) once =
      subst (λ rs. IsDistinct same_text (versions rs)) (sym is)
      (one-apart numbers r.judged (entries_of more) good.1 (each-version (λ w. same_text numbers w ≡ false) all more at once.0) (once-at all more at once.1))

  pub judged-good : (releases : List Release) → AreJudged env name releases → AreGood env name releases
  judged-good releases judged =
      let all = map (λ dir. dir.version.parts) judged.dirs in
      let at = are-at judged.dirs judged.files releases judged.are in
      record { each = each-good all releases at; once = once-at all releases at judged.once }
