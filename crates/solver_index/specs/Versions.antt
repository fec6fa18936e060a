-- Each version of an instance, and each version in a range, is well-formed.
use Rattle.std.specs.Prelude.{Bool, true, ◌&&◌, List}
use Rattle.std.specs.List.{list_all}
use Rattle.plan_types.specs.declared.dependency.Dep.{Dep}
use Rattle.plan_types.specs.declared.index.Body.{Body}
use Rattle.plan_types.specs.declared.index.Body.TheVariants.{Source, Installed}
use Rattle.plan_types.specs.declared.index.Entry.{Entry}
use Rattle.plan_types.specs.declared.index.FlatDep.{FlatDep}
use Rattle.plan_types.specs.declared.index.Package.{Package}
use Rattle.version_range.specs.Version.{has_versions, is_version}

-- for the ranges of flattened dependencies
abbrev pub flats_have_versions : List FlatDep → Bool
flats_have_versions flats = list_all (λ flat. has_versions flat.dep.range) flats

-- for the ranges of setup dependencies
abbrev pub deps_have_versions : List Dep → Bool
deps_have_versions deps = list_all (λ dep. has_versions dep.range) deps

-- for the ranges of an instance
abbrev pub body_has_versions : Body → Bool
body_has_versions (Source source) = flats_have_versions source.flat && deps_have_versions source.description.setup
body_has_versions (Installed record_of needs) = true

-- for an instance and its ranges
abbrev pub entry_has_versions : Entry → Bool
entry_has_versions e = is_version e.instance.version.parts && body_has_versions e.body

-- for the instances of a package
abbrev pub entries_have_versions : List Entry → Bool
entries_have_versions entries = list_all entry_has_versions entries

-- for all instances
abbrev pub packages_have_versions : List Package → Bool
packages_have_versions packages = list_all (λ p. entries_have_versions p.entries) packages
