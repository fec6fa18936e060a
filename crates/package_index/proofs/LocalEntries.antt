-- The entry of a local package.
use Rattle.std.proofs.Common.{◌≡◌, ◌≤◌, true, List, length, refl, sym, subst}
use Rattle.std.specs.List.{AllByRecursion, IsDistinct}
use Rattle.std.specs.Cmp.Lexicographic.{bytes_decides}
use Rattle.plan_types.specs.declared.condition.Env.{Env}
use Rattle.plan_types.specs.declared.index.Entry.{Entry}
use Rattle.plan_types.specs.declared.index.Index.{Index}
use Rattle.flatten.specs.Sound.{asked_packages, has_package}
use Rattle.outside_folder.specs.Files.{Bytes}
use Rattle.index_files.specs.Closure.{asked_locally}
use Rattle.index_files.specs.Locals.{local_name, local_names}
use Rattle.index_files.specs.declared.local.Local.{Local}
use Rattle.index_assembly.specs.Entries.{entries_named, local_entries, source_entry}
use Rattle.package_index.proofs.Distinct.{is_named, one-named}
use Rattle.package_index.proofs.Entries.{IsEntryOf, source-is}
use Rattle.common_laws.specs.Each.{all-listed, each-any, each-both, each-map, each-passed}
use Rattle.package_index.proofs.Locals.{each-asked, entry-names}
use Rattle.package_index.proofs.Package.{IsRelease}
use Rattle.package_index.proofs.Sources.{IsWell}
use Rattle.package_index.proofs.UnitEntries.{is_of}
use Rattle.plan_types.specs.Bytes.{same_text}

abbrev entry : Local → Entry
entry local = source_entry true local.source

module _ (name : Bytes) (locals : List Local) where
  pub are-local-releases : AllByRecursion IsRelease (entries_named name (local_entries locals))
  are-local-releases =
      each-passed (is_of name) IsRelease (local_entries locals)
      (each-map (λ e. is_of name e ≡ true → IsRelease e) entry locals (each-any (λ local. is_of name (entry local) ≡ true → IsRelease (entry local)) locals (λ local named. refl)))

  pub one-local-entry : IsDistinct same_text (local_names locals) → length (entries_named name (local_entries locals)) ≤ 1
  one-local-entry once = one-named (λ (e : Entry). e.instance.name) name (local_entries locals) (subst (IsDistinct same_text) (sym (entry-names locals)) once)

  module _ (env : Env) (index : Index) where
    abbrev Has : Bytes → Type 0
    Has asked = has_package index asked ≡ true

    pub each-local : AllByRecursion (λ l. IsWell env l.source) locals → IsDistinct same_text (local_names locals) → AllByRecursion Has (asked_locally locals name)
        → AllByRecursion (IsEntryOf env index true name) (entries_named name (local_entries locals))
    each-local well once asked =
        each-passed (is_of name) (IsEntryOf env index true name) (local_entries locals)
        (each-map (λ e. is_of name e ≡ true → IsEntryOf env index true name e) entry locals
        (each-both (λ l. IsWell env l.source) (λ l. is_named local_name name l ≡ true → asked_locally locals name ≡ asked_packages l.source.description) (λ l. is_of name (entry l) ≡ true → IsEntryOf env index true name (entry l)) locals
        (λ l is asks named.
        source-is env index true name l.source is ((bytes_decides (local_name l) name).0 named)
        (all-listed (has_package index) (asked_packages l.source.description) (subst (AllByRecursion Has) (asks named) asked))) well (each-asked locals name once)))
