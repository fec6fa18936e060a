-- Local packages: each has the source of its file, and the names on which it depends are mentioned.
use Rattle.std.proofs.Common.{◌≡◌, ℕ, true, List, [], ◌∷◌, map, Option, Some, None, Ok, refl, sym, ap, ◌∙◌}
use Rattle.std.specs.Prelude.{option_and_then, position}
use Rattle.std.specs.List.{AllByRecursion, IsDistinct, slice_get}
use Rattle.std.proofs.lemmas.Cmp.{nat_list_eq_equiv}
use Rattle.plan_types.specs.declared.condition.Env.{Env}
use Rattle.plan_types.specs.declared.index.Entry.{Entry}
use Rattle.flatten.specs.Sound.{asked_packages}
use Rattle.outside_folder.specs.declared.calls.Content.{Content}
use Rattle.outside_folder.specs.Files.{Bytes}
use Rattle.plan_types.specs.declared.index.Source.{Source}
use Rattle.index_files.specs.Closure.{asked_by_local, asked_locally}
use Rattle.index_files.specs.Locals.{local_name, local_names}
use Rattle.index_files.specs.Readings.{IsFromFile}
use Rattle.index_files.specs.Sources.{Comes}
use Rattle.index_files.specs.declared.local.Local.{Local}
use Rattle.index_assembly.specs.Entries.{local_entries}
use Rattle.package_index.proofs.Distinct.{is_named}
use Rattle.common_laws.specs.Each.{each-then}
use Rattle.package_index.proofs.ByName.{found-at, none-named, the-only-one}
use Rattle.package_index.proofs.Sources.{IsWell}
use Rattle.plan_types.specs.Bytes.{same_text}

pub locals-well : (env : Env) → ((content : Content) (source : Source) → Comes env content (Ok source) → IsWell env source) → (locals : List Local) → AllByRecursion (IsFromFile env) locals → AllByRecursion (λ l. IsWell env l.source) locals
locals-well env well locals read = each-then (IsFromFile env) (λ l. IsWell env l.source) locals (λ l from. well from.0.content l.source from.1) read

module _ (locals : List Local) (name : Bytes) where
  abbrev IsAsked : Local → Type 0
  IsAsked local = is_named local_name name local ≡ true → asked_locally locals name ≡ asked_packages local.source.description

  asked-at : (place : Option ℕ) → position (same_text name) (local_names locals) ≡ place → IsDistinct same_text (local_names locals) → AllByRecursion IsAsked locals
  asked-at None none once = each-then (λ l. is_named local_name name l ≡ true → ⊥) IsAsked locals (λ l no e. absurd (no e)) (none-named local_name name locals none)
  asked-at (Some i) at once =
      let found = found-at local_name (same_text name) locals i at in
      each-then (λ l. is_named local_name name l ≡ true → l ≡ found.0) IsAsked locals (λ l only e.
      ap (λ o. asked_by_local (option_and_then (slice_get locals) o)) at ∙ ap asked_by_local found.1 ∙ ap (λ (m : Local). asked_packages m.source.description) (sym (only e)))
      (the-only-one local_name name locals i found.0 once found.1 (nat_list_eq_equiv.symm (local_name found.0) name ∙ found.2))

  pub each-asked : IsDistinct same_text (local_names locals) → AllByRecursion IsAsked locals
  each-asked once = asked-at (position (same_text name) (local_names locals)) refl once

pub entry-names : (locals : List Local) → map (λ (e : Entry). e.instance.name) (local_entries locals) ≡ local_names locals
entry-names [] = refl
entry-names (l ∷ locals) = ap (λ names. local_name l ∷ names) (entry-names locals)
