-- Shared: packages and declared flags have numbers of their own.
use Rattle.std.proofs.Common.{◌≡◌, ◌<◌, ℕ, true, cond, List, [], length, flat_map, get_or, Some, None, sym, ap, ◌∙◌, subst}
use Rattle.std.specs.Prelude.{unwrap_or}
use Rattle.std.specs.List.{Contains, position_or_len}
use Rattle.std.proofs.lemmas.Bool.{lt-ltb}
use Rattle.std.proofs.lemmas.List.{get_or-map, length-map}
use Rattle.std.proofs.lemmas.List.Elements.{Contains-get_or}
use Rattle.common_laws.specs.Lists.{any-from, flat_map-contains, map-contains, place-below}
use Rattle.plan_types.specs.Bytes.{same_text}
use Rattle.plan_types.specs.Packages.{declared_by, entries_of, no_package, package_at}
use Rattle.plan_types.specs.declared.description.FlagDecl.{FlagDecl}
use Rattle.plan_types.specs.declared.index.Entry.{Entry}
use Rattle.plan_types.specs.declared.index.Package.{Package}
use Rattle.qualified_goals.proofs.OwnNumbers.{own-number, self}
use Rattle.qualified_goals.specs.Names.{AreInGoalOrder, AreNumbers, NameTable, flag_names, flags_in, is_listed, number_of, package_names}
use Rattle.solver_index.specs.Places.{entry_at, flag_number, no_entry}

pub package-number : (packages : List Package) (names : NameTable) → AreInGoalOrder packages → AreNumbers packages names → (p : ℕ) → p < length packages
    → number_of names.packages (package_at packages p).name ≡ Some p
package-number packages names order numbers p below =
    let named = package_names packages in
    let within : p < length named = subst (λ n. p < n) (sym (length-map packages (λ (k : Package). k.name))) below in
    let name-at : get_or named p [] ≡ (package_at packages p).name = get_or-map (λ (k : Package). k.name) packages p no_package [] below in
    ap (number_of names.packages) (sym name-at) ∙ ap (λ ns. number_of ns (get_or named p [])) numbers.packages_are
    ∙ own-number named p order.once within

pub declared-number : (packages : List Package) (names : NameTable) → AreNumbers packages names → (p i : ℕ) → p < length packages → i < length (entries_of packages p)
    → (decl : FlagDecl) → Contains (declared_by (entry_at (entries_of packages p) i).body) decl → number_of names.flags decl.name ≡ Some (flag_number names decl.name)
declared-number packages names numbers p i below within decl declared =
    let e = entry_at (entries_of packages p) i in
    let there : Contains (flags_in (package_at packages p)) decl =
    flat_map-contains (λ (f : Entry). declared_by f.body) (entries_of packages p) e decl (Contains-get_or (entries_of packages p) i no_entry within) declared in
    let all : Contains (flag_names packages) decl.name =
    map-contains (λ (f : FlagDecl). f.name) (flat_map flags_in packages) decl
    (flat_map-contains flags_in packages (package_at packages p) decl (Contains-get_or packages p no_package below) there) in
    let listed : is_listed names.flags decl.name ≡ true = numbers.flags_are decl.name ∙ any-from (same_text decl.name) (flag_names packages) decl.name all (self decl.name) in
    let place = position_or_len (same_text decl.name) names.flags in
    let is : number_of names.flags decl.name ≡ Some place =
    ap (λ b. cond b (Some place) None) (lt-ltb place (length names.flags) (place-below (same_text decl.name) names.flags listed)) in
    is ∙ ap Some (sym (ap (λ o. unwrap_or o 0) is))
