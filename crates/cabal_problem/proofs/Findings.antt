-- In a sound index all packages and flags of an instance's demands exist, and its ranges have well-formed versions.
use Rattle.std.proofs.Common.{◌≡◌, ℕ, ◌+◌, ◌<◌, true, false, cond, not, ◌&&◌, ◌||◌, nat_eq, List, [], ◌∷◌, ◌++◌, length, map, flat_map, Some, None, refl, sym, ap, ◌∙◌, subst, inl, inr, arith}
use Rattle.std.specs.Prelude.{unwrap_or, Contains}
use Rattle.std.specs.List.{AllByRecursion, list_all, list_any, position_or_len}
use Rattle.std.specs.Cmp.Lexicographic.{pointwise}
use Rattle.std.proofs.lemmas.Bool.{false≢true, eq-eqb, lt-ltb, and_parts, and_from}
use Rattle.std.proofs.lemmas.List.{length-map}
use Rattle.plan_types.specs.declared.condition.Env.{Env}
use Rattle.plan_types.specs.declared.dependency.Dep.{Dep}
use Rattle.plan_types.specs.declared.dependency.DepKind.{DepKind}
use Rattle.plan_types.specs.declared.dependency.DepKind.TheVariants as kind
use Rattle.plan_types.specs.declared.dependency.Named.{Named}
use Rattle.plan_types.specs.declared.description.Component.{Component}
use Rattle.plan_types.specs.declared.description.Description.{Description}
use Rattle.plan_types.specs.declared.description.FlagDecl.{FlagDecl}
use Rattle.plan_types.specs.Guarded.{GuardedDep}
use Rattle.plan_types.specs.declared.index.Body.{Body}
use Rattle.plan_types.specs.declared.index.Body.TheVariants.{Source as SourceBody, Installed}
use Rattle.plan_types.specs.declared.index.Entry.{Entry}
use Rattle.plan_types.specs.declared.index.FlatDep.{FlatDep}
use Rattle.plan_types.specs.declared.index.Index.{Index}
use Rattle.plan_types.specs.declared.index.Package.{Package}
use Rattle.plan_types.specs.declared.index.Source.{Source}
use Rattle.conditionals.specs.Paths.{clean_paths}
use Rattle.flatten.specs.Demands.{ExternalDep, outward, outward_in, outward_of, external, paths_at, flat_of, demands_at, demands_of}
use Rattle.flatten.specs.Sound.{IsSound, IsPackage, IsEntry, IsSource, has_package, has_unit, has_units, IsBody, component_deps, is_of_components, is_unit}
use Rattle.version_range.specs.Version.{has_versions, is_version}
use Rattle.qualified_goals.specs.declared.variable.Qual.TheVariants.{Top}
use Rattle.qualified_goals.specs.declared.variable.Part.TheVariants.{Flag}
use Rattle.qualified_goals.proofs.OwnNumbers.{self}
use Rattle.qualified_goals.specs.Names.{Name, NameTable, AreNumbers, is_listed, flags_in, flag_names, number_of, package_names}
use Rattle.constraint_set.specs.Bars.{is_number}
use Rattle.common_laws.specs.Lists.{contains-none, contains-cases, contains-left, contains-right, contains-map, map-contains, contains-filter, contains-flat_map, flat_map-contains, all-at, all-from, any-at, any-from, place-below}
use Rattle.solver_index.specs.Places.{rising, number, flag_number}
use Rattle.cabal_problem.specs.Variables.{is_tool, is_tool_of, component_depends, depends_on_tool, declares, is_part}
use Rattle.cabal_problem.specs.Values.{is_flag}
use Rattle.solver_index.specs.Versions.{flats_have_versions, deps_have_versions, body_has_versions, entry_has_versions, entries_have_versions, packages_have_versions}
use Rattle.cabal_problem.specs.Lawful.{is_found, has_qual_for, flat_finds, body_finds, package_finds, packages_find}
use Rattle.solver_index.proofs.ListLaws.{rising-below}
use Rattle.std.proofs.lemmas.List.Elements.{Contains-get_or}
use Rattle.plan_types.specs.Bytes.{same_text}
use Rattle.plan_types.specs.Packages.{declared_by, entries_of, package_at, no_package}
use Rattle.common_laws.specs.Small.{same-is}

pub each-at : {X : Type 0} (P : X → Type 0) (xs : List X) (x : X) → AllByRecursion P xs → Contains xs x → P x
each-at P [] x h k = absurd (contains-none x k)
each-at P (y ∷ xs) x h k = elim (contains-cases y xs x k) [ inl e ↦ subst P e h.0 | inr r ↦ each-at P xs x h.1 r ]

-- ---- names

listed-from : (names : List Name) (name : Name) → Contains names name → is_listed names name ≡ true
listed-from names name h = any-from (same_text name) names name h (self name)

-- a listed name has a place
record HasPlace (names : List Name) (name : Name) : Type 0 where
  place : ℕ
  below : place < length names
  is : number_of names name ≡ Some place

listed-place : (names : List Name) (name : Name) → is_listed names name ≡ true → HasPlace names name
listed-place names name h =
    let place = position_or_len (same_text name) names in
    let below = place-below (same_text name) names h in
    record { place = place; below = below; is = ap (λ b. cond b (Some place) None) (lt-ltb place (length names) below) }

-- a flattened dependency, with its component and condition
pub record IsOutward (d : Description) (dep : Dep) : Type 0 where
  pub component : Component
  pub guarded : GuardedDep
  pub in_components : Contains d.components component
  pub in_deps : Contains component.build.deps guarded
  pub is_outward : Contains (outward d) (outward_of component guarded)
  pub external_is : not guarded.dep.internal ≡ true
  pub dep_is : guarded.dep ≡ dep

-- each dependency that the description lists with its conditions is one of a component
pub outward-at : (d : Description) (at : ExternalDep) → Contains (outward d) at → IsOutward d at.guarded.dep
outward-at d at h =
    let component = contains-flat_map outward_in d.components at h in
    let guarded = contains-map (outward_of component.0) (external component.0.build.deps) at component.2 in
    let kept = contains-filter (λ (g : GuardedDep). not g.dep.internal) component.0.build.deps guarded.0 guarded.1 in
    record {
      component = component.0;
      guarded = guarded.0;
      in_components = component.1;
      in_deps = kept.0;
      is_outward = subst (λ o. Contains (outward d) o) (sym guarded.2) h;
      external_is = kept.1;
      dep_is = ap (λ (o : ExternalDep). o.guarded.dep) guarded.2;
    }

flat-outward : (env : Env) (d : Description) (flat : FlatDep) → Contains (demands_of env d) flat → IsOutward d flat.dep
flat-outward env d flat h =
    let at = contains-flat_map (demands_at env) (outward d) flat h in
    let path = contains-map (flat_of at.0.component.kind at.0.guarded.dep) (clean_paths (paths_at env at.0)) flat at.2 in
    subst (IsOutward d) (ap (λ (f : FlatDep). f.dep) path.2) (outward-at d at.0 at.1)

pub in-component-deps : (d : Description) (component : Component) (guarded : GuardedDep) → Contains d.components component → Contains component.build.deps guarded → Contains (component_deps d) guarded.dep
in-component-deps d component guarded h k =
    flat_map-contains (λ (c : Component). map (λ (g : GuardedDep). g.dep) c.build.deps) d.components component guarded.dep h (map-contains (λ (g : GuardedDep). g.dep) component.build.deps guarded k)

module _ (index : Index) (names : NameTable) (numbers : AreNumbers index.packages names) where
  abbrev packages : List Package
  packages = index.packages

  package-listed : (name : Name) → has_package index name ≡ true → is_listed names.packages name ≡ true
  package-listed name h =
      let found = any-at (λ (p : Package). pointwise nat_eq p.name name) packages h in
      subst (λ l. is_listed l name ≡ true) (sym numbers.packages_are)
      (listed-from (package_names packages) name (subst (λ n. Contains (package_names packages) n) (same-is found.0.name name found.2) (map-contains (λ (p : Package). p.name) packages found.0 found.1)))

  package-place : (name : Name) → has_package index name ≡ true → HasPlace names.packages name
  package-place name h = listed-place names.packages name (package-listed name h)

  pub package-found : (name : Name) → has_package index name ≡ true → is_found packages names name ≡ true
  package-found name h =
      let has = package-place name h in
      let number_is : number packages names name ≡ has.place = ap (λ o. unwrap_or o (length packages)) has.is in
      let same : length names.packages ≡ length packages = ap length numbers.packages_are ∙ length-map packages (λ (p : Package). p.name) in
      lt-ltb (number packages names name) (length packages) (omega (arith, number_is, same, has.below))

  -- an existing package has its own number
  package-number : (name : Name) → has_package index name ≡ true → is_number (number_of names.packages name) (number packages names name) ≡ true
  package-number name h =
      let has = package-place name h in
      subst (λ o. is_number o (unwrap_or o (length packages)) ≡ true) (sym has.is) (eq-eqb has.place has.place refl)

  flag-number : (name : Name) → is_listed names.flags name ≡ true → is_number (number_of names.flags name) (flag_number names name) ≡ true
  flag-number name h =
      let has = listed-place names.flags name h in
      subst (λ o. is_number o (unwrap_or o 0) ≡ true) (sym has.is) (eq-eqb has.place has.place refl)

  pub outward-package : (env : Env) (source : Source) → IsSource env index source → (dep : Dep) → IsOutward source.description dep → has_package index dep.«package» ≡ true
  outward-package env source well dep is =
      let d = source.description in
      let asked = map (λ (o : ExternalDep). o.guarded.dep.«package») (outward d) in
      let set_up = map (λ (e : Dep). e.«package») d.setup in
      subst (λ (e : Dep). has_package index e.«package» ≡ true) is.dep_is
      (all-at (has_package index) (asked ++ set_up) is.guarded.dep.«package» well.packages
      (contains-left asked set_up is.guarded.dep.«package» (map-contains (λ (o : ExternalDep). o.guarded.dep.«package») (outward d) (outward_of is.component is.guarded) is.is_outward)))

  tool-asked : (d : Description) (guarded : GuardedDep) (component : Component) (t : ℕ) → Contains d.components component → Contains component.build.deps guarded → not guarded.dep.internal ≡ true
      → is_tool guarded.dep.kind ≡ true → is_number (number_of names.packages guarded.dep.«package») t ≡ true → list_any (component_depends names t) d.components ≡ true
  tool-asked d guarded component t h k out tool is =
      any-from (component_depends names t) d.components component h
      (any-from (λ (g : GuardedDep). is_tool_of names t g.dep) component.build.deps guarded k
      (and_from (not guarded.dep.internal && is_tool guarded.dep.kind) (is_number (number_of names.packages guarded.dep.«package») t) (and_from (not guarded.dep.internal) (is_tool guarded.dep.kind) out tool) is))

  -- the qualifier of the dependency has variables
  pub kind-found : (p : ℕ) (e : Entry) (source : Source) (guarded : GuardedDep) (component : Component) (k : DepKind) → guarded.dep.kind ≡ k
      → Contains (entries_of packages p) e → e.body ≡ SourceBody source → Contains source.description.components component → Contains component.build.deps guarded → not guarded.dep.internal ≡ true
      → is_of_components guarded.dep.kind ≡ true → has_package index guarded.dep.«package» ≡ true → has_qual_for packages names p k guarded.dep.«package» ≡ true
  kind-found p e source guarded component kind.Library same there body in_d in_c out comp found = refl
  kind-found p e source guarded component kind.Tool same there body in_d in_c out comp found =
      let t = number packages names guarded.dep.«package» in
      any-from (λ (f : Entry). depends_on_tool names t f.body) (entries_of packages p) e there
      (subst (λ b. depends_on_tool names t b ≡ true) (sym body)
      (tool-asked source.description guarded component t in_d in_c out (ap is_tool same) (package-number guarded.dep.«package» found)))
  kind-found p e source guarded component kind.Setup same there body in_d in_c out comp found = absurd (false≢true (sym (ap is_of_components same) ∙ comp))

  flat-found : (env : Env) (p : ℕ) (e : Entry) (source : Source) → Contains (entries_of packages p) e → e.body ≡ SourceBody source
      → IsSource env index source → (flat : FlatDep) → Contains source.flat flat → flat_finds packages names p flat ≡ true
  flat-found env p e source there body well flat h =
      let d = source.description in
      let is = flat-outward env d flat (subst (λ l. Contains l flat) well.demands h) in
      let found = outward-package env source well flat.dep is in
      let comp = all-at (λ (dep : Dep). is_of_components dep.kind) (component_deps d) is.guarded.dep well.description.component_kinds (in-component-deps d is.component is.guarded is.in_components is.in_deps) in
      let has = kind-found p e source is.guarded is.component is.guarded.dep.kind refl there body is.in_components is.in_deps is.external_is comp
      (subst (λ (dep : Dep). has_package index dep.«package» ≡ true) (sym is.dep_is) found) in
      and_from (is_found packages names flat.dep.«package») (has_qual_for packages names p flat.dep.kind flat.dep.«package») (package-found flat.dep.«package» found)
      (subst (λ (dep : Dep). has_qual_for packages names p dep.kind dep.«package» ≡ true) is.dep_is has)

  pub setup-found : (env : Env) (source : Source) → IsSource env index source → (dep : Dep) → Contains source.description.setup dep → is_found packages names dep.«package» ≡ true
  setup-found env source well dep h =
      let d = source.description in
      let asked = map (λ (o : ExternalDep). o.guarded.dep.«package») (outward d) in
      let set_up = map (λ (e : Dep). e.«package») d.setup in
      package-found dep.«package»
      (all-at (has_package index) (asked ++ set_up) dep.«package» well.packages (contains-right asked set_up dep.«package» (map-contains (λ (e : Dep). e.«package») d.setup dep h)))

  declared-listed : (p : Package) (e : Entry) (decl : FlagDecl) → Contains packages p → Contains p.entries e → Contains (declared_by e.body) decl → is_listed names.flags decl.name ≡ true
  declared-listed p e decl in_packages in_p in_e =
      numbers.flags_are decl.name
      ∙ listed-from (flag_names packages) decl.name
      (map-contains (λ (f : FlagDecl). f.name) (flat_map flags_in packages) decl
      (flat_map-contains flags_in packages p decl in_packages (flat_map-contains (λ (f : Entry). declared_by f.body) p.entries e decl in_p in_e)))

  unit-package : (id name : Name) → has_unit index id name ≡ true → has_package index name ≡ true
  unit-package id name h =
      let found = any-at (λ (p : Package). pointwise nat_eq p.name name && (p.local || list_any (is_unit id) p.entries)) packages h in
      any-from (λ (p : Package). pointwise nat_eq p.name name) packages found.0 found.1
      ((and_parts (pointwise nat_eq found.0.name name) (found.0.local || list_any (is_unit id) found.0.entries) found.2).0)

  units-found : (ids needs : List Name) → has_units index ids needs ≡ true → list_all (is_found packages names) needs ≡ true
  units-found [] [] h = refl
  units-found [] (name ∷ needs) h = absurd (false≢true h)
  units-found (id ∷ ids) [] h = refl
  units-found (id ∷ ids) (name ∷ needs) h =
      and_from (is_found packages names name) (list_all (is_found packages names) needs)
      (package-found name (unit-package id name ((and_parts (has_unit index id name) (has_units index ids needs) h).0)))
      (units-found ids needs ((and_parts (has_unit index id name) (has_units index ids needs) h).1))

  -- ---- the packages

  body-found : (env : Env) (p : ℕ) (e : Entry) (body : Body) → p < length packages → Contains (entries_of packages p) e → e.body ≡ body → IsBody env index body → body_finds packages names p body ≡ true
  body-found env p e (SourceBody source) below there is well =
      let d = source.description in
      let found = package_at packages p in
      let flags = list_all (λ (decl : FlagDecl). is_part names Top found (Flag (flag_number names decl.name))) d.flags in
      let deps = list_all (flat_finds packages names p) source.flat in
      let setup = list_all (λ (dep : Dep). is_found packages names dep.«package») d.setup in
      and_from flags (deps && setup)
      (all-from (λ (decl : FlagDecl). is_part names Top found (Flag (flag_number names decl.name))) d.flags (λ decl k.
      let declared : Contains (declared_by e.body) decl = subst (λ b. Contains (declared_by b) decl) (sym is) k in
      let listed = declared-listed found e decl (Contains-get_or packages p no_package below) there declared in
      any-from (λ (f : Entry). declares names (flag_number names decl.name) f.body) (entries_of packages p) e there
      (any-from (is_flag names (flag_number names decl.name)) (declared_by e.body) decl declared (flag-number decl.name listed))))
      (and_from deps setup (all-from (flat_finds packages names p) source.flat (flat-found env p e source there is well))
      (all-from (λ (dep : Dep). is_found packages names dep.«package») d.setup (setup-found env source well)))
  body-found env p e (Installed unit needs) below there is units = units-found unit.depends needs units

  pub entry-sound : (env : Env) → IsSound env index → (p : ℕ) → p < length packages → (e : Entry) → Contains (entries_of packages p) e → IsEntry env index (package_at packages p) e
  entry-sound env sound p below e there =
      each-at (IsEntry env index (package_at packages p)) (entries_of packages p) e
      (each-at (IsPackage env index) packages (package_at packages p) sound.packages (Contains-get_or packages p no_package below)).entries there

  pub all-found : (env : Env) → IsSound env index → packages_find packages names ≡ true
  all-found env sound =
      all-from (package_finds packages names) (rising (length packages)) (λ p k.
      let below = rising-below (length packages) p k in
      all-from (λ (e : Entry). body_finds packages names p e.body) (entries_of packages p) (λ e there.
      body-found env p e e.body below there refl (entry-sound env sound p below e there).body))

  pub extras-found : (extra : List Named) → list_all (λ named. has_package index named.name) extra ≡ true → list_all (λ named. is_found packages names named.name) extra ≡ true
  extras-found extra h =
      all-from (λ (named : Named). is_found packages names named.name) extra (λ named k.
      package-found named.name (all-at (λ (other : Named). has_package index other.name) extra named h k))

-- ---- ranges

source-versions : (env : Env) (index : Index) (source : Source) → IsSource env index source → flats_have_versions source.flat && deps_have_versions source.description.setup ≡ true
source-versions env index source well =
    let d = source.description in
    let flats = source.flat in
    let deps = component_deps d in
    and_from (flats_have_versions flats) (deps_have_versions d.setup)
    (all-from (λ (flat : FlatDep). has_versions flat.dep.range) flats (λ flat k.
    let is = flat-outward env d flat (subst (λ l. Contains l flat) well.demands k) in
    subst (λ (dep : Dep). has_versions dep.range ≡ true) is.dep_is
    (all-at (λ (dep : Dep). has_versions dep.range) (deps ++ d.setup) is.guarded.dep well.description.ranges_have_versions
    (contains-left deps d.setup is.guarded.dep (in-component-deps d is.component is.guarded is.in_components is.in_deps)))))
    (all-from (λ (dep : Dep). has_versions dep.range) d.setup (λ dep k.
    all-at (λ (other : Dep). has_versions other.range) (deps ++ d.setup) dep well.description.ranges_have_versions (contains-right deps d.setup dep k)))

body-versions : (env : Env) (index : Index) (body : Body) → IsBody env index body → body_has_versions body ≡ true
body-versions env index (SourceBody source) well = source-versions env index source well
body-versions env index (Installed unit needs) units = refl

pub all-versions : (env : Env) (index : Index) → IsSound env index → packages_have_versions index.packages ≡ true
all-versions env index sound =
    all-from (λ (p : Package). entries_have_versions p.entries) index.packages (λ p k.
    all-from entry_has_versions p.entries (λ e there.
    let is = each-at (IsEntry env index p) p.entries e (each-at (IsPackage env index) index.packages p sound.packages k).entries there in
    and_from (is_version e.instance.version.parts) (body_has_versions e.body) is.version (body-versions env index e.body is.body)))
