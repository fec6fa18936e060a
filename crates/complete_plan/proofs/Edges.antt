-- What a node needs follows a demand of its package, or a dependency among the components of its package.
use Rattle.std.proofs.Common.{◌≡◌, ◌⊎◌, inl, inr, ⊎_elim, ℕ, Bool, true, false, not, ◌&&◌, if◌then◌else◌, List, [], length, map, get_or, Option, Some, None, slice_get, refl, sym, ap, ◌∙◌, subst}
use Rattle.std.specs.List.{Contains, filter, flat_map}
use Rattle.std.proofs.lemmas.Bool.{and_from, and_parts, false≢true, not-true}
use Rattle.std.proofs.lemmas.List.{get_or_default}
use Rattle.std.proofs.lemmas.Option.{get_or_from_slice_get, slice_get_within}
use Rattle.common_laws.specs.Lists.{all-at, any-from, contains-append, contains-filter, contains-flat_map, contains-map, contains-none, filter-contains, flat_map-contains, map-contains}
use Rattle.common_laws.specs.Small.{same-is}
use Rattle.plan_types.specs.Bytes.{same_text}
use Rattle.plan_types.specs.Packages.{entries_of, is_installed, package_at}
use Rattle.plan_types.specs.declared.condition.FlagSet.{FlagSet}
use Rattle.plan_types.specs.declared.dependency.Dep.{Dep}
use Rattle.plan_types.specs.declared.dependency.DepKind.{DepKind}
use Rattle.plan_types.specs.declared.dependency.DepKind.TheVariants as dep_kind
use Rattle.plan_types.specs.declared.description.Component.{Component}
use Rattle.plan_types.specs.declared.description.Description.{Description}
use Rattle.plan_types.specs.Guarded.{GuardedDep}
use Rattle.plan_types.specs.declared.index.Body.{Body}
use Rattle.plan_types.specs.declared.index.Body.TheVariants.{Source as SourceBody, Installed}
use Rattle.plan_types.specs.declared.index.Source.{Source}
use Rattle.plan_types.specs.declared.index.UnitRecord.{UnitRecord}
use Rattle.conditionals.specs.Paths.{is_wanted}
use Rattle.conditionals.specs.Value.{flag_in, value}
use Rattle.flatten.specs.Counting.{are_met, flags_of}
use Rattle.flatten.specs.Demands.{external, outward, outward_in, outward_of, stanza_of}
use Rattle.flatten.specs.OwnComponents.{Leads, asks_for, at_once, finds_all, needs}
use Rattle.flatten.specs.Sound.{IsDescription, component_deps, is_of_components, is_of_setup, is_own}
use Rattle.flatten.specs.WholeCondition.{whole_condition}
use Rattle.qualified_goals.specs.declared.variable.Qual.{Qual}
use Rattle.qualified_goals.specs.declared.variable.Qual.TheVariants.{Setup}
use Rattle.qualified_goals.specs.declared.variable.Var.{Var}
use Rattle.qualified_goals.specs.Names.{Name}
use Rattle.choice_problem.specs.Assignment.{is_made}
use Rattle.choice_problem.specs.General.{Request, request_of}
use Rattle.choice_problem.proofs.TrailLemmas.{is_made-from}
use Rattle.solver_index.specs.Allowed.{is_unit, unless_local}
use Rattle.solver_index.specs.Places.{entry_at, number, places, rising}
use Rattle.solver_index.proofs.ListLaws.{rising-below}
use Rattle.cabal_problem.specs.Laws.{rising-has}
use Rattle.cabal_problem.specs.ListedDemands.{has_stanzas, qual_for, unit_demand, unit_demands}
use Rattle.cabal_problem.specs.Values.{package_var}
use Rattle.cabal_problem.specs.WholeDemands.{body_requests, has_stanza_variable, setup_request, setup_requests, whole_request}
use Rattle.plan_components.specs.declared.node.Need.{Need}
use Rattle.plan_components.specs.declared.node.Node.{Node}
use Rattle.plan_components.specs.declared.node.Piece.{Piece}
use Rattle.plan_components.specs.declared.node.Piece.TheVariants.{Whole, One}
use Rattle.plan_components.specs.Chosen.{Selection, body_at, chosen_flags, condition_holds}
use Rattle.plan_components.specs.Needs.{meant_pieces, means, component_needs, counts, dep_needs, need_of, needs_by, needs_of, one_needs, piece_needs, qual_of_dep, unit_need, wanted_needs}
use Rattle.plan_components.specs.Wanted.{as_pieces, is_asked, is_wanted_under, node_of, places as component_places}
use Rattle.complete_plan.proofs.Flags.{asked-kind, flags, flags-kept, parts}
use Rattle.complete_plan.proofs.Given.{Given, IsChosen, PackageEdge, allows, at-chosen, body-sound, chosen-at, edge-to, owner, own-number-is, packages, selection, value-of-target}
use Rattle.complete_plan.proofs.Known.{yes-stays}
use Rattle.complete_plan.proofs.Pieces.{Fits, IsWell, need-well, places-at}
use Rattle.complete_plan.proofs.Requests.{chooser, from-deps, from-scripts}

-- ---- components of packages

-- the variable of a node's package
abbrev pub var_of : Node → Var
var_of node = package_var node.qual node.«package»

-- the components of an instance that may be there
abbrev pub components_in : Option Body → List Component
components_in None = []
components_in (Some (SourceBody source)) = source.description.components
components_in (Some (Installed record_of needs)) = []

-- the component that a piece is
abbrev pub component_at : List Component → Piece → Option Component
component_at components Whole = None
component_at components (One place) = slice_get components place

abbrev pub components_of : Selection → Node → List Component
components_of selection node = components_in (body_at selection node.qual node.«package»)

-- both are components of one package, of which the first needs the second
pub record IsInner (selection : Selection) (node other : Node) : Type 0 where
  pub qual_is : node.qual ≡ other.qual
  pub package_is : node.«package» ≡ other.«package»
  pub from : Component
  pub to : Component
  pub from_is : component_at (components_of selection node) node.piece ≡ Some from
  pub to_is : component_at (components_of selection other) other.piece ≡ Some to
  pub leads : Leads (components_of selection node) from to

pub contains-at : (components : List Component) (place : ℕ) (c : Component) → slice_get components place ≡ Some c → Contains components c
contains-at components place c h = (place, slice_get_within components place c h, get_or_from_slice_get components place c c h)

means-for : (kind : DepKind) (dep : Dep) (c : Component) → is_of_components kind ≡ true → means kind dep c ≡ true → asks_for kind dep c ≡ true
means-for dep_kind.Library dep c h k = k
means-for dep_kind.Tool dep c h k = k
means-for dep_kind.Setup dep c h k = absurd (false≢true h)

of-setup : (kind : DepKind) → is_of_setup kind ≡ true → kind ≡ dep_kind.Setup
of-setup dep_kind.Library h = absurd (false≢true h)
of-setup dep_kind.Tool h = absurd (false≢true h)
of-setup dep_kind.Setup h = refl

one-piece : (custom : Bool) (ks : List ℕ) (piece : Piece) → custom ≡ false → Contains (as_pieces custom ks) piece → (k : ℕ) × Contains ks k × (One k ≡ piece)
one-piece custom ks piece is h = contains-map One ks piece (subst (λ b. Contains (as_pieces b ks) piece) is h)

among-deps : (d : Description) (component : Component) (guarded : GuardedDep) → Contains d.components component → Contains component.build.deps guarded → Contains (component_deps d) guarded.dep
among-deps d component guarded inside dep_inside =
    flat_map-contains (λ (x : Component). map (λ (y : GuardedDep). y.dep) x.build.deps) d.components component guarded.dep inside
    (map-contains (λ (y : GuardedDep). y.dep) component.build.deps guarded dep_inside)

outward-there : (d : Description) (component : Component) (guarded : GuardedDep) → Contains d.components component → Contains component.build.deps guarded → guarded.dep.internal ≡ false
    → Contains (outward d) (outward_of component guarded)
outward-there d component guarded inside dep_inside out =
    flat_map-contains outward_in d.components component (outward_of component guarded) inside
    (map-contains (outward_of component) (external component.build.deps) guarded
    (filter-contains (λ (other : GuardedDep). not other.dep.internal) component.build.deps guarded dep_inside (ap not out)))

-- ---- a source instance

module _ (g : Given) (node : Node) (source : Source) (c : IsChosen g node.qual node.«package» (SourceBody source)) where
  abbrev d : Description
  d = source.description

  abbrev q : Qual
  q = node.qual

  abbrev p : ℕ
  p = node.«package»

  abbrev body : Body
  body = SourceBody source

  described : IsDescription d
  described = (body-sound g q p body c).description

  abbrev target_of : Dep → ℕ
  target_of dep = number (packages g) g.valid.names dep.«package»

  -- what is needed for a dependency is of the package under the qualifier that the dependency has
  needed-var : (dep : Dep) (need : Need) → Contains (dep_needs (selection g) node dep) need → package_var (qual_of_dep node dep (target_of dep)) (target_of dep) ≡ var_of need.node
  needed-var dep need h =
      let t = target_of dep in
      let under = qual_of_dep node dep t in
      let found = contains-map (need_of dep.kind under t) (meant_pieces dep (body_at (selection g) under t)) need h in
      ap (λ (n : Need). var_of n.node) found.2

  -- a dependency on another package that counts
  pub dep-edge : (component : Component) (guarded : GuardedDep) (need : Need) → Contains d.components component → is_asked (selection g) q p component.kind ≡ true
      → Contains component.build.deps guarded → guarded.dep.internal ≡ false → condition_holds g.valid.env (flags g q p source c) (whole_condition component guarded) ≡ true
      → Contains (dep_needs (selection g) node guarded.dep) need → PackageEdge g (var_of node) (var_of need.node)
  dep-edge component guarded need inside wanted dep_inside out counts_so h =
      let dep = guarded.dep in
      let t = target_of dep in
      let at = outward_of component guarded in
      let made = chooser g q p source c in
      let known = parts g q p source c in
      let can = asked-kind g q p source c component.kind wanted in
      let request = whole_request g.valid.env (packages g) g.valid.names made (allows g q p body c) in
      let stanzas = has_stanzas (packages g) made.var in
      let asked = from-deps g q p source c (request at)
      (map-contains request (filter (has_stanza_variable stanzas) (outward d)) at (filter-contains (has_stanza_variable stanzas) (outward d) at (outward-there d component guarded inside dep_inside out) can.has)) in
      let is_yes = is_wanted true (value g.valid.env (flags_of known) (whole_condition component guarded)) in
      let counted = and_from (are_met known (stanza_of component.kind)) is_yes can.met
      (yes-stays g.valid.env (flag_in (flags g q p source c)) (flags_of known) (flags-kept g q p source c) (whole_condition component guarded) counts_so) in
      let edge = edge-to g q p body c (request at) asked (and_from (is_made g.valid.assignment made) (are_met known (stanza_of component.kind) && is_yes) (is_made-from g.valid.assignment made c.value) counted) refl in
      let under : qual_of_dep node dep t ≡ qual_for dep.kind (package_var q p) t = ap (λ b. if b then q else qual_for dep.kind (package_var q p) t) out in
      subst (PackageEdge g (var_of node)) (ap (λ k. package_var k t) (sym under) ∙ needed-var dep need h) edge

  -- a dependency of the setup script
  pub setup-edge : (dep : Dep) (need : Need) → d.custom ≡ true → Contains d.setup dep → Contains (dep_needs (selection g) node dep) need → PackageEdge g (var_of node) (var_of need.node)
  setup-edge dep need custom inside h =
      let t = target_of dep in
      let made = chooser g q p source c in
      let request = setup_request (packages g) g.valid.names made (allows g q p body c) in
      let kinds = and_parts (is_of_setup dep.kind) (not dep.internal)
      (all-at (λ (other : Dep). is_of_setup other.kind && not other.internal) d.setup dep described.setup_kinds inside) in
      let asked = from-scripts g q p source c (request dep)
      (subst (λ b. Contains (setup_requests b (map request d.setup)) (request dep)) (sym custom) (map-contains request d.setup dep inside)) in
      let edge = edge-to g q p body c (request dep) asked (is_made-from g.valid.assignment made c.value) refl in
      let under : qual_of_dep node dep t ≡ Setup p =
      ap (λ b. if b then q else qual_for dep.kind (package_var q p) t) (not-true dep.internal kinds.1)
      ∙ ap (λ k. qual_for k (package_var q p) t) (of-setup dep.kind kinds.0) in
      subst (PackageEdge g (var_of node)) (ap (λ k. package_var k t) (sym under) ∙ needed-var dep need h) edge

  -- a dependency on the package itself
  pub own-edge : (place : ℕ) (component : Component) (guarded : GuardedDep) (need : Need) → body_at (selection g) q p ≡ Some body → node.piece ≡ One place → d.custom ≡ false
      → slice_get d.components place ≡ Some component → Contains component.build.deps guarded → guarded.dep.internal ≡ true
      → Contains (dep_needs (selection g) node guarded.dep) need → IsInner (selection g) node need.node
  own-edge place component guarded need chosen piece_is simple at dep_inside own h =
      let dep = guarded.dep in
      let t = target_of dep in
      let under = qual_of_dep node dep t in
      let inside = contains-at d.components place component at in
      let among = among-deps d component guarded inside dep_inside in
      let of_components = all-at (λ (other : Dep). is_of_components other.kind) (component_deps d) dep described.component_kinds among in
      let named : same_text dep.«package» d.name && finds_all dep.kind dep d.components ≡ true =
      sym (ap (λ b. if b then same_text dep.«package» d.name && finds_all dep.kind dep d.components else true) own)
      ∙ all-at (is_own d) (component_deps d) dep described.own_components among in
      let t_is : t ≡ p =
      ap (number (packages g) g.valid.names) (same-is dep.«package» d.name ((and_parts (same_text dep.«package» d.name) (finds_all dep.kind dep d.components) named).0))
      ∙ own-number-is g q p body c in
      let q_is : under ≡ q = ap (λ b. if b then q else qual_for dep.kind (package_var q p) t) own in
      let found = contains-map (need_of dep.kind under t) (meant_pieces dep (body_at (selection g) under t)) need h in
      let here : Contains (meant_pieces dep (Some body)) found.0 =
      subst (λ o. Contains (meant_pieces dep o) found.0)
      (ap (λ k. body_at (selection g) k t) q_is ∙ ap (body_at (selection g) q) t_is ∙ chosen) found.1 in
      let one = one-piece d.custom (component_places (means dep.kind dep) d.components) found.0 simple here in
      let other = places-at (means dep.kind dep) d.components one.0 one.1 in
      let same : node_of q p (One one.0) ≡ need.node =
      ap (node_of q p) one.2 ∙ ap (λ k. node_of q k found.0) (sym t_is) ∙ ap (λ k. node_of k t found.0) (sym q_is) ∙ ap (λ (n : Need). n.node) found.2 in
      let need_is : needs component other.component ≡ true =
      any-from (λ (x : GuardedDep). x.dep.internal && asks_for x.dep.kind x.dep other.component) component.build.deps guarded dep_inside
      (and_from dep.internal (asks_for dep.kind dep other.component) own (means-for dep.kind dep other.component of_components other.passes)) in
      subst (IsInner (selection g) node) same (record {
        qual_is = refl;
        package_is = refl;
        from = component;
        to = other.component;
        from_is = ap (λ o. component_at (components_in o) node.piece) chosen ∙ ap (component_at d.components) piece_is ∙ at;
        to_is = ap (λ o. component_at (components_in o) (One one.0)) chosen ∙ other.at;
        leads = subst (λ o. Leads (components_in o) component other.component) (sym chosen)
            (at_once component other.component (contains-at d.components one.0 other.component other.at) need_is);
      })

  -- ---- what a piece needs

  abbrev IsEdgeTo : Need → Type 0
  IsEdgeTo need = PackageEdge g (var_of node) (var_of need.node) ⊎ IsInner (selection g) node need.node

  abbrev values : List FlagSet
  values = flags g q p source c

  one-edge : (place : ℕ) (need : Need) → body_at (selection g) q p ≡ Some body → node.piece ≡ One place → Fits (selection g) q p body (One place)
      → Contains (one_needs (selection g) node values (slice_get d.components place)) need → IsEdgeTo need
  one-edge place need at piece_is fits h =
      let stands = fits.1 in
      let component = stands.component in
      let there : Contains (component_needs (selection g) node values true component) need = subst (λ o. Contains (one_needs (selection g) node values o) need) stands.at h in
      let from = contains-flat_map (λ (x : GuardedDep). dep_needs (selection g) node x.dep) (filter (counts (selection g) values true component) component.build.deps) need there in
      let guarded = from.0 in
      let kept = contains-filter (counts (selection g) values true component) component.build.deps guarded from.1 in
      elim guarded.dep.internal as (λ b. guarded.dep.internal ≡ b → IsEdgeTo need) [
        | true ↦ λ own. inr (own-edge place component guarded need at piece_is fits.0 stands.at kept.0 own from.2)
        | false ↦ λ out. inl (dep-edge component guarded need (contains-at d.components place component stands.at) stands.passes kept.0 out kept.1 from.2)
      ] refl

  whole-edge : (need : Need) → d.custom ≡ true → Contains (piece_needs (selection g) node values d Whole) need → IsEdgeTo need
  whole-edge need custom h = ⊎_elim
      (λ a.
      let of = contains-flat_map (component_needs (selection g) node values false) (filter (is_wanted_under (selection g) q p values) d.components) need a in
      let component = of.0 in
      let wanted = contains-filter (is_wanted_under (selection g) q p values) d.components component of.1 in
      let from = contains-flat_map (λ (x : GuardedDep). dep_needs (selection g) node x.dep) (filter (counts (selection g) values false component) component.build.deps) need of.2 in
      let guarded = from.0 in
      let kept = contains-filter (counts (selection g) values false component) component.build.deps guarded from.1 in
      let both = and_parts (not guarded.dep.internal) (condition_holds g.valid.env values (whole_condition component guarded)) kept.1 in
      let asked = (and_parts (is_asked (selection g) q p component.kind) (condition_holds g.valid.env values component.build.buildable) wanted.1).0 in
      inl (dep-edge component guarded need wanted.0 asked kept.0 (not-true guarded.dep.internal both.0) both.1 from.2))
      (λ b.
      let of = contains-flat_map (dep_needs (selection g) node) d.setup need b in
      inl (setup-edge of.0 need custom of.1 of.2))
      (contains-append (wanted_needs (selection g) node values d.components) (flat_map (dep_needs (selection g) node) d.setup) need h)

  pub piece-edge : (piece : Piece) (need : Need) → body_at (selection g) q p ≡ Some body → node.piece ≡ piece → Fits (selection g) q p body piece
      → Contains (piece_needs (selection g) node values d piece) need → IsEdgeTo need
  piece-edge Whole need at piece_is fits h = whole-edge need fits h
  piece-edge (One place) need at piece_is fits h = one-edge place need at piece_is fits h

-- ---- an installed unit

module _ (g : Given) (node : Node) (unit : UnitRecord) (names : List Name) (c : IsChosen g node.qual node.«package» (Installed unit names)) where
  abbrev unit_body : Body
  unit_body = Installed unit names

  abbrev asked_at : ℕ → Request
  asked_at k = request_of (unit_demand (packages g) g.valid.names (owner g node.qual node.«package» unit_body c) unit.depends names k)

  module _ (name : Name) (h : Contains names name) where
    unit-asked : Contains (body_requests g.valid.env (packages g) g.valid.project g.valid.names (owner g node.qual node.«package» unit_body c) (allows g node.qual node.«package» unit_body c) unit_body) (asked_at h.0)
    unit-asked =
        let made = owner g node.qual node.«package» unit_body c in
        map-contains request_of (unit_demands (packages g) g.valid.names made unit.depends names) (unit_demand (packages g) g.valid.names made unit.depends names h.0)
        (map-contains (unit_demand (packages g) g.valid.names made unit.depends names) (rising (length names)) h.0 (rising-has (length names) h.0 h.1))

    unit-yes : (asked_at h.0).is_yes g.valid.assignment ≡ true
    unit-yes =
        let made = owner g node.qual node.«package» unit_body c in
        and_from (is_made g.valid.assignment made) true (is_made-from g.valid.assignment made c.value) refl

    name-at : get_or names h.0 [] ≡ name
    name-at = get_or_default names h.0 [] name h.1 ∙ h.2

    pub unit-edge : PackageEdge g (var_of node) (var_of (unit_need (selection g) node name).node)
    unit-edge =
        subst (λ n. PackageEdge g (var_of node) (package_var node.qual (number (packages g) g.valid.names n))) name-at
        (edge-to g node.qual node.«package» unit_body c (asked_at h.0) unit-asked unit-yes refl)

    not-local : (local : Bool) (places_there : List ℕ) (i : ℕ) → Contains (unless_local local places_there) i → Contains places_there i
    not-local true places_there i k = absurd (contains-none i k)
    not-local false places_there i k = k

    whole-fits : (q : Qual) (p : ℕ) (body : Body) → is_installed body ≡ true → Fits (selection g) q p body Whole
    whole-fits q p (Installed record_of needs) k = refl
    whole-fits q p (SourceBody source) k = absurd (false≢true k)

    pub unit-well : IsWell (selection g) (unit_need (selection g) node name).node
    unit-well =
        let value = value-of-target g node.qual node.«package» unit_body c (asked_at h.0) unit-asked unit-yes in
        let i = value.0 in
        let id = get_or unit.depends h.0 [] in
        let t = number (packages g) g.valid.names (get_or names h.0 []) in
        let entries = entries_of (packages g) t in
        let kept = contains-filter (λ k. is_unit id (entry_at entries k)) (rising (length entries)) i
        (not-local (package_at (packages g) t).local (places (is_unit id) entries) i value.2) in
        let entry = entry_at entries i in
        let installed = (and_parts (is_installed entry.body) (same_text entry.instance.unit id) kept.1).0 in
        subst (λ n. IsWell (selection g) (node_of node.qual (number (packages g) g.valid.names n) Whole)) name-at (record {
          body = entry.body;
          at = at-chosen g node.qual t i value.1 (rising-below (length entries) i kept.0);
          fits = whole-fits node.qual t entry.body installed;
        })

-- ---- any node

module _ (g : Given) (node : Node) (w : IsWell (selection g) node) (need : Need) (h : Contains (needs_of (selection g) node) need) where
  there : Contains (needs_by (selection g) node (Some w.body)) need
  there = subst (λ o. Contains (needs_by (selection g) node o) need) w.at h

  abbrev Follows : Type 0
  Follows = PackageEdge g (var_of node) (var_of need.node) ⊎ IsInner (selection g) node need.node

  edge-by : (body : Body) → body_at (selection g) node.qual node.«package» ≡ Some body → Fits (selection g) node.qual node.«package» body node.piece
      → Contains (needs_by (selection g) node (Some body)) need → Follows
  edge-by (Installed unit names) at fits k =
      let c = chosen-at g node.qual node.«package» (Installed unit names) at in
      let from = contains-map (unit_need (selection g) node) names need k in
      inl (subst (λ (n : Need). PackageEdge g (var_of node) (var_of n.node)) from.2 (unit-edge g node unit names c from.0 from.1))
  edge-by (SourceBody source) at fits k =
      piece-edge g node source (chosen-at g node.qual node.«package» (SourceBody source) at) node.piece need at refl fits k

  -- each need follows a demand, or a dependency among components
  pub need-edge : PackageEdge g (var_of node) (var_of need.node) ⊎ IsInner (selection g) node need.node
  need-edge = edge-by w.body w.at w.fits there

  one-well : (set_so : List FlagSet) (o : Option Component) → Contains (one_needs (selection g) node set_so o) need → IsWell (selection g) need.node
  one-well set_so None k = absurd (contains-none need k)
  one-well set_so (Some component) k =
      let from = contains-flat_map (λ (x : GuardedDep). dep_needs (selection g) node x.dep) (filter (counts (selection g) set_so true component) component.build.deps) need k in
      need-well (selection g) node from.0.dep need from.2

  piece-well : (set_so : List FlagSet) (d : Description) (piece : Piece) → Contains (piece_needs (selection g) node set_so d piece) need → IsWell (selection g) need.node
  piece-well set_so d (One place) k = one-well set_so (slice_get d.components place) k
  piece-well set_so d Whole k = ⊎_elim
      (λ a.
      let of = contains-flat_map (component_needs (selection g) node set_so false) (filter (is_wanted_under (selection g) node.qual node.«package» set_so) d.components) need a in
      let from = contains-flat_map (λ (x : GuardedDep). dep_needs (selection g) node x.dep) (filter (counts (selection g) set_so false of.0) of.0.build.deps) need of.2 in
      need-well (selection g) node from.0.dep need from.2)
      (λ b.
      let of = contains-flat_map (dep_needs (selection g) node) d.setup need b in
      need-well (selection g) node of.0 need of.2)
      (contains-append (wanted_needs (selection g) node set_so d.components) (flat_map (dep_needs (selection g) node) d.setup) need k)

  well-by : (body : Body) → body_at (selection g) node.qual node.«package» ≡ Some body → Contains (needs_by (selection g) node (Some body)) need → IsWell (selection g) need.node
  well-by (Installed unit names) at k =
      let c = chosen-at g node.qual node.«package» (Installed unit names) at in
      let from = contains-map (unit_need (selection g) node) names need k in
      subst (λ (n : Need). IsWell (selection g) n.node) from.2 (unit-well g node unit names c from.0 from.1)
  well-by (SourceBody source) at k = piece-well (chosen_flags (selection g) node.qual node.«package» source.description) source.description node.piece k

  -- what a node needs is well too
  pub needed-well : IsWell (selection g) need.node
  needed-well = well-by w.body w.at there
