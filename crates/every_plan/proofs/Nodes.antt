-- The nodes of a plan are among finitely many. The numbers of their packages are below a bound, and each package
-- has finitely many pieces.
use Rattle.std.proofs.Common.{◌≡◌, ◌<◌, ⊎_elim, ℕ, ◌+◌, Bool, true, false, if◌then◌else◌, List, [], ◌++◌, length, map, Option, Some, None, slice_get, unwrap_or, refl, subst, arith}
use Rattle.std.specs.List.{Contains, filter, flat_map}
use Rattle.std.proofs.lemmas.List.Quantifiers.{position-Some}
use Rattle.common_laws.specs.Lists.{contains-append, contains-flat_map, contains-head, contains-left, contains-map, contains-none, contains-right, contains-tail, flat_map-contains, map-contains}
use Rattle.plan_types.specs.Bytes.{same_text}
use Rattle.plan_types.specs.Packages.{package_at}
use Rattle.plan_types.specs.declared.condition.FlagSet.{FlagSet}
use Rattle.plan_types.specs.declared.dependency.Dep.{Dep}
use Rattle.plan_types.specs.declared.dependency.DepKind.{DepKind}
use Rattle.plan_types.specs.declared.dependency.DepKind.TheVariants as dep_kind
use Rattle.plan_types.specs.declared.description.Component.{Component}
use Rattle.plan_types.specs.declared.description.Description.{Description}
use Rattle.plan_types.specs.Guarded.{GuardedDep}
use Rattle.plan_types.specs.declared.index.Body.{Body}
use Rattle.plan_types.specs.declared.index.Body.TheVariants.{Source, Installed}
use Rattle.qualified_goals.specs.declared.variable.Qual.{Qual}
use Rattle.qualified_goals.specs.declared.variable.Qual.TheVariants.{Top, Setup, Exe}
use Rattle.qualified_goals.specs.Names.{Name, number_of}
use Rattle.solver_index.specs.Places.{number, rising}
use Rattle.solver_index.proofs.ListLaws.{rising-below}
use Rattle.cabal_problem.specs.Bound.{all_quals}
use Rattle.cabal_problem.specs.Laws.{rising-has}
use Rattle.cabal_problem.specs.ListedDemands.{qual_for}
use Rattle.cabal_problem.specs.Values.{package_var}
use Rattle.plan_components.specs.declared.node.Need.{Need}
use Rattle.plan_components.specs.declared.node.Node.{Node}
use Rattle.plan_components.specs.declared.node.Piece.{Piece}
use Rattle.plan_components.specs.declared.node.Piece.TheVariants.{Whole, One}
use Rattle.plan_components.specs.Chosen.{Selection, body_at, chosen_flags}
use Rattle.plan_components.specs.Needs.{meant_pieces, component_needs, counts, dep_needs, need_of, needed_nodes, needs_by, needs_of, one_needs, piece_needs, qual_of_dep, unit_need, wanted_needs}
use Rattle.plan_components.specs.Plan.{IsInPlan, first, needed}
use Rattle.plan_components.specs.Wanted.{first_of, first_pieces, has_first_nodes, is_wanted_under, node_of}
use Rattle.every_plan.proofs.Pieces.{asked-in, first-in, pieces_in, whole-in}

module _ (selection : Selection) where
  -- a bound on the numbers of packages
  abbrev bound : ℕ
  bound = length selection.packages + length selection.names.packages + 1

  abbrev numbers : List ℕ
  numbers = rising bound

  abbrev setups : List Qual
  setups = map Setup numbers

  abbrev tools : List Qual
  tools = flat_map (λ (p : ℕ). map (Exe p) numbers) numbers

  abbrev quals : List Qual
  quals = all_quals numbers numbers

  -- a node's packages have numbers below the bound, and its piece is one of its package
  record IsWithin (node : Node) : Type 0 where
    qual_is : Contains quals node.qual
    package_is : node.«package» < bound
    piece_is : Contains (pieces_in (body_at selection node.qual node.«package»)) node.piece

  -- ---- numbers and qualifiers

  number-low : (name : Name) → number selection.packages selection.names name < bound
  number-low name =
      let names = selection.names.packages in
      elim (number_of names name) as (λ o. number_of names name ≡ o → unwrap_or o (length selection.packages) < bound) [
        | None ↦ λ e. omega arith
        | Some i ↦ λ e. let low = (position-Some (same_text name) names i [] e).0 in omega (arith, low)
      ] refl

  setup-in : (p : ℕ) → p < bound → Contains quals (Setup p)
  setup-in p low = contains-tail Top (setups ++ tools) (Setup p) (contains-left setups tools (Setup p) (map-contains Setup numbers p (rising-has bound p low)))

  tool-in : (p t : ℕ) → p < bound → t < bound → Contains quals (Exe p t)
  tool-in p t low tool_low =
      contains-tail Top (setups ++ tools) (Exe p t)
      (contains-right setups tools (Exe p t)
      (flat_map-contains (λ (o : ℕ). map (Exe o) numbers) numbers p (Exe p t) (rising-has bound p low) (map-contains (Exe p) numbers t (rising-has bound t tool_low))))

  -- ---- what a node needs

  module _ (node : Node) (w : IsWithin node) where
    qual-for : (kind : DepKind) (t : ℕ) → t < bound → Contains quals (qual_for kind (package_var node.qual node.«package») t)
    qual-for dep_kind.Library t low = w.qual_is
    qual-for dep_kind.Tool t low = tool-in node.«package» t w.package_is low
    qual-for dep_kind.Setup t low = setup-in node.«package» w.package_is

    qual-of : (dep : Dep) (t : ℕ) → t < bound → Contains quals (qual_of_dep node dep t)
    qual-of dep t low =
        elim (dep.internal) as (λ b. Contains quals (if b then node.qual else qual_for dep.kind (package_var node.qual node.«package») t)) [
          | true ↦ w.qual_is
          | false ↦ qual-for dep.kind t low
        ]

    abbrev AreWithin : List Need → Type 0
    AreWithin needs = (need : Need) → Contains needs need → IsWithin need.node

    of-dep : (dep : Dep) → AreWithin (dep_needs selection node dep)
    of-dep dep need c =
        let t = number selection.packages selection.names dep.«package» in
        let q = qual_of_dep node dep t in
        let low = number-low dep.«package» in
        let found = contains-map (need_of dep.kind q t) (meant_pieces dep (body_at selection q t)) need c in
        subst (λ (n : Need). IsWithin n.node) found.2 (record { qual_is = qual-of dep t low; package_is = low; piece_is = asked-in dep (body_at selection q t) found.0 found.1 })

    of-component : (flags : List FlagSet) (own : Bool) (component : Component) → AreWithin (component_needs selection node flags own component)
    of-component flags own component need c =
        let found = contains-flat_map (λ (guarded : GuardedDep). dep_needs selection node guarded.dep) (filter (counts selection flags own component) component.build.deps) need c in
        of-dep found.0.dep need found.2

    of-one : (flags : List FlagSet) (component : Option Component) → AreWithin (one_needs selection node flags component)
    of-one flags None need c = absurd (contains-none need c)
    of-one flags (Some component) need c = of-component flags true component need c

    of-piece : (flags : List FlagSet) (d : Description) (piece : Piece) → AreWithin (piece_needs selection node flags d piece)
    of-piece flags d Whole need c = ⊎_elim
        (λ h.
        let wanted = filter (is_wanted_under selection node.qual node.«package» flags) d.components in
        let found = contains-flat_map (component_needs selection node flags false) wanted need h in
        of-component flags false found.0 need found.2)
        (λ h. let found = contains-flat_map (dep_needs selection node) d.setup need h in of-dep found.0 need found.2)
        (contains-append (wanted_needs selection node flags d.components) (flat_map (dep_needs selection node) d.setup) need c)
    of-piece flags d (One place) need c = of-one flags (slice_get d.components place) need c

    of-body : (body : Option Body) → AreWithin (needs_by selection node body)
    of-body None need c = absurd (contains-none need c)
    of-body (Some (Installed record_of needs)) need c =
        let found = contains-map (unit_need selection node) needs need c in
        let p = number selection.packages selection.names found.0 in
        subst (λ (n : Need). IsWithin n.node) found.2 (record {
          qual_is = w.qual_is;
          package_is = number-low found.0;
          piece_is = whole-in (body_at selection node.qual p) Whole (contains-head Whole []);
        })
    of-body (Some (Source source)) need c = of-piece (chosen_flags selection node.qual node.«package» source.description) source.description node.piece need c

    needed-within : (other : Node) → Contains (needed_nodes selection node) other → IsWithin other
    needed-within other c =
        let found = contains-map (λ (n : Need). n.node) (needs_of selection node) other c in
        subst IsWithin found.2 (of-body (body_at selection node.qual node.«package») found.0 found.1)

  -- ---- all nodes

  first-within : (p : ℕ) → p < length selection.packages → (node : Node) → Contains (first_of selection p) node → IsWithin node
  first-within p low node c =
      let begun = package_at selection.packages p in
      let pieces = first_pieces selection begun.local p (body_at selection Top p) in
      elim (has_first_nodes begun) as (λ b. Contains (if b then map (node_of Top p) pieces else []) node → IsWithin node) [
        | true ↦ λ h.
            let found = contains-map (node_of Top p) pieces node h in
            subst IsWithin found.2 (record {
              qual_is = contains-head Top (setups ++ tools);
              package_is = omega (arith, low);
              piece_is = first-in selection begun.local p (body_at selection Top p) found.0 found.1;
            })
        | false ↦ λ none. absurd (contains-none node none)
      ] c

  within : (node : Node) → IsInPlan selection node → IsWithin node
  within node (first it c) =
      let found = contains-flat_map (first_of selection) (rising (length selection.packages)) it c in
      first-within found.0 (rising-below (length selection.packages) found.0 found.1) it found.2
  within node (needed user it p c) = needed-within user (within user p) it c

  abbrev of_package : Qual → ℕ → List Node
  of_package q p = map (node_of q p) (pieces_in (body_at selection q p))

  abbrev under : Qual → List Node
  under q = flat_map (of_package q) numbers

  -- all nodes below the bound
  pub all_nodes : List Node
  all_nodes = flat_map under quals

  -- the nodes of the plan are among them
  pub is_among : (node : Node) → IsInPlan selection node → Contains all_nodes node
  unfolding all_nodes
  is_among node plan =
      let w = within node plan in
      flat_map-contains under quals node.qual node w.qual_is
      (flat_map-contains (of_package node.qual) numbers node.«package» node (rising-has bound node.«package» w.package_is)
      (map-contains (node_of node.qual node.«package») (pieces_in (body_at selection node.qual node.«package»)) node.piece w.piece_is))
