-- No node of the plan of a valid assignment leads back to itself.
use Rattle.std.proofs.Common.{◌≡◌, ◌⊎◌, inl, inr, ⊎_elim, ℕ, List, Option, Some, None, refl, sym, ap, ◌∙◌, subst}
use Rattle.std.specs.List.{Contains}
use Rattle.std.proofs.lemmas.Option.{none-some, same_Some}
use Rattle.common_laws.specs.Graphs.{HasNoCycle, IsPath, last, more}
use Rattle.common_laws.specs.Lists.{contains-map, contains-none}
use Rattle.plan_types.specs.declared.description.Component.{Component}
use Rattle.plan_types.specs.declared.index.Body.{Body}
use Rattle.plan_types.specs.declared.index.Body.TheVariants.{Source, Installed}
use Rattle.flatten.specs.OwnComponents.{Leads, at_once, by_way_of, HasNoCycle as LeadsNowhere}
use Rattle.qualified_goals.specs.declared.variable.Qual.{Qual}
use Rattle.cabal_problem.specs.Values.{package_var}
use Rattle.plan_components.specs.declared.node.Need.{Need}
use Rattle.plan_components.specs.declared.node.Node.{Node}
use Rattle.plan_components.specs.declared.node.Piece.{Piece}
use Rattle.plan_components.specs.declared.node.Piece.TheVariants.{Whole, One}
use Rattle.plan_components.specs.Chosen.{Selection, body_at}
use Rattle.plan_components.specs.Needs.{needed_nodes, needs_of}
use Rattle.plan_components.specs.Plan.{IsInPlan, first, needed}
use Rattle.complete_plan.proofs.Edges.{IsInner, component_at, components_in, components_of, contains-at, need-edge, needed-well, var_of}
use Rattle.complete_plan.proofs.Given.{Given, PackageEdge, body-sound, chosen-at, selection}
use Rattle.complete_plan.proofs.Pieces.{IsWell, first-well}

-- ---- components

leads-on : (components : List Component) (a b c : Component) → Leads components a b → Leads components b c → Leads components a c
leads-on components a b c (at_once from to inside is) k = by_way_of a b c inside is k
leads-on components a b c (by_way_of from next to inside is rest) k = by_way_of a next c inside is (leads-on components next b c rest k)

at-piece : (components : List Component) (piece : Piece) (c : Component) → component_at components piece ≡ Some c → Contains components c
at-piece components Whole c h = absurd (none-some c h)
at-piece components (One place) c h = contains-at components place c h

module _ (selection : Selection) where
  var-same : (node other : Node) → IsInner selection node other → var_of node ≡ var_of other
  var-same node other i = ap (λ q. package_var q node.«package») i.qual_is ∙ ap (package_var other.qual) i.package_is

  components-same : (node other : Node) → IsInner selection node other → components_of selection node ≡ components_of selection other
  components-same node other i =
      ap (λ q. components_in (body_at selection q node.«package»)) i.qual_is ∙ ap (λ p. components_in (body_at selection other.qual p)) i.package_is

  inner-on : (a b c : Node) → IsInner selection a b → IsInner selection b c → IsInner selection a c
  inner-on a b c i j =
      let met : j.from ≡ i.to = same_Some j.from i.to (sym j.from_is ∙ i.to_is) in
      let rest : Leads (components_of selection a) i.to j.to =
      subst (λ cs. Leads cs i.to j.to) (sym (components-same a b i)) (subst (λ k. Leads (components_of selection b) k j.to) met j.leads) in
      record {
        qual_is = i.qual_is ∙ j.qual_is;
        package_is = i.package_is ∙ j.package_is;
        from = i.from;
        to = j.to;
        from_is = i.from_is;
        to_is = j.to_is;
        leads = leads-on (components_of selection a) i.from i.to j.to i.leads rest;
      }

module _ (g : Given) where
  -- a node of the plan needs another
  pub record IsNeeded (node other : Node) : Type 0 where
    pub plan : IsInPlan (selection g) node
    pub needs : Contains (needed_nodes (selection g) node) other

  -- of each node of the plan an instance is chosen that has its piece
  pub well : (node : Node) → IsInPlan (selection g) node → IsWell (selection g) node
  well node (first n h) = first-well (selection g) node h
  well node (needed before n plan h) =
      let found = contains-map (λ (k : Need). k.node) (needs_of (selection g) before) node h in
      subst (IsWell (selection g)) found.2 (needed-well g before (well before plan) found.0 found.1)

  edge-of : (node other : Node) → IsNeeded node other → PackageEdge g (var_of node) (var_of other) ⊎ IsInner (selection g) node other
  edge-of node other e =
      let found = contains-map (λ (k : Need). k.node) (needs_of (selection g) node) other e.needs in
      subst (λ k. PackageEdge g (var_of node) (var_of k) ⊎ IsInner (selection g) node k) found.2 (need-edge g node (well node e.plan) found.0 found.1)

  path-of : (node other : Node) → IsPath IsNeeded node other → IsPath (PackageEdge g) (var_of node) (var_of other) ⊎ IsInner (selection g) node other
  path-of node other (last e) = ⊎_elim (λ a. inl (last a)) (λ i. inr i) (edge-of node other e)
  path-of node other (more {w = next} e rest) = ⊎_elim
      (λ a. ⊎_elim (λ b. inl (more a b)) (λ j. inl (last (subst (PackageEdge g (var_of node)) (var-same (selection g) next other j) a))) (path-of next other rest))
      (λ i. ⊎_elim (λ b. inl (subst (λ v. IsPath (PackageEdge g) v (var_of other)) (sym (var-same (selection g) node next i)) b))
      (λ j. inr (inner-on (selection g) node next other i j)) (path-of next other rest))
      (edge-of node next e)

  nowhere : (q : Qual) (p : ℕ) (o : Option Body) → body_at (selection g) q p ≡ o → LeadsNowhere (components_in o)
  nowhere q p None at c inside leads = contains-none c inside
  nowhere q p (Some (Installed unit names)) at c inside leads = contains-none c inside
  nowhere q p (Some (Source source)) at c inside leads =
      (body-sound g q p (Source source) (chosen-at g q p (Source source) at)).description.no_cycle c inside leads

  pub no-cycle : HasNoCycle IsNeeded
  no-cycle node path = ⊎_elim (λ a. g.valid.whole_valid.holds.acyclic (var_of node) a)
      (λ i.
      let components = components_of (selection g) node in
      let same : i.to ≡ i.from = same_Some i.to i.from (sym i.to_is ∙ i.from_is) in
      nowhere node.qual node.«package» (body_at (selection g) node.qual node.«package») refl i.from
      (at-piece components node.piece i.from i.from_is) (subst (Leads components i.from) same i.leads))
      (path-of node node path)

  -- what is reached from a node of the plan is in the plan
  pub reached : (node other : Node) → IsPath IsNeeded node other → IsInPlan (selection g) other
  reached node other (last e) = needed node other e.plan e.needs
  reached node other (more {w = next} e rest) = reached next other rest
