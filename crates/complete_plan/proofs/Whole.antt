-- Each node of the plan of a whole valid assignment has a line.
use Rattle.std.proofs.Common.{◌≡◌, ◌<◌, ⊎_elim, ℕ, true, false, if◌then◌else◌, List, [], ◌∷◌, length, map, Some, refl, sym, ap, ◌∙◌, subst}
use Rattle.std.specs.List.{Contains, flat_map, list_all}
use Rattle.std.proofs.lemmas.Bool.{false≢true}
use Rattle.std.proofs.lemmas.Option.{slice_get_within}
use Rattle.common_laws.specs.Lists.{contains-cases, contains-head, contains-none, contains-tail, flat_map-contains, map-contains}
use Rattle.plan_types.specs.declared.condition.Env.{Env}
use Rattle.plan_types.specs.declared.description.Component.{Component}
use Rattle.plan_types.specs.declared.index.Body.{Body}
use Rattle.plan_types.specs.declared.index.Body.TheVariants.{Source, Installed}
use Rattle.plan_types.specs.declared.index.Index.{Index}
use Rattle.plan_types.specs.declared.project.Project.{Project}
use Rattle.flatten.specs.Sound.{IsSound, has_package}
use Rattle.qualified_goals.specs.declared.variable.Var.{Var}
use Rattle.qualified_goals.specs.Names.{AreNumbers, NameTable}
use Rattle.choice_problem.specs.General.{Request, general}
use Rattle.choice_problem.specs.Joined.{AreYesTogether}
use Rattle.choice_problem.specs.Problem.{IsDemand, Lawful, Problem}
use Rattle.choice_problem.proofs.TrailLemmas.{general-lawful, target-known}
use Rattle.solver_index.specs.Places.{rising}
use Rattle.cabal_problem.specs.Bound.{all_vars}
use Rattle.cabal_problem.specs.Laws.{rising-has, var-in}
use Rattle.cabal_problem.specs.Problem.{IsProblemOf, problem_of}
use Rattle.cabal_problem.specs.Variables.{is_known}
use Rattle.cabal_problem.specs.WholeDemands.{whole_problem}
use Rattle.plan_components.specs.declared.node.Need.{Need}
use Rattle.plan_components.specs.declared.node.Node.{Node}
use Rattle.plan_components.specs.declared.node.Piece.{Piece}
use Rattle.plan_components.specs.declared.node.Piece.TheVariants.{Whole, One}
use Rattle.plan_components.specs.Chosen.{Selection, body_at, chosen_flags}
use Rattle.plan_components.specs.Needs.{needs_of}
use Rattle.plan_components.specs.Plan.{IsInPlan, needed}
use Rattle.plan_components.specs.SameNode.{node-is, node-self, same_node}
use Rattle.plan_components.specs.Wanted.{node_of}
use Rattle.plan_lines.specs.declared.needed.Needed.{Needed}
use Rattle.plan_lines.specs.Line.{line_by, source_with_id, unit_line}
use Rattle.plan_nodes.specs.declared.node.PlanNode.{PlanNode}
use Rattle.plan_nodes.specs.Line.{no_line}
use Rattle.node_lines.specs.Lines.{HasLine, HaveLines, needed_by, told}
use Rattle.complete_plan.proofs.Cycles.{IsNeeded, no-cycle, reached, well}
use Rattle.complete_plan.proofs.Descent.{descends}
use Rattle.complete_plan.proofs.Edges.{components_in, var_of}
use Rattle.complete_plan.specs.Valid.{ValidAssignment, problem, selected}
use Rattle.complete_plan.proofs.Given.{Given, chosen-at, packages, selection}
use Rattle.complete_plan.proofs.Pieces.{Fits, IsWell}

-- ---- lines of what is needed

abbrev HasSome : Selection → Node → Type 0
HasSome of node = (line : PlanNode) × HasLine of node line

-- the lines of some needs, by their nodes
record Lines (of : Selection) (needs : List Need) : Type 0 where
  line_at : Node → PlanNode
  each : (need : Need) → Contains needs need → HasLine of need.node (line_at need.node)

lines-for : (of : Selection) (needs : List Need) → ((need : Need) → Contains needs need → HasSome of need.node) → Lines of needs
lines-for of [] have = record { line_at = λ node. no_line; each = λ need c. absurd (contains-none need c) }
lines-for of (need ∷ needs) have =
    let line = have need (contains-head need needs) in
    let rest = lines-for of needs (λ other c. have other (contains-tail need needs other c)) in
    let f : Node → PlanNode = λ node. if same_node need.node node then line.0 else rest.line_at node in
    let at : (other : Need) → Contains (need ∷ needs) other → HasLine of other.node (f other.node) =
    λ other c. elim (same_node need.node other.node) as (λ b. same_node need.node other.node ≡ b → HasLine of other.node (if b then line.0 else rest.line_at other.node)) [
      | true ↦ λ e. subst (λ n. HasLine of n line.0) (node-is need.node other.node e) line.1
      | false ↦ λ e. ⊎_elim
          (λ same. absurd (false≢true (sym e ∙ ap (λ (n : Need). same_node need.node n.node) (sym same) ∙ node-self need.node)))
          (λ r. rest.each other r)
          (contains-cases need needs other c)
    ] refl in
    record { line_at = f; each = at }

some-line : (of : Selection) (node : Node) (ids : Needed) (body : Body) → (line : PlanNode) × (line_by of node ids (Some body) ≡ Some line)
some-line of node ids (Installed unit names) = (unit_line unit.name unit.version unit.id ids, refl)
some-line of node ids (Source source) = (source_with_id of node (chosen_flags of node.qual node.«package» source.description) source.description ids, refl)

-- what has an instance, and all of whose needs have lines, has one
line-from : (of : Selection) (node : Node) → IsWell of node → ((need : Need) → Contains (needs_of of node) need → HasSome of need.node)
    → HasSome of node
line-from of node w have =
    let lines = lines-for of (needs_of of node) have in
    let line = some-line of node (needed_by lines.line_at (needs_of of node)) w.body in
    (line.0, told node line.0 lines.line_at lines.each (ap (line_by of node (needed_by lines.line_at (needs_of of node))) w.at ∙ line.1))

-- ---- the nodes are finite in number

module _ (g : Given) where
  abbrev components_at : Var → List Component
  components_at v = components_in (body_at (selection g) v.qual v.«package»)

  abbrev nodes_at : Var → List Node
  nodes_at v = node_of v.qual v.«package» Whole ∷ map (λ k. node_of v.qual v.«package» (One k)) (rising (length (components_at v)))

  -- all that can be nodes
  abbrev all_nodes : List Node
  all_nodes = flat_map nodes_at (all_vars (packages g) g.valid.names)

  within : (node : Node) (body : Body) (place : ℕ) → body_at (selection g) node.qual node.«package» ≡ Some body
      → Fits (selection g) node.qual node.«package» body (One place) → place < length (components_at (var_of node))
  within node (Installed unit names) place at fits = absurd (cc fits)
  within node (Source source) place at fits =
      subst (λ o. place < length (components_in o)) (sym at) (slice_get_within source.description.components place fits.1.component fits.1.at)

  listed-piece : (node : Node) (body : Body) (piece : Piece) → body_at (selection g) node.qual node.«package» ≡ Some body
      → Fits (selection g) node.qual node.«package» body piece → Contains (nodes_at (var_of node)) (node_of node.qual node.«package» piece)
  listed-piece node body Whole at fits =
      contains-head (node_of node.qual node.«package» Whole) (map (λ k. node_of node.qual node.«package» (One k)) (rising (length (components_at (var_of node)))))
  listed-piece node body (One place) at fits =
      let count = length (components_at (var_of node)) in
      contains-tail (node_of node.qual node.«package» Whole) (map (λ k. node_of node.qual node.«package» (One k)) (rising count)) (node_of node.qual node.«package» (One place))
      (map-contains (λ k. node_of node.qual node.«package» (One k)) (rising count) place (rising-has count place (within node body place at fits)))

  listed : (node : Node) → IsWell (selection g) node → Contains all_nodes node
  listed node w =
      let c = chosen-at g node.qual node.«package» w.body w.at in
      let known = g.valid.whole_valid.holds.assignment.inside (var_of node) c.place c.value in
      flat_map-contains nodes_at (all_vars (packages g) g.valid.names) (var_of node) node (var-in (packages g) g.valid.names (var_of node) known) (listed-piece node w.body node.piece w.at w.fits)

  abbrev Claim : Node → Type 0
  Claim node = IsInPlan (selection g) node → HasSome (selection g) node

  step : (node : Node) → ((other : Node) → IsNeeded g node other → Claim other) → Claim node
  step node below plan =
      line-from (selection g) node (well g node plan) (λ need c.
      let there = map-contains (λ (n : Need). n.node) (needs_of (selection g) node) need c in
      below need.node (record { plan = plan; needs = there }) (needed node need.node plan there))

  given-lines : HaveLines (selection g)
  given-lines node plan =
      descends (IsNeeded g) (no-cycle g) Claim step all_nodes node
      (λ other path. listed other (well g other (reached g node other path))) plan

-- what the laws of problems say of the two that an index makes

abbrev pub Together : Type 0
Together = (env : Env) (index : Index) (project : Project) (names : NameTable) (orders : List (List ℕ)) → IsSound env index → AreNumbers index.packages names
    → AreYesTogether (whole_problem env index.packages project names orders) (general (problem_of index.packages project names orders))

abbrev pub IsLawful : Type 0
IsLawful = (env : Env) (index : Index) (project : Project) (names : NameTable) (p : Problem)
    → IsSound env index → list_all (λ named. has_package index named.name) project.extra ≡ true → IsProblemOf index project names p → Lawful p

pub have-lines : Together → IsLawful → (v : ValidAssignment) → HaveLines (selected v)
have-lines alike keeps v =
    let p = problem_of v.index.packages v.project v.names v.orders in
    let together = alike v.env v.index v.project v.names v.orders v.sound v.numbers in
    let lawful : Lawful p = keeps v.env v.index v.project v.names p v.sound v.there
    (record { in_goal_order = v.sound.in_goal_order; numbers = v.numbers; orders = v.orders; orders_are = v.orders_are; problem_is = refl }) in
    let known : (r : Request) → IsDemand (problem v) r → r.is_yes v.assignment ≡ true → is_known v.index.packages v.names r.target ≡ true =
    λ r demand yes.
    let has = together.there v.assignment r demand yes in
    subst (λ x. is_known v.index.packages v.names x ≡ true) has.target (target-known (general p) has.other (general-lawful p lawful) has.demand) in
    given-lines (record { valid = v; known = known })
