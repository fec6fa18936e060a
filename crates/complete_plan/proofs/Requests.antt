-- What a source instance that is chosen asks for, part by part.
use Rattle.std.proofs.Common.{ℕ, List, ◌++◌, map}
use Rattle.std.specs.List.{Contains, filter}
use Rattle.common_laws.specs.Lists.{contains-left, contains-right}
use Rattle.plan_types.specs.declared.description.Description.{Description}
use Rattle.plan_types.specs.declared.index.Body.{Body}
use Rattle.plan_types.specs.declared.index.Body.TheVariants.{Source as SourceBody}
use Rattle.plan_types.specs.declared.index.Source.{Source}
use Rattle.flatten.specs.Demands.{outward}
use Rattle.qualified_goals.specs.declared.variable.Qual.{Qual}
use Rattle.choice_problem.specs.declared.problem.Choice.{Choice}
use Rattle.choice_problem.specs.General.{Request}
use Rattle.cabal_problem.specs.ListedDemands.{has_stanzas}
use Rattle.cabal_problem.specs.WholeDemands.{body_requests, has_stanza_variable, front_demands, requests_of, setup_request, setup_requests, whole_request}
use Rattle.complete_plan.proofs.Given.{Given, IsChosen, allows, owner, packages}

module _ (g : Given) (q : Qual) (p : ℕ) (source : Source) (c : IsChosen g q p (SourceBody source)) where
  abbrev d : Description
  d = source.description

  abbrev pub body : Body
  body = SourceBody source

  abbrev pub chooser : Choice
  chooser = owner g q p body c

  abbrev pub front : List Request
  front = requests_of (front_demands (packages g) g.valid.project g.valid.names chooser d)

  abbrev pub deps : List Request
  deps = map (whole_request g.valid.env (packages g) g.valid.names chooser (allows g q p body c)) (filter (has_stanza_variable (has_stanzas (packages g) chooser.var)) (outward d))

  abbrev pub scripts : List Request
  scripts = setup_requests d.custom (map (setup_request (packages g) g.valid.names chooser (allows g q p body c)) d.setup)

  abbrev pub asked : List Request
  asked = body_requests g.valid.env (packages g) g.valid.project g.valid.names chooser (allows g q p body c) body

  pub from-front : (r : Request) → Contains front r → Contains asked r
  from-front r h = contains-left (front ++ deps) scripts r (contains-left front deps r h)

  pub from-deps : (r : Request) → Contains deps r → Contains asked r
  from-deps r h = contains-left (front ++ deps) scripts r (contains-right front deps r h)

  pub from-scripts : (r : Request) → Contains scripts r → Contains asked r
  from-scripts r h = contains-right (front ++ deps) scripts r h
