use Rattle.std.proofs.Common.{◌∙◌, ap}
use Rattle.common_laws.specs.Small.{some_at}
use Rattle.choice_stack.specs.View.{View}
use Rattle.choice_stack.proofs.StackLemmas.{marks-targets}
use Rattle.choice_stack.proofs.Queries.{places-below}
use Rattle.choice_stack.proofs.DemandGraphs.{sources-at}
use Rattle.choice_stack.proofs.stack.Stack.few_sources.Goals as goal

pub few_owners_at-requires : goal.few_owners_at-requires
few_owners_at-requires c = places-below c.args.to _ _ _ _ (marks-targets c.self.invariant.levels) c.as_slice.ensures.value c.places-places.ensures

pub returns : goal.returns
returns c =
    sources-at _ _ _ _ c.args.to _ _ (marks-targets c.self.invariant.levels) (c.from_vec.ensures ∙ some_at _ _ _ c.in-Some.is c.in_ok-owners.ensures) c.as_slice.ensures.value c.places-places.ensures
    (ap (λ (x : View). x.active) c.self.view_is)
