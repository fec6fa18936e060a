use Rattle.std.proofs.Common.{◌∙◌, ap}
use Rattle.choice_stack.specs.View.{View}
use Rattle.choice_stack.proofs.StackLemmas.{marks-targets}
use Rattle.choice_stack.proofs.Queries.{places-below}
use Rattle.choice_stack.proofs.DemandGraphs.{sources-at}
use Rattle.choice_stack.proofs.stack.Stack.sources.Goals as goal

pub owners_at-requires : goal.owners_at-requires
owners_at-requires c = places-below c.args.to _ _ _ _ (marks-targets c.self.invariant.levels) c.as_slice.ensures.value c.places-places.ensures

pub returns : goal.returns
returns c =
    sources-at _ _ _ _ c.args.to _ _ (marks-targets c.self.invariant.levels) (c.from_vec.ensures ∙ c.in_ok-owners.ensures) c.as_slice.ensures.value c.places-places.ensures
    (ap (λ (x : View). x.active) c.self.view_is)
