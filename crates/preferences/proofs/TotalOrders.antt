-- Shared: the comparisons are total orders.
use Rattle.std.proofs.Common.{◌≡◌, ◌<◌, ℕ, List, refl}
use Rattle.std.specs.declared.cmp.Ordering.{Ordering}
use Rattle.std.specs.declared.cmp.Ordering.TheVariants.{Less, Equal, Greater}
use Rattle.std.specs.Cmp.{IsTotalOrder, bool_cmp_total}
use Rattle.std.specs.Ordering.{nat_cmp, ordering_then}
use Rattle.std.proofs.lemmas.Cmp.{on_total, then_total, back_total, nat_cmp_total, nat_list_cmp_total, by_ranked, ranked}
use Rattle.plan_types.specs.declared.index.Instance.{Instance}
use Rattle.plan_types.specs.declared.range.Range.{Range}
use Rattle.preferences.specs.declared.policy.Policy.{Policy}
use Rattle.preferences.specs.declared.policy.Policy.TheVariants as policy
use Rattle.preferences.specs.declared.candidate.Candidate.{Candidate}
use Rattle.preferences.specs.Places.{is_preferred, is_installed, true_first, earlier_first, later_first, installed_first, by_policy, by_unit, instance_cmp, instance_at, place_cmp}
use Rattle.preferences.specs.Candidate.{candidate_cmp}
use Rattle.common_laws.specs.Small.{second-equal}

true-first-total : IsTotalOrder true_first
true-first-total = back_total bool_cmp_total

earlier-total : IsTotalOrder earlier_first
earlier-total = on_total (λ (i : Instance). i.version.parts) nat_list_cmp_total

later-total : IsTotalOrder later_first
later-total = back_total earlier-total

installed-total : IsTotalOrder installed_first
installed-total = on_total (λ (i : Instance). is_installed i.origin) true-first-total

policy-total : (p : Policy) → IsTotalOrder (by_policy p)
policy-total policy.Latest = then_total later-total installed-total
policy-total policy.Installed = then_total installed-total later-total
policy-total policy.Oldest = then_total earlier-total installed-total

unit-total : IsTotalOrder by_unit
unit-total = on_total (λ (i : Instance). i.unit) nat_list_cmp_total

instance-total : (p : Policy) (preferred : List Range) → IsTotalOrder (instance_cmp p preferred)
instance-total p preferred = then_total (then_total (on_total (is_preferred preferred) true-first-total) (policy-total p)) unit-total

pub place-total : (p : Policy) (preferred : List Range) (instances : List Instance) → IsTotalOrder (place_cmp p preferred instances)
place-total p preferred instances = then_total (on_total (instance_at instances) (instance-total p preferred)) nat_cmp_total

pub candidate-total : (p : Policy) → IsTotalOrder (candidate_cmp p)
candidate-total p =
    then_total
    (then_total (then_total (on_total (λ (c : Candidate). c.preferred) true-first-total) (on_total (λ (c : Candidate). c.instance.now) (policy-total p))) (on_total (λ (c : Candidate). c.instance.now) unit-total))
    (on_total (λ (c : Candidate). c.place) nat_cmp_total)

nat-ties : (a b : ℕ) → nat_cmp a b ≡ Equal → a ≡ b
nat-ties a b h = by_ranked (a < b) (a ≡ b) (b < a) (nat_cmp a b) (ranked a b (nat_cmp a b) refl) (λ e k. absurd (cc (e, h))) (λ e k. k) (λ e k. absurd (cc (e, h)))

-- two places that compare as equal are the same
pub place-ties : (p : Policy) (preferred : List Range) (instances : List Instance) (a b : ℕ) → place_cmp p preferred instances a b ≡ Equal → a ≡ b
place-ties p preferred instances a b h = nat-ties a b (second-equal (instance_cmp p preferred (instance_at instances a) (instance_at instances b)) (nat_cmp a b) h)
