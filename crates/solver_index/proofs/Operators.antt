-- The members of a range that joins no others are an interval.
use Rattle.std.proofs.Common.{◌≡◌, Bool, true, false, refl, sym, ap, ◌∙◌, subst}
use Rattle.std.proofs.lemmas.Bool.{false≢true}
use Rattle.plan_types.specs.declared.range.Range.{Range, roll-Range, map-Range}
use Rattle.plan_types.specs.declared.range.Range.TheOpen as layer
use Rattle.plan_types.specs.declared.range.Range.TheFolds.{fold-roll-Range, ind-Range}
use Rattle.plan_types.specs.declared.version.Version.{Version}
use Rattle.plan_types.specs.Members.{members, members_step}
use Rattle.version_range.specs.Cuts.{HasNumbers, is_below}
use Rattle.version_range.specs.Version.{has_versions}
use Rattle.version_range.proofs.RisingEnds.{below_down}
use Rattle.version_range.proofs.Intervals.{up_to}
use Rattle.version_range.proofs.RelaxedCuts.{least}
use Rattle.solver_index.specs.Before.{before, before_step, is_operator, operator_step}
use Rattle.solver_index.specs.AllowedVersions.{least_version, next_version}
use Rattle.solver_index.specs.RangeBounds.{IsOperator}
use Rattle.solver_index.proofs.Atoms.{IsInterval, above-interval, any-interval, at_least-interval, at_most-interval, below-interval, equal-interval, major-interval, prefix-interval}

abbrev Claim : Range → Type 0
Claim r = has_versions r ≡ true → is_operator r ≡ true → IsOperator r

-- `before` holds for the versions below the start of the interval
from-interval : (r : Range) (start : Version) → IsInterval (members r) start → ((v : Version) → HasNumbers v → before r v ≡ is_below v start) → IsOperator r
from-interval r start i b = record {
  outside = λ v n h. elim (members r v) as (λ t. members r v ≡ t → t ≡ false) [
    | true ↦ λ e. absurd (false≢true (sym (i.low v n e) ∙ sym (b v n) ∙ h))
    | false ↦ λ e. refl
  ] refl;
  front = λ u w n m le h. b u n ∙ below_down u w start le (sym (b w m) ∙ h);
  down = λ u w n m behind le h. i.down u w n m (sym (b u n) ∙ behind) le h;
}

at : (y : layer.Range-F Range) (v : Version) → before (roll-Range y) v ≡ before_step (map-Range Range (Version → Bool) before y) v
at y v = ap (λ f. f v) (fold-roll-Range (Version → Bool) before_step y)

from-least : (r : Range) → IsInterval (members r) least_version → ((v : Version) → before r v ≡ false) → IsOperator r
from-least r i b = from-interval r least_version i (λ v n. b v ∙ sym (least least_version v refl n))

no-members : IsOperator (roll-Range layer.Nothing)
no-members = record {
  outside = λ v n h. ap (λ f. f v) (fold-roll-Range (Version → Bool) members_step layer.Nothing);
  front = λ u w n m le h. absurd (false≢true (sym (at layer.Nothing w) ∙ h));
  down = λ u w n m behind le h. absurd (false≢true (sym (ap (λ f. f w) (fold-roll-Range (Version → Bool) members_step layer.Nothing)) ∙ h));
}

step : (y : layer.Range-F ((r : Range) × Claim r)) → Claim (roll-Range (map-Range ((r : Range) × Claim r) Range (λ e. e.0) y))
step layer.Any = λ h o. from-least (roll-Range layer.Any) any-interval (at layer.Any)
step layer.Nothing = λ h o. no-members
step (layer.Equal x) = λ h o. from-interval (roll-Range (layer.Equal x)) x (equal-interval x h) (λ v n. at (layer.Equal x) v)
step (layer.Prefix x) = λ h o. from-interval (roll-Range (layer.Prefix x)) x (prefix-interval x h) (λ v n. at (layer.Prefix x) v)
step (layer.AtLeast x) = λ h o. from-interval (roll-Range (layer.AtLeast x)) x (at_least-interval x h) (λ v n. at (layer.AtLeast x) v)
step (layer.Above x) = λ h o. from-interval (roll-Range (layer.Above x)) (next_version x) (above-interval x) (λ v n. at (layer.Above x) v ∙ sym (up_to v.parts x.parts))
step (layer.AtMost x) = λ h o. from-least (roll-Range (layer.AtMost x)) (at_most-interval x) (at (layer.AtMost x))
step (layer.Below x) = λ h o. from-least (roll-Range (layer.Below x)) (below-interval x) (at (layer.Below x))
step (layer.Major x) = λ h o. from-interval (roll-Range (layer.Major x)) x (major-interval x h) (λ v n. at (layer.Major x) v)
step (layer.Both l r) = λ h o. absurd (false≢true (sym (fold-roll-Range Bool operator_step (layer.Both l.0 r.0)) ∙ o))
step (layer.Either l r) = λ h o. absurd (false≢true (sym (fold-roll-Range Bool operator_step (layer.Either l.0 r.0)) ∙ o))

pub operator-is : (r : Range) → Claim r
operator-is = ind-Range Claim (λ x y is. subst (λ z. Claim (roll-Range z)) is (step y))
