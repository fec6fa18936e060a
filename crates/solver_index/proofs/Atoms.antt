-- The members of an operator are an interval of versions, with a known first version.
use Rattle.std.proofs.Common.{◌≡◌, Bool, true, false, not, ◌&&◌, [], ◌∷◌, refl, sym, ap, ◌∙◌, arith}
use Rattle.std.proofs.lemmas.Bool.{not-true, not_from_false, and_parts, and_from}
use Rattle.std.proofs.lemmas.List.{length-append}
use Rattle.plan_types.specs.declared.range.Range.{roll-Range}
use Rattle.plan_types.specs.declared.range.Range.TheOpen as layer
use Rattle.plan_types.specs.declared.range.Range.TheFolds.{fold-roll-Range}
use Rattle.plan_types.specs.declared.version.Version.{Version}
use Rattle.plan_types.specs.Members.{members, members_step, major_end}
use Rattle.version_range.specs.Cuts.{HasNumbers, is_below, prefix_end}
use Rattle.version_range.specs.Version.{has_versions, is_version, versions_step}
use Rattle.version_range.proofs.RisingEnds.{below_down}
use Rattle.version_range.proofs.Intervals.{above_is, at_least_is, at_most_is, below_is, equal_is, major_is, prefix_is, version_some}
use Rattle.version_range.proofs.VersionNumbers.{version_from}
use Rattle.version_range.proofs.RelaxedCuts.{least}
use Rattle.solver_index.specs.AllowedVersions.{least_version, next_version}

-- no member lies below the start, and each version from the start up to a member is one
pub record IsInterval (has : Version → Bool) (start : Version) : Type 0 where
  pub numbers : HasNumbers start
  pub low : (w : Version) → HasNumbers w → has w ≡ true → is_below w start ≡ false
  pub down : (u w : Version) → HasNumbers u → HasNumbers w → is_below u start ≡ false → is_below w u ≡ false → has w ≡ true → has u ≡ true

interval-from : (has : Version → Bool) (start : Version) → HasNumbers start → ((v : Version) → HasNumbers v → has v ≡ not (is_below v start)) → IsInterval has start
interval-from has start numbers is = record {
  numbers = numbers;
  low = λ w n member. not-true (is_below w start) (sym (is w n) ∙ member);
  down = λ u w n m above below member. is u n ∙ not_from_false (is_below u start) above;
}

interval-between : (has : Version → Bool) (start stop : Version) → HasNumbers start → ((v : Version) → HasNumbers v → has v ≡ not (is_below v start) && is_below v stop) → IsInterval has start
interval-between has start stop numbers is = record {
  numbers = numbers;
  low = λ w n member. not-true (is_below w start) ((and_parts (not (is_below w start)) (is_below w stop) (sym (is w n) ∙ member)).0);
  down = λ u w n m above below member.
      let under = (and_parts (not (is_below w start)) (is_below w stop) (sym (is w m) ∙ member)).1 in
      is u n ∙ and_from (not (is_below u start)) (is_below u stop) (not_from_false (is_below u start) above) (below_down u w stop below under);
}

-- ---- the operators

pub has-numbers : (x : Version) → is_version x.parts ≡ true → HasNumbers x
has-numbers x h = version_some x.parts (version_from x.parts h)

next-numbers : (x : Version) → HasNumbers (next_version x)
next-numbers x = omega (arith, length-append x.parts (0 ∷ []))

least-numbers : HasNumbers least_version
least-numbers = omega arith

module _ (x : Version) where
  equal-versions : has_versions (roll-Range (layer.Equal x)) ≡ true → HasNumbers x
  equal-versions h = has-numbers x (sym (fold-roll-Range Bool versions_step (layer.Equal x)) ∙ h)

  pub equal-interval : has_versions (roll-Range (layer.Equal x)) ≡ true → IsInterval (members (roll-Range (layer.Equal x))) x
  equal-interval h = interval-between (members (roll-Range (layer.Equal x))) x (next_version x) (equal-versions h)
      (λ v n. ap (λ f. f v) (fold-roll-Range (Version → Bool) members_step (layer.Equal x)) ∙ sym (equal_is x x (next_version x) v refl refl))

  pub prefix-interval : has_versions (roll-Range (layer.Prefix x)) ≡ true → IsInterval (members (roll-Range (layer.Prefix x))) x
  prefix-interval h =
      let numbers = has-numbers x (sym (fold-roll-Range Bool versions_step (layer.Prefix x)) ∙ h) in
      interval-between (members (roll-Range (layer.Prefix x))) x (record { parts = prefix_end x.parts }) numbers
      (λ v n. ap (λ f. f v) (fold-roll-Range (Version → Bool) members_step (layer.Prefix x)) ∙ sym (prefix_is x x (record { parts = prefix_end x.parts }) v numbers refl refl))

  pub at_least-interval : has_versions (roll-Range (layer.AtLeast x)) ≡ true → IsInterval (members (roll-Range (layer.AtLeast x))) x
  at_least-interval h = interval-from (members (roll-Range (layer.AtLeast x))) x (has-numbers x (sym (fold-roll-Range Bool versions_step (layer.AtLeast x)) ∙ h))
      (λ v n. ap (λ f. f v) (fold-roll-Range (Version → Bool) members_step (layer.AtLeast x)) ∙ sym (at_least_is x x x v refl))

  pub above-interval : IsInterval (members (roll-Range (layer.Above x))) (next_version x)
  above-interval = interval-from (members (roll-Range (layer.Above x))) (next_version x) (next-numbers x)
      (λ v n. ap (λ f. f v) (fold-roll-Range (Version → Bool) members_step (layer.Above x)) ∙ sym (above_is x x (next_version x) v refl))

  pub at_most-interval : IsInterval (members (roll-Range (layer.AtMost x))) least_version
  at_most-interval = interval-between (members (roll-Range (layer.AtMost x))) least_version (next_version x) least-numbers
      (λ v n. ap (λ f. f v) (fold-roll-Range (Version → Bool) members_step (layer.AtMost x)) ∙ sym (at_most_is x least_version (next_version x) v n refl refl))

  pub below-interval : IsInterval (members (roll-Range (layer.Below x))) least_version
  below-interval = interval-between (members (roll-Range (layer.Below x))) least_version x least-numbers
      (λ v n. ap (λ f. f v) (fold-roll-Range (Version → Bool) members_step (layer.Below x)) ∙ sym (below_is x least_version x v n refl refl))

  pub major-interval : has_versions (roll-Range (layer.Major x)) ≡ true → IsInterval (members (roll-Range (layer.Major x))) x
  major-interval h = interval-between (members (roll-Range (layer.Major x))) x (record { parts = major_end x.parts }) (has-numbers x (sym (fold-roll-Range Bool versions_step (layer.Major x)) ∙ h))
      (λ v n. ap (λ f. f v) (fold-roll-Range (Version → Bool) members_step (layer.Major x)) ∙ sym (major_is x x (record { parts = major_end x.parts }) v refl refl))

pub any-interval : IsInterval (members (roll-Range layer.Any)) least_version
any-interval = record {
  numbers = least-numbers;
  low = λ w n member. least least_version w refl n;
  down = λ u w n m above below member. ap (λ f. f u) (fold-roll-Range (Version → Bool) members_step layer.Any);
}
