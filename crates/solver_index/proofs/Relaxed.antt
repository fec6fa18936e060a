-- The test for a relaxed range is right.
use Rattle.std.proofs.Common.{◌≡◌, Bool, true, false, not, ◌&&◌, ◌||◌, IsTrue, List, [], ◌∷◌, ◌++◌, refl, sym, ap, ◌∙◌, subst, inl, inr}
use Rattle.std.specs.List.{Contains}
use Rattle.std.proofs.lemmas.Bool.{false≢true, and_parts, and_from, or_left, or_right, or_cases}
use Rattle.std.proofs.lemmas.List.Elements.{Contains-append_left, Contains-append_right, Contains-append_cases}
use Rattle.plan_types.specs.declared.project.Project.{Project}
use Rattle.plan_types.specs.declared.range.Range.{Range, roll-Range, map-Range}
use Rattle.plan_types.specs.declared.range.Range.TheOpen as layer
use Rattle.plan_types.specs.declared.range.Range.TheFolds.{fold-roll-Range, ind-Range}
use Rattle.plan_types.specs.declared.version.Version.{Version}
use Rattle.plan_types.specs.Members.{members, members_step}
use Rattle.version_range.specs.Cuts.{HasNumbers, IsRelaxed, Relaxes, SomeAbove, SomeBelow, is_below}
use Rattle.version_range.specs.Version.{has_versions, versions_step}
use Rattle.version_range.proofs.RisingEnds.{below_down, not_below_back, not_below_through, not_itself}
use Rattle.solver_index.specs.AllowedVersions.{AreRelaxedRanges, allowed_versions, least_version, next_version, relaxed_range, starts, starts_above, starts_below, starts_step}
use Rattle.solver_index.proofs.Atoms.{IsInterval, above-interval, any-interval, at_least-interval, at_most-interval, below-interval, equal-interval, major-interval, prefix-interval}
use Rattle.common_laws.specs.Lists.{contains-head, contains-none, contains-cases, any-at, any-from}
use Rattle.common_laws.specs.Small.{not-from, not-to}

-- each version from the start up to w is a member
record IsStart (has : Version → Bool) (start w : Version) : Type 0 where
  numbers : HasNumbers start
  low : is_below w start ≡ false
  each : (u : Version) → HasNumbers u → is_below u start ≡ false → is_below w u ≡ false → has u ≡ true

-- each member has a start at or below it, and each start has numbers
record IsStarted (r : Range) : Type 0 where
  start_of : (w : Version) → HasNumbers w → members r w ≡ true → (start : Version) × Contains (starts r) start × IsStart (members r) start w
  numbers : (start : Version) → Contains (starts r) start → HasNumbers start

abbrev Claim : Range → Type 0
Claim r = has_versions r ≡ true → IsStarted r

atom : (r : Range) (start : Version) → starts r ≡ start ∷ [] → IsInterval (members r) start → IsStarted r
atom r start are is = record {
  start_of = λ w n member. (
    start,
    subst (λ l. Contains l start) (sym are) (contains-head start []),
    record { numbers = is.numbers; low = is.low w n member; each = λ u m above below. is.down u w m n above below member },
  );
  numbers = λ other h. elim (contains-cases start [] other (subst (λ l. Contains l other) are h)) [
    | inl e ↦ subst HasNumbers e is.numbers
    | inr none ↦ absurd (contains-none other none)
  ];
}

no-members : IsStarted (roll-Range layer.Nothing)
no-members = record {
  start_of = λ w n member. absurd (false≢true (sym (ap (λ f. f w) (fold-roll-Range (Version → Bool) members_step layer.Nothing)) ∙ member));
  numbers = λ other h. absurd (contains-none other (subst (λ l. Contains l other) (fold-roll-Range (List Version) starts_step layer.Nothing) h));
}

module _ (r left right : Range) (are : starts r ≡ starts left ++ starts right) (l : IsStarted left) (k : IsStarted right) where
  both-numbers : (start : Version) → Contains (starts r) start → HasNumbers start
  both-numbers start h =
      elim (Contains-append_cases (starts left) (starts right) start (subst (λ xs. Contains xs start) are h)) [ inl a ↦ l.numbers start a | inr b ↦ k.numbers start b ]

  from-left : (start : Version) → Contains (starts left) start → Contains (starts r) start
  from-left start h = subst (λ xs. Contains xs start) (sym are) (Contains-append_left (starts left) (starts right) start h)

  from-right : (start : Version) → Contains (starts right) start → Contains (starts r) start
  from-right start h = subst (λ xs. Contains xs start) (sym are) (Contains-append_right (starts left) (starts right) start h)

  -- the start of one side, where the range has all versions from there to the member
  started-from : (side : Range) (start w : Version) → IsStart (members side) start w
      → ((u : Version) → HasNumbers u → is_below u start ≡ false → is_below w u ≡ false → members r u ≡ true) → IsStart (members r) start w
  started-from side start w is each = record { numbers = is.numbers; low = is.low; each = each }

  both-started : ((v : Version) → members r v ≡ members left v && members right v) → IsStarted r
  both-started is = record {
    start_of = λ w n member.
        let whole = sym (is w) ∙ member in
        let a = l.start_of w n ((and_parts (members left w) (members right w) whole).0) in
        let b = k.start_of w n ((and_parts (members left w) (members right w) whole).1) in
        elim (is_below a.0 b.0) as (λ t. is_below a.0 b.0 ≡ t → (start : Version) × Contains (starts r) start × IsStart (members r) start w) [
          | true ↦ λ e. (
            b.0,
            from-right b.0 b.1,
            started-from right b.0 w b.2 (λ u m above below. is u
                ∙ and_from (members left u) (members right u) (a.2.each u m (not_below_through a.0 b.0 u (not_below_back a.0 b.0 e) above) below) (b.2.each u m above below)),
          )
          | false ↦ λ e. (
            a.0,
            from-left a.0 a.1,
            started-from left a.0 w a.2 (λ u m above below. is u
                ∙ and_from (members left u) (members right u) (a.2.each u m above below) (b.2.each u m (not_below_through b.0 a.0 u e above) below)),
          )
        ] refl;
    numbers = both-numbers;
  }

  either-started : ((v : Version) → members r v ≡ members left v || members right v) → IsStarted r
  either-started is = record {
    start_of = λ w n member.
        elim (or_cases (members left w) (members right w) (sym (is w) ∙ member)) [
          | inl m ↦
              let a = l.start_of w n m in
              (a.0, from-left a.0 a.1, started-from left a.0 w a.2 (λ u o above below. is u ∙ or_left (members left u) (members right u) (a.2.each u o above below)))
          | inr m ↦
              let b = k.start_of w n m in
              (b.0, from-right b.0 b.1, started-from right b.0 w b.2 (λ u o above below. is u ∙ or_right (members left u) (members right u) (b.2.each u o above below)))
        ];
    numbers = both-numbers;
  }

abbrev of_layer : layer.Range-F ((r : Range) × Claim r) → Range
of_layer y = roll-Range (map-Range ((r : Range) × Claim r) Range (λ e. e.0) y)

step : (y : layer.Range-F ((r : Range) × Claim r)) → Claim (of_layer y)
step layer.Any = λ h. atom (roll-Range layer.Any) least_version (fold-roll-Range (List Version) starts_step layer.Any) any-interval
step layer.Nothing = λ h. no-members
step (layer.Equal x) = λ h. atom (roll-Range (layer.Equal x)) x (fold-roll-Range (List Version) starts_step (layer.Equal x)) (equal-interval x h)
step (layer.Prefix x) = λ h. atom (roll-Range (layer.Prefix x)) x (fold-roll-Range (List Version) starts_step (layer.Prefix x)) (prefix-interval x h)
step (layer.AtLeast x) = λ h. atom (roll-Range (layer.AtLeast x)) x (fold-roll-Range (List Version) starts_step (layer.AtLeast x)) (at_least-interval x h)
step (layer.Above x) = λ h. atom (roll-Range (layer.Above x)) (next_version x) (fold-roll-Range (List Version) starts_step (layer.Above x)) (above-interval x)
step (layer.AtMost x) = λ h. atom (roll-Range (layer.AtMost x)) least_version (fold-roll-Range (List Version) starts_step (layer.AtMost x)) (at_most-interval x)
step (layer.Below x) = λ h. atom (roll-Range (layer.Below x)) least_version (fold-roll-Range (List Version) starts_step (layer.Below x)) (below-interval x)
step (layer.Major x) = λ h. atom (roll-Range (layer.Major x)) x (fold-roll-Range (List Version) starts_step (layer.Major x)) (major-interval x h)
step (layer.Both l r) = λ h.
    let versions = sym (fold-roll-Range Bool versions_step (layer.Both l.0 r.0)) ∙ h in
    both-started (roll-Range (layer.Both l.0 r.0)) l.0 r.0 (fold-roll-Range (List Version) starts_step (layer.Both l.0 r.0))
    (l.1 ((and_parts (has_versions l.0) (has_versions r.0) versions).0)) (r.1 ((and_parts (has_versions l.0) (has_versions r.0) versions).1))
    (λ v. ap (λ f. f v) (fold-roll-Range (Version → Bool) members_step (layer.Both l.0 r.0)))
step (layer.Either l r) = λ h.
    let versions = sym (fold-roll-Range Bool versions_step (layer.Either l.0 r.0)) ∙ h in
    either-started (roll-Range (layer.Either l.0 r.0)) l.0 r.0 (fold-roll-Range (List Version) starts_step (layer.Either l.0 r.0))
    (l.1 ((and_parts (has_versions l.0) (has_versions r.0) versions).0)) (r.1 ((and_parts (has_versions l.0) (has_versions r.0) versions).1))
    (λ v. ap (λ f. f v) (fold-roll-Range (Version → Bool) members_step (layer.Either l.0 r.0)))

started : (r : Range) → Claim r
started = ind-Range Claim (λ x y is. subst (λ z. Claim (roll-Range z)) is (step y))

-- ---- some member below, some member above

module _ (r : Range) (s : IsStarted r) (v : Version) where
  below-from : SomeBelow (members r) v → starts_below r v ≡ true
  below-from (w, n, member, under) =
      let a = s.start_of w n member in
      any-from (λ t. members r t && is_below t v) (starts r) a.0 a.1
      (and_from (members r a.0) (is_below a.0 v) (a.2.each a.0 a.2.numbers (not_itself a.0) a.2.low) (below_down a.0 w v a.2.low under))

  below-to : starts_below r v ≡ true → SomeBelow (members r) v
  below-to h =
      let a = any-at (λ t. members r t && is_below t v) (starts r) h in
      (a.0, s.numbers a.0 a.1, (and_parts (members r a.0) (is_below a.0 v) a.2).0, (and_parts (members r a.0) (is_below a.0 v) a.2).1)

  above-to : starts_above r v ≡ true → SomeAbove (members r) v
  above-to h =
      let a = any-at (λ t. members r t && is_below v t) (starts r) h in
      (a.0, s.numbers a.0 a.1, (and_parts (members r a.0) (is_below v a.0) a.2).0, (and_parts (members r a.0) (is_below v a.0) a.2).1)

  -- where v is no member, a member above it has its start above v
  above-from : HasNumbers v → members r v ≡ false → SomeAbove (members r) v → starts_above r v ≡ true
  above-from numbers none (w, n, member, over) =
      let a = s.start_of w n member in
      elim (is_below v a.0) as (λ t. is_below v a.0 ≡ t → starts_above r v ≡ true) [
        | true ↦ λ e. any-from (λ t. members r t && is_below v t) (starts r) a.0 a.1
            (and_from (members r a.0) (is_below v a.0) (a.2.each a.0 a.2.numbers (not_itself a.0) a.2.low) e)
        | false ↦ λ e. absurd (false≢true (sym none ∙ a.2.each v numbers e (not_below_back v w over)))
      ] refl

module _ (newer older : Bool) (r : Range) (s : IsStarted r) (v : Version) (numbers : HasNumbers v) where
  abbrev below : Bool
  below = starts_below r v

  abbrev above : Bool
  above = starts_above r v

  abbrev outside : Bool
  outside = newer && (below && not above) || older && (above && not below)

  to-relaxed : members r v ≡ false → outside ≡ true → IsRelaxed newer older (members r) v
  to-relaxed none h =
      elim (or_cases (newer && (below && not above)) (older && (above && not below)) h) [
        | inl n ↦
            let rest = (and_parts newer (below && not above) n).1 in
            inr (inl ((and_parts newer (below && not above) n).0, (below-to r s v ((and_parts below (not above) rest).0), λ some. not-to above ((and_parts below (not above) rest).1) (above-from r s v numbers none some))))
        | inr o ↦
            let rest = (and_parts older (above && not below) o).1 in
            inr (inr ((and_parts older (above && not below) o).0, (above-to r s v ((and_parts above (not below) rest).0), λ some. not-to below ((and_parts above (not below) rest).1) (below-from r s v some))))
      ]

  from-relaxed : members r v ≡ false → IsRelaxed newer older (members r) v → outside ≡ true
  from-relaxed none (inl m) = absurd (false≢true (sym none ∙ m))
  from-relaxed none (inr (inl n)) =
      or_left (newer && (below && not above)) (older && (above && not below))
      (and_from newer (below && not above) n.0 (and_from below (not above) (below-from r s v n.1.0) (not-from above (λ h. n.1.1 (above-to r s v h)))))
  from-relaxed none (inr (inr o)) =
      or_right (newer && (below && not above)) (older && (above && not below))
      (and_from older (above && not below) o.0 (and_from above (not below) (above-from r s v numbers none o.1.0) (not-from below (λ h. o.1.1 (below-to r s v h)))))

  tells : (IsTrue (members r v || outside) → IsRelaxed newer older (members r) v) × (IsRelaxed newer older (members r) v → IsTrue (members r v || outside))
  tells =
      elim (members r v) as (λ b. members r v ≡ b → (IsTrue (b || outside) → IsRelaxed newer older (members r) v) × (IsRelaxed newer older (members r) v → IsTrue (b || outside))) [
        | true ↦ λ e. (λ h. inl e, λ h. refl)
        | false ↦ λ e. (λ h. to-relaxed e h, λ h. from-relaxed e h)
      ] refl

relaxes-range : (newer older : Bool) (r : Range) → has_versions r ≡ true → Relaxes newer older (members r) (relaxed_range newer older r)
unfolding relaxed_range
relaxes-range newer older r versions v numbers = tells newer older r (started r versions) v numbers

pub are-relaxed : (project : Project) → AreRelaxedRanges project (allowed_versions project)
unfolding allowed_versions
are-relaxed project owner dep versions = relaxes-range _ _ dep.range versions
