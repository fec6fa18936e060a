-- Membership is constant between the bounds of a range, and tests of its relaxed range are so too.
use Rattle.std.proofs.Common.{◌≡◌, ℕ, ◌<◌, ◌≤◌, Bool, true, false, List, [], ◌∷◌, ◌++◌, refl, sym, ap, ◌∙◌, inl, inr, arith, append_assoc}
use Rattle.std.specs.List.{Contains}
use Rattle.std.proofs.lemmas.Bool.{false≢true, cases_lt}
use Rattle.std.proofs.lemmas.List.{append-nil}
use Rattle.std.proofs.lemmas.List.Elements.{Contains-append_left, Contains-append_right, Contains-append_cases}
use Rattle.std.specs.Cmp.{both_ways}
use Rattle.plan_types.specs.declared.index.Entry.{Entry}
use Rattle.plan_types.specs.declared.range.Range.{Range}
use Rattle.plan_types.specs.declared.version.Version.{Version}
use Rattle.plan_types.specs.Members.{members}
use Rattle.version_range.specs.declared.merge.Connective.{Connective}
use Rattle.version_range.specs.Cuts.{HasNumbers, IsRelaxed, IsSplit, Relaxes, SomeAbove, SomeBelow, is_below, join}
use Rattle.version_range.proofs.RisingEnds.{below_down, below_up, not_below_back, not_itself}
use Rattle.solver_index.specs.Before.{before}
use Rattle.solver_index.specs.Blocks.{IsBlock, version_at}
use Rattle.solver_index.specs.RangeBounds.{AreBounds, AreBoundsBut, IsConstantWhere, IsConstant, HasNoBound, IsOperator}
use Rattle.solver_index.proofs.ListLaws.{false-back}
use Rattle.common_laws.specs.Lists.{contains-head, contains-tail, contains-none, contains-cases}

-- ---- an operator

-- two places that both lie in front of the members, among them or behind them
module _ (r : Range) (is : IsOperator r) (entries : List Entry) (from to first last : ℕ) (block : IsBlock entries from to)
    (low : from ≤ first) (middle : first ≤ last) (high : last ≤ to)
    (front : (k : ℕ) → from ≤ k → k < first → before r (version_at entries k) ≡ true) (reached : (k : ℕ) → first ≤ k → k < to → before r (version_at entries k) ≡ false)
    (inner : (k : ℕ) → first ≤ k → k < last → members r (version_at entries k) ≡ true) (left : (k : ℕ) → last ≤ k → k < to → members r (version_at entries k) ≡ false) where
  abbrev v : ℕ → Version
  v k = version_at entries k

  -- between two places in front of the members there are no members
  in-front : (a b : ℕ) → from ≤ a → a ≤ b → b < first → IsConstant (members r) (v a) (v b)
  in-front a b la ab bf u n behind le =
      let nb = block.numbers b (omega (arith, la, ab)) (omega (arith, bf, middle, high)) in
      let na = block.numbers a la (omega (arith, ab, bf, middle, high)) in
      is.outside u n (is.front u (v b) n nb le (front b (omega (arith, la, ab)) bf)) ∙ sym (is.outside (v a) na (front a la (omega (arith, ab, bf))))

  among : (a b : ℕ) → first ≤ a → a ≤ b → b < last → IsConstant (members r) (v a) (v b)
  among a b fa ab bl u n behind le =
      let na = block.numbers a (omega (arith, low, fa)) (omega (arith, ab, bl, high)) in
      let nb = block.numbers b (omega (arith, low, fa, ab)) (omega (arith, bl, high)) in
      -- u isn't in front of the members, since then the earlier place were too
      let there : before r u ≡ false = false-back (before r u) (before r (v a)) (λ h. is.front (v a) u na n behind h) (reached a fa (omega (arith, ab, bl, high))) in
      is.down u (v b) n nb there le (inner b (omega (arith, fa, ab)) bl) ∙ sym (inner a fa (omega (arith, ab, bl)))

  beyond : (a b : ℕ) → last ≤ a → a ≤ b → b < to → IsConstant (members r) (v a) (v b)
  beyond a b la ab bt u n behind le =
      let na = block.numbers a (omega (arith, low, middle, la)) (omega (arith, ab, bt)) in
      let none = left a la (omega (arith, ab, bt)) in
      false-back (members r u) (members r (v a)) (λ h. is.down (v a) u na n (reached a (omega (arith, middle, la)) (omega (arith, ab, bt))) behind h) none ∙ sym none

  pub operator-constant : (a b : ℕ) → from ≤ a → a ≤ b → b < to → HasNoBound (first ∷ last ∷ []) a b → IsConstant (members r) (v a) (v b)
  operator-constant a b la ab bt free =
      elim (cases_lt a first) [
        | inl before_first ↦
            let both : b < first = free first (contains-head first (last ∷ [])) before_first in
            in-front a b la ab both
        | inr behind_first ↦ elim (cases_lt a last) [
          | inl before_last ↦
              let both : b < last = free last (contains-tail first (last ∷ []) last (contains-head last [])) before_last in
              among a b (omega (arith, behind_first)) ab both
          | inr behind_last ↦ beyond a b (omega (arith, behind_last)) ab bt
        ]
      ]

  operator-within : (t : ℕ) → Contains (first ∷ last ∷ []) t → (from ≤ t) × (t ≤ to)
  operator-within t h =
      elim (contains-cases first (last ∷ []) t h) [
        | inl e ↦ (omega (arith, e, low), omega (arith, e, middle, high))
        | inr k ↦ elim (contains-cases last [] t k) [ inl e ↦ (omega (arith, e, low, middle), omega (arith, e, high)) | inr none ↦ absurd (contains-none t none) ]
      ]

  pub operator-bounds : (old one new : List ℕ) → one ≡ old ++ first ∷ [] → new ≡ one ++ last ∷ [] → AreBounds (members r) entries from to old new
  operator-bounds old one new e f = record {
    more = first ∷ last ∷ [];
    extends = f ∙ ap (λ l. l ++ last ∷ []) e ∙ append_assoc old (first ∷ []) (last ∷ []);
    within = operator-within;
    constant = operator-constant;
  }

-- ---- joined ranges

free-left : (xs ys : List ℕ) (a b : ℕ) → HasNoBound (xs ++ ys) a b → HasNoBound xs a b
free-left xs ys a b free t h = free t (Contains-append_left xs ys t h)

free-right : (xs ys : List ℕ) (a b : ℕ) → HasNoBound (xs ++ ys) a b → HasNoBound ys a b
free-right xs ys a b free t h = free t (Contains-append_right xs ys t h)

join-constant : (joint : Connective) (range left right : Range) → IsSplit joint range left right → (v w : Version) → IsConstant (members left) v w → IsConstant (members right) v w → IsConstant (members range) v w
join-constant joint range left right split v w l r u n behind le =
    split.members_are u ∙ (λ i. join joint (l u n behind le i) (r u n behind le i)) ∙ sym (split.members_are v)

module _ (has : Version → Bool) (entries : List Entry) (from to : ℕ) where
  pub bounds-start : (old : List ℕ) → AreBoundsBut has has entries from to old old
  bounds-start old = record { more = []; extends = sym (append-nil old); within = λ t h. absurd (contains-none t h); constant = λ a b la ab bt free c. c }

  both-within : (xs ys : List ℕ) → ((t : ℕ) → Contains xs t → (from ≤ t) × (t ≤ to)) → ((t : ℕ) → Contains ys t → (from ≤ t) × (t ≤ to)) → (t : ℕ) → Contains (xs ++ ys) t → (from ≤ t) × (t ≤ to)
  both-within xs ys l r t h = elim (Contains-append_cases xs ys t h) [ inl a ↦ l t a | inr b ↦ r t b ]

  pub bounds-step : (joint : Connective) (range left right : Range) (old one new : List ℕ) → IsSplit joint range left right → AreBoundsBut has (members range) entries from to old one
      → AreBounds (members right) entries from to one new → AreBoundsBut has (members left) entries from to old new
  bounds-step joint range left right old one new split was bounded = record {
    more = was.more ++ bounded.more;
    extends = bounded.extends ∙ ap (λ l. l ++ bounded.more) was.extends ∙ append_assoc old was.more bounded.more;
    within = both-within was.more bounded.more was.within bounded.within;
    constant = λ a b la ab bt free c.
        was.constant a b la ab bt (free-left was.more bounded.more a b free)
        (join-constant joint range left right split (version_at entries a) (version_at entries b) c (bounded.constant a b la ab bt (free-right was.more bounded.more a b free)));
  }

  pub bounds-end : (rest : Version → Bool) (old one new : List ℕ) → AreBoundsBut has rest entries from to old one → AreBounds rest entries from to one new → AreBounds has entries from to old new
  bounds-end rest old one new was bounded = record {
    more = was.more ++ bounded.more;
    extends = bounded.extends ∙ ap (λ l. l ++ bounded.more) was.extends ∙ append_assoc old was.more bounded.more;
    within = both-within was.more bounded.more was.within bounded.within;
    constant = λ a b la ab bt free.
        was.constant a b la ab bt (free-left was.more bounded.more a b free) (bounded.constant a b la ab bt (free-right was.more bounded.more a b free));
  }

-- ---- relaxed ranges follow

module _ (newer older : Bool) (has f : Version → Bool) (relaxes : Relaxes newer older has f) (v w : Version) (nv : HasNumbers v) (nw : HasNumbers w) (le : is_below w v ≡ false) (constant : IsConstant has v w) where
  same : has w ≡ has v
  same = constant w nw le (not_itself w)

  -- where neither end is a member, none between them is
  none-between : has v ≡ false → (u : Version) → HasNumbers u → has u ≡ true → is_below u v ≡ false → is_below w u ≡ false → ⊥
  none-between none u n m behind below = false≢true (sym (constant u n behind below ∙ none) ∙ m)

  under : has v ≡ false → SomeBelow has w → SomeBelow has v
  under none (u, n, m, h) =
      elim (is_below u v) as (λ t. is_below u v ≡ t → SomeBelow has v) [
        | true ↦ λ e. (u, n, m, e)
        | false ↦ λ e. absurd (none-between none u n m e (not_below_back u w h))
      ] refl

  under-up : SomeBelow has v → SomeBelow has w
  under-up (u, n, m, h) = (u, n, m, below_up u v w h le)

  over : has v ≡ false → SomeAbove has v → SomeAbove has w
  over none (u, n, m, h) =
      elim (is_below w u) as (λ t. is_below w u ≡ t → SomeAbove has w) [
        | true ↦ λ e. (u, n, m, e)
        | false ↦ λ e. absurd (none-between none u n m (not_below_back v u h) e)
      ] refl

  over-down : SomeAbove has w → SomeAbove has v
  over-down (u, n, m, h) = (u, n, m, below_down v w u le h)

  up : has v ≡ false → IsRelaxed newer older has v → IsRelaxed newer older has w
  up none (inl m) = absurd (false≢true (sym none ∙ m))
  up none (inr (inl n)) = inr (inl (n.0, (under-up n.1.0, λ s. n.1.1 (over-down s))))
  up none (inr (inr o)) = inr (inr (o.0, (over none o.1.0, λ s. o.1.1 (under none s))))

  down : has v ≡ false → IsRelaxed newer older has w → IsRelaxed newer older has v
  down none (inl m) = absurd (false≢true (sym (same ∙ none) ∙ m))
  down none (inr (inl n)) = inr (inl (n.0, (under none n.1.0, λ s. n.1.1 (over none s))))
  down none (inr (inr o)) = inr (inr (o.0, (over-down o.1.0, λ s. o.1.1 (under-up s))))

  pub relaxed-same : f v ≡ f w
  relaxed-same =
      elim (has v) as (λ t. has v ≡ t → f v ≡ f w) [
        | true ↦ λ e. (relaxes v nv).1 (inl e) ∙ sym ((relaxes w nw).1 (inl (same ∙ e)))
        | false ↦ λ e. both_ways (f v) (f w) (λ h. (relaxes w nw).1 (up e ((relaxes v nv).0 h))) (λ h. (relaxes v nv).1 (down e ((relaxes w nw).0 h)))
      ] refl

pub relaxed-follows : (newer older : Bool) (has f : Version → Bool) → Relaxes newer older has f → IsConstantWhere has f
relaxed-follows newer older has f relaxes v w nv nw le constant = relaxed-same newer older has f relaxes v w nv nw le constant

pub itself-follows : (has : Version → Bool) → IsConstantWhere has has
itself-follows has v w nv nw le constant = sym (constant w nw le (not_itself w))

-- a test equal on versions with numbers follows membership too
pub same-follows : (has f g : Version → Bool) → ((v : Version) → HasNumbers v → g v ≡ f v) → IsConstantWhere has f → IsConstantWhere has g
same-follows has f g is h v w nv nw le constant = is v nv ∙ h v w nv nw le constant ∙ sym (is w nw)
