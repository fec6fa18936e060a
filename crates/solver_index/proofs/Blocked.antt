-- The blocks of a package: its releases, and its units.
use Rattle.std.proofs.Common.{◌≡◌, ℕ, zero, suc, ◌<◌, ◌≤◌, Bool, true, false, not, List, [], ◌∷◌, length, refl, sym, ap, ◌∙◌, subst, inl, inr, arith}
use Rattle.std.specs.List.{Contains}
use Rattle.std.proofs.lemmas.Bool.{false≢true, cases_lt, not-false, not-true}
use Rattle.std.proofs.lemmas.List.Elements.{Contains-get_or}
use Rattle.std.proofs.ByRecursion.{All-get_or}
use Rattle.plan_types.specs.declared.index.Entry.{Entry}
use Rattle.version_range.specs.Cuts.{HasNumbers, is_below}
use Rattle.version_range.proofs.RisingEnds.{not_itself}
use Rattle.solver_index.specs.Blocks.{AreInBlocks, IsPrefixClosed, IsBlock, MayFollow, version_at}
use Rattle.solver_index.specs.Places.{entry_at, no_entry}
use Rattle.plan_types.specs.Packages.{is_installed}

follow-at : (entries : List Entry) → AreInBlocks entries → (i j : ℕ) → i < j → j < length entries → MayFollow (entry_at entries i) (entry_at entries j)
follow-at [] h i j less below = absurd (omega (arith, below))
follow-at (e ∷ entries) h i zero less below = absurd (omega (arith, less))
follow-at (e ∷ entries) h zero (suc j) less below = All-get_or (MayFollow e) entries j no_entry (omega (arith, below)) h.0
follow-at (e ∷ entries) h (suc i) (suc j) less below = follow-at entries h.1 i j (omega (arith, less)) (omega (arith, below))

module _ (entries : List Entry) (blocks : AreInBlocks entries) where
  abbrev source : Entry → Bool
  source e = not (is_installed e.body)

  source-back : (a b : Bool) → (a ≡ true → b ≡ true) → not b ≡ true → not a ≡ true
  source-back true b h k = absurd (false≢true (ap not (sym (h refl)) ∙ k))
  source-back false b h k = refl

  pub sources-fall : IsPrefixClosed source entries 0 (length entries)
  sources-fall i j low up upto h =
      elim (cases_lt i j) [
        | inl less ↦ source-back (is_installed (entry_at entries i).body) (is_installed (entry_at entries j).body) (follow-at entries blocks i j less upto).0 h
        | inr equal ↦ let same : j ≡ i = omega (arith, up, equal) in subst (λ k. source (entry_at entries k) ≡ true) same h
      ]

  -- a segment of one kind
  of-kind : (from to : ℕ) (kind : Bool) → from ≤ to → to ≤ length entries → ((k : ℕ) → from ≤ k → k < to → is_installed (entry_at entries k).body ≡ kind)
      → ((e : Entry) → Contains entries e → HasNumbers e.instance.version) → IsBlock entries from to
  of-kind from to kind low high is numbers = record {
    low = low;
    high = high;
    rise = λ i j after up upto. elim (cases_lt i j) [
      | inl less ↦ (follow-at entries blocks i j less (omega (arith, upto, high))).1 (is i after (omega (arith, less, upto)) ∙ sym (is j (omega (arith, after, up)) upto))
      | inr equal ↦ let same : i ≡ j = omega (arith, up, equal) in subst (λ k. is_below (version_at entries j) (version_at entries k) ≡ false) (sym same) (not_itself (version_at entries j))
    ];
    numbers = λ i after upto. numbers (entry_at entries i) (Contains-get_or entries i no_entry (omega (arith, upto, high)));
  }

  pub releases-block : (r : ℕ) → r ≤ length entries → ((k : ℕ) → 0 ≤ k → k < r → source (entry_at entries k) ≡ true) → ((e : Entry) → Contains entries e → HasNumbers e.instance.version) → IsBlock entries 0 r
  releases-block r high front numbers = of-kind 0 r false (omega arith) high (λ k after upto. not-true (is_installed (entry_at entries k).body) (front k after upto)) numbers

  pub units-block : (r : ℕ) → r ≤ length entries → ((k : ℕ) → r ≤ k → k < length entries → source (entry_at entries k) ≡ false) → ((e : Entry) → Contains entries e → HasNumbers e.instance.version)
      → IsBlock entries r (length entries)
  units-block r high rest numbers = of-kind r (length entries) true high (omega arith) (λ k after upto. not-false (is_installed (entry_at entries k).body) (rest k after upto)) numbers
