-- The ranges for a name, with one more entry.
use Rattle.std.proofs.Common.{◌≡◌, ℕ, ◌+◌, ◌<◌, Bool, true, false, cond, List, [], ◌∷◌, ◌++◌, map, length, take, get_or, refl, ap, ◌∙◌}
use Rattle.std.specs.List.{filter}
use Rattle.std.specs.Prelude.{if◌then◌else◌}
use Rattle.plan_types.specs.Bytes.{same_text}
use Rattle.plan_types.specs.declared.dependency.Named.{Named}
use Rattle.plan_types.specs.declared.range.Range.{Range}
use Rattle.qualified_goals.specs.Names.{Name}
use Rattle.common_laws.specs.Lists.{take_at}
use Rattle.solver_index.specs.Orders.{ranges_for}

abbrev ranges : List Named → List Range
ranges = map (λ (n : Named). n.range)

abbrev with_name : Name → List Named → List Named
with_name name = filter (λ (n : Named). same_text n.name name)

first : (b : Bool) (n : Named) → ranges (cond b (n ∷ []) []) ≡ (if b then n.range ∷ [] else [])
first true n = refl
first false n = refl

behind : (b : Bool) (m : Named) (old new : List Named) (more : List Range) → ranges new ≡ ranges old ++ more → ranges (cond b (m ∷ new) new) ≡ ranges (cond b (m ∷ old) old) ++ more
behind true m old new more h = ap (λ l. m.range ∷ l) h
behind false m old new more h = h

one-more : (name : Name) (all : List Named) (n : Named) → ranges_for name (all ++ n ∷ []) ≡ ranges_for name all ++ (if same_text n.name name then n.range ∷ [] else [])
one-more name [] n = first (same_text n.name name) n
one-more name (m ∷ all) n =
    behind (same_text m.name name) m (with_name name all) (with_name name (all ++ n ∷ [])) (if same_text n.name name then n.range ∷ [] else []) (one-more name all n)

-- the ranges for a name, with one more entry
pub ranges-more : (name : Name) (all : List Named) (i : ℕ) (n : Named) → i < length all → n ≡ get_or all i n
    → ranges_for name (take (i + 1) all) ≡ ranges_for name (take i all) ++ (if same_text n.name name then n.range ∷ [] else [])
ranges-more name all i n within is = ap (ranges_for name) (take_at all i n within is) ∙ one-more name (take i all) n
