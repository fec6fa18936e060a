-- Facts about conditions, by their places and their subconditions.
use Rattle.std.proofs.Common.{◌≡◌, ℕ, zero, suc, ◌<◌, true, get_or, map, List, [], ◌∷◌, ◌++◌, append_assoc, append-nil, length, refl, sym, ap, ◌∙◌, subst, arith}
use Rattle.std.specs.List.{list_any}
use Rattle.plan_types.specs.Conditions.{cond_of, conds_behind, numbered}
use Rattle.plan_types.specs.declared.condition.Cond.{Cond}
use Rattle.plan_types.specs.declared.condition.Cond.TheFolds.{fold-roll-Cond}
use Rattle.plan_types.specs.declared.condition.Cond.TheOpen as layer
use Rattle.plan_types.specs.declared.condition.Cond.TheVariants.{And, rolls-And}
use Rattle.plan_types.specs.declared.condition.Env.{Env}
use Rattle.plan_types.specs.declared.conditions.Row.{Row}
use Rattle.conditionals.specs.Count.{numbers_of}
use Rattle.conditionals.specs.declared.count.PathCounts.{PathCounts}
use Rattle.conditionals.specs.Paths.{clean_paths, holds, is_wanted, paths_of}
use Rattle.conditionals.specs.Value.{Flags, and_then, value, value_step}
use Rattle.conditionals.specs.declared.value.Tri.{Tri}
use Rattle.conditionals.specs.declared.value.Tri.TheVariants.{Yes, No, Unknown}
use Rattle.conditionals.proofs.HoldingPaths.{some_path_holds}
use Rattle.impossible_conditions.specs.Known.{AreKnown, IsKnown}
use Rattle.impossible_conditions.specs.declared.known.Facts.{Facts}

-- ---- by their places

pub known-push : (env : Env) (conds : List Cond) (items : List Facts) (cond : Cond) (known : Facts) → AreKnown env conds items → IsKnown env cond known → AreKnown env (conds ++ cond ∷ []) (items ++ known ∷ [])
known-push env [] [] cond known all is = (is, tt)
known-push env [] (first ∷ items) cond known all is = absurd all
known-push env (c ∷ conds) [] cond known all is = absurd all
known-push env (c ∷ conds) (first ∷ items) cond known all is = (all.0, known-push env conds items cond known all.1 is)

pub known-at : (env : Env) (conds : List Cond) (items : List Facts) (i : ℕ) (known : Facts) → AreKnown env conds items → i < length items → known ≡ get_or items i known → IsKnown env (numbered conds i) known
known-at env [] [] i known all within is = absurd (omega (arith, within))
known-at env [] (first ∷ items) i known all within is = absurd all
known-at env (c ∷ conds) [] i known all within is = absurd all
known-at env (c ∷ conds) (first ∷ items) zero known all within is = subst (IsKnown env c) (sym is) all.0
known-at env (c ∷ conds) (first ∷ items) (suc i) known all within is = known-at env conds items i known all.1 (omega (arith, within)) is

-- later conditions change nothing
pub numbered-front : (env : Env) (conds more : List Cond) (items : List Facts) (i : ℕ) → AreKnown env conds items → i < length items → numbered (conds ++ more) i ≡ numbered conds i
numbered-front env [] more [] i all within = absurd (omega (arith, within))
numbered-front env [] more (first ∷ items) i all within = absurd all
numbered-front env (c ∷ conds) more [] i all within = absurd all
numbered-front env (c ∷ conds) more (first ∷ items) zero all within = refl
numbered-front env (c ∷ conds) more (first ∷ items) (suc i) all within = numbered-front env conds more items i all.1 (omega (arith, within))

pub numbered-next : (env : Env) (conds more : List Cond) (items : List Facts) (cond : Cond) → AreKnown env conds items → numbered (conds ++ cond ∷ more) (length items) ≡ cond
numbered-next env [] more [] cond all = refl
numbered-next env [] more (first ∷ items) cond all = absurd all
numbered-next env (c ∷ conds) more [] cond all = absurd all
numbered-next env (c ∷ conds) more (first ∷ items) cond all = numbered-next env conds more items cond all.1

-- the next condition has its numbers
pub within-next : (env : Env) (conds more : List Cond) (items : List Facts) (cond : Cond) → AreKnown env conds items → length items < length (map (numbers_of env) (conds ++ cond ∷ more))
within-next env [] more [] cond all = omega arith
within-next env [] more (first ∷ items) cond all = absurd all
within-next env (c ∷ conds) more [] cond all = absurd all
within-next env (c ∷ conds) more (first ∷ items) cond all = let next = within-next env conds more items cond all.1 in omega (arith, next)

pub counted-next : (env : Env) (conds more : List Cond) (items : List Facts) (cond : Cond) (numbers : PathCounts) → AreKnown env conds items → numbers ≡ get_or (map (numbers_of env) (conds ++ cond ∷ more)) (length items) numbers → numbers ≡ numbers_of env cond
counted-next env [] more [] cond numbers all is = is
counted-next env [] more (first ∷ items) cond numbers all is = absurd all
counted-next env (c ∷ conds) more [] cond numbers all is = absurd all
counted-next env (c ∷ conds) more (first ∷ items) cond numbers all is = counted-next env conds more items cond numbers all.1 is

-- the conditions of the first rows are a prefix of the table
behind-front : (before : List Cond) (rows : List Row) → (more : List Cond) × (conds_behind before rows ≡ before ++ more)
behind-front before [] = ([], sym (append-nil before))
behind-front before (row ∷ rows) =
    let rest = behind-front (before ++ cond_of before row ∷ []) rows in
    (cond_of before row ∷ rest.0, rest.1 ∙ append_assoc before (cond_of before row ∷ []) rest.0)

-- ---- by their subconditions

module _ (env : Env) (flags : Flags) where
  value-And : (front last : Cond) → value env flags (And front last) ≡ and_then (value env flags front) (value env flags last)
  value-And front last = ap (value env flags) (sym (rolls-And front last)) ∙ fold-roll-Cond Tri (value_step env flags) (layer.And front last)

  both-yes : (v w : Tri) → and_then v w ≡ Yes → (v ≡ Yes) × (w ≡ Yes)
  both-yes Yes Yes e = (refl, refl)
  both-yes Yes No e = absurd (cc e)
  both-yes Yes Unknown e = absurd (cc e)
  both-yes No w e = absurd (cc e)
  both-yes Unknown w e = absurd (cc e)

  pub parts-yes : (front last : Cond) → value env flags (And front last) ≡ Yes → (value env flags front ≡ Yes) × (value env flags last ≡ Yes)
  parts-yes front last e = both-yes (value env flags front) (value env flags last) (sym (value-And front last) ∙ e)

  -- if a condition is Yes, some path holds
  pub one-holds : (cond : Cond) → value env flags cond ≡ Yes → list_any (holds flags) (clean_paths (paths_of env cond true)) ≡ true
  one-holds cond e = some_path_holds env flags cond true ∙ ap (is_wanted true) e

-- the conditions so far, the next one, and the rest
pub next-row : (before : List Cond) (row : Row) (rows : List Row) (conds : List Cond) → conds_behind before (row ∷ rows) ≡ conds → (more : List Cond) × (conds ≡ before ++ cond_of before row ∷ more)
next-row before row rows conds e =
    let rest = behind-front (before ++ cond_of before row ∷ []) rows in
    (rest.0, sym e ∙ rest.1 ∙ append_assoc before (cond_of before row ∷ []) rest.0)
