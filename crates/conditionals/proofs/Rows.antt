-- The numbers of a table's conditions, from those of earlier rows.
use Rattle.std.proofs.Common.{◌≡◌, ℕ, ◌+◌, ◌*◌, zero, suc, Bool, true, false, List, [], ◌∷◌, ◌++◌, map, get_or, length, refl, sym, ap, ◌∙◌}
use Rattle.std.proofs.lemmas.List.{map-append}
use Rattle.plan_types.specs.Conditions.{numbered, cond_of}
use Rattle.plan_types.specs.declared.condition.Cond.{Cond}
use Rattle.plan_types.specs.declared.condition.Cond.TheVariants.{Always, Not, And, rolls-Always}
use Rattle.plan_types.specs.declared.condition.Cond.TheOpen as layer
use Rattle.plan_types.specs.declared.condition.Cond.TheFolds.{fold-roll-Cond}
use Rattle.plan_types.specs.declared.condition.Env.{Env}
use Rattle.plan_types.specs.declared.conditions.Row.{Row}
use Rattle.plan_types.specs.declared.conditions.Row.TheVariants.{Own, Negated, Both}
use Rattle.common_laws.specs.Small.{capped, capped-add}
use Rattle.conditionals.specs.Count.{numbers_of}
use Rattle.conditionals.specs.Paths.{Path, paths_of, paths_step}
use Rattle.conditionals.specs.Table.{numbers_at, numbers_of_not, numbers_of_and, numbers_of_row}
use Rattle.conditionals.specs.declared.count.PathCounts.{PathCounts}
use Rattle.conditionals.proofs.ConditionLayers.{paths_Not}
use Rattle.conditionals.proofs.PathNumbers.{capped_product, number, numbers_And}

capped-both : (x y z : ℕ) → capped (capped x + capped (capped y * capped z)) ≡ capped (x + y * z)
capped-both x y z = ap (λ n. capped (capped x + n)) (capped_product y z) ∙ capped-add x (y * z)

get-map : {A B : Type 0} (f : A → B) (xs : List A) (i : ℕ) (x : A) → get_or (map f xs) i (f x) ≡ f (get_or xs i x)
get-map f [] i x = refl
get-map f (y ∷ xs) zero x = refl
get-map f (y ∷ xs) (suc i) x = get-map f xs i x

module _ (env : Env) where
  abbrev all : List Cond → List PathCounts
  all conds = map (numbers_of env) conds

  abbrev Paths : Type 0
  Paths = Bool → List Path

  of-always : record { yes = 1; no = 0 } ≡ numbers_of env Always
  of-always =
      let same = ap (paths_of env) (sym rolls-Always) ∙ fold-roll-Cond Paths (paths_step env) layer.Always in
      sym (λ i. record { yes = capped (length (same i true)); no = capped (length (same i false)) })

  at : (conds : List Cond) (i : ℕ) → numbers_at (all conds) i ≡ numbers_of env (numbered conds i)
  at conds i = ap (get_or (all conds) i) of-always ∙ get-map (numbers_of env) conds i Always

  of-not : (inner : Cond) → numbers_of_not (numbers_of env inner) ≡ numbers_of env (Not inner)
  of-not inner = let same = paths_Not env (Not inner) inner refl in sym (λ i. record { yes = capped (length (same i true)); no = capped (length (same i false)) })

  of-and : (left right : Cond) → numbers_of_and (numbers_of env left) (numbers_of env right) ≡ numbers_of env (And left right)
  of-and left right =
      let joins = numbers_And env (And left right) left right refl in
      let yes = capped_product (number env left true) (number env right true) ∙ ap capped (sym joins.0) in
      let no = capped-both (number env left false) (number env left true) (number env right false) ∙ ap capped (sym joins.1) in
      λ i. record { yes = yes i; no = no i }

  -- the numbers of a row are those of its condition
  pub of-row : (conds : List Cond) (row : Row) → numbers_of_row env (all conds) row ≡ numbers_of env (cond_of conds row)
  of-row conds (Own cond) = refl
  of-row conds (Negated i) = ap numbers_of_not (at conds i) ∙ of-not (numbered conds i)
  of-row conds (Both i j) = (λ k. numbers_of_and (at conds i k) (at conds j k)) ∙ of-and (numbered conds i) (numbered conds j)

  -- the numbers so far and that of the next row are those of the longer table
  pub row-more : (conds : List Cond) (row : Row) → all conds ++ numbers_of_row env (all conds) row ∷ [] ≡ all (conds ++ cond_of conds row ∷ [])
  row-more conds row = ap (λ n. all conds ++ n ∷ []) (of-row conds row) ∙ sym (map-append (numbers_of env) conds (cond_of conds row ∷ []))
