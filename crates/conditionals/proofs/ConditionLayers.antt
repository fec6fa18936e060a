-- Shared: the value and the paths of one layer of a condition, from those of its parts.
use Rattle.std.proofs.Common.{◌≡◌, Bool, not, List, ◌<◌, sym, ap, ◌∙◌, arith}
use Rattle.plan_types.specs.declared.condition.Cond.{Cond, size-Cond}
use Rattle.plan_types.specs.declared.condition.Cond.TheViews.{sized-Not, sized-And, sized-Or}
use Rattle.plan_types.specs.declared.condition.Cond.TheOpen as layer
use Rattle.plan_types.specs.declared.condition.Cond.TheFolds.{fold-roll-Cond}
use Rattle.plan_types.specs.declared.condition.Cond.TheVariants.{Not, And, Or, rolls-Not, rolls-And, rolls-Or}
use Rattle.plan_types.specs.declared.condition.Env.{Env}
use Rattle.conditionals.specs.Paths.{Path, paths_step, paths_of}

pub paths_Not : (env : Env) (s inner : Cond) → s ≡ Not inner → paths_of env s ≡ (λ want. paths_of env inner (not want))
paths_Not env s inner e = ap (paths_of env) (e ∙ sym (rolls-Not inner)) ∙ fold-roll-Cond (Bool → List Path) (paths_step env) (layer.Not inner)

pub paths_And : (env : Env) (s l r : Cond) → s ≡ And l r → paths_of env s ≡ paths_step env (layer.And (paths_of env l) (paths_of env r))
paths_And env s l r e = ap (paths_of env) (e ∙ sym (rolls-And l r)) ∙ fold-roll-Cond (Bool → List Path) (paths_step env) (layer.And l r)

pub paths_Or : (env : Env) (s l r : Cond) → s ≡ Or l r → paths_of env s ≡ paths_step env (layer.Or (paths_of env l) (paths_of env r))
paths_Or env s l r e = ap (paths_of env) (e ∙ sym (rolls-Or l r)) ∙ fold-roll-Cond (Bool → List Path) (paths_step env) (layer.Or l r)

pub below_Not : (s inner : Cond) → s ≡ Not inner → size-Cond inner < size-Cond s
below_Not s inner e = let size = ap size-Cond e ∙ sized-Not inner in omega (arith, size)

pub below_And : (s l r : Cond) → s ≡ And l r → (size-Cond l < size-Cond s) × (size-Cond r < size-Cond s)
below_And s l r e = let size = ap size-Cond e ∙ sized-And l r in (omega (arith, size), omega (arith, size))

pub below_Or : (s l r : Cond) → s ≡ Or l r → (size-Cond l < size-Cond s) × (size-Cond r < size-Cond s)
below_Or s l r e = let size = ap size-Cond e ∙ sized-Or l r in (omega (arith, size), omega (arith, size))
