-- The value and the paths of a condition, by its kind.
use Rattle.std.specs.Prelude.{◌≡◌, ℕ, Bool, not, List, [], ◌∷◌}
use Rattle.std.proofs.Common.{sym, ap, ◌∙◌}
use Rattle.plan_types.specs.declared.condition.Cond.{Cond}
use Rattle.plan_types.specs.declared.condition.Cond.TheOpen as layer
use Rattle.plan_types.specs.declared.condition.Cond.TheFolds.{fold-roll-Cond}
use Rattle.plan_types.specs.declared.condition.Cond.TheVariants.{Never, Flag, Os, Arch, Impl, Not, And, Or, rolls-Never, rolls-Flag, rolls-Os, rolls-Arch, rolls-Impl, rolls-Not, rolls-And, rolls-Or}
use Rattle.plan_types.specs.declared.condition.Env.{Env}
use Rattle.plan_types.specs.declared.range.Range.{Range}
use Rattle.conditionals.specs.declared.value.Tri.{Tri}
use Rattle.conditionals.specs.declared.value.Tri.TheVariants.{No}
use Rattle.conditionals.specs.Environment.{is_system, is_processor, is_compiler}
use Rattle.conditionals.specs.Value.{Flags, tri_of, flag_value, and_then, or_else, value, value_step}
use Rattle.conditionals.specs.Paths.{Path, fixed, sets, paths_step, paths_of}

-- paths for each wanted value
abbrev Paths : Type 0
Paths = Bool → List Path

module _ (env : Env) (flags : Flags) where
  pub value-Never : value env flags Never ≡ No
  value-Never = ap (value env flags) (sym rolls-Never) ∙ fold-roll-Cond Tri (value_step env flags) layer.Never

  pub value-Flag : (name : List ℕ) → value env flags (Flag name) ≡ flag_value (flags name)
  value-Flag name = ap (value env flags) (sym (rolls-Flag name)) ∙ fold-roll-Cond Tri (value_step env flags) (layer.Flag name)

  pub value-Os : (name : List ℕ) → value env flags (Os name) ≡ tri_of (is_system env name)
  value-Os name = ap (value env flags) (sym (rolls-Os name)) ∙ fold-roll-Cond Tri (value_step env flags) (layer.Os name)

  pub value-Arch : (name : List ℕ) → value env flags (Arch name) ≡ tri_of (is_processor env name)
  value-Arch name = ap (value env flags) (sym (rolls-Arch name)) ∙ fold-roll-Cond Tri (value_step env flags) (layer.Arch name)

  pub value-Impl : (name : List ℕ) (range : Range) → value env flags (Impl name range) ≡ tri_of (is_compiler env name range)
  value-Impl name range = ap (value env flags) (sym (rolls-Impl name range)) ∙ fold-roll-Cond Tri (value_step env flags) (layer.Impl name range)

  pub value-And : (left : Cond) (right : Cond) → value env flags (And left right) ≡ and_then (value env flags left) (value env flags right)
  value-And left right = ap (value env flags) (sym (rolls-And left right)) ∙ fold-roll-Cond Tri (value_step env flags) (layer.And left right)

  pub value-Or : (left : Cond) (right : Cond) → value env flags (Or left right) ≡ or_else (value env flags left) (value env flags right)
  value-Or left right = ap (value env flags) (sym (rolls-Or left right)) ∙ fold-roll-Cond Tri (value_step env flags) (layer.Or left right)

module _ (env : Env) (want : Bool) where
  pub paths-Flag : (name : List ℕ) → paths_of env (Flag name) want ≡ (sets name want ∷ []) ∷ []
  paths-Flag name = ap (λ c. paths_of env c want) (sym (rolls-Flag name)) ∙ ap (λ f. f want) (fold-roll-Cond Paths (paths_step env) (layer.Flag name))

  pub paths-Os : (name : List ℕ) → paths_of env (Os name) want ≡ fixed (is_system env name) want
  paths-Os name = ap (λ c. paths_of env c want) (sym (rolls-Os name)) ∙ ap (λ f. f want) (fold-roll-Cond Paths (paths_step env) (layer.Os name))

  pub paths-Not : (inner : Cond) → paths_of env (Not inner) want ≡ paths_of env inner (not want)
  paths-Not inner = ap (λ c. paths_of env c want) (sym (rolls-Not inner)) ∙ ap (λ f. f want) (fold-roll-Cond Paths (paths_step env) (layer.Not inner))

  pub paths-And : (left : Cond) (right : Cond) → paths_of env (And left right) want ≡ paths_step env (layer.And (paths_of env left) (paths_of env right)) want
  paths-And left right = ap (λ c. paths_of env c want) (sym (rolls-And left right)) ∙ ap (λ f. f want) (fold-roll-Cond Paths (paths_step env) (layer.And left right))

  pub paths-Or : (left : Cond) (right : Cond) → paths_of env (Or left right) want ≡ paths_step env (layer.Or (paths_of env left) (paths_of env right)) want
  paths-Or left right = ap (λ c. paths_of env c want) (sym (rolls-Or left right)) ∙ ap (λ f. f want) (fold-roll-Cond Paths (paths_step env) (layer.Or left right))
