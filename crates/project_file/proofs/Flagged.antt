-- A condition has a flag iff one of its parts has.
use Rattle.std.proofs.Common.{◌≡◌, Bool, true, false, ◌||◌, List, ℕ, sym, ap, ◌∙◌}
use Rattle.std.proofs.Math.Bool.{or-false, or-true}
use Rattle.plan_types.specs.declared.condition.Cond.{Cond}
use Rattle.plan_types.specs.declared.condition.Cond.TheOpen as layer
use Rattle.plan_types.specs.declared.condition.Cond.TheFolds.{fold-roll-Cond}
use Rattle.plan_types.specs.declared.condition.Cond.TheVariants.{Always, Never, Flag, Os, Arch, Impl, Not, And, Or, rolls-Always, rolls-Never, rolls-Flag, rolls-Os, rolls-Arch, rolls-Impl, rolls-Not, rolls-And, rolls-Or}
use Rattle.plan_types.specs.declared.range.Range.{Range}
use Rattle.project_file.specs.Branches.{flag_step, has_flag}

pub flagged-Flag : (name : List ℕ) → has_flag (Flag name) ≡ true
flagged-Flag name = ap has_flag (sym (rolls-Flag name)) ∙ fold-roll-Cond Bool flag_step (layer.Flag name)

pub flagged-Always : has_flag Always ≡ false
flagged-Always = ap has_flag (sym rolls-Always) ∙ fold-roll-Cond Bool flag_step layer.Always

pub flagged-Never : has_flag Never ≡ false
flagged-Never = ap has_flag (sym rolls-Never) ∙ fold-roll-Cond Bool flag_step layer.Never

pub flagged-Os : (name : List ℕ) → has_flag (Os name) ≡ false
flagged-Os name = ap has_flag (sym (rolls-Os name)) ∙ fold-roll-Cond Bool flag_step (layer.Os name)

pub flagged-Arch : (name : List ℕ) → has_flag (Arch name) ≡ false
flagged-Arch name = ap has_flag (sym (rolls-Arch name)) ∙ fold-roll-Cond Bool flag_step (layer.Arch name)

pub flagged-Impl : (name : List ℕ) (range : Range) → has_flag (Impl name range) ≡ false
flagged-Impl name range = ap has_flag (sym (rolls-Impl name range)) ∙ fold-roll-Cond Bool flag_step (layer.Impl name range)

pub flagged-Not : (inner : Cond) → has_flag (Not inner) ≡ has_flag inner
flagged-Not inner = ap has_flag (sym (rolls-Not inner)) ∙ fold-roll-Cond Bool flag_step (layer.Not inner)

pub flagged-And : (left right : Cond) → has_flag (And left right) ≡ (has_flag left || has_flag right)
flagged-And left right = ap has_flag (sym (rolls-And left right)) ∙ fold-roll-Cond Bool flag_step (layer.And left right)

pub flagged-Or : (left right : Cond) → has_flag (Or left right) ≡ (has_flag left || has_flag right)
flagged-Or left right = ap has_flag (sym (rolls-Or left right)) ∙ fold-roll-Cond Bool flag_step (layer.Or left right)

pub passes-Not : (s inner : Cond) → s ≡ Not inner → has_flag inner ≡ has_flag s
passes-Not s inner e = sym (flagged-Not inner) ∙ ap has_flag (sym e)

-- if the right side has no flag, the left side decides; if it has one, the whole has
module _ (s l r : Cond) where
  pub passes-And : s ≡ And l r → has_flag r ≡ false → has_flag l ≡ has_flag s
  passes-And e right = sym (or-false (has_flag l)) ∙ ap (λ b. has_flag l || b) (sym right) ∙ sym (flagged-And l r) ∙ ap has_flag (sym e)

  pub stops-And : s ≡ And l r → has_flag r ≡ true → true ≡ has_flag s
  stops-And e right = sym (or-true (has_flag l)) ∙ ap (λ b. has_flag l || b) (sym right) ∙ sym (flagged-And l r) ∙ ap has_flag (sym e)

  pub passes-Or : s ≡ Or l r → has_flag r ≡ false → has_flag l ≡ has_flag s
  passes-Or e right = sym (or-false (has_flag l)) ∙ ap (λ b. has_flag l || b) (sym right) ∙ sym (flagged-Or l r) ∙ ap has_flag (sym e)

  pub stops-Or : s ≡ Or l r → has_flag r ≡ true → true ≡ has_flag s
  stops-Or e right = sym (or-true (has_flag l)) ∙ ap (λ b. has_flag l || b) (sym right) ∙ sym (flagged-Or l r) ∙ ap has_flag (sym e)
