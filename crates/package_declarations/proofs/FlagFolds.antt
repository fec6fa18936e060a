-- Shared: the flags of a condition are all declared iff those of its parts are.
use Rattle.std.proofs.Common.{◌≡◌, Bool, true, false, ◌&&◌, List, ℕ, sym, ap, ◌∙◌, refl}
use Rattle.std.proofs.lemmas.Bool.{and_right}
use Rattle.plan_types.specs.declared.condition.Cond.{Cond}
use Rattle.plan_types.specs.declared.condition.Cond.TheOpen as layer
use Rattle.plan_types.specs.declared.condition.Cond.TheFolds.{fold-roll-Cond}
use Rattle.plan_types.specs.declared.condition.Cond.TheVariants.{Always, Never, Flag, Os, Arch, Impl, Not, And, Or, rolls-Always, rolls-Never, rolls-Flag, rolls-Os, rolls-Arch, rolls-Impl, rolls-Not, rolls-And, rolls-Or}
use Rattle.plan_types.specs.declared.range.Range.{Range}
use Rattle.section_syntax.specs.declared.part.Section.{Section}
use Rattle.package_declarations.specs.Declarations.{declares, flags_step, has_flags, is_flag}

module _ (sections : List Section) where
  pub flagged-Flag : (name : List ℕ) → has_flags sections (Flag name) ≡ declares is_flag sections name
  flagged-Flag name = ap (has_flags sections) (sym (rolls-Flag name)) ∙ fold-roll-Cond Bool (flags_step (declares is_flag sections)) (layer.Flag name)

  pub flagged-Always : has_flags sections Always ≡ true
  flagged-Always = ap (has_flags sections) (sym rolls-Always) ∙ fold-roll-Cond Bool (flags_step (declares is_flag sections)) layer.Always

  pub flagged-Never : has_flags sections Never ≡ true
  flagged-Never = ap (has_flags sections) (sym rolls-Never) ∙ fold-roll-Cond Bool (flags_step (declares is_flag sections)) layer.Never

  pub flagged-Os : (name : List ℕ) → has_flags sections (Os name) ≡ true
  flagged-Os name = ap (has_flags sections) (sym (rolls-Os name)) ∙ fold-roll-Cond Bool (flags_step (declares is_flag sections)) (layer.Os name)

  pub flagged-Arch : (name : List ℕ) → has_flags sections (Arch name) ≡ true
  flagged-Arch name = ap (has_flags sections) (sym (rolls-Arch name)) ∙ fold-roll-Cond Bool (flags_step (declares is_flag sections)) (layer.Arch name)

  pub flagged-Impl : (name : List ℕ) (range : Range) → has_flags sections (Impl name range) ≡ true
  flagged-Impl name range = ap (has_flags sections) (sym (rolls-Impl name range)) ∙ fold-roll-Cond Bool (flags_step (declares is_flag sections)) (layer.Impl name range)

  pub flagged-Not : (inner : Cond) → has_flags sections (Not inner) ≡ has_flags sections inner
  flagged-Not inner = ap (has_flags sections) (sym (rolls-Not inner)) ∙ fold-roll-Cond Bool (flags_step (declares is_flag sections)) (layer.Not inner)

  pub flagged-And : (left right : Cond) → has_flags sections (And left right) ≡ (has_flags sections left && has_flags sections right)
  flagged-And left right = ap (has_flags sections) (sym (rolls-And left right)) ∙ fold-roll-Cond Bool (flags_step (declares is_flag sections)) (layer.And left right)

  pub flagged-Or : (left right : Cond) → has_flags sections (Or left right) ≡ (has_flags sections left && has_flags sections right)
  flagged-Or left right = ap (has_flags sections) (sym (rolls-Or left right)) ∙ fold-roll-Cond Bool (flags_step (declares is_flag sections)) (layer.Or left right)

  pub passes-Not : (s inner : Cond) → s ≡ Not inner → has_flags sections inner ≡ has_flags sections s
  passes-Not s inner e = sym (flagged-Not inner) ∙ ap (has_flags sections) (sym e)

  and-true : (a : Bool) → a ≡ (a && true)
  and-true true = refl
  and-true false = refl

  -- if the right side passes, the left side decides; if it doesn't, the conjunction fails
  pub passes-And : (s l r : Cond) → s ≡ And l r → has_flags sections r ≡ true → has_flags sections l ≡ has_flags sections s
  passes-And s l r e right = and-true (has_flags sections l) ∙ ap (λ b. has_flags sections l && b) (sym right) ∙ sym (flagged-And l r) ∙ ap (has_flags sections) (sym e)

  pub stops-And : (s l r : Cond) → s ≡ And l r → has_flags sections r ≡ false → false ≡ has_flags sections s
  stops-And s l r e right = sym (and_right (has_flags sections l) false refl) ∙ ap (λ b. has_flags sections l && b) (sym right) ∙ sym (flagged-And l r) ∙ ap (has_flags sections) (sym e)

  pub passes-Or : (s l r : Cond) → s ≡ Or l r → has_flags sections r ≡ true → has_flags sections l ≡ has_flags sections s
  passes-Or s l r e right = and-true (has_flags sections l) ∙ ap (λ b. has_flags sections l && b) (sym right) ∙ sym (flagged-Or l r) ∙ ap (has_flags sections) (sym e)

  pub stops-Or : (s l r : Cond) → s ≡ Or l r → has_flags sections r ≡ false → false ≡ has_flags sections s
  stops-Or s l r e right = sym (and_right (has_flags sections l) false refl) ∙ ap (λ b. has_flags sections l && b) (sym right) ∙ sym (flagged-Or l r) ∙ ap (has_flags sections) (sym e)
