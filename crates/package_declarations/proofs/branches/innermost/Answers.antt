use Rattle.std.proofs.Common.{◌≡◌, ℕ, ◌-◌, ◌≤◌, List, [], ◌∷◌, length, get_or, Some, refl, ap, ◌∙◌, arith}
use Rattle.package_declarations.specs.Levels.{innermost, innermost_behind}
use Rattle.package_declarations.specs.declared.branches.Level.{Level}
use Rattle.package_declarations.proofs.branches.innermost.Goals as goal

last-taken : (number : ℕ) (level default : Level) (levels : List Level) → (get_or (level ∷ levels) (length levels) default).taken ≡ innermost_behind level.taken levels
last-taken number level default [] = refl
last-taken number level default (next ∷ levels) = last-taken number next default levels

some-taken : (default : Level) (levels : List Level) → 1 ≤ length levels → Some (get_or levels (length levels - 1) default).taken ≡ innermost levels
some-taken default [] h = absurd (omega (arith, h))
some-taken default (level ∷ levels) h =
    let on : length (level ∷ levels) - 1 ≡ length levels = omega arith in
    ap (λ i. Some (get_or (level ∷ levels) i default).taken) on ∙ ap Some (last-taken 0 level default levels)

pub returns-in-len1-up : goal.returns-in-len1-up
returns-in-len1-up c = some-taken _ c.args.levels.now c.in-len1-up.len_at_least
