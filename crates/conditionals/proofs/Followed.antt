-- Paths followed by other paths.
use Rattle.std.proofs.Common.{◌≡◌, List, ◌∷◌, ◌++◌, map, sym, ap, ◌∙◌, append_assoc}
use Rattle.conditionals.specs.Paths.{Path, followed}

-- one more path of the first list
pub one_more : (paths new : List Path) (path : Path) (items rest second nexts whole : List Path) → items ≡ path ∷ rest → nexts ≡ second → new ≡ paths ++ map (λ next. path ++ next) nexts → paths ++ followed items second ≡ whole → new ++ followed rest second ≡ whole
one_more paths new path items rest second nexts whole i n e h =
    ap (λ p. p ++ followed rest second) (e ∙ ap (λ s. paths ++ map (λ next. path ++ next) s) n)
    ∙ append_assoc paths (map (λ next. path ++ next) second) (followed rest second)
    ∙ ap (λ l. paths ++ followed l second) (sym i)
    ∙ h
