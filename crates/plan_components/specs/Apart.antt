-- Distinct names, so that each flag has one value.
use Rattle.std.specs.Prelude.{ℕ, Bool, true, not, ◌&&◌, List, [], ◌∷◌, map}
use Rattle.std.specs.List.{list_any}
use Rattle.plan_types.specs.declared.index.Body.{Body}
use Rattle.plan_types.specs.Bytes.{same_text}
use Rattle.plan_types.specs.Packages.{declared_by}

-- whether the names are distinct
abbrev pub are_apart : List (List ℕ) → Bool
are_apart [] = true
are_apart (name ∷ names) = not (list_any (λ other. same_text other name) names) && are_apart names

-- whether an instance declares each flag once
abbrev pub flags_apart : Body → Bool
flags_apart body = are_apart (map (λ decl. decl.name) (declared_by body))
