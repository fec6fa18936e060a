-- Differences between cabal-versions. Each version has a line, so that a new one must be added here.
use Rattle.std.specs.Prelude.{Bool, true, false}
use Rattle.plan_types.specs.declared.range.Spec.{Spec}
use Rattle.plan_types.specs.declared.range.Spec.TheVariants.{V2_4, V3_0, V3_4}

-- before 3.0, which brought sets of versions, libraries by name, `visibility` and imports in branches
abbrev pub is_old : Spec → Bool
is_old V2_4 = true
is_old V3_0 = false
is_old V3_4 = false

-- the bare name of an own library means that library; from 3.4 on it means a package
abbrev pub has_bare_libraries : Spec → Bool
has_bare_libraries V2_4 = true
has_bare_libraries V3_0 = true
has_bare_libraries V3_4 = false
