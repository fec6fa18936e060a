-- Whose ranges are relaxed.
use Rattle.std.specs.Prelude.{Bool, true, ◌&&◌, List, Option, Some, None, nat_eq}
use Rattle.std.specs.List.{list_any}
use Rattle.std.specs.Cmp.Lexicographic.{pointwise}
use Rattle.plan_types.specs.declared.dependency.Relax.{Relax}
use Rattle.plan_types.specs.declared.dependency.RelaxOwner.{RelaxOwner}
use Rattle.plan_types.specs.declared.dependency.RelaxOwner.TheVariants.{Any, Package, Release}
use Rattle.plan_types.specs.declared.index.Instance.{Instance}
use Rattle.plan_types.specs.declared.version.Version.{Version}
use Rattle.qualified_goals.specs.Names.{Name}
use Rattle.plan_types.specs.Bytes.{same_text}

-- whether two versions are equal
abbrev pub is_version : Version → Version → Bool
is_version v w = pointwise nat_eq v.parts w.parts

-- whether an owner means this instance: any, each of a package, or each of one version of it
abbrev pub is_owner : RelaxOwner → Instance → Bool
is_owner Any i = true
is_owner (Package name) i = same_text name i.name
is_owner (Release name version) i = same_text name i.name && is_version version i.version

-- whether a setting means this dependency: any, or each on one package
abbrev pub is_dep : Option Name → Name → Bool
is_dep None dep = true
is_dep (Some name) dep = same_text name dep

-- whether a setting relaxes the dependencies of an instance on a package
abbrev pub relaxes : List Relax → Instance → Name → Bool
relaxes relaxed i dep = list_any (λ r. is_owner r.owner i && is_dep r.dep dep) relaxed
