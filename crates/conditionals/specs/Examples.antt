-- The definitions on small conditions.
use Rattle.std.specs.Prelude.{◌≡◌, Bool, true, false, [], ◌∷◌, refl, codes, length}
use Rattle.std.proofs.Common.{sym, ap, ◌∙◌}
use Rattle.plan_types.specs.declared.condition.Cond.{Cond}
use Rattle.plan_types.specs.declared.condition.Cond.TheVariants.{Never, Flag, Os, Arch, Impl, Not, And, Or}
use Rattle.plan_types.specs.declared.condition.Env.{Env}
use Rattle.plan_types.specs.declared.condition.FlagSet.{FlagSet}
use Rattle.plan_types.specs.declared.range.Range.TheOpen as layer
use Rattle.plan_types.specs.declared.range.Range.TheFolds.{fold-roll-Range}
use Rattle.plan_types.specs.declared.range.Range.TheVariants.{Any, rolls-Any}
use Rattle.plan_types.specs.declared.version.Version.{Version}
use Rattle.plan_types.specs.Members.{members, members_step}
use Rattle.conditionals.specs.declared.value.Tri.TheVariants.{Yes, No, Unknown}
use Rattle.conditionals.specs.Value.{tri_of, flag_in, value}
use Rattle.conditionals.specs.Layers.{value-Never, value-Flag, value-Os, value-Arch, value-Impl, value-And, value-Or, paths-Flag, paths-Os, paths-Not, paths-And, paths-Or}
use Rattle.conditionals.specs.Paths.{sets, paths_of, clean_paths, holds}

ruleset by_kind = (paths-Flag, paths-Not, paths-And, paths-Or)

abbrev linux : Env
linux = record { os = codes "linux"; arch = codes "x86_64"; compiler = codes "ghc"; compiler_version = record { parts = 9 ∷ 4 ∷ 7 ∷ [] } }

-- the names of an environment may be in any case, and a system may have any of its names
abbrev shouted : Env
shouted = record { os = codes "MinGW32"; arch = codes "X86_64"; compiler = codes "GHC"; compiler_version = record { parts = 9 ∷ 4 ∷ 7 ∷ [] } }

abbrev a : Cond
a = Flag (codes "a")

abbrev b : Cond
b = Flag (codes "b")

abbrev c : Cond
c = Flag (codes "c")

abbrev a_on : FlagSet
a_on = sets (codes "a") true

abbrev a_off : FlagSet
a_off = sets (codes "a") false

abbrev b_on : FlagSet
b_on = sets (codes "b") true

abbrev b_off : FlagSet
b_off = sets (codes "b") false

abbrev c_off : FlagSet
c_off = sets (codes "c") false

nothing_known : value linux (flag_in []) a ≡ Unknown
nothing_known = rw value-Flag refl

-- the left side comes first
unknown_and_no : value linux (flag_in []) (And a Never) ≡ Unknown
unknown_and_no = rw value-And (rw value-Flag refl)

no_and_unknown : value linux (flag_in []) (And Never a) ≡ No
no_and_unknown = rw value-And (rw value-Never refl)

another_system : value linux (flag_in (a_on ∷ [])) (Or (Os (codes "windows")) a) ≡ Yes
another_system = rw value-Or (rw value-Os (rw value-Flag refl))

another_compiler : value linux (flag_in []) (Impl (codes "ghcjs") Any) ≡ No
another_compiler = rw value-Impl refl

any_version : (v : Version) → members Any v ≡ true
any_version v = ap (λ r. members r v) (sym rolls-Any) ∙ ap (λ f. f v) (fold-roll-Range (Version → Bool) members_step layer.Any)

an_alias : value shouted (flag_in []) (Os (codes "windows")) ≡ Yes
an_alias = rw value-Os refl

two_aliases : value shouted (flag_in []) (Os (codes "Win32")) ≡ Yes
two_aliases = rw value-Os refl

no_alias : value shouted (flag_in []) (Os (codes "osx")) ≡ No
no_alias = rw value-Os refl

a_processor : value shouted (flag_in []) (Arch (codes "x86_64")) ≡ Yes
a_processor = rw value-Arch refl

a_compiler : value shouted (flag_in []) (Impl (codes "ghc") Any) ≡ Yes
a_compiler = rw value-Impl (ap tri_of (any_version shouted.compiler_version))

a_path_by_an_alias : paths_of shouted (Os (codes "windows")) true ≡ [] ∷ []
a_path_by_an_alias = rw paths-Os refl

two_paths : clean_paths (paths_of linux (And a (Or b (Not c))) true) ≡ (a_on ∷ b_on ∷ []) ∷ (a_on ∷ b_off ∷ c_off ∷ []) ∷ []
two_paths = simp by_kind

-- a path of `||` negates the left side before it takes the right one
apart : clean_paths (paths_of linux (Or a b) true) ≡ (a_on ∷ []) ∷ (a_off ∷ b_on ∷ []) ∷ []
apart = simp by_kind

one_path_both_ways : length (paths_of linux (And a (Not a)) true) ≡ 1
one_path_both_ways = simp by_kind

both_ways_left_out : clean_paths (paths_of linux (And a (Not a)) true) ≡ []
both_ways_left_out = simp by_kind

set_once : clean_paths (paths_of linux (And (And a b) a) true) ≡ (a_on ∷ b_on ∷ []) ∷ []
set_once = simp by_kind

-- a path doesn't hold where one of its flags is unknown
not_known : holds (flag_in (a_on ∷ [])) (a_on ∷ b_on ∷ []) ≡ false
not_known = refl
