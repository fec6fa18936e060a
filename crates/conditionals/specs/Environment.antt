-- Tests of the environment. Names are compared in any case.
use Rattle.std.specs.Prelude.{ℕ, Bool, ◌&&◌, ◌||◌, if◌then◌else◌, List, codes}
use Rattle.std.specs.Str.{bytes_eq, str_to_ascii_lowercase, str_eq_ignore_ascii_case}
use Rattle.plan_types.specs.declared.condition.Env.{Env}
use Rattle.plan_types.specs.declared.range.Range.{Range}
use Rattle.plan_types.specs.Bytes.{same_text}
use Rattle.plan_types.specs.Members.{members}

-- the usual name of an operating system
abbrev pub system_of : List ℕ → List ℕ
system_of name =
    if same_text name (codes "mingw32") || same_text name (codes "win32") then codes "windows"
    else if same_text name (codes "darwin") then codes "osx"
    else name

-- the usual name of the system with this name, in lower case
abbrev pub system_named : List ℕ → List ℕ
system_named name = system_of (str_to_ascii_lowercase name)

-- the environment's system has this name, or an alias of it
abbrev pub is_system : Env → List ℕ → Bool
is_system env name = bytes_eq (system_named name) (system_named env.os)

-- the environment's processor has this name
abbrev pub is_processor : Env → List ℕ → Bool
is_processor env name = str_eq_ignore_ascii_case name env.arch

-- the environment's compiler has this name, and a version in the range
abbrev pub is_compiler : Env → List ℕ → Range → Bool
is_compiler env name range = str_eq_ignore_ascii_case name env.compiler && members range env.compiler_version
