-- The text of a node in the store. Builds with equal texts are the same build.
use Rattle.std.specs.Prelude.{ℕ, Bool, ◌==◌, ◌&&◌, if◌then◌else◌, List, [], ◌∷◌, ◌++◌, flat_map, codes, count_by}
use Rattle.std.specs.List.{list_all, list_any}
use Rattle.plan_types.specs.declared.condition.Env.{Env}
use Rattle.plan_types.specs.declared.condition.FlagSet.{FlagSet}
use Rattle.plan_types.specs.declared.description.Description.{Description}
use Rattle.plan_types.specs.declared.description.FlagDecl.{FlagDecl}
use Rattle.plan_types.specs.Bytes.{same_text}
use Rattle.version_range.specs.Version.{version_text}
use Rattle.plan_nodes.specs.declared.node.PlanNode.{PlanNode}
use Rattle.plan_nodes.specs.Line.{package_text}

-- whether the flags have each declared one exactly once
abbrev pub names_each_once : List FlagDecl → List FlagSet → Bool
names_each_once declared flags = list_all (λ flag. count_by (λ set. same_text set.name flag.name) flags == 1) declared

-- a line: a word with a blank at its end, then the rest
abbrev pub line : List ℕ → List ℕ → List ℕ
line word rest = word ++ rest ++ 10 ∷ []

-- the package and the component
abbrev pub head_lines : PlanNode → List ℕ
head_lines node = line (codes "package ") (package_text node) ++ line (codes "component ") node.component

-- a compiler and its version
abbrev pub compiler_text : Env → List ℕ
compiler_text env = env.compiler ++ codes "-" ++ version_text env.compiler_version.parts

-- the compiler, system and processor
abbrev pub env_lines : Env → List ℕ
env_lines env = line (codes "compiler ") (compiler_text env) ++ line (codes "os ") env.os ++ line (codes "arch ") env.arch

-- whether the flags set this one on
abbrev pub is_on : List FlagSet → List ℕ → Bool
is_on flags name = list_any (λ set. same_text set.name name && set.on) flags

-- the end of the line of a flag
abbrev pub switch_text : Bool → List ℕ
switch_text on = if on then codes " on\n" else codes " off\n"

-- the line of a flag that is on or off
abbrev pub set_line : List ℕ → Bool → List ℕ
set_line name on = codes "flag " ++ name ++ switch_text on

-- the line of a declared flag, with its chosen value
abbrev pub flag_line : List FlagSet → FlagDecl → List ℕ
flag_line flags flag = set_line flag.name (is_on flags flag.name)

-- a line for each identifier of the node's needs
abbrev pub needs_lines : PlanNode → List ℕ
needs_lines node =
    flat_map (line (codes "lib ")) node.libs ++ flat_map (line (codes "tool ")) node.tools ++ flat_map (line (codes "setup ")) node.setups

-- The whole text: its version, the node, the environment, the flags, the digest of the package's file, and the needs.
-- Flags that the package doesn't declare are left out.
abbrev pub id_text : PlanNode → Description → List FlagSet → Env → List ℕ
id_text node d flags env =
    codes "store 1\n" ++ head_lines node ++ env_lines env ++ flat_map (flag_line flags) d.flags ++ line (codes "cabal ") d.digest ++ needs_lines node
