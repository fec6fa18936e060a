-- The texts of the generated files.
use Rattle.std.specs.Prelude.{ℕ, ◌-◌, ◌%◌, ◌&&◌, ◌==◌, List, [], ◌∷◌, ◌++◌, length, replicate, flat_map, codes, if◌then◌else◌}
use Rattle.std.specs.Fmt.{decimal}

-- a text with a line feed
abbrev pub line : List ℕ → List ℕ
line text = text ++ 10 ∷ []

-- a package's name: `g` and its number in five digits
abbrev pub name : ℕ → List ℕ
name number = codes "g" ++ replicate (5 - length (decimal number)) 48 ++ decimal number

-- a name after a comma
abbrev pub name_behind : ℕ → List ℕ
name_behind number = codes ", " ++ name number

-- the line of a library's dependencies, or nothing if it has none
abbrev pub depends_line : List ℕ → List ℕ
depends_line [] = []
depends_line (number ∷ packages) = line (codes "  build-depends: " ++ name number ++ flat_map name_behind packages)

-- the file of a package whose library depends on these packages
abbrev pub plain_text : List ℕ → ℕ → List ℕ → List ℕ
plain_text called version needs =
    line (codes "cabal-version: 2.4") ++ line (codes "name: " ++ called) ++ line (codes "version: " ++ decimal version) ++ line (codes "library")
    ++ depends_line needs

-- a dependency on a missing package while a flag is on, and the flag's section
abbrev pub flag_text : List ℕ
flag_text =
    line (codes "  if flag(f)") ++ line (codes "    build-depends: missing") ++ line (codes "flag f") ++ line (codes "  default: True")

-- the flag's text for version 3 of each seventh package, else nothing
abbrev pub flag_of : ℕ → ℕ → List ℕ
flag_of number version = if (number % 7 == 0) && (version == 3) then flag_text else []

-- the file of a version
abbrev pub version_text : ℕ → ℕ → List ℕ → List ℕ
version_text number version needs = plain_text (name number) version needs ++ flag_of number version

-- the path of a version's file
abbrev pub version_path : ℕ → ℕ → List ℕ
version_path number version = codes "index/" ++ name number ++ codes "/" ++ decimal version ++ codes "/" ++ name number ++ codes ".cabal"
