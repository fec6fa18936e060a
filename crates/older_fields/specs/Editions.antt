-- Versions of the Cabal specification. Sources: Cabal 3.4.1, CabalSpecVersion.
use Rattle.std.specs.Prelude.{ℕ, Bool, ◌==◌, ◌&&◌, nat_lt, if◌then◌else◌, List, [], ◌∷◌, codes, Option, Some, None}
use Rattle.older_fields.specs.declared.edition.Edition.{Edition}
use Rattle.older_fields.specs.declared.edition.Edition.TheVariants.{V1_0, V1_2, V1_4, V1_6, V1_8, V1_10, V1_12, V1_18, V1_20, V1_22, V1_24, V2_0, V2_2, V2_4, V3_0, V3_4}

-- a number that grows with the version
abbrev pub number : Edition → ℕ
number V1_0 = 100
number V1_2 = 102
number V1_4 = 104
number V1_6 = 106
number V1_8 = 108
number V1_10 = 110
number V1_12 = 112
number V1_18 = 118
number V1_20 = 120
number V1_22 = 122
number V1_24 = 124
number V2_0 = 200
number V2_2 = 202
number V2_4 = 204
number V3_0 = 300
number V3_4 = 304

abbrev pub before : Edition → Edition → Bool
before one other = nat_lt (number one) (number other)

-- the cabal-version under which a file is written: its own from 2.4 on, 2.4 before
abbrev pub header_text : Edition → List ℕ
header_text V1_0 = codes "2.4"
header_text V1_2 = codes "2.4"
header_text V1_4 = codes "2.4"
header_text V1_6 = codes "2.4"
header_text V1_8 = codes "2.4"
header_text V1_10 = codes "2.4"
header_text V1_12 = codes "2.4"
header_text V1_18 = codes "2.4"
header_text V1_20 = codes "2.4"
header_text V1_22 = codes "2.4"
header_text V1_24 = codes "2.4"
header_text V2_0 = codes "2.4"
header_text V2_2 = codes "2.4"
header_text V2_4 = codes "2.4"
header_text V3_0 = codes "3.0"
header_text V3_4 = codes "3.4"

-- The dependencies of a setup script whose file doesn't state them, before 1.24: from the first version of the library
-- that reads this version of the specification (cabalSpecMinimumLibraryVersion; cabal-install, defaultSetupDeps).
abbrev pub setup_depends : Edition → List ℕ
setup_depends V1_0 = codes "base, Cabal >=1.0 && <1.25"
setup_depends V1_2 = codes "base, Cabal >=1.1 && <1.25"
setup_depends V1_4 = codes "base, Cabal >=1.3 && <1.25"
setup_depends V1_6 = codes "base, Cabal >=1.5 && <1.25"
setup_depends V1_8 = codes "base, Cabal >=1.7 && <1.25"
setup_depends V1_10 = codes "base, Cabal >=1.9 && <1.25"
setup_depends V1_12 = codes "base, Cabal >=1.11 && <1.25"
setup_depends V1_18 = codes "base, Cabal >=1.13 && <1.25"
setup_depends V1_20 = codes "base, Cabal >=1.19 && <1.25"
setup_depends V1_22 = codes "base, Cabal >=1.21 && <1.25"
setup_depends V1_24 = codes "base, Cabal >=1.21 && <1.25"
setup_depends V2_0 = codes "base, Cabal >=1.21 && <1.25"
setup_depends V2_2 = codes "base, Cabal >=1.21 && <1.25"
setup_depends V2_4 = codes "base, Cabal >=1.21 && <1.25"
setup_depends V3_0 = codes "base, Cabal >=1.21 && <1.25"
setup_depends V3_4 = codes "base, Cabal >=1.21 && <1.25"

abbrev pub below : ℕ → ℕ → Edition → Option Edition
below number end edition = if nat_lt number end then Some edition else None

-- 1.x means the last version of the specification up to it, an odd one the next
abbrev pub from_minor : ℕ → Option Edition
from_minor minor =
    if nat_lt minor 1 then Some V1_0
    else if nat_lt minor 3 then Some V1_2
    else if nat_lt minor 5 then Some V1_4
    else if nat_lt minor 7 then Some V1_6
    else if nat_lt minor 9 then Some V1_8
    else if nat_lt minor 11 then Some V1_10
    else if nat_lt minor 17 then Some V1_12
    else if nat_lt minor 19 then Some V1_18
    else if nat_lt minor 21 then Some V1_20
    else if nat_lt minor 23 then Some V1_22
    else if nat_lt minor 25 then Some V1_24
    else None

-- from 2.0 on each version is exact
abbrev pub from_two : ℕ → ℕ → Option Edition
from_two major minor =
    if major == 0 then Some V1_0
    else if major == 1 then from_minor minor
    else if major == 2 && minor == 0 then Some V2_0
    else if major == 2 && minor == 2 then Some V2_2
    else if major == 2 && minor == 4 then Some V2_4
    else if major == 3 && minor == 0 then Some V3_0
    else if major == 3 && minor == 4 then Some V3_4
    else None

-- the version of the specification that these numbers mean (cabalSpecFromVersionDigits)
abbrev pub from_numbers : List ℕ → Option Edition
from_numbers [] = Some V1_0
from_numbers (major ∷ []) = below major 2 V1_0
from_numbers (major ∷ minor ∷ []) = from_two major minor
from_numbers (major ∷ minor ∷ next ∷ more) = if nat_lt major 2 then from_two major minor else None
