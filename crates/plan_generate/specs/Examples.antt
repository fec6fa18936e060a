-- Small examples of generated files.
use Rattle.std.specs.Prelude.{◌≡◌, refl, [], ◌∷◌, ◌++◌, codes, length}
use Rattle.std.specs.Fmt.{digits}
use Rattle.plan_generate.specs.Draws.{needs_of}
use Rattle.plan_generate.specs.Text.{line, name, version_path, version_text}
use Rattle.plan_generate.specs.Generated.{generated}

a_name : name 42 ≡ codes "g00042"
unfolding digits
a_name = refl

a_path : version_path 7 3 ≡ codes "index/g00007/3/g00007.cabal"
unfolding digits
a_path = refl

-- the first package depends on none, and the second one on the first
the_first : needs_of 2 1 3 ≡ []
the_first = refl

the_second : needs_of 2 2 1 ≡ 1 ∷ []
the_second = refl

a_text : version_text 2 1 (1 ∷ [])
    ≡ line (codes "cabal-version: 2.4") ++ line (codes "name: g00002") ++ line (codes "version: 1") ++ line (codes "library")
    ++ line (codes "  build-depends: g00001")
unfolding digits
a_text = refl

-- three versions of each of two packages, and the local one
seven_files : length (generated 2) ≡ 7
seven_files = refl
