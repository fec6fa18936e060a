-- Small examples for a folder of the system.
use Rattle.std.specs.Prelude.{◌≡◌, ℕ, List, refl, true, false, [], ◌∷◌, ◌++◌, codes, replicate}
use Rattle.outside_folder.specs.Files.{slash}
use Rattle.outside_folder.specs.RealFolder.{system_path, by_text, has_long_name, joined}

-- the root itself
is_root : system_path (codes ".") [] ≡ codes "."
is_root = refl

is_below : system_path (codes ".") (codes "index/a") ≡ codes "./index/a"
is_below = refl

-- the system gives a directory's names in any order
in_order : by_text (record { text = codes "b"; folder = true } ∷ record { text = codes "a"; folder = false } ∷ []) ≡ (codes "a", false) ∷ (codes "b", true) ∷ []
in_order = refl

-- a name of so many letters
abbrev name : ℕ → List ℕ
name n = replicate n 110

no_file_has_it : has_long_name (codes "a/" ++ name 256) ≡ true
no_file_has_it = refl

the_longest_name : has_long_name (codes "a/" ++ name 255) ≡ false
the_longest_name = refl

-- a path may be long without a long name
short_names : has_long_name (name 200 ++ slash ∷ name 200) ≡ false
short_names = refl

-- reads give a file in pieces
in_pieces : joined (codes "the " ∷ codes "bytes" ∷ []) ≡ codes "the bytes"
in_pieces = refl
