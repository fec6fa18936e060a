-- The folder generated from a number.
use Rattle.std.specs.Prelude.{ℕ, List, [], ◌∷◌, ◌++◌, map, flat_map, codes}
use Rattle.std.specs.List.{range_with_len}
use Rattle.outside_folder.specs.Files.{Bytes, Files}
use Rattle.outside_folder.specs.declared.mem_folder.MemFile.{MemFile}
use Rattle.plan_generate.specs.Draws.{needs_of}
use Rattle.plan_generate.specs.Text.{plain_text, version_path, version_text}

-- the path and the bytes of a file
abbrev pub told_file : MemFile → Bytes × Bytes
told_file file = (file.path, file.bytes)

-- the file of a version of a package, in a folder of `count` packages
abbrev pub version_file : ℕ → ℕ → ℕ → Bytes × Bytes
version_file count number version = (version_path number version, version_text number version (needs_of count number version))

-- the files of a package's three versions
abbrev pub package_files : ℕ → ℕ → Files
package_files count number = map (version_file count number) (1 ∷ 2 ∷ 3 ∷ [])

-- the numbers of all packages
abbrev pub packages : ℕ → List ℕ
packages count = range_with_len 1 count

-- the file of the local package, which depends on all packages
abbrev pub main_file : ℕ → Bytes × Bytes
main_file count = (codes "main.cabal", plain_text (codes "main") 1 (packages count))

-- all files of a folder of `count` packages
abbrev pub generated : ℕ → Files
generated count = flat_map (package_files count) (packages count) ++ main_file count ∷ []
