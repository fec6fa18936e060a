-- The words of the command line.
use Rattle.std.specs.Prelude.{List, [], ◌∷◌}
use Rattle.outside_folder.specs.Files.{Bytes}

-- the words after the program's name
abbrev pub words_of : List Bytes → List Bytes
words_of [] = []
words_of (name ∷ words) = words
