-- Names paired with their releases, one by one.
use Rattle.std.proofs.Common.{◌≡◌, ◌<◌, ◌≤◌, List, [], ◌∷◌, ◌++◌, length, map, get_or, refl, ap, arith}
use Rattle.outside_folder.specs.Files.{Bytes}
use Rattle.index_files.specs.Steps.{pair_up}
use Rattle.index_files.specs.declared.closure.FoundName.{FoundName}
use Rattle.index_files.specs.declared.release.Release.{Release}

-- more names at the end change no pair
pub pair_grows : (names more : List Bytes) (read : List (List Release)) → length read ≤ length names → pair_up (names ++ more) read ≡ pair_up names read
pair_grows [] [] [] h = refl
pair_grows [] (m ∷ more) [] h = refl
pair_grows [] more (r ∷ read) h = absurd (grind (arith, h))
pair_grows (n ∷ names) more [] h = refl
pair_grows (n ∷ names) more (r ∷ read) h = ap (λ fs. record { name = n; releases = r } ∷ fs) (pair_grows names more read (omega (arith, h)))

-- one more pair
pub pair_more : (names : List Bytes) (read : List (List Release)) (r : List Release) → length read < length names
    → pair_up names (read ++ r ∷ []) ≡ pair_up names read ++ record { name = get_or names (length read) []; releases = r } ∷ []
pair_more [] read r h = absurd (grind (arith, h))
pair_more (n ∷ []) [] r h = refl
pair_more (n ∷ m ∷ names) [] r h = refl
pair_more (n ∷ names) (s ∷ read) r h = ap (λ fs. record { name = n; releases = s } ∷ fs) (pair_more names read r (omega (arith, h)))

pub pair_names : (names : List Bytes) (read : List (List Release)) → length names ≤ length read → map (λ (f : FoundName). f.name) (pair_up names read) ≡ names
pair_names [] read h = refl
pair_names (n ∷ names) [] h = absurd (grind (arith, h))
pair_names (n ∷ names) (r ∷ read) h = ap (λ ns. n ∷ ns) (pair_names names read (omega (arith, h)))

-- the paired names are a prefix
pub pair_front : (names : List Bytes) (read : List (List Release)) → length read ≤ length names → (rest : List Bytes) × (names ≡ map (λ (f : FoundName). f.name) (pair_up names read) ++ rest)
pair_front [] [] h = ([], refl)
pair_front [] (r ∷ read) h = absurd (grind (arith, h))
pair_front (n ∷ names) [] h = (n ∷ names, refl)
pair_front (n ∷ names) (r ∷ read) h = let p = pair_front names read (omega (arith, h)) in (p.0, ap (λ ns. n ∷ ns) p.1)

pub pair_none : (names : List Bytes) → pair_up names [] ≡ []
pair_none [] = refl
pair_none (n ∷ names) = refl
