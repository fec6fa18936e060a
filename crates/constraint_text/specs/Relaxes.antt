-- The language of entries of a project's relaxings.
use Rattle.std.specs.Prelude.{◌≡◌, ℕ, Bool, true, false, not, ◌||◌, ◌==◌, if◌then◌else◌, List, [], ◌∷◌, ◌++◌, map, codes, Option, Some, None}
use Rattle.std.specs.Char.{to_ascii_lowercase}
use Rattle.std.specs.List.{list_all, filter_map}
use Rattle.plan_types.specs.Name.{is_package_name}
use Rattle.plan_types.specs.declared.dependency.Relax.{Relax}
use Rattle.plan_types.specs.declared.dependency.RelaxOwner.{RelaxOwner}
use Rattle.plan_types.specs.declared.dependency.RelaxOwner.TheVariants as owners
use Rattle.plan_types.specs.declared.version.Version.{Version}
use Rattle.plan_types.specs.declared.refusal.Cause.{Cause}
use Rattle.version_range.specs.Version.{is_version, version_text}
use Rattle.entry_text.specs.Entries.{HasEntries, HasFirstFault}
use Rattle.entry_text.specs.Words.{run, behind, words}
use Rattle.plan_types.specs.Bytes.{same_text}
use Rattle.constraint_text.specs.Faults.{IsBadConstraint}

-- whether a word relaxes all dependencies (true) or none (false); letters are in any case
abbrev pub relaxing_word : List ℕ → Option Bool
relaxing_word word =
    let lower = map to_ascii_lowercase word in
    if same_text lower (codes "all") || same_text lower (codes "*") || same_text lower (codes "true") then Some true
    else if same_text lower (codes "none") || same_text lower (codes "false") then Some false
    else None

-- a byte that is no colon
abbrev pub is_no_colon : ℕ → Bool
is_no_colon b = not (b == 58)

-- a byte that is no dash
abbrev pub is_no_dash : ℕ → Bool
is_no_dash b = not (b == 45)

-- a package and a version, cut at the last `-`
pub record Release (text name : List ℕ) (version : Version) : Type 0 where
  pub digits : List ℕ
  pub cut : text ≡ name ++ 45 ∷ digits
  pub last : list_all is_no_dash digits ≡ true
  pub form : is_package_name name ≡ true
  pub numbers : is_version version.parts ≡ true
  pub is : digits ≡ version_text version.parts

-- whose dependencies are relaxed
pub data Owner (text : List ℕ) (owner : RelaxOwner) : Type 0 where
  any : text ≡ codes "*" → owner ≡ owners.Any → Owner text owner
  named : is_package_name text ≡ true → owner ≡ owners.Package text → Owner text owner
  release : (name : List ℕ) (version : Version) → is_package_name text ≡ false → Release text name version → owner ≡ owners.Release name version → Owner text owner

-- a dependency of any package, a dependency of an owner, or all dependencies of a package
pub data Dependency (word : List ℕ) (found : Relax) : Type 0 where
  dep : behind is_no_colon word ≡ [] → is_package_name word ≡ true → found ≡ record { owner = owners.Any; dep = Some word } → Dependency word found
  of : (owner : RelaxOwner) (name : List ℕ) → behind is_no_colon word ≡ codes ":" ++ name → Owner (run is_no_colon word) owner → is_package_name name ≡ true
      → found ≡ record { owner = owner; dep = Some name } → Dependency word found
  all : behind is_no_colon word ≡ codes ":*" → is_package_name (run is_no_colon word) ≡ true
      → found ≡ record { owner = owners.Package (run is_no_colon word); dep = None } → Dependency word found

-- the relaxing of one word
pub data RelaxedBy (word : List ℕ) (found : Option Relax) : Type 0 where
  everything : relaxing_word word ≡ Some true → found ≡ Some (record { owner = owners.Any; dep = None }) → RelaxedBy word found
  nothing : relaxing_word word ≡ Some false → found ≡ None → RelaxedBy word found
  one : (relax : Relax) → relaxing_word word ≡ None → Dependency word relax → found ≡ Some relax → RelaxedBy word found

-- one word; `none` and `false` relax nothing
pub record RelaxEntry (text : List ℕ) (found : Option Relax) : Type 0 where
  pub word : List ℕ
  pub alone : words text ≡ word ∷ []
  pub relaxed : RelaxedBy word found

-- the relaxings of `allow-newer` and `allow-older`
pub record Relaxes (text : List ℕ) (found : List Relax) : Type 0 where
  pub each : List (Option Relax)
  pub entries : HasEntries RelaxEntry text each
  pub is : found ≡ filter_map (λ relax. relax) each

-- the fault of such a text
abbrev pub RelaxFault : List ℕ → Cause → Type 0
RelaxFault = HasFirstFault RelaxEntry (IsBadConstraint RelaxEntry)
