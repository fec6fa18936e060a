-- Declared flags have well-formed names, and are among those of the package.
use Rattle.std.proofs.Common.{◌≡◌, ℕ, Bool, true, false, ◌&&◌, ◌||◌, if◌then◌else◌, List, [], ◌∷◌, refl, ap, ◌∙◌, subst, is_lt, nat_cmp, inl, inr}
use Rattle.std.specs.List.{list_all, list_any, AllByRecursion}
use Rattle.std.specs.Cmp.Lexicographic.{slice_cmp}
use Rattle.std.proofs.lemmas.Bool.{false≢true, and_parts, and_from, or_left, or_right, or_cases}
use Rattle.plan_types.specs.Name.{is_flag_name, is_lower}
use Rattle.plan_types.specs.declared.description.FlagDecl.{FlagDecl}
use Rattle.plan_types.specs.declared.range.Spec.{Spec}
use Rattle.section_syntax.specs.declared.part.File.{File}
use Rattle.section_syntax.specs.declared.part.Section.{Section}
use Rattle.section_syntax.specs.declared.part.SectionKind.{SectionKind}
use Rattle.section_syntax.specs.declared.part.SectionKind.TheVariants as kinds
use Rattle.package_declarations.specs.Declarations.{declares, is_flag}
use Rattle.package_declarations.specs.Flags.{AreFlags, flag_of, declared_flags}
use Rattle.package_declarations.proofs.FlagOrder.{insert, by_name, flags-are}
use Rattle.description.specs.Faults.{has_good_name}
use Rattle.sound_description.proofs.Faultless.{IsFaultless}
use Rattle.sound_description.proofs.Said.{IsReadSection, is_kept_name}
use Rattle.common_laws.specs.Passing.{all-append, any-front, any-back, each-less}
use Rattle.sound_description.proofs.Names.{same-back}
use Rattle.plan_types.specs.Bytes.{same_text}

abbrev is_named : FlagDecl → Bool
is_named flag = is_flag_name flag.name

abbrev is_in_lower_case : FlagDecl → Bool
is_in_lower_case flag = is_lower flag.name

module _ (p : FlagDecl → Bool) where
  all-insert : (flag : FlagDecl) (others : List FlagDecl) → p flag ≡ true → list_all p others ≡ true → list_all p (insert flag others) ≡ true
  all-insert flag [] here all = and_from (p flag) true here refl
  all-insert flag (other ∷ others) here all =
      let parts = and_parts (p other) (list_all p others) all in
      elim (is_lt (slice_cmp nat_cmp other.name flag.name)) as (λ b. list_all p (if b then other ∷ insert flag others else flag ∷ other ∷ others) ≡ true) [
        | true ↦ and_from (p other) (list_all p (insert flag others)) parts.0 (all-insert flag others here parts.1)
        | false ↦ and_from (p flag) (list_all p (other ∷ others)) here all
      ]

  all-sorted : (others : List FlagDecl) → list_all p others ≡ true → list_all p (by_name others) ≡ true
  all-sorted [] all = refl
  all-sorted (flag ∷ others) all =
      let parts = and_parts (p flag) (list_all p others) all in
      all-insert flag (by_name others) parts.0 (all-sorted others parts.1)

  any-insert : (flag : FlagDecl) (others : List FlagDecl) → (p flag || list_any p others) ≡ true → list_any p (insert flag others) ≡ true
  any-insert flag [] some = some
  any-insert flag (other ∷ others) some =
      elim (is_lt (slice_cmp nat_cmp other.name flag.name)) as (λ b. list_any p (if b then other ∷ insert flag others else flag ∷ other ∷ others) ≡ true) [
        | true ↦ elim (or_cases (p flag) (list_any p (other ∷ others)) some) [
          | inl e ↦ or_right (p other) (list_any p (insert flag others)) (any-insert flag others (or_left (p flag) (list_any p others) e))
          | inr e ↦ elim (or_cases (p other) (list_any p others) e) [
            | inl h ↦ or_left (p other) (list_any p (insert flag others)) h
            | inr h ↦ or_right (p other) (list_any p (insert flag others)) (any-insert flag others (or_right (p flag) (list_any p others) h))
          ]
        ]
        | false ↦ some
      ]

  any-sorted : (others : List FlagDecl) → list_any p others ≡ true → list_any p (by_name others) ≡ true
  any-sorted [] some = some
  any-sorted (flag ∷ others) some = any-insert flag (by_name others) (elim (or_cases (p flag) (list_any p others) some) [
    | inl e ↦ or_left (p flag) (list_any p (by_name others)) e
    | inr e ↦ or_right (p flag) (list_any p (by_name others)) (any-sorted others e)
  ])

  -- the flag of the section passes
  abbrev Passes : Section → Type 0
  Passes section = section.kind ≡ kinds.Flag → p (flag_of section) ≡ true

  one-passes : (section : Section) (kind : SectionKind) → section.kind ≡ kind → Passes section → list_all p (if is_flag section.kind then flag_of section ∷ [] else []) ≡ true
  one-passes section (kinds.Component kind) is passes = rw is refl
  one-passes section kinds.Common is passes = rw is refl
  one-passes section kinds.Flag is passes = rw is (and_from (p (flag_of section)) true (passes is) refl)
  one-passes section kinds.Setup is passes = rw is refl

  all-pass : (sections : List Section) → AllByRecursion Passes sections → list_all p (declared_flags sections) ≡ true
  all-pass [] each = refl
  all-pass (section ∷ sections) each =
      all-append p (if is_flag section.kind then flag_of section ∷ [] else []) (declared_flags sections) (one-passes section section.kind refl each.0) (all-pass sections each.1)

  flags-pass : (sections : List Section) (flags : List FlagDecl) → AreFlags sections flags → AllByRecursion Passes sections → list_all p flags ≡ true
  flags-pass sections flags are each = ap (list_all p) (flags-are sections flags are) ∙ all-sorted (declared_flags sections) (all-pass sections each)

pub flag_names : (file : File) (sections : List Section) (flags : List FlagDecl) → AreFlags sections flags → AllByRecursion (IsFaultless file) sections
    → list_all is_named flags ≡ true
flag_names file sections flags are each =
    flags-pass is_named sections flags are
    (each-less (IsFaultless file) (Passes is_named) (λ section faultless is. subst (λ kind. has_good_name kind section.name ≡ true) is faultless.name) sections each)

pub flags_lower : (spec : Spec) (sections : List Section) (flags : List FlagDecl) → AreFlags sections flags → AllByRecursion (IsReadSection spec) sections
    → list_all is_in_lower_case flags ≡ true
flags_lower spec sections flags are each =
    flags-pass is_in_lower_case sections flags are
    (each-less (IsReadSection spec) (Passes is_in_lower_case) (λ section read is. subst (λ kind. is_kept_name kind section.name ≡ true) is read.name) sections each)

-- ---- a flag of the sections

abbrev has_name : List ℕ → FlagDecl → Bool
has_name name flag = same_text flag.name name

one_found : (name : List ℕ) (section : Section) (kind : SectionKind) → section.kind ≡ kind → (is_flag kind && same_text name section.name) ≡ true
    → list_any (has_name name) (if is_flag section.kind then flag_of section ∷ [] else []) ≡ true
one_found name section (kinds.Component kind) is e = absurd (false≢true e)
one_found name section kinds.Common is e = absurd (false≢true e)
one_found name section kinds.Flag is e = rw is (or_left (same_text section.name name) false (same-back name section.name e))
one_found name section kinds.Setup is e = absurd (false≢true e)

found : (name : List ℕ) (sections : List Section) → declares is_flag sections name ≡ true → list_any (has_name name) (declared_flags sections) ≡ true
found name [] e = e
found name (section ∷ sections) e =
    let here = if is_flag section.kind then flag_of section ∷ [] else [] in
    elim (or_cases (is_flag section.kind && same_text name section.name) (declares is_flag sections name) e) [
      | inl h ↦ any-front (has_name name) here (declared_flags sections) (one_found name section section.kind refl h)
      | inr h ↦ any-back (has_name name) here (declared_flags sections) (found name sections h)
    ]

pub flag_found : (sections : List Section) (flags : List FlagDecl) → AreFlags sections flags → (name : List ℕ) → declares is_flag sections name ≡ true
    → list_any (λ flag. same_text flag.name name) flags ≡ true
flag_found sections flags are name e =
    ap (list_any (has_name name)) (flags-are sections flags are) ∙ any-sorted (has_name name) (declared_flags sections) (found name sections e)
