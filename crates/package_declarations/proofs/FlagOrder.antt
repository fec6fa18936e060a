-- Shared: a stable sort of flags by name is insertion sort, and so has one result.
use Rattle.std.proofs.Common.{◌≡◌, ℕ, true, false, List, [], ◌∷◌, if◌then◌else◌, refl, sym, ap, ◌∙◌}
use Rattle.std.specs.Prelude.{codes}
use Rattle.std.specs.Cmp.{IsStrictWeakOrder}
use Rattle.std.specs.Cmp.Lexicographic.{slice_cmp, nat_list_cmp_total}
use Rattle.std.specs.Ordering.{nat_cmp, is_lt}
use Rattle.std.specs.List.Sorted.{IsSortedBy, IsStableBy}
use Rattle.std.proofs.lemmas.List.Sorted.{ranks_by}
use Rattle.plan_types.specs.declared.description.FlagDecl.{FlagDecl}
use Rattle.section_syntax.specs.declared.part.Section.{Section}
use Rattle.package_declarations.specs.Flags.{AreFlags, declared_flags, name_before}
use Rattle.common_laws.specs.StableSorts.{put, put_all, stable-is}

-- inserts a flag before the first whose name isn't less
abbrev pub insert : FlagDecl → List FlagDecl → List FlagDecl
insert flag [] = flag ∷ []
insert flag (other ∷ flags) = if is_lt (slice_cmp nat_cmp other.name flag.name) then other ∷ insert flag flags else flag ∷ other ∷ flags

-- the flags sorted by name
abbrev pub by_name : List FlagDecl → List FlagDecl
by_name [] = []
by_name (flag ∷ flags) = insert flag (by_name flags)

pub name-order : IsStrictWeakOrder name_before
name-order = ranks_by nat_list_cmp_total (λ (flag : FlagDecl). flag.name)

insert-is : (flag : FlagDecl) (flags : List FlagDecl) → insert flag flags ≡ put name_before name-order flag flags
insert-is flag [] = refl
insert-is flag (other ∷ flags) = ap (λ l. if name_before other flag then other ∷ l else flag ∷ other ∷ flags) (insert-is flag flags)

by-name-is : (flags : List FlagDecl) → by_name flags ≡ put_all name_before name-order flags
by-name-is [] = refl
by-name-is (flag ∷ flags) = insert-is flag (by_name flags) ∙ ap (put name_before name-order flag) (by-name-is flags)

pub sorted-is : (before after : List FlagDecl) → IsSortedBy name_before after → IsStableBy name_before before after → after ≡ by_name before
sorted-is before after sorted stable = stable-is name_before name-order before after sorted stable ∙ sym (by-name-is before)

pub flags-are : (sections : List Section) (flags : List FlagDecl) → AreFlags sections flags → flags ≡ by_name (declared_flags sections)
flags-are sections flags are = sorted-is (declared_flags sections) flags are.sorted are.stable

pub one-flags : (sections : List Section) (a b : List FlagDecl) → AreFlags sections a → AreFlags sections b → a ≡ b
one-flags sections a b p q = flags-are sections a p ∙ sym (flags-are sections b q)

-- ---- an example

abbrev flag : List ℕ → FlagDecl
flag name = record { line = 4; name = name; default = true; manual = false }

-- a flag `b` before a flag `a` is sorted after it
two_flags : (sections : List Section) (flags : List FlagDecl) → declared_flags sections ≡ flag (codes "b") ∷ flag (codes "a") ∷ [] →
    AreFlags sections flags → flags ≡ flag (codes "a") ∷ flag (codes "b") ∷ []
two_flags sections flags declared are = flags-are sections flags are ∙ ap by_name declared
