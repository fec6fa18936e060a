-- Flags that are sorted by distinct names rise strictly.
use Rattle.std.proofs.Common.{◌≡◌, ℕ, true, false, if◌then◌else◌, List, [], ◌∷◌, map, refl, sym, ap, ◌∙◌, subst, Ordering, Less, Equal, Greater, is_lt, nat_cmp}
use Rattle.std.specs.List.{AllByRecursion, IsDistinct}
use Rattle.std.specs.List.Sorted.{IsStrictlySortedBy}
use Rattle.std.specs.Ordering.{ordering_reverse}
use Rattle.std.specs.Cmp.Lexicographic.{slice_cmp, nat_list_cmp_total, bytes_decides}
use Rattle.std.proofs.lemmas.Bool.{false≢true}
use Rattle.std.proofs.lemmas.Map.Lookups.{exact_bytes}
use Rattle.plan_types.specs.declared.description.FlagDecl.{FlagDecl}
use Rattle.section_syntax.specs.declared.part.Section.{Section}
use Rattle.package_declarations.specs.Flags.{AreFlags, declared_flags}
use Rattle.package_declarations.proofs.FlagOrder.{insert, by_name, flags-are}
use Rattle.description.proofs.RepeatedNames.{repeated_from}
use Rattle.description.specs.declared.faults.Class.TheVariants.{Flag}
use Rattle.sound_description.proofs.Names.{once, flag-names}
use Rattle.common_laws.specs.Passing.{each-less}
use Rattle.plan_types.specs.Bytes.{same_text}
use Rattle.common_laws.specs.Small.{is-less}

abbrev order : List ℕ → List ℕ → Ordering
order = slice_cmp nat_cmp

abbrev Rises : List FlagDecl → Type 0
Rises flags = IsStrictlySortedBy order (map (λ flag. flag.name) flags)

abbrev Each : (List ℕ → Type 0) → List FlagDecl → Type 0
Each P flags = AllByRecursion P (map (λ flag. flag.name) flags)

-- the first of two different names is less, if the second isn't
other-less : (a b : List ℕ) → is_lt (order b a) ≡ false → same_text a b ≡ false → order a b ≡ Less
other-less a b over apart = by (order b a) refl
  where
    by : (o : Ordering) → order b a ≡ o → order a b ≡ Less
    by Less e = absurd (false≢true (sym over ∙ ap is_lt e))
    by Equal e = absurd (false≢true (sym apart ∙ (bytes_decides a b).1 (sym (exact_bytes b a e))))
    by Greater e = nat_list_cmp_total.antisymm a b ∙ ap ordering_reverse e

each-insert : (P : List ℕ → Type 0) (flag : FlagDecl) (flags : List FlagDecl) → P flag.name → Each P flags → Each P (insert flag flags)
each-insert P flag [] h all = (h, tt)
each-insert P flag (other ∷ flags) h all =
    elim (is_lt (order other.name flag.name)) as (λ b. Each P (if b then other ∷ insert flag flags else flag ∷ other ∷ flags)) [
      | true ↦ (all.0, each-insert P flag flags h all.1)
      | false ↦ (h, all)
    ]

each-all : (P : List ℕ → Type 0) (flags : List FlagDecl) → Each P flags → Each P (by_name flags)
each-all P [] all = tt
each-all P (flag ∷ flags) all = each-insert P flag (by_name flags) all.0 (each-all P flags all.1)

rises-insert : (flag : FlagDecl) (flags : List FlagDecl) → Each (λ name. same_text flag.name name ≡ false) flags → Rises flags → Rises (insert flag flags)
unfolding IsStrictlySortedBy
rises-insert flag [] apart rises = (tt, tt)
rises-insert flag (other ∷ flags) apart rises =
    elim (is_lt (order other.name flag.name)) as (λ b. is_lt (order other.name flag.name) ≡ b → Rises (if b then other ∷ insert flag flags else flag ∷ other ∷ flags)) [
      | true ↦ λ e. (each-insert (λ name. order other.name name ≡ Less) flag flags (is-less (order other.name flag.name) e) rises.0, rises-insert flag flags apart.1 rises.1)
      | false ↦ λ e.
          let low = other-less flag.name other.name e apart.0 in
          ((low, each-less (λ name. order other.name name ≡ Less) (λ name. order flag.name name ≡ Less) (λ name more. nat_list_cmp_total.trans flag.name other.name name low more) (map (λ f. f.name) flags) rises.0), rises)
    ] refl

rises-all : (flags : List FlagDecl) → IsDistinct same_text (map (λ flag. flag.name) flags) → Rises (by_name flags)
unfolding IsStrictlySortedBy IsDistinct
rises-all [] once = tt
rises-all (flag ∷ flags) once = rises-insert flag (by_name flags) (each-all (λ name. same_text flag.name name ≡ false) flags once.0) (rises-all flags once.1)

pub flags_rise : (sections : List Section) (flags : List FlagDecl) → AreFlags sections flags → repeated_from Flag [] sections ≡ []
    → IsStrictlySortedBy (slice_cmp nat_cmp) (map (λ flag. flag.name) flags)
flags_rise sections flags are none =
    subst Rises (sym (flags-are sections flags are)) (rises-all (declared_flags sections) (subst (IsDistinct same_text) (sym (flag-names sections)) (once Flag sections none)))
