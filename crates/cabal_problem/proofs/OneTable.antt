-- The table of the names of an index is unique.
use Rattle.std.proofs.Common.{◌≡◌, true, false, ◌||◌, List, [], ◌∷◌, refl, sym, ap, ◌∙◌, subst, inl, inr}
use Rattle.std.specs.List.{AllByRecursion}
use Rattle.std.specs.List.Sorted.{IsStrictlySortedBy}
use Rattle.std.specs.Ordering.{nat_cmp, is_eq, is_lt, ordering_reverse}
use Rattle.std.specs.declared.cmp.Ordering.{Ordering}
use Rattle.std.specs.declared.cmp.Ordering.TheVariants.{Less}
use Rattle.std.specs.Cmp.Lexicographic.{slice_cmp, bytes_decides, texts_ties}
use Rattle.std.proofs.lemmas.Bool.{false≢true, or_cases}
use Rattle.std.proofs.lemmas.Cmp.{nat_list_cmp_total}
use Rattle.std.proofs.lemmas.Map.Keys.{sorted_head, sorted_tail}
use Rattle.plan_types.specs.declared.index.Package.{Package}
use Rattle.qualified_goals.specs.Names.{Name, NameTable, AreNumbers, is_listed}
use Rattle.plan_types.specs.Bytes.{same_text}
use Rattle.common_laws.specs.Small.{same-is}

abbrev by_bytes : Name → Name → Ordering
by_bytes = slice_cmp nat_cmp

abbrev IsBefore : Name → List Name → Type 0
IsBefore name names = AllByRecursion (λ n. by_bytes name n ≡ Less) names

head-listed : (name : Name) (names : List Name) → is_listed (name ∷ names) name ≡ true
head-listed name names = ap (λ b. b || is_listed names name) ((bytes_decides name name).1 refl)

before-unlisted : (name : Name) (names : List Name) → IsBefore name names → is_listed names name ≡ false
before-unlisted name [] h = refl
before-unlisted name (n ∷ names) h = ap (λ b. b || is_listed names name) (texts_ties name n ∙ ap is_eq h.0) ∙ before-unlisted name names h.1

listed-behind : (name other : Name) (names : List Name) → IsBefore name names → is_listed names other ≡ true → by_bytes name other ≡ Less
listed-behind name other [] h e = absurd (false≢true e)
listed-behind name other (n ∷ names) h e =
    elim (or_cases (same_text other n) (is_listed names other) e) [
      | inl same ↦ subst (λ m. by_bytes name m ≡ Less) (sym (same-is other n same)) h.0
      | inr rest ↦ listed-behind name other names h.1 rest
    ]

-- two sorted lists that contain each other's first name begin with the same name
first-same : (x y : Name) (xs ys : List Name) → IsBefore x xs → IsBefore y ys → is_listed (y ∷ ys) x ≡ true → is_listed (x ∷ xs) y ≡ true → x ≡ y
first-same x y xs ys before also h k =
    elim (or_cases (same_text x y) (is_listed ys x) h) [
      | inl same ↦ same-is x y same
      | inr behind-y ↦ elim (or_cases (same_text y x) (is_listed xs y) k) [
        | inl same ↦ sym (same-is y x same)
        | inr behind-x ↦
            let less = listed-behind x y xs before behind-x in
            let greater = nat_list_cmp_total.antisymm x y ∙ ap ordering_reverse (listed-behind y x ys also behind-y) in
            absurd (false≢true (sym (ap is_lt greater) ∙ ap is_lt less))
      ]
    ]

rest-same : (x : Name) (xs ys : List Name) → IsBefore x xs → IsBefore x ys → ((n : Name) → is_listed (x ∷ xs) n ≡ is_listed (x ∷ ys) n) → (n : Name) → is_listed xs n ≡ is_listed ys n
rest-same x xs ys before also same n =
    elim (same_text n x) as (λ b. same_text n x ≡ b → (b || is_listed xs n) ≡ (b || is_listed ys n) → is_listed xs n ≡ is_listed ys n) [
      | true ↦ λ e s. subst (λ m. is_listed xs m ≡ is_listed ys m) (sym (same-is n x e)) (before-unlisted x xs before ∙ sym (before-unlisted x ys also))
      | false ↦ λ e s. s
    ] refl (same n)

-- strictly sorted lists with the same members are equal
one-list : (xs ys : List Name) → IsStrictlySortedBy by_bytes xs → IsStrictlySortedBy by_bytes ys → ((n : Name) → is_listed xs n ≡ is_listed ys n) → xs ≡ ys
one-list [] [] s t same = refl
one-list [] (y ∷ ys) s t same = absurd (false≢true (same y ∙ head-listed y ys))
one-list (x ∷ xs) [] s t same = absurd (false≢true (sym (same x) ∙ head-listed x xs))
one-list (x ∷ xs) (y ∷ ys) s t same =
    let before = sorted_head by_bytes x xs s in
    let also = sorted_head by_bytes y ys t in
    let first = first-same x y xs ys before also (sym (same x) ∙ head-listed x xs) (same y ∙ head-listed y ys) in
    let rest = rest-same x xs ys before (subst (λ n. IsBefore n ys) (sym first) also) (λ n. same n ∙ ap (λ m. is_listed (m ∷ ys) n) (sym first)) in
    ap (λ l. x ∷ l) (one-list xs ys (sorted_tail by_bytes x xs s) (sorted_tail by_bytes y ys t) rest) ∙ ap (λ n. n ∷ ys) first

pub one_table : (packages : List Package) (names others : NameTable) → AreNumbers packages names → AreNumbers packages others → names ≡ others
one_table packages names others are also =
    let named = are.packages_are ∙ sym also.packages_are in
    let flagged = one-list names.flags others.flags are.flags_rise also.flags_rise (λ n. are.flags_are n ∙ sym (also.flags_are n)) in
    λ i. record { packages = named i; flags = flagged i }
