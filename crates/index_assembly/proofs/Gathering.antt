-- Packages made one by one, each from the entries taken out for its name.
use Rattle.std.proofs.Common.{◌≡◌, Bool, true, false, cond, ◌||◌, if◌then◌else◌, List, [], ◌∷◌, ◌++◌, map, refl, sym, ◌∙◌, ap}
use Rattle.std.specs.List.{AllByRecursion, IsDistinct}
use Rattle.std.specs.Cmp.Lexicographic.{nat_list_eq_equiv}
use Rattle.std.proofs.lemmas.Bool.{or_parts}
use Rattle.plan_types.specs.declared.dependency.Named.{Named}
use Rattle.plan_types.specs.declared.index.Entry.{Entry}
use Rattle.plan_types.specs.declared.index.Package.{Package}
use Rattle.outside_folder.specs.Files.{Bytes}
use Rattle.index_files.specs.Names.{is_listed}
use Rattle.index_files.specs.declared.closure.FoundName.{FoundName}
use Rattle.index_assembly.specs.Entries.{entries_named, is_unit_below, release_entries}
use Rattle.index_assembly.specs.Index.{is_extra, package_from}
use Rattle.index_assembly.specs.Order.{in_order}
use Rattle.index_assembly.specs.Packages.{package_by}
use Rattle.plan_types.specs.Bytes.{same_text}

pub map_more : {X A : Type 0} (f : X → A) (xs : List X) (x : X) → map f (xs ++ x ∷ []) ≡ map f xs ++ f x ∷ []
map_more f [] x = refl
map_more f (y ∷ xs) x = ap (λ l. f y ∷ l) (map_more f xs x)

pub map_same : {X A : Type 0} (f g : X → A) → ((x : X) → f x ≡ g x) → (xs : List X) → map f xs ≡ map g xs
map_same f g h [] = refl
map_same f g h (x ∷ xs) = (λ i. h x i ∷ map f xs) ∙ ap (λ l. g x ∷ l) (map_same f g h xs)

abbrev pub names_of : List FoundName → List Bytes
names_of found = map (λ (f : FoundName). f.name) found

-- a new name is not listed among earlier ones
pub fresh-name : (done : List FoundName) (one : FoundName) (rest : List FoundName) → IsDistinct same_text (names_of (done ++ one ∷ rest)) → is_listed (names_of done) one.name ≡ false
unfolding IsDistinct
fresh-name [] one rest h = refl
fresh-name (d ∷ done) one rest h =
    ap (λ b. b || is_listed (names_of done) one.name) (nat_list_eq_equiv.symm one.name d.name ∙ later done h.0) ∙ fresh-name done one rest h.1
  where
    later : (ds : List FoundName) → AllByRecursion (λ y. same_text d.name y ≡ false) (names_of (ds ++ one ∷ rest)) → same_text d.name one.name ≡ false
    later [] k = k.0
    later (e ∷ ds) k = later ds k.1

-- a name that isn't in a list is neither the last one nor among the earlier ones
pub not-listed : (done : List FoundName) (one : FoundName) (name : Bytes) → is_listed (names_of (done ++ one ∷ [])) name ≡ false → (is_listed (names_of done) name ≡ false) × (same_text one.name name ≡ false)
not-listed [] one name h = (refl, nat_list_eq_equiv.symm one.name name ∙ (or_parts (same_text name one.name) false h).0)
not-listed (d ∷ done) one name h =
    let first = (or_parts (same_text name d.name) (is_listed (names_of (done ++ one ∷ [])) name) h).0 in
    let rest = not-listed done one name ((or_parts (same_text name d.name) (is_listed (names_of (done ++ one ∷ [])) name) h).1) in
    (ap (λ b. b || is_listed (names_of done) name) first ∙ rest.0, rest.1)

module _ (is_asked : Bytes → Bool) (own units : Bytes → List Entry) where
  pub package-more : (done : List FoundName) (one : FoundName) (mine others : List Entry) (before after : List Package) → before ≡ map (package_by is_asked own units) done → mine ≡ own one.name → others ≡ units one.name
      → after ≡ before ++ package_by is_asked (λ _. mine) (λ _. others) one ∷ [] → after ≡ map (package_by is_asked own units) (done ++ one ∷ [])
  package-more done one mine others before after so_far p q put =
      put
      ∙ (λ i. so_far i ++ package_from one.name (is_asked one.name) (p i) (release_entries one.releases ++ in_order is_unit_below (q i)) ∷ [])
      ∙ sym (map_more (package_by is_asked own units) done one)

-- a name is listed iff it is that of an extra package
pub asked-for : (extra : List Named) (name : Bytes) → is_listed (map (λ (n : Named). n.name) extra) name ≡ is_extra extra name
asked-for [] name = refl
asked-for (n ∷ extra) name = (λ i. nat_list_eq_equiv.symm name n.name i || asked-for extra name i)

-- one more entry, if it has the name
pub named-more : (name : Bytes) (entries : List Entry) (entry : Entry) → entries_named name entries ++ (if same_text entry.instance.name name then entry ∷ [] else []) ≡ entries_named name (entries ++ entry ∷ [])
named-more name [] entry = by (same_text entry.instance.name name)
  where
    by : (b : Bool) → (if b then entry ∷ [] else []) ≡ cond b (entry ∷ []) []
    by true = refl
    by false = refl
named-more name (e ∷ entries) entry = by (same_text e.instance.name name) (named-more name entries entry)
  where
    rest : List Entry
    rest = if same_text entry.instance.name name then entry ∷ [] else []

    by : (b : Bool) → entries_named name entries ++ rest ≡ entries_named name (entries ++ entry ∷ [])
        → cond b (e ∷ entries_named name entries) (entries_named name entries) ++ rest ≡ cond b (e ∷ entries_named name (entries ++ entry ∷ [])) (entries_named name (entries ++ entry ∷ []))
    by true more = ap (λ l. e ∷ l) more
    by false more = more
