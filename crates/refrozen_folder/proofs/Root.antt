-- What the root lists, and paths that aren't that of the freeze file.
use Rattle.std.proofs.Common.{◌≡◌, Bool, true, false, cond, not, ◌&&◌, ◌||◌, List, [], ◌∷◌, ◌++◌, map, flat_map, refl, sym, ap, ◌∙◌, subst}
use Rattle.std.specs.Prelude.{◌==◌, codes, filter, unwrap_or}
use Rattle.std.specs.BTreeMap.{insert_entry}
use Rattle.std.specs.Cmp.Lexicographic.{slice_cmp, texts_ties}
use Rattle.std.specs.List.{list_any}
use Rattle.std.specs.Ordering.{is_eq, match_ordering, nat_cmp}
use Rattle.std.specs.declared.cmp.Ordering.{Ordering}
use Rattle.std.specs.declared.cmp.Ordering.TheVariants.{Less, Equal, Greater}
use Rattle.std.proofs.lemmas.Bool.{false≢true, or_left, or_right}
use Rattle.std.proofs.lemmas.List.Folds.{list_any-append}
use Rattle.common_laws.specs.Small.{same-is}
use Rattle.plan_types.specs.Bytes.{same_text}
use Rattle.outside_folder.specs.declared.folder.Name.{Name}
use Rattle.outside_folder.specs.Calls.{content_at, content_of}
use Rattle.outside_folder.specs.Files.{Bytes, Files, as_names, listing, names_in}
use Rattle.refrozen_folder.specs.Refrozen.{IsRefrozen, freeze_path, is_freeze_dir}
use Rattle.refrozen_folder.proofs.Lists.{map-filter}

abbrev pub Entry : Type 0
Entry = Bytes × Bool

abbrev order : Bytes → Bytes → Ordering
order = slice_cmp nat_cmp

-- ---- paths

-- whether a path isn't that of the freeze file
abbrev pub is_other : Bytes → Bool
is_other path = not (same_text path freeze_path)

is-off : (t : Bool) → not t ≡ true → t ≡ false
is-off true h = absurd (false≢true h)
is-off false h = refl

pub other-differs : (path : Bytes) → is_other path ≡ true → same_text path freeze_path ≡ false
other-differs path h = is-off (same_text path freeze_path) h

-- a path that passes a test which that of the freeze file fails
pub other-by : (test : Bytes → Bool) → test freeze_path ≡ false → (path : Bytes) → test path ≡ true → is_other path ≡ true
other-by test fails path passes =
    elim (same_text path freeze_path) as (λ t. same_text path freeze_path ≡ t → not t ≡ true) [
      | true ↦ λ same. absurd (false≢true (sym fails ∙ sym (ap test (same-is path freeze_path same)) ∙ passes))
      | false ↦ λ no. refl
    ] refl

-- whether a path leads into a directory
abbrev pub has_slash : Bytes → Bool
has_slash path = list_any (λ b. b == 47) path

pub slash-inside : (dir rest : Bytes) → has_slash (dir ++ 47 ∷ rest) ≡ true
slash-inside dir rest = list_any-append (λ b. b == 47) dir (47 ∷ rest) ∙ or_right (has_slash dir) (has_slash (47 ∷ rest)) refl

pub slash-last : (dir : Bytes) → has_slash (dir ++ codes "/") ≡ true
slash-last dir = slash-inside dir []

pub slash-before : (dir more : Bytes) → has_slash dir ≡ true → has_slash (dir ++ more) ≡ true
slash-before dir more h = list_any-append (λ b. b == 47) dir more ∙ or_left (has_slash dir) (has_slash more) h

pub slash-other : (path : Bytes) → has_slash path ≡ true → is_other path ≡ true
slash-other = other-by has_slash refl

-- ---- entries

-- what entries give is the same with the freeze file among them, where it gives nothing
module _ {X : Type 0} (of : Entry → List X) (none : (entry : Entry) → same_text entry.0 freeze_path ≡ true → entry.1 ≡ false → of entry ≡ []) where
  free-parts : (a b c : Bool) → (a && b) || c ≡ false → a ≡ true → (b ≡ false)
  free-parts true true c h is = absurd (false≢true (sym h))
  free-parts true false c h is = refl
  free-parts false b c h is = absurd (false≢true is)

  free-later : (a b : Bool) → a || b ≡ false → b ≡ false
  free-later true b h = absurd (false≢true (sym h))
  free-later false b h = h

  pub inserted : (entries : List Entry) → list_any is_freeze_dir entries ≡ false → flat_map of (insert_entry (slice_cmp nat_cmp) entries freeze_path false) ≡ flat_map of entries
  inserted [] free = ap (λ l. l ++ []) (none (freeze_path, false) refl refl)
  inserted (e ∷ entries) free = by (inserted entries (free-later (is_freeze_dir e) (list_any is_freeze_dir entries) free)) (order freeze_path e.0) refl
    where
      by : flat_map of (insert_entry (slice_cmp nat_cmp) entries freeze_path false) ≡ flat_map of entries → (o : Ordering) → order freeze_path e.0 ≡ o
          → flat_map of (match_ordering o ((freeze_path, false) ∷ e ∷ entries) ((e.0, false) ∷ entries) (e ∷ insert_entry (slice_cmp nat_cmp) entries freeze_path false)) ≡ flat_map of (e ∷ entries)
      by later Less is = ap (λ l. l ++ flat_map of (e ∷ entries)) (none (freeze_path, false) refl refl)
      by later Equal is =
          let tie : same_text freeze_path e.0 ≡ true = texts_ties freeze_path e.0 ∙ ap is_eq is in
          let same : same_text e.0 freeze_path ≡ true = subst (λ (p : Bytes). same_text p freeze_path ≡ true) (same-is freeze_path e.0 tie) refl in
          let folder = free-parts (same_text e.0 freeze_path) e.1 (list_any is_freeze_dir entries) free same in
          ap (λ l. l ++ flat_map of entries) (none (e.0, false) same refl ∙ sym (none e same folder))
      by later Greater is = ap (λ l. of e ++ l) later

-- ---- a folder with another freeze file

abbrev pub as_name : Entry → Name
as_name entry = record { text = entry.0; folder = entry.1 }

-- the names in a directory; none where there is no such directory
abbrev pub listed : Files → Bytes → List Name
listed files dir = unwrap_or (listing files dir) []

module _ (files now : Files) (text : Bytes) (is : IsRefrozen files text now) where
  pub same-content : (path : Bytes) → is_other path ≡ true → content_at now path ≡ content_at files path
  same-content path other = ap content_of (is.others path (other-differs path other))

  -- of those names that pass a test, which that of the freeze file fails
  module _ {X : Type 0} (of : Name → X) (test : Name → Bool) (fails : test (record { text = freeze_path; folder = false }) ≡ false) where
    abbrev at : Entry → List X
    at entry = map of (filter test (as_name entry ∷ []))

    none-at : (entry : Entry) → same_text entry.0 freeze_path ≡ true → entry.1 ≡ false → at entry ≡ []
    none-at entry same folder =
        let one : as_name entry ≡ record { text = freeze_path; folder = false } = λ i. record { text = same-is entry.0 freeze_path same i; folder = folder i } in
        ap (λ (name : Name). map of (filter test (name ∷ []))) one ∙ ap (λ t. map of (cond t (record { text = freeze_path; folder = false } ∷ []) [])) fails

    pub same-listed : (dir : Bytes) → map of (filter test (listed now dir)) ≡ map of (filter test (listed files dir))
    same-listed [] =
        ap (λ entries. map of (filter test (as_names entries))) is.root
        ∙ map-filter of test as_name (insert_entry (slice_cmp nat_cmp) (names_in files []) freeze_path false)
        ∙ inserted at none-at (names_in files []) is.free ∙ sym (map-filter of test as_name (names_in files []))
    same-listed (b ∷ bs) = ap (λ o. map of (filter test (unwrap_or o []))) (is.below b bs)
