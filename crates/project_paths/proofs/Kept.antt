-- The kept names of a folder's directories after one more listing.
use Rattle.std.proofs.Common.{◌≡◌, Bool, true, false, List, [], Option, Some, None, refl, sym, ap, ◌∙◌, subst, if◌then◌else◌}
use Rattle.std.specs.Prelude.{IfSome, IsTrue, is_some, unwrap_or}
use Rattle.std.specs.Cmp.Lexicographic.{nat_list_eq_equiv}
use Rattle.std.proofs.lemmas.Bool.{false≢true}
use Rattle.std.specs.Map.{lookup}
use Rattle.common_laws.specs.Small.{if_some, same-is}
use Rattle.plan_types.specs.Bytes.{same_text}
use Rattle.outside_folder.specs.Files.{Bytes, Files, is_tree}
use Rattle.outside_folder.specs.declared.folder.Name.{Name}
use Rattle.project_paths.specs.Listings.{Agree, AreListed, Puts, kept, listed, names_in}
use Rattle.project_paths.specs.declared.listings.Listings.{Listings}

-- these are the directory's names in the files, and the files form a tree
abbrev IsOf : Files → Bytes → List Name → Type 0
IsOf files dir names = (names ≡ names_in files dir) × IsTrue (is_tree files)

-- a directory that was listed before
pub kept-before : (files : Files) (listings : Listings) (dir : Bytes) → AreListed files listings → is_some (listed listings dir) ≡ true → IsOf files dir (kept listings dir)
kept-before files listings dir are there = by (listed listings dir) (are dir) there
  where
    by : (found : Option (List Name)) → IfSome found (IsOf files dir) → is_some found ≡ true → IsOf files dir (unwrap_or found [])
    by None h t = absurd (false≢true t)
    by (Some names) h t = h

-- no directory is listed yet
pub none-listed : (listings : Listings) → listings.by_dir.entries ≡ [] → (tells : Option Files) → Agree tells listings
none-listed listings empty tells = if_some (λ files. AreListed files listings) tells (λ files t dir.
    let none : listed listings dir ≡ None = ap (lookup (same_text dir)) empty in
    subst (λ o. IfSome o (IsOf files dir)) (sym none) tt)

module _ (files : Files) (old new : Listings) (dir : Bytes) (names : List Name) (is : names ≡ names_in files dir) (puts : Puts old new dir names) where
  -- the directory that is listed now
  pub kept-now : kept new dir ≡ names_in files dir
  kept-now = ap (λ o. unwrap_or o []) (puts dir ∙ ap (λ b. if b then Some names else listed old dir) (nat_list_eq_equiv.refl dir)) ∙ is

  pub listed-now : IsTrue (is_tree files) → AreListed files old → AreListed files new
  listed-now tree are other = subst (λ o. IfSome o (IsOf files other)) (sym (puts other)) (by (same_text dir other) refl)
    where
      by : (same : Bool) → same_text dir other ≡ same → IfSome (if same then Some names else listed old other) (IsOf files other)
      by true e = (is ∙ ap (names_in files) (same-is dir other e), tree)
      by false e = are other
