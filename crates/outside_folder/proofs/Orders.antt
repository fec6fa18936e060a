-- The names that a sorted map gives are in order.
use Rattle.std.proofs.Common.{◌≡◌, List, [], ◌∷◌, map, Bool, refl, sym, ap, subst}
use Rattle.std.specs.Cmp.Lexicographic.{slice_cmp}
use Rattle.std.specs.List.Sorted.{IsStrictlySortedBy}
use Rattle.std.specs.Map.{keys_of}
use Rattle.std.specs.Ordering.{nat_cmp}
use Rattle.outside_folder.specs.declared.folder.Name.{Name}
use Rattle.outside_folder.specs.Files.{Bytes, as_names}
use Rattle.outside_folder.specs.Folder.{IsInOrder}

texts-as_names : (entries : List (Bytes × Bool)) → map (λ (name : Name). name.text) (as_names entries) ≡ keys_of entries
texts-as_names [] = refl
texts-as_names (e ∷ es) = ap (λ texts. e.0 ∷ texts) (texts-as_names es)

pub names_in_order : (entries : List (Bytes × Bool)) → IsStrictlySortedBy (slice_cmp nat_cmp) (keys_of entries) → IsInOrder (as_names entries)
names_in_order entries ordered = subst (IsStrictlySortedBy (slice_cmp nat_cmp)) (sym (texts-as_names entries)) ordered

pub none_in_order : IsInOrder []
unfolding IsStrictlySortedBy
none_in_order = tt
