-- Lists with one more element.
use Rattle.std.proofs.Common.{◌≡◌, ◌<◌, Bool, true, false, List, [], ◌∷◌, ◌++◌, length, map, refl, sym, ◌∙◌, ap, append-nil, arith, if◌then◌else◌}
use Rattle.std.specs.Prelude.{slice_index_or}
use Rattle.plan_types.specs.declared.index.Entry.{Entry}
use Rattle.index_files.specs.declared.unit.Unit.{Unit}
use Rattle.index_assembly.specs.Entries.{unit_entry, unmarked}
use Rattle.index_assembly.proofs.Gathering.{map_more}

-- one more element, marked or not
pub unmarked-more : {X : Type 0} (marks : List Bool) (xs : List X) (x : X) → length xs < length marks
    → unmarked marks (xs ++ x ∷ []) ≡ unmarked marks xs ++ (if slice_index_or marks (length xs) false then [] else x ∷ [])
unmarked-more [] xs x l = absurd (grind (arith, l))
unmarked-more (true ∷ []) [] x l = refl
unmarked-more (true ∷ m ∷ marks) [] x l = refl
unmarked-more (false ∷ []) [] x l = refl
unmarked-more (false ∷ m ∷ marks) [] x l = refl
unmarked-more (true ∷ marks) (y ∷ xs) x l = unmarked-more marks xs x (omega (arith, l))
unmarked-more (false ∷ marks) (y ∷ xs) x l = ap (λ l. y ∷ l) (unmarked-more marks xs x (omega (arith, l)))

-- the entries with one more unit, unless it lacks a needed one
pub entries-more : (units : List Unit) (marks : List Bool) (done : List Unit) (one : Unit) (before after : List Entry) → before ≡ map (unit_entry units) (unmarked marks done) → length done < length marks
    → {lacks : Bool} → after ≡ before ++ (if lacks then [] else unit_entry units one ∷ []) → lacks ≡ slice_index_or marks (length done) false
    → after ≡ map (unit_entry units) (unmarked marks (done ++ one ∷ []))
entries-more units marks done one before after so_far below {lacks} put is =
    put ∙ (λ i. so_far i ++ (if is i then [] else unit_entry units one ∷ []))
    ∙ by (slice_index_or marks (length done) false)
    ∙ ap (map (unit_entry units)) (sym (unmarked-more marks done one below))
  where
    by : (b : Bool) → map (unit_entry units) (unmarked marks done) ++ (if b then [] else unit_entry units one ∷ []) ≡ map (unit_entry units) (unmarked marks done ++ (if b then [] else one ∷ []))
    by true = append-nil (map (unit_entry units) (unmarked marks done)) ∙ ap (map (unit_entry units)) (sym (append-nil (unmarked marks done)))
    by false = sym (map_more (unit_entry units) (unmarked marks done) one)

pub unmarked-none : {X : Type 0} (marks : List Bool) → unmarked {X = X} marks [] ≡ []
unmarked-none [] = refl
unmarked-none (mark ∷ marks) = refl
