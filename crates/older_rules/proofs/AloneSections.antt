-- Sections of which no change is told are as they were.
use Rattle.std.proofs.Common.{◌≡◌, ℕ, Bool, true, false, cond, List, [], ◌∷◌, ◌++◌, refl, sym, ap, ◌∙◌}
use Rattle.std.specs.Prelude.{Option, Some, None, fold, unwrap_or}
use Rattle.std.specs.List.{list_all}
use Rattle.std.proofs.lemmas.Bool.{and_from, and_parts, false≢true}
use Rattle.common_laws.specs.Lists.{all-append}
use Rattle.common_laws.specs.Small.{same-is}
use Rattle.plan_types.specs.Bytes.{same_text}
use Rattle.plan_types.specs.declared.element.Element.{Element}
use Rattle.cabal_lexer.specs.Tree.{Tree, end, field, section, tree_of}
use Rattle.cabal_lexer.proofs.ElementTrees.{field_in_front, section_in_front}
use Rattle.older_rules.specs.declared.body.FieldRule.{FieldRule}
use Rattle.older_rules.specs.declared.body.FieldRule.TheVariants as rule
use Rattle.older_rules.specs.declared.body.Place.{Place}
use Rattle.older_rules.specs.declared.body.Place.TheVariants as place
use Rattle.older_rules.specs.declared.change.Change.{Change}
use Rattle.older_rules.specs.declared.change.Change.TheVariants.{Name}
use Rattle.older_fields.specs.declared.edition.Edition.{Edition}
use Rattle.older_fields.specs.declared.edition.Edition.TheVariants.{V3_4}
use Rattle.older_rules.specs.declared.tops.TopRule.{TopRule}
use Rattle.older_rules.specs.declared.tops.TopRule.TheVariants as top
use Rattle.older_rules.specs.Bodies.{field_rule, place_of, chained_after, is_opening, field_kept, field_told, section_kept, section_told, kept, told}
use Rattle.older_fields.specs.NameMaps.{Entry, is_named, text_for}
use Rattle.older_fields.specs.Names.{Naming, fresh, is_odd, lacks_name, new_name, put, renamed, so_far, with_name, with_new}
use Rattle.older_rules.specs.Tops.{name_told, top_rule, top_kept, top_told, tops, tops_told}

abbrev is_cons : {A : Type 0} → List A → Bool
is_cons [] = false
is_cons (x ∷ xs) = true

not_nil : {A : Type 0} (x : A) (xs : List A) → x ∷ xs ≡ [] → ⊥
not_nil x xs h = false≢true (sym (ap is_cons h))

front_nil : {A : Type 0} (xs ys : List A) → xs ++ ys ≡ [] → xs ≡ []
front_nil [] ys h = refl
front_nil (x ∷ xs) ys h = absurd (not_nil x (xs ++ ys) h)

back_nil : {A : Type 0} (xs ys : List A) → xs ++ ys ≡ [] → ys ≡ []
back_nil [] ys h = h
back_nil (x ∷ xs) ys h = absurd (not_nil x (xs ++ ys) h)

-- ---- the items of a section

module _ (tools : List Entry) where
  field_case : (r : FieldRule) (line : ℕ) (name : List ℕ) (values : List (List ℕ)) (more : List Element) (others : List Change) (behind : Tree) →
      field_told tools r line values ++ others ≡ [] → (others ≡ [] → tree_of more ≡ behind) →
      tree_of (field_kept tools r line name values ++ more) ≡ field line name values behind
  field_case rule.Dropped line name values more others behind h k = absurd (not_nil _ _ h)
  field_case rule.Tools line name values more others behind h k = absurd (not_nil _ _ h)
  field_case rule.Kept line name values more others behind h k = field_in_front line name values (tree_of more) ∙ ap (field line name values) (k h)

section_case : (p : Place) (line : ℕ) (name args : List ℕ) (inner : List Element) (itold : List Change) (items : Tree) (more : List Element) (others : List Change) (behind : Tree) →
    section_told p line itold ++ others ≡ [] → (itold ≡ [] → tree_of inner ≡ items) → (others ≡ [] → tree_of more ≡ behind) →
    tree_of (section_kept p line name args inner ++ more) ≡ section line name args items behind
section_case place.Dropped line name args inner itold items more others behind h k l = absurd (not_nil _ _ h)
section_case place.Opens line name args inner itold items more others behind h k l =
    section_in_front line name args inner (tree_of more)
    ∙ ap (λ t. section line name args t (tree_of more)) (k (front_nil itold others h)) ∙ ap (section line name args items) (l (back_nil itold others h))
section_case place.Closes line name args inner itold items more others behind h k l =
    section_in_front line name args inner (tree_of more)
    ∙ ap (λ t. section line name args t (tree_of more)) (k (front_nil itold others h)) ∙ ap (section line name args items) (l (back_nil itold others h))

kept_alone : (edition : Edition) (tools : List Entry) (chained : Bool) (tree : Tree) → told edition tools chained tree ≡ [] → tree_of (kept edition tools chained tree) ≡ tree
unfolding kept told
kept_alone edition tools chained end h = refl
kept_alone edition tools chained (field line name values behind) h =
    let r = field_rule edition name in
    field_case tools r line name values (kept edition tools (chained_after r chained) behind) (told edition tools (chained_after r chained) behind) behind h
    (kept_alone edition tools (chained_after r chained) behind)
kept_alone edition tools chained (section line name args items behind) h =
    let p = place_of edition chained name in
    section_case p line name args (kept edition tools false items) (told edition tools false items) items (kept edition tools (is_opening p) behind) (told edition tools (is_opening p) behind) behind h
    (kept_alone edition tools false items) (kept_alone edition tools (is_opening p) behind)

-- ---- the sections of a file

name_case : (b : Bool) (line : ℕ) → cond b (Name line ∷ []) [] ≡ [] → b ≡ false
name_case true line h = absurd (not_nil _ _ h)
name_case false line h = refl

top_case : (edition : Edition) (tools : List Entry) (names : List Entry) → ((args : List ℕ) → is_odd args ≡ false → new_name names args ≡ args) →
    (r : TopRule) (line : ℕ) (name args : List ℕ) (items : Tree) (more : List Element) (others : List Change) (behind : Tree) →
    top_told edition tools r line args items ++ others ≡ [] → (others ≡ [] → tree_of more ≡ behind) →
    tree_of (top_kept edition tools names r line name args items ++ more) ≡ section line name args items behind
top_case edition tools names plain top.Dropped line name args items more others behind h k = absurd (not_nil _ _ h)
top_case edition tools names plain top.Component line name args items more others behind h k =
    let all = front_nil (name_told line args ++ told edition tools false items) others h in
    let same = plain args (name_case (is_odd args) line (front_nil (name_told line args) (told edition tools false items) all)) in
    section_in_front line name (new_name names args) (kept edition tools false items) (tree_of more)
    ∙ ap (λ a. section line name a (tree_of (kept edition tools false items)) (tree_of more)) same
    ∙ ap (λ t. section line name args t (tree_of more)) (kept_alone edition tools false items (back_nil (name_told line args) (told edition tools false items) all))
    ∙ ap (section line name args items) (k (back_nil (name_told line args ++ told edition tools false items) others h))
top_case edition tools names plain top.Common line name args items more others behind h k =
    section_in_front line name args (kept edition tools false items) (tree_of more)
    ∙ ap (λ t. section line name args t (tree_of more)) (kept_alone edition tools false items (front_nil (told edition tools false items) others h))
    ∙ ap (section line name args items) (k (back_nil (told edition tools false items) others h))
top_case edition tools names plain top.Other line name args items more others behind h k =
    section_in_front line name args (kept V3_4 tools false items) (tree_of more)
    ∙ ap (λ t. section line name args t (tree_of more)) (kept_alone V3_4 tools false items (front_nil (told V3_4 tools false items) others h))
    ∙ ap (section line name args items) (k (back_nil (told V3_4 tools false items) others h))

tops_alone : (edition : Edition) (tools : List Entry) (names : List Entry) → ((args : List ℕ) → is_odd args ≡ false → new_name names args ≡ args) →
    (tree : Tree) → tops_told edition tools tree ≡ [] → tree_of (tops edition tools names tree) ≡ tree
unfolding tops tops_told
tops_alone edition tools names plain end h = refl
tops_alone edition tools names plain (field line name values behind) h = absurd (not_nil _ _ h)
tops_alone edition tools names plain (section line name args items behind) h =
    top_case edition tools names plain (top_rule edition name) line name args items (tops edition tools names behind) (tops_told edition tools behind) behind h
    (tops_alone edition tools names plain behind)

-- ---- only names with other bytes are replaced

abbrev all_odd : List Entry → Bool
all_odd found = list_all (λ one. is_odd one.0) found

odd_first : (b : Bool) (found : List Entry) (one : Entry) → is_odd one.0 ≡ true → all_odd found ≡ true → all_odd (cond b found (found ++ one ∷ [])) ≡ true
odd_first true found one odd h = h
odd_first false found one odd h = all-append (λ e. is_odd e.0) found (one ∷ []) ∙ and_from _ _ h (and_from _ _ odd refl)

odd_new : (names : Naming) (name : List ℕ) (new : Option (List ℕ)) → is_odd name ≡ true → all_odd names.found ≡ true → all_odd (with_new names name new).found ≡ true
odd_new names name None odd h = h
odd_new names name (Some new) odd h = odd_first (is_named names.found name) names.found (name, new) odd h

odd_name : (b : Bool) (names : Naming) (name : List ℕ) → lacks_name names.found name ≡ b → all_odd names.found ≡ true →
    all_odd (cond b (with_new names name (fresh names.taken name)) names).found ≡ true
odd_name true names name e h = odd_new names name (fresh names.taken name) (and_parts _ _ e).0 h
odd_name false names name e h = h

odd_names : (names : Naming) (more : List (List ℕ)) → all_odd names.found ≡ true → all_odd (fold with_name names more).found ≡ true
odd_names names [] h = h
odd_names names (name ∷ more) h = odd_names (with_name names name) more (odd_name (lacks_name names.found name) names name refl h)

found_by : (b : Bool) (one : Entry) (args : List ℕ) (rest : Option (List ℕ)) → same_text args one.0 ≡ b → is_odd one.0 ≡ true → is_odd args ≡ false →
    unwrap_or rest args ≡ args → unwrap_or (cond b (Some one.1) rest) args ≡ args
found_by true one args rest e odd plain k = absurd (false≢true (sym plain ∙ ap is_odd (same-is args one.0 e) ∙ odd))
found_by false one args rest e odd plain k = k

plain_same : (names : List Entry) (args : List ℕ) → all_odd names ≡ true → is_odd args ≡ false → new_name names args ≡ args
plain_same [] args h plain = refl
plain_same (one ∷ names) args h plain =
    let parts = and_parts (is_odd one.0) (all_odd names) h in
    found_by (same_text args one.0) one args (text_for names args) refl parts.0 plain (plain_same names args parts.1 plain)

pub renamed_plain : (all : List (List ℕ)) (args : List ℕ) → is_odd args ≡ false → new_name (renamed all) args ≡ args
renamed_plain all args plain = plain_same (renamed all) args (odd_names (so_far (fold put [] all) []) all refl) plain

pub sections_alone : (edition : Edition) (tools : List Entry) (all : List (List ℕ)) (tree : Tree) → tops_told edition tools tree ≡ [] → tree_of (tops edition tools (renamed all) tree) ≡ tree
sections_alone edition tools all tree h = tops_alone edition tools (renamed all) (renamed_plain all) tree h
