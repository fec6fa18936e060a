-- The parts of a stanza, by its name and by its number.
use Rattle.std.proofs.Common.{◌≡◌, ℕ, suc, ◌+◌, ◌≤◌, not, cond, length, Bool, true, false, ◌||◌, if◌then◌else◌, List, [], ◌∷◌, ◌++◌, map, get_or, sym, ap, ◌∙◌, refl, arith}
use Rattle.std.specs.Prelude.{Some, None, nat_lt}
use Rattle.std.specs.List.{position_or_len}
use Rattle.std.proofs.lemmas.List.{map-append, length-map, get_or_past}
use Rattle.std.proofs.lemmas.List.Folds.{list_any-append}
use Rattle.std.proofs.lemmas.Grind.{common_steps}
use Rattle.section_syntax.specs.declared.part.SectionPart.{SectionPart}
use Rattle.stanza_imports.specs.KnownStanzas.{Stanzas, parts_of}
use Rattle.stanza_imports.specs.Names.{has, number_of}
use Rattle.plan_types.specs.Bytes.{same_text}
use Rattle.common_laws.specs.Small.{same-is}

by_head : (b c : Bool) (x y z r : List SectionPart) → r ≡ (if c then y else z) → (if b then x else r) ≡ (if b || c then (if b then x else y) else z)
by_head true c x y z r e = refl
by_head false c x y z r e = e

pub parts_of-append : (xs ys : Stanzas) (name : List ℕ) → parts_of (xs ++ ys) name ≡ (if has (map (λ s. s.0) xs) name then parts_of xs name else parts_of ys name)
parts_of-append [] ys name = refl
parts_of-append (s ∷ xs) ys name = by_head (same_text name s.0) (has (map (λ t. t.0) xs) name) s.1 (parts_of xs name) (parts_of ys name) (parts_of (xs ++ ys) name) (parts_of-append xs ys name)

pub has-append : (xs ys : Stanzas) (name : List ℕ) → has (map (λ s. s.0) (xs ++ ys)) name ≡ (has (map (λ s. s.0) xs) name || has (map (λ s. s.0) ys) name)
has-append xs ys name = ap (λ v. has v name) (map-append (λ s. s.0) xs ys) ∙ list_any-append (same_text name) (map (λ s. s.0) xs) (map (λ s. s.0) ys)

left_out : (b c : Bool) (x r : List SectionPart) → (b || c) ≡ false → (c ≡ false → r ≡ []) → (if b then x else r) ≡ []
left_out true c x r e f = absurd (cc e)
left_out false c x r e f = f e

pub none_of : (xs : Stanzas) (name : List ℕ) → has (map (λ s. s.0) xs) name ≡ false → parts_of xs name ≡ []
none_of [] name e = refl
none_of (s ∷ xs) name e = left_out (same_text name s.0) (has (map (λ t. t.0) xs) name) s.1 (parts_of xs name) e (none_of xs name)

by_place : (b : Bool) (x r : List SectionPart) (n m : ℕ) (more : List (List SectionPart)) → m ≡ suc n → r ≡ get_or more n [] → (if b then x else r) ≡ get_or (x ∷ more) (cond (not b) m 0) []
by_place true x r n m more is e = refl
by_place false x r n m more is e = e ∙ ap (λ v. get_or (x ∷ more) v []) (sym is)

one_more : (n : ℕ) → 1 + n ≡ suc n
one_more n = omega arith

pub at_place : (xs : Stanzas) (name : List ℕ) → parts_of xs name ≡ get_or (map (λ s. s.1) xs) (position_or_len (same_text name) (map (λ s. s.0) xs)) []
at_place [] name = refl
at_place (s ∷ xs) name = by_place (same_text name s.0) s.1 (parts_of xs name) (position_or_len (same_text name) (map (λ t. t.0) xs)) _ (map (λ t. t.1) xs) (one_more _) (at_place xs name)

its_place : (b : Bool) (m n : ℕ) → cond b (Some m) None ≡ Some n → m ≡ n
its_place true m n e = cc e
its_place false m n e = absurd (cc e)

no_place : (b : Bool) (m : ℕ) → cond b (Some m) None ≡ None → b ≡ false
no_place true m e = absurd (cc e)
no_place false m e = refl

pub by_number : (xs : Stanzas) (name : List ℕ) (n : ℕ) → number_of (map (λ s. s.0) xs) name ≡ Some n → parts_of xs name ≡ get_or (map (λ s. s.1) xs) n []
by_number xs name n e =
    let names = map (λ s. s.0) xs in
    at_place xs name ∙ ap (λ v. get_or (map (λ s. s.1) xs) v []) (its_place (nat_lt (position_or_len (same_text name) names) (length names)) (position_or_len (same_text name) names) n e)

pub by_none : (xs : Stanzas) (name : List ℕ) → number_of (map (λ s. s.0) xs) name ≡ None → parts_of xs name ≡ []
by_none xs name e =
    let names = map (λ s. s.0) xs in
    at_place xs name
    ∙ get_or_past (map (λ s. s.1) xs) (position_or_len (same_text name) names) []
    (beyond (position_or_len (same_text name) names) (length names) (length (map (λ s. s.1) xs)) (length-map xs (λ s. s.1) ∙ sym (length-map xs (λ s. s.0)))
    (no_place (nat_lt (position_or_len (same_text name) names) (length names)) (position_or_len (same_text name) names) e))
  where
    beyond : (m n k : ℕ) → k ≡ n → nat_lt m n ≡ false → k ≤ m
    beyond m n k is e = grind (arith, common_steps)

-- a second stanza of a name is ignored
pub has_already : (known ones : Stanzas) (name : List ℕ) (parts : List SectionPart) → ((q : List ℕ) → has (map (λ s. s.0) known) q ≡ has (map (λ s. s.0) ones) q) →
    has (map (λ s. s.0) ones) name ≡ true → (q : List ℕ) → has (map (λ s. s.0) (known ++ (name, parts) ∷ [])) q ≡ has (map (λ s. s.0) ones) q
has_already known ones name parts agree there q =
    has-append known ((name, parts) ∷ []) q ∙ cases (has (map (λ s. s.0) known) q) (same_text q name) (agree q) (λ e. ap (has (map (λ s. s.0) ones)) (same-is q name e) ∙ there)
  where
    cases : (b c : Bool) {d : Bool} → b ≡ d → (c ≡ true → d ≡ true) → (b || (c || false)) ≡ d
    cases true c is f = is
    cases false true is f = sym (f refl)
    cases false false is f = is

pub found_already : (known ones : Stanzas) (name : List ℕ) (parts : List SectionPart) → ((q : List ℕ) → has (map (λ s. s.0) known) q ≡ has (map (λ s. s.0) ones) q) →
    ((q : List ℕ) → parts_of known q ≡ parts_of ones q) → has (map (λ s. s.0) ones) name ≡ true → (q : List ℕ) → parts_of (known ++ (name, parts) ∷ []) q ≡ parts_of ones q
found_already known ones name parts agree found there q =
    parts_of-append known ((name, parts) ∷ []) q
    ∙ cases (has (map (λ s. s.0) known) q) (same_text q name) parts (found q) (λ e c. ap (has (map (λ s. s.0) ones)) (same-is q name c) ∙ there) (agree q) (none_of ones q)
  where
    cases : (b c : Bool) {d : Bool} {x r : List SectionPart} (y : List SectionPart) → x ≡ r → (d ≡ false → c ≡ true → d ≡ true) → b ≡ d → (d ≡ false → r ≡ []) → (if b then x else (if c then y else [])) ≡ r
    cases true c y is f e none = is
    cases false true y is f e none = absurd (cc (e, f (sym e) refl))
    cases false false y is f e none = sym (none (sym e))

-- a stanza with a new name
pub found_too : (known ones : Stanzas) (name : List ℕ) (parts : List SectionPart) → ((q : List ℕ) → has (map (λ s. s.0) known) q ≡ has (map (λ s. s.0) ones) q) →
    ((q : List ℕ) → parts_of known q ≡ parts_of ones q) → (q : List ℕ) → parts_of (known ++ (name, parts) ∷ []) q ≡ parts_of (ones ++ (name, parts) ∷ []) q
found_too known ones name parts agree found q =
    parts_of-append known ((name, parts) ∷ []) q
    ∙ (λ i. if agree q i then found q i else parts_of ((name, parts) ∷ []) q)
    ∙ sym (parts_of-append ones ((name, parts) ∷ []) q)

pub has_too : (known ones : Stanzas) (name : List ℕ) (parts : List SectionPart) → ((q : List ℕ) → has (map (λ s. s.0) known) q ≡ has (map (λ s. s.0) ones) q) →
    (q : List ℕ) → has (map (λ s. s.0) (known ++ (name, parts) ∷ [])) q ≡ has (map (λ s. s.0) (ones ++ (name, parts) ∷ [])) q
has_too known ones name parts agree q =
    has-append known ((name, parts) ∷ []) q
    ∙ ap (λ b. b || has (name ∷ []) q) (agree q)
    ∙ sym (has-append ones ((name, parts) ∷ []) q)
