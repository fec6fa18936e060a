-- The text of a constraint begins and ends with no blank.
use Rattle.std.proofs.Common.{◌≡◌, ℕ, ◌<◌, Bool, true, false, not, ◌&&◌, List, [], ◌∷◌, ◌++◌, length, refl, sym, ap, ◌∙◌, subst, append_assoc, append-nil, arith}
use Rattle.std.specs.Prelude.{codes, flat_map, if◌then◌else◌}
use Rattle.std.specs.Char.{is_ascii_digit}
use Rattle.std.specs.Fmt.{decimal}
use Rattle.std.specs.List.{list_all}
use Rattle.std.proofs.lemmas.Bool.{and_parts, false≢true}
use Rattle.std.proofs.lemmas.Bool.Decides.{nat_tests}
use Rattle.plan_types.specs.Bytes.{is_blank}
use Rattle.plan_types.specs.declared.condition.FlagSet.{FlagSet}
use Rattle.plan_types.specs.declared.constraint.Constraint.{Constraint}
use Rattle.plan_types.specs.declared.constraint.Scope.{Scope}
use Rattle.plan_types.specs.declared.constraint.Scope.TheVariants.{Top, Any, Setup, SetupOf}
use Rattle.plan_types.specs.declared.constraint.What.{What}
use Rattle.plan_types.specs.Name.{is_component_byte, is_flag_name, is_letter_or_digit}
use Rattle.version_range.specs.Version.{IsVersion, version_text}
use Rattle.version_range.proofs.VersionNumbers.{decimal_digits, decimal_some, version_from}
use Rattle.entry_text.specs.Entries.{are_blanks}
use Rattle.common_laws.specs.Passing.{all-less}
use Rattle.freeze_text.specs.Reads.{IsPlain, version, installed, source, flags, IsPlainConstraint, is_plain_flag, is_plain_scope}
use Rattle.freeze_text.specs.Text.{constraint_text, flag_text, scope_text, what_text}
use Rattle.freeze_text.proofs.Plain.{Begins, flag-name, name-begins, text-equal, word-components}

begins-more : (xs ys : List ℕ) → Begins xs → Begins (xs ++ ys)
begins-more xs ys h = record { first = h.first; others = h.others ++ ys; whole = ap (λ t. t ++ ys) h.whole; plain = h.plain }

pub constraint-begins : (c : Constraint) → IsPlainConstraint c → Begins (constraint_text c)
constraint-begins c is = by c.scope is.scope
  where
    name : Begins (c.«package» ++ what_text c.what)
    name = begins-more c.«package» (what_text c.what) (name-begins c.«package» is.name)

    by : (scope : Scope) → is_plain_scope scope ≡ true → Begins (scope_text scope ++ (c.«package» ++ what_text c.what))
    by Top h = name
    by Any h = record { first = 97; others = _; whole = refl; plain = refl }
    by Setup h = record { first = 115; others = _; whole = refl; plain = refl }
    by (SetupOf owner) h = begins-more (owner ++ codes ":setup.") (c.«package» ++ what_text c.what) (begins-more owner (codes ":setup.") (name-begins owner h))

letter-solid : (b : ℕ) → is_letter_or_digit b ≡ true → is_blank b ≡ false
letter-solid b h = grind (arith, nat_tests)

pub constraint-solid : (lead : List ℕ) (c : Constraint) → IsPlainConstraint c → are_blanks (lead ++ constraint_text c) ≡ false
constraint-solid [] c is =
    let h = constraint-begins c is in
    ap are_blanks h.whole ∙ ap (λ t. t && list_all is_blank h.others) (letter-solid h.first h.plain)
constraint-solid (b ∷ lead) c is =
    ap (λ t. is_blank b && t) (constraint-solid lead c is) ∙ elim (is_blank b) as (λ t. (t && false) ≡ false) [ true ↦ refl | false ↦ refl ]

pub record Ends (text : List ℕ) : Type 0 where
  pub front : List ℕ
  pub final : ℕ
  pub whole : text ≡ front ++ final ∷ []
  pub solid : is_blank final ≡ false

pub ends-more : (xs ys : List ℕ) → Ends ys → Ends (xs ++ ys)
ends-more xs ys h = record { front = xs ++ h.front; final = h.final; whole = ap (λ t. xs ++ t) h.whole ∙ sym (append_assoc xs h.front (h.final ∷ [])); solid = h.solid }

-- some bytes of which none is a blank
ends-solid : (b : ℕ) (bs : List ℕ) → list_all (λ b. not (is_blank b)) (b ∷ bs) ≡ true → Ends (b ∷ bs)
ends-solid b [] h = record { front = []; final = b; whole = refl; solid = off (is_blank b) (and_parts (not (is_blank b)) true h).0 }
  where
    off : (t : Bool) → not t ≡ true → t ≡ false
    off true k = absurd (false≢true k)
    off false k = refl
ends-solid b (c ∷ bs) h = ends-more (b ∷ []) (c ∷ bs) (ends-solid c bs (and_parts (not (is_blank b)) (list_all (λ b. not (is_blank b)) (c ∷ bs)) h).1)

digit-solid : (b : ℕ) → is_ascii_digit b ≡ true → not (is_blank b) ≡ true
digit-solid b h = grind (arith, nat_tests)

component-solid : (b : ℕ) → is_component_byte b ≡ true → not (is_blank b) ≡ true
component-solid b h = grind (arith, nat_tests)

number-ends : (n : ℕ) → IsVersion (n ∷ []) → Ends (decimal n)
number-ends n h = by (decimal n) (decimal_some n h) (all-less is_ascii_digit (λ b. not (is_blank b)) digit-solid (decimal n) (decimal_digits n h))
  where
    by : (ds : List ℕ) → 0 < length ds → list_all (λ b. not (is_blank b)) ds ≡ true → Ends ds
    by [] some k = absurd (omega arith)
    by (d ∷ ds) some k = ends-solid d ds k

version-ends : (ps : List ℕ) → IsVersion ps → Ends (version_text ps)
version-ends [] h = absurd h
version-ends (n ∷ []) h = number-ends n h
version-ends (n ∷ m ∷ ns) h = ends-more (decimal n) (46 ∷ version_text (m ∷ ns)) (ends-more (46 ∷ []) (version_text (m ∷ ns)) (version-ends (m ∷ ns) h.1))

flag-ends : (set : FlagSet) → is_plain_flag set ≡ true → Ends (flag_text set)
flag-ends set h = by set.name (flag-name set h) (all-less is_component_byte (λ b. not (is_blank b)) component-solid set.name (word-components set h))
  where
    by : (name : List ℕ) → is_flag_name name ≡ true → list_all (λ b. not (is_blank b)) name ≡ true → Ends ((if set.on then codes " +" else codes " -") ++ name)
    by [] k solid = absurd (false≢true k)
    by (b ∷ bs) k solid = ends-more (if set.on then codes " +" else codes " -") (b ∷ bs) (ends-solid b bs solid)

flags-ends : (set : FlagSet) (sets : List FlagSet) → list_all is_plain_flag (set ∷ sets) ≡ true → Ends (flat_map flag_text (set ∷ sets))
flags-ends set [] h = subst Ends (sym (append-nil (flag_text set))) (flag-ends set (and_parts (is_plain_flag set) true h).0)
flags-ends set (next ∷ sets) h = ends-more (flag_text set) (flat_map flag_text (next ∷ sets)) (flags-ends next sets (and_parts (is_plain_flag set) (list_all is_plain_flag (next ∷ sets)) h).1)

what-ends : (what : What) → IsPlain what → Ends (what_text what)
what-ends _ (version v h) = ends-more (codes " ") _ (subst Ends (sym (text-equal v)) (ends-more (codes "==") (version_text v.parts) (version-ends v.parts (version_from v.parts h))))
what-ends _ installed = record { front = codes " installe"; final = 100; whole = refl; solid = refl }
what-ends _ source = record { front = codes " sourc"; final = 101; whole = refl; solid = refl }
what-ends _ (flags [] h k) = absurd (false≢true h)
what-ends _ (flags (set ∷ sets) h k) = flags-ends set sets k

pub constraint-ends : (c : Constraint) → IsPlainConstraint c → Ends (constraint_text c)
constraint-ends c is = ends-more (scope_text c.scope) (c.«package» ++ what_text c.what) (ends-more c.«package» (what_text c.what) (what-ends c.what is.what))
