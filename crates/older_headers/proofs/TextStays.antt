-- The text of a rewritten file is read as it is: its first element is a cabal-version that is read.
use Rattle.std.proofs.Common.{◌≡◌, ℕ, Bool, true, false, List, [], ◌∷◌, refl, sym, ◌∙◌, ap, subst}
use Rattle.std.specs.Prelude.{Ok, ◌&&◌, codes}
use Rattle.plan_types.specs.Bytes.{joined_text, same_text}
use Rattle.plan_types.specs.declared.element.Element.{Element, Element-F, out-Element, roll-Element, roll-out-Element}
use Rattle.plan_types.specs.declared.element.Element.TheOpen as open'
use Rattle.plan_types.specs.declared.element.Element.TheVariants.{Field, rolls-Field, rolls-Section}
use Rattle.cabal_lexer.proofs.ElementTrees.{field_in_front}
use Rattle.cabal_lexer.specs.RoundTrip.{unnumbered}
use Rattle.cabal_lexer.specs.Tree.{Tree, in_front, tree_of}
use Rattle.older_fields.specs.Editions.{header_text}
use Rattle.older_rules.specs.Modern.{BeginsWithHeader, IsModern}
use Rattle.older_rules.specs.declared.change.Change.{Change}
use Rattle.older_fields.specs.declared.edition.Edition.{Edition}
use Rattle.older_fields.specs.declared.edition.Edition.TheVariants.{V1_0, V1_2, V1_4, V1_6, V1_8, V1_10, V1_12, V1_18, V1_20, V1_22, V1_24, V2_0, V2_2, V2_4, V3_0, V3_4}
use Rattle.older_rules.specs.declared.modern.Modern.{Modern}
use Rattle.older_headers.proofs.Parts.{field-parts, field-section, zero}
use Rattle.older_headers.specs.Answers.{IsAnswer, IsRead, Says, heads_read, is_read_version, states_read}
use Rattle.older_headers.specs.declared.answer.Answer.TheVariants.{Rewritten}

abbrev pub HeaderFirst : Type 0
HeaderFirst = (items : List Element) (modern : Modern) → IsModern items (Ok modern) → BeginsWithHeader modern.items

-- the text of a new header, which is read
written : (edition : Edition) → is_read_version (joined_text (header_text edition ∷ [])) ≡ true
written V1_0 = refl
written V1_2 = refl
written V1_4 = refl
written V1_6 = refl
written V1_8 = refl
written V1_10 = refl
written V1_12 = refl
written V1_18 = refl
written V1_20 = refl
written V1_22 = refl
written V1_24 = refl
written V2_0 = refl
written V2_2 = refl
written V2_4 = refl
written V3_0 = refl
written V3_4 = refl

-- ---- the first element

IsTrue : Bool → Type 0
IsTrue true = Unit
IsTrue false = ⊥

IsEmpty : List Element → Type 0
IsEmpty [] = Unit
IsEmpty (item ∷ items) = ⊥

head_or : Element → List Element → Element
head_or other [] = other
head_or other (item ∷ items) = item

by_layer : (first : Element) (opened : Element-F Element) → out-Element first ≡ opened → (line : ℕ) (edition : Edition) (behind : Tree)
    → zero first ≡ zero (Field line (codes "cabal-version") (header_text edition ∷ [])) → heads_read (in_front first behind) ≡ true
unfolding IsTrue
by_layer first (open'.Field at name values) e line edition behind h =
    let is = sym (roll-out-Element first) ∙ ap roll-Element e ∙ rolls-Field at name values in
    let parts = field-parts at line name (codes "cabal-version") values (header_text edition ∷ []) (sym (ap zero is) ∙ h) in
    ap (λ x. heads_read (in_front x behind)) is ∙ ap heads_read (field_in_front at name values behind)
    ∙ ap (λ x. same_text x (codes "cabal-version") && is_read_version (joined_text values)) parts.0
    ∙ ap (λ x. is_read_version (joined_text x)) parts.1 ∙ written edition
by_layer first (open'.Section at name args items) e line edition behind h =
    let is = sym (roll-out-Element first) ∙ ap roll-Element e ∙ rolls-Section at name args items in
    absurd (subst IsTrue (field-section line at (codes "cabal-version") name args (header_text edition ∷ []) items (sym h ∙ ap zero is)) tt)

first_read : (again items : List Element) (line : ℕ) (edition : Edition)
    → unnumbered again ≡ unnumbered (Field line (codes "cabal-version") (header_text edition ∷ []) ∷ items) → states_read again ≡ true
unfolding IsEmpty head_or
first_read [] items line edition h = absurd (subst IsEmpty h tt)
first_read (first ∷ more) items line edition h = by_layer first (out-Element first) refl line edition (tree_of more) (ap (head_or (zero first)) h)

begun : (text : List ℕ) (items : List Element) → BeginsWithHeader items → Says text items → IsRead text
begun text items (line, edition, rest, is) (again, tree, same) = (again, tree, first_read again rest line edition (same ∙ ap unnumbered is))

pub text_stays : HeaderFirst → (bytes text : List ℕ) (changes : List Change) → IsAnswer bytes (Rewritten text changes) → IsRead text
text_stays header bytes text changes (unread, modern, made, said) = begun text modern.items (header made.older modern made.rules) said.2
