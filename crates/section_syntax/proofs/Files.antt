-- The reading of a file with one more element.
use Rattle.std.proofs.Common.{◌≡◌, ℕ, ◌+◌, ◌<◌, ◌≤◌, length, List, [], ◌∷◌, ◌++◌, get_or, drop, sym, subst, ap, ◌∙◌, refl, append_assoc}
use Rattle.std.proofs.lemmas.List.{append-nil, drop_all}
use Rattle.std.specs.Prelude.{Option, None, Some}
use Rattle.plan_types.specs.Bytes.{joined_text}
use Rattle.plan_types.specs.declared.element.Element.{Element}
use Rattle.plan_types.specs.declared.element.Element.TheVariants as element
use Rattle.plan_types.specs.declared.range.Spec.{Spec}
use Rattle.section_syntax.specs.File.{Says, HeadSays, SectionIs, headed, section_name}
use Rattle.section_syntax.specs.Items.{AreParts}
use Rattle.cabal_lexer.specs.Tree.{Tree, in_front, tree_of}
use Rattle.section_syntax.specs.Words.{head_word, section_kind}
use Rattle.section_syntax.specs.declared.part.Head.{Head}
use Rattle.section_syntax.specs.declared.part.HeadField.{HeadField}
use Rattle.section_syntax.specs.declared.part.SectionPart.{SectionPart}
use Rattle.section_syntax.specs.declared.part.Section.{Section}
use Rattle.section_syntax.specs.declared.part.SectionKind.{SectionKind}
use Rattle.cabal_lexer.proofs.ElementTrees.{field_in_front, section_in_front, tree_from}

module _ (spec : Spec) where
  pub head_goes : {item : Element} (line : ℕ) (name : List ℕ) (values : List (List ℕ)) (found : Option Head) (old : List HeadField) {new : List HeadField} (kept : List Section) →
      item ≡ element.Field line name values → HeadSays (head_word name) (joined_text values) found → new ≡ old ++ headed line found →
      (behind : Tree) (more : List HeadField) (others : List Section) → Says spec behind more others →
      (said : List HeadField) × (sections : List Section) × Says spec (in_front item behind) said sections × (new ++ more ≡ old ++ said) × (kept ++ others ≡ kept ++ sections)
  unfolding Says
  head_goes line name values found old kept is says new-is behind more others rest = (
    headed line found ++ more,
    others,
    subst (λ t. Says spec t (headed line found ++ more) others) (sym (ap (λ i. in_front i behind) is ∙ field_in_front line name values behind)) (found, more, says, rest, refl),
    ap (λ v. v ++ more) new-is ∙ append_assoc old (headed line found) more,
    refl,
  )

  pub top_goes : {item : Element} (line : ℕ) (name args : List ℕ) (items : List Element) (old new : List Section) (kept : List HeadField) (behind : Tree) (more : List HeadField) (others : List Section) →
      item ≡ element.Section line name args items →
      (found : List Section) × SectionIs spec (section_kind name) line args (tree_of items) (λ said. Says spec behind more said) found × (new ++ others ≡ old ++ found) →
      (said : List HeadField) × (sections : List Section) × Says spec (in_front item behind) said sections × (kept ++ more ≡ kept ++ said) × (new ++ others ≡ old ++ sections)
  unfolding Says
  top_goes line name args items old new kept behind more others is found =
      (more, found.0, subst (λ t. Says spec t more found.0) (sym (ap (λ i. in_front i behind) is ∙ section_in_front line name args items behind)) found.1, refl, found.2)

  pub file_goes : (items : List Element) (n : ℕ) (item : Element) (heads heads' : List HeadField) (sections sections' : List Section) →
      n < length items → get_or items n item ≡ item →
      ((more : List HeadField) (others : List Section) → Says spec (tree_of (drop n items)) more others → Says spec (tree_of items) (heads ++ more) (sections ++ others)) →
      ((behind : Tree) (more : List HeadField) (others : List Section) → Says spec behind more others →
      (said : List HeadField) × (found : List Section) × Says spec (in_front item behind) said found × (heads' ++ more ≡ heads ++ said) × (sections' ++ others ≡ sections ++ found)) →
      (more : List HeadField) (others : List Section) → Says spec (tree_of (drop (n + 1) items)) more others → Says spec (tree_of items) (heads' ++ more) (sections' ++ others)
  file_goes items n item heads heads' sections sections' lt is before step more others rest =
      let here = step (tree_of (drop (n + 1) items)) more others rest in
      subst (λ h. Says spec (tree_of items) h (sections' ++ others)) (sym here.3)
      (subst (λ s. Says spec (tree_of items) (heads ++ here.0) s) (sym here.4)
      (before here.0 here.1 (subst (λ t. Says spec t here.0 here.1) (sym (tree_from items n item lt is)) here.2)))

  pub file_ends : (items : List Element) (n : ℕ) (heads : List HeadField) (sections : List Section) → length items ≤ n →
      ((more : List HeadField) (others : List Section) → Says spec (tree_of (drop n items)) more others → Says spec (tree_of items) (heads ++ more) (sections ++ others)) →
      Says spec (tree_of items) heads sections
  unfolding Says
  file_ends items n heads sections over before =
      subst (λ h. Says spec (tree_of items) h sections) (append-nil heads)
      (subst (λ s. Says spec (tree_of items) (heads ++ []) s) (append-nil sections)
      (before [] [] (subst (λ i. Says spec (tree_of i) [] []) (sym (drop_all n items over)) (refl, refl))))

  -- a section that isn't read
  pub unread_section : {kind : Option SectionKind} (line : ℕ) (args : List ℕ) (items : Tree) (behind : Tree) (heads : List HeadField) (kept more : List Section) →
      kind ≡ None → Says spec behind heads more →
      (found : List Section) × SectionIs spec kind line args items (λ said. Says spec behind heads said) found × (kept ++ more ≡ kept ++ found)
  unread_section line args items behind heads kept more is rest =
      (more, subst (λ k. SectionIs spec k line args items (λ said. Says spec behind heads said) more) (sym is) rest, refl)

  pub read_section : {kind : Option SectionKind} (is_kind : SectionKind) (line : ℕ) (args : List ℕ) (items : Tree) (parts : List SectionPart) (behind : Tree) (heads : List HeadField) (old more : List Section) {name : List ℕ} {new : List Section} →
      kind ≡ Some is_kind → AreParts spec is_kind items parts → name ≡ section_name is_kind args →
      new ≡ old ++ record { line = line; kind = is_kind; name = name; parts = parts } ∷ [] → Says spec behind heads more →
      (found : List Section) × SectionIs spec kind line args items (λ said. Says spec behind heads said) found × (new ++ more ≡ old ++ found)
  read_section is_kind line args items parts behind heads old more is inside name-is new-is rest =
      let section : Section = record { line = line; kind = is_kind; name = section_name is_kind args; parts = parts } in (
        section ∷ more,
        subst (λ k. SectionIs spec k line args items (λ said. Says spec behind heads said) (section ∷ more)) (sym is) (parts, more, inside, rest, refl),
        ap (λ v. v ++ more) (new-is ∙ ap (λ n. old ++ record { line = line; kind = is_kind; name = n; parts = parts } ∷ []) name-is) ∙ append_assoc old (section ∷ []) more,
      )
