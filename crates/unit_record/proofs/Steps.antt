-- The contents of fields outside sections, after one more element.
use Rattle.std.proofs.Common.{◌≡◌, ◌<◌, ◌≤◌, ℕ, ◌+◌, List, [], ◌∷◌, ◌++◌, length, take, get_or, refl, sym, subst, ap, ◌∙◌}
use Rattle.std.proofs.lemmas.Grind.{flat_map-append}
use Rattle.std.proofs.lemmas.List.{append-nil, take_more, take_all}
use Rattle.plan_types.specs.Bytes.{joined_text}
use Rattle.plan_types.specs.declared.element.Element.{Element}
use Rattle.plan_types.specs.declared.element.Element.TheVariants.{Field as FieldElement, Section}
use Rattle.unit_record.specs.Fields.{Field, FieldSays, Say, TopField, field_word, fields_of, top_fields}
use Rattle.unit_record.specs.Folds.{of_field, of_section}
use Rattle.unit_record.specs.Record.{contents}
use Rattle.unit_record.specs.declared.field.RecordSaid.{RecordSaid}
use Rattle.unit_record.specs.declared.contents.Contents.{Contents}

say_both : (tops more : List TopField) (fields others : List Field) → Say tops fields → Say more others → Say (tops ++ more) (fields ++ others)
say_both [] more [] others h k = k
say_both [] more (f ∷ fs) others h k = absurd h
say_both (t ∷ ts) more [] others h k = absurd h
say_both (t ∷ ts) more (f ∷ fs) others h k = (h.0, h.1, say_both ts more fs others h.2 k)

-- the contents of these fields
abbrev pub Tell : List TopField → Contents → Type 0
Tell tops all = (fields : List Field) × Say tops fields × (all ≡ contents fields)

-- from the contents before these fields to those after them
abbrev pub Goes : List TopField → Contents → Contents → Type 0
Goes tops old new = (before : List Field) → old ≡ contents before → (found : List Field) × Say tops found × (new ≡ contents (before ++ found))

pub field_goes : {item : Element} (line : ℕ) (name : List ℕ) (values : List (List ℕ)) (said : RecordSaid) (old new : Contents) → item ≡ FieldElement line name values →
    FieldSays (field_word name) (joined_text values) said → ((before : List Field) → old ≡ contents before → new ≡ contents (before ++ record { line = line; said = said } ∷ [])) → Goes (fields_of item) old new
field_goes line name values said old new is says step before e =
    (record { line = line; said = said } ∷ [], subst (λ t. Say t (record { line = line; said = said } ∷ [])) (sym (ap fields_of is ∙ of_field line name values)) (refl, says, tt), step before e)

pub section_goes : {item : Element} (line : ℕ) (name args : List ℕ) (items : List Element) (old : Contents) → item ≡ Section line name args items → Goes (fields_of item) old old
section_goes line name args items old is before e =
    ([], subst (λ t. Say t []) (sym (ap fields_of is ∙ of_section line name args items)) tt, e ∙ ap contents (sym (append-nil before)))

pub tell_more : (items : List Element) (n : ℕ) (item : Element) (old new : Contents) → n < length items → item ≡ get_or items n item →
    Tell (top_fields (take n items)) old → Goes (fields_of item) old new → Tell (top_fields (take (n + 1) items)) new
tell_more items n item old new lt is before step =
    let here = step before.0 before.2 in
    let all : top_fields (take (n + 1) items) ≡ top_fields (take n items) ++ fields_of item =
    ap top_fields (take_more items n item lt ∙ ap (λ x. take n items ++ x ∷ []) (sym is)) ∙ flat_map-append fields_of (take n items) (item ∷ [])
    ∙ ap (λ more. top_fields (take n items) ++ more) (append-nil (fields_of item)) in (
      before.0 ++ here.0,
      subst (λ t. Say t (before.0 ++ here.0)) (sym all) (say_both (top_fields (take n items)) (fields_of item) before.0 here.0 before.1 here.1),
      here.2,
    )

pub tell_all : (items : List Element) (n : ℕ) (all : Contents) → length items ≤ n → Tell (top_fields (take n items)) all → Tell (top_fields items) all
tell_all items n all over = subst (λ i. Tell (top_fields i) all) (take_all n items over)
