-- A text is at most one record.
use Rattle.std.proofs.Common.{◌≡◌, inl, inr, ℕ, List, [], ◌∷◌, Option, Result, Err, refl, sym, subst, ap, ◌∙◌}
use Rattle.plan_types.specs.declared.index.UnitRecord.{UnitRecord}
use Rattle.cabal_lexer.proofs.OneTree as lexer
use Rattle.version_range.proofs.OneRange.{one_version_of}
use Rattle.unit_record.specs.Fields.{Field, FieldSays, Say, TopField, field_word, top_fields}
use Rattle.unit_record.specs.Record.{IsRecord, outcome, contents}
use Rattle.unit_record.specs.declared.field.RecordFieldWord.{RecordFieldWord}
use Rattle.unit_record.specs.declared.field.RecordFieldWord.TheVariants as fields
use Rattle.unit_record.specs.declared.field.RecordSaid.{RecordSaid}
use Rattle.unit_record.specs.declared.field.RecordSaid.TheVariants as said

one_said : (word : RecordFieldWord) (text : List ℕ) (a b : RecordSaid) → FieldSays word text a → FieldSays word text b → a ≡ b
one_said fields.Name text a b p q = p ∙ sym q
one_said fields.Version text a b p q = p.2 ∙ ap said.Version (one_version_of text p.0 q.0 p.1 q.1) ∙ sym q.2
one_said fields.Id text a b p q = p ∙ sym q
one_said fields.Depends text a b p q = p ∙ sym q
one_said fields.LibName text a b p q = p ∙ sym q
one_said fields.Unread text a b p q = p ∙ sym q

one_say : (tops : List TopField) (a b : List Field) → Say tops a → Say tops b → a ≡ b
one_say [] [] [] p q = refl
one_say [] [] (y ∷ ys) p q = absurd q
one_say [] (x ∷ xs) b p q = absurd p
one_say (t ∷ ts) [] b p q = absurd p
one_say (t ∷ ts) (x ∷ xs) [] p q = absurd q
one_say (t ∷ ts) (x ∷ xs) (y ∷ ys) p q =
    ap (λ l. record { line = l; said = x.said } ∷ xs) (p.0 ∙ sym q.0)
    ∙ ap (λ s. record { line = y.line; said = s } ∷ xs) (one_said (field_word t.name) t.text x.said y.said p.1 q.1)
    ∙ ap (λ l. y ∷ l) (one_say ts xs ys p.2 q.2)

pub one_record : (bytes : List ℕ) (a b : Result (Option UnitRecord) ℕ) → IsRecord bytes a → IsRecord bytes b → a ≡ b
one_record bytes a b (inl p) (inl q) = p.3 ∙ ap Err (lexer.one_refusal bytes p.0 q.0 p.1 q.1 p.2 q.2).0 ∙ sym q.3
one_record bytes a b (inl p) (inr q) = absurd (lexer.tree_or_fault bytes q.0 p.0 p.1 q.2 p.2)
one_record bytes a b (inr p) (inl q) = absurd (lexer.tree_or_fault bytes p.0 q.0 q.1 p.2 q.2)
one_record bytes a b (inr p) (inr q) =
    let items = lexer.one_tree bytes p.0 q.0 p.2 q.2 in
    p.4 ∙ ap (λ f. outcome (contents f)) (one_say (top_fields q.0) p.1 q.1 (subst (λ i. Say (top_fields i) p.1) items p.3) q.3) ∙ sym q.4
