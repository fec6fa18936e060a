-- A file has one outcome, and a rewritten file begins with its header.
use Rattle.std.proofs.Common.{◌≡◌, inl, inr, ℕ, List, refl, sym, ap, ◌∙◌, take, drop}
use Rattle.std.specs.Prelude.{Option, None, Some, Result, Ok, Err, IfOk}
use Rattle.std.proofs.lemmas.Bool.{true≢false}
use Rattle.std.proofs.lemmas.Result.{IfOk-at_ok}
use Rattle.plan_types.specs.declared.element.Element.{Element}
use Rattle.plan_types.specs.declared.range.Range.{Range}
use Rattle.plan_types.specs.declared.range.Spec.TheVariants.{V2_4}
use Rattle.plan_types.specs.declared.refusal.Cause.{Cause}
use Rattle.version_range.proofs.OneRange.{one_range, one_version_of, range_or_fault}
use Rattle.older_rules.specs.declared.change.Change.{Change}
use Rattle.older_fields.specs.declared.edition.Edition.{Edition}
use Rattle.older_fields.specs.declared.header.Header.{Header}
use Rattle.older_rules.specs.declared.modern.Modern.{Modern}
use Rattle.older_fields.specs.declared.refused.At.{At}
use Rattle.older_fields.specs.Headers.{IsHeaderIn, IsRangeOf, IsStatedBy, edition_of, is_first, judged}
use Rattle.older_fields.specs.Items.{leading, line_of, text_of}
use Rattle.older_rules.specs.Modern.{BeginsWithHeader, IsFile, IsModern, fault, of_header, rewritten_file, sectioned, sectioned_told, unless_fault}

one_range_of : (text : List ℕ) (r s : Option Range) → IsRangeOf text r → IsRangeOf text s → r ≡ s
one_range_of text None None p q = refl
one_range_of text None (Some s) p q = absurd (range_or_fault V2_4 64 text s p.0 q p.1)
one_range_of text (Some r) None p q = absurd (range_or_fault V2_4 64 text r q.0 p q.1)
one_range_of text (Some r) (Some s) p q = ap (λ x. Some x) (one_range V2_4 64 text r s p q)

one_stated : (text : List ℕ) (a b : Option Edition) → IsStatedBy text a → IsStatedBy text b → a ≡ b
one_stated text a b p q =
    p.4 ∙ ap (λ v. edition_of v p.1) (one_version_of text p.0 q.0 p.2 q.2) ∙ ap (edition_of q.0) (one_range_of text p.1 q.1 p.3 q.3) ∙ sym q.4

one_header : (items : List Element) (item : Option Element) (a b : Result Header (ℕ × Cause)) → IsHeaderIn items item a → IsHeaderIn items item b → a ≡ b
one_header items None a b p q = p ∙ sym q
one_header items (Some item) a b p q = p.2 ∙ ap (judged (line_of item) (is_first items)) (one_stated (text_of item) p.0 q.0 p.1 q.1) ∙ sym q.2

one_file : (told : List Change) (items : List Element) (a b : Result Modern (ℕ × Cause)) → IsFile told items a → IsFile told items b → a ≡ b
one_file told items a b p q = p.2 ∙ ap (of_header told items) (one_header items _ p.0 q.0 p.1 q.1) ∙ sym q.2

pub one_outcome : (items : List Element) (a b : Result Modern (ℕ × Cause)) → IsModern items a → IsModern items b → a ≡ b
one_outcome items a b (inl p) (inl q) = p.1 ∙ sym q.1
one_outcome items a b (inl p) (inr q) = absurd (true≢false (sym p.0 ∙ q.0))
one_outcome items a b (inr p) (inl q) = absurd (true≢false (sym q.0 ∙ p.0))
one_outcome items a b (inr p) (inr q) = one_file (sectioned_told items) (sectioned items) a b p.1 q.1

abbrev Begins : Modern → Type 0
Begins modern = BeginsWithHeader modern.items

by_fault : (f : Option At) (modern : Modern) → Begins modern → IfOk (unless_fault f modern) Begins
by_fault None modern p = p
by_fault (Some at) modern p = tt

by_header : (told : List Change) (items : List Element) (header : Result Header (ℕ × Cause)) → IfOk (of_header told items header) Begins
by_header told items (Err at) = tt
by_header told items (Ok header) =
    let heads = take (leading items) items in
    let rest = drop (leading items) items in
    by_fault (fault header heads rest) (rewritten_file told header heads rest) (header.line, header.edition, _, refl)

pub header_first : (items : List Element) (modern : Modern) → IsModern items (Ok modern) → BeginsWithHeader modern.items
header_first items modern (inl p) = IfOk-at_ok Begins (sym p.1) tt
header_first items modern (inr p) = IfOk-at_ok Begins (sym p.1.2) (by_header (sectioned_told items) (sectioned items) p.1.0)
