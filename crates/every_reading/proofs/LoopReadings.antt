-- Versions, ranges and conditions: reading from left to right ends with a value or at a fault.
use Rattle.std.proofs.Common.{◌≡◌, inl, inr, ℕ, true, false, List, [], ◌∷◌, Option, Some, None, Result, Ok, Err, refl, sym, ap, ◌∙◌, append-nil}
use Rattle.plan_types.specs.declared.condition.Cond.{Cond}
use Rattle.plan_types.specs.declared.range.Range.{Range}
use Rattle.plan_types.specs.declared.range.Spec.{Spec}
use Rattle.plan_types.specs.declared.range.Spec.TheVariants.{V3_0}
use Rattle.plan_types.specs.declared.refusal.Cause.{Cause}
use Rattle.plan_types.specs.declared.version.Version.{Version}
use Rattle.text_grammar.proofs.ChainParts.{ok_parts}
use Rattle.version_range.specs.Grammar as ranges
use Rattle.version_range.specs.Read.{version_at}
use Rattle.version_range.specs.Version.{IsVersionOf, is_version, version_text}
use Rattle.version_range.proofs.OneRange.{range_or_fault}
use Rattle.version_range.proofs.VersionReaders.{version_read, version_reads}
use Rattle.version_range.proofs.WholeRanges as range
use Rattle.condition_text.specs.Grammar as conditions
use Rattle.condition_text.specs.Reading.{cond_tail, whole_at}
use Rattle.condition_text.proofs.WholeConditions as condition
use Rattle.every_reading.specs.Answered.{Answered}
use Rattle.every_reading.proofs.DecidedReadings.{Decided}

-- a version that is the whole text, or none
pub version_or_none : (text : List ℕ) → (found : Option Version) × IsVersionOf text found
version_or_none text = by (version_at false V3_0 text) refl
  where
    given : (ps : List ℕ) → is_version ps ≡ true → text ≡ version_text ps → version_at false V3_0 text ≡ Ok (record { parts = ps }, [])
    given ps h e = ap (version_at false V3_0) (sym (append-nil text)) ∙ version_reads V3_0 text (record { parts = ps }) [] (e, h) (λ d. refl)

    ended : (v : Version) (rest : List ℕ) → version_at false V3_0 text ≡ Ok (v, rest) → (found : Option Version) × IsVersionOf text found
    ended v [] q = let r = version_read V3_0 text v [] q in (Some v, (r.is.1, r.whole ∙ append-nil r.front ∙ r.is.0))
    ended v (b ∷ rest) q = (None, λ ps h e. let p = ok_parts v (record { parts = ps }) (b ∷ rest) [] (sym q ∙ given ps h e) in absurd (cc p.1))

    by : (o : Result (Version × List ℕ) Cause) → version_at false V3_0 text ≡ o → (found : Option Version) × IsVersionOf text found
    by (Ok p) q = ended p.0 p.1 q
    by (Err cause) q = (None, λ ps h e. absurd (cc (q, given ps h e)))

pub some_range : (spec : Spec) (n : ℕ) (text : List ℕ) → Answered (ranges.Stands spec n text) (ranges.FirstFault spec n text)
some_range spec n text = by (range.text_at spec n text) refl
  where
    by : (o : Result Range Cause) → range.text_at spec n text ≡ o → Answered (ranges.Stands spec n text) (ranges.FirstFault spec n text)
    by (Ok r) q = inl (r, range.found spec n text r q)
    by (Err cause) q = inr (cause, range.first_fault spec n text cause q)

pub range_decided : (text : List ℕ) → Decided (ranges.Stands V3_0 64 text)
range_decided text = elim (some_range V3_0 64 text) [ inl found ↦ inl found | inr fault ↦ inr (λ r is. range_or_fault V3_0 64 text r fault.0 is fault.1) ]

pub some_condition : (spec : Spec) (n : ℕ) (text : List ℕ) → Answered (conditions.Stands spec n text) (conditions.FirstFault spec n text)
some_condition spec n text = by (whole_at (cond_tail spec n) n text) refl
  where
    by : (o : Result Cond Cause) → whole_at (cond_tail spec n) n text ≡ o → Answered (conditions.Stands spec n text) (conditions.FirstFault spec n text)
    by (Ok c) q = inl (c, condition.found spec n text c q)
    by (Err cause) q = inr (cause, condition.first_fault spec n text cause q)
