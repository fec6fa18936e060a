-- Shared: a text denotes at most one range, has at most one first fault, and never both. The reader decides which.
use Rattle.std.proofs.Common.{◌≡◌, ℕ, true, List, Option, Some, None, Result, Ok, Err, refl, sym, ap, ◌∙◌}
use Rattle.std.specs.Result.{IfOk, IfErr, MatchResult}
use Rattle.plan_types.specs.declared.range.Spec.{Spec}
use Rattle.plan_types.specs.declared.version.Version.{Version}
use Rattle.plan_types.specs.declared.range.Range.{Range}
use Rattle.plan_types.specs.declared.refusal.Cause.{Cause}
use Rattle.plan_types.specs.declared.refusal.TextFault.{TextFault}
use Rattle.plan_types.specs.declared.refusal.TextFault.TheVariants.{NoMemory, Bad}
use Rattle.version_range.specs.Read.{range_of}
use Rattle.text_grammar.specs.Reading.{Gives}
use Rattle.version_range.specs.Version.{IsVersionOf, has_versions}
use Rattle.version_range.proofs.VersionNumbers.{one_version, version_from}
use Rattle.plan_types.specs.Refusal.{Refuses}
use Rattle.text_grammar.proofs.ExactReadings.{value_or_fault, only_value}
use Rattle.text_grammar.proofs.ExactReadings as exactly
use Rattle.version_range.specs.Grammar.{Stands, CauseAt, needs_version, bad_version, too_deep, bad_range, FirstFault}
use Rattle.version_range.proofs.VersionForms.{stands_valid}
use Rattle.version_range.proofs.WholeRanges.{range_of_is, finds, found, first_fault}

module _ (spec : Spec) (n : ℕ) where
  pub one_range : (text : List ℕ) (r s : Range) → Stands spec n text r → Stands spec n text s → r ≡ s
  one_range text r s a b = let p = finds spec n text r a in let q = finds spec n text s b in cc

  pub range_or_fault : (text : List ℕ) (r : Range) (cause : Cause) → Stands spec n text r → FirstFault spec n text cause → ⊥
  range_or_fault = value_or_fault (Stands spec n) (CauseAt spec n)

  -- the cause is unique
  one_cause : (front rest : List ℕ) {c d : Cause} → CauseAt spec n front rest c → CauseAt spec n front rest d → c ≡ d
  one_cause front rest (needs_version p) (needs_version q) = refl
  one_cause front rest (needs_version p) (bad_version q due) = absurd (q p)
  one_cause front rest (needs_version p) (too_deep q due opens) = absurd (q p)
  one_cause front rest (needs_version p) (bad_range q due opens) = absurd (q p)
  one_cause front rest (bad_version p due) (needs_version q) = absurd (p q)
  one_cause front rest (bad_version p due) (bad_version q due') = refl
  one_cause front rest (bad_version p due) (too_deep q none opens) = absurd (none due)
  one_cause front rest (bad_version p due) (bad_range q none opens) = absurd (none due)
  one_cause front rest (too_deep p due opens) (needs_version q) = absurd (p q)
  one_cause front rest (too_deep p none opens) (bad_version q due) = absurd (none due)
  one_cause front rest (too_deep p due opens) (too_deep q due' opens') = refl
  one_cause front rest (too_deep p due opens) (bad_range q due' none) = absurd (none opens)
  one_cause front rest (bad_range p due opens) (needs_version q) = absurd (p q)
  one_cause front rest (bad_range p none opens) (bad_version q due) = absurd (none due)
  one_cause front rest (bad_range p due none) (too_deep q due' opens) = absurd (none opens)
  one_cause front rest (bad_range p due opens) (bad_range q due' opens') = refl

  pub one_fault : (text : List ℕ) (c d : Cause) → FirstFault spec n text c → FirstFault spec n text d → c ≡ d
  one_fault = exactly.one_fault (Stands spec n) (CauseAt spec n) (λ front rest c d. one_cause front rest {c = c} {d = d})

-- ---- results of calls

module _ (spec : Spec) (text : List ℕ) where
  range_found : (answer : Result Range TextFault) → Gives (λ r. r) answer (range_of spec text) → IfOk answer (λ r. Stands spec 64 text r)
  range_found (Ok r) h = found spec 64 text r (sym (range_of_is spec text) ∙ h)
  range_found (Err fault) h = tt

  versions_found : (answer : Result Range TextFault) → Gives (λ r. r) answer (range_of spec text) → IfOk answer (λ r. has_versions r ≡ true)
  versions_found (Ok r) h = stands_valid spec 64 text r (range_found (Ok r) h)
  versions_found (Err fault) h = tt

  fault_found : (answer : Result Range TextFault) → Gives (λ r. r) answer (range_of spec text) → IfErr answer (Refuses (FirstFault spec 64 text))
  fault_found (Ok r) h = tt
  fault_found (Err NoMemory) h = tt
  fault_found (Err (Bad cause)) h = first_fault spec 64 text cause (sym (range_of_is spec text) ∙ h)

  -- what a call returns, when it gives what the reader gives
  pub answered : (answer : Result Range TextFault) → Gives (λ r. r) answer (range_of spec text)
      → IfOk answer (λ r. Stands spec 64 text r) × IfOk answer (λ r. has_versions r ≡ true) × IfErr answer (Refuses (FirstFault spec 64 text))
      × ((r : Range) → Stands spec 64 text r → MatchResult answer (λ found. found ≡ r) (Refuses (λ cause. ⊥)))
      × ((cause : Cause) → FirstFault spec 64 text cause → MatchResult answer (λ found. ⊥) (Refuses (λ why. why ≡ cause)))
  answered answer h =
      let one : (front rest : List ℕ) (c d : Cause) → CauseAt spec 64 front rest c → CauseAt spec 64 front rest d → c ≡ d = λ front rest c d. one_cause spec 64 front rest {c = c} {d = d} in
      let r = range_found answer h in
      let f = fault_found answer h in (
        r,
        versions_found answer h,
        f,
        only_value (Stands spec 64) (CauseAt spec 64) one text (one_range spec 64 text) answer r f,
        exactly.only_fault (Stands spec 64) (CauseAt spec 64) one text (one_range spec 64 text) answer r f,
      )

-- a text is at most one version
pub one_version_of : (text : List ℕ) (v w : Option Version) → IsVersionOf text v → IsVersionOf text w → v ≡ w
one_version_of text None None p q = refl
one_version_of text None (Some w) p q = absurd (p w.parts q.0 q.1)
one_version_of text (Some v) None p q = absurd (q v.parts p.0 p.1)
one_version_of text (Some v) (Some w) p q =
    ap (λ n. Some (record { parts = n })) (one_version v.parts w.parts (version_from v.parts p.0) (version_from w.parts q.0) (sym p.1 ∙ q.1))
