-- Units whose records are counted, read and judged one by one.
use Rattle.std.proofs.Common.{◌≡◌, ℕ, ◌+◌, ◌==◌, Bool, true, false, List, [], ◌∷◌, ◌++◌, length, length-append, Ok, Err, refl, sym, ◌∙◌, ap, subst, arith}
use Rattle.std.proofs.lemmas.Bool.{eq-eqb, ne_eqb}
use Rattle.std.proofs.lemmas.List.Sums.{sum_by-append}
use Rattle.plan_types.specs.Refusal.{Answers, Settles}
use Rattle.plan_types.specs.declared.index.Places.{Places}
use Rattle.plan_types.specs.declared.refusal.Cause.TheVariants.{TooMany}
use Rattle.plan_types.specs.declared.refusal.Halt.{Halt}
use Rattle.plan_types.specs.declared.refusal.Halt.TheVariants as halt
use Rattle.plan_types.specs.declared.refusal.Refusal.{Refusal}
use Rattle.index_files.specs.File.{CountsAll, count_all, count_of, fitting, size_all, size_of}
use Rattle.index_files.specs.InTurn.{OnPart, Steps}
use Rattle.index_files.specs.Totals.{is_too_many}
use Rattle.index_files.specs.Units.{AreUnits, AreUnitsOf, RecordComes, unless_beyond, with_record}
use Rattle.index_files.specs.declared.file.ReadFile.{ReadFile}
use Rattle.index_files.specs.declared.totals.Totals.{Totals}
use Rattle.index_files.specs.declared.unit.Unit.{Unit}
use Rattle.index_files.specs.declared.units.Counted.{Counted}
use Rattle.index_files.proofs.FileTotals.{Fit, fit_all, fit_ends, fit_more}
use Rattle.index_files.proofs.StepsInTurn.{Through, refused, whole}

pub fit-first : (t : Totals) → t.files ≡ 0 → t.bytes ≡ 0 → Fit 0 0 [] t.files t.bytes
fit-first t f b rest = λ i. fitting (sym f i) (sym b i) rest

pub fit-on : (read : List ReadFile) (t : Totals) (files bytes : ℕ) (x : ReadFile) → Fit 0 0 read t.files t.bytes → is_too_many (t.files + count_of x) (t.bytes + size_of x) ≡ false
    → files ≡ t.files + count_of x → bytes ≡ t.bytes + size_of x → Fit 0 0 (read ++ x ∷ []) files bytes
fit-on read t files bytes x fit few f b rest = fit_more 0 0 read t.files t.bytes x fit few rest ∙ (λ i. (read ++ x ∷ []) ++ fitting (sym f i) (sym b i) rest)

pub counts-first : (t : Totals) → t.files ≡ 0 → t.bytes ≡ 0 → CountsAll t []
counts-first t f b = record { files = f; bytes = b }

pub files-on : (read : List ReadFile) (t : Totals) (files : ℕ) (x : ReadFile) → CountsAll t read → files ≡ t.files + count_of x → files ≡ count_all (read ++ x ∷ [])
files-on read t files x h e = let k = h.files in let s = sum_by-append count_of read (x ∷ []) in omega (arith, e, k, s)

pub bytes-on : (read : List ReadFile) (t : Totals) (bytes : ℕ) (x : ReadFile) → CountsAll t read → bytes ≡ t.bytes + size_of x → bytes ≡ size_all (read ++ x ∷ [])
bytes-on read t bytes x h e = let k = h.bytes in let s = sum_by-append size_of read (x ∷ []) in omega (arith, e, k, s)

refused-anyway : (places : Places) (r : Refusal) (b : Bool) → Err r ≡ unless_beyond places b (Err r)
refused-anyway places r true = refl
refused-anyway places r false = refl

shorter : (read : List ReadFile) (x : ReadFile) (rest : List ReadFile) → length read ≡ length ((read ++ x ∷ []) ++ rest) → ⊥
shorter read x rest e =
    let a = length-append (read ++ x ∷ []) rest in
    let b = length-append read (x ∷ []) in
    omega (arith, e, a, b)

module _ (places : Places) (all read : List ReadFile) (units : List Unit) (t : Totals) (fit : Fit 0 0 read t.files t.bytes) (through : Through RecordComes with_record [] read units) where
  -- all records fit
  pub units-all : read ≡ all → AreUnitsOf places all (Ok units)
  units-all e =
      let fits : fitting 0 0 all ≡ all = ap (fitting 0 0) (sym e) ∙ fit_all 0 0 read t.files t.bytes fit ∙ e in (
        Ok units,
        subst (λ fs. AreUnits fs (Ok units)) (e ∙ sym fits) (whole RecordComes with_record [] units read through),
        ap (λ b. unless_beyond places b (Ok units)) (sym (eq-eqb (length (fitting 0 0 all)) (length all) (ap length fits))),
      )

  module _ (x : ReadFile) (rest : List ReadFile) (e : all ≡ (read ++ x ∷ []) ++ rest) where
    -- one more record is too many
    pub units-beyond : is_too_many (t.files + count_of x) (t.bytes + size_of x) ≡ true → AreUnitsOf places all (Err (record { path = places.installed; line = 0; cause = TooMany; detail = [] }))
    units-beyond many =
        let fits : fitting 0 0 all ≡ read = ap (fitting 0 0) e ∙ fit_ends 0 0 read t.files t.bytes x rest fit many in (
          Ok units,
          subst (λ fs. AreUnits fs (Ok units)) (sym fits) (whole RecordComes with_record [] units read through),
          ap (λ b. unless_beyond places b (Ok units)) (sym (ne_eqb (length (fitting 0 0 all)) (length all) (λ same. shorter read x rest (sym (ap length fits) ∙ same ∙ ap length e)))),
        )

    -- one more record is refused
    pub units-halted : is_too_many (t.files + count_of x) (t.bytes + size_of x) ≡ false → (h : Halt) → Settles (Steps RecordComes with_record units x) (Err h)
        → Answers (OnPart (λ (n : Counted). n.units) (AreUnitsOf places all)) (Err h)
    units-halted few halt.NoMemory s = tt
    units-halted few halt.Failed s = tt
    units-halted few (halt.Refused r) s = (
      Err r,
      subst (λ fs. AreUnits fs (Err r)) (sym (ap (fitting 0 0) e ∙ fit_more 0 0 read t.files t.bytes x fit few rest))
          (refused RecordComes with_record [] units read x (fitting (t.files + count_of x) (t.bytes + size_of x) rest) r through s),
      refused-anyway places r (length (fitting 0 0 all) == length all),
    )
