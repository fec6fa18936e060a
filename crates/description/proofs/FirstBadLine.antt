-- The least line as the first fault.
use Rattle.std.proofs.Common.{◌≡◌, ℕ, Bool, true, false, ◌&&◌, ◌||◌, ◌==◌, if◌then◌else◌, List, [], ◌∷◌, map, sym, ap, ◌∙◌, refl}
use Rattle.std.specs.Prelude.{Option, Some, None, nat_lt}
use Rattle.stanza_imports.specs.Lines.{first_line, lesser}
use Rattle.description.specs.Faults.{bad_visibility_at}
use Rattle.description.specs.FaultOrder.{earlier, first}
use Rattle.description.specs.declared.fault_order.At.{At}

abbrev pub as_fault : Option ℕ → Option At
as_fault None = None
as_fault (Some line) = Some (bad_visibility_at line)

by_line : (less equal : Bool) → (less || (equal && false)) ≡ less
by_line true equal = refl
by_line false true = refl
by_line false false = refl

chosen : (b : Bool) (x y : ℕ) → (if b then Some (bad_visibility_at x) else Some (bad_visibility_at y)) ≡ as_fault (if b then Some x else Some y)
chosen true x y = refl
chosen false x y = refl

one_more : (line : ℕ) (other : Option ℕ) → earlier (Some (bad_visibility_at line)) (as_fault other) ≡ as_fault (lesser (Some line) other)
one_more line None = refl
one_more line (Some other) =
    ap (λ b. if b then Some (bad_visibility_at other) else Some (bad_visibility_at line)) (by_line (nat_lt other line) (other == line))
    ∙ chosen (nat_lt other line) other line

pub first_fault_of : (lines : List ℕ) → as_fault (first_line lines) ≡ first (map bad_visibility_at lines)
first_fault_of [] = refl
first_fault_of (line ∷ lines) = sym (ap (earlier (Some (bad_visibility_at line))) (sym (first_fault_of lines)) ∙ one_more line (first_line lines))
