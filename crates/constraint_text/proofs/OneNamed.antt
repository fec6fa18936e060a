-- Shared: an entry of a project's named ranges has at most one reading.
use Rattle.std.proofs.Common.{◌≡◌, ℕ, List, sym, ◌∙◌}
use Rattle.plan_types.specs.declared.dependency.Named.{Named}
use Rattle.plan_types.specs.declared.range.Spec.TheVariants.{V3_0}
use Rattle.version_range.proofs.OneRange.{one_range}
use Rattle.entry_text.specs.Words.{behind_name}
use Rattle.constraint_text.specs.Named.{NamedEntry}
use Rattle.entry_text.proofs.OneReading.{Settled}
use Rattle.constraint_text.specs.Faults.{IsBadConstraint}

-- in a project, `BadConstraint` is the only fault of a part, and excludes a reading
pub project_settled : {A : Type 0} (Part : List ℕ → A → Type 0) → ((part : List ℕ) (x y : A) → Part part x → Part part y → x ≡ y) → Settled Part (IsBadConstraint Part)
project_settled Part one = record {
  one = one;
  one_fault = λ part c d f g. f.is ∙ sym g.is;
  not_both = λ part x c p f. f.stands_for_none x p;
}

one_entry : (text : List ℕ) (x y : Named) → NamedEntry text x → NamedEntry text y → x ≡ y
one_entry text x y e f =
    let range = one_range V3_0 64 (behind_name text) x.range y.range e.range f.range in
    λ i. record { name = (e.name ∙ sym f.name) i; range = range i }

pub named_settled : Settled NamedEntry (IsBadConstraint NamedEntry)
named_settled = project_settled NamedEntry one_entry
