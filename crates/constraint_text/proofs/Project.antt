-- The results of calls agree with the definitions of entries.
use Rattle.std.proofs.Common.{◌≡◌, ℕ, true, List, sym, ◌∙◌, subst}
use Rattle.plan_types.specs.Name.{is_package_name}
use Rattle.plan_types.specs.declared.dependency.Named.{Named}
use Rattle.plan_types.specs.declared.range.Range.{Range}
use Rattle.plan_types.specs.declared.range.Spec.TheVariants.{V3_0}
use Rattle.plan_types.specs.declared.refusal.Cause.{Cause}
use Rattle.version_range.specs.Grammar.{Stands, FirstFault}
use Rattle.version_range.proofs.OneRange.{range_or_fault}
use Rattle.entry_text.specs.Words.{name_of, behind_name}
use Rattle.constraint_text.specs.Named.{NamedEntry}
use Rattle.constraint_text.specs.Faults.{IsBadConstraint}

pub no_range : (text : List ℕ) (cause : Cause) → FirstFault V3_0 64 text cause → (r : Range) → Stands V3_0 64 text r → ⊥
no_range text cause fault r is = range_or_fault V3_0 64 text r cause is fault

module _ (text name rest : List ℕ) (e : name ≡ name_of text) (f : rest ≡ behind_name text) where
  pub bad_named : (cause : Cause) → IsBadConstraint (Stands V3_0 64) rest cause → IsBadConstraint NamedEntry text cause
  bad_named cause fault = record { is = fault.is; stands_for_none = λ x entry. fault.stands_for_none x.range (subst (λ t. Stands V3_0 64 t x.range) (sym f) entry.range) }

  pub named_entry : is_package_name name ≡ true → (x : Named) → x.name ≡ name → Stands V3_0 64 rest x.range → NamedEntry text x
  named_entry h x same is = record { form = subst (λ n. is_package_name n ≡ true) e h; name = same ∙ e; range = subst (λ t. Stands V3_0 64 t x.range) f is }
