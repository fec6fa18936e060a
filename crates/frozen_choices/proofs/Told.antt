-- What one constraint of a trail leaves alone.
use Rattle.std.proofs.Common.{◌≡◌, ℕ, Bool, true, false, not, ◌||◌, if◌then◌else◌, List, [], ◌∷◌, ◌++◌, Option, Some, None, refl, sym, ap, ◌∙◌}
use Rattle.std.specs.Prelude.{unwrap_or}
use Rattle.std.specs.List.{Contains, list_any}
use Rattle.std.specs.Ordering.{is_eq}
use Rattle.std.proofs.lemmas.Bool.{and_parts, eqb-true, false≢true, not-true}
use Rattle.std.proofs.lemmas.Cmp.{nat_list_cmp_total, tied_itself}
use Rattle.common_laws.specs.Lists.{contains-head, contains-tail}
use Rattle.common_laws.specs.Small.{same-is}
use Rattle.conditionals.specs.Paths.{is_same}
use Rattle.plan_types.specs.Members.{members, members_step, order}
use Rattle.plan_types.specs.Packages.{declared_by, is_installed}
use Rattle.plan_types.specs.declared.condition.FlagSet.{FlagSet}
use Rattle.plan_types.specs.declared.constraint.Constraint.{Constraint}
use Rattle.plan_types.specs.declared.constraint.Scope.{Scope}
use Rattle.plan_types.specs.declared.constraint.What.TheVariants as what
use Rattle.plan_types.specs.declared.description.FlagDecl.{FlagDecl}
use Rattle.plan_types.specs.declared.index.Entry.{Entry}
use Rattle.plan_types.specs.declared.index.Package.{Package}
use Rattle.plan_types.specs.declared.range.Range.TheFolds.{fold-roll-Range}
use Rattle.plan_types.specs.declared.range.Range.TheOpen as layer
use Rattle.plan_types.specs.declared.range.Range.TheVariants.{Equal, rolls-Equal}
use Rattle.plan_types.specs.declared.version.Version.{Version}
use Rattle.qualified_goals.specs.declared.variable.Part.{Part}
use Rattle.qualified_goals.specs.declared.variable.Part.TheVariants.{Flag, Tests, Benches}
use Rattle.qualified_goals.specs.Names.{Name, NameTable, number_of}
use Rattle.choice_problem.specs.declared.problem.Choice.{Choice}
use Rattle.choice_problem.specs.Trail.{value_in}
use Rattle.constraint_set.specs.Bars.{requires_value, excludes, flag_values, is_number, is_unit, is_value}
use Rattle.constraint_set.specs.Relaxed.{is_version}
use Rattle.cabal_problem.specs.ListedDemands.{part_beside}
use Rattle.frozen_choices.specs.Frozen.{are_alike, entry_of, is_turned_on, kind_of}
use Rattle.frozen_choices.proofs.ConstraintOrigins.{Tells, flags, kind, version}

-- ---- small tests

pub number-is : (o : Option ℕ) (n : ℕ) → is_number o n ≡ true → o ≡ Some n
number-is None n h = absurd (false≢true h)
number-is (Some m) n h = ap Some (eqb-true m n h)

same-as : (a b : Bool) → is_same a b ≡ true → b ≡ a
same-as true b h = h
same-as false b h = not-true b h

other-value : (on : Bool) → is_value on (not on) ≡ false
other-value true = refl
other-value false = refl

members-equal : (v w : Version) → members (Equal v) w ≡ is_eq (order w.parts v.parts)
members-equal v w = ap (λ r. members r w) (sym (rolls-Equal v)) ∙ ap (λ f. f w) (fold-roll-Range (Version → Bool) members_step (layer.Equal v))

-- `installed` and `source` ask nothing of a part
kind-requires_value : (names : NameTable) (e : Entry) (part : Part) (on : Bool) → requires_value names (kind_of e) part on ≡ false
kind-requires_value names e part on =
    elim (is_installed e.body) as (λ b. requires_value names (if b then what.Installed else what.Source) part on ≡ false) [ true ↦ refl | false ↦ refl ]

-- ---- what one constraint leaves alone

module _ (packages : List Package) (names : NameTable) (trail : List Choice) (at : Scope) (name : Name) (d : Choice) where
  pub tells-scope : (k : Constraint) → Tells packages names trail at name d k → k.scope ≡ at
  tells-scope k version = refl
  tells-scope k kind = refl
  tells-scope k (flags sets beside) = refl

  pub tells-package : (k : Constraint) → Tells packages names trail at name d k → k.«package» ≡ name
  tells-package k version = refl
  tells-package k kind = refl
  tells-package k (flags sets beside) = refl

  -- an instance that is alike
  pub not-excluded : (k : Constraint) → Tells packages names trail at name d k → (e : Entry) → is_unit e.instance.origin ≡ is_installed e.body
      → are_alike (entry_of packages d) e ≡ true → excludes k.what e.instance ≡ false
  not-excluded k version e origin same =
      let first = entry_of packages d in
      let parts = and_parts (is_version first.instance.version e.instance.version) (is_same (is_installed first.body) (is_installed e.body)) same in
      let equal = same-is first.instance.version.parts e.instance.version.parts parts.0 in
      ap not (members-equal first.instance.version e.instance.version ∙ ap (λ ns. is_eq (order e.instance.version.parts ns)) equal
      ∙ ap is_eq (tied_itself nat_list_cmp_total e.instance.version.parts))
  not-excluded k kind e origin same =
      let first = entry_of packages d in
      let parts = and_parts (is_version first.instance.version e.instance.version) (is_same (is_installed first.body) (is_installed e.body)) same in
      let both : is_unit e.instance.origin ≡ is_installed first.body = origin ∙ same-as (is_installed first.body) (is_installed e.body) parts.1 in
      elim (is_installed first.body) as (λ b. is_unit e.instance.origin ≡ b → excludes (if b then what.Installed else what.Source) e.instance ≡ false) [
        | true ↦ λ is. ap not is
        | false ↦ λ is. is
      ] both
  not-excluded k (flags sets beside) e origin same = refl

  -- a flag with the value that it has beside the choice
  none-other : (f : ℕ) (on : Bool) (sets : List FlagSet) → ((s : FlagSet) → Contains sets s → is_number (number_of names.flags s.name) f ≡ true → s.on ≡ on)
      → list_any (λ value. is_value value (not on)) (flag_values names sets f) ≡ false
  none-other f on [] each = refl
  none-other f on (s ∷ sets) each =
      let test = λ (value : Bool). is_value value (not on) in
      let rest = none-other f on sets (λ t h. each t (contains-tail s sets t h)) in
      elim (is_number (number_of names.flags s.name) f) as (λ b. is_number (number_of names.flags s.name) f ≡ b
      → list_any test ((if b then s.on ∷ [] else []) ++ flag_values names sets f) ≡ false) [
        | true ↦ λ e. ap (λ b. test b || list_any test (flag_values names sets f)) (each s (contains-head s sets) e)
            ∙ ap (λ b. b || list_any test (flag_values names sets f)) (other-value on) ∙ rest
        | false ↦ λ e. rest
      ] refl

  pub not-asked : (k : Constraint) → Tells packages names trail at name d k → (f : ℕ) (on : Bool)
      → ((decl : FlagDecl) → Contains (declared_by (entry_of packages d).body) decl → number_of names.flags decl.name ≡ Some f
      → is_turned_on (value_in trail (part_beside d (Flag f))) ≡ on)
      → requires_value names k.what (Flag f) (not on) ≡ false
  not-asked k version f on each = refl
  not-asked k kind f on each = kind-requires_value names (entry_of packages d) (Flag f) (not on)
  not-asked k (flags sets beside) f on each =
      none-other f on sets (λ s h numbered.
      let found = beside.each s h in
      let decl = found.0 in
      let named : number_of names.flags decl.name ≡ Some f = ap (λ (x : FlagSet). number_of names.flags x.name) found.2 ∙ number-is (number_of names.flags s.name) f numbered in
      ap (λ (x : FlagSet). x.on) (sym found.2)
      ∙ ap (λ o. is_turned_on (value_in trail (part_beside d (Flag (unwrap_or o 0))))) named
      ∙ each decl found.1 named)

  -- it asks nothing of stanzas
  pub no-tests : (k : Constraint) → Tells packages names trail at name d k → (on : Bool) → requires_value names k.what Tests on ≡ false
  no-tests k version on = refl
  no-tests k kind on = kind-requires_value names (entry_of packages d) Tests on
  no-tests k (flags sets beside) on = refl

  pub no-benches : (k : Constraint) → Tells packages names trail at name d k → (on : Bool) → requires_value names k.what Benches on ≡ false
  no-benches k version on = refl
  no-benches k kind on = kind-requires_value names (entry_of packages d) Benches on
  no-benches k (flags sets beside) on = refl
