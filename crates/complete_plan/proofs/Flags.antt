-- The flags and stanzas of an instance that is chosen: a plan has them on or off as the demands see them.
use Rattle.std.proofs.Common.{◌≡◌, ◌<◌, ℕ, zero, suc, Bool, true, false, ◌&&◌, if◌then◌else◌, nat_lt, List, [], ◌∷◌, ◌++◌, length, map, Option, Some, None, refl, sym, ap, ◌∙◌, subst, arith}
use Rattle.std.specs.List.{Contains, list_all, list_any}
use Rattle.std.proofs.lemmas.Bool.{and_from, and_parts, eqb-true, false≢true}
use Rattle.std.proofs.lemmas.Option.{none-some, same_Some}
use Rattle.common_laws.specs.Lists.{contains-head, contains-left, contains-tail, map-contains}
use Rattle.common_laws.specs.Small.{same-is}
use Rattle.plan_types.specs.Bytes.{same_text}
use Rattle.plan_types.specs.Packages.{package_at}
use Rattle.plan_types.specs.declared.condition.FlagSet.{FlagSet}
use Rattle.plan_types.specs.declared.description.CompKind.{CompKind}
use Rattle.plan_types.specs.declared.description.CompKind.TheVariants as comp
use Rattle.plan_types.specs.declared.description.Description.{Description}
use Rattle.plan_types.specs.declared.description.FlagDecl.{FlagDecl}
use Rattle.plan_types.specs.declared.index.Body.TheVariants.{Source as SourceBody}
use Rattle.plan_types.specs.declared.index.Entry.{Entry}
use Rattle.plan_types.specs.declared.index.Literal.{Literal}
use Rattle.plan_types.specs.declared.index.PartName.TheVariants as literal
use Rattle.plan_types.specs.declared.index.Source.{Source}
use Rattle.conditionals.specs.Paths.{has_setting}
use Rattle.conditionals.specs.Value.{flag_in}
use Rattle.flatten.specs.Counting.{Parts, are_met, flags_of}
use Rattle.flatten.specs.Demands.{stanza_of}
use Rattle.qualified_goals.specs.declared.variable.Part.{Part}
use Rattle.qualified_goals.specs.declared.variable.Part.TheVariants.{Flag, Tests, Benches}
use Rattle.qualified_goals.specs.declared.variable.Qual.{Qual}
use Rattle.qualified_goals.specs.declared.variable.Var.{Var}
use Rattle.choice_problem.specs.declared.problem.Choice.{Choice}
use Rattle.choice_problem.specs.declared.problem.Demand.{Demand}
use Rattle.choice_problem.specs.Assignment.{is_made}
use Rattle.choice_problem.specs.General.{request_of}
use Rattle.choice_problem.specs.Trail.{choice_of}
use Rattle.choice_problem.proofs.TrailLemmas.{is_made-from}
use Rattle.solver_index.specs.Places.{flag_number}
use Rattle.cabal_problem.specs.ListedDemands.{flag_demand, has_part, has_stanzas, stanza_if}
use Rattle.cabal_problem.specs.Values.{package_var}
use Rattle.cabal_problem.specs.Variables.{body_has_kind, has_kind, is_benchmark, is_on, is_part, is_qual, is_suite}
use Rattle.cabal_problem.specs.WholeDemands.{front_demands, as_setting, on_or_off, parts_under}
use Rattle.plan_components.specs.Chosen.{chosen_flag, chosen_flags, is_turned_on, is_value_on, part_var}
use Rattle.plan_components.specs.Wanted.{is_asked}
use Rattle.complete_plan.proofs.Given.{Given, IsChosen, packages, selection, value-of-target}
use Rattle.complete_plan.proofs.Requests as request

-- ---- values of flags and stanzas

set-as : (n : ℕ) → n < 2 → on_or_off n ≡ Some (is_on n)
set-as zero lt = refl
set-as (suc zero) lt = refl
set-as (suc (suc n)) lt = absurd (omega (arith, lt))

set-on : (o : Option ℕ) → is_value_on o ≡ true → as_setting o ≡ Some true
set-on None h = absurd (false≢true h)
set-on (Some n) h = ap on_or_off (eqb-true n 1 h)

-- ---- a flag that is set is declared

record IsDeclared (f : FlagDecl → FlagSet) (decls : List FlagDecl) (name : List ℕ) (on : Bool) : Type 0 where
  decl : FlagDecl
  among : Contains decls decl
  named : decl.name ≡ name
  same : (f decl).on ≡ on

declared-tail : (f : FlagDecl → FlagSet) (first : FlagDecl) (decls : List FlagDecl) (name : List ℕ) (on : Bool) → IsDeclared f decls name on → IsDeclared f (first ∷ decls) name on
declared-tail f first decls name on d = record { decl = d.decl; among = contains-tail first decls d.decl d.among; named = d.named; same = d.same }

module _ (f : FlagDecl → FlagSet) (keeps : (decl : FlagDecl) → (f decl).name ≡ decl.name) where
  declared : (decls : List FlagDecl) (name : List ℕ) (on : Bool) → flag_in (map f decls) name ≡ Some on → IsDeclared f decls name on
  declared [] name on h = absurd (none-some on h)
  declared (decl ∷ decls) name on h =
      elim (same_text (f decl).name name) as (λ b. same_text (f decl).name name ≡ b → (if b then Some (f decl).on else flag_in (map f decls) name) ≡ Some on → IsDeclared f (decl ∷ decls) name on) [
        | true ↦ λ e k. record {
          decl = decl;
          among = contains-head decl decls;
          named = sym (keeps decl) ∙ same-is (f decl).name name e;
          same = same_Some (f decl).on on k;
        }
        | false ↦ λ e k. declared-tail f decl decls name on (declared decls name on k)
      ] refl h

-- ---- flags

module _ (g : Given) (q : Qual) (p : ℕ) (source : Source) (c : IsChosen g q p (SourceBody source)) where
  abbrev d : Description
  d = source.description

  abbrev chooser : Choice
  chooser = request.chooser g q p source c

  abbrev pub parts : Parts
  parts = parts_under g.valid.names chooser g.valid.assignment

  abbrev pub flags : List FlagSet
  flags = chosen_flags (selection g) q p d

  abbrev flag_at : FlagDecl → Var
  flag_at decl = part_var q p (Flag (flag_number g.valid.names decl.name))

  abbrev one : FlagDecl → Demand
  one decl = flag_demand g.valid.project g.valid.names chooser decl

  -- the instance asks for a value of each flag that it declares
  flag-asked : (decl : FlagDecl) → Contains d.flags decl → Contains (front_demands (packages g) g.valid.project g.valid.names chooser d) (one decl)
  flag-asked decl h =
      let tests = stanza_if (has_stanzas (packages g) chooser.var && has_kind is_suite d) chooser Tests in
      let benches = stanza_if (has_stanzas (packages g) chooser.var && has_kind is_benchmark d) chooser Benches in
      contains-left (map one d.flags ++ tests) benches (one decl) (contains-left (map one d.flags) tests (one decl) (map-contains one d.flags decl h))

  flag-set : (decl : FlagDecl) → Contains d.flags decl → as_setting (g.valid.assignment (flag_at decl)) ≡ Some (is_value_on (g.valid.assignment (flag_at decl)))
  flag-set decl h =
      let made = and_from (is_made g.valid.assignment chooser) true (is_made-from g.valid.assignment chooser c.value) refl in
      let there = map-contains request_of (front_demands (packages g) g.valid.project g.valid.names chooser d) (one decl) (flag-asked decl h) in
      let value = value-of-target g q p (SourceBody source) c (request_of (one decl)) (request.from-front g q p source c (request_of (one decl)) there) made in
      let small : value.0 < 2 = (g.valid.whole_valid.holds.assignment.choice (choice_of (flag_at decl) value.0) value.1).value in
      ap as_setting value.1 ∙ set-as value.0 small ∙ ap (λ o. Some (is_value_on o)) (sym value.1)

  -- a flag that the plan has on or off is so for the demands too
  pub flags-kept : (name : List ℕ) (on : Bool) → flag_in flags name ≡ Some on → flags_of parts name ≡ Some on
  flags-kept name on h =
      let found = declared (chosen_flag (selection g) q p) (λ decl. refl) d.flags name on h in
      subst (λ k. as_setting (g.valid.assignment (part_var q p (Flag (flag_number g.valid.names k)))) ≡ Some on) found.named
      (flag-set found.decl found.among ∙ ap Some found.same)

  -- ---- stanzas

  abbrev stanzas : Bool
  stanzas = has_stanzas (packages g) (package_var q p)

  -- a stanza that has a value has a variable
  stanza-known : (part : Part) (test : Bool) → is_part g.valid.names q (package_at (packages g) p) part ≡ (stanzas && test)
      → is_turned_on (selection g) q p part ≡ true → stanzas ≡ true
  stanza-known part test same h =
      elim (g.valid.assignment (part_var q p part)) as (λ o. g.valid.assignment (part_var q p part) ≡ o → is_value_on o ≡ true → stanzas ≡ true) [
        | None ↦ λ e k. absurd (false≢true k)
        | Some n ↦ λ e k.
            let has = is_part g.valid.names q (package_at (packages g) p) part in
            let known = g.valid.whole_valid.holds.assignment.inside (part_var q p part) n e in
            let inner = (and_parts (is_qual (packages g) g.valid.names q) (nat_lt p (length (packages g)) && has) known).1 in
            (and_parts stanzas test (sym same ∙ (and_parts (nat_lt p (length (packages g))) has inner).1)).0
      ] refl h

  -- what a component of a kind has to have on is on for the demands, and has variables
  pub record CanAsk (kind : CompKind) : Type 0 where
    pub met : are_met parts (stanza_of kind) ≡ true
    pub has : list_all (λ (l : Literal). has_part stanzas l.part) (stanza_of kind) ≡ true

  set-part : (part : Part) → is_turned_on (selection g) q p part ≡ true → has_setting (as_setting (g.valid.assignment (part_var q p part))) true ≡ true
  set-part part h = ap (λ o. has_setting o true) (set-on (g.valid.assignment (part_var q p part)) h)

  abbrev some-has : (CompKind → Bool) → Bool
  some-has is_meant = list_any (λ (e : Entry). body_has_kind is_meant e.body) (package_at (packages g) p).entries

  pub asked-kind : (kind : CompKind) → is_asked (selection g) q p kind ≡ true → CanAsk kind
  asked-kind comp.Library h = record { met = refl; has = refl }
  asked-kind comp.Executable h = record { met = refl; has = refl }
  asked-kind comp.Test h = record {
    met = and_from (has_setting (parts literal.Tests) true) true (set-part Tests h) refl;
    has = and_from stanzas true (stanza-known Tests (some-has is_suite) refl h) refl;
  }
  asked-kind comp.Bench h = record {
    met = and_from (has_setting (parts literal.Benches) true) true (set-part Benches h) refl;
    has = and_from stanzas true (stanza-known Benches (some-has is_benchmark) refl h) refl;
  }
  asked-kind comp.Foreign h = record { met = refl; has = refl }
