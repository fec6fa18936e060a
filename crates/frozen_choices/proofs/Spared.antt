-- No constraint of a trail that is whole and valid bars a choice of it.
use Rattle.std.proofs.Common.{◌≡◌, ℕ, Bool, true, false, not, ◌&&◌, ◌||◌, List, [], ◌∷◌, Some, refl, sym, ap, ◌∙◌, subst}
use Rattle.std.specs.List.{Contains, list_any}
use Rattle.std.proofs.lemmas.Bool.{and_parts, eqb-true}
use Rattle.common_laws.specs.Lists.{contains-head, contains-tail}
use Rattle.plan_types.specs.Packages.{entries_of, is_installed, package_at}
use Rattle.plan_types.specs.declared.condition.Env.{Env}
use Rattle.plan_types.specs.declared.constraint.Constraint.{Constraint}
use Rattle.plan_types.specs.declared.constraint.Scope.{Scope}
use Rattle.plan_types.specs.declared.index.Body.{Body}
use Rattle.plan_types.specs.declared.index.Body.TheVariants.{Source, Installed}
use Rattle.plan_types.specs.declared.index.Index.{Index}
use Rattle.plan_types.specs.declared.index.Instance.{Instance}
use Rattle.plan_types.specs.declared.index.Package.{Package}
use Rattle.plan_types.specs.declared.project.Project.{Project}
use Rattle.flatten.specs.Sound.{IsSound, instance_of}
use Rattle.qualified_goals.specs.declared.variable.Part.{Part}
use Rattle.qualified_goals.specs.declared.variable.Part.TheVariants.{Package as ThePackage, Flag, Tests, Benches}
use Rattle.qualified_goals.specs.declared.variable.Qual.{Qual}
use Rattle.qualified_goals.specs.declared.variable.Var.{Var}
use Rattle.qualified_goals.specs.Names.{AreNumbers, Name, NameTable, number_of}
use Rattle.choice_problem.specs.declared.problem.Choice.{Choice}
use Rattle.choice_problem.specs.Assignment.{Assignment}
use Rattle.choice_problem.specs.Trail.{AreNew, choice_of, value_in}
use Rattle.choice_problem.specs.Valid.{IsWholeValid}
use Rattle.constraint_set.specs.Bars.{requires_value, excludes, covers, applies, is_number, is_on as is_on_package, is_unit}
use Rattle.solver_index.specs.Places.{entry_at}
use Rattle.cabal_problem.specs.Values.{package_var}
use Rattle.cabal_problem.specs.Variables.{is_on}
use Rattle.cabal_problem.specs.WholeDemands.{whole_problem}
use Rattle.frozen_choices.specs.Barred.{BarsNone, bars_choice}
use Rattle.frozen_choices.specs.Frozen.{entry_of, frozen}
use Rattle.frozen_choices.proofs.SoundEntries.{entry-sound}
use Rattle.frozen_choices.proofs.ConstraintOrigins.{IsMade, frozen-made}
use Rattle.frozen_choices.proofs.OwnNumbers.{package-number}
use Rattle.frozen_choices.proofs.FlagOwners.{flag_var}
use Rattle.frozen_choices.proofs.DistinctChoices.{new-passes}
use Rattle.frozen_choices.proofs.Told.{no-benches, no-tests, not-asked, not-excluded, tells-package, tells-scope}
use Rattle.frozen_choices.proofs.Alike.{alike-in-scope, choice-is, flag-kept}

origin-is : (in_project : Bool) (body : Body) → is_unit (instance_of in_project body).origin ≡ is_installed body
origin-is true (Source source) = refl
origin-is false (Source source) = refl
origin-is in_project (Installed unit needs) = refl

module _ (env : Env) (index : Index) (project : Project) (names : NameTable) (orders : List (List ℕ)) (trail : List Choice) (sound : IsSound env index)
    (numbers : AreNumbers index.packages names) (new : AreNew trail) (valid : IsWholeValid (whole_problem env index.packages project names orders) (value_in trail)) where
  abbrev packages : List Package
  packages = index.packages

  abbrev A : Assignment
  A = value_in trail

  -- ---- one constraint and one choice

  abbrev Spares : Constraint → Choice → Part → Type 0
  Spares k c ThePackage = excludes k.what (entry_of packages c).instance ≡ false
  Spares k c (Flag f) = requires_value names k.what c.var.part (not (is_on c.val)) ≡ false
  Spares k c Tests = requires_value names k.what c.var.part (not (is_on c.val)) ≡ false
  Spares k c Benches = requires_value names k.what c.var.part (not (is_on c.val)) ≡ false

  -- a constraint is in scope at a variable of its package alone
  record IsIn (at : Scope) (p : ℕ) (v : Var) : Type 0 where
    here : p ≡ v.«package»
    in_scope : covers names at v.qual ≡ true

  met-in : (k : Constraint) (m : IsMade packages names trail k) (v : Var) → applies names k v ≡ true → IsIn m.at m.owner v
  met-in k m v h =
      let name = (package_at packages m.owner).name in
      let d = choice_of (package_var m.qual m.owner) m.place in
      let parts = and_parts (is_on_package names k v.«package») (covers names k.scope v.qual) h in
      let number = package-number packages names sound.in_goal_order numbers m.owner m.below in
      record {
        here = eqb-true m.owner v.«package» (sym (ap (λ n. is_number (number_of names.packages n) v.«package») (tells-package packages names trail m.at name d k m.tells)
            ∙ ap (λ o. is_number o v.«package») number) ∙ parts.0);
        in_scope = ap (λ s. covers names s v.qual) (sym (tells-scope packages names trail m.at name d k m.tells)) ∙ parts.1;
      }

  module _ (k : Constraint) (m : IsMade packages names trail k) where
    abbrev p : ℕ
    p = m.owner

    abbrev name : Name
    name = (package_at packages p).name

    abbrev d : Choice
    d = choice_of (package_var m.qual p) m.place

    chosen : A (package_var m.qual p) ≡ Some m.place
    chosen = new-passes trail new d m.there

    spares-instance : (q : Qual) (j : ℕ) → covers names m.at q ≡ true → A (package_var q p) ≡ Some j → excludes k.what (entry_at (entries_of packages p) j).instance ≡ false
    spares-instance q j in_scope is =
        let e = entry_at (entries_of packages p) j in
        let entry = entry-sound env index sound p j m.below (choice-is env index project names orders trail sound numbers valid q p j is).value in
        not-excluded packages names trail m.at name d k m.tells e
        (ap (λ (x : Instance). is_unit x.origin) entry.instance_is ∙ origin-is (package_at packages p).local e.body)
        (alike-in-scope env index project names orders trail sound numbers valid m.qual p m.place chosen m.at m.reaches q j in_scope is)

    spares-flag : (q : Qual) (f n : ℕ) → covers names m.at q ≡ true → A (flag_var q p f) ≡ Some n → requires_value names k.what (Flag f) (not (is_on n)) ≡ false
    spares-flag q f n in_scope is =
        not-asked packages names trail m.at name d k m.tells f (is_on n)
        (λ decl declared numbered. flag-kept env index project names orders trail sound numbers valid m.qual p m.place chosen m.at m.reaches q f n in_scope is decl declared numbered)

    made-spares : (c : Choice) → Contains trail c → applies names k c.var ≡ true → (part : Part) → part ≡ c.var.part → Spares k c part
    made-spares c h met part same =
        let inside = met-in k m c.var met in
        let var : record { qual = c.var.qual; «package» = p; part = part } ≡ c.var =
        ap (λ n. record { qual = c.var.qual; «package» = n; part = part }) inside.here ∙ ap (λ x. record { qual = c.var.qual; «package» = c.var.«package»; part = x }) same in
        let is : A (record { qual = c.var.qual; «package» = p; part = part }) ≡ Some c.val = ap A var ∙ new-passes trail new c h in
        elim part as (λ x. x ≡ c.var.part → A (record { qual = c.var.qual; «package» = p; part = x }) ≡ Some c.val → Spares k c x) [
          | ThePackage ↦ λ part_is value.
              subst (λ n. excludes k.what (entry_at (entries_of packages n) c.val).instance ≡ false) inside.here (spares-instance c.var.qual c.val inside.in_scope value)
          | Flag f ↦ λ part_is value. subst (λ x. requires_value names k.what x (not (is_on c.val)) ≡ false) part_is (spares-flag c.var.qual f c.val inside.in_scope value)
          | Tests ↦ λ part_is value. subst (λ x. requires_value names k.what x (not (is_on c.val)) ≡ false) part_is (no-tests packages names trail m.at name d k m.tells (not (is_on c.val)))
          | Benches ↦ λ part_is value. subst (λ x. requires_value names k.what x (not (is_on c.val)) ≡ false) part_is (no-benches packages names trail m.at name d k m.tells (not (is_on c.val)))
        ] same is

  -- ---- all of them

  none-met : (v : Var) (test : Constraint → Bool) (ks : List Constraint) → ((k : Constraint) → Contains ks k → applies names k v ≡ true → test k ≡ false)
      → list_any (λ k. applies names k v && test k) ks ≡ false
  none-met v test [] each = refl
  none-met v test (k ∷ ks) each =
      let rest = none-met v test ks (λ other h. each other (contains-tail k ks other h)) in
      elim (applies names k v) as (λ b. applies names k v ≡ b → (b && test k) || list_any (λ k. applies names k v && test k) ks ≡ false) [
        | true ↦ λ e. ap (λ b. b || list_any (λ k. applies names k v && test k) ks) (each k (contains-head k ks) e) ∙ rest
        | false ↦ λ e. rest
      ] refl

  none-bars : (c : Choice) (part : Part) (ks : List Constraint) → ((k : Constraint) → Contains ks k → applies names k c.var ≡ true → Spares k c part)
      → bars_choice packages names ks c part ≡ false
  none-bars c ThePackage ks each = none-met c.var (λ k. excludes k.what (entry_of packages c).instance) ks each
  none-bars c (Flag f) ks each = none-met c.var (λ k. requires_value names k.what c.var.part (not (is_on c.val))) ks each
  none-bars c Tests ks each = none-met c.var (λ k. requires_value names k.what c.var.part (not (is_on c.val))) ks each
  none-bars c Benches ks each = none-met c.var (λ k. requires_value names k.what c.var.part (not (is_on c.val))) ks each

  pub bars-none : BarsNone packages names (frozen packages names trail) trail
  bars-none c h = none-bars c c.var.part (frozen packages names trail) (λ k in_list met. made-spares k (frozen-made packages names trail k in_list) c h met c.var.part refl)
