-- Where a constraint is in scope, the instance that is chosen is alike, and has its flags alike.
use Rattle.std.proofs.Common.{◌≡◌, ◌<◌, ℕ, true, false, not, ◌&&◌, nat_eq, List, length, Some, refl, sym, ap, ◌∙◌, subst, arith}
use Rattle.std.specs.Prelude.{unwrap_or}
use Rattle.std.specs.List.{Contains}
use Rattle.std.proofs.lemmas.Bool.{and_from, and_parts, eqb-true, eq-eqb, false≢true}
use Rattle.std.proofs.lemmas.Option.{same_Some}
use Rattle.common_laws.specs.Lists.{contains-none}
use Rattle.common_laws.specs.Small.{same-is}
use Rattle.conditionals.specs.Paths.{is_same}
use Rattle.plan_types.specs.Packages.{declared_by, entries_of, is_installed, package_at}
use Rattle.plan_types.specs.declared.condition.Env.{Env}
use Rattle.plan_types.specs.declared.constraint.Scope.{Scope}
use Rattle.plan_types.specs.declared.constraint.Scope.TheVariants as scope
use Rattle.plan_types.specs.declared.description.FlagDecl.{FlagDecl}
use Rattle.plan_types.specs.declared.index.Body.{Body}
use Rattle.plan_types.specs.declared.index.Body.TheVariants.{Source, Installed}
use Rattle.plan_types.specs.declared.index.Index.{Index}
use Rattle.plan_types.specs.declared.index.Package.{Package}
use Rattle.plan_types.specs.declared.project.Project.{Project}
use Rattle.flatten.specs.Sound.{IsSound}
use Rattle.qualified_goals.specs.declared.variable.Part.TheVariants.{Flag}
use Rattle.qualified_goals.specs.declared.variable.Qual.{Qual}
use Rattle.qualified_goals.specs.declared.variable.Qual.TheVariants.{Top, Setup, Exe}
use Rattle.qualified_goals.specs.declared.variable.Var.{Var}
use Rattle.qualified_goals.specs.Names.{AreNumbers, NameTable, number_of}
use Rattle.qualified_goals.specs.SameVariable.{same_var-is, same_var-refl}
use Rattle.qualified_goals.specs.Variable.{same_var}
use Rattle.choice_problem.specs.declared.problem.Choice.{Choice}
use Rattle.choice_problem.specs.Assignment.{Assignment}
use Rattle.choice_problem.specs.General.{General, request_of}
use Rattle.choice_problem.specs.Problem.{IsChoice}
use Rattle.choice_problem.specs.Trail.{choice_of, value_in}
use Rattle.choice_problem.specs.Twins.{are_twins}
use Rattle.choice_problem.specs.Valid.{IsWholeValid}
use Rattle.constraint_set.specs.Bars.{covers, is_number}
use Rattle.constraint_set.specs.Relaxed.{is_version}
use Rattle.solver_index.specs.Places.{entry_at, flag_number}
use Rattle.cabal_problem.specs.Laws.{known-below}
use Rattle.cabal_problem.specs.ListedDemands.{flag_demand, part_beside}
use Rattle.cabal_problem.specs.Values.{package_var}
use Rattle.cabal_problem.specs.Variables.{is_on}
use Rattle.cabal_problem.specs.WholeDemands.{whole_problem}
use Rattle.frozen_choices.specs.Frozen.{are_alike, is_turned_on}
use Rattle.frozen_choices.proofs.SoundEntries.{package-sound}
use Rattle.frozen_choices.proofs.ConstraintOrigins.{Reaches, alike, alike-self, local, setup, top}
use Rattle.frozen_choices.proofs.OwnNumbers.{package-number}
use Rattle.frozen_choices.proofs.FlagOwners.{flag-asked, flag-declared, flag_var}
use Rattle.frozen_choices.proofs.ReleaseVersions.{one-release}

source-declares : (body : Body) (decl : FlagDecl) → Contains (declared_by body) decl → is_installed body ≡ false
source-declares (Source source) decl h = refl
source-declares (Installed unit needs) decl h = absurd (contains-none decl h)

module _ (env : Env) (index : Index) (project : Project) (names : NameTable) (orders : List (List ℕ)) (trail : List Choice) (sound : IsSound env index)
    (numbers : AreNumbers index.packages names) (valid : IsWholeValid (whole_problem env index.packages project names orders) (value_in trail)) where
  abbrev packages : List Package
  packages = index.packages

  abbrev whole : General
  whole = whole_problem env packages project names orders

  abbrev A : Assignment
  A = value_in trail

  pub choice-is : (q : Qual) (p i : ℕ) → A (package_var q p) ≡ Some i → IsChoice whole (choice_of (package_var q p) i)
  choice-is q p i chosen = valid.holds.assignment.choice (choice_of (package_var q p) i) chosen

  -- the instance under a qualifier in scope is alike
  only-top : (q : Qual) → covers names scope.Top q ≡ true → q ≡ Top
  only-top Top h = refl
  only-top (Setup p) h = absurd (false≢true h)
  only-top (Exe p t) h = absurd (false≢true h)

  only-setup : (s : ℕ) → s < length packages → (q : Qual) → covers names (scope.SetupOf (package_at packages s).name) q ≡ true → q ≡ Setup s
  only-setup s within Top h = absurd (false≢true h)
  only-setup s within (Setup p) h =
      ap Setup (sym (eqb-true s p (sym (ap (λ o. is_number o p) (package-number packages names sound.in_goal_order numbers s within)) ∙ h)))
  only-setup s within (Exe p t) h = absurd (false≢true h)

  abbrev AreAlikeAt : ℕ → ℕ → ℕ → Type 0
  AreAlikeAt p i j = are_alike (entry_at (entries_of packages p) i) (entry_at (entries_of packages p) j) ≡ true

  same-alike : (p i j : ℕ) → i ≡ j → AreAlikeAt p i j
  same-alike p i j same = subst (AreAlikeAt p i) same (alike-self (entry_at (entries_of packages p) i))

  one-choice : (p i j : ℕ) (q r : Qual) → q ≡ r → A (package_var q p) ≡ Some i → A (package_var r p) ≡ Some j → i ≡ j
  one-choice p i j q r same first second = same_Some i j (sym first ∙ ap (λ x. A (package_var x p)) same ∙ second)

  pub alike-in-scope : (q : Qual) (p i : ℕ) → A (package_var q p) ≡ Some i → (at : Scope) → Reaches packages trail q p i at
      → (r : Qual) (j : ℕ) → covers names at r ≡ true → A (package_var r p) ≡ Some j → AreAlikeAt p i j
  alike-in-scope q p i chosen at (local is) r j in_scope other =
      let below = known-below packages names (package_var q p) (choice-is q p i chosen).variable in
      let one = ((package-sound env index sound p below).local_is_one is).one in
      let first : i < length (entries_of packages p) = (choice-is q p i chosen).value in
      let second : j < length (entries_of packages p) = (choice-is r p j other).value in
      same-alike p i j (omega (arith, one, first, second))
  alike-in-scope q p i chosen at (alike each) r j in_scope other = each r j other
  alike-in-scope q p i chosen at (top is) r j in_scope other = same-alike p i j (one-choice p i j q r (is ∙ sym (only-top r in_scope)) chosen other)
  alike-in-scope q p i chosen at (setup s within is) r j in_scope other =
      same-alike p i j (one-choice p i j q r (is ∙ sym (only-setup s within r in_scope)) chosen other)

  -- ---- flags

  -- sources that are alike stand at one place
  one-place : (p i j : ℕ) (first second : FlagDecl) → p < length packages → i < length (entries_of packages p) → j < length (entries_of packages p)
      → Contains (declared_by (entry_at (entries_of packages p) i).body) first → Contains (declared_by (entry_at (entries_of packages p) j).body) second
      → AreAlikeAt p i j → j ≡ i
  one-place p i j first second below within also declared declared_too same =
      let a = entry_at (entries_of packages p) i in
      let b = entry_at (entries_of packages p) j in
      let parts = and_parts (is_version a.instance.version b.instance.version) (is_same (is_installed a.body) (is_installed b.body)) same in
      sym (one-release (package_at packages p) (package-sound env index sound p below).in_order i j within also (source-declares a.body first declared) (source-declares b.body second declared_too)
      (same-is a.instance.version.parts b.instance.version.parts parts.0))

  -- one instance under two qualifiers has its flags alike
  twins-agree : (q r : Qual) (p i : ℕ) (decl : FlagDecl) → A (package_var q p) ≡ Some i → A (package_var r p) ≡ Some i
      → Contains (declared_by (entry_at (entries_of packages p) i).body) decl → A (flag_var q p (flag_number names decl.name)) ≡ A (flag_var r p (flag_number names decl.name))
  twins-agree q r p i decl chosen other declared =
      let c = choice_of (package_var q p) i in
      let d = choice_of (package_var r p) i in
      let v = part_beside c (Flag (flag_number names decl.name)) in
      let w = part_beside d (Flag (flag_number names decl.name)) in
      let asked = flag-asked env packages project names orders numbers A valid.holds q p i chosen decl declared in
      let asked_too = flag-asked env packages project names orders numbers A valid.holds r p i other decl declared in
      elim (same_var c.var d.var) as (λ b. same_var c.var d.var ≡ b → A v ≡ A w) [
        | true ↦ λ e. ap (λ (x : Var). A (flag_var x.qual p (flag_number names decl.name))) (same_var-is c.var d.var e)
        | false ↦ λ e.
            let apart = and_from (not (same_var c.var d.var)) (nat_eq i i) (ap not e) (eq-eqb i i refl) in
            let twins = and_from (same_var d.var d.var) (not (same_var c.var d.var) && nat_eq i i) (same_var-refl d.var) apart in
            let ask = and_from (same_var v v) (same_var w w) (same_var-refl v) (same_var-refl w) in
            valid.holds.agree (request_of (flag_demand project names c decl)) (request_of (flag_demand project names d decl)) asked asked_too
            (and_from (are_twins c d) (same_var v v && same_var w w) twins ask)
      ] refl

  pub flag-kept : (q : Qual) (p i : ℕ) → A (package_var q p) ≡ Some i → (at : Scope) → Reaches packages trail q p i at → (r : Qual) (f n : ℕ) → covers names at r ≡ true
      → A (flag_var r p f) ≡ Some n → (decl : FlagDecl) → Contains (declared_by (entry_at (entries_of packages p) i).body) decl → number_of names.flags decl.name ≡ Some f
      → is_turned_on (A (flag_var q p f)) ≡ is_on n
  flag-kept q p i chosen at reaches r f n in_scope is decl declared numbered =
      let found = flag-declared env packages project names orders A valid r p f n is in
      let first = choice-is q p i chosen in
      let second = choice-is r p found.place found.chosen in
      let below = known-below packages names (package_var q p) first.variable in
      let same = one-place p i found.place decl found.decl below first.value second.value declared found.declared
      (alike-in-scope q p i chosen at reaches r found.place in_scope found.chosen) in
      let values = twins-agree q r p i decl chosen (found.chosen ∙ ap Some same) declared in
      let number : flag_number names decl.name ≡ f = ap (λ o. unwrap_or o 0) numbered in
      ap is_turned_on (subst (λ x. A (flag_var q p x) ≡ A (flag_var r p x)) number values ∙ is)
