-- The constraints of a trail have the forms in which constraints are read.
use Rattle.std.proofs.Common.{◌≡◌, ◌<◌, ℕ, true, false, if◌then◌else◌, List, length, refl, subst}
use Rattle.std.specs.List.{AllByRecursion, Contains, list_all}
use Rattle.std.proofs.lemmas.Bool.{and_from}
use Rattle.std.proofs.lemmas.List.Elements.{recursion_from_All}
use Rattle.common_laws.specs.Lists.{all-at, all-from, all-where, contains-none}
use Rattle.plan_types.specs.Name.{is_flag_name, is_lower}
use Rattle.plan_types.specs.Packages.{declared_by, entries_of, is_installed, package_at}
use Rattle.plan_types.specs.declared.condition.Env.{Env}
use Rattle.plan_types.specs.declared.condition.FlagSet.{FlagSet}
use Rattle.plan_types.specs.declared.constraint.Constraint.{Constraint}
use Rattle.plan_types.specs.declared.constraint.Scope.{Scope}
use Rattle.plan_types.specs.declared.constraint.What.TheVariants as what
use Rattle.plan_types.specs.declared.description.FlagDecl.{FlagDecl}
use Rattle.plan_types.specs.declared.index.Body.{Body}
use Rattle.plan_types.specs.declared.index.Body.TheVariants.{Source, Installed}
use Rattle.plan_types.specs.declared.index.Index.{Index}
use Rattle.plan_types.specs.declared.index.Package.{Package}
use Rattle.flatten.specs.Sound.{IsBody, IsSound}
use Rattle.freeze_text.specs.Reads as plain
use Rattle.freeze_text.specs.Reads.{IsPlain, IsPlainConstraint, is_plain_flag, is_plain_scope}
use Rattle.qualified_goals.specs.declared.variable.Qual.{Qual}
use Rattle.qualified_goals.specs.Names.{NameTable}
use Rattle.choice_problem.specs.declared.problem.Choice.{Choice}
use Rattle.choice_problem.specs.Trail.{choice_of}
use Rattle.solver_index.specs.Places.{entry_at}
use Rattle.cabal_problem.specs.Values.{package_var}
use Rattle.frozen_choices.specs.Frozen.{frozen}
use Rattle.frozen_choices.specs.Plain.{AreInDomains}
use Rattle.frozen_choices.proofs.SoundEntries.{entry-sound, package-sound}
use Rattle.frozen_choices.proofs.ConstraintOrigins.{IsMade, Reaches, Tells, alike, flags, frozen-made, kind, local, setup, top, version}

module _ (env : Env) (index : Index) (names : NameTable) (trail : List Choice) (sound : IsSound env index)
    (within : AreInDomains index.packages trail) where
  abbrev packages : List Package
  packages = index.packages

  scope-plain : (q : Qual) (p i : ℕ) (at : Scope) → Reaches packages trail q p i at → is_plain_scope at ≡ true
  scope-plain q p i at (local is) = refl
  scope-plain q p i at (alike each) = refl
  scope-plain q p i at (top is) = refl
  scope-plain q p i at (setup s below is) = (package-sound env index sound s below).name

  -- the name of a declared flag
  flag-named : (body : Body) → IsBody env index body → (decl : FlagDecl) → Contains (declared_by body) decl → is_flag_name decl.name ≡ true
  flag-named (Source source) is decl h = all-at (λ (f : FlagDecl). is_flag_name f.name) source.description.flags decl is.description.flag_names h
  flag-named (Installed unit needs) units decl h = absurd (contains-none decl h)

  flag-lower : (body : Body) → IsBody env index body → (decl : FlagDecl) → Contains (declared_by body) decl → is_lower decl.name ≡ true
  flag-lower (Source source) is decl h = all-at (λ (f : FlagDecl). is_lower f.name) source.description.flags decl is.description.flags_lower h
  flag-lower (Installed unit needs) units decl h = absurd (contains-none decl h)

  made-plain : (q : Qual) (p i : ℕ) → p < length packages → i < length (entries_of packages p) → (at : Scope) → is_plain_scope at ≡ true
      → (k : Constraint) → Tells packages names trail at (package_at packages p).name (choice_of (package_var q p) i) k → IsPlainConstraint k
  made-plain q p i below inside at scoped k version =
      let e = entry_at (entries_of packages p) i in
      record { scope = scoped; name = (package-sound env index sound p below).name; what = plain.version e.instance.version (entry-sound env index sound p i below inside).version }
  made-plain q p i below inside at scoped k kind =
      record {
        scope = scoped;
        name = (package-sound env index sound p below).name;
        what = elim (is_installed (entry_at (entries_of packages p) i).body) as (λ b. IsPlain (if b then what.Installed else what.Source)) [ true ↦ plain.installed | false ↦ plain.source ];
      }
  made-plain q p i below inside at scoped k (flags sets beside) =
      let e = entry_at (entries_of packages p) i in
      let body = (entry-sound env index sound p i below inside).body in
      let all : list_all is_plain_flag sets ≡ true = all-from is_plain_flag sets (λ s h.
      let found = beside.each s h in
      subst (λ (x : FlagSet). is_plain_flag x ≡ true) found.2
      (and_from (is_flag_name found.0.name) (is_lower found.0.name) (flag-named e.body body found.0 found.1) (flag-lower e.body body found.0 found.1))) in
      record { scope = scoped; name = (package-sound env index sound p below).name; what = plain.flags sets beside.are_flags_is all }

  one-plain : (k : Constraint) → IsMade packages names trail k → IsPlainConstraint k
  one-plain k m =
      made-plain m.qual m.owner m.place m.below (within (choice_of (package_var m.qual m.owner) m.place) m.there) m.at
      (scope-plain m.qual m.owner m.place m.at m.reaches) k m.tells

  pub all-plain : AllByRecursion IsPlainConstraint (frozen packages names trail)
  all-plain =
      let ks = frozen packages names trail in
      recursion_from_All IsPlainConstraint ks (all-where IsPlainConstraint ks (λ k h. one-plain k (frozen-made packages names trail k h)))
