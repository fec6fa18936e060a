-- The constraints of a trail allow a flag of an instance that they don't bar no value that it may not have without them.
use Rattle.std.proofs.Common.{◌≡◌, ℕ, ◌<◌, Bool, true, false, not, ◌&&◌, ◌||◌, List, length, Option, Some, None, refl, sym, ap, ◌∙◌, subst, inl, inr, arith}
use Rattle.std.specs.List.{Contains, list_any}
use Rattle.std.specs.Ordering.{is_eq}
use Rattle.std.specs.Cmp.Lexicographic.{texts_ties}
use Rattle.std.proofs.lemmas.Bool.{and_from, and_parts, eq-eqb, eqb-true, false≢true, or_cases, or_left, or_right}
use Rattle.std.proofs.lemmas.List.Elements.{Contains-get_or}
use Rattle.std.proofs.lemmas.Option.{same_Some}
use Rattle.common_laws.specs.Lists.{any-at, any-from, contains-flat_map, flat_map-contains}
use Rattle.common_laws.specs.Small.{not-to, same-is}
use Rattle.conditionals.specs.Paths.{is_same}
use Rattle.plan_types.specs.Members.{members, members_step, order}
use Rattle.plan_types.specs.Packages.{declared_by, entries_of, is_installed, package_at}
use Rattle.plan_types.specs.declared.condition.Env.{Env}
use Rattle.plan_types.specs.declared.constraint.Constraint.{Constraint}
use Rattle.plan_types.specs.declared.constraint.Scope.TheVariants as scope
use Rattle.plan_types.specs.declared.constraint.What.TheVariants as what
use Rattle.plan_types.specs.declared.description.FlagDecl.{FlagDecl}
use Rattle.plan_types.specs.declared.index.Entry.{Entry}
use Rattle.plan_types.specs.declared.index.Index.{Index}
use Rattle.plan_types.specs.declared.index.Package.{Package}
use Rattle.plan_types.specs.declared.project.Project.{Project}
use Rattle.plan_types.specs.declared.range.Range.TheFolds.{fold-roll-Range}
use Rattle.plan_types.specs.declared.range.Range.TheOpen as layer
use Rattle.plan_types.specs.declared.range.Range.TheVariants.{Equal, rolls-Equal}
use Rattle.plan_types.specs.declared.version.Version.{Version}
use Rattle.flatten.specs.Sound.{IsPackage, IsSound}
use Rattle.qualified_goals.specs.declared.variable.Part.TheVariants.{Flag}
use Rattle.qualified_goals.specs.declared.variable.Qual.{Qual}
use Rattle.qualified_goals.specs.declared.variable.Qual.TheVariants.{Exe, Setup, Top}
use Rattle.qualified_goals.specs.declared.variable.Var.{Var}
use Rattle.qualified_goals.specs.Names.{AreNumbers, Name, NameTable, number_of}
use Rattle.choice_problem.specs.declared.problem.Choice.{Choice}
use Rattle.choice_problem.specs.Holds.{HoldsWithin}
use Rattle.choice_problem.specs.Trail.{AreNew, choice_of, value_in}
use Rattle.constraint_set.specs.Bars.{requires_value, bars, excludes, covers, is_boot, applies, is_number, is_on, names_flag}
use Rattle.solver_index.proofs.ListLaws.{rising-below}
use Rattle.solver_index.specs.Defaults.{has_number}
use Rattle.solver_index.specs.Places.{entry_at, flag_number, no_entry, rising}
use Rattle.cabal_problem.specs.ListedDemands.{flag_allows, part_beside}
use Rattle.cabal_problem.specs.Values.{package_var}
use Rattle.cabal_problem.specs.Variables.{is_on as value_on}
use Rattle.cabal_problem.specs.WholeDemands.{whole_problem}
use Rattle.freeze_text.specs.Reads.{IsUnion, with_constraints}
use Rattle.frozen_choices.specs.Frozen.{asked, entry_of, frozen, frozen_package, is_automatic, is_manual, is_turned_on}
use Rattle.frozen_choices.proofs.SoundEntries.{entry-sound, package-sound}
use Rattle.frozen_choices.proofs.OwnNumbers.{declared-number, package-number}
use Rattle.frozen_choices.proofs.ReleaseVersions.{one-release}
use Rattle.frozen_plan.proofs.Asked.{IsAskedBeside, IsReason, in-package}
use Rattle.frozen_plan.proofs.Asked.IsReason.{is_local, never_manual, one_version}
use Rattle.frozen_plan.proofs.FlagValues.{allowed-at}
use Rattle.frozen_plan.proofs.Flags.{declared-source, flag-value, one-flag, one-name, package-within, source-within}
use Rattle.frozen_plan.proofs.Lists.{none-at}

number-is : (o : Option ℕ) (n : ℕ) → is_number o n ≡ true → o ≡ Some n
number-is None n h = absurd (false≢true h)
number-is (Some m) n h = ap Some (eqb-true m n h)

-- a scope that holds everywhere
any-covers : (names : NameTable) (q : Qual) → covers names scope.Any q ≡ true
any-covers names Top = refl
any-covers names (Setup p) = refl
any-covers names (Exe p t) = refl

not-false : (b : Bool) → not b ≡ false → b ≡ true
not-false true h = refl
not-false false h = sym h

-- a version that is in a range of another is that one
equal-members : (x v : Version) → members (Equal x) v ≡ true → v.parts ≡ x.parts
equal-members x v h =
    let is : members (Equal x) v ≡ is_eq (order v.parts x.parts) = ap (λ r. members r v) (sym (rolls-Equal x)) ∙ ap (λ f. f v) (fold-roll-Range (Version → Bool) members_step (layer.Equal x)) in
    same-is v.parts x.parts (texts_ties v.parts x.parts ∙ sym is ∙ h)

first-false : (a b : Bool) → (a || b) ≡ false → a ≡ false
first-false true b h = absurd (false≢true (sym h))
first-false false b h = refl

second-false : (a b : Bool) → (a || b) ≡ false → b ≡ false
second-false true b h = absurd (false≢true (sym h))
second-false false b h = h

module _ (env : Env) (index : Index) (project : Project) (names : NameTable) (orders : List (List ℕ)) (trail : List Choice) (sound : IsSound env index) (numbers : AreNumbers index.packages names) (new : AreNew trail)
    (within : HoldsWithin (whole_problem env index.packages project names orders) (whole_problem env index.packages project names orders).known (value_in trail))
    (all : List Constraint) (union : IsUnion all project.constraints (frozen index.packages names trail)) where
  abbrev packages : List Package
  packages = index.packages

  abbrev ks : List Constraint
  ks = frozen packages names trail

  abbrev more : Project
  more = with_constraints all project

  -- a constraint on a package that asks for a flag comes from that package
  asked-of-package : (p f : ℕ) (on : Bool) (k : Constraint) → Contains ks k → is_on names k p ≡ true → requires_value names k.what (Flag f) on ≡ true → IsAskedBeside packages names trail ks p k.«package» f on
  asked-of-package p f on k h on_p asked_it =
      let (q, among, inside) = contains-flat_map (frozen_package packages names trail) (rising (length packages)) k h in
      let found = in-package packages names trail new ks q f on k asked_it (λ j i. flat_map-contains (frozen_package packages names trail) (rising (length packages)) q j among i) inside in
      let own = package-number packages names sound.in_goal_order numbers q (rising-below (length packages) q among) in
      let same : q ≡ p = same_Some q p (sym own ∙ ap (number_of names.packages) (sym found.named) ∙ number-is (number_of names.packages k.«package») p on_p) in
      subst (λ r. IsAskedBeside packages names trail ks r k.«package» f on) same found

  -- an instance that isn't barred, where one version is asked for, is of that version
  version-of : (owner : Choice) (e : Entry) (name : Name) → bars more names owner.var (entry_of packages owner).instance ≡ false
      → Contains ks (asked scope.Any name (what.Range (Equal e.instance.version))) → is_number (number_of names.packages name) owner.var.«package» ≡ true
      → (entry_of packages owner).instance.version.parts ≡ e.instance.version.parts
  version-of owner e name free h numbered =
      let i = (entry_of packages owner).instance in
      let range = asked scope.Any name (what.Range (Equal e.instance.version)) in
      let test = λ (c : Constraint). applies names c owner.var && excludes c.what i in
      let excluded = first-false (list_any test all) (is_boot more i) free in
      let none = second-false (list_any test project.constraints) (list_any test ks) (sym (union test) ∙ excluded) in
      let out : test range ≡ false = none-at test ks range none h in
      let met : applies names range owner.var ≡ true = and_from (is_number (number_of names.packages name) owner.var.«package») (covers names scope.Any owner.var.qual) numbered (any-covers names owner.var.qual) in
      let member : members (Equal e.instance.version) i.version ≡ true = not-false (members (Equal e.instance.version) i.version) (sym (ap (λ b. b && excludes range.what i) met) ∙ out) in
      equal-members e.instance.version i.version member

  -- an instance that isn't barred, and declares a flag for which a value is asked
  module _ (owner : Choice) (decl : FlagDecl) (declared : Contains (declared_by (entry_of packages owner).body) decl)
      (free : bars more names owner.var (entry_of packages owner).instance ≡ false) where
    abbrev p : ℕ
    p = owner.var.«package»

    abbrev entries : List Entry
    entries = entries_of packages p

    abbrev e : Entry
    e = entry_at entries owner.val

    abbrev v : Var
    v = part_beside owner (Flag (flag_number names decl.name))

    source : is_installed e.body ≡ false
    source = declared-source e.body decl declared

    place-within : owner.val < length entries
    place-within = source-within entries owner.val source

    below : p < length packages
    below = package-within packages p owner.val place-within

    package-is : IsPackage env index (package_at packages p)
    package-is = package-sound env index sound p below

    module _ (on : Bool) (name : Name) (is : IsAskedBeside packages names trail ks p name (flag_number names decl.name) on)
        (numbered : is_number (number_of names.packages name) p ≡ true) where
      other-source : is_installed (entry_at entries is.place).body ≡ false
      other-source = declared-source (entry_at entries is.place).body is.decl is.declared

      other-within : is.place < length entries
      other-within = source-within entries is.place other-source

      -- both flags have one name
      named-alike : is.decl.name ≡ decl.name
      named-alike =
          one-name names.flags is.decl.name decl.name (flag_number names decl.name)
          (number-is (number_of names.flags is.decl.name) (flag_number names decl.name) is.numbered) (declared-number packages names numbers p owner.val below place-within decl declared)

      -- where the instances are one, the flags are too, and the value is allowed without the constraints of the trail
      by-instance : is.place ≡ owner.val → flag_allows project names v decl on ≡ true
      by-instance same =
          let declared_too = subst (λ i. Contains (declared_by (entry_at entries i).body) is.decl) same is.declared in
          let body = (entry-sound env index sound p owner.val below place-within).body in
          let one : is.decl ≡ decl = one-flag env index e.body is.decl decl body declared_too declared named-alike in
          let beside = part_beside (choice_of (package_var is.qual p) is.place) (Flag (flag_number names is.decl.name)) in
          let has = flag-value env packages project names orders numbers (value_in trail) within is.qual p is.place is.made is.decl is.declared in
          let value : value_on has.value ≡ on = ap is_turned_on (sym has.value_is) ∙ is.on_is in
          let allowed = subst (λ b. flag_allows project names beside is.decl b ≡ true) value (allowed-at project names beside is.decl has.value has.among) in
          subst (λ (x : FlagDecl). flag_allows project names (part_beside owner (Flag (flag_number names x.name))) x on ≡ true) one allowed

      -- a manual flag isn't asked for as one that no instance declares as manual
      never : decl.manual ≡ true → is_automatic names entries is.decl ≡ true → ⊥
      never manual automatic =
          let f = flag_number names is.decl.name in
          let test = λ (x : FlagDecl). x.manual && has_number names f x in
          let has : has_number names f decl ≡ true = eq-eqb (flag_number names decl.name) f (ap (flag_number names) (sym named-alike)) in
          let in_body = any-from test (declared_by e.body) decl declared (and_from decl.manual (has_number names f decl) manual has) in
          let there = Contains-get_or entries owner.val no_entry place-within in
          not-to (is_manual names entries f) automatic (any-from (λ (x : Entry). list_any test (declared_by x.body)) entries e there in_body)

      by-reason : decl.manual ≡ true → IsReason packages names trail ks p is.place is.decl → flag_allows project names v decl on ≡ true
      by-reason manual (is_local local) = let one = (package-is.local_is_one local).one in by-instance (omega (arith, one, place-within, other-within))
      by-reason manual (one_version range) =
          let of_name = subst (λ (n : Name). is_number (number_of names.packages n) p ≡ true) is.named numbered in
          let version = version-of owner (entry_at entries is.place) (package_at packages p).name free range of_name in
          by-instance (one-release (package_at packages p) package-is.in_order is.place owner.val other-within place-within other-source source (sym version))
      by-reason manual (never_manual automatic) = absurd (never manual automatic)

    pub no-other : (on : Bool) → flag_allows more names v decl on ≡ true → flag_allows project names v decl on ≡ true
    no-other on h =
        let front = not decl.manual || is_same decl.default on in
        let test = λ (c : Constraint). is_on names c p && requires_value names c.what v.part on in
        elim (or_cases front (names_flag more names v on) h) [
          | inl default ↦ or_left front (names_flag project names v on) default
          | inr named ↦ elim (or_cases (list_any test project.constraints) (list_any test ks) (sym (union test) ∙ named)) [
            | inl own ↦ or_right front (names_flag project names v on) own
            | inr frozen_one ↦
                let (k, among, passes) = any-at test ks frozen_one in
                let parts = and_parts (is_on names k p) (requires_value names k.what v.part on) passes in
                let is = asked-of-package p (flag_number names decl.name) on k among parts.0 parts.1 in
                elim decl.manual as (λ b. decl.manual ≡ b → flag_allows project names v decl on ≡ true) [
                  | true ↦ λ manual. by-reason on k.«package» is parts.0 manual is.reason
                  | false ↦ λ automatic. or_left front (names_flag project names v on) (or_left (not decl.manual) (is_same decl.default on) (ap not automatic))
                ] refl
          ]
        ]
