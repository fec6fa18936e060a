-- Shared: what each constraint of a trail was made from.
use Rattle.std.proofs.Common.{◌≡◌, ◌<◌, inl, inr, ℕ, Bool, true, false, nat_eq, if◌then◌else◌, List, [], ◌∷◌, length, Some, None, refl, sym, ap, ◌∙◌, subst}
use Rattle.std.specs.List.{Contains, filter, flat_map, list_any}
use Rattle.constraint_set.specs.Relaxed.{is_version}
use Rattle.std.proofs.lemmas.Bool.{and_from, and_parts, eqb-true, eq-eqb, false≢true}
use Rattle.common_laws.specs.Lists.{all-at, contains-append, contains-cases, contains-filter, contains-flat_map, contains-head, contains-map, contains-none, filter-contains}
use Rattle.conditionals.specs.Paths.{is_same}
use Rattle.plan_types.specs.Packages.{declared_by, entries_of, is_installed, package_at}
use Rattle.plan_types.specs.declared.condition.FlagSet.{FlagSet}
use Rattle.plan_types.specs.declared.constraint.Constraint.{Constraint}
use Rattle.plan_types.specs.declared.constraint.Scope.{Scope}
use Rattle.plan_types.specs.declared.constraint.Scope.TheVariants as scope
use Rattle.plan_types.specs.declared.constraint.What.TheVariants as what
use Rattle.plan_types.specs.declared.description.FlagDecl.{FlagDecl}
use Rattle.plan_types.specs.declared.index.Entry.{Entry}
use Rattle.plan_types.specs.declared.index.Package.{Package}
use Rattle.plan_types.specs.declared.range.Range.TheVariants.{Equal}
use Rattle.freeze_text.specs.Reads.{are_flags}
use Rattle.qualified_goals.specs.declared.variable.Part.{Part}
use Rattle.qualified_goals.specs.declared.variable.Part.TheVariants.{Package as ThePackage, Flag, Tests, Benches}
use Rattle.qualified_goals.specs.declared.variable.Qual.{Qual}
use Rattle.qualified_goals.specs.declared.variable.Qual.TheVariants.{Top, Setup}
use Rattle.qualified_goals.specs.Names.{Name, NameTable}
use Rattle.choice_problem.specs.declared.problem.Choice.{Choice}
use Rattle.choice_problem.specs.Trail.{choice_of, value_in}
use Rattle.choice_problem.specs.Twins.{is_of_package, is_whole}
use Rattle.choice_problem.proofs.TrailLemmas.{value_in-made}
use Rattle.solver_index.specs.Places.{entry_at, rising}
use Rattle.solver_index.proofs.ListLaws.{rising-below}
use Rattle.cabal_problem.specs.Values.{package_var}
use Rattle.frozen_choices.specs.Frozen.{all_flags, are_alike, asked, asked_apart, asked_everywhere, asked_in_setup, asked_of_local, asked_under, asked_where, automatic_flags, entry_of, flag_beside, flags_asked, frozen, frozen_as, frozen_package, instance_asked, instances_in, is_automatic, is_setup_of, is_uniform, kind_of, setups_in}
use Rattle.qualified_goals.proofs.OwnNumbers.{self}

-- ---- what a constraint says

-- each of these sets is of a flag that the instance of a choice declares, with the value beside that choice
pub record AreBeside (packages : List Package) (names : NameTable) (trail : List Choice) (d : Choice) (sets : List FlagSet) : Type 0 where
  pub are_flags_is : are_flags sets ≡ true
  pub each : (s : FlagSet) → Contains sets s → (decl : FlagDecl) × Contains (declared_by (entry_of packages d).body) decl × (flag_beside names trail d decl ≡ s)

-- a constraint on a package in a scope tells the version of the instance that a choice takes, whether it is installed, or flags
pub data Tells (packages : List Package) (names : NameTable) (trail : List Choice) (at : Scope) (name : Name) (d : Choice) : Constraint → Type 0 where
  version : Tells packages names trail at name d (asked at name (what.Range (Equal (entry_of packages d).instance.version)))
  kind : Tells packages names trail at name d (asked at name (kind_of (entry_of packages d)))
  flags : (sets : List FlagSet) → AreBeside packages names trail d sets → Tells packages names trail at name d (asked at name (what.Flags sets))

-- The constraints of a choice are in scope where it was made. In every scope they stand where all instances are alike, or where
-- the package is local.
pub data Reaches (packages : List Package) (trail : List Choice) (q : Qual) (p i : ℕ) : Scope → Type 0 where
  local : (package_at packages p).local ≡ true → Reaches packages trail q p i scope.Any
  alike : ((r : Qual) (j : ℕ) → value_in trail (package_var r p) ≡ Some j → are_alike (entry_at (entries_of packages p) i) (entry_at (entries_of packages p) j) ≡ true)
      → Reaches packages trail q p i scope.Any
  top : q ≡ Top → Reaches packages trail q p i scope.Top
  setup : (s : ℕ) → s < length packages → q ≡ Setup s → Reaches packages trail q p i (scope.SetupOf (package_at packages s).name)

-- a constraint was made from the choice of an instance on the trail
pub record IsMade (packages : List Package) (names : NameTable) (trail : List Choice) (k : Constraint) : Type 0 where
  pub at : Scope
  pub qual : Qual
  pub owner : ℕ
  pub place : ℕ
  pub below : owner < length packages
  pub there : Contains trail (choice_of (package_var qual owner) place)
  pub reaches : Reaches packages trail qual owner place at
  pub tells : Tells packages names trail at (package_at packages owner).name (choice_of (package_var qual owner) place) k

-- ---- parts of the list

same-self : (b : Bool) → is_same b b ≡ true
same-self true = refl
same-self false = refl

pub alike-self : (e : Entry) → are_alike e e ≡ true
alike-self e = and_from (is_version e.instance.version e.instance.version) (is_same (is_installed e.body) (is_installed e.body)) (self e.instance.version.parts) (same-self (is_installed e.body))

pub whole-is : (part : Part) → is_whole part ≡ true → ThePackage ≡ part
whole-is ThePackage h = refl
whole-is (Flag f) h = absurd (false≢true h)
whole-is Tests h = absurd (false≢true h)
whole-is Benches h = absurd (false≢true h)

-- a choice of an instance of a package
instance-is : (p : ℕ) (c : Choice) → is_of_package p c ≡ true → choice_of (package_var c.var.qual p) c.val ≡ c
instance-is p c h =
    let parts = and_parts (is_whole c.var.part) (nat_eq c.var.«package» p) h in
    ap (λ n. choice_of (package_var c.var.qual n) c.val) (sym (eqb-true c.var.«package» p parts.1))
    ∙ ap (λ part. choice_of (record { qual = c.var.qual; «package» = c.var.«package»; part = part }) c.val) (whole-is c.var.part parts.0)

module _ (packages : List Package) (names : NameTable) (trail : List Choice) where
  abbrev TellsOf : Scope → Name → Choice → Constraint → Type 0
  TellsOf = Tells packages names trail

  tells-instance : (at : Scope) (name : Name) (d : Choice) (k : Constraint) → Contains (instance_asked at name (entry_of packages d)) k → TellsOf at name d k
  tells-instance at name d k h =
      let e = entry_of packages d in
      elim (contains-cases (asked at name (what.Range (Equal e.instance.version))) (asked at name (kind_of e) ∷ []) k h) [
        | inl same ↦ subst (TellsOf at name d) same version
        | inr more ↦ elim (contains-cases (asked at name (kind_of e)) [] k more) [ inl same ↦ subst (TellsOf at name d) same kind | inr none ↦ absurd (contains-none k none) ]
      ]

  tells-flags : (at : Scope) (name : Name) (d : Choice) (sets : List FlagSet) (k : Constraint)
      → ((s : FlagSet) → Contains sets s → (decl : FlagDecl) × Contains (declared_by (entry_of packages d).body) decl × (flag_beside names trail d decl ≡ s))
      → Contains (flags_asked at name sets) k → TellsOf at name d k
  tells-flags at name d sets k each h =
      elim (are_flags sets) as (λ b. are_flags sets ≡ b → Contains (if b then asked at name (what.Flags sets) ∷ [] else []) k → TellsOf at name d k) [
        | true ↦ λ are l. elim (contains-cases (asked at name (what.Flags sets)) [] k l) [
          | inl same ↦ subst (TellsOf at name d) same (flags sets (record { are_flags_is = are; each = each }))
          | inr none ↦ absurd (contains-none k none)
        ]
        | false ↦ λ are l. absurd (contains-none k l)
      ] refl h

  abbrev declared : Choice → List FlagDecl
  declared d = declared_by (entry_of packages d).body

  tells-all : (at : Scope) (name : Name) (d : Choice) (k : Constraint) → Contains (flags_asked at name (all_flags packages names trail d)) k → TellsOf at name d k
  tells-all at name d k h = tells-flags at name d (all_flags packages names trail d) k (λ s l. contains-map (flag_beside names trail d) (declared d) s l) h

  tells-automatic : (at : Scope) (name : Name) (d : Choice) (k : Constraint) → Contains (flags_asked at name (automatic_flags packages names trail d)) k → TellsOf at name d k
  tells-automatic at name d k h =
      let test = is_automatic names (entries_of packages d.var.«package») in
      tells-flags at name d (automatic_flags packages names trail d) k
      (λ s l.
      let found = contains-map (flag_beside names trail d) (filter test (declared d)) s l in
      (found.0, (contains-filter test (declared d) found.0 found.1).0, found.2)) h

  -- ---- the constraints of a package

  module _ (k : Constraint) (p : ℕ) (below : p < length packages) where
    abbrev IsSo : Type 0
    IsSo = IsMade packages names trail k

    abbrev name : Name
    name = (package_at packages p).name

    abbrev at_place : Qual → ℕ → Choice
    at_place q i = choice_of (package_var q p) i

    made : (at : Scope) (q : Qual) (i : ℕ) → Contains trail (at_place q i) → Reaches packages trail q p i at → TellsOf at name (at_place q i) k → IsSo
    made at q i there reaches tells = record { at = at; qual = q; owner = p; place = i; below = below; there = there; reaches = reaches; tells = tells }

    under-made : (at : Scope) (q : Qual) → ((i : ℕ) → Reaches packages trail q p i at) → Contains (asked_under packages names trail at q p) k → IsSo
    under-made at q reaches h =
        elim (value_in trail (package_var q p)) as (λ o. value_in trail (package_var q p) ≡ o → Contains (asked_where packages names trail at q p o) k → IsSo) [
          | None ↦ λ is l. absurd (contains-none k l)
          | Some i ↦ λ is l.
              let d = at_place q i in
              made at q i (value_in-made trail (package_var q p) i is) (reaches i)
              (elim (contains-append (instance_asked at name (entry_of packages d)) (flags_asked at name (automatic_flags packages names trail d)) k l) [
                | inl first ↦ tells-instance at name d k first
                | inr second ↦ tells-automatic at name d k second
              ])
        ] refl h

    apart-made : Contains (asked_apart packages names trail p) k → IsSo
    apart-made h =
        let setups = setups_in packages trail in
        elim (contains-append (asked_under packages names trail scope.Top Top p) (flat_map (asked_in_setup packages names trail p) setups) k h) [
          | inl first ↦ under-made scope.Top Top (λ i. top refl) first
          | inr second ↦
              let found = contains-flat_map (asked_in_setup packages names trail p) setups k second in
              let s = found.0 in
              let within = rising-below (length packages) s (contains-filter (λ x. list_any (λ c. is_setup_of x c.var.qual) trail) (rising (length packages)) s found.1).0 in
              under-made (scope.SetupOf (package_at packages s).name) (Setup s) (λ i. setup s within refl) found.2
        ]

    everywhere-made : (q : Qual) (i : ℕ) → Contains trail (at_place q i) → Reaches packages trail q p i scope.Any → Contains (asked_everywhere packages names trail (at_place q i)) k → IsSo
    everywhere-made q i there reaches h =
        let d = at_place q i in
        made scope.Any q i there reaches
        (elim (contains-append (instance_asked scope.Any name (entry_of packages d)) (flags_asked scope.Any name (all_flags packages names trail d)) k h) [
          | inl first ↦ tells-instance scope.Any name d k first
          | inr second ↦ tells-all scope.Any name d k second
        ])

    -- ---- by the instances that are chosen

    module _ (first : Choice) (others : List Choice) (is : instances_in trail p ≡ first ∷ others) where
      kept : Contains trail first × (is_of_package p first ≡ true)
      kept = contains-filter (is_of_package p) trail first (subst (λ l. Contains l first) (sym is) (contains-head first others))

      same : at_place first.var.qual first.val ≡ first
      same = instance-is p first kept.1

      there : Contains trail (at_place first.var.qual first.val)
      there = subst (Contains trail) (sym same) kept.0

      uniform-alike : is_uniform packages first others ≡ true → Reaches packages trail first.var.qual p first.val scope.Any
      uniform-alike uniform = alike (λ r j chosen.
          let d = at_place first.var.qual first.val in
          let c = at_place r j in
          let inside : Contains (first ∷ others) c = subst (λ l. Contains l c) is
          (filter-contains (is_of_package p) trail c (value_in-made trail (package_var r p) j chosen) (eq-eqb p p refl)) in
          elim (contains-cases first others c inside) [
            | inl e ↦ subst (λ x. are_alike (entry_of packages d) (entry_of packages x) ≡ true) (same ∙ e) (alike-self (entry_of packages d))
            | inr more ↦ subst (λ x. are_alike (entry_of packages x) (entry_of packages c) ≡ true) (sym same)
                (all-at (λ x. are_alike (entry_of packages first) (entry_of packages x)) others c uniform more)
          ])

      some-made : Contains (frozen_as packages names trail p (first ∷ others)) k → IsSo
      some-made h =
          let q = first.var.qual in
          let i = first.val in
          elim (package_at packages p).local as (λ b. (package_at packages p).local ≡ b
          → Contains (if b then asked_of_local packages names trail first
          else if is_uniform packages first others then asked_everywhere packages names trail first else asked_apart packages names trail p) k → IsSo) [
            | true ↦ λ e l.
                made scope.Any q i there (local e)
                (tells-all scope.Any name (at_place q i) k (subst (λ c. Contains (asked_of_local packages names trail c) k) (sym same) l))
            | false ↦ λ e l. elim (is_uniform packages first others) as (λ b. is_uniform packages first others ≡ b
                → Contains (if b then asked_everywhere packages names trail first else asked_apart packages names trail p) k → IsSo) [
                  | true ↦ λ u m. everywhere-made q i there (uniform-alike u) (subst (λ c. Contains (asked_everywhere packages names trail c) k) (sym same) m)
                  | false ↦ λ u m. apart-made m
                ] refl l
          ] refl h

    as-made : (choices : List Choice) → instances_in trail p ≡ choices → Contains (frozen_as packages names trail p choices) k → IsSo
    as-made [] is h = absurd (contains-none k h)
    as-made (first ∷ others) is h = some-made first others is h

  pub frozen-made : (k : Constraint) → Contains (frozen packages names trail) k → IsMade packages names trail k
  frozen-made k h =
      let found = contains-flat_map (frozen_package packages names trail) (rising (length packages)) k h in
      let p = found.0 in
      as-made k p (rising-below (length packages) p found.1) (instances_in trail p) refl found.2
