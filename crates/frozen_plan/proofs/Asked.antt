-- How a constraint of a trail comes to ask for a value of a flag.
use Rattle.std.proofs.Common.{◌≡◌, ℕ, Bool, true, false, nat_eq, List, [], ◌∷◌, map, flat_map, Some, None, refl, sym, ap, ◌∙◌, subst, inl, inr, if◌then◌else◌}
use Rattle.std.specs.List.{Contains, filter}
use Rattle.std.proofs.lemmas.Bool.{and_parts, eqb-true, false≢true, not-true}
use Rattle.common_laws.specs.Lists.{any-at, contains-append, contains-cases, contains-filter, contains-flat_map, contains-head, contains-left, contains-map, contains-none}
use Rattle.plan_types.specs.Packages.{declared_by, entries_of, is_installed, package_at}
use Rattle.plan_types.specs.declared.condition.FlagSet.{FlagSet}
use Rattle.plan_types.specs.declared.constraint.Constraint.{Constraint}
use Rattle.plan_types.specs.declared.constraint.Scope.{Scope}
use Rattle.plan_types.specs.declared.constraint.Scope.TheVariants as scope
use Rattle.plan_types.specs.declared.constraint.What.TheVariants as what
use Rattle.plan_types.specs.declared.description.FlagDecl.{FlagDecl}
use Rattle.plan_types.specs.declared.index.Entry.{Entry}
use Rattle.plan_types.specs.declared.index.Package.{Package}
use Rattle.plan_types.specs.declared.range.Range.TheVariants.{Equal}
use Rattle.qualified_goals.specs.declared.variable.Part.TheVariants.{Flag}
use Rattle.qualified_goals.specs.declared.variable.Qual.{Qual}
use Rattle.qualified_goals.specs.declared.variable.Qual.TheVariants.{Setup, Top}
use Rattle.qualified_goals.specs.Names.{Name, NameTable, number_of}
use Rattle.choice_problem.specs.declared.problem.Choice.{Choice}
use Rattle.choice_problem.specs.Trail.{AreNew, choice_of, value_in}
use Rattle.choice_problem.specs.Twins.{is_of_package, is_whole}
use Rattle.constraint_set.specs.Bars.{requires_value, flag_values, is_number, is_value}
use Rattle.freeze_text.specs.Reads.{are_flags}
use Rattle.solver_index.specs.Places.{entry_at, flag_number}
use Rattle.cabal_problem.specs.ListedDemands.{part_beside}
use Rattle.cabal_problem.specs.Values.{package_var}
use Rattle.frozen_choices.specs.Frozen.{all_flags, asked, asked_apart, asked_everywhere, asked_in_setup, asked_of, asked_of_local, asked_under, asked_where, automatic_flags, entry_of, flag_beside, flags_asked, frozen_as, frozen_package, instance_asked, instances_in, is_automatic, is_turned_on, is_uniform, kind_of, setups_in}
use Rattle.frozen_choices.proofs.ConstraintOrigins.{whole-is}
use Rattle.frozen_choices.proofs.DistinctChoices.{new-passes}

-- a choice of an instance of a package
instance-is : (p : ℕ) (c : Choice) → is_of_package p c ≡ true → choice_of (package_var c.var.qual p) c.val ≡ c
instance-is p c h =
    let parts = and_parts (is_whole c.var.part) (nat_eq c.var.«package» p) h in
    ap (λ n. choice_of (package_var c.var.qual n) c.val) (sym (eqb-true c.var.«package» p parts.1))
    ∙ ap (λ part. choice_of (record { qual = c.var.qual; «package» = c.var.«package»; part = part }) c.val) (whole-is c.var.part parts.0)

-- ---- what settings of flags ask of a flag

value-is : (value on : Bool) → is_value value on ≡ true → value ≡ on
value-is true on h = sym h
value-is false on h = sym (not-true on h)

record AsksFlag (names : NameTable) (sets : List FlagSet) (f : ℕ) (on : Bool) : Type 0 where
  set : FlagSet
  among : Contains sets set
  numbered : is_number (number_of names.flags set.name) f ≡ true
  on_is : set.on ≡ on

requires_value-flag : (names : NameTable) (sets : List FlagSet) (f : ℕ) (on : Bool) → requires_value names (what.Flags sets) (Flag f) on ≡ true → AsksFlag names sets f on
requires_value-flag names sets f on h =
    let (value, among, same) = any-at (λ value. is_value value on) (flag_values names sets f) h in
    let (set, there, in_set) = contains-flat_map (λ (s : FlagSet). if is_number (number_of names.flags s.name) f then s.on ∷ [] else []) sets value among in
    elim (is_number (number_of names.flags set.name) f) as (λ b. is_number (number_of names.flags set.name) f ≡ b → Contains (if b then set.on ∷ [] else []) value → AsksFlag names sets f on) [
      | true ↦ λ e k. record {
        set = set;
        among = there;
        numbered = e;
        on_is = elim (contains-cases set.on [] value k) [ inl is ↦ is ∙ value-is value on same | inr none ↦ absurd (contains-none value none) ];
      }
      | false ↦ λ e k. absurd (contains-none value k)
    ] refl in_set

-- nothing that is asked of an instance asks for a flag
range-requires_value-none : (names : NameTable) (at : Scope) (name : Name) (e : Entry) (f : ℕ) (on : Bool) (k : Constraint) → Contains (instance_asked at name e) k → requires_value names k.what (Flag f) on ≡ true → ⊥
range-requires_value-none names at name e f on k h asked_it =
    let range = asked at name (what.Range (Equal e.instance.version)) in
    elim (contains-cases range (asked at name (kind_of e) ∷ []) k h) [
      | inl first ↦ false≢true (subst (λ (j : Constraint). requires_value names j.what (Flag f) on ≡ true) (sym first) asked_it)
      | inr later ↦ elim (contains-cases (asked at name (kind_of e)) [] k later) [
        | inl second ↦ elim (is_installed e.body) as (λ b. requires_value names (if b then what.Installed else what.Source) (Flag f) on ≡ true → ⊥) [ true ↦ λ q. false≢true q | false ↦ λ q. false≢true q ]
            (subst (λ (j : Constraint). requires_value names j.what (Flag f) on ≡ true) (sym second) asked_it)
        | inr none ↦ contains-none k none
      ]
    ]

module _ (packages : List Package) (names : NameTable) (trail : List Choice) where
  -- a flag that these declarations have stands in the trail beside a choice with this value
  record IsBeside (c : Choice) (decls : List FlagDecl) (f : ℕ) (on : Bool) : Type 0 where
    decl : FlagDecl
    among : Contains decls decl
    numbered : is_number (number_of names.flags decl.name) f ≡ true
    on_is : is_turned_on (value_in trail (part_beside c (Flag (flag_number names decl.name)))) ≡ on

  flags-beside : (at : Scope) (name : Name) (c : Choice) (decls : List FlagDecl) (f : ℕ) (on : Bool) (k : Constraint) → Contains (flags_asked at name (map (flag_beside names trail c) decls)) k
      → requires_value names k.what (Flag f) on ≡ true → IsBeside c decls f on × (k.«package» ≡ name)
  flags-beside at name c decls f on k h asked_it =
      let sets = map (flag_beside names trail c) decls in
      elim (are_flags sets) as (λ b. Contains (if b then asked at name (what.Flags sets) ∷ [] else []) k → IsBeside c decls f on × (k.«package» ≡ name)) [
        | true ↦ λ q. elim (contains-cases (asked at name (what.Flags sets)) [] k q) [
          | inl same ↦
              let found = requires_value-flag names sets f on (subst (λ (j : Constraint). requires_value names j.what (Flag f) on ≡ true) (sym same) asked_it) in
              let (decl, among, set_is) = contains-map (flag_beside names trail c) decls found.set found.among in (
                record {
                  decl = decl;
                  among = among;
                  numbered = ap (λ (s : FlagSet). is_number (number_of names.flags s.name) f) set_is ∙ found.numbered;
                  on_is = ap (λ (s : FlagSet). s.on) set_is ∙ found.on_is;
                },
                sym (ap (λ (j : Constraint). j.«package») same),
              )
          | inr none ↦ absurd (contains-none k none)
        ]
        | false ↦ λ q. absurd (contains-none k q)
      ] h

  -- the choice of an instance of a package
  abbrev taken : Qual → ℕ → ℕ → Choice
  taken q p i = choice_of (package_var q p) i

  -- why a value that the trail has of a flag is asked for: the package is local, or one version is asked for, or the flag is manual
  -- in no instance
  pub data IsReason (ks : List Constraint) (p i : ℕ) (decl : FlagDecl) : Type 0 where
    is_local : (package_at packages p).local ≡ true → IsReason ks p i decl
    one_version : Contains ks (asked scope.Any (package_at packages p).name (what.Range (Equal (entry_at (entries_of packages p) i).instance.version))) → IsReason ks p i decl
    never_manual : is_automatic names (entries_of packages p) decl ≡ true → IsReason ks p i decl

  -- a choice of an instance that declares the flag, which has this value in the trail beside that choice
  pub record IsAskedBeside (ks : List Constraint) (p : ℕ) (name : Name) (f : ℕ) (on : Bool) : Type 0 where
    pub qual : Qual
    pub place : ℕ
    pub made : value_in trail (package_var qual p) ≡ Some place
    pub decl : FlagDecl
    pub declared : Contains (declared_by (entry_at (entries_of packages p) place).body) decl
    pub numbered : is_number (number_of names.flags decl.name) f ≡ true
    pub on_is : is_turned_on (value_in trail (part_beside (choice_of (package_var qual p) place) (Flag (flag_number names decl.name)))) ≡ on
    pub named : name ≡ (package_at packages p).name
    pub reason : IsReason ks p place decl

  module _ (new : AreNew trail) (ks : List Constraint) (p f : ℕ) (on : Bool) (k : Constraint) (asked_it : requires_value names k.what (Flag f) on ≡ true) where
    abbrev name : Name
    name = (package_at packages p).name

    abbrev IsSo : Type 0
    IsSo = IsAskedBeside ks p k.«package» f on

    -- what is asked by one choice
    by-choice : (at : Scope) (q : Qual) (i : ℕ) → value_in trail (package_var q p) ≡ Some i → Contains (asked_of packages names trail at (taken q p i)) k → IsSo
    by-choice at q i made h =
        let c = taken q p i in
        let e = entry_of packages c in
        let test = is_automatic names (entries_of packages p) in
        elim (contains-append (instance_asked at name e) (flags_asked at name (automatic_flags packages names trail c)) k h) [
          | inl range ↦ absurd (range-requires_value-none names at name e f on k range asked_it)
          | inr flags ↦
              let (beside, named) = flags-beside at name c (filter test (declared_by e.body)) f on k flags asked_it in
              let (declared, automatic) = contains-filter test (declared_by e.body) beside.decl beside.among in
              record {
                qual = q;
                place = i;
                made = made;
                decl = beside.decl;
                declared = declared;
                numbered = beside.numbered;
                on_is = beside.on_is;
                named = named;
                reason = never_manual automatic;
              }
        ]

    under : (at : Scope) (q : Qual) → Contains (asked_under packages names trail at q p) k → IsSo
    under at q h =
        elim (value_in trail (package_var q p)) as (λ o. value_in trail (package_var q p) ≡ o → Contains (asked_where packages names trail at q p o) k → IsSo) [
          | None ↦ λ e i. absurd (contains-none k i)
          | Some n ↦ λ e i. by-choice at q n e i
        ] refl h

    apart : Contains (asked_apart packages names trail p) k → IsSo
    apart h =
        elim (contains-append (asked_under packages names trail scope.Top Top p) (flat_map (asked_in_setup packages names trail p) (setups_in packages trail)) k h) [
          | inl top ↦ under scope.Top Top top
          | inr setups ↦
              let (s, listed, inside) = contains-flat_map (asked_in_setup packages names trail p) (setups_in packages trail) k setups in
              under (scope.SetupOf (package_at packages s).name) (Setup s) inside
        ]

    -- what is asked of all choices of the package alike
    module _ (q : Qual) (i : ℕ) (made : value_in trail (package_var q p) ≡ Some i) where
      local : ((decl : FlagDecl) → IsReason ks p i decl) → Contains (asked_of_local packages names trail (taken q p i)) k → IsSo
      local reason h =
          let (beside, named) = flags-beside scope.Any name (taken q p i) (declared_by (entry_at (entries_of packages p) i).body) f on k h asked_it in
          record {
            qual = q;
            place = i;
            made = made;
            decl = beside.decl;
            declared = beside.among;
            numbered = beside.numbered;
            on_is = beside.on_is;
            named = named;
            reason = reason beside.decl;
          }

      everywhere : ((j : Constraint) → Contains (asked_everywhere packages names trail (taken q p i)) j → Contains ks j) → Contains (asked_everywhere packages names trail (taken q p i)) k → IsSo
      everywhere inside h =
          let e = entry_at (entries_of packages p) i in
          let range = asked scope.Any name (what.Range (Equal e.instance.version)) in
          let flags = flags_asked scope.Any name (all_flags packages names trail (taken q p i)) in
          let first = contains-left (instance_asked scope.Any name e) flags range (contains-head range (asked scope.Any name (kind_of e) ∷ [])) in
          elim (contains-append (instance_asked scope.Any name e) flags k h) [
            | inl ranges ↦ absurd (range-requires_value-none names scope.Any name e f on k ranges asked_it)
            | inr of_flags ↦ local (λ decl. one_version (inside range first)) of_flags
          ]

    abbrev asked_as : Choice → Bool → Bool → List Constraint
    asked_as c local uniform = if local then asked_of_local packages names trail c else if uniform then asked_everywhere packages names trail c else asked_apart packages names trail p

    by-kind : (q : Qual) (i : ℕ) (is_in_project uniform : Bool) → (package_at packages p).local ≡ is_in_project → value_in trail (package_var q p) ≡ Some i
        → ((j : Constraint) → Contains (asked_as (taken q p i) is_in_project uniform) j → Contains ks j) → Contains (asked_as (taken q p i) is_in_project uniform) k → IsSo
    by-kind q i true uniform is made inside h = local q i made (λ decl. is_local is) h
    by-kind q i false true is made inside h = everywhere q i made inside h
    by-kind q i false false is made inside h = apart h

    by-first : (first : Choice) (others : List Choice) → instances_in trail p ≡ first ∷ others → ((j : Constraint) → Contains (frozen_as packages names trail p (first ∷ others)) j → Contains ks j)
        → Contains (frozen_as packages names trail p (first ∷ others)) k → IsSo
    by-first first others e inside h =
        let local_one = (package_at packages p).local in
        let uniform = is_uniform packages first others in
        let (in_trail, is_of) = contains-filter (is_of_package p) trail first (subst (λ (l : List Choice). Contains l first) (sym e) (contains-head first others)) in
        let same : taken first.var.qual p first.val ≡ first = instance-is p first is_of in
        let made = ap (λ (c : Choice). value_in trail c.var) same ∙ new-passes trail new first in_trail in
        by-kind first.var.qual first.val local_one uniform refl made (λ j i. inside j (subst (λ c. Contains (asked_as c local_one uniform) j) same i))
        (subst (λ c. Contains (asked_as c local_one uniform) k) (sym same) h)

    pub in-package : ((j : Constraint) → Contains (frozen_package packages names trail p) j → Contains ks j) → Contains (frozen_package packages names trail p) k → IsSo
    in-package inside h =
        elim (instances_in trail p) as (λ (l : List Choice). instances_in trail p ≡ l → ((j : Constraint) → Contains (frozen_as packages names trail p l) j → Contains ks j)
        → Contains (frozen_as packages names trail p l) k → IsSo) [
          | [] ↦ λ e within i. absurd (contains-none k i)
          | first ∷ others ↦ λ e within i. by-first first others e within i
        ] refl inside h
