-- The kept rules and settings bar and require what the constraints do.
use Rattle.std.proofs.Common.{◌≡◌, ℕ, Bool, true, false, ◌&&◌, ◌||◌, List, [], ◌∷◌, Option, Some, None, refl, sym, ap, ◌∙◌, if◌then◌else◌}
use Rattle.std.specs.List.{list_any, flat_map}
use Rattle.std.proofs.lemmas.List.Folds.{list_any-append}
use Rattle.plan_types.specs.declared.constraint.Constraint.{Constraint}
use Rattle.plan_types.specs.declared.constraint.Scope.{Scope}
use Rattle.plan_types.specs.declared.constraint.Scope.TheVariants.{Top as AtTop, Any, Setup as InSetups, SetupOf as InSetupOf}
use Rattle.plan_types.specs.declared.constraint.What.{What}
use Rattle.plan_types.specs.declared.constraint.What.TheVariants.{Range as OfRange, Installed as OfUnit, Source as OfSource, Flags, Tests, Benches}
use Rattle.plan_types.specs.declared.index.Instance.{Instance}
use Rattle.qualified_goals.specs.declared.variable.Qual.{Qual}
use Rattle.qualified_goals.specs.declared.variable.Qual.TheVariants.{Top, Setup, Exe}
use Rattle.qualified_goals.specs.declared.variable.Var.{Var}
use Rattle.qualified_goals.specs.Names.{NameTable, number_of}
use Rattle.constraint_set.specs.Bars.{is_number, is_on, is_value, covers, applies, excludes, values_of, requires_value}
use Rattle.constraint_set.specs.NumberedScope.{setup_of, numbered, numbered_covers}
use Rattle.constraint_set.specs.Rules.{rule_bars, is_set, rules_of, rules_on, settings_as, settings_of, settings_on}
use Rattle.constraint_set.specs.declared.numbered_scope.NumberedScope.{NumberedScope}
use Rattle.constraint_set.specs.declared.rules.PartRule.{PartRule}
use Rattle.std.proofs.Math.Bool.{and-false, or-false}
use Rattle.std.proofs.Math.Bool.{and-or_distrib_left}

setup-holds : (o : Option ℕ) (qual : Qual) → (p : ℕ) → numbered_covers (setup_of o) (Setup p) ≡ is_number o p
setup-holds None qual p = refl
setup-holds (Some n) qual p = refl

setup-not-top : (o : Option ℕ) → numbered_covers (setup_of o) Top ≡ false
setup-not-top None = refl
setup-not-top (Some n) = refl

setup-not-tool : (o : Option ℕ) (p t : ℕ) → numbered_covers (setup_of o) (Exe p t) ≡ false
setup-not-tool None p t = refl
setup-not-tool (Some n) p t = refl

-- the scope with a number covers what the scope does
numbered-holds : (names : NameTable) (scope : Scope) (qual : Qual) → numbered_covers (numbered names scope) qual ≡ covers names scope qual
numbered-holds names AtTop Top = refl
numbered-holds names AtTop (Setup p) = refl
numbered-holds names AtTop (Exe p t) = refl
numbered-holds names Any Top = refl
numbered-holds names Any (Setup p) = refl
numbered-holds names Any (Exe p t) = refl
numbered-holds names InSetups Top = refl
numbered-holds names InSetups (Setup p) = refl
numbered-holds names InSetups (Exe p t) = refl
numbered-holds names (InSetupOf owner) Top = setup-not-top (number_of names.packages owner)
numbered-holds names (InSetupOf owner) (Setup p) = setup-holds (number_of names.packages owner) Top p
numbered-holds names (InSetupOf owner) (Exe p t) = setup-not-tool (number_of names.packages owner) p t

-- instances

asked-rules : (names : NameTable) (qual : Qual) (i : Instance) (scope : Scope) (name : List ℕ) (what : What) → list_any (rule_bars qual i) (rules_of names (record { scope = scope; «package» = name; what = what })) ≡ (covers names scope qual && excludes what i)
asked-rules names qual i scope name (OfRange range) = or-false (numbered_covers (numbered names scope) qual && excludes (OfRange range) i) ∙ ap (λ b. b && excludes (OfRange range) i) (numbered-holds names scope qual)
asked-rules names qual i scope name OfUnit = or-false (numbered_covers (numbered names scope) qual && excludes OfUnit i) ∙ ap (λ b. b && excludes OfUnit i) (numbered-holds names scope qual)
asked-rules names qual i scope name OfSource = or-false (numbered_covers (numbered names scope) qual && excludes OfSource i) ∙ ap (λ b. b && excludes OfSource i) (numbered-holds names scope qual)
asked-rules names qual i scope name (Flags sets) = sym (and-false (covers names scope qual))
asked-rules names qual i scope name Tests = sym (and-false (covers names scope qual))
asked-rules names qual i scope name Benches = sym (and-false (covers names scope qual))

one-rule : (names : NameTable) (v : Var) (i : Instance) (c : Constraint) → list_any (rule_bars v.qual i) (rules_on names v.«package» c) ≡ (applies names c v && excludes c.what i)
one-rule names v i c =
    elim (is_on names c v.«package») as (λ b. list_any (rule_bars v.qual i) (if b then rules_of names c else []) ≡ ((b && covers names c.scope v.qual) && excludes c.what i)) [
      | true ↦ asked-rules names v.qual i c.scope c.«package» c.what
      | false ↦ refl
    ]

pub rules-bar : (names : NameTable) (v : Var) (i : Instance) (constraints : List Constraint) → list_any (rule_bars v.qual i) (flat_map (rules_on names v.«package») constraints) ≡ list_any (λ c. applies names c v && excludes c.what i) constraints
rules-bar names v i [] = refl
rules-bar names v i (c ∷ cs) =
    list_any-append (rule_bars v.qual i) (rules_on names v.«package» c) (flat_map (rules_on names v.«package») cs)
    ∙ ap (λ b. b || list_any (rule_bars v.qual i) (flat_map (rules_on names v.«package») cs)) (one-rule names v i c)
    ∙ ap (λ b. (applies names c v && excludes c.what i) || b) (rules-bar names v i cs)

-- parts

set-values : (scope : NumberedScope) (qual : Qual) (on : Bool) (values : List Bool) → list_any (is_set qual on) (settings_as scope values) ≡ (numbered_covers scope qual && list_any (λ value. is_value value on) values)
set-values scope qual on [] = sym (and-false (numbered_covers scope qual))
set-values scope qual on (value ∷ values) =
    ap (λ b. (numbered_covers scope qual && is_value value on) || b) (set-values scope qual on values)
    ∙ sym (and-or_distrib_left (numbered_covers scope qual) (is_value value on) (list_any (λ v. is_value v on) values))

one-setting : (names : NameTable) (v : Var) (on : Bool) (c : Constraint) → list_any (is_set v.qual on) (settings_on names v.«package» v.part c) ≡ (applies names c v && requires_value names c.what v.part on)
one-setting names v on c =
    elim (is_on names c v.«package») as (λ b. list_any (is_set v.qual on) (if b then settings_of names v.part c else []) ≡ ((b && covers names c.scope v.qual) && requires_value names c.what v.part on)) [
      | true ↦ set-values (numbered names c.scope) v.qual on (values_of names c.what v.part) ∙ ap (λ b. b && requires_value names c.what v.part on) (numbered-holds names c.scope v.qual)
      | false ↦ refl
    ]

pub settings-ask : (names : NameTable) (v : Var) (on : Bool) (constraints : List Constraint) → list_any (is_set v.qual on) (flat_map (settings_on names v.«package» v.part) constraints) ≡ list_any (λ c. applies names c v && requires_value names c.what v.part on) constraints
settings-ask names v on [] = refl
settings-ask names v on (c ∷ cs) =
    list_any-append (is_set v.qual on) (settings_on names v.«package» v.part c) (flat_map (settings_on names v.«package» v.part) cs)
    ∙ ap (λ b. b || list_any (is_set v.qual on) (flat_map (settings_on names v.«package» v.part) cs)) (one-setting names v on c)
    ∙ ap (λ b. (applies names c v && requires_value names c.what v.part on) || b) (settings-ask names v on cs)

-- whatever the scope

named-values : (scope : NumberedScope) (on : Bool) (values : List Bool) → list_any (λ (s : PartRule). is_value s.on on) (settings_as scope values) ≡ list_any (λ value. is_value value on) values
named-values scope on [] = refl
named-values scope on (value ∷ values) = ap (λ b. is_value value on || b) (named-values scope on values)

one-named : (names : NameTable) (v : Var) (on : Bool) (c : Constraint) → list_any (λ (s : PartRule). is_value s.on on) (settings_on names v.«package» v.part c) ≡ (is_on names c v.«package» && requires_value names c.what v.part on)
one-named names v on c =
    elim (is_on names c v.«package») as (λ b. list_any (λ (s : PartRule). is_value s.on on) (if b then settings_of names v.part c else []) ≡ (b && requires_value names c.what v.part on)) [
      | true ↦ named-values (numbered names c.scope) on (values_of names c.what v.part)
      | false ↦ refl
    ]

pub settings-name : (names : NameTable) (v : Var) (on : Bool) (constraints : List Constraint) → list_any (λ (s : PartRule). is_value s.on on) (flat_map (settings_on names v.«package» v.part) constraints) ≡ list_any (λ c. is_on names c v.«package» && requires_value names c.what v.part on) constraints
settings-name names v on [] = refl
settings-name names v on (c ∷ cs) =
    list_any-append (λ (s : PartRule). is_value s.on on) (settings_on names v.«package» v.part c) (flat_map (settings_on names v.«package» v.part) cs)
    ∙ ap (λ b. b || list_any (λ (s : PartRule). is_value s.on on) (flat_map (settings_on names v.«package» v.part) cs)) (one-named names v on c)
    ∙ ap (λ b. (is_on names c v.«package» && requires_value names c.what v.part on) || b) (settings-name names v on cs)
