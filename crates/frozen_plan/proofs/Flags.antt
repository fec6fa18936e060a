-- Flags that an instance declares: of one number there is one, and where the instance is chosen it has a value that is allowed.
use Rattle.std.proofs.Common.{◌≡◌, ℕ, zero, suc, ◌<◌, true, false, cond, nat_eq, nat_lt, List, [], ◌∷◌, length, get_or, map, Option, Some, None, refl, sym, ap, ◌∙◌, subst, inl, inr, arith}
use Rattle.std.specs.List.{Contains, position_or_len}
use Rattle.std.specs.List.Sorted.{IsStrictlySortedBy}
use Rattle.std.specs.declared.cmp.Ordering.TheVariants.{Equal, Less}
use Rattle.std.proofs.lemmas.Bool.{eqb-true, false≢true, ltb-true}
use Rattle.std.proofs.lemmas.Cmp.{nat_list_cmp_total, tied_itself}
use Rattle.std.proofs.lemmas.List.Sums.{passes_at_first}
use Rattle.std.proofs.lemmas.Map.Keys.{sorted_head, sorted_tail}
use Rattle.std.proofs.lemmas.Option.{none-some, same_Some}
use Rattle.common_laws.specs.Lists.{any-at, contains-cases, contains-none, map-contains}
use Rattle.common_laws.specs.Small.{same-is}
use Rattle.plan_types.specs.Bytes.{same_text}
use Rattle.plan_types.specs.Members.{order}
use Rattle.plan_types.specs.Packages.{declared_by, entries_of, is_installed}
use Rattle.plan_types.specs.declared.condition.Env.{Env}
use Rattle.plan_types.specs.declared.description.FlagDecl.{FlagDecl}
use Rattle.plan_types.specs.declared.index.Body.{Body}
use Rattle.plan_types.specs.declared.index.Body.TheVariants.{Installed, Source}
use Rattle.plan_types.specs.declared.index.Entry.{Entry}
use Rattle.plan_types.specs.declared.index.Index.{Index}
use Rattle.plan_types.specs.declared.index.Package.{Package}
use Rattle.plan_types.specs.declared.project.Project.{Project}
use Rattle.flatten.specs.Sound.{IsBody}
use Rattle.qualified_goals.specs.declared.variable.Part.TheVariants.{Flag}
use Rattle.qualified_goals.specs.declared.variable.Qual.{Qual}
use Rattle.qualified_goals.specs.Names.{AreNumbers, Name, NameTable, number_of}
use Rattle.choice_problem.specs.Assignment.{Assignment, is_one_of}
use Rattle.choice_problem.specs.General.{request_of}
use Rattle.choice_problem.specs.Holds.{HoldsWithin}
use Rattle.choice_problem.specs.Trail.{choice_of}
use Rattle.solver_index.specs.Places.{entry_at, flag_number}
use Rattle.cabal_problem.specs.ListedDemands.{flag_demand, flag_values, part_beside}
use Rattle.cabal_problem.specs.Values.{package_var}
use Rattle.cabal_problem.specs.WholeDemands.{whole_problem}
use Rattle.frozen_choices.proofs.FlagOwners.{flag-asked}
use Rattle.frozen_plan.proofs.Lists.{each-at}

-- ---- places

-- what declares a flag is a source instance
pub declared-source : (body : Body) (decl : FlagDecl) → Contains (declared_by body) decl → is_installed body ≡ false
declared-source (Source source) decl h = refl
declared-source (Installed unit needs) decl h = absurd (contains-none decl h)

-- and stands among the instances of its package
pub source-within : (entries : List Entry) (i : ℕ) → is_installed (entry_at entries i).body ≡ false → i < length entries
source-within [] i h = absurd (false≢true (sym h))
source-within (e ∷ entries) zero h = omega arith
source-within (e ∷ entries) (suc i) h = let rest = source-within entries i h in omega (arith, rest)

-- and that package in the index
pub package-within : (packages : List Package) (p i : ℕ) → i < length (entries_of packages p) → p < length packages
package-within [] p i h = absurd (omega (arith, h))
package-within (q ∷ packages) zero i h = omega arith
package-within (q ∷ packages) (suc p) i h = let rest = package-within packages p i h in omega (arith, rest)

-- ---- one flag of a number

name-at : (ns : List Name) (name : Name) (n : ℕ) → number_of ns name ≡ Some n → get_or ns n [] ≡ name
name-at ns name n h =
    let place = position_or_len (same_text name) ns in
    elim (nat_lt place (length ns)) as (λ b. nat_lt place (length ns) ≡ b → cond b (Some place) None ≡ Some n → get_or ns n [] ≡ name) [
      | true ↦ λ e k.
          ap (λ m. get_or ns m []) (sym (same_Some place n k))
          ∙ sym (same-is name (get_or ns place []) (passes_at_first (same_text name) ns [] (ltb-true place (length ns) e)))
      | false ↦ λ e k. absurd (none-some n k)
    ] refl h

-- a number has one name
pub one-name : (ns : List Name) (a b : Name) (n : ℕ) → number_of ns a ≡ Some n → number_of ns b ≡ Some n → a ≡ b
one-name ns a b n h k = sym (name-at ns a n h) ∙ name-at ns b n k

abbrev NamesRise : List FlagDecl → Type 0
NamesRise decls = IsStrictlySortedBy order (map (λ (decl : FlagDecl). decl.name) decls)

behind : (first : FlagDecl) (decls : List FlagDecl) (decl : FlagDecl) → NamesRise (first ∷ decls) → Contains decls decl → first.name ≡ decl.name → ⊥
behind first decls decl rise h same =
    let named = λ (f : FlagDecl). f.name in
    let less = each-at (λ name. order first.name name ≡ Less) (map named decls) decl.name (sorted_head order first.name (map named decls) rise) (map-contains named decls decl h) in
    let both : Less ≡ Equal = sym less ∙ ap (order first.name) (sym same) ∙ tied_itself nat_list_cmp_total first.name in
    cc both

one-declared : (decls : List FlagDecl) (a b : FlagDecl) → NamesRise decls → Contains decls a → Contains decls b → a.name ≡ b.name → a ≡ b
one-declared [] a b rise h k same = absurd (contains-none a h)
one-declared (first ∷ decls) a b rise h k same =
    let named = λ (f : FlagDecl). f.name in
    elim (contains-cases first decls a h) [
      | inl head ↦ elim (contains-cases first decls b k) [
        | inl also ↦ sym head ∙ also
        | inr later ↦ absurd (behind first decls b rise later (ap named head ∙ same))
      ]
      | inr later ↦ elim (contains-cases first decls b k) [
        | inl head ↦ absurd (behind first decls a rise later (ap named head ∙ sym same))
        | inr also ↦ one-declared decls a b (sorted_tail order first.name (map named decls) rise) later also same
      ]
    ]

-- an instance declares one flag of a name
pub one-flag : (env : Env) (index : Index) (body : Body) (a b : FlagDecl) → IsBody env index body → Contains (declared_by body) a → Contains (declared_by body) b
    → a.name ≡ b.name → a ≡ b
one-flag env index (Source source) a b is h k same = one-declared source.description.flags a b is.description.flags_rise h k same
one-flag env index (Installed unit needs) a b is h k same = absurd (contains-none a h)

-- ---- values

-- a value that is one of some
pub record HasValue (o : Option ℕ) (values : List ℕ) : Type 0 where
  pub value : ℕ
  pub value_is : o ≡ Some value
  pub among : Contains values value

has-value : (o : Option ℕ) (values : List ℕ) → is_one_of o values ≡ true → HasValue o values
has-value None values h = absurd (false≢true h)
has-value (Some n) values h =
    let (m, among, same) = any-at (λ m. nat_eq n m) values h in
    record { value = n; value_is = refl; among = subst (Contains values) (sym (eqb-true n m same)) among }

-- a flag that a chosen instance declares has a value that it may have
pub flag-value : (env : Env) (packages : List Package) (project : Project) (names : NameTable) (orders : List (List ℕ)) → AreNumbers packages names → (A : Assignment)
    → HoldsWithin (whole_problem env packages project names orders) (whole_problem env packages project names orders).known A → (q : Qual) (p i : ℕ) → A (package_var q p) ≡ Some i
    → (decl : FlagDecl) → Contains (declared_by (entry_at (entries_of packages p) i).body) decl
    → let v = part_beside (choice_of (package_var q p) i) (Flag (flag_number names decl.name)) in HasValue (A v) (flag_values project names v decl)
flag-value env packages project names orders numbers A holds q p i chosen decl declared =
    let c = choice_of (package_var q p) i in
    let v = part_beside c (Flag (flag_number names decl.name)) in
    let asked = flag-asked env packages project names orders numbers A holds q p i chosen decl declared in
    has-value (A v) (flag_values project names v decl) (holds.met (request_of (flag_demand project names c decl)) asked.demand asked.yes asked.inside)
