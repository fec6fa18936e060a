-- The values that a flag may have.
use Rattle.std.proofs.Common.{◌≡◌, ℕ, Bool, true, false, [], ◌++◌, Option, Some, None, refl, subst, inl, inr}
use Rattle.std.specs.List.{Contains}
use Rattle.std.proofs.lemmas.Bool.{false≢true}
use Rattle.common_laws.specs.Lists.{contains-append, contains-cases, contains-head, contains-left, contains-none, contains-right}
use Rattle.plan_types.specs.declared.description.FlagDecl.{FlagDecl}
use Rattle.plan_types.specs.declared.project.Project.{Project}
use Rattle.qualified_goals.specs.declared.variable.Var.{Var}
use Rattle.qualified_goals.specs.Names.{NameTable}
use Rattle.choice_problem.specs.Assignment.{is_one_of}
use Rattle.cabal_problem.specs.ListedDemands.{flag_allows, flag_values, one_if}
use Rattle.cabal_problem.specs.Reuse.{of-one, one-of}
use Rattle.cabal_problem.specs.Variables.{is_on}

in-one-if : (b : Bool) (m n : ℕ) → Contains (one_if b m) n → (b ≡ true) × (m ≡ n)
in-one-if true m n h = elim (contains-cases m [] n h) [ inl same ↦ (refl, same) | inr none ↦ absurd (contains-none n none) ]
in-one-if false m n h = absurd (contains-none n h)

one-if-has : (b : Bool) (m : ℕ) → b ≡ true → Contains (one_if b m) m
one-if-has true m h = contains-head m []
one-if-has false m h = absurd (false≢true h)

module _ (project : Project) (names : NameTable) (v : Var) (decl : FlagDecl) where
  abbrev allows : Bool → Bool
  allows = flag_allows project names v decl

  -- a value that a flag may have is allowed
  pub allowed-at : (n : ℕ) → Contains (flag_values project names v decl) n → allows (is_on n) ≡ true
  allowed-at n h =
      elim (contains-append (one_if (allows false) 0) (one_if (allows true) 1) n h) [
        | inl off ↦ let (allowed, is) = in-one-if (allows false) 0 n off in subst (λ m. allows (is_on m) ≡ true) is allowed
        | inr on ↦ let (allowed, is) = in-one-if (allows true) 1 n on in subst (λ m. allows (is_on m) ≡ true) is allowed
      ]

-- where one flag allows what another does, it may have each value of the other
pub values-among : (project also : Project) (names : NameTable) (v : Var) (decl : FlagDecl)
    → ((on : Bool) → flag_allows project names v decl on ≡ true → flag_allows also names v decl on ≡ true)
    → (n : ℕ) → Contains (flag_values project names v decl) n → Contains (flag_values also names v decl) n
values-among project also names v decl more n h =
    let front = one_if (flag_allows also names v decl false) 0 in
    let back = one_if (flag_allows also names v decl true) 1 in
    elim (contains-append (one_if (flag_allows project names v decl false) 0) (one_if (flag_allows project names v decl true) 1) n h) [
      | inl off ↦
          let (allowed, is) = in-one-if (flag_allows project names v decl false) 0 n off in
          subst (Contains (front ++ back)) is (contains-left front back 0 (one-if-has (flag_allows also names v decl false) 0 (more false allowed)))
      | inr on ↦
          let (allowed, is) = in-one-if (flag_allows project names v decl true) 1 n on in
          subst (Contains (front ++ back)) is (contains-right front back 1 (one-if-has (flag_allows also names v decl true) 1 (more true allowed)))
    ]

-- the same of a value that is there
pub one-among : (project also : Project) (names : NameTable) (v : Var) (decl : FlagDecl)
    → ((on : Bool) → flag_allows project names v decl on ≡ true → flag_allows also names v decl on ≡ true)
    → (o : Option ℕ) → is_one_of o (flag_values project names v decl) ≡ true → is_one_of o (flag_values also names v decl) ≡ true
one-among project also names v decl more None h = absurd (false≢true h)
one-among project also names v decl more (Some n) h =
    one-of (flag_values also names v decl) n (values-among project also names v decl more n (of-one (flag_values project names v decl) n h))
