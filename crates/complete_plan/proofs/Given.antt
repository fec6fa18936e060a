-- What is chosen by an assignment that holds within all known variables, and what its demands say.
use Rattle.std.proofs.Common.{◌≡◌, ◌<◌, ℕ, Bool, true, false, nat_eq, inr, List, [], length, get_or, Option, Some, None, slice_get, refl, sym, ap, ◌∙◌, subst}
use Rattle.std.specs.List.{Contains}
use Rattle.std.specs.Option.{option_and_then, option_map, unwrap_or}
use Rattle.std.proofs.lemmas.Bool.{eqb-true, false≢true}
use Rattle.std.proofs.lemmas.List.{get_or-map, length-map}
use Rattle.std.proofs.lemmas.Option.{get_or_from_slice_get, none-some, same_Some, slice_get-get_or, slice_get_within}
use Rattle.common_laws.specs.Each.{each-at}
use Rattle.common_laws.specs.Lists.{any-at}
use Rattle.plan_types.specs.Packages.{entries_of, no_package, package_at}
use Rattle.plan_types.specs.declared.dependency.Dep.{Dep}
use Rattle.plan_types.specs.declared.index.Body.{Body}
use Rattle.plan_types.specs.declared.index.Entry.{Entry}
use Rattle.plan_types.specs.declared.index.Instance.{Instance}
use Rattle.plan_types.specs.declared.index.Package.{Package}
use Rattle.plan_types.specs.declared.version.Version.{Version}
use Rattle.flatten.specs.Sound.{IsBody, IsEntry, IsPackage, instance_of}
use Rattle.qualified_goals.specs.declared.variable.Qual.{Qual}
use Rattle.qualified_goals.specs.declared.variable.Var.{Var}
use Rattle.qualified_goals.proofs.OwnNumbers.{own-number}
use Rattle.qualified_goals.specs.Names.{number_of, package_names}
use Rattle.choice_problem.specs.declared.problem.Choice.{Choice}
use Rattle.choice_problem.specs.Assignment.{is_one_of}
use Rattle.choice_problem.specs.General.{General, Request}
use Rattle.choice_problem.specs.Holds.{IsEdge}
use Rattle.choice_problem.specs.Problem.{IsChoice, IsDemand}
use Rattle.choice_problem.specs.Trail.{choice_of}
use Rattle.solver_index.specs.AllowedVersions.{allowed_versions}
use Rattle.solver_index.specs.Places.{entry_at, no_entry, number}
use Rattle.cabal_problem.specs.Laws.{known-below}
use Rattle.cabal_problem.specs.Values.{package_var}
use Rattle.cabal_problem.specs.Variables.{is_known}
use Rattle.cabal_problem.specs.WholeDemands.{body_requests}
use Rattle.plan_components.specs.Chosen.{Selection, body_at}
use Rattle.complete_plan.specs.Valid.{ValidAssignment, problem, selected}

-- a complete, valid assignment, whose demands have known targets
pub record Given : Type 0 where
  pub valid : ValidAssignment
  pub known : (r : Request) → IsDemand (problem valid) r → r.is_yes valid.assignment ≡ true → is_known valid.index.packages valid.names r.target ≡ true

-- ---- values

allowed-value : (o : Option ℕ) (values : List ℕ) → is_one_of o values ≡ true → (n : ℕ) × (o ≡ Some n) × Contains values n
allowed-value None values h = absurd (false≢true h)
allowed-value (Some n) values h =
    let found = any-at (λ m. nat_eq n m) values h in
    (n, refl, subst (Contains values) (sym (eqb-true n found.0 found.2)) found.1)

module _ (g : Given) where
  abbrev pub packages : List Package
  packages = g.valid.index.packages

  abbrev pub whole : General
  whole = problem g.valid

  abbrev pub selection : Selection
  selection = selected g.valid

  -- one package's choice depends on another's
  abbrev pub PackageEdge : Var → Var → Type 0
  PackageEdge = IsEdge whole whole.known g.valid.assignment

  -- ---- instances

  -- the instance of a package that is chosen under a qualifier
  pub record IsChosen (q : Qual) (p : ℕ) (body : Body) : Type 0 where
    pub place : ℕ
    pub value : g.valid.assignment (package_var q p) ≡ Some place
    pub within : place < length (entries_of packages p)
    pub body_is : (entry_at (entries_of packages p) place).body ≡ body

  chosen-by : (q : Qual) (p : ℕ) (body : Body) (o : Option ℕ) → g.valid.assignment (package_var q p) ≡ o
      → option_map (λ (e : Entry). e.body) (option_and_then (slice_get (entries_of packages p)) o) ≡ Some body → IsChosen q p body
  chosen-by q p body None is h = absurd (none-some body h)
  chosen-by q p body (Some i) is h =
      let entries = entries_of packages p in
      elim (slice_get entries i) as (λ o. slice_get entries i ≡ o → option_map (λ (e : Entry). e.body) o ≡ Some body → IsChosen q p body) [
        | None ↦ λ at k. absurd (none-some body k)
        | Some e ↦ λ at k. record {
          place = i;
          value = is;
          within = slice_get_within entries i e at;
          body_is = ap (λ (x : Entry). x.body) (get_or_from_slice_get entries i e no_entry at) ∙ same_Some e.body body k;
        }
      ] refl h

  pub chosen-at : (q : Qual) (p : ℕ) (body : Body) → body_at selection q p ≡ Some body → IsChosen q p body
  chosen-at q p body h = chosen-by q p body (g.valid.assignment (package_var q p)) refl h

  pub at-chosen : (q : Qual) (p i : ℕ) → g.valid.assignment (package_var q p) ≡ Some i → i < length (entries_of packages p)
      → body_at selection q p ≡ Some (entry_at (entries_of packages p) i).body
  at-chosen q p i is lt =
      ap (λ o. option_map (λ (e : Entry). e.body) (option_and_then (slice_get (entries_of packages p)) o)) is
      ∙ ap (option_map (λ (e : Entry). e.body)) (slice_get-get_or (entries_of packages p) i no_entry lt)

  module _ (q : Qual) (p : ℕ) (body : Body) (c : IsChosen q p body) where
    abbrev pub owner : Choice
    owner = choice_of (package_var q p) c.place

    abbrev pub entry : Entry
    entry = entry_at (entries_of packages p) c.place

    abbrev pub allows : Dep → Version → Bool
    allows = allowed_versions g.valid.project entry.instance

    is-choice : IsChoice whole owner
    is-choice = g.valid.whole_valid.holds.assignment.choice owner c.value

    below : p < length packages
    below = known-below packages g.valid.names (package_var q p) is-choice.variable

    entry-is : IsEntry g.valid.env g.valid.index (package_at packages p) entry
    entry-is =
        let found = each-at (IsPackage g.valid.env g.valid.index) packages p (package_at packages p) g.valid.sound.packages (slice_get-get_or packages p no_package below) in
        each-at (IsEntry g.valid.env g.valid.index (package_at packages p)) (entries_of packages p) c.place entry found.entries
        (slice_get-get_or (entries_of packages p) c.place no_entry c.within)

    pub body-sound : IsBody g.valid.env g.valid.index body
    body-sound = subst (IsBody g.valid.env g.valid.index) c.body_is entry-is.body

    -- the name that the instance states is that of its package
    own-name : (instance_of (package_at packages p).local body).name ≡ (package_at packages p).name
    own-name =
        ap (λ (b : Body). (instance_of (package_at packages p).local b).name) (sym c.body_is)
        ∙ ap (λ (i : Instance). i.name) (sym entry-is.instance_is) ∙ entry-is.named

    -- and has its number
    pub own-number-is : number packages g.valid.names (instance_of (package_at packages p).local body).name ≡ p
    own-number-is =
        let named = package_names packages in
        let within : p < length named = subst (λ n. p < n) (sym (length-map packages (λ (k : Package). k.name))) below in
        let name-at : get_or named p [] ≡ (package_at packages p).name = get_or-map (λ (k : Package). k.name) packages p no_package [] below in
        ap (number packages g.valid.names) (own-name ∙ sym name-at)
        ∙ ap (λ ns. unwrap_or (number_of ns (get_or named p [])) (length packages)) g.valid.numbers.packages_are
        ∙ ap (λ o. unwrap_or o (length packages)) (own-number named p g.valid.sound.in_goal_order.once within)

    -- ---- demands

    module _ (r : Request) (asked : Contains (body_requests g.valid.env packages g.valid.project g.valid.names owner allows body) r) (yes : r.is_yes g.valid.assignment ≡ true) where
      demand : IsDemand whole r
      demand = inr (owner, is-choice, subst (λ b. Contains (body_requests g.valid.env packages g.valid.project g.valid.names owner allows b) r) (sym c.body_is) asked)

      pub edge-to : r.owner ≡ Some owner → PackageEdge (package_var q p) r.target
      edge-to owned = record {
        request = r;
        owner = owner;
        demand = demand;
        owner_is = owned;
        yes = yes;
        inside = g.known r demand yes;
        leaves = refl;
        enters = refl;
      }

      pub value-of-target : (n : ℕ) × (g.valid.assignment r.target ≡ Some n) × Contains r.allowed n
      value-of-target = allowed-value (g.valid.assignment r.target) r.allowed (g.valid.whole_valid.holds.met r demand yes (g.known r demand yes))
