-- In a sound index flags are sorted by name, so no instance declares one twice.
use Rattle.std.proofs.Common.{◌≡◌, ℕ, zero, suc, true, false, not, ◌||◌, List, [], ◌∷◌, map, Some, None, refl, ap, ◌∙◌, subst, if◌then◌else◌}
use Rattle.std.specs.List.{AllByRecursion, list_any}
use Rattle.std.specs.List.Sorted.{IsStrictlySortedBy}
use Rattle.std.specs.Option.{is_none}
use Rattle.std.specs.Ordering.{nat_cmp}
use Rattle.std.specs.declared.cmp.Ordering.{Ordering}
use Rattle.std.specs.declared.cmp.Ordering.TheVariants.{Less, Equal, Greater}
use Rattle.std.specs.Ordering.{ordering_reverse}
use Rattle.std.specs.Cmp.Lexicographic.{nat_list_cmp_total, slice_cmp}
use Rattle.std.proofs.lemmas.Bool.{and_from, and_parts, not-true, or_parts}
use Rattle.common_laws.specs.Small.{same-is}
use Rattle.plan_types.specs.declared.condition.Env.{Env}
use Rattle.plan_types.specs.declared.condition.FlagSet.{FlagSet}
use Rattle.plan_types.specs.declared.description.FlagDecl.{FlagDecl}
use Rattle.plan_types.specs.declared.index.Body.{Body}
use Rattle.plan_types.specs.declared.index.Body.TheVariants.{Source, Installed}
use Rattle.plan_types.specs.declared.index.Entry.{Entry}
use Rattle.plan_types.specs.declared.index.Index.{Index}
use Rattle.plan_types.specs.declared.index.Package.{Package}
use Rattle.plan_types.specs.Bytes.{same_text}
use Rattle.plan_types.specs.Packages.{entries_of}
use Rattle.conditionals.specs.Value.{each_once, flag_in}
use Rattle.flatten.specs.Sound.{IsBody, IsEntry, IsPackage}
use Rattle.solver_index.specs.Places.{entry_at}
use Rattle.plan_components.specs.Apart.{are_apart, flags_apart}

-- ---- names in order

not-less : (o : Ordering) → o ≡ ordering_reverse o → o ≡ Less → ⊥
not-less Less h e = cc h
not-less Equal h e = cc e
not-less Greater h e = cc e

less-differs : (x y : List ℕ) → slice_cmp nat_cmp x y ≡ Less → same_text y x ≡ false
less-differs x y h =
    elim (same_text y x) as (λ b. same_text y x ≡ b → b ≡ false) [
      | true ↦ λ e. absurd (not-less (slice_cmp nat_cmp x x) (nat_list_cmp_total.antisymm x x) (subst (λ z. slice_cmp nat_cmp x z ≡ Less) (same-is y x e) h))
      | false ↦ λ e. refl
    ] refl

none-same : (x : List ℕ) (ys : List (List ℕ)) → AllByRecursion (λ y. slice_cmp nat_cmp x y ≡ Less) ys → list_any (λ y. same_text y x) ys ≡ false
none-same x [] h = refl
none-same x (y ∷ ys) h = ap (λ b. b || list_any (λ z. same_text z x) ys) (less-differs x y h.0) ∙ none-same x ys h.1

rising-apart : (names : List (List ℕ)) → IsStrictlySortedBy (slice_cmp nat_cmp) names → are_apart names ≡ true
unfolding IsStrictlySortedBy
rising-apart [] h = refl
rising-apart (x ∷ names) h = and_from _ _ (ap not (none-same x names h.0)) (rising-apart names h.1)

-- ---- a sound index

body-apart : (env : Env) (index : Index) (body : Body) → IsBody env index body → flags_apart body ≡ true
body-apart env index (Source source) h = rising-apart (map (λ decl. decl.name) source.description.flags) h.description.flags_rise
body-apart env index (Installed unit needs) h = refl

entries-apart : (env : Env) (index : Index) (p : Package) (entries : List Entry) (i : ℕ) → AllByRecursion (IsEntry env index p) entries → flags_apart (entry_at entries i).body ≡ true
entries-apart env index p [] i h = refl
entries-apart env index p (e ∷ entries) zero h = body-apart env index e.body h.0.body
entries-apart env index p (e ∷ entries) (suc i) h = entries-apart env index p entries i h.1

pub packages-apart : (env : Env) (index : Index) (packages : List Package) (p i : ℕ) → AllByRecursion (IsPackage env index) packages
    → flags_apart (entry_at (entries_of packages p) i).body ≡ true
packages-apart env index [] p i h = refl
packages-apart env index (q ∷ packages) zero i h = entries-apart env index q q.entries i h.0.entries
packages-apart env index (q ∷ packages) (suc p) i h = packages-apart env index packages p i h.1

-- ---- flags with values

module _ (f : FlagDecl → FlagSet) (keeps : (decl : FlagDecl) → (f decl).name ≡ decl.name) where
  none-set : (decls : List FlagDecl) (name : List ℕ) → list_any (λ other. same_text other name) (map (λ (d : FlagDecl). d.name) decls) ≡ false → flag_in (map f decls) name ≡ None
  none-set [] name h = refl
  none-set (d ∷ decls) name h =
      let parts = or_parts (same_text d.name name) _ h in
      ap (λ b. if b then Some (f d).on else flag_in (map f decls) name) (ap (λ n. same_text n name) (keeps d) ∙ parts.0) ∙ none-set decls name parts.1

  pub once-set : (decls : List FlagDecl) → are_apart (map (λ (d : FlagDecl). d.name) decls) ≡ true → each_once (map f decls) ≡ true
  once-set [] h = refl
  once-set (d ∷ decls) h =
      let parts = and_parts _ (are_apart (map (λ (e : FlagDecl). e.name) decls)) h in
      let none = none-set decls (f d).name (ap (λ n. list_any (λ other. same_text other n) (map (λ (e : FlagDecl). e.name) decls)) (keeps d) ∙ not-true _ parts.0) in
      and_from _ _ (ap is_none none) (once-set decls parts.1)
