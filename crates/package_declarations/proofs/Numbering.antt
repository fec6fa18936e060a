-- The table of component numbers, and the needs read from it.
use Rattle.std.proofs.Common.{◌≡◌, ℕ, ◌+◌, ◌<◌, Bool, true, false, cond, if◌then◌else◌, List, [], ◌∷◌, ◌++◌, length, get_or, take, map, flat_map, refl, sym, ap, ◌∙◌, subst, arith, length-append}
use Rattle.std.specs.Prelude.{Option, Some, None, All, position, slice_get}
use Rattle.std.specs.Cmp.Lexicographic.{bytes_decides}
use Rattle.std.proofs.lemmas.Bool.{false≢true}
use Rattle.std.proofs.lemmas.Option.{slice_get-get_or}
use Rattle.std.proofs.lemmas.List.{take_more, length-map, length-take-le}
use Rattle.std.proofs.lemmas.List.Elements.{All-nil, All-cons, All-append, All-map}
use Rattle.plan_types.specs.declared.dependency.Dep.{Dep}
use Rattle.plan_types.specs.declared.dependency.DepKind.TheVariants.{Library, Tool, Setup}
use Rattle.plan_types.specs.declared.description.Component.{Component}
use Rattle.common_laws.specs.Graphs.{IsGraph}
use Rattle.package_declarations.specs.Cycles.{number_in, targets, needs}
use Rattle.package_declarations.specs.Declarations.{as_list}
use Rattle.stanza_imports.specs.Names.{has, number_of, with_name}
use Rattle.package_declarations.specs.Numbers.{Numbered, number_beside, number_at, needs_by}
use Rattle.package_declarations.specs.declared.cycle.Numbers.{Numbers}
use Rattle.package_declarations.proofs.FirstPlaces.{or_else, or-else-kept, position-push, position-inside, position-none, get-push, get-last}
use Rattle.plan_types.specs.Bytes.{same_text}
use Rattle.plan_types.specs.Packages.{library_name}

abbrev named : List ℕ → Component → Bool
named name c = same_text name c.name

abbrev beside : List ℕ → Option ℕ → Option ℕ
beside numbers place = elim place [ None ↦ None | Some p ↦ slice_get numbers p ]

none-beside : (names : List (List ℕ)) (numbers name : List ℕ) → length numbers ≡ length names → number_beside names numbers name ≡ None → has names name ≡ false
none-beside names numbers name level h =
    elim (number_of names name) as (λ o. number_of names name ≡ o → beside numbers o ≡ None → has names name ≡ false) [
      | None ↦ λ e none. position-none (same_text name) names e
      | Some p ↦ λ e none.
          let inside : p < length numbers = omega (arith, level, position-inside (same_text name) names p e) in
          absurd (cc (none, slice_get-get_or numbers p 0 inside))
    ] refl h

beside-push : (names : List (List ℕ)) (numbers name new : List ℕ) (number : ℕ) → length numbers ≡ length names
    → number_beside (names ++ new ∷ []) (numbers ++ number ∷ []) name ≡ or_else (number_beside names numbers name) (cond (same_text name new) (Some number) None)
beside-push names numbers name new number level =
    let all = numbers ++ number ∷ [] in
    ap (beside all) (position-push (same_text name) names new)
    ∙ elim (number_of names name) as (λ o. number_of names name ≡ o
    → beside all (or_else o (cond (same_text name new) (Some (length names)) None)) ≡ or_else (beside numbers o) (cond (same_text name new) (Some number) None)) [
      | None ↦ λ e. elim (same_text name new) as (λ b. beside all (cond b (Some (length names)) None) ≡ cond b (Some number) None) [
        | true ↦ get-last numbers number (length names) (sym level)
        | false ↦ refl
      ]
      | Some p ↦ λ e.
          let inside : p < length numbers = omega (arith, level, position-inside (same_text name) names p e) in
          let here = slice_get-get_or numbers p 0 inside in
          get-push numbers number p inside ∙ here ∙ ap (λ o. or_else o (cond (same_text name new) (Some number) None)) (sym here)
    ] refl

-- one more component
tells-more : (names : List (List ℕ)) (numbers : List ℕ) (before : List Component) (c : Component) → Numbered names numbers before
    → Numbered (with_name names c.name) (if has names c.name then numbers else numbers ++ length before ∷ []) (before ++ c ∷ [])
tells-more names numbers before c table =
    elim (has names c.name) as (λ b. has names c.name ≡ b → Numbered (if b then names else names ++ c.name ∷ []) (if b then numbers else numbers ++ length before ∷ []) (before ++ c ∷ [])) [
      | true ↦ λ known. record {
        level = table.level;
        first = λ name.
            table.first name
            ∙ or-else-kept (position (named name) before) (cond (same_text name c.name) (Some (length before)) None)
            (λ none. elim (same_text name c.name) as (λ b. same_text name c.name ≡ b → cond b (Some (length before)) None ≡ None) [
              | true ↦ λ e.
                  let one : name ≡ c.name = (bytes_decides name c.name).0 e in
                  let unknown = none-beside names numbers name table.level (table.first name ∙ none) in
                  absurd (false≢true (sym unknown ∙ ap (has names) one ∙ known))
              | false ↦ λ e. refl
            ] refl)
            ∙ sym (position-push (named name) before c);
      }
      | false ↦ λ unknown. record {
        level = length-append numbers (length before ∷ []) ∙ ap (λ n. n + 1) table.level ∙ sym (length-append names (c.name ∷ []));
        first = λ name.
            beside-push names numbers name c.name (length before) table.level
            ∙ ap (λ o. or_else o (cond (same_text name c.name) (Some (length before)) None)) (table.first name)
            ∙ sym (position-push (named name) before c);
      }
    ] refl

-- a step of the loop
pub tells-step : (names more_names : List (List ℕ)) (numbers more_numbers name : List ℕ) (components : List Component) (n : ℕ) (c : Component) → n < length components → c ≡ get_or components n c
    → name ≡ c.name → more_names ≡ with_name names name → more_numbers ≡ (if has names name then numbers else numbers ++ n ∷ [])
    → Numbered names numbers (take n components) → Numbered more_names more_numbers (take (n + 1) components)
tells-step names more_names numbers more_numbers name components n c low is called with_it numbered table =
    let long : length (take n components) ≡ n = length-take-le n components (omega (arith, low)) in
    let here : take n components ++ c ∷ [] ≡ take (n + 1) components = ap (λ x. take n components ++ x ∷ []) is ∙ sym (take_more components n c low) in
    let its_names : with_name names c.name ≡ more_names = ap (with_name names) (sym called) ∙ sym with_it in
    let its_numbers : (if has names c.name then numbers else numbers ++ length (take n components) ∷ []) ≡ more_numbers =
    (λ i. if has names (sym called i) then numbers else numbers ++ long i ∷ []) ∙ sym numbered in
    subst (λ l. Numbered more_names more_numbers l) here
    (subst (λ l. Numbered more_names l (take n components ++ c ∷ [])) its_numbers
    (subst (λ l. Numbered l (if has names c.name then numbers else numbers ++ length (take n components) ∷ []) (take n components ++ c ∷ [])) its_names
    (tells-more names numbers (take n components) c table)))

pub needs-are : (table : Numbers) (components : List Component) → Numbered table.names table.numbers.items components → map (needs_by (number_at table)) components ≡ needs components
needs-are table components tells =
    let all : number_at table ≡ number_in components = λ i name. as_list (tells.first name i) in
    ap (λ numbers. map (needs_by numbers) components) all

-- each number is that of a component
all-flat : {X : Type 0} (P : ℕ → Type 0) (f : X → List ℕ) → ((x : X) → All P (f x)) → (xs : List X) → All P (flat_map f xs)
all-flat P f each [] = All-nil P
all-flat P f each (x ∷ xs) = All-append P (f x) (flat_map f xs) (each x) (all-flat P f each xs)

number-inside : (components : List Component) (n : ℕ) → length components ≡ n → (name : List ℕ) → All (λ v. v < n) (number_in components name)
number-inside components n long name =
    elim (position (named name) components) as (λ o. position (named name) components ≡ o → All (λ v. v < n) (as_list o)) [
      | None ↦ λ e. All-nil (λ v. v < n)
      | Some v ↦ λ e. All-cons (λ v. v < n) v [] (omega (arith, long, position-inside (named name) components v e)) (All-nil (λ v. v < n))
    ] refl

targets-inside : (components : List Component) (n : ℕ) → length components ≡ n → (dep : Dep) → All (λ v. v < n) (targets components dep)
targets-inside components n long dep =
    elim dep.internal as (λ b. All (λ v. v < n) (if b then elim dep.kind [
      | Library ↦ flat_map (λ l. number_in components (library_name l)) dep.libs
      | Tool ↦ number_in components dep.exe
      | Setup ↦ []
    ] else [])) [
      | true ↦ elim dep.kind as (λ k. All (λ v. v < n) (elim k [
        | Library ↦ flat_map (λ l. number_in components (library_name l)) dep.libs
        | Tool ↦ number_in components dep.exe
        | Setup ↦ []
      ])) [
        | Library ↦ all-flat (λ v. v < n) (λ l. number_in components (library_name l)) (λ l. number-inside components n long (library_name l)) dep.libs
        | Tool ↦ number-inside components n long dep.exe
        | Setup ↦ All-nil (λ v. v < n)
      ]
      | false ↦ All-nil (λ v. v < n)
    ]

pub needs-graph : (components : List Component) → IsGraph (needs components)
needs-graph components =
    let n = length (needs components) in
    let long : length components ≡ n = sym (length-map components (λ c. flat_map (λ guarded. targets components guarded.dep) c.build.deps)) in
    All-map (All (λ v. v < n)) (λ (c : Component). flat_map (λ guarded. targets components guarded.dep) c.build.deps) components
    (λ k d low. all-flat (λ v. v < n) (λ guarded. targets components guarded.dep) (λ guarded. targets-inside components n long guarded.dep) (get_or components k d).build.deps)
