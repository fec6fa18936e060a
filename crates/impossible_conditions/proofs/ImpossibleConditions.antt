-- Shared: a condition that is never Yes has no clean path.
use Rattle.std.proofs.Common.{◌≡◌, Bool, true, false, ◌&&◌, ◌||◌, cond, Some, None, List, [], ◌∷◌, ◌⊎◌, inl, inr, refl, sym, ap, ◌∙◌}
use Rattle.std.specs.List.{list_all, list_any, cons_option}
use Rattle.std.specs.Cmp.Lexicographic.{bytes_decides}
use Rattle.std.proofs.lemmas.Bool.{and_parts}
use Rattle.plan_types.specs.Bytes.{same_text}
use Rattle.plan_types.specs.declared.condition.Cond.{Cond}
use Rattle.plan_types.specs.declared.condition.Env.{Env}
use Rattle.plan_types.specs.declared.condition.FlagSet.{FlagSet}
use Rattle.conditionals.specs.Value.{Flags, value, flag_in}
use Rattle.conditionals.specs.Paths.{Path, agree, clean_paths, holds, is_consistent, is_same, is_wanted, kept_once, paths_of, has_setting}
use Rattle.conditionals.specs.declared.value.Tri.{Tri}
use Rattle.conditionals.specs.declared.value.Tri.TheVariants.{Yes, No, Unknown}
use Rattle.conditionals.proofs.HoldingPaths.{some_path_holds}
use Rattle.conditionals.proofs.CleanedPaths.{all_kept}

-- ---- a consistent path holds under its own settings

said-again : (on : Bool) → is_same on on ≡ true
said-again true = refl
said-again false = refl

further : (t : FlagSet) (rest items : Path) → list_all (agree t) items ≡ true → list_all (λ s. has_setting (flag_in rest s.name) s.on) items ≡ true → list_all (λ s. has_setting (flag_in (t ∷ rest) s.name) s.on) items ≡ true
further t rest [] one all = refl
further t rest (s ∷ items) one all = (λ i. here (same_text t.name s.name) refl (and_parts _ _ one).0 (and_parts _ _ all).0 i && further t rest items (and_parts _ _ one).1 (and_parts _ _ all).1 i)
  where
    here : (b : Bool) → same_text t.name s.name ≡ b → cond b (is_same t.on s.on) true ≡ true → has_setting (flag_in rest s.name) s.on ≡ true → has_setting (cond b (Some t.on) (flag_in rest s.name)) s.on ≡ true
    here true e same other = same
    here false e same other = other

as-it-has_setting : (path : Path) → is_consistent path ≡ true → holds (flag_in path) path ≡ true
as-it-has_setting [] e = refl
as-it-has_setting (t ∷ path) e =
    let own : has_setting (flag_in (t ∷ path) t.name) t.on ≡ true = ap (λ b. has_setting (cond b (Some t.on) (flag_in path t.name)) t.on) ((bytes_decides t.name t.name).1 refl) ∙ said-again t.on in
    (λ i. own i && further t path path (and_parts _ _ e).0 (as-it-has_setting path (and_parts _ _ e).1) i)

-- ---- a clean path holds under some flags

abbrev SomeHolds : List Path → Type 0
SomeHolds paths = (flags : Flags) × (list_any (holds flags) paths ≡ true)

none-or-some : (paths : List Path) → (clean_paths paths ≡ []) ⊎ SomeHolds (clean_paths paths)
none-or-some [] = inl refl
none-or-some (path ∷ paths) = by (is_consistent path) refl (none-or-some paths)
  where
    clean : (b : Bool) → is_consistent path ≡ b → clean_paths (path ∷ paths) ≡ cons_option (cond b (Some (kept_once path)) None) (clean_paths paths)
    clean b e = ap (λ c. cons_option (cond c (Some (kept_once path)) None) (clean_paths paths)) e

    by : (b : Bool) → is_consistent path ≡ b → (clean_paths paths ≡ []) ⊎ SomeHolds (clean_paths paths) → (clean_paths (path ∷ paths) ≡ []) ⊎ SomeHolds (clean_paths (path ∷ paths))
    by true e more =
        let held : holds (flag_in path) (kept_once path) ≡ true = all_kept (λ s. has_setting (flag_in path s.name) s.on) path e ∙ as-it-has_setting path e in
        inr (flag_in path, ap (list_any (holds (flag_in path))) (clean true e) ∙ ap (λ b. b || list_any (holds (flag_in path)) (clean_paths paths)) held)
    by false e (inl none) = inl (clean false e ∙ none)
    by false e (inr some) = inr (some.0, ap (list_any (holds some.0)) (clean false e) ∙ some.1)

pub is-yes : (v : Tri) → is_wanted true v ≡ true → v ≡ Yes
is-yes Yes e = refl
is-yes No e = absurd (cc e)
is-yes Unknown e = absurd (cc e)

-- a condition that is never Yes has no clean path
pub no-path-left : (env : Env) (asked : Cond) → ((flags : Flags) → value env flags asked ≡ Yes → ⊥) → clean_paths (paths_of env asked true) ≡ []
no-path-left env asked known_impossible = by (none-or-some (paths_of env asked true))
  where
    by : (clean_paths (paths_of env asked true) ≡ []) ⊎ SomeHolds (clean_paths (paths_of env asked true)) → clean_paths (paths_of env asked true) ≡ []
    by (inl none) = none
    by (inr some) = absurd (known_impossible some.0 (is-yes (value env some.0 asked) (sym (some_path_holds env some.0 asked true) ∙ some.1)))
