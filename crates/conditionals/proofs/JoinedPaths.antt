-- Shared: paths that are cleaned before they are joined.
use Rattle.std.proofs.Common.{◌≡◌, Bool, true, false, ◌&&◌, cond, None, Some, List, [], ◌∷◌, ◌++◌, map, refl, sym, ap, ◌∙◌}
use Rattle.std.specs.List.{list_all, cons_option}
use Rattle.std.proofs.lemmas.List.Elements.{filter_map-append}
use Rattle.std.proofs.lemmas.List.Folds.{list_all-append}
use Rattle.conditionals.specs.Paths.{Path, followed, agree, is_consistent, kept_once, clean_path, clean_paths}
use Rattle.conditionals.proofs.Cleaning.{not_clean}
use Rattle.conditionals.proofs.CleanedPaths.{front_kept, back_kept, all_kept, kept_consistent}
use Rattle.std.proofs.Math.Bool.{and-false}

-- ---- one path, in two parts

-- each setting of the first part agrees with all of the second
abbrev across : Path → Path → Bool
across front back = list_all (λ s. list_all (agree s) back) front

regrouped : (a b c d e : Bool) → ((a && b) && (c && (d && e))) ≡ ((a && c) && ((b && d) && e))
regrouped true true c d e = refl
regrouped true false true d e = refl
regrouped true false false d e = refl
regrouped false b c d e = refl

consistent_parts : (front back : Path) → is_consistent (front ++ back) ≡ (is_consistent front && (across front back && is_consistent back))
consistent_parts [] back = refl
consistent_parts (s ∷ front) back =
    (λ i. list_all-append (agree s) front back i && consistent_parts front back i)
    ∙ regrouped (list_all (agree s) front) (list_all (agree s) back) (is_consistent front) (across front back) (is_consistent back)

module _ (front back : Path) where
  front_gone : is_consistent front ≡ false → clean_path (front ++ back) ≡ None
  front_gone e = sym (not_clean (front ++ back) (consistent_parts front back ∙ ap (λ b. b && (across front back && is_consistent back)) e))

  back_gone : is_consistent back ≡ false → clean_path (front ++ back) ≡ None
  back_gone e =
      sym (not_clean (front ++ back) (
      consistent_parts front back
      ∙ ap (λ b. is_consistent front && (across front back && b)) e
      ∙ ap (λ b. is_consistent front && b) (and-false (across front back))
      ∙ and-false (is_consistent front)
      ))

  front_cleaned : is_consistent front ≡ true → clean_path (kept_once front ++ back) ≡ clean_path (front ++ back)
  front_cleaned e = λ i. cond (alike i) (Some (front_kept front back i)) None
    where
      alike : is_consistent (kept_once front ++ back) ≡ is_consistent (front ++ back)
      alike =
          consistent_parts (kept_once front) back
          ∙ (λ i. (kept_consistent front e ∙ sym e) i && (all_kept (λ s. list_all (agree s) back) front e i && is_consistent back))
          ∙ sym (consistent_parts front back)

  back_cleaned : is_consistent back ≡ true → clean_path (front ++ kept_once back) ≡ clean_path (front ++ back)
  back_cleaned e = λ i. cond (alike i) (Some (back_kept front back i)) None
    where
      alike : is_consistent (front ++ kept_once back) ≡ is_consistent (front ++ back)
      alike =
          consistent_parts front (kept_once back)
          ∙ (λ i. is_consistent front && (list_all (λ s. all_kept (agree s) back e i) front && (kept_consistent back e ∙ sym e) i))
          ∙ sym (consistent_parts front back)

-- ---- one path followed by each of several

abbrev after : Path → List Path → List Path
after path second = map (λ next. path ++ next) second

-- clean paths, by whether the first path is consistent
clean_head : (path : Path) (paths : List Path) (b : Bool) → is_consistent path ≡ b → clean_paths (path ∷ paths) ≡ cons_option (cond b (Some (kept_once path)) None) (clean_paths paths)
clean_head path paths b e = ap (λ c. cons_option (cond c (Some (kept_once path)) None) (clean_paths paths)) e

after_cleaned : (path : Path) (second : List Path) → clean_paths (after path (clean_paths second)) ≡ clean_paths (after path second)
after_cleaned path [] = refl
after_cleaned path (next ∷ second) = by (is_consistent next) refl (after_cleaned path second)
  where
    by : (b : Bool) → is_consistent next ≡ b → clean_paths (after path (clean_paths second)) ≡ clean_paths (after path second) → clean_paths (after path (clean_paths (next ∷ second))) ≡ clean_paths (after path (next ∷ second))
    by true e more = ap (λ l. clean_paths (after path l)) (clean_head next second true e) ∙ (λ i. cons_option (back_cleaned path next e i) (more i))
    by false e more =
        ap (λ l. clean_paths (after path l)) (clean_head next second false e)
        ∙ more
        ∙ ap (λ o. cons_option o (clean_paths (after path second))) (sym (back_gone path next e))

after_kept : (path : Path) (second : List Path) → is_consistent path ≡ true → clean_paths (after (kept_once path) second) ≡ clean_paths (after path second)
after_kept path [] e = refl
after_kept path (next ∷ second) e = λ i. cons_option (front_cleaned path next e i) (after_kept path second e i)

after_gone : (path : Path) (second : List Path) → is_consistent path ≡ false → clean_paths (after path second) ≡ []
after_gone path [] e = refl
after_gone path (next ∷ second) e = λ i. cons_option (front_gone path next e i) (after_gone path second e i)

-- ---- each of several followed by each of several

pub cleaned_before_joined : (first second : List Path) → clean_paths (followed (clean_paths first) (clean_paths second)) ≡ clean_paths (followed first second)
cleaned_before_joined [] second = refl
cleaned_before_joined (path ∷ first) second = by (is_consistent path) refl (cleaned_before_joined first second)
  where
    by : (b : Bool) → is_consistent path ≡ b → clean_paths (followed (clean_paths first) (clean_paths second)) ≡ clean_paths (followed first second)
        → clean_paths (followed (clean_paths (path ∷ first)) (clean_paths second)) ≡ clean_paths (followed (path ∷ first) second)
    by true e more =
        ap (λ l. clean_paths (followed l (clean_paths second))) (clean_head path first true e)
        ∙ filter_map-append clean_path (after (kept_once path) (clean_paths second)) (followed (clean_paths first) (clean_paths second))
        ∙ (λ i. (after_kept path (clean_paths second) e ∙ after_cleaned path second) i ++ more i)
        ∙ sym (filter_map-append clean_path (after path second) (followed first second))
    by false e more =
        ap (λ l. clean_paths (followed l (clean_paths second))) (clean_head path first false e)
        ∙ more
        ∙ ap (λ l. l ++ clean_paths (followed first second)) (sym (after_gone path second e))
        ∙ sym (filter_map-append clean_path (after path second) (followed first second))
