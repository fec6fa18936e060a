-- Shared: the number of a condition's paths that hold.
use Rattle.std.proofs.Common.{◌≡◌, ℕ, zero, suc, ◌+◌, ◌*◌, ◌≤◌, Bool, true, false, not, ◌&&◌, ◌||◌, cond, Option, Some, None, List, [], ◌∷◌, ◌++◌, map, refl, sym, ap, ◌∙◌, subst, zero-add, arith}
use Rattle.std.specs.Prelude.{slice_get}
use Rattle.std.specs.List.{list_all, list_any, count_by, cons_option}
use Rattle.std.proofs.lemmas.List.Sums.{sum_by-append}
use Rattle.std.proofs.lemmas.List.Folds.{list_all-append}
use Rattle.plan_types.specs.declared.condition.Cond.{Cond, roll-Cond, map-Cond}
use Rattle.plan_types.specs.declared.condition.Cond.TheOpen as layer
use Rattle.plan_types.specs.declared.condition.Cond.TheFolds.{fold-roll-Cond, ind-Cond}
use Rattle.plan_types.specs.declared.condition.Env.{Env}
use Rattle.plan_types.specs.declared.condition.FlagSet.{FlagSet}
use Rattle.conditionals.specs.declared.value.Tri.{Tri}
use Rattle.conditionals.specs.declared.value.Tri.TheVariants.{Yes, No, Unknown}
use Rattle.conditionals.specs.Value.{Flags, value, value_step, tri_of, flag_value, negated, and_then, or_else}
use Rattle.conditionals.specs.Paths.{Path, paths_of, paths_step, followed, fixed, is_same, agree, is_consistent, kept_once, clean_paths, has_setting, holds, is_wanted}
use Rattle.conditionals.proofs.CleanedPaths.{all_kept}
use Rattle.plan_types.specs.Bytes.{same_text}
use Rattle.std.proofs.Math.Bool.{and-false}
use Rattle.common_laws.specs.Small.{same-is}

abbrev one : Bool → ℕ
one b = cond b 1 0

-- ---- the tables

one_and : (a b : Bool) → one (a && b) ≡ one a * one b
one_and true true = refl
one_and true false = refl
one_and false true = refl
one_and false false = refl

by_value : (P : Tri → Type 0) → P Yes → P No → P Unknown → (v : Tri) → P v
by_value P is_yes is_no is_unknown Yes = is_yes
by_value P is_yes is_no is_unknown No = is_no
by_value P is_yes is_no is_unknown Unknown = is_unknown

not_wanted : (want : Bool) (v : Tri) → is_wanted (not want) v ≡ is_wanted want (negated v)
not_wanted true v = by_value (λ v. is_wanted false v ≡ is_wanted true (negated v)) refl refl refl v
not_wanted false v = by_value (λ v. is_wanted true v ≡ is_wanted false (negated v)) refl refl refl v

and_yes : (v w : Tri) → one (is_wanted true v) * one (is_wanted true w) ≡ one (is_wanted true (and_then v w))
and_yes Yes w = omega arith
and_yes No w = omega arith
and_yes Unknown w = omega arith

and_no : (v w : Tri) → one (is_wanted false v) + one (is_wanted true v) * one (is_wanted false w) ≡ one (is_wanted false (and_then v w))
and_no Yes w = omega arith
and_no No w = omega arith
and_no Unknown w = omega arith

or_yes : (v w : Tri) → one (is_wanted true v) + one (is_wanted false v) * one (is_wanted true w) ≡ one (is_wanted true (or_else v w))
or_yes Yes w = omega arith
or_yes No w = omega arith
or_yes Unknown w = omega arith

or_no : (v w : Tri) → one (is_wanted false v) * one (is_wanted false w) ≡ one (is_wanted false (or_else v w))
or_no Yes w = omega arith
or_no No w = omega arith
or_no Unknown w = omega arith

one_setting : (known : Option Bool) (want : Bool) → 0 + one (has_setting known want && true) ≡ one (is_wanted want (flag_value known))
one_setting None true = refl
one_setting None false = refl
one_setting (Some true) true = refl
one_setting (Some true) false = refl
one_setting (Some false) true = refl
one_setting (Some false) false = refl

count_cons : {X : Type 0} (test : X → Bool) (x : X) (xs : List X) → count_by test (x ∷ xs) ≡ one (test x) + count_by test xs
count_cons test x xs = let both = sum_by-append (λ y. one (test y)) (x ∷ []) xs in omega (arith, both)

-- ---- all paths

module _ (flags : Flags) where
  abbrev number : List Path → ℕ
  number = count_by (holds flags)

  number_append : (first second : List Path) → number (first ++ second) ≡ number first + number second
  number_append first second = sum_by-append (λ path. one (holds flags path)) first second

  number_cons : (path : Path) (paths : List Path) → number (path ∷ paths) ≡ one (holds flags path) + number paths
  number_cons path paths = count_cons (holds flags) path paths

  number_after : (path : Path) (second : List Path) → number (map (λ next. path ++ next) second) ≡ one (holds flags path) * number second
  number_after path [] = omega arith
  number_after path (next ∷ second) =
      let here = ap one (list_all-append (λ s. has_setting (flags s.name) s.on) path next) ∙ one_and (holds flags path) (holds flags next) in
      let more = number_after path second in
      let first = number_cons (path ++ next) (map (λ n. path ++ n) second) in
      let last = ap (λ n. one (holds flags path) * n) (number_cons next second) in
      omega (arith, here, more, first, last)

  number_followed : (first second : List Path) → number (followed first second) ≡ number first * number second
  number_followed [] second = omega arith
  number_followed (path ∷ first) second =
      let both = number_append (map (λ next. path ++ next) second) (followed first second) in
      let here = number_after path second in
      let more = number_followed first second in
      let all = ap (λ n. n * number second) (number_cons path first) in
      omega (arith, both, here, more, all)

  number_fixed : (is want : Bool) → number (fixed is want) ≡ one (is_wanted want (tri_of is))
  number_fixed true true = refl
  number_fixed true false = refl
  number_fixed false true = refl
  number_fixed false false = refl

  module _ (env : Env) where
    abbrev Claim : Cond → Type 0
    Claim c = (want : Bool) → number (paths_of env c want) ≡ one (is_wanted want (value env flags c))

    abbrev Paths : Type 0
    Paths = Bool → List Path

    by_layer : (y : layer.Cond-F Cond) (want : Bool)
        → number (paths_step env (map-Cond Cond Paths (paths_of env) y) want) ≡ one (is_wanted want (value_step env flags (map-Cond Cond Tri (value env flags) y)))
        → number (paths_of env (roll-Cond y) want) ≡ one (is_wanted want (value env flags (roll-Cond y)))
    by_layer y want h =
        ap (λ f. number (f want)) (fold-roll-Cond Paths (paths_step env) y) ∙ h ∙ sym (ap (λ v. one (is_wanted want v)) (fold-roll-Cond Tri (value_step env flags) y))

    number_and : (l r : Cond) → Claim l → Claim r → (want : Bool) → number (paths_step env (layer.And (paths_of env l) (paths_of env r)) want) ≡ one (is_wanted want (and_then (value env flags l) (value env flags r)))
    number_and l r hl hr true = number_followed (paths_of env l true) (paths_of env r true) ∙ (λ i. hl true i * hr true i) ∙ and_yes (value env flags l) (value env flags r)
    number_and l r hl hr false =
        number_append (paths_of env l false) (followed (paths_of env l true) (paths_of env r false))
        ∙ ap (λ n. number (paths_of env l false) + n) (number_followed (paths_of env l true) (paths_of env r false))
        ∙ (λ i. hl false i + hl true i * hr false i)
        ∙ and_no (value env flags l) (value env flags r)

    number_or : (l r : Cond) → Claim l → Claim r → (want : Bool) → number (paths_step env (layer.Or (paths_of env l) (paths_of env r)) want) ≡ one (is_wanted want (or_else (value env flags l) (value env flags r)))
    number_or l r hl hr true =
        number_append (paths_of env l true) (followed (paths_of env l false) (paths_of env r true))
        ∙ ap (λ n. number (paths_of env l true) + n) (number_followed (paths_of env l false) (paths_of env r true))
        ∙ (λ i. hl true i + hl false i * hr true i)
        ∙ or_yes (value env flags l) (value env flags r)
    number_or l r hl hr false = number_followed (paths_of env l false) (paths_of env r false) ∙ (λ i. hl false i * hr false i) ∙ or_no (value env flags l) (value env flags r)

    step : (y : layer.Cond-F ((c : Cond) × Claim c)) → Claim (roll-Cond (map-Cond ((c : Cond) × Claim c) Cond (λ e. e.0) y))
    step layer.Always = λ want. by_layer layer.Always want (number_fixed true want)
    step layer.Never = λ want. by_layer layer.Never want (number_fixed false want)
    step (layer.Flag name) = λ want. by_layer (layer.Flag name) want (one_setting (flags name) want)
    step (layer.Os name) = λ want. by_layer (layer.Os name) want (number_fixed _ want)
    step (layer.Arch name) = λ want. by_layer (layer.Arch name) want (number_fixed _ want)
    step (layer.Impl name range) = λ want. by_layer (layer.Impl name range) want (number_fixed _ want)
    step (layer.Not c) = λ want. by_layer (layer.Not c.0) want (c.1 (not want) ∙ ap one (not_wanted want (value env flags c.0)))
    step (layer.And l r) = λ want. by_layer (layer.And l.0 r.0) want (number_and l.0 r.0 l.1 r.1 want)
    step (layer.Or l r) = λ want. by_layer (layer.Or l.0 r.0) want (number_or l.0 r.0 l.1 r.1 want)

    number_all : (c : Cond) → Claim c
    number_all = ind-Cond Claim (λ x y is. subst (λ z. Claim (roll-Cond z)) is (step y))

  -- ---- clean paths

  abbrev is_set : FlagSet → Bool
  is_set s = has_setting (flags s.name) s.on

  says_one : (known : Option Bool) (a b : Bool) → is_same a b ≡ false → (has_setting known a && has_setting known b) ≡ false
  says_one None a b e = refl
  says_one (Some true) true true e = absurd (cc e)
  says_one (Some true) true false e = refl
  says_one (Some true) false b e = refl
  says_one (Some false) true b e = refl
  says_one (Some false) false true e = refl
  says_one (Some false) false false e = absurd (cc e)

  under_false : (a b c : Bool) → (a && c) ≡ false → (a && (b && c)) ≡ false
  under_false true true c e = e
  under_false true false c e = refl
  under_false false b c e = refl

  two_false : (a b c : Bool) → (a && b) ≡ false → (a && (b && c)) ≡ false
  two_false true true c e = absurd (cc e)
  two_false true false c e = refl
  two_false false b c e = refl

  disagree : (s : FlagSet) (path : Path) → list_all (agree s) path ≡ false → (is_set s && holds flags path) ≡ false
  disagree s [] e = absurd (cc e)
  disagree s (t ∷ path) e = by (same_text s.name t.name) refl (is_same s.on t.on) refl e (λ f. disagree s path f)
    where
      by : (b : Bool) → same_text s.name t.name ≡ b → (o : Bool) → is_same s.on t.on ≡ o → (cond b o true && list_all (agree s) path) ≡ false → (list_all (agree s) path ≡ false → (is_set s && holds flags path) ≡ false) → (is_set s && (is_set t && holds flags path)) ≡ false
      by true f true g h more = under_false (is_set s) (is_set t) _ (more h)
      by true f false g h more =
          two_false (is_set s) (is_set t) _ (ap (λ name. is_set s && has_setting (flags name) t.on) (sym (same-is s.name t.name f)) ∙ says_one (flags s.name) s.on t.on g)
      by false f o g h more = under_false (is_set s) (is_set t) _ (more h)

  not_holds : (path : Path) → is_consistent path ≡ false → holds flags path ≡ false
  not_holds [] e = absurd (cc e)
  not_holds (s ∷ path) e = by (list_all (agree s) path) refl e (λ f. not_holds path f)
    where
      by : (b : Bool) → list_all (agree s) path ≡ b → (b && is_consistent path) ≡ false → (is_consistent path ≡ false → holds flags path ≡ false) → (is_set s && holds flags path) ≡ false
      by true f h more = ap (λ b. is_set s && b) (more h) ∙ and-false (is_set s)
      by false f h more = disagree s path f

  number_clean : (paths : List Path) → number (clean_paths paths) ≡ number paths
  number_clean [] = refl
  number_clean (path ∷ paths) = by (is_consistent path) refl (number_clean paths)
    where
      by : (b : Bool) → is_consistent path ≡ b → number (clean_paths paths) ≡ number paths → number (clean_paths (path ∷ paths)) ≡ number (path ∷ paths)
      by true e more =
          ap (λ b. number (cons_option (cond b (Some (kept_once path)) None) (clean_paths paths))) e
          ∙ number_cons (kept_once path) (clean_paths paths)
          ∙ (λ i. one (all_kept is_set path e i) + more i)
          ∙ sym (number_cons path paths)
      by false e more =
          ap (λ b. number (cons_option (cond b (Some (kept_once path)) None) (clean_paths paths))) e
          ∙ more
          ∙ sym (zero-add (number paths))
          ∙ ap (λ b. one b + number paths) (sym (not_holds path e))
          ∙ sym (number_cons path paths)

-- ---- consequences of the number

module _ {X : Type 0} (test : X → Bool) where
  any_from : (xs : List X) (b : Bool) → count_by test xs ≡ one b → list_any test xs ≡ b
  any_from [] true e = absurd (omega (arith, e))
  any_from [] false e = refl
  any_from (x ∷ xs) b e = by (test x) b (sym (count_cons test x xs) ∙ e) (λ f. any_from xs b f)
    where
      by : (t b : Bool) → one t + count_by test xs ≡ one b → (count_by test xs ≡ one b → list_any test xs ≡ b) → (t || list_any test xs) ≡ b
      by true true f more = refl
      by true false f more = absurd (omega (arith, f))
      by false b f more = more (sym (zero-add (count_by test xs)) ∙ f)

  same_item : (x y : X) → Some x ≡ Some y → x ≡ y
  same_item x y e = cc e

  some_counts : (xs : List X) (i : ℕ) (x : X) → slice_get xs i ≡ Some x → test x ≡ true → 1 ≤ count_by test xs
  some_counts [] i x at-i tx = absurd (cc at-i)
  some_counts (y ∷ xs) zero x at-i tx =
      let here : test y ≡ true = ap test (same_item y x at-i) ∙ tx in
      let all = count_cons test y xs ∙ ap (λ b. one b + count_by test xs) here in
      omega (arith, all)
  some_counts (y ∷ xs) (suc i) x at-i tx =
      let more = some_counts xs i x at-i tx in
      let all = count_cons test y xs in
      omega (arith, all, more)

  two : (z : X) (xs : List X) (i : ℕ) (x : X) → count_by test (z ∷ xs) ≤ 1 → test z ≡ true → slice_get xs i ≡ Some x → test x ≡ true → ⊥
  two z xs i x le tz at-i tx =
      let more = some_counts xs i x at-i tx in
      let all = count_cons test z xs ∙ ap (λ b. one b + count_by test xs) tz in
      omega (arith, all, more, le)

  alone : (xs : List X) → count_by test xs ≤ 1 → (i j : ℕ) (x y : X) → slice_get xs i ≡ Some x → slice_get xs j ≡ Some y → test x ≡ true → test y ≡ true → i ≡ j
  alone [] le i j x y at-i at-j tx ty = absurd (cc at-i)
  alone (z ∷ xs) le zero zero x y at-i at-j tx ty = refl
  alone (z ∷ xs) le zero (suc j) x y at-i at-j tx ty = absurd (two z xs j y le (ap test (same_item z x at-i) ∙ tx) at-j ty)
  alone (z ∷ xs) le (suc i) zero x y at-i at-j tx ty = absurd (two z xs i x le (ap test (same_item z y at-j) ∙ ty) at-i tx)
  alone (z ∷ xs) le (suc i) (suc j) x y at-i at-j tx ty =
      let all = count_cons test z xs in
      ap suc (alone xs (omega (arith, all, le)) i j x y at-i at-j tx ty)

module _ (env : Env) (flags : Flags) (c : Cond) (want : Bool) where
  abbrev clean : List Path
  clean = clean_paths (paths_of env c want)

  number_is : count_by (holds flags) clean ≡ one (is_wanted want (value env flags c))
  number_is = number_clean flags (paths_of env c want) ∙ number_all flags env c want

  pub some_path_holds : list_any (holds flags) clean ≡ is_wanted want (value env flags c)
  some_path_holds = any_from (holds flags) clean (is_wanted want (value env flags c)) number_is

  pub no_two_paths_hold : (i j : ℕ) (path other : Path) → slice_get clean i ≡ Some path → slice_get clean j ≡ Some other → holds flags path ≡ true → holds flags other ≡ true → i ≡ j
  no_two_paths_hold i j path other at-i at-j = alone (holds flags) clean (subst (λ n. n ≤ 1) (sym number_is) (at_most (is_wanted want (value env flags c)))) i j path other at-i at-j
    where
      at_most : (b : Bool) → one b ≤ 1
      at_most true = omega arith
      at_most false = omega arith
