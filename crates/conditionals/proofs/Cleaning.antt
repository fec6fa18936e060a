-- Paths with each setting once.
use Rattle.std.proofs.Common.{◌≡◌, ℕ, Bool, true, false, not, ◌&&◌, cond, Option, Some, None, List, [], ◌∷◌, ◌++◌, refl, sym, ap, ◌∙◌, append-nil, arith}
use Rattle.std.specs.Prelude.{filter, map}
use Rattle.std.specs.Map.{lookup}
use Rattle.indexmap.specs.IndexMap.{insert_entry}
use Rattle.std.proofs.Math.Bool.{beq, and-false}
use Rattle.std.specs.List.{list_all}
use Rattle.std.specs.Cmp.Lexicographic.{bytes_decides}
use Rattle.std.proofs.lemmas.Bool.{and_parts}
use Rattle.std.proofs.lemmas.List.Elements.{filter-append}
use Rattle.std.proofs.lemmas.List.Folds.{list_all-append}
use Rattle.plan_types.specs.declared.condition.FlagSet.{FlagSet}
use Rattle.conditionals.specs.Value.{flag_in}
use Rattle.conditionals.specs.Settings.{setting_of}
use Rattle.conditionals.specs.Paths.{Path, is_same, agree, is_consistent, kept_once, clean_path}
use Rattle.plan_types.specs.Bytes.{same_text}
use Rattle.common_laws.specs.Small.{same-is}

some_is : (a b : Bool) → Some a ≡ Some b → a ≡ b
some_is a b e = cc e

is_same_three : (a b c : Bool) → is_same a b ≡ true → is_same a c ≡ true → is_same b c ≡ true
is_same_three true true c e f = f
is_same_three true false c e f = absurd (cc e)
is_same_three false true c e f = absurd (cc e)
is_same_three false false c e f = f

all_false : (path rest : Path) (t s : FlagSet) → agree t s ≡ false → list_all (agree t) (path ++ s ∷ rest) ≡ false
all_false [] rest t s e = (λ i. e i && list_all (agree t) rest)
all_false (u ∷ path) rest t s e = ap (λ b. agree t u && b) (all_false path rest t s e) ∙ and-false (agree t u)

abbrev pub unlike : FlagSet → List FlagSet → List FlagSet
unlike t = filter (λ u. not (same_text t.name u.name))

-- a name equal to one of two different names differs from the other
apart : (a b c : List ℕ) → same_text a b ≡ false → same_text a c ≡ true → same_text b c ≡ false
apart a b c other e = by (same_text b c) refl
  where
    by : (r : Bool) → same_text b c ≡ r → r ≡ false
    by true f = absurd (cc (other, (bytes_decides a b).1 (same-is a c e ∙ sym (same-is b c f))))
    by false f = refl

-- ---- a flag that wasn't set

pub kept_new : (path : Path) (s : FlagSet) → flag_in path s.name ≡ None → kept_once (path ++ s ∷ []) ≡ kept_once path ++ s ∷ []
kept_new [] s none = refl
kept_new (t ∷ path) s none = by (same_text t.name s.name) refl none (λ n. kept_new path s n)
  where
    by : (b : Bool) → same_text t.name s.name ≡ b → cond b (Some t.on) (flag_in path s.name) ≡ None → (flag_in path s.name ≡ None → kept_once (path ++ s ∷ []) ≡ kept_once path ++ s ∷ []) → kept_once ((t ∷ path) ++ s ∷ []) ≡ kept_once (t ∷ path) ++ s ∷ []
    by true e n more = absurd (cc n)
    by false e n more =
        ap (λ l. t ∷ unlike t l) (more n) ∙ ap (λ l. t ∷ l) (filter-append (λ u. not (same_text t.name u.name)) (kept_once path) (s ∷ []) ∙ ap (λ b. unlike t (kept_once path) ++ cond (not b) (s ∷ []) []) e)

pub flag_new : (path : Path) (s : FlagSet) (q : List ℕ) → flag_in path s.name ≡ None → flag_in (path ++ s ∷ []) q ≡ cond (same_text s.name q) (Some s.on) (flag_in path q)
flag_new [] s q none = refl
flag_new (t ∷ path) s q none = by (same_text t.name s.name) refl (same_text t.name q) refl none (λ n. flag_new path s q n)
  where
    by : (b : Bool) → same_text t.name s.name ≡ b → (r : Bool) → same_text t.name q ≡ r → cond b (Some t.on) (flag_in path s.name) ≡ None
        → (flag_in path s.name ≡ None → flag_in (path ++ s ∷ []) q ≡ cond (same_text s.name q) (Some s.on) (flag_in path q))
        → cond r (Some t.on) (flag_in (path ++ s ∷ []) q) ≡ cond (same_text s.name q) (Some s.on) (cond r (Some t.on) (flag_in path q))
    by true e r f n more = absurd (cc n)
    by false e true f n more = sym (ap (λ b. cond b (Some s.on) (Some t.on)) (apart t.name s.name q e f))
    by false e false f n more = more n

pub agrees_new : (path : Path) (s : FlagSet) → flag_in path s.name ≡ None → list_all (λ t. agree t s) path ≡ true
agrees_new [] s none = refl
agrees_new (t ∷ path) s none = let more = agrees_new path s in grind (arith, more)

-- ---- a flag that was set

pub kept_old : (path : Path) (s : FlagSet) (on : Bool) → flag_in path s.name ≡ Some on → kept_once (path ++ s ∷ []) ≡ kept_once path
kept_old [] s on some = absurd (cc some)
kept_old (t ∷ path) s on some = by (same_text t.name s.name) refl some (λ is n. kept_old path s is n)
  where
    again : (o : Option Bool) → flag_in path s.name ≡ o → same_text t.name s.name ≡ true → ((is : Bool) → flag_in path s.name ≡ Some is → kept_once (path ++ s ∷ []) ≡ kept_once path) → unlike t (kept_once (path ++ s ∷ [])) ≡ unlike t (kept_once path)
    again None n e more =
        ap (unlike t) (kept_new path s n)
        ∙ filter-append (λ u. not (same_text t.name u.name)) (kept_once path) (s ∷ [])
        ∙ ap (λ b. unlike t (kept_once path) ++ cond (not b) (s ∷ []) []) e
        ∙ append-nil (unlike t (kept_once path))
    again (Some is) n e more = ap (unlike t) (more is n)

    by : (b : Bool) → same_text t.name s.name ≡ b → cond b (Some t.on) (flag_in path s.name) ≡ Some on → ((is : Bool) → flag_in path s.name ≡ Some is → kept_once (path ++ s ∷ []) ≡ kept_once path) → kept_once ((t ∷ path) ++ s ∷ []) ≡ kept_once (t ∷ path)
    by true e n more = ap (λ l. t ∷ l) (again (flag_in path s.name) refl e more)
    by false e n more = ap (λ l. t ∷ unlike t l) (more on n)

flag_other : (path : Path) (s : FlagSet) (q : List ℕ) → same_text s.name q ≡ false → flag_in (path ++ s ∷ []) q ≡ flag_in path q
flag_other [] s q other = rw other refl
flag_other (t ∷ path) s q other = ap (cond (same_text t.name q) (Some t.on)) (flag_other path s q other)

pub flag_old : (path : Path) (s : FlagSet) (on : Bool) (q : List ℕ) → flag_in path s.name ≡ Some on → flag_in (path ++ s ∷ []) q ≡ flag_in path q
flag_old [] s on q some = absurd (cc some)
flag_old (t ∷ path) s on q some = by (same_text t.name q) refl (same_text t.name s.name) refl some (λ n. flag_old path s on q n)
  where
    by : (r : Bool) → same_text t.name q ≡ r → (b : Bool) → same_text t.name s.name ≡ b → cond b (Some t.on) (flag_in path s.name) ≡ Some on
        → (flag_in path s.name ≡ Some on → flag_in (path ++ s ∷ []) q ≡ flag_in path q)
        → cond r (Some t.on) (flag_in (path ++ s ∷ []) q) ≡ cond r (Some t.on) (flag_in path q)
    by true f b e n more = refl
    by false f true e n more = flag_other path s q (sym (ap (λ name. same_text name q) (same-is t.name s.name e)) ∙ f)
    by false f false e n more = more n

agrees_same : (path : Path) (t s : FlagSet) → same_text t.name s.name ≡ true → is_same t.on s.on ≡ true → list_all (agree t) path ≡ true → list_all (λ u. agree u s) path ≡ true
agrees_same [] t s e o all = refl
agrees_same (u ∷ path) t s e o all = (λ i. first (same_text t.name u.name) refl (same_text u.name s.name) refl (and_parts _ _ all).0 i && agrees_same path t s e o (and_parts _ _ all).1 i)
  where
    first : (b : Bool) → same_text t.name u.name ≡ b → (r : Bool) → same_text u.name s.name ≡ r → cond b (is_same t.on u.on) true ≡ true → cond r (is_same u.on s.on) true ≡ true
    first b f false g one = refl
    first true f true g one = is_same_three t.on u.on s.on one o
    first false f true g one = absurd (cc (f, (bytes_decides t.name u.name).1 (same-is t.name s.name e ∙ sym (same-is u.name s.name g))))

pub agrees_old : (path : Path) (s : FlagSet) (on : Bool) → flag_in path s.name ≡ Some on → is_same on s.on ≡ true → is_consistent path ≡ true → list_all (λ t. agree t s) path ≡ true
agrees_old [] s on some is all = refl
agrees_old (t ∷ path) s on some is all = by (same_text t.name s.name) refl some (λ n. agrees_old path s on n is (and_parts _ _ all).1)
  where
    by : (b : Bool) → same_text t.name s.name ≡ b → cond b (Some t.on) (flag_in path s.name) ≡ Some on → (flag_in path s.name ≡ Some on → list_all (λ u. agree u s) path ≡ true) → (cond b (is_same t.on s.on) true && list_all (λ u. agree u s) path) ≡ true
    by true e n more =
        let here : is_same t.on s.on ≡ true = ap (λ o. is_same o s.on) (some_is t.on on n) ∙ is in
        (λ i. here i && agrees_same path t s e here (and_parts _ _ all).0 i)
    by false e n more = more n

pub differs : (path rest : Path) (s : FlagSet) (on : Bool) → flag_in path s.name ≡ Some on → is_same on s.on ≡ false → is_consistent (path ++ s ∷ rest) ≡ false
differs [] rest s on some is = absurd (cc some)
differs (t ∷ path) rest s on some is = by (same_text t.name s.name) refl some (λ n. differs path rest s on n is)
  where
    by : (b : Bool) → same_text t.name s.name ≡ b → cond b (Some t.on) (flag_in path s.name) ≡ Some on → (flag_in path s.name ≡ Some on → is_consistent (path ++ s ∷ rest) ≡ false) → is_consistent (t ∷ (path ++ s ∷ rest)) ≡ false
    by true e n more =
        let here : agree t s ≡ false = ap (λ b. cond b (is_same t.on s.on) true) e ∙ ap (λ o. is_same o s.on) (some_is t.on on n) ∙ is in
        (λ i. all_false path rest t s here i && is_consistent (path ++ s ∷ rest))
    by false e n more = ap (λ b. list_all (agree t) (path ++ s ∷ rest) && b) (more n) ∙ and-false (list_all (agree t) (path ++ s ∷ rest))

-- ---- whether the path is consistent

pub consistent_push : (path : Path) (s : FlagSet) → is_consistent (path ++ s ∷ []) ≡ (is_consistent path && list_all (λ t. agree t s) path)
consistent_push [] s = refl
consistent_push (t ∷ path) s = let more = consistent_push path s in let all = list_all-append (agree t) path (s ∷ []) in grind (arith, more, all)

-- ---- the settings in the map

pub known_new : (old new : List ℕ → Option Bool) (path : Path) (s : FlagSet) → ((q : List ℕ) → new q ≡ cond (same_text s.name q) (Some s.on) (old q)) → ((q : List ℕ) → old q ≡ flag_in path q) → flag_in path s.name ≡ None
    → (q : List ℕ) → new q ≡ flag_in (path ++ s ∷ []) q
known_new old new path s n o none q = n q ∙ ap (cond (same_text s.name q) (Some s.on)) (o q) ∙ sym (flag_new path s q none)

-- a flag that isn't in the map goes last
pub entries_new : (entries : List (List ℕ × Bool)) (s : FlagSet) → lookup (same_text s.name) entries ≡ None
    → map setting_of (insert_entry same_text entries s.name s.on) ≡ map setting_of entries ++ s ∷ []
entries_new [] s none = refl
entries_new (e ∷ entries) s none = by (same_text s.name e.0) refl none (entries_new entries s)
  where
    by : (b : Bool) → same_text s.name e.0 ≡ b → cond b (Some e.1) (lookup (same_text s.name) entries) ≡ None
        → (lookup (same_text s.name) entries ≡ None → map setting_of (insert_entry same_text entries s.name s.on) ≡ map setting_of entries ++ s ∷ [])
        → map setting_of (insert_entry same_text (e ∷ entries) s.name s.on) ≡ map setting_of (e ∷ entries) ++ s ∷ []
    by true is n more = absurd (cc n)
    by false is n more =
        ap (λ b. map setting_of (cond b ((e.0, s.on) ∷ entries) (e ∷ insert_entry same_text entries s.name s.on))) is
        ∙ ap (λ l. setting_of e ∷ l) (more n)

pub not_clean : (path : Path) → is_consistent path ≡ false → None ≡ clean_path path
not_clean path e = sym (ap (λ b. cond b (Some (kept_once path)) None) e)

pub not_same : (a b : Bool) → not (beq a b) ≡ true → is_same a b ≡ false
not_same true true e = absurd (cc e)
not_same true false e = refl
not_same false true e = refl
not_same false false e = absurd (cc e)

pub both_same : (a b : Bool) → not (beq a b) ≡ false → is_same a b ≡ true
both_same true true e = refl
both_same true false e = absurd (cc e)
both_same false true e = absurd (cc e)
both_same false false e = refl
