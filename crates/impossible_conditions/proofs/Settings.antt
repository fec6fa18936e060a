-- Lemmas on settings.
use Rattle.std.proofs.Common.{◌≡◌, ℕ, zero, suc, Bool, true, false, ◌&&◌, ◌||◌, cond, Option, Some, None, List, [], ◌∷◌, ◌++◌, ◌<◌, length, refl, sym, ap, ◌∙◌, subst, arith}
use Rattle.std.specs.BTreeMap.{BTreeMap, insert_entry}
use Rattle.std.specs.Map.{lookup}
use Rattle.std.specs.declared.cmp.Ordering.{Ordering}
use Rattle.std.specs.declared.cmp.Ordering.TheVariants.{Less, Equal, Greater}
use Rattle.std.specs.Cmp.Lexicographic.{slice_cmp}
use Rattle.std.specs.Ordering.{is_eq, match_ordering, nat_cmp}
use Rattle.std.proofs.lemmas.Map.Text.{is_eq-slice_cmp}
use Rattle.common_laws.specs.Small.{same-is}
use Rattle.plan_types.specs.Bytes.{same_text}
use Rattle.std.specs.Prelude.{slice_index_or, ◌==◌, IsFalse}
use Rattle.std.specs.List.{list_any}
use Rattle.std.proofs.lemmas.Bool.{and_parts, eqb-true}
use Rattle.std.proofs.lemmas.List.Folds.{list_all-append}
use Rattle.std.proofs.lemmas.Option.{same_Some}
use Rattle.plan_types.specs.declared.condition.FlagSet.{FlagSet}
use Rattle.conditionals.specs.Paths.{Path, has_setting, is_same, holds}
use Rattle.conditionals.specs.Value.{Flags}
use Rattle.impossible_conditions.specs.FlagSettings.{AreEntries, HaveEntries, HasEntries}

same-on : (is on : Bool) → is_same is on ≡ true → is ≡ on
same-on true true e = refl
same-on true false e = absurd (cc e)
same-on false true e = absurd (cc e)
same-on false false e = refl

as-said : (known : Option Bool) (on : Bool) → has_setting known on ≡ true → known ≡ Some on
as-said None on e = absurd (cc e)
as-said (Some is) on e = ap Some (same-on is on e)

has_setting-so : (known : Option Bool) (on : Bool) → known ≡ Some on → has_setting known on ≡ true
has_setting-so known true e = ap (λ k. has_setting k true) e
has_setting-so known false e = ap (λ k. has_setting k false) e

-- a flag has only one setting
pub one-setting : (known : Option Bool) (is on : Bool) → known ≡ Some is → known ≡ Some on → is ≡ on
one-setting known is on e f = same_Some is on (sym e ∙ f)

pub holds-at : (flags : Flags) (path : Path) (i : ℕ) (s : FlagSet) → holds flags path ≡ true → i < length path → s ≡ slice_index_or path i s → flags s.name ≡ Some s.on
holds-at flags [] i s all within is = absurd (omega (arith, within))
holds-at flags (t ∷ path) zero s all within is = ap (λ u. flags u.name) is ∙ as-said (flags t.name) t.on (and_parts _ _ all).0 ∙ ap (λ u. Some u.on) (sym is)
holds-at flags (t ∷ path) (suc i) s all within is = holds-at flags path i s (and_parts _ _ all).1 (omega (arith, within)) is

pub holds-push : (flags : Flags) (path : Path) (s : FlagSet) → holds flags path ≡ true → flags s.name ≡ Some s.on → holds flags (path ++ s ∷ []) ≡ true
holds-push flags path s all is =
    list_all-append (λ t. has_setting (flags t.name) t.on) path (s ∷ [])
    ∙ (λ i. all i && (has_setting-so (flags s.name) s.on is i && true))

pub said-at : (flags : Flags) (maps : List (BTreeMap (List ℕ) Bool)) (i : ℕ) (map : BTreeMap (List ℕ) Bool) → HaveEntries flags maps → i < length maps → map ≡ slice_index_or maps i map → HasEntries flags map
said-at flags [] i map all within is = absurd (omega (arith, within))
said-at flags (first ∷ maps) zero map all within is = subst (HasEntries flags) (sym is) all.0
said-at flags (first ∷ maps) (suc i) map all within is = said-at flags maps i map all.1 (omega (arith, within)) is

pub said-push : (flags : Flags) (maps : List (BTreeMap (List ℕ) Bool)) (map : BTreeMap (List ℕ) Bool) → HaveEntries flags maps → HasEntries flags map → HaveEntries flags (maps ++ map ∷ [])
said-push flags [] map all is = (is, tt)
said-push flags (first ∷ maps) map all is = (all.0, said-push flags maps map all.1 is)

-- ---- the entries of maps

pub entry-got : (flags : Flags) (entries : List (List ℕ × Bool)) (name : List ℕ) (on : Bool) → AreEntries flags entries → lookup (λ key. is_eq (slice_cmp nat_cmp name key)) entries ≡ Some on → flags name ≡ Some on
entry-got flags [] name on all e = absurd (cc e)
entry-got flags (entry ∷ entries) name on all e = by (same_text name entry.0) refl (sym (ap (λ b. cond b (Some entry.1) (lookup (λ key. is_eq (slice_cmp nat_cmp name key)) entries)) (is_eq-slice_cmp name entry.0)) ∙ e) (λ g. entry-got flags entries name on all.1 g)
  where
    behind : Option Bool
    behind = lookup (λ key. is_eq (slice_cmp nat_cmp name key)) entries

    by : (b : Bool) → same_text name entry.0 ≡ b → cond b (Some entry.1) behind ≡ Some on → (behind ≡ Some on → flags name ≡ Some on) → flags name ≡ Some on
    by true f g more = ap flags (same-is name entry.0 f) ∙ all.0 ∙ g
    by false f g more = more g

pub entry-put : (flags : Flags) (entries : List (List ℕ × Bool)) (name : List ℕ) (on : Bool) → AreEntries flags entries → flags name ≡ Some on → AreEntries flags (insert_entry (slice_cmp nat_cmp) entries name on)
entry-put flags [] name on all is = (is, tt)
entry-put flags (entry ∷ entries) name on all is = by (slice_cmp nat_cmp name entry.0) refl (entry-put flags entries name on all.1 is)
  where
    more : List (List ℕ × Bool)
    more = insert_entry (slice_cmp nat_cmp) entries name on

    by : (o : Ordering) → slice_cmp nat_cmp name entry.0 ≡ o → AreEntries flags more → AreEntries flags (match_ordering o ((name, on) ∷ entry ∷ entries) ((entry.0, on) ∷ entries) (entry ∷ more))
    by Less e rest = (is, all)
    by Equal e rest = (ap flags (sym (same-is name entry.0 (sym (is_eq-slice_cmp name entry.0) ∙ ap is_eq e))) ∙ is, all.1)
    by Greater e rest = (all.0, rest)

-- ---- paths, one of which holds

pub some-there : (flags : Flags) (paths : List Path) (is : Bool) → list_any (holds flags) paths ≡ true → is ≡ (length paths == 0) → IsFalse is
some-there flags [] is some e = absurd (cc some)
some-there flags (path ∷ paths) true some e = let none = eqb-true (length (path ∷ paths)) 0 (sym e) in absurd (omega (arith, none))
some-there flags (path ∷ paths) false some e = refl

pub the-only : (flags : Flags) (paths : List Path) (path : Path) → list_any (holds flags) paths ≡ true → length paths ≡ 1 → path ≡ slice_index_or paths 0 path → holds flags path ≡ true
the-only flags [] path some one is = absurd (cc some)
the-only flags (first ∷ []) path some one is = ap (holds flags) is ∙ or_right_false (holds flags first) some
  where
    or_right_false : (b : Bool) → (b || false) ≡ true → b ≡ true
    or_right_false true e = refl
    or_right_false false e = absurd (cc e)
the-only flags (first ∷ next ∷ paths) path some one is = absurd (omega (arith, one))

-- ---- the last of some maps

pub said-front : (flags : Flags) (maps rest : List (BTreeMap (List ℕ) Bool)) → HaveEntries flags (maps ++ rest) → HaveEntries flags maps × HaveEntries flags rest
said-front flags [] rest all = (tt, all)
said-front flags (first ∷ maps) rest all = let more = said-front flags maps rest all.1 in ((all.0, more.0), more.1)
