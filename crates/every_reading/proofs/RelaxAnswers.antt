-- An entry of relaxings denotes one, or nothing.
use Rattle.std.proofs.Common.{◌≡◌, ◌⊎◌, inl, inr, ℕ, Bool, true, false, not, List, [], ◌∷◌, ◌++◌, Option, Some, None, refl, sym, ap, ◌∙◌, subst}
use Rattle.std.specs.Prelude.{◌==◌, codes}
use Rattle.std.specs.List.{filter_map, list_all}
use Rattle.std.proofs.lemmas.Bool.{and_from, and_parts, eqb-true, false≢true, true≢false}
use Rattle.plan_types.specs.Bytes.{begins_with}
use Rattle.plan_types.specs.Name.{is_package_name}
use Rattle.plan_types.specs.declared.dependency.Relax.{Relax}
use Rattle.plan_types.specs.declared.dependency.RelaxOwner.{RelaxOwner}
use Rattle.plan_types.specs.declared.dependency.RelaxOwner.TheVariants as owners
use Rattle.plan_types.specs.declared.version.Version.{Version}
use Rattle.common_laws.specs.Small.{tail_same}
use Rattle.text_grammar.proofs.LeadingBlanks.{Begun, begun}
use Rattle.version_range.specs.Version.{IsVersionOf}
use Rattle.entry_text.specs.Words.{run, behind, words}
use Rattle.constraint_text.specs.Faults.{IsBadConstraint}
use Rattle.constraint_text.specs.Relaxes.{relaxing_word, is_no_colon, is_no_dash, Release, Owner, Dependency, RelaxedBy, RelaxEntry, Relaxes, RelaxFault}
use Rattle.constraint_text.proofs.OneRelax.{bad_release, never_all}
use Rattle.every_reading.specs.Answered.{Answered}
use Rattle.every_reading.proofs.DecidedReadings.{Decided, bad_as_none, same_or_other}
use Rattle.every_reading.proofs.LoopReadings.{version_or_none}
use Rattle.every_reading.proofs.EntryAnswers.{some_reading}

-- ---- a package and a version

abbrev Cut : List ℕ → Type 0
Cut text = ((name : List ℕ) × (digits : List ℕ) × (text ≡ name ++ 45 ∷ digits) × (list_all is_no_dash digits ≡ true)) ⊎ (list_all is_no_dash text ≡ true)

cut_decided : (text : List ℕ) → Cut text
cut_decided [] = inr refl
cut_decided (b ∷ text) = by (cut_decided text) (b == 45) refl
  where
    by : Cut text → (t : Bool) → (b == 45) ≡ t → Cut (b ∷ text)
    by (inl cut) t q = inl (b ∷ cut.0, cut.1, ap (λ rest. b ∷ rest) cut.2, cut.3)
    by (inr none) true q = inl ([], text, (λ i. eqb-true b 45 q i ∷ text), none)
    by (inr none) false q = inr (and_from (is_no_dash b) (list_all is_no_dash text) (ap not q) none)

dash_inside : (name digits : List ℕ) → list_all is_no_dash (name ++ 45 ∷ digits) ≡ true → ⊥
dash_inside [] digits h = true≢false (sym h)
dash_inside (b ∷ name) digits h = dash_inside name digits (and_parts (is_no_dash b) (list_all is_no_dash (name ++ 45 ∷ digits)) h).1

abbrev HasRelease : List ℕ → Type 0
HasRelease text = ((name : List ℕ) × (version : Version) × Release text name version) ⊎ ((name : List ℕ) (version : Version) → Release text name version → ⊥)

release_decided : (text : List ℕ) → HasRelease text
release_decided text = by (cut_decided text)
  where
    at : (name digits : List ℕ) → text ≡ name ++ 45 ∷ digits → list_all is_no_dash digits ≡ true → (t : Bool) → is_package_name name ≡ t → (found : Option Version) → IsVersionOf digits found → HasRelease text
    at name digits e last false h found is = inr (bad_release text name digits e last (inl h))
    at name digits e last true h None none = inr (bad_release text name digits e last (inr none))
    at name digits e last true h (Some version) is = inl (name, version, record { digits = digits; cut = e; last = last; form = h; numbers = is.0; is = is.1 })

    by : Cut text → HasRelease text
    by (inl cut) = let version = version_or_none cut.1 in at cut.0 cut.1 cut.2 cut.3 (is_package_name cut.0) refl version.0 version.1
    by (inr none) = inr (λ name version r. dash_inside name r.digits (subst (λ t. list_all is_no_dash t ≡ true) r.cut none))

-- ---- whose dependencies are relaxed

no_owner : (text : List ℕ) → (text ≡ codes "*" → ⊥) → is_package_name text ≡ false → ((name : List ℕ) (version : Version) → Release text name version → ⊥) → (owner : RelaxOwner) → Owner text owner → ⊥
no_owner text star h never owner (Owner.any e is) = star e
no_owner text star h never owner (Owner.named form is) = true≢false (sym form ∙ h)
no_owner text star h never owner (Owner.release name version other r is) = never name version r

owner_decided : (text : List ℕ) → Decided (Owner text)
owner_decided text = by (same_or_other text (codes "*")) (is_package_name text) refl (release_decided text)
  where
    by : (text ≡ codes "*") ⊎ (text ≡ codes "*" → ⊥) → (t : Bool) → is_package_name text ≡ t → HasRelease text → Decided (Owner text)
    by (inl star) t h release = inl (owners.Any, Owner.any star refl)
    by (inr star) true h release = inl (owners.Package text, Owner.named h refl)
    by (inr star) false h (inl found) = inl (owners.Release found.0 found.1, Owner.release found.0 found.1 h found.2 refl)
    by (inr star) false h (inr never) = inr (no_owner text star h never)

-- ---- which dependencies

module _ (word : List ℕ) where
  no_dep : behind is_no_colon word ≡ [] → is_package_name word ≡ false → (x : Relax) → Dependency word x → ⊥
  no_dep e h x (Dependency.dep a form is) = true≢false (sym form ∙ h)
  no_dep e h x (Dependency.of owner name a o form is) = absurd (cc (a, e))
  no_dep e h x (Dependency.all a form is) = absurd (cc (a, e))

  no_of : (name : List ℕ) → behind is_no_colon word ≡ 58 ∷ name → (behind is_no_colon word ≡ codes ":*" → ⊥) → ((owner : RelaxOwner) → Owner (run is_no_colon word) owner → is_package_name name ≡ true → ⊥)
      → (x : Relax) → Dependency word x → ⊥
  no_of name e star never x (Dependency.dep a form is) = absurd (cc (a, e))
  no_of name e star never x (Dependency.of owner other a o form is) = never owner o (subst (λ t. is_package_name t ≡ true) (tail_same (sym a ∙ e)) form)
  no_of name e star never x (Dependency.all a form is) = star a

  no_colon : (behind is_no_colon word ≡ [] → ⊥) → begins_with 58 (behind is_no_colon word) ≡ false → (x : Relax) → Dependency word x → ⊥
  no_colon some h x (Dependency.dep a form is) = some a
  no_colon some h x (Dependency.of owner name a o form is) = false≢true (sym h ∙ ap (begins_with 58) a)
  no_colon some h x (Dependency.all a form is) = false≢true (sym h ∙ ap (begins_with 58) a)

  dep_by : behind is_no_colon word ≡ [] → (t : Bool) → is_package_name word ≡ t → Decided (Dependency word)
  dep_by e true h = inl (record { owner = owners.Any; dep = Some word }, Dependency.dep e h refl)
  dep_by e false h = inr (no_dep e h)

  all_by : behind is_no_colon word ≡ codes ":*" → (t : Bool) → is_package_name (run is_no_colon word) ≡ t → Decided (Dependency word)
  all_by e true h = inl (record { owner = owners.Package (run is_no_colon word); dep = None }, Dependency.all e h refl)
  all_by e false h = inr (never_all word e h)

  of_by : (name : List ℕ) → behind is_no_colon word ≡ 58 ∷ name → (behind is_no_colon word ≡ codes ":*" → ⊥) → Decided (Owner (run is_no_colon word)) → (t : Bool) → is_package_name name ≡ t → Decided (Dependency word)
  of_by name e star (inl found) true h = inl (record { owner = found.0; dep = Some name }, Dependency.of found.0 name e found.1 h refl)
  of_by name e star (inl found) false h = inr (no_of name e star (λ owner o form. true≢false (sym form ∙ h)))
  of_by name e star (inr never) t h = inr (no_of name e star (λ owner o form. never owner o))

  dependency_by : (behind is_no_colon word ≡ []) ⊎ (behind is_no_colon word ≡ [] → ⊥) → (behind is_no_colon word ≡ codes ":*") ⊎ (behind is_no_colon word ≡ codes ":*" → ⊥)
      → Begun 58 (behind is_no_colon word) → Decided (Dependency word)
  dependency_by (inl e) star colon = dep_by e (is_package_name word) refl
  dependency_by (inr some) (inl e) colon = all_by e (is_package_name (run is_no_colon word)) refl
  dependency_by (inr some) (inr star) (inl colon) = of_by colon.0 colon.1 star (owner_decided (run is_no_colon word)) (is_package_name colon.0) refl
  dependency_by (inr some) (inr star) (inr none) = inr (no_colon some none)

  dependency_decided : Decided (Dependency word)
  dependency_decided =
      dependency_by (same_or_other (behind is_no_colon word) []) (same_or_other (behind is_no_colon word) (codes ":*")) (begun 58 (behind is_no_colon word))

-- ---- an entry

no_relaxing : (word : List ℕ) → relaxing_word word ≡ None → ((x : Relax) → Dependency word x → ⊥) → (found : Option Relax) → RelaxedBy word found → ⊥
no_relaxing word q never found (RelaxedBy.everything e is) = absurd (cc (e, q))
no_relaxing word q never found (RelaxedBy.nothing e is) = absurd (cc (e, q))
no_relaxing word q never found (RelaxedBy.one relax e is found') = never relax is

relaxed_decided : (word : List ℕ) → Decided (RelaxedBy word)
relaxed_decided word = by (relaxing_word word) refl (dependency_decided word)
  where
    by : (o : Option Bool) → relaxing_word word ≡ o → Decided (Dependency word) → Decided (RelaxedBy word)
    by (Some true) q dependency = inl (Some (record { owner = owners.Any; dep = None }), RelaxedBy.everything q refl)
    by (Some false) q dependency = inl (None, RelaxedBy.nothing q refl)
    by None q (inl found) = inl (Some found.0, RelaxedBy.one found.0 q found.1 refl)
    by None q (inr never) = inr (no_relaxing word q never)

word_same : {a b : List ℕ} → a ∷ [] ≡ b ∷ [] → a ≡ b
word_same e = cc

entry_decided : (text : List ℕ) → Decided (RelaxEntry text)
entry_decided text = by (words text) refl
  where
    one_word : (word : List ℕ) → words text ≡ word ∷ [] → Decided (RelaxedBy word) → Decided (RelaxEntry text)
    one_word word q (inl found) = inl (found.0, record { word = word; alone = q; relaxed = found.1 })
    one_word word q (inr never) = inr (λ x entry. never x (subst (λ w. RelaxedBy w x) (word_same (sym entry.alone ∙ q)) entry.relaxed))

    by : (parts : List (List ℕ)) → words text ≡ parts → Decided (RelaxEntry text)
    by [] q = inr (λ x entry. absurd (cc (q, entry.alone)))
    by (word ∷ []) q = one_word word q (relaxed_decided word)
    by (word ∷ next ∷ parts) q = inr (λ x entry. absurd (cc (q, entry.alone)))

-- each text denotes relaxings, without the entries that relax nothing, or has a fault
pub some_relaxes : (text : List ℕ) → Answered (Relaxes text) (RelaxFault text)
some_relaxes text =
    elim (some_reading RelaxEntry (IsBadConstraint RelaxEntry) (λ part. bad_as_none RelaxEntry part (entry_decided part)) text) [
      | inl found ↦ inl (filter_map (λ relax. relax) found.0, record { each = found.0; entries = found.1; is = refl })
      | inr fault ↦ inr fault
    ]
