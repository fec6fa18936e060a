-- Shared: an entry of a project's relaxings has at most one reading.
use Rattle.std.proofs.Common.{◌≡◌, ℕ, Bool, true, false, List, [], ◌∷◌, ◌++◌, Option, Some, None, refl, sym, ap, ◌∙◌, subst}
use Rattle.std.specs.Prelude.{codes}
use Rattle.std.proofs.lemmas.Bool.{true≢false, false≢true}
use Rattle.std.proofs.lemmas.Option.{same_Some}
use Rattle.std.specs.List.{list_all}
use Rattle.std.proofs.Common.{◌⊎◌, inl, inr}
use Rattle.plan_types.specs.Bytes.{begins_with, same_text}
use Rattle.plan_types.specs.Name.{is_package_name}
use Rattle.plan_types.specs.declared.dependency.Relax.{Relax}
use Rattle.plan_types.specs.declared.dependency.RelaxOwner.{RelaxOwner}
use Rattle.plan_types.specs.declared.dependency.RelaxOwner.TheVariants as owners
use Rattle.plan_types.specs.declared.refusal.Cause.{Cause}
use Rattle.plan_types.specs.declared.refusal.Cause.TheVariants.{BadConstraint}
use Rattle.plan_types.specs.declared.version.Version.{Version}
use Rattle.version_range.specs.Version.{is_version, version_text}
use Rattle.version_range.proofs.VersionNumbers.{one_version, version_from}
use Rattle.entry_text.specs.Words.{run, behind}
use Rattle.constraint_text.specs.Relaxes.{relaxing_word, is_no_colon, is_no_dash, Release, Owner, Dependency, RelaxedBy, RelaxEntry}
use Rattle.std.proofs.Common.{◌<◌, ◌≤◌, length, Bor, get_or, Result, Err, arith}
use Rattle.std.specs.Prelude.{◌&&◌, nat_eq, MatchResult}
use Rattle.std.specs.Cmp.Lexicographic.{pointwise}
use Rattle.std.specs.List.{filter_map}
use Rattle.std.proofs.lemmas.Bool.{and_parts, eqb-true}
use Rattle.plan_types.specs.declared.refusal.TextFault.{TextFault}
use Rattle.plan_types.specs.Refusal.{Refuses}
use Rattle.entry_text.specs.Entries.{HasEntries}
use Rattle.constraint_text.specs.Relaxes.{Relaxes, RelaxFault}
use Rattle.entry_text.proofs.CommaCuts.{texts}
use Rattle.entry_text.proofs.FoundEntries.{refuses_so}
use Rattle.entry_text.proofs.OneReading.{Settled, one_reading, one_first, reading_or_fault}
use Rattle.constraint_text.proofs.Dashes.{same_cut}
use Rattle.common_laws.specs.Small.{tail_same}
use Rattle.constraint_text.specs.Faults.{IsBadConstraint}
use Rattle.constraint_text.proofs.OneNamed.{project_settled}

not_empty : (name digits : List ℕ) → [] ≡ name ++ 45 ∷ digits → ⊥
not_empty [] digits e = absurd (cc)
not_empty (x ∷ name) digits e = absurd (cc)

no_cut : (name digits : List ℕ) → codes "*" ≡ name ++ 45 ∷ digits → is_package_name name ≡ true → ⊥
no_cut [] digits e h = true≢false (sym h)
no_cut (x ∷ name) digits e h = not_empty name digits (tail_same e)

one_release : (text n n' : List ℕ) (v v' : Version) → Release text n v → Release text n' v' → (n ≡ n') × (v ≡ v')
one_release text n n' v v' r s =
    let p = same_cut n n' r.digits s.digits r.last s.last (sym r.cut ∙ s.cut) in
    let parts = one_version v.parts v'.parts (version_from v.parts r.numbers) (version_from v'.parts s.numbers) (sym r.is ∙ p.1 ∙ s.is) in
    (p.0, λ i. record { parts = parts i })

star : (text : List ℕ) → text ≡ codes "*" → is_package_name text ≡ true → ⊥
star text e h = true≢false (sym h ∙ ap is_package_name e)

one_owner : (text : List ℕ) (a b : RelaxOwner) → Owner text a → Owner text b → a ≡ b
one_owner text a b (Owner.any e f) (Owner.any e' f') = f ∙ sym f'
one_owner text a b (Owner.any e f) (Owner.named h g) = absurd (star text e h)
one_owner text a b (Owner.any e f) (Owner.release n v h r g) = absurd (no_cut n r.digits (sym e ∙ r.cut) r.form)
one_owner text a b (Owner.named h g) (Owner.any e f) = absurd (star text e h)
one_owner text a b (Owner.named h g) (Owner.named h' g') = g ∙ sym g'
one_owner text a b (Owner.named h g) (Owner.release n v k r i) = absurd (true≢false (sym h ∙ k))
one_owner text a b (Owner.release n v h r g) (Owner.any e f) = absurd (no_cut n r.digits (sym e ∙ r.cut) r.form)
one_owner text a b (Owner.release n v k r i) (Owner.named h g) = absurd (true≢false (sym h ∙ k))
one_owner text a b (Owner.release n v h r g) (Owner.release n' v' h' r' g') =
    let p = one_release text n n' v v' r r' in g ∙ (λ i. owners.Release (p.0 i) (p.1 i)) ∙ sym g'

nothing_or_colon : (text name : List ℕ) → text ≡ [] → text ≡ codes ":" ++ name → ⊥
nothing_or_colon text name e f = true≢false (ap (begins_with 58) (sym f ∙ e))

one_dependency : (word : List ℕ) (x y : Relax) → Dependency word x → Dependency word y → x ≡ y
one_dependency word x y (Dependency.dep a h e) (Dependency.dep a' h' e') = e ∙ sym e'
one_dependency word x y (Dependency.dep a h e) (Dependency.of o n b w k f) = absurd (nothing_or_colon _ n a b)
one_dependency word x y (Dependency.dep a h e) (Dependency.all b k f) = absurd (nothing_or_colon _ (codes "*") a b)
one_dependency word x y (Dependency.of o n b w k f) (Dependency.dep a h e) = absurd (nothing_or_colon _ n a b)
one_dependency word x y (Dependency.of o n b w k f) (Dependency.of o' n' b' w' k' f') =
    let owner = one_owner (run is_no_colon word) o o' w w' in
    f ∙ (λ i. record { owner = owner i; dep = Some (tail_same (sym b ∙ b') i) }) ∙ sym f'
one_dependency word x y (Dependency.of o n b w k f) (Dependency.all b' k' f') = absurd (star n (tail_same (sym b ∙ b')) k)
one_dependency word x y (Dependency.all b k f) (Dependency.dep a h e) = absurd (nothing_or_colon _ (codes "*") a b)
one_dependency word x y (Dependency.all b' k' f') (Dependency.of o n b w k f) = absurd (star n (tail_same (sym b ∙ b')) k)
one_dependency word x y (Dependency.all b k f) (Dependency.all b' k' f') = f ∙ sym f'

true_or_false : (o : Option Bool) → o ≡ Some true → o ≡ Some false → ⊥
true_or_false o e f = true≢false (same_Some _ _ (sym e ∙ f))

some_none : (o : Option Bool) (b : Bool) → o ≡ Some b → o ≡ None → ⊥
some_none o b e f = absurd cc

one_relaxed : (word : List ℕ) (x y : Option Relax) → RelaxedBy word x → RelaxedBy word y → x ≡ y
one_relaxed word x y (RelaxedBy.everything a e) (RelaxedBy.everything b f) = e ∙ sym f
one_relaxed word x y (RelaxedBy.everything a e) (RelaxedBy.nothing b f) = absurd (true_or_false _ a b)
one_relaxed word x y (RelaxedBy.everything a e) (RelaxedBy.one r b d f) = absurd (some_none _ true a b)
one_relaxed word x y (RelaxedBy.nothing b f) (RelaxedBy.everything a e) = absurd (true_or_false _ a b)
one_relaxed word x y (RelaxedBy.nothing a e) (RelaxedBy.nothing b f) = e ∙ sym f
one_relaxed word x y (RelaxedBy.nothing a e) (RelaxedBy.one r b d f) = absurd (some_none _ false a b)
one_relaxed word x y (RelaxedBy.one r b d f) (RelaxedBy.everything a e) = absurd (some_none _ true a b)
one_relaxed word x y (RelaxedBy.one r b d f) (RelaxedBy.nothing a e) = absurd (some_none _ false a b)
one_relaxed word x y (RelaxedBy.one r a d e) (RelaxedBy.one s b g f) = e ∙ ap Some (one_dependency word r s d g) ∙ sym f

one_word : {a b : List ℕ} → a ∷ [] ≡ b ∷ [] → a ≡ b
one_word e = cc

one_entry : (text : List ℕ) (x y : Option Relax) → RelaxEntry text x → RelaxEntry text y → x ≡ y
one_entry text x y e f = one_relaxed f.word x y (subst (λ w. RelaxedBy w x) (one_word (sym e.alone ∙ f.alone)) e.relaxed) f.relaxed

pub relax_settled : Settled RelaxEntry (IsBadConstraint RelaxEntry)
relax_settled = project_settled RelaxEntry one_entry

-- ---- results of calls

pub bad_release : (text name digits : List ℕ) → text ≡ name ++ 45 ∷ digits → list_all is_no_dash digits ≡ true
    → (is_package_name name ≡ false) ⊎ ((ps : List ℕ) → is_version ps ≡ true → digits ≡ version_text ps → ⊥)
    → (n : List ℕ) (v : Version) → Release text n v → ⊥
bad_release text name digits e h (inl bad) n v r = let p = same_cut name n digits r.digits h r.last (sym e ∙ r.cut) in true≢false (sym r.form ∙ ap is_package_name (sym p.0) ∙ bad)
bad_release text name digits e h (inr bad) n v r = let p = same_cut name n digits r.digits h r.last (sym e ∙ r.cut) in bad v.parts r.numbers (p.1 ∙ r.is)

pub bad_owner : (text : List ℕ) → (text ≡ codes "*" → ⊥) → is_package_name text ≡ false → (cause : Cause) → (cause ≡ BadConstraint) × ((n : List ℕ) (v : Version) → Release text n v → ⊥) → IsBadConstraint Owner text cause
bad_owner text s h cause never = record { is = never.0; stands_for_none = λ owner o. by owner o }
  where
    by : (owner : RelaxOwner) → Owner text owner → ⊥
    by owner (Owner.any e f) = s e
    by owner (Owner.named k g) = true≢false (sym k ∙ h)
    by owner (Owner.release n v k r g) = never.1 n v r

pub bad_relaxed : (word : List ℕ) → relaxing_word word ≡ None → (cause : Cause) → IsBadConstraint Dependency word cause → IsBadConstraint RelaxedBy word cause
bad_relaxed word h cause fault = record { is = fault.is; stands_for_none = by }
  where
    by : (x : Option Relax) → RelaxedBy word x → ⊥
    by x (RelaxedBy.everything a e) = some_none _ true a h
    by x (RelaxedBy.nothing a e) = some_none _ false a h
    by x (RelaxedBy.one r a d e) = fault.stands_for_none r d

pub star_text : (text : List ℕ) → same_text text (codes "*") ≡ true → text ≡ codes "*"
star_text [] h = absurd (true≢false (sym h))
star_text (x ∷ []) h = λ i. eqb-true x 42 (and_parts (nat_eq x 42) true h).0 i ∷ []
star_text (x ∷ y ∷ text) h = absurd (true≢false (sym (and_parts (nat_eq x 42) false h).1))

pub not_star : (text : List ℕ) → same_text text (codes "*") ≡ false → text ≡ codes "*" → ⊥
not_star text h e = false≢true (sym h ∙ ap (λ t. pointwise nat_eq t (codes "*")) e)

pub all_text : (text : List ℕ) → same_text text (codes ":*") ≡ true → text ≡ codes ":*"
all_text [] h = absurd (true≢false (sym h))
all_text (x ∷ []) h = absurd (true≢false (sym (and_parts (nat_eq x 58) false h).1))
all_text (x ∷ y ∷ []) h =
    let p = and_parts (nat_eq x 58) (nat_eq y 42 && true) h in
    λ i. eqb-true x 58 p.0 i ∷ (eqb-true y 42 (and_parts (nat_eq y 42) true p.1).0 i ∷ [])
all_text (x ∷ y ∷ z ∷ text) h = absurd (true≢false (sym (and_parts (nat_eq y 42) false (and_parts (nat_eq x 58) (nat_eq y 42 && false) h).1).1))

not_all : (text : List ℕ) → same_text text (codes ":*") ≡ false → text ≡ codes ":*" → ⊥
not_all text h e = false≢true (sym h ∙ ap (λ t. pointwise nat_eq t (codes ":*")) e)

pub never_all : (word : List ℕ) → behind is_no_colon word ≡ codes ":*" → is_package_name (run is_no_colon word) ≡ false → (x : Relax) → Dependency word x → ⊥
never_all word e h x (Dependency.dep a k f) = nothing_or_colon _ (codes "*") a e
never_all word e h x (Dependency.of o n b w k f) = star n (tail_same (sym b ∙ e)) k
never_all word e h x (Dependency.all b k f) = true≢false (sym k ∙ h)

pub never_of : (word text name : List ℕ) → text ≡ behind is_no_colon word → text ≡ codes ":" ++ name → same_text text (codes ":*") ≡ false
    → ((o : RelaxOwner) → Owner (run is_no_colon word) o → is_package_name name ≡ true → ⊥) → (x : Relax) → Dependency word x → ⊥
never_of word text name r e h never x (Dependency.dep a k f) = nothing_or_colon _ name a (sym r ∙ e)
never_of word text name r e h never x (Dependency.of o n b w k f) = never o w (subst (λ t. is_package_name t ≡ true) (tail_same (sym b ∙ sym r ∙ e)) k)
never_of word text name r e h never x (Dependency.all b k f) = not_all text h (r ∙ b)

pub one_text : (parts : List (Bor (List ℕ))) (d : Bor (List ℕ)) → 1 ≤ length parts → length parts < 2 → texts parts ≡ (get_or parts 0 d).now ∷ []
one_text [] d h k = absurd (omega (arith, h))
one_text (part ∷ []) d h k = refl
one_text (part ∷ next ∷ parts) d h k = absurd (omega (arith, k))

pub word_same : (text : List (List ℕ)) (a b : List ℕ) → text ≡ a ∷ [] → text ≡ b ∷ [] → a ≡ b
word_same text a b e f = one_word (sym e ∙ f)

pub refused_reading : (text : List ℕ) (result : Result (List Relax) TextFault) (fault : TextFault) → result ≡ Err fault → Refuses (RelaxFault text) fault
    → (xs : List Relax) → Relaxes text xs → MatchResult result (λ found. found ≡ xs) (Refuses (λ _. ⊥))
refused_reading text result fault e h xs r =
    subst (λ t. MatchResult t (λ found. found ≡ xs) (Refuses (λ _. ⊥))) (sym e)
    (refuses_so fault (λ c f. reading_or_fault RelaxEntry (IsBadConstraint RelaxEntry) relax_settled.not_both text r.each c r.entries f) h)

pub refused_fault : (text : List ℕ) (result : Result (List Relax) TextFault) (fault : TextFault) → result ≡ Err fault → Refuses (RelaxFault text) fault
    → (c : Cause) → RelaxFault text c → MatchResult result (λ _. ⊥) (Refuses (λ why. why ≡ c))
refused_fault text result fault e h c g =
    subst (λ t. MatchResult t (λ _. ⊥) (Refuses (λ why. why ≡ c))) (sym e)
    (refuses_so fault (λ d f. one_first RelaxEntry (IsBadConstraint RelaxEntry) relax_settled text d c f g) h)

pub given_reading : (text : List ℕ) (each : List (Option Relax)) (found : List Relax) → HasEntries RelaxEntry text each → found ≡ filter_map (λ relax. relax) each
    → (xs : List Relax) → Relaxes text xs → found ≡ xs
given_reading text each found is e xs r = e ∙ ap (filter_map (λ relax. relax)) (one_reading RelaxEntry relax_settled.one text each r.each is r.entries) ∙ sym r.is

pub no_fault : (text : List ℕ) (each : List (Option Relax)) → HasEntries RelaxEntry text each → (c : Cause) → RelaxFault text c → ⊥
no_fault text each is c f = reading_or_fault RelaxEntry (IsBadConstraint RelaxEntry) relax_settled.not_both text each c is f
