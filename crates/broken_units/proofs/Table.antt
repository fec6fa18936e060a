-- The table of users, after one more user.
use Rattle.std.proofs.Common.{zero, suc, ◌≡◌, ◌<◌, ◌≤◌, ◌⊎◌, ◌↔◌, ℕ, ◌+◌, List, [], ◌∷◌, ◌++◌, length, get_or, set, take, refl, sym, subst, ap, ◌∙◌, arith}
use Rattle.std.specs.Prelude.{Contains}
use Rattle.std.proofs.Common.{inl, inr, ⊎_elim}
use Rattle.std.proofs.lemmas.Bool.{cases_eq}
use Rattle.std.proofs.lemmas.List.{get_or_read, get_or-set_same, get_or-set_other, take_more}
use Rattle.std.proofs.lemmas.List.Elements.{Contains-append_left, Contains-push, Contains-push_cases}
use Rattle.common_laws.specs.Lists.{contains-none}
use Rattle.broken_units.specs.Leads.{IsUser}
use Rattle.common_laws.specs.Graphs.{Needs, needs_within}

abbrev pub Added : List (List ℕ) → ℕ → ℕ → ℕ → ℕ → Type 0
Added users node user u v = IsUser users u v ⊎ ((u ≡ user) × (v ≡ node) × (v < length users))

module _ (users : List (List ℕ)) (node user : ℕ) (old new : List ℕ) (within : node < length users) (before : old ≡ get_or users node old) (after : new ≡ old ++ user ∷ []) where
  now : get_or (set users node new) node [] ≡ get_or users node [] ++ user ∷ []
  now = get_or-set_same users node new [] within ∙ after ∙ ap (λ l. l ++ user ∷ []) (get_or_read users node old within before [])

  here : (u : ℕ) → IsUser (set users node new) u node ↔ Added users node user u node
  here u = (
    (λ h. ⊎_elim (λ l. inl l) (λ e. inr (sym e, refl, within)) (Contains-push_cases (get_or users node []) user u (subst (λ l. Contains l u) now h))),
    λ h. subst (λ l. Contains l u) (sym now)
        (⊎_elim (λ l. Contains-append_left (get_or users node []) (user ∷ []) u l) (λ e. subst (λ w. Contains (get_or users node [] ++ user ∷ []) w) (sym e.0) (Contains-push (get_or users node []) user)) h),
  )

  there : (u v : ℕ) → (v ≡ node → ⊥) → IsUser (set users node new) u v ↔ Added users node user u v
  there u v other =
      let same : get_or (set users node new) v [] ≡ get_or users v [] = get_or-set_other users node v new [] other in
      ((λ h. inl (subst (λ l. Contains l u) same h)), λ h. ⊎_elim (λ l. subst (λ l. Contains l u) (sym same) l) (λ e. absurd (other e.1)) h)

  pub added : (u v : ℕ) → IsUser (set users node new) u v ↔ Added users node user u v
  added u v = ⊎_elim (λ e. subst (λ w. IsUser (set users node new) u w ↔ Added users node user u w) (sym e) (here u)) (λ n. there u v n) (cases_eq v node)

module _ (old : List (List ℕ)) (user : ℕ) (nodes : List ℕ) where
  -- the table after some of a user's nodes
  abbrev pub With : List (List ℕ) → List ℕ → Type 0
  With users gone = (length users ≡ length old) × ((u v : ℕ) → IsUser users u v ↔ IsUser old u v ⊎ ((u ≡ user) × Contains gone v × (v < length old)))

  pub with_none : With old []
  with_none = (refl, λ u v. ((λ h. inl h), λ h. ⊎_elim (λ l. l) (λ e. absurd (contains-none v e.1)) h))

  pub with_one : (users users' : List (List ℕ)) (i node : ℕ) → i < length nodes → node ≡ get_or nodes i 0 → With users (take i nodes) →
      length users' ≡ length users → ((u v : ℕ) → IsUser users' u v ↔ Added users node user u v) → With users' (take (i + 1) nodes)
  with_one users users' i node lt is before same step =
      let more = take_more nodes i 0 lt ∙ ap (λ n. take i nodes ++ n ∷ []) (sym is) in (
        same ∙ before.0,
        λ u v. subst (λ gone. IsUser users' u v ↔ IsUser old u v ⊎ ((u ≡ user) × Contains gone v × (v < length old))) (sym more) (
          (λ h. ⊎_elim
              (λ l. ⊎_elim (λ o. inl o) (λ e. inr (e.0, Contains-append_left (take i nodes) (node ∷ []) v e.1, e.2)) ((before.1 u v).0 l))
              (λ e. inr (e.0, subst (λ w. Contains (take i nodes ++ node ∷ []) w) (sym e.1) (Contains-push (take i nodes) node), subst (λ n. v < n) before.0 e.2))
              ((step u v).0 h)),
          λ h. (step u v).1 (⊎_elim
              (λ o. inl ((before.1 u v).1 (inl o)))
              (λ e. ⊎_elim
              (λ c. inl ((before.1 u v).1 (inr (e.0, c, e.2))))
              (λ n. inr (e.0, sym n, subst (λ n. v < n) (sym before.0) e.2))
              (Contains-push_cases (take i nodes) node v e.1))
              h),
        ),
      )

pub none_pushed : (users : List (List ℕ)) → ((v : ℕ) → get_or users v [] ≡ []) → (v : ℕ) → get_or (users ++ [] ∷ []) v [] ≡ []
none_pushed [] h zero = refl
none_pushed [] h (suc v) = refl
none_pushed (x ∷ xs) h zero = h 0
none_pushed (x ∷ xs) h (suc v) = none_pushed xs (λ w. h (suc w)) v

pub no_user : (users : List (List ℕ)) → ((v : ℕ) → get_or users v [] ≡ []) → (u v : ℕ) → IsUser users u v → ⊥
no_user users h u v l = contains-none u (subst (λ us. Contains us u) (h v) l)

module _ (needs : List (List ℕ)) where
  -- the table after the first n users
  abbrev pub Users : List (List ℕ) → ℕ → Type 0
  Users users n = (length users ≡ length needs) × ((u v : ℕ) → IsUser users u v ↔ (u < n) × Needs needs u v × (v < length needs))

  pub users_none : (users : List (List ℕ)) → length users ≡ length needs → ((u v : ℕ) → IsUser users u v → ⊥) → Users users 0
  users_none users same none = (same, λ u v. ((λ h. absurd (none u v h)), λ h. absurd (omega (arith, h.0))))

  pub users_one : (users users' : List (List ℕ)) (n : ℕ) (nodes : List ℕ) → nodes ≡ get_or needs n [] → Users users n →
      With users n nodes users' nodes → Users users' (n + 1)
  users_one users users' n nodes is before step = (
    step.0 ∙ before.0,
    λ u v. (
      (λ h. ⊎_elim
          (λ o. let b = (before.1 u v).0 o in (omega (arith, b.0), b.1, b.2))
          (λ e. (omega (arith, e.0), subst (λ l. Contains l v) (is ∙ ap (λ w. get_or needs w []) (sym e.0)) e.1, subst (λ k. v < k) before.0 e.2))
          ((step.1 u v).0 h)),
      λ h. (step.1 u v).1 (⊎_elim
          (λ e. inr (e, subst (λ l. Contains l v) (ap (λ w. get_or needs w []) e ∙ sym is) h.1, subst (λ k. v < k) (sym before.0) h.2))
          (λ d. inl ((before.1 u v).1 (omega (arith, h.0), h.1, h.2)))
          (cases_eq u n)),
    ),
  )

  pub users_all : (users : List (List ℕ)) (n : ℕ) → length needs ≤ n → Users users n →
      (length users ≡ length needs) × ((u v : ℕ) → IsUser users u v ↔ Needs needs u v × (v < length needs))
  users_all users n over all =
      (all.0, λ u v. ((λ h. let a = (all.1 u v).0 h in (a.1, a.2)), λ h. let w = needs_within needs u v h.0 in (all.1 u v).1 (omega arith, h.0, h.1)))
