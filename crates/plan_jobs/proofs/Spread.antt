-- The marks of held nodes, while they spread from nodes to their users.
use Rattle.std.proofs.Common.{◌≡◌, ◌<◌, ◌≤◌, ◌+◌, ◌*◌, ◌⊎◌, inl, inr, ⊎_elim, ℕ, zero, suc, Bool, true, false, not, cond, List, [], ◌∷◌, ◌++◌, length, get_or, set, replicate, refl, sym, subst, ◌∙◌, arith}
use Rattle.std.specs.Prelude.{◌↔◌, Contains, All, count_by}
use Rattle.std.proofs.lemmas.Bool.{cases_eq}
use Rattle.std.proofs.lemmas.List.{get_or-set_same, get_or-set_other, length-set, length-replicate}
use Rattle.std.proofs.lemmas.List.Sums.{sum_by-set}
use Rattle.std.proofs.lemmas.List.Elements.{Contains-get_or}
use Rattle.common_laws.specs.Lists.{contains-none, contains-cases, contains-head, contains-left, contains-right, contains-append}
use Rattle.common_laws.specs.Graphs.{IsMarked, last, more}
use Rattle.plan_jobs.specs.declared.job.JobState.{JobState}
use Rattle.plan_jobs.specs.declared.job.JobState.TheVariants.{Waiting}
use Rattle.plan_jobs.specs.Marks.{NoneMarked}
use Rattle.plan_jobs.specs.Board.{AreBegun, AreHeld, MarksMore, MarksUsers, IsUser, Leads, state_at}

-- a place is marked or not
pub marked_or : (marks : List Bool) (place : ℕ) → IsMarked marks place ⊎ (IsMarked marks place → ⊥)
marked_or marks place = elim (get_or marks place false) as (λ b. (b ≡ true) ⊎ (b ≡ true → ⊥)) [ true ↦ inl refl | false ↦ inr (λ e. cc) ]

pub none_there : (n : ℕ) (place : ℕ) → IsMarked (replicate n false) place → ⊥
none_there zero place m = cc
none_there (suc n) zero m = cc
none_there (suc n) (suc place) m = none_there n place m

-- the marks after one more is set
pub marked-set : (marks : List Bool) (at : ℕ) (place : ℕ) → at < length marks → IsMarked (set marks at true) place ↔ IsMarked marks place ⊎ (place ≡ at)
marked-set marks at place lt = ⊎_elim
    (λ e. ((λ m. inr e), λ m. subst (λ k. IsMarked (set marks at true) k) (sym e) (get_or-set_same marks at true false lt)))
    (λ n. let stays = get_or-set_other marks at place true false n in (
      (λ m. inl (sym stays ∙ m)),
      λ m. ⊎_elim (λ o. stays ∙ o) (λ e. absurd (n e)) m,
    ))
    (cases_eq place at)

pub marked-unset : (marks : List Bool) (at : ℕ) (place : ℕ) → at < length marks → IsMarked (set marks at false) place ↔ IsMarked marks place × (place ≡ at → ⊥)
marked-unset marks at place lt = ⊎_elim
    (λ e. (
      (λ m. absurd (let no : false ≡ true = sym (get_or-set_same marks at false false lt) ∙ subst (λ k. IsMarked (set marks at false) k) e m in cc)),
      λ m. absurd (m.1 e),
    ))
    (λ n. let stays = get_or-set_other marks at place false false n in ((λ m. (sym stays ∙ m, n)), λ m. stays ∙ m.0))
    (cases_eq place at)

-- users are nodes
pub users_within : (users : List (List ℕ)) (states : List JobState) (place : ℕ) → AreBegun users states → All (λ user. user < length states) (get_or users place [])
users_within users states place b k d lt = b.within (get_or (get_or users place []) k d) place (Contains-get_or (get_or users place []) k d lt)

pub holds_none : (states : List JobState) (held work : List Bool) → MarksUsers [] states held held work work
holds_none states held work =
    record {
      same = refl;
      room = refl;
      stays = λ u m. m;
      found = λ u m. inl m;
      closed = λ u c w. absurd (contains-none u c);
      work = λ u. ((λ m. inl m), λ m. ⊎_elim (λ o. o) (λ b. absurd (b.1 b.0)) m);
      fewer = omega arith;
    }

pub holds_both : (xs ys : List ℕ) (states : List JobState) (a b c wa wb wc : List Bool) → MarksUsers xs states a b wa wb → MarksUsers ys states b c wb wc → MarksUsers (xs ++ ys) states a c wa wc
holds_both xs ys states a b c wa wb wc h k =
    record {
      same = k.same ∙ h.same;
      room = k.room ∙ h.room;
      stays = λ u m. k.stays u (h.stays u m);
      found = λ u m. ⊎_elim
          (λ o. ⊎_elim (λ p. inl p) (λ p. inr (p.0, contains-left xs ys u p.1)) (h.found u o))
          (λ p. inr (p.0, contains-right xs ys u p.1))
          (k.found u m);
      closed = λ u i w. ⊎_elim (λ l. k.stays u (h.closed u l w)) (λ r. k.closed u r w) (contains-append xs ys u i);
      work = λ u. (
        (λ m. ⊎_elim
            (λ o. ⊎_elim (λ p. inl p) (λ p. inr (k.stays u p.0, p.1)) ((h.work u).0 o))
            (λ p. inr (p.0, λ q. p.1 (h.stays u q)))
            ((k.work u).0 m)),
        λ m. ⊎_elim
            (λ o. (k.work u).1 (inl ((h.work u).1 (inl o))))
            (λ p. ⊎_elim
            (λ q. (k.work u).1 (inl ((h.work u).1 (inr (q, p.1)))))
            (λ q. (k.work u).1 (inr (p.0, q)))
            (marked_or b u))
            m,
      );
      fewer = let f = h.fewer in let g = k.fewer in omega (arith, f, g);
    }

count_true : (p : Bool → Bool) (marks : List Bool) (at : ℕ) → at < length marks → count_by p (set marks at true) + cond (p (get_or marks at false)) 1 0 ≡ count_by p marks + cond (p true) 1 0
count_true p marks at lt = sum_by-set (λ b. cond (p b) 1 0) marks at true false lt

at_most_one : (b : Bool) → cond b 1 0 ≤ 1
at_most_one true = omega arith
at_most_one false = omega arith

pub holds_one : (states : List JobState) (held work : List Bool) (user : ℕ) → user < length states → length held ≡ length states → length states ≤ length work → state_at states user ≡ Waiting
    → get_or held user false ≡ false → MarksUsers (user ∷ []) states held (set held user true) work (set work user true)
holds_one states held work user lt count room waits free =
    let in_held : user < length held = omega (arith, count) in
    let in_work : user < length work = omega (arith, room) in
    let fresh : IsMarked held user → ⊥ = λ m. let no : false ≡ true = sym free ∙ m in cc in
    let cn : count_by not (set held user true) + cond (not (get_or held user false)) 1 0 ≡ count_by not held + 0 = count_true not held user in_held in
    let cn' : count_by not (set held user true) + 1 ≡ count_by not held + 0 = subst (λ b. count_by not (set held user true) + cond (not b) 1 0 ≡ count_by not held + 0) free cn in
    let cw : count_by (λ mark. mark) (set work user true) + cond (get_or work user false) 1 0 ≡ count_by (λ mark. mark) work + 1 = count_true (λ mark. mark) work user in_work in
    record {
      same = length-set held user true;
      room = length-set work user true;
      stays = λ u m. (marked-set held user u in_held).1 (inl m);
      found = λ u m. ⊎_elim (λ o. inl o) (λ e. inr (subst (λ k. (state_at states k ≡ Waiting) × Contains (user ∷ []) k) (sym e) (waits, contains-head user []))) ((marked-set held user u in_held).0 m);
      closed = λ u c w. ⊎_elim (λ e. (marked-set held user u in_held).1 (inr (sym e))) (λ n. absurd (contains-none u n)) (contains-cases user [] u c);
      work = λ u. (
        (λ m. ⊎_elim (λ o. inl o) (λ e. inr ((marked-set held user u in_held).1 (inr e), λ q. fresh (subst (λ k. IsMarked held k) e q))) ((marked-set work user u in_work).0 m)),
        λ m. ⊎_elim (λ o. (marked-set work user u in_work).1 (inl o))
            (λ p. (marked-set work user u in_work).1 (inr (⊎_elim (λ o. absurd (p.1 o)) (λ e. e) ((marked-set held user u in_held).0 p.0))))
            m,
      );
      fewer = omega (arith, cn', cw);
    }

-- a user that doesn't wait, or is marked already, changes nothing
pub holds_not : (states : List JobState) (held work : List Bool) (user : ℕ) → (state_at states user ≡ Waiting → IsMarked held user) → MarksUsers (user ∷ []) states held held work work
holds_not states held work user done =
    record {
      same = refl;
      room = refl;
      stays = λ u m. m;
      found = λ u m. inl m;
      closed = λ u c w. ⊎_elim (λ e. subst (λ k. IsMarked held k) e (done (subst (λ k. state_at states k ≡ Waiting) (sym e) w))) (λ n. absurd (contains-none u n)) (contains-cases user [] u c);
      work = λ u. ((λ m. inl m), λ m. ⊎_elim (λ o. o) (λ b. absurd (b.1 b.0)) m);
      fewer = omega arith;
    }

-- while marks spread, the waiting users of marked nodes are marked, except those of nodes still to be visited
pub record IsHolding (users : List (List ℕ)) (states : List JobState) (place : ℕ) (old held old_work work : List Bool) : Type 0 where
  pub same : length held ≡ length old
  pub room : length work ≡ length old_work
  pub stays : (user : ℕ) → IsMarked old user → IsMarked held user
  pub found : (user : ℕ) → IsMarked held user → IsMarked old user ⊎ ((state_at states user ≡ Waiting) × Leads users user place)
  pub closed : (user need : ℕ) → IsUser users user need → state_at states user ≡ Waiting
      → (need ≡ place) ⊎ (IsMarked held need × (IsMarked old need → ⊥)) → IsMarked held user ⊎ IsMarked work need
  pub ways : (user : ℕ) → IsMarked work user → Leads users user place
  pub within : (user : ℕ) → IsMarked work user → user < length states

module _ (users : List (List ℕ)) (states : List JobState) (place : ℕ) (b : AreBegun users states) where
  pub holding_begins : (old held old_work work : List Bool) → NoneMarked old_work → length old ≡ length states → MarksUsers (get_or users place []) states old held old_work work
      → IsHolding users states place old held old_work work
  holding_begins old held old_work work idle count h =
      record {
        same = h.same;
        room = h.room;
        stays = h.stays;
        found = λ u m. ⊎_elim (λ o. inl o) (λ p. inr (p.0, last p.1)) (h.found u m);
        closed = λ u n i w e. ⊎_elim
            (λ s. inl (h.closed u (subst (λ k. IsUser users u k) s i) w))
            (λ p. inr ((h.work n).1 (inr p)))
            e;
        ways = λ u m. ⊎_elim (λ o. absurd (idle u o)) (λ p. ⊎_elim (λ o. absurd (p.1 o)) (λ q. last q.1) (h.found u p.0)) ((h.work u).0 m);
        within = λ u m. ⊎_elim (λ o. absurd (idle u o)) (λ p. ⊎_elim (λ o. absurd (p.1 o)) (λ q. b.within u place q.1) (h.found u p.0)) ((h.work u).0 m);
      }

  pub holding_goes : (old held held' old_work work work' : List Bool) (next : ℕ) → IsHolding users states place old held old_work work → IsMarked work next → next < length work
      → MarksUsers (get_or users next []) states held held' (set work next false) work' → IsHolding users states place old held' old_work work'
  holding_goes old held held' old_work work work' next s m lt h =
      let left = λ (u : ℕ). marked-unset work next u lt in
      record {
        same = h.same ∙ s.same;
        room = h.room ∙ length-set work next false ∙ s.room;
        stays = λ u o. h.stays u (s.stays u o);
        found = λ u k. ⊎_elim (s.found u) (λ p. inr (p.0, more p.1 (s.ways next m))) (h.found u k);
        closed = λ u n i w e.
            let go = λ (c : IsMarked held u ⊎ IsMarked work n). ⊎_elim
            (λ o. inl (h.stays u o))
            (λ k. ⊎_elim
            (λ q. inl (h.closed u (subst (λ k. IsUser users u k) q i) w))
            (λ q. inr ((h.work n).1 (inl ((left n).1 (k, q)))))
            (cases_eq n next))
            c in
            ⊎_elim
            (λ q. go (s.closed u n i w (inl q)))
            (λ q. ⊎_elim
            (λ o. go (s.closed u n i w (inr (o, q.1))))
            (λ o. inr ((h.work n).1 (inr (q.0, o))))
            (marked_or held n))
            e;
        ways = λ u k. ⊎_elim
            (λ o. s.ways u ((left u).0 o).0)
            (λ p. ⊎_elim (λ o. absurd (p.1 o)) (λ q. more q.1 (s.ways next m)) (h.found u p.0))
            ((h.work u).0 k);
        within = λ u k. ⊎_elim
            (λ o. s.within u ((left u).0 o).0)
            (λ p. ⊎_elim (λ o. absurd (p.1 o)) (λ q. b.within u next q.1) (h.found u p.0))
            ((h.work u).0 k);
      }

  pub holding_ends : (old held old_work work : List Bool) → IsHolding users states place old held old_work work → NoneMarked work → MarksMore users states place old held
  holding_ends old held old_work work s none =
      record {
        same = s.same;
        stays = s.stays;
        found = s.found;
        closed = λ u n i w e. ⊎_elim (λ m. m) (λ k. absurd (none n k)) (s.closed u n i w e);
      }

pub fewer_left : (held held' work work' : List Bool) (next : ℕ) (users : List ℕ) (states : List JobState) → IsMarked work next → next < length work
    → MarksUsers users states held held' (set work next false) work'
    → 2 * count_by not held' + count_by (λ mark. mark) work' < 2 * count_by not held + count_by (λ mark. mark) work
fewer_left held held' work work' next users states m lt h =
    let f = h.fewer in
    let c : count_by (λ mark. mark) (set work next false) + cond (get_or work next false) 1 0 ≡ count_by (λ mark. mark) work + 0 = sum_by-set (λ (b : Bool). cond b 1 0) work next false false lt in
    let c' : count_by (λ mark. mark) (set work next false) + 1 ≡ count_by (λ mark. mark) work + 0 =
    subst (λ b. count_by (λ mark. mark) (set work next false) + cond b 1 0 ≡ count_by (λ mark. mark) work + 0) m c in
    omega (arith, f, c')

module _ (users : List (List ℕ)) (states : List JobState) where
  -- one more node has failed, and its waiting users were marked
  pub held_more : (P Q : ℕ → Type 0) (place : ℕ) (old new : List Bool) → AreHeld users states P old → MarksMore users states place old new
      → Q place → ((need : ℕ) → P need → Q need) → ((need : ℕ) → Q need → P need ⊎ (need ≡ place)) → AreHeld users states Q new
  held_more P Q place old new h s here up down =
      record {
        count = s.same ∙ h.count;
        sound = λ u m. ⊎_elim
            (λ o. let k = h.sound u o in record { waits = k.waits; need = k.need; path = k.path; broken = up k.need k.broken })
            (λ p. record { waits = p.0; need = place; path = p.1; broken = here })
            (s.found u m);
        closed = λ u n i w e. ⊎_elim
            (λ q. ⊎_elim (λ p. s.stays u (h.closed u n i w (inl p))) (λ q. s.closed u n i w (inl q)) (down n q))
            (λ m. ⊎_elim (λ o. s.stays u (h.closed u n i w (inr o))) (λ o. s.closed u n i w (inr (m, o))) (marked_or old n))
            e;
      }

  pub held_same : (P Q : ℕ → Type 0) (held : List Bool) → AreHeld users states P held → ((need : ℕ) → P need ↔ Q need) → AreHeld users states Q held
  held_same P Q held h same =
      record {
        count = h.count;
        sound = λ u m. let k = h.sound u m in record { waits = k.waits; need = k.need; path = k.path; broken = (same k.need).0 k.broken };
        closed = λ u n i w e. h.closed u n i w (⊎_elim (λ q. inl ((same n).1 q)) (λ m. inr m) e);
      }

  pub held_none : (P : ℕ → Type 0) → ((need : ℕ) → P need → ⊥) → AreHeld users states P (replicate (length states) false)
  held_none P none =
      record {
        count = length-replicate (length states) false;
        sound = λ u m. absurd (none_there (length states) u m);
        closed = λ u n i w e. ⊎_elim (λ q. absurd (none n q)) (λ m. absurd (none_there (length states) n m)) e;
      }
