-- The invariant of a build order under construction, from begin to end.
use Rattle.std.proofs.Common.{◌≡◌, ◌<◌, ◌≤◌, ◌+◌, ◌⊎◌, ◌↔◌, inl, inr, ⊎_elim, ℕ, zero, suc, Bool, true, false, not, cond, List, [], ◌∷◌, ◌++◌, length, get_or, set, replicate, refl, sym, subst, ap, ◌∙◌, arith, length-append}
use Rattle.std.specs.Prelude.{Contains, All, count_by}
use Rattle.std.proofs.lemmas.Bool.{cases_eq, cases_lt}
use Rattle.std.proofs.lemmas.List.{get_or_default, get_or-set_same, get_or-set_other, length-set, length-replicate}
use Rattle.std.proofs.lemmas.List.Sums.{sum_by-set}
use Rattle.std.proofs.lemmas.List.Elements.{Contains-append_left, Contains-push, Contains-push_cases}
use Rattle.std.proofs.lemmas.Bool.{false_from_ne_true}
use Rattle.build_order.specs.declared.building.Wait.{Wait}
use Rattle.build_order.specs.declared.building.Building.{Building}
use Rattle.build_order.specs.Order.{IsReady, IsLeastReady, IsBuildOrder}
use Rattle.common_laws.specs.Lists.{contains-none, push_split}
use Rattle.common_laws.specs.Graphs.{IsMarked, Needs}
use Rattle.build_order.specs.Building.{AreMet, IsFirstUnmet, IsTakenAsLeast, IsMetBefore, IsWait, NoNode, Alone, Keeps, IsSound, BecomesReady, HasToWait, Waits, needs_of}

pub default_past : {X : Type 0} (n i : ℕ) (d : X) → get_or (replicate n d) i d ≡ d
default_past zero i d = refl
default_past (suc n) zero d = refl
default_past (suc n) (suc i) d = default_past n i d

-- u is the node of one of these waits
abbrev pub IsIn : List Wait → ℕ → Type 0
IsIn waits u = (w : Wait) × Contains waits w × (w.node ≡ u)

module _ (needs : List (List ℕ)) where
  -- the order and its marks stay; other nodes are ready, wait or are open
  with_others : (P Q : ℕ → Type 0) (o : List ℕ) (m : List Bool) (r r' : List ℕ) (w w' : List (List Wait)) → Keeps needs P o m r w → length w' ≡ length needs
      → ((u : ℕ) → Contains r' u → IsReady needs o u) → ((v : ℕ) (wait : Wait) → Contains (get_or w' v []) wait → IsWait needs o v wait)
      → ((u : ℕ) → u < length needs → (Contains o u → ⊥) → Contains r' u ⊎ Waits w' u ⊎ Q u) → Keeps needs Q o m r' w'
  with_others P Q o m r r' w w' k tables first waits found =
      record { count = k.count; tables = tables; each = k.each; placed = k.placed; first = first; waits = waits; found = found }

  pub same : (P Q : ℕ → Type 0) (o o' : List ℕ) (m m' : List Bool) (r r' : List ℕ) (w w' : List (List Wait)) → o' ≡ o → m' ≡ m → r' ≡ r → w' ≡ w →
      ((u : ℕ) → u < length needs → P u → Q u) → Keeps needs P o m r w → Keeps needs Q o' m' r' w'
  same P Q o o' m m' r r' w w' io im ir iw more k =
      subst (λ x. Keeps needs Q x m' r' w') (sym io) (subst (λ x. Keeps needs Q o x r' w') (sym im) (subst (λ x. Keeps needs Q o m x w') (sym ir) (subst (λ x. Keeps needs Q o m r x) (sym iw)
      (with_others P Q o m r r w w k k.tables k.first k.waits
      (λ u l n. ⊎_elim (λ a. inl a) (λ b. ⊎_elim (λ c. inr (inl c)) (λ p. inr (inr (more u l p))) b) (k.found u l n))))))

  pub begins : Keeps needs (λ u. 0 ≤ u) [] (replicate (length needs) false) [] (replicate (length needs) [])
  begins =
      record {
        count = length-replicate (length needs) false;
        tables = length-replicate (length needs) [];
        each = λ front rest u e. absurd (omega (arith, ap length e, length-append front (u ∷ rest)));
        placed = λ u. ((λ m. absurd (let no : false ≡ true = sym (default_past (length needs) u false) ∙ m in cc)), λ c. absurd (contains-none u c));
        first = λ u c. absurd (contains-none u c);
        waits = λ v w c. absurd (contains-none w (subst (λ l. Contains l w) (default_past (length needs) v []) c));
        found = λ u l n. inr (inr (omega arith));
      }

  module _ (P Q : ℕ → Type 0) (order : List ℕ) (marks : List Bool) (ready : List ℕ) (waiting : List (List Wait)) (s : Keeps needs P order marks ready waiting)
      (node from : ℕ) (m : IsMetBefore needs order node from) (opens : (u : ℕ) → P u → (u ≡ node) ⊎ Q u) where
    met_more : (to : ℕ) → AreMet (needs_of needs node) marks from to → (k : ℕ) → k < to → k < length (needs_of needs node) → Contains order (get_or (needs_of needs node) k 0)
    met_more to a k lt l = ⊎_elim (λ b. m.met k b l) (λ b. (s.placed (get_or (needs_of needs node) k 0)).0 (a k b lt)) (cases_lt k from)

    module _ (met : AreMet (needs_of needs node) marks from (length (needs_of needs node))) (ready' : List ℕ) (more : (u : ℕ) → Contains ready' u ↔ Contains ready u ⊎ (u ≡ node)) where
      is_ready : IsReady needs order node
      is_ready =
          record {
            node = m.within;
            unplaced = m.unplaced;
            met = λ v n. subst (λ k. Contains order k) (get_or_default (needs_of needs node) n.0 0 v n.1 ∙ n.2) (met_more (length (needs_of needs node)) met n.0 n.1 n.1);
          }

      pub becomes_ready : Keeps needs Q order marks ready' waiting
      becomes_ready =
          with_others P Q order marks ready ready' waiting waiting s s.tables
          (λ u c. ⊎_elim (λ o. s.first u o) (λ e. subst (λ k. IsReady needs order k) (sym e) is_ready) ((more u).0 c)) s.waits
          (λ u l n. ⊎_elim (λ a. inl ((more u).1 (inl a)))
          (λ b. ⊎_elim (λ w. inr (inl w)) (λ p. ⊎_elim (λ e. inl ((more u).1 (inr e))) (λ q. inr (inr q)) (opens u p)) b)
          (s.found u l n))

    module _ (place : ℕ) (unmet : IsFirstUnmet (needs_of needs node) marks from place) (bound : get_or (needs_of needs node) place 0 < length needs) where
      abbrev need : ℕ
      need = get_or (needs_of needs node) place 0

      abbrev wait : Wait
      wait = record { node = node; place = place }

      abbrev list : List Wait
      list = get_or waiting need [] ++ wait ∷ []

      within : need < length waiting
      within = subst (λ n. need < n) (sym s.tables) bound

      here : get_or (set waiting need list) need [] ≡ list
      here = get_or-set_same waiting need list [] within

      there : (v : ℕ) → (v ≡ need → ⊥) → get_or (set waiting need list) v [] ≡ get_or waiting v []
      there v n = get_or-set_other waiting need v list [] n

      is_wait : IsWait needs order need wait
      is_wait =
          record {
            before = record { within = m.within; unplaced = m.unplaced; met = met_more place unmet.met };
            within = unmet.within;
            need = refl;
            unplaced = λ c. unmet.unmet ((s.placed need).1 c);
          }

      waits' : (v : ℕ) (w : Wait) → Contains (get_or (set waiting need list) v []) w → IsWait needs order v w
      waits' v w c = ⊎_elim
          (λ e. let at = subst (λ k. Contains (get_or (set waiting need list) k []) w) e c in
          subst (λ k. IsWait needs order k w) (sym e)
          (⊎_elim (λ o. s.waits need w o) (λ i. subst (λ x. IsWait needs order need x) i is_wait) (Contains-push_cases (get_or waiting need []) wait w (subst (λ l. Contains l w) here at))))
          (λ n. s.waits v w (subst (λ l. Contains l w) (there v n) c))
          (cases_eq v need)

      grown : (v : ℕ) (w : Wait) → Contains (get_or waiting v []) w → Contains (get_or (set waiting need list) v []) w
      grown v w c = ⊎_elim
          (λ e. subst (λ k. Contains (get_or (set waiting need list) k []) w) (sym e)
          (subst (λ l. Contains l w) (sym here) (Contains-append_left (get_or waiting need []) (wait ∷ []) w (subst (λ k. Contains (get_or waiting k []) w) e c))))
          (λ n. subst (λ l. Contains l w) (sym (there v n)) c)
          (cases_eq v need)

      itself : Contains (get_or (set waiting need list) need []) wait
      itself = subst (λ l. Contains l wait) (sym here) (Contains-push (get_or waiting need []) wait)

      pub has_to_wait : Keeps needs Q order marks ready (set waiting need list)
      has_to_wait =
          with_others P Q order marks ready ready waiting (set waiting need list) s (length-set waiting need list ∙ s.tables) s.first waits'
          (λ u l n. ⊎_elim (λ a. inl a)
          (λ b. ⊎_elim (λ w. inr (inl (w.0, w.1, grown w.0 w.1 w.2, w.3)))
          (λ p. ⊎_elim (λ e. inr (inl (need, wait, itself, sym e))) (λ q. inr (inr q)) (opens u p)) b)
          (s.found u l n))

  pub settled : (P Q : ℕ → Type 0) (old new : Building) (node from : ℕ) → All (All (λ v. v < length needs)) needs → IsSound needs P old → IsMetBefore needs old.order node from →
      ((u : ℕ) → P u → (u ≡ node) ⊎ Q u) → new.order ≡ old.order → new.placed ≡ old.placed → BecomesReady needs node from old new ⊎ HasToWait needs node from old new → IsSound needs Q new
  settled P Q old new node from graph s m opens order placed outcome = ⊎_elim
      (λ r. same Q Q old.order new.order old.placed new.placed new.ready.keys new.ready.keys old.waiting.items new.waiting.items order placed refl r.waiting (λ u l q. q)
      (becomes_ready P Q old.order old.placed old.ready.keys old.waiting.items s node from m opens r.met new.ready.keys r.ready))
      (λ h. same Q Q old.order new.order old.placed new.placed old.ready.keys new.ready.keys _ new.waiting.items order placed h.ready h.waiting (λ u l q. q)
      (has_to_wait P Q old.order old.placed old.ready.keys old.waiting.items s node from m opens h.place h.unmet (graph node [] m.within h.place 0 h.unmet.within)))
      outcome

  module _ (order : List ℕ) (marks : List Bool) (ready : List ℕ) (waiting : List (List Wait)) (s : Keeps needs NoNode order marks ready waiting) where
    complete : (v : ℕ) → IsReady needs order v → Contains ready v
    complete v r = ⊎_elim (λ a. a)
        (λ b. ⊎_elim
        (λ w. let i = s.waits w.0 w.1 w.2 in
        absurd (i.unplaced (r.met w.0 (subst (λ k. Needs needs k w.0) w.3
        (w.1.place, i.within, get_or_default (needs_of needs w.1.node) w.1.place w.0 0 i.within ∙ i.need)))))
        (λ p. absurd p)
        b)
        (s.found v r.node r.unplaced)

    pub ends : ((u : ℕ) → Contains ready u → ⊥) → IsBuildOrder needs order
    ends none = record { each = s.each; whole = λ u r. none u (complete u r) }

    module _ (ready' : List ℕ) (node : ℕ) (t : IsTakenAsLeast ready ready' node) where
      pub taken_least : IsLeastReady needs order node
      taken_least = record { ready = s.first node t.member; least = λ v r. t.least v (complete v r) }

      pub taken_keeps : Keeps needs (Alone node) order marks ready' waiting
      taken_keeps =
          with_others NoNode (Alone node) order marks ready ready' waiting waiting s s.tables (λ u c. s.first u (t.was u c)) s.waits
          (λ u l n. ⊎_elim (λ a. ⊎_elim (λ e. inr (inr e)) (λ c. inl c) (t.stays u a)) (λ b. ⊎_elim (λ w. inr (inl w)) (λ p. absurd p) b) (s.found u l n))

  module _ (order : List ℕ) (marks : List Bool) (ready : List ℕ) (waiting : List (List Wait)) (node : ℕ) (s : Keeps needs (Alone node) order marks ready waiting)
      (least : IsLeastReady needs order node) (gone : Contains ready node → ⊥) where
    abbrev order' : List ℕ
    order' = order ++ node ∷ []

    old : (u : ℕ) → Contains order u → Contains order' u
    old u c = Contains-append_left order (node ∷ []) u c

    behind : (u : ℕ) → (Contains order u → ⊥) → (node ≡ u → ⊥) → Contains order' u → ⊥
    behind u o n c = ⊎_elim o n (Contains-push_cases order node u c)

    -- the node that is placed doesn't wait itself
    idle : (v : ℕ) (w : Wait) → IsWait needs order v w → node ≡ w.node → ⊥
    idle v w i e = i.unplaced (least.ready.met v (subst (λ k. Needs needs k v) (sym e) (w.place, i.within, get_or_default (needs_of needs w.node) w.place v 0 i.within ∙ i.need)))

    in_marks : node < length marks
    in_marks = subst (λ n. node < n) (sym s.count) least.ready.node

    in_tables : node < length waiting
    in_tables = subst (λ n. node < n) (sym s.tables) least.ready.node

    marked : (u : ℕ) → IsMarked (set marks node true) u ↔ Contains order' u
    marked u = ⊎_elim
        (λ e. subst (λ k. IsMarked (set marks node true) k ↔ Contains order' k) (sym e)
        ((λ m. Contains-push order node), λ c. get_or-set_same marks node true false in_marks))
        (λ n. let stays = get_or-set_other marks node u true false n in (
          (λ m. old u ((s.placed u).0 (sym stays ∙ m))),
          λ c. stays ∙ (s.placed u).1 (⊎_elim (λ o. o) (λ e. absurd (n (sym e))) (Contains-push_cases order node u c)),
        ))
        (cases_eq u node)

    still_ready : (u : ℕ) → Contains ready u → IsReady needs order' u
    still_ready u c =
        let r = s.first u c in
        record {
          node = r.node;
          unplaced = behind u r.unplaced (λ e. gone (subst (λ k. Contains ready k) (sym e) c));
          met = λ v n. old v (r.met v n);
        }

    emptied : (v : ℕ) → (v ≡ node → ⊥) → get_or (set waiting node []) v [] ≡ get_or waiting v []
    emptied v n = get_or-set_other waiting node v [] [] n

    still_waits : (v : ℕ) (w : Wait) → Contains (get_or (set waiting node []) v []) w → IsWait needs order' v w
    still_waits v w c = ⊎_elim
        (λ e. absurd (contains-none w (subst (λ l. Contains l w) (get_or-set_same waiting node [] [] in_tables) (subst (λ k. Contains (get_or (set waiting node []) k []) w) e c))))
        (λ n. let i = s.waits v w (subst (λ l. Contains l w) (emptied v n) c) in
        record {
          before =
              record {
                within = i.before.within;
                unplaced = behind w.node i.before.unplaced (idle v w i);
                met = λ k lt l. old (get_or (needs_of needs w.node) k 0) (i.before.met k lt l);
              };
          within = i.within;
          need = i.need;
          unplaced = behind v i.unplaced (λ e. n (sym e));
        })
        (cases_eq v node)

    pub marked_keeps : Keeps needs (IsIn (get_or waiting node [])) order' (set marks node true) ready (set waiting node [])
    marked_keeps =
        record {
          count = length-set marks node true ∙ s.count;
          tables = length-set waiting node [] ∙ s.tables;
          each = λ front rest u e. ⊎_elim
              (λ b. subst (λ f. IsLeastReady needs f u) (sym b.0) (subst (λ k. IsLeastReady needs order k) (sym b.1) least))
              (λ b. s.each front b.0 u b.1)
              (push_split front order rest u node e);
          placed = marked;
          first = still_ready;
          waits = still_waits;
          found = λ u l n. ⊎_elim (λ a. inl a)
              (λ b. ⊎_elim
              (λ w. ⊎_elim
              (λ e. inr (inr (w.1, subst (λ k. Contains (get_or waiting k []) w.1) e w.2, w.3)))
              (λ d. inr (inl (w.0, w.1, subst (λ l. Contains l w.1) (sym (emptied w.0 d)) w.2, w.3)))
              (cases_eq w.0 node))
              (λ e. absurd (n (subst (λ k. Contains order' k) (sym e) (Contains-push order node))))
              b)
              (s.found u l (λ c. n (old u c)));
        }

    pub marked_met : (w : Wait) → Contains (get_or waiting node []) w → IsMetBefore needs order' w.node w.place
    marked_met w c =
        let i = s.waits node w c in
        record {
          within = i.before.within;
          unplaced = behind w.node i.before.unplaced (idle node w i);
          met = λ k lt l. old (get_or (needs_of needs w.node) k 0) (i.before.met k lt l);
        }

-- 1 for an unmarked place, else 0
abbrev left : Bool → ℕ
left b = cond (not b) 1 0

pub less_left : (marks : List Bool) (i : ℕ) → i < length marks → (IsMarked marks i → ⊥) → count_by not (set marks i true) < count_by not marks
less_left marks i l n =
    let one : left (get_or marks i false) ≡ 1 = ap left (false_from_ne_true (get_or marks i false) n) in
    let e : count_by not (set marks i true) + left (get_or marks i false) ≡ count_by not marks + 0 = sum_by-set left marks i true false l in
    omega (arith, e, one)
