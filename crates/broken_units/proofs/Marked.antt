-- Marking one more node, or several.
use Rattle.std.proofs.Common.{◌≡◌, ◌<◌, ◌≤◌, ◌⊎◌, ◌↔◌, inl, inr, ⊎_elim, ℕ, zero, suc, ◌+◌, Bool, true, false, not, List, [], ◌∷◌, ◌++◌, length, get_or, take, refl, sym, subst, ap, ◌∙◌, arith}
use Rattle.std.specs.Prelude.{Contains, count_by}
use Rattle.std.proofs.lemmas.Bool.{cases_eq}
use Rattle.std.proofs.lemmas.List.{take_more, take_all}
use Rattle.std.proofs.lemmas.List.Elements.{Contains-append_left, Contains-push, Contains-push_cases}
use Rattle.common_laws.specs.Lists.{contains-none}
use Rattle.common_laws.specs.Graphs.{IsMarked, marked_within}

abbrev pub Is : Bool → Type 0
Is b = (b ≡ true) ⊎ (b ≡ true → ⊥)

is : (b : Bool) → Is b
is true = inl refl
is false = inr (λ e. cc)

-- each node is marked or isn't
pub is_marked : (led : List Bool) (i : ℕ) → IsMarked led i ⊎ (IsMarked led i → ⊥)
is_marked led i = is (get_or led i false)

-- marks and waiting nodes before and after some nodes are marked
pub record Marks (gone : List ℕ) (old new : List Bool) (before behind : List ℕ) : Type 0 where
  pub same : length new ≡ length old
  pub marked : (i : ℕ) → IsMarked new i ↔ IsMarked old i ⊎ (Contains gone i × (i < length old))
  pub waiting : (i : ℕ) → Contains behind i ↔ Contains before i ⊎ (IsMarked new i × (IsMarked old i → ⊥))
  pub less : count_by not new + length behind ≡ count_by not old + length before

pub marks_none : (old : List Bool) (before : List ℕ) → Marks [] old old before before
marks_none old before =
    record {
      same = refl;
      marked = λ i. ((λ m. inl m), λ h. ⊎_elim (λ m. m) (λ e. absurd (contains-none i e.0)) h);
      waiting = λ i. ((λ w. inl w), λ h. ⊎_elim (λ w. w) (λ e. absurd (e.1 e.0)) h);
      less = refl;
    }

module _ (gone : List ℕ) (node : ℕ) (a b c : List Bool) (x y z : List ℕ) (m : Marks gone a b x y)
    (same : length c ≡ length b) (marked : (i : ℕ) → IsMarked c i ↔ IsMarked b i ⊎ ((i ≡ node) × (i < length b)))
    (waiting : (i : ℕ) → Contains z i ↔ Contains y i ⊎ (IsMarked c i × (IsMarked b i → ⊥))) (less : count_by not c + length z ≡ count_by not b + length y) where
  ab : (i : ℕ) → IsMarked a i → IsMarked b i
  ab i h = (m.marked i).1 (inl h)

  bc : (i : ℕ) → IsMarked b i → IsMarked c i
  bc i h = (marked i).1 (inl h)

  all_marked : (i : ℕ) → IsMarked c i ↔ IsMarked a i ⊎ (Contains (gone ++ node ∷ []) i × (i < length a))
  all_marked i = (
    (λ h. ⊎_elim
        (λ k. ⊎_elim (λ o. inl o) (λ e. inr (Contains-append_left gone (node ∷ []) i e.0, e.1)) ((m.marked i).0 k))
        (λ e. inr (subst (λ v. Contains (gone ++ node ∷ []) v) (sym e.0) (Contains-push gone node), subst (λ n. i < n) m.same e.1))
        ((marked i).0 h)),
    λ h. ⊎_elim (λ o. bc i (ab i o))
        (λ e. ⊎_elim (λ g. bc i ((m.marked i).1 (inr (g, e.1)))) (λ n. (marked i).1 (inr (sym n, subst (λ n. i < n) (sym m.same) e.1))) (Contains-push_cases gone node i e.0))
        h,
  )

  all_waiting : (i : ℕ) → Contains z i ↔ Contains x i ⊎ (IsMarked c i × (IsMarked a i → ⊥))
  all_waiting i = (
    (λ h. ⊎_elim
        (λ k. ⊎_elim (λ o. inl o) (λ e. inr (bc i e.0, e.1)) ((m.waiting i).0 k))
        (λ e. inr (e.0, λ o. e.1 (ab i o)))
        ((waiting i).0 h)),
    λ h. ⊎_elim (λ o. (waiting i).1 (inl ((m.waiting i).1 (inl o))))
        (λ e. ⊎_elim (λ k. (waiting i).1 (inl ((m.waiting i).1 (inr (k, e.1))))) (λ k. (waiting i).1 (inr (e.0, k))) (is_marked b i))
        h,
  )

  pub marks_one : Marks (gone ++ node ∷ []) a c x z
  marks_one = record { same = same ∙ m.same; marked = all_marked; waiting = all_waiting; less = less ∙ m.less }

pub marks_more : (nodes : List ℕ) (n node : ℕ) (a c : List Bool) (x z : List ℕ) → n < length nodes → node ≡ get_or nodes n 0 → Marks (take n nodes ++ node ∷ []) a c x z → Marks (take (n + 1) nodes) a c x z
marks_more nodes n node a c x z lt is h = subst (λ g. Marks g a c x z) (sym (take_more nodes n 0 lt ∙ ap (λ v. take n nodes ++ v ∷ []) (sym is))) h

pub marks_all : (nodes : List ℕ) (n : ℕ) (a c : List Bool) (x z : List ℕ) → length nodes ≤ n → Marks (take n nodes) a c x z → Marks nodes a c x z
marks_all nodes n a c x z over = subst (λ g. Marks g a c x z) (take_all n nodes over)

-- the marked places among the first ones
module _ (marked : List Bool) where
  abbrev pub Places : List ℕ → ℕ → Type 0
  Places found n = (i : ℕ) → Contains found i ↔ (i < n) × IsMarked marked i

  pub places_yes : (found found' : List ℕ) (n : ℕ) → IsMarked marked n → found' ≡ found ++ n ∷ [] → Places found n → Places found' (n + 1)
  places_yes found found' n m is before i = (
    (λ h. ⊎_elim (λ k. let b = (before i).0 k in (omega (arith, b.0), b.1)) (λ e. (omega (arith, e), subst (λ k. IsMarked marked k) e m))
        (Contains-push_cases found n i (subst (λ l. Contains l i) is h))),
    λ h. subst (λ l. Contains l i) (sym is)
        (⊎_elim (λ e. subst (λ k. Contains (found ++ n ∷ []) k) (sym e) (Contains-push found n)) (λ d. Contains-append_left found (n ∷ []) i ((before i).1 (omega (arith, h.0), h.1))) (cases_eq i n)),
  )

  pub places_no : (found : List ℕ) (n : ℕ) → get_or marked n false ≡ false → Places found n → Places found (n + 1)
  places_no found n none before i = (
    (λ h. let b = (before i).0 h in (omega (arith, b.0), b.1)),
    λ h. ⊎_elim (λ e. absurd (let m = subst (λ k. IsMarked marked k) e h.1 in cc)) (λ d. (before i).1 (omega (arith, h.0), h.1)) (cases_eq i n),
  )

  pub places_all : (found : List ℕ) (n : ℕ) → length marked ≤ n → Places found n → (i : ℕ) → Contains found i ↔ IsMarked marked i
  places_all found n over all i = ((λ h. ((all i).0 h).1), λ h. let w = marked_within marked i h in (all i).1 (omega arith, h))
