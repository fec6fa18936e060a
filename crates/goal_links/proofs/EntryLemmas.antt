-- Shared: entries: their variables, order and kept neighbours, by variable and by number.
use Rattle.std.proofs.Common.{◌≡◌, ℕ, zero, suc, ◌+◌, ◌<◌, arith, length, map, eqb, eqb-true, eq-eqb, true, false, cond, not, ◌&&◌, ◌||◌, List, [], ◌∷◌, ◌++◌, Option, Some, None, IfSome, IsTrue, refl, sym, ap, ◌∙◌, subst, inl, inr, ◌⊎◌}
use Rattle.std.specs.List.{Contains, slice_get}
use Rattle.std.specs.Option.{option_map}
use Rattle.std.proofs.Math.ListN.{set}
use Rattle.std.proofs.lemmas.List.{length-set, map-append, map-set, get_or_append_left, length-append}
use Rattle.std.proofs.lemmas.Option.{slice_get-map, slice_get_within, get_or_from_slice_get, slice_get-get_or}
use Rattle.std.proofs.lemmas.Bool.{false≢true, and_parts, and_from, cases_lt}
use Rattle.common_laws.specs.Lists.{contains-head, contains-tail, contains-cases, contains-left, contains-right, contains-append, contains-none, contains-filter, contains-map, map-contains}
use Rattle.qualified_goals.specs.declared.variable.Var.{Var}
use Rattle.qualified_goals.specs.Variable.{is_before, same_var}
use Rattle.qualified_goals.specs.SameVariable.{same_var-is, same_var-refl}
use Rattle.qualified_goals.proofs.GoalOrder.{before-itself, before-trans, before-back, before-neither}
use Rattle.choice_problem.specs.ConflictSet.{is_rising, has, with_var, without}
use Rattle.choice_problem.proofs.VariableSets.{same-not, before-not-same, same-back, rising-tail, rising-with_var, rising-below, rising-same, has-with_var, contains-has, has-contains as has-in}
use Rattle.choice_problem.proofs.RisingVariables.{rising-without, has-without}
use Rattle.choice_problem.proofs.EdgePaths.{parted}
use Rattle.goal_links.specs.Beside.{last_from, last_of, first_of, beside_from, beside, behind_first}
use Rattle.goal_links.specs.Ring.{AreOnce}
use Rattle.goal_links.specs.Row.{Line, has_node, without_node, behind, StandsIn, AreBelow, IsGap, IsParted, with_node, unlinked}
use Rattle.goal_links.specs.Chains.{Chained, with_chain}
use Rattle.goal_links.specs.Links.{Entries, no_var, var_at, sides_in, entries_of, AreAround, AreLinks, MayReturn, WasLinked, registered, linked as put, unlinked as taken}
use Rattle.goal_links.proofs.Paths.{last-contains}
use Rattle.goal_links.proofs.Rings.{has-contains}
use Rattle.goal_links.proofs.Nodes.{contains-has as node-has, hasn't, has-itself, behind-front}
use Rattle.goal_links.proofs.Rows.{place-parted}
use Rattle.goal_links.proofs.NamedItems.{any-mapped, filter-mapped, behind-mapped, first-mapped, last-mapped, beside-mapped, map-parted, map-alike, get-contains, get-set, get-push, get-last}

pub slice_get-set : {X : Type 0} (xs : List X) (i : ℕ) (x y : X) → slice_get xs i ≡ Some y → slice_get (set xs i x) i ≡ Some x
slice_get-set [] i x y h = absurd (cc h)
slice_get-set (z ∷ xs) zero x y h = refl
slice_get-set (z ∷ xs) (suc i) x y h = slice_get-set xs i x y h

-- a variable inserted between lesser and greater ones

below-all : (v : Var) (x : Var) (xs : List Var) → is_rising (x ∷ xs) ≡ true → IfSome (last_from (Some x) xs) (λ w. is_before w v ≡ true) → is_before x v ≡ true
below-all v x [] h k = k
below-all v x (y ∷ xs) h k =
    before-trans x y v ((and_parts (is_before x y) (is_rising (y ∷ xs)) h).0) (below-all v y xs ((and_parts (is_before x y) (is_rising (y ∷ xs)) h).1) k)

rising-front : (xs ys : List Var) → is_rising (xs ++ ys) ≡ true → is_rising xs ≡ true
rising-front [] ys h = refl
rising-front (x ∷ []) ys h = refl
rising-front (x ∷ y ∷ xs) ys h =
    let parts = and_parts (is_before x y) (is_rising (y ∷ xs ++ ys)) h in
    and_from (is_before x y) (is_rising (y ∷ xs)) parts.0 (rising-front (y ∷ xs) ys parts.1)

pub with-between : (v : Var) (xs ys : List Var) → is_rising (xs ++ ys) ≡ true → IfSome (last_of xs) (λ w. is_before w v ≡ true) → IfSome (first_of ys) (λ w. is_before v w ≡ true)
    → with_var v (xs ++ ys) ≡ xs ++ v ∷ ys
with-between v [] [] h k l = refl
with-between v [] (y ∷ ys) h k l = ap (λ b. cond b (v ∷ y ∷ ys) (cond (same_var v y) (y ∷ ys) (y ∷ with_var v ys))) l
with-between v (x ∷ xs) ys h k l =
    let first : is_before x v ≡ true = below-all v x xs (rising-front (x ∷ xs) ys h) k in
    let rest : with_var v (xs ++ ys) ≡ xs ++ v ∷ ys = with-between v xs ys (rising-tail x (xs ++ ys) h) (last-of-rest xs k) l in
    ap (λ b. cond b (v ∷ x ∷ xs ++ ys) (cond (same_var v x) (x ∷ xs ++ ys) (x ∷ with_var v (xs ++ ys)))) (before-back x v first)
    ∙ ap (λ b. cond b (x ∷ xs ++ ys) (x ∷ with_var v (xs ++ ys))) (same-back v x ∙ before-not-same x v first)
    ∙ ap (λ m. x ∷ m) rest
  where
    last-of-rest : (xs : List Var) → IfSome (last_from (Some x) xs) (λ w. is_before w v ≡ true) → IfSome (last_of xs) (λ w. is_before w v ≡ true)
    last-of-rest [] k = tt
    last-of-rest (y ∷ xs) k = k

-- entries: some are linked, the others keep neighbours
abbrev pub at-entries : List Var → Chained → List Var → List (Option (Option Var × Option Var)) → Entries
at-entries vars chains linked kept = record { vars = vars; linked = linked; kept = kept; cells = chains.cells; chains = chains.chains }

entries-same : (vars : List Var) (chains : Chained) (l m : List Var) (k j : List (Option (Option Var × Option Var))) → l ≡ m → k ≡ j
    → at-entries vars chains l k ≡ at-entries vars chains m j
entries-same vars chains l m k j e f = ap (λ x. at-entries vars chains x k) e ∙ ap (at-entries vars chains m) f

-- entries by their numbers

module _ (vars : List Var) (once : (m n : ℕ) → m < length vars → n < length vars → var_at vars m ≡ var_at vars n → m ≡ n) where
  pub same-number : (m n : ℕ) → m < length vars → n < length vars → same_var (var_at vars m) (var_at vars n) ≡ eqb n m
  same-number m n h k =
      elim (eqb n m) as (λ b. eqb n m ≡ b → same_var (var_at vars m) (var_at vars n) ≡ b) [
        | true ↦ λ e. ap (λ i. same_var (var_at vars m) (var_at vars i)) (eqb-true n m e) ∙ same_var-refl (var_at vars m)
        | false ↦ λ e. same-not (var_at vars m) (var_at vars n) (λ i. false≢true (sym e ∙ eq-eqb n m (sym (once m n h k i))))
      ] refl

  module _ (ns : List ℕ) (within : AreBelow (length vars) ns) where
    in-below : (k : ℕ) → Contains ns k → k < length vars
    in-below k c = within k (node-has ns k c)

    pub has-number : (n : ℕ) → n < length vars → has (map (var_at vars) ns) (var_at vars n) ≡ has_node ns n
    has-number n h = any-mapped (var_at vars) (λ w. same_var w (var_at vars n)) (eqb n) ns (λ m c. same-number m n (in-below m c) h)

    same-turned : (n : ℕ) → n < length vars → (m : ℕ) → Contains ns m → same_var (var_at vars n) (var_at vars m) ≡ eqb n m
    same-turned n h m c = same-back (var_at vars n) (var_at vars m) ∙ same-number m n (in-below m c) h

    pub without-number : (n : ℕ) → n < length vars → without (var_at vars n) (map (var_at vars) ns) ≡ map (var_at vars) (without_node n ns)
    without-number n h =
        filter-mapped (var_at vars) (λ w. not (same_var (var_at vars n) w)) (λ m. not (eqb n m)) ns (λ m c. ap not (same-turned n h m c))

    pub beside-number : (n : ℕ) → n < length vars → beside (same_var (var_at vars n)) (map (var_at vars) ns) ≡ sides_in vars (beside (eqb n) ns)
    beside-number n h = beside-mapped (var_at vars) (same_var (var_at vars n)) (eqb n) None ns (same-turned n h)

    pub behind-number : (n : ℕ) → n < length vars → behind_first (same_var (var_at vars n)) (map (var_at vars) ns) ≡ map (var_at vars) (behind_first (eqb n) ns)
    behind-number n h = behind-mapped (var_at vars) (same_var (var_at vars n)) (eqb n) ns (same-turned n h)

    -- the neighbours of an entry in a rising list are on both sides of it
    around-from : (n : ℕ) (before : Option ℕ) (ms : List ℕ) → ((k : ℕ) → Contains ms k → k < length vars) → is_rising (map (var_at vars) ms) ≡ true → Contains ms n
        → IfSome (first_of ms) (λ x. IfSome before (λ b. (b < length vars) × (is_before (var_at vars b) (var_at vars x) ≡ true)))
        → AreAround vars (var_at vars n) (beside_from (eqb n) before ms)
    around-from n before [] lt rising c first = absurd (contains-none n c)
    around-from n before (x ∷ ms) lt rising c first =
        elim (eqb n x) as (λ b. eqb n x ≡ b → AreAround vars (var_at vars n) (cond b (before, first_of ms) (beside_from (eqb n) (Some x) ms))) [
          | true ↦ λ e.
              let same : x ≡ n = sym (eqb-true n x e) in
              record {
                left = subst (λ m. IfSome before (λ b. (b < length vars) × (is_before (var_at vars b) (var_at vars m) ≡ true))) same first;
                right = subst (λ m. IfSome (first_of ms) (λ y. (y < length vars) × (is_before (var_at vars m) (var_at vars y) ≡ true))) same (next-after x ms lt rising);
              }
          | false ↦ λ e.
              let later : Contains ms n = elim (contains-cases x ms n c) [ inl i ↦ absurd (false≢true (sym e ∙ eq-eqb n x (sym i))) | inr r ↦ r ] in
              around-from n (Some x) ms (λ k d. lt k (contains-tail x ms k d)) (rising-tail (var_at vars x) (map (var_at vars) ms) rising) later (first-after x ms lt rising)
        ] refl
      where
        next-after : (x : ℕ) (ms : List ℕ) → ((k : ℕ) → Contains (x ∷ ms) k → k < length vars) → is_rising (map (var_at vars) (x ∷ ms)) ≡ true
            → IfSome (first_of ms) (λ y. (y < length vars) × (is_before (var_at vars x) (var_at vars y) ≡ true))
        next-after x [] lt rising = tt
        next-after x (y ∷ ms) lt rising =
            (lt y (contains-tail x (y ∷ ms) y (contains-head y ms)), (and_parts (is_before (var_at vars x) (var_at vars y)) (is_rising (map (var_at vars) (y ∷ ms))) rising).0)

        first-after : (x : ℕ) (ms : List ℕ) → ((k : ℕ) → Contains (x ∷ ms) k → k < length vars) → is_rising (map (var_at vars) (x ∷ ms)) ≡ true
            → IfSome (first_of ms) (λ y. (x < length vars) × (is_before (var_at vars x) (var_at vars y) ≡ true))
        first-after x [] lt rising = tt
        first-after x (y ∷ ms) lt rising =
            (lt x (contains-head x (y ∷ ms)), (and_parts (is_before (var_at vars x) (var_at vars y)) (is_rising (map (var_at vars) (y ∷ ms))) rising).0)

    pub around-beside : (n : ℕ) → is_rising (map (var_at vars) ns) ≡ true → has_node ns n ≡ true → AreAround vars (var_at vars n) (beside (eqb n) ns)
    around-beside n rising h = around-from n None ns in-below rising (has-contains ns n h) (no-first ns)
      where
        no-first : (ns : List ℕ) → IfSome (first_of ns) (λ x. IfSome None (λ b. (b < length vars) × (is_before (var_at vars b) (var_at vars x) ≡ true)))
        no-first [] = tt
        no-first (x ∷ ns) = tt

-- contracts on an entry, by its number
module _ (vars : List Var) (row : Line) (hint : Option ℕ) (chains : Chained) (h : AreLinks vars row hint chains) (now : Entries) (is : entries_of vars row chains ≡ now) (n : ℕ) where
  pub entry-fits : n < length now.vars → n < length vars
  entry-fits lt = subst (λ (s : Entries). n < length s.vars) (sym is) lt

  pub linked-number : n < length now.vars → has_node row.linked n ≡ has now.linked (var_at now.vars n)
  linked-number lt = sym (has-number vars h.once row.linked h.below n (entry-fits lt)) ∙ ap (λ (s : Entries). has s.linked (var_at s.vars n)) is

-- an entry is unlinked

module _ (vars : List Var) (row : Line) (hint : Option ℕ) (chains : Chained) (h : AreLinks vars row hint chains) (n : ℕ) (fits : n < length vars) where
  pub links-unlinked : (hint2 : Option ℕ) → has_node row.linked n ≡ true → StandsIn (without_node n row.linked) hint2 → AreLinks vars (unlinked row n) hint2 chains
  links-unlinked hint2 in' recent = record {
    counted = length-set row.kept n (Some (beside (eqb n) row.linked)) ∙ h.counted;
    chained = h.chained;
    once = h.once;
    below = λ k k-in. h.below k (node-has row.linked k ((contains-filter (λ m. not (eqb n m)) row.linked k (has-contains (without_node n row.linked) k k-in)).0));
    rising =
        ap is_rising (sym (without-number vars h.once row.linked h.below n fits)) ∙ rising-without (var_at vars n) (map (var_at vars) row.linked) h.rising;
    around = λ k sides e. elim (get-set row.kept n (Some (beside (eqb n) row.linked)) k (Some sides) e) [
      | inl p ↦
          let is : beside (eqb n) row.linked ≡ sides = cc (p.1) in
          subst (λ s. AreAround vars (var_at vars k) s) is (subst (λ m. AreAround vars (var_at vars m) (beside (eqb n) row.linked)) (sym p.0)
          (around-beside vars h.once row.linked h.below n h.rising in'))
      | inr old ↦ h.around k sides old
    ];
    recent = recent;
  }

  pub view-unlinked : has_node row.linked n ≡ true → entries_of vars (unlinked row n) chains ≡ taken (entries_of vars row chains) n
  view-unlinked in' =
      entries-same vars chains (map (var_at vars) (without_node n row.linked)) (without (var_at vars n) (map (var_at vars) row.linked))
      (map (option_map (sides_in vars)) (set row.kept n (Some (beside (eqb n) row.linked))))
      (set (map (option_map (sides_in vars)) row.kept) n (Some (beside (same_var (var_at vars n)) (map (var_at vars) row.linked))))
      (sym (without-number vars h.once row.linked h.below n fits))
      (map-set (option_map (sides_in vars)) row.kept n (Some (beside (eqb n) row.linked))
      ∙ ap (λ s. set (map (option_map (sides_in vars)) row.kept) n (Some s)) (sym (beside-number vars h.once row.linked h.below n fits)))

  -- an entry is linked between two others

  module _ (row2 : Line) (xs ys : List ℕ) (old : row.linked ≡ xs ++ ys) (new : row2.linked ≡ xs ++ n ∷ ys) (kept : row2.kept ≡ set row.kept n None)
      (left : IfSome (last_of xs) (λ m. is_before (var_at vars m) (var_at vars n) ≡ true)) (right : IfSome (first_of ys) (λ m. is_before (var_at vars n) (var_at vars m) ≡ true)) where
    between : map (var_at vars) row2.linked ≡ with_var (var_at vars n) (map (var_at vars) row.linked)
    between =
        let parts : map (var_at vars) row.linked ≡ map (var_at vars) xs ++ map (var_at vars) ys = ap (map (var_at vars)) old ∙ map-append (var_at vars) xs ys in
        ap (map (var_at vars)) new ∙ map-append (var_at vars) xs (n ∷ ys)
        ∙ sym (ap (with_var (var_at vars n)) parts
        ∙ with-between (var_at vars n) (map (var_at vars) xs) (map (var_at vars) ys) (ap is_rising (sym parts) ∙ h.rising)
        (subst (λ o. IfSome o (λ w. is_before w (var_at vars n) ≡ true)) (sym (last-mapped (var_at vars) None xs)) (mapped-some (last_of xs) (λ w. is_before w (var_at vars n) ≡ true) left))
        (subst (λ o. IfSome o (λ w. is_before (var_at vars n) w ≡ true)) (sym (first-mapped (var_at vars) ys)) (mapped-some (first_of ys) (λ w. is_before (var_at vars n) w ≡ true) right)))
      where
        mapped-some : (o : Option ℕ) (P : Var → Type 0) → IfSome o (λ m. P (var_at vars m)) → IfSome (option_map (var_at vars) o) P
        mapped-some None P k = tt
        mapped-some (Some m) P k = k

    pub links-linked : (hint2 : Option ℕ) → ((hint2 ≡ hint) ⊎ (hint2 ≡ Some n)) → AreLinks vars row2 hint2 chains
    links-linked hint2 which = record {
      counted = ap length kept ∙ length-set row.kept n None ∙ h.counted;
      chained = h.chained;
      once = h.once;
      below = λ k k-in.
          elim (contains-append xs (n ∷ ys) k (subst (λ l. Contains l k) new (has-contains row2.linked k k-in))) [
            | inl c ↦ old-below k (contains-left xs ys k c)
            | inr c ↦ elim (contains-cases n ys k c) [
              | inl e ↦ subst (λ m. m < length vars) e fits
              | inr d ↦ old-below k (contains-right xs ys k d)
            ]
          ];
      rising = ap is_rising between ∙ rising-with_var (var_at vars n) (map (var_at vars) row.linked) h.rising;
      around = λ k sides e. elim (get-set row.kept n None k (Some sides) (ap (λ l. slice_get l k) (sym kept) ∙ e)) [
        | inl p ↦ absurd (cc (p.1))
        | inr was ↦ h.around k sides was
      ];
      recent = elim which [
        | inl e ↦ subst (StandsIn row2.linked) (sym e) (stays hint h.recent)
        | inr e ↦ subst (StandsIn row2.linked) (sym e) (ap (λ (l : List ℕ). has_node l n) new ∙ has-itself xs n ys)
      ];
    }
      where
        old-below : (k : ℕ) → Contains (xs ++ ys) k → k < length vars
        old-below k c = h.below k (node-has row.linked k (subst (λ l. Contains l k) (sym old) c))

        stays : (o : Option ℕ) → StandsIn row.linked o → StandsIn row2.linked o
        stays None k = tt
        stays (Some m) k =
            elim (contains-append xs ys m (subst (λ l. Contains l m) old (has-contains row.linked m k))) [
              | inl c ↦ node-has row2.linked m (subst (λ l. Contains l m) (sym new) (contains-left xs (n ∷ ys) m c))
              | inr c ↦ node-has row2.linked m (subst (λ l. Contains l m) (sym new) (contains-right xs (n ∷ ys) m (contains-tail n ys m c)))
            ]

    pub view-linked : entries_of vars row2 chains ≡ put (entries_of vars row chains) n
    view-linked =
        entries-same vars chains (map (var_at vars) row2.linked) (with_var (var_at vars n) (map (var_at vars) row.linked)) (map (option_map (sides_in vars)) row2.kept)
        (set (map (option_map (sides_in vars)) row.kept) n None) between (ap (map (option_map (sides_in vars))) kept ∙ map-set (option_map (sides_in vars)) row.kept n None)

abbrev pub pair : {X : Type 0} → Option X → Option X → Option X × Option X
pair left right = (left, right)

-- a list in goal order has no entry twice
pub rising-once : (vars : List Var) (start : Option ℕ) (ns : List ℕ) → is_rising (map (var_at vars) ns) ≡ true → ((k : ℕ) → Contains ns k → start ≡ Some k → ⊥) → AreOnce start ns
rising-once vars start [] rising h = tt
rising-once vars start (n ∷ ns) rising h = (
  h,
  rising-once vars (Some n) ns (rising-tail (var_at vars n) (map (var_at vars) ns) rising) (λ k c e.
      let same : n ≡ k = cc in
      false≢true (sym (before-itself (var_at vars k)) ∙ ap (λ m. is_before (var_at vars m) (var_at vars k)) (sym same)
      ∙ rising-below (var_at vars n) (map (var_at vars) ns) (var_at vars k) rising (map-contains (var_at vars) ns k c))),
)

module _ (vars : List Var) (row : Line) (hint : Option ℕ) (chains : Chained) (h : AreLinks vars row hint chains) where
  pub row-once : AreOnce None row.linked
  row-once = rising-once vars None row.linked h.rising (λ k c e. cc e)

  -- a gap behind the last entry before a variable
  module _ (n : ℕ) (fits : n < length vars) (out : has_node row.linked n ≡ false) (place : Option ℕ) (v : Var) (is : slice_get vars n ≡ Some v)
      (before : IfSome place (λ m. is_before (var_at vars m) v ≡ true)) (behind-it : IfSome (first_of (behind place row.linked)) (λ m. is_before (var_at vars m) v ≡ false))
      (xs ys : List ℕ) (parts : row.linked ≡ xs ++ ys) (last : last_of xs ≡ place) where
    var-is : v ≡ var_at vars n
    var-is = sym (get_or_from_slice_get vars n v no_var is)

    pub gap-left : IfSome (last_of xs) (λ m. is_before (var_at vars m) (var_at vars n) ≡ true)
    gap-left = subst (λ w. IfSome (last_of xs) (λ m. is_before (var_at vars m) w ≡ true)) var-is (subst (λ o. IfSome o (λ m. is_before (var_at vars m) v ≡ true)) (sym last) before)

    pub gap-right : IfSome (first_of ys) (λ m. is_before (var_at vars n) (var_at vars m) ≡ true)
    gap-right =
        let rest : behind place row.linked ≡ ys =
        ap (behind place) parts ∙ ap (λ p. behind p (xs ++ ys)) (sym last) ∙ behind-front xs ys (subst (λ l. AreOnce None l) parts row-once) in
        let not-before = subst (λ l. IfSome (first_of l) (λ m. is_before (var_at vars m) v ≡ false)) rest behind-it in
        let not-behind : IfSome (first_of ys) (λ m. is_before (var_at vars m) (var_at vars n) ≡ false) = subst (λ w. IfSome (first_of ys) (λ m. is_before (var_at vars m) w ≡ false)) var-is not-before in
        turned ys not-behind (λ k c e. hasn't row.linked n out (subst (λ l. Contains l n) (sym parts) (contains-right xs ys n (subst (λ m. Contains ys m) e c))))
        (λ k c. h.below k (node-has row.linked k (subst (λ l. Contains l k) (sym parts) (contains-right xs ys k c))))
      where
        turned : (ys : List ℕ) → IfSome (first_of ys) (λ m. is_before (var_at vars m) (var_at vars n) ≡ false) → ((k : ℕ) → Contains ys k → k ≡ n → ⊥)
            → ((k : ℕ) → Contains ys k → k < length vars) → IfSome (first_of ys) (λ m. is_before (var_at vars n) (var_at vars m) ≡ true)
        turned [] k other below = tt
        turned (y ∷ ys) k other below =
            elim (is_before (var_at vars n) (var_at vars y)) as (λ b. is_before (var_at vars n) (var_at vars y) ≡ b → b ≡ true) [
              | true ↦ λ e. refl
              | false ↦ λ e.
                  let same : var_at vars y ≡ var_at vars n = before-neither (var_at vars y) (var_at vars n) k e in
                  absurd (other y (contains-head y ys) (h.once y n (below y (contains-head y ys)) fits same))
            ] refl

  one-of : (o p : Option ℕ) → IfSome o (λ m. m < length vars) → IfSome p (λ m. m < length vars) → option_map (var_at vars) o ≡ option_map (var_at vars) p → o ≡ p
  one-of None None k l e = refl
  one-of None (Some m) k l e = absurd (cc e)
  one-of (Some m) None k l e = absurd (cc e)
  one-of (Some m) (Some n) k l e = let same : var_at vars m ≡ var_at vars n = cc in ap Some (h.once m n k l same)

  some-below : (o : Option ℕ) (P : ℕ → Type 0) → IfSome o (λ m. (m < length vars) × P m) → IfSome o (λ m. m < length vars)
  some-below None P k = tt
  some-below (Some m) P k = k.0

  some-holds : (o : Option ℕ) (P : ℕ → Type 0) → IfSome o (λ m. (m < length vars) × P m) → IfSome o P
  some-holds None P k = tt
  some-holds (Some m) P k = k.1

  last-below : (xs : List ℕ) → ((k : ℕ) → Contains xs k → k < length vars) → IfSome (last_of xs) (λ m. m < length vars)
  last-below [] lt = tt
  last-below (x ∷ xs) lt = let last = last-contains x xs in subst (λ o. IfSome o (λ m. m < length vars)) (sym last.1) (lt last.0 last.2)

  first-below : (xs : List ℕ) → ((k : ℕ) → Contains xs k → k < length vars) → IfSome (first_of xs) (λ m. m < length vars)
  first-below [] lt = tt
  first-below (x ∷ xs) lt = lt x (contains-head x xs)

  -- neighbours kept as variables are kept as numbers
  kept-number : (o : Option (Option (Option ℕ × Option ℕ))) (sides : Option Var × Option Var) → option_map (option_map (sides_in vars)) o ≡ Some (Some sides)
      → (ns : Option ℕ × Option ℕ) × (o ≡ Some (Some ns)) × (sides_in vars ns ≡ sides)
  kept-number None sides e = absurd (cc e)
  kept-number (Some None) sides e = absurd (cc e)
  kept-number (Some (Some ns)) sides e = (ns, refl, cc)

  -- the gap in which an entry may return, by numbers
  pub gap-of : (n : ℕ) → MayReturn (entries_of vars row chains) n → (xs : List ℕ) × (ys : List ℕ) × (row.linked ≡ xs ++ ys)
      × (slice_get row.kept n ≡ Some (Some (last_of xs, first_of ys))) × (n < length vars)
      × IfSome (last_of xs) (λ m. is_before (var_at vars m) (var_at vars n) ≡ true) × IfSome (first_of ys) (λ m. is_before (var_at vars n) (var_at vars m) ≡ true)
  gap-of n may =
      let kept = kept-number (slice_get row.kept n) may.0 (sym (slice_get-map (option_map (sides_in vars)) row.kept n) ∙ may.1) in
      let sides = kept.0 in
      let split = map-parted (var_at vars) row.linked may.2.0 may.2.1 may.2.2 in
      let xs = split.0 in
      let ys = split.1 in
      let around = h.around n sides kept.1 in
      let in-row : (k : ℕ) → Contains (xs ++ ys) k → k < length vars = λ k c. h.below k (node-has row.linked k (subst (λ l. Contains l k) (sym split.2) c)) in
      let left : last_of xs ≡ sides.0 =
      one-of (last_of xs) sides.0 (last-below xs (λ k c. in-row k (contains-left xs ys k c))) (some-below sides.0 (λ m. is_before (var_at vars m) (var_at vars n) ≡ true) around.left)
      (sym (last-mapped (var_at vars) None xs) ∙ ap last_of split.3 ∙ may.2.3 ∙ ap (λ s. s.0) (sym kept.2)) in
      let right : first_of ys ≡ sides.1 =
      one-of (first_of ys) sides.1 (first-below ys (λ k c. in-row k (contains-right xs ys k c))) (some-below sides.1 (λ m. is_before (var_at vars n) (var_at vars m) ≡ true) around.right)
      (sym (first-mapped (var_at vars) ys) ∙ ap first_of split.4 ∙ may.2.4 ∙ ap (λ s. s.1) (sym kept.2)) in
      let both : sides ≡ pair (last_of xs) (first_of ys) = ap (λ o. pair o sides.1) (sym left) ∙ ap (pair (last_of xs)) (sym right) in
      let within = slice_get_within row.kept n (Some sides) kept.1 in (
        xs,
        ys,
        split.2,
        kept.1 ∙ ap (λ s. Some (Some s)) both,
        omega (arith, within, h.counted),
        subst (λ o. IfSome o (λ m. is_before (var_at vars m) (var_at vars n) ≡ true)) (sym left) (some-holds sides.0 (λ m. is_before (var_at vars m) (var_at vars n) ≡ true) around.left),
        subst (λ o. IfSome o (λ m. is_before (var_at vars n) (var_at vars m) ≡ true)) (sym right) (some-holds sides.1 (λ m. is_before (var_at vars n) (var_at vars m) ≡ true) around.right),
      )

  module _ (now : Entries) (is : entries_of vars row chains ≡ now) (n : ℕ) (row2 : Line) (kept : row2.kept ≡ set row.kept n None) where
    -- an entry linked behind the last one before its variable
    pub placed : n < length now.vars → has now.linked (var_at now.vars n) ≡ false → (place : Option ℕ) → StandsIn row.linked place → (v : Var) → slice_get vars n ≡ Some v
        → IfSome place (λ m. is_before (var_at vars m) v ≡ true) → IfSome (first_of (behind place row.linked)) (λ m. is_before (var_at vars m) v ≡ false)
        → ((front rest : List ℕ) → IsParted row.linked place front rest → row2.linked ≡ front ++ n ∷ rest)
        → AreLinks vars row2 (Some n) chains × (entries_of vars row2 chains ≡ put now n)
    placed lt fresh place stands v v-is before behind-it goes =
        let fits = entry-fits vars row hint chains h now is n lt in
        let out = linked-number vars row hint chains h now is n lt ∙ fresh in
        let part = place-parted row.linked place stands in
        let left = gap-left n fits out place v v-is before behind-it part.0 part.1 part.2 part.3 in
        let right = gap-right n fits out place v v-is before behind-it part.0 part.1 part.2 part.3 in
        let new = goes part.0 part.1 (part.2, part.3) in (
          links-linked vars row hint chains h n fits row2 part.0 part.1 part.2 new kept left right (Some n) (inr refl),
          view-linked vars row hint chains h n fits row2 part.0 part.1 part.2 new kept left right ∙ ap (λ (s : Entries). put s n) is,
        )

    -- an entry relinked between the neighbours that it keeps
    pub returned : MayReturn now n → ((front rest : List ℕ) → IsGap row n front rest → row2.linked ≡ front ++ n ∷ rest)
        → AreLinks vars row2 hint chains × (entries_of vars row2 chains ≡ put now n)
    returned may goes =
        let gap = gap-of n (subst (λ (s : Entries). MayReturn s n) (sym is) may) in
        let new = goes gap.0 gap.1 (gap.2, gap.3) in (
          links-linked vars row hint chains h n gap.4 row2 gap.0 gap.1 gap.2 new kept gap.5 gap.6 hint (inl refl),
          view-linked vars row hint chains h n gap.4 row2 gap.0 gap.1 gap.2 new kept gap.5 gap.6 ∙ ap (λ (s : Entries). put s n) is,
        )

  -- one more entry
  module _ (v : Var) (fresh : has vars v ≡ false) where
    same-at : (k : ℕ) → k < length vars → var_at (vars ++ v ∷ []) k ≡ var_at vars k
    same-at k lt = get_or_append_left vars (v ∷ []) no_var k lt

    last-at : var_at (vars ++ v ∷ []) (length vars) ≡ v
    last-at = get_or_from_slice_get (vars ++ v ∷ []) (length vars) v no_var (get-last vars v)

    not-there : (k : ℕ) → k < length vars → var_at vars k ≡ v → ⊥
    not-there k lt e = false≢true (sym fresh ∙ contains-has vars v (subst (λ w. Contains vars w) e (get-contains vars k (var_at vars k) (slice_get-get_or vars k no_var lt))))

    longer : length (vars ++ v ∷ []) ≡ length vars + 1
    longer = length-append vars (v ∷ [])

    still : (u : Var) (sides : Option ℕ × Option ℕ) → AreAround vars u sides → AreAround (vars ++ v ∷ []) u sides
    still u sides a = record {
      left = raised sides.0 (λ w. is_before w u ≡ true) a.left;
      right = raised sides.1 (λ w. is_before u w ≡ true) a.right;
    }
      where
        raised : (o : Option ℕ) (P : Var → Type 0) → IfSome o (λ m. (m < length vars) × P (var_at vars m)) → IfSome o (λ m. (m < length (vars ++ v ∷ [])) × P (var_at (vars ++ v ∷ []) m))
        raised None P k = tt
        raised (Some m) P k = (omega (arith, k.0, longer), subst P (sym (same-at m k.0)) k.1)

    same-linked : map (var_at (vars ++ v ∷ [])) row.linked ≡ map (var_at vars) row.linked
    same-linked = map-alike (var_at (vars ++ v ∷ [])) (var_at vars) row.linked (λ k n e. same-at n (h.below n (node-has row.linked n (get-contains row.linked k n e))))

    same-kept : map (option_map (sides_in (vars ++ v ∷ []))) row.kept ≡ map (option_map (sides_in vars)) row.kept
    same-kept = map-alike (option_map (sides_in (vars ++ v ∷ []))) (option_map (sides_in vars)) row.kept (λ k o e. alike k o e)
      where
        at-both : (o : Option ℕ) → IfSome o (λ m. m < length vars) → option_map (var_at (vars ++ v ∷ [])) o ≡ option_map (var_at vars) o
        at-both None lt = refl
        at-both (Some m) lt = ap Some (same-at m lt)

        alike : (k : ℕ) (o : Option (Option ℕ × Option ℕ)) → slice_get row.kept k ≡ Some o → option_map (sides_in (vars ++ v ∷ [])) o ≡ option_map (sides_in vars) o
        alike k None e = refl
        alike k (Some sides) e =
            let around = h.around k sides e in
            let l = at-both sides.0 (some-below sides.0 (λ m. is_before (var_at vars m) (var_at vars k) ≡ true) around.left) in
            let r = at-both sides.1 (some-below sides.1 (λ m. is_before (var_at vars k) (var_at vars m) ≡ true) around.right) in
            let s : pair (option_map (var_at (vars ++ v ∷ [])) sides.0) (option_map (var_at (vars ++ v ∷ [])) sides.1) ≡ pair (option_map (var_at vars) sides.0) (option_map (var_at vars) sides.1) =
            ap (λ o. pair o (option_map (var_at (vars ++ v ∷ [])) sides.1)) l ∙ ap (pair (option_map (var_at vars) sides.0)) r in
            ap Some s

    pub links-registered : AreLinks (vars ++ v ∷ []) (with_node row) hint (with_chain chains)
    links-registered = record {
      counted = length-append row.kept (Some (None, None) ∷ []) ∙ ap (λ n. n + 1) h.counted ∙ sym longer;
      chained = length-append chains.chains ([] ∷ []) ∙ ap (λ n. n + 1) h.chained ∙ sym longer;
      once = λ m n lm ln e. elim (within-or m lm) [
        | inl m-in ↦ elim (within-or n ln) [
          | inl n-in ↦ h.once m n m-in n-in (sym (same-at m m-in) ∙ e ∙ same-at n n-in)
          | inr n-is ↦ absurd (not-there m m-in (sym (same-at m m-in) ∙ e ∙ ap (var_at (vars ++ v ∷ [])) n-is ∙ last-at))
        ]
        | inr m-is ↦ elim (within-or n ln) [
          | inl n-in ↦ absurd (not-there n n-in (sym (same-at n n-in) ∙ sym e ∙ ap (var_at (vars ++ v ∷ [])) m-is ∙ last-at))
          | inr n-is ↦ m-is ∙ sym n-is
        ]
      ];
      below = λ k k-in. let old = h.below k k-in in omega (arith, old, longer);
      rising = ap is_rising same-linked ∙ h.rising;
      around = λ k sides e. elim (get-push row.kept (Some (None, None)) k (Some sides) e) [
        | inl new ↦ let is : pair None None ≡ sides = cc in subst (λ s. AreAround (vars ++ v ∷ []) (var_at (vars ++ v ∷ []) k) s) is (record { left = tt; right = tt })
        | inr old ↦
            let k-in : k < length vars = let w = slice_get_within row.kept k (Some sides) old in omega (arith, w, h.counted) in
            subst (λ u. AreAround (vars ++ v ∷ []) u sides) (sym (same-at k k-in)) (still (var_at vars k) sides (h.around k sides old))
      ];
      recent = h.recent;
    }
      where
        within-or : (m : ℕ) → m < length (vars ++ v ∷ []) → (m < length vars) ⊎ (m ≡ length vars)
        within-or m lt = elim (cases_lt m (length vars)) [ inl k ↦ inl k | inr k ↦ inr (omega (arith, lt, longer, k)) ]

    pub view-registered : entries_of (vars ++ v ∷ []) (with_node row) (with_chain chains) ≡ registered (entries_of vars row chains) v
    view-registered =
        let fresh-entries : Entries = record {
          vars = vars ++ v ∷ [];
          linked = map (var_at vars) row.linked;
          kept = map (option_map (sides_in vars)) row.kept ++ Some (None, None) ∷ [];
          cells = chains.cells;
          chains = chains.chains ++ [] ∷ [];
        } in
        let kept : map (option_map (sides_in (vars ++ v ∷ []))) (row.kept ++ Some (None, None) ∷ []) ≡ map (option_map (sides_in vars)) row.kept ++ Some (None, None) ∷ [] =
        map-append (option_map (sides_in (vars ++ v ∷ []))) row.kept (Some (None, None) ∷ []) ∙ ap (λ l. l ++ Some (None, None) ∷ []) same-kept in
        entries-same (vars ++ v ∷ []) (with_chain chains) (map (var_at (vars ++ v ∷ [])) row.linked) (map (var_at vars) row.linked)
        (map (option_map (sides_in (vars ++ v ∷ []))) (row.kept ++ Some (None, None) ∷ [])) (map (option_map (sides_in vars)) row.kept ++ Some (None, None) ∷ []) same-linked kept
        ∙ sym (ap (λ b. cond b (entries_of vars row chains) fresh-entries) fresh)

-- registering a variable again changes nothing
pub registered-again : (s : Entries) (v : Var) (n : ℕ) → slice_get s.vars n ≡ Some v → s ≡ registered s v
registered-again s v n h =
    let more : Entries = record s { vars = s.vars ++ v ∷ []; kept = s.kept ++ Some (None, None) ∷ []; chains = s.chains ++ [] ∷ [] } in
    sym (ap (λ b. cond b s more) (contains-has s.vars v (get-contains s.vars n v h)))

-- an entry relinked where it was unlinked

with-without : (v : Var) (vars : List Var) → is_rising vars ≡ true → has vars v ≡ true → with_var v (without v vars) ≡ vars
with-without v vars rising h =
    rising-same (with_var v (without v vars)) vars (rising-with_var v (without v vars) (rising-without v vars rising)) rising (λ u.
    has-with_var v (without v vars) u ∙ ap (λ b. same_var v u || b) (has-without v vars u)
    ∙ elim (same_var v u) as (λ b. same_var v u ≡ b → b || (not b && has vars u) ≡ has vars u) [
      | true ↦ λ e. sym (ap (has vars) (sym (same_var-is v u e)) ∙ h)
      | false ↦ λ e. refl
    ] refl)

set-twice : {X : Type 0} (xs : List X) (i : ℕ) (x y : X) → slice_get xs i ≡ Some y → set (set xs i x) i y ≡ xs
set-twice [] i x y h = refl
set-twice (z ∷ xs) zero x y h = let e : z ≡ y = cc in ap (λ w. w ∷ xs) (sym e)
set-twice (z ∷ xs) (suc i) x y h = ap (λ l. z ∷ l) (set-twice xs i x y h)

pub put-back : (s : Entries) (n : ℕ) → WasLinked s n → put (taken s n) n ≡ s
put-back s n was =
    entries-same s.vars (record { cells = s.cells; chains = s.chains }) (with_var (var_at s.vars n) (without (var_at s.vars n) s.linked)) s.linked
    (set (set s.kept n (Some (beside (same_var (var_at s.vars n)) s.linked))) n None) s.kept
    (with-without (var_at s.vars n) s.linked was.rising was.linked) (set-twice s.kept n (Some (beside (same_var (var_at s.vars n)) s.linked)) None was.kept)

-- an entry that is found is linked
pub found-linked : (vars : List Var) (row : Line) (hint : Option ℕ) (chains : Chained) → AreLinks vars row hint chains → (now : Entries) → entries_of vars row chains ≡ now
    → (o : Option ℕ) → IfSome o (λ n. has_node row.linked n ≡ true) → IfSome o (λ n. IsTrue (has now.linked (var_at now.vars n)))
found-linked vars row hint chains h now is None k = tt
found-linked vars row hint chains h now is (Some n) k =
    sym (linked-number vars row hint chains h now is n (subst (λ (s : Entries). n < length s.vars) is (h.below n k))) ∙ k

-- a variable without an entry isn't linked
pub unknown-unlinked : (vars : List Var) (row : Line) (hint : Option ℕ) (chains : Chained) → AreLinks vars row hint chains → (v : Var) → has vars v ≡ false
    → has (map (var_at vars) row.linked) v ≡ false
unknown-unlinked vars row hint chains h v fresh =
    elim (has (map (var_at vars) row.linked) v) as (λ b. has (map (var_at vars) row.linked) v ≡ b → b ≡ false) [
      | true ↦ λ e.
          let from = contains-map (var_at vars) row.linked v (has-in (map (var_at vars) row.linked) v e) in
          let below = h.below from.0 (node-has row.linked from.0 from.1) in
          absurd (false≢true (sym fresh ∙ contains-has vars v (subst (λ w. Contains vars w) from.2 (get-contains vars from.0 (var_at vars from.0) (slice_get-get_or vars from.0 no_var below)))))
      | false ↦ λ e. refl
    ] refl

-- an entry that was just unlinked may return
pub may-return : (s : Entries) (n : ℕ) → WasLinked s n → MayReturn (taken s n) n
may-return s n was =
    let v = var_at s.vars n in
    let part = parted s.linked v (has-in s.linked v was.linked) in
    let rising = ap is_rising (sym part.2) ∙ was.rising in
    let before : (u : Var) → Contains part.0 u → same_var v u ≡ false = λ u c. same-back v u ∙ before-not-same u v (front-before part.0 v part.1 u rising c) in
    let after : (u : Var) → Contains part.1 u → same_var v u ≡ false = λ u c. before-not-same v u (rising-below v part.1 u (rising-rest part.0 v part.1 rising) c) in (
      beside (same_var v) s.linked,
      slice_get-set s.kept n (Some (beside (same_var v) s.linked)) None was.kept,
      (
        part.0,
        part.1,
        ap (without v) part.2 ∙ without-here part.0 v part.1 before after,
        ap (λ o. o.0) (sym (beside-here None part.0 v part.1 before)) ∙ ap (λ l. (beside (same_var v) l).0) (sym part.2),
        ap (λ o. o.1) (sym (beside-here None part.0 v part.1 before)) ∙ ap (λ l. (beside (same_var v) l).1) (sym part.2),
      ),
    )
  where
    rising-rest : (xs : List Var) (v : Var) (ys : List Var) → is_rising (xs ++ v ∷ ys) ≡ true → is_rising (v ∷ ys) ≡ true
    rising-rest [] v ys h = h
    rising-rest (x ∷ xs) v ys h = rising-rest xs v ys (rising-tail x (xs ++ v ∷ ys) h)

    front-before : (xs : List Var) (v : Var) (ys : List Var) (u : Var) → is_rising (xs ++ v ∷ ys) ≡ true → Contains xs u → is_before u v ≡ true
    front-before [] v ys u h c = absurd (contains-none u c)
    front-before (x ∷ xs) v ys u h c =
        elim (contains-cases x xs u c) [
          | inl e ↦ subst (λ w. is_before w v ≡ true) e (rising-below x (xs ++ v ∷ ys) v h (contains-right xs (v ∷ ys) v (contains-head v ys)))
          | inr r ↦ front-before xs v ys u (rising-tail x (xs ++ v ∷ ys) h) r
        ]

    without-all : (xs : List Var) (v : Var) → ((u : Var) → Contains xs u → same_var v u ≡ false) → without v xs ≡ xs
    without-all [] v h = refl
    without-all (x ∷ xs) v h =
        ap (λ b. cond (not b) (x ∷ without v xs) (without v xs)) (h x (contains-head x xs)) ∙ ap (λ l. x ∷ l) (without-all xs v (λ u c. h u (contains-tail x xs u c)))

    without-here : (xs : List Var) (v : Var) (ys : List Var) → ((u : Var) → Contains xs u → same_var v u ≡ false) → ((u : Var) → Contains ys u → same_var v u ≡ false)
        → without v (xs ++ v ∷ ys) ≡ xs ++ ys
    without-here [] v ys h k = ap (λ b. cond (not b) (v ∷ without v ys) (without v ys)) (same_var-refl v) ∙ without-all ys v k
    without-here (x ∷ xs) v ys h k =
        ap (λ b. cond (not b) (x ∷ without v (xs ++ v ∷ ys)) (without v (xs ++ v ∷ ys))) (h x (contains-head x xs))
        ∙ ap (λ l. x ∷ l) (without-here xs v ys (λ u c. h u (contains-tail x xs u c)) k)

    beside-here : (before : Option Var) (xs : List Var) (v : Var) (ys : List Var) → ((u : Var) → Contains xs u → same_var v u ≡ false)
        → beside_from (same_var v) before (xs ++ v ∷ ys) ≡ pair (last_from before xs) (first_of ys)
    beside-here before [] v ys h = ap (λ b. cond b (pair before (first_of ys)) (beside_from (same_var v) (Some v) ys)) (same_var-refl v)
    beside-here before (x ∷ xs) v ys h =
        ap (λ b. cond b (pair before (first_of (xs ++ v ∷ ys))) (beside_from (same_var v) (Some x) (xs ++ v ∷ ys))) (h x (contains-head x xs))
        ∙ beside-here (Some x) xs v ys (λ u c. h u (contains-tail x xs u c))

-- a registration links nothing
pub registered-linked : (s : Entries) (v : Var) → has (registered s v).linked v ≡ has s.linked v
registered-linked s v =
    let more : Entries = record s { vars = s.vars ++ v ∷ []; kept = s.kept ++ Some (None, None) ∷ []; chains = s.chains ++ [] ∷ [] } in
    elim (has s.vars v) as (λ b. has (cond b s more).linked v ≡ has s.linked v) [ true ↦ refl | false ↦ refl ]
