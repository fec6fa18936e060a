-- Shared: mentions as cells: an entry's variable and cells, a cell added or removed, the walk along a chain.
use Rattle.std.proofs.Common.{◌≡◌, ℕ, zero, suc, ◌+◌, ◌<◌, ◌≤◌, arith, length, take, drop, get_or, eqb, eqb-true, eq-eqb, true, false, cond, ◌||◌, List, [], ◌∷◌, ◌++◌, Option, Some, None, is_some, IfSome, map, filter, refl, sym, ap, ◌∙◌, subst, inl, inr, ◌⊎◌, append_assoc, append-nil, length-append}
use Rattle.std.specs.List.{Contains, slice_get}
use Rattle.std.proofs.Math.ListN.{set}
use Rattle.std.proofs.Math.Seq.{get_or-append_seam, take-length, take-set-le, drop-set-add}
use Rattle.std.proofs.lemmas.List.{map-append, length-map, length-drop, at_drop_more, take_more, take-append-le, take-append-drop, get_or-map, length-set, get_or-set_same, get_or-set_other, get_or_append_left}
use Rattle.std.proofs.lemmas.List.Elements.{filter-append}
use Rattle.std.proofs.lemmas.Bool.{false≢true, cases_lt}
use Rattle.std.specs.Option.{option_map}
use Rattle.std.proofs.lemmas.Option.{slice_get_within, get_or_from_slice_get, slice_get-get_or, slice_get-map}
use Rattle.common_laws.specs.Lists.{contains-head, contains-tail, contains-none, contains-cases}
use Rattle.qualified_goals.specs.declared.variable.Var.{Var}
use Rattle.qualified_goals.specs.Variable.{same_var}
use Rattle.qualified_goals.specs.SameVariable.{same_var-is}
use Rattle.choice_problem.specs.ConflictSet.{has}
use Rattle.goal_links.specs.declared.chains.Cell.{Cell}
use Rattle.goal_links.specs.Beside.{last_of, first_of}
use Rattle.goal_links.specs.Ring.{AreOnce}
use Rattle.goal_links.specs.Row.{has_node, behind}
use Rattle.goal_links.specs.Chains.{no_cell, cell_at, chain_at, without_last}
use Rattle.goal_links.specs.Links.{Entries, no_var, var_at, chain_with, registered, with_cell, with_cell_at, lengthened, shortened}
use Rattle.choice_problem.proofs.EdgePaths.{parted}
use Rattle.choice_problem.proofs.VariableSets.{contains-has, has-append}
use Rattle.goal_links.specs.Places.{IsInChain, cells_from}
use Rattle.goal_links.proofs.Paths.{last-end}
use Rattle.goal_links.proofs.Rings.{has-contains}
use Rattle.goal_links.proofs.Nodes.{not-in, behind-parted, apart-front}
use Rattle.goal_links.proofs.Chained.{without-last}
use Rattle.goal_links.proofs.EntryLemmas.{same-number}
use Rattle.goal_links.proofs.NamedItems.{get-contains, get-left, map-alike}
use Rattle.goal_links.specs.declared.mentions.Mention.{Mention}
use Rattle.goal_links.specs.Mentions.{mention_in, mentions, numbers_from, indices_from, indices_on, place_at, places_on, used, AreMentions, AreSaid, KeepRow, vars_at}

-- the variable of an entry

pub at-entry : (vars : List Var) (n : ℕ) (v : Var) → slice_get vars n ≡ Some v → var_at vars n ≡ v
at-entry vars n v h = get_or_from_slice_get vars n v no_var h

pub get-at : (vars : List Var) (n : ℕ) → n < length vars → slice_get vars n ≡ Some (var_at vars n)
get-at vars n h = slice_get-get_or vars n no_var h

pub entry-known : (vars : List Var) (n : ℕ) (v : Var) → slice_get vars n ≡ Some v → has vars v ≡ true
entry-known vars n v h = contains-has vars v (get-contains vars n v h)

-- the places of mentions

pub places-append : (v : Var) (xs ys : List Mention) → places_on v (xs ++ ys) ≡ places_on v xs ++ places_on v ys
places-append v xs ys =
    ap (map (λ m. m.place)) (filter-append (λ m. same_var m.var v) xs ys)
    ∙ map-append (λ m. m.place) (filter (λ m. same_var m.var v) xs) (filter (λ m. same_var m.var v) ys)

-- the numbers of an entry's cells

numbers-push : (n entry : ℕ) (cells : List Cell) (cell : Cell)
    → numbers_from n entry (cells ++ cell ∷ []) ≡ numbers_from n entry cells ++ cond (eqb entry cell.entry) ((n + length cells) ∷ []) []
numbers-push n entry [] cell = ap (λ k. cond (eqb entry cell.entry) (k ∷ []) []) (omega arith)
numbers-push n entry (x ∷ cells) cell =
    let last = cond (eqb entry cell.entry) ((n + suc (length cells)) ∷ []) [] in
    let rest = numbers_from (suc n) entry cells in
    let more : numbers_from (suc n) entry (cells ++ cell ∷ []) ≡ rest ++ last =
    numbers-push (suc n) entry cells cell ∙ ap (λ k. rest ++ cond (eqb entry cell.entry) (k ∷ []) []) (omega arith) in
    ap (λ l. cond (eqb entry x.entry) (n ∷ l) l) more
    ∙ elim (eqb entry x.entry) as (λ b. cond b (n ∷ rest ++ last) (rest ++ last) ≡ cond b (n ∷ rest) rest ++ last) [ true ↦ refl | false ↦ refl ]

numbers-within : (n entry : ℕ) (cells : List Cell) (k : ℕ) → Contains (numbers_from n entry cells) k → (n ≤ k) × (k < n + length cells)
numbers-within n entry [] k c = absurd (contains-none k c)
numbers-within n entry (x ∷ cells) k c =
    let later : Contains (numbers_from (suc n) entry cells) k → (n ≤ k) × (k < n + suc (length cells)) =
    λ d. let more = numbers-within (suc n) entry cells k d in (omega (arith, more.0), omega (arith, more.1)) in
    elim (eqb entry x.entry) as (λ b. Contains (cond b (n ∷ numbers_from (suc n) entry cells) (numbers_from (suc n) entry cells)) k → (n ≤ k) × (k < n + suc (length cells))) [
      | true ↦ λ d. elim (contains-cases n (numbers_from (suc n) entry cells) k d) [ inl e ↦ (omega (arith, e), omega (arith, e)) | inr r ↦ later r ]
      | false ↦ later
    ] c

numbers-once : (start : Option ℕ) (n entry : ℕ) (cells : List Cell) → ((k : ℕ) → start ≡ Some k → k < n) → AreOnce start (numbers_from n entry cells)
numbers-once start n entry [] before = tt
numbers-once start n entry (x ∷ cells) before =
    let rest = numbers_from (suc n) entry cells in
    elim (eqb entry x.entry) as (λ b. AreOnce start (cond b (n ∷ rest) rest)) [
      | true ↦ (
        λ k c e.
            let less = before k e in
            elim (contains-cases n rest k c) [
              | inl i ↦ omega (arith, less, i)
              | inr r ↦ let more = (numbers-within (suc n) entry cells k r).0 in omega (arith, less, more)
            ],
        numbers-once (Some n) (suc n) entry cells (λ k e. let i : n ≡ k = cc in omega (arith, i)),
      )
      | false ↦ numbers-once start (suc n) entry cells (λ k e. let less = before k e in omega (arith, less))
    ]

pub chain-once : (s : Entries) → AreMentions s → (entry : ℕ) → entry < length s.vars → AreOnce None (chain_at s.chains entry)
chain-once s h entry lt = subst (λ l. AreOnce None l) (sym (h.chains entry lt)) (numbers-once None 0 entry s.cells (λ k e. absurd (cc e)))

numbers-none : (n entry : ℕ) (cells : List Cell) → ((k : ℕ) → k < length cells → (cell_at cells k).entry ≡ entry → ⊥) → numbers_from n entry cells ≡ []
numbers-none n entry [] other = refl
numbers-none n entry (x ∷ cells) other =
    elim (eqb entry x.entry) as (λ b. eqb entry x.entry ≡ b → cond b (n ∷ numbers_from (suc n) entry cells) (numbers_from (suc n) entry cells) ≡ []) [
      | true ↦ λ e. absurd (other 0 (omega arith) (sym (eqb-true entry x.entry e)))
      | false ↦ λ e. numbers-none (suc n) entry cells (λ k lt. other (suc k) (omega (arith, lt)))
    ] refl

-- an entry's cells have the places of its variable's mentions

module _ (vars : List Var) (once : (m n : ℕ) → m < length vars → n < length vars → var_at vars m ≡ var_at vars n → m ≡ n) (entry : ℕ) (fits : entry < length vars) where
  places-from : (front cells all : List Cell) → all ≡ front ++ cells → ((k : ℕ) → k < length all → (cell_at all k).entry < length vars)
      → places_on (var_at vars entry) (map (mention_in vars) cells) ≡ map (place_at all) (numbers_from (length front) entry cells)
  places-from front [] all e within = refl
  places-from front (x ∷ cells) all e within =
      let v = var_at vars entry in
      let others = filter (λ m. same_var m.var v) (map (mention_in vars) cells) in
      let rest = numbers_from (suc (length front)) entry cells in
      let at : cell_at all (length front) ≡ x = ap (λ (l : List Cell). cell_at l (length front)) e ∙ get_or-append_seam front x cells no_cell in
      let lt : length front < length all = omega (arith, ap length e, length-append front (x ∷ cells)) in
      let own : x.entry < length vars = subst (λ (y : Cell). y.entry < length vars) at (within (length front) lt) in
      let count : length (front ++ x ∷ []) ≡ suc (length front) = omega (arith, length-append front (x ∷ [])) in
      let more : map (λ m. m.place) others ≡ map (place_at all) rest =
      places-from (front ++ x ∷ []) cells all (e ∙ sym (append_assoc front (x ∷ []) cells)) within
      ∙ ap (λ n. map (place_at all) (numbers_from n entry cells)) count in
      ap (λ b. map (λ m. m.place) (cond b (mention_in vars x ∷ others) others)) (same-number vars once x.entry entry own fits)
      ∙ elim (eqb entry x.entry) as (λ b. map (λ m. m.place) (cond b (mention_in vars x ∷ others) others) ≡ map (place_at all) (cond b (length front ∷ rest) rest)) [
        | true ↦ ap (λ l. x.place ∷ l) more ∙ ap (λ (y : Cell). y.place ∷ map (place_at all) rest) (sym at)
        | false ↦ more
      ]

  has-from : (n : ℕ) (cells : List Cell) → ((k : ℕ) → k < length cells → (cell_at cells k).entry < length vars)
      → has (vars_at (map (mention_in vars) cells)) (var_at vars entry) ≡ is_some (first_of (numbers_from n entry cells))
  has-from n [] within = refl
  has-from n (x ∷ cells) within =
      let rest = numbers_from (suc n) entry cells in
      ap (λ b. b || has (vars_at (map (mention_in vars) cells)) (var_at vars entry)) (same-number vars once x.entry entry (within 0 (omega arith)) fits)
      ∙ elim (eqb entry x.entry) as (λ b. b || has (vars_at (map (mention_in vars) cells)) (var_at vars entry) ≡ is_some (first_of (cond b (n ∷ rest) rest))) [
        | true ↦ refl
        | false ↦ has-from (suc n) cells (λ k lt. within (suc k) (omega (arith, lt)))
      ]

  indices-at : (n : ℕ) (cells : List Cell) → ((k : ℕ) → k < length cells → (cell_at cells k).entry < length vars)
      → indices_from n (var_at vars entry) (map (mention_in vars) cells) ≡ numbers_from n entry cells
  indices-at n [] within = refl
  indices-at n (x ∷ cells) within =
      let later = indices_from (suc n) (var_at vars entry) (map (mention_in vars) cells) in
      ap (λ b. cond b (n ∷ later) later) (same-number vars once x.entry entry (within 0 (omega arith)) fits)
      ∙ ap (λ l. cond (eqb entry x.entry) (n ∷ l) l) (indices-at (suc n) cells (λ k lt. within (suc k) (omega (arith, lt))))

pub chain-indices : (s : Entries) → AreMentions s → ((m n : ℕ) → m < length s.vars → n < length s.vars → var_at s.vars m ≡ var_at s.vars n → m ≡ n)
    → (entry : ℕ) (v : Var) → slice_get s.vars entry ≡ Some v → indices_on v (mentions s) ≡ chain_at s.chains entry
chain-indices s h once entry v at =
    let lt = slice_get_within s.vars entry v at in
    ap (λ w. indices_on w (mentions s)) (sym (get_or_from_slice_get s.vars entry v no_var at))
    ∙ indices-at s.vars once entry lt 0 s.cells h.within
    ∙ sym (h.chains entry lt)

pub chain-places : (s : Entries) → AreMentions s → ((m n : ℕ) → m < length s.vars → n < length s.vars → var_at s.vars m ≡ var_at s.vars n → m ≡ n)
    → (entry : ℕ) (v : Var) → slice_get s.vars entry ≡ Some v → places_on v (mentions s) ≡ map (place_at s.cells) (chain_at s.chains entry)
chain-places s h once entry v at =
    let lt = slice_get_within s.vars entry v at in
    ap (λ w. places_on w (mentions s)) (sym (get_or_from_slice_get s.vars entry v no_var at))
    ∙ places-from s.vars once entry lt [] s.cells s.cells refl h.within
    ∙ ap (map (place_at s.cells)) (sym (h.chains entry lt))

pub chain-has : (s : Entries) → AreMentions s → ((m n : ℕ) → m < length s.vars → n < length s.vars → var_at s.vars m ≡ var_at s.vars n → m ≡ n)
    → (entry : ℕ) (v : Var) → slice_get s.vars entry ≡ Some v → has (vars_at (mentions s)) v ≡ is_some (first_of (chain_at s.chains entry))
chain-has s h once entry v at =
    let lt = slice_get_within s.vars entry v at in
    ap (has (vars_at (mentions s))) (sym (get_or_from_slice_get s.vars entry v no_var at))
    ∙ has-from s.vars once entry lt 0 s.cells h.within
    ∙ ap (λ l. is_some (first_of l)) (sym (h.chains entry lt))

-- a variable without an entry isn't mentioned
module _ (vars : List Var) (v : Var) (fresh : has vars v ≡ false) where
  not-at : (n : ℕ) → n < length vars → same_var (var_at vars n) v ≡ false
  not-at n lt =
      elim (same_var (var_at vars n) v) as (λ b. same_var (var_at vars n) v ≡ b → b ≡ false) [
        | true ↦ λ e. absurd (false≢true (sym fresh ∙ entry-known vars n v (get-at vars n lt ∙ ap Some (same_var-is (var_at vars n) v e))))
        | false ↦ λ e. refl
      ] refl

  pub unknown-has : (cells : List Cell) → ((k : ℕ) → k < length cells → (cell_at cells k).entry < length vars) → has (vars_at (map (mention_in vars) cells)) v ≡ false
  unknown-has [] within = refl
  unknown-has (x ∷ cells) within =
      ap (λ b. b || has (vars_at (map (mention_in vars) cells)) v) (not-at x.entry (within 0 (omega arith)))
      ∙ unknown-has cells (λ k lt. within (suc k) (omega (arith, lt)))

  pub unknown-places : (cells : List Cell) → ((k : ℕ) → k < length cells → (cell_at cells k).entry < length vars) → places_on v (map (mention_in vars) cells) ≡ []
  unknown-places [] within = refl
  unknown-places (x ∷ cells) within =
      let others = filter (λ m. same_var m.var v) (map (mention_in vars) cells) in
      ap (λ b. map (λ m. m.place) (cond b (mention_in vars x ∷ others) others)) (not-at x.entry (within 0 (omega arith)))
      ∙ unknown-places cells (λ k lt. within (suc k) (omega (arith, lt)))

  pub unknown-indices : (n : ℕ) (cells : List Cell) → ((k : ℕ) → k < length cells → (cell_at cells k).entry < length vars) → indices_from n v (map (mention_in vars) cells) ≡ []
  unknown-indices n [] within = refl
  unknown-indices n (x ∷ cells) within =
      let later = indices_from (suc n) v (map (mention_in vars) cells) in
      ap (λ b. cond b (n ∷ later) later) (not-at x.entry (within 0 (omega arith)))
      ∙ unknown-indices (suc n) cells (λ k lt. within (suc k) (omega (arith, lt)))

-- a variable is registered

pub registered-mentions : (s : Entries) (v : Var) → AreMentions s → AreMentions (registered s v) × (mentions (registered s v) ≡ mentions s)
registered-mentions s v h =
    let more : Entries = record s { vars = s.vars ++ v ∷ []; kept = s.kept ++ Some (None, None) ∷ []; chains = s.chains ++ [] ∷ [] } in
    let longer : length (s.vars ++ v ∷ []) ≡ length s.vars + 1 = length-append s.vars (v ∷ []) in
    elim (has s.vars v) as (λ b. AreMentions (cond b s more) × (mentions (cond b s more) ≡ mentions s)) [
      | true ↦ (h, refl)
      | false ↦ (
        record {
          counted = length-append s.chains ([] ∷ []) ∙ ap (λ n. n + 1) h.counted ∙ sym longer;
          within = λ k lt. let less = h.within k lt in omega (arith, less, longer);
          chains = λ entry lt. elim (cases_lt entry (length s.vars)) [
            | inl less ↦ get_or_append_left s.chains ([] ∷ []) [] entry (omega (arith, less, h.counted)) ∙ h.chains entry less
            | inr least ↦
                let last : entry ≡ length s.chains = omega (arith, least, lt, longer, h.counted) in
                ap (λ n. chain_at (s.chains ++ [] ∷ []) n) last ∙ get_or-append_seam s.chains [] [] []
                ∙ sym (numbers-none 0 entry s.cells (λ k less e. let own = h.within k less in omega (arith, own, e, least)))
          ];
        },
        map-alike (mention_in (s.vars ++ v ∷ [])) (mention_in s.vars) s.cells (λ k x e.
            let less : x.entry < length s.vars = subst (λ (y : Cell). y.entry < length s.vars) (get_or_from_slice_get s.cells k x no_cell e) (h.within k (slice_get_within s.cells k x e)) in
            ap (λ w. let m : Mention = record { var = w; place = x.place } in m) (get_or_append_left s.vars (v ∷ []) no_var x.entry less)),
      )
    ]

-- other cells
abbrev pub with_front : Entries → List Cell → Entries
with_front s cells = record s { cells = cells }

-- a cell added

at-last : (cells : List Cell) (x : Cell) (k : ℕ) → k < length (cells ++ x ∷ []) → ((k < length cells) × (cell_at (cells ++ x ∷ []) k ≡ cell_at cells k)) ⊎ (cell_at (cells ++ x ∷ []) k ≡ x)
at-last cells x k lt =
    elim (cases_lt k (length cells)) [
      | inl less ↦ inl (less, get_or_append_left cells (x ∷ []) no_cell k less)
      | inr least ↦
          let last : k ≡ length cells = omega (arith, least, lt, length-append cells (x ∷ [])) in
          inr (ap (cell_at (cells ++ x ∷ [])) last ∙ get_or-append_seam cells x [] no_cell)
    ]

module _ (s : Entries) (cell : Cell) (h : AreMentions s) (fits : cell.entry < length s.vars) where
  abbrev with_it : Entries
  with_it = with_cell s cell

  abbrev longer : Entries
  longer = lengthened with_it (length s.cells)

  own-entry : (cell_at (s.cells ++ cell ∷ []) (length s.cells)).entry ≡ cell.entry
  own-entry = ap (λ (x : Cell). x.entry) (get_or-append_seam s.cells cell [] no_cell)

  chain-put : chain_with with_it (length s.cells) ≡ numbers_from 0 cell.entry s.cells
  chain-put = ap (chain_at s.chains) own-entry ∙ h.chains cell.entry fits

  pub pushed-mentions : AreMentions longer
  pushed-mentions =
      let entry = (cell_at (s.cells ++ cell ∷ []) (length s.cells)).entry in
      let chain = chain_with with_it (length s.cells) ++ length s.cells ∷ [] in
      record {
        counted = length-set s.chains entry chain ∙ h.counted;
        within = λ k lt. elim (at-last s.cells cell k lt) [
          | inl p ↦ subst (λ (x : Cell). x.entry < length s.vars) (sym p.1) (h.within k p.0)
          | inr p ↦ subst (λ (x : Cell). x.entry < length s.vars) (sym p) fits
        ];
        chains = λ e lt.
            ap (λ n. get_or (set s.chains n chain) e []) own-entry
            ∙ elim (eqb e cell.entry) as (λ b. eqb e cell.entry ≡ b → get_or (set s.chains cell.entry chain) e [] ≡ numbers_from 0 e s.cells ++ cond b ((0 + length s.cells) ∷ []) []) [
              | true ↦ λ i.
                  let same : e ≡ cell.entry = eqb-true e cell.entry i in
                  ap (λ n. get_or (set s.chains cell.entry chain) n []) same ∙ get_or-set_same s.chains cell.entry chain [] (omega (arith, fits, h.counted))
                  ∙ ap (λ l. l ++ length s.cells ∷ []) (chain-put ∙ ap (λ n. numbers_from 0 n s.cells) (sym same))
                  ∙ ap (λ n. numbers_from 0 e s.cells ++ n ∷ []) (omega arith)
              | false ↦ λ i.
                  let other : e ≡ cell.entry → ⊥ = λ j. false≢true (sym i ∙ eq-eqb e cell.entry j) in
                  get_or-set_other s.chains cell.entry e chain [] other ∙ h.chains e lt ∙ sym (append-nil (numbers_from 0 e s.cells))
            ] refl
            ∙ sym (numbers-push 0 e s.cells cell);
      }

-- a cell removed

module _ (s : Entries) (front : List Cell) (cell : Cell) (h : AreMentions s) (parts : s.cells ≡ front ++ cell ∷ []) where
  last-entry : (cell_at s.cells (length front)).entry ≡ cell.entry
  last-entry = ap (λ (l : List Cell). (cell_at l (length front)).entry) parts ∙ ap (λ (x : Cell). x.entry) (get_or-append_seam front cell [] no_cell)

  last-fits : cell.entry < length s.vars
  last-fits =
      subst (λ n. n < length s.vars) last-entry (h.within (length front) (omega (arith, ap length parts, length-append front (cell ∷ []))))

  chain-parts : (e : ℕ) → e < length s.vars → chain_at s.chains e ≡ numbers_from 0 e front ++ cond (eqb e cell.entry) ((0 + length front) ∷ []) []
  chain-parts e lt = h.chains e lt ∙ ap (numbers_from 0 e) parts ∙ numbers-push 0 e front cell

  last-chain : chain_with s (length front) ≡ numbers_from 0 cell.entry front ++ length front ∷ []
  last-chain =
      ap (chain_at s.chains) last-entry ∙ chain-parts cell.entry last-fits
      ∙ ap (λ b. numbers_from 0 cell.entry front ++ cond b ((0 + length front) ∷ []) []) (eq-eqb cell.entry cell.entry refl)
      ∙ ap (λ n. numbers_from 0 cell.entry front ++ n ∷ []) (omega arith)

  pub last-is : last_of (chain_with s (length front)) ≡ Some (length front)
  last-is = ap last_of last-chain ∙ last-end None (numbers_from 0 cell.entry front) (length front)

  abbrev less : Entries
  less = with_front (shortened s (length front)) front

  pub popped-mentions : AreMentions less
  popped-mentions =
      let entry = (cell_at s.cells (length front)).entry in
      let chain = without_last (chain_with s (length front)) in
      record {
        counted = length-set s.chains entry chain ∙ h.counted;
        within = λ k lt.
            subst (λ (x : Cell). x.entry < length s.vars) (ap (λ (l : List Cell). cell_at l k) parts ∙ get_or_append_left front (cell ∷ []) no_cell k lt)
            (h.within k (omega (arith, lt, ap length parts, length-append front (cell ∷ []))));
        chains = λ e lt.
            ap (λ n. get_or (set s.chains n chain) e []) last-entry
            ∙ elim (eqb e cell.entry) as (λ b. eqb e cell.entry ≡ b → get_or (set s.chains cell.entry chain) e [] ≡ numbers_from 0 e front) [
              | true ↦ λ i.
                  let same : e ≡ cell.entry = eqb-true e cell.entry i in
                  ap (λ n. get_or (set s.chains cell.entry chain) n []) same ∙ get_or-set_same s.chains cell.entry chain [] (omega (arith, last-fits, h.counted))
                  ∙ ap without_last last-chain ∙ without-last (numbers_from 0 cell.entry front) (length front) ∙ ap (λ n. numbers_from 0 n front) (sym same)
              | false ↦ λ i.
                  let other : e ≡ cell.entry → ⊥ = λ j. false≢true (sym i ∙ eq-eqb e cell.entry j) in
                  get_or-set_other s.chains cell.entry e chain [] other ∙ chain-parts e lt
                  ∙ ap (λ b. numbers_from 0 e front ++ cond b ((0 + length front) ∷ []) []) i ∙ append-nil (numbers_from 0 e front)
            ] refl;
      }

-- the cells that are in use, and those behind them

drop-more : {X : Type 0} (xs : List X) (n : ℕ) (d : X) → n < length xs → drop n xs ≡ get_or xs n d ∷ drop (n + 1) xs
drop-more xs n d lt = at_drop_more (λ l. l) xs n d lt

length-front : {X : Type 0} (n : ℕ) (xs : List X) → n ≤ length xs → length (take n xs) ≡ n
length-front zero xs h = refl
length-front (suc n) [] h = absurd (omega (arith, h))
length-front (suc n) (x ∷ xs) h = ap suc (length-front n xs (omega (arith, h)))

module _ (s : Entries) (n : ℕ) (h : AreSaid s n) where
  used-count : length (take n s.cells) ≡ n
  used-count = length-front n s.cells h.count

  pub said-count : n ≡ length (mentions (used n s))
  said-count = sym used-count ∙ sym (length-map (take n s.cells) (mention_in s.vars))

  pub spare-count : n + length (map (mention_in s.vars) (drop n s.cells)) ≡ length s.cells
  spare-count = omega (arith, h.count, length-map (drop n s.cells) (mention_in s.vars), length-drop n s.cells)

  pub all-mentioned : mentions (used n s) ++ map (mention_in s.vars) (drop n s.cells) ≡ mentions s
  all-mentioned = sym (map-append (mention_in s.vars) (take n s.cells) (drop n s.cells)) ∙ ap (map (mention_in s.vars)) (take-append-drop n s.cells)

  -- the entry of the mention with an index
  pub mention-entry : (k : ℕ) (m : Mention) → k < length s.cells → slice_get (mentions (used n s) ++ map (mention_in s.vars) (drop n s.cells)) k ≡ Some m
      → slice_get s.vars (cell_at s.cells k).entry ≡ Some m.var
  mention-entry k m lt e =
      let all : Some (mention_in s.vars (cell_at s.cells k)) ≡ Some m =
      sym (slice_get-map (mention_in s.vars) s.cells k ∙ ap (option_map (mention_in s.vars)) (slice_get-get_or s.cells k no_cell lt))
      ∙ ap (λ (l : List Mention). slice_get l k) (sym all-mentioned) ∙ e in
      let is : mention_in s.vars (cell_at s.cells k) ≡ m = cc all in
      get-at s.vars (cell_at s.cells k).entry (h.within k lt) ∙ ap (λ (x : Mention). Some x.var) is

  pub said-at : (k : ℕ) (m : Mention) → k < n → mention_in s.vars (cell_at s.cells k) ≡ get_or (mentions (used n s)) k m
  said-at k m lt =
      sym (get_or-map (mention_in s.vars) (take n s.cells) k no_cell m (omega (arith, lt, used-count))
      ∙ ap (mention_in s.vars) (sym (get_or_append_left (take n s.cells) (drop n s.cells) no_cell k (omega (arith, lt, used-count)))
      ∙ ap (λ (l : List Cell). cell_at l k) (take-append-drop n s.cells)))

  pub said-once : (entry : ℕ) → entry < length s.vars → AreOnce None (chain_at s.chains entry)
  said-once entry lt = chain-once (used n s) h.said entry lt

  -- the number of a cell that isn't in use is in no chain
  pub spare-outside : (k : ℕ) → n ≤ k → k < length s.cells → has_node (chain_with s k) k ≡ false
  spare-outside k least lt =
      ap (λ l. has_node l k) (h.said.chains (cell_at s.cells k).entry (h.within k lt))
      ∙ not-in (numbers_from 0 (cell_at s.cells k).entry (take n s.cells)) k (λ c.
      let in' = (numbers-within 0 (cell_at s.cells k).entry (take n s.cells) k c).1 in
      omega (arith, in', least, used-count))

  -- the places of cells in a chain are those of the ones in use
  pub said-places : (entry : ℕ) → entry < length s.vars → map (place_at (take n s.cells)) (chain_at s.chains entry) ≡ map (place_at s.cells) (chain_at s.chains entry)
  said-places entry lt =
      map-each (place_at (take n s.cells)) (place_at s.cells) (chain_at s.chains entry) (λ k c.
      let in' = (numbers-within 0 entry (take n s.cells) k (subst (λ (l : List ℕ). Contains l k) (h.said.chains entry lt) c)).1 in
      ap (λ (x : Cell). x.place) (sym (get_or_append_left (take n s.cells) (drop n s.cells) no_cell k (omega (arith, in'))) ∙ ap (λ (l : List Cell). cell_at l k) (take-append-drop n s.cells)))
    where
      map-each : {X Y : Type 0} (f g : X → Y) (xs : List X) → ((x : X) → Contains xs x → f x ≡ g x) → map f xs ≡ map g xs
      map-each f g [] e = refl
      map-each f g (x ∷ xs) e = ap (λ y. y ∷ map f xs) (e x (contains-head x xs)) ∙ ap (λ l. g x ∷ l) (map-each f g xs (λ y c. e y (contains-tail x xs y c)))

-- a cell is taken into use

module _ (s u : Entries) (n : ℕ) (h : AreSaid s n) (more : n < length s.cells) (is : u ≡ lengthened s n) where
  abbrev next : Cell
  next = cell_at s.cells n

  next-fits : next.entry < length s.vars
  next-fits = h.within n more

  grown : take (n + 1) s.cells ≡ take n s.cells ++ next ∷ []
  grown = take_more s.cells n no_cell more

  used-grown : used (n + 1) (lengthened s n) ≡ lengthened (with_cell (used n s) next) (length (take n s.cells))
  used-grown =
      let with_both : List Cell → ℕ → ℕ → Entries = λ cells entry k. record s { cells = cells; chains = set s.chains entry (chain_at s.chains entry ++ k ∷ []) } in
      let own : (cell_at (take n s.cells ++ next ∷ []) (length (take n s.cells))).entry ≡ next.entry = ap (λ (x : Cell). x.entry) (get_or-append_seam (take n s.cells) next [] no_cell) in
      ap (λ cells. with_both cells next.entry n) grown
      ∙ ap (λ k. with_both (take n s.cells ++ next ∷ []) next.entry k) (sym (used-count s n h))
      ∙ ap (λ e. with_both (take n s.cells ++ next ∷ []) e (length (take n s.cells))) (sym own)

  pub taken-up : AreSaid u (n + 1)
  taken-up = subst (λ (x : Entries). AreSaid x (n + 1)) (sym is) (record {
    said = subst (λ (x : Entries). AreMentions x) (sym used-grown) (pushed-mentions (used n s) next h.said next-fits);
    within = h.within;
    count = omega (arith, more);
  })

  pub said-more : mentions (used (n + 1) u) ≡ mentions (used n s) ++ take 1 (map (mention_in s.vars) (drop n s.cells))
  said-more =
      ap (λ (x : Entries). mentions (used (n + 1) x)) is ∙ ap (map (mention_in s.vars)) grown ∙ map-append (mention_in s.vars) (take n s.cells) (next ∷ [])
      ∙ ap (λ l. mentions (used n s) ++ take 1 (map (mention_in s.vars) l)) (sym (drop-more s.cells n no_cell more))

  pub spare-less : map (mention_in u.vars) (drop (n + 1) u.cells) ≡ drop 1 (map (mention_in s.vars) (drop n s.cells))
  spare-less =
      ap (λ (x : Entries). map (mention_in x.vars) (drop (n + 1) x.cells)) is
      ∙ ap (λ l. drop 1 (map (mention_in s.vars) l)) (sym (drop-more s.cells n no_cell more))

-- the last cell in use is removed

module _ (s u : Entries) (n : ℕ) (h : AreSaid s (n + 1)) (is : u ≡ shortened s n) where
  there : n < length s.cells
  there = omega (arith, h.count)

  abbrev pub last : Cell
  last = cell_at s.cells n

  front-count : n ≡ length (take n s.cells)
  front-count = sym (length-front n s.cells (omega (arith, there)))

  parted-cells : take (n + 1) s.cells ≡ take n s.cells ++ last ∷ []
  parted-cells = take_more s.cells n no_cell there

  same-last : (cell_at (take (n + 1) s.cells) (length (take n s.cells))).entry ≡ last.entry
  same-last = last-entry (used (n + 1) s) (take n s.cells) last h.said parted-cells

  pub pop-last : last_of (chain_with s n) ≡ Some n
  pop-last =
      ap (λ e. last_of (chain_at s.chains e)) (sym same-last)
      ∙ last-is (used (n + 1) s) (take n s.cells) last h.said parted-cells ∙ ap Some (sym front-count)

  used-less : used n (shortened s n) ≡ with_front (shortened (used (n + 1) s) (length (take n s.cells))) (take n s.cells)
  used-less =
      let with_entry : ℕ → Entries = λ entry. record s { cells = take n s.cells; chains = set s.chains entry (without_last (chain_at s.chains entry)) } in
      ap with_entry (sym same-last)

  pub taken-off : AreSaid u n
  taken-off = subst (λ (x : Entries). AreSaid x n) (sym is) (record {
    said = subst (λ (x : Entries). AreMentions x) (sym used-less) (popped-mentions (used (n + 1) s) (take n s.cells) last h.said parted-cells);
    within = h.within;
    count = omega (arith, there);
  })

  pub said-less : mentions (used (n + 1) s) ≡ mentions (used n u) ++ mention_in s.vars last ∷ []
  said-less =
      ap (map (mention_in s.vars)) parted-cells ∙ map-append (mention_in s.vars) (take n s.cells) (last ∷ [])
      ∙ ap (λ (x : Entries). mentions (used n x) ++ mention_in s.vars last ∷ []) (sym is)

-- the mentions that are made ready

registered-used : (n : ℕ) (s : Entries) (v : Var) → used n (registered s v) ≡ registered (used n s) v
registered-used n s v =
    let more : Entries = record s { vars = s.vars ++ v ∷ []; kept = s.kept ++ Some (None, None) ∷ []; chains = s.chains ++ [] ∷ [] } in
    elim (has s.vars v) as (λ b. used n (cond b s more) ≡ cond b (used n s) (used n more)) [ true ↦ refl | false ↦ refl ]

registered-cells : (s : Entries) (v : Var) → (registered s v).cells ≡ s.cells
registered-cells s v =
    let more : Entries = record s { vars = s.vars ++ v ∷ []; kept = s.kept ++ Some (None, None) ∷ []; chains = s.chains ++ [] ∷ [] } in
    elim (has s.vars v) as (λ b. (cond b s more).cells ≡ s.cells) [ true ↦ refl | false ↦ refl ]

pub registered-row : (s : Entries) (v : Var) → KeepRow s (registered s v)
registered-row s v =
    let more : Entries = record s { vars = s.vars ++ v ∷ []; kept = s.kept ++ Some (None, None) ∷ []; chains = s.chains ++ [] ∷ [] } in
    elim (has s.vars v) as (λ b. KeepRow s (cond b s more)) [
      | true ↦ record { linked = refl; vars = λ n w e. e; known = λ w e. e; kept = λ n k e. e }
      | false ↦ record {
        linked = refl;
        vars = λ n w e. get-left s.vars (v ∷ []) n w e;
        known = λ w e. has-append s.vars (v ∷ []) w ∙ ap (λ b. b || has (v ∷ []) w) e;
        kept = λ n k e. get-left s.kept (Some (None, None) ∷ []) n k e;
      }
    ]

-- registering a variable leaves the mentions unchanged
same-mentions : (vars more : List Var) (cells : List Cell) → ((k : ℕ) → k < length cells → (cell_at cells k).entry < length vars) → map (mention_in (vars ++ more)) cells ≡ map (mention_in vars) cells
same-mentions vars more cells within = map-alike (mention_in (vars ++ more)) (mention_in vars) cells (λ k x e.
    let less : x.entry < length vars = subst (λ (y : Cell). y.entry < length vars) (get_or_from_slice_get cells k x no_cell e) (within k (slice_get_within cells k x e)) in
    ap (λ w. let m : Mention = record { var = w; place = x.place } in m) (get_or_append_left vars more no_var x.entry less))

module _ (s : Entries) (n : ℕ) (v : Var) (h : AreSaid s n) where
  registered-all : mentions (registered s v) ≡ mentions s
  registered-all =
      let more : Entries = record s { vars = s.vars ++ v ∷ []; kept = s.kept ++ Some (None, None) ∷ []; chains = s.chains ++ [] ∷ [] } in
      elim (has s.vars v) as (λ b. mentions (cond b s more) ≡ mentions s) [ true ↦ refl | false ↦ same-mentions s.vars (v ∷ []) s.cells h.within ]

  pub registered-said : AreSaid (registered s v) n
  registered-said =
      let more : Entries = record s { vars = s.vars ++ v ∷ []; kept = s.kept ++ Some (None, None) ∷ []; chains = s.chains ++ [] ∷ [] } in
      record {
        said = subst (λ (x : Entries). AreMentions x) (sym (registered-used n s v)) (registered-mentions (used n s) v h.said).0;
        within = elim (has s.vars v) as (λ b. (k : ℕ) → k < length (cond b s more).cells → (cell_at (cond b s more).cells k).entry < length (cond b s more).vars) [
          | true ↦ h.within
          | false ↦ λ k lt. let less = h.within k lt in omega (arith, less, length-append s.vars (v ∷ []))
        ];
        count = omega (arith, h.count, ap length (registered-cells s v));
      }

  pub registered-front : mentions (used n (registered s v)) ≡ mentions (used n s)
  registered-front = ap mentions (registered-used n s v) ∙ (registered-mentions (used n s) v h.said).1

  pub registered-spare : map (mention_in (registered s v).vars) (drop n (registered s v).cells) ≡ map (mention_in s.vars) (drop n s.cells)
  registered-spare =
      sym (drop-map n (mention_in (registered s v).vars) (registered s v).cells) ∙ ap (drop n) registered-all ∙ drop-map n (mention_in s.vars) s.cells
    where
      drop-map : {X Y : Type 0} (n : ℕ) (f : X → Y) (xs : List X) → drop n (map f xs) ≡ map f (drop n xs)
      drop-map zero f xs = refl
      drop-map (suc n) f [] = refl
      drop-map (suc n) f (x ∷ xs) = drop-map n f xs

-- a cell behind those in use is replaced
module _ (s u : Entries) (n i : ℕ) (cell : Cell) (h : AreSaid s n) (fits : cell.entry < length s.vars) (lt : n + i < length s.cells) (is : u ≡ with_cell_at s (n + i) cell) where
  set-front : take n (set s.cells (n + i) cell) ≡ take n s.cells
  set-front = take-set-le n s.cells (n + i) cell (omega arith)

  pub set-said : AreSaid u n
  set-said = subst (λ (x : Entries). AreSaid x n) (sym is) (record {
    said = subst (λ (cells : List Cell). AreMentions (with_front s cells)) (sym set-front) h.said;
    within = λ k less. elim (eqb k (n + i)) as (λ b. eqb k (n + i) ≡ b → (cell_at (set s.cells (n + i) cell) k).entry < length s.vars) [
      | true ↦ λ e.
          let at : cell_at (set s.cells (n + i) cell) k ≡ cell = ap (cell_at (set s.cells (n + i) cell)) (eqb-true k (n + i) e) ∙ get_or-set_same s.cells (n + i) cell no_cell lt in
          subst (λ (x : Cell). x.entry < length s.vars) (sym at) fits
      | false ↦ λ e.
          let at : cell_at (set s.cells (n + i) cell) k ≡ cell_at s.cells k = get_or-set_other s.cells (n + i) k cell no_cell (λ j. false≢true (sym e ∙ eq-eqb k (n + i) j)) in
          subst (λ (x : Cell). x.entry < length s.vars) (sym at) (h.within k (omega (arith, less, length-set s.cells (n + i) cell)))
    ] refl;
    count = omega (arith, h.count, length-set s.cells (n + i) cell);
  })

  pub set-mentioned : mentions (used n u) ≡ mentions (used n s)
  set-mentioned = ap (λ (x : Entries). mentions (used n x)) is ∙ ap (map (mention_in s.vars)) set-front

  pub set-ready : take (i + 1) (map (mention_in u.vars) (drop n u.cells)) ≡ take i (map (mention_in s.vars) (drop n s.cells)) ++ mention_in s.vars cell ∷ []
  set-ready =
      let on : i + 1 ≡ suc i = omega arith in
      ap (λ (x : Entries). take (i + 1) (map (mention_in x.vars) (drop n x.cells))) is ∙ ap (λ l. take (i + 1) (map (mention_in s.vars) l)) (drop-set-add n s.cells i cell)
      ∙ ap (λ k. take k (map (mention_in s.vars) (set (drop n s.cells) i cell))) on
      ∙ ready i (drop n s.cells) (omega (arith, lt, length-drop n s.cells))
    where
      ready : (i : ℕ) (xs : List Cell) → i < length xs → take (suc i) (map (mention_in s.vars) (set xs i cell)) ≡ take i (map (mention_in s.vars) xs) ++ mention_in s.vars cell ∷ []
      ready i [] within = absurd (omega (arith, within))
      ready zero (x ∷ xs) within = refl
      ready (suc i) (x ∷ xs) within = ap (λ l. mention_in s.vars x ∷ l) (ready i xs (omega (arith, within)))

  pub set-count : i + 1 ≤ length (map (mention_in u.vars) (drop n u.cells))
  set-count =
      omega (arith, lt, length-map (drop n u.cells) (mention_in u.vars), length-drop n u.cells, ap (λ (x : Entries). length x.cells) is, length-set s.cells (n + i) cell)

-- a cell added behind those in use
module _ (s u : Entries) (n i : ℕ) (cell : Cell) (h : AreSaid s n) (fits : cell.entry < length s.vars) (last : n + i ≡ length s.cells) (is : u ≡ with_cell s cell) where
  pub added-said : AreSaid u n
  added-said = subst (λ (x : Entries). AreSaid x n) (sym is) (record {
    said = subst (λ (cells : List Cell). AreMentions (with_front s cells)) (sym (take-append-le n s.cells (cell ∷ []) h.count)) h.said;
    within = λ k lt. elim (at-last s.cells cell k lt) [
      | inl p ↦ subst (λ (x : Cell). x.entry < length s.vars) (sym p.1) (h.within k p.0)
      | inr p ↦ subst (λ (x : Cell). x.entry < length s.vars) (sym p) fits
    ];
    count = omega (arith, h.count, length-append s.cells (cell ∷ []));
  })

  pub added-mentioned : mentions (used n u) ≡ mentions (used n s)
  added-mentioned = ap (λ (x : Entries). mentions (used n x)) is ∙ ap (map (mention_in s.vars)) (take-append-le n s.cells (cell ∷ []) h.count)

  pub added-ready : take (i + 1) (map (mention_in u.vars) (drop n u.cells)) ≡ take i (map (mention_in s.vars) (drop n s.cells)) ++ mention_in s.vars cell ∷ []
  added-ready =
      let spare = map (mention_in s.vars) (drop n s.cells) in
      let count : i ≡ length spare = omega (arith, last, h.count, length-map (drop n s.cells) (mention_in s.vars), length-drop n s.cells) in
      let rest : drop n (s.cells ++ cell ∷ []) ≡ drop n s.cells ++ cell ∷ [] = drop-front n s.cells h.count in
      let all : map (mention_in s.vars) (drop n s.cells ++ cell ∷ []) ≡ spare ++ mention_in s.vars cell ∷ [] = map-append (mention_in s.vars) (drop n s.cells) (cell ∷ []) in
      let whole : i + 1 ≡ length (spare ++ mention_in s.vars cell ∷ []) = omega (arith, count, length-append spare (mention_in s.vars cell ∷ [])) in
      ap (λ (x : Entries). take (i + 1) (map (mention_in x.vars) (drop n x.cells))) is ∙ ap (λ l. take (i + 1) (map (mention_in s.vars) l)) rest ∙ ap (take (i + 1)) all
      ∙ ap (λ k. take k (spare ++ mention_in s.vars cell ∷ [])) whole ∙ take-length (spare ++ mention_in s.vars cell ∷ [])
      ∙ ap (λ l. l ++ mention_in s.vars cell ∷ []) (sym (ap (λ k. take k spare) count ∙ take-length spare))
    where
      drop-front : (n : ℕ) (xs : List Cell) → n ≤ length xs → drop n (xs ++ cell ∷ []) ≡ drop n xs ++ cell ∷ []
      drop-front zero xs le = refl
      drop-front (suc n) [] le = absurd (omega (arith, le))
      drop-front (suc n) (x ∷ xs) le = drop-front n xs (omega (arith, le))

  pub added-count : i + 1 ≤ length (map (mention_in u.vars) (drop n u.cells))
  added-count =
      omega (arith, last, length-map (drop n u.cells) (mention_in u.vars), length-drop n u.cells, ap (λ (x : Entries). length x.cells) is, length-append s.cells (cell ∷ []))

-- the walk along a chain

-- the rest of a walk
abbrev pub walk_from : List ℕ → Option ℕ → List ℕ
walk_from chain None = []
walk_from chain (Some k) = k ∷ behind (Some k) chain

from-rest : (done rest : List ℕ) → AreOnce None (done ++ rest) → walk_from (done ++ rest) (first_of rest) ≡ rest
from-rest done [] h = refl
from-rest done (k ∷ rest) h = ap (λ l. k ∷ l) (behind-parted done k rest (apart-front done k rest h))

pub walk-first : (chain : List ℕ) (o : Option ℕ) → AreOnce None chain → o ≡ first_of chain → walk_from chain o ≡ chain
walk-first chain o h e = ap (walk_from chain) e ∙ from-rest [] chain h

pub walk-next : (chain : List ℕ) (k : ℕ) (o : Option ℕ) → AreOnce None chain → Contains chain k → o ≡ first_of (behind (Some k) chain) → walk_from chain o ≡ behind (Some k) chain
walk-next chain k o h c e =
    let part = parted chain k c in
    let once : AreOnce None (part.0 ++ k ∷ part.1) = subst (λ l. AreOnce None l) part.2 h in
    let is : behind (Some k) chain ≡ part.1 = ap (behind (Some k)) part.2 ∙ behind-parted part.0 k part.1 (apart-front part.0 k part.1 once) in
    let all : chain ≡ (part.0 ++ k ∷ []) ++ part.1 = part.2 ∙ sym (append_assoc part.0 (k ∷ []) part.1) in
    ap (walk_from chain) (e ∙ ap first_of is) ∙ ap (λ l. walk_from l (first_of part.1)) all
    ∙ from-rest (part.0 ++ k ∷ []) part.1 (subst (λ l. AreOnce None l) all h) ∙ sym is

-- a place on the chain of an entry, or its end
pub record IsOnChain (s : Entries) (entry : ℕ) (at : Option ℕ) : Type 0 where
  pub within : IfSome at (λ k. k < length s.cells)
  pub linked : IfSome at (λ k. has_node (chain_with s k) k ≡ true)
  pub owner : IfSome at (λ k. (cell_at s.cells k).entry ≡ entry)

-- the rest from a cell on is that cell and the rest from the next one on
pub walk-on : (s : Entries) (entry : ℕ) → AreOnce None (chain_at s.chains entry) → (at next : Option ℕ) (k : ℕ) → IsOnChain s entry at → at ≡ Some k
    → next ≡ first_of (behind (Some k) (chain_with s k)) → walk_from (chain_at s.chains entry) at ≡ k ∷ walk_from (chain_at s.chains entry) next
walk-on s entry once at next k on is then =
    let chain = chain_at s.chains entry in
    let owner : (cell_at s.cells k).entry ≡ entry = subst (λ (o : Option ℕ). IfSome o (λ n. (cell_at s.cells n).entry ≡ entry)) is on.owner in
    let linked : has_node (chain_with s k) k ≡ true = subst (λ (o : Option ℕ). IfSome o (λ n. has_node (chain_with s n) n ≡ true)) is on.linked in
    let among : Contains chain k = has-contains chain k (ap (λ n. has_node (chain_at s.chains n) k) (sym owner) ∙ linked) in
    ap (walk_from chain) is
    ∙ ap (λ l. k ∷ l) (sym (walk-next chain k next once among (then ∙ ap (λ n. first_of (behind (Some k) (chain_at s.chains n))) owner)))

-- the places of the mentions of one variable

same-walk : (s : Entries) (entry : ℕ) (o : Option ℕ) → IfSome o (λ k. (cell_at s.cells k).entry ≡ entry) → cells_from s o ≡ walk_from (chain_at s.chains entry) o
same-walk s entry None owner = refl
same-walk s entry (Some k) owner = ap (λ e. k ∷ behind (Some k) (chain_at s.chains e)) owner

-- all cells of a chain
pub all-from : (s : Entries) (entry : ℕ) (o : Option ℕ) → AreOnce None (chain_at s.chains entry) → o ≡ first_of (chain_at s.chains entry)
    → IfSome o (λ k. (cell_at s.cells k).entry ≡ entry) → cells_from s o ≡ chain_at s.chains entry
all-from s entry o once e owner = same-walk s entry o owner ∙ walk-first (chain_at s.chains entry) o once e

-- a cell, and those from the next one on
pub more-from : (s : Entries) (k : ℕ) (next : Option ℕ) → IsInChain s k → next ≡ first_of (behind (Some k) (chain_with s k))
    → IfSome next (λ n. (cell_at s.cells n).entry ≡ (cell_at s.cells k).entry) → cells_from s (Some k) ≡ k ∷ cells_from s next
more-from s k next h e owner =
    let chain = chain_with s k in
    ap (λ l. k ∷ l) (sym (same-walk s (cell_at s.cells k).entry next owner ∙ walk-next chain k next h.once (has-contains chain k h.linked) e))

pub stays-in-chain : (s : Entries) (entry : ℕ) (o : Option ℕ) → AreOnce None (chain_at s.chains entry) → IfSome o (λ k. k < length s.cells)
    → IfSome o (λ k. has_node (chain_with s k) k ≡ true) → IfSome o (λ k. (cell_at s.cells k).entry ≡ entry) → IfSome o (IsInChain s)
stays-in-chain s entry None once within linked owner = tt
stays-in-chain s entry (Some k) once within linked owner =
    record { within = within; linked = linked; once = subst (λ e. AreOnce None (chain_at s.chains e)) (sym owner) once }
