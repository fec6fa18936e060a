-- A stack after a choice: its demands are listed, and those that become Yes are active.
use Rattle.std.proofs.Common.{◌≡◌, ℕ, zero, suc, ◌+◌, ◌-◌, ◌<◌, arith, length, map, List, [], ◌∷◌, ◌++◌, refl, sym, ap, ◌∙◌, subst, length-append, append_assoc}
use Rattle.std.proofs.lemmas.List.{map-append}
use Rattle.std.proofs.lemmas.List.Elements.{filter-append}
use Rattle.std.proofs.Math.ListN.{get_or-append}
use Rattle.std.proofs.Math.Seq.{get_or-append_seam}
use Rattle.choice_problem.specs.declared.problem.Choice.{Choice}
use Rattle.choice_problem.specs.declared.problem.Demand.{Demand}
use Rattle.goal_links.specs.Mentions.{mention_of, places_of}
use Rattle.goal_links.specs.declared.mentions.Mention.{Mention}
use Rattle.choice_stack.specs.declared.addition.Addition.{Addition}
use Rattle.choice_stack.specs.declared.stack.Mark.{Mark}
use Rattle.choice_stack.specs.Addition.{IsAddition}
use Rattle.choice_stack.specs.Growth.{mentions_at}
use Rattle.choice_stack.specs.Stack.{AllBelow, AreTargets, demand_at, demands_at, is_turned, made, no_demand, rising_from, turned}
use Rattle.choice_stack.specs.View.{View}
use Rattle.choice_stack.proofs.StackLemmas.{demands-grow, length-active, seen-same, targets-grow, targets-tail}

-- targets of demands at places

targets-on : (listed : List Demand) (m : Mention) (ms : List Mention) → m.place < length listed → m.var ≡ (demand_at listed m.place).target → AreTargets listed ms → AreTargets listed (m ∷ ms)
targets-on listed m ms within target h = record {
  within = λ front k rest e. elim front as (λ f. m ∷ ms ≡ f ++ k ∷ rest → k.place < length listed) [
    | [] ↦ λ i. let is : m ≡ k = cc in subst (λ (x : Mention). x.place < length listed) is within
    | y ∷ ys ↦ λ i. let tail : ms ≡ ys ++ k ∷ rest = cc in h.within ys k rest tail
  ] e;
  target = λ front k rest e. elim front as (λ f. m ∷ ms ≡ f ++ k ∷ rest → k.var ≡ (demand_at listed k.place).target) [
    | [] ↦ λ i. let is : m ≡ k = cc in subst (λ (x : Mention). x.var ≡ (demand_at listed x.place).target) is target
    | y ∷ ys ↦ λ i. let tail : ms ≡ ys ++ k ∷ rest = cc in h.target ys k rest tail
  ] e;
}

pub targets-none : (listed : List Demand) → AreTargets listed []
targets-none listed = record {
  within = λ front k rest e. elim front as (λ f. [] ≡ f ++ k ∷ rest → k.place < length listed) [ [] ↦ λ i. absurd (cc i) | y ∷ ys ↦ λ i. absurd (cc i) ] e;
  target = λ front k rest e. elim front as (λ f. [] ≡ f ++ k ∷ rest → k.var ≡ (demand_at listed k.place).target) [ [] ↦ λ i. absurd (cc i) | y ∷ ys ↦ λ i. absurd (cc i) ] e;
}

targets-append : (listed : List Demand) (xs ys : List Mention) → AreTargets listed xs → AreTargets listed ys → AreTargets listed (xs ++ ys)
targets-append listed [] ys h k = k
targets-append listed (x ∷ xs) ys h k =
    targets-on listed x (xs ++ ys) (h.within [] x xs refl) (h.target [] x xs refl) (targets-append listed xs ys (targets-tail listed x xs h) k)

-- some demands are a part of all, behind n others
abbrev StandBehind : ℕ → List Demand → List Demand → Type 0
StandBehind first demands all = (n : ℕ) → n < length demands → (first + n < length all) × (demand_at all (first + n) ≡ demand_at demands n)

targets-at : (first : ℕ) (demands all : List Demand) (places : List ℕ) → StandBehind first demands all → AllBelow (length demands) places → AreTargets all (mentions_at first demands places)
targets-at first demands all [] stand below = targets-none all
targets-at first demands all (n ∷ places) stand below =
    let here = stand n below.0 in
    targets-on all (mention_of (demand_at demands n).target (first + n)) (mentions_at first demands places) here.0 (ap (λ (d : Demand). d.target) (sym here.1))
    (targets-at first demands all places stand below.1)

demands-at : (first : ℕ) (demands all : List Demand) (places : List ℕ) → StandBehind first demands all → AllBelow (length demands) places
    → demands_at all (places_of (mentions_at first demands places)) ≡ demands_at demands places
demands-at first demands all [] stand below = refl
demands-at first demands all (n ∷ places) stand below =
    ap (λ d. d ∷ demands_at all (places_of (mentions_at first demands places))) (stand n below.0).1
    ∙ ap (λ ds. demand_at demands n ∷ ds) (demands-at first demands all places stand below.1)

stand-first : (listed more : List Demand) → StandBehind 0 listed (listed ++ more)
stand-first listed more n lt =
    let same : 0 + n ≡ n = omega arith in (
      omega (arith, lt, length-append listed more),
      ap (demand_at (listed ++ more)) same ∙ get_or-append listed more no_demand n lt,
    )

stand-last : (listed more : List Demand) → StandBehind (length listed) more (listed ++ more)
stand-last [] more n lt = let same : 0 + n ≡ n = omega arith in (omega (arith, lt), ap (demand_at more) same)
stand-last (x ∷ listed) more n lt =
    let rest = stand-last listed more n lt in
    let on : suc (length listed) + n ≡ suc (length listed + n) = omega arith in (
      omega (arith, rest.0),
      ap (demand_at (x ∷ listed ++ more)) on ∙ rest.1,
    )

-- all places below a count

pub below-all : (n count top : ℕ) → n + count ≡ top → AllBelow top (rising_from n count)
below-all n zero top e = tt
below-all n (suc count) top e = (omega (arith, e), below-all (suc n) count top (omega (arith, e)))

pub all-demands : (roots : List Demand) → demands_at roots (rising_from 0 (length roots - 0)) ≡ roots
all-demands roots = let all : length roots - 0 ≡ length roots = omega arith in ap (λ n. demands_at roots (rising_from 0 n)) all ∙ from [] roots roots refl
  where
    from : (front rest all : List Demand) → all ≡ front ++ rest → demands_at all (rising_from (length front) (length rest)) ≡ rest
    from front [] all e = refl
    from front (d ∷ rest) all e =
        let at : demand_at all (length front) ≡ d = ap (λ (l : List Demand). demand_at l (length front)) e ∙ get_or-append_seam front d rest no_demand in
        let more : length (front ++ d ∷ []) ≡ suc (length front) = omega (arith, length-append front (d ∷ [])) in
        ap (λ x. x ∷ demands_at all (rising_from (suc (length front)) (length rest))) at
        ∙ ap (λ l. d ∷ l) (ap (λ k. demands_at all (rising_from k (length rest))) (sym more) ∙ from (front ++ d ∷ []) rest all (e ∙ sym (append_assoc front (d ∷ []) rest)))

-- the same of lists that are equal
pub asked-same : (listed ds more fs : List Demand) (woken ws fresh ns : List ℕ) → listed ≡ ds → more ≡ fs → woken ≡ ws → fresh ≡ ns
    → mentions_at 0 listed woken ++ mentions_at (length listed) more fresh ≡ mentions_at 0 ds ws ++ mentions_at (length ds) fs ns
asked-same listed ds more fs woken ws fresh ns l m w f =
    ap (λ (x : List Demand). mentions_at 0 x woken ++ mentions_at (length x) more fresh) l ∙ ap (λ (x : List Demand). mentions_at 0 ds woken ++ mentions_at (length ds) x fresh) m
    ∙ ap (λ (x : List ℕ). mentions_at 0 ds x ++ mentions_at (length ds) fs fresh) w ∙ ap (λ (x : List ℕ). mentions_at 0 ds ws ++ mentions_at (length ds) fs x) f

-- the demands that a choice makes active

module _ (listed more : List Demand) (active : List Mention) (woken fresh : List ℕ)
    (targets : AreTargets listed active) (below : AllBelow (length listed) woken) (within : AllBelow (length more) fresh) where
  abbrev asked : List Mention
  asked = mentions_at 0 listed woken ++ mentions_at (length listed) more fresh

  pub grown-targets : AreTargets (listed ++ more) (active ++ asked)
  grown-targets =
      targets-append (listed ++ more) active asked (targets-grow listed more active targets)
      (targets-append (listed ++ more) (mentions_at 0 listed woken) (mentions_at (length listed) more fresh)
      (targets-at 0 listed (listed ++ more) woken (stand-first listed more) below)
      (targets-at (length listed) more (listed ++ more) fresh (stand-last listed more) within))

  pub grown-demands : demands_at (listed ++ more) (places_of (active ++ asked)) ≡ demands_at listed (places_of active) ++ (demands_at listed woken ++ demands_at more fresh)
  grown-demands =
      let all = listed ++ more in
      let first = mentions_at 0 listed woken in
      let last = mentions_at (length listed) more fresh in
      parts all active (first ++ last) ∙ ap (λ l. demands_at all (places_of active) ++ l) (parts all first last)
      ∙ ap (λ l. l ++ (demands_at all (places_of first) ++ demands_at all (places_of last))) (demands-grow listed more active targets)
      ∙ ap (λ l. demands_at listed (places_of active) ++ (l ++ demands_at all (places_of last))) (demands-at 0 listed all woken (stand-first listed more) below)
      ∙ ap (λ l. demands_at listed (places_of active) ++ (demands_at listed woken ++ l)) (demands-at (length listed) more all fresh (stand-last listed more) within)
    where
      parts : (all : List Demand) (xs ys : List Mention) → demands_at all (places_of (xs ++ ys)) ≡ demands_at all (places_of xs) ++ demands_at all (places_of ys)
      parts all xs ys = ap (demands_at all) (map-append (λ (m : Mention). m.place) xs ys) ∙ map-append (demand_at all) (places_of xs) (places_of ys)

-- the view of a stack after a choice

module _ (old : View) (a : Addition) (h : IsAddition old a) where
  pub addition-turned : demands_at old.listed a.woken.items ++ demands_at a.demands a.fresh.items ≡ turned (old.trail ++ a.choice ∷ []) a.choice.var (old.listed ++ a.demands)
  addition-turned =
      let trail = old.trail ++ a.choice ∷ [] in
      ap (λ l. l ++ demands_at a.demands a.fresh.items) h.woken.turned_is ∙ ap (λ l. turned trail a.choice.var old.listed ++ l) h.fresh.turned_is
      ∙ sym (filter-append (is_turned trail a.choice.var) old.listed a.demands)

abbrev seen : List Choice → List Demand → List Demand → List ℕ → List ℕ → View
seen trail listed active listed_before active_before =
    record { trail = trail; listed = listed; active = active; listed_before = listed_before; active_before = active_before }

pub made-seen : (old : View) (a : Addition) (trail after : List Choice) (marks above : List Mark) (listed more : List Demand) (active asked_all : List Mention) (m : Mark) (targets : AreTargets listed active)
    → IsAddition old a → seen trail listed (demands_at listed (places_of active)) (map (λ k. k.listed) marks) (map (λ k. k.active) marks) ≡ old
    → after ≡ trail ++ a.choice ∷ [] → above ≡ marks ++ m ∷ [] → m.listed ≡ length listed → m.active ≡ length active → more ≡ listed ++ a.demands
    → asked_all ≡ active ++ (mentions_at 0 listed a.woken.items ++ mentions_at (length listed) a.demands a.fresh.items)
    → seen after more (demands_at more (places_of asked_all)) (map (λ k. k.listed) above) (map (λ k. k.active) above) ≡ made old a.choice a.demands
made-seen old a trail after marks above listed more active asked_all m targets h view after_is above_is l n more_is asked_is =
    let listed_is : listed ≡ old.listed = ap (λ (x : View). x.listed) view in
    let trail_is : trail ≡ old.trail = ap (λ (x : View). x.trail) view in
    let active_is : demands_at listed (places_of active) ≡ old.active = ap (λ (x : View). x.active) view in
    let below : AllBelow (length listed) a.woken.items = subst (λ (ds : List Demand). AllBelow (length ds) a.woken.items) (sym listed_is) h.woken.within in
    let grown = grown-demands listed a.demands active a.woken.items a.fresh.items targets below h.fresh.within in
    let marked : (f : Mark → ℕ) (ns : List ℕ) (k : ℕ) → map f marks ≡ ns → f m ≡ k → map f above ≡ ns ++ k ∷ [] =
    λ f ns k e i. ap (map f) above_is ∙ map-append f marks (m ∷ []) ∙ ap (λ x. x ++ f m ∷ []) e ∙ ap (λ x. ns ++ x ∷ []) i in
    seen-same after (old.trail ++ a.choice ∷ []) more (old.listed ++ a.demands) (demands_at more (places_of asked_all))
    (old.active ++ turned (old.trail ++ a.choice ∷ []) a.choice.var (old.listed ++ a.demands))
    (map (λ k. k.listed) above) (old.listed_before ++ length old.listed ∷ []) (map (λ k. k.active) above) (old.active_before ++ length old.active ∷ [])
    (after_is ∙ ap (λ t. t ++ a.choice ∷ []) trail_is)
    (more_is ∙ ap (λ ds. ds ++ a.demands) listed_is)
    (ap (λ ds. demands_at ds (places_of asked_all)) more_is ∙ ap (λ ms. demands_at (listed ++ a.demands) (places_of ms)) asked_is ∙ grown
    ∙ ap (λ ds. ds ++ (demands_at listed a.woken.items ++ demands_at a.demands a.fresh.items)) active_is
    ∙ ap (λ ds. old.active ++ (demands_at ds a.woken.items ++ demands_at a.demands a.fresh.items)) listed_is
    ∙ ap (λ ds. old.active ++ ds) (addition-turned old a h))
    (marked (λ k. k.listed) old.listed_before (length old.listed) (ap (λ (x : View). x.listed_before) view) (l ∙ ap length listed_is))
    (marked (λ k. k.active) old.active_before (length old.active) (ap (λ (x : View). x.active_before) view) (n ∙ sym (length-active listed active) ∙ ap length active_is))
