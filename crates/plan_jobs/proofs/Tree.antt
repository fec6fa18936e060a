-- The tree above the marks: the way down to the least mark, and the way up from one that is set.
use Rattle.std.proofs.Common.{◌≡◌, ◌<◌, ◌≤◌, ◌+◌, ◌-◌, ◌*◌, ◌/◌, ◌^◌, ◌||◌, ⊎_elim, ℕ, zero, suc, Bool, true, false, List, length, get_or, set, drop, refl, sym, subst, ap, ◌∙◌, arith}
use Rattle.std.proofs.Math.Nat.{pow-succ', one-le-pow, mul-le-mul_left}
use Rattle.std.proofs.lemmas.Bool.{cases_eq, cases_lt}
use Rattle.std.proofs.lemmas.List.{get_or-drop, get_or-set_same, get_or-set_other, length-drop, length-set, drop-set-add, drop-set-lt}
use Rattle.common_laws.specs.Graphs.{IsMarked, marked_within}
use Rattle.plan_jobs.specs.Marks.{IsJoined, IsTree, IsLeastMarked, NoneMarked}

false_or : (a b : Bool) → a || b ≡ false → (a ≡ false) × (b ≡ false)
false_or true b e = absurd (cc)
false_or false b e = (refl, e)

no_mark : (b : Bool) → b ≡ false → b ≡ true → ⊥
no_mark b n m = let no : false ≡ true = sym n ∙ m in cc

right_of : (a b : Bool) → a || b ≡ true → a ≡ false → b ≡ true
right_of true b e n = absurd (cc)
right_of false b e n = e

-- the leaves below a node
pub record AreBelow (width at height : ℕ) : Type 0 where
  pub from : width ≤ at * 2 ^ height
  pub to : at * 2 ^ height + 2 ^ height ≤ 2 * width

-- on the way to the least mark: the node is marked, and no leaf before those below it is
pub record IsOnWay (width : ℕ) (tree : List Bool) (at : ℕ) : Type 0 where
  pub inner : 1 ≤ at
  pub height : ℕ
  pub below : AreBelow width at height
  pub marked : get_or tree at false ≡ true
  pub none : (leaf : ℕ) → width ≤ leaf → leaf < at * 2 ^ height → get_or tree leaf false ≡ false

-- a node with children is no leaf
pub within : (width at height : ℕ) → AreBelow width at (suc height) → at < width
within width at height b =
    let p : 1 ≤ 2 ^ height = one-le-pow height 2 (omega arith) in
    let e : 2 ^ suc height ≡ 2 * 2 ^ height = pow-succ' 2 height in
    let from = b.from in
    let to : at * 2 ^ suc height + 2 ^ suc height ≤ 2 * width = b.to in
    let k : at * 1 ≤ at * 2 ^ height = mul-le-mul_left at p in
    let to' : at * (2 * 2 ^ height) + 2 * 2 ^ height ≤ 2 * width = subst (λ p. at * p + p ≤ 2 * width) e to in
    omega (arith, to', k, p)

left_below : (width at height : ℕ) → AreBelow width at (suc height) → AreBelow width (2 * at) height
left_below width at height b =
    let e : 2 ^ suc height ≡ 2 * 2 ^ height = pow-succ' 2 height in
    let from : width ≤ at * (2 * 2 ^ height) = subst (λ p. width ≤ at * p) e b.from in
    let to : at * (2 * 2 ^ height) + 2 * 2 ^ height ≤ 2 * width = subst (λ p. at * p + p ≤ 2 * width) e b.to in
    record { from = omega (arith, from); to = omega (arith, to) }

right_below : (width at height : ℕ) → AreBelow width at (suc height) → AreBelow width (2 * at + 1) height
right_below width at height b =
    let e : 2 ^ suc height ≡ 2 * 2 ^ height = pow-succ' 2 height in
    let from : width ≤ at * (2 * 2 ^ height) = subst (λ p. width ≤ at * p) e b.from in
    let to : at * (2 * 2 ^ height) + 2 * 2 ^ height ≤ 2 * width = subst (λ p. at * p + p ≤ 2 * width) e b.to in
    record { from = omega (arith, from); to = omega (arith, to) }

double : (at height : ℕ) → (2 * at) * 2 ^ height ≡ at * 2 ^ suc height
double at height = let e : 2 ^ suc height ≡ 2 * 2 ^ height = pow-succ' 2 height in subst (λ p. (2 * at) * 2 ^ height ≡ at * p) (sym e) (omega arith)

module _ (width : ℕ) (tree : List Bool) (t : IsTree width tree) where
  -- no leaf below an unmarked node is marked
  pub none_below : (height at leaf : ℕ) → 1 ≤ at → AreBelow width at height → at * 2 ^ height ≤ leaf → leaf < at * 2 ^ height + 2 ^ height
      → get_or tree at false ≡ false → get_or tree leaf false ≡ false
  none_below zero at leaf i b low high n = let e : at ≡ leaf = omega (arith, low, high) in subst (λ k. get_or tree k false ≡ false) e n
  none_below (suc height) at leaf i b low high n =
      let halves = false_or (get_or tree (2 * at) false) (get_or tree (2 * at + 1) false) (sym (t.joined at i (within width at height b)) ∙ n) in
      let e : 2 ^ suc height ≡ 2 * 2 ^ height = pow-succ' 2 height in
      let low' : at * (2 * 2 ^ height) ≤ leaf = subst (λ p. at * p ≤ leaf) e low in
      let high' : leaf < at * (2 * 2 ^ height) + 2 * 2 ^ height = subst (λ p. leaf < at * p + p) e high in
      ⊎_elim
      (λ l. none_below height (2 * at) leaf (omega arith) (left_below width at height b) (omega (arith, low')) l halves.0)
      (λ r. none_below height (2 * at + 1) leaf (omega arith) (right_below width at height b) (omega (arith, r)) (omega (arith, high')) halves.1)
      (cases_lt leaf ((2 * at) * 2 ^ height + 2 ^ height))

  pub begins : get_or tree 1 false ≡ true → IsOnWay width tree 1
  begins m =
      let e : 2 ^ t.power.0 ≡ width = t.power.1 in
      record {
        inner = omega arith;
        height = t.power.0;
        below = record { from = omega (arith, e); to = omega (arith, e) };
        marked = m;
        none = λ leaf l h. absurd (omega (arith, e, l, h));
      }

  module _ (at : ℕ) (inside : at < width) (w : IsOnWay width tree at) where
    lower : (height : ℕ) → AreBelow width at height → (h : ℕ) × (height ≡ suc h)
    lower zero b = let f = b.from in absurd (omega (arith, f))
    lower (suc h) b = (h, refl)

    abbrev h : ℕ
    h = (lower w.height w.below).0

    here : AreBelow width at (suc h)
    here = subst (λ k. AreBelow width at k) (lower w.height w.below).1 w.below

    none : (leaf : ℕ) → width ≤ leaf → leaf < at * 2 ^ suc h → get_or tree leaf false ≡ false
    none = subst (λ k. (leaf : ℕ) → width ≤ leaf → leaf < at * 2 ^ k → get_or tree leaf false ≡ false) (lower w.height w.below).1 w.none

    pub to_left : get_or tree (2 * at) false ≡ true → IsOnWay width tree (2 * at)
    to_left m =
        let i = w.inner in
        record {
          inner = omega (arith, i);
          height = h;
          below = left_below width at h here;
          marked = m;
          none = λ leaf l k. none leaf l (subst (λ n. leaf < n) (double at h) k);
        }

    pub to_right : get_or tree (2 * at) false ≡ false → IsOnWay width tree (2 * at + 1)
    to_right n =
        let i = w.inner in
        record {
          inner = omega arith;
          height = h;
          below = right_below width at h here;
          marked = right_of (get_or tree (2 * at) false) (get_or tree (2 * at + 1) false) (sym (t.joined at w.inner inside) ∙ w.marked) n;
          none = λ leaf l k. ⊎_elim
              (λ front. none leaf l (subst (λ n. leaf < n) (double at h) front))
              (λ back. none_below h (2 * at) leaf (omega (arith, i)) (left_below width at h here) back (omega (arith, k)) n)
              (cases_lt leaf ((2 * at) * 2 ^ h));
        }

  leaf_of : (place : ℕ) → IsMarked (drop width tree) place → (width + place < 2 * width) × (get_or tree (width + place) false ≡ true)
  leaf_of place m =
      let k : place < length (drop width tree) = marked_within (drop width tree) place m in
      let c = t.count in
      let l : length (drop width tree) ≡ length tree - width = length-drop width tree in
      (omega (arith, k, l, c), sym (get_or-drop width tree place false) ∙ m)

  pub arrives : (at : ℕ) → width ≤ at → IsOnWay width tree at → IsLeastMarked (drop width tree) (at - width)
  arrives at out w =
      let e : width + (at - width) ≡ at = omega (arith, out) in
      record {
        marked = get_or-drop width tree (at - width) false ∙ ap (λ k. get_or tree k false) e ∙ w.marked;
        least = λ other m. ⊎_elim
            (λ lt. let p : 1 ≤ 2 ^ w.height = one-le-pow w.height 2 (omega arith) in
            let k : at * 1 ≤ at * 2 ^ w.height = mul-le-mul_left at p in
            absurd (no_mark (get_or tree (width + other) false) (w.none (width + other) (omega arith) (omega (arith, lt, k))) (leaf_of other m).1))
            (λ ge. ge)
            (cases_lt other (at - width));
      }

  pub none_marked : get_or tree 1 false ≡ false → NoneMarked (drop width tree)
  none_marked n place m =
      let e : 2 ^ t.power.0 ≡ width = t.power.1 in
      let leaf = leaf_of place m in
      let high = leaf.0 in
      no_mark (get_or tree (width + place) false)
      (none_below t.power.0 1 (width + place) (omega arith) (record { from = omega (arith, e); to = omega (arith, e) }) (omega (arith, e)) (omega (arith, e, high)) n)
      leaf.1

-- on the way up from a leaf that was set, each node but this one is joined
pub record IsOnWayUp (width : ℕ) (old tree : List Bool) (place : ℕ) (mark : Bool) (at : ℕ) : Type 0 where
  pub inside : at < width
  pub count : length tree ≡ length old
  pub joined : (other : ℕ) → 1 ≤ other → other < width → (other ≡ at → ⊥) → IsJoined tree other
  pub leaves : drop width tree ≡ set (drop width old) place mark

-- setting a mark keeps each node joined that is neither the set one nor its parent
apart : (tree : List Bool) (set_at : ℕ) (mark : Bool) (other : ℕ) → (set_at ≡ other → ⊥) → (set_at ≡ 2 * other → ⊥) → (set_at ≡ 2 * other + 1 → ⊥)
    → IsJoined tree other → IsJoined (set tree set_at mark) other
apart tree set_at mark other a b c j =
    get_or-set_other tree set_at other mark false (λ e. a (sym e)) ∙ j
    ∙ ap (λ x. x || get_or tree (2 * other + 1) false) (sym (get_or-set_other tree set_at (2 * other) mark false (λ e. b (sym e))))
    ∙ ap (λ x. get_or (set tree set_at mark) (2 * other) false || x) (sym (get_or-set_other tree set_at (2 * other + 1) mark false (λ e. c (sym e))))

pub up_from : (width : ℕ) (old : List Bool) (place : ℕ) (mark : Bool) → IsTree width old → place < width
    → IsOnWayUp width old (set old (width + place) mark) place mark ((width + place) / 2)
up_from width old place mark t lt =
    record {
      inside = omega (arith, lt);
      count = length-set old (width + place) mark;
      joined = λ other l h n. apart old (width + place) mark other (λ e. omega (arith, e, h)) (λ e. n (omega (arith, e))) (λ e. n (omega (arith, e))) (t.joined other l h);
      leaves = drop-set-add width old place mark;
    }

pub up : (width : ℕ) (old tree : List Bool) (place : ℕ) (mark : Bool) (at : ℕ) (b : Bool) → IsTree width old → 0 < at → IsOnWayUp width old tree place mark at
    → b ≡ get_or tree (2 * at) false || get_or tree (2 * at + 1) false → IsOnWayUp width old (set tree at b) place mark (at / 2)
up width old tree place mark at b t inner w e =
    let i = w.inside in
    let c = w.count in
    let k = t.count in
    record {
      inside = omega (arith, i);
      count = length-set tree at b ∙ w.count;
      joined = λ other l h n. ⊎_elim
          (λ same. subst (λ o. IsJoined (set tree at b) o) (sym same)
          (get_or-set_same tree at b false (omega (arith, c, k, i)) ∙ e
          ∙ ap (λ x. x || get_or tree (2 * at + 1) false) (sym (get_or-set_other tree at (2 * at) b false (λ q. omega (arith, q, inner))))
          ∙ ap (λ x. get_or (set tree at b) (2 * at) false || x) (sym (get_or-set_other tree at (2 * at + 1) b false (λ q. omega (arith, q))))))
          (λ d. apart tree at b other (λ q. d (sym q)) (λ q. n (omega (arith, q))) (λ q. n (omega (arith, q))) (w.joined other l h d))
          (cases_eq other at);
      leaves = drop-set-lt width tree at b i ∙ w.leaves;
    }

pub at_root : (width : ℕ) (old tree : List Bool) (place : ℕ) (mark : Bool) → IsTree width old → IsOnWayUp width old tree place mark 0 → IsTree width tree
at_root width old tree place mark t w =
    record {
      power = t.power;
      count = w.count ∙ t.count;
      small = t.small;
      joined = λ other l h. w.joined other l h (λ e. omega (arith, e, l));
    }
