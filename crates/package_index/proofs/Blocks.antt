-- Sorted lists that are joined from blocks. If elements of different blocks never tie, the order of the blocks doesn't
-- matter.
use Rattle.std.proofs.Common.{◌≡◌, Bool, true, false, not, inl, inr, List, [], ◌∷◌, ◌++◌, map, refl, sym, ◌∙◌, ap, if◌then◌else◌}
use Rattle.std.specs.Prelude.{flat_map}
use Rattle.std.specs.Cmp.{IsStrictWeakOrder}
use Rattle.std.specs.List.{AllByRecursion, IsDistinct}
use Rattle.std.proofs.lemmas.Bool.{false≢true}
use Rattle.index_assembly.specs.Order.{in_order, put}
use Rattle.outside_folder.specs.Files.{Bytes}
use Rattle.package_index.proofs.Taken.{IsIn, Leaves, at-in, in-front, in-taken, keys-apart}
use Rattle.plan_types.specs.Bytes.{same_text}

-- exactly one of the two is less
abbrev pub IsApart : {X : Type 0} → (X → X → Bool) → X → X → Type 0
IsApart lt a b = lt a b ≡ not (lt b a)

abbrev pub AreApart : {X : Type 0} → (X → X → Bool) → List X → List X → Type 0
AreApart lt xs ys = AllByRecursion (λ x. AllByRecursion (IsApart lt x) ys) xs

module _ {X : Type 0} (lt : X → X → Bool) (order : IsStrictWeakOrder lt) where
  -- ---- the inserted element becomes the first or the second

  front : (a y : X) (ys : List X) → lt y a ≡ false → put lt a (y ∷ ys) ≡ a ∷ y ∷ ys
  front a y ys e = ap (λ t. if t then y ∷ put lt a ys else a ∷ y ∷ ys) e

  over : (a y : X) (ys : List X) → lt y a ≡ true → put lt a (y ∷ ys) ≡ y ∷ put lt a ys
  over a y ys e = ap (λ t. if t then y ∷ put lt a ys else a ∷ y ∷ ys) e

  -- the inserted element comes before another inserted one, if neither that nor the first is less
  front-put : (a b y : X) (ys : List X) → lt b a ≡ false → lt y a ≡ false → put lt a (put lt b (y ∷ ys)) ≡ a ∷ put lt b (y ∷ ys)
  front-put a b y ys e k = elim (lt y b) as (λ t. put lt a (if t then y ∷ put lt b ys else b ∷ y ∷ ys) ≡ a ∷ (if t then y ∷ put lt b ys else b ∷ y ∷ ys)) [
    | true ↦ front a y (put lt b ys) k
    | false ↦ front a b (y ∷ ys) e
  ]

  below : (y a b : X) → lt y a ≡ true → lt a b ≡ true → lt y b ≡ true
  below y a b h k = elim (lt y b) as (λ t. lt y b ≡ t → t ≡ true) [
    | true ↦ λ e. refl
    | false ↦ λ e. absurd (false≢true (sym (order.chain y b a e (order.one_way a b k)) ∙ h))
  ] refl

  -- ---- two inserted elements

  put-less : (a b : X) → lt a b ≡ true → (l : List X) → put lt a (put lt b l) ≡ put lt b (put lt a l)
  put-less a b less [] = front a b [] (order.one_way a b less) ∙ sym (over b a [] less)
  put-less a b less (y ∷ ys) = elim (lt y a) as (λ t. lt y a ≡ t → put lt a (put lt b (y ∷ ys)) ≡ put lt b (put lt a (y ∷ ys))) [
    | true ↦ λ e.
        ap (put lt a) (over b y ys (below y a b e less)) ∙ over a y (put lt b ys) e ∙ ap (λ l. y ∷ l) (put-less a b less ys)
        ∙ sym (ap (put lt b) (over a y ys e) ∙ over b y (put lt a ys) (below y a b e less))
    | false ↦ λ e. front-put a b y ys (order.one_way a b less) e ∙ sym (ap (put lt b) (front a y ys e) ∙ over b a (y ∷ ys) less)
  ] refl

  put-two : (a b : X) → IsApart lt a b → (l : List X) → put lt a (put lt b l) ≡ put lt b (put lt a l)
  put-two a b apart l = elim (lt b a) as (λ t. lt b a ≡ t → put lt a (put lt b l) ≡ put lt b (put lt a l)) [
    | true ↦ λ e. sym (put-less b a e l)
    | false ↦ λ e. put-less a b (apart ∙ ap not e) l
  ] refl

  -- ---- blocks

  abbrev put_all : List X → List X → List X
  put_all [] l = l
  put_all (x ∷ xs) l = put lt x (put_all xs l)

  in-order-append : (xs ys : List X) → in_order lt (xs ++ ys) ≡ put_all xs (in_order lt ys)
  in-order-append [] ys = refl
  in-order-append (x ∷ xs) ys = ap (put lt x) (in-order-append xs ys)

  put-over : (a : X) (xs l : List X) → AllByRecursion (IsApart lt a) xs → put lt a (put_all xs l) ≡ put_all xs (put lt a l)
  put-over a [] l h = refl
  put-over a (x ∷ xs) l h = put-two a x h.0 (put_all xs l) ∙ ap (put lt x) (put-over a xs l h.1)

  put-all-over : (xs ys l : List X) → AreApart lt xs ys → put_all xs (put_all ys l) ≡ put_all ys (put_all xs l)
  put-all-over [] ys l h = refl
  put-all-over (x ∷ xs) ys l h = ap (put lt x) (put-all-over xs ys l h.1) ∙ put-over x ys (put_all xs l) h.0

  module _ {Y : Type 0} (f : Y → List X) where
    first-put : (before : List Y) (y : Y) (behind : List Y) → ((z : Y) → IsIn before z → AreApart lt (f z) (f y))
        → in_order lt (flat_map f (before ++ y ∷ behind)) ≡ put_all (f y) (in_order lt (flat_map f (before ++ behind)))
    first-put [] y behind apart = in-order-append (f y) (flat_map f behind)
    first-put (z ∷ before) y behind apart =
        let rest = flat_map f (before ++ behind) in
        in-order-append (f z) (flat_map f (before ++ y ∷ behind))
        ∙ ap (put_all (f z)) (first-put before y behind (λ w i. apart w (inr i)))
        ∙ put-all-over (f z) (f y) (in_order lt rest) (apart z (inl refl))
        ∙ ap (put_all (f y)) (sym (in-order-append (f z) rest))

    module _ (P : Y → Type 0) (key : Y → Bytes) (apart : (y z : Y) → P y → P z → same_text (key y) (key z) ≡ false → AreApart lt (f z) (f y)) where
      pub one-in-order : (ys zs : List Y) → Leaves ys zs [] → AllByRecursion P ys → IsDistinct same_text (map key ys) → in_order lt (flat_map f ys) ≡ in_order lt (flat_map f zs)
      unfolding IsDistinct
      one-in-order [] zs l h d = ap (λ ws. in_order lt (flat_map f ws)) (sym l)
      one-in-order (y ∷ ys) zs l h d =
          let early : (z : Y) → IsIn l.0 z → IsIn ys z = λ z i. in-taken ys (l.0 ++ l.1) z l.3 (in-front l.0 l.1 z i) in
          in-order-append (f y) (flat_map f ys)
          ∙ ap (put_all (f y)) (one-in-order ys (l.0 ++ l.1) l.3 h.1 d.1)
          ∙ sym (first-put l.0 y l.1 (λ z i. apart y z h.0 (at-in P ys z h.1 (early z i)) (keys-apart key y z ys d (early z i))))
          ∙ ap (λ ws. in_order lt (flat_map f ws)) (sym l.2)
