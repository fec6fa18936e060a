-- Shared: numbers of paths, capped at 2^64 - 1.
use Rattle.std.proofs.Common.{◌≡◌, ℕ, ◌+◌, ◌*◌, ◌-◌, ◌^◌, ◌≤◌, ◌⊎◌, inl, inr, suc, min, List, [], ◌∷◌, ◌++◌, map, length, length-append, refl, sym, ap, add_comm, ◌∙◌, true, false, arith, Bool}
use Rattle.std.proofs.Math.Nat.{suc-mul}
use Rattle.plan_types.specs.declared.condition.Cond.{Cond}
use Rattle.plan_types.specs.declared.condition.Env.{Env}
use Rattle.plan_types.specs.declared.condition.Cond.TheVariants.{And, Or}
use Rattle.common_laws.specs.Small.{capped}
use Rattle.conditionals.specs.Paths.{Path, followed, paths_of}
use Rattle.conditionals.proofs.ConditionLayers.{paths_And, paths_Or}

over : (m x y z : ℕ) → m ≤ x → 1 ≤ y → min (m * y + z) m ≡ min (x * y + z) m
over m x y z h k = grind arith

capped_at : (m x y z : ℕ) → (x ≤ m) ⊎ (m ≤ x) → (y ≡ 0) ⊎ (1 ≤ y) → min (min x m * y + z) m ≡ min (x * y + z) m
capped_at m x y z (inl le) k = let e : min x m ≡ x = omega arith in rw e refl
capped_at m x y z (inr ge) (inl none) = rw none (omega arith)
capped_at m x y z (inr ge) (inr some) = let e : min x m ≡ m = omega arith in rw e (over m x y z ge some)

-- capping a factor first doesn't change the capped result
capped_factor : (x y z : ℕ) → capped (capped x * y + z) ≡ capped (x * y + z)
capped_factor x y z = capped_at (2 ^ 64 - 1) x y z (grind arith) (grind arith)

plain : (x y : ℕ) → x * y ≡ x * y + 0
plain x y = omega arith

turned : (x y : ℕ) → x * y + 0 ≡ y * x + 0
turned x y = omega arith

pub capped_product : (x y : ℕ) → capped (capped x * capped y) ≡ capped (x * y)
capped_product x y =
    ap capped (plain (capped x) (capped y))
    ∙ capped_factor x (capped y) 0
    ∙ ap capped (turned x (capped y))
    ∙ capped_factor y x 0
    ∙ ap capped (turned y x ∙ sym (plain x y))

regrouped : (a b r s lt lf : ℕ) → (a * r + b * s) * lt + b * lf ≡ r * (a * lt) + (b * lt * s + b * lf)
regrouped a b r s lt lf = omega arith

regrouped_again : (a b r s lt lf : ℕ) → r * (a * lt) + (b * lt * s + b * lf) ≡ s * (b * lt) + (a * lt * r + b * lf)
regrouped_again a b r s lt lf = omega arith

parts : (a b r s lt lf : ℕ) → s * (b * lt) + (a * lt * r + b * lf) ≡ a * (lt * r) + b * (lf + lt * s)
parts a b r s lt lf = omega arith

-- the weights of the left side's numbers in those of the whole
pub weighed_all : (a b lt lf rt rf x : ℕ) → x ≡ capped (a * capped rt + b * capped rf) → capped (x * lt + b * lf) ≡ capped (a * (lt * rt) + b * (lf + lt * rf))
weighed_all a b lt lf rt rf x e =
    ap (λ n. capped (n * lt + b * lf)) e
    ∙ capped_factor (a * capped rt + b * capped rf) lt (b * lf)
    ∙ ap capped (regrouped a b (capped rt) (capped rf) lt lf)
    ∙ capped_factor rt (a * lt) (b * lt * capped rf + b * lf)
    ∙ ap capped (regrouped_again a b rt (capped rf) lt lf)
    ∙ capped_factor rf (b * lt) (a * lt * rt + b * lf)
    ∙ ap capped (parts a b rt rf lt lf)

length_map : (path : Path) (second : List Path) → length (map (λ next. path ++ next) second) ≡ length second
length_map path [] = refl
length_map path (next ∷ second) = ap suc (length_map path second)

pub length_followed : (first second : List Path) → length (followed first second) ≡ length first * length second
length_followed [] second = omega arith
length_followed (path ∷ first) second =
    let here = length-append (map (λ next. path ++ next) second) (followed first second) in
    let each = length_map path second in
    let more = length_followed first second in
    omega (arith, here, each, more, suc-mul (length first) (length second))

-- the numbers of a joined condition, from those of its two sides
abbrev pub Joins : ℕ → ℕ → ℕ → ℕ → ℕ → ℕ → Type 0
Joins whole-yes whole-no left-yes left-no right-yes right-no = (whole-yes ≡ left-yes * right-yes) × (whole-no ≡ left-no + left-yes * right-no)

joined_numbers : (whole-yes whole-no left-yes left-no right-yes right-no : List Path) → whole-yes ≡ followed left-yes right-yes → whole-no ≡ left-no ++ followed left-yes right-no
    → Joins (length whole-yes) (length whole-no) (length left-yes) (length left-no) (length right-yes) (length right-no)
joined_numbers whole-yes whole-no left-yes left-no right-yes right-no is-yes is-no = (
  ap length is-yes ∙ length_followed left-yes right-yes,
  ap length is-no ∙ length-append left-no (followed left-yes right-no) ∙ ap (λ n. length left-no + n) (length_followed left-yes right-no),
)

module _ (env : Env) where
  abbrev pub number : Cond → Bool → ℕ
  number cond want = length (paths_of env cond want)

  pub numbers_And : (s l r : Cond) → s ≡ And l r → Joins (number s true) (number s false) (number l true) (number l false) (number r true) (number r false)
  numbers_And s l r e =
      let parts = paths_And env s l r e in
      joined_numbers _ _ (paths_of env l true) (paths_of env l false) (paths_of env r true) (paths_of env r false) (ap (λ f. f true) parts) (ap (λ f. f false) parts)

  pub numbers_Or : (s l r : Cond) → s ≡ Or l r → Joins (number s false) (number s true) (number l false) (number l true) (number r false) (number r true)
  numbers_Or s l r e =
      let parts = paths_Or env s l r e in
      joined_numbers _ _ (paths_of env l false) (paths_of env l true) (paths_of env r false) (paths_of env r true) (ap (λ f. f false) parts) (ap (λ f. f true) parts)

-- one number of the whole, from the weighted numbers of the left side
pub weighed_join : (a b s-yes s-no l-yes l-no r-yes r-no whole x y-yes y-no : ℕ) → Joins s-yes s-no l-yes l-no r-yes r-no
    → x ≡ capped (a * y-yes + b * y-no) → y-yes ≡ capped r-yes → y-no ≡ capped r-no
    → capped (a * s-yes + b * s-no) ≡ whole → capped (x * l-yes + b * l-no) ≡ whole
weighed_join a b s-yes s-no l-yes l-no r-yes r-no whole x y-yes y-no joins e ys ns h =
    weighed_all a b l-yes l-no r-yes r-no x (e ∙ (λ i. capped (a * ys i + b * ns i)))
    ∙ sym (λ i. capped (a * joins.0 i + b * joins.1 i))
    ∙ h

pub weighed_or : (a b s-yes s-no l-yes l-no r-yes r-no whole x y-yes y-no : ℕ) → Joins s-no s-yes l-no l-yes r-no r-yes
    → x ≡ capped (a * y-yes + b * y-no) → y-yes ≡ capped r-yes → y-no ≡ capped r-no
    → capped (a * s-yes + b * s-no) ≡ whole → capped (a * l-yes + x * l-no) ≡ whole
weighed_or a b s-yes s-no l-yes l-no r-yes r-no whole x y-yes y-no joins e ys ns h =
    ap capped (add_comm (a * l-yes) (x * l-no))
    ∙ weighed_join b a s-no s-yes l-no l-yes r-no r-yes whole x y-no y-yes joins (e ∙ ap capped (add_comm (a * y-yes) (b * y-no))) ns ys (ap capped (add_comm (b * s-no) (a * s-yes)) ∙ h)
