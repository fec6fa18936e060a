-- Runs of lines, and where they end.
use Rattle.std.proofs.Common.{◌≡◌, ℕ, ◌+◌, Bool, true, false, cond, List, [], ◌∷◌, ◌++◌, length, take, drop, refl, ◌∙◌, ap, arith, one-add}
use Rattle.std.specs.Prelude.{not, ◌&&◌, ◌||◌, nat_lt}
use Rattle.std.specs.List.{prefix_len, list_all}
use Rattle.std.proofs.lemmas.Bool.Decides.{nat_tests}
use Rattle.cabal_lexer.specs.Lines.{Line}
use Rattle.cabal_lexer.specs.Layout.{closes, ends, Ends, Inside}
use Rattle.std.proofs.lemmas.Bool.{or_parts, or_left, or_right}

-- the number of lines inside the block
abbrev pub run_len : ℕ → Bool → List Line → ℕ
run_len bound braced lines = prefix_len (λ line. not (ends bound braced line)) lines

and-not : (a b : Bool) → (not a && b) ≡ true → (a ≡ false) × (b ≡ true)
and-not true b h = cc
and-not false b h = (refl, h)

-- a run has all lines inside the block, if the next line ends the block
pub run_len-append : (bound : ℕ) (braced : Bool) (values rest : List Line) → Inside bound braced values → Ends bound braced rest →
    run_len bound braced (values ++ rest) ≡ length values
run_len-append bound braced [] [] h e = refl
run_len-append bound braced [] (line ∷ rest) h e = ap (λ b. cond (not b) (1 + run_len bound braced rest) 0) e
run_len-append bound braced (line ∷ values) rest h e =
    let parts = and-not (ends bound braced line) (list_all (λ line. not (ends bound braced line)) values) h in
    ap (λ b. cond (not b) (1 + run_len bound braced (values ++ rest)) 0) parts.0
    ∙ ap (λ n. 1 + n) (run_len-append bound braced values rest parts.1 e) ∙ one-add _

front-at : {X : Type 0} (p : X → Bool) (x : X) (xs : List X) → list_all p (take (prefix_len p xs) xs) ≡ true → (b : Bool) → p x ≡ b →
    list_all p (take (cond b (1 + prefix_len p xs) 0) (x ∷ xs)) ≡ true
front-at p x xs h true e = rw one-add (rw e h)
front-at p x xs h false e = refl

pub front_passes : {X : Type 0} (p : X → Bool) (xs : List X) → list_all p (take (prefix_len p xs) xs) ≡ true
front_passes p [] = refl
front_passes p (x ∷ xs) = front-at p x xs (front_passes p xs) (p x) refl

pub run_take : (bound : ℕ) (braced : Bool) (lines : List Line) → Inside bound braced (take (run_len bound braced lines) lines)
run_take bound braced lines = front_passes (λ line. not (ends bound braced line)) lines

drop-at : (bound : ℕ) (braced : Bool) (line : Line) (lines : List Line) → Ends bound braced (drop (run_len bound braced lines) lines) →
    (b : Bool) → ends bound braced line ≡ b → Ends bound braced (drop (cond (not b) (1 + run_len bound braced lines) 0) (line ∷ lines))
drop-at bound braced line lines h true e = e
drop-at bound braced line lines h false e = rw one-add h

pub run_drop : (bound : ℕ) (braced : Bool) (lines : List Line) → Ends bound braced (drop (run_len bound braced lines) lines)
run_drop bound braced [] = tt
run_drop bound braced (line ∷ lines) = drop-at bound braced line lines (run_drop bound braced lines) (ends bound braced line) refl

below-more : (bound indent at : ℕ) → nat_lt indent bound ≡ false → nat_lt at bound ≡ true → nat_lt at (indent + 1) ≡ true
below-more bound indent at h k = grind (arith, nat_tests)

ends-deeper-at : (bound : ℕ) (braced : Bool) (line at : Line) → ends bound braced line ≡ false → (b : Bool) → nat_lt at.indent bound ≡ b →
    (b || (braced && closes at)) ≡ true → ends (line.indent + 1) braced at ≡ true
ends-deeper-at bound braced line at h true e k =
    or_left _ _ (below-more bound line.indent at.indent (or_parts (nat_lt line.indent bound) _ h).0 e)
ends-deeper-at bound braced line at h false e k = or_right (nat_lt at.indent (line.indent + 1)) _ k

-- a rest that ends a block also ends the deeper blocks of its lines
pub Ends-deeper : (bound : ℕ) (braced : Bool) (line : Line) (rest : List Line) → ends bound braced line ≡ false → Ends bound braced rest → Ends (line.indent + 1) braced rest
Ends-deeper bound braced line [] h k = tt
Ends-deeper bound braced line (at ∷ rest) h k = ends-deeper-at bound braced line at h (nat_lt at.indent bound) refl k

pub Ends-append : (bound : ℕ) (braced : Bool) (rest tail : List Line) → Ends bound braced rest → Ends bound braced tail → Ends bound braced (rest ++ tail)
Ends-append bound braced [] tail h k = k
Ends-append bound braced (line ∷ rest) tail h k = h

pub Ends-front : (bound : ℕ) (braced : Bool) (front tail : List Line) → Ends bound braced (front ++ tail) → Ends bound braced front
Ends-front bound braced [] tail h = tt
Ends-front bound braced (line ∷ front) tail h = h

pub Ends-close : (close : Line) (rest : List Line) → closes close ≡ true → Ends 0 true (close ∷ rest)
Ends-close close rest h = or_right (nat_lt close.indent 0) _ h

closes-at : (close : Line) (b : Bool) → nat_lt close.indent 0 ≡ b → (b || closes close) ≡ true → closes close ≡ true
closes-at close true e h = absurd (grind (arith, nat_tests))
closes-at close false e h = h

pub closes-from_ends : (close : Line) → ends 0 true close ≡ true → closes close ≡ true
closes-from_ends close h = closes-at close (nat_lt close.indent 0) refl h
