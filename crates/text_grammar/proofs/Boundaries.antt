-- Shared: character boundaries: after a prefix of ASCII bytes.
use Rattle.std.proofs.Common.{◌≡◌, ℕ, zero, suc, ◌<◌, Bool, true, List, get_or, refl, subst, arith}
use Rattle.std.specs.List.{prefix_len}
use Rattle.std.specs.Str.{IsUtf8, IsCharBoundary}
use Rattle.std.proofs.lemmas.List.Sums.{prefix_len-le-length, prefix_len_passes}
use Rattle.std.proofs.lemmas.Str.{IsCharBoundary-start, IsCharBoundary-after_ascii}
use Rattle.std.proofs.lemmas.Bool.Decides.{nat_tests}
use Rattle.plan_types.specs.Bytes.{is_blank}

-- a test passes only ASCII bytes
abbrev pub PassesAscii : (ℕ → Bool) → Type 0
PassesAscii p = (b : ℕ) → p b ≡ true → b < 128

boundary-at : (p : ℕ → Bool) (text : List ℕ) (n : ℕ) → PassesAscii p → IsUtf8 text → n ≡ prefix_len p text → IsCharBoundary text n
boundary-at p text zero ascii u e = IsCharBoundary-start text u
boundary-at p text (suc n) ascii u e =
    let le = prefix_len-le-length p text in
    let low : get_or text n 0 < 128 = ascii (get_or text n 0) (prefix_len_passes p text n 0 (omega arith)) in
    subst (λ k. IsCharBoundary text k) (omega arith) (IsCharBoundary-after_ascii text n u (omega arith) low)

-- the end of the longest prefix that passes is a character boundary
pub boundary_front : (p : ℕ → Bool) (text : List ℕ) → PassesAscii p → IsUtf8 text → IsCharBoundary text (prefix_len p text)
boundary_front p text ascii u = boundary-at p text (prefix_len p text) ascii u refl

pub is_blank-ascii : PassesAscii is_blank
is_blank-ascii b h = grind (arith, nat_tests)
