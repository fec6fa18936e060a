-- Shared: a call that can't fail.
use Rattle.std.proofs.Common.{◌≡◌, false, Result, Ok, Err, OnOk, OnErr, sym}
use Rattle.std.specs.Result.{is_err}
use Rattle.std.proofs.lemmas.Bool.{false≢true}

-- a clause on success holds for a call that can't fail
pub ok-of : {T E : Type 0} {P Q : Type 0} → (r : Result T E) → OnOk r P → OnErr r Q → (Q → ⊥) → P
ok-of (Ok x) h k n = h
ok-of (Err e) h k n = absurd (n k)

pub ok-where : {T E : Type 0} {P : Type 0} → (r : Result T E) → OnOk r P → is_err r ≡ false → P
ok-where (Ok x) h k = h
ok-where (Err e) h k = absurd (false≢true (sym k))
