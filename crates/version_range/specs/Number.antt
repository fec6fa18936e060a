-- Numbers as values of fields.
use Rattle.std.specs.Prelude.{ℕ, Bool, true, false, ◌&&◌, ◌==◌, not, if◌then◌else◌, nat_le, nat_lt, List, [], ◌∷◌, length, Option, Some, None}
use Rattle.std.specs.Str.{all_ascii_digits}
use Rattle.plan_types.specs.declared.limit.Limit.{Limit}
use Rattle.plan_types.specs.declared.limit.Limit.TheVariants.{Unlimited, At}
use Rattle.version_range.specs.Version.{number_after}

-- one to nine digits; leading zeros are allowed
abbrev pub is_count : List ℕ → Bool
is_count digits = not (length digits == 0) && nat_le (length digits) 9 && all_ascii_digits digits

-- the limit of a number; a negative one means no limit, and `-0` is 0
abbrev pub signed_limit : Bool → List ℕ → Option Limit
signed_limit negative digits =
    if is_count digits then Some (if negative && nat_lt 0 (number_after 0 digits) then Unlimited else At (number_after 0 digits))
    else None

-- the limit of a text: a number with an optional `-`
abbrev pub limit_of : List ℕ → Option Limit
limit_of [] = None
limit_of (b ∷ bs) = if b == 45 then signed_limit true bs else signed_limit false (b ∷ bs)
