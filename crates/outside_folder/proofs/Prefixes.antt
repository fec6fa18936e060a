-- The rest of a text after a prefix.
use Rattle.std.proofs.Common.{◌≡◌, ℕ, List, drop, Option, Some, None, true, false, ap, ◌∙◌, sym, subst}
use Rattle.std.specs.Option.{MatchOption, option_copied}
use Rattle.std.specs.Str.{IsCharBoundary}
use Rattle.std.specs.Str.Pattern.{FindsTextPrefix, StripsPrefix}
use Rattle.std.specs.Borrow.{Bor}
use Rattle.std.proofs.lemmas.Str.Pattern.{starts_text}
use Rattle.outside_folder.specs.Files.{after}

pub after-strip_prefix : (front path : List ℕ) (r : Option (Bor (List ℕ))) → MatchOption r (FindsTextPrefix front path None) (λ x. StripsPrefix (FindsTextPrefix front) path x.now) → option_copied r ≡ after front path
after-strip_prefix front path None h = rw (← starts_text false front path h)
after-strip_prefix front path (Some x) h =
    let found = starts_text true front path (h.0, h.1, subst (IsCharBoundary path) (sym h.1.0) h.1.2) in
    rw (← found) (ap Some (h.2 ∙ ap (λ n. drop n path) h.1.0))
