use Rattle.std.proofs.Common.{ap, sym, ◌∙◌}
use Rattle.std.specs.Str.{all_ascii_digits}
use Rattle.std.proofs.lemmas.Bool.{false≢true}
use Rattle.version_range.specs.Version.{begins_with_digit}
use Rattle.version_range.proofs.VersionNumbers.{cut_at, is_number, not_number}
use Rattle.version_range.proofs.number.number_at.Goals as goal

pub returns-then-is_number-clause-found : goal.returns-then-is_number-clause-found
returns-then-is_number-clause-found c =
    let count = c.digit_count-count in
    let cut = c.split_at.ensures in
    is_number _ _ _ c.number_of.result (cut_at c.args.text.now count.result cut.front cut.back) (ap all_ascii_digits cut.front ∙ count.ensures.digits) (ap begins_with_digit cut.back ∙ count.ensures.rest) (c.is_number.ensures.0 c.if-is_number.true) c.number_of.ensures

pub returns-else-is_number-clause-none : goal.returns-else-is_number-clause-none
returns-else-is_number-clause-none c =
    let count = c.digit_count-count in
    let cut = c.split_at.ensures in
    not_number _ _ _ (cut_at c.args.text.now count.result cut.front cut.back) (ap all_ascii_digits cut.front ∙ count.ensures.digits) (ap begins_with_digit cut.back ∙ count.ensures.rest) (λ ok. false≢true (sym c.if-is_number.false ∙ c.is_number.ensures.1 ok))
