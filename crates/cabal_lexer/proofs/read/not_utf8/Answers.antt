use Rattle.std.proofs.Common.{◌≤◌, length, subst, sym}
use Rattle.std.proofs.lemmas.Str.{utf8_valid_len_le}
use Rattle.cabal_lexer.proofs.read.not_utf8.Goals as goal

pub split_at-requires : goal.split_at-requires
split_at-requires c = subst (λ n. n ≤ length c.args.bytes.now) (sym c.requires.valid) (utf8_valid_len_le c.args.bytes.now)
