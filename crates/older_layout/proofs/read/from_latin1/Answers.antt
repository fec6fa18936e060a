use Rattle.std.proofs.Common.{◌++◌, ◌∙◌, length, ap, arith, length-append}
use Rattle.std.specs.Char.{encode_utf8}
use Rattle.std.specs.String.{string_bytes}
use Rattle.older_layout.proofs.Decoding.{byte_more}
use Rattle.older_layout.proofs.read.from_latin1.Goals as goal

pub loop-byte-preserved : goal.loop-byte-preserved
loop-byte-preserved c =
    let old = string_bytes c.loop-byte.string in
    let longer = ap length c.in_ok-push.ensures.bytes in
    let pushed = c.in_ok-push.ensures.bytes ∙ ap (λ n. old ++ encode_utf8 n) c.plain.ensures in (
      byte_more c.args.bytes.now old (string_bytes c.push.new.self) c.loop-byte.byte-index c.from.result c.loop-byte-test.true pushed c.from.ensures c.loop-byte.invariant.0,
      omega (arith, longer, length-append old (encode_utf8 c.plain.result), c.in_ok-push.ensures.char_len, c.loop-byte.invariant.1),
    )
