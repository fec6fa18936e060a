use Rattle.std.proofs.Common.{[], ◌∷◌, ◌++◌, ◌∙◌, sym, length, ap, arith, length-append}
use Rattle.std.specs.Prelude.{map}
use Rattle.std.specs.Char.{encode_utf8}
use Rattle.std.specs.String.{string_bytes}
use Rattle.std.proofs.lemmas.List.{length_push, map-append}
use Rattle.std.proofs.lemmas.Iterator.{YieldsList-from_chars}
use Rattle.std.proofs.lemmas.Iterator.Consumers.{YieldsList-end}
use Rattle.older_layout.specs.OlderTree.{plain_text}
use Rattle.older_layout.proofs.Decoding.{one_more}
use Rattle.older_layout.proofs.read.from_utf8.Goals as goal

pub loop-character-preserved : goal.loop-character-preserved
loop-character-preserved c =
    let old = string_bytes c.loop-character.string in
    let yielded = c.loop-character.yielded in
    let character = c.in-Some.character in
    let longer = ap length c.in_ok-push.ensures.bytes in
    let pushed = c.in_ok-push.ensures.bytes ∙ ap (λ n. old ++ encode_utf8 n) c.plain.ensures in (
      one_more (map (λ c. c) yielded) old (string_bytes c.push.new.self) character pushed c.loop-character.invariant.0 ∙ ap plain_text (sym (map-append (λ c. c) yielded (character ∷ []))),
      omega (arith, longer, length-append old (encode_utf8 c.plain.result), c.in_ok-push.ensures.char_len, c.loop-character.invariant.1, length_push yielded character),
    )

pub returns-clause-value : goal.returns-clause-value
returns-clause-value c =
    let t = YieldsList-end (YieldsList-from_chars c.args.text.now c.utf8.text (cc)) c.loop-character.yielded _ c.loop-character.yielded_by _ _ c.in-None.is c.next.ensures.steps in
    c.from_string.ensures ∙ c.loop-character.invariant.0 ∙ ap plain_text t.0
