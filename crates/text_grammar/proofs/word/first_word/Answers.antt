use Rattle.std.proofs.Common.{◌≡◌, ◌∷◌, ◌<◌, take, drop, sym, subst, ap, ◌∙◌, arith}
use Rattle.std.specs.List.{prefix_len}
use Rattle.std.specs.Str.{IsCharBoundary}
use Rattle.text_grammar.proofs.Cuts.{is_between-ascii, after, until, one_word, no_word, boundary_until}
use Rattle.text_grammar.specs.Words.{is_between, words}
use Rattle.text_grammar.proofs.Boundaries.{boundary_front}
use Rattle.text_grammar.proofs.word.first_word.Goals as goal

pub split_at-requires : goal.split_at-requires
split_at-requires c =
    let p = is_between c.args.between in
    let text = c.args.text.now in
    let n : c.separators.result ≡ prefix_len p text = c.separators.ensures ∙ ap (prefix_len p) c.as_bytes.ensures.value in
    subst (λ n. IsCharBoundary text n) (sym n) (boundary_front p text (is_between-ascii c.args.between) c.utf8.text)

pub returns-then-length-eq0 : goal.returns-then-length-eq0
returns-then-length-eq0 c =
    let p = is_between c.args.between in
    let text = c.args.text.now in
    let n : c.separators.result ≡ prefix_len p text = c.separators.ensures ∙ ap (prefix_len p) c.as_bytes.ensures.value in
    let rest = c.split_at.ensures.back ∙ ap (λ n. drop n text) n in
    let none = sym (c.word_length-length.ensures ∙ ap (until p) (c.as_bytes-2.ensures.value ∙ rest)) ∙ c.if-length-eq0.true in
    sym (after p text) ∙ no_word p text none

pub split_at-requires-2 : goal.split_at-requires-2
split_at-requires-2 c =
    let p = is_between c.args.between in
    let rest = c.split_at.result.1.now in
    let n : c.word_length-length.result ≡ until p rest = c.word_length-length.ensures ∙ ap (until p) c.as_bytes-2.ensures.value in
    subst (λ n. IsCharBoundary rest n) (sym n) (boundary_until p rest (is_between-ascii c.args.between))

pub returns : goal.returns
returns c =
    let p = is_between c.args.between in
    let text = c.args.text.now in
    let rest = c.split_at.result.1.now in
    let s : c.separators.result ≡ prefix_len p text = c.separators.ensures ∙ ap (prefix_len p) c.as_bytes.ensures.value in
    let n : c.word_length-length.result ≡ until p rest = c.word_length-length.ensures ∙ ap (until p) c.as_bytes-2.ensures.value in
    let back : rest ≡ drop (prefix_len p text) text = c.split_at.ensures.back ∙ ap (λ n. drop n text) s in
    let some : 0 < until p rest = omega (arith, n) in
    let word = ap (λ n. take n rest) (sym n) ∙ sym c.split_at-2.ensures.front in
    let more = ap (λ n. drop n rest) (sym n) ∙ sym c.split_at-2.ensures.back in (
      sym (after p text) ∙ ap (words c.args.between) (sym back) ∙ one_word p rest some ∙ ap (λ w. w ∷ words c.args.between (drop (until p rest) rest)) word
          ∙ ap (λ m. c.split_at-2.result.0.now ∷ words c.args.between m) more,
      omega (arith, c.split_at.ensures.back_len, c.split_at-2.ensures.back_len),
    )
