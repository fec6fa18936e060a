-- The text of a file, character by character.
use Rattle.std.proofs.Common.{◌≡◌, ℕ, ◌+◌, ◌<◌, List, [], ◌∷◌, ◌++◌, length, take, get_or, sym, ◌∙◌, ap, append-nil}
use Rattle.std.specs.Prelude.{map}
use Rattle.std.specs.Str.{encode_utf8_all}
use Rattle.std.specs.Char.{encode_utf8}
use Rattle.std.proofs.lemmas.Str.{encodes-append}
use Rattle.std.proofs.lemmas.List.{take_more, map-append}
use Rattle.older_layout.specs.OlderTree.{plain, plain_text}

pub one_more : (cs old new : List ℕ) (c : ℕ) → new ≡ old ++ encode_utf8 (plain c) → old ≡ plain_text cs → new ≡ plain_text (cs ++ c ∷ [])
one_more cs old new c f o =
    f
    ∙ ap (λ v. v ++ encode_utf8 (plain c)) o
    ∙ ap (λ v. plain_text cs ++ v) (sym (append-nil (encode_utf8 (plain c))))
    ∙ sym (encodes-append (map plain cs) (plain c ∷ []))
    ∙ ap encode_utf8_all (sym (map-append plain cs (c ∷ [])))

pub byte_more : (bytes old new : List ℕ) (i c : ℕ) → i < length bytes → new ≡ old ++ encode_utf8 (plain c) → c ≡ get_or bytes i 0 → old ≡ plain_text (take i bytes) →
    new ≡ plain_text (take (i + 1) bytes)
byte_more bytes old new i c l f e o =
    one_more (take i bytes) old new c f o ∙ ap (λ b. plain_text (take i bytes ++ b ∷ [])) e ∙ ap plain_text (sym (take_more bytes i 0 l))
