-- The parts that are words, one by one.
use Rattle.std.proofs.Common.{◌≡◌, ℕ, ◌+◌, ◌<◌, true, false, cond, List, [], ◌∷◌, ◌++◌, length, Bor, take, get_or, sym, ap, ◌∙◌, append-nil}
use Rattle.std.specs.Prelude.{filter}
use Rattle.std.proofs.lemmas.List.{take_more, map-append}
use Rattle.std.proofs.lemmas.List.Elements.{filter-append}
use Rattle.entry_text.specs.Words.{is_word}
use Rattle.entry_text.proofs.CommaCuts.{texts}

one_more : (parts : List (Bor (List ℕ))) (i : ℕ) (d : Bor (List ℕ)) → i < length parts
    → filter is_word (texts (take (i + 1) parts)) ≡ filter is_word (texts (take i parts)) ++ filter is_word ((get_or parts i d).now ∷ [])
one_more parts i d h =
    ap (λ ps. filter is_word (texts ps)) (take_more parts i d h)
    ∙ ap (filter is_word) (map-append (λ part. part.now) (take i parts) (get_or parts i d ∷ []))
    ∙ filter-append is_word (texts (take i parts)) ((get_or parts i d).now ∷ [])

pub word_kept : (parts : List (Bor (List ℕ))) (i : ℕ) (d : Bor (List ℕ)) (found : List (Bor (List ℕ))) → i < length parts
    → texts found ≡ filter is_word (texts (take i parts)) → is_word (get_or parts i d).now ≡ true → texts (found ++ get_or parts i d ∷ []) ≡ filter is_word (texts (take (i + 1) parts))
word_kept parts i d found h e is =
    map-append (λ part. part.now) found (get_or parts i d ∷ []) ∙ ap (λ t. t ++ (get_or parts i d).now ∷ []) e
    ∙ ap (λ b. filter is_word (texts (take i parts)) ++ cond b ((get_or parts i d).now ∷ []) []) (sym is) ∙ sym (one_more parts i d h)

pub word_dropped : (parts : List (Bor (List ℕ))) (i : ℕ) (d : Bor (List ℕ)) (found : List (Bor (List ℕ))) → i < length parts
    → texts found ≡ filter is_word (texts (take i parts)) → is_word (get_or parts i d).now ≡ false → texts found ≡ filter is_word (texts (take (i + 1) parts))
word_dropped parts i d found h e is =
    e ∙ sym (append-nil (filter is_word (texts (take i parts))))
    ∙ ap (λ b. filter is_word (texts (take i parts)) ++ cond b ((get_or parts i d).now ∷ []) []) (sym is) ∙ sym (one_more parts i d h)
