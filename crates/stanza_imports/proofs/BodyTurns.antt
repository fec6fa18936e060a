-- Values of bodies, each computed from the values of those before it.
use Rattle.std.proofs.Common.{◌≡◌, ℕ, zero, suc, ◌+◌, ◌<◌, length, List, [], ◌∷◌, ◌++◌, take, get_or, ap, ◌∙◌, refl, arith, length-append}
use Rattle.std.proofs.lemmas.List.{get_or_append_left, get_or_at}
use Rattle.std.specs.Prelude.{Some}
use Rattle.std.specs.List.{slice_get}
use Rattle.stanza_imports.specs.declared.stanzas.StanzaBody.{StanzaBody}
use Rattle.stanza_imports.specs.Bodies.{in_turn}

module _ {A : Type 0} (told : List A → StanzaBody → A) where
  pub in_turn-append : (before : List A) (bodies more : List StanzaBody) → in_turn told before (bodies ++ more) ≡ in_turn told (in_turn told before bodies) more
  in_turn-append before [] more = refl
  in_turn-append before (body ∷ bodies) more = in_turn-append (before ++ told before body ∷ []) bodies more

  pub length-in_turn : (before : List A) (bodies : List StanzaBody) → length (in_turn told before bodies) ≡ length before + length bodies
  length-in_turn before [] = omega arith
  length-in_turn before (body ∷ bodies) =
      let e = length-in_turn (before ++ told before body ∷ []) bodies in
      let l = length-append before (told before body ∷ []) in
      omega arith

  pub in_front : (d : A) (n : ℕ) (before : List A) (bodies : List StanzaBody) → n < length before → get_or (in_turn told before bodies) n d ≡ get_or before n d
  in_front d n before [] h = refl
  in_front d n before (body ∷ bodies) h =
      let l = length-append before (told before body ∷ []) in
      in_front d n (before ++ told before body ∷ []) bodies (omega arith)
      ∙ get_or_append_left before (told before body ∷ []) d n h

  from : (d : A) (n : ℕ) (before : List A) (bodies : List StanzaBody) (body : StanzaBody) → slice_get bodies n ≡ Some body →
      (at : ℕ) → at ≡ length before + n → get_or (in_turn told before bodies) at d ≡ told (in_turn told before (take n bodies)) body
  from d n before [] body e at is = absurd (cc e)
  from d zero before (first ∷ bodies) body e at is =
      let l = length-append before (told before first ∷ []) in
      let same : first ≡ body = cc e in
      in_front d at (before ++ told before first ∷ []) bodies (omega arith)
      ∙ get_or_at before (told before first) [] d at (omega arith)
      ∙ ap (told before) same
  from d (suc n) before (first ∷ bodies) body e at is =
      let l = length-append before (told before first ∷ []) in
      from d n (before ++ told before first ∷ []) bodies body e at (omega arith)

  -- the value of a body, from those before it
  pub told_at : (d : A) (n : ℕ) (bodies : List StanzaBody) (body : StanzaBody) → slice_get bodies n ≡ Some body → get_or (in_turn told [] bodies) n d ≡ told (in_turn told [] (take n bodies)) body
  told_at d n bodies body e = from d n [] bodies body e n (omega arith)
