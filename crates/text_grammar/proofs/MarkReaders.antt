-- Shared: blanks before a part, and a mark between two parts.
use Rattle.std.proofs.Common.{◌≡◌, inl, inr, ℕ, false, List, [], ◌∷◌, ◌++◌, Option, Some, None, Result, Ok, Err, sym, ap, ◌∙◌, subst, append_assoc, append-nil}
use Rattle.plan_types.specs.declared.refusal.Cause.{Cause}
use Rattle.plan_types.specs.Bytes.{is_blank, Blanks, begins_with}
use Rattle.text_grammar.specs.Reading.{◌>>=◌, skip_blanks, byte_after, byte_due, next_at}
use Rattle.text_grammar.specs.Parts.{Led, led}
use Rattle.text_grammar.proofs.TextKind.{Digits, Kind, starts}
use Rattle.text_grammar.proofs.FrontReaders.{Reader, errs, Apart, ends_kept, apart_before, apart_within, Read, Like, Fault, fault_up_like}
use Rattle.text_grammar.proofs.LeadingBlanks.{Never, never_starts, starts_like, byte_here, byte_gone, Begun, begun, due_here, due_gone, blanks_none, ends_blanks, Cut, cut, skip_over}

-- ---- blanks, then a part

abbrev pub led_at : {A : Type 0} → Reader A → Reader A
led_at P text = P (skip_blanks text)

module _ {A : Type 0} (digits : Digits) (L : List ℕ → A → Type 0) (P : Reader A) where
  pub led_reads : Never is_blank L → ((text : List ℕ) (x : A) (rest : List ℕ) → L text x → Apart digits text rest → P (text ++ rest) ≡ Ok (x, rest))
      → (text : List ℕ) (x : A) (rest : List ℕ) → Led L text x → Apart digits text rest → led_at P (text ++ rest) ≡ Ok (x, rest)
  led_reads never reads text x rest (led blanks {text = part} all is) apart =
      ap P (ap skip_blanks (append_assoc blanks part rest) ∙ skip_over blanks (part ++ rest) all (never_starts is_blank L never part x is rest))
      ∙ reads part x rest is (apart_within digits blanks part rest (ends_blanks digits blanks all) apart)

  pub led_read : ((text : List ℕ) (x : A) (rest : List ℕ) → P text ≡ Ok (x, rest) → Read L (Apart digits) text x rest)
      → (text : List ℕ) (x : A) (rest : List ℕ) → led_at P text ≡ Ok (x, rest) → Read (Led L) (Apart digits) text x rest
  led_read read text x rest h =
      let c = cut text in
      let r = read (skip_blanks text) x rest h in
      record {
        front = c.blanks ++ r.front;
        whole = c.whole ∙ ap (λ t. c.blanks ++ t) r.whole ∙ sym (append_assoc c.blanks r.front rest);
        is = led c.blanks c.all r.is;
        apart = apart_before digits c.blanks r.front rest (ends_blanks digits c.blanks c.all) r.apart;
      }

module _ {A : Type 0} (kind : Kind) (L L' : List ℕ → A → Type 0) (P P' : Reader A) where
  pub led_fault : ((text : List ℕ) (cause : Cause) → P text ≡ Err cause → Fault kind L L' P P' text cause)
      → (text : List ℕ) (cause : Cause) → led_at P text ≡ Err cause → Fault kind (Led L) (Led L') (led_at P) (led_at P') text cause
  led_fault fault text cause h =
      let c = cut text in
      let f = fault (skip_blanks text) cause h in
      let over : (again : List ℕ) → Like kind.digits again f.rest → skip_blanks (c.blanks ++ (f.front ++ again)) ≡ f.front ++ again =
      λ again like. skip_over c.blanks (f.front ++ again) c.all (starts_like kind.digits is_blank (blanks_none kind.digits) f.front f.rest again like (sym (ap (starts is_blank) f.whole) ∙ c.none)) in
      subst (λ t. Fault kind (Led L) (Led L') (led_at P) (led_at P') t cause) (sym c.whole)
      (fault_up_like kind L L' P P' (Led L) (Led L') (led_at P) (led_at P') c.blanks (completes L c) (completes L' c)
      (skip_blanks text) cause f (ends_kept kind.digits.digit c.blanks f.front (ends_blanks kind.digits c.blanks c.all))
      (λ again like e. ap (λ t. errs (P t)) (over again like) ∙ e) (λ again like e. ap (λ t. errs (P' t)) (over again like) ∙ e))
    where
      completes : (K : List ℕ → A → Type 0) (c : Cut text) (t : List ℕ) (x : A) → K t x → (after : List ℕ) × (y : A) × Led K (c.blanks ++ (t ++ after)) y
      completes K c t x k = ([], x, subst (λ t'. Led K (c.blanks ++ t') x) (sym (append-nil t)) (led c.blanks c.all k))

-- ---- a mark of two bytes, then a part

abbrev pub twice : ℕ → List ℕ
twice byte = byte ∷ byte ∷ []

abbrev behind_from : (List ℕ → Cause) → ℕ → Option (List ℕ) → Result (Option (List ℕ)) Cause
behind_from missing byte found = elim found [ None ↦ Ok None | Some more ↦ byte_due missing byte more >>= λ rest. Ok (Some rest) ]

abbrev part_from : {A : Type 0} → Reader A → Option (List ℕ) → Result (Option (A × List ℕ)) Cause
part_from P found = elim found [ None ↦ Ok None | Some rest ↦ P rest >>= λ p. Ok (Some p) ]

module _ {A : Type 0} (P : Reader A) (missing : List ℕ → Cause) (byte : ℕ) (not-blank : is_blank byte ≡ false) where
  -- blanks and both bytes
  pub at_mark : (blanks rest : List ℕ) → Blanks blanks → next_at P missing byte (blanks ++ (byte ∷ byte ∷ rest)) ≡ (P rest >>= λ p. Ok (Some p))
  at_mark blanks rest are =
      ap (λ t. behind_from missing byte (byte_after byte t) >>= part_from P) (skip_over blanks (byte ∷ byte ∷ rest) are not-blank)
      ∙ ap (λ o. behind_from missing byte o >>= part_from P) (byte_here byte (byte ∷ rest))
      ∙ ap (λ r. (r >>= λ rest'. Ok (Some rest')) >>= part_from P) (due_here missing byte rest)

  -- blanks and only one byte
  pub at_half : (blanks rest : List ℕ) → Blanks blanks → begins_with byte rest ≡ false → next_at P missing byte (blanks ++ (byte ∷ rest)) ≡ Err (missing rest)
  at_half blanks rest are other =
      ap (λ t. behind_from missing byte (byte_after byte t) >>= part_from P) (skip_over blanks (byte ∷ rest) are not-blank)
      ∙ ap (λ o. behind_from missing byte o >>= part_from P) (byte_here byte rest)
      ∙ ap (λ r. (r >>= λ rest'. Ok (Some rest')) >>= part_from P) (due_gone missing byte rest other)

  pub at_none : (text : List ℕ) → begins_with byte (skip_blanks text) ≡ false → next_at P missing byte text ≡ Ok None
  at_none text other = ap (λ o. behind_from missing byte o >>= part_from P) (byte_gone byte (skip_blanks text) other)

  -- the three ways to read a mark: none, half of it, or all of it
  pub data Mark (text : List ℕ) : Type 0 where
    no_mark : begins_with byte (skip_blanks text) ≡ false → next_at P missing byte text ≡ Ok None → Mark text
    half : (blanks rest : List ℕ) → Blanks blanks → text ≡ blanks ++ (byte ∷ rest) → begins_with byte rest ≡ false → next_at P missing byte text ≡ Err (missing rest) → Mark text
    mark : (blanks rest : List ℕ) → Blanks blanks → text ≡ blanks ++ (byte ∷ byte ∷ rest) → next_at P missing byte text ≡ (P rest >>= λ p. Ok (Some p)) → Mark text

  pub marked : (text : List ℕ) → Mark text
  marked text = first (begun byte (skip_blanks text))
    where
      second : (rest : List ℕ) → skip_blanks text ≡ byte ∷ rest → Begun byte rest → Mark text
      second rest e (inr other) =
          let c = cut text in
          let one = c.whole ∙ ap (λ t. c.blanks ++ t) e in
          half c.blanks rest c.all one other (ap (next_at P missing byte) one ∙ at_half c.blanks rest c.all other)
      second rest e (inl p) =
          let c = cut text in
          let two = c.whole ∙ ap (λ t. c.blanks ++ t) (e ∙ ap (λ t. byte ∷ t) p.1) in
          mark c.blanks p.0 c.all two (ap (next_at P missing byte) two ∙ at_mark c.blanks p.0 c.all)

      first : Begun byte (skip_blanks text) → Mark text
      first (inr other) = no_mark other (at_none text other)
      first (inl p) = second p.0 p.1 (begun byte p.0)
