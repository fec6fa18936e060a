-- Shared: reading operands joined by a mark of two bytes.
use Rattle.std.proofs.Common.{◌≡◌, ◌≢◌, inl, ℕ, true, false, List, [], ◌∷◌, ◌++◌, Option, Some, None, Result, Ok, Err, refl, sym, ap, ◌∙◌, subst, append_assoc, append-nil}
use Rattle.plan_types.specs.declared.refusal.Cause.{Cause}
use Rattle.plan_types.specs.Bytes.{is_blank, Blanks, begins_with}
use Rattle.text_grammar.specs.Reading.{skip_blanks, next_at}
use Rattle.text_grammar.specs.Parts.{Behind, behind, Chain, one, more}
use Rattle.text_grammar.proofs.TextKind.{Kind, miss, ends_with}
use Rattle.text_grammar.proofs.FrontReaders.{Reader, some_append, errs, ends_behind, ends_kept, Read, Fault, due_fault, fault_up, fault_up_like}
use Rattle.text_grammar.proofs.LeadingBlanks.{no_digits, begins_like}
use Rattle.text_grammar.proofs.ChainParts.{Parts, NextFault, all_of, errs_then, as_next, as_next_ok, as_next_none, as_next_err, reads, read_all, fault_all}
use Rattle.text_grammar.proofs.MarkReaders.{twice, at_mark, at_half, at_none, Mark, no_mark, half, mark, marked}

-- the reader P is correct for the language L; E relates a text to the texts that may follow it
pub record Rules {A : Type 0} (L : List ℕ → A → Type 0) (E : List ℕ → List ℕ → Type 0) (P : Reader A) : Type 0 where
  pub reads : (text : List ℕ) (r : A) (rest : List ℕ) → L text r → E text rest → P (text ++ rest) ≡ Ok (r, rest)
  pub read : (text : List ℕ) (r : A) (rest : List ℕ) → P text ≡ Ok (r, rest) → Read L E text r rest
  pub some : (text : List ℕ) (r : A) → L text r → text ≢ []

-- what may follow a text depends only on its end
pub record Follow (E : List ℕ → List ℕ → Type 0) : Type 0 where
  pub onto : (pre text rest : List ℕ) → text ≢ [] → E text rest → E (pre ++ text) rest
  pub from : (pre text rest : List ℕ) → text ≢ [] → E (pre ++ text) rest → E text rest

some_behind : {A : Type 0} (L : List ℕ → A → Type 0) (byte : ℕ) (text : List ℕ) (x : A) → Behind (twice byte) L text x → text ≢ []
some_behind L byte text x (behind blanks {text = part} are is) e = some_append blanks (byte ∷ byte ∷ part) (λ k. cc k) (sym (append_assoc blanks (twice byte) part) ∙ e)

pub wider_behind : {A : Type 0} (joint : List ℕ) (L L' : List ℕ → A → Type 0) → ((text : List ℕ) (r : A) → L text r → L' text r) → (text : List ℕ) (r : A) → Behind joint L text r → Behind joint L' text r
wider_behind joint L L' wider text r (behind blanks {text = part} are is) = behind blanks are (wider part r is)

module _ {A : Type 0} (kind : Kind) (byte : ℕ) (not-blank : is_blank byte ≡ false) (not-digit : kind.digits.digit byte ≡ false) (L : List ℕ → A → Type 0) (E : List ℕ → List ℕ → Type 0) (P : Reader A)
    (rules : Rules L E P) (follow : Follow E) (mark_follows : (text blanks again : List ℕ) → Blanks blanks → E text (blanks ++ (byte ∷ again))) where
  abbrev Next : List ℕ → A → Type 0
  Next = Behind (twice byte) L

  pub flat : (blanks part rest : List ℕ) → ((blanks ++ twice byte) ++ part) ++ rest ≡ blanks ++ (byte ∷ byte ∷ (part ++ rest))
  flat blanks part rest = append_assoc (blanks ++ twice byte) part rest ∙ append_assoc blanks (twice byte) (part ++ rest)

  next_reads : (text : List ℕ) (r : A) (rest : List ℕ) → Next text r → E text rest → next_at P (miss kind) byte (text ++ rest) ≡ Ok (Some (r, rest))
  next_reads text r rest (behind blanks {text = part} are is) e =
      let e' = follow.from (blanks ++ twice byte) part rest (rules.some part r is) e in
      ap (next_at P (miss kind) byte) (flat blanks part rest)
      ∙ at_mark P (miss kind) byte not-blank blanks (part ++ rest) are
      ∙ ap as_next (rules.reads part r rest is e')

  next_read : (text : List ℕ) (r : A) (rest : List ℕ) → next_at P (miss kind) byte text ≡ Ok (Some (r, rest)) → Read Next E text r rest
  next_read text r rest h = by (marked P (miss kind) byte not-blank text)
    where
      by : Mark P (miss kind) byte not-blank text → Read Next E text r rest
      by (no_mark other none) = absurd (cc (h, none))
      by (half blanks behind' are e other fails) = absurd (cc (h, fails))
      by (mark blanks behind' are e is) =
          let got = rules.read behind' r rest (as_next_ok (P behind') (r, rest) (sym is ∙ h)) in
          record {
            front = (blanks ++ twice byte) ++ got.front;
            whole = e ∙ ap (λ t. blanks ++ (byte ∷ byte ∷ t)) got.whole ∙ sym (flat blanks got.front rest);
            is = behind blanks are got.is;
            apart = follow.onto (blanks ++ twice byte) got.front rest (rules.some got.front r got.is) got.apart;
          }

  pub parts : Parts L Next E P (next_at P (miss kind) byte)
  parts = record {
    first_reads = rules.reads;
    first_read = rules.read;
    next_reads = next_reads;
    next_read = next_read;
    next_some = λ y n. some_behind L byte [] y n refl;
    opens = λ text next rest y n. opens text next rest y n;
    behind = λ text next rest y n e. follow.onto text next rest (some_behind L byte next y n) e;
    within = λ text next rest y n e. follow.from text next rest (some_behind L byte next y n) e;
  }
    where
      opens : (text next rest : List ℕ) (y : A) → Next next y → E text (next ++ rest)
      opens text next rest y (behind blanks {text = part} are is) = subst (E text) (sym (flat blanks part rest)) (mark_follows text blanks (byte ∷ (part ++ rest)) are)

  -- no further operand follows
  abbrev pub Ended : List ℕ → List ℕ → Type 0
  Ended text rest = E text rest × (begins_with byte (skip_blanks rest) ≡ false)

  ended : (rest : List ℕ) → next_at P (miss kind) byte rest ≡ Ok None → begins_with byte (skip_blanks rest) ≡ false
  ended rest h = by (marked P (miss kind) byte not-blank rest)
    where
      by : Mark P (miss kind) byte not-blank rest → begins_with byte (skip_blanks rest) ≡ false
      by (no_mark other none) = other
      by (half blanks behind' are e other fails) = absurd (cc (h, fails))
      by (mark blanks behind' are e is) = absurd (as_next_none (P behind') (sym is ∙ h))

  pub joined_rules : (join : A → A → A) → Rules (Chain join L Next) Ended (all_of join P (next_at P (miss kind) byte))
  joined_rules join = record {
    reads = λ text r rest c e. reads join L Next E P (next_at P (miss kind) byte) parts c rest e.0 (at_none P (miss kind) byte not-blank rest e.1);
    read = λ text r rest h.
        let a = read_all join L Next E P (next_at P (miss kind) byte) parts text r rest h in
        record { front = a.read.front; whole = a.read.whole; is = a.read.is; apart = (a.read.apart, ended rest a.none) };
    some = some_chain;
  }
    where
      some_chain : (text : List ℕ) (r : A) → Chain join L Next text r → text ≢ []
      some_chain text r (one f) e = rules.some text r f e
      some_chain text r (more {text = front} {next = next} {right = right} c n) e = some_append front next (some_behind L byte next right n) e

-- ---- faults

module _ {A : Type 0} (kind : Kind) (byte : ℕ) (not-blank : is_blank byte ≡ false) (not-digit : kind.digits.digit byte ≡ false) (join : A → A → A) (L L' : List ℕ → A → Type 0) (E : List ℕ → List ℕ → Type 0) (P P' : Reader A)
    (rules : Rules L E P) (rules' : Rules L' E P') (follow : Follow E) (mark_follows : (text blanks again : List ℕ) → Blanks blanks → E text (blanks ++ (byte ∷ again)))
    (wider : (text : List ℕ) (r : A) → L text r → L' text r) (witness : List ℕ) (shown : A) (witnessed : L witness shown)
    (operand_fault : (text : List ℕ) (cause : Cause) → P text ≡ Err cause → Fault kind L L' P P' text cause) where
  abbrev Behind-L : List ℕ → A → Type 0
  Behind-L = Behind (twice byte) L

  abbrev Behind-L' : List ℕ → A → Type 0
  Behind-L' = Behind (twice byte) L'

  abbrev next : List ℕ → Result (Option (A × List ℕ)) Cause
  next = next_at P (miss kind) byte

  abbrev next' : List ℕ → Result (Option (A × List ℕ)) Cause
  next' = next_at P' (miss kind) byte

  wider_next : (text : List ℕ) (r : A) → Behind-L text r → Behind-L' text r
  wider_next = wider_behind (twice byte) L L' wider

  abbrev all-parts : Parts L Behind-L E P next
  all-parts = parts kind byte not-blank not-digit L E P rules follow mark_follows

  abbrev all-parts' : Parts L' Behind-L' E P' next'
  all-parts' = parts kind byte not-blank not-digit L' E P' rules' follow mark_follows

  abbrev Failed : List ℕ → Cause → Type 0
  Failed = NextFault kind join L L' Behind-L Behind-L' E P P' next next' all-parts all-parts' wider wider_next

  abbrev once : List ℕ → List ℕ
  once blanks = blanks ++ byte ∷ []

  once_more : (blanks again : List ℕ) → once blanks ++ again ≡ blanks ++ (byte ∷ again)
  once_more blanks again = append_assoc blanks (byte ∷ []) again

  once_end : (blanks : List ℕ) → ends_with kind.digits.digit (once blanks) ≡ false
  once_end blanks = ends_behind kind.digits.digit blanks byte [] ∙ not-digit

  twice_end : (blanks : List ℕ) → ends_with kind.digits.digit (blanks ++ twice byte) ≡ false
  twice_end blanks = ends_behind kind.digits.digit blanks byte (byte ∷ []) ∙ not-digit

  half_errs : (blanks again : List ℕ) → Blanks blanks → begins_with byte again ≡ false → errs (next' (once blanks ++ again)) ≡ true
  half_errs blanks again are other = ap (λ t. errs (next' t)) (once_more blanks again) ∙ ap errs (at_half P' (miss kind) byte not-blank blanks again are other)

  -- only one byte of the mark
  fault_half : (blanks rest : List ℕ) → Blanks blanks → begins_with byte rest ≡ false → Failed (once blanks ++ rest) (miss kind rest)
  unfolding due_fault
  fault_half blanks rest are other = record {
    fault = due_fault kind Behind-L Behind-L' next next' (once blanks) rest (byte ∷ witness) shown
        (subst (λ t. Behind-L t shown) (append_assoc blanks (twice byte) witness ∙ sym (once_more blanks (byte ∷ witness))) (behind blanks are witnessed))
        (λ again same. half_errs blanks again are (begins_like kind.digits byte not-digit [] rest again (inl same) other))
        (λ digit. absurd (cc (digit, once_end blanks)))
        (λ none digit again is. half_errs blanks (digit ∷ again) are (no_digits kind.digits byte not-digit digit is));
    begun = some_append blanks (byte ∷ []) (λ k. cc k);
    opens = λ text again. subst (E text) (sym (once_more blanks again)) (mark_follows text blanks again are);
  }

  -- the operand after the mark fails
  fault_part : (blanks rest : List ℕ) (cause : Cause) → Blanks blanks → Fault kind L L' P P' rest cause → Failed ((blanks ++ twice byte) ++ rest) cause
  unfolding fault_up fault_up_like
  fault_part blanks rest cause are f = record {
    fault = fault_up kind L L' P P' Behind-L Behind-L' next next' (blanks ++ twice byte)
        (λ t y k. ([], y, subst (λ t'. Behind-L ((blanks ++ twice byte) ++ t') y) (sym (append-nil t)) (behind blanks are k)))
        (λ t y k. ([], y, subst (λ t'. Behind-L' ((blanks ++ twice byte) ++ t') y) (sym (append-nil t)) (behind blanks are k)))
        rest cause f (ends_kept kind.digits.digit (blanks ++ twice byte) f.front (twice_end blanks))
        (λ again e. passes P f.front again e)
        (λ again e. passes P' f.front again e);
    begun = λ e. some_append blanks (byte ∷ byte ∷ f.front) (λ k. cc k) (sym (append_assoc blanks (twice byte) f.front) ∙ e);
    opens = λ text again. subst (E text) (sym (flat' f.front again)) (mark_follows text blanks (byte ∷ (f.front ++ again)) are);
  }
    where
      flat' : (front again : List ℕ) → ((blanks ++ twice byte) ++ front) ++ again ≡ blanks ++ (byte ∷ byte ∷ (front ++ again))
      flat' front again = append_assoc (blanks ++ twice byte) front again ∙ append_assoc blanks (twice byte) (front ++ again)

      passes : (R : Reader A) (front again : List ℕ) → errs (R (front ++ again)) ≡ true → errs (next_at R (miss kind) byte ((blanks ++ twice byte) ++ (front ++ again))) ≡ true
      passes R front again e =
          ap (λ t. errs (next_at R (miss kind) byte t)) (append_assoc blanks (twice byte) (front ++ again))
          ∙ ap errs (at_mark R (miss kind) byte not-blank blanks (front ++ again) are)
          ∙ errs_then (R (front ++ again)) (λ p. Ok (Some p)) e

  next_fault : (text : List ℕ) (cause : Cause) → next text ≡ Err cause → Failed text cause
  next_fault text cause h = by (marked P (miss kind) byte not-blank text)
    where
      by : Mark P (miss kind) byte not-blank text → Failed text cause
      by (no_mark other none) = absurd (cc (h, none))
      by (half blanks rest are e other fails) =
          let same : miss kind rest ≡ cause = cc (h, fails) in
          subst (Failed text) same (subst (λ t. Failed t (miss kind rest)) (once_more blanks rest ∙ sym e) (fault_half blanks rest are other))
      by (mark blanks rest are e is) =
          let f = operand_fault rest cause (as_next_err (P rest) cause (sym is ∙ h)) in
          subst (λ t. Failed t cause) (append_assoc blanks (twice byte) rest ∙ sym e) (fault_part blanks rest cause are f)

  pub joined_fault : (text : List ℕ) (cause : Cause) → all_of join P next text ≡ Err cause
      → Fault kind (Chain join L Behind-L) (Chain join L' Behind-L') (all_of join P next) (all_of join P' next') text cause
  joined_fault = fault_all kind join L L' Behind-L Behind-L' E P P' next next' all-parts all-parts' wider wider_next next_fault operand_fault
