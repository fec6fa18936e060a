-- Shared: reading factors joined by `&&`, and terms joined by `||`.
use Rattle.std.proofs.Common.{◌≡◌, ◌≢◌, ℕ, false, List, [], ◌∷◌, ◌++◌, codes, Ok, Err, refl, ap}
use Rattle.plan_types.specs.declared.refusal.Cause.{Cause}
use Rattle.plan_types.specs.Bytes.{is_blank, Blanks, begins_with}
use Rattle.text_grammar.specs.Parts.{Led, led, Behind, one, Term, Terms}
use Rattle.text_grammar.specs.Reading.{skip_blanks, term_at, terms_at}
use Rattle.text_grammar.proofs.TextKind.{Kind, miss}
use Rattle.text_grammar.proofs.FrontReaders.{Reader, Apart, apart_longer, apart_shorter, some_append, Read, Fault}
use Rattle.text_grammar.proofs.LeadingBlanks.{Never, never_empty, blanks_go_on, skip_over}
use Rattle.text_grammar.proofs.ChainParts.{map_chain}
use Rattle.text_grammar.proofs.MarkReaders.{led_at, led_reads, led_read, led_fault}
use Rattle.text_grammar.proofs.Closings.{Instead, instead, begins_instead, apart_instead}
use Rattle.text_grammar.proofs.Operands.{Rules, Follow, wider_behind, joined_rules, joined_fault}

module _ (kind : Kind) (on-and : kind.digits.on 38 ≡ false) (on-or : kind.digits.on 124 ≡ false) (on-close : kind.digits.on 41 ≡ false) where
  -- ---- what may follow

  abbrev pub AfterTerm : List ℕ → List ℕ → Type 0
  AfterTerm front rest = Apart kind.digits front rest × (begins_with 38 (skip_blanks rest) ≡ false)

  abbrev pub AfterTerms : List ℕ → List ℕ → Type 0
  AfterTerms front rest = AfterTerm front rest × (begins_with 124 (skip_blanks rest) ≡ false)

  follow_factor : Follow (Apart kind.digits)
  follow_factor = record { onto = apart_longer kind.digits; from = apart_shorter kind.digits }

  follow_term : Follow AfterTerm
  follow_term = record {
    onto = λ pre text rest some e. (apart_longer kind.digits pre text rest some e.0, e.1);
    from = λ pre text rest some e. (apart_shorter kind.digits pre text rest some e.0, e.1);
  }

  and_follows : (text blanks again : List ℕ) → Blanks blanks → Apart kind.digits text (blanks ++ (38 ∷ again))
  and_follows text blanks again all d = blanks_go_on kind.digits blanks (38 ∷ again) all on-and

  or_follows : (text blanks again : List ℕ) → Blanks blanks → AfterTerm text (blanks ++ (124 ∷ again))
  or_follows text blanks again all = ((λ d. blanks_go_on kind.digits blanks (124 ∷ again) all on-or), ap (begins_with 38) (skip_over blanks (124 ∷ again) all refl))

  -- a closing parenthesis
  pub close_follows : (text blanks again : List ℕ) → Blanks blanks → AfterTerms text (blanks ++ (41 ∷ again))
  close_follows text blanks again all =
      let over = skip_over blanks (41 ∷ again) all refl in
      (((λ d. blanks_go_on kind.digits blanks (41 ∷ again) all on-close), ap (begins_with 38) over), ap (begins_with 124) over)

  pub after_instead : (front rest again : List ℕ) → AfterTerms front rest → Instead kind.digits front rest again → AfterTerms front (instead rest again)
  after_instead front rest again e i =
      ((apart_instead kind.digits i e.0.0, begins_instead kind.digits 38 (kind.digits.digit_on 38 on-and) i e.0.1), begins_instead kind.digits 124 (kind.digits.digit_on 124 on-or) i e.1)

  module _ {A : Type 0} (both either : A → A → A) where
    module _ (F : List ℕ → A → Type 0) (R : Reader A) (unblank : Never is_blank F)
        (reads : (text : List ℕ) (x : A) (rest : List ℕ) → F text x → Apart kind.digits text rest → R (text ++ rest) ≡ Ok (x, rest))
        (read : (text : List ℕ) (x : A) (rest : List ℕ) → R text ≡ Ok (x, rest) → Read F (Apart kind.digits) text x rest) where
      pub led_rules : Rules (Led F) (Apart kind.digits) (led_at R)
      led_rules = record {
        reads = λ text x rest. led_reads kind.digits F R unblank reads text x rest;
        read = λ text x rest. led_read kind.digits F R read text x rest;
        some = some;
      }
        where
          some : (text : List ℕ) (x : A) → Led F text x → text ≢ []
          some text x (led blanks {text = part} are is) = some_append blanks part (never_empty is_blank F unblank part x is)

      pub term_rules : Rules (Term both F) AfterTerm (term_at both (miss kind) R)
      term_rules = joined_rules kind 38 refl (kind.digits.digit_on 38 on-and) (Led F) (Apart kind.digits) (led_at R) led_rules follow_factor and_follows both

      pub terms_rules : Rules (Terms both either F) AfterTerms (terms_at both either (miss kind) R)
      terms_rules = joined_rules kind 124 refl (kind.digits.digit_on 124 on-or) (Term both F) AfterTerm (term_at both (miss kind) R) term_rules follow_term or_follows either

    -- ---- more factors

    module _ (F F' : List ℕ → A → Type 0) (wider : (text : List ℕ) (x : A) → F text x → F' text x) where
      wider_led : (text : List ℕ) (x : A) → Led F text x → Led F' text x
      wider_led text x (led blanks {text = part} are is) = led blanks are (wider part x is)

      wider_term : (text : List ℕ) (x : A) → Term both F text x → Term both F' text x
      wider_term text x c = map_chain both (Led F) (Led F') (Behind (codes "&&") (Led F)) (Behind (codes "&&") (Led F')) wider_led (wider_behind (codes "&&") (Led F) (Led F') wider_led) c

      pub wider_terms : (text : List ℕ) (x : A) → Terms both either F text x → Terms both either F' text x
      wider_terms text x c = map_chain either (Term both F) (Term both F') (Behind (codes "||") (Term both F)) (Behind (codes "||") (Term both F')) wider_term (wider_behind (codes "||") (Term both F) (Term both F') wider_term) c

      -- ---- faults

      module _ (R R' : Reader A) (unblank : Never is_blank F) (unblank' : Never is_blank F')
          (reads : (text : List ℕ) (x : A) (rest : List ℕ) → F text x → Apart kind.digits text rest → R (text ++ rest) ≡ Ok (x, rest))
          (read : (text : List ℕ) (x : A) (rest : List ℕ) → R text ≡ Ok (x, rest) → Read F (Apart kind.digits) text x rest)
          (reads' : (text : List ℕ) (x : A) (rest : List ℕ) → F' text x → Apart kind.digits text rest → R' (text ++ rest) ≡ Ok (x, rest))
          (read' : (text : List ℕ) (x : A) (rest : List ℕ) → R' text ≡ Ok (x, rest) → Read F' (Apart kind.digits) text x rest)
          (witness : List ℕ) (shown : A) (witnessed : F witness shown)
          (fault : (text : List ℕ) (cause : Cause) → R text ≡ Err cause → Fault kind F F' R R' text cause) where
        term_fault : (text : List ℕ) (cause : Cause) → term_at both (miss kind) R text ≡ Err cause → Fault kind (Term both F) (Term both F') (term_at both (miss kind) R) (term_at both (miss kind) R') text cause
        term_fault = joined_fault kind 38 refl (kind.digits.digit_on 38 on-and) both (Led F) (Led F') (Apart kind.digits) (led_at R) (led_at R')
            (led_rules F R unblank reads read) (led_rules F' R' unblank' reads' read') follow_factor and_follows wider_led witness shown (led [] refl witnessed) (led_fault kind F F' R R' fault)

        pub terms_fault : (text : List ℕ) (cause : Cause) → terms_at both either (miss kind) R text ≡ Err cause → Fault kind (Terms both either F) (Terms both either F') (terms_at both either (miss kind) R) (terms_at both either (miss kind) R') text cause
        terms_fault = joined_fault kind 124 refl (kind.digits.digit_on 124 on-or) either (Term both F) (Term both F') AfterTerm (term_at both (miss kind) R) (term_at both (miss kind) R')
            (term_rules F R unblank reads read) (term_rules F' R' unblank' reads' read') follow_term or_follows wider_term witness shown (one (led [] refl witnessed)) term_fault
