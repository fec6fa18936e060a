-- Each text has pieces. A text has a value or a fault if each of its parts does.
use Rattle.std.proofs.Common.{◌≡◌, inl, inr, ℕ, Bool, true, false, not, ◌&&◌, List, [], ◌∷◌, ◌++◌, refl, sym, ap, ◌∙◌, subst, append_assoc, append-nil}
use Rattle.std.specs.Prelude.{◌==◌}
use Rattle.std.proofs.lemmas.Bool.{and_parts, eqb-true}
use Rattle.plan_types.specs.declared.refusal.Cause.{Cause}
use Rattle.entry_text.specs.Entries.{left_open, commas_inside, Pieces, last, joined, entries, Each, none, more, First, here, later, HasEntries, HasFirstFault}
use Rattle.entry_text.proofs.CommaCuts.{inside_push}
use Rattle.every_reading.specs.Answered.{Answered}
use Rattle.every_reading.proofs.DecidedReadings.{Decided}

abbrev HasPieces : List ℕ → Type 0
HasPieces text = (pieces : List (List ℕ)) × Pieces text pieces

-- a comma outside braces ends a piece, and any other byte continues it
piece_by : (piece rest : List ℕ) (b : ℕ) → commas_inside 0 piece ≡ true → (t : Bool) → (b == 44 && left_open 0 piece == 0) ≡ t
    → HasPieces rest → (commas_inside 0 (piece ++ b ∷ []) ≡ true → HasPieces ((piece ++ b ∷ []) ++ rest)) → HasPieces (piece ++ b ∷ rest)
piece_by piece rest b h true q others longer =
    let splits = and_parts (b == 44) (left_open 0 piece == 0) q in (
      piece ∷ others.0,
      subst (λ c. Pieces (piece ++ c ∷ rest) (piece ∷ others.0)) (sym (eqb-true b 44 splits.0)) (joined h (eqb-true (left_open 0 piece) 0 splits.1) others.1),
    )
piece_by piece rest b h false q others longer =
    subst HasPieces (append_assoc piece (b ∷ []) rest)
    (longer (inside_push 0 piece b ∙ ap (λ t. t && not (b == 44 && left_open 0 piece == 0)) h ∙ ap not q))

-- the pieces, from a piece that has begun
pieces_from : (piece rest : List ℕ) → commas_inside 0 piece ≡ true → HasPieces (piece ++ rest)
pieces_from piece [] h = (piece ∷ [], subst (λ t. Pieces t (piece ∷ [])) (sym (append-nil piece)) (last h))
pieces_from piece (b ∷ rest) h =
    piece_by piece rest b h (b == 44 && left_open 0 piece == 0) refl (pieces_from [] rest refl) (λ longer. pieces_from (piece ++ b ∷ []) rest longer)

pub some_pieces : (text : List ℕ) → HasPieces text
some_pieces text = pieces_from [] text refl

module _ {A : Type 0} (Part : List ℕ → A → Type 0) where
  pub some_each : (Fault : List ℕ → Cause → Type 0) → ((part : List ℕ) → Answered (Part part) (Fault part))
      → (parts : List (List ℕ)) → Answered (Each Part parts) (First Part Fault parts)
  some_each Fault row [] = inl ([], none)
  some_each Fault row (part ∷ parts) = by (row part) (some_each Fault row parts)
    where
      by : Answered (Part part) (Fault part) → Answered (Each Part parts) (First Part Fault parts) → Answered (Each Part (part ∷ parts)) (First Part Fault (part ∷ parts))
      by (inr fault) others = inr (fault.0, here fault.1)
      by (inl found) (inl others) = inl (found.0 ∷ others.0, more found.1 others.1)
      by (inl found) (inr fault) = inr (fault.0, later found.1 fault.1)

  pub some_reading : (Fault : List ℕ → Cause → Type 0) → ((part : List ℕ) → Answered (Part part) (Fault part))
      → (text : List ℕ) → Answered (HasEntries Part text) (HasFirstFault Part Fault text)
  some_reading Fault row text =
      let pieces = some_pieces text in
      elim (some_each Fault row (entries pieces.0)) [
        | inl found ↦ inl (found.0, record { pieces = pieces.0; cut = pieces.1; each = found.1 })
        | inr fault ↦ inr (fault.0, record { pieces = pieces.0; cut = pieces.1; first = fault.1 })
      ]

  first_part : (part : List ℕ) (parts : List (List ℕ)) (xs : List A) → Each Part (part ∷ parts) xs → (x : A) × Part part x
  first_part part parts xs (more {x = x} is each) = (x, is)

  other_parts : (part : List ℕ) (parts : List (List ℕ)) (xs : List A) → Each Part (part ∷ parts) xs → (ys : List A) × Each Part parts ys
  other_parts part parts xs (more {xs = ys} is each) = (ys, each)

  pub each_decided : ((part : List ℕ) → Decided (Part part)) → (parts : List (List ℕ)) → Decided (Each Part parts)
  each_decided row [] = inl ([], none)
  each_decided row (part ∷ parts) = by (row part) (each_decided row parts)
    where
      by : Decided (Part part) → Decided (Each Part parts) → Decided (Each Part (part ∷ parts))
      by (inl found) (inl others) = inl (found.0 ∷ others.0, more found.1 others.1)
      by (inl found) (inr never) = inr (λ xs each. let rest = other_parts part parts xs each in never rest.0 rest.1)
      by (inr never) others = inr (λ xs each. let found = first_part part parts xs each in never found.0 found.1)
