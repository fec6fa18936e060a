-- The entries of a text, their values, and the first fault among them.
use Rattle.std.specs.Prelude.{◌≡◌, ℕ, ◌+◌, ◌-◌, Bool, true, not, ◌&&◌, ◌==◌, if◌then◌else◌, List, [], ◌∷◌, ◌++◌}
use Rattle.std.specs.List.{list_all}
use Rattle.plan_types.specs.Bytes.{is_blank}
use Rattle.plan_types.specs.declared.refusal.Cause.{Cause}

-- the number of open braces after a byte; a closing one without an open one doesn't count
abbrev pub depth_behind : ℕ → ℕ → ℕ
depth_behind depth b = if b == 123 then depth + 1 else if b == 125 then depth - 1 else depth

-- the number of open braces after a text
abbrev pub left_open : ℕ → List ℕ → ℕ
left_open depth [] = depth
left_open depth (b ∷ bs) = left_open (depth_behind depth b) bs

-- whether each comma is inside braces
abbrev pub commas_inside : ℕ → List ℕ → Bool
commas_inside depth [] = true
commas_inside depth (b ∷ bs) = not (b == 44 && depth == 0) && commas_inside (depth_behind depth b) bs

-- The text is these pieces, joined by commas. All commas of a piece are inside braces. Only the last piece may leave
-- a brace open.
pub data Pieces : List ℕ → List (List ℕ) → Type 0 where
  last : {piece : List ℕ} → commas_inside 0 piece ≡ true → Pieces piece (piece ∷ [])
  joined : {piece text : List ℕ} {pieces : List (List ℕ)} → commas_inside 0 piece ≡ true → left_open 0 piece ≡ 0 → Pieces text pieces → Pieces (piece ++ 44 ∷ text) (piece ∷ pieces)

-- whether a text is blanks only
abbrev pub are_blanks : List ℕ → Bool
are_blanks text = list_all is_blank text

-- One leading comma is allowed: if there are several pieces, a blank first one is dropped.
abbrev pub without_first : List (List ℕ) → List (List ℕ)
without_first [] = []
without_first (piece ∷ []) = piece ∷ []
without_first (piece ∷ next ∷ pieces) = if are_blanks piece then next ∷ pieces else piece ∷ next ∷ pieces

-- One trailing comma is allowed: if there are several pieces, a blank last one is dropped.
abbrev pub without_last : List (List ℕ) → List (List ℕ)
without_last [] = []
without_last (piece ∷ []) = piece ∷ []
without_last (piece ∷ next ∷ []) = if are_blanks next then piece ∷ [] else piece ∷ next ∷ []
without_last (piece ∷ next ∷ more ∷ pieces) = piece ∷ without_last (next ∷ more ∷ pieces)

-- a single blank piece is no entry
abbrev pub without_lone : List (List ℕ) → List (List ℕ)
without_lone [] = []
without_lone (piece ∷ []) = if are_blanks piece then [] else piece ∷ []
without_lone (piece ∷ next ∷ pieces) = piece ∷ next ∷ pieces

-- the pieces that are entries
abbrev pub entries : List (List ℕ) → List (List ℕ)
entries pieces = without_lone (without_last (without_first pieces))

-- the parts denote these values, in order
pub data Each {A : Type 0} (Part : List ℕ → A → Type 0) : List (List ℕ) → List A → Type 0 where
  none : Each Part [] []
  more : {part : List ℕ} {x : A} {parts : List (List ℕ)} {xs : List A} → Part part x → Each Part parts xs → Each Part (part ∷ parts) (x ∷ xs)

-- the first part without a value has this fault
pub data First {A : Type 0} (Part : List ℕ → A → Type 0) (Fault : List ℕ → Cause → Type 0) : List (List ℕ) → Cause → Type 0 where
  here : {part : List ℕ} {cause : Cause} {parts : List (List ℕ)} → Fault part cause → First Part Fault (part ∷ parts) cause
  later : {part : List ℕ} {x : A} {cause : Cause} {parts : List (List ℕ)} → Part part x → First Part Fault parts cause → First Part Fault (part ∷ parts) cause

-- the values of all entries of a text
pub record HasEntries {A : Type 0} (Entry : List ℕ → A → Type 0) (text : List ℕ) (found : List A) : Type 0 where
  pub pieces : List (List ℕ)
  pub cut : Pieces text pieces
  pub each : Each Entry (entries pieces) found

-- the fault of a text: that of its first bad entry
pub record HasFirstFault {A : Type 0} (Entry : List ℕ → A → Type 0) (Fault : List ℕ → Cause → Type 0) (text : List ℕ) (cause : Cause) : Type 0 where
  pub pieces : List (List ℕ)
  pub cut : Pieces text pieces
  pub first : First Entry Fault (entries pieces) cause
