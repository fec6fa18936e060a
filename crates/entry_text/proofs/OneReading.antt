-- Shared: a text has at most one reading, at most one first fault, and never both, if this is so for each entry.
use Rattle.std.proofs.Common.{◌≡◌, ℕ, true, false, not, ◌&&◌, List, [], ◌∷◌, ◌++◌, Result, Ok, Err, refl, sym, ap, ◌∙◌, subst}
use Rattle.std.specs.Prelude.{◌==◌, IfOk, IfErr, MatchResult}
use Rattle.std.proofs.lemmas.Bool.{and_parts, true≢false}
use Rattle.plan_types.specs.declared.refusal.Cause.{Cause}
use Rattle.plan_types.specs.declared.refusal.TextFault.{TextFault}
use Rattle.plan_types.specs.declared.refusal.TextFault.TheVariants.{NoMemory, Bad}
use Rattle.plan_types.specs.Refusal.{Refuses}
use Rattle.entry_text.specs.Entries.{depth_behind, left_open, commas_inside, Pieces, last, joined, entries, Each, none, more, First, here, later, HasEntries, HasFirstFault}
use Rattle.common_laws.specs.Small.{tail_same, head_same}

-- ---- the pieces of a text are unique

comma_splits : (depth : ℕ) (rest : List ℕ) → depth ≡ 0 → commas_inside depth (44 ∷ rest) ≡ true → ⊥
comma_splits depth rest e h =
    let outside : commas_inside depth (44 ∷ rest) ≡ false = ap (λ d. not (44 == 44 && d == 0) && commas_inside (depth_behind d 44) rest) e in
    true≢false (sym h ∙ outside)

first_piece : (depth : ℕ) (a b s t : List ℕ) → commas_inside depth a ≡ true → left_open depth a ≡ 0 → commas_inside depth b ≡ true → left_open depth b ≡ 0
    → a ++ 44 ∷ s ≡ b ++ 44 ∷ t → (a ≡ b) × (s ≡ t)
first_piece depth [] [] s t h k i j e = (refl, tail_same e)
first_piece depth [] (y ∷ b) s t h k i j e = absurd (comma_splits depth b k (subst (λ c. commas_inside depth (c ∷ b) ≡ true) (sym (head_same e)) i))
first_piece depth (x ∷ a) [] s t h k i j e = absurd (comma_splits depth a j (subst (λ c. commas_inside depth (c ∷ a) ≡ true) (head_same e) h))
first_piece depth (x ∷ a) (y ∷ b) s t h k i j e =
    let same = head_same e in
    let there = subst (λ c. commas_inside (depth_behind depth c) b ≡ true) (sym same) (and_parts (not (y == 44 && depth == 0)) (commas_inside (depth_behind depth y) b) i).1 in
    let closed = subst (λ c. left_open (depth_behind depth c) b ≡ 0) (sym same) j in
    let p = first_piece (depth_behind depth x) a b s t (and_parts (not (x == 44 && depth == 0)) (commas_inside (depth_behind depth x) a) h).1 k there closed (tail_same e) in
    ((λ i. same i ∷ p.0 i), p.1)

no_comma : (depth : ℕ) (a s : List ℕ) → left_open depth a ≡ 0 → commas_inside depth (a ++ 44 ∷ s) ≡ true → ⊥
no_comma depth [] s k h = comma_splits depth s k h
no_comma depth (x ∷ a) s k h = no_comma (depth_behind depth x) a s k (and_parts (not (x == 44 && depth == 0)) (commas_inside (depth_behind depth x) (a ++ 44 ∷ s)) h).1

same_pieces : (s t : List ℕ) (ps qs : List (List ℕ)) → s ≡ t → Pieces s ps → Pieces t qs → ps ≡ qs
same_pieces s t ps qs e (last h) (last k) = ap (λ piece. piece ∷ []) e
same_pieces s t ps qs e (last h) (joined {piece = b} {text = rest} i j q) = absurd (no_comma 0 b rest j (subst (λ u. commas_inside 0 u ≡ true) e h))
same_pieces s t ps qs e (joined {piece = a} {text = rest} h k p) (last i) = absurd (no_comma 0 a rest k (subst (λ u. commas_inside 0 u ≡ true) (sym e) i))
same_pieces s t ps qs e (joined {piece = a} {text = s'} {pieces = ps'} h k p) (joined {piece = b} {text = t'} {pieces = qs'} i j q) =
    let same = first_piece 0 a b s' t' h k i j e in
    let rest = same_pieces s' t' ps' qs' same.1 p q in
    λ i. same.0 i ∷ rest i

pub one_cut : (text : List ℕ) (ps qs : List (List ℕ)) → Pieces text ps → Pieces text qs → ps ≡ qs
one_cut text ps qs p q = same_pieces text text ps qs refl p q

-- ---- entries with at most one reading or fault each

pub record Settled {A : Type 0} (Part : List ℕ → A → Type 0) (Fault : List ℕ → Cause → Type 0) : Type 0 where
  pub one : (part : List ℕ) (x y : A) → Part part x → Part part y → x ≡ y
  pub one_fault : (part : List ℕ) (c d : Cause) → Fault part c → Fault part d → c ≡ d
  pub not_both : (part : List ℕ) (x : A) (c : Cause) → Part part x → Fault part c → ⊥

pub one_each : {A : Type 0} (Part : List ℕ → A → Type 0) → ((part : List ℕ) (x y : A) → Part part x → Part part y → x ≡ y)
    → (parts : List (List ℕ)) (xs ys : List A) → Each Part parts xs → Each Part parts ys → xs ≡ ys
one_each Part one parts xs ys none none = refl
one_each Part one parts xs ys (more {part = part} {x = x} {parts = rest} {xs = as'} p e) (more {x = y} {xs = bs} q f) =
    let same = one part x y p q in
    let others = one_each Part one rest as' bs e f in
    λ i. same i ∷ others i

first_of : {A : Type 0} (Part : List ℕ → A → Type 0) (Fault : List ℕ → Cause → Type 0) → Settled Part Fault
    → (parts : List (List ℕ)) (c d : Cause) → First Part Fault parts c → First Part Fault parts d → c ≡ d
first_of Part Fault row parts c d (here {part = part} f) (here g) = row.one_fault part c d f g
first_of Part Fault row parts c d (here {part = part} f) (later {x = x} p g) = absurd (row.not_both part x c p f)
first_of Part Fault row parts c d (later {part = part} {x = x} p f) (here g) = absurd (row.not_both part x d p g)
first_of Part Fault row parts c d (later {parts = rest} p f) (later q g) = first_of Part Fault row rest c d f g

pub each_or_first : {A : Type 0} (Part : List ℕ → A → Type 0) (Fault : List ℕ → Cause → Type 0)
    → ((part : List ℕ) (x : A) (c : Cause) → Part part x → Fault part c → ⊥)
    → (parts : List (List ℕ)) (xs : List A) (c : Cause) → Each Part parts xs → First Part Fault parts c → ⊥
each_or_first Part Fault apart parts xs c none f = elim f [ ]
each_or_first Part Fault apart parts xs c (more {part = part} {x = x} p e) (here f) = apart part x c p f
each_or_first Part Fault apart parts xs c (more {parts = rest} {xs = as'} p e) (later q f) = each_or_first Part Fault apart rest as' c e f

pub one_reading : {A : Type 0} (Part : List ℕ → A → Type 0) → ((part : List ℕ) (x y : A) → Part part x → Part part y → x ≡ y)
    → (text : List ℕ) (xs ys : List A) → HasEntries Part text xs → HasEntries Part text ys → xs ≡ ys
one_reading Part one text xs ys r s =
    one_each Part one (entries s.pieces) xs ys (subst (λ ps. Each Part (entries ps) xs) (one_cut text r.pieces s.pieces r.cut s.cut) r.each) s.each

pub one_first : {A : Type 0} (Part : List ℕ → A → Type 0) (Fault : List ℕ → Cause → Type 0) → Settled Part Fault
    → (text : List ℕ) (c d : Cause) → HasFirstFault Part Fault text c → HasFirstFault Part Fault text d → c ≡ d
one_first Part Fault row text c d r s =
    first_of Part Fault row (entries s.pieces) c d (subst (λ ps. First Part Fault (entries ps) c) (one_cut text r.pieces s.pieces r.cut s.cut) r.first) s.first

pub reading_or_fault : {A : Type 0} (Part : List ℕ → A → Type 0) (Fault : List ℕ → Cause → Type 0)
    → ((part : List ℕ) (x : A) (c : Cause) → Part part x → Fault part c → ⊥)
    → (text : List ℕ) (xs : List A) (c : Cause) → HasEntries Part text xs → HasFirstFault Part Fault text c → ⊥
reading_or_fault Part Fault apart text xs c r s =
    each_or_first Part Fault apart (entries s.pieces) xs c (subst (λ ps. Each Part (entries ps) xs) (one_cut text r.pieces s.pieces r.cut s.cut) r.each) s.first

-- ---- a sound call is complete

pub only_reading : {A : Type 0} (Reads : A → Type 0) (Fails : Cause → Type 0) → ((x y : A) → Reads x → Reads y → x ≡ y) → ((x : A) (c : Cause) → Reads x → Fails c → ⊥)
    → (result : Result A TextFault) → IfOk result Reads → IfErr result (Refuses Fails)
    → (x : A) → Reads x → MatchResult result (λ found. found ≡ x) (Refuses (λ _. ⊥))
only_reading Reads Fails one apart (Ok found) h k x r = one found x h r
only_reading Reads Fails one apart (Err NoMemory) h k x r = tt
only_reading Reads Fails one apart (Err (Bad c)) h k x r = apart x c r k

pub only_fault : {A : Type 0} (Reads : A → Type 0) (Fails : Cause → Type 0) → ((c d : Cause) → Fails c → Fails d → c ≡ d) → ((x : A) (c : Cause) → Reads x → Fails c → ⊥)
    → (result : Result A TextFault) → IfOk result Reads → IfErr result (Refuses Fails)
    → (c : Cause) → Fails c → MatchResult result (λ _. ⊥) (Refuses (λ why. why ≡ c))
only_fault Reads Fails one apart (Ok found) h k c r = apart found c h r
only_fault Reads Fails one apart (Err NoMemory) h k c r = tt
only_fault Reads Fails one apart (Err (Bad d)) h k c r = one d c k r

pub only_entries : {A : Type 0} {Part : List ℕ → A → Type 0} {Fault : List ℕ → Cause → Type 0} → Settled Part Fault → (text : List ℕ)
    → (result : Result (List A) TextFault) → IfOk result (HasEntries Part text) → IfErr result (Refuses (HasFirstFault Part Fault text))
    → (xs : List A) → HasEntries Part text xs → MatchResult result (λ found. found ≡ xs) (Refuses (λ _. ⊥))
only_entries {Part = Part} {Fault = Fault} row text =
    only_reading (HasEntries Part text) (HasFirstFault Part Fault text) (one_reading Part row.one text) (reading_or_fault Part Fault row.not_both text)

pub only_first : {A : Type 0} {Part : List ℕ → A → Type 0} {Fault : List ℕ → Cause → Type 0} → Settled Part Fault → (text : List ℕ)
    → (result : Result (List A) TextFault) → IfOk result (HasEntries Part text) → IfErr result (Refuses (HasFirstFault Part Fault text))
    → (c : Cause) → HasFirstFault Part Fault text c → MatchResult result (λ _. ⊥) (Refuses (λ why. why ≡ c))
only_first {Part = Part} {Fault = Fault} row text =
    only_fault (HasEntries Part text) (HasFirstFault Part Fault text) (one_first Part Fault row text) (reading_or_fault Part Fault row.not_both text)
