-- Lines have events, or a first bad line.
use Rattle.std.proofs.Common.{◌≡◌, ◌⊎◌, inl, inr, ◌+◌, ℕ, zero, suc, Bool, true, false, List, [], ◌∷◌, ◌++◌, Option, Some, None, Result, Ok, Err, drop, get_or, refl, sym, ap, ◌∙◌, subst, arith}
use Rattle.std.specs.Prelude.{◌^◌, codes, nat_lt}
use Rattle.std.specs.Fmt.{decimal}
use Rattle.std.specs.Str.Lines.{lines}
use Rattle.std.proofs.lemmas.Bool.{ltb-false}
use Rattle.plan_types.specs.Refusal.{refusal_at}
use Rattle.plan_types.specs.declared.refusal.Cause.TheVariants as cause
use Rattle.plan_types.specs.declared.refusal.Refusal.{Refusal}
use Rattle.plan_types.specs.declared.version.Version.{Version}
use Rattle.outside_folder.specs.Calls.{content_at}
use Rattle.outside_folder.specs.Files.{Bytes, Files}
use Rattle.outside_folder.specs.declared.calls.Content.{Content}
use Rattle.outside_folder.specs.declared.calls.Content.TheVariants.{Missing, TooLarge, Bytes as Holds}
use Rattle.version_range.specs.Version.{IsNumber, IsVersionOf, is_version, version_text}
use Rattle.version_range.proofs.VersionNumbers.{one_version, version_from}
use Rattle.every_reading.proofs.DecidedReadings.{front_decided, same_or_other}
use Rattle.every_reading.proofs.LoopReadings.{version_or_none}
use Rattle.replay_text.specs.Reading.{AreEvents, AreRead, IsGood, IsLineOf, NoEvent, empty, here, later, none, one}
use Rattle.replay_text.specs.declared.event.JobEvent.{JobEvent}
use Rattle.replay_text.specs.declared.event.JobEvent.TheVariants.{Start, Completed, Failed}
use Rattle.event_file.specs.Events.{AreEventsAt, AreEventsIn, events_or_refusal}
use Rattle.common_laws.specs.Decidability.{Dec}

-- ---- the number of a node

abbrev Numbered : List ℕ → Type 0
Numbered text = (place : ℕ) × IsNumber (place + 1) × (text ≡ decimal (place + 1))

short : (n : ℕ) → IsNumber n → is_version (n ∷ []) ≡ true
short n h = by (nat_lt n (10 ^ 9)) refl
  where
    by : (t : Bool) → nat_lt n (10 ^ 9) ≡ t → nat_lt n (10 ^ 9) ≡ true
    by true q = q
    by false q = absurd (let other = ltb-false n (10 ^ 9) q in omega (arith, h, other))

one_number : (text parts : List ℕ) → is_version parts ≡ true → text ≡ version_text parts → (found : Numbered text) → parts ≡ (found.0 + 1) ∷ []
one_number text parts h e found =
    one_version parts ((found.0 + 1) ∷ []) (version_from parts h) found.1 (sym e ∙ found.2)

number_by : (text parts : List ℕ) → is_version parts ≡ true → text ≡ version_text parts → Dec (Numbered text)
number_by text [] h e = inr (λ found. absurd (cc (one_number text [] h e found)))
number_by text (zero ∷ []) h e =
    inr (λ found. let n : 0 ≡ found.0 + 1 = ap (λ l. get_or l 0 0) (one_number text (zero ∷ []) h e found) in omega (arith, n))
number_by text (suc n ∷ []) h e =
    let next : suc n ≡ n + 1 = omega arith in
    inl (n, subst IsNumber next (version_from (suc n ∷ []) h), e ∙ ap decimal next)
number_by text (n ∷ m ∷ parts) h e = inr (λ found. absurd (cc (ap (drop 1) (one_number text (n ∷ m ∷ parts) h e found))))

numbered : (text : List ℕ) → Dec (Numbered text)
numbered text = by (version_or_none text)
  where
    by : ((found : Option Version) × IsVersionOf text found) → Dec (Numbered text)
    by (Some version, h) = number_by text version.parts h.0 h.1
    by (None, h) = inr (λ found. h ((found.0 + 1) ∷ []) (short (found.0 + 1) found.1) found.2)

-- ---- a line

abbrev Behind : List ℕ → List ℕ → Type 0
Behind word line = (rest : List ℕ) × (line ≡ word ++ rest) × Numbered rest

cancel : (word xs ys : List ℕ) → word ++ xs ≡ word ++ ys → xs ≡ ys
cancel [] xs ys e = e
cancel (w ∷ word) xs ys e = cancel word xs ys (ap (drop 1) e)

behind : (word line : List ℕ) → Dec (Behind word line)
behind word line = by (front_decided word line)
  where
    by_rest : (rest : List ℕ) → line ≡ word ++ rest → Dec (Numbered rest) → Dec (Behind word line)
    by_rest rest e (inl found) = inl (rest, e, found)
    by_rest rest e (inr denied) = inr (λ h. denied (subst Numbered (cancel word h.0 rest (sym h.1 ∙ e)) h.2))

    by : ((rest : List ℕ) × (line ≡ word ++ rest)) ⊎ ((rest : List ℕ) → line ≡ word ++ rest → ⊥) → Dec (Behind word line)
    by (inl found) = by_rest found.0 found.1 (numbered found.0)
    by (inr denied) = inr (λ h. denied h.0 h.1)

abbrev Tells : List ℕ → Type 0
Tells line = ((event : JobEvent) × IsLineOf event line) ⊎ NoEvent line

module _ (line : List ℕ) where
  none_of : (line ≡ codes "start" → ⊥) → (Behind (codes "completed ") line → ⊥) → (Behind (codes "failed ") line → ⊥) → NoEvent line
  none_of a b c Start h = a h.text
  none_of a b c (Completed place) h = b (decimal (place + 1), h.text, (place, h.short, refl))
  none_of a b c (Failed place) h = c (decimal (place + 1), h.text, (place, h.short, refl))

  tells_by : Dec (line ≡ codes "start") → Dec (Behind (codes "completed ") line) → Dec (Behind (codes "failed ") line) → Tells line
  tells_by (inl e) b c = inl (Start, record { text = e; short = tt })
  tells_by (inr a) (inl h) c = inl (Completed h.2.0, record { text = h.1 ∙ ap (λ rest. codes "completed " ++ rest) h.2.2; short = h.2.1 })
  tells_by (inr a) (inr b) (inl h) = inl (Failed h.2.0, record { text = h.1 ∙ ap (λ rest. codes "failed " ++ rest) h.2.2; short = h.2.1 })
  tells_by (inr a) (inr b) (inr c) = inr (none_of a b c)

  tells : Tells line
  tells = tells_by (same_or_other line (codes "start")) (behind (codes "completed ") line) (behind (codes "failed ") line)

-- ---- all lines

abbrev HasReading : List (List ℕ) → Type 0
HasReading all = (read : Result (List JobEvent) ℕ) × AreRead all read

behind_empty : (line : List ℕ) (all : List (List ℕ)) → line ≡ [] → HasReading all → HasReading (line ∷ all)
behind_empty line all e (Ok events, h) = (Ok events, subst (λ l. AreEvents (l ∷ all) events) (sym e) (empty h))
behind_empty line all e (Err number, h) = (Err (suc number), later line (inl e) h)

behind_event : (line : List ℕ) (all : List (List ℕ)) (event : JobEvent) → IsLineOf event line → HasReading all → HasReading (line ∷ all)
behind_event line all event is (Ok events, h) = (Ok (event ∷ events), one line event is h)
behind_event line all event is (Err number, h) = (Err (suc number), later line (inr (event, is)) h)

bad_line : (line : List ℕ) → (line ≡ [] → ⊥) → NoEvent line → IsGood line → ⊥
bad_line line other denied (inl e) = other e
bad_line line other denied (inr found) = denied found.0 found.1

read_by : (line : List ℕ) (all : List (List ℕ)) → Dec (line ≡ []) → Tells line → HasReading all → HasReading (line ∷ all)
read_by line all (inl e) told more = behind_empty line all e more
read_by line all (inr other) (inl found) more = behind_event line all found.0 found.1 more
read_by line all (inr other) (inr denied) more = (Err (suc zero), here line (bad_line line other denied))

pub some_reading : (all : List (List ℕ)) → HasReading all
some_reading [] = (Ok [], none)
some_reading (line ∷ all) = read_by line all (same_or_other line []) (tells line) (some_reading all)

events_in : (path : Bytes) (content : Content) → (told : Result (List JobEvent) Refusal) × AreEventsIn path content told
events_in path Missing = (Ok [], refl)
events_in path TooLarge = (Err (refusal_at path 0 cause.TooLarge), refl)
events_in path (Holds bytes) = let read = some_reading (lines bytes) in (events_or_refusal path read.0, (read.0, read.1, refl))

pub some_event_list : (path : Bytes) (files : Files) → (told : Result (List JobEvent) Refusal) × AreEventsAt path files told
some_event_list path files = events_in path (content_at files path)
