-- The reading of a file and the text of a replay are unique.
use Rattle.std.proofs.Common.{◌≡◌, ◌+◌, ℕ, zero, suc, inl, inr, List, [], ◌∷◌, ◌++◌, Result, Ok, Err, drop, map, length, get_or, refl, sym, ap, ap₂, subst, ◌∙◌, arith, append_assoc}
use Rattle.std.specs.Fmt.{decimal}
use Rattle.std.proofs.lemmas.Fmt.{decimal_injective}
use Rattle.plan_nodes.specs.declared.node.PlanNode.{PlanNode}
use Rattle.plan_jobs.specs.Events.{Event, IsHistory, IsRight, completes, fails, starts}
use Rattle.plan_jobs.specs.declared.job.JobFault.{JobFault}
use Rattle.plan_jobs.proofs.Histories.{one_end, one_start}
use Rattle.version_range.specs.Version.{IsNumber}
use Rattle.replay_text.specs.declared.event.JobEvent.{JobEvent}
use Rattle.replay_text.specs.declared.event.JobEvent.TheVariants.{Start, Completed, Failed}
use Rattle.replay_text.specs.declared.standing.EndState.TheVariants as standing
use Rattle.replay_text.specs.Reading.{AreEvents, AreRead, IsFirstBad, IsGood, IsLineOf, IsShort, event_text, none as no_lines, empty, one, here, later}
use Rattle.replay_text.specs.Replay.{IsCount, IsCounted, IsReplay, HasEndState, asked, counts_line, history_text, none, yes, no}
use Rattle.replay_text.proofs.Goes.{append-nil}

-- ---- the event of a line is unique

-- equal texts of numbers from 1 have equal places
one_place : (p q : ℕ) → IsNumber (p + 1) → IsNumber (q + 1) → decimal (p + 1) ≡ decimal (q + 1) → p ≡ q
one_place p q i j e = let same = decimal_injective (p + 1) (q + 1) (omega (arith, i)) (omega (arith, j)) e in omega (arith, same)

-- texts with different first bytes are different
apart : (x y : ℕ) (xs ys : List ℕ) → (x ≡ y → ⊥) → x ∷ xs ≡ y ∷ ys → ⊥
apart x y xs ys other e = other (ap (λ l. get_or l 0 0) e)

same_event : (a b : JobEvent) → IsShort a → IsShort b → event_text a ≡ event_text b → a ≡ b
same_event Start Start i j e = refl
same_event Start (Completed q) i j e = absurd (apart _ _ _ _ (λ n. omega (arith, n)) e)
same_event Start (Failed q) i j e = absurd (apart _ _ _ _ (λ n. omega (arith, n)) e)
same_event (Completed p) Start i j e = absurd (apart _ _ _ _ (λ n. omega (arith, n)) e)
same_event (Completed p) (Completed q) i j e = ap Completed (one_place p q i j (ap (drop 10) e))
same_event (Completed p) (Failed q) i j e = absurd (apart _ _ _ _ (λ n. omega (arith, n)) e)
same_event (Failed p) Start i j e = absurd (apart _ _ _ _ (λ n. omega (arith, n)) e)
same_event (Failed p) (Completed q) i j e = absurd (apart _ _ _ _ (λ n. omega (arith, n)) e)
same_event (Failed p) (Failed q) i j e = ap Failed (one_place p q i j (ap (drop 7) e))

one_event : (line : List ℕ) (a b : JobEvent) → IsLineOf a line → IsLineOf b line → a ≡ b
one_event line a b h k = same_event a b h.short k.short (sym h.text ∙ k.text)

no_event : (a : JobEvent) → IsLineOf a [] → ⊥
no_event Start h = cc h.text
no_event (Completed p) h = cc h.text
no_event (Failed p) h = cc h.text

-- ---- the reading of lines is unique

one_list : (lines : List (List ℕ)) (xs ys : List JobEvent) → AreEvents lines xs → AreEvents lines ys → xs ≡ ys
one_list lines xs ys no_lines no_lines = refl
one_list lines xs ys (empty {lines = rest} h) (empty k) = one_list rest xs ys h k
one_list lines xs ys (empty h) (one line event is k) = absurd (no_event event is)
one_list lines xs ys (one line event is h) (empty k) = absurd (no_event event is)
one_list lines xs ys (one {lines = rest} {events = as'} line x is h) (one {events = bs} line' y also k) =
    let same = one_event line x y is also in
    let others = one_list rest as' bs h k in
    λ i. same i ∷ others i

one_bad : (lines : List (List ℕ)) (m n : ℕ) → IsFirstBad lines m → IsFirstBad lines n → m ≡ n
one_bad lines m n (here line bad) (here line' also) = refl
one_bad lines m n (here line bad) (later line' good k) = absurd (bad good)
one_bad lines m n (later line good h) (here line' bad) = absurd (bad good)
one_bad lines m n (later {lines = rest} {number = a} line good h) (later {number = b} line' also k) = ap suc (one_bad rest a b h k)

-- lines with events have no bad line
events_or_bad : (lines : List (List ℕ)) (xs : List JobEvent) (n : ℕ) → AreEvents lines xs → IsFirstBad lines n → ⊥
events_or_bad lines xs n no_lines f = elim f [ ]
events_or_bad lines xs n (empty h) (here line bad) = bad (inl refl)
events_or_bad lines xs n (empty {lines = rest} h) (later {number = m} line good f) = events_or_bad rest xs m h f
events_or_bad lines xs n (one line event is h) (here line' bad) = bad (inr (event, is))
events_or_bad lines xs n (one {lines = rest} {events = more} line event is h) (later {number = m} line' good f) = events_or_bad rest more m h f

pub one-reading : (lines : List (List ℕ)) (a b : Result (List JobEvent) ℕ) → AreRead lines a → AreRead lines b → a ≡ b
one-reading lines (Ok xs) (Ok ys) h k = ap Ok (one_list lines xs ys h k)
one-reading lines (Ok xs) (Err n) h k = absurd (events_or_bad lines xs n h k)
one-reading lines (Err m) (Ok ys) h k = absurd (events_or_bad lines ys m k h)
one-reading lines (Err m) (Err n) h k = ap Err (one_bad lines m n h k)

-- ---- the right replies are unique

same_reply : (nodes : List PlanNode) (slots : ℕ) (front : List Event) (a b : Event) → asked a ≡ asked b → IsRight nodes slots front a → IsRight nodes slots front b → a ≡ b
same_reply nodes slots front (starts r) (starts s) e h k = ap starts (one_start nodes slots front r s h k)
same_reply nodes slots front (starts r) (completes q s) e h k = absurd (cc e)
same_reply nodes slots front (starts r) (fails q s) e h k = absurd (cc e)
same_reply nodes slots front (completes p r) (starts s) e h k = absurd (cc e)
same_reply nodes slots front (completes p r) (completes q s) e h k =
    let same : p ≡ q = cc e in
    ap₂ completes same (one_end nodes front q r s (subst (λ n. IsRight nodes slots front (completes n r)) same h) k)
same_reply nodes slots front (completes p r) (fails q s) e h k = absurd (cc e)
same_reply nodes slots front (fails p r) (starts s) e h k = absurd (cc e)
same_reply nodes slots front (fails p r) (completes q s) e h k = absurd (cc e)
same_reply nodes slots front (fails p r) (fails q s) e h k =
    let same : p ≡ q = cc e in
    ap₂ fails same (one_end nodes front q r s (subst (λ n. IsRight nodes slots front (fails n r)) same h) k)

module _ (nodes : List PlanNode) (slots : ℕ) where
  same_told : (front a b : List Event) → IsHistory nodes slots (front ++ a) → IsHistory nodes slots (front ++ b) → map asked a ≡ map asked b → a ≡ b
  same_told front [] [] h k e = refl
  same_told front [] (y ∷ b) h k e = absurd (cc e)
  same_told front (x ∷ a) [] h k e = absurd (cc e)
  same_told front (x ∷ a) (y ∷ b) h k e =
      let first : asked x ≡ asked y = cc e in
      let rest : map asked a ≡ map asked b = cc e in
      let same = same_reply nodes slots front x y first (h front a x refl) (k front b y refl) in
      let of_y = subst (λ z. IsHistory nodes slots (front ++ z ∷ a)) same h in
      let others =
      same_told (front ++ y ∷ []) a b (subst (IsHistory nodes slots) (sym (append_assoc front (y ∷ []) a)) of_y)
      (subst (IsHistory nodes slots) (sym (append_assoc front (y ∷ []) b)) k) rest in
      λ i. same i ∷ others i

-- ---- counts are unique

one_count : (P : ℕ → Type 0) (places a b : ℕ) → IsCount P places a → IsCount P places b → a ≡ b
one_count P places a b none none = refl
one_count P places a b (yes {places = rest} {count = m} p h) (yes {count = n} q k) = ap suc (one_count P rest m n h k)
one_count P places a b (yes p h) (no other k) = absurd (other p)
one_count P places a b (no other h) (yes p k) = absurd (other p)
one_count P places a b (no {places = rest} other h) (no also k) = one_count P rest a b h k

module _ (plan : List PlanNode) (told : List Event) (nodes : ℕ) (old a b : List ℕ) (h : IsCounted plan told nodes old a) (k : IsCounted plan told nodes old b) where
  one_counted : a ≡ b
  one_counted =
      let completed = one_count (λ place. HasEndState plan told place standing.Completed) nodes h.completed k.completed h.are_completed k.are_completed in
      let failed = one_count (λ place. HasEndState plan told place standing.Failed) nodes h.failed k.failed h.have_failed k.have_failed in
      let running = one_count (λ place. HasEndState plan told place standing.Running) nodes h.running k.running h.run k.run in
      let waiting = one_count (λ place. HasEndState plan told place standing.Waiting) nodes h.waiting k.waiting h.wait k.wait in
      let held = one_count (λ place. HasEndState plan told place standing.Held) nodes h.held k.held h.are_held k.are_held in
      h.text ∙ (λ i. old ++ counts_line (completed i) (failed i) (running i) (waiting i) (held i)) ∙ sym k.text

pub one-replay : (nodes : List PlanNode) (slots : ℕ) (events : List JobEvent) (a b : List ℕ) → IsReplay nodes slots events a → IsReplay nodes slots events b → a ≡ b
one-replay nodes slots events a b h k =
    let same = same_told nodes slots [] h.told k.told h.history k.history (h.same ∙ sym k.same) in
    let counted = subst (λ told. IsCounted nodes told (length nodes) (history_text nodes told) a) same h.counted in
    one_counted nodes k.told (length nodes) (history_text nodes k.told) a b counted k.counted
