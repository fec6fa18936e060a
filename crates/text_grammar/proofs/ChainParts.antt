-- Shared: a reader of chains is correct for the language of chains.
use Rattle.std.proofs.Common.{◌≡◌, ◌≢◌, ℕ, zero, suc, ◌+◌, ◌<◌, true, List, [], ◌∷◌, ◌++◌, length, Option, Some, None, Result, Ok, Err, refl, sym, ap, ◌∙◌, subst, append_assoc, append-nil, length-append, arith}
use Rattle.plan_types.specs.declared.refusal.Cause.{Cause}
use Rattle.plan_types.specs.declared.refusal.TextFault.TheVariants.{Bad}
use Rattle.text_grammar.specs.Reading.{◌>>=◌, chain, chained}
use Rattle.text_grammar.specs.Parts.{Chain, one, more}
use Rattle.text_grammar.proofs.TextKind.{Kind}
use Rattle.text_grammar.proofs.Chains.{Goes, begun, goes_on, is_done, ends, step, stop, broken}
use Rattle.text_grammar.proofs.FrontReaders.{Reader, errs, ends_some, Read, Fault, fault_up}

-- a reader of an optional next part
abbrev pub Option-Reader : Type 0 → Type 0
Option-Reader B = List ℕ → Result (Option (B × List ℕ)) Cause

abbrev pub all_of : {A B : Type 0} → (A → B → A) → Reader A → Option-Reader B → Reader A
all_of join first next text = first text >>= chained join next

-- The readers are correct for these languages; E relates a text to the texts that may follow it.
pub record Parts {A B : Type 0} (First : List ℕ → A → Type 0) (Next : List ℕ → B → Type 0) (E : List ℕ → List ℕ → Type 0) (first : Reader A) (next : Option-Reader B) : Type 0 where
  pub first_reads : (text : List ℕ) (x : A) (rest : List ℕ) → First text x → E text rest → first (text ++ rest) ≡ Ok (x, rest)
  pub first_read : (text : List ℕ) (x : A) (rest : List ℕ) → first text ≡ Ok (x, rest) → Read First E text x rest
  pub next_reads : (text : List ℕ) (y : B) (rest : List ℕ) → Next text y → E text rest → next (text ++ rest) ≡ Ok (Some (y, rest))
  pub next_read : (text : List ℕ) (y : B) (rest : List ℕ) → next text ≡ Ok (Some (y, rest)) → Read Next E text y rest
  pub next_some : (y : B) → Next [] y → ⊥
  pub opens : (text next rest : List ℕ) (y : B) → Next next y → E text (next ++ rest)
  pub behind : (text next rest : List ℕ) (y : B) → Next next y → E next rest → E (text ++ next) rest
  pub within : (text next rest : List ℕ) (y : B) → Next next y → E (text ++ next) rest → E next rest

pub errs_then : {A B : Type 0} (read : Result A Cause) (f : A → Result B Cause) → errs read ≡ true → errs (read >>= f) ≡ true
errs_then (Ok x) f h = absurd (cc h)
errs_then (Err cause) f h = refl

pub ok_parts : {A B : Type 0} (a c : A) (b d : B) → (let p : Result (A × B) Cause = Ok (a, b) in let q : Result (A × B) Cause = Ok (c, d) in p ≡ q) → (a ≡ c) × (b ≡ d)
ok_parts {A} {B} a c b d e =
    let p : A × B = (a, b) in
    let q : A × B = (c, d) in
    let pair : p ≡ q = cc e in
    (ap (λ r. r.0) pair, ap (λ r. r.1) pair)

pub errs_err : {A : Type 0} (read : Result A Cause) (cause : Cause) → read ≡ Err cause → errs read ≡ true
errs_err read cause h = ap errs h

pub err_of : {A : Type 0} (read : Result A Cause) → errs read ≡ true → (cause : Cause) × (read ≡ Err cause)
err_of (Ok x) h = absurd (cc h)
err_of (Err cause) h = (cause, refl)

-- a read as that of a present next part
abbrev pub as_next : {B : Type 0} → Result (B × List ℕ) Cause → Result (Option (B × List ℕ)) Cause
as_next read = read >>= λ p. Ok (Some p)

pub as_next_ok : {B : Type 0} (read : Result (B × List ℕ) Cause) (p : B × List ℕ) → as_next read ≡ Ok (Some p) → read ≡ Ok p
as_next_ok (Ok q) p h = let same : q ≡ p = cc h in ap Ok same
as_next_ok (Err cause) p h = absurd (cc h)

pub as_next_none : {B : Type 0} (read : Result (B × List ℕ) Cause) → as_next read ≡ Ok None → ⊥
as_next_none (Ok q) h = cc h
as_next_none (Err cause) h = cc h

pub as_next_err : {B : Type 0} (read : Result (B × List ℕ) Cause) (cause : Cause) → as_next read ≡ Err cause → read ≡ Err cause
as_next_err (Ok q) cause h = absurd (cc h)
as_next_err (Err why) cause h = let same : why ≡ cause = cc h in ap Err same

longer : (front rest : List ℕ) → front ≢ [] → length rest < length (front ++ rest)
longer [] rest some = absurd (some refl)
longer (b ∷ bs) rest some = omega (arith, length-append bs rest)

module _ {A B : Type 0} (join : A → B → A) (First : List ℕ → A → Type 0) (Next : List ℕ → B → Type 0) (E : List ℕ → List ℕ → Type 0) (first : Reader A) (next : Option-Reader B) (rules : Parts First Next E first next) where
  not_empty : (text : List ℕ) (y : B) → Next text y → text ≢ []
  not_empty text y n e = rules.next_some y (subst (λ t. Next t y) e n)

  pub reach : {text : List ℕ} {x : A} → Chain join First Next text x → (rest : List ℕ) → E text rest → Goes join next x rest (all_of join first next (text ++ rest))
  reach {text} {x} (one f) rest e = subst (Goes join next x rest) (sym (ap (λ r. r >>= chained join next) (rules.first_reads text x rest f e))) (begun join next x rest)
  reach (more {text = text} {next = front} {left = left} {right = right} c n) rest e =
      goes_on join next left (front ++ rest) (all_of join first next ((text ++ front) ++ rest)) right rest
      (subst (λ t. Goes join next left (front ++ rest) (all_of join first next t)) (sym (append_assoc text front rest)) (reach c (front ++ rest) (rules.opens text front rest right n)))
      (rules.next_reads front right rest n (rules.within text front rest right n e))
      (longer front rest (not_empty front right n))

  pub reads : {text : List ℕ} {x : A} → Chain join First Next text x → (rest : List ℕ) → E text rest → next rest ≡ Ok None → all_of join first next (text ++ rest) ≡ Ok (x, rest)
  reads {text} {x} c rest e none = is_done join next x rest (all_of join first next (text ++ rest)) (reach c rest e) none

  -- a whole chain was read, and no part follows
  pub record AllRead (text : List ℕ) (x : A) (rest : List ℕ) : Type 0 where
    pub read : Read (Chain join First Next) E text x rest
    pub none : next rest ≡ Ok None

  abbrev ReadsOn : ℕ → Type 0
  ReadsOn n = (text : List ℕ) (left : A) (c : Chain join First Next text left) (behind : List ℕ) (x : A) (rest : List ℕ) → E text behind → length behind < n → chain join next n left behind ≡ Ok (x, rest) → AllRead (text ++ behind) x rest

  read_on : (n : ℕ) → ReadsOn n
  read_on zero text left c behind x rest e enough h = absurd (omega (arith, enough))
  read_on (suc n) text left c behind x rest e enough h = by (read_on n) (next behind) refl
    where
      by : ReadsOn n → (o : Result (Option (B × List ℕ)) Cause) → next behind ≡ o → AllRead (text ++ behind) x rest
      by on (Err cause) q = absurd (cc (h, broken join next n left behind cause q))
      by on (Ok None) q =
          let done : Ok (left, behind) ≡ Ok (x, rest) = sym (stop join next n left behind q) ∙ h in
          let parts = ok_parts left x behind rest done in
          let same = parts.0 in
          let end = parts.1 in
          record {
            read = record { front = text; whole = ap (λ t. text ++ t) end; is = subst (λ v. Chain join First Next text v) same c; apart = subst (E text) end e };
            none = subst (λ t. next t ≡ Ok None) end q;
          }
      by on (Ok (Some p)) q =
          let r = rules.next_read behind p.0 p.1 q in
          let less : length p.1 < length behind = subst (λ t. length p.1 < length t) (sym r.whole) (longer r.front p.1 (not_empty r.front p.0 r.is)) in
          let a = on (text ++ r.front) (join left p.0) (more c r.is) p.1 x rest (rules.behind text r.front p.1 p.0 r.is r.apart) (omega (arith, less, enough)) (sym (step join next n left behind p.0 p.1 q) ∙ h) in
          subst (λ t. AllRead t x rest) (append_assoc text r.front p.1 ∙ ap (λ t. text ++ t) (sym r.whole)) a

  pub read_all : (text : List ℕ) (x : A) (rest : List ℕ) → all_of join first next text ≡ Ok (x, rest) → AllRead text x rest
  read_all text x rest h = by (first text) refl
    where
      by : (o : Result (A × List ℕ) Cause) → first text ≡ o → AllRead text x rest
      by (Err cause) q = absurd (cc (h, ap (λ r. r >>= chained join next) q))
      by (Ok p) q =
          let r = rules.first_read text p.0 p.1 q in
          subst (λ t. AllRead t x rest) (sym r.whole) (read_on (length p.1 + 1) r.front p.0 (one r.is) p.1 x rest r.apart (omega arith) (sym (ap (λ r. r >>= chained join next) q) ∙ h))

pub map_chain : {A B : Type 0} (join : A → B → A) (First First' : List ℕ → A → Type 0) (Next Next' : List ℕ → B → Type 0)
    → ((text : List ℕ) (x : A) → First text x → First' text x) → ((text : List ℕ) (y : B) → Next text y → Next' text y)
    → {text : List ℕ} {x : A} → Chain join First Next text x → Chain join First' Next' text x
map_chain join First First' Next Next' f g {text} {x} (one h) = one (f text x h)
map_chain join First First' Next Next' f g (more {next = front} {right = right} c n) = more (map_chain join First First' Next Next' f g c) (g front right n)

-- The same for a grammar and a wider one: the faults of a chain are those of its parts.
module _ {A B : Type 0} (kind : Kind) (join : A → B → A) (First First' : List ℕ → A → Type 0) (Next Next' : List ℕ → B → Type 0) (E : List ℕ → List ℕ → Type 0)
    (first first' : Reader A) (next next' : Option-Reader B) (rules : Parts First Next E first next) (rules' : Parts First' Next' E first' next')
    (wider : (text : List ℕ) (x : A) → First text x → First' text x) (wider-next : (text : List ℕ) (y : B) → Next text y → Next' text y) where
  pub wide : {text : List ℕ} {x : A} → Chain join First Next text x → Chain join First' Next' text x
  wide c = map_chain join First First' Next Next' wider wider-next c

  -- the next part fails after its first byte
  pub record NextFault (text : List ℕ) (cause : Cause) : Type 0 where
    pub fault : Fault kind Next Next' next next' text cause
    pub begun : fault.front ≢ []
    pub opens : (text again : List ℕ) → E text (fault.front ++ again)

  ends_with : {A B : Type 0} (join : A → B → A) (next : Option-Reader B) (left : A) (rest : List ℕ) (whole : Result (A × List ℕ) Cause) → Goes join next left rest whole → errs (next rest) ≡ true → errs whole ≡ true
  ends_with join next left rest whole g h = let e = err_of (next rest) h in ap errs (ends join next (Bad e.0) left rest whole g e.1)

  fault_next : (text : List ℕ) (left : A) → Chain join First Next text left → (behind : List ℕ) (cause : Cause) → NextFault behind cause
      → Fault kind (Chain join First Next) (Chain join First' Next') (all_of join first next) (all_of join first' next') (text ++ behind) cause
  fault_next text left c behind cause n =
      let f = n.fault in
      fault_up kind Next Next' next next' (Chain join First Next) (Chain join First' Next') (all_of join first next) (all_of join first' next') text
      (λ t y k. ([], join left y, subst (λ t'. Chain join First Next (text ++ t') (join left y)) (sym (append-nil t)) (more c k)))
      (λ t y k. ([], join left y, subst (λ t'. Chain join First' Next' (text ++ t') (join left y)) (sym (append-nil t)) (more (wide c) k)))
      behind cause f (ends_some kind.digits.digit text f.front n.begun)
      (λ again h. ends_with join next left (f.front ++ again) (all_of join first next (text ++ (f.front ++ again))) (reach join First Next E first next rules c (f.front ++ again) (n.opens text again)) h)
      (λ again h. ends_with join next' left (f.front ++ again) (all_of join first' next' (text ++ (f.front ++ again))) (reach join First' Next' E first' next' rules' (wide c) (f.front ++ again) (n.opens text again)) h)

  abbrev FailsOn : ℕ → Type 0
  FailsOn n = (text : List ℕ) (left : A) (c : Chain join First Next text left) (behind : List ℕ) (cause : Cause) → E text behind → length behind < n → chain join next n left behind ≡ Err cause
      → Fault kind (Chain join First Next) (Chain join First' Next') (all_of join first next) (all_of join first' next') (text ++ behind) cause

  module _ (next_fault : (text : List ℕ) (cause : Cause) → next text ≡ Err cause → NextFault text cause) where
    fail_on : (n : ℕ) → FailsOn n
    fail_on zero text left c behind cause e enough h = absurd (omega (arith, enough))
    fail_on (suc n) text left c behind cause e enough h = by (fail_on n) (next behind) refl
      where
        by : FailsOn n → (o : Result (Option (B × List ℕ)) Cause) → next behind ≡ o
            → Fault kind (Chain join First Next) (Chain join First' Next') (all_of join first next) (all_of join first' next') (text ++ behind) cause
        by on (Err why) q =
            let same : why ≡ cause = cc (h, broken join next n left behind why q) in
            fault_next text left c behind cause (subst (NextFault behind) same (next_fault behind why q))
        by on (Ok None) q = absurd (cc (h, stop join next n left behind q))
        by on (Ok (Some p)) q =
            let r = rules.next_read behind p.0 p.1 q in
            let less : length p.1 < length behind = subst (λ t. length p.1 < length t) (sym r.whole) (longer r.front p.1 (not_empty join First Next E first next rules r.front p.0 r.is)) in
            let f = on (text ++ r.front) (join left p.0) (more c r.is) p.1 cause (rules.behind text r.front p.1 p.0 r.is r.apart) (omega (arith, less, enough)) (sym (step join next n left behind p.0 p.1 q) ∙ h) in
            subst (λ t. Fault kind (Chain join First Next) (Chain join First' Next') (all_of join first next) (all_of join first' next') t cause) (append_assoc text r.front p.1 ∙ ap (λ t. text ++ t) (sym r.whole)) f

    pub fault_all : (first_fault : (text : List ℕ) (cause : Cause) → first text ≡ Err cause → Fault kind First First' first first' text cause)
        → (text : List ℕ) (cause : Cause) → all_of join first next text ≡ Err cause
        → Fault kind (Chain join First Next) (Chain join First' Next') (all_of join first next) (all_of join first' next') text cause
    fault_all first_fault text cause h = by (first text) refl
      where
        by : (o : Result (A × List ℕ) Cause) → first text ≡ o → Fault kind (Chain join First Next) (Chain join First' Next') (all_of join first next) (all_of join first' next') text cause
        by (Err why) q =
            let same : why ≡ cause = cc (h, ap (λ r. r >>= chained join next) q) in
            fault_up kind First First' first first' (Chain join First Next) (Chain join First' Next') (all_of join first next) (all_of join first' next') []
            (λ t x k. ([], x, subst (λ t'. Chain join First Next t' x) (sym (append-nil t)) (one k)))
            (λ t x k. ([], x, subst (λ t'. Chain join First' Next' t' x) (sym (append-nil t)) (one k)))
            text cause (first_fault text cause (q ∙ ap Err same)) refl
            (λ again e. errs_then (first _) (chained join next) e)
            (λ again e. errs_then (first' _) (chained join next') e)
        by (Ok p) q =
            let r = rules.first_read text p.0 p.1 q in
            subst (λ t. Fault kind (Chain join First Next) (Chain join First' Next') (all_of join first next) (all_of join first' next') t cause) (sym r.whole)
            (fail_on (length p.1 + 1) r.front p.0 (one r.is) p.1 cause r.apart (omega arith) (sym (ap (λ r. r >>= chained join next) q) ∙ h))
