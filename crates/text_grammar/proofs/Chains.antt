-- Shared: reading a chain by a loop.
use Rattle.std.proofs.Common.{◌≡◌, ℕ, zero, suc, ◌+◌, ◌<◌, List, length, Option, Some, None, Result, Ok, Err, refl, sym, ap, ◌∙◌, arith}
use Rattle.plan_types.specs.declared.refusal.Cause.{Cause}
use Rattle.plan_types.specs.declared.refusal.TextFault.{TextFault}
use Rattle.plan_types.specs.declared.refusal.TextFault.TheVariants.{NoMemory, Bad}
use Rattle.text_grammar.specs.Reading.{◌>>=◌, Fails, chain}

module _ {A B : Type 0} (join : A → B → A) (next : List ℕ → Result (Option (B × List ℕ)) Cause) where
  -- invariant: reading the rest gives the result of the whole
  pub record Goes (left : A) (rest : List ℕ) (whole : Result (A × List ℕ) Cause) : Type 0 where
    pub fuel : ℕ
    pub enough : length rest < fuel
    pub same : chain join next fuel left rest ≡ whole

  pub begun : (left : A) (rest : List ℕ) → Goes left rest (chain join next (length rest + 1) left rest)
  begun left rest = record { fuel = length rest + 1; enough = omega arith; same = refl }

  pub step : (n : ℕ) (left : A) (rest : List ℕ) (found : B) (more : List ℕ) → next rest ≡ Ok (Some (found, more)) → chain join next (suc n) left rest ≡ chain join next n (join left found) more
  unfolding chain
  step n left rest found more h = ap (λ r. r >>= λ o. elim o [ None ↦ Ok (left, rest) | Some p ↦ chain join next n (join left p.0) p.1 ]) h

  pub stop : (n : ℕ) (left : A) (rest : List ℕ) → next rest ≡ Ok None → chain join next (suc n) left rest ≡ Ok (left, rest)
  unfolding chain
  stop n left rest h = ap (λ r. r >>= λ o. elim o [ None ↦ Ok (left, rest) | Some p ↦ chain join next n (join left p.0) p.1 ]) h

  pub broken : (n : ℕ) (left : A) (rest : List ℕ) (cause : Cause) → next rest ≡ Err cause → chain join next (suc n) left rest ≡ Err cause
  unfolding chain
  broken n left rest cause h = ap (λ r. r >>= λ o. elim o [ None ↦ Ok (left, rest) | Some p ↦ chain join next n (join left p.0) p.1 ]) h

  on : (n : ℕ) (left : A) (rest : List ℕ) (whole : Result (A × List ℕ) Cause) (found : B) (more : List ℕ) → length rest < n → chain join next n left rest ≡ whole → next rest ≡ Ok (Some (found, more)) → length more < length rest → Goes (join left found) more whole
  on zero left rest whole found more enough same h less = absurd (omega (arith, enough))
  on (suc n) left rest whole found more enough same h less = record { fuel = n; enough = omega (arith, enough, less); same = sym (step n left rest found more h) ∙ same }

  pub goes_on : (left : A) (rest : List ℕ) (whole : Result (A × List ℕ) Cause) (found : B) (more : List ℕ) → Goes left rest whole → next rest ≡ Ok (Some (found, more)) → length more < length rest → Goes (join left found) more whole
  goes_on left rest whole found more g h less = on g.fuel left rest whole found more g.enough g.same h less

  at_end : (n : ℕ) (left : A) (rest : List ℕ) (whole : Result (A × List ℕ) Cause) → length rest < n → chain join next n left rest ≡ whole → next rest ≡ Ok None → whole ≡ Ok (left, rest)
  at_end zero left rest whole enough same h = absurd (omega (arith, enough))
  at_end (suc n) left rest whole enough same h = sym same ∙ stop n left rest h

  pub is_done : (left : A) (rest : List ℕ) (whole : Result (A × List ℕ) Cause) → Goes left rest whole → next rest ≡ Ok None → whole ≡ Ok (left, rest)
  is_done left rest whole g h = at_end g.fuel left rest whole g.enough g.same h

  at_fault : (n : ℕ) (left : A) (rest : List ℕ) (whole : Result (A × List ℕ) Cause) (cause : Cause) → length rest < n → chain join next n left rest ≡ whole → next rest ≡ Err cause → whole ≡ Err cause
  at_fault zero left rest whole cause enough same h = absurd (omega (arith, enough))
  at_fault (suc n) left rest whole cause enough same h = sym same ∙ broken n left rest cause h

  pub ends : (fault : TextFault) (left : A) (rest : List ℕ) (whole : Result (A × List ℕ) Cause) → Goes left rest whole → Fails fault (next rest) → Fails fault whole
  ends NoMemory left rest whole g h = tt
  ends (Bad cause) left rest whole g h = at_fault g.fuel left rest whole cause g.enough g.same h
