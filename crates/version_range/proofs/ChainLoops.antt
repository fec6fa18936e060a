-- Shared: a loop that reads a chain, with its rest no longer than the text.
use Rattle.std.proofs.Common.{◌≡◌, ℕ, ◌+◌, ◌<◌, ◌≤◌, List, length, Option, Some, None, Result, Ok, Err, sym, ap, ◌∙◌, subst, arith}
use Rattle.std.specs.Prelude.{IsErrAnd}
use Rattle.std.specs.Option.{option_map, IfSome}
use Rattle.plan_types.specs.declared.refusal.Cause.{Cause}
use Rattle.plan_types.specs.declared.refusal.TextFault.{TextFault}
use Rattle.text_grammar.specs.Reading.{Gives, Fails, chain}
use Rattle.text_grammar.proofs.Chains.{Goes, goes_on, ends, is_done}

module _ {A B : Type 0} (join : A → B → A) (next : List ℕ → Result (Option (B × List ℕ)) Cause) (first : A) (text : List ℕ) where
  -- reading on after the parts so far gives the whole
  pub record IsReading (left : A) (rest : List ℕ) : Type 0 where
    pub goes : Goes join next left rest (chain join next (length text + 1) first text)
    pub within : length rest ≤ length text

module _ {A B : Type 0} {join : A → B → A} {next : List ℕ → Result (Option (B × List ℕ)) Cause} {first : A} {text : List ℕ} {left : A} {rest : List ℕ} (reading : IsReading join next first text left rest) where
  -- one more part
  pub reads_on : {C : Type 0} (part : C → B × List ℕ) (found : Option C) (it : C) (more : A)
      → next rest ≡ Ok (option_map part found) → IfSome found (λ c. length (part c).1 < length rest) → found ≡ Some it → more ≡ join left (part it).0
      → IsReading join next first text more (part it).1
  reads_on part found it more gives within is joined =
      let less = subst (λ o. IfSome o (λ c. length (part c).1 < length rest)) is within in
      let goes = goes_on join next left rest (chain join next (length text + 1) first text) (part it).0 (part it).1 reading.goes (gives ∙ ap (λ o. Ok (option_map part o)) is) less in
      record {
        goes = subst (λ l. Goes join next l (part it).1 (chain join next (length text + 1) first text)) (sym joined) goes;
        within = omega (arith, less, reading.within);
      }

  -- no further part
  pub reads_all : {C : Type 0} (part : C → B × List ℕ) (found : Option C) → next rest ≡ Ok (option_map part found) → found ≡ None → chain join next (length text + 1) first text ≡ Ok (left, rest)
  reads_all part found gives is = is_done join next left rest (chain join next (length text + 1) first text) reading.goes (gives ∙ ap (λ o. Ok (option_map part o)) is)

  -- a fault in the next part
  pub reads_fault : {C : Type 0} (view : C → A × List ℕ) (answer : Result C TextFault) (fault : TextFault) → IsErrAnd answer (λ e. e ≡ fault) → Fails fault (next rest) → Gives view answer (chain join next (length text + 1) first text)
  reads_fault view (Ok c) fault is fails = absurd is
  reads_fault view (Err e) fault is fails = subst (λ f. Fails f (chain join next (length text + 1) first text)) (sym is) (ends join next fault left rest (chain join next (length text + 1) first text) reading.goes fails)
