-- Counts of the first places.
use Rattle.std.proofs.Common.{◌≡◌, ◌+◌, ◌++◌, ℕ, suc, List, [], ◌∷◌, sym, subst, ap, ◌∙◌, arith, append_assoc}
use Rattle.std.specs.Prelude.{codes, flat_map}
use Rattle.std.proofs.lemmas.Grind.{flat_map-append}
use Rattle.plan_nodes.specs.declared.node.PlanNode.{PlanNode}
use Rattle.plan_jobs.specs.Events.{Event}
use Rattle.std.specs.Fmt.{decimal}
use Rattle.replay_text.specs.Replay.{IsCount, counts_line, event_line, history_text, yes, no}
use Rattle.replay_text.proofs.Goes.{append-nil}

pub one_more : (P : ℕ → Type 0) (places count : ℕ) → P places → IsCount P places count → IsCount P (places + 1) (count + 1)
one_more P places count p c =
    let n : suc places ≡ places + 1 = omega arith in
    let k : suc count ≡ count + 1 = omega arith in
    subst (λ m. IsCount P m (count + 1)) n (subst (λ m. IsCount P (suc places) m) k (yes p c))

pub no_more : (P : ℕ → Type 0) (places count : ℕ) → (P places → ⊥) → IsCount P places count → IsCount P (places + 1) count
no_more P places count n c = let e : suc places ≡ places + 1 = omega arith in subst (λ m. IsCount P m count) e (no n c)

-- the parts of the line, appended one by one
pub counts_text : (old t1 t2 t3 t4 t5 new : List ℕ) (a b c d e : ℕ) → t1 ≡ old ++ (codes "completed " ++ decimal a) → t2 ≡ t1 ++ (codes " failed " ++ decimal b) → t3 ≡ t2 ++ (codes " running " ++ decimal c)
    → t4 ≡ t3 ++ (codes " waiting " ++ decimal d) → t5 ≡ t4 ++ (codes " held " ++ decimal e) → new ≡ t5 ++ codes "\n" → new ≡ old ++ counts_line a b c d e
counts_text old t1 t2 t3 t4 t5 new a b c d e h1 h2 h3 h4 h5 h =
    simp (h, h5, h4, h3, h2, h1, append_assoc)

-- one more line is appended
pub told_more : (nodes : List PlanNode) (told : List Event) (now : Event) (old new : List ℕ) → old ≡ history_text nodes told → new ≡ old ++ event_line nodes now → new ≡ history_text nodes (told ++ now ∷ [])
told_more nodes told now old new o n =
    let more : flat_map (event_line nodes) (told ++ now ∷ []) ≡ flat_map (event_line nodes) told ++ event_line nodes now =
    flat_map-append (event_line nodes) told (now ∷ []) ∙ ap (λ l. flat_map (event_line nodes) told ++ l) (append-nil (event_line nodes now)) in
    n ∙ ap (λ l. l ++ event_line nodes now) o ∙ append_assoc (codes "replay\n") (flat_map (event_line nodes) told) (event_line nodes now) ∙ ap (λ l. codes "replay\n" ++ l) (sym more)
