use Rattle.std.proofs.Common.{◌≡◌, ℕ, List, ◌++◌, ap, ◌∙◌, codes}
use Rattle.std.specs.List.{flat_map}
use Rattle.store_id.specs.NodeText.{flag_line, line}
use Rattle.store_id.proofs.node_text.id_text.Goals as goal

-- parts that are appended one by one
joined : (start t0 t1 t2 t3 t4 t5 a b c d e : List ℕ) → t0 ≡ start → t1 ≡ t0 ++ a → t2 ≡ t1 ++ b → t3 ≡ t2 ++ c → t4 ≡ t3 ++ d → t5 ≡ t4 ++ e → t5 ≡ ((((start ++ a) ++ b) ++ c) ++ d) ++ e
joined start t0 t1 t2 t3 t4 t5 a b c d e h0 h1 h2 h3 h4 h5 =
    h5 ∙ ap (λ t. t ++ e) (h4 ∙ ap (λ t. t ++ d) (h3 ∙ ap (λ t. t ++ c) (h2 ∙ ap (λ t. t ++ b) (h1 ∙ ap (λ t. t ++ a) h0))))

pub returns : goal.returns
returns c =
    joined _ _ _ _ _ _ _ _ _ _ _ _ c.in_ok-text.ensures c.in_ok-push_head.ensures c.in_ok-push_env.ensures
    (c.in_ok-push_flags.ensures ∙ (λ i. c.push_env.new.text ++ flat_map (flag_line (c.as_slice-2.ensures i)) (c.as_slice.ensures i)))
    (c.in_ok-push_line.ensures ∙ (λ i. c.push_flags.new.text ++ line (codes "cabal ") (c.as_str.ensures i)))
    c.in_ok-push_needs.ensures
