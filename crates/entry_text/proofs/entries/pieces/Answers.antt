use Rattle.std.proofs.Common.{◌∷◌, ◌++◌, [], sym, ap, ◌∙◌, append-nil, subst}
use Rattle.entry_text.specs.Entries.{Pieces, last}
use Rattle.entry_text.proofs.CommaCuts.{texts, joined_to, push_text}
use Rattle.entry_text.proofs.entries.pieces.Goals as goal

pub loop-piece-preserved : goal.loop-piece-preserved
loop-piece-preserved c =
    λ more p. let cut = c.in-Some.ensures.some in
    subst (Pieces c.args.text.now) (push_text c.loop-piece.pieces.items c.in-Some.piece more ∙ ap (λ t. texts t ++ more) (sym c.in_ok-push.ensures.items))
    (c.loop-piece.invariant (c.in-Some.piece.now ∷ more) (joined_to c.loop-piece.rest.now c.in-Some.piece.now c.in-Some.more.now more cut.0 cut.1 cut.2 p))

pub returns : goal.returns
returns c =
    subst (Pieces c.args.text.now) (push_text c.loop-piece.pieces.items c.loop-piece.rest [] ∙ append-nil _ ∙ ap texts (sym c.in_ok-push-2.ensures.items))
    (c.loop-piece.invariant (c.loop-piece.rest.now ∷ []) (last c.in_default.ensures.none))
