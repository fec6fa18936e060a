-- Only equal nodes tie.
use Rattle.std.proofs.Common.{◌≡◌, ap, ◌∙◌, subst, refl}
use Rattle.std.specs.declared.cmp.Ordering.{Ordering}
use Rattle.std.specs.declared.cmp.Ordering.TheVariants.{Less, Equal, Greater}
use Rattle.std.specs.Cmp.Lexicographic.{slice_cmp}
use Rattle.std.specs.Ordering.{nat_cmp, ordering_then}
use Rattle.std.proofs.lemmas.Map.Lookups.{exact_unsigned}
use Rattle.common_laws.specs.Small.{second-equal}
use Rattle.plan_types.specs.Members.{order}
use Rattle.qualified_goals.specs.SameVariable.{qual-is}
use Rattle.qualified_goals.specs.Variable.{qual_cmp}
use Rattle.plan_components.specs.declared.node.Node.{Node}
use Rattle.plan_components.specs.declared.node.Piece.{Piece}
use Rattle.plan_components.specs.declared.node.Piece.TheVariants.{One, Whole}
use Rattle.plan_components.specs.Chosen.{Selection}
use Rattle.node_lines.specs.Lines.{HasLine}
use Rattle.node_lines.proofs.OneLine.{one}
use Rattle.elaborate.specs.declared.told.LinedNode.{LinedNode}
use Rattle.elaborate.specs.Told.{node_cmp, piece_cmp, lined_cmp}

first-equal : (first second : Ordering) → ordering_then first second ≡ Equal → first ≡ Equal
first-equal Less second e = absurd (cc e)
first-equal Equal second e = refl
first-equal Greater second e = absurd (cc e)

piece-is : (m n : Piece) → piece_cmp m n ≡ Equal → m ≡ n
piece-is Whole Whole e = refl
piece-is Whole (One n) e = absurd (cc e)
piece-is (One m) Whole e = absurd (cc e)
piece-is (One m) (One n) e = ap One (exact_unsigned m n e)

node-is : (m n : Node) → node_cmp m n ≡ Equal → m ≡ n
node-is m n e =
    let by_qual = qual_cmp m.qual n.qual in
    let by_package = nat_cmp m.«package» n.«package» in
    let by_piece = piece_cmp m.piece n.piece in
    let behind = second-equal by_qual (ordering_then by_package by_piece) e in
    ap (λ x. record { qual = x; «package» = m.«package»; piece = m.piece }) (qual-is m.qual n.qual (first-equal by_qual (ordering_then by_package by_piece) e))
    ∙ ap (λ x. record { qual = n.qual; «package» = x; piece = m.piece }) (exact_unsigned m.«package» n.«package» (first-equal by_package by_piece behind))
    ∙ ap (λ x. record { qual = n.qual; «package» = n.«package»; piece = x }) (piece-is m.piece n.piece (second-equal by_package by_piece behind))

pub tie : (selection : Selection) (s t : LinedNode) → HasLine selection s.node s.line → HasLine selection t.node t.line → lined_cmp s t ≡ Equal → s ≡ t
tie selection s t hs ht e =
    let nodes : s.node ≡ t.node = node-is s.node t.node (second-equal
    (ordering_then (ordering_then (ordering_then (slice_cmp nat_cmp s.line.name t.line.name)
    (order s.line.version.parts t.line.version.parts)) (slice_cmp nat_cmp s.line.component t.line.component))
    (slice_cmp nat_cmp s.line.id t.line.id)) (node_cmp s.node t.node) e) in
    let lines : s.line ≡ t.line = one selection t.node s.line t.line (subst (λ n. HasLine selection n s.line) nodes hs) ht in
    ap (λ n. record { node = n; line = s.line }) nodes ∙ ap (λ l. record { node = t.node; line = l }) lines
