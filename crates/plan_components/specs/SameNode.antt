-- Equality of nodes.
use Rattle.std.proofs.Common.{◌≡◌, ℕ, Bool, true, false, ◌&&◌, List, nat_eq, refl, ap, ◌∙◌}
use Rattle.std.proofs.lemmas.Bool.{false≢true, eqb-true, eq-eqb, and_from, and_parts}
use Rattle.std.specs.List.{position_or_len}
use Rattle.qualified_goals.specs.declared.variable.Qual.{Qual}
use Rattle.qualified_goals.specs.declared.variable.Qual.TheVariants.{Top, Setup, Exe}
use Rattle.plan_components.specs.declared.node.Node.{Node}
use Rattle.plan_components.specs.declared.node.Piece.{Piece}
use Rattle.plan_components.specs.declared.node.Piece.TheVariants.{Whole, One}

-- whether two qualifiers are equal
abbrev pub same_qual : Qual → Qual → Bool
same_qual Top Top = true
same_qual Top (Setup q) = false
same_qual Top (Exe q u) = false
same_qual (Setup p) Top = false
same_qual (Setup p) (Setup q) = nat_eq p q
same_qual (Setup p) (Exe q u) = false
same_qual (Exe p t) Top = false
same_qual (Exe p t) (Setup q) = false
same_qual (Exe p t) (Exe q u) = nat_eq p q && nat_eq t u

-- whether two pieces are equal
abbrev pub same_piece : Piece → Piece → Bool
same_piece Whole Whole = true
same_piece Whole (One j) = false
same_piece (One i) Whole = false
same_piece (One i) (One j) = nat_eq i j

-- whether two nodes are equal
abbrev pub same_node : Node → Node → Bool
same_node m n = same_qual m.qual n.qual && (nat_eq m.«package» n.«package» && same_piece m.piece n.piece)

-- the place of a node; the number of nodes for any other one
abbrev pub place_of : List Node → Node → ℕ
place_of nodes node = position_or_len (same_node node) nodes

qual-is : (q r : Qual) → same_qual q r ≡ true → q ≡ r
qual-is Top Top h = refl
qual-is Top (Setup q) h = absurd (false≢true h)
qual-is Top (Exe q u) h = absurd (false≢true h)
qual-is (Setup p) Top h = absurd (false≢true h)
qual-is (Setup p) (Setup q) h = ap Setup (eqb-true p q h)
qual-is (Setup p) (Exe q u) h = absurd (false≢true h)
qual-is (Exe p t) Top h = absurd (false≢true h)
qual-is (Exe p t) (Setup q) h = absurd (false≢true h)
qual-is (Exe p t) (Exe q u) h =
    let both = and_parts (nat_eq p q) (nat_eq t u) h in
    ap (λ x. Exe x t) (eqb-true p q both.0) ∙ ap (Exe q) (eqb-true t u both.1)

piece-is : (a b : Piece) → same_piece a b ≡ true → a ≡ b
piece-is Whole Whole h = refl
piece-is Whole (One j) h = absurd (false≢true h)
piece-is (One i) Whole h = absurd (false≢true h)
piece-is (One i) (One j) h = ap One (eqb-true i j h)

pub node-is : (m n : Node) → same_node m n ≡ true → m ≡ n
node-is m n h =
    let first = and_parts (same_qual m.qual n.qual) (nat_eq m.«package» n.«package» && same_piece m.piece n.piece) h in
    let rest = and_parts (nat_eq m.«package» n.«package») (same_piece m.piece n.piece) first.1 in
    ap (λ x. record { qual = x; «package» = m.«package»; piece = m.piece }) (qual-is m.qual n.qual first.0)
    ∙ ap (λ x. record { qual = n.qual; «package» = x; piece = m.piece }) (eqb-true m.«package» n.«package» rest.0)
    ∙ ap (λ x. record { qual = n.qual; «package» = n.«package»; piece = x }) (piece-is m.piece n.piece rest.1)

self : (n : ℕ) → nat_eq n n ≡ true
self n = eq-eqb n n refl

qual-self : (q : Qual) → same_qual q q ≡ true
qual-self Top = refl
qual-self (Setup p) = self p
qual-self (Exe p t) = and_from _ _ (self p) (self t)

piece-self : (a : Piece) → same_piece a a ≡ true
piece-self Whole = refl
piece-self (One i) = self i

pub node-self : (n : Node) → same_node n n ≡ true
node-self n = and_from _ _ (qual-self n.qual) (and_from _ _ (self n.«package») (piece-self n.piece))
