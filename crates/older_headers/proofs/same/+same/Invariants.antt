use Rattle.std.proofs.Common.{◌≡◌, drop}
use Rattle.cabal_lexer.specs.RoundTrip.{unnumbered}
use Rattle.older_headers.proofs.same.+same.Given as goal

-- the lists are the same iff what is left of them is
abbrev pub invariant-are_same-loop-first : goal.invariant-are_same-loop-first
invariant-are_same-loop-first l =
    (unnumbered (drop l.first-index l.one) ≡ unnumbered l.rest → unnumbered l.one ≡ unnumbered l.other)
    × (unnumbered l.one ≡ unnumbered l.other → unnumbered (drop l.first-index l.one) ≡ unnumbered l.rest)
