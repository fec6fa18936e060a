-- The derived equality test of parts.
use Rattle.std.proofs.Common.{◌≡◌, rules}
use Rattle.constraint_set.specs.Rules.{is_part_of}
use Rattle.constraint_set.specs.declared.rules.PartOf.{PartOf}
use Rattle.constraint_set.specs.contracts.rules.PartOfPartialEq.TheImpl.{eq-value}

same-key : (a b : PartOf) → eq-value.it a b ≡ is_part_of a b
same-key a b = search rules

-- the derived equality test of parts
pub key-test : eq-value.it ≡ is_part_of
key-test = λ i a b. same-key a b i
