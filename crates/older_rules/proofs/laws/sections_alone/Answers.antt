use Rattle.std.proofs.Common.{flat_map}
use Rattle.cabal_lexer.specs.Tree.{tree_of}
use Rattle.older_rules.specs.Modern.{tools_of}
use Rattle.older_rules.specs.Tops.{component_name}
use Rattle.older_rules.proofs.AloneSections as proof
use Rattle.older_rules.proofs.laws.sections_alone.Goals as goal

pub returns : goal.returns
returns c edition heads rest h = proof.sections_alone edition (tools_of heads rest) (flat_map component_name rest) (tree_of rest) h
