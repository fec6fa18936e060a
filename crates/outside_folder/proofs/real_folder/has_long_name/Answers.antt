use Rattle.std.proofs.Common.{rules, tests, nat_lt, ◌==◌, length}
use Rattle.std.proofs.lemmas.Iterator.Search.{any_from_yields_List}
use Rattle.std.proofs.lemmas.Iterator.Splits.{YieldsList-from_slice_split}
use Rattle.outside_folder.specs.Files.{slash}
use Rattle.outside_folder.specs.RealFolder.{longest_name}
use Rattle.outside_folder.proofs.real_folder.has_long_name.Goals as goal

pub returns : goal.returns
returns c =
    any_from_yields_List (λ name. nat_lt longest_name (length name)) _ _ _ c.any.ensures.ran
    (YieldsList-from_slice_split _ (λ b. b == slash) c.args.path.now c.split.ensures.rest c.split.ensures.done c.split.ensures.closure (λ x b q k. search (rules, tests)))
    (λ x b q k. search (rules, tests))
