use Rattle.std.proofs.Common.{rules, tests, ◌==◌, length}
use Rattle.std.specs.Prelude.{not}
use Rattle.std.proofs.lemmas.Iterator.Search.{all_from_yields_List}
use Rattle.std.proofs.lemmas.Iterator.Splits.{YieldsList-from_slice_split}
use Rattle.outside_folder.specs.Files.{slash}
use Rattle.outside_folder.proofs.mem_folder.is_path.Goals as goal

pub returns : goal.returns
returns c =
    all_from_yields_List (λ name. not (length name == 0)) _ _ _ c.all.ensures.ran
    (YieldsList-from_slice_split _ (λ b. b == slash) c.args.path.now c.split.ensures.rest c.split.ensures.done c.split.ensures.closure (λ x b q k. search (rules, tests)))
    (λ x b q k. search (rules, tests))
