use Rattle.std.proofs.Common.{◌≡◌, ◌++◌, ℕ, List, true, map}
use Rattle.std.specs.Vec.Iter.{into_iter_items}
use Rattle.indexmap.specs.IndexMap.{get}
use Rattle.plan_types.specs.Bytes.{same_text}
use Rattle.conditionals.specs.Value.{flag_in}
use Rattle.conditionals.specs.Paths.{is_consistent, kept_once}
use Rattle.conditionals.specs.Settings.{setting_of}
use Rattle.conditionals.proofs.clean.clean_path.Given as goal

-- the map has the settings of the path so far
abbrev pub invariant-loop-setting : goal.invariant-loop-setting
invariant-loop-setting l = record {
  all : l.yielded ++ into_iter_items l.setting-iterator ≡ l.fn.path;
  kept : map setting_of l.kept.entries ≡ kept_once l.yielded;
  consistent : is_consistent l.yielded ≡ true;
  seen : (q : List ℕ) → get same_text l.kept q ≡ flag_in l.yielded q;
}
