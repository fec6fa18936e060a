use Rattle.std.proofs.Common.{◌≡◌, ◌≤◌, List, length}
use Rattle.std.specs.List.{AllZip}
use Rattle.outside_folder.specs.declared.folder.Name.{Name}
use Rattle.outside_folder.specs.RealFolder.{IsNameOf, by_text}
use Rattle.outside_folder.proofs.real_folder.names_of.Given as goal

-- all entries so far have names, the map has these and no others, and nothing has failed
abbrev pub invariant-loop-entry : goal.invariant-loop-entry
invariant-loop-entry g l = record {
  taken : (names : List Name) × AllZip (IsNameOf (g.S.SystemCalls.finds l.system)) l.yielded names × (l.names.entries ≡ by_text names);
  no_more : length l.names.entries ≤ length l.yielded;
  still : l.faults ≡ l.initial.faults;
}
