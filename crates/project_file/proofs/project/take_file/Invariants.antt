use Rattle.std.proofs.Common.{◌≡◌, ◌++◌, List}
use Rattle.project_file.specs.Project.{Placed, placed_all, project_from}
use Rattle.project_file.proofs.project.take_file.Given as goal

-- the project of the parts so far; the rest of the file is yet to come
abbrev pub invariant-loop-part : goal.invariant-loop-part
invariant-loop-part l =
    (before : List Placed) → l.initial.project ≡ project_from before → (front : List Placed) × (l.project ≡ project_from front) × (front ++ placed_all l.path l.part-iterator.rest.items ≡ before ++ placed_all l.path l.fn.parts)
