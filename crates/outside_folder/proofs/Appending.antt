-- One write after another.
use Rattle.std.proofs.Common.{ℕ, List, ◌++◌, Option, Some, None, ap, ◌∙◌, append_assoc}
use Rattle.std.specs.Option.{option_map}
use Rattle.outside_folder.specs.Sink.{Appends}

pub Appends-then : (old mid new : Option (List ℕ)) (a b : List ℕ) → Appends old mid a → Appends mid new b → Appends old new (a ++ b)
Appends-then None mid new a b first second = second ∙ ap (option_map (λ bytes. bytes ++ b)) first
Appends-then (Some x) mid new a b first second = second ∙ ap (option_map (λ bytes. bytes ++ b)) first ∙ ap Some (append_assoc x a b)
