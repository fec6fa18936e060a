-- The bytes of a `.cabal` file have a source or a first fault.
use Rattle.std.proofs.Common.{inl, inr, ℕ, List, Result, Ok, Err, refl}
use Rattle.plan_types.specs.declared.condition.Env.{Env}
use Rattle.plan_types.specs.declared.description.Description.{Description}
use Rattle.description.specs.FaultOrder.{is_at}
use Rattle.description.specs.declared.fault_order.At.{At}
use Rattle.flatten.specs.Demands.{first_with_too_many_paths}
use Rattle.cabal_file.specs.Source.{IsSource, OfDescription, digest_of, source_of, unless_beyond}
use Rattle.plan_types.specs.declared.index.Source.{Source}
use Rattle.every_reading.proofs.Descriptions.{some_description}
use Rattle.every_reading.proofs.Trees.{some_tree}

of_description : (env : Env) (described : Result Description At) → (outcome : Result Source At) × OfDescription env described outcome
of_description env (Err at) = (Err at, refl)
of_description env (Ok d) = (unless_beyond (first_with_too_many_paths env d) (source_of env d), refl)

pub some_source : (env : Env) (bytes : List ℕ) → (outcome : Result Source At) × IsSource env bytes outcome
some_source env bytes =
    elim (some_tree bytes) [
      | inl tree ↦
          let described = some_description tree.0 (digest_of bytes) in
          let outcome = of_description env described.0 in
          (outcome.0, inr (record { items = tree.0; tree = tree.1; comes = (described.0, described.1, outcome.1) }))
      | inr fault ↦ (Err (is_at fault.0 fault.1), inl (record { line = fault.0; cause = fault.1; fault = fault.2; outcome_is = refl }))
    ]
