-- What is known before the index is read, as a ground of the definitions.
use Rattle.std.specs.Prelude.{List}
use Rattle.plan_types.specs.declared.condition.Env.{Env}
use Rattle.plan_types.specs.declared.dependency.Named.{Named}
use Rattle.plan_types.specs.declared.index.Places.{Places}
use Rattle.index_files.specs.Closure.{Ground}
use Rattle.index_files.specs.declared.read_before.ReadBefore.{ReadBefore}
use Rattle.index_files.specs.declared.locals.Locals.{Locals}
use Rattle.index_files.specs.declared.unit.Unit.{Unit}

-- the ground with these local packages and units
abbrev pub ground_from : Env → Places → Locals → List Unit → List Named → Ground
ground_from env places locals units extra = record { env = env; places = places; locals = locals.list; units = units; extra = extra }

-- the ground of the kept state
abbrev pub ground_of : ReadBefore → Ground
ground_of before = ground_from before.env.now before.places.now before.locals.now before.units.now before.extra.now
