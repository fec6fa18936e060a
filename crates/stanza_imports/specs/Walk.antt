-- The parts that a walk still has to place, and the number of its steps.
use Rattle.std.specs.Prelude.{ℕ, List, [], ◌∷◌, ◌++◌, map, flat_map, get_or, sum, ◌+◌}
use Rattle.plan_types.specs.declared.condition.Cond.{Cond}
use Rattle.section_syntax.specs.declared.part.SectionPart.{SectionPart}
use Rattle.stanza_imports.specs.Imports.{under}
use Rattle.stanza_imports.specs.declared.stanzas.StanzaBody.{StanzaBody}
use Rattle.stanza_imports.specs.declared.stanzas.Frame.{Frame}
use Rattle.stanza_imports.specs.declared.stanzas.ImportStep.{ImportStep}
use Rattle.stanza_imports.specs.Bodies.{step_parts, in_turn, table}
use Rattle.stanza_imports.specs.declared.stanzas.ImportStep.TheVariants as step

-- the parts of the steps that are left of a body
abbrev pub left_parts : List Cond → List StanzaBody → List ImportStep → List SectionPart
left_parts branches stanzas steps = map (under branches) (flat_map (step_parts (table stanzas)) steps)

-- the parts of a frame
abbrev pub frame_parts : Frame → List SectionPart
frame_parts frame = left_parts frame.branches frame.stanzas.now frame.steps.now

-- the parts of a stack of frames; the last frame is the top
abbrev pub frames_parts : List Frame → List SectionPart
frames_parts [] = []
frames_parts (frame ∷ frames) = frames_parts frames ++ frame_parts frame

-- the number of rounds of the walk for a step
abbrev pub step_cost : List ℕ → ImportStep → ℕ
step_cost costs (step.Part part) = 1
step_cost costs (step.Import stanza branches) = 2 + get_or costs stanza 0

-- the number of rounds for these steps
abbrev pub steps_cost : List ℕ → List ImportStep → ℕ
steps_cost costs steps = sum (map (step_cost costs) steps)

-- the number of rounds for a body
abbrev pub body_cost : List ℕ → StanzaBody → ℕ
body_cost costs body = steps_cost costs body.steps.items

-- the number of rounds for each body
abbrev pub costs : List StanzaBody → List ℕ
costs = in_turn body_cost []

-- the number of rounds for the steps that are left, with one for their end
abbrev pub left_cost : List StanzaBody → List ImportStep → ℕ
left_cost stanzas steps = 1 + steps_cost (costs stanzas) steps

-- the number of rounds for a frame
abbrev pub frame_cost : Frame → ℕ
frame_cost frame = left_cost frame.stanzas.now frame.steps.now

-- the number of rounds for all frames
abbrev pub frames_cost : List Frame → ℕ
frames_cost [] = 0
frames_cost (frame ∷ frames) = frames_cost frames + frame_cost frame
