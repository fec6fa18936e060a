-- The walk through a body, step by step.
use Rattle.std.proofs.Common.{◌≡◌, ℕ, ◌+◌, ◌-◌, ◌<◌, ◌≤◌, length, List, [], ◌∷◌, ◌++◌, map, flat_map, get_or, take, drop, sym, ap, ◌∙◌, refl, arith, append_assoc}
use Rattle.std.specs.Prelude.{Some}
use Rattle.std.proofs.lemmas.List.{append-nil, map-append, get_or_past, take_all}
use Rattle.std.specs.List.{slice_get}
use Rattle.std.proofs.lemmas.List.Sums.{sum_by-cons}
use Rattle.std.proofs.lemmas.Option.{slice_get_read}
use Rattle.plan_types.specs.declared.condition.Cond.{Cond}
use Rattle.section_syntax.specs.declared.part.SectionPart.{SectionPart}
use Rattle.stanza_imports.specs.Imports.{under}
use Rattle.stanza_imports.specs.declared.stanzas.StanzaBody.{StanzaBody}
use Rattle.stanza_imports.specs.declared.stanzas.Frame.{Frame}
use Rattle.stanza_imports.specs.declared.stanzas.Placed.{Placed}
use Rattle.stanza_imports.specs.declared.stanzas.ImportStep.{ImportStep}
use Rattle.stanza_imports.specs.declared.stanzas.ImportStep.TheVariants as step
use Rattle.stanza_imports.proofs.BodyMeanings.{under_none}
use Rattle.stanza_imports.proofs.BodyTurns.{told_at, length-in_turn}
use Rattle.stanza_imports.specs.Bodies.{step_parts, body_parts, table, placed_part}
use Rattle.stanza_imports.specs.Walk.{left_parts, frame_parts, frames_parts, step_cost, steps_cost, body_cost, costs, left_cost, frame_cost, frames_cost}

frames-push : (frames : List Frame) (frame : Frame) → frames_parts (frames ++ frame ∷ []) ≡ frame_parts frame ++ frames_parts frames
frames-push [] frame = sym (append-nil (frame_parts frame))
frames-push (first ∷ frames) frame =
    ap (λ v. v ++ frame_parts first) (frames-push frames frame) ∙ append_assoc (frame_parts frame) (frames_parts frames) (frame_parts first)

cost-push : (frames : List Frame) (frame : Frame) → frames_cost (frames ++ frame ∷ []) ≡ frames_cost frames + frame_cost frame
cost-push [] frame = refl
cost-push (first ∷ frames) frame = let e = cost-push frames frame in omega arith

module _ (frame : Frame) {more : List Frame} (frames : List Frame) (is : more ≡ frames ++ frame ∷ []) where
  pub with_frame : frames_parts more ≡ frame_parts frame ++ frames_parts frames
  with_frame = ap frames_parts is ∙ frames-push frames frame

  pub with_cost : frames_cost more ≡ frames_cost frames + frame_cost frame
  with_cost = ap frames_cost is ∙ cost-push frames frame

under_under : (outer inner : List Cond) (parts : List SectionPart) → map (under outer) (map (under inner) parts) ≡ map (under (outer ++ inner)) parts
under_under outer inner [] = refl
under_under outer inner (part ∷ parts) = λ i. record part { branches = sym (append_assoc outer inner part.branches) i } ∷ under_under outer inner parts i

-- no such stanza
pub none_entered : (branches : List Cond) (stanzas : List StanzaBody) (n : ℕ) (rest : List SectionPart) → length stanzas ≤ n → rest ≡ map (under branches) (get_or (table stanzas) n []) ++ rest
none_entered branches stanzas n rest h =
    ap (λ v. map (under branches) v ++ rest) (sym (get_or_past (table stanzas) n [] (let l = length-in_turn body_parts [] stanzas in omega arith)))

module _ (stanzas : List StanzaBody) (n : ℕ) (body : StanzaBody) (h : n < length stanzas) (is : body ≡ get_or stanzas n body) where
  at : slice_get stanzas n ≡ Some body
  at = slice_get_read stanzas (length stanzas) n body refl h is

  pub entered : (branches : List Cond) → left_parts branches (take n stanzas) body.steps.items ≡ map (under branches) (get_or (table stanzas) n [])
  entered branches = ap (map (under branches)) (sym (told_at body_parts [] n stanzas body at))

  pub entered_cost : left_cost (take n stanzas) body.steps.items ≡ 1 + get_or (costs stanzas) n 0
  entered_cost = ap (λ v. 1 + v) (sym (told_at body_cost 0 n stanzas body at))

-- a step that is a part
pub walked_part : (branches inner : List Cond) (stanzas : List StanzaBody) (steps rest : List ImportStep) (old : List Placed) (one : Placed) (frames : List SectionPart) {new : List Placed} {more : List SectionPart} →
    steps ≡ step.Part one.part ∷ rest → inner ≡ branches ++ one.part.now.branches → one.branches ≡ inner → new ≡ old ++ one ∷ [] → more ≡ left_parts branches stanzas rest ++ frames →
    map placed_part new ++ more ≡ map placed_part old ++ (left_parts branches stanzas steps ++ frames)
walked_part branches inner stanzas steps rest old one frames is inside own push left =
    (λ i. (ap (map placed_part) push ∙ map-append placed_part old (one ∷ [])) i ++ left i)
    ∙ append_assoc (map placed_part old) (placed_part one ∷ []) (left_parts branches stanzas rest ++ frames)
    ∙ (λ i. map placed_part old ++ ((record one.part.now { branches = (own ∙ inside) i } ∷ left_parts branches stanzas rest) ++ frames))
    ∙ ap (λ v. map placed_part old ++ (left_parts branches stanzas v ++ frames)) (sym is)

-- a step that is an import
pub walked_import : (branches own inner : List Cond) (stanzas : List StanzaBody) (steps rest : List ImportStep) (one : ImportStep) (n : ℕ) (frames : List SectionPart) {new more : List SectionPart} → steps ≡ one ∷ rest →
    step_parts (table stanzas) one ≡ map (under own) (get_or (table stanzas) n []) → inner ≡ branches ++ own →
    new ≡ map (under inner) (get_or (table stanzas) n []) ++ more → more ≡ left_parts branches stanzas rest ++ frames → new ≡ left_parts branches stanzas steps ++ frames
walked_import branches own inner stanzas steps rest one n frames is imports inside new left =
    let inside_it = get_or (table stanzas) n [] in
    new
    ∙ (λ i. map (under (inside i)) inside_it ++ left i)
    ∙ sym (append_assoc (map (under (branches ++ own)) inside_it) (left_parts branches stanzas rest) frames)
    ∙ ap (λ v. (v ++ left_parts branches stanzas rest) ++ frames) (sym (under_under branches own inside_it))
    ∙ ap (λ v. v ++ frames) (sym (map-append (under branches) (map (under own) inside_it) (flat_map (step_parts (table stanzas)) rest)))
    ∙ ap (λ v. map (under branches) (v ++ flat_map (step_parts (table stanzas)) rest) ++ frames) (sym imports)
    ∙ ap (λ v. left_parts branches stanzas v ++ frames) (sym is)

pub first_step : (steps : List ImportStep) (one : ImportStep) → 1 ≤ length steps → one ≡ get_or steps 0 one → steps ≡ one ∷ take (length steps - 1) (drop 1 steps)
first_step [] one h is = absurd (omega arith)
first_step (first ∷ steps) one h is = λ i. sym is i ∷ sym (take_all (length (first ∷ steps) - 1) steps (omega arith)) i

pub cost_left : (stanzas : List StanzaBody) (steps rest : List ImportStep) (one : ImportStep) → steps ≡ one ∷ rest → left_cost stanzas steps ≡ step_cost (costs stanzas) one + left_cost stanzas rest
cost_left stanzas steps rest one is =
    let here : steps_cost (costs stanzas) (one ∷ rest) ≡ step_cost (costs stanzas) one + steps_cost (costs stanzas) rest = sum_by-cons (λ x. x) (step_cost (costs stanzas) one) (map (step_cost (costs stanzas)) rest) in
    ap (left_cost stanzas) is ∙ (let e : 1 + steps_cost (costs stanzas) (one ∷ rest) ≡ step_cost (costs stanzas) one + (1 + steps_cost (costs stanzas) rest) = omega arith in e)

pub begun : (bodies : List StanzaBody) (body : StanzaBody) (frame : Frame) {placed : List Placed} {frames more : List Frame} → placed ≡ [] → frames ≡ [] → more ≡ frames ++ frame ∷ [] →
    frame.branches ≡ [] → frame.stanzas.now ≡ bodies → frame.steps.now ≡ body.steps.items → map placed_part placed ++ frames_parts more ≡ body_parts (table bodies) body
begun bodies body frame none empty is branches stanzas steps =
    (λ i. map placed_part (none i) ++ frames_parts ((is ∙ ap (λ v. v ++ frame ∷ []) empty) i))
    ∙ (λ i. left_parts (branches i) (stanzas i) (steps i))
    ∙ under_none (body_parts (table bodies) body)
