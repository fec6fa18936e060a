use Rattle.std.proofs.Common.{◌<◌, ◌∷◌, [], ◌++◌, map, take, get_or, sym, ap, ◌∙◌, subst}
use Rattle.std.specs.Prelude.{option_to_list}
use Rattle.std.proofs.lemmas.List.{length-map, map_more, take_more}
use Rattle.elaborate.specs.Plan.{line_at}
use Rattle.elaborate.specs.Telling.{lined_of}
use Rattle.elaborate.proofs.LinesLeft.{AreLeft, all-left, left-next, not-in-front}
use Rattle.elaborate.proofs.moves.lines_at.Goals as goal

pub loop-k-init : goal.loop-k-init
loop-k-init c = record { lines = c.new-lines.ensures; left = all-left (map lined_of c.args.all.items) c.in_ok-left.left.items c.in_ok-left.ensures }

pub move_line-requires : goal.move_line-requires
move_line-requires c = subst (λ n. get_or c.args.places.now c.loop-k.k 0 < n) (sym (c.loop-k.invariant.left.count ∙ length-map c.args.all.items lined_of)) (c.requires.within c.loop-k.k 0 c.loop-k-test.true)

pub loop-k-preserved : goal.loop-k-preserved
loop-k-preserved c =
    let all = map lined_of c.args.all.items in
    let count = length-map c.args.all.items lined_of in
    let places = c.args.places.now in
    let k = c.loop-k.k in
    let place = get_or places k 0 in
    let within = c.loop-k-test.true in
    let so_far = c.loop-k.invariant in
    let there = so_far.left.rest place (subst (λ n. place < n) (sym count) (c.requires.within k 0 within)) (not-in-front places k within c.requires.once) in
    record {
      lines = c.in_ok-move_line.ensures.lines
          ∙ (λ j. so_far.lines j ++ ap option_to_list there j)
          ∙ sym (map_more (line_at all) places k 0 within);
      left = subst (λ front. AreLeft all front c.move_line.new.left.items) (sym (take_more places k 0 within))
          (subst (AreLeft all (take k places ++ place ∷ [])) (sym c.in_ok-move_line.ensures.left) (left-next all (take k places) c.loop-k.left.items place so_far.left));
    }
