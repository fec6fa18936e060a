use Rattle.std.proofs.Common.{sym, rules}
use Rattle.version_range.proofs.RisingEnds.{first_taken, second_taken, both_taken}
use Rattle.version_range.proofs.merge.take_least.Goals as goal

pub returns-in_ok-pop_front-in-Less-clause-some : goal.returns-in_ok-pop_front-in-Less-clause-some
returns-in_ok-pop_front-in-Less-clause-some c =
    let i = c.in-Some-Some in
    let k = c.in_ok-pop_front-in-Less in
    first_taken c.args.first.now.items c.args.second.now.items i.x.now i.y.now (search rules) (search rules) i.ensures.lookup i.ensures'.lookup c.requires.first_rises c.requires.second_rises k.field-0 _ (sym c.in-Less.ensures) k.ensures.lookup k.ensures.rest

pub returns-in_ok-pop_front-in-Equal-clause-some : goal.returns-in_ok-pop_front-in-Equal-clause-some
returns-in_ok-pop_front-in-Equal-clause-some c =
    let i = c.in-Some-Some in
    let k = c.in_ok-pop_front-in-Equal in
    both_taken c.args.first.now.items c.args.second.now.items i.x.now i.y.now (search rules) (search rules) i.ensures.lookup i.ensures'.lookup c.requires.first_rises c.requires.second_rises k.field-0 _ (sym c.in-Equal.ensures) k.ensures.lookup k.ensures.rest _ c.pop_front-in-Equal.ensures.rest

pub returns-in_ok-pop_front-in-Greater-clause-some : goal.returns-in_ok-pop_front-in-Greater-clause-some
returns-in_ok-pop_front-in-Greater-clause-some c =
    let i = c.in-Some-Some in
    let k = c.in_ok-pop_front-in-Greater in
    second_taken c.args.first.now.items c.args.second.now.items i.x.now i.y.now (search rules) (search rules) i.ensures.lookup i.ensures'.lookup c.requires.first_rises c.requires.second_rises k.field-0 _ (sym c.in-Greater.ensures) k.ensures.lookup k.ensures.rest
