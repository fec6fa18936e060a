use Rattle.std.proofs.Common.{arith}
use Rattle.outside_folder.proofs.Listings.{upto_root, upto_more, upto_all}
use Rattle.outside_folder.proofs.mem_folder.add_path.Goals as goal

pub loop-end-init : goal.loop-end-init
loop-end-init c = upto_root c.args.dirs.now c.add_in.new.dirs c.args.path.now c.in_ok-add_in.ensures

pub loop-end-preserved : goal.loop-end-preserved
loop-end-preserved c = upto_more c.args.dirs.now c.loop-end.dirs c.add_at.new.dirs c.args.path.now c.loop-end.end c.loop-end.invariant c.in_ok-add_at.ensures

pub returns : goal.returns
returns c = upto_all c.args.dirs.now c.loop-end.dirs c.args.path.now c.loop-end.end (omega arith) (omega arith) c.loop-end.invariant
