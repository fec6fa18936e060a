use Rattle.std.proofs.lemmas.Str.Pattern.{strip_prefix_char}
use Rattle.project_file.proofs.flags.behind.Goals as goal

pub returns : goal.returns
returns c = strip_prefix_char c.args.sign c.args.word.now c.strip_prefix.result c.strip_prefix.ensures.cases c.requires
