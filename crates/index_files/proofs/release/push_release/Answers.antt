use Rattle.std.proofs.Common.{[], ◌∷◌, append-nil, sym, ◌∙◌}
use Rattle.index_files.proofs.Joined.{none-released, one-released}
use Rattle.index_files.proofs.release.push_release.Goals as goal

pub returns-then-is_missing : goal.returns-then-is_missing
returns-then-is_missing c = (
  [],
  none-released c.args.env.now c.args.name.now c.args.dir.now.version c.args.file.now.path c.args.file.now.content (sym c.is_missing.ensures ∙ c.if-is_missing.true),
  sym (append-nil c.args.releases.now),
)

pub returns : goal.returns
returns c =
    let judged = c.in_ok-judged.judged in (
      record { path = c.in_ok-path.path; judged = judged } ∷ [],
      one-released c.args.env.now c.args.name.now c.args.dir.now.version c.args.file.now.path c.args.file.now.content (sym c.is_missing.ensures ∙ c.if-is_missing.false)
          (judged, c.in_ok-judged.ensures, λ i. record { path = c.in_ok-path.ensures i; judged = judged } ∷ []),
      c.in_ok-push.ensures.ok,
    )
