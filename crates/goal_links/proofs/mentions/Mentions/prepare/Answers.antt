use Rattle.std.proofs.Common.{◌≡◌, ◌+◌, ◌<◌, ◌++◌, ◌∷◌, [], ◌∙◌, List, length, map, take, drop, slice_set, sym, ap, subst, arith}
use Rattle.std.proofs.lemmas.Option.{slice_get_within}
use Rattle.common_laws.specs.Small.{on-err}
use Rattle.qualified_goals.specs.declared.variable.Var.{Var}
use Rattle.goal_links.specs.declared.chains.Cell.{Cell}
use Rattle.goal_links.specs.declared.mentions.Mention.{Mention}
use Rattle.goal_links.specs.Links.{Entries, var_at}
use Rattle.goal_links.specs.Mentions.{Mentioned, AreSaid, KeepRow, mention_in, mentions, used}
use Rattle.goal_links.proofs.ChainWalks.{at-entry, registered-said, registered-front, registered-spare, registered-row, spare-count, spare-outside, set-said, set-mentioned, set-ready, added-said, added-mentioned, added-ready}
use Rattle.goal_links.proofs.mentions.Mentions.prepare.Goals as goal
use Rattle.goal_links.proofs.mentions.Mentions.prepare.Goals.{In_ok-entry}

-- the entries after the variable is registered
module _ (c : In_ok-entry) where
  abbrev cell : Cell
  cell = record { entry = c.in_ok-entry.entry; place = c.args.mention.place }

  fits : c.in_ok-entry.entry < length c.register.new.self.vars
  fits = slice_get_within c.register.new.self.vars c.in_ok-entry.entry c.args.mention.var c.in_ok-entry.ensures.entry

  said-first : AreSaid c.register.new.self c.self.inside.count
  said-first = subst (λ (x : Entries). AreSaid x c.self.inside.count) (sym c.in_ok-entry.ensures.ok) (registered-said c.self.inside.links c.self.inside.count c.args.mention.var c.self.invariant)

  front-first : mentions (used c.self.inside.count c.register.new.self) ≡ c.args.self.now.said
  front-first =
      ap (λ (x : Entries). mentions (used c.self.inside.count x)) c.in_ok-entry.ensures.ok
      ∙ registered-front c.self.inside.links c.self.inside.count c.args.mention.var c.self.invariant ∙ ap (λ (m : Mentioned). m.said) c.self.view_is

  spare-first : map (mention_in c.register.new.self.vars) (drop c.self.inside.count c.register.new.self.cells) ≡ c.args.self.now.spare
  spare-first =
      ap (λ (x : Entries). map (mention_in x.vars) (drop c.self.inside.count x.cells)) c.in_ok-entry.ensures.ok
      ∙ registered-spare c.self.inside.links c.self.inside.count c.args.mention.var c.self.invariant ∙ ap (λ (m : Mentioned). m.spare) c.self.view_is

  row-first : KeepRow c.args.self.now.row c.register.new.self
  row-first =
      subst (λ (m : Mentioned). KeepRow m.row c.register.new.self) c.self.view_is
      (subst (λ (x : Entries). KeepRow c.self.inside.links x) (sym c.in_ok-entry.ensures.ok) (registered-row c.self.inside.links c.args.mention.var))

  count-first : c.self.inside.count + length c.args.self.now.spare ≡ length c.register.new.self.cells
  count-first = ap (λ (l : List Mention). c.self.inside.count + length l) (sym spare-first) ∙ spare-count c.register.new.self c.self.inside.count said-first

  -- a cell replaced or added leaves the rows unchanged
  row-then : (u : Entries) (cells : List Cell) → u ≡ record c.register.new.self { cells = cells } → KeepRow c.args.self.now.row u
  row-then u cells e =
      subst (λ (x : Entries). KeepRow c.args.self.now.row x) (sym e)
      (record { linked = row-first.linked; vars = row-first.vars; known = row-first.known; kept = row-first.kept })

  spare-then : (u : Entries) → take (c.args.index + 1) (map (mention_in u.vars) (drop c.self.inside.count u.cells))
      ≡ take c.args.index (map (mention_in c.register.new.self.vars) (drop c.self.inside.count c.register.new.self.cells)) ++ mention_in c.register.new.self.vars cell ∷ []
      → take (c.args.index + 1) (map (mention_in u.vars) (drop c.self.inside.count u.cells)) ≡ take c.args.index c.args.self.now.spare ++ c.args.mention ∷ []
  spare-then u e =
      let mention : Var → Mention = λ w. record { var = w; place = c.args.mention.place } in
      e ∙ ap (λ (l : List Mention). take c.args.index l ++ mention (var_at c.register.new.self.vars c.in_ok-entry.entry) ∷ []) spare-first
      ∙ ap (λ (w : Var). take c.args.index c.args.self.now.spare ++ mention w ∷ []) (at-entry c.register.new.self.vars c.in_ok-entry.entry c.args.mention.var c.in_ok-entry.ensures.entry)

pub set_cell-requires-clause-outside : goal.set_cell-requires-clause-outside
set_cell-requires-clause-outside c =
    let e = (goal.at.set_cell-requires-clause-outside c).In_ok-entry in
    spare-outside c.register.new.self c.self.inside.count (said-first e) (c.self.inside.count + c.args.index) (omega arith) (omega (arith, c.if-cell-known.true, c.cell_count-known.ensures))

pub invariant_of-self-then-cell-known : goal.invariant_of-self-then-cell-known
invariant_of-self-then-cell-known c =
    let e = (goal.at.invariant_of-self-then-cell-known c).In_ok-entry in
    set-said c.register.new.self c.set_cell.new.self c.self.inside.count c.args.index (cell e) (said-first e) (fits e)
    (omega (arith, c.if-cell-known.true, c.cell_count-known.ensures)) c.set_cell.ensures

pub returns-then-cell-known-clause-said : goal.returns-then-cell-known-clause-said
returns-then-cell-known-clause-said c =
    let e = (goal.at.returns-then-cell-known-clause-said c).In_ok-entry in
    set-mentioned c.register.new.self c.set_cell.new.self c.self.inside.count c.args.index (cell e) (said-first e) (fits e)
    (omega (arith, c.if-cell-known.true, c.cell_count-known.ensures)) c.set_cell.ensures
    ∙ front-first e

pub returns-then-cell-known-clause-spare : goal.returns-then-cell-known-clause-spare
returns-then-cell-known-clause-spare c =
    let e = (goal.at.returns-then-cell-known-clause-spare c).In_ok-entry in
    spare-then e c.set_cell.new.self
    (set-ready c.register.new.self c.set_cell.new.self c.self.inside.count c.args.index (cell e) (said-first e) (fits e)
    (omega (arith, c.if-cell-known.true, c.cell_count-known.ensures)) c.set_cell.ensures)

pub returns-then-cell-known-clause-row : goal.returns-then-cell-known-clause-row
returns-then-cell-known-clause-row c =
    let e = (goal.at.returns-then-cell-known-clause-row c).In_ok-entry in
    row-then e c.set_cell.new.self (slice_set c.register.new.self.cells (c.self.inside.count + c.args.index) (cell e)) c.set_cell.ensures

pub register_cell-requires : goal.register_cell-requires
register_cell-requires c = fits (goal.at.register_cell-requires c).In_ok-entry

pub invariant_of-self-in_err-register_cell : goal.invariant_of-self-in_err-register_cell
invariant_of-self-in_err-register_cell c =
    let e = (goal.at.invariant_of-self-in_err-register_cell c).In_ok-entry in
    subst (λ (x : Entries). AreSaid x c.self.inside.count) (sym c.in_err-register_cell.ensures.err) (said-first e)

pub returns-in_err-register_cell-clause-said : goal.returns-in_err-register_cell-clause-said
returns-in_err-register_cell-clause-said c =
    let e = (goal.at.returns-in_err-register_cell-clause-said c).In_ok-entry in
    ap (λ (x : Entries). mentions (used c.self.inside.count x)) c.in_err-register_cell.ensures.err ∙ front-first e

-- one more entry leaves the ready mentions unchanged
pub returns-in_err-register_cell-clause-err : goal.returns-in_err-register_cell-clause-err
returns-in_err-register_cell-clause-err c =
    let e = (goal.at.returns-in_err-register_cell-clause-err c).In_ok-entry in
    on-err c.from_residual-in_err-register_cell.result (map (mention_in c.register_cell.new.self.vars) (drop c.self.inside.count c.register_cell.new.self.cells) ≡ c.args.self.now.spare)
    (ap (λ (x : Entries). map (mention_in x.vars) (drop c.self.inside.count x.cells)) c.in_err-register_cell.ensures.err
    ∙ spare-first e)

pub returns-in_err-register_cell-clause-row : goal.returns-in_err-register_cell-clause-row
returns-in_err-register_cell-clause-row c =
    let e = (goal.at.returns-in_err-register_cell-clause-row c).In_ok-entry in
    subst (λ (x : Entries). KeepRow c.args.self.now.row x) (sym c.in_err-register_cell.ensures.err) (row-first e)

pub invariant_of-self-2 : goal.invariant_of-self-2
invariant_of-self-2 c =
    let e = (goal.at.invariant_of-self-2 c).In_ok-entry in
    added-said c.register.new.self c.register_cell.new.self c.self.inside.count c.args.index (cell e) (said-first e) (fits e)
    (omega (arith, c.if-cell-known.false, c.cell_count-known.ensures, c.requires, count-first e)) c.in_ok-register_cell.ensures.ok

pub returns-clause-said : goal.returns-clause-said
returns-clause-said c =
    let e = (goal.at.returns-clause-said c).In_ok-entry in
    added-mentioned c.register.new.self c.register_cell.new.self c.self.inside.count c.args.index (cell e) (said-first e) (fits e)
    (omega (arith, c.if-cell-known.false, c.cell_count-known.ensures, c.requires, count-first e)) c.in_ok-register_cell.ensures.ok
    ∙ front-first e

pub returns-clause-spare : goal.returns-clause-spare
returns-clause-spare c =
    let e = (goal.at.returns-clause-spare c).In_ok-entry in
    spare-then e c.register_cell.new.self
    (added-ready c.register.new.self c.register_cell.new.self c.self.inside.count c.args.index (cell e) (said-first e) (fits e)
    (omega (arith, c.if-cell-known.false, c.cell_count-known.ensures, c.requires, count-first e)) c.in_ok-register_cell.ensures.ok)

pub returns-clause-row : goal.returns-clause-row
returns-clause-row c =
    let e = (goal.at.returns-clause-row c).In_ok-entry in
    row-then e c.register_cell.new.self (c.register.new.self.cells ++ cell e ∷ []) c.in_ok-register_cell.ensures.ok
