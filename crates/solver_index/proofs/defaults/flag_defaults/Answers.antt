use Rattle.std.proofs.Common.{◌≡◌, ◌+◌, ◌++◌, ◌∷◌, [], Bool, true, false, cond, nat_eq, Some, take, ap, ◌∙◌, sym}
use Rattle.std.specs.Prelude.{is_some}
use Rattle.std.proofs.lemmas.Bool.{eqb-true}
use Rattle.std.proofs.lemmas.List.{take_more}
use Rattle.indexmap.specs.IndexMap.{get}
use Rattle.plan_types.specs.declared.description.FlagDecl.{FlagDecl}
use Rattle.std.specs.Prelude.{find}
use Rattle.solver_index.specs.Defaults.{DefaultTable, has_number}
use Rattle.solver_index.proofs.DefaultLaws.{default_kept_of, first-stays, put-first}
use Rattle.solver_index.proofs.defaults.flag_defaults.Goals as goal
use Rattle.solver_index.proofs.defaults.flag_defaults.Goals.{then-not-contains_key+in_ok-insert, else-not-contains_key}

pub loop-decl-preserved : goal.loop-decl-preserved
loop-decl-preserved c = λ f.
    let flags = c.args.flags.now in
    let i = c.loop-decl.decl-index in
    let decl = c.decl-item.result in
    let number = c.flag_number-number.result in
    let old = c.loop-decl.defaults in
    let test : FlagDecl → Bool = has_number c.args.names.now f in
    let more : take (i + 1) flags ≡ take i flags ++ decl ∷ [] = take_more flags i decl c.loop-decl-test.true ∙ ap (λ d. take i flags ++ d ∷ []) (sym c.decl-item.is) in
    let whole = ap (λ l. default_kept_of (find test l)) (sym more) in
    let same : nat_eq number f ≡ test decl = ap (λ n. nat_eq n f) c.flag_number-number.ensures in
    let there = λ (b : Bool) (is : c.contains_key.result ≡ b) (h : test decl ≡ true).
    ap (λ n. is_some (get nat_eq old n)) (sym (eqb-true number f (same ∙ h))) ∙ sym c.contains_key.ensures ∙ is in
    elim c.if-not-contains_key.branch [
      | then-not-contains_key+in_ok-insert w ↦
          ap (λ (d : DefaultTable). get nat_eq d f) w.defaults-is ∙ w.in_ok-insert.ensures.updates.0 f ∙ ap (λ b. cond b (Some decl.default) (get nat_eq old f)) same
          ∙ put-first test (take i flags) decl (get nat_eq old f) (c.loop-decl.invariant f) (there false w.if-not-contains_key.true) ∙ whole
      | else-not-contains_key w ↦
          ap (λ (d : DefaultTable). get nat_eq d f) w.defaults-is ∙ first-stays test (take i flags) decl (get nat_eq old f) (c.loop-decl.invariant f) (there true w.if-not-contains_key.false) ∙ whole
    ]
