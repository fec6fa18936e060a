use Rattle.std.proofs.Common.{◌≡◌, ap, ◌∙◌, sym, flat_map, codes, ◌++◌, ◌∷◌, [], append_assoc}
use Rattle.std.proofs.lemmas.Result.{on_ok_weaker}
use Rattle.plan_generate.specs.Text.{depends_line, name, name_behind}
use Rattle.plan_generate.proofs.text.push_depends.Goals as goal

pub returns : goal.returns
returns c =
    let before = c.args.text.now in
    let word = codes "  build-depends: " in
    let own = name c.in-Some.first.now in
    let others = flat_map name_behind c.in-Some.others.now in
    let end = 10 ∷ [] in
    let needs : c.args.needs.now ≡ c.in-Some.first.now ∷ c.in-Some.others.now = c.in-Some.ensures.cases.0 in
    on_ok_weaker c.push_str-2.result
    (λ is.
    is
    ∙ ap (λ l. l ++ end) c.in_ok-push_others.ensures
    ∙ ap (λ l. (l ++ others) ++ end) (c.in_ok-push_name.ensures ∙ ap (λ l. l ++ own) c.in_ok-push_str.ensures.ok)
    ∙ ap (λ l. (l ++ others) ++ end) (append_assoc before word own)
    ∙ ap (λ l. l ++ end) (append_assoc before (word ++ own) others)
    ∙ append_assoc before ((word ++ own) ++ others) end
    ∙ ap (λ l. before ++ depends_line l) (sym needs))
    c.push_str-2.ensures.ok
