use Rattle.std.proofs.Common.{◌≡◌, ◌++◌, ap, ◌∙◌, sym}
use Rattle.std.specs.declared.result.Result.TheVariants.{Ok}
use Rattle.older_rules.specs.Modern.{all_changes, all_items, fault_of, lacks_setup, names_of, rewritten_file, sections_told, unless_fault}
use Rattle.older_rules.specs.Heads.{type_line}
use Rattle.older_fields.specs.Refused.{or_else}
use Rattle.older_rules.specs.Tops.{name_fault}
use Rattle.older_rules.specs.declared.modern.Modern.{Modern}
use Rattle.older_rules.proofs.modern.file.Goals as goal

modern-from : (m n : Modern) → n.items ≡ m.items → n.changes ≡ m.changes → m ≡ n
modern-from m n items changes =
    ap (λ x. record { items = x; changes = m.changes }) (sym items) ∙ ap (λ x. record { items = n.items; changes = x }) (sym changes)

pub returns-in-Some-clause-fault : goal.returns-in-Some-clause-fault
returns-in-Some-clause-fault c =
    let header = c.args.header in
    let heads = c.args.heads.now in
    let rest = c.args.rest.now in
    let named = c.name_fault-named.ensures ∙ ap (λ names. name_fault names rest) c.in_ok-names.ensures in
    let made = c.as_slice.ensures ∙ c.in_ok-made.ensures.items in
    let whole = c.in_ok-at.ensures
    ∙ ap (λ n. or_else n (fault_of header.edition c.in_ok-lacks.lacks c.type_line-line.result c.as_slice.result.now)) named
    ∙ ap (λ l. or_else (name_fault (names_of rest) rest) (fault_of header.edition l c.type_line-line.result c.as_slice.result.now)) c.in_ok-lacks.ensures
    ∙ ap (λ l. or_else (name_fault (names_of rest) rest) (fault_of header.edition (lacks_setup header.edition heads rest) l c.as_slice.result.now)) c.type_line-line.ensures
    ∙ ap (λ m. or_else (name_fault (names_of rest) rest) (fault_of header.edition (lacks_setup header.edition heads rest) (type_line header heads) m)) made in
    ap (λ f. unless_fault f (rewritten_file c.args.told header heads rest)) (sym whole ∙ c.in-Some.is)

pub returns-in_ok-joined-in-None-clause-modern : goal.returns-in_ok-joined-in-None-clause-modern
returns-in_ok-joined-in-None-clause-modern c =
    let header = c.args.header in
    let heads = c.args.heads.now in
    let rest = c.args.rest.now in
    let named = c.name_fault-named.ensures ∙ ap (λ names. name_fault names rest) c.in_ok-names.ensures in
    let made = c.as_slice.ensures ∙ c.in_ok-made.ensures.items in
    let whole = c.in_ok-at.ensures
    ∙ ap (λ n. or_else n (fault_of header.edition c.in_ok-lacks.lacks c.type_line-line.result c.as_slice.result.now)) named
    ∙ ap (λ l. or_else (name_fault (names_of rest) rest) (fault_of header.edition l c.type_line-line.result c.as_slice.result.now)) c.in_ok-lacks.ensures
    ∙ ap (λ l. or_else (name_fault (names_of rest) rest) (fault_of header.edition (lacks_setup header.edition heads rest) l c.as_slice.result.now)) c.type_line-line.ensures
    ∙ ap (λ m. or_else (name_fault (names_of rest) rest) (fault_of header.edition (lacks_setup header.edition heads rest) (type_line header heads) m)) made in
    let lacks = lacks_setup header.edition heads rest in
    let told = c.in_ok-made.ensures.changes ∙ ap (λ m. m ++ sections_told header.edition heads rest) c.new-more.ensures in
    let items = c.in_ok-joined-in-None.ensures.items ∙ ap (λ l. all_items header heads l c.in_ok-made.made) c.in_ok-lacks.ensures
    ∙ ap (all_items header heads lacks) c.in_ok-made.ensures.items in
    let changes = c.in_ok-joined-in-None.ensures.changes ∙ ap (λ l. all_changes header heads l c.args.told c.sections.new.changes) c.in_ok-lacks.ensures
    ∙ ap (all_changes header heads lacks c.args.told) told in
    ap (λ f. unless_fault f (rewritten_file c.args.told header heads rest)) (sym whole ∙ c.in-None.is)
    ∙ ap Ok (modern-from (rewritten_file c.args.told header heads rest) c.in_ok-joined-in-None.field-0 items changes)
