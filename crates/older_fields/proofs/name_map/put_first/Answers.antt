use Rattle.std.proofs.Common.{◌≡◌, ◌++◌, ◌∷◌, [], Option, None, Some, false, is_some, if◌then◌else◌, true≢false, refl, ap, ◌∙◌, sym}
use Rattle.indexmap.proofs.CallerLemmas.{insert_entry-new}
use Rattle.plan_types.specs.Bytes.{same_text}
use Rattle.older_fields.specs.NameMaps.{Entry}
use Rattle.older_fields.proofs.name_map.put_first.Goals as goal

none-from : {A : Type 0} (found : Option A) → is_some found ≡ false → found ≡ None
none-from None e = refl
none-from (Some x) e = absurd (true≢false e)

pub returns : goal.returns
returns c =
    let names = c.args.names.now in
    let entry : Entry = (c.args.name, c.args.text) in
    let new = sym c.contains_key.ensures ∙ c.if-contains_key.false in
    c.in_ok-insert.ensures.entries ∙ insert_entry-new same_text names c.args.name c.args.text (none-from _ new)
    ∙ sym (ap (λ b. if b then names.entries else names.entries ++ entry ∷ []) new)
