-- The contents of fields, after one more field.
use Rattle.std.proofs.Common.{◌≡◌, ℕ, Bool, true, false, ◌||◌, cond, List, [], ◌∷◌, ◌++◌, Option, Some, refl, sym, ap, ◌∙◌}
use Rattle.std.specs.Prelude.{flat_map}
use Rattle.std.specs.List.{list_any}
use Rattle.std.specs.Option.{option_or}
use Rattle.text_grammar.proofs.LastValue.{last_push}
use Rattle.std.proofs.lemmas.Grind.{flat_map-append}
use Rattle.std.proofs.lemmas.List.{append-nil}
use Rattle.unit_record.specs.Fields.{Field}
use Rattle.unit_record.specs.Record.{is_lib_name, name_of, version_of, id_of, depends_of, is_bad, first_bad, contents}
use Rattle.unit_record.specs.declared.field.RecordSaid.{RecordSaid}
use Rattle.unit_record.specs.declared.field.RecordSaid.TheVariants.{Name, Version, Id, Depends, LibName, Unread}
use Rattle.unit_record.specs.declared.contents.Contents.{Contents}

or_swap : (a b r : Bool) → (a || (b || r)) ≡ (b || (a || r))
or_swap true true r = refl
or_swap true false r = refl
or_swap false true r = refl
or_swap false false r = refl

any_push : (f : Field → Bool) (fields : List Field) (x : Field) → list_any f (fields ++ x ∷ []) ≡ (f x || list_any f fields)
any_push f [] x = refl
any_push f (y ∷ ys) x = ap (λ r. f y || r) (any_push f ys x) ∙ or_swap (f y) (f x) (list_any f ys)

bad_push-cons : (t b : Bool) (at line : ℕ) (more : Option ℕ) →
    cond t (Some at) (cond b (option_or more (Some line)) more) ≡ cond b (option_or (cond t (Some at) more) (Some line)) (cond t (Some at) more)
bad_push-cons true true at line more = refl
bad_push-cons true false at line more = refl
bad_push-cons false b at line more = refl

bad_push : (fields : List Field) (x : Field) → first_bad (fields ++ x ∷ []) ≡ cond (is_bad x.said) (option_or (first_bad fields) (Some x.line)) (first_bad fields)
bad_push [] x = refl
bad_push (y ∷ ys) x = ap (λ r. cond (is_bad y.said) (Some y.line) r) (bad_push ys x) ∙ bad_push-cons (is_bad y.said) (is_bad x.said) y.line x.line (first_bad ys)

abbrev depends_after : RecordSaid → List (List ℕ) → List (List ℕ)
depends_after (Name name) old = old
depends_after (Version version) old = old
depends_after (Id id) old = old
depends_after (Depends ids) old = old ++ ids
depends_after LibName old = old
depends_after Unread old = old

after_said : (said : RecordSaid) (old : List (List ℕ)) → old ++ depends_of said ≡ depends_after said old
after_said (Name name) old = append-nil old
after_said (Version version) old = append-nil old
after_said (Id id) old = append-nil old
after_said (Depends ids) old = refl
after_said LibName old = append-nil old
after_said Unread old = append-nil old

depends_push : (fields : List Field) (x : Field) →
    flat_map (λ (field : Field). depends_of field.said) (fields ++ x ∷ []) ≡ depends_after x.said (flat_map (λ (field : Field). depends_of field.said) fields)
depends_push fields x =
    let of = λ (field : Field). depends_of field.said in
    flat_map-append of fields (x ∷ []) ∙ ap (λ more. flat_map of fields ++ more) (append-nil (depends_of x.said)) ∙ after_said x.said (flat_map of fields)

-- the contents with one more field
abbrev pub pushed : Contents → ℕ → RecordSaid → Contents
pushed t line said =
    record {
      left_out = is_lib_name said || t.left_out;
      bad = cond (is_bad said) (option_or t.bad (Some line)) t.bad;
      name = option_or (name_of said) t.name;
      version = option_or (version_of said) t.version;
      id = option_or (id_of said) t.id;
      depends = depends_after said t.depends;
    }

told_push : (fields : List Field) (line : ℕ) (said : RecordSaid) → pushed (contents fields) line said ≡ contents (fields ++ record { line = line; said = said } ∷ [])
told_push fields line said =
    let x : Field = record { line = line; said = said } in
    sym (λ i. record {
      left_out = any_push (λ field. is_lib_name field.said) fields x i;
      bad = bad_push fields x i;
      name = last_push (λ (field : Field). name_of field.said) fields x i;
      version = last_push (λ (field : Field). version_of field.said) fields x i;
      id = last_push (λ (field : Field). id_of field.said) fields x i;
      depends = depends_push fields x i;
    })

pub goes : (t : Contents) (line : ℕ) (said : RecordSaid) {given : RecordSaid} → given ≡ said → (fields : List Field) → t ≡ contents fields → pushed t line said ≡ contents (fields ++ record { line = line; said = given } ∷ [])
goes t line said is fields before =
    ap (λ s. pushed s line said) before ∙ told_push fields line said ∙ ap (λ s. contents (fields ++ record { line = line; said = s } ∷ [])) (sym is)
