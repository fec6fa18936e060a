-- The name and the version of a record are well-formed.
use Rattle.std.proofs.Common.{◌≡◌, inr, ℕ, Bool, true, false, cond, List, [], ◌∷◌, Option, Some, None, Result, Ok, Err, refl, sym, subst, ap, ◌∙◌}
use Rattle.std.specs.Prelude.{IfSome, IfOk, IfErr, MatchResult}
use Rattle.plan_types.specs.Refusal.{RefusesAt}
use Rattle.plan_types.specs.declared.element.Element.{Element}
use Rattle.plan_types.specs.declared.refusal.Cause.TheVariants.{BadRecord}
use Rattle.plan_types.specs.declared.refusal.Fault.{Fault}
use Rattle.plan_types.specs.declared.refusal.Fault.TheVariants as fault
use Rattle.cabal_lexer.specs.Fault.{IsTree}
use Rattle.unit_record.proofs.Steps.{Tell}
use Rattle.plan_types.specs.Name.{is_package_name}
use Rattle.plan_types.specs.declared.index.UnitRecord.{UnitRecord}
use Rattle.plan_types.specs.declared.version.Version.{Version}
use Rattle.version_range.specs.Version.{is_version, IsVersionOf}
use Rattle.unit_record.specs.Fields.{Field, FieldSays, Say, TopField, field_word, top_fields}
use Rattle.unit_record.specs.Record.{IsRecord, complete, name_of, outcome, unless_bad, contents, version_of}
use Rattle.unit_record.specs.declared.field.RecordFieldWord.{RecordFieldWord}
use Rattle.unit_record.specs.declared.field.RecordFieldWord.TheVariants as fields
use Rattle.unit_record.specs.declared.field.RecordSaid.{RecordSaid}
use Rattle.unit_record.specs.declared.contents.Contents.{Contents}
use Rattle.std.specs.Option.{option_or}
use Rattle.text_grammar.specs.Last.{last_given}

abbrev pub IsName : List ℕ → Type 0
IsName name = is_package_name name ≡ true

abbrev pub HasForm : Version → Type 0
HasForm version = is_version version.parts ≡ true

name_if : (text : List ℕ) (t : Bool) → is_package_name text ≡ t → IfSome (cond t (Some text) None) IsName
name_if text true e = e
name_if text false e = tt

said_name : (word : RecordFieldWord) (text : List ℕ) (s : RecordSaid) → FieldSays word text s → IfSome (name_of s) IsName
said_name fields.Name text s says = subst (λ s. IfSome (name_of s) IsName) (sym says) (name_if text (is_package_name text) refl)
said_name fields.Version text s says = subst (λ s. IfSome (name_of s) IsName) (sym says.2) tt
said_name fields.Id text s says = subst (λ s. IfSome (name_of s) IsName) (sym says) tt
said_name fields.Depends text s says = subst (λ s. IfSome (name_of s) IsName) (sym says) tt
said_name fields.LibName text s says = subst (λ s. IfSome (name_of s) IsName) (sym says) tt
said_name fields.Unread text s says = subst (λ s. IfSome (name_of s) IsName) (sym says) tt

version_if : (text : List ℕ) (version : Option Version) → IsVersionOf text version → IfSome version HasForm
version_if text None h = tt
version_if text (Some version) h = h.0

said_version : (word : RecordFieldWord) (text : List ℕ) (s : RecordSaid) → FieldSays word text s → IfSome (version_of s) HasForm
said_version fields.Name text s says = subst (λ s. IfSome (version_of s) HasForm) (sym says) tt
said_version fields.Version text s says = subst (λ s. IfSome (version_of s) HasForm) (sym says.2) (version_if text says.0 says.1)
said_version fields.Id text s says = subst (λ s. IfSome (version_of s) HasForm) (sym says) tt
said_version fields.Depends text s says = subst (λ s. IfSome (version_of s) HasForm) (sym says) tt
said_version fields.LibName text s says = subst (λ s. IfSome (version_of s) HasForm) (sym says) tt
said_version fields.Unread text s says = subst (λ s. IfSome (version_of s) HasForm) (sym says) tt

if_else : {A : Type 0} (P : A → Type 0) (a b : Option A) → IfSome a P → IfSome b P → IfSome (option_or a b) P
if_else P None b p q = q
if_else P (Some a) b p q = p

module _ {A : Type 0} (P : A → Type 0) (of : RecordSaid → Option A) (each : (word : RecordFieldWord) (text : List ℕ) (s : RecordSaid) → FieldSays word text s → IfSome (of s) P) where
  last_if : (tops : List TopField) (all : List Field) → Say tops all → IfSome (last_given (λ (field : Field). of field.said) all) P
  last_if [] [] h = tt
  last_if [] (x ∷ xs) h = absurd h
  last_if (t ∷ ts) [] h = absurd h
  last_if (t ∷ ts) (x ∷ xs) h = if_else P (last_given (λ (field : Field). of field.said) xs) (of x.said) (last_if ts xs h.2) (each (field_word t.name) t.text x.said h.1)

module _ (P : UnitRecord → Type 0) where
  abbrev IfRecord : Result (Option UnitRecord) ℕ → Type 0
  IfRecord (Ok found) = IfSome found P
  IfRecord (Err line) = Unit {0}

  sound_if : (bad : Option ℕ) (r : Result (Option UnitRecord) ℕ) → IfRecord r → IfRecord (unless_bad bad r)
  sound_if None r h = h
  sound_if (Some line) r h = tt

  left_if : (t : Bool) (r : Result (Option UnitRecord) ℕ) → IfRecord r → IfRecord (cond t (Ok None) r)
  left_if true r h = tt
  left_if false r h = h

named : (name : Option (List ℕ)) (version : Option Version) (id : Option (List ℕ)) (depends : List (List ℕ)) → IfSome name IsName → IfRecord (λ r. IsName r.name) (complete name version id depends)
named None version id depends h = tt
named (Some name) None id depends h = tt
named (Some name) (Some version) None depends h = tt
named (Some name) (Some version) (Some id) depends h = h

formed : (name : Option (List ℕ)) (version : Option Version) (id : Option (List ℕ)) (depends : List (List ℕ)) → IfSome version HasForm → IfRecord (λ r. HasForm r.version) (complete name version id depends)
formed None version id depends h = tt
formed (Some name) None id depends h = tt
formed (Some name) (Some version) None depends h = tt
formed (Some name) (Some version) (Some id) depends h = h

outcome_name : (tops : List TopField) (all : List Field) → Say tops all → IfRecord (λ r. IsName r.name) (outcome (contents all))
outcome_name tops all h =
    let t = contents all in
    left_if (λ r. IsName r.name) t.left_out _ (sound_if (λ r. IsName r.name) t.bad _ (named t.name t.version t.id t.depends (last_if IsName name_of said_name tops all h)))

outcome_version : (tops : List TopField) (all : List Field) → Say tops all → IfRecord (λ r. HasForm r.version) (outcome (contents all))
outcome_version tops all h =
    let t = contents all in
    left_if (λ r. HasForm r.version) t.left_out _ (sound_if (λ r. HasForm r.version) t.bad _ (formed t.name t.version t.id t.depends (last_if HasForm version_of said_version tops all h)))

pub record_name : (tops : List TopField) (all : List Field) (found : Option UnitRecord) → Say tops all → outcome (contents all) ≡ Ok found → IfSome found (λ r. IsName r.name)
record_name tops all found says is = subst (IfRecord (λ r. IsName r.name)) is (outcome_name tops all says)

pub record_version : (tops : List TopField) (all : List Field) (found : Option UnitRecord) → Say tops all → outcome (contents all) ≡ Ok found → IfSome found (λ r. HasForm r.version)
record_version tops all found says is = subst (IfRecord (λ r. HasForm r.version)) is (outcome_version tops all says)

module _ (bytes : List ℕ) (items : List Element) (all : Contents) (tree : IsTree bytes items) (tell : Tell (top_fields items) all) where
  is : (r : Result (Option UnitRecord) ℕ) → outcome all ≡ r → IsRecord bytes r
  is r e = inr (items, tell.0, tree, tell.1, sym e ∙ ap outcome tell.2)

  -- the result of `outcome` for all contents
  abbrev pub Answer : Result (Option UnitRecord) Fault → Type 0
  Answer r = MatchResult r (λ found. outcome all ≡ Ok found) (RefusesAt (λ line cause. (cause ≡ BadRecord) × (outcome all ≡ Err line)))

  pub answer_record : (r : Result (Option UnitRecord) Fault) → Answer r → IfOk r (λ found. IsRecord bytes (Ok found))
  answer_record (Ok found) e = is (Ok found) e
  answer_record (Err fault) e = tt

  pub answer_fault : (r : Result (Option UnitRecord) Fault) → Answer r → IfErr r (RefusesAt (λ line cause. (cause ≡ BadRecord) × IsRecord bytes (Err line)))
  answer_fault (Ok found) e = tt
  answer_fault (Err fault.NoMemory) e = tt
  answer_fault (Err (fault.At line cause)) e = (e.0, is (Err line) e.1)

  pub answer_name : (r : Result (Option UnitRecord) Fault) → Answer r → IfOk r (λ found. IfSome found (λ r. IsName r.name))
  answer_name (Ok found) e = record_name (top_fields items) tell.0 found tell.1 (ap outcome (sym tell.2) ∙ e)
  answer_name (Err fault) e = tt

  pub answer_version : (r : Result (Option UnitRecord) Fault) → Answer r → IfOk r (λ found. IfSome found (λ r. HasForm r.version))
  answer_version (Ok found) e = record_version (top_fields items) tell.0 found tell.1 (ap outcome (sym tell.2) ∙ e)
  answer_version (Err fault) e = tt
