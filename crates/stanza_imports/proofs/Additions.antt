-- One more stanza, part or section.
use Rattle.std.proofs.Common.{◌≡◌, ℕ, Bool, true, false, if◌then◌else◌, length, List, [], ◌∷◌, ◌++◌, map, flat_map, sym, subst, ap, ◌∙◌, refl}
use Rattle.std.specs.List.{list_all}
use Rattle.std.proofs.lemmas.Grind.{flat_map-append}
use Rattle.std.proofs.lemmas.List.{append-nil, map-append}
use Rattle.std.proofs.lemmas.List.Folds.{list_all-append}
use Rattle.plan_types.specs.declared.description.CompKind.{CompKind}
use Rattle.section_syntax.specs.declared.part.SectionPart.{SectionPart}
use Rattle.section_syntax.specs.declared.part.Said.{Said}
use Rattle.section_syntax.specs.declared.part.Said.TheVariants as said
use Rattle.section_syntax.specs.declared.part.Section.{Section}
use Rattle.section_syntax.specs.declared.part.SectionKind.{SectionKind}
use Rattle.section_syntax.specs.declared.part.SectionKind.TheVariants as kinds
use Rattle.stanza_imports.specs.Imports.{under}
use Rattle.stanza_imports.specs.KnownStanzas.{Stanzas, all_replaced, parts_of, sections_from, stanzas_behind}
use Rattle.stanza_imports.specs.Names.{has, with_name}
use Rattle.stanza_imports.specs.Standing.{IsMore, ExpandsTo, Knows, AreBodiesSoFar, all_behind, is_within}
use Rattle.stanza_imports.specs.declared.stanzas.StanzaBody.{StanzaBody}
use Rattle.stanza_imports.specs.declared.stanzas.Bodies.{Bodies}
use Rattle.stanza_imports.specs.declared.stanzas.Built.{Built}
use Rattle.stanza_imports.specs.declared.stanzas.Stanzas as tables
use Rattle.stanza_imports.proofs.StanzaLookups.{has_already, found_already, found_too, has_too}
use Rattle.stanza_imports.proofs.BodyMeanings.{steps_kept, steps_below}
use Rattle.stanza_imports.proofs.BodyTurns.{in_turn-append}
use Rattle.stanza_imports.proofs.ImportOrder.{from-known}
use Rattle.std.proofs.lemmas.Bool.{and_from, and_parts}
use Rattle.stanza_imports.specs.Bodies.{body_parts, table, summary, built_component, shown_in, AreBodiesOf}

-- an import
pub imported : (known : Stanzas) (part : SectionPart) (names : List (List ℕ)) (fits : Bool) → part.said ≡ said.Import names fits →
    flat_map (λ name. map (under part.branches) (parts_of known name)) names ≡ all_replaced known (part ∷ [])
imported known part names fits is = rw is (sym (append-nil (flat_map (λ name. map (under part.branches) (parts_of known name)) names)))

-- any other part
pub itself : (known : Stanzas) (part : SectionPart) (one : Said) → part.said ≡ one → ((names : List (List ℕ)) (fits : Bool) → one ≡ said.Import names fits → ⊥) → part ∷ [] ≡ all_replaced known (part ∷ [])
itself known part (said.Import names fits) is other = absurd (other names fits refl)
itself known part (said.Depends deps) is other = rw is refl
itself known part (said.Buildable value) is other = rw is refl
itself known part (said.Visibility value) is other = rw is refl
itself known part (said.Default value) is other = rw is refl
itself known part (said.Manual value) is other = rw is refl
itself known part said.BuildTools is other = rw is refl
itself known part (said.Branch word condition fits) is other = rw is refl
itself known part said.Misplaced is other = rw is refl

table-push : (bodies : List StanzaBody) (body : StanzaBody) → table (bodies ++ body ∷ []) ≡ table bodies ++ body_parts (table bodies) body ∷ []
table-push bodies body = in_turn-append body_parts [] bodies (body ∷ [])

-- a stanza
module _ (known : Stanzas) (name : List ℕ) (parts : List SectionPart) (body : StanzaBody) (old new : tables.Stanzas) (knows : Knows known old) (means : ExpandsTo old.bodies.items body parts) where
  pub knows_new : has old.names name ≡ false → new.names ≡ with_name old.names name → new.bodies.items ≡ old.bodies.items ++ body ∷ [] → Knows (known ++ (name, parts) ∷ []) new
  knows_new is names bodies =
      let one : List ℕ × List SectionPart = (name, parts) in
      record {
        ones = knows.ones ++ one ∷ [];
        names =
            names ∙ ap (λ b. if b then old.names else (old.names ++ name ∷ [])) is
            ∙ ap (λ v. v ++ name ∷ []) knows.names ∙ sym (map-append (λ (s : List ℕ × List SectionPart). s.0) knows.ones (one ∷ []));
        parts =
            ap table bodies ∙ table-push old.bodies.items body
            ∙ (λ i. knows.parts i ++ means.parts i ∷ [])
            ∙ sym (map-append (λ (s : List ℕ × List SectionPart). s.1) knows.ones (one ∷ []));
        told =
            ap (map (λ (b : StanzaBody). b.summary)) bodies
            ∙ map-append (λ (b : StanzaBody). b.summary) old.bodies.items (body ∷ [])
            ∙ (λ i. knows.told i ++ (means.told ∙ ap summary (sym means.parts)) i ∷ [])
            ∙ sym (map-append summary (table old.bodies.items) (body_parts (table old.bodies.items) body ∷ []))
            ∙ ap (map summary) (sym (ap table bodies ∙ table-push old.bodies.items body));
        found = found_too known knows.ones name parts knows.has knows.found;
        has = has_too known knows.ones name parts knows.has;
      }

  pub knows_old : has old.names name ≡ true → new.names ≡ with_name old.names name → new.bodies.items ≡ old.bodies.items → Knows (known ++ (name, parts) ∷ []) new
  knows_old is names bodies =
      let there = ap (λ v. has v name) (sym knows.names) ∙ is in
      record {
        ones = knows.ones;
        names = names ∙ ap (λ b. if b then old.names else (old.names ++ name ∷ [])) is ∙ knows.names;
        parts = ap table bodies ∙ knows.parts;
        told = ap (map (λ (b : StanzaBody). b.summary)) bodies ∙ knows.told ∙ ap (λ v. map summary (table v)) (sym bodies);
        found = found_already known knows.ones name parts knows.has knows.found there;
        has = has_already known knows.ones name parts knows.has there;
      }

-- a section
behind-push : (known : Stanzas) (sections : List Section) (section : Section) → all_behind known (sections ++ section ∷ []) ≡ stanzas_behind (all_behind known sections) section
behind-push known [] section = refl
behind-push known (first ∷ sections) section = behind-push (stanzas_behind known first) sections section

sections-push : (known : Stanzas) (sections : List Section) (section : Section) →
    sections_from known (sections ++ section ∷ []) ≡ sections_from known sections ++ record section { parts = all_replaced (all_behind known sections) section.parts } ∷ []
sections-push known [] section = refl
sections-push known (first ∷ sections) section = ap (λ v. record first { parts = all_replaced known first.parts } ∷ v) (sections-push (stanzas_behind known first) sections section)

shown-push : (sections : List Section) (section : Section) →
    flat_map shown_in (sections_from [] (sections ++ section ∷ [])) ≡ flat_map shown_in (sections_from [] sections) ++ shown_in (record section { parts = all_replaced (all_behind [] sections) section.parts })
shown-push sections section =
    let one = record section { parts = all_replaced (all_behind [] sections) section.parts } in
    ap (flat_map shown_in) (sections-push [] sections section)
    ∙ flat_map-append shown_in (sections_from [] sections) (one ∷ [])
    ∙ ap (λ v. flat_map shown_in (sections_from [] sections) ++ v) (append-nil (shown_in one))

-- built components expand to the same parts when stanzas are added
module _ (stanzas more : List StanzaBody) where
  shown_kept : (built : List Built) → list_all (λ one. is_within (length stanzas) one.body) built ≡ true → map (built_component (table (stanzas ++ more))) built ≡ map (built_component (table stanzas)) built
  shown_kept [] e = refl
  shown_kept (one ∷ built) e =
      let here = is_within (length stanzas) one.body in let rest = list_all (λ (b : Built). is_within (length stanzas) b.body) built in
      (λ i. record {
        section = record one.section.now { parts = steps_kept stanzas more one.body.steps.items ((and_parts here rest e).0) i };
        kind = one.kind;
        told = one.body.summary;
      } ∷ shown_kept built ((and_parts here rest e).1) i)

  within_kept : (built : List Built) → list_all (λ one. is_within (length stanzas) one.body) built ≡ true → list_all (λ one. is_within (length (stanzas ++ more)) one.body) built ≡ true
  within_kept [] e = refl
  within_kept (one ∷ built) e =
      let here = is_within (length stanzas) one.body in let rest = list_all (λ (b : Built). is_within (length stanzas) b.body) built in
      and_from _ _ (steps_below stanzas more one.body.steps.items ((and_parts here rest e).0)) (within_kept built ((and_parts here rest e).1))

shown_one : (line : ℕ) (name : List ℕ) (parts : List SectionPart) (found : SectionKind) (kind : CompKind) → found ≡ kinds.Component kind →
    let one : Section = record { line = line; kind = found; name = name; parts = parts } in
    shown_in one ≡ record { section = one; kind = kind; told = summary parts } ∷ []
shown_one line name parts (kinds.Component found) kind is =
    let same : found ≡ kind = cc is in
    λ i. record { section = record { line = line; kind = kinds.Component found; name = name; parts = parts }; kind = same i; told = summary parts } ∷ []
shown_one line name parts kinds.Common kind is = absurd (cc is)
shown_one line name parts kinds.Flag kind is = absurd (cc is)
shown_one line name parts kinds.Setup kind is = absurd (cc is)

pub nothing_yet : (bodies : Bodies) → Knows [] bodies.stanzas → bodies.built.items ≡ [] → AreBodiesSoFar [] bodies
nothing_yet bodies knows none = record {
  knows = knows;
  within = ap (list_all (λ (b : Built). is_within (length bodies.stanzas.bodies.items) b.body)) none;
  shown = ap (map (built_component (table bodies.stanzas.bodies.items))) none;
}

pub stands : (sections : List Section) (bodies : Bodies) → AreBodiesSoFar sections bodies → AreBodiesOf sections bodies
stands sections bodies standing = record { shown = standing.shown ∙ ap (flat_map shown_in) (sym (from-known sections)) }

module _ (sections : List Section) (section : Section) (old new : Bodies) (standing : AreBodiesSoFar sections old) where
  pub common : section.kind ≡ kinds.Common → Knows (all_behind [] sections ++ (section.name, all_replaced (all_behind [] sections) section.parts) ∷ []) new.stanzas →
      IsMore old.stanzas.bodies.items new.stanzas.bodies.items → new.built.items ≡ old.built.items → AreBodiesSoFar (sections ++ section ∷ []) new
  common kind knows is_more same = record {
    knows = rw behind-push (rw kind knows);
    within =
        (λ i. list_all (λ (b : Built). is_within (length (is_more.1 i)) b.body) (same i))
        ∙ within_kept old.stanzas.bodies.items is_more.0 old.built.items standing.within;
    shown =
        (λ i. map (built_component (table (is_more.1 i))) (same i))
        ∙ shown_kept old.stanzas.bodies.items is_more.0 old.built.items standing.within
        ∙ standing.shown
        ∙ sym (shown-push sections section ∙ rw kind (append-nil (flat_map shown_in (sections_from [] sections))));
  }

  pub component : (kind : CompKind) (body : StanzaBody) (one : Built) → section.kind ≡ kinds.Component kind → ExpandsTo old.stanzas.bodies.items body (all_replaced (all_behind [] sections) section.parts) →
      new.stanzas ≡ old.stanzas → new.built.items ≡ old.built.items ++ one ∷ [] → one.section.now ≡ section → one.kind ≡ kind → one.body ≡ body → AreBodiesSoFar (sections ++ section ∷ []) new
  component kind body one is means stanzas built its_section its_kind its_body = record {
    knows = rw behind-push (rw is (subst (λ s. Knows (all_behind [] sections) s) (sym stanzas) standing.knows));
    within =
        (λ i. list_all (λ (b : Built). is_within (length (stanzas i).bodies.items) b.body) (built i))
        ∙ list_all-append (λ (b : Built). is_within (length old.stanzas.bodies.items) b.body) old.built.items (one ∷ [])
        ∙ and_from _ _ standing.within (and_from _ _ (ap (is_within (length old.stanzas.bodies.items)) its_body ∙ means.within) refl);
    shown =
        (λ i. map (built_component (table (stanzas i).bodies.items)) (built i))
        ∙ map-append (built_component (table old.stanzas.bodies.items)) old.built.items (one ∷ [])
        ∙ (λ i. standing.shown i ++ record {
          section = record (its_section i) { parts = (ap (body_parts (table old.stanzas.bodies.items)) its_body ∙ means.parts) i };
          kind = its_kind i;
          told = (ap (λ (b : StanzaBody). b.summary) its_body ∙ means.told) i;
        } ∷ [])
        ∙ sym (shown-push sections section ∙ ap (λ v. flat_map shown_in (sections_from [] sections) ++ v)
        (shown_one section.line section.name (all_replaced (all_behind [] sections) section.parts) section.kind kind is));
  }

  pub flag : section.kind ≡ kinds.Flag → new ≡ old → AreBodiesSoFar (sections ++ section ∷ []) new
  flag kind same = rw same (record {
    knows = rw behind-push (rw kind standing.knows);
    within = standing.within;
    shown = standing.shown ∙ sym (shown-push sections section ∙ rw kind (append-nil (flat_map shown_in (sections_from [] sections))));
  })

  pub setup : section.kind ≡ kinds.Setup → new ≡ old → AreBodiesSoFar (sections ++ section ∷ []) new
  setup kind same = rw same (record {
    knows = rw behind-push (rw kind standing.knows);
    within = standing.within;
    shown = standing.shown ∙ sym (shown-push sections section ∙ rw kind (append-nil (flat_map shown_in (sections_from [] sections))));
  })
