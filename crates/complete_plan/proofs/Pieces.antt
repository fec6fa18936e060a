-- Pieces of packages: of each node of a plan an instance is chosen, and it has the piece.
use Rattle.std.proofs.Common.{◌≡◌, ◌⊎◌, inl, inr, ⊎_elim, ◌+◌, ℕ, zero, suc, Bool, true, false, ◌&&◌, if◌then◌else◌, List, [], ◌∷◌, length, map, Some, None, slice_get, refl, sym, subst, arith}
use Rattle.std.specs.List.{Contains, list_any}
use Rattle.std.proofs.lemmas.Bool.{and_parts, false≢true}
use Rattle.common_laws.specs.Lists.{any-at, contains-cases, contains-flat_map, contains-map, contains-none}
use Rattle.plan_types.specs.Bytes.{same_text}
use Rattle.plan_types.specs.Packages.{is_library, package_at}
use Rattle.plan_types.specs.declared.dependency.Dep.{Dep}
use Rattle.plan_types.specs.declared.dependency.DepKind.{DepKind}
use Rattle.plan_types.specs.declared.dependency.DepKind.TheVariants as dep_kind
use Rattle.plan_types.specs.declared.dependency.LibName.{LibName}
use Rattle.plan_types.specs.declared.dependency.LibName.TheVariants.{Main}
use Rattle.plan_types.specs.declared.description.CompKind.{CompKind}
use Rattle.plan_types.specs.declared.description.CompKind.TheVariants as comp
use Rattle.plan_types.specs.declared.description.Component.{Component}
use Rattle.plan_types.specs.declared.description.Description.{Description}
use Rattle.plan_types.specs.declared.index.Body.{Body}
use Rattle.plan_types.specs.declared.index.Body.TheVariants.{Source as SourceBody, Installed}
use Rattle.plan_types.specs.declared.index.Source.{Source}
use Rattle.flatten.specs.OwnComponents.{is_executable, is_lib, name_of}
use Rattle.qualified_goals.specs.declared.variable.Qual.{Qual}
use Rattle.qualified_goals.specs.declared.variable.Qual.TheVariants.{Top}
use Rattle.solver_index.specs.Places.{number, rising}
use Rattle.plan_components.specs.declared.node.Need.{Need}
use Rattle.plan_components.specs.declared.node.Node.{Node}
use Rattle.plan_components.specs.declared.node.Piece.{Piece}
use Rattle.plan_components.specs.declared.node.Piece.TheVariants.{Whole, One}
use Rattle.plan_components.specs.Chosen.{Selection, body_at, chosen_flags, condition_holds}
use Rattle.plan_components.specs.Needs.{meant_pieces, means, dep_needs, need_of, qual_of_dep}
use Rattle.plan_components.specs.Wanted.{as_pieces, first_nodes, first_of, first_pieces, first_places, is_asked, has_first_nodes, is_wanted_under, node_of, or_else, places, places_from}

-- ---- components at places

-- at a place stands a component that passes a test
pub record StandsAt (test : Component → Bool) (components : List Component) (place : ℕ) : Type 0 where
  pub component : Component
  pub at : slice_get components place ≡ Some component
  pub passes : test component ≡ true

weaker : (test other : Component → Bool) (components : List Component) (place : ℕ) → ((c : Component) → test c ≡ true → other c ≡ true)
    → StandsAt test components place → StandsAt other components place
weaker test other components place f s = record { component = s.component; at = s.at; passes = f s.component s.passes }

record StandsFrom (k : ℕ) (test : Component → Bool) (components : List Component) (place : ℕ) : Type 0 where
  i : ℕ
  is : place ≡ k + i
  stands : StandsAt test components i

stands-first : (k : ℕ) (test : Component → Bool) (c : Component) (components : List Component) (place : ℕ) → k ≡ place → test c ≡ true → StandsFrom k test (c ∷ components) place
stands-first k test c components place same passes = record { i = zero; is = omega (arith, same); stands = record { component = c; at = refl; passes = passes } }

stands-later : (k : ℕ) (test : Component → Bool) (c : Component) (components : List Component) (place : ℕ) → StandsFrom (suc k) test components place → StandsFrom k test (c ∷ components) place
stands-later k test c components place f = record {
  i = suc f.i;
  is = let is = f.is in omega (arith, is);
  stands = record { component = f.stands.component; at = f.stands.at; passes = f.stands.passes };
}

places-stand : (k : ℕ) (test : Component → Bool) (components : List Component) (place : ℕ) → Contains (places_from k test components) place → StandsFrom k test components place
places-stand k test [] place h = absurd (contains-none place h)
places-stand k test (c ∷ components) place h =
    let rest = places_from (suc k) test components in
    elim (test c) as (λ b. test c ≡ b → Contains (if b then k ∷ rest else rest) place → StandsFrom k test (c ∷ components) place) [
      | true ↦ λ e there. elim (contains-cases k rest place there) [
        | inl same ↦ stands-first k test c components place same e
        | inr r ↦ stands-later k test c components place (places-stand (suc k) test components place r)
      ]
      | false ↦ λ e there. stands-later k test c components place (places-stand (suc k) test components place there)
    ] refl h

pub places-at : (test : Component → Bool) (components : List Component) (place : ℕ) → Contains (places test components) place → StandsAt test components place
places-at test components place h =
    let f = places-stand 0 test components place h in
    let is = f.is in
    let same : f.i ≡ place = omega (arith, is) in
    subst (StandsAt test components) same f.stands

-- ---- pieces that fit

-- a unit is one piece, and so is a package with a setup script of its own; any other has components that are asked for
abbrev pub Fits : Selection → Qual → ℕ → Body → Piece → Type 0
Fits selection q p (Installed record_of needs) piece = piece ≡ Whole
Fits selection q p (SourceBody source) Whole = source.description.custom ≡ true
Fits selection q p (SourceBody source) (One place) = (source.description.custom ≡ false) × StandsAt (λ c. is_asked selection q p c.kind) source.description.components place

-- an instance is chosen that has the piece
pub record IsWell (selection : Selection) (node : Node) : Type 0 where
  pub body : Body
  pub at : body_at selection node.qual node.«package» ≡ Some body
  pub fits : Fits selection node.qual node.«package» body node.piece

module _ (selection : Selection) (q : Qual) (p : ℕ) where
  abbrev is_asked_one : Component → Bool
  is_asked_one c = is_asked selection q p c.kind

  pieces-fit : (source : Source) (custom : Bool) → source.description.custom ≡ custom → (ks : List ℕ)
      → ((k : ℕ) → Contains ks k → StandsAt is_asked_one source.description.components k)
      → (piece : Piece) → Contains (as_pieces custom ks) piece → Fits selection q p (SourceBody source) piece
  pieces-fit source false is ks each piece h =
      let found = contains-map One ks piece h in
      subst (Fits selection q p (SourceBody source)) found.2 (is, each found.0 found.1)
  pieces-fit source true is [] each piece h = absurd (contains-none piece h)
  pieces-fit source true is (k ∷ ks) each piece h =
      elim (contains-cases Whole [] piece h) [
        | inl same ↦ subst (Fits selection q p (SourceBody source)) same is
        | inr r ↦ absurd (contains-none piece r)
      ]

  only-whole : (piece : Piece) → Contains (Whole ∷ []) piece → piece ≡ Whole
  only-whole piece h = elim (contains-cases Whole [] piece h) [ inl same ↦ sym same | inr r ↦ absurd (contains-none piece r) ]

  -- ---- what a dependency asks for

  kind-asked : (kind : CompKind) → (is_library kind ≡ true) ⊎ (is_executable kind ≡ true) → is_asked selection q p kind ≡ true
  kind-asked comp.Library h = refl
  kind-asked comp.Executable h = refl
  kind-asked comp.Test h = absurd (⊎_elim (λ e. false≢true e) (λ e. false≢true e) h)
  kind-asked comp.Bench h = absurd (⊎_elim (λ e. false≢true e) (λ e. false≢true e) h)
  kind-asked comp.Foreign h = refl

  some-library : (libs : List LibName) (c : Component) → list_any (is_lib c) libs ≡ true → is_asked selection q p c.kind ≡ true
  some-library libs c h =
      let found = any-at (is_lib c) libs h in
      kind-asked c.kind (inl (and_parts (is_library c.kind) (same_text c.name (name_of found.0)) found.2).0)

  means-asked : (kind : DepKind) (dep : Dep) (c : Component) → means kind dep c ≡ true → is_asked selection q p c.kind ≡ true
  means-asked dep_kind.Library dep c h = some-library dep.libs c h
  means-asked dep_kind.Tool dep c h = kind-asked c.kind (inr (and_parts (is_executable c.kind) (same_text c.name dep.exe) h).0)
  means-asked dep_kind.Setup dep c h = some-library dep.libs c h

  dep-fits : (dep : Dep) (body : Body) (piece : Piece) → Contains (meant_pieces dep (Some body)) piece → Fits selection q p body piece
  dep-fits dep (Installed record_of needs) piece h = only-whole piece h
  dep-fits dep (SourceBody source) piece h =
      let d = source.description in
      pieces-fit source d.custom refl (places (means dep.kind dep) d.components)
      (λ k c. weaker (means dep.kind dep) is_asked_one d.components k (means-asked dep.kind dep) (places-at (means dep.kind dep) d.components k c)) piece h

  dep-well : (dep : Dep) (piece : Piece) → Contains (meant_pieces dep (body_at selection q p)) piece → IsWell selection (node_of q p piece)
  dep-well dep piece h =
      elim (body_at selection q p) as (λ o. body_at selection q p ≡ o → Contains (meant_pieces dep o) piece → IsWell selection (node_of q p piece)) [
        | None ↦ λ e there. absurd (contains-none piece there)
        | Some body ↦ λ e there. record { body = body; at = e; fits = dep-fits dep body piece there }
      ] refl h

pub need-well : (selection : Selection) (node : Node) (dep : Dep) (need : Need) → Contains (dep_needs selection node dep) need → IsWell selection need.node
need-well selection node dep need h =
    let t = number selection.packages selection.names dep.«package» in
    let q = qual_of_dep node dep t in
    let found = contains-map (need_of dep.kind q t) (meant_pieces dep (body_at selection q t)) need h in
    subst (λ (n : Need). IsWell selection n.node) found.2 (dep-well selection q t dep found.0 found.1)

-- ---- the nodes with which a plan begins

either : (xs ys : List ℕ) (x : ℕ) → Contains (or_else xs ys) x → Contains xs x ⊎ Contains ys x
either [] ys x h = inr h
either (k ∷ xs) ys x h = inl h

module _ (selection : Selection) where
  abbrev wanted_in : ℕ → Description → Component → Bool
  wanted_in p d = is_wanted_under selection Top p (chosen_flags selection Top p d)

  wanted-asked : (p : ℕ) (d : Description) (c : Component) → wanted_in p d c ≡ true → is_asked selection Top p c.kind ≡ true
  wanted-asked p d c h = (and_parts (is_asked selection Top p c.kind) (condition_holds selection.env (chosen_flags selection Top p d) c.build.buildable) h).0

  first-stands : (local : Bool) (p : ℕ) (d : Description) (k : ℕ) → Contains (first_places local (wanted_in p d) d.components) k
      → StandsAt (λ c. is_asked selection Top p c.kind) d.components k
  first-stands true p d k h = weaker (wanted_in p d) (λ c. is_asked selection Top p c.kind) d.components k (wanted-asked p d) (places-at (wanted_in p d) d.components k h)
  first-stands false p d k h =
      let library : Component → Bool = λ c. is_lib c Main && wanted_in p d c in
      let executable : Component → Bool = λ c. is_executable c.kind && wanted_in p d c in
      elim (either (places library d.components) (places executable d.components) k h) [
        | inl l ↦ weaker library (λ c. is_asked selection Top p c.kind) d.components k
            (λ c both. wanted-asked p d c (and_parts (is_lib c Main) (wanted_in p d c) both).1) (places-at library d.components k l)
        | inr r ↦ weaker executable (λ c. is_asked selection Top p c.kind) d.components k
            (λ c both. wanted-asked p d c (and_parts (is_executable c.kind) (wanted_in p d c) both).1) (places-at executable d.components k r)
      ]

  first-fits : (local : Bool) (p : ℕ) (body : Body) (piece : Piece) → Contains (first_pieces selection local p (Some body)) piece → Fits selection Top p body piece
  first-fits local p (Installed record_of needs) piece h = only-whole selection Top p piece h
  first-fits local p (SourceBody source) piece h =
      let d = source.description in
      pieces-fit selection Top p source d.custom refl (first_places local (wanted_in p d) d.components) (first-stands local p d) piece h

  first-piece : (local : Bool) (p : ℕ) (piece : Piece) → Contains (first_pieces selection local p (body_at selection Top p)) piece → IsWell selection (node_of Top p piece)
  first-piece local p piece h =
      elim (body_at selection Top p) as (λ o. body_at selection Top p ≡ o → Contains (first_pieces selection local p o) piece → IsWell selection (node_of Top p piece)) [
        | None ↦ λ e there. absurd (contains-none piece there)
        | Some body ↦ λ e there. record { body = body; at = e; fits = first-fits local p body piece there }
      ] refl h

  first-of-package : (p : ℕ) (node : Node) → Contains (first_of selection p) node → IsWell selection node
  first-of-package p node h =
      let of_package = package_at selection.packages p in
      let pieces = first_pieces selection of_package.local p (body_at selection Top p) in
      elim (has_first_nodes of_package) as (λ b. Contains (if b then map (node_of Top p) pieces else []) node → IsWell selection node) [
        | true ↦ λ there.
            let found = contains-map (node_of Top p) pieces node there in
            subst (IsWell selection) found.2 (first-piece of_package.local p found.0 found.1)
        | false ↦ λ there. absurd (contains-none node there)
      ] h

  pub first-well : (node : Node) → Contains (first_nodes selection) node → IsWell selection node
  first-well node h =
      let found = contains-flat_map (first_of selection) (rising (length selection.packages)) node h in
      first-of-package found.0 node found.2
