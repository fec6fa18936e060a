-- The table of the files' positions after one more file.
use Rattle.std.proofs.Common.{◌≡◌, ◌≢◌, inl, inr, ℕ, zero, suc, ◌<◌, Bool, true, false, cond, List, [], ◌∷◌, ◌++◌, length, get_or, Option, Some, None, refl, sym, subst, ap, ◌∙◌, arith, length-append}
use Rattle.std.specs.Prelude.{MatchOption, String}
use Rattle.std.specs.BTreeMap.{BTreeMap, get_by_text}
use Rattle.std.specs.Str.{bytes_eq}
use Rattle.std.specs.declared.alloc.Global.{Global}
use Rattle.std.proofs.lemmas.Bool.{cases_lt, false≢true}
use Rattle.std.proofs.lemmas.List.{get_or_append_left, get_or_push}
use Rattle.std.proofs.lemmas.Slice.Eq.{bytes_eq-Decides}
use Rattle.outside_folder.specs.Files.{Bytes, file_at}
use Rattle.outside_folder.specs.MemFile.{told, Placed, AreDistinct}
use Rattle.outside_folder.specs.declared.mem_folder.MemFile.{MemFile}

abbrev or_else : Option Bytes → Option Bytes → Option Bytes
or_else None other = other
or_else (Some a) other = Some a

push_step : (t u : Bool) (a b : Bytes) (more : Option Bytes) → cond t (Some a) (or_else more (cond u (Some b) None)) ≡ or_else (cond t (Some a) more) (cond u (Some b) None)
push_step true u a b more = refl
push_step false u a b more = refl

file_at_push : (files : List MemFile) (f : MemFile) (path : Bytes) → file_at (told (files ++ f ∷ [])) path ≡ or_else (file_at (told files) path) (cond (bytes_eq f.path path) (Some f.bytes) None)
file_at_push [] f path = refl
file_at_push (g ∷ gs) f path =
    ap (λ r. cond (bytes_eq g.path path) (Some g.bytes) r) (file_at_push gs f path) ∙ push_step (bytes_eq g.path path) (bytes_eq f.path path) g.bytes f.bytes (file_at (told gs) path)

found_cons : (g : MemFile) (gs : List MemFile) (path bytes : Bytes) (t : Bool) → bytes_eq g.path path ≡ t → cond t (Some g.bytes) (file_at (told gs) path) ≡ Some bytes →
    (file_at (told gs) path ≡ Some bytes → (k : ℕ) × (k < length gs) × ((d : MemFile) → (get_or gs k d).path ≡ path)) → (k : ℕ) × (k < length (g ∷ gs)) × ((d : MemFile) → (get_or (g ∷ gs) k d).path ≡ path)
found_cons g gs path bytes true e is later = (0, omega arith, λ d. (bytes_eq-Decides g.path path).0 e)
found_cons g gs path bytes false e is later = let r = later is in (suc r.0, omega (arith, r.1), r.2)

-- if a file is found at a path, one of the files has the path
pub found : (files : List MemFile) (path bytes : Bytes) → file_at (told files) path ≡ Some bytes → (k : ℕ) × (k < length files) × ((d : MemFile) → (get_or files k d).path ≡ path)
found [] path bytes is = absurd (cc)
found (g ∷ gs) path bytes is = found_cons g gs path bytes (bytes_eq g.path path) refl is (found gs path bytes)

missing_cons : (a : Bytes) (more : Option Bytes) (t : Bool) → cond t (Some a) more ≡ None → (t ≡ false) × (more ≡ None)
missing_cons a more true is = absurd (cc)
missing_cons a more false is = (refl, is)

-- if no file is found at a path, no file has the path
pub missing : (files : List MemFile) (path : Bytes) → file_at (told files) path ≡ None → (k : ℕ) (d : MemFile) → k < length files → (get_or files k d).path ≢ path
missing [] path is k d lt = absurd (omega (arith, lt))
missing (g ∷ gs) path is zero d lt = λ e. false≢true (sym (missing_cons g.bytes (file_at (told gs) path) (bytes_eq g.path path) is).0 ∙ (bytes_eq-Decides g.path path).1 e)
missing (g ∷ gs) path is (suc k) d lt = missing gs path (missing_cons g.bytes (file_at (told gs) path) (bytes_eq g.path path) is).1 k d (omega (arith, lt))

abbrev pub Table : Type 0
Table = BTreeMap (String Global) ℕ

abbrev At : List MemFile → Bytes → Option ℕ → Type 0
At files path place = MatchOption place (file_at (told files) path ≡ None) (λ place. (place < length files) × ((d : MemFile) → file_at (told files) path ≡ Some (get_or files place d).bytes))

to_at : (files : List MemFile) (path : Bytes) (place : Option ℕ) →
    (place ≡ None → file_at (told files) path ≡ None) × ((n : ℕ) → place ≡ Some n → (n < length files) × ((d : MemFile) → file_at (told files) path ≡ Some (get_or files n d).bytes)) → At files path place
to_at files path None h = h.0 refl
to_at files path (Some n) h = h.1 n refl

from_at : (files : List MemFile) (path : Bytes) (place : Option ℕ) → At files path place →
    (place ≡ None → file_at (told files) path ≡ None) × ((n : ℕ) → place ≡ Some n → (n < length files) × ((d : MemFile) → file_at (told files) path ≡ Some (get_or files n d).bytes))
from_at files path place h = ((λ e. subst (At files path) e h), λ n e. subst (At files path) e h)

kept : (files : List MemFile) (f : MemFile) (path : Bytes) (place : Option ℕ) → bytes_eq f.path path ≡ false → At files path place → At (files ++ f ∷ []) path place
kept files f path None other h = file_at_push files f path ∙ ap (λ r. or_else r (cond (bytes_eq f.path path) (Some f.bytes) None)) h ∙ ap (λ t. cond t (Some f.bytes) None) other
kept files f path (Some place) other h = (
  omega (arith, h.0, length-append files (f ∷ [])),
  λ d. file_at_push files f path ∙ ap (λ r. or_else r (cond (bytes_eq f.path path) (Some f.bytes) None)) (h.1 d) ∙ ap (λ g. Some g.bytes) (sym (get_or_append_left files (f ∷ []) d place h.0)),
)

new_at : (files : List MemFile) (f : MemFile) (path : Bytes) → bytes_eq f.path path ≡ true → file_at (told files) f.path ≡ None → At (files ++ f ∷ []) path (Some (length files))
new_at files f path same none = (
  omega (arith, length-append files (f ∷ [])),
  λ d. file_at_push files f path
      ∙ ap (λ r. or_else r (cond (bytes_eq f.path path) (Some f.bytes) None)) (subst (λ p. file_at (told files) p ≡ None) ((bytes_eq-Decides f.path path).0 same) none)
      ∙ ap (λ t. cond t (Some f.bytes) None) same ∙ ap (λ g. Some g.bytes) (sym (get_or_push files f d (length files) refl)),
)

placed_cases : (files : List MemFile) (f : MemFile) (path : Bytes) (t : Bool) (old : Option ℕ) → bytes_eq f.path path ≡ t → file_at (told files) f.path ≡ None → At files path old →
    At (files ++ f ∷ []) path (cond t (Some (length files)) old)
placed_cases files f path true old is none h = new_at files f path is none
placed_cases files f path false old is none h = kept files f path old is h

pub placed_push : (files : List MemFile) (f : MemFile) (places places' : Table) → Placed files places → get_by_text places f.path ≡ None →
    ((path : Bytes) → get_by_text places' path ≡ cond (bytes_eq f.path path) (Some (length files)) (get_by_text places path)) → Placed (files ++ f ∷ []) places'
placed_push files f places places' before none step path =
    let missing = (before f.path).0 none in
    from_at (files ++ f ∷ []) path (get_by_text places' path)
    (subst (At (files ++ f ∷ []) path) (sym (step path))
    (placed_cases files f path (bytes_eq f.path path) (get_by_text places path) refl missing (to_at files path (get_by_text places path) (before path))))

pub distinct_push : (files : List MemFile) (f : MemFile) → AreDistinct files → file_at (told files) f.path ≡ None → AreDistinct (files ++ f ∷ [])
distinct_push files f before none i j d ij within = elim (cases_lt j (length files)) [
  | inl lt ↦ λ e. before i j d ij lt (ap (λ g. g.path) (sym (get_or_append_left files (f ∷ []) d i (omega (arith, ij, lt)))) ∙ e ∙ ap (λ g. g.path) (get_or_append_left files (f ∷ []) d j lt))
  | inr ge ↦
      let last : j ≡ length files = omega (arith, ge, within, length-append files (f ∷ [])) in
      λ e. missing files f.path none i d (omega (arith, ij, last))
      (ap (λ g. g.path) (sym (get_or_append_left files (f ∷ []) d i (omega (arith, ij, last)))) ∙ e ∙ ap (λ k. (get_or (files ++ f ∷ []) k d).path) last ∙ ap (λ g. g.path) (get_or_push files f d (length files) refl))
]

pub placed_at : (files : List MemFile) (places : Table) (path : Bytes) (n : ℕ) → Placed files places → get_by_text places path ≡ Some n →
    (n < length files) × ((d : MemFile) → file_at (told files) path ≡ Some (get_or files n d).bytes)
placed_at files places path n placed is = (placed path).1 n is

pub not_placed : (files : List MemFile) (places : Table) (path : Bytes) → Placed files places → get_by_text places path ≡ None → file_at (told files) path ≡ None
not_placed files places path placed is = (placed path).0 is
