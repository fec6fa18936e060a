-- The names in each directory after one more path.
use Rattle.std.proofs.Common.{◌≡◌, ◌≢◌, ⊎_elim, ℕ, ◌+◌, ◌<◌, ◌≤◌, Bool, true, false, cond, List, [], ◌∷◌, ◌++◌, length, take, get_or, Option, Some, None, refl, sym, subst, ap, ◌∙◌, arith, length-take}
use Rattle.std.specs.Prelude.{is_some, fold}
use Rattle.std.specs.BTreeMap.{BTreeMap, get_by_text}
use Rattle.std.specs.Option.{option_map}
use Rattle.std.specs.Str.{bytes_eq}
use Rattle.std.proofs.lemmas.Bool.{cases_Bool, cases_lt, cases_eq, false≢true}
use Rattle.std.proofs.lemmas.List.{take_more, take_all}
use Rattle.std.proofs.lemmas.Slice.Eq.{bytes_eq-Decides}
use Rattle.fallible_values.specs.declared.text.Text.{Text}
use Rattle.outside_folder.specs.Files.{Bytes, first_name, inside, is_under, name_in, names_in, slash, with_name}
use Rattle.outside_folder.specs.MemFile.{told, Dirs, Listed, AddsAt, IsFront, entries_of, names_at}
use Rattle.outside_folder.specs.declared.mem_folder.MemFile.{MemFile}
use Rattle.outside_folder.proofs.FileTrees.{front_under}

fold_push : (dir : Bytes) (files : List MemFile) (f : MemFile) (names : List (Bytes × Bool)) →
    fold (λ names file. with_name names (name_in dir file.0)) names (told (files ++ f ∷ [])) ≡ with_name (fold (λ names file. with_name names (name_in dir file.0)) names (told files)) (name_in dir f.path)
fold_push dir [] f names = refl
fold_push dir (g ∷ gs) f names = fold_push dir gs f (with_name names (name_in dir g.path))

pub listed_more : (files : List MemFile) (n : ℕ) (f : MemFile) (old new : Dirs) → n < length files → f ≡ get_or files n f → Listed (take n files) old →
    ((dir : Bytes) → names_at new dir ≡ with_name (names_at old dir) (name_in dir f.path)) → Listed (take (n + 1) files) new
listed_more files n f old new lt is before step dir =
    step dir ∙ ap (λ names. with_name names (name_in dir f.path)) (before dir) ∙ sym (fold_push dir (take n files) f [])
    ∙ ap (λ fs. names_in (told fs) dir) (sym (take_more files n f lt ∙ ap (λ x. take n files ++ x ∷ []) (sym is)))

pub listed_all : (files : List MemFile) (n : ℕ) (dirs : Dirs) → length files ≤ n → Listed (take n files) dirs → Listed files dirs
listed_all files n dirs over = subst (λ fs. Listed fs dirs) (take_all n files over)

no_name : (rest : Option Bytes) → is_some rest ≡ false → option_map first_name rest ≡ None
no_name None h = refl
no_name (Some r) h = absurd (cc)

-- a path has no next name below a directory that isn't above it
outside : (dir path : Bytes) → 0 < length dir → is_under dir path ≡ false → name_in dir path ≡ None
outside [] path lt h = absurd (omega (arith, lt))
outside (b ∷ bs) path lt h = no_name (inside (b ∷ bs) path) h

unless_under : (dir path : Bytes) → (IsFront path (length dir) → take (length dir) path ≡ dir → ⊥) → is_under dir path ≡ false
unless_under dir path never = ⊎_elim (λ h. absurd (let f = front_under dir path h in never f.0 f.1)) (λ h. h) (cases_Bool (is_under dir path))

unchanged : (names : List (Bytes × Bool)) (dir path : Bytes) → 0 < length dir → (IsFront path (length dir) → take (length dir) path ≡ dir → ⊥) → names ≡ with_name names (name_in dir path)
unchanged names dir path lt never = ap (with_name names) (sym (outside dir path lt (unless_under dir path never)))

pub adds_nothing : (dirs : Dirs) (path : Bytes) (end : ℕ) → 0 < end → get_or path end 0 ≢ slash → AddsAt dirs dirs path end
adds_nothing dirs path end begun other = (
  (λ dir len. unchanged (names_at dirs dir) dir path (omega (arith, len, begun)) (λ f e. other (ap (λ n. get_or path n 0) (sym len) ∙ f.1))),
  λ dir len. refl,
)

abbrev pub AddsIn : Dirs → Dirs → Bytes → Bytes → Type 0
AddsIn old new dir path = (other : Bytes) → names_at new other ≡ cond (bytes_eq dir other) (with_name (names_at old dir) (name_in dir path)) (names_at old other)

differs : (dir other : Bytes) → (dir ≡ other → ⊥) → bytes_eq dir other ≡ false
differs dir other never = ⊎_elim (λ h. absurd (never ((bytes_eq-Decides dir other).0 h))) (λ h. h) (cases_Bool (bytes_eq dir other))

pub adds_front : (old new : Dirs) (path : Bytes) (end : ℕ) → 0 < end → end < length path → AddsIn old new (take end path) path → AddsAt old new path end
adds_front old new path end begun within step =
    let front = take end path in
    let len : length front ≡ end = omega (arith, length-take end path, within) in (
      (λ dir same. ⊎_elim
          (λ h. let e = (bytes_eq-Decides front dir).0 h in
          step dir ∙ ap (λ t. cond t (with_name (names_at old front) (name_in front path)) (names_at old dir)) h ∙ ap (λ d. with_name (names_at old d) (name_in d path)) e)
          (λ h. step dir ∙ ap (λ t. cond t (with_name (names_at old front) (name_in front path)) (names_at old dir)) h
          ∙ unchanged (names_at old dir) dir path (omega (arith, same, begun)) (λ f e. false≢true (sym h ∙ (bytes_eq-Decides front dir).1 (ap (λ n. take n path) (sym same) ∙ e))))
          (cases_Bool (bytes_eq front dir))),
      λ dir other. step dir
          ∙ ap (λ t. cond t (with_name (names_at old front) (name_in front path)) (names_at old dir)) (differs front dir (λ e. other (ap length (sym e) ∙ len))),
    )

-- the directories above the path with fewer bytes have its next name already; the others are unchanged
pub record Upto (old new : Dirs) (path : Bytes) (end : ℕ) : Type 0 where
  pub below : (dir : Bytes) → length dir < end → names_at new dir ≡ with_name (names_at old dir) (name_in dir path)
  pub rest : (dir : Bytes) → end ≤ length dir → names_at new dir ≡ names_at old dir

root_below : (old new : Dirs) (path dir : Bytes) → AddsIn old new [] path → length dir < 1 → names_at new dir ≡ with_name (names_at old dir) (name_in dir path)
root_below old new path [] step lt = step []
root_below old new path (b ∷ bs) step lt = absurd (omega (arith, lt))

root_rest : (old new : Dirs) (path dir : Bytes) → AddsIn old new [] path → 1 ≤ length dir → names_at new dir ≡ names_at old dir
root_rest old new path [] step le = absurd (omega (arith, le))
root_rest old new path (b ∷ bs) step le = step (b ∷ bs)

pub upto_root : (old new : Dirs) (path : Bytes) → AddsIn old new [] path → Upto old new path 1
upto_root old new path step = record { below = λ dir lt. root_below old new path dir step lt; rest = λ dir le. root_rest old new path dir step le }

pub upto_more : (old mid new : Dirs) (path : Bytes) (end : ℕ) → Upto old mid path end → AddsAt mid new path end → Upto old new path (end + 1)
upto_more old mid new path end before step =
    record {
      below = λ dir lt. ⊎_elim
          (λ e. step.0 dir e ∙ ap (λ names. with_name names (name_in dir path)) (before.rest dir (omega (arith, e))))
          (λ n. step.1 dir n ∙ before.below dir (omega (arith, lt, n)))
          (cases_eq (length dir) end);
      rest = λ dir le. step.1 dir (λ e. omega (arith, le, e)) ∙ before.rest dir (omega (arith, le));
    }

pub upto_all : (old new : Dirs) (path : Bytes) (end : ℕ) → 1 ≤ end → length path ≤ end → Upto old new path end → (dir : Bytes) → names_at new dir ≡ with_name (names_at old dir) (name_in dir path)
upto_all old new path end begun over all dir = ⊎_elim
    (λ lt. all.below dir lt)
    (λ ge. all.rest dir ge ∙ unchanged (names_at old dir) dir path (omega (arith, ge, begun)) (λ f e. omega (arith, f.0, ge, over)))
    (cases_lt (length dir) end)

abbrev pub Names : Type 0
Names = BTreeMap Text Bool

entries_if : (t : Bool) (names : Names) (old : Option Names) → entries_of (cond t (Some names) old) ≡ cond t names.entries (entries_of old)
entries_if true names old = refl
entries_if false names old = refl

pub put_in : (old new : Dirs) (dir : Bytes) (names : Names) → ((other : Bytes) → get_by_text new other ≡ cond (bytes_eq dir other) (Some names) (get_by_text old other)) →
    (other : Bytes) → names_at new other ≡ cond (bytes_eq dir other) names.entries (names_at old other)
put_in old new dir names step other = ap entries_of (step other) ∙ entries_if (bytes_eq dir other) names (get_by_text old other)

pub taken_out : (old new : Dirs) (dir : Bytes) → ((other : Bytes) → get_by_text new other ≡ cond (bytes_eq dir other) None (get_by_text old other)) →
    (other : Bytes) → bytes_eq dir other ≡ false → names_at new other ≡ names_at old other
taken_out old new dir step other never = ap entries_of (step other ∙ ap (λ t. cond t None (get_by_text old other)) never)

if_false : {A : Type 0} (t : Bool) (a b c : A) → (t ≡ false → b ≡ c) → cond t a b ≡ cond t a c
if_false true a b c h = refl
if_false false a b c h = h refl

pub added_in : (old mid new : Dirs) (dir path : Bytes) (entries : List (Bytes × Bool)) → entries ≡ with_name (names_at old dir) (name_in dir path) →
    ((other : Bytes) → bytes_eq dir other ≡ false → names_at mid other ≡ names_at old other) →
    ((other : Bytes) → names_at new other ≡ cond (bytes_eq dir other) entries (names_at mid other)) → AddsIn old new dir path
added_in old mid new dir path entries is others put other =
    put other ∙ ap (λ e. cond (bytes_eq dir other) e (names_at mid other)) is
    ∙ if_false (bytes_eq dir other) (with_name (names_at old dir) (name_in dir path)) (names_at mid other) (names_at old other) (others other)

pub same_with : {a b c : List (Bytes × Bool)} {x y : Option (Bytes × Bool)} → c ≡ with_name a x → a ≡ b → x ≡ y → c ≡ with_name b y
same_with {a = a} {b = b} {x = x} {y = y} p q r = p ∙ ap (λ names. with_name names x) q ∙ ap (with_name b) r
