-- A name is at most once in a list of names in byte order.
use Rattle.std.proofs.Common.{◌≡◌, Bool, true, false, cond, List, [], ◌∷◌, ◌||◌, Option, Some, None, refl, sym, ap, ◌∙◌, subst, inl, inr}
use Rattle.std.specs.Prelude.{filter, fold}
use Rattle.std.specs.List.{AllByRecursion, list_any}
use Rattle.std.specs.BTreeMap.{insert_entry}
use Rattle.std.specs.Cmp.Lexicographic.{slice_cmp, nat_list_cmp_total}
use Rattle.std.specs.Ordering.{nat_cmp, match_ordering, ordering_reverse}
use Rattle.std.specs.declared.cmp.Ordering.{Ordering}
use Rattle.std.specs.declared.cmp.Ordering.TheVariants.{Less, Equal, Greater}
use Rattle.std.proofs.lemmas.Bool.{cases_Bool}
use Rattle.std.proofs.lemmas.Map.Lookups.{exact_bytes}
use Rattle.common_laws.specs.Small.{same-is}
use Rattle.plan_types.specs.Bytes.{same_text}
use Rattle.outside_folder.specs.Files.{Bytes, Files, name_in, names_in, with_name}

abbrev Entry : Type 0
Entry = Bytes × Bool

abbrev order : Bytes → Bytes → Ordering
order = slice_cmp nat_cmp

-- the name is less than those of all these entries
abbrev IsBelow : Bytes → List Entry → Type 0
IsBelow name entries = AllByRecursion (λ entry. order name entry.0 ≡ Less) entries

-- the names are in byte order, each once
abbrev Rises : List Entry → Type 0
Rises [] = Unit {0}
Rises (e ∷ es) = IsBelow e.0 es × Rises es

-- the entries of a name
abbrev pub of_name : Bytes → List Entry → List Entry
of_name name entries = filter (λ entry. same_text name entry.0) entries

below-more : (low name : Bytes) (es : List Entry) → order low name ≡ Less → IsBelow name es → IsBelow low es
below-more low name [] less h = tt
below-more low name (e ∷ es) less h = (nat_list_cmp_total.trans low name e.0 less h.0, below-more low name es less h.1)

differ : (name other : Bytes) → (name ≡ other → ⊥) → same_text name other ≡ false
differ name other never = elim (cases_Bool (same_text name other)) [ inl t ↦ absurd (never (same-is name other t)) | inr f ↦ f ]

less-differ : (name other : Bytes) → order name other ≡ Less → same_text name other ≡ false
less-differ name other less = differ name other (λ e. let own : order name name ≡ Less = ap (order name) e ∙ less in absurd (cc (sym own ∙ nat_list_cmp_total.antisymm name name ∙ ap ordering_reverse own)))

none-below : (name : Bytes) (es : List Entry) → IsBelow name es → of_name name es ≡ []
none-below name [] h = refl
none-below name (e ∷ es) h = ap (λ t. cond t (e ∷ of_name name es) (of_name name es)) (less-differ name e.0 h.0) ∙ none-below name es h.1

module _ (key : Bytes) (folder : Bool) where
  greater-less : (name : Bytes) → order key name ≡ Greater → order name key ≡ Less
  greater-less name g = nat_list_cmp_total.antisymm name key ∙ ap ordering_reverse g

  insert-below : (low : Bytes) (es : List Entry) → order low key ≡ Less → IsBelow low es → IsBelow low (insert_entry order es key folder)
  insert-below low [] less h = (less, tt)
  insert-below low (e ∷ es) less h = by (insert-below low es less h.1) (order key e.0)
    where
      by : IsBelow low (insert_entry order es key folder) → (o : Ordering) → IsBelow low (match_ordering o ((key, folder) ∷ e ∷ es) ((e.0, folder) ∷ es) (e ∷ insert_entry order es key folder))
      by more Less = (less, h)
      by more Equal = h
      by more Greater = (h.0, more)

  insert-rises : (es : List Entry) → Rises es → Rises (insert_entry order es key folder)
  insert-rises [] h = (tt, tt)
  insert-rises (e ∷ es) h = by (insert-rises es h.1) (order key e.0) refl
    where
      by : Rises (insert_entry order es key folder) → (o : Ordering) → order key e.0 ≡ o → Rises (match_ordering o ((key, folder) ∷ e ∷ es) ((e.0, folder) ∷ es) (e ∷ insert_entry order es key folder))
      by more Less is = ((is, below-more key e.0 es is h.0), h)
      by more Equal is = h
      by more Greater is = (insert-below e.0 es (greater-less e.0 is) h.0, more)

  module _ (name : Bytes) where
    abbrev Here : List Entry → Type 0
    Here es = of_name name (insert_entry order es key folder) ≡ cond (same_text name key) ((key, folder) ∷ []) (of_name name es)

    in-front : (es : List Entry) → IsBelow key es → (t : Bool) → same_text name key ≡ t → cond t ((key, folder) ∷ of_name name es) (of_name name es) ≡ cond t ((key, folder) ∷ []) (of_name name es)
    in-front es h true t = ap (λ l. (key, folder) ∷ l) (ap (λ n. of_name n es) (same-is name key t) ∙ none-below key es h)
    in-front es h false t = refl

    in-place : (old : Bool) (es : List Entry) → IsBelow key es → (t : Bool) → same_text name key ≡ t → cond t ((key, folder) ∷ of_name name es) (of_name name es) ≡ cond t ((key, folder) ∷ []) (cond t ((key, old) ∷ of_name name es) (of_name name es))
    in-place old es h true t = ap (λ l. (key, folder) ∷ l) (ap (λ n. of_name n es) (same-is name key t) ∙ none-below key es h)
    in-place old es h false t = refl

    behind : (e : Entry) (es : List Entry) → order key e.0 ≡ Greater → Here es → (t : Bool) → same_text name e.0 ≡ t → cond t (e ∷ of_name name (insert_entry order es key folder)) (of_name name (insert_entry order es key folder))
        ≡ cond (same_text name key) ((key, folder) ∷ []) (cond t (e ∷ of_name name es) (of_name name es))
    behind e es g more true t =
        let other : same_text name key ≡ false = subst (λ n. same_text n key ≡ false) (sym (same-is name e.0 t)) (less-differ e.0 key (greater-less e.0 g)) in
        ap (λ l. e ∷ l) (more ∙ ap (λ t. cond t ((key, folder) ∷ []) (of_name name es)) other) ∙ sym (ap (λ t. cond t ((key, folder) ∷ []) (e ∷ of_name name es)) other)
    behind e es g more false t = more

    insert-name : (es : List Entry) → Rises es → Here es
    insert-name [] h = refl
    insert-name (e ∷ es) h = by (insert-name es h.1) (order key e.0) refl
      where
        by : Here es → (o : Ordering) → order key e.0 ≡ o
            → of_name name (match_ordering o ((key, folder) ∷ e ∷ es) ((e.0, folder) ∷ es) (e ∷ insert_entry order es key folder)) ≡ cond (same_text name key) ((key, folder) ∷ []) (of_name name (e ∷ es))
        by more Less is = in-front (e ∷ es) (is, below-more key e.0 es is h.0) (same_text name key) refl
        by more Equal is =
            let same : key ≡ e.0 = exact_bytes key e.0 is in
            subst (λ k. cond (same_text name k) ((k, folder) ∷ of_name name es) (of_name name es) ≡ cond (same_text name key) ((key, folder) ∷ []) (cond (same_text name k) ((k, e.1) ∷ of_name name es) (of_name name es))) same
            (in-place e.1 es (subst (λ k. IsBelow k es) (sym same) h.0) (same_text name key) refl)
        by more Greater is = behind e es is more (same_text name e.0) refl

-- ---- the names of a directory

-- whether an optional entry has this name
abbrev pub is_named : Bytes → Option Entry → Bool
is_named name None = false
is_named name (Some entry) = same_text name entry.0

-- each path with this next name below the directory has it as a directory's, or each as a file's
abbrev pub AreAlike : Bytes → Bytes → Bool → Files → Type 0
AreAlike dir name folder files = AllByRecursion (λ file. (other : Bool) → name_in dir file.0 ≡ Some (name, other) → other ≡ folder) files

module _ (dir name : Bytes) (folder : Bool) where
  abbrev step : List Entry → Bytes × Bytes → List Entry
  step names file = with_name names (name_in dir file.0)

  with-rises : (es : List Entry) (one : Option Entry) → Rises es → Rises (with_name es one)
  with-rises es None h = h
  with-rises es (Some one) h = insert-rises one.0 one.1 es h

  with-of : (es : List Entry) (one : Option Entry) → Rises es → ((other : Bool) → one ≡ Some (name, other) → other ≡ folder) → of_name name (with_name es one) ≡ cond (is_named name one) ((name, folder) ∷ []) (of_name name es)
  with-of es None h like = refl
  with-of es (Some one) h like = insert-name one.0 one.1 name es h ∙ by (same_text name one.0) refl
    where
      by : (t : Bool) → same_text name one.0 ≡ t → cond t (one ∷ []) (of_name name es) ≡ cond t ((name, folder) ∷ []) (of_name name es)
      by true t =
          let same = same-is name one.0 t in
          let kind : one.1 ≡ folder = like one.1 (ap (λ n. Some (n, one.1)) (sym same)) in
          ap (λ n. (n, one.1) ∷ []) (sym same) ∙ ap (λ b. (name, b) ∷ []) kind
      by false t = refl

  or-cond : (a b : Bool) (x y : List Entry) → cond b x (cond a x y) ≡ cond (a || b) x y
  or-cond true true x y = refl
  or-cond true false x y = refl
  or-cond false b x y = refl

  pub of-fold : (files : Files) (es : List Entry) → Rises es → AreAlike dir name folder files → of_name name (fold step es files) ≡ cond (list_any (λ file. is_named name (name_in dir file.0)) files) ((name, folder) ∷ []) (of_name name es)
  of-fold [] es h like = refl
  of-fold (f ∷ fs) es h like =
      let any = list_any (λ file. is_named name (name_in dir file.0)) fs in
      of-fold fs (step es f) (with-rises es (name_in dir f.0) h) like.1 ∙ ap (λ l. cond any ((name, folder) ∷ []) l) (with-of es (name_in dir f.0) h like.0)
      ∙ or-cond (is_named name (name_in dir f.0)) any ((name, folder) ∷ []) (of_name name es)

  -- if the files are alike in a name, it is listed once, or not at all if no path has it
  pub of-names : (files : Files) → AreAlike dir name folder files → of_name name (names_in files dir) ≡ cond (list_any (λ file. is_named name (name_in dir file.0)) files) ((name, folder) ∷ []) []
  of-names files like = of-fold files [] tt like
