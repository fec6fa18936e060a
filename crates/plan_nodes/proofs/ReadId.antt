-- The identifier of a plain node can be read off its line.
use Rattle.std.proofs.Common.{◌≡◌, ℕ, zero, suc, ◌/◌, ◌%◌, ◌+◌, ◌<◌, Bool, true, false, ◌&&◌, List, [], ◌∷◌, ◌++◌, codes, refl, ap, ◌∙◌, if◌then◌else◌, arith, append_assoc}
use Rattle.std.specs.Prelude.{◌==◌, nat_lt, not}
use Rattle.std.specs.Fmt.{decimal, digits, digits_onto, digit_glyph}
use Rattle.std.proofs.lemmas.List.Folds.{list_all-append}
use Rattle.std.proofs.lemmas.Bool.{and_parts, and_from, ne_eqb}
use Rattle.version_range.specs.Version.{version_text}
use Rattle.plan_nodes.specs.declared.node.NodeKind.{NodeKind}
use Rattle.plan_nodes.specs.declared.node.NodeKind.TheVariants.{Installed, Local, Store}
use Rattle.plan_nodes.specs.declared.node.PlanNode.{PlanNode}
use Rattle.plan_nodes.specs.Line.{all_needs, kind_word, needs_text, node_line, package_text, unbuildable_text}
use Rattle.plan_nodes.specs.Seen.{is_plain, is_solid, is_word}

-- the text before the first blank or line feed
abbrev until_stop : List ℕ → List ℕ
until_stop [] = []
until_stop (b ∷ bs) = if is_solid b then b ∷ until_stop bs else []

-- the text behind the first blank or line feed
abbrev after_stop : List ℕ → List ℕ
after_stop [] = []
after_stop (b ∷ bs) = if is_solid b then after_stop bs else bs

-- the identifier, behind four words
abbrev pub read_id : List ℕ → List ℕ
read_id line = until_stop (after_stop (after_stop (after_stop (after_stop line))))

until_word : (word rest : List ℕ) → is_word word ≡ true → until_stop rest ≡ [] → until_stop (word ++ rest) ≡ word
until_word [] rest h e = e
until_word (b ∷ bs) rest h e =
    let p = and_parts (is_solid b) (is_word bs) h in
    ap (λ s. if s then b ∷ until_stop (bs ++ rest) else []) p.0 ∙ ap (λ t. b ∷ t) (until_word bs rest p.1 e)

after_word : (word rest : List ℕ) → is_word word ≡ true → after_stop (word ++ 32 ∷ rest) ≡ rest
after_word [] rest h = refl
after_word (b ∷ bs) rest h =
    let p = and_parts (is_solid b) (is_word bs) h in
    ap (λ s. if s then after_stop (bs ++ 32 ∷ rest) else bs ++ 32 ∷ rest) p.0 ∙ after_word bs rest p.1

joined_word : (xs ys : List ℕ) → is_word xs ≡ true → is_word ys ≡ true → is_word (xs ++ ys) ≡ true
joined_word xs ys p q = list_all-append is_solid xs ys ∙ and_from (is_word xs) (is_word ys) p q

solid_above : (b : ℕ) → 32 < b → is_solid b ≡ true
solid_above b h = and_from (not (b == 32)) (not (b == 10)) (ap not (ne_eqb b 32 (λ e. omega arith))) (ap not (ne_eqb b 10 (λ e. omega arith)))

glyph_solid : (d : ℕ) → is_solid (digit_glyph false d) ≡ true
glyph_solid d = by (nat_lt d 10)
  where
    by : (t : Bool) → is_solid (if t then 48 + d else 87 + d) ≡ true
    by true = solid_above (48 + d) (omega arith)
    by false = solid_above (87 + d) (omega arith)

digits_word : (k n : ℕ) (after : List ℕ) → is_word after ≡ true → is_word (digits_onto k 10 false n after) ≡ true
digits_word zero n after h = h
digits_word (suc k) n after h = let more = and_from (is_solid (digit_glyph false (n % 10))) (is_word after) (glyph_solid (n % 10)) h in either _ _ (n / 10 == 0) more (digits_word k (n / 10) (digit_glyph false (n % 10) ∷ after) more)
  where
    either : (xs ys : List ℕ) (t : Bool) → is_word xs ≡ true → is_word ys ≡ true → is_word (if t then xs else ys) ≡ true
    either xs ys true p q = p
    either xs ys false p q = q

decimal_word : (n : ℕ) → is_word (decimal n) ≡ true
unfolding digits
decimal_word n = digits_word 64 n [] refl

version_word : (parts : List ℕ) → is_word (version_text parts) ≡ true
version_word [] = refl
version_word (n ∷ []) = decimal_word n
version_word (n ∷ m ∷ ns) = joined_word (decimal n) (46 ∷ version_text (m ∷ ns)) (decimal_word n) (version_word (m ∷ ns))

kind_is_word : (kind : NodeKind) → is_word (kind_word kind) ≡ true
kind_is_word Installed = refl
kind_is_word Local = refl
kind_is_word Store = refl

-- behind the identifier comes a blank or a line feed
ends : (unbuildable : Bool) (ids : List (List ℕ)) → until_stop (unbuildable_text unbuildable ++ (needs_text ids ++ codes "\n")) ≡ []
ends true ids = refl
ends false [] = refl
ends false (id ∷ ids) = refl

regrouped : (a b c d e f g h i j k : List ℕ) → a ++ b ++ c ++ d ++ e ++ f ++ g ++ h ++ i ++ j ++ k ≡ a ++ (b ++ (c ++ (d ++ (e ++ (f ++ (g ++ (h ++ (i ++ (j ++ k)))))))))
regrouped a b c d e f g h i j k = simp append_assoc

module _ (node : PlanNode) (plain : is_plain node ≡ true) where
  abbrev kind : List ℕ
  kind = kind_word node.kind

  abbrev pack : List ℕ
  pack = package_text node

  abbrev after_id : List ℕ
  after_id = unbuildable_text node.unbuildable ++ (needs_text (all_needs node) ++ codes "\n")

  package_word : is_word node.name ≡ true → is_word pack ≡ true
  package_word h = joined_word (node.name ++ codes "-") (version_text node.version.parts) (joined_word node.name (codes "-") h refl) (version_word node.version.parts)

  by_words : node_line node ≡ codes "node " ++ (kind ++ 32 ∷ (pack ++ 32 ∷ (node.component ++ 32 ∷ (node.id ++ after_id))))
  by_words = regrouped (codes "node ") kind (codes " ") pack (codes " ") node.component (codes " ") node.id (unbuildable_text node.unbuildable) (needs_text (all_needs node)) (codes "\n")

  pub reads_id : read_id (node_line node) ≡ node.id
  reads_id =
      let words = and_parts (is_word node.name && is_word node.component) (is_word node.id) plain in
      let first = and_parts (is_word node.name) (is_word node.component) words.0 in
      ap read_id by_words
      ∙ ap (λ t. until_stop (after_stop (after_stop t))) (after_word kind (pack ++ 32 ∷ (node.component ++ 32 ∷ (node.id ++ after_id))) (kind_is_word node.kind))
      ∙ ap (λ t. until_stop (after_stop t)) (after_word pack (node.component ++ 32 ∷ (node.id ++ after_id)) (package_word first.0))
      ∙ ap until_stop (after_word node.component (node.id ++ after_id) first.1)
      ∙ until_word node.id after_id words.1 (ends node.unbuildable (all_needs node))
