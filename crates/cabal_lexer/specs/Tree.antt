-- The elements of a file as a tree, for recursion in file order.
use Rattle.std.specs.Prelude.{◌≡◌, ℕ, List, [], ◌∷◌, ◌++◌, map}
use Rattle.plan_types.specs.declared.element.Element.{Element, Element-F, fold-Element}
use Rattle.plan_types.specs.declared.element.Element.TheOpen.{Field, Section}

-- an element and the elements after it
pub data Tree : Type 0 where
  end : Tree
  field : (line : ℕ) (name : List ℕ) (values : List (List ℕ)) (behind : Tree) → Tree
  section : (line : ℕ) (name args : List ℕ) (items behind : Tree) → Tree

-- items in a chain, which ends with `end`
abbrev pub chain : List (Tree → Tree) → Tree
chain [] = end
chain (item ∷ items) = item (chain items)

-- one layer of an element, in front of the elements after it
abbrev pub layer : Element-F (Tree → Tree) → Tree → Tree
layer (Field line name values) behind = field line name values behind
layer (Section line name args items) behind = section line name args (chain items) behind

-- an element in front of the elements after it
abbrev pub in_front : Element → Tree → Tree
in_front = fold-Element (Tree → Tree) layer

-- the tree of a file's elements
abbrev pub tree_of : List Element → Tree
tree_of items = chain (map in_front items)

-- the new parts, followed by `more`, are the old parts followed by a list with this property
abbrev pub Goes : {A : Type 0} → (List A → Type 0) → List A → List A → List A → Type 0
Goes {A = A} Are old new more = (found : List A) × Are found × (new ++ more ≡ old ++ found)
