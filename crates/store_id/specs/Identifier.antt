-- Identifiers of nodes in the store, and of nodes built in place.
use Rattle.std.specs.Prelude.{ℕ, nat_lt, ◌==◌, if◌then◌else◌, List, [], ◌++◌, length, codes}
use Rattle.std.specs.List.{position_or_len, after_first}
use Rattle.hex.specs.Hex.{encode_lower}
use Rattle.sha2.specs.Sha256.{sha256}
use Rattle.plan_types.specs.declared.condition.Env.{Env}
use Rattle.plan_types.specs.declared.condition.FlagSet.{FlagSet}
use Rattle.plan_types.specs.declared.description.Description.{Description}
use Rattle.plan_nodes.specs.declared.node.PlanNode.{PlanNode}
use Rattle.plan_nodes.specs.Line.{package_text}
use Rattle.store_id.specs.NodeText.{id_text}

-- the SHA-256 of a text, as digits in lower case
abbrev pub digest_of : List ℕ → List ℕ
digest_of text = encode_lower (sha256 text)

-- a dash and the part of a component's name behind the colon; nothing without a colon
abbrev pub own_name : List ℕ → List ℕ
own_name component =
    if nat_lt (position_or_len (λ b. b == 58) component) (length component) then codes "-" ++ after_first (λ b. b == 58) component else []

-- the identifier of a node in the store: package and version, the component's own name, and the digest of its text
abbrev pub id_of : PlanNode → Description → List FlagSet → Env → List ℕ
id_of node d flags env = package_text node ++ own_name node.component ++ codes "-" ++ digest_of (id_text node d flags env)

-- the identifier of a node built in place: package and version, `inplace`, and the component's own name
abbrev pub in_place_id : PlanNode → List ℕ
in_place_id node = package_text node ++ codes "-inplace" ++ own_name node.component
