-- Small lines, computed.
use Rattle.std.specs.Prelude.{◌≡◌, refl, true, [], ◌∷◌, ◌++◌, codes}
use Rattle.std.specs.Fmt.{digits}
use Rattle.json.specs.Print.{escape_byte, quoted}
use Rattle.plan_types.specs.declared.refusal.Cause.TheVariants.{BadName}
use Rattle.plan_nodes.specs.Line.{no_line}
use Rattle.plan_json.specs.Texts.{gave_up_json, list_text, node_json}

-- a quote, a backslash and control bytes are escaped
spelled : quoted (codes "a\"b\\c" ++ 10 ∷ 31 ∷ []) ≡ codes "\"a\\\"b\\\\c\\n\\u001f\""
unfolding escape_byte
spelled = refl

commas : list_text (λ text. quoted text) (codes "a" ∷ codes "b" ∷ []) ≡ codes "[\"a\",\"b\"]"
unfolding escape_byte
commas = refl

-- needed identifiers in byte order, each once
node : node_json (record no_line {
  name = codes "q";
  version = record { parts = 1 ∷ 20 ∷ [] };
  component = codes "lib";
  id = codes "q-1.20-0a";
  unbuildable = true;
  libs = codes "base-4" ∷ codes "alex-3" ∷ [];
  tools = codes "alex-3" ∷ [];
})
    ≡ codes "{\"component\":\"lib\",\"id\":\"q-1.20-0a\",\"kind\":\"store\",\"needs\":[\"alex-3\",\"base-4\"],\"package\":\"q-1.20\",\"unbuildable\":true}"
unfolding digits escape_byte
node = refl

gave-up : gave_up_json (record { packages = []; skipped = record { path = codes "a\"b"; line = 3; cause = BadName } ∷ []; warnings = [] }) (record { visited = 26; exhausted = 1 })
    ≡ codes "{\"exhausted\":1,\"skipped\":[\"a\\\"b:3 BadName\"],\"status\":\"gave up\",\"visited\":26,\"warnings\":[]}\n"
unfolding digits escape_byte
gave-up = refl
