-- Keys of rules: lists of texts, each behind the number of its bytes, which has four bytes, the highest first.
use Rattle.std.specs.Prelude.{◌≡◌, ◌<◌, ◌^◌, ℕ, List, [], ◌∷◌, ◌++◌, length, codes, flat_map}
use Rattle.std.specs.List.{All}
use Rattle.std.specs.Int.{w32, to_be_bytes}
use Rattle.std.specs.Fmt.{decimal}
use Rattle.pj_rule_texts.specs.Values.{Text}
use Rattle.pj_rule_texts.specs.declared.properties.Property.{Property}
use Rattle.pj_rule_sets.specs.Rules.{EffectiveRule}

-- Numbers are decimal texts without leading zeros, and a list stands behind the number of its members.

-- name, type and value; a type that is not written is the empty text
abbrev pub property_texts : Property → List Text
property_texts p = p.name ∷ p.kind ∷ p.value ∷ []

-- properties, exclude patterns and include patterns
abbrev pub list_texts : EffectiveRule → List Text
list_texts r = (decimal (length r.properties) ∷ flat_map property_texts r.properties) ++ ((decimal (length r.exclude) ∷ r.exclude) ++ (decimal (length r.include) ∷ r.include))

-- name, ruleset, message, priority, query and these lists: all of a rule but the number of its top ruleset
abbrev pub rule_texts : EffectiveRule → List Text
rule_texts r = r.row.name ∷ r.row.rule_set ∷ r.row.message ∷ decimal r.row.priority ∷ r.xpath ∷ list_texts r

-- the texts of a rule's key: the language, the marker and the rule
abbrev pub key_texts : Text → EffectiveRule → List Text
key_texts marker r = codes "java-17" ∷ marker ∷ rule_texts r

-- the texts of the key of a list of rules, in format 1 of caches: the marker, and the rules with their top rulesets
abbrev pub list_key_texts : Text → List EffectiveRule → List Text
list_key_texts marker rules = marker ∷ decimal (length rules) ∷ flat_map (λ (r : EffectiveRule). decimal r.top ∷ rule_texts r) rules

-- a text behind the number of its bytes
abbrev pub spelled : Text → List ℕ
spelled text = to_be_bytes w32 (length text) ++ text

abbrev pub key_of : Text → EffectiveRule → List ℕ
key_of marker r = flat_map spelled (key_texts marker r)

abbrev pub list_key_of : Text → List EffectiveRule → List ℕ
list_key_of marker rules = flat_map spelled (list_key_texts marker rules)

-- What fits a key.

-- four bytes tell how many bytes it has
abbrev pub HasRoom : Text → Type 0
HasRoom text = length text < 2 ^ 32

abbrev pub FitsProperty : Property → Type 0
FitsProperty p = HasRoom p.name × HasRoom p.kind × HasRoom p.value

-- Each text of a rule has room, and each number has eight bytes. This holds wherever a key is made.
pub record FitsKey (r : EffectiveRule) : Type 0 where
  pub name : HasRoom r.row.name
  pub rule_set : HasRoom r.row.rule_set
  pub message : HasRoom r.row.message
  pub priority : r.row.priority < 2 ^ 64
  pub xpath : HasRoom r.xpath
  pub property_count : length r.properties < 2 ^ 64
  pub properties : All FitsProperty r.properties
  pub exclude_count : length r.exclude < 2 ^ 64
  pub exclude : All HasRoom r.exclude
  pub include_count : length r.include < 2 ^ 64
  pub include : All HasRoom r.include

-- the same of a rule with its top ruleset
abbrev pub FitsTopKey : EffectiveRule → Type 0
FitsTopKey r = (r.top < 2 ^ 64) × FitsKey r

-- each of so many rules does
abbrev pub FitListKey : List EffectiveRule → Type 0
FitListKey rules = (length rules < 2 ^ 64) × All FitsTopKey rules

-- Two rules are the same but for the numbers of their top rulesets.
pub record IsSameRule (first second : EffectiveRule) : Type 0 where
  pub row : first.row ≡ second.row
  pub xpath : first.xpath ≡ second.xpath
  pub properties : first.properties ≡ second.properties
  pub exclude : first.exclude ≡ second.exclude
  pub include : first.include ≡ second.include
