-- Two tokens compare equal exactly if the definitions see the same in them.
use Rattle.std.proofs.Common.{rules, ◌≡◌, ◌↔◌, ◌&&◌, ◌==◌, ◌∙◌, IsTrue, Bool, true, false, refl, sym, ap}
use Rattle.std.proofs.lemmas.Bool.{eq-eqb, false≢true}
use Rattle.yaml_text.specs.Types.{token_type_number}
use Rattle.yaml_text.specs.Token.{data_of, token_of, type_of, Token, TokenData}
use Rattle.yaml_text.specs.declared.token.yaml_token_t.{yaml_token_t}
use Rattle.yaml_text.specs.declared.token.unnamed_yaml_token_t_data.{unnamed_yaml_token_t_data}
use Rattle.yaml_text.specs.declared.token.unnamed_yaml_token_t_data.TheVariants as code
use Rattle.yaml_text.specs.contracts.token.unnamed_yaml_token_t_dataPartialEq.TheImpl as data_eq
use Rattle.yaml_text.specs.contracts.token.yaml_token_tPartialEq.TheImpl as token_eq
use Rattle.yaml_text.proofs.Comparisons.SameParts.{are_same_marks}

-- what `==` of the data of two tokens answers
abbrev pub are_same_data : unnamed_yaml_token_t_data → unnamed_yaml_token_t_data → Bool
are_same_data = (data_eq.ghosts).eq

-- what `==` of two tokens answers
abbrev pub are_same_tokens : yaml_token_t → yaml_token_t → Bool
are_same_tokens = (token_eq.ghosts).eq

-- data of two types are not the same
differ : (a b : TokenData) → (token_type_number (type_of a) == token_type_number (type_of b)) ≡ false → a ≡ b → ⊥
differ a b other same = false≢true (sym other ∙ eq-eqb _ _ (ap (λ d. token_type_number (type_of d)) same))

-- a value without parts is the same as itself
same : {A : Type 0} (a : A) → IsTrue true ↔ (a ≡ a)
same a = (λ _. refl, λ _. refl)

pub are_same_data-is : (a b : unnamed_yaml_token_t_data) → IsTrue (are_same_data a b) ↔ (data_of a ≡ data_of b)
are_same_data-is (code.STREAM_START a) (code.STREAM_START b) = search rules
are_same_data-is (code.VERSION_DIRECTIVE a m) (code.VERSION_DIRECTIVE b n) = search rules
are_same_data-is (code.TAG_DIRECTIVE a m) (code.TAG_DIRECTIVE b n) = search rules
are_same_data-is (code.ALIAS a) (code.ALIAS b) = search rules
are_same_data-is (code.ANCHOR a) (code.ANCHOR b) = search rules
are_same_data-is (code.TAG a m) (code.TAG b n) = search rules
are_same_data-is (code.SCALAR a m) (code.SCALAR b n) = search rules
are_same_data-is code.NO_TOKEN code.NO_TOKEN = same _
are_same_data-is code.STREAM_END code.STREAM_END = same _
are_same_data-is code.DOCUMENT_START code.DOCUMENT_START = same _
are_same_data-is code.DOCUMENT_END code.DOCUMENT_END = same _
are_same_data-is code.BLOCK_SEQUENCE_START code.BLOCK_SEQUENCE_START = same _
are_same_data-is code.BLOCK_MAPPING_START code.BLOCK_MAPPING_START = same _
are_same_data-is code.BLOCK_END code.BLOCK_END = same _
are_same_data-is code.FLOW_SEQUENCE_START code.FLOW_SEQUENCE_START = same _
are_same_data-is code.FLOW_SEQUENCE_END code.FLOW_SEQUENCE_END = same _
are_same_data-is code.FLOW_MAPPING_START code.FLOW_MAPPING_START = same _
are_same_data-is code.FLOW_MAPPING_END code.FLOW_MAPPING_END = same _
are_same_data-is code.BLOCK_ENTRY code.BLOCK_ENTRY = same _
are_same_data-is code.FLOW_ENTRY code.FLOW_ENTRY = same _
are_same_data-is code.KEY code.KEY = same _
are_same_data-is code.VALUE code.VALUE = same _
are_same_data-is a b = (λ e. absurd (false≢true e), λ e. absurd (differ (data_of a) (data_of b) refl e))

-- tokens are the same if their data and both marks are
by_parts : (same : Bool) (a b : Token) → IsTrue same ↔ (a.token_data ≡ b.token_data)
    → IsTrue (same && (are_same_marks a.start_mark b.start_mark && are_same_marks a.end_mark b.end_mark)) ↔ (a ≡ b)
by_parts same a b says = search rules

pub are_same_tokens-is : (a b : yaml_token_t) → IsTrue (are_same_tokens a b) ↔ (token_of a ≡ token_of b)
are_same_tokens-is a b =
    by_parts (are_same_data a.token_data b.token_data) (token_of a) (token_of b)
    (are_same_data-is a.token_data b.token_data)
