use Rattle.yaml_text.proofs.Decodings.DecodeResults.{else_utf8}
use Rattle.yaml_text.proofs.Decodings.KeptTexts.{if_ok, kept_by_encoding}
use Rattle.yaml_text.proofs.kept.yaml_kept_text_t.decode.Goals as goal

pub returns-in-YAML_UTF16LE_ENCODING-clause-front : goal.returns-in-YAML_UTF16LE_ENCODING-clause-front
returns-in-YAML_UTF16LE_ENCODING-clause-front c =
    let t = c.find_encoding-encoding.ensures in
    if_ok _ (λ r k. (kept_by_encoding _ _ _ _ _ _ _ t.encoding c.in-YAML_UTF16LE_ENCODING.is t.bom_len k).keeps) c.copied_front.ensures.front

pub returns-in-YAML_UTF16LE_ENCODING-clause-refusal : goal.returns-in-YAML_UTF16LE_ENCODING-clause-refusal
returns-in-YAML_UTF16LE_ENCODING-clause-refusal c =
    let t = c.find_encoding-encoding.ensures in
    if_ok _ (λ r k. (kept_by_encoding _ _ _ _ _ _ _ t.encoding c.in-YAML_UTF16LE_ENCODING.is t.bom_len k).refusal_is) c.copied_front.ensures.front

pub returns-in-YAML_UTF16BE_ENCODING-clause-front : goal.returns-in-YAML_UTF16BE_ENCODING-clause-front
returns-in-YAML_UTF16BE_ENCODING-clause-front c =
    let t = c.find_encoding-encoding.ensures in
    if_ok _ (λ r k. (kept_by_encoding _ _ _ _ _ _ _ t.encoding c.in-YAML_UTF16BE_ENCODING.is t.bom_len k).keeps) c.copied_front-in-YAML_UTF16BE_ENCODING.ensures.front

pub returns-in-YAML_UTF16BE_ENCODING-clause-refusal : goal.returns-in-YAML_UTF16BE_ENCODING-clause-refusal
returns-in-YAML_UTF16BE_ENCODING-clause-refusal c =
    let t = c.find_encoding-encoding.ensures in
    if_ok _ (λ r k. (kept_by_encoding _ _ _ _ _ _ _ t.encoding c.in-YAML_UTF16BE_ENCODING.is t.bom_len k).refusal_is) c.copied_front-in-YAML_UTF16BE_ENCODING.ensures.front

pub returns-in_default-clause-front : goal.returns-in_default-clause-front
returns-in_default-clause-front c =
    let t = c.find_encoding-encoding.ensures in
    let is = else_utf8 c.args.setting c.args.input.now _ t.encoding c.in_default.not-YAML_UTF16LE_ENCODING c.in_default.not-YAML_UTF16BE_ENCODING in
    (kept_by_encoding _ _ _ _ _ _ _ t.encoding is t.bom_len c.front_in_utf8.ensures).keeps

pub returns-in_default-clause-refusal : goal.returns-in_default-clause-refusal
returns-in_default-clause-refusal c =
    let t = c.find_encoding-encoding.ensures in
    let is = else_utf8 c.args.setting c.args.input.now _ t.encoding c.in_default.not-YAML_UTF16LE_ENCODING c.in_default.not-YAML_UTF16BE_ENCODING in
    (kept_by_encoding _ _ _ _ _ _ _ t.encoding is t.bom_len c.front_in_utf8.ensures).refusal_is
