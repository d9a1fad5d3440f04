-- Groups: the tokens of a finished list of lexemes, with the keys and the starts and ends of blocks that the layout
-- inserts. They are the offline list.
use Rattle.std.specs.Prelude.{ℕ, ◌&&◌, List, [], ◌∷◌, ◌++◌, map, nat_lt, if◌then◌else◌}
use Rattle.yaml_text.specs.declared.types.yaml_mark_t.{yaml_mark_t}
use Rattle.yaml_text.specs.declared.types.yaml_encoding_t.{yaml_encoding_t}
use Rattle.yaml_scan.specs.Kind.{Kind, is_stream_end, is_block_entry}
use Rattle.yaml_scan.specs.Token.{yaml_token_t, zero_mark, at_mark}
use Rattle.yaml_text.specs.Token.{TokenData as token}
use Rattle.yaml_scan.specs.Laid.{Laid, Lexeme}
use Rattle.yaml_scan.specs.Levels.{opens, is_completed}

-- where a token comes from
pub data Token : Type 0 where
  StreamStart : Token
  BlockEnd : yaml_mark_t → Token
  BlockSequenceStart : yaml_mark_t → Token
  BlockMappingStart : yaml_mark_t → Token
  InsertedKey : yaml_mark_t → Token
  OfLexeme : Lexeme → Token

-- the token as it is handed out
abbrev pub handed_out : yaml_encoding_t → Token → yaml_token_t
handed_out e StreamStart = at_mark (token.STREAM_START e) zero_mark
handed_out e (BlockEnd m) = at_mark token.BLOCK_END m
handed_out e (BlockSequenceStart m) = at_mark token.BLOCK_SEQUENCE_START m
handed_out e (BlockMappingStart m) = at_mark token.BLOCK_MAPPING_START m
handed_out e (InsertedKey m) = at_mark token.KEY m
handed_out e (OfLexeme x) = record { token_data = x.token_data; start_mark = x.start; end_mark = x.end }

-- the mark of a block end: the lexeme's start; but if the stream ends, for columns above the end of the gap, that end
abbrev pub end_at : Kind → yaml_mark_t → yaml_mark_t → ℕ → yaml_mark_t
end_at k gap_end start c = if is_stream_end k && nat_lt gap_end.column c then gap_end else start

-- the mark of the end with which x closes column c
abbrev pub end_mark : Lexeme → ℕ → yaml_mark_t
end_mark x c = end_at x.kind x.gap_end x.start c

-- one for each column that i closes
unfoldable pub block_ends : Laid → List Token
block_ends i = map (λ c. BlockEnd (end_mark i.lexeme c)) i.closed

-- of a block sequence before a `-`, and of a block mapping before others
abbrev pub start_token : Kind → yaml_mark_t → Token
start_token k m = if is_block_entry k then BlockSequenceStart m else BlockMappingStart m

-- the start of the block collection that i opens
abbrev pub block_start : Laid → Token
block_start i = start_token i.lexeme.kind i.lexeme.start

-- what is inserted before the token of i: a block start if it opens its column, and a key if a `:` of H completes it
unfoldable pub inserted : List Laid → Laid → List Token
inserted H i = (if opens H i then block_start i ∷ [] else [])
    ++ (if is_completed H i then InsertedKey i.lexeme.start ∷ [] else [])

-- the tokens of one lexeme of H
unfoldable pub group : List Laid → Laid → List Token
group H i = block_ends i ++ (inserted H i ++ (OfLexeme i.lexeme ∷ []))

-- the groups of some of H, the earliest ones, after the start of the stream
unfoldable pub groups : List Laid → List Laid → List Token
groups H [] = StreamStart ∷ []
groups H (i ∷ older) = groups H older ++ group H i

-- the groups of all lexemes
unfoldable pub offline : List Laid → List Token
offline H = groups H H
