-- What holds of the tokens, over any list of lexemes that follow one another.
use Rattle.std.specs.Prelude.{◌≡◌, ℕ, ◌+◌, ◌*◌, ◌≤◌, Bool, true, false, ◌&&◌, List, [], ◌∷◌, length, nat_eq, nat_le}
use Rattle.std.specs.List.{list_any}
use Rattle.yaml_text.specs.declared.types.yaml_mark_t.{yaml_mark_t}
use Rattle.yaml_scan.specs.Kind.{is_value}
use Rattle.yaml_scan.specs.Token.{zero_mark}
use Rattle.yaml_scan.specs.Laid.{Laid, reach}
use Rattle.yaml_scan.specs.Groups.{Token, offline}
use Rattle.yaml_scan.specs.Settled.{before}
use Rattle.yaml_scan.specs.Groups.Token.{StreamStart, BlockEnd, BlockSequenceStart, BlockMappingStart, InsertedKey}
use Rattle.yaml_scan.specs.Groups.Token.{OfLexeme}
use Rattle.yaml_scan.specs.Order.{IsHistory}

abbrev pub start_of : Token → yaml_mark_t
start_of StreamStart = zero_mark
start_of (BlockEnd m) = m
start_of (BlockSequenceStart m) = m
start_of (BlockMappingStart m) = m
start_of (InsertedKey m) = m
start_of (OfLexeme x) = x.start

abbrev pub end_of : Token → yaml_mark_t
end_of StreamStart = zero_mark
end_of (BlockEnd m) = m
end_of (BlockSequenceStart m) = m
end_of (BlockMappingStart m) = m
end_of (InsertedKey m) = m
end_of (OfLexeme x) = x.end

-- from index n to index m: none starts after its end, or ends after the start of the next
abbrev pub AreInOrder : ℕ → List Token → ℕ → Type 0
AreInOrder n [] m = n ≤ m
AreInOrder n (t ∷ ts) m = (n ≤ (start_of t).index) × ((start_of t).index ≤ (end_of t).index)
    × AreInOrder (end_of t).index ts m

abbrev pub TokensStandInOrder : Type 0
TokensStandInOrder = (limit : ℕ) (H : List Laid) → IsHistory limit H
    → AreInOrder 0 (offline H) (reach H).index × AreInOrder 0 (before limit H) (reach H).index

-- a `:` that starts on the line of m, at most limit bytes further
abbrev pub is_value_near : ℕ → yaml_mark_t → Token → Bool
is_value_near limit m (OfLexeme x) = is_value x.kind
    && (nat_eq x.start.line m.line && nat_le x.start.index (m.index + limit))
is_value_near limit m StreamStart = false
is_value_near limit m (BlockEnd n) = false
is_value_near limit m (BlockSequenceStart n) = false
is_value_near limit m (BlockMappingStart n) = false
is_value_near limit m (InsertedKey n) = false

-- one follows an inserted key
abbrev pub HasValue : ℕ → Token → List Token → Type 0
HasValue limit (InsertedKey m) ts = list_any (is_value_near limit m) ts ≡ true
HasValue limit StreamStart ts = Unit {0}
HasValue limit (BlockEnd m) ts = Unit {0}
HasValue limit (BlockSequenceStart m) ts = Unit {0}
HasValue limit (BlockMappingStart m) ts = Unit {0}
HasValue limit (OfLexeme x) ts = Unit {0}

abbrev pub KeysHaveValues : ℕ → List Token → Type 0
KeysHaveValues limit [] = Unit {0}
KeysHaveValues limit (t ∷ ts) = HasValue limit t ts × KeysHaveValues limit ts

-- every inserted key is followed by its `:`, near, and also among what was handed out
abbrev pub KeysAreFollowed : Type 0
KeysAreFollowed = (limit : ℕ) (H : List Laid) → IsHistory limit H
    → KeysHaveValues limit (offline H) × KeysHaveValues limit (before limit H)

-- in all at most four times as many tokens as steps, of which STREAM-START is one
abbrev pub FourTokensAStep : Type 0
FourTokensAStep = (limit : ℕ) (H : List Laid) → IsHistory limit H → length (offline H) ≤ 4 * (length H + 1)
