-- What holds of the layout, over any list of lexemes that follow one another.
use Rattle.std.specs.Prelude.{◌≡◌, ℕ, ◌+◌, ◌-◌, ◌≤◌, Bool, true, false, not, ◌&&◌, ◌||◌, List, [], ◌∷◌, ◌++◌, map}
use Rattle.std.specs.Prelude.{reverse, filter, take, length, nat_eq, nat_lt, slice_get, Option, Some, None}
use Rattle.std.specs.Prelude.{if◌then◌else◌, drop}
use Rattle.yaml_text.specs.declared.types.yaml_mark_t.{yaml_mark_t}
use Rattle.yaml_scan.specs.Course.{ended}
use Rattle.yaml_scan.specs.Kind.{Kind, is_flow_start, is_flow_end}
use Rattle.yaml_scan.specs.Laid.{Laid, column, is_none}
use Rattle.yaml_scan.specs.Depth.{depth}
use Rattle.yaml_scan.specs.Allowed.{allowed, allows}
use Rattle.yaml_scan.specs.Keys.{candidate, is_candidate, enters, completed_by}
use Rattle.yaml_scan.specs.Levels.{is_above, is_opener, open_columns, staying_columns, level}
use Rattle.yaml_scan.specs.Falling.{IsFalling}
use Rattle.yaml_scan.specs.Groups.{Token, group, offline}
use Rattle.yaml_scan.specs.Settled.{waiting, before, up_to}
use Rattle.yaml_scan.specs.Sessions.{queued}
use Rattle.yaml_scan.specs.Groups.Token.{StreamStart, BlockEnd, BlockSequenceStart, BlockMappingStart, InsertedKey}
use Rattle.yaml_scan.specs.Groups.Token.{OfLexeme}
use Rattle.yaml_scan.specs.Order.{IsHistory}
use Rattle.yaml_scan.specs.Begins.{Begins}
use Rattle.yaml_scan.specs.Source.{Source, Offence}
use Rattle.yaml_scan.specs.Step.{step}
use Rattle.yaml_scan.specs.Cut.{cut, IsRun, EndsWith, KeepsOrder}

-- tokens inserted at place n of a list
abbrev pub put_in : ℕ → List Token → List Token → List Token
put_in n ts q = take n q ++ (ts ++ drop n q)

-- ONE LEXEME MORE
-- the depth after a lexeme of kind k
abbrev pub nested : Kind → ℕ → ℕ
nested k d = if is_flow_start k then d + 1 else if is_flow_end k then d - 1 else d

abbrev pub DepthGoesOn : Type 0
DepthGoesOn = (i : Laid) (H : List Laid) → depth (i ∷ H) ≡ nested i.lexeme.kind (depth H)

-- the candidate of depth k after i, from the one before it
abbrev pub candidate_after : Laid → ℕ → Option Laid → Option Laid
candidate_after i k old = if enters k i then None else if not (nat_eq i.depth k) then old else if not (is_candidate i)
    then None else if i.key_allowed then Some i else old

abbrev pub CandidatesGoOn : Type 0
CandidatesGoOn = (i : Laid) (H : List Laid) (k : ℕ) → candidate (i ∷ H) k ≡ candidate_after i k (candidate H k)

-- no depth above the present one has a candidate, and a deeper one is further on
abbrev pub CandidatesAreNested : Type 0
CandidatesAreNested = (limit : ℕ) (H : List Laid) → IsHistory limit H
    → ((k : ℕ) → depth H + 1 ≤ k → candidate H k ≡ None)
    × ((k n : ℕ) (c d : Laid) → candidate H k ≡ Some c → candidate H n ≡ Some d → k + 1 ≤ n → n ≤ depth H
    → c.number + 1 ≤ d.number)

abbrev pub AllowedGoesOn : Type 0
AllowedGoesOn = (i : Laid) (H : List Laid) (g : yaml_mark_t)
    → allowed (i ∷ H) g ≡ (allows i.lexeme.kind i.depth (is_none i.completed) i.lexeme.passed_break
    || (nat_eq (nested i.lexeme.kind (depth H)) 0 && nat_lt i.lexeme.reach.line g.line))

-- the column that i opens, or that of the candidate that it completes
abbrev pub new_column : Laid → Option Laid → List ℕ
new_column i None = if nat_eq i.depth 0 && (is_above (column i) i.level && is_opener i) then column i ∷ [] else []
new_column i (Some c) = if nat_eq c.depth 0 && is_above (column c) c.level then column c ∷ [] else []

-- columns are pushed and popped: before those that i keeps is the one that it opens
abbrev pub ColumnsGoOn : Type 0
ColumnsGoOn = (limit : ℕ) (i : Laid) (H : List Laid) → IsHistory limit (i ∷ H)
    → open_columns (i ∷ H) ≡ new_column i (completed_by limit H i.lexeme.kind i.lexeme.start)
    ++ staying_columns H i.lexeme.kind i.lexeme.start

abbrev pub ColumnsFall : Type 0
ColumnsFall = (limit : ℕ) (H : List Laid) → IsHistory limit H → IsFalling (open_columns H)

-- the first of the open columns, which is the level
abbrev pub first_of : List ℕ → Option ℕ
first_of [] = None
first_of (c ∷ cs) = Some c

abbrev pub LevelIsFirst : Type 0
LevelIsFirst = (limit : ℕ) (H : List Laid) (k : Kind) (m : yaml_mark_t) → IsHistory limit H
    → level H k m ≡ first_of (staying_columns H k m)

-- the level at a candidate of depth 0 is the level at which it is completed
abbrev pub LevelStays : Type 0
LevelStays = (limit : ℕ) (i : Laid) (H : List Laid) (c : Laid) → IsHistory limit (i ∷ H)
    → completed_by limit H i.lexeme.kind i.lexeme.start ≡ Some c → c.depth ≡ 0
    → c.level ≡ level H i.lexeme.kind i.lexeme.start

-- THE OFFLINE LIST
-- the tokens that are inserted before a completed candidate's
abbrev pub key_tokens : Laid → List Token
key_tokens c = (if nat_eq c.depth 0 && is_above (column c) c.level then BlockMappingStart c.lexeme.start ∷ [] else [])
    ++ (InsertedKey c.lexeme.start ∷ [])

-- the list with the key of the candidate that is completed
abbrev pub with_key : List Laid → Option Laid → List Token
with_key H None = offline H
with_key H (Some c) = put_in (length (up_to H (Some c))) (key_tokens c) (offline H)

-- one insertion at most, before the candidate's token, and then the lexeme's group
abbrev pub OfflineGoesOn : Type 0
OfflineGoesOn = (limit : ℕ) (i : Laid) (H : List Laid) → IsHistory limit (i ∷ H)
    → offline (i ∷ H) ≡ with_key H (completed_by limit H i.lexeme.kind i.lexeme.start) ++ group (i ∷ H) i

abbrev pub CandidateStandsThere : Type 0
CandidateStandsThere = (limit : ℕ) (H : List Laid) (k : ℕ) (c : Laid) → IsHistory limit H → candidate H k ≡ Some c
    → slice_get (offline H) (length (up_to H (Some c))) ≡ Some (OfLexeme c.lexeme)

-- whatever lexemes follow, what was handed out stays
abbrev pub NeverRevised : Type 0
NeverRevised = (limit : ℕ) (later H : List Laid) → IsHistory limit (later ++ H)
    → Begins (before limit H) (before limit (later ++ H)) × Begins (before limit H) (offline (later ++ H))

-- from the first unsettled token on, the tokens are of at most limit lexemes, and of one more right after the step that
-- was made for it
abbrev pub FewWait : Type 0
FewWait = (limit : ℕ) (H : List Laid) (t : ℕ) → IsHistory limit H → length (before limit H) ≤ t → queued H t H ≤ limit

abbrev pub FewWaitOneStepOn : Type 0
FewWaitOneStepOn = (limit : ℕ) (i : Laid) (H : List Laid) (t : ℕ) → IsHistory limit (i ∷ H)
    → length (before limit H) ≤ t → queued (i ∷ H) t (i ∷ H) ≤ limit + 1

-- after the stream end no candidate is live, so all is handed out
abbrev pub AllIsHandedOut : Type 0
AllIsHandedOut = (limit : ℕ) (H : List Laid) → IsHistory limit H → ended H ≡ true
    → (waiting limit H ≡ None) × (before limit H ≡ offline H)

-- TOKENS
abbrev pub is_of_lexeme : Token → Bool
is_of_lexeme StreamStart = true
is_of_lexeme (OfLexeme x) = true
is_of_lexeme _ = false

-- without what the layout inserts, the tokens are the start of the stream and those of the lexemes, oldest first
abbrev pub LexemesComeInOrder : Type 0
LexemesComeInOrder = (H : List Laid) → filter is_of_lexeme (offline H)
    ≡ StreamStart ∷ map (λ i. OfLexeme i.lexeme) (reverse H)

abbrev pub is_block_end : Token → Bool
is_block_end (BlockEnd m) = true
is_block_end _ = false

abbrev pub is_block_start : Token → Bool
is_block_start (BlockSequenceStart m) = true
is_block_start (BlockMappingStart m) = true
is_block_start _ = false

unfoldable pub ends_in : List Token → ℕ
ends_in l = length (filter is_block_end l)

unfoldable pub starts_in : List Token → ℕ
starts_in l = length (filter is_block_start l)

-- in every beginning
abbrev pub EndsNeverOutnumber : Type 0
EndsNeverOutnumber = (limit : ℕ) (H : List Laid) (n : ℕ) → IsHistory limit H
    → ends_in (take n (offline H)) ≤ starts_in (take n (offline H))

abbrev pub AsManyEnds : Type 0
AsManyEnds = (limit : ℕ) (H : List Laid) → IsHistory limit H → ended H ≡ true → depth H ≡ 0
    → ends_in (offline H) ≡ starts_in (offline H)

-- THE STEPS OF A TEXT
-- each lexeme is the outcome of the step after those before it, and none can be added
abbrev pub CutIsLongest : Type 0
CutIsLongest = (S : Source) (limit : ℕ) → KeepsOrder S
    → IsRun (step S limit) limit (cut S limit).read × EndsWith (step S limit) (cut S limit).read (cut S limit).fault

-- every list of steps is a beginning of it
abbrev pub StepsBeginCut : Type 0
StepsBeginCut = (S : Source) (limit : ℕ) (H : List Laid)
    → KeepsOrder S → IsRun (step S limit) limit H → (later : List Laid) × ((cut S limit).read ≡ later ++ H)

-- the cut is the only list of steps to which none can be added, with the only offence after it
abbrev pub CutIsOnly : Type 0
CutIsOnly = (S : Source) (limit : ℕ) (H : List Laid) (o : Option Offence)
    → KeepsOrder S → IsRun (step S limit) limit H → EndsWith (step S limit) H o
    → (H ≡ (cut S limit).read) × (o ≡ (cut S limit).fault)

abbrev pub CutIsHistory : Type 0
CutIsHistory = (S : Source) (limit : ℕ) → KeepsOrder S → IsHistory limit (cut S limit).read

-- with STREAM-START at most two more than the text has characters
abbrev pub CutIsShort : Type 0
CutIsShort = (S : Source) (limit : ℕ) → KeepsOrder S → length (cut S limit).read + 1 ≤ S.size + 2
