-- Where the groups of a step go: into the queue, or straight to a sink.
use Rattle.std.specs.Prelude.{◌≡◌, ◌⊎◌, ℕ, ◌+◌, ◌≤◌, Bool, true, false, List, [], ◌∷◌, ◌++◌, map, length}
use Rattle.std.specs.Prelude.{Result, Ok, Err, MatchResult, ◌<◌, ◌^◌, Option, None, Some}
use Rattle.std.specs.List.{list_any}
use Rattle.std.specs.VecDeque.{deque_capacity}
use Rattle.yaml_text.specs.declared.types.yaml_encoding_t.TheVariants.{YAML_UTF8_ENCODING}
use Rattle.yaml_text.specs.declared.token.yaml_token_t.{yaml_token_t as code_token_t}
use Rattle.yaml_text.specs.declared.types.yaml_mark_t.{yaml_mark_t}
use Rattle.yaml_text.specs.Token.{TokenData, token_of}
use Rattle.yaml_lexeme.specs.Lexeme.{Lexeme as yaml_lexeme_t}
use Rattle.yaml_scan.specs.declared.stop.stop_t.{stop_t}
use Rattle.yaml_scan.specs.declared.laid.laid_t.{laid_t}
use Rattle.yaml_scan.specs.declared.stop.stop_t.TheVariants.{SINK}
use Rattle.yaml_scan.specs.declared.groups.block_t.{block_t}
use Rattle.yaml_scan.specs.declared.groups.block_t.TheVariants.{NONE, SEQUENCE, MAPPING}
use Rattle.yaml_scan.specs.declared.groups.group_t.{group_t}
use Rattle.yaml_scan.specs.declared.queue.queue_t.{queue_t}
use Rattle.yaml_scan.specs.inside.Scanner.{Scanner}
use Rattle.yaml_scan.specs.Begins.{Begins}
use Rattle.yaml_scan.specs.Groups.{Token, handed_out}
use Rattle.yaml_scan.specs.Kind.{Kind, is_stream_end}
use Rattle.yaml_scan.specs.Laid.{Laid}
use Rattle.yaml_scan.specs.Sink.{said_len}
use Rattle.yaml_scan.specs.Token.{yaml_token_t, type_of}
use Rattle.yaml_scan.specs.TokenTypes.{is_last_type}
use Rattle.yaml_scan.specs.Words.{HasWords}
use Rattle.yaml_scan.specs.inside.Queue.{leads}
use Rattle.yaml_scan.specs.inside.Scanning.{AdvancesWith, IsLaidBy, LaysTwo, Makes, Refuses, groups_in}

-- some tokens of a group before that of its lexeme, as they are handed out
abbrev pub told_leads : List Token → List yaml_token_t
told_leads xs = map (handed_out YAML_UTF8_ENCODING) xs

-- 1 if the start of a block collection is handed out, and else 0
abbrev pub starts_of : block_t → ℕ
starts_of NONE = 0
starts_of SEQUENCE = 1
starts_of MAPPING = 1

-- 1 if a key is handed out, and else 0
abbrev pub keys_of : Bool → ℕ
keys_of true = 1
keys_of false = 0

-- all that a group hands out
abbrev pub group_tokens : group_t → List yaml_token_t
group_tokens y = told_leads (leads y) ++ token_of y.token ∷ []

-- the group that is a token alone
abbrev pub lone : code_token_t → group_t
lone t = record { ends = 0; opens = NONE; key = false; token = t }

-- all that some groups hand out
abbrev pub groups_tokens : List group_t → List yaml_token_t
groups_tokens [] = []
groups_tokens (y ∷ ys) = group_tokens y ++ groups_tokens ys

abbrev pub is_end : yaml_token_t → Bool
is_end t = is_last_type (type_of t.token_data)

-- a sink was given the first of these tokens, in order, and refused the next one
pub record IsCut (took : List yaml_token_t → Type 0) (tokens : List yaml_token_t) : Type 0 where
  pub handed : List yaml_token_t
  pub next : yaml_token_t
  pub begins : Begins (handed ++ next ∷ []) tokens
  pub given : took handed

-- a sink was given these tokens, or it refused one of them
abbrev pub Gives : (List yaml_token_t → Type 0) → Type 0 → List yaml_token_t → Result (Unit {0}) stop_t → Type 0
Gives took refuses tokens o = MatchResult o (λ _. took tokens) (λ stop. (stop ≡ SINK) × IsCut took tokens × refuses)

-- a sink was given a token, and it is told whether that is the stream end, or the sink refused it
abbrev pub GivesNext : (List yaml_token_t → Type 0) → Type 0 → yaml_token_t → Result Bool stop_t → Type 0
GivesNext took refuses x o = MatchResult o (λ last. (last ≡ is_end x) × took (x ∷ []))
    (λ stop. (stop ≡ SINK) × IsCut took (x ∷ []) × refuses)

-- a queue with one group more
pub record IsPushed (q : queue_t) (y : group_t) (r : queue_t) : Type 0 where
  pub groups : r.groups.items ≡ q.groups.items ++ y ∷ []
  pub capacity : deque_capacity r.groups ≡ deque_capacity q.groups
  pub done : r.done ≡ q.done
  pub early : r.early ≡ q.early
  pub early_mark : r.early_mark ≡ q.early_mark

-- the same scanner with another queue, of which n tokens were taken
abbrev pub set_queue : Scanner → queue_t → ℕ → Scanner
set_queue s q n = record {
  alloc = s.alloc;
  text = s.text;
  refusal = s.refusal;
  near = s.near;
  limit = s.limit;
  slots = s.slots;
  allowed = s.allowed;
  layout = record { levels = s.layout.levels; queue = q };
  reach = s.reach;
  gap_end = s.gap_end;
  there = s.there;
  taken = n;
  made = s.made;
}

abbrev pub with_queue : Scanner → queue_t → Scanner
with_queue s q = set_queue s q s.taken

-- the same queue, of which one group more was taken
abbrev pub one_done : queue_t → queue_t
one_done q = record { groups = q.groups; done = q.done + 1; early = q.early; early_mark = q.early_mark }

-- A group was queued, or, unless it had to wait, these tokens of it were given, which are all.
abbrev pub IsHanded : Bool → Bool → Scanner → Scanner → group_t → List yaml_token_t → Type 0
IsHanded direct waits s t y tokens = ((direct ≡ true → waits ≡ true) × (tokens ≡ [])
    × IsPushed s.layout.queue y t.layout.queue × (t ≡ with_queue s t.layout.queue))
    ⊎ ((direct ≡ true) × (waits ≡ false) × (tokens ≡ group_tokens y)
    × (t ≡ set_queue s (one_done s.layout.queue) (s.taken + length tokens)))

-- the same, or the sink refused a token of the group
abbrev pub IsHandedOn
    : Bool → Bool → Scanner → Scanner → group_t → (List yaml_token_t → Type 0) → Type 0 → Result (Unit {0}) stop_t
    → Type 0
IsHandedOn direct waits s t y took refuses o = MatchResult o
    (λ _. (tokens : List yaml_token_t) × IsHanded direct waits s t y tokens × took tokens)
    (λ stop. (direct ≡ true) × (waits ≡ false) × (stop ≡ SINK) × IsCut took (group_tokens y) × refuses)

-- These are all tokens of the groups zs, for none of which a candidate is awaited, and the stream end is not among
-- them.
pub record AllSettled (s : Scanner) (zs : List group_t) (tokens : List yaml_token_t) : Type 0 where
  pub awaited : s.slots.awaited ≡ 0
  pub early : s.layout.queue.early ≡ 0
  pub tokens_are : tokens ≡ groups_tokens zs
  pub no_end : list_any is_end tokens ≡ false

-- t is s after all tokens of the groups zs, which it would have queued, were handed out
pub record Empties (s : Scanner) (zs : List group_t) (t : Scanner) (tokens : List yaml_token_t) : Type 0 where
  pub all : AllSettled s zs tokens
  pub same : t ≡ set_queue s t.layout.queue (s.taken + length tokens)
  pub early : t.layout.queue.early ≡ 0
  pub groups : t.layout.queue.groups.items ≡ []
  pub done : t.layout.queue.done ≡ s.layout.queue.done + length zs

-- A scanner that has queued the groups zs, or has handed out all of them. If they are queued, no more steps were made
-- than the next token needs.
abbrev pub HandsOut : Bool → Bool → Scanner → List group_t → Scanner → List yaml_token_t → Type 0
HandsOut direct sparing s zs t tokens = ((sparing ≡ true) × (tokens ≡ []) × (t ≡ s) × (zs ≡ groups_in s))
    ⊎ ((direct ≡ true) × Empties s zs t tokens)

-- a lexeme of kind k was laid, if the groups zs are queued then
pub record IsLaidAs (H : List Laid) (s : Scanner) (k : Kind) (t : Scanner) (zs : List group_t) : Type 0 where
  pub advances : AdvancesWith H s t zs
  pub kind : advances.lexeme.kind ≡ k

-- n steps were made, if it succeeded
abbrev pub made_by : ℕ → Result (Unit {0}) stop_t → Result ℕ stop_t
made_by n (Ok x) = Ok n
made_by n (Err stop) = Err stop

-- A step was laid, or two, which are not counted yet, and handed on; or the sink refused a token of them.
abbrev pub LaysTo
    : List Laid → Scanner → Scanner → Bool → (List yaml_token_t → Type 0) → Type 0 → Result ℕ stop_t → Type 0
LaysTo H s t direct took refuses o = MatchResult o
    (λ n. (tokens : List yaml_token_t) × (m : Scanner) × (zs : List group_t) × (sparing : Bool)
    × IsLaidBy sparing H s m zs n × HandsOut direct sparing m zs t tokens × took tokens)
    (λ stop. (stop ≡ SINK) × ((n : ℕ) × (tokens : List yaml_token_t) × (m : Scanner) × (zs : List group_t)
    × IsLaidBy false H s m zs n × (direct ≡ true) × AllSettled m zs tokens × IsCut took tokens) × refuses)

-- A step was made, or two, and handed on; or it stopped; or the sink refused a token of it.
abbrev pub StepsTo
    : List Laid → Scanner → Scanner → Bool → (List yaml_token_t → Type 0) → Type 0 → Result (Unit {0}) stop_t
    → Type 0
StepsTo H s t direct took refuses o = MatchResult o
    (λ _. (tokens : List yaml_token_t) × (m : Scanner) × (zs : List group_t) × (sparing : Bool)
    × Makes sparing H s m zs × HandsOut direct sparing m zs t tokens × took tokens)
    (λ stop. (Refuses H s t stop × took []) ⊎ ((stop ≡ SINK) × ((tokens : List yaml_token_t) × (m : Scanner)
    × (zs : List group_t) × Makes false H s m zs × (direct ≡ true) × AllSettled m zs tokens
    × IsCut took tokens) × refuses))

-- a lexeme that says d, from b to e, for which was read to `reach`
abbrev pub read_to : TokenData → yaml_mark_t → yaml_mark_t → yaml_mark_t → Bool → yaml_lexeme_t
read_to d b e reach passed =
    record { token_data = d; start_mark = b; end_mark = e; reach = reach; passed_break = passed }

abbrev pub IsReadTo : yaml_lexeme_t → yaml_mark_t → Bool → Type 0
IsReadTo x reach passed = (x.reach ≡ reach) × (x.passed_break ≡ passed)

-- the token of what says d, from b to e
abbrev pub IsTokenOf : code_token_t → TokenData → yaml_mark_t → yaml_mark_t → Type 0
IsTokenOf t d b e = token_of t ≡ record { token_data = d; start_mark = b; end_mark = e }

-- the group of a token
abbrev pub group_with : ℕ → block_t → Bool → code_token_t → group_t
group_with ends opens key t = record { ends = ends; opens = opens; key = key; token = t }

-- A lexeme of kind k was laid as the group y, which is not handed on yet. Unless it has to wait, no token is before it.
pub record IsLaidAlone (H : List Laid) (s t : Scanner) (k : Kind) (waits : Bool) (y : group_t) : Type 0 where
  pub laid : IsLaidAs H s k t (groups_in t ++ y ∷ [])
  pub far : t.reach.index < s.near
  pub few : s.made + 2 < 2 ^ 64
  pub room : length (groups_in t) < deque_capacity t.layout.queue.groups
  pub words : HasWords (token_of y.token).token_data
  pub says : is_end (token_of y.token) ≡ is_stream_end k
  pub keyless : y.key ≡ false
  pub last : waits ≡ false → is_stream_end k ≡ false
  pub awaited : waits ≡ false → t.slots.awaited ≡ 0
  pub alone : waits ≡ false → groups_in t ≡ []

-- a lexeme was laid as the group y, and what comes right after it as the token z, and they are not handed on yet
pub record IsLaidBoth (H : List Laid) (s t : Scanner) (direct waits : Bool) (y : group_t) (z : code_token_t)
    : Type 0 where
  pub laid : LaysTwo waits H s t (groups_in t ++ y ∷ (lone z ∷ []))
  pub few : s.made + 2 < 2 ^ 64
  pub room : length (groups_in t) + 1 < deque_capacity t.layout.queue.groups
  pub words : HasWords (token_of y.token).token_data
  pub decider_words : HasWords (token_of z).token_data
  pub no_end : is_end (token_of y.token) ≡ false
  pub decider_no_end : is_end (token_of z) ≡ false
  pub straight : waits ≡ false → direct ≡ true
  pub awaited : waits ≡ false → t.slots.awaited ≡ 0
  pub early : t.layout.queue.early ≡ 0
  pub alone : waits ≡ false → groups_in t ≡ []

-- what a step has laid, which is not handed on yet
abbrev pub WasLaidWith : List Laid → Scanner → Scanner → Bool → Bool → group_t → Option code_token_t → Type 0
WasLaidWith H s t direct waits y None = (k : Kind) × IsLaidAlone H s t k waits y
WasLaidWith H s t direct waits y (Some z) = IsLaidBoth H s t direct waits y z

abbrev pub WasLaid : List Laid → Scanner → Scanner → Bool → laid_t → code_token_t → Type 0
WasLaid H s t direct l token = WasLaidWith H s t direct l.waits (group_with l.ends l.opens l.key token) l.decider

-- all tokens of a group and of what comes right after it
abbrev pub tokens_with : group_t → Option code_token_t → List yaml_token_t
tokens_with y None = group_tokens y
tokens_with y (Some z) = group_tokens y ++ token_of z ∷ []

-- unless it has to wait, all of what was laid finds room, if the texts of its token have at most so many bytes
abbrev pub FindsRoom : laid_t → ℕ → Type 0 → (List yaml_token_t → Type 0) → Type 0
FindsRoom l texts within fits = l.waits ≡ false → within → (t : code_token_t) → said_len (token_of t).token_data ≤ texts
    → fits (tokens_with (group_with l.ends l.opens l.key t) l.decider)
