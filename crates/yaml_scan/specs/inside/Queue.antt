-- The queue of a running scanner: of each step, in order, what it hands out that was not taken.
use Rattle.std.specs.Prelude.{◌≡◌, ◌⊎◌, ℕ, zero, suc, ◌+◌, ◌-◌, ◌≤◌, ◌<◌, Bool, true, false, ◌&&◌, List, [], ◌∷◌, ◌++◌}
use Rattle.std.specs.Prelude.{length, drop, Option, None, Some, if◌then◌else◌}
use Rattle.std.specs.VecDeque.{deque_capacity}
use Rattle.yaml_text.specs.declared.types.yaml_mark_t.{yaml_mark_t}
use Rattle.yaml_text.specs.declared.types.yaml_encoding_t.{yaml_encoding_t}
use Rattle.yaml_text.specs.Token.{token_of}
use Rattle.yaml_scan.specs.declared.groups.block_t.{block_t}
use Rattle.yaml_scan.specs.declared.groups.block_t.TheVariants.{NONE, SEQUENCE, MAPPING}
use Rattle.yaml_scan.specs.declared.groups.lead_t.{lead_t}
use Rattle.yaml_scan.specs.declared.groups.lead_t.TheVariants.{NOTHING, END, SEQUENCE_START, MAPPING_START, KEY}
use Rattle.yaml_scan.specs.declared.groups.group_t.{group_t}
use Rattle.yaml_scan.specs.declared.queue.queue_t.{queue_t}
use Rattle.yaml_scan.specs.Kind.{Kind, is_block_entry}
use Rattle.yaml_scan.specs.Token.{yaml_token_t}
use Rattle.yaml_scan.specs.Levels.{stays, opens_level}
use Rattle.yaml_scan.specs.Groups.{Token, handed_out}
use Rattle.yaml_scan.specs.Groups.Token.{BlockEnd, BlockSequenceStart, BlockMappingStart, InsertedKey}
use Rattle.yaml_scan.specs.Laws.{is_of_lexeme, is_block_end}
use Rattle.yaml_scan.specs.inside.Opened.{is_new}
use Rattle.yaml_scan.specs.inside.Slots.{Held}

-- n block ends of one mark
abbrev pub ends_at : ℕ → yaml_mark_t → List Token
ends_at zero m = []
ends_at (suc n) m = BlockEnd m ∷ ends_at n m

-- the start of a block collection, or none
abbrev pub starts_at : block_t → yaml_mark_t → List Token
starts_at NONE m = []
starts_at SEQUENCE m = BlockSequenceStart m ∷ []
starts_at MAPPING m = BlockMappingStart m ∷ []

-- block ends, the start of a block collection or none, and a key or none, of one mark
abbrev pub leads_at : ℕ → block_t → Bool → yaml_mark_t → List Token
leads_at ends opens key m = ends_at ends m ++ (starts_at opens m ++ (if key then InsertedKey m ∷ [] else []))

-- what a group hands out before its token, at the token's start
abbrev pub leads : group_t → List Token
leads y = leads_at y.ends y.opens y.key y.token.start_mark

-- the early block ends come before the group that no other one follows
abbrev pub early_before : ℕ → yaml_mark_t → List group_t → List Token
early_before early early_mark [] = ends_at early early_mark
early_before early early_mark (z ∷ ys) = []

-- what is handed out before the token of the first group
abbrev pub pending : ℕ → yaml_mark_t → List group_t → List Token
pending early early_mark [] = []
pending early early_mark (y ∷ ys) = early_before early early_mark ys ++ leads y

-- These tokens are queued: each group hands out its leads and then its token, which is that of a lexeme or the start of
-- the stream.
abbrev pub IsQueue : yaml_encoding_t → ℕ → yaml_mark_t → List group_t → List Token → Type 0
IsQueue e early early_mark [] xs = xs ≡ []
IsQueue e early early_mark (y ∷ ys) xs = (x : Token) × (rest : List Token)
    × (xs ≡ pending early early_mark (y ∷ ys) ++ x ∷ rest)
    × (token_of y.token ≡ handed_out e x) × (is_of_lexeme x ≡ true) × IsQueue e early early_mark ys rest

-- the token of a lead, at its mark
abbrev pub lead_tokens : lead_t → yaml_mark_t → List Token
lead_tokens NOTHING m = []
lead_tokens END m = BlockEnd m ∷ []
lead_tokens SEQUENCE_START m = BlockSequenceStart m ∷ []
lead_tokens MAPPING_START m = BlockMappingStart m ∷ []
lead_tokens KEY m = InsertedKey m ∷ []

-- a list begins with a block end
abbrev pub begins_with_end : List Token → Bool
begins_with_end [] = false
begins_with_end (x ∷ xs) = is_block_end x

-- the mark of what is handed out before the token of the first group
abbrev pub mark_next : ℕ → yaml_mark_t → List group_t → yaml_mark_t
mark_next early early_mark [] = early_mark
mark_next zero early_mark (y ∷ ys) = y.token.start_mark
mark_next (suc n) early_mark (y ∷ []) = early_mark
mark_next (suc n) early_mark (y ∷ (z ∷ ys)) = y.token.start_mark

-- the group of a candidate, which a `:` completes, and which opens a block mapping or not
abbrev pub keyed : Bool → group_t → group_t
keyed opens y = record { ends = y.ends; opens = if opens then MAPPING else y.opens; key = true; token = y.token }

abbrev pub keyed_at : ℕ → Bool → List group_t → List group_t
keyed_at n opens [] = []
keyed_at zero opens (y ∷ ys) = keyed opens y ∷ ys
keyed_at (suc n) opens (y ∷ ys) = y ∷ keyed_at n opens ys

-- the groups after a lexeme that completes the candidate that is held, if d groups were taken
abbrev pub completed_in : Bool → Option Held → List ℕ → ℕ → List group_t → List group_t
completed_in in_flow None cs d ys = ys
completed_in in_flow (Some h) cs d ys = keyed_at (h.step - 1 - d) (is_new in_flow h.start.column cs) ys

abbrev pub start_of : Kind → block_t
start_of k = if is_block_entry k then SEQUENCE else MAPPING

-- what a lexeme of kind k in a column opens itself
abbrev pub opened_by : Bool → Option Held → Kind → ℕ → List ℕ → block_t
opened_by in_flow None k column cs = if is_new in_flow column cs && opens_level k true then start_of k else NONE
opened_by in_flow (Some h) k column cs = NONE

-- the group of the candidate that is held is among those that are queued, if d were taken
abbrev pub Fitting : Option Held → ℕ → List group_t → Type 0
Fitting None d ys = Unit {0}
Fitting (Some h) d ys = (d < h.step) × (h.step - 1 - d < length ys)

-- a queue but for its groups
pub record KeepsRest (old new : queue_t) : Type 0 where
  pub done : new.done ≡ old.done
  pub early : new.early ≡ old.early
  pub early_mark : new.early_mark ≡ old.early_mark
  pub long : length new.groups.items ≡ length old.groups.items
  pub capacity : deque_capacity new.groups ≡ deque_capacity old.groups

-- the token that is handed out before that of the first group, if there is one
abbrev pub IsLead : yaml_encoding_t → queue_t → yaml_token_t → Type 0
IsLead e q token = (x : Token) (rest : List Token) → pending q.early q.early_mark q.groups.items ≡ x ∷ rest
    → token ≡ handed_out e x

-- what comes before the first token is taken: only the first group changes, or, if it is the only one, how many
-- early block ends are left
pub record DropsLead (old new : queue_t) : Type 0 where
  pub was : group_t
  pub now : group_t
  pub others : List group_t
  pub old_is : old.groups.items ≡ was ∷ others
  pub new_is : new.groups.items ≡ now ∷ others
  pub token : now.token ≡ was.token
  pub pending : pending new.early new.early_mark (now ∷ others)
      ≡ drop 1 (pending old.early old.early_mark (was ∷ others))
  pub done : new.done ≡ old.done
  pub early_mark : new.early_mark ≡ old.early_mark
  pub early : new.early ≤ old.early
  pub same_early : others ≡ [] ⊎ (new.early ≡ old.early)

-- No token is handed out before that of the first group, and nothing is taken.
pub record IsBare (old new : queue_t) : Type 0 where
  pub none : pending new.early new.early_mark new.groups.items ≡ []
  pub groups : new.groups.items ≡ old.groups.items
  pub done : new.done ≡ old.done
  pub early : new.early ≡ old.early
  pub early_mark : new.early_mark ≡ old.early_mark

-- the first token is taken
pub record Takes (e : yaml_encoding_t) (old new : queue_t) (token : yaml_token_t) (xs : List Token) : Type 0 where
  pub first : Token
  pub rest : List Token
  pub is : xs ≡ first ∷ rest
  pub told : token ≡ handed_out e first
  pub queue : IsQueue e new.early new.early_mark new.groups.items rest
  pub count : new.done + length new.groups.items ≡ old.done + length old.groups.items
  pub early : new.early ≤ old.early

-- the first token is taken, whatever the encoding
abbrev pub TakesNext : queue_t → queue_t → yaml_token_t → Type 0
TakesNext old new token = (e : yaml_encoding_t) (xs : List Token)
    → IsQueue e old.early old.early_mark old.groups.items xs
    → Takes e old new token xs

-- what is handed out before the token of the first group is taken, at its mark
abbrev pub TakesLead : queue_t → queue_t → lead_t → yaml_mark_t → Type 0
TakesLead old new lead m = (token : yaml_token_t) → (lead ≡ NOTHING → ⊥)
    → ((e : yaml_encoding_t) (x : Token) → lead_tokens lead m ≡ x ∷ [] → token ≡ handed_out e x)
    → TakesNext old new token

-- the column on top of the stack of levels, if a lexeme does not keep it
abbrev pub closing : Bool → Kind → yaml_mark_t → List ℕ → Option ℕ
closing in_flow k m [] = None
closing in_flow k m (c ∷ cs) = if stays in_flow k m c then None else Some c
