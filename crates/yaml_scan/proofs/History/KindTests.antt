-- What the tests of kinds have to do with one another: a value is no candidate, and so on.
use Rattle.std.proofs.Common.{◌≡◌, ℕ, Bool, true, false, arith}
use Rattle.yaml_scan.specs.Allowed.{allows}
use Rattle.yaml_scan.specs.Kind.{Kind, is_key, is_value, is_plain, is_stream_end, is_block_entry, is_candidate_kind}
use Rattle.yaml_scan.specs.Kind.{is_flow_start, is_flow_end, closes_all, invites_key}
use Rattle.yaml_scan.specs.Levels.{opens_level}
use Rattle.yaml_lexeme.specs.Decider.{decides}

pub value_not_candidate : (k : Kind) → is_value k ≡ true → is_candidate_kind k ≡ false
value_not_candidate k e = grind arith

pub value_not_closer : (k : Kind) → is_value k ≡ true → closes_all k ≡ false
value_not_closer k e = grind arith

pub value_no_end : (k : Kind) → is_value k ≡ true → is_flow_end k ≡ false
value_no_end k e = grind arith

-- after a `:` that completes something no key is allowed
pub value_allows_none : (k : Kind) (n : ℕ) → is_value k ≡ true → false ≡ allows k n false false
value_allows_none k n e = grind arith

-- a `:` that completes something opens no level
pub value_opens_nothing : (k : Kind) → is_value k ≡ true → opens_level k false ≡ false
value_opens_nothing k e = grind arith

pub candidate_not_closer : (k : Kind) → is_candidate_kind k ≡ true → closes_all k ≡ false
candidate_not_closer k e = grind arith

pub candidate_not_entry : (k : Kind) → is_candidate_kind k ≡ true → is_block_entry k ≡ false
candidate_not_entry k e = grind arith

pub candidate_opens_nothing : (k : Kind) (b : Bool) → is_candidate_kind k ≡ true → opens_level k b ≡ false
candidate_opens_nothing k b e = grind arith

pub end_not_candidate : (k : Kind) → is_stream_end k ≡ true → is_candidate_kind k ≡ false
end_not_candidate k e = grind arith

pub end_not_value : (k : Kind) → is_stream_end k ≡ true → is_value k ≡ false
end_not_value k e = grind arith

pub end_closes : (k : Kind) → is_stream_end k ≡ true → closes_all k ≡ true
end_closes k e = grind arith

pub end_opens_nothing : (k : Kind) (b : Bool) → is_stream_end k ≡ true → opens_level k b ≡ false
end_opens_nothing k b e = grind arith

pub flow_kinds : (k : Kind) → is_flow_start k ≡ true → is_flow_end k ≡ false
flow_kinds k e = grind arith

pub flow_end_not_candidate : (k : Kind) → is_flow_end k ≡ true → is_candidate_kind k ≡ false
flow_end_not_candidate k e = grind arith

pub end_no_start : (k : Kind) → is_stream_end k ≡ true → is_flow_start k ≡ false
end_no_start k e = grind arith

pub end_no_end : (k : Kind) → is_stream_end k ≡ true → is_flow_end k ≡ false
end_no_end k e = grind arith

pub key_not_end : (k : Kind) → is_key k ≡ true → is_stream_end k ≡ false
key_not_end k e = grind arith

pub candidate_not_value : (k : Kind) → is_candidate_kind k ≡ true → is_value k ≡ false
candidate_not_value k e = grind arith

pub candidate_not_end : (k : Kind) → is_candidate_kind k ≡ true → is_stream_end k ≡ false
candidate_not_end k e = grind arith

pub other_no_start : (k : Kind) → is_candidate_kind k ≡ false → is_flow_start k ≡ false
other_no_start k e = grind arith

pub candidate_not_flow_end : (k : Kind) → is_candidate_kind k ≡ true → is_flow_end k ≡ false
candidate_not_flow_end k e = grind arith

pub candidate_not_key : (k : Kind) → is_candidate_kind k ≡ true → is_key k ≡ false
candidate_not_key k e = grind arith

pub candidate_invites_none : (k : Kind) → is_candidate_kind k ≡ true → is_flow_start k ≡ false → invites_key k ≡ false
candidate_invites_none k e f = grind arith

-- what decides whether a candidate is a key is none itself, and so on
pub decider_not_candidate : (f : Bool) (k : Kind) → decides f k ≡ true → is_candidate_kind k ≡ false
decider_not_candidate f k e = grind arith

pub decider_no_start : (f : Bool) (k : Kind) → decides f k ≡ true → is_flow_start k ≡ false
decider_no_start f k e = grind arith

pub decider_not_closer : (f : Bool) (k : Kind) → decides f k ≡ true → closes_all k ≡ false
decider_not_closer f k e = grind arith

pub decider_not_end : (f : Bool) (k : Kind) → decides f k ≡ true → is_stream_end k ≡ false
decider_not_end f k e = grind arith

pub decider_not_entry : (f : Bool) (k : Kind) → decides f k ≡ true → is_block_entry k ≡ false
decider_not_entry f k e = grind arith

pub decider_not_key : (f : Bool) (k : Kind) → decides f k ≡ true → is_key k ≡ false
decider_not_key f k e = grind arith

pub decider_not_plain : (f : Bool) (k : Kind) → decides f k ≡ true → is_plain k ≡ false
decider_not_plain f k e = grind arith

-- outside of flow it is a `:`
pub decider_is_value : (k : Kind) → decides false k ≡ true → is_value k ≡ true
decider_is_value k e = grind arith
