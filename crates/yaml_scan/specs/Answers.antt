-- The answers to a decoded input: a list of tokens, and perhaps a fault.
use Rattle.yaml_text.specs.Fault.{Fault}
use Rattle.std.specs.Prelude.{ℕ, List, map, Option}
use Rattle.yaml_scan.specs.Token.{yaml_token_t}
use Rattle.yaml_scan.specs.Groups.{handed_out}
use Rattle.yaml_scan.specs.Settled.{tokens_of}
use Rattle.yaml_scan.specs.Course.{Input, course}

pub record Answers : Type 0 where
  pub tokens : List yaml_token_t
  pub fault : Option Fault

unfoldable pub answers : ℕ → Input → Answers
answers limit input = record {
  tokens = map (handed_out input.encoding) (tokens_of limit (course limit input));
  fault = (course limit input).fault;
}
