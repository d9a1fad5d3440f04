-- The laws of tokens hold of what one call for all tokens returns.
use Rattle.std.proofs.Common.{◌≡◌, ℕ, zero, suc, ◌≤◌, List, [], ◌∷◌, ◌++◌, take, Option, Some, None, refl, ap, sym, ◌∙◌, subst, inl, inr}
use Rattle.std.proofs.lemmas.Bool.{false≢true}
use Rattle.yaml_text.specs.Fault.{Fault, memory_fault}
use Rattle.yaml_text.specs.declared.types.yaml_encoding_t.{yaml_encoding_t}
use Rattle.yaml_scan.specs.Token.{yaml_token_t}
use Rattle.yaml_scan.specs.Begins.{Begins}
use Rattle.yaml_scan.specs.Inputs.{answers_to}
use Rattle.yaml_scan.specs.Decoded.{decoded_input}
use Rattle.yaml_scan.specs.AnswerLaws.{StandInOrder, ends_among, starts_among, AreFollowed, of_text_among, tokens_of_cut, EndsAs, EndsAsFront}
use Rattle.yaml_scan.specs.ParserCalls.{IsRefusedAtStart}
use Rattle.yaml_scan.specs.All.{AllOf, ReadsAll, EndNoMore, EndAll, TellLexemes, TellFault, depth_of}
use Rattle.yaml_scan.proofs.TokenList.NeverRevised.{Begins-trans}
use Rattle.yaml_scan.proofs.Course.InputLaws.{inputs_keep_order, all_stand_in_order, all_end_fewer, all_end_all, all_follow_keys}
use Rattle.yaml_scan.proofs.Course.LexemeTokens.{of_text_begins, answers_tell_lexemes, answers_tell_all}
use Rattle.yaml_scan.proofs.Course.FaultAfterCut.{answers_tell_fault, refused_tell_fault}
use Rattle.yaml_scan.proofs.RunningCalls.CallAnswers.{not_begun}
use Rattle.yaml_scan.proofs.RunningCalls.MemoryRefused.{settled_followed}

order_front : (n : ℕ) (a b : List yaml_token_t) → StandInOrder n (a ++ b) → StandInOrder n a
order_front n [] b o = tt
order_front n (x ∷ a) b o = (o.0, o.1, order_front x.end_mark.index a b o.2)

-- a beginning of a beginning
record IsTaken (m : ℕ) (a b : List yaml_token_t) : Type 0 where
  n : ℕ
  is : take m a ≡ take n (a ++ b)

taken_front : (m : ℕ) (a b : List yaml_token_t) → IsTaken m a b
taken_front zero a b = record { n = 0; is = refl }
taken_front (suc m) [] b = record { n = 0; is = refl }
taken_front (suc m) (x ∷ a) b = let r = taken_front m a b in record { n = suc r.n; is = ap (λ (z : List yaml_token_t). x ∷ z) r.is }

module _ (limit : ℕ) (setting : yaml_encoding_t) (input : List ℕ) (tokens : List yaml_token_t) (fault : Option Fault) where
  abbrev All : List yaml_token_t
  All = (answers_to limit setting input).tokens

  pub reads_in_order : ReadsAll limit setting input tokens fault → StandInOrder 0 tokens
  reads_in_order (inl r) = subst (λ (z : List yaml_token_t). StandInOrder 0 z) (sym r.0) (all_stand_in_order limit setting input)
  reads_in_order (inr r) = order_front 0 tokens r.0.beginning.rest (subst (λ (z : List yaml_token_t). StandInOrder 0 z) r.0.beginning.is (all_stand_in_order limit setting input))

  pub reads_ends : ReadsAll limit setting input tokens fault → EndNoMore tokens
  reads_ends (inl r) n = subst (λ (z : List yaml_token_t). ends_among (take n z) ≤ starts_among (take n z)) (sym r.0) (all_end_fewer limit setting input n)
  reads_ends (inr r) n = let t = taken_front n tokens r.0.beginning.rest in
      subst (λ (z : List yaml_token_t). ends_among z ≤ starts_among z) (sym t.is) (subst (λ (z : List yaml_token_t). ends_among (take t.n z) ≤ starts_among (take t.n z)) r.0.beginning.is (all_end_fewer limit setting input t.n))

  no_memory : (f : Fault) → None ≡ Some f → ⊥
  no_memory f e = cc

  pub reads_all_ends : ReadsAll limit setting input tokens fault → EndAll (depth_of limit setting input) tokens fault
  reads_all_ends (inl r) e d = subst (λ (z : List yaml_token_t). ends_among z ≡ starts_among z) (sym r.0) (all_end_all limit setting input (sym r.1 ∙ e) d)
  reads_all_ends (inr r) e d = absurd (no_memory memory_fault (sym e ∙ r.1))

  pub reads_keys : ReadsAll limit setting input tokens fault → AreFollowed limit tokens
  reads_keys (inl r) = subst (λ (z : List yaml_token_t). AreFollowed limit z) (sym r.0) (all_follow_keys limit setting input)
  reads_keys (inr r) = let s = r.0 in subst (λ (z : List yaml_token_t). AreFollowed limit z) (sym s.tokens_are) (settled_followed limit (decoded_input setting input) (inputs_keep_order setting input) (decoded_input setting input).encoding s.steps s.within)

  input_tells : Begins (of_text_among All) (tokens_of_cut limit (decoded_input setting input))
  unfolding answers_to
  input_tells = answers_tell_lexemes limit (decoded_input setting input) (inputs_keep_order setting input)

  input_tells_all : (answers_to limit setting input).fault ≡ None → of_text_among All ≡ tokens_of_cut limit (decoded_input setting input)
  unfolding answers_to
  input_tells_all e = answers_tell_all limit (decoded_input setting input) (inputs_keep_order setting input) e

  pub reads_lexemes : ReadsAll limit setting input tokens fault → TellLexemes limit setting input tokens fault
  reads_lexemes (inl r) = (
    subst (λ (z : List yaml_token_t). Begins (of_text_among z) (tokens_of_cut limit (decoded_input setting input))) (sym r.0) input_tells,
    λ e. ap (λ (z : List yaml_token_t). of_text_among z) r.0 ∙ input_tells_all (sym r.1 ∙ e),
  )
  reads_lexemes (inr r) = (
    Begins-trans _ _ _ (of_text_begins tokens All r.0.beginning) input_tells,
    λ e. absurd (no_memory memory_fault (sym e ∙ r.1)),
  )

  input_ends : EndsAs limit (decoded_input setting input) (answers_to limit setting input).fault
  unfolding answers_to
  input_ends = answers_tell_fault limit (decoded_input setting input) (inputs_keep_order setting input)

  front_ends : EndsAsFront limit (decoded_input setting input) (answers_to limit setting input).fault
  unfolding answers_to
  front_ends = refused_tell_fault limit (decoded_input setting input) (inputs_keep_order setting input)

  pub reads_fault : ReadsAll limit setting input tokens fault → TellFault limit setting input fault
  reads_fault (inl r) = inl (
    subst (λ (z : Option Fault). EndsAs limit (decoded_input setting input) z) (sym r.1) input_ends,
    subst (λ (z : Option Fault). EndsAsFront limit (decoded_input setting input) z) (sym r.1) front_ends,
  )
  reads_fault (inr r) = inr r.1

  -- no memory is refused if the input is refused so early
  pub reads_at_start : ReadsAll limit setting input tokens fault → IsRefusedAtStart (decoded_input setting input) → AllOf (answers_to limit setting input) tokens fault
  reads_at_start (inl r) e = r
  reads_at_start (inr r) e = let s = r.0 in absurd (false≢true (sym (not_begun limit (decoded_input setting input) e.1) ∙ s.in_utf8 e.0))
