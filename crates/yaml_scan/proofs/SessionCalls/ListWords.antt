-- So can what one call for all tokens returns.
use Rattle.std.proofs.Common.{ℕ, List, [], ◌∷◌, ◌++◌, Option, sym, subst, inl, inr}
use Rattle.std.specs.Prelude.{IfSome}
use Rattle.yaml_text.specs.Fault.{Fault}
use Rattle.yaml_text.specs.declared.types.yaml_encoding_t.{yaml_encoding_t}
use Rattle.yaml_scan.specs.Token.{yaml_token_t}
use Rattle.yaml_scan.specs.Words.{HasLine, HaveWords, HaveLines}
use Rattle.yaml_scan.specs.All.{ReadsAll}
use Rattle.yaml_scan.proofs.SessionCalls.AnswerWords.{all_have_lines}

words_front : (a b : List yaml_token_t) → HaveWords (a ++ b) → HaveWords a
words_front [] b t = tt
words_front (x ∷ a) b t = (t.0, words_front a b t.1)

module _ (limit : ℕ) (setting : yaml_encoding_t) (input : List ℕ) (tokens : List yaml_token_t) (fault : Option Fault) where
  pub reads_have_lines : ReadsAll limit setting input tokens fault → HaveLines tokens fault
  reads_have_lines (inl r) = let t = all_have_lines limit setting input in
      (subst (λ (z : List yaml_token_t). HaveWords z) (sym r.0) t.0, subst (λ (z : Option Fault). IfSome z HasLine) (sym r.1) t.1)
  reads_have_lines (inr r) = let t = all_have_lines limit setting input in
      (words_front tokens r.0.beginning.rest (subst (λ (z : List yaml_token_t). HaveWords z) r.0.beginning.is t.0), subst (λ (z : Option Fault). IfSome z HasLine) (sym r.1) tt)
