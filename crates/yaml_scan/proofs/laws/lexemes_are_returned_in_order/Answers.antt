use Rattle.yaml_scan.proofs.Course.LexemeTokens as laws
use Rattle.yaml_scan.proofs.laws.lexemes_are_returned_in_order.Goals as goal

pub returns : goal.returns
returns c = record { answered = laws.answers_tell_lexemes; whole = laws.answers_tell_all }
