use Rattle.std.proofs.Common.{rules, arith, ap, refl}
use Rattle.yaml_lexeme.specs.LexemeOf.{lexeme_of}
use Rattle.yaml_scan.specs.Sink.{said_len}
use Rattle.yaml_scan.specs.Token.{yaml_token_t}
use Rattle.yaml_scan.proofs.step.lay_read.Goals as goal

pub lay_all-laid-requires : goal.lay_all-laid-requires
lay_all-laid-requires g c = λ κs w. (search rules, (search rules, (lexeme_of c.in-Ok.lexeme, ((refl, refl), (rw c.in-Ok-check_reach.ensures.0 c.in-Ok-check_reach.ensures.1)))))

pub returns-in-Ok-check_reach-clause-laid : goal.returns-in-Ok-check_reach-clause-laid
returns-in-Ok-check_reach-clause-laid g c =
    let x = lexeme_of c.in-Ok.lexeme in
    rw (← c.in-Ok-check_reach.ensures.0) (c.lay_all-laid.ensures.laid x.token_data x.start_mark x.end_mark c.token_of.result (rw c.in-Ok-check_reach.ensures.0 c.in-Ok-check_reach.ensures.1) c.token_of.ensures)

pub returns-in-Ok-check_reach-clause-room : goal.returns-in-Ok-check_reach-clause-room
returns-in-Ok-check_reach-clause-room g c = λ e within t few after took.
    c.lay_all-laid.ensures.room e within t (let v = ap (λ (z : yaml_token_t). said_len z.token_data) c.token_of.ensures in let w = c.said_len.ensures in omega arith) after took

pub returns-in-Err-clause-laid : goal.returns-in-Err-clause-laid
returns-in-Err-clause-laid g c = search rules
