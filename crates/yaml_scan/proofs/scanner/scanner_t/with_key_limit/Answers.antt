use Rattle.std.proofs.Common.{refl, arith, inl}
use Rattle.std.proofs.lemmas.Bool.{false≢true}
use Rattle.yaml_text.specs.Decode.{front}
use Rattle.yaml_scan.specs.inside.Scanner.{scanner_of}
use Rattle.yaml_scan.specs.inside.Ready.{course_in}
use Rattle.yaml_scan.proofs.RunningStep.FirstStep.{new_reach}
use Rattle.yaml_scan.proofs.scanner.scanner_t.with_key_limit.Goals as goal

pub returns-clause-is : goal.returns-clause-is
returns-clause-is c = λ input.
    let T = front c.args.setting input in
    let n = c.new_state.ensures.new T in
    let s = c.new_state.result in record {
      sound = record {
        ready = λ o. inl n;
        peeked = λ p. absurd (false≢true p);
        failed = λ o. refl;
        reach = new_reach (scanner_of T s) n (course_in s.limit c.args.setting input).read;
        lead = λ p. absurd (false≢true p);
        limit = (let a = c.new_state.ensures.limit in let b = c.requires in omega arith);
        queued = rw (n.made, n.done) refl;
        few = rw n.made (omega arith);
      };
      text = λ o m. absurd (let a = n.made in omega arith);
    }

pub returns-clause-new : goal.returns-clause-new
returns-clause-new c = λ input. let n = c.new_state.ensures.new (front c.args.setting input) in rw (c.new_state.ensures.limit, n.taken, n.made) refl
