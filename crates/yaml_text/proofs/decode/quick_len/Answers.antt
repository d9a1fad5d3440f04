use Rattle.yaml_text.proofs.Decodings.DecodeFronts.{text_grows}
use Rattle.yaml_text.proofs.ManyBytes.AsciiFronts.{single_front}
use Rattle.yaml_text.proofs.decode.quick_len.Goals as goal

pub returns-then-run-ge32-clause-text : goal.returns-then-run-ge32-clause-text
returns-then-run-ge32-clause-text c = single_front c.args.bytes.now c.single_len-run.result c.single_len-run.ensures.value

pub returns-clause-text : goal.returns-clause-text
returns-clause-text c =
    let xs = c.args.bytes.now in
    let run = c.single_len-run.result in
    let front = single_front xs run c.single_len-run.ensures.value in
    (text_grows xs run c.whole_len.result c.single_len-run.ensures.bound front (rw c.rest.ensures at c.whole_len.ensures.within) (rw c.rest.ensures at c.whole_len.ensures.text)).1

pub returns-clause-within : goal.returns-clause-within
returns-clause-within c =
    let xs = c.args.bytes.now in
    let run = c.single_len-run.result in
    let front = single_front xs run c.single_len-run.ensures.value in
    (text_grows xs run c.whole_len.result c.single_len-run.ensures.bound front (rw c.rest.ensures at c.whole_len.ensures.within) (rw c.rest.ensures at c.whole_len.ensures.text)).0
