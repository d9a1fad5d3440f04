use Rattle.std.proofs.Common.{ltb, eqb, ℕ}
use Rattle.yaml_text.proofs.ManyBytes.WindowLanes.{compared, compared_left, both, either, one_of_two, selected, length-windows}
use Rattle.yaml_text.proofs.blocks.rare_leads.Goals as goal

pub returns : goal.returns
returns c = λ ts is next.
    let a = c.args.a in
    let b = c.args.b in
    let long = c.fits-a.0 in
    let long-next = c.fits-b.0 in
    let lead = λ (y : ℕ). compared eqb 0 y 16 ts a is long in
    let less = λ (y : ℕ). compared ltb 1 y 16 ts b next long-next in
    let never = either ts (either ts (lead 0xC0) (lead 0xC1)) (compared_left ltb 0 0xF3 16 ts a is long) in
    let second = both ts (either ts (lead 0xC2) (either ts (lead 0xE0) (lead 0xED))) (one_of_two ts (less 0xA0) (lead 0xED)) in
    let last = both ts (lead 0xEF) (compared eqb 1 0xBF 16 ts b next long-next) in
    let far = both ts (lead 0xF0) (less 0x90) in
    selected 16 ts (length-windows 0 16 ts a is long) (either ts never (either ts second (either ts last far)))
