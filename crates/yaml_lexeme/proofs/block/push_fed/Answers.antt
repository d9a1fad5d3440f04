use Rattle.std.proofs.Common.{◌≡◌, ℕ, ◌+◌, ◌<◌, ◌≤◌, ◌++◌, ◌∷◌, ◌∙◌, ap, refl, sym, List, [], length, take, set, arith, length-append, length-take, length-set}
use Rattle.std.proofs.lemmas.Grind.{take-set_at}
use Rattle.std.proofs.lemmas.List.{take-take}
use Rattle.std.proofs.Math.Seq.{take-append-add, take-length}
use Rattle.yaml_lexeme.proofs.block.push_fed.Goals as goal

-- a line feed after the text of a line, of which m bytes were copied
fed_front : (out bs : List ℕ) (k n m : ℕ) → k ≡ length out → m ≤ length bs → n < m → take (k + n + 1) (set (out ++ take m bs) (k + n) 0x0A) ≡ (out ++ take n bs) ++ 0x0A ∷ []
fed_front out bs k n m at long few =
    let xs = out ++ take m bs in
    take-set_at xs (k + n) (k + n + 1) 0x0A refl (omega (arith, length-append out (take m bs), length-take m bs))
    ∙ ap (λ (zs : List ℕ). zs ++ 0x0A ∷ []) (ap (λ (i : ℕ). take (i + n) xs) at ∙ take-append-add out (take m bs) n ∙ ap (λ (zs : List ℕ). out ++ zs) (take-take n m bs (omega arith)))

-- where no byte after it was copied
fed_line : (out bs : List ℕ) (k n : ℕ) → k ≡ length out → n < length bs → set (out ++ take (n + 1) bs) (k + n) 0x0A ≡ (out ++ take n bs) ++ 0x0A ∷ []
fed_line out bs k n at long =
    let xs = out ++ take (n + 1) bs in
    let ys = set xs (k + n) 0x0A in
    let all : length ys ≡ k + n + 1 = omega (arith, length-set xs (k + n) 0x0A, length-append out (take (n + 1) bs), length-take (n + 1) bs) in
    sym (take-length ys) ∙ ap (λ (i : ℕ). take i ys) all ∙ fed_front out bs k n (n + 1) at (omega arith) (omega arith)

pub index_mut-requires : goal.index_mut-requires
index_mut-requires c = omega (arith, c.len-old.ensures, c.in_ok-extend_from_slice.ensures.len, c.if-n-lt-LINE.true, c.if-bytes-ge-LINE.true, length-take 64 c.args.bytes.now)

pub returns-then-room-ge-LINE : goal.returns-then-room-ge-LINE
returns-then-room-ge-LINE c =
    let out = c.args.out.now.items in
    let bs = c.args.bytes.now in
    let k = c.len-old.result in
    let n = c.args.n in
    let whole : c.extend_from_slice.new.self.items ≡ out ++ take 64 bs = c.in_ok-extend_from_slice.ensures.items in
    let at : k ≡ length out = omega (arith, c.len-old.ensures) in
    c.truncate.ensures.items ∙ ap (λ (x : List ℕ). take (k + n + 1) (set x (k + n) 0x0A)) whole
    ∙ fed_front out bs k n 64 at (omega (arith, c.if-bytes-ge-LINE.true)) (omega (arith, c.if-n-lt-LINE.true))

pub returns-then-n-room : goal.returns-then-n-room
returns-then-n-room c =
    let out = c.args.out.now.items in
    let bs = c.args.bytes.now in
    let k = c.len-old.result in
    let n = c.args.n in
    let whole : c.extend_from_slice-then-n-room.new.self.items ≡ out ++ take (n + 1) bs = c.in_ok-extend_from_slice-2.ensures.items in
    let at : k ≡ length out = omega (arith, c.len-old.ensures) in
    ap (λ (x : List ℕ). set x (k + n) 0x0A) whole ∙ fed_line out bs k n at c.requires
