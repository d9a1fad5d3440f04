-- If there is no room for what the scalar says, what stands before its line stays.
use Rattle.std.proofs.Common.{◌≡◌, ◌≤◌, ℕ, List, Result, Ok, Err, length, take, drop, ap, ◌∙◌, arith}
use Rattle.std.specs.Prelude.{OnErr}
use Rattle.yaml_text.specs.declared.types.yaml_token_type_t.TheVariants.{YAML_SCALAR_TOKEN}
use Rattle.yaml_listing.specs.Listing.{parts_text, head_parts}
use Rattle.yaml_listing.proofs.Placed.{front_kept, written_back}
use Rattle.yaml_listing.proofs.line.put_scalar_line.Goals as goal

on_err : {T E P : Type 0} (r : Result T E) → P → OnErr r P
on_err (Ok x) p = tt
on_err (Err e) p = p

pub returns-in_err-end-clause-err : goal.returns-in_err-end-clause-err
returns-in_err-end-clause-err c =
    let at = c.args.at in
    let scalar = c.args.scalar.now in
    let before = c.deref_mut.result.now in
    let after = c.put_scalar.new.bytes.items in
    let within : at ≤ length before = omega (arith, c.deref_mut.ensures.len, c.make_room.ensures.place) in
    let set = c.set_head-head_end.new.buffer in
    let room = c.make_room.new.bytes in
    let whole : length set ≡ room.len = c.set_head-head_end.auto.buffer ∙ c.deref_mut.ensures.len in
    let stays : take c.set_head-head_end.result after ≡ take c.set_head-head_end.result set =
    c.in_err-end.ensures.err
    ∙ ap (λ (z : List ℕ). take c.set_head-head_end.result z)
    (written_back room.len set (drop (length set) room.items) whole) in
    let kept : take at after ≡ take at before =
    front_kept at c.set_head-head_end.result before set after
    (parts_text (head_parts YAML_SCALAR_TOKEN scalar.start_mark scalar.end_mark)) within c.set_head-head_end.ensures.low
    c.set_head-head_end.ensures.text stays in
    on_err c.from_residual-in_err-end.result
    (kept ∙ ap (λ (z : List ℕ). take at z) c.deref_mut.ensures.value ∙ c.in_ok-make_room.ensures.front)
