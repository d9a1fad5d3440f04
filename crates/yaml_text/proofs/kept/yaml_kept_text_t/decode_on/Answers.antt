use Rattle.std.proofs.Common.{ℕ, ◌+◌, List, drop, sym, ap, ◌∙◌, subst}
use Rattle.std.specs.Prelude.{option_map}
use Rattle.yaml_text.specs.Fault.{reader_fault}
use Rattle.yaml_text.specs.Kept.{IsKeptOf, KeptText}
use Rattle.yaml_text.specs.Pieces.{IsBegunOf}
use Rattle.yaml_text.specs.Decode.{front}
use Rattle.yaml_text.proofs.Decodings.FrontGoesOn.{Found, still_begun, told_broken, told_kept}
use Rattle.yaml_text.proofs.kept.yaml_kept_text_t.decode_on.Goals as goal

pub returns : goal.returns
returns c =
    let k = c.args.self.now in
    let input = c.args.input.now in
    let len = c.front8-len.result.0 in
    let o = c.front8-len.result.1 in
    let f = c.front8-len.ensures in
    let found : Found (drop k.start input) len o = subst (λ (x : List ℕ). Found x len o) (c.rest.ensures ∙ ap (λ (n : ℕ). drop n input) c.place-start.ensures.start) (record {
      within = f.within;
      text = f.text;
      longest = f.longest;
      whole = f.whole;
      offence = f.offence;
      left = f.left;
    }) in
    let fault-is = c.told.ensures.fault ∙ ap (λ (n : ℕ). option_map (reader_fault (n + len)) o) c.place-start.ensures.start in
    record {
      kept = λ s b. (
        subst (λ (x : KeptText). IsKeptOf (front s input) input x) (sym c.lengthen.ensures) (told_kept s input k b len o found _ fault-is).keeps,
        subst (λ (x : KeptText). IsBegunOf s input x) (sym c.lengthen.ensures) (still_begun s input k b len o found),
      );
      refusal = λ s b. (told_kept s input k b len o found _ fault-is).refusal_is;
      broken = λ s b. told_broken s input k b len o found _ c.told.ensures.broken;
    }
