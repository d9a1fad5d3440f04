use Rattle.std.proofs.Common.{refl, sym, ap, ◌∙◌, subst}
use Rattle.yaml_scan.specs.Parser.{Parser}
use Rattle.yaml_scan.specs.inside.Kept.{IsKept}
use Rattle.yaml_scan.proofs.RunningCalls.ScansToTheEnd.{has_begun}
use Rattle.yaml_c.specs.Kinds.{Whole}
use Rattle.yaml_c.specs.declared.kinds.held_any_t.{held_any_t}
use Rattle.yaml_c.specs.Held.{IsAt, opened}
use Rattle.yaml_text.specs.Types.{encoding_number}
use Rattle.yaml_c.proofs.held.open.Goals as goal

pub returns-in-Ok : goal.returns-in-Ok
returns-in-Ok c =
    let s = opened c.args.input.now c.args.setting c.args.limit in
    subst (λ (z : held_any_t). Whole z (IsAt s)) (sym c.in-Ok.ensures.ok) (record {
      keeps = record {
        kept = subst (λ (z : Parser). IsKept z c.new.result) c.with_key_limit-parser.ensures c.new.ensures;
        ahead = refl;
        stands = has_begun s.limit s.setting s.input s.parser refl refl refl refl;
      };
      encoding = c.encoding_number-encoding.ensures ∙ ap encoding_number c.yaml_encoding_of.ensures;
      skipped = c.skipped_of.ensures;
    })
