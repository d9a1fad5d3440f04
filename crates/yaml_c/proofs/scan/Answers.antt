use Rattle.std.proofs.Common.{rules, ◌<◌, ◌^◌, Option, None, Some, refl, sym, ap, ◌∙◌, arith, subst, length}
use Rattle.std.specs.Prelude.{option_map}
use Rattle.yaml_text.specs.Fault.{Fault, fault_of}
use Rattle.yaml_text.specs.declared.fault.yaml_fault_t.{yaml_fault_t}
use Rattle.yaml_scan.specs.Sink.{IsGivenAll}
use Rattle.yaml_c.specs.inside.Sink.{ArePut}
use Rattle.yaml_c.proofs.Rooms.{covered_from_by_none}
use Rattle.yaml_c.proofs.Scanned.{are_scanned, is_spelled}
use Rattle.yaml_c.proofs.TokensPut.{Fits, same_rooms}
use Rattle.yaml_c.proofs.scan.Goals as goal

pub returns-in_default-fault : goal.returns-in_default-fault
returns-in_default-fault c =
    let a = c.args.rooms.now in
    let b = c.yaml_scan_to.new.sink in
    let few : length a.tokens.now < 2 ^ 63 = search rules in
    let short : length a.texts.now < 2 ^ 63 = search rules in
    let fits : Fits a = record { tokens = few; texts = short; token_count = omega (arith, c.requires.none); text_len = omega (arith, c.requires.no_text) } in
    let g = subst (λ (f : Option yaml_fault_t). IsGivenAll (λ list. ArePut a list b) c.args.limit c.args.setting a.spelled.input.now (option_map fault_of f)) c.in_default-fault.is c.in-Ok.ensures.given in
    let n = same_rooms a b g.tokens g.given in
    record {
      scanned = are_scanned c.args.setting c.args.setting c.args.limit a.spelled.input.now a b None b.tokens.now b.texts.now b.texts.now c.counts.result 0
          refl fits (is_spelled a.spelled c.args.setting c.requires.skipped)
          c.requires.none c.requires.no_text g (λ _. refl) (λ _. refl) (sym (covered_from_by_none b.text_len b.texts.now)) c.counts.ensures refl;
      same_tokens = n.tokens;
      same_texts = n.texts;
    }

pub returns : goal.returns
returns c =
    let a = c.args.rooms.now in
    let b = c.yaml_scan_to.new.sink in
    let d = c.put_fault.new.self in
    let p = c.put_fault.ensures in
    let few : length a.tokens.now < 2 ^ 63 = search rules in
    let short : length a.texts.now < 2 ^ 63 = search rules in
    let fits : Fits a = record { tokens = few; texts = short; token_count = omega (arith, c.requires.none); text_len = omega (arith, c.requires.no_text) } in
    let f : Fault = fault_of c.in-Some.fault in
    let g = subst (λ (f : Option yaml_fault_t). IsGivenAll (λ list. ArePut a list b) c.args.limit c.args.setting a.spelled.input.now (option_map fault_of f)) c.in-Some.is c.in-Ok.ensures.given in
    let n = same_rooms a b g.tokens g.given in
    record {
      scanned = are_scanned c.args.setting c.args.setting c.args.limit a.spelled.input.now a b (Some f) d.tokens.now d.texts.now d.texts.now c.counts_and_fault.result 1
          refl fits (is_spelled a.spelled c.args.setting c.requires.skipped)
          c.requires.none c.requires.no_text g (λ _. ap (λ z. z.now) p.tokens) (λ _. refl) p.texts (rw (← p.token_count, ← p.text_len) c.counts_and_fault.ensures) refl;
      same_tokens = ap (λ z. z.ghost_name) p.tokens ∙ n.tokens;
      same_texts = p.same_texts ∙ n.texts;
    }
