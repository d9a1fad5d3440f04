use Rattle.std.proofs.lemmas.Result.{err_from_is_err_and}
use Rattle.yaml_text.specs.Decode.{front}
use Rattle.yaml_scan.proofs.RunningCalls.KeptCalls.{part_found, part_stopped}
use Rattle.yaml_scan.proofs.scanner.scanner_t.settle_apart.Goals as goal

pub returns-in_err-settle_viewed-clause-settles : goal.returns-in_err-settle_viewed-clause-settles
returns-in_err-settle_viewed-clause-settles c = let p = err_from_is_err_and c.from_residual.result c.from_residual.ensures.1 in rw (p.1, p.2) c.in_err-settle_viewed.ensures

pub returns-in_err-settle_viewed-clause-part : goal.returns-in_err-settle_viewed-clause-part
returns-in_err-settle_viewed-clause-part c = part_stopped c.args.input.now c.args.self.now c.settle_viewed.new.self c.args.part.now _ c.in_err-settle_viewed.ensures c.requires.part

pub part-requires : goal.part-requires
part-requires c = (front c.args.self.now.setting c.args.input.now, c.in_ok-settle_viewed.ensures.0.text)

pub returns-clause-settles : goal.returns-clause-settles
returns-clause-settles c = c.in_ok-settle_viewed.ensures

pub returns-clause-part : goal.returns-clause-part
returns-clause-part c = let k = c.in_ok-settle_viewed.ensures in part_found c.args.input.now c.args.self.now c.settle_viewed.new.self c.part.result k.0 k.1 c.part.ensures.again
