use Rattle.std.proofs.Common.{arith}
use Rattle.yaml_text.proofs.Decodings.DecodeFronts.{IsText-nil}
use Rattle.yaml_text.proofs.ManyBytes.WholeRuns.{whole_front}
use Rattle.yaml_text.proofs.blocks.whole_len.Goals as goal

pub returns-then-bytes-lt19-clause-text : goal.returns-then-bytes-lt19-clause-text
returns-then-bytes-lt19-clause-text c = IsText-nil

pub returns-then-not-starts-clause-text : goal.returns-then-not-starts-clause-text
returns-then-not-starts-clause-text c = IsText-nil

pub returns-then-n-lt3-clause-text : goal.returns-then-n-lt3-clause-text
returns-then-n-lt3-clause-text c = IsText-nil

pub returns-clause-text : goal.returns-clause-text
returns-clause-text c =
    whole_front c.args.bytes.now c.clean_len-n.result c.last_start.result (c.starts.ensures c.if-not-starts.false) c.clean_len-n.ensures.clean c.clean_len-n.ensures.within (omega (arith, c.last_start.ensures.within)) c.last_start.ensures.start
