use Rattle.std.proofs.Common.{rules}
use Rattle.yaml_listing.proofs.run.run.Goals as goal

pub returns-then-not-is_right-clause-unread : goal.returns-then-not-is_right-clause-unread
returns-then-not-is_right-clause-unread g c = search rules

pub returns-in_err-write_all-clause-cut : goal.returns-in_err-write_all-clause-cut
returns-in_err-write_all-clause-cut g c = search rules

pub returns-clause-done : goal.returns-clause-done
returns-clause-done g c = search rules

pub returns-in_err-input-clause-args : goal.returns-in_err-input-clause-args
returns-in_err-input-clause-args g c = search rules

pub returns-in_err-input-clause-unread : goal.returns-in_err-input-clause-unread
returns-in_err-input-clause-unread g c = search rules

pub returns-clause-args : goal.returns-clause-args
returns-clause-args g c = search rules

pub returns-clause-untouched : goal.returns-clause-untouched
returns-clause-untouched g c = search rules
