-- What is read and written, read by read.
use Rattle.std.proofs.Common.{ℕ, List, false, true, sym, subst, ◌∙◌}
use Rattle.std.proofs.KnownBytes.{Consumes-trans}
use Rattle.std.proofs.lemmas.Bool.{false≢true}
use Rattle.std.specs.Io.KnownBytes.{Appends, Consumes}
use Rattle.yaml_listing.specs.inside.Following.{IsAt}
use Rattle.yaml_listing.proofs.Followed.{if_error, no_read, settled_all, settled_on}
use Rattle.yaml_listing.proofs.following.follow.Given.{Over}
use Rattle.yaml_listing.proofs.following.follow.Goals as goal
use Rattle.yaml_listing.proofs.following.follow.Goals.{In_ok-read}

-- AFTER A READ
-- all that came by then
came : (g : Over) (c : In_ok-read g) → Consumes (g.R.yaml_source_t.remaining c.args.reader.now)
    (g.R.yaml_source_t.remaining c.read.new.reader) c.read.new.self.input.items
came g c =
    let source = g.R.yaml_source_t.remaining in
    let bytes = c.in_ok-read.ensures.bytes in
    subst (λ (z : List ℕ). Consumes (source c.args.reader.now) (source c.read.new.reader) z) (sym bytes.1)
    (Consumes-trans (source c.args.reader.now) (source c.loop-follower.reader) (source c.read.new.reader)
    c.loop-follower.follower.input.items bytes.0 c.loop-follower.invariant.read bytes.2)

-- all that was written by then
told : (g : Over) (c : In_ok-read g) → Appends (g.W.yaml_sink_t.contents c.args.writer.now)
    (g.W.yaml_sink_t.contents c.read.new.writer) c.loop-follower.invariant.told.0
told g c =
    let sink = g.W.yaml_sink_t.contents in
    let t = c.loop-follower.invariant.told in
    subst (λ z. Appends (sink c.args.writer.now) (sink z) t.0) (sym c.in_ok-read.ensures.unwritten) t.1

-- where the parser is
at : (g : Over) (c : In_ok-read g) → IsAt c.args.setting c.read.new.self.input.items c.read.new.self.fed c.loop-follower.invariant.told.0
at g c = let t = c.loop-follower.invariant.told in c.in_ok-read.ensures.at c.args.setting t.0 t.2

-- A read fails: what was read before it is all.
pub returns-in_err-read-clause-cut : goal.returns-in_err-read-clause-cut
returns-in_err-read-clause-cut g c =
    let i = c.loop-follower.invariant in
    let start = g.W.yaml_sink_t.contents c.args.writer.now in
    let w = c.in_err-read.ensures.cut c.args.setting start i.told.0 i.told.2 i.told.1 in
    if_error c.from_residual.result _ _ c.from_residual.ensures.1 (λ y h. record {
      given = c.loop-follower.follower.input.items;
      left = g.R.yaml_source_t.remaining c.loop-follower.reader;
      read = i.read;
      whole = false;
      end = λ e. absurd (false≢true e);
      lines = w.0;
      written = w.1;
      begins = w.2;
      settled = λ e. w.3 (sym h ∙ e);
    })

pub go_on-requires-clause-at : goal.go_on-requires-clause-at
go_on-requires-clause-at g c =
    let t = c.loop-follower.invariant.told in
    (c.args.setting, t.0, c.in_ok-read.ensures.at c.args.setting t.0 t.2)

pub returns-in_err-has_fault-clause-cut : goal.returns-in_err-has_fault-clause-cut
returns-in_err-has_fault-clause-cut g c =
    let r = (goal.at.returns-in_err-has_fault-clause-cut g c).In_ok-read in
    let sink = g.W.yaml_sink_t.contents in
    let w = c.in_err-has_fault.ensures.wrote c.args.setting (sink c.args.writer.now) _ (at g r) (told g r) in
    if_error c.from_residual-in_err-has_fault.result _ _ c.from_residual-in_err-has_fault.ensures.1 (λ y h. record {
      given = c.read.new.self.input.items;
      left = g.R.yaml_source_t.remaining c.read.new.reader;
      read = came g r;
      whole = false;
      end = λ e. absurd (false≢true e);
      lines = w.0;
      written = w.1;
      begins = w.2;
      settled = λ e. absurd (no_read y c.in_err-has_fault.field-0.0 h c.in_err-has_fault.ensures.faults e);
    })

pub returns-in-Some-clause-done : goal.returns-in-Some-clause-done
returns-in-Some-clause-done g c =
    let r = (goal.at.returns-in-Some-clause-done g c).In_ok-read in
    let sink = g.W.yaml_sink_t.contents in
    let w = c.in_ok-has_fault.ensures.wrote c.args.setting (sink c.args.writer.now) _ (at g r) (told g r) in
    record {
      given = c.read.new.self.input.items;
      read = came g r;
      whole = false;
      end = λ e. absurd (false≢true e);
      lines = w.0;
      written = w.1;
      listed = settled_all c.args.setting false c.read.new.self.input.items c.go_on.new.self.fed w.0 c.in_ok-has_fault.field-0 c.in-Some.has_fault c.in-Some.is w.2;
    }

pub loop-follower-preserved : goal.loop-follower-preserved
loop-follower-preserved g c =
    let r = (goal.at.loop-follower-preserved g c).In_ok-read in
    let sink = g.W.yaml_sink_t.contents in
    let w = c.in_ok-has_fault.ensures.wrote c.args.setting (sink c.args.writer.now) _ (at g r) (told g r) in
    let same = c.in_ok-has_fault.ensures.same in
    record {
      reader = c.in_ok-read.ensures.failed;
      writer = sym c.in_ok-has_fault.ensures.write;
      read = subst (λ (z : List ℕ). Consumes (g.R.yaml_source_t.remaining c.args.reader.now) (g.R.yaml_source_t.remaining c.read.new.reader) z) (sym same) (came g r);
      told = (
        w.0,
        w.1,
        subst (λ (z : List ℕ). IsAt c.args.setting z c.go_on.new.self.fed w.0) (sym same)
            (settled_on c.args.setting false c.read.new.self.input.items c.go_on.new.self.fed w.0 c.in_ok-has_fault.field-0 c.in_default.is w.2).1,
      );
    }

pub write-requires-clause-at : goal.write-requires-clause-at
write-requires-clause-at g c =
    let t = c.loop-follower.invariant.told in
    (c.args.setting, t.0, c.in_ok-read.ensures.at c.args.setting t.0 t.2)

pub returns-in_err-has_fault-2-clause-cut : goal.returns-in_err-has_fault-2-clause-cut
returns-in_err-has_fault-2-clause-cut g c =
    let r = (goal.at.returns-in_err-has_fault-2-clause-cut g c).In_ok-read in
    let sink = g.W.yaml_sink_t.contents in
    let w = c.in_err-has_fault-2.ensures.wrote c.args.setting (sink c.args.writer.now) _ (at g r) (told g r) in
    if_error c.from_residual-in_err-has_fault-2.result _ _ c.from_residual-in_err-has_fault-2.ensures.1 (λ y h. record {
      given = c.read.new.self.input.items;
      left = g.R.yaml_source_t.remaining c.read.new.reader;
      read = came g r;
      whole = true;
      end = λ e. c.in_ok-read.ensures.end c.if-branch.false;
      lines = w.0;
      written = w.1;
      begins = w.2;
      settled = λ e. absurd (no_read y c.in_err-has_fault-2.field-0.0 h c.in_err-has_fault-2.ensures.faults e);
    })

pub returns-in-Some-2-clause-done : goal.returns-in-Some-2-clause-done
returns-in-Some-2-clause-done g c =
    let r = (goal.at.returns-in-Some-2-clause-done g c).In_ok-read in
    let sink = g.W.yaml_sink_t.contents in
    let w = c.in_ok-has_fault-2.ensures.wrote c.args.setting (sink c.args.writer.now) _ (at g r) (told g r) in
    record {
      given = c.read.new.self.input.items;
      read = came g r;
      whole = true;
      end = λ e. c.in_ok-read.ensures.end c.if-branch.false;
      lines = w.0;
      written = w.1;
      listed = settled_all c.args.setting true c.read.new.self.input.items c.write.new.self.fed w.0 c.in_ok-has_fault-2.field-0 c.in-Some-2.has_fault c.in-Some-2.is w.2.0;
    }

pub returns-clause-done : goal.returns-clause-done
returns-clause-done g c =
    let r = (goal.at.returns-clause-done g c).In_ok-read in
    let sink = g.W.yaml_sink_t.contents in
    let w = c.in_ok-has_fault-2.ensures.wrote c.args.setting (sink c.args.writer.now) _ (at g r) (told g r) in
    absurd (false≢true (sym (settled_on c.args.setting true c.read.new.self.input.items c.write.new.self.fed w.0 c.in_ok-has_fault-2.field-0 c.in-None.is w.2.0).0))
