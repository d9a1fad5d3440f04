use Rattle.std.proofs.Common.{rules, ◌<◌, ◌^◌, length, sym, subst, arith}
use Rattle.yaml_c.specs.inside.PieceBatch.{GivesTokens}
use Rattle.yaml_c.specs.declared.held.ahead_t.{ahead_t}
use Rattle.yaml_c.proofs.PieceTokens.{end_given, fault_given, fault_next, is_none, rest_given, runs_on}
use Rattle.yaml_c.proofs.TokensPut.{Fits, same_rooms}
use Rattle.yaml_c.proofs.pieces.give.Goals as goal
use Rattle.yaml_c.proofs.pieces.give.Goals.{After-scan_to-why}

-- the rooms are those of a new call
fits_in : (c : After-scan_to-why) → Fits c.args.rooms.now
fits_in c =
    let a = c.args.rooms.now in
    let few : length a.tokens.now < 2 ^ 63 = search rules in
    let short : length a.texts.now < 2 ^ 63 = search rules in
    record { tokens = few; texts = short; token_count = omega (arith, c.requires.none); text_len = omega (arith, c.requires.no_text) }

-- it was known that the fault comes next
pub returns-in-FAULT-clause-gives : goal.returns-in-FAULT-clause-gives
returns-in-FAULT-clause-gives c = λ s same last at. fault_next s c.args.rooms.now _ _ at c.in-FAULT.is

-- the fault comes next
pub returns-in-FAULT-why : goal.returns-in-FAULT-why
returns-in-FAULT-why c =
    let a = c.args.rooms.now in
    let r = c.requires in
    let fits = fits_in (goal.at.returns-in-FAULT-why c).After-scan_to-why in
    let within = c.scan_to-why.ensures.within (record { few = omega (arith, r.none); fit = omega (arith, r.no_text) }) in
    let n = same_rooms _ _ _ (c.scan_to-why.ensures.gives r.at.0.fed r.at.1 r.at.2 r.at.3.is).given in
    record {
      same_tokens = n.tokens;
      same_texts = n.texts;
      same_spare = n.spare;
      gives = λ s same last at. fault_given s a _ _ fits r.none r.no_text within _ c.in-FAULT-why.is (c.scan_to-why.ensures.gives s.fed same last at.is);
    }

-- the stream end was given
pub returns-in-OVER : goal.returns-in-OVER
returns-in-OVER c =
    let a = c.args.rooms.now in
    let r = c.requires in
    let fits = fits_in (goal.at.returns-in-OVER c).After-scan_to-why in
    let within = c.scan_to-why.ensures.within (record { few = omega (arith, r.none); fit = omega (arith, r.no_text) }) in
    let n = same_rooms _ _ _ (c.scan_to-why.ensures.gives r.at.0.fed r.at.1 r.at.2 r.at.3.is).given in
    record {
      same_tokens = n.tokens;
      same_texts = n.texts;
      same_spare = n.spare;
      gives = λ s same last at. end_given s a _ _ fits r.none r.no_text within _ (runs_on s _ _ at (is_none _ c.in_default.not-FAULT r.more)) c.in-OVER.is (c.scan_to-why.ensures.gives s.fed same last at.is);
    }

-- a room is full, or more has to come
pub returns-in_default-why : goal.returns-in_default-why
returns-in_default-why c =
    let a = c.args.rooms.now in
    let r = c.requires in
    let fits = fits_in (goal.at.returns-in_default-why c).After-scan_to-why in
    let within = c.scan_to-why.ensures.within (record { few = omega (arith, r.none); fit = omega (arith, r.no_text) }) in
    let n = same_rooms _ _ _ (c.scan_to-why.ensures.gives r.at.0.fed r.at.1 r.at.2 r.at.3.is).given in
    let none = is_none _ c.in_default.not-FAULT r.more in
    record {
      same_tokens = n.tokens;
      same_texts = n.texts;
      same_spare = n.spare;
      gives = λ s same last at. subst (λ (z : ahead_t). GivesTokens s a c.scan_to-why.new.sink c.scan_to-why.new.parser z c.scan_to-why.result) (sym none)
          (rest_given s a _ _ fits r.none r.no_text within _ (c.scan_to-why.ensures.gives s.fed same last at.is) c.in_default-why.not-OVER c.in_default-why.not-FAULT);
    }
