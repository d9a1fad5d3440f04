use Rattle.std.proofs.Common.{◌≡◌, ℕ, List, take, sym, subst, ◌∙◌, ap}
use Rattle.yaml_text.specs.Chars.{utf8}
use Rattle.yaml_lexeme.specs.Place.{Place, skip}
use Rattle.yaml_lexeme.specs.Reading.{with_front}
use Rattle.yaml_lexeme.specs.inside.Words.{Goes, words}
use Rattle.yaml_lexeme.proofs.Readers.PlainLines.{goes_on, goes_shorter}
use Rattle.yaml_lexeme.proofs.Readers.LineFronts.{IsFront, taken_front}
use Rattle.yaml_lexeme.proofs.plain.line_words.Goals as goal
use Rattle.yaml_lexeme.proofs.plain.line_words.Goals.{After-since}

pub since-requires : goal.since-requires
since-requires c =
    let e : Goes c.args.in_flow c.args.least c.args.cursor.now c.skip_chunks.new.cursor = goes_on c.args.in_flow c.args.least c.args.cursor.now c.skip_words.new.cursor c.skip_chunks.new.cursor c.skip_words.ensures c.skip_chunks.ensures.goes in
    (e.0, e.1.0 ∙ ap (skip e.0) (sym c.again-start.ensures))

-- what is taken is the first characters of what was left
took : (c : After-since) → let e : Goes c.args.in_flow c.args.least c.args.cursor.now c.skip_chunks.new.cursor = goes_on c.args.in_flow c.args.least c.args.cursor.now c.skip_words.new.cursor c.skip_chunks.new.cursor c.skip_words.ensures c.skip_chunks.ensures.goes in
    c.since.result.now ≡ utf8 (take e.0 c.args.cursor.now.rest)
took c =
    let e : Goes c.args.in_flow c.args.least c.args.cursor.now c.skip_chunks.new.cursor = goes_on c.args.in_flow c.args.least c.args.cursor.now c.skip_words.new.cursor c.skip_chunks.new.cursor c.skip_words.ensures c.skip_chunks.ensures.goes in
    c.since.ensures e.0 (e.1.0 ∙ ap (skip e.0) (sym c.again-start.ensures)) ∙ ap (λ (r : Place). utf8 (take e.0 r.rest)) c.again-start.ensures

pub returns-clause-goes : goal.returns-clause-goes
returns-clause-goes c =
    let e : Goes c.args.in_flow c.args.least c.args.cursor.now c.skip_chunks.new.cursor = goes_on c.args.in_flow c.args.least c.args.cursor.now c.skip_words.new.cursor c.skip_chunks.new.cursor c.skip_words.ensures c.skip_chunks.ensures.goes in
    e.1.1 ∙ ap (λ (xs : List ℕ). with_front xs (words c.args.in_flow c.args.least c.skip_chunks.new.cursor)) (sym (took (goal.at.returns-clause-goes c).After-since))

front : (c : After-since) → IsFront c.since.result.now (utf8 c.args.cursor.now.rest)
front c =
    let e : Goes c.args.in_flow c.args.least c.args.cursor.now c.skip_chunks.new.cursor = goes_on c.args.in_flow c.args.least c.args.cursor.now c.skip_words.new.cursor c.skip_chunks.new.cursor c.skip_words.ensures c.skip_chunks.ensures.goes in
    subst (λ (x : List ℕ). IsFront x (utf8 c.args.cursor.now.rest)) (sym (took c)) (taken_front e.0 c.args.cursor.now.rest)

pub returns-clause-front : goal.returns-clause-front
returns-clause-front c = let h = front (goal.at.returns-clause-front c).After-since in h.taken

pub returns-clause-within : goal.returns-clause-within
returns-clause-within c = let h = front (goal.at.returns-clause-within c).After-since in h.within

pub returns-clause-shorter : goal.returns-clause-shorter
returns-clause-shorter c = goes_shorter c.args.in_flow c.args.least c.args.cursor.now c.skip_chunks.new.cursor (goes_on c.args.in_flow c.args.least c.args.cursor.now c.skip_words.new.cursor c.skip_chunks.new.cursor c.skip_words.ensures c.skip_chunks.ensures.goes)
