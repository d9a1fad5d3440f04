-- The answers are those to the calls of the word.
use Rattle.std.proofs.Common.{◌≡◌, ◌++◌, List, [], ◌∷◌, map, Bool, ◌||◌, refl, ap, ◌∙◌, subst}
use Rattle.std.specs.List.{list_any}
use Rattle.yaml_scan.specs.ParserCalls.{call_of}
use Rattle.yaml_scan.specs.declared.calls.yaml_call_t.{yaml_call_t}
use Rattle.yaml_scan.specs.declared.calls.yaml_answer_t.{yaml_answer_t}
use Rattle.yaml_scan.specs.Seen.{seen_of}
use Rattle.yaml_listing.specs.Listing.{answer_lines, is_fault}
use Rattle.yaml_listing.specs.Run.{AnswersCalls, calls_in}
use Rattle.yaml_listing.proofs.answer.list_called.Goals as goal

-- whether one of the items is such, and whether one of what they are mapped to is
any_map : {X Y : Type 0} (p : Y → Bool) (f : X → Y) (xs : List X) → list_any (λ x. p (f x)) xs ≡ list_any p (map f xs)
any_map p f [] = refl
any_map p f (x ∷ xs) = ap (λ b. p (f x) || b) (any_map p f xs)

pub returns : goal.returns
returns c =
    let answers = c.in_ok-answers.answers.items in
    let calls : c.deref.result.now ≡ calls_in c.args.word.now = c.deref.ensures.value ∙ c.in_ok-calls.ensures in
    record {
      answers = map seen_of answers;
      answered = subst
          (λ (l : List yaml_call_t). AnswersCalls c.args.setting c.args.input.now (map call_of l) (map seen_of answers))
          calls c.in_ok-answers.ensures.answers;
      lines_are = c.in_ok-list_answers.ensures
          ∙ ap (λ l. l ++ answer_lines (map seen_of c.deref-2.result.now)) c.new-lines.ensures.items
          ∙ ap (λ (l : List yaml_answer_t). answer_lines (map seen_of l)) c.deref-2.ensures.value;
      fault_is = c.has_fault-has_fault.ensures
          ∙ ap (λ (l : List yaml_answer_t). list_any (λ answer. is_fault (seen_of answer)) l) c.deref-3.ensures.value
          ∙ any_map is_fault seen_of answers;
    }
