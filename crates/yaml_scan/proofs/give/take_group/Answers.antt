use Rattle.std.proofs.Common.{◌≡◌, ◌∷◌, ◌++◌, Option, refl, ap, sym, ◌∙◌, arith}
use Rattle.std.specs.Prelude.{option_to_list}
use Rattle.yaml_scan.specs.declared.groups.group_t.{group_t}
use Rattle.yaml_scan.specs.inside.Scanner.{scanner_of}
use Rattle.yaml_scan.specs.inside.Scanning.{groups_in}
use Rattle.yaml_scan.proofs.RunningCalls.HeadGroup.{group_drained, group_few, group_words, ready_head}
use Rattle.yaml_scan.proofs.give.take_group.Goals as goal

pub overflow_add-state-2 : goal.overflow_add-state-2
overflow_add-state-2 c =
    let s = (scanner_of c.args._text.now c.args.state.now) in
    let y = c.unwrap-group.result in
    let ys = c.pop_front.new.self.items in
    let h : groups_in s ≡ y ∷ ys = c.pop_front.ensures.items ∙ ap (λ (o : Option group_t). option_to_list o ++ ys) c.unwrap-group.ensures in
    let f = group_few s c.requires.runs y (ready_head s c.requires.ready.0 y ys c.requires.ready.1 h) in
    let n = c.count_of.ensures in
    omega arith

pub returns-clause-drains : goal.returns-clause-drains
returns-clause-drains c =
    let s = (scanner_of c.args._text.now c.args.state.now) in
    let y = c.unwrap-group.result in
    let ys = c.pop_front.new.self.items in
    let h : groups_in s ≡ y ∷ ys = c.pop_front.ensures.items ∙ ap (λ (o : Option group_t). option_to_list o ++ ys) c.unwrap-group.ensures in
    let g = ready_head s c.requires.ready.0 y ys c.requires.ready.1 h in
    let q : y ∷ ys ≡ y ∷ g.others = sym h ∙ g.head in
    let others : ys ≡ g.others = cc in
    group_drained s c.requires.runs y g _ refl refl refl others c.count_of.result c.count_of.ensures c.requires.still_open

pub returns-clause-words : goal.returns-clause-words
returns-clause-words c =
    let s = (scanner_of c.args._text.now c.args.state.now) in
    let y = c.unwrap-group.result in
    let ys = c.pop_front.new.self.items in
    let h : groups_in s ≡ y ∷ ys = c.pop_front.ensures.items ∙ ap (λ (o : Option group_t). option_to_list o ++ ys) c.unwrap-group.ensures in
    group_words s c.requires.runs y (ready_head s c.requires.ready.0 y ys c.requires.ready.1 h) c.requires.words
