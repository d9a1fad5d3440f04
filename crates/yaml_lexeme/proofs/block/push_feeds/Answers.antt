use Rattle.std.proofs.Common.{◌≡◌, ◌++◌, ◌∷◌, [], ◌∙◌, ap, ℕ, List, append_assoc, replicate}
use Rattle.std.proofs.lemmas.List.{replicate_more}
use Rattle.yaml_lexeme.proofs.block.push_feeds.Goals as goal

pub feeds-preserved : goal.feeds-preserved
feeds-preserved c =
    let old = c.args.out.now.items in
    let n = c.feeds.counter in
    let pushed : c.push.new.self.items ≡ c.feeds.out.items ++ 0x0A ∷ [] = c.in_ok-push.ensures.items in
    pushed ∙ ap (λ (x : List ℕ). x ++ 0x0A ∷ []) c.feeds.invariant ∙ append_assoc old (replicate n 0x0A) (0x0A ∷ []) ∙ ap (λ (x : List ℕ). old ++ x) (replicate_more n 0x0A)
