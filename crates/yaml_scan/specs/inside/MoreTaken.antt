-- What a list of tokens has taken in two turns it has taken at once. These are proofs, and stand here since a member of
-- a trait can cite only what is in specs.
use Rattle.std.proofs.Common.{◌≡◌, ◌++◌, [], List, sym, ap, ◌∙◌, append-nil, append_assoc}
use Rattle.yaml_scan.specs.Token.{yaml_token_t}

pub list_none : (xs : List yaml_token_t) → xs ≡ xs ++ []
list_none xs = sym (append-nil xs)

pub list_more : (a b c xs ys : List yaml_token_t) → b ≡ a ++ xs → c ≡ b ++ ys → c ≡ a ++ (xs ++ ys)
list_more a b c xs ys e f = f ∙ ap (λ (z : List yaml_token_t). z ++ ys) e ∙ append_assoc a xs ys
