-- Lines of tokens that are appended to others are the lines of all: what a sink has to show of what it took. It is a
-- proof, and stands here since a member of a trait can cite only what is in specs.
use Rattle.std.proofs.Common.{◌≡◌, ◌++◌, [], ◌∷◌, ℕ, Bool, false, List, refl, sym, ap, ◌∙◌, append-nil, append_assoc}
use Rattle.yaml_text.specs.Token.{Token}
use Rattle.yaml_listing.specs.Listing.{token_line, token_lines}

-- the lines of no tokens are none
pub lines_none : (bs : List ℕ) → bs ≡ bs ++ token_lines []
lines_none bs = sym (append-nil bs)

-- the lines of two lists of tokens are those of the one and then those of the other
pub lines_split : (xs ys : List Token) → token_lines (xs ++ ys) ≡ token_lines xs ++ token_lines ys
lines_split [] ys = refl
lines_split (x ∷ xs) ys =
    ap (λ (z : List ℕ). token_line x ++ z) (lines_split xs ys)
    ∙ sym (append_assoc (token_line x) (token_lines xs) (token_lines ys))

-- if lines of tokens are appended and then those of others, the lines of all are appended
pub lines_more : (a b c : List ℕ) (xs ys : List Token) → b ≡ a ++ token_lines xs → c ≡ b ++ token_lines ys
    → c ≡ a ++ token_lines (xs ++ ys)
lines_more a b c xs ys e f =
    f ∙ ap (λ (z : List ℕ). z ++ token_lines ys) e
    ∙ append_assoc a (token_lines xs) (token_lines ys)
    ∙ ap (λ (z : List ℕ). a ++ z) (sym (lines_split xs ys))

-- lines that are kept unless one was lost
pub kept_lines : (lost : Bool) (bs : List ℕ) → lost ≡ false → (lost ≡ false) × (bs ≡ bs ++ token_lines [])
kept_lines lost bs e = (e, lines_none bs)

pub kept_more : (x y z : Bool) (a b c : List ℕ) (xs ys : List Token)
    → (y ≡ false → (x ≡ false) × (b ≡ a ++ token_lines xs)) → (z ≡ false → (y ≡ false) × (c ≡ b ++ token_lines ys))
    → z ≡ false → (x ≡ false) × (c ≡ a ++ token_lines (xs ++ ys))
kept_more x y z a b c xs ys e f g = let q = f g in let p = e q.0 in (p.0, lines_more a b c xs ys p.1 q.1)
