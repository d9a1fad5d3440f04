-- The characters of a run of ASCII are its bytes, as in names and uris.
use Rattle.std.proofs.Common.{◌≡◌, ℕ, suc, ◌+◌, ◌<◌, Bool, true, false, inl, inr, List, [], ◌∷◌, take, refl, ap, arith}
use Rattle.std.proofs.lemmas.Bool.{cases_Bool}
use Rattle.std.proofs.lemmas.Bool.Decides.{nat_tests}
use Rattle.std.proofs.lemmas.Str.{encode_ascii}
use Rattle.std.specs.List.{prefix_len}
use Rattle.yaml_lexeme.specs.Place.{Place, run}
use Rattle.yaml_lexeme.specs.Uri.{is_uri}
use Rattle.yaml_text.specs.Chars.{utf8}
use Rattle.yaml_text.specs.Classes.{is_alpha}

ascii_bytes : (test : ℕ → Bool) → ((c : ℕ) → test c ≡ true → c < 128) → (cs : List ℕ) → utf8 (take (prefix_len test cs) cs) ≡ take (prefix_len test cs) cs
ascii_bytes test low [] = refl
ascii_bytes test low (c ∷ cs) =
    elim (cases_Bool (test c)) [
      | inl y ↦
          let k : 1 + prefix_len test cs ≡ suc (prefix_len test cs) = omega arith in
          rw (y, k, encode_ascii c (low c y)) (ap (λ (bs : List ℕ). c ∷ bs) (ascii_bytes test low cs))
      | inr n ↦ rw n refl
    ]

alpha_ascii : (c : ℕ) → is_alpha c ≡ true → c < 128
alpha_ascii c h = grind (arith, nat_tests)

uri_ascii : (listed : Bool) (c : ℕ) → is_uri listed c ≡ true → c < 128
uri_ascii true c h = grind (arith, nat_tests)
uri_ascii false c h = grind (arith, nat_tests)

-- a name is its own bytes
pub name_bytes : (p : Place) → utf8 (run is_alpha p) ≡ run is_alpha p
name_bytes p = ascii_bytes is_alpha alpha_ascii p.rest

-- and so are the characters of a uri
pub uri_bytes : (listed : Bool) (p : Place) → utf8 (run (is_uri listed) p) ≡ run (is_uri listed) p
uri_bytes listed p = ascii_bytes (is_uri listed) (uri_ascii listed) p.rest
