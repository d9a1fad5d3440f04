-- The tokens that a scan has handed out are the next ones of its input.
use Rattle.std.proofs.Common.{◌≡◌, ℕ, zero, suc, ◌+◌, true, false, List, [], ◌∷◌, ◌++◌, map, take, drop, length, length-append, slice_get, Some, refl, ap, sym, ◌∙◌, arith}
use Rattle.std.proofs.lemmas.Bool.{false≢true}
use Rattle.std.proofs.lemmas.List.{drop-drop, map-append}
use Rattle.yaml_scan.specs.Decoded.{decoded_input}
use Rattle.yaml_scan.specs.Groups.{Token, handed_out}
use Rattle.yaml_scan.specs.Session.{is_last}
use Rattle.yaml_scan.specs.Token.{yaml_token_t}
use Rattle.yaml_scan.specs.inside.KeptParts.{HandsOn, tokens_in}
use Rattle.yaml_scan.specs.inside.Ready.{Scan, course_in}
use Rattle.yaml_scan.specs.Settled.{tokens_of}
use Rattle.yaml_scan.proofs.Course.InputLaws.{inputs_keep_order}
use Rattle.yaml_scan.proofs.Course.LastToken.{stream_end_is_last}
use Rattle.yaml_scan.proofs.RunningCalls.SeveralScans.{take-more}

-- as they are handed out
abbrev pub hand_out : Scan → List Token → List yaml_token_t
hand_out i xs = map (handed_out (decoded_input i.setting i.input).encoding) xs

pub one_taken : (xs : List Token) (n : ℕ) (x : Token) → slice_get xs n ≡ Some x → take 1 (drop n xs) ≡ x ∷ []
one_taken [] n x e = absurd (cc)
one_taken (y ∷ xs) zero x e = let q : y ≡ x = cc in rw q refl
one_taken (y ∷ xs) (suc n) x e = one_taken xs n x e

-- none was handed out
pub hands_none : (i j : Scan) → j.setting ≡ i.setting → j.input ≡ i.input → j.session.state.limit ≡ i.session.state.limit → j.session.state.taken ≡ i.session.state.taken → j.session.over ≡ false → HandsOn i j []
hands_none i j a b c d o = record { setting = a; input = b; limit = c; taken = omega (arith, d); next = refl; all = λ e. absurd (false≢true (sym o ∙ e)) }

-- one was
pub hands_one : (i j : Scan) (x : yaml_token_t) (token : Token) → j.setting ≡ i.setting → j.input ≡ i.input → j.session.state.limit ≡ i.session.state.limit → j.session.state.taken ≡ i.session.state.taken + 1
    → slice_get (tokens_in i) i.session.state.taken ≡ Some token → x ≡ handed_out (decoded_input i.setting i.input).encoding token → (j.session.over ≡ true → is_last token ≡ true) → HandsOn i j (x ∷ [])
hands_one i j x token a b c d e f last = record {
  setting = a;
  input = b;
  limit = c;
  taken = omega (arith, d);
  next = ap (λ (z : yaml_token_t). z ∷ []) f ∙ ap (hand_out i) (sym (one_taken (tokens_in i) i.session.state.taken token e));
  all = λ o. let z = stream_end_is_last i.session.state.limit (decoded_input i.setting i.input) (inputs_keep_order i.setting i.input) i.session.state.taken token e (last o) in (d ∙ z.0, z.1);
}

-- some, and then more
module _ (i j k : Scan) (xs ys : List yaml_token_t) (a : HandsOn i j xs) (b : HandsOn j k ys) where
  same_tokens : tokens_in j ≡ tokens_in i
  same_tokens = λ k. tokens_of (a.limit k) (course_in (a.limit k) (a.setting k) (a.input k))

  same_course : course_in j.session.state.limit j.setting j.input ≡ course_in i.session.state.limit i.setting i.input
  same_course = λ k. course_in (a.limit k) (a.setting k) (a.input k)

  same_words : (zs : List Token) → hand_out j zs ≡ hand_out i zs
  same_words zs = λ k. map (handed_out (decoded_input (a.setting k) (a.input k)).encoding) zs

  abbrev rest : List Token
  rest = drop i.session.state.taken (tokens_in i)

  later : drop j.session.state.taken (tokens_in j) ≡ drop (length xs) rest
  later = ap (λ (z : List Token). drop j.session.state.taken z) same_tokens ∙ ap (λ (n : ℕ). drop n (tokens_in i)) a.taken ∙ sym (drop-drop (length xs) i.session.state.taken (tokens_in i))

  both : xs ++ ys ≡ hand_out i (take (length (xs ++ ys)) rest)
  both =
      ap (λ (z : List yaml_token_t). z ++ ys) a.next
      ∙ ap (λ (z : List yaml_token_t). hand_out i (take (length xs) rest) ++ z) (b.next ∙ ap (λ (z : List Token). hand_out j (take (length ys) z)) later ∙ same_words (take (length ys) (drop (length xs) rest)))
      ∙ sym (map-append (handed_out (decoded_input i.setting i.input).encoding) (take (length xs) rest) (take (length ys) (drop (length xs) rest)))
      ∙ ap (hand_out i) (sym (take-more (length xs) (length ys) rest))
      ∙ ap (λ (n : ℕ). hand_out i (take n rest)) (sym (length-append xs ys))

  pub hands_more : HandsOn i k (xs ++ ys)
  hands_more = record {
    setting = b.setting ∙ a.setting;
    input = b.input ∙ a.input;
    limit = b.limit ∙ a.limit;
    taken = (let n = a.taken in let m = b.taken in omega (arith, length-append xs ys));
    next = both;
    all = λ e. let z = b.all e in (z.0 ∙ ap (λ (l : List Token). length l) same_tokens, ap (λ c. c.fault) (sym same_course) ∙ z.1);
  }
