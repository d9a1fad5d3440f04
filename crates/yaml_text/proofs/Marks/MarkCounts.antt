-- A mark that is moved character by character is the one that is counted; UTF-8 can be cut between characters.
use Rattle.std.proofs.Common.{◌≡◌, ℕ, zero, suc, ◌+◌, ◌≤◌, Bool, true, false, cond, List, [], ◌∷◌, ◌++◌, length, get_or, take, drop, refl, sym, ap, ◌∙◌, subst, append_assoc, inl, inr, arith}
use Rattle.std.specs.Char.{len_utf8}
use Rattle.std.specs.Str.{chars}
use Rattle.std.proofs.lemmas.Bool.{cases_Bool}
use Rattle.std.proofs.lemmas.Bool.Decides.{nat_tests}
use Rattle.std.proofs.lemmas.List.{append-nil, length-append, take_at, drop_at}
use Rattle.std.proofs.lemmas.Str.{encodes-append, length-encode}
use lib.Utf8.{encode}
use Rattle.yaml_text.specs.declared.types.yaml_mark_t.{yaml_mark_t}
use Rattle.yaml_text.specs.Chars.{utf8}
use Rattle.yaml_text.specs.TextBytes.{AreChars}
use Rattle.yaml_text.specs.Classes.{is_break, is_crlf}
use Rattle.yaml_text.specs.MarkOn.{ends_break, mark_after, mark_on}
use Rattle.yaml_text.specs.Mark.{break_count, column, mark_of, cuts_break}
use Rattle.yaml_text.proofs.Decodings.DecodeFronts.{chars-utf8}
use Rattle.yaml_text.proofs.Marks.MarkMoves.{breaks-append, column-push, last_push, ends_whole, ends_last, two_bytes, AreChars-parts}

same_mark : (i i' l l' c c' : ℕ) → i ≡ i' → l ≡ l' → c ≡ c' → let m : yaml_mark_t = record { index = i; line = l; column = c } in let n : yaml_mark_t = record { index = i'; line = l'; column = c' } in m ≡ n
same_mark i i' l l' c c' p q r = λ k. record { index = p k; line = q k; column = r k }

index-push : (before : List ℕ) (c : ℕ) → length (utf8 (before ++ c ∷ [])) ≡ length (utf8 before) + len_utf8 c
index-push before c = omega (arith, ap length (encodes-append before (c ∷ [])), length-append (utf8 before) (utf8 (c ∷ [])), ap length (append-nil (encode c)), length-encode c)

breaks_one : (c : ℕ) (b : Bool) → is_break c ≡ b → break_count (c ∷ []) ≡ cond b 1 0
breaks_one c true h = rw (ends_last c, h) refl
breaks_one c false h = rw (ends_last c, h) refl

line-push : (before : List ℕ) (c : ℕ) (b : Bool) → cuts_break before (c ∷ []) ≡ false → is_break c ≡ b → break_count (before ++ c ∷ []) ≡ break_count before + cond b 1 0
line-push before c b whole h = breaks-append before (c ∷ []) whole ∙ ap (λ n. break_count before + n) (breaks_one c b h)

pub one_step : (before cs : List ℕ) (c : ℕ) → cuts_break before (c ∷ cs) ≡ false → is_crlf c (get_or cs 0 0) ≡ false → mark_after (mark_of before) c cs ≡ mark_of (before ++ c ∷ [])
one_step before cs c whole single =
    let ends : ends_break c cs ≡ is_break c = ends_whole c cs single in
    elim (cases_Bool (is_break c)) [
      | inl breaks-here ↦
          let e : ends_break c cs ≡ true = ends ∙ breaks-here in
          rw e (same_mark _ _ _ _ _ _ (sym (index-push before c)) (sym (line-push before c true whole breaks-here)) (sym (column-push before c ∙ ap (λ (b : Bool). cond b 0 (suc (column before))) breaks-here)))
      | inr stays ↦
          let e : ends_break c cs ≡ false = ends ∙ stays in
          let line : break_count before ≡ break_count (before ++ c ∷ []) = omega (arith, line-push before c false whole stays) in
          let col : column before + 1 ≡ column (before ++ c ∷ []) = omega (arith, column-push before c ∙ ap (λ (b : Bool). cond b 0 (suc (column before))) stays) in
          rw e (same_mark _ _ _ _ _ _ (sym (index-push before c)) line col)
    ]

cuts-push : (before cs : List ℕ) (c : ℕ) → cuts_break (before ++ c ∷ []) cs ≡ is_crlf c (get_or cs 0 0)
cuts-push before cs c = ap (λ x. is_crlf x (get_or cs 0 0)) (last_push before c)

-- after a break of two characters
pub two_steps : (before cs : List ℕ) → cuts_break before (13 ∷ []) ≡ false → mark_on 2 (mark_of before) (13 ∷ 10 ∷ cs) ≡ mark_of (before ++ 13 ∷ 10 ∷ [])
two_steps before cs whole =
    let index : length (utf8 before) + 1 + 1 ≡ length (utf8 (before ++ 13 ∷ 10 ∷ [])) = omega (arith, ap length (encodes-append before (13 ∷ 10 ∷ [])), length-append (utf8 before) (utf8 (13 ∷ 10 ∷ [])), two_bytes) in
    let line : break_count before + 1 ≡ break_count (before ++ 13 ∷ 10 ∷ []) = omega (arith, breaks-append before (13 ∷ 10 ∷ []) whole) in
    let col : 0 ≡ column (before ++ 13 ∷ 10 ∷ []) = sym (ap column (sym (append_assoc before (13 ∷ []) (10 ∷ []))) ∙ column-push (before ++ 13 ∷ []) 10) in
    same_mark _ _ _ _ _ _ index line col

is_thirteen : (c d : ℕ) → is_crlf c d ≡ true → (c ≡ 13) × (d ≡ 10)
is_thirteen c d h = (grind (arith, nat_tests), grind (arith, nat_tests))

abbrev Runs : List ℕ → ℕ → List ℕ → Type 0
Runs before n cs = n ≤ length cs → cuts_break before cs ≡ false → cuts_break (before ++ take n cs) (drop n cs) ≡ false → mark_on n (mark_of before) cs ≡ mark_of (before ++ take n cs)

step_one : (before cs : List ℕ) (n c : ℕ) → is_crlf c (get_or cs 0 0) ≡ false → Runs (before ++ c ∷ []) n cs → Runs before (suc n) (c ∷ cs)
step_one before cs n c single ih le whole seam =
    let a : (before ++ c ∷ []) ++ take n cs ≡ before ++ c ∷ take n cs = append_assoc before (c ∷ []) (take n cs) in
    let seam' : cuts_break ((before ++ c ∷ []) ++ take n cs) (drop n cs) ≡ false = ap (λ (x : List ℕ). cuts_break x (drop n cs)) a ∙ seam in
    ap (λ (m : yaml_mark_t). mark_on n m cs) (one_step before cs c whole single) ∙ ih (omega arith) (cuts-push before cs c ∙ single) seam' ∙ ap mark_of a

step_two : (before cs : List ℕ) (n : ℕ) → Runs (before ++ 13 ∷ 10 ∷ []) n cs → Runs before (suc (suc n)) (13 ∷ 10 ∷ cs)
step_two before cs n ih le whole seam =
    let a : (before ++ 13 ∷ 10 ∷ []) ++ take n cs ≡ before ++ 13 ∷ 10 ∷ take n cs = append_assoc before (13 ∷ 10 ∷ []) (take n cs) in
    let b : (before ++ 13 ∷ []) ++ 10 ∷ [] ≡ before ++ 13 ∷ 10 ∷ [] = append_assoc before (13 ∷ []) (10 ∷ []) in
    let seam' : cuts_break ((before ++ 13 ∷ 10 ∷ []) ++ take n cs) (drop n cs) ≡ false = ap (λ (x : List ℕ). cuts_break x (drop n cs)) a ∙ seam in
    let after : cuts_break (before ++ 13 ∷ 10 ∷ []) cs ≡ false = ap (λ (x : List ℕ). cuts_break x cs) (sym b) ∙ cuts-push (before ++ 13 ∷ []) cs 10 in
    ap (λ (m : yaml_mark_t). mark_on n m cs) (two_steps before cs whole) ∙ ih (omega arith) after seam' ∙ ap mark_of a

pub running : (n : ℕ) (before cs : List ℕ) → Runs before n cs
running zero before cs le whole seam = ap mark_of (sym (append-nil before))
running (suc n) before [] le whole seam = absurd (omega arith)
running (suc zero) before (c ∷ cs) le whole seam =
    let single : is_crlf c (get_or cs 0 0) ≡ false = sym (cuts-push before cs c) ∙ seam in
    step_one before cs zero c single (running zero (before ++ c ∷ []) cs) le whole seam
running (suc (suc n)) before (c ∷ []) le whole seam = absurd (omega arith)
running (suc (suc n)) before (c ∷ d ∷ cs) le whole seam =
    elim (cases_Bool (is_crlf c d)) [
      | inl crlf ↦
          let e = is_thirteen c d crlf in
          let more : Runs before (suc (suc n)) (13 ∷ 10 ∷ cs) = step_two before cs n (running n (before ++ 13 ∷ 10 ∷ []) cs) in
          subst (λ (x : ℕ). Runs before (suc (suc n)) (x ∷ d ∷ cs)) (sym e.0) (subst (λ (y : ℕ). Runs before (suc (suc n)) (13 ∷ y ∷ cs)) (sym e.1) more) le whole seam
      | inr single ↦ step_one before (d ∷ cs) (suc n) c single (running (suc n) (before ++ c ∷ []) (d ∷ cs)) le whole seam
    ]

-- UTF-8 cut between characters
pub record Cut (front rest : List ℕ) : Type 0 where
  pub before : take (length (utf8 front)) (utf8 (front ++ rest)) ≡ utf8 front
  pub after : drop (length (utf8 front)) (utf8 (front ++ rest)) ≡ utf8 rest
  pub left : chars (drop (length (utf8 front)) (utf8 (front ++ rest))) ≡ rest

pub cut : (front rest : List ℕ) → AreChars (front ++ rest) → Cut front rest
cut front rest each =
    let n = length (utf8 front) in
    let b : drop n (utf8 (front ++ rest)) ≡ utf8 rest = ap (λ (x : List ℕ). drop n x) (encodes-append front rest) ∙ drop_at (utf8 front) (utf8 rest) n refl in
    record {
      before = ap (λ (x : List ℕ). take n x) (encodes-append front rest) ∙ take_at (utf8 front) (utf8 rest) n refl;
      after = b;
      left = ap chars b ∙ chars-utf8 rest (AreChars-parts front rest each).1;
    }
