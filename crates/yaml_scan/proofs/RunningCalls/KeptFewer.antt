-- A kept parser that gave tokens to a sink has fewer left; and a token that comes before that of its group has no texts.
use Rattle.std.proofs.Common.{◌≡◌, ℕ, ◌-◌, ◌≤◌, ◌<◌, false, List, [], ◌∷◌, length, refl, ap, sym, ◌∙◌, arith}
use Rattle.std.proofs.lemmas.Bool.{false≢true}
use Rattle.yaml_text.specs.declared.types.yaml_encoding_t.{yaml_encoding_t}
use Rattle.yaml_scan.specs.declared.queue.queue_t.{queue_t}
use Rattle.yaml_scan.specs.Course.{Course}
use Rattle.yaml_scan.specs.Groups.{Token, handed_out}
use Rattle.yaml_scan.specs.Groups.Token.{StreamStart, BlockEnd, BlockSequenceStart, BlockMappingStart, InsertedKey, OfLexeme}
use Rattle.yaml_scan.specs.Laws.{is_of_lexeme}
use Rattle.yaml_scan.specs.Settled.{before}
use Rattle.yaml_scan.specs.Sink.{said_len}
use Rattle.yaml_scan.specs.Token.{yaml_token_t}
use Rattle.yaml_scan.specs.inside.Given.{all_in}
use Rattle.yaml_scan.specs.inside.Queue.{IsLead, pending}
use Rattle.yaml_scan.specs.inside.Ready.{IsIn, IsSettled, IsStarted, Pops, course_in}
use Rattle.yaml_scan.specs.inside.Scanner.{Scanner}
use Rattle.yaml_scan.specs.inside.Scanning.{IsRunning, course_of, history}
use Rattle.yaml_scan.specs.inside.Sent.{HasSent}
use Rattle.yaml_scan.proofs.RunningCalls.GivenToEnd.{head_within}
use Rattle.yaml_scan.proofs.RunningCalls.GivenTokens.{all_as}
use Rattle.yaml_scan.proofs.RunningCalls.NextOfInput.{inside, read_history}
use Rattle.yaml_scan.proofs.RunningCalls.ToNextToken.{course_is}
use Rattle.yaml_scan.proofs.RunningQueue.CandidateGroup.{AreMade, pending_made}
use Rattle.yaml_scan.proofs.Course.StepsNeeded.{grows}

-- THE SAME TOKENS
all_same : (setting : yaml_encoding_t) (input : List ℕ) (s t : Scanner) → IsIn setting input s → IsIn setting input t → t.limit ≡ s.limit → all_in t ≡ all_in s
all_same setting input s t a b l =
    let c : course_of t ≡ course_of s = course_is setting input t b.reads ∙ ap (λ (n : ℕ). course_in n setting input) l ∙ sym (course_is setting input s a.reads) in
    ap (λ (z : Course). before t.limit z.read) c ∙ ap (λ (n : ℕ). before n (course_of s).read) l

-- no more were taken than there are
taken_within : (setting : yaml_encoding_t) (input : List ℕ) (t : Scanner) → IsIn setting input t → t.taken ≤ length (all_in t)
unfolding history
taken_within setting input t a =
    let r = a.runs.holds.taken in
    let g = grows t.limit (course_of t).read (t.made - 1) (read_history t a.runs) (inside t a.runs) in
    omega arith

-- s is where a parser begins
module _ (setting : yaml_encoding_t) (input : List ℕ) (a s t : Scanner) (b : IsStarted setting input a s) where
  pub fewer_sent : (tokens : List yaml_token_t) → HasSent setting input a t tokens → length (all_in t) - t.taken < length (all_in s) - s.taken
  fewer_sent tokens k =
      let e = ap (λ (z : List Token). length z) (all_same setting input s t b.stands k.stands (k.limit ∙ sym b.limit)) in
      let w = taken_within setting input t k.stands in
      let some = k.some in
      let n = k.taken in
      let m = b.taken in
      omega arith

  -- a later one
  pub fewer_then : (n : ℕ) → IsSettled setting input a t → n < length (all_in t) - t.taken → n < length (all_in s) - s.taken
  fewer_then n k l =
      let e = ap (λ (z : List Token). length z) (all_same setting input s t b.stands k.stands (k.limit ∙ sym b.limit)) in
      let c = k.taken in
      let m = b.taken in
      omega arith

-- the head of the queue is taken
pub fewer_popped : (s t : Scanner) (x : yaml_token_t) → IsRunning s → Pops s t x → length (all_in t) - t.taken < length (all_in s) - s.taken
fewer_popped s t x r p =
    let a = head_within s t x r p in
    let b = ap (λ (z : List Token). length z) (all_as s t p.text p.refusal p.limit) in
    let c = p.taken in
    omega arith

-- NO TEXTS
silent : (e : yaml_encoding_t) (x : Token) → is_of_lexeme x ≡ false → said_len (handed_out e x).token_data ≡ 0
silent e StreamStart l = refl
silent e (BlockEnd m) l = refl
silent e (BlockSequenceStart m) l = refl
silent e (BlockMappingStart m) l = refl
silent e (InsertedKey m) l = refl
silent e (OfLexeme x) l = absurd (false≢true (sym l))

first_made : (xs : List Token) → AreMade xs → 0 < length xs → (x : Token) × (rest : List Token) × (xs ≡ x ∷ rest) × (is_of_lexeme x ≡ false)
first_made [] a l = absurd (omega arith)
first_made (x ∷ xs) a l = (x, xs, refl, a.0)

-- the first one that is handed out before the token of the first group
pub lead_silent : (e : yaml_encoding_t) (q : queue_t) → 0 < length (pending q.early q.early_mark q.groups.items)
    → (x : Token) × (rest : List Token) × (pending q.early q.early_mark q.groups.items ≡ x ∷ rest) × (said_len (handed_out e x).token_data ≡ 0)
lead_silent e q l = let f = first_made (pending q.early q.early_mark q.groups.items) (pending_made q.early q.early_mark q.groups.items) l in (f.0, f.1, f.2, silent e f.0 f.3)

some_token : (p : List Token) (x y : Token) (xs ys : List Token) → p ≡ x ∷ xs → p ≡ y ∷ ys → x ≡ y
some_token p x y xs ys a b = let e : x ∷ xs ≡ y ∷ ys = sym a ∙ b in cc

-- and it is the only one
pub only_first : (e : yaml_encoding_t) (q : queue_t) (x : Token) (rest : List Token) → pending q.early q.early_mark q.groups.items ≡ x ∷ rest → IsLead e q (handed_out e x)
only_first e q x rest p y more r = ap (λ (z : Token). handed_out e z) (some_token (pending q.early q.early_mark q.groups.items) x y rest more p r)
