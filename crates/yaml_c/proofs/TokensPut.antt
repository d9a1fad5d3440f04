-- Tokens that are put one by one leave their records in the one room and their texts in the other, and are counted.
use Rattle.std.proofs.Common.{◌≡◌, ◌<◌, ◌^◌, ◌+◌, ◌∷◌, ◌++◌, [], ℕ, List, length}
use Rattle.std.proofs.Common.{arith, refl, sym, ap, ◌∙◌, length-append}
use Rattle.yaml_text.specs.Token.{Token, TokenData}
use Rattle.yaml_text.specs.Token.TokenData.{TAG_DIRECTIVE, ALIAS, ANCHOR, TAG, SCALAR}
use Rattle.yaml_scan.specs.Sink.{said_len, texts_len}
use Rattle.yaml_c.specs.declared.record.bogzhami_token.{bogzhami_token}
use Rattle.yaml_c.specs.declared.sink.token_rooms_t.{token_rooms_t}
use Rattle.yaml_c.specs.Room.{covered_from}
use Rattle.yaml_c.specs.Record.{held, record_of, records_of, texts_of, all_texts, first_text, second_text}
use Rattle.yaml_c.specs.Spelled.{Spelled}
use Rattle.yaml_c.specs.inside.Sink.{IsPut, ArePut}
use Rattle.yaml_c.specs.inside.Spelled.{spelled_of}
use Rattle.yaml_c.specs.declared.spelled.spelled_t.{spelled_t}
use Rattle.yaml_c.proofs.Rooms.{covered_from_by_none, covered_held, length-covered_from, more_covered_from}

held_held : (n k : ℕ) → held (held n + k) ≡ held (n + k)
held_held n k = omega arith

-- a place that 64 bits do not hold gives the same records
records_of_held : (s : Spelled) (n : ℕ) (ts : List Token) → records_of s (held n) ts ≡ records_of s n ts
records_of_held s n [] = refl
records_of_held s n (t ∷ ts) =
    let k = length (texts_of t) in
    let same : held (held n) ≡ held n = omega arith in
    let here : record_of s (held n) t ≡ record_of s n t =
    ap (λ (m : ℕ). record (record_of s n t) { text_at = m }) same in
    let rest : records_of s (held n + k) ts ≡ records_of s (n + k) ts = sym (records_of_held s (held n + k) ts)
    ∙ ap (λ (m : ℕ). records_of s m ts) (held_held n k) ∙ records_of_held s (n + k) ts in
    ap (λ (r : bogzhami_token). r ∷ records_of s (held n + k) ts) here
    ∙ ap (λ (rs : List bogzhami_token). record_of s n t ∷ rs) rest

-- rooms and counts as a machine has them
pub record Fits (a : token_rooms_t) : Type 0 where
  pub tokens : length a.tokens.now < 2 ^ 63
  pub texts : length a.texts.now < 2 ^ 63
  pub token_count : a.token_count < 2 ^ 64
  pub text_len : a.text_len < 2 ^ 64

-- what a list of tokens leaves if it is put into rooms
pub record HavePut (a : token_rooms_t) (list : List Token) (b : token_rooms_t) : Type 0 where
  pub same_tokens : b.tokens.ghost_name ≡ a.tokens.ghost_name
  pub same_texts : b.texts.ghost_name ≡ a.texts.ghost_name
  pub spelled : b.spelled ≡ a.spelled
  pub token_count : b.token_count ≡ held (a.token_count + length list)
  pub text_len : b.text_len ≡ held (a.text_len + length (all_texts list))
  pub records : b.tokens.now ≡ covered_from a.token_count
      (records_of (spelled_of a.spelled) a.text_len list) a.tokens.now
  pub texts : b.texts.now ≡ covered_from a.text_len (all_texts list) a.texts.now

fits_on : (a b : token_rooms_t) (t : Token) → Fits a → IsPut a t b → Fits b
fits_on a b t fits put =
    let one : length b.tokens.now ≡ length a.tokens.now = ap length put.records
    ∙ length-covered_from a.token_count (record_of (spelled_of a.spelled) a.text_len t ∷ []) a.tokens.now in
    let two : length b.texts.now ≡ length a.texts.now = ap length put.texts
    ∙ length-covered_from a.text_len (texts_of t) a.texts.now in
    record { tokens = omega arith; texts = omega arith; token_count = omega arith; text_len = omega arith }

none_put : (a : token_rooms_t) → Fits a → HavePut a [] a
none_put a fits = record {
  same_tokens = refl;
  same_texts = refl;
  spelled = refl;
  token_count = omega arith;
  text_len = omega arith;
  records = sym (covered_from_by_none a.token_count a.tokens.now);
  texts = sym (covered_from_by_none a.text_len a.texts.now);
}

one_more : (a m b : token_rooms_t) (t : Token) (ts : List Token) → Fits a → IsPut a t m → HavePut m ts b
    → HavePut a (t ∷ ts) b
one_more a m b t ts fits put more =
    let k = length (texts_of t) in
    let sum : length (all_texts (t ∷ ts)) ≡ k + length (all_texts ts) = length-append (texts_of t) (all_texts ts) in
    let next = fits_on a m t fits put in
    let s = spelled_of a.spelled in
    record {
      same_tokens = more.same_tokens ∙ put.same_tokens;
      same_texts = more.same_texts ∙ put.same_texts;
      spelled = more.spelled ∙ put.spelled;
      token_count = omega (arith, more.token_count, put.token_count);
      text_len = omega (arith, more.text_len, put.text_len);
      records = more.records
          ∙ ap (λ (z : spelled_t). covered_from m.token_count (records_of (spelled_of z) m.text_len ts) m.tokens.now)
          put.spelled
          ∙ ap (λ (n : ℕ). covered_from n (records_of s m.text_len ts) m.tokens.now) put.token_count
          ∙ covered_held (a.token_count + 1) (records_of s m.text_len ts) m.tokens.now next.tokens
          ∙ ap (λ (n : ℕ). covered_from (a.token_count + 1) (records_of s n ts) m.tokens.now) put.text_len
          ∙ ap (λ (rs : List bogzhami_token). covered_from (a.token_count + 1) rs m.tokens.now)
          (records_of_held s (a.text_len + k) ts)
          ∙ ap (λ (z : List bogzhami_token). covered_from (a.token_count + 1) (records_of s (a.text_len + k) ts) z)
          put.records
          ∙ more_covered_from a.token_count (record_of s a.text_len t ∷ []) (records_of s (a.text_len + k) ts)
          a.tokens.now;
      texts = more.texts
          ∙ ap (λ (n : ℕ). covered_from n (all_texts ts) m.texts.now) put.text_len
          ∙ covered_held (a.text_len + k) (all_texts ts) m.texts.now next.texts
          ∙ ap (λ (z : List ℕ). covered_from (a.text_len + k) (all_texts ts) z) put.texts
          ∙ more_covered_from a.text_len (texts_of t) (all_texts ts) a.texts.now;
    }

-- tokens that are put one by one leave it
pub have_put : (a b : token_rooms_t) (list : List Token) → Fits a → ArePut a list b → HavePut a list b
have_put a b [] fits put = let n = none_put a fits in record {
  same_tokens = rw put.tokens n.same_tokens;
  same_texts = rw put.texts n.same_texts;
  spelled = put.spelled;
  token_count = rw put.token_count n.token_count;
  text_len = rw put.text_len n.text_len;
  records = rw put.tokens n.records;
  texts = rw put.texts n.texts;
}
have_put a b (t ∷ ts) fits put =
    one_more a put.0 b t ts fits put.1 (have_put put.0 b ts (fits_on a put.0 t fits put.1) put.2)

-- HOW MUCH WAS PUT
pub said_is : (d : TokenData) → said_len d ≡ length (first_text d ++ second_text d)
said_is (TAG_DIRECTIVE handle prefix) = sym (length-append handle prefix)
said_is (TAG handle suffix) = sym (length-append handle suffix)
said_is (ALIAS value) = let e = length-append value [] in omega arith
said_is (ANCHOR value) = let e = length-append value [] in omega arith
said_is (SCALAR value style) = let e = length-append value [] in omega arith
said_is _ = refl

pub texts_are : (list : List Token) → texts_len list ≡ length (all_texts list)
texts_are [] = refl
texts_are (t ∷ ts) = let a = said_is t.token_data in let b = texts_are ts in let c = length-append (texts_of t) (all_texts ts) in omega arith

-- the rooms keep their sizes
pub same_sizes : (a b : token_rooms_t) (list : List Token) → HavePut a list b → (length b.tokens.now ≡ length a.tokens.now) × (length b.texts.now ≡ length a.texts.now)
same_sizes a b list p = (
  ap (λ (z : List bogzhami_token). length z) p.records
      ∙ length-covered_from a.token_count (records_of (spelled_of a.spelled) a.text_len list) a.tokens.now,
  ap (λ (z : List ℕ). length z) p.texts ∙ length-covered_from a.text_len (all_texts list) a.texts.now,
)

-- and stay the same rooms, as does the place of the spare list
pub record AreSame (a b : token_rooms_t) : Type 0 where
  pub tokens : b.tokens.ghost_name ≡ a.tokens.ghost_name
  pub texts : b.texts.ghost_name ≡ a.texts.ghost_name
  pub spare : b.spare.ghost_name ≡ a.spare.ghost_name

pub same_rooms : (a b : token_rooms_t) (list : List Token) → ArePut a list b → AreSame a b
same_rooms a b [] put = record { tokens = rw put.tokens refl; texts = rw put.texts refl; spare = put.same_spare }
same_rooms a b (t ∷ ts) put = let p = put.1 in let n = same_rooms put.0 b ts put.2 in record {
  tokens = n.tokens ∙ p.same_tokens;
  texts = n.texts ∙ p.same_texts;
  spare = n.spare ∙ p.same_spare;
}
