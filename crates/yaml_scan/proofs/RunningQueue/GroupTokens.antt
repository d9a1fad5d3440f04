-- What a group hands out, and that a sink was given it token by token.
use Rattle.std.proofs.Common.{◌≡◌, ℕ, zero, suc, ◌+◌, ◌≤◌, ◌<◌, Bool, true, false, List, [], ◌∷◌, ◌++◌, map, filter, reverse, length, length-append, append-nil, append_assoc, Ok, Err, refl, ap, sym, ◌∙◌, subst, arith}
use Rattle.std.specs.Prelude.{Result, if◌then◌else◌}
use Rattle.std.specs.List.{list_any}
use Rattle.std.proofs.lemmas.Bool.{false≢true}
use Rattle.std.proofs.lemmas.List.{length-map, length-reverse}
use Rattle.std.proofs.lemmas.List.Folds.{list_any-append}
use Rattle.std.proofs.lemmas.List.Sums.{count_by-le-length, length-filter}
use Rattle.yaml_text.specs.declared.types.yaml_encoding_t.TheVariants.{YAML_UTF8_ENCODING}
use Rattle.yaml_text.specs.declared.types.yaml_mark_t.{yaml_mark_t}
use Rattle.yaml_text.specs.Token.{token_of}
use Rattle.yaml_text.specs.Token.{TokenData as says}
use Rattle.yaml_scan.specs.declared.stop.stop_t.{stop_t}
use Rattle.yaml_scan.specs.declared.groups.block_t.{block_t}
use Rattle.yaml_scan.specs.declared.groups.block_t.TheVariants.{NONE, SEQUENCE, MAPPING}
use Rattle.yaml_scan.specs.declared.groups.group_t.{group_t}
use Rattle.yaml_scan.specs.Begins.{Begins}
use Rattle.yaml_scan.specs.Groups.{Token, handed_out}
use Rattle.yaml_scan.specs.Groups.Token.{StreamStart, BlockEnd, BlockSequenceStart, BlockMappingStart, InsertedKey, OfLexeme}
use Rattle.yaml_scan.specs.Laws.{is_of_lexeme}
use Rattle.yaml_scan.specs.Token.{yaml_token_t, at_mark}
use Rattle.yaml_scan.specs.inside.Handed.{Gives, IsCut, group_tokens, is_end, keys_of, starts_of, told_leads}
use Rattle.yaml_scan.specs.inside.Queue.{ends_at, leads, starts_at}
use Rattle.yaml_scan.proofs.RunningQueue.CandidateGroup.{AreMade, leads_made}

-- BLOCK ENDS
abbrev block_end : yaml_mark_t → yaml_token_t
block_end m = at_mark says.BLOCK_END m

pub ends_more : (k : ℕ) (m : yaml_mark_t) → told_leads (ends_at k m) ++ block_end m ∷ [] ≡ told_leads (ends_at (k + 1) m)
ends_more zero m = refl
ends_more (suc k) m = let e : suc k + 1 ≡ suc (k + 1) = omega arith in rw e (ap (λ (xs : List yaml_token_t). block_end m ∷ xs) (ends_more k m))

pub ends_within : (k n : ℕ) (m : yaml_mark_t) → k < n → Begins (told_leads (ends_at k m) ++ block_end m ∷ []) (told_leads (ends_at n m))
ends_within zero zero m l = absurd (omega arith)
ends_within zero (suc n) m l = record { rest = told_leads (ends_at n m); is = refl }
ends_within (suc k) zero m l = absurd (omega arith)
ends_within (suc k) (suc n) m l = let b = ends_within k n m (omega arith) in record { rest = b.rest; is = ap (λ (xs : List yaml_token_t). block_end m ∷ xs) b.is }

pub told_append : (xs ys : List Token) → told_leads (xs ++ ys) ≡ told_leads xs ++ told_leads ys
told_append [] ys = refl
told_append (x ∷ xs) ys = ap (λ (zs : List yaml_token_t). handed_out YAML_UTF8_ENCODING x ∷ zs) (told_append xs ys)

-- HOW MANY
pub ends_count : (n : ℕ) (m : yaml_mark_t) → length (ends_at n m) ≡ n
ends_count zero m = refl
ends_count (suc n) m = ap suc (ends_count n m)

-- they are at most as many as what they were made of
pub ends_few : (early ends : ℕ) (m n : yaml_mark_t) (f : ℕ → Token) (p : ℕ → Bool) (cs : List ℕ) → ends_at early m ++ ends_at ends n ≡ map f (filter p (reverse cs)) → ends ≤ length cs
ends_few early ends m n f p cs e =
    let a = ap (λ (l : List Token). length l) e in
    let b = length-append (ends_at early m) (ends_at ends n) in
    let c = ends_count ends n in
    let d = length-map (filter p (reverse cs)) f in
    let h = length-filter p (reverse cs) in
    let k = count_by-le-length p (reverse cs) in
    let l = length-reverse cs in
    omega arith

starts_count : (b : block_t) (m : yaml_mark_t) → length (starts_at b m) ≡ starts_of b
starts_count NONE m = refl
starts_count SEQUENCE m = refl
starts_count MAPPING m = refl

keys_count : (b : Bool) (m : yaml_mark_t) → length (if b then InsertedKey m ∷ [] else []) ≡ keys_of b
keys_count true m = refl
keys_count false m = refl

pub starts_few : (b : block_t) → starts_of b ≤ 1
starts_few NONE = omega arith
starts_few SEQUENCE = omega arith
starts_few MAPPING = omega arith

pub keys_few : (b : Bool) → keys_of b ≤ 1
keys_few true = omega arith
keys_few false = omega arith

pub told_count : (xs : List Token) → length (told_leads xs) ≡ length xs
told_count [] = refl
told_count (x ∷ xs) = ap suc (told_count xs)

pub count_is : (y : group_t) → length (group_tokens y) ≡ y.ends + starts_of y.opens + keys_of y.key + 1
count_is y =
    let m = y.token.start_mark in
    let a = ends_count y.ends m in
    let b = starts_count y.opens m in
    let c = keys_count y.key m in
    let d = length-append (ends_at y.ends m) (starts_at y.opens m ++ (if y.key then InsertedKey m ∷ [] else [])) in
    let e = length-append (starts_at y.opens m) (if y.key then InsertedKey m ∷ [] else []) in
    let f = told_count (leads y) in
    let g = length-append (told_leads (leads y)) (token_of y.token ∷ []) in
    omega arith

pub group_some : (y : group_t) → 0 < length (group_tokens y)
group_some y = let a = count_is y in omega arith

-- NO STREAM END
made_no_end : (x : Token) → is_of_lexeme x ≡ false → is_end (handed_out YAML_UTF8_ENCODING x) ≡ false
made_no_end StreamStart e = refl
made_no_end (BlockEnd m) e = refl
made_no_end (BlockSequenceStart m) e = refl
made_no_end (BlockMappingStart m) e = refl
made_no_end (InsertedKey m) e = refl
made_no_end (OfLexeme x) e = absurd (false≢true (sym e))

no_end_leads : (xs : List Token) → AreMade xs → list_any is_end (told_leads xs) ≡ false
no_end_leads [] a = refl
no_end_leads (x ∷ xs) a = rw (made_no_end x a.0, no_end_leads xs a.1) refl

pub group_no_end : (y : group_t) → is_end (token_of y.token) ≡ false → list_any is_end (group_tokens y) ≡ false
group_no_end y e = list_any-append is_end (told_leads (leads y)) (token_of y.token ∷ []) ∙ (rw (no_end_leads (leads y) (leads_made y), e) refl)

-- A SINK
begins_longer : (xs ys zs : List yaml_token_t) → Begins xs ys → Begins xs (ys ++ zs)
begins_longer xs ys zs b = record { rest = b.rest ++ zs; is = ap (λ (l : List yaml_token_t). l ++ zs) b.is ∙ append_assoc xs b.rest zs }

begins_after : (xs ys zs : List yaml_token_t) (t : yaml_token_t) → Begins (ys ++ t ∷ []) zs → Begins ((xs ++ ys) ++ t ∷ []) (xs ++ zs)
begins_after xs ys zs t b = record {
  rest = b.rest;
  is = ap (λ (l : List yaml_token_t). xs ++ l) b.is ∙ sym (append_assoc xs (ys ++ t ∷ []) b.rest) ∙ ap (λ (l : List yaml_token_t). l ++ b.rest) (sym (append_assoc xs ys (t ∷ [])));
}

-- what was given before stays given
pub cut_longer : (took : List yaml_token_t → Type 0) (xs ys : List yaml_token_t) → IsCut took xs → IsCut took (xs ++ ys)
cut_longer took xs ys c = record { handed = c.handed; next = c.next; begins = begins_longer (c.handed ++ c.next ∷ []) xs ys c.begins; given = c.given }

pub cut_begins : (took : List yaml_token_t → Type 0) (xs ys : List yaml_token_t) → Begins xs ys → IsCut took xs → IsCut took ys
cut_begins took xs ys b c = rw b.is (cut_longer took xs b.rest c)

pub gives_longer : (took : List yaml_token_t → Type 0) (refuses : Type 0) (xs ys : List yaml_token_t) (stop : stop_t) → Gives took refuses xs (Err stop) → Gives took refuses (xs ++ ys) (Err stop)
gives_longer took refuses xs ys stop g = (g.0, cut_longer took xs ys g.1, g.2)

module _ {S : Type 0} (took : S → List yaml_token_t → S → Type 0) (more : (a b c : S) (xs ys : List yaml_token_t) → took a xs b → took b ys c → took a (xs ++ ys) c) (a b c : S) where
  pub cut_after : (xs ys : List yaml_token_t) → took a xs b → IsCut (λ ts. took b ts c) ys → IsCut (λ ts. took a ts c) (xs ++ ys)
  cut_after xs ys t q = record { handed = xs ++ q.handed; next = q.next; begins = begins_after xs q.handed ys q.next q.begins; given = more a b c xs q.handed t q.given }

  pub gives_after : (refuses : Type 0) (xs ys : List yaml_token_t) (o : Result (Unit {0}) stop_t) → took a xs b → Gives (λ ts. took b ts c) refuses ys o → Gives (λ ts. took a ts c) refuses (xs ++ ys) o
  gives_after refuses xs ys (Ok x) t g = more a b c xs ys t g
  gives_after refuses xs ys (Err stop) t g = (g.0, cut_after xs ys t g.1, g.2)

  -- block ends, one of which was refused
  pub cut_ends : (k n : ℕ) (m : yaml_mark_t) (x : yaml_token_t) → x ≡ block_end m → k < n → took a (told_leads (ends_at k m)) b → IsCut (λ ts. took b ts c) (x ∷ []) → IsCut (λ ts. took a ts c) (told_leads (ends_at n m))
  cut_ends k n m x e l t q = cut_begins (λ ts. took a ts c) (told_leads (ends_at k m) ++ x ∷ []) (told_leads (ends_at n m)) (subst (λ (z : yaml_token_t). Begins (told_leads (ends_at k m) ++ z ∷ []) (told_leads (ends_at n m))) (sym e) (ends_within k n m l))
      (cut_after (told_leads (ends_at k m)) (x ∷ []) t q)

-- what a group without a key hands out before its token
pub keyless_leads : (y : group_t) → y.key ≡ false → leads y ≡ ends_at y.ends y.token.start_mark ++ starts_at y.opens y.token.start_mark
keyless_leads y e = rw e (ap (λ (xs : List Token). ends_at y.ends y.token.start_mark ++ xs) (append-nil (starts_at y.opens y.token.start_mark)))
