-- The queue with one group more, and with a candidate's group that becomes a key.
use Rattle.std.proofs.Common.{◌≡◌, ℕ, zero, suc, ◌+◌, ◌≤◌, ◌<◌, ◌&&◌, Bool, true, false, List, [], ◌∷◌, ◌++◌, length, drop, take, refl, ap, sym, ◌∙◌, subst, arith, get_or, set, append_assoc, inl, inr, lt-ltb, ne_eqb, eqb-true}
use Rattle.std.specs.Prelude.{◌⊎◌, nat_lt, nat_eq, if◌then◌else◌}
use Rattle.std.proofs.lemmas.Bool.{false≢true, and_parts}
use Rattle.yaml_text.specs.declared.types.yaml_encoding_t.{yaml_encoding_t}
use Rattle.yaml_text.specs.declared.types.yaml_mark_t.{yaml_mark_t}
use Rattle.yaml_scan.specs.declared.groups.block_t.{block_t}
use Rattle.yaml_scan.specs.declared.groups.block_t.TheVariants.{NONE, SEQUENCE, MAPPING}
use Rattle.yaml_scan.specs.declared.groups.group_t.{group_t}
use Rattle.yaml_scan.specs.declared.groups.lead_t.{lead_t}
use Rattle.yaml_scan.specs.declared.groups.lead_t.TheVariants.{NOTHING, END, SEQUENCE_START, MAPPING_START, KEY}
use Rattle.yaml_scan.specs.declared.queue.queue_t.{queue_t}
use Rattle.yaml_text.specs.Token.{token_of}
use Rattle.yaml_scan.specs.Token.{yaml_token_t}
use Rattle.yaml_scan.specs.Groups.{Token, handed_out}
use Rattle.yaml_scan.specs.Groups.Token.{BlockEnd, InsertedKey}
use Rattle.yaml_scan.specs.Laws.{is_of_lexeme}
use Rattle.yaml_scan.specs.inside.Queue.{IsBare, IsQueue, IsLead, Takes, TakesNext, DropsLead, lead_tokens, ends_at, starts_at, leads, early_before}
use Rattle.yaml_scan.specs.inside.Queue.{pending, begins_with_end, keyed, keyed_at}

-- WHAT IS NEXT
some_more : (n : ℕ) → nat_lt 0 (suc n) ≡ true
some_more n = lt-ltb 0 (suc n) (omega arith)

and_no : (a : Bool) → (a && false) ≡ false
and_no true = refl
and_no false = refl

not_one : (n : ℕ) → nat_eq (suc (suc n)) 1 ≡ false
not_one n = ne_eqb (suc (suc n)) 1 (λ q. absurd (omega (arith, q)))

pub early_next : (n : ℕ) (m : yaml_mark_t) (ys : List group_t) → (nat_lt 0 n && nat_eq (length ys) 1) ≡ true → begins_with_end (pending n m ys) ≡ true
early_next zero m ys e = absurd (false≢true e)
early_next (suc n) m [] e = absurd (false≢true (sym (and_no (nat_lt 0 (suc n))) ∙ e))
early_next (suc n) m (y ∷ []) e = refl
early_next (suc n) m (y ∷ (z ∷ ys)) e = absurd (false≢true (sym (ap (λ (b : Bool). nat_lt 0 (suc n) && b) (not_one (length ys)) ∙ and_no (nat_lt 0 (suc n))) ∙ e))

no_end : (y : group_t) → begins_with_end (starts_at y.opens y.token.start_mark ++ (if y.key then InsertedKey y.token.start_mark ∷ [] else [])) ≡ false
no_end y = go y.opens y.key
  where
    go : (o : block_t) (k : Bool) → begins_with_end (starts_at o y.token.start_mark ++ (if k then InsertedKey y.token.start_mark ∷ [] else [])) ≡ false
    go NONE true = refl
    go NONE false = refl
    go SEQUENCE k = refl
    go MAPPING k = refl

leads_next : (y : group_t) → begins_with_end (leads y) ≡ nat_lt 0 y.ends
leads_next y = go y.ends
  where
    go : (n : ℕ) → begins_with_end (ends_at n y.token.start_mark ++ (starts_at y.opens y.token.start_mark ++ (if y.key then InsertedKey y.token.start_mark ∷ [] else []))) ≡ nat_lt 0 n
    go zero = no_end y
    go (suc n) = sym (some_more n)

-- the early block ends do not come next
not_early : (n : ℕ) (m : yaml_mark_t) (y : group_t) (ys : List group_t) → (nat_lt 0 n && nat_eq (length (y ∷ ys)) 1) ≡ false → early_before n m ys ≡ []
not_early zero m y [] e = refl
not_early (suc n) m y [] e = let f : true ≡ false = sym (rw (some_more n) refl) ∙ e in absurd (false≢true (sym f))
not_early n m y (z ∷ ys) e = refl

pub head_next : (n : ℕ) (m : yaml_mark_t) (ys : List group_t) (y : group_t) → 0 < length ys → y ≡ get_or ys 0 y → (nat_lt 0 n && nat_eq (length ys) 1) ≡ false → nat_lt 0 y.ends ≡ begins_with_end (pending n m ys)
head_next n m [] y l g e = absurd (omega arith)
head_next n m (z ∷ ys) y l g e = rw (not_early n m z ys e) (ap (λ (w : group_t). nat_lt 0 w.ends) g ∙ sym (leads_next z))

-- A KEY IS MARKED
pub set_keyed : (ys : List group_t) (at : ℕ) (y : group_t) (opens : Bool) → at < length ys → y ≡ get_or ys at y → set ys at (keyed opens y) ≡ keyed_at at opens ys
set_keyed [] at y opens l g = absurd (omega arith)
set_keyed (z ∷ ys) zero y opens l g = rw g refl
set_keyed (z ∷ ys) (suc at) y opens l g = ap (λ (r : List group_t). z ∷ r) (set_keyed ys at y opens (omega arith) g)

-- A LEAD IS DROPPED
pub early_dropped : (old new : queue_t) → (nat_lt 0 old.early && nat_eq (length old.groups.items) 1) ≡ true → new.groups.items ≡ old.groups.items → new.done ≡ old.done → new.early + 1 ≡ old.early → new.early_mark ≡ old.early_mark → DropsLead old new
early_dropped old new t g d a f = go old.groups.items refl
  where
    parts : (nat_lt 0 old.early ≡ true) × (nat_eq (length old.groups.items) 1 ≡ true)
    parts = and_parts _ _ t

    one : (ys : List group_t) → old.groups.items ≡ ys → length ys ≡ 1
    one ys e = sym (ap (λ (l : List group_t). length l) e) ∙ eqb-true _ _ parts.1

    less : (k n : ℕ) (m : yaml_mark_t) (y : group_t) → k + 1 ≡ n → pending k m (y ∷ []) ≡ drop 1 (pending n m (y ∷ []))
    less k n m y e = let q : n ≡ suc k = omega (arith, e) in rw q refl

    go : (ys : List group_t) → old.groups.items ≡ ys → DropsLead old new
    go [] e = absurd (let l = one [] e in omega arith)
    go (y ∷ (z ∷ ys)) e = absurd (let l = one (y ∷ (z ∷ ys)) e in omega arith)
    go (y ∷ []) e = record {
      was = y;
      now = y;
      others = [];
      old_is = e;
      new_is = g ∙ e;
      token = refl;
      pending = rw f (less new.early old.early old.early_mark y a);
      done = d;
      early_mark = f;
      early = omega (arith, a);
      same_early = inl refl;
    }

-- the list of a list without its first
drop_front : (a b c : List Token) → a ≡ [] → b ≡ drop 1 c → a ++ b ≡ drop 1 (a ++ c)
drop_front a b c e f = rw e f

pub head_dropped : (old new : queue_t) (y w : group_t) → (nat_lt 0 old.early && nat_eq (length old.groups.items) 1) ≡ false → 0 < length old.groups.items → y ≡ get_or old.groups.items 0 y → new.groups.items ≡ set old.groups.items 0 w → leads w ≡ drop 1 (leads y) → w.token ≡ y.token → new.done ≡ old.done → new.early ≡ old.early → new.early_mark ≡ old.early_mark → DropsLead old new
head_dropped old new y w t l g n L T d a f = go old.groups.items refl
  where
    go : (ys : List group_t) → old.groups.items ≡ ys → DropsLead old new
    go [] e = absurd (let z = ap (λ (l : List group_t). length l) e in omega arith)
    go (z ∷ ys) e =
        let h : y ≡ z = g ∙ ap (λ (l : List group_t). get_or l 0 y) e in
        let k : (nat_lt 0 old.early && nat_eq (length (z ∷ ys)) 1) ≡ false = rw e at t in record {
          was = z;
          now = w;
          others = ys;
          old_is = e;
          new_is = n ∙ ap (λ (l : List group_t). set l 0 w) e;
          token = T ∙ ap (λ (u : group_t). u.token) h;
          pending = rw (a, f) (drop_front (early_before old.early old.early_mark ys) (leads w) (leads z) (not_early old.early old.early_mark z ys k) (L ∙ ap (λ (u : group_t). drop 1 (leads u)) h));
          done = d;
          early_mark = f;
          early = omega (arith, a);
          same_early = inr a;
        }

-- without early block ends it does not matter what their mark is
pub mark_free : (e : yaml_encoding_t) (n : ℕ) (f m : yaml_mark_t) (ys : List group_t) (xs : List Token) → (0 < n → m ≡ f) → IsQueue e n f ys xs → IsQueue e n m ys xs
mark_free e zero f m [] xs h q = q
mark_free e zero f m (y ∷ []) xs h q = q
mark_free e zero f m (y ∷ (z ∷ ys)) xs h (x, rest, i, t, l, q) = (x, rest, i, t, l, mark_free e zero f m (z ∷ ys) rest h q)
mark_free e (suc n) f m ys xs h q = subst (λ (k : yaml_mark_t). IsQueue e (suc n) k ys xs) (sym (h (omega arith))) q

-- TAKING
-- the other groups hand out what they did
others_same : (e : yaml_encoding_t) (m : yaml_mark_t) (a b : ℕ) (ys : List group_t) (xs : List Token) → ys ≡ [] ⊎ (b ≡ a) → IsQueue e a m ys xs → IsQueue e b m ys xs
others_same e m a b [] xs o q = q
others_same e m a b (y ∷ ys) xs (inl o) q = cc
others_same e m a b (y ∷ ys) xs (inr o) q = subst (λ (k : ℕ). IsQueue e k m (y ∷ ys) xs) (sym o) q

pub lead_taken : (e : yaml_encoding_t) (old new : queue_t) (token : yaml_token_t) (xs : List Token) → IsQueue e old.early old.early_mark old.groups.items xs → IsLead e old token → 0 < length (pending old.early old.early_mark old.groups.items) → DropsLead old new → Takes e old new token xs
lead_taken e old new token xs q t l d = go (pending old.early old.early_mark (d.was ∷ d.others)) refl (rw d.old_is at q)
  where
    go : (p : List Token) → pending old.early old.early_mark (d.was ∷ d.others) ≡ p → IsQueue e old.early old.early_mark (d.was ∷ d.others) xs → Takes e old new token xs
    go [] P i = absurd (let z = ap (λ (r : List Token). length r) (ap (λ (ys : List group_t). pending old.early old.early_mark ys) d.old_is ∙ P) in omega arith)
    go (p ∷ ps) P i = record {
      first = p;
      rest = ps ++ i.0 ∷ i.1;
      is = i.2 ∙ ap (λ (r : List Token). r ++ i.0 ∷ i.1) P;
      told = t p ps (ap (λ (ys : List group_t). pending old.early old.early_mark ys) d.old_is ∙ P);
      queue = subst (λ (ys : List group_t). IsQueue e new.early new.early_mark ys (ps ++ i.0 ∷ i.1)) (sym d.new_is) (i.0, i.1, ap (λ (r : List Token). r ++ i.0 ∷ i.1) (sym (d.pending ∙ ap (λ (r : List Token). drop 1 r) P)), ap token_of d.token ∙ i.3, i.4, rest_is i.1 i.5);
      count = (let a = ap (λ (ys : List group_t). length ys) d.old_is in let b = ap (λ (ys : List group_t). length ys) d.new_is in let c = d.done in omega arith);
      early = d.early;
    }
      where
        rest_is : (r : List Token) → IsQueue e old.early old.early_mark d.others r → IsQueue e new.early new.early_mark d.others r
        rest_is r j = subst (λ (m : yaml_mark_t). IsQueue e new.early m d.others r) (sym d.early_mark) (others_same e old.early_mark old.early new.early d.others r d.same_early j)

pub token_taken : (e : yaml_encoding_t) (old new : queue_t) (y : group_t) (ys : List group_t) (xs : List Token) → IsQueue e old.early old.early_mark old.groups.items xs → old.groups.items ≡ y ∷ ys → new.groups.items ≡ ys → length (pending old.early old.early_mark old.groups.items) ≤ 0 → new.done ≡ old.done + 1 → new.early ≡ old.early → new.early_mark ≡ old.early_mark
    → Takes e old new (token_of y.token) xs
token_taken e old new y ys xs q g h l d a f = go (pending old.early old.early_mark (y ∷ ys)) refl (rw g at q)
  where
    go : (p : List Token) → pending old.early old.early_mark (y ∷ ys) ≡ p → IsQueue e old.early old.early_mark (y ∷ ys) xs → Takes e old new (token_of y.token) xs
    go (p ∷ ps) P i = absurd (let z = ap (λ (r : List Token). length r) (ap (λ (ys : List group_t). pending old.early old.early_mark ys) g ∙ P) in omega arith)
    go [] P i = record {
      first = i.0;
      rest = i.1;
      is = i.2 ∙ ap (λ (r : List Token). r ++ i.0 ∷ i.1) P;
      told = i.3;
      queue = rw (h, a, f) i.5;
      count = (let b = ap (λ (ys : List group_t). length ys) g in let c = ap (λ (ys : List group_t). length ys) h in omega arith);
      early = omega (arith, a);
    }

-- THE TOKEN OF A LEAD
lead_none : (r : lead_t) (m : yaml_mark_t) → lead_tokens r m ≡ [] → r ≡ NOTHING
lead_none NOTHING m e = refl
lead_none END m e = absurd (let z = ap (λ (r : List Token). length r) e in omega arith)
lead_none SEQUENCE_START m e = absurd (let z = ap (λ (r : List Token). length r) e in omega arith)
lead_none MAPPING_START m e = absurd (let z = ap (λ (r : List Token). length r) e in omega arith)
lead_none KEY m e = absurd (let z = ap (λ (r : List Token). length r) e in omega arith)

-- what comes before the token of the first group, if the early block ends do not
pub late_pending : (q : queue_t) (y : group_t) → (nat_lt 0 q.early && nat_eq (length q.groups.items) 1) ≡ false → 0 < length q.groups.items → y ≡ get_or q.groups.items 0 y → pending q.early q.early_mark q.groups.items ≡ leads y
late_pending q y t l g = go q.groups.items refl
  where
    go : (ys : List group_t) → q.groups.items ≡ ys → pending q.early q.early_mark ys ≡ leads y
    go [] e = absurd (let z = ap (λ (l : List group_t). length l) e in omega arith)
    go (z ∷ ys) e =
        let h : y ≡ z = g ∙ ap (λ (l : List group_t). get_or l 0 y) e in
        let k : (nat_lt 0 q.early && nat_eq (length (z ∷ ys)) 1) ≡ false = rw e at t in
        ap (λ (r : List Token). r ++ leads z) (not_early q.early q.early_mark z ys k) ∙ ap (λ (u : group_t). leads u) (sym h)

pub early_taken : (old new : queue_t) → (nat_lt 0 old.early && nat_eq (length old.groups.items) 1) ≡ true → new.groups.items ≡ old.groups.items → new.done ≡ old.done → new.early + 1 ≡ old.early → new.early_mark ≡ old.early_mark → (token : yaml_token_t) → ((e : yaml_encoding_t) → token ≡ handed_out e (BlockEnd old.early_mark)) → TakesNext old new token
early_taken old new t g d a f token k = λ e xs q. lead_taken e old new token xs q (λ x rest P. k e ∙ ap (λ (u : Token). handed_out e u) (is x rest P)) some (early_dropped old new t g d a f)
  where
    parts : (nat_lt 0 old.early ≡ true) × (nat_eq (length old.groups.items) 1 ≡ true)
    parts = and_parts _ _ t

    first : (n : ℕ) (m : yaml_mark_t) (ys : List group_t) → 0 < n → length ys ≡ 1 → (rest : List Token) × (pending n m ys ≡ BlockEnd m ∷ rest)
    first zero m ys l e = absurd (omega arith)
    first (suc n) m [] l e = absurd (omega (arith, e))
    first (suc n) m (y ∷ (z ∷ ys)) l e = absurd (omega (arith, e))
    first (suc n) m (y ∷ []) l e = (ends_at n m ++ leads y, refl)

    here : (rest : List Token) × (pending old.early old.early_mark old.groups.items ≡ BlockEnd old.early_mark ∷ rest)
    here = first old.early old.early_mark old.groups.items (omega (arith, a)) (eqb-true _ _ parts.1)

    some : 0 < length (pending old.early old.early_mark old.groups.items)
    some = let z = ap (λ (r : List Token). length r) here.1 in omega arith

    is : (x : Token) (rest : List Token) → pending old.early old.early_mark old.groups.items ≡ x ∷ rest → BlockEnd old.early_mark ≡ x
    is x rest P = ap (λ (r : List Token). get_or r 0 x) (sym here.1 ∙ P)

pub head_taken : (old new : queue_t) (y w : group_t) (r : lead_t) (token : yaml_token_t) → (nat_lt 0 old.early && nat_eq (length old.groups.items) 1) ≡ false → 0 < length old.groups.items → y ≡ get_or old.groups.items 0 y → new.groups.items ≡ set old.groups.items 0 w → lead_tokens r y.token.start_mark ≡ take 1 (leads y) → (r ≡ NOTHING → ⊥) → leads w ≡ drop 1 (leads y) → w.token ≡ y.token
    → ((e : yaml_encoding_t) (x : Token) → lead_tokens r y.token.start_mark ≡ x ∷ [] → token ≡ handed_out e x) → new.done ≡ old.done → new.early ≡ old.early → new.early_mark ≡ old.early_mark → TakesNext old new token
head_taken old new y w r token t l g n R N L T k d a f = λ e xs q. lead_taken e old new token xs q (λ x rest P. k e x (R ∙ ap (λ (u : List Token). take 1 u) (sym here ∙ P))) (some (leads y) refl) (head_dropped old new y w t l g n L T d a f)
  where
    here : pending old.early old.early_mark old.groups.items ≡ leads y
    here = late_pending old y t l g

    some : (xs : List Token) → leads y ≡ xs → 0 < length (pending old.early old.early_mark old.groups.items)
    some [] e = absurd (N (lead_none r _ (R ∙ ap (λ (u : List Token). take 1 u) e)))
    some (x ∷ xs) e = let z = ap (λ (u : List Token). length u) (here ∙ e) in omega arith

-- a token is taken that none comes before
pub bare_taken : (old mid new : queue_t) (token : yaml_token_t) → IsBare old mid → TakesNext mid new token → TakesNext old new token
bare_taken old mid new token b k = λ e xs q. let t = k e xs (rw (b.early, b.early_mark, b.groups) q) in record {
  first = t.first;
  rest = t.rest;
  is = t.is;
  told = t.told;
  queue = t.queue;
  count = (let c = t.count in let d = b.done in let l = ap (λ (ys : List group_t). length ys) b.groups in omega arith);
  early = (let l = t.early in let d = b.early in omega arith);
}

-- THE FIRST TOKEN
abbrev pub IsFirst : yaml_encoding_t → List Token → yaml_token_t → Type 0
IsFirst e xs token = (x : Token) × (rest : List Token) × (xs ≡ x ∷ rest) × (token ≡ handed_out e x)

pub lead_first : (e : yaml_encoding_t) (q : queue_t) (xs : List Token) (token : yaml_token_t) → IsQueue e q.early q.early_mark q.groups.items xs → IsLead e q token → 0 < length (pending q.early q.early_mark q.groups.items) → IsFirst e xs token
lead_first e q xs token i t l = go q.groups.items refl i
  where
    go : (ys : List group_t) → q.groups.items ≡ ys → IsQueue e q.early q.early_mark ys xs → IsFirst e xs token
    go [] Y i = absurd (let z = ap (λ (ys : List group_t). length (pending q.early q.early_mark ys)) Y in omega arith)
    go (y ∷ ys) Y i = here (pending q.early q.early_mark (y ∷ ys)) refl
      where
        here : (p : List Token) → pending q.early q.early_mark (y ∷ ys) ≡ p → IsFirst e xs token
        here [] P = absurd (let z = ap (λ (r : List Token). length r) (ap (λ (ys : List group_t). pending q.early q.early_mark ys) Y ∙ P) in omega arith)
        here (p ∷ ps) P = (p, ps ++ i.0 ∷ i.1, i.2 ∙ ap (λ (r : List Token). r ++ i.0 ∷ i.1) P, t p ps (ap (λ (ys : List group_t). pending q.early q.early_mark ys) Y ∙ P))

pub token_first : (e : yaml_encoding_t) (q : queue_t) (xs : List Token) (y : group_t) → IsQueue e q.early q.early_mark q.groups.items xs → 0 < length q.groups.items → y ≡ get_or q.groups.items 0 y → length (pending q.early q.early_mark q.groups.items) ≤ 0 → IsFirst e xs (token_of y.token)
token_first e q xs y i l g n = go q.groups.items refl i
  where
    go : (ys : List group_t) → q.groups.items ≡ ys → IsQueue e q.early q.early_mark ys xs → IsFirst e xs (token_of y.token)
    go [] Y i = absurd (let z = ap (λ (ys : List group_t). length ys) Y in omega arith)
    go (z ∷ ys) Y i =
        let h : y ≡ z = g ∙ ap (λ (l : List group_t). get_or l 0 y) Y in
        here (pending q.early q.early_mark (z ∷ ys)) refl h
      where
        here : (p : List Token) → pending q.early q.early_mark (z ∷ ys) ≡ p → y ≡ z → IsFirst e xs (token_of y.token)
        here [] P h = (i.0, i.1, i.2 ∙ ap (λ (r : List Token). r ++ i.0 ∷ i.1) P, ap (λ (u : group_t). token_of u.token) h ∙ i.3)
        here (p ∷ ps) P h = absurd (let k = ap (λ (r : List Token). length r) (ap (λ (ys : List group_t). pending q.early q.early_mark ys) Y ∙ P) in omega arith)

-- PUTTING
-- one group more, where no early block ends wait
pub put_after : (e : yaml_encoding_t) (f m : yaml_mark_t) (n : ℕ) (ys : List group_t) (q : List Token) (y : group_t) (x : Token) → IsQueue e 0 f ys q → token_of y.token ≡ handed_out e x → is_of_lexeme x ≡ true
    → IsQueue e n m (ys ++ y ∷ []) (q ++ ((ends_at n m ++ leads y) ++ x ∷ []))
put_after e f m n [] q y x i t l = rw i (x, [], refl, t, l, refl)
put_after e f m n (z ∷ ys) q y x i t l = (
  i.0,
  i.1 ++ ((ends_at n m ++ leads y) ++ x ∷ []),
  ap (λ (r : List Token). r ++ ((ends_at n m ++ leads y) ++ x ∷ [])) i.2 ∙ (rw (none_early_before ys, after_of ys) (append_assoc (leads z) (i.0 ∷ i.1) _)),
  i.3,
  i.4,
  put_after e f m n ys i.1 y x i.5 t l,
)
  where
    none_early_before : (ys : List group_t) → early_before 0 f ys ≡ []
    none_early_before [] = refl
    none_early_before (w ∷ ys) = refl

    after_of : (ys : List group_t) → early_before n m (ys ++ y ∷ []) ≡ []
    after_of [] = refl
    after_of (w ∷ ys) = refl
