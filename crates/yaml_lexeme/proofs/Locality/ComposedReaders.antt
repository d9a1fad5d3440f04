-- A good reader gives the same at places that agree, and ends as far on at both, at a place that is not between CR and LF; so is what is put together from good readers.
use Rattle.std.proofs.Common.{◌≡◌, ℕ, ◌+◌, ◌-◌, ◌≤◌, Bool, true, false, if◌then◌else◌, inl, inr, List, length, take, Ok, Err, refl, sym, ap, ◌∙◌, subst, arith}
use Rattle.std.proofs.lemmas.Bool.{cases_lt}
use Rattle.yaml_lexeme.proofs.CountedMarks.WholePlaces.{parts, Clear, clear_skip, whole_then, IsSure, run_whole}
use Rattle.yaml_lexeme.proofs.Locality.AgreeingPlaces.{Agree}
use Rattle.yaml_lexeme.proofs.Locality.LocalReaders.{agree_less, agree_skip, run_same, take_same, EndsAt, Local, local_after}
use Rattle.yaml_lexeme.proofs.Places.PlaceMoves.{skip_none, length_skip, skip_skip}
use Rattle.yaml_lexeme.specs.Locality.{reach, move}
use Rattle.yaml_lexeme.specs.Place.{Place, skip, run, run_len, after_run}
use Rattle.yaml_lexeme.specs.Reading.{Found, Read, found, refuse, ◌>>=◌}
use Rattle.yaml_lexeme.specs.declared.problem.yaml_problem_t.{yaml_problem_t}

-- What is read from p on, and the same from q on, if p and q have n characters in common.
pub record Like {A : Type 0} (n : ℕ) (p q : Place) (r s : Read A) : Type 0 where
  pub count : ℕ
  pub ends : EndsAt count p r
  pub whole : parts p.rest count ≡ false
  pub same : count + 8 ≤ n → s ≡ move r (skip count q)

abbrev pub IsLike : {A : Type 0} → (Place → Read A) → Type 0
IsLike read = (n : ℕ) (p q : Place) → Agree n p q → Like n p q (read p) (read q)

pub agree_self : (p : Place) → Agree 0 p p
agree_self p = record { mark = refl; left = omega arith; right = omega arith; same = λ i h. refl }

pub agree_sym : (n : ℕ) (p q : Place) → Agree n p q → Agree n q p
agree_sym n p q a = record { mark = sym a.mark; left = a.right; right = a.left; same = λ i h. sym (a.same i h) }

-- after k characters, 8 of which are common
pub agree_after : (n k : ℕ) (p q : Place) → k + 8 ≤ n → Agree n p q → Agree (n - k) (skip k p) (skip k q)
agree_after n k p q h a =
    let m = n - k - 1 in
    let e : 1 + m ≡ n - k = omega arith in
    subst (λ (i : ℕ). Agree i (skip k p) (skip k q)) e (agree_skip k m p q (agree_less (k + (1 + m)) n p q (omega arith) a))

pub like_found : {A : Type 0} {n : ℕ} {p q x y : Place} {a b : A} → (k : ℕ) → x ≡ skip k p → parts p.rest k ≡ false → (k + 8 ≤ n → y ≡ skip k q) → (k + 8 ≤ n → b ≡ a) → Like n p q (found a x) (found b y)
like_found {A} {n} {p} {q} {x} {y} {a} {b} k e w f g = record { count = k; ends = e; whole = w; same = λ h. ap (λ (c : A). found c y) (g h) ∙ ap (λ (z : Place). found a z) (f h) }

-- at the place itself
pub found_here : {A : Type 0} {n : ℕ} {p q : Place} {a : A} → Like n p q (found a p) (found a q)
found_here {A} {n} {p} {q} {a} = like_found 0 (sym (skip_none p)) refl (λ h. sym (skip_none q)) (λ h. refl)

pub refuse_here : {A : Type 0} {n : ℕ} {p q : Place} {problem : yaml_problem_t} → Like {A = A} n p q (refuse problem p) (refuse problem q)
refuse_here {A} {n} {p} {q} {problem} = record { count = 0; ends = sym (skip_none p); whole = refl; same = λ h. ap (λ (z : Place). refuse problem z) (sym (skip_none q)) }

pub found_on : {A : Type 0} {n : ℕ} {p q : Place} {a : A} → (k : ℕ) → parts p.rest k ≡ false → Like n p q (found a (skip k p)) (found a (skip k q))
found_on {A} {n} {p} {q} {a} k w = like_found k refl w (λ h. refl) (λ h. refl)

-- a test that says the same at both
pub like_case : {A : Type 0} {n : ℕ} {p q : Place} {x y u v : Read A} → (b c : Bool) → (8 ≤ n → c ≡ b) → (b ≡ true → Like n p q x u) → (b ≡ false → Like n p q y v) → Like n p q (if b then x else y) (if c then u else v)
like_case {A} {n} {p} {q} {x} {y} {u} {v} true c e hx hy = let l = hx refl in record { count = l.count; ends = l.ends; whole = l.whole; same = λ h. ap (λ (d : Bool). if d then u else v) (e (omega arith)) ∙ l.same h }
like_case {A} {n} {p} {q} {x} {y} {u} {v} false c e hx hy = let l = hy refl in record { count = l.count; ends = l.ends; whole = l.whole; same = λ h. ap (λ (d : Bool). if d then u else v) (e (omega arith)) ∙ l.same h }

pub like_if : {A : Type 0} {n : ℕ} {p q : Place} {x y u v : Read A} → (b c : Bool) → (8 ≤ n → c ≡ b) → Like n p q x u → Like n p q y v → Like n p q (if b then x else y) (if c then u else v)
like_if {A} {n} {p} {q} {x} {y} {u} {v} b c e hx hy = like_case b c e (λ h. hx) (λ h. hy)

ends_after : {A : Type 0} → (k n : ℕ) (p x : Place) (r : Read A) → x ≡ skip k p → EndsAt n x r → EndsAt (k + n) p r
ends_after k n p x (Ok r) e h = h ∙ ap (skip n) e ∙ skip_skip k n p
ends_after k n p x (Err r) e h = h ∙ ap (skip n) e ∙ skip_skip k n p

-- what is read at x, k characters on, by a reader that is good there
then_like : {A : Type 0} (n k : ℕ) (p q x : Place) (r s : Read A) (read : Place → Read A) → Agree n p q → x ≡ skip k p → parts p.rest k ≡ false
    → ((m : ℕ) (z : Place) → Agree m x z → Like m x z r (read z)) → (k + 8 ≤ n → s ≡ read (skip k q)) → Like n p q r s
then_like n k p q x r s read a e w all f =
    elim (cases_lt n (k + 8)) [
      | inl short ↦
          let l = all 0 x (agree_self x) in
          record { count = k + l.count; ends = ends_after k l.count p x r e l.ends; whole = whole_then k l.count p x e w l.whole; same = λ h. absurd (omega arith) }
      | inr enough ↦
          let l = all (n - k) (skip k q) (subst (λ (z : Place). Agree (n - k) z (skip k q)) (sym e) (agree_after n k p q enough a)) in
          record {
            count = k + l.count;
            ends = ends_after k l.count p x r e l.ends;
            whole = whole_then k l.count p x e w l.whole;
            same = λ h. f enough ∙ l.same (omega arith) ∙ ap (move r) (skip_skip k l.count q);
          }
    ]

pub like_on : {A : Type 0} (read : Place → Read A) → IsLike read → (n k : ℕ) (p q : Place) → Agree n p q → parts p.rest k ≡ false → Like n p q (read (skip k p)) (read (skip k q))
like_on read all n k p q a w = then_like n k p q (skip k p) (read (skip k p)) (read (skip k q)) read a refl w (λ m z b. all m (skip k p) z b) (λ h. refl)

-- and what is made of it
bind_like : {A B : Type 0} → (n : ℕ) (p q : Place) (r s : Read A) (f g : Found A → Read B) → Agree n p q → Like n p q r s
    → ((x : Found A) (z : Place) (m : ℕ) → Agree m x.end z → Like m x.end z (f x) (g (record { value = x.value; end = z }))) → Like n p q (r >>= f) (s >>= g)
bind_like n p q (Err e) s f g a l more = record { count = l.count; ends = l.ends; whole = l.whole; same = λ h. ap (λ t. t >>= g) (l.same h) }
bind_like n p q (Ok x) s f g a l more =
    then_like n l.count p q x.end (f x) (s >>= g) (λ z. g (record { value = x.value; end = z })) a l.ends l.whole (λ m z b. more x z m b) (λ h. ap (λ t. t >>= g) (l.same h))

pub like_bind : {A B : Type 0} {n : ℕ} {p q : Place} {r s : Read A} → (f g : Found A → Read B) → Agree n p q → Like n p q r s
    → ((x : Found A) (z : Place) (m : ℕ) → Agree m x.end z → Like m x.end z (f x) (g (record { value = x.value; end = z }))) → Like n p q (r >>= f) (s >>= g)
like_bind {A} {B} {n} {p} {q} {r} {s} f g a l more = bind_like n p q r s f g a l more

-- the first characters, and what is read after them
pub like_take : {A : Type 0} (read : List ℕ → Place → Read A) → ((cs : List ℕ) → IsLike (read cs)) → (j k n : ℕ) (p q : Place) → Agree n p q → parts p.rest j ≡ false → (j + 8 ≤ n → k ≡ j)
    → Like n p q (read (take j p.rest) (skip j p)) (read (take k q.rest) (skip k q))
like_take read all j k n p q a w e =
    let x = skip j p in
    let cs = take j p.rest in
    then_like n j p q x (read cs x) (read (take k q.rest) (skip k q)) (read cs) a refl w (λ m z b. all cs m x z b) (λ h.
    let text : take k q.rest ≡ cs = ap (λ (i : ℕ). take i q.rest) (e h) ∙ take_same j p q (agree_less j n p q (omega arith) a) in
    ap (λ (ds : List ℕ). read ds (skip k q)) text ∙ ap (λ (i : ℕ). read cs (skip i q)) (e h))

-- a run, and what is read after it
pub like_run : {A : Type 0} (read : List ℕ → Place → Read A) → ((cs : List ℕ) → IsLike (read cs)) → (test : ℕ → Bool) → IsSure test → (n : ℕ) (p q : Place) → Agree n p q
    → Like n p q (read (run test p) (after_run test p)) (read (run test q) (after_run test q))
like_run read all test sure n p q a =
    like_take read all (run_len test p) (run_len test q) n p q a (run_whole test sure p.rest) (λ h. run_same test p q (agree_less (run_len test p + 1) n p q (omega arith) a))

pub like_same : {A : Type 0} {n : ℕ} {p q : Place} {r s t : Read A} → (8 ≤ n → t ≡ s) → Like n p q r s → Like n p q r t
like_same {A} {n} {p} {q} {r} {s} {t} e l = record { count = l.count; ends = l.ends; whole = l.whole; same = λ h. e (omega arith) ∙ l.same h }

map_like : {A B : Type 0} (g : A → B) (n : ℕ) (p q : Place) (r s : Read A) → Like n p q r s → Like n p q (r >>= λ x. found (g x.value) x.end) (s >>= λ x. found (g x.value) x.end)
map_like g n p q (Ok f) s l = record { count = l.count; ends = l.ends; whole = l.whole; same = λ h. ap (λ t. t >>= λ x. found (g x.value) x.end) (l.same h) }
map_like g n p q (Err e) s l = record { count = l.count; ends = l.ends; whole = l.whole; same = λ h. ap (λ t. t >>= λ x. found (g x.value) x.end) (l.same h) }

-- another value
pub like_map : {A B : Type 0} {n : ℕ} {p q : Place} {r s : Read A} → (g : A → B) → Like n p q r s → Like n p q (r >>= λ x. found (g x.value) x.end) (s >>= λ x. found (g x.value) x.end)
like_map {A} {B} {n} {p} {q} {r} {s} g l = map_like g n p q r s l

-- A step only moves on: it is a reader of nothing.
abbrev pub to : (Place → Place) → Place → Read (Unit {0})
to f p = found tt (f p)

pub step_run : (test : ℕ → Bool) → IsSure test → IsLike (to (after_run test))
step_run test sure n p q a = like_run (λ cs x. found tt x) (λ cs m x y b. found_here) test sure n p q a

-- what is read where a step ends, without reading on
pub step_value : {A : Type 0} {n : ℕ} {p q x y : Place} → (v w : A) → (8 ≤ n → w ≡ v) → Like n p q (found {A = Unit {0}} tt x) (found tt y) → Like n p q (found v x) (found w y)
step_value {A} {n} {p} {q} {x} {y} v w e l = like_same (λ h. ap (λ (c : A). found c y) (e h)) (map_like (λ u. v) n p q (found {A = Unit {0}} tt x) (found tt y) l)

pub step_if : {n : ℕ} {p q x y u v : Place} → (b c : Bool) → (8 ≤ n → c ≡ b) → (b ≡ true → Like n p q (found {A = Unit {0}} tt x) (found tt u)) → (b ≡ false → Like n p q (found {A = Unit {0}} tt y) (found tt v))
    → Like n p q (found {A = Unit {0}} tt (if b then x else y)) (found tt (if c then u else v))
step_if {n} {p} {q} {x} {y} {u} {v} true c e hx hy = like_same (λ h. ap (λ (d : Bool). found tt (if d then u else v)) (e h)) (hx refl)
step_if {n} {p} {q} {x} {y} {u} {v} false c e hx hy = like_same (λ h. ap (λ (d : Bool). found tt (if d then u else v)) (e h)) (hy refl)

-- what is read after a step
pub like_step : {A : Type 0} (read : Place → Read A) → IsLike read → (n : ℕ) (p q x y : Place) → Agree n p q → Like n p q (found {A = Unit {0}} tt x) (found tt y) → Like n p q (read x) (read y)
like_step read all n p q x y a s = bind_like n p q (found {A = Unit {0}} tt x) (found tt y) (λ r. read r.end) (λ r. read r.end) a s (λ r z m b. all m r.end z b)

ends_same : {A : Type 0} → (j k : ℕ) (p : Place) (r : Read A) → EndsAt j p r → EndsAt k p r → skip j p ≡ skip k p
ends_same j k p (Ok f) a b = sym a ∙ b
ends_same j k p (Err e) a b = sym a ∙ b

-- what holds at all places, from this
pub local_of : {A : Type 0} (read : Place → Read A) → IsLike read → (p : Place) → Local read p
local_of read all p =
    let l = all 0 p p (agree_self p) in
    let c = l.count in
    record {
      count = c;
      ends = l.ends;
      same = λ q a.
          let m = all (c + 8) p q a in
          let lengths = ap (λ (x : Place). length x.rest) (ends_same c m.count p (read p) l.ends m.ends) in
          let e : m.count ≡ c = omega (arith, a.left, length_skip c p, length_skip m.count p, lengths) in
          subst (λ (i : ℕ). read q ≡ move (read p) (skip i q)) e (m.same (omega arith));
    }

reach_clear : {A : Type 0} (k : ℕ) (p : Place) (r : Read A) → EndsAt k p r → parts p.rest k ≡ false → Clear p (reach r)
reach_clear k p (Ok f) e w = subst (λ (x : Place). Clear p x) (sym e) (clear_skip k p w)
reach_clear k p (Err o) e w = subst (λ (x : Place). Clear p x) (sym e) (clear_skip k p w)

-- where reading ends is clear
pub like_clear : {A : Type 0} (read : Place → Read A) → IsLike read → (p : Place) → Clear p (reach (read p))
like_clear read all p = let l = all 0 p p (agree_self p) in reach_clear l.count p (read p) l.ends l.whole

-- A lexeme is read on from the next character by a reader that is good.
pub record Good {A : Type 0} (read : Place → Read A) : Type 0 where
  pub next : Place → Read A
  pub is : (p : Place) → read p ≡ next (skip 1 p)
  pub like : IsLike next

pub good_local : {A : Type 0} (read : Place → Read A) → Good read → (p : Place) → Local read p
good_local read g p =
    let l = local_after g.next 1 p (local_of g.next g.like (skip 1 p)) in
    record { count = l.count; ends = rw (g.is p) l.ends; same = λ q a. rw (g.is p, g.is q) (l.same q a) }

pub good_clear : {A : Type 0} (read : Place → Read A) → Good read → (p : Place) → Clear (skip 1 p) (reach (read p))
good_clear read g p = rw (g.is p) (like_clear g.next g.like (skip 1 p))
