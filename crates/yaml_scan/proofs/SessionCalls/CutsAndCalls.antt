-- Whatever the cuts and the calls, the tokens given are the first of the whole input.
use Rattle.std.proofs.Common.{◌≡◌, ℕ, zero, suc, ◌+◌, Bool, true, false, List, [], ◌∷◌, ◌++◌, take, drop, length, refl, ap, sym, ◌∙◌, subst, arith, append_assoc}
use Rattle.std.proofs.lemmas.List.{append-nil}
use Rattle.yaml_scan.specs.Begins.{Begins}
use Rattle.yaml_scan.specs.Fed.{CutsDoNotMatter, Fed, GivesOf, MayBe, Turn, Turns, bytes_in, comes, new_fed, tokens_in}
use Rattle.yaml_scan.specs.Fed.Turn.{COMES, GIVES}
use Rattle.yaml_scan.specs.Inputs.{answers_to}
use Rattle.yaml_scan.specs.Token.{yaml_token_t}

take-more : (n m : ℕ) (xs : List yaml_token_t) → take (n + m) xs ≡ take n xs ++ take m (drop n xs)
take-more zero m xs = let e : 0 + m ≡ m = omega arith in rw e refl
take-more (suc n) m [] = let e : suc n + m ≡ suc (n + m) = omega arith in rw e (none m)
  where
    none : (k : ℕ) → [] ≡ take {A = yaml_token_t} k []
    none zero = refl
    none (suc k) = refl
take-more (suc n) m (x ∷ xs) = let e : suc n + m ≡ suc (n + m) = omega arith in rw e (ap (λ (l : List yaml_token_t). x ∷ l) (take-more n m xs))

-- these are the tokens taken, of every input that may come
abbrev AreTaken : Fed → List yaml_token_t → Type 0
AreTaken p ts = (input : List ℕ) → MayBe p.whole p.given input → ts ≡ take p.session.taken (answers_to p.limit p.setting input).tokens

may_be_more : (given bytes input : List ℕ) (last : Bool) → MayBe last (given ++ bytes) input → Begins given input
may_be_more given bytes input true e = record { rest = bytes; is = e }
may_be_more given bytes input false g = record { rest = bytes ++ g.rest; is = g.is ∙ append_assoc given bytes g.rest }

came : (p : Fed) (ts : List yaml_token_t) (bytes : List ℕ) (last : Bool) → p.whole ≡ false → AreTaken p ts → AreTaken (comes p bytes last) ts
came p ts bytes last e k input m = k input (subst (λ (w : Bool). MayBe w p.given input) (sym e) (may_be_more p.given bytes input last m))

gave : (p : Fed) (ts tokens : List yaml_token_t) (why : _) (r : Fed) → GivesOf p tokens why r → AreTaken p ts → AreTaken r (ts ++ tokens)
gave p ts tokens why r g k input m =
    let n : MayBe p.whole p.given input = subst (λ (x : Fed). MayBe x.whole x.given input) g.same m in
    let L = (answers_to p.limit p.setting input).tokens in
    let e : (answers_to r.limit r.setting input).tokens ≡ L = ap (λ (x : Fed). (answers_to x.limit x.setting input).tokens) g.same in
    ap (λ (x : List yaml_token_t). x ++ tokens) (k input n) ∙ ap (λ (y : List yaml_token_t). take p.session.taken L ++ y) (g.next input n) ∙ sym (take-more p.session.taken (length tokens) L)
    ∙ ap (λ (c : ℕ). take c L) (sym g.taken) ∙ ap (take r.session.taken) (sym e)

record Came (p : Fed) (ts : List yaml_token_t) (turns : List Turn) (q : Fed) : Type 0 where
  given : q.given ≡ p.given ++ bytes_in turns
  setting : q.setting ≡ p.setting
  limit : q.limit ≡ p.limit
  taken : AreTaken q (ts ++ tokens_in turns)

go : (p : Fed) (ts : List yaml_token_t) (turns : List Turn) (q : Fed) → Turns p turns q → AreTaken p ts → Came p ts turns q
go p ts [] q t k = subst (λ (x : Fed). Came p ts [] x) (sym t) (record { given = sym (append-nil p.given); setting = refl; limit = refl; taken = subst (λ (l : List yaml_token_t). AreTaken p l) (sym (append-nil ts)) k })
go p ts (COMES bytes last ∷ turns) q t k =
    let c = go (comes p bytes last) ts turns q t.1 (came p ts bytes last t.0 k) in
    record { given = c.given ∙ append_assoc p.given bytes (bytes_in turns); setting = c.setting; limit = c.limit; taken = c.taken }
go p ts (GIVES tokens why ∷ turns) q t k =
    let r = t.0 in
    let c = go r (ts ++ tokens) turns q t.2 (gave p ts tokens why r t.1 k) in
    record {
      given = c.given ∙ ap (λ (x : Fed). x.given ++ bytes_in turns) t.1.same;
      setting = c.setting ∙ ap (λ (x : Fed). x.setting) t.1.same;
      limit = c.limit ∙ ap (λ (x : Fed). x.limit) t.1.same;
      taken = subst (λ (l : List yaml_token_t). AreTaken q l) (append_assoc ts tokens (tokens_in turns)) c.taken;
    }

pub cuts_do_not_matter : CutsDoNotMatter
cuts_do_not_matter setting limit turns q t =
    let c = go (new_fed setting limit) [] turns q t (λ input m. refl) in
    (c.given, c.setting, c.limit, λ input m. c.taken input m ∙ (λ k. take q.session.taken (answers_to (c.limit k) (c.setting k) input).tokens))
