-- Which part of a quoted body is read at a place.
use Rattle.std.proofs.Common.{◌≡◌, ℕ, ◌<◌, Bool, true, false, cond, not, ◌==◌, ◌&&◌, ◌||◌, List, [], ◌∷◌, ◌++◌, length, Option, Some, None, Result, Ok, Err, take, nat_lt, refl, sym, ap, ◌∙◌, arith}
use Rattle.std.proofs.lemmas.List.{append-nil}
use Rattle.std.specs.Char.{encode_utf8}
use Rattle.yaml_lexeme.specs.declared.problem.yaml_refusal_t.{yaml_refusal_t}
use Rattle.yaml_lexeme.specs.declared.problem.yaml_refusal_t.TheVariants as errors
use Rattle.yaml_lexeme.specs.declared.problem.yaml_problem_t.TheVariants.{DOCUMENT_MARKER}
use Rattle.yaml_lexeme.proofs.Parts.HeldReads.{ok_holds, refuse_holds, if_holds, bind_holds, Nears, PartNears, nears_shorter}
use Rattle.yaml_lexeme.proofs.Parts.PartByPart.{Shortens}
use Rattle.yaml_lexeme.proofs.Places.PlaceMoves.{run_nearer, length_skip, is_there, some_char}
use Rattle.yaml_lexeme.proofs.Readers.FoldSeparators.{breaks_at}
use Rattle.yaml_lexeme.specs.Classes.{is_white}
use Rattle.yaml_lexeme.specs.Escape.{backslash, escape, hex_escape, hex_len, simple_escape}
use Rattle.yaml_lexeme.specs.inside.CommonEscapes.{simple_at}
use Rattle.yaml_text.specs.Utf8.{is_scalar}
use Rattle.yaml_lexeme.specs.Fold.{fold}
use Rattle.yaml_lexeme.specs.inside.Gives.{Refuses, TakesPart, Takes}
use Rattle.yaml_lexeme.specs.Kind.{is_marker}
use Rattle.yaml_lexeme.specs.Place.{Place, first, peek, skip, run, run_len, after_run, break_len}
use Rattle.yaml_lexeme.specs.Quoted.{quote, unmarked, body_part, spelled, quoted}
use Rattle.yaml_lexeme.specs.Reading.{Read, found, Part, part, refuse, many, ◌>>=◌}
use Rattle.yaml_text.specs.Chars.{utf8}
use Rattle.yaml_text.specs.Classes.{is_break, is_z, is_hex}
use Rattle.std.specs.List.{list_all}
use Rattle.std.specs.Str.Parse.{digits_value}

-- what a space, a doubled quote, a character and a dropped break give
pub at_space : (single : Bool) (p : Place) → is_z (first p) ≡ false → is_white (first p) ≡ true → body_part single p ≡ unmarked (fold (run is_white p)) (after_run is_white p)
unfolding body_part
at_space single p e s = rw (e, s) refl

pub at_char : (single : Bool) (p : Place) → is_z (first p) ≡ false → is_white (first p) ≡ false → (first p == quote single) ≡ false → (single || not (first p == 0x5C)) ≡ true
    → body_part single p ≡ part (first p ∷ []) (skip 1 p)
unfolding body_part
at_char single p e s q d = rw (e, s, q, d) refl

pub at_break : (single : Bool) (p : Place) → is_z (first p) ≡ false → is_white (first p) ≡ false → (first p == quote single) ≡ false → (single || not (first p == 0x5C)) ≡ false
    → is_break (peek p 1) ≡ true → let q = skip (break_len (skip 1 p)) (skip 1 p) in body_part single p ≡ unmarked (breaks_at q) (after_run is_white q)
unfolding body_part
at_break single p e s q d b = rw (e, s, q, d, b) refl

marked : (b : Bool) (r : Result Bool yaml_refusal_t) (value old new : List ℕ) (p q : Place) → r ≡ cond b (Err (errors.OFFENCE DOCUMENT_MARKER)) (Ok true) → new ≡ old ++ utf8 value
    → Takes utf8 r old new p q (cond b (refuse DOCUMENT_MARKER q) (part value q))
marked true r value old new p q e v = rw e refl
marked false r value old new p q e v = rw e (v, refl)

-- a part after which no marker may follow
pub takes_unmarked : (read : Part (List ℕ)) (r : Result Bool yaml_refusal_t) (value old new : List ℕ) (p q : Place) → read ≡ unmarked value q
    → r ≡ cond (is_marker q) (Err (errors.OFFENCE DOCUMENT_MARKER)) (Ok true) → new ≡ old ++ utf8 value → Takes utf8 r old new p q read
takes_unmarked read r value old new p q e f v = rw e (marked (is_marker q) r value old new p q f v)

-- a part of one character
pub takes_char : (read : Part (List ℕ)) (c : ℕ) (old new : List ℕ) (p q : Place) → read ≡ part (c ∷ []) q → new ≡ old ++ encode_utf8 c → TakesPart utf8 read true old new p q
takes_char read c old new p q e v = rw e (v ∙ ap (λ (bs : List ℕ). old ++ bs) (sym (append-nil (encode_utf8 c))), refl)

pub at_escape : (single : Bool) (p : Place) → is_z (first p) ≡ false → is_white (first p) ≡ false → (first p == quote single) ≡ false → (single || not (first p == 0x5C)) ≡ false
    → is_break (peek p 1) ≡ false → body_part single p ≡ escape p >>= λ r. part (r.value ∷ []) r.end
unfolding body_part
at_escape single p e s q d b = rw (e, s, q, d, b) refl

-- each part takes a character or more
near_hex : (n : ℕ) (p q : Place) → length q.rest < length p.rest → Nears p (hex_escape n q)
unfolding hex_escape
near_hex n p q h =
    let ds = take n q.rest in
    if_holds (not (length ds == n && list_all is_hex ds)) (λ e. refuse_holds tt) (λ e. if_holds (not (is_scalar (digits_value 16 ds))) (λ f. refuse_holds tt) (λ f. ok_holds (omega (arith, h, length_skip n q))))

near_simple : (o : Option ℕ) (p : Place) → 0 < length p.rest → Nears p (simple_at o p)
near_simple None p h = refuse_holds tt
near_simple (Some c) p h = ok_holds (omega (arith, h, length_skip 2 p))

near_escape : (p : Place) → 0 < length p.rest → Nears p (escape p)
unfolding escape
near_escape p h =
    if_holds (nat_lt 0 (hex_len (peek p 1))) (λ e. near_hex (hex_len (peek p 1)) p (skip 2 p) (omega (arith, h, length_skip 2 p))) (λ e. near_simple (simple_escape (peek p 1)) p h)

near_unmarked : (value : List ℕ) (p q : Place) → length q.rest < length p.rest → PartNears p (unmarked value q)
near_unmarked value p q h = if_holds (is_marker q) (λ e. refuse_holds tt) (λ e. ok_holds h)

near_body : (single : Bool) (p : Place) → PartNears p (body_part single p)
unfolding body_part
near_body single p =
    let c = first p in
    let q = skip (break_len (skip 1 p)) (skip 1 p) in
    if_holds (is_z c) (λ e. refuse_holds tt) (λ e.
    let there : 0 < length p.rest = is_there p 0 (some_char c e) in
    if_holds (is_white c) (λ s. near_unmarked _ p (after_run is_white p) (run_nearer is_white p s refl)) (λ s.
    if_holds (c == quote single && not (single && peek p 1 == c)) (λ o. ok_holds tt) (λ o.
    if_holds (c == quote single) (λ t. ok_holds (omega (arith, there, length_skip 2 p))) (λ t.
    if_holds (single || not (c == backslash)) (λ t. ok_holds (omega (arith, there, length_skip 1 p))) (λ t.
    if_holds (is_break (peek p 1)) (λ b. near_unmarked _ p (after_run is_white q) (omega (arith, there, length_skip (run_len is_white q) q, length_skip (break_len (skip 1 p)) (skip 1 p), length_skip 1 p))) (λ b.
    bind_holds (near_escape p there) (λ x n. ok_holds n)))))))

pub body_shortens : (single : Bool) → Shortens (body_part single)
body_shortens single p = nears_shorter p (body_part single p) (near_body single p)

-- what the parts of the body make
abbrev pub finish : Read (List (List ℕ)) → Read (List ℕ)
finish r = spelled r >>= λ b. found b.value (skip 1 b.end)

pub quoted_is : (single : Bool) (p : Place) → quoted single p ≡ finish (many (body_part single) (skip 1 p))
unfolding quoted
quoted_is single p = refl

pub quoted_all : (single : Bool) (p start q : Place) (out : List ℕ) → start ≡ skip 1 p → spelled (many (body_part single) start) ≡ found out q → quoted single p ≡ found out (skip 1 q)
unfolding quoted
quoted_all single p start q out s e = ap (λ (r : Read (List ℕ)). r >>= λ b. found b.value (skip 1 b.end)) (ap (λ (x : Place). spelled (many (body_part single) x)) (sym s) ∙ e)

pub quoted_none : (error : yaml_refusal_t) (single : Bool) (p start q : Place) → start ≡ skip 1 p → Refuses error q (spelled (many (body_part single) start)) → Refuses error q (quoted single p)
unfolding quoted
quoted_none errors.MEMORY single p start q s h = tt
quoted_none (errors.OFFENCE problem) single p start q s h = ap (λ (r : Read (List ℕ)). r >>= λ b. found b.value (skip 1 b.end)) (ap (λ (x : Place). spelled (many (body_part single) x)) (sym s) ∙ h)
