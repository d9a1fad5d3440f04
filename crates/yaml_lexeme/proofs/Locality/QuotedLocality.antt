-- Quoted scalars are good.
use Rattle.std.proofs.Common.{◌≡◌, ℕ, zero, suc, ◌≤◌, Bool, true, false, not, ◌==◌, ◌&&◌, ◌||◌, nat_lt, if◌then◌else◌, List, [], ◌∷◌, length, take, slice_index, Option, Some, None, is_some, Ok, Err, refl, sym, ap, arith}
use Rattle.std.proofs.lemmas.Bool.{and_parts}
use Rattle.std.proofs.lemmas.Bool.Decides.{nat_tests}
use Rattle.std.specs.List.{list_all, flat_map}
use Rattle.std.specs.Str.Parse.{digits_value}
use Rattle.yaml_lexeme.proofs.CountedMarks.WholePlaces.{parts, whole_after, one_more, no_return, end_whole, other, sure_white}
use Rattle.yaml_lexeme.proofs.Locality.ComposedReaders.{Like, IsLike, like_found, found_here, refuse_here, found_on, like_case, like_if, like_on, like_same, like_run, like_map, like_step, Good}
use Rattle.yaml_lexeme.proofs.Locality.GapLocality.{break_step}
use Rattle.yaml_lexeme.proofs.Locality.LocalReaders.{agree_less, take_same}
use Rattle.yaml_lexeme.proofs.Locality.LookaheadLists.{Next, go, stop, join, finish, finish_like, Joins, join_if, join_part, part_clear, advances}
use Rattle.yaml_lexeme.proofs.MarkOrder.ReadingAhead.{PartAhead}
use Rattle.yaml_lexeme.proofs.Readers.QuotedBody.{body_shortens}
use Rattle.yaml_lexeme.specs.Classes.{is_white}
use Rattle.yaml_lexeme.specs.Escape.{backslash, escape, hex_escape, hex_len, simple_escape}
use Rattle.yaml_lexeme.specs.Fold.{fold, breaks}
use Rattle.yaml_lexeme.specs.Kind.{is_marker}
use Rattle.yaml_lexeme.specs.Place.{Place, first, peek, skip, run, after_run, break_len}
use Rattle.yaml_lexeme.specs.Quoted.{quote, unmarked, body_part, spelled, quoted}
use Rattle.yaml_lexeme.specs.Reading.{Read, found, refuse, ◌>>=◌, many}
use Rattle.yaml_lexeme.specs.declared.problem.yaml_problem_t.TheVariants.{DOCUMENT_MARKER, END_OF_TEXT}
use Rattle.yaml_lexeme.specs.inside.CommonEscapes.{simple_at}
use Rattle.yaml_text.specs.Chars.{utf8}
use Rattle.yaml_text.specs.Classes.{is_break, is_z, is_hex}
use Rattle.yaml_text.specs.Utf8.{is_scalar}

-- escapes
hex_whole : (n : ℕ) (cs : List ℕ) → list_all is_hex (take n cs) ≡ true → parts cs n ≡ false
hex_whole zero cs h = refl
hex_whole (suc n) [] h = end_whole (suc n) [] (omega arith)
hex_whole (suc n) (c ∷ cs) h =
    one_more c cs n (hex_whole n cs (and_parts (is_hex c) (list_all is_hex (take n cs)) h).1) (λ e. no_return c (slice_index cs 0) (other is_hex refl c (and_parts (is_hex c) (list_all is_hex (take n cs)) h).0))

both : (a b : Bool) → not (a && b) ≡ false → b ≡ true
both true true h = refl
both true false h = absurd cc
both false b h = absurd cc

hex_like : (i : ℕ) → i ≤ 8 → IsLike (hex_escape i)
unfolding hex_escape
hex_like i small n p q a =
    let ds = take i p.rest in
    let es = take i q.rest in
    let same : 8 ≤ n → es ≡ ds = λ h. take_same i p q (agree_less i n p q (omega arith) a) in
    like_case (not (length ds == i && list_all is_hex ds)) (not (length es == i && list_all is_hex es)) (λ h. rw (same h) refl) (λ e. refuse_here) (λ e.
    like_if (not (is_scalar (digits_value 16 ds))) (not (is_scalar (digits_value 16 es))) (λ h. rw (same h) refl) refuse_here
    (like_found i refl (hex_whole i p.rest (both (length ds == i) (list_all is_hex ds) e)) (λ h. refl) (λ h. ap (digits_value 16) (same (omega arith)))))

hex_most : (c : ℕ) → hex_len c ≤ 8
hex_most c = grind (arith, nat_tests)

simple_like : (o : Option ℕ) (n : ℕ) (p q : Place) → (is_some o ≡ true → (peek p 1 == 0x0D) ≡ false) → Like n p q (simple_at o p) (simple_at o q)
simple_like None n p q h = refuse_here
simple_like (Some c) n p q h = found_on 2 (whole_after 1 p (h refl))

escape_like : IsLike escape
unfolding escape
escape_like n p q a =
    let c = peek p 1 in
    like_case (nat_lt 0 (hex_len c)) (nat_lt 0 (hex_len (peek q 1))) (λ h. rw (a.same 1 (omega arith)) refl)
    (λ e. like_same (λ h. ap (λ (d : ℕ). hex_escape (hex_len d) (skip 2 q)) (sym (a.same 1 (omega arith))))
    (like_on (hex_escape (hex_len c)) (hex_like (hex_len c) (hex_most c)) n 2 p q a (whole_after 1 p (other (λ d. nat_lt 0 (hex_len d)) refl c e))))
    (λ e. like_same (λ h. ap (λ (d : ℕ). simple_at (simple_escape d) q) (sym (a.same 1 (omega arith))))
    (simple_like (simple_escape c) n p q (λ h. other (λ d. is_some (simple_escape d)) refl c h)))

-- a part of the body, or the closing quote
white_not : (c : ℕ) → is_white c ≡ false → (c == 0x0D) ≡ false
white_not c h = grind (arith, nat_tests)

same_not : (c d : ℕ) → (d == c) ≡ true → (c == 0x0D) ≡ false → (d == 0x0D) ≡ false
same_not c d e h = grind (arith, nat_tests)

doubled : (a b d : Bool) → (a && not (b && d)) ≡ false → a ≡ true → d ≡ true
doubled true true true h e = refl
doubled true true false h e = absurd cc
doubled true false d h e = absurd cc
doubled false b d h e = absurd cc

abbrev Turn : Type 0
Turn = Next (List ℕ) (Unit {0})

abbrev marked : List ℕ → Place → Read Turn
marked value p = if is_marker p then refuse DOCUMENT_MARKER p else found (go value) p

marked_like : (value : List ℕ) → IsLike (marked value)
marked_like value n p q a =
    like_if (is_marker p) (is_marker q) (λ h. rw (a.mark, a.same 0 (omega arith), a.same 1 (omega arith), a.same 2 (omega arith), a.same 3 (omega arith)) refl) refuse_here found_here

marked_joins : (value : List ℕ) (x : Place) (fin : Read (Unit {0})) → Joins (marked value x) (unmarked value x) fin
marked_joins value x fin = join_if (is_marker x) (λ e. record { joined = refl }) (λ e. record { joined = refl })

abbrev char : ℕ → Turn
char c = go (c ∷ [])

abbrev breaks_then : Place → Read Turn
breaks_then p = marked (breaks (run is_white p)) (after_run is_white p)

breaks_like : IsLike breaks_then
breaks_like n p q a = like_run (λ cs. marked (breaks cs)) (λ cs. marked_like (breaks cs)) is_white sure_white n p q a

abbrev line_on : Place → Read Turn
line_on p = breaks_then (skip (break_len p) p)

line_like : IsLike line_on
line_like n p q a = like_step breaks_then breaks_like n p q (skip (break_len p) p) (skip (break_len q) q) a (break_step n p q a)

abbrev turn : Bool → Place → Read Turn
turn single p =
    let c = first p in
    if is_z c then refuse END_OF_TEXT p
    else if is_white c then marked (fold (run is_white p)) (after_run is_white p)
    else if c == quote single && not (single && peek p 1 == c) then found (stop tt) (skip 1 p)
    else if c == quote single then found (char c) (skip 2 p)
    else if single || not (c == backslash) then found (char c) (skip 1 p)
    else if is_break (peek p 1) then line_on (skip 1 p)
    else escape p >>= λ r. found (go (r.value ∷ [])) r.end

turn_like : (single : Bool) → IsLike (turn single)
turn_like single n p q a =
    let c = first p in
    let d = first q in
    let one : 8 ≤ n → char d ≡ char c = λ h. ap (λ (i : ℕ). char i) (sym (a.same 0 (omega arith))) in
    like_if (is_z c) (is_z d) (λ h. rw (a.same 0 (omega arith)) refl) refuse_here
    (like_case (is_white c) (is_white d) (λ h. rw (a.same 0 (omega arith)) refl) (λ s. like_run (λ cs. marked (fold cs)) (λ cs. marked_like (fold cs)) is_white sure_white n p q a) (λ s.
    let w = whole_after 0 p (white_not c s) in
    like_case (c == quote single && not (single && peek p 1 == c)) (d == quote single && not (single && peek q 1 == d)) (λ h. rw (a.same 0 (omega arith), a.same 1 (omega arith)) refl) (λ o. found_on 1 w) (λ o.
    like_case (c == quote single) (d == quote single) (λ h. rw (a.same 0 (omega arith)) refl)
    (λ t. like_found 2 refl (whole_after 1 p (same_not c (peek p 1) (doubled (c == quote single) single (peek p 1 == c) o t) (white_not c s))) (λ h. refl) (λ h. one (omega arith))) (λ t.
    like_if (single || not (c == backslash)) (single || not (d == backslash)) (λ h. rw (a.same 0 (omega arith)) refl) (like_found 1 refl w (λ h. refl) (λ h. one (omega arith)))
    (like_if (is_break (peek p 1)) (is_break (peek q 1)) (λ h. rw (a.same 1 (omega arith)) refl) (like_on line_on line_like n 1 p q a w)
    (like_map (λ (e : ℕ). go (e ∷ [])) (escape_like n p q a)))))))

abbrev closing : Place → Read (Unit {0})
closing p = found tt (skip 1 p)

turn_joins : (single : Bool) (p : Place) → Joins (turn single p) (body_part single p) (closing p)
unfolding body_part
turn_joins single p =
    let c = first p in
    let q = skip (break_len (skip 1 p)) (skip 1 p) in
    join_if (is_z c) (λ e. record { joined = refl }) (λ e.
    join_if (is_white c) (λ s. marked_joins (fold (run is_white p)) (after_run is_white p) (closing p)) (λ s.
    join_if (c == quote single && not (single && peek p 1 == c)) (λ o. record { joined = refl }) (λ o.
    join_if (c == quote single) (λ t. record { joined = refl }) (λ t.
    join_if (single || not (c == backslash)) (λ t. record { joined = refl }) (λ t.
    join_if (is_break (peek p 1)) (λ b. marked_joins (breaks (run is_white q)) (after_run is_white q) (closing p)) (λ b.
    join_part (λ (r : ℕ). r ∷ []) (escape p) (closing p)))))))

turn_is : (single : Bool) (p : Place) → turn single p ≡ join (body_part single p) (closing p)
turn_is single p = (turn_joins single p).joined

pub body_advances : (single : Bool) (p : Place) → PartAhead 1 p (body_part single p)
body_advances single p = advances p (body_part single p) (part_clear (body_part single) closing (turn single) (turn_is single) (turn_like single) p) (body_shortens single p)

abbrev quoted_then : Bool → Place → Read (List ℕ)
quoted_then single p = finish closing (many (body_part single) p) >>= λ t. found (flat_map utf8 t.value.0) t.end

closed : (r : Read (List (List ℕ))) → (spelled r >>= λ body. found body.value (skip 1 body.end)) ≡ (finish closing r >>= λ t. found (flat_map utf8 t.value.0) t.end)
closed (Ok f) = refl
closed (Err e) = refl

pub quoted_good : (single : Bool) → Good (quoted single)
unfolding quoted
quoted_good single = record {
  next = quoted_then single;
  is = λ p. closed (many (body_part single) (skip 1 p));
  like = λ n p q a. like_map (λ (t : List (List ℕ) × Unit {0}). flat_map utf8 t.0) (finish_like (body_part single) closing (turn single) (body_shortens single) (turn_is single) (turn_like single) n p q a);
}
