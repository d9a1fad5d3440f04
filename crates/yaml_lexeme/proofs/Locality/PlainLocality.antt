-- Plain scalars are good.
use Rattle.std.proofs.Common.{◌≡◌, ℕ, ◌≤◌, Bool, true, false, not, ◌==◌, if◌then◌else◌, inl, inr, List, [], ◌∷◌, ◌++◌, length, take, slice_index, Option, Some, None, Ok, Err, refl, sym, ap, ◌∙◌, subst, arith}
use Rattle.std.proofs.lemmas.Bool.{cases_Bool, eqb-true}
use Rattle.std.proofs.lemmas.List.{length-take-le}
use Rattle.std.specs.List.{list_any, flat_map}
use Rattle.yaml_lexeme.proofs.Locality.PlainChunkLocality.{chunk_like, sep_run, sep_like}
use Rattle.yaml_lexeme.proofs.Locality.ComposedReaders.{Like, IsLike, found_here, like_if, like_bind, like_map}
use Rattle.yaml_lexeme.proofs.Locality.LookaheadLists.{Next, go, stop, join, finish, finish_like, Joins, join_if, PartClear, part_clear, advances}
use Rattle.yaml_lexeme.proofs.MarkOrder.ReadingAhead.{PartAhead}
use Rattle.yaml_lexeme.proofs.Places.PlaceMoves.{skip_none, after_none}
use Rattle.yaml_lexeme.proofs.Readers.PlainLinks.{tab_at, separator_is, link_shortens, after_gap, tail_of}
use Rattle.yaml_lexeme.proofs.Readers.FoldSeparators.{run_none}
use Rattle.yaml_lexeme.specs.Classes.{is_white}
use Rattle.yaml_lexeme.specs.Fold.{fold}
use Rattle.yaml_lexeme.proofs.Locality.AgreeingPlaces.{Agree}
use Rattle.yaml_lexeme.proofs.Parts.ReadResults.{value_or, end_or}
use Rattle.yaml_lexeme.specs.Place.{Place, first, peek, skip, run, after_run}
use Rattle.yaml_lexeme.specs.Plain.{is_bad_colon, is_chunk, chunk_len, chunk, is_over, link, plain}
use Rattle.yaml_lexeme.specs.inside.Words.{untabbed}
use Rattle.yaml_lexeme.specs.Reading.{Found, Read, found, refuse, ◌>>=◌, part, over, many}
use Rattle.yaml_lexeme.specs.Lexeme.{Scalar}
use Rattle.yaml_lexeme.specs.declared.problem.yaml_problem_t.TheVariants.{COLON_IN_FLOW}
use Rattle.yaml_text.specs.Chars.{utf8}
use Rattle.yaml_text.specs.Classes.{is_break}
use Rattle.yaml_text.specs.declared.types.yaml_mark_t.{yaml_mark_t}

-- where the last chunk ends, and whether a break follows it
abbrev Tail : Type 0
Tail = yaml_mark_t × Bool

-- after the last chunk
abbrev trailing : Place → Read Tail
trailing p = found (p.mark, list_any is_break (run is_white p)) (after_run is_white p)

-- after a separator
abbrev turn_then : Bool → ℕ → yaml_mark_t → List ℕ → Place → Read (Next (List ℕ) Tail)
turn_then flow least m cs e =
    if is_over flow least e then found (stop (m, list_any is_break cs)) e
    else chunk flow e >>= λ c.
    if length c.value == 0 then found (stop (m, list_any is_break cs)) c.end else found (go (fold cs ++ c.value)) c.end

abbrev turn : Bool → ℕ → Place → Read (Next (List ℕ) Tail)
turn flow least p = if not (is_white (first p)) then found (stop (p.mark, false)) p else sep_run least p >>= λ g. turn_then flow least p.mark g.value g.end

over_same : (flow : Bool) (least : ℕ) (n : ℕ) (p q : Place) → Agree n p q → 8 ≤ n → is_over flow least q ≡ is_over flow least p
over_same flow least n p q a h = rw (a.mark, a.same 0 (omega arith), a.same 1 (omega arith), a.same 2 (omega arith), a.same 3 (omega arith)) refl

then_like : (flow : Bool) (least : ℕ) (m : yaml_mark_t) (cs : List ℕ) → IsLike (turn_then flow least m cs)
then_like flow least m cs n p q a =
    like_if (is_over flow least p) (is_over flow least q) (over_same flow least n p q a) found_here
    (like_bind _ _ a (chunk_like flow n p q a) (λ x z i b. like_if (length x.value == 0) (length x.value == 0) (λ h. refl) found_here found_here))

turn_like : (flow : Bool) (least : ℕ) → IsLike (turn flow least)
turn_like flow least n p q a =
    subst (λ (m : yaml_mark_t). Like {A = Next (List ℕ) Tail} n p q (turn flow least p) (if not (is_white (first q)) then found (stop (m, false)) q else sep_run least q >>= λ g. turn_then flow least m g.value g.end)) a.mark
    (like_if (not (is_white (first p))) (not (is_white (first q))) (λ h. rw (a.same 0 (omega arith)) refl) found_here
    (like_bind _ _ a (sep_like least n p q a) (λ x z i b. then_like flow least p.mark x.value i x.end z b)))

pub chunk_within : (flow : Bool) (cs : List ℕ) → chunk_len flow cs ≤ length cs
chunk_within flow [] = omega arith
chunk_within flow (c ∷ cs) =
    elim (cases_Bool (is_chunk flow c (slice_index cs 0))) [
      | inl is ↦ rw is (omega (arith, chunk_within flow cs))
      | inr none ↦ rw none (omega arith)
    ]

pub unless_bad : (b : Bool) (v : List ℕ) (e : Place) (c : Found (List ℕ)) → (if b then refuse COLON_IN_FLOW e else found v e) ≡ Ok c → (c.value ≡ v) × (c.end ≡ e)
unless_bad true v e c h = absurd cc
unless_bad false v e c h = (ap (value_or []) (sym h), ap (end_or e) (sym h))

chunk_empty : (flow : Bool) (e : Place) (c : Found (List ℕ)) → chunk flow e ≡ Ok c → (length c.value == 0) ≡ true → c.end ≡ e
unfolding chunk
chunk_empty flow e c h z =
    let k = chunk_len flow e.rest in
    let end = skip k e in
    let t = unless_bad (is_bad_colon flow (first end) (peek end 1)) (take k e.rest) end c h in
    let none : k ≡ 0 = omega (arith, length-take-le k e.rest (chunk_within flow e.rest), ap length t.0, eqb-true (length c.value) 0 z) in
    t.1 ∙ ap (λ (i : ℕ). skip i e) none ∙ skip_none e

abbrev chunk_turn : Bool → yaml_mark_t → List ℕ → Read (List ℕ) → Read (Next (List ℕ) Tail)
chunk_turn b m cs r = r >>= λ c. if length c.value == 0 then found (stop (m, b)) c.end else found (go (fold cs ++ c.value)) c.end

chunk_joins : (flow b : Bool) (m : yaml_mark_t) (cs : List ℕ) (e : Place) (r : Read (List ℕ)) → chunk flow e ≡ r
    → Joins (chunk_turn b m cs r) (r >>= λ c. if length c.value == 0 then over else part (fold cs ++ c.value) c.end) (found (m, b) e)
chunk_joins flow b m cs e (Ok c) h =
    join_if (length c.value == 0) (λ z. record { joined = ap (λ (x : Place). found (stop (m, b)) x) (chunk_empty flow e c h z) }) (λ z. record { joined = refl })
chunk_joins flow b m cs e (Err o) h = record { joined = refl }

tab_joins : (o : Option Place) (flow : Bool) (least : ℕ) (m : yaml_mark_t) (cs : List ℕ) (e : Place)
    → Joins (untabbed o cs e >>= λ g. turn_then flow least m g.value g.end) (untabbed o (fold cs) e >>= λ gap. after_gap flow least gap.value gap.end) (found (m, list_any is_break cs) e)
tab_joins None flow least m cs e = join_if (is_over flow least e) (λ o. record { joined = refl }) (λ o. chunk_joins flow (list_any is_break cs) m cs e (chunk flow e) refl)
tab_joins (Some t) flow least m cs e = record { joined = refl }

-- a turn is a link, or what is read after the last
turn_is : (flow : Bool) (least : ℕ) (p : Place) → turn flow least p ≡ join (link flow least p) (trailing p)
unfolding link sep_run
turn_is flow least p =
    elim (cases_Bool (is_white (first p))) [
      | inl space ↦ rw (space, separator_is least p) (tab_joins (tab_at least false p) flow least p.mark (run is_white p) (after_run is_white p)).joined
      | inr other ↦ rw (other, after_none is_white p other, run_none is_white p other) refl
    ]

abbrev scalar_of : List ℕ → List (List ℕ) × Tail → Scalar
scalar_of v t = record { value = utf8 v ++ flat_map utf8 t.0; end = t.1.0; passed_break = t.1.1 }

abbrev scalar_from : List ℕ → Read (List (List ℕ) × Tail) → Read Scalar
scalar_from v r = r >>= λ t. found (scalar_of v t.value) t.end

tail_is : (v : List ℕ) (r : Read (List (List ℕ))) → tail_of v r ≡ scalar_from v (finish trailing r)
tail_is v (Ok links) = refl
tail_is v (Err e) = refl

head_is : (flow : Bool) (least : ℕ) (r : Read (List ℕ)) → (r >>= λ head. tail_of head.value (many (link flow least) head.end)) ≡ (r >>= λ head. scalar_from head.value (finish trailing (many (link flow least) head.end)))
head_is flow least (Ok head) = tail_is head.value (many (link flow least) head.end)
head_is flow least (Err e) = refl

plain_is : (flow : Bool) (least : ℕ) (p : Place) → plain flow least p ≡ (chunk flow p >>= λ head. scalar_from head.value (finish trailing (many (link flow least) head.end)))
unfolding plain
plain_is flow least p = head_is flow least (chunk flow p)

pub plain_like : (flow : Bool) (least : ℕ) → IsLike (plain flow least)
plain_like flow least n p q a =
    rw (plain_is flow least p, plain_is flow least q) (like_bind _ _ a (chunk_like flow n p q a) (λ x z m b.
    like_map (scalar_of x.value) (finish_like (link flow least) trailing (turn flow least) (link_shortens flow least) (turn_is flow least) (turn_like flow least) m x.end z b)))

pub link_clear : (flow : Bool) (least : ℕ) (p : Place) → PartClear p (link flow least p)
link_clear flow least p = part_clear (link flow least) trailing (turn flow least) (turn_is flow least) (turn_like flow least) p

pub link_advances : (flow : Bool) (least : ℕ) (p : Place) → PartAhead 1 p (link flow least p)
link_advances flow least p = advances p (link flow least p) (link_clear flow least p) (link_shortens flow least p)
