-- Directives are good.
use Rattle.std.proofs.Common.{◌≡◌, ℕ, pos, ◌+◌, ◌<◌, ◌≤◌, true, false, not, ◌==◌, ◌||◌, nat_lt, if◌then◌else◌, inl, inr, List, ◌++◌, length, codes, refl, sym, ap, ◌∙◌, subst, arith, lt-ltb}
use Rattle.std.proofs.lemmas.Bool.{cases_Bool, cases_lt, eqb-true, not-false}
use Rattle.std.proofs.lemmas.Bool.Decides.{nat_tests}
use Rattle.std.specs.Str.{bytes_eq}
use Rattle.std.specs.Str.Parse.{digits_value}
use Rattle.yaml_lexeme.proofs.Locality.GapLocality.{break_same, comment_step}
use Rattle.yaml_lexeme.proofs.CountedMarks.WholePlaces.{parts, whole_after, run_whole, some_whole, break_whole, sure_alpha, sure_blank, sure_digit, is_not}
use Rattle.yaml_lexeme.proofs.Locality.ComposedReaders.{Like, IsLike, agree_sym, like_found, found_here, refuse_here, found_on, like_case, like_if, like_on, like_bind, like_run, like_map, to, step_run, like_step, Good}
use Rattle.yaml_lexeme.proofs.Locality.LocalReaders.{agree_less, run_same, take_same}
use Rattle.yaml_lexeme.proofs.Locality.UriLocality.{some_like}
use Rattle.yaml_lexeme.proofs.Places.PlaceMoves.{skip_none}
use Rattle.yaml_lexeme.specs.Block.{after_line}
use Rattle.yaml_lexeme.specs.Classes.{ends}
use Rattle.yaml_lexeme.specs.Directive.{number, version_at, handle_at, tag_directive_at, named, directive}
use Rattle.yaml_lexeme.specs.Gap.{after_comment}
use Rattle.yaml_lexeme.proofs.Locality.AgreeingPlaces.{Agree}
use Rattle.yaml_lexeme.specs.Place.{Place, first, skip, run, run_len, after_run, break_len}
use Rattle.yaml_lexeme.specs.Reading.{Read, found, refuse, ◌>>=◌}
use Rattle.yaml_lexeme.specs.Uri.{some_uri}
use Rattle.yaml_lexeme.specs.Lexeme.{Directive}
use Rattle.yaml_lexeme.specs.declared.problem.yaml_problem_t.TheVariants.{NO_NUMBER, LONG_NUMBER, NO_COMMENT_OR_BREAK, OPEN_HANDLE, NO_DIRECTIVE_NAME, DIRECTIVE_NAME_GOES_ON}
use Rattle.yaml_text.specs.Classes.{is_alpha, is_blank, is_break, is_digit, is_z}
use Rattle.yaml_text.specs.Token.TokenData.{VERSION_DIRECTIVE}
use Rattle.yaml_text.specs.declared.types.yaml_mark_t.{yaml_mark_t}

at_none : (p : Place) → (run_len is_digit p == 0) ≡ true → number p ≡ refuse NO_NUMBER p
unfolding number
at_none p h = rw h refl

at_long : (p : Place) → (run_len is_digit p == 0) ≡ false → nat_lt 9 (run_len is_digit p) ≡ true → number p ≡ refuse LONG_NUMBER (skip 9 p)
unfolding number
at_long p h l = rw (h, l) refl

at_some : (p : Place) → (run_len is_digit p == 0) ≡ false → nat_lt 9 (run_len is_digit p) ≡ false → number p ≡ found (digits_value 10 (run is_digit p)) (after_run is_digit p)
unfolding number
at_some p h l = rw (h, l) refl

is_long : (k : ℕ) → nat_lt 9 k ≡ true → 9 < k
is_long k h = grind (arith, nat_tests)

is_short : (k : ℕ) → nat_lt 9 k ≡ false → k ≤ 9
is_short k h = grind (arith, nat_tests)

not_none : (k : ℕ) → 9 < k → (k == 0) ≡ false
not_none k h = grind (arith, nat_tests)

long_same : (n : ℕ) (p q : Place) → 17 ≤ n → Agree n p q → 9 < run_len is_digit p → 9 < run_len is_digit q
long_same n p q h a l =
    elim (cases_lt 9 (run_len is_digit q)) [
      | inl long ↦ long
      | inr short ↦ let e = run_same is_digit q p (agree_less (run_len is_digit q + 1) n q p (omega arith) (agree_sym n p q a)) in absurd (omega arith)
    ]

number_like : IsLike number
number_like n p q a =
    let k = run_len is_digit p in
    elim (cases_Bool (k == 0)) [
      | inl e ↦ let z : k ≡ 0 = eqb-true k 0 e in rw (at_none p e) (record { count = 0; ends = sym (skip_none p); whole = refl; same = λ h. rw (skip_none q) (at_none q (ap (λ (i : ℕ). i == 0) (run_same is_digit p q (agree_less (k + 1) n p q (omega arith) a)) ∙ e)) })
      | inr e ↦
          elim (cases_Bool (nat_lt 9 k)) [
            | inl l ↦ rw (at_long p e l) (record { count = 9; ends = refl; whole = some_whole is_digit refl 9 p.rest (let m = is_long k l in omega arith); same = λ h. let m = long_same n p q (omega arith) a (is_long k l) in at_long q (not_none (run_len is_digit q) m) (lt-ltb 9 (run_len is_digit q) m) })
            | inr l ↦ let s : k ≤ 9 = is_short k l in
                rw (at_some p e l) (record {
                  count = k;
                  ends = refl;
                  whole = run_whole is_digit sure_digit p.rest;
                  same = λ h.
                      let len = run_same is_digit p q (agree_less (k + 1) n p q (omega arith) a) in
                      at_some q (ap (λ (i : ℕ). i == 0) len ∙ e) (ap (λ (i : ℕ). nat_lt 9 i) len ∙ l)
                      ∙ rw len (ap (λ (ds : List ℕ). found (digits_value 10 ds) (skip k q)) (take_same k p q (agree_less k n p q (omega arith) a)));
                })
          ]
    ]

-- after a character that is not another one
whole_not : (c : ℕ) (p : Place) → (c == 0x0D) ≡ false → not (first p == c) ≡ false → parts p.rest 1 ≡ false
whole_not c p n e = whole_after 0 p (is_not (first p) c n (not-false (first p == c) e))

version_like : IsLike version_at
unfolding version_at
version_like n p q a =
    like_bind _ _ a (like_step number number_like n p q (after_run is_blank p) (after_run is_blank q) a (step_run is_blank sure_blank n p q a)) (λ x z m b.
    like_case (not (first x.end == 0x2E)) (not (first z == 0x2E)) (λ h. rw (b.same 0 (omega arith)) refl) (λ e. refuse_here)
    (λ e. like_map (λ (d : ℕ). VERSION_DIRECTIVE (pos x.value) (pos d)) (like_on number number_like m 1 x.end z b (whole_not 0x2E x.end refl e))))

-- a handle, after its name
abbrev handle_then : List ℕ → Place → Read (List ℕ)
handle_then letters end = if first end == 0x21 then found (codes "!" ++ letters ++ codes "!") (skip 1 end) else if nat_lt 0 (length letters) then refuse OPEN_HANDLE end else found (codes "!") end

handle_then_like : (letters : List ℕ) → IsLike (handle_then letters)
handle_then_like letters n p q a =
    like_case (first p == 0x21) (first q == 0x21) (λ h. rw (a.same 0 (omega arith)) refl) (λ e. found_on 1 (whole_after 0 p (is_not (first p) 0x21 refl e)))
    (λ e. like_if (nat_lt 0 (length letters)) (nat_lt 0 (length letters)) (λ h. refl) refuse_here found_here)

abbrev handle_after : Place → Read (List ℕ)
handle_after p = handle_then (run is_alpha p) (after_run is_alpha p)

handle_after_like : IsLike handle_after
handle_after_like n p q a = like_run handle_then handle_then_like is_alpha sure_alpha n p q a

handle_like : IsLike handle_at
unfolding handle_at
handle_like n p q a =
    like_case (not (first p == 0x21)) (not (first q == 0x21)) (λ h. rw (a.same 0 (omega arith)) refl) (λ e. refuse_here) (λ e. like_on handle_after handle_after_like n 1 p q a (whole_not 0x21 p refl e))

tag_handle_like : IsLike tag_directive_at
unfolding tag_directive_at
tag_handle_like n p q a =
    like_bind _ _ a (like_step handle_at handle_like n p q (after_run is_blank p) (after_run is_blank q) a (step_run is_blank sure_blank n p q a)) (λ x z m b.
    like_if (not (is_blank (first x.end))) (not (is_blank (first z))) (λ h. rw (b.same 0 (omega arith)) refl) refuse_here
    (like_bind _ _ b (like_step (some_uri true) (some_like true) m x.end z (after_run is_blank x.end) (after_run is_blank z) b (step_run is_blank sure_blank m x.end z b)) (λ y w i c.
    like_if (not (ends (first y.end))) (not (ends (first w))) (λ h. rw (c.same 0 (omega arith)) refl) refuse_here found_here)))

pub named_like : (letters : List ℕ) → IsLike (named letters)
unfolding named
named_like letters n p q a =
    like_if (bytes_eq letters (codes "YAML")) (bytes_eq letters (codes "YAML")) (λ h. refl) (version_like n p q a)
    (like_if (bytes_eq letters (codes "TAG")) (bytes_eq letters (codes "TAG")) (λ h. refl) (tag_handle_like n p q a) refuse_here)

-- the rest of a line, after a comment
abbrev pub line_then : {A : Type 0} → A → Place → Read A
line_then v q = if is_break (first q) || is_z (first q) then found v (skip (break_len q) q) else refuse NO_COMMENT_OR_BREAK q

line_then_like : {A : Type 0} (v : A) → IsLike (line_then v)
line_then_like v n p q a =
    like_if (is_break (first p) || is_z (first p)) (is_break (first q) || is_z (first q)) (λ h. rw (a.same 0 (omega arith)) refl)
    (like_found (break_len p) refl (break_whole p) (λ h. ap (λ (i : ℕ). skip i q) (break_same n p q a (omega arith))) (λ h. refl)) refuse_here

pub line_is : {A : Type 0} (v : A) (p : Place) → (after_line p >>= λ next. found v next) ≡ line_then v (after_comment (after_run is_blank p))
unfolding after_line
line_is v p = let q = after_comment (after_run is_blank p) in elim (cases_Bool (is_break (first q) || is_z (first q))) [ inl e ↦ rw e refl | inr e ↦ rw e refl ]

pub line_like : {A : Type 0} (v : A) (n : ℕ) (p q : Place) → Agree n p q → Like n p q (after_line p >>= λ next. found v next) (after_line q >>= λ next. found v next)
line_like v n p q a =
    let s = like_step (to after_comment) comment_step n p q (after_run is_blank p) (after_run is_blank q) a (step_run is_blank sure_blank n p q a) in
    rw (line_is v p, line_is v q) (like_step (line_then v) (line_then_like v) n p q (after_comment (after_run is_blank p)) (after_comment (after_run is_blank q)) a s)

abbrev directive_then : List ℕ → Place → Read Directive
directive_then letters end =
    if length letters == 0 then refuse NO_DIRECTIVE_NAME end
    else if not (ends (first end)) then refuse DIRECTIVE_NAME_GOES_ON end
    else named letters end >>= λ d. after_line d.end >>= λ next. found (record { says = d.value; end = d.end.mark }) next

then_like : (letters : List ℕ) → IsLike (directive_then letters)
then_like letters n p q a =
    like_if (length letters == 0) (length letters == 0) (λ h. refl) refuse_here
    (like_if (not (ends (first p))) (not (ends (first q))) (λ h. rw (a.same 0 (omega arith)) refl) refuse_here
    (like_bind _ _ a (named_like letters n p q a) (λ x z m b.
    subst (λ (mark : yaml_mark_t). Like {A = Directive} m x.end z (after_line x.end >>= λ next. found (record { says = x.value; end = x.end.mark }) next) (after_line z >>= λ next. found (record { says = x.value; end = mark }) next)) b.mark
    (line_like (record { says = x.value; end = x.end.mark }) m x.end z b))))

abbrev directive_after : Place → Read Directive
directive_after p = directive_then (run is_alpha p) (after_run is_alpha p)

pub directive_good : Good directive
unfolding directive
directive_good = record { next = directive_after; is = λ p. refl; like = λ n p q a. like_run directive_then then_like is_alpha sure_alpha n p q a }
