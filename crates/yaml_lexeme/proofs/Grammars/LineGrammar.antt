-- The rest of a line is blanks, a comment, and a break or the end.
use Rattle.std.proofs.Common.{◌≡◌, ℕ, Bool, true, false, ◌==◌, inl, inr, if◌then◌else◌, List, [], ◌++◌, Ok, Err, refl, sym, ap, ◌∙◌, subst, eqb-true}
use Rattle.std.proofs.lemmas.Bool.{not-false, true≢false}
use Rattle.yaml_text.specs.Classes.{is_blank}
use Rattle.yaml_text.specs.ClassCalls.{is_breakz}
use Rattle.yaml_lexeme.specs.declared.problem.yaml_problem_t.TheVariants.{NO_COMMENT_OR_BREAK}
use Rattle.yaml_lexeme.specs.Block.{after_line}
use Rattle.yaml_lexeme.specs.Classes.{is_in_line}
use Rattle.yaml_lexeme.specs.Gap.{after_comment}
use Rattle.yaml_lexeme.specs.Grammar.{LongestRun}
use Rattle.yaml_lexeme.specs.HeaderGrammar.{CommentText, LineEnd, LineEndRefused, LineEndIsParts, LineEndIsRefused}
use Rattle.yaml_lexeme.specs.Place.{Place, first, skip, after_run, break_len}
use Rattle.yaml_lexeme.specs.Reading.{Offence, Found, refuse}
use Rattle.yaml_lexeme.proofs.Grammars.RunTexts.{of_run, run_of, run_at, joined_on}
use Rattle.yaml_lexeme.proofs.Grammars.ReadingSteps.{passed, failed, taken, left, offence_is}
use Rattle.yaml_lexeme.proofs.Grammars.VersionGrammar.{blanks_at, blanks_are, after_blanks}
use Rattle.yaml_lexeme.proofs.Readers.FoldSeparators.{stopped}

-- a comment at p, or nothing
abbrev comment_if : Bool → Place → Found (List ℕ)
comment_if true p = run_at is_in_line p
comment_if false p = record { value = []; end = p }

comment_of : (b : Bool) (p : Place) → (first p == 0x23) ≡ b → CommentText p (comment_if b p) × (after_comment p ≡ (comment_if b p).end)
comment_of true p h = (inl (eqb-true (first p) 0x23 h, of_run is_in_line p refl), taken (first p == 0x23) (after_run is_in_line p) p h)
comment_of false p h = (inr (h, refl, refl), left (first p == 0x23) (after_run is_in_line p) p h)

after_is : (p : Place) (f : Found (List ℕ)) → CommentText p f → after_comment p ≡ f.end
after_is p f (inl c) =
    let test : (first p == 0x23) ≡ true = (let e = c.0 in rw e refl) in
    taken (first p == 0x23) (after_run is_in_line p) p test ∙ sym (run_of is_in_line p f.value f.end c.1).1
after_is p f (inr c) = left (first p == 0x23) (after_run is_in_line p) p c.0 ∙ sym c.2

comment_joined : (p : Place) (f : Found (List ℕ)) → CommentText p f → p.rest ≡ f.value ++ f.end.rest
comment_joined p f (inl c) = c.1.joined
comment_joined p f (inr c) =
    let v = c.1 in
    let e = c.2 in
    rw (v, e) refl

abbrev line_at : Place → Place
line_at p = after_comment (after_run is_blank p)

line_is : (p : Place) → after_line p ≡ (if is_breakz (first (line_at p)) then Ok (skip (break_len (line_at p)) (line_at p)) else refuse NO_COMMENT_OR_BREAK (line_at p))
unfolding after_line
line_is p = refl

line_from : (p q : Place) → after_line p ≡ Ok q → LineEnd p q
line_from p q h =
    let x = line_at p in
    let t = passed (is_breakz (first x)) (skip (break_len x) x) q _ (sym (line_is p) ∙ h) in
    let g = blanks_at p in
    let b = first g.end == 0x23 in
    let f = comment_if b g.end in
    let c = comment_of b g.end refl in
    record {
      blanks = g;
      comment = f;
      spaces = blanks_are p;
      comment_is = c.0;
      text = joined_on p.rest g.end.rest f.end.rest g.value f.value (blanks_are p).joined (comment_joined g.end f c.0);
      stops = subst (λ (y : Place). is_breakz (first y) ≡ true) c.1 t.0;
      end = t.1 ∙ ap (λ (y : Place). skip (break_len y) y) c.1;
    }

line_there : (p : Place) (g f : Found (List ℕ)) → LongestRun is_blank p g.value g.end → CommentText g.end f → line_at p ≡ f.end
line_there p g f l c = ap after_comment (after_blanks p g l) ∙ after_is g.end f c

line_to : (p q : Place) → LineEnd p q → after_line p ≡ Ok q
line_to p q l =
    let x = line_at p in
    let e = line_there p l.blanks l.comment l.spaces l.comment_is in
    let test : is_breakz (first x) ≡ true = subst (λ (y : Place). is_breakz (first y) ≡ true) (sym e) l.stops in
    line_is p ∙ taken (is_breakz (first x)) _ _ test ∙ ap (λ (y : Place). Ok y) (ap (λ (y : Place). skip (break_len y) y) e ∙ sym l.end)

pub line_parts : LineEndIsParts
line_parts p q = (line_from p q, line_to p q)

refused_at : (p : Place) (e : Offence) (b : Bool) → (first (after_run is_blank p) == 0x23) ≡ b → is_breakz (first (line_at p)) ≡ false → e ≡ record { problem = NO_COMMENT_OR_BREAK; at = line_at p } → LineEndRefused p e
refused_at p e true hash open_line is =
    let q = after_run is_blank p in
    let there : line_at p ≡ after_run is_in_line q = taken (first q == 0x23) (after_run is_in_line q) q hash in
    let over : is_breakz (first (after_run is_in_line q)) ≡ true = not-false (is_breakz (first (after_run is_in_line q))) (stopped is_in_line q refl) in
    absurd (true≢false (sym over ∙ subst (λ (y : Place). is_breakz (first y) ≡ false) there open_line))
refused_at p e false none open_line is =
    let q = after_run is_blank p in
    let there : line_at p ≡ q = left (first q == 0x23) (after_run is_in_line q) q none in
    let at : e.at ≡ q = ap (λ (o : Offence). o.at) is ∙ there in
    record {
      blanks = (blanks_at p).value;
      spaces = subst (λ (y : Place). LongestRun is_blank p (blanks_at p).value y) (sym at) (blanks_are p);
      no_comment = subst (λ (y : Place). (first y == 0x23) ≡ false) (sym at) none;
      no_end = subst (λ (y : Place). is_breakz (first y) ≡ false) (there ∙ sym at) open_line;
      problem = ap (λ (o : Offence). o.problem) is;
    }

refused_from : (p : Place) (e : Offence) → after_line p ≡ Err e → LineEndRefused p e
refused_from p e h =
    let x = line_at p in
    let t = failed (is_breakz (first x)) (skip (break_len x) x) _ e (sym (line_is p) ∙ h) in
    refused_at p e (first (after_run is_blank p) == 0x23) refl t.0 t.1

refused_to : (p : Place) (e : Offence) → LineEndRefused p e → after_line p ≡ Err e
refused_to p e r =
    let g : Found (List ℕ) = record { value = r.blanks; end = e.at } in
    let f : Found (List ℕ) = record { value = []; end = e.at } in
    let there : line_at p ≡ e.at = line_there p g f r.spaces (inr (r.no_comment, refl, refl)) in
    let test : is_breakz (first (line_at p)) ≡ false = subst (λ (y : Place). is_breakz (first y) ≡ false) (sym there) r.no_end in
    line_is p ∙ left (is_breakz (first (line_at p))) _ _ test ∙ offence_is e NO_COMMENT_OR_BREAK (line_at p) r.problem (sym there)

pub line_refused : LineEndIsRefused
line_refused p e = (refused_from p e, refused_to p e)
