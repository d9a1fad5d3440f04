-- Plain scalars and directives, and the marks of their ends, end at places that are not between CR and LF.
use Rattle.std.proofs.Common.{◌≡◌, ℕ, Bool, true, not, ◌==◌, length}
use Rattle.yaml_lexeme.proofs.CountedMarks.ClearReads.{from_holds, Clears, Marks, then_clears, many_clears, like_clears, line_end_clears}
use Rattle.yaml_lexeme.proofs.Parts.HeldReads.{ok_holds, refuse_holds, if_holds, bind_holds}
use Rattle.yaml_lexeme.proofs.CountedMarks.WholePlaces.{Clear, marked_here, clear_run, sure_white, sure_alpha}
use Rattle.yaml_lexeme.proofs.Locality.DirectiveLocality.{named_like}
use Rattle.yaml_lexeme.proofs.Locality.PlainChunkLocality.{chunk_like}
use Rattle.yaml_lexeme.proofs.Locality.PlainLocality.{link_clear}
use Rattle.yaml_lexeme.proofs.Readers.PlainLinks.{chunk_more}
use Rattle.yaml_lexeme.specs.Classes.{ends, is_white}
use Rattle.yaml_lexeme.specs.Directive.{named, directive}
use Rattle.yaml_lexeme.specs.Lexeme.{Scalar, Directive}
use Rattle.yaml_lexeme.specs.Place.{Place, first, peek, skip, run, after_run}
use Rattle.yaml_lexeme.specs.Plain.{is_chunk, chunk, link, plain}
use Rattle.yaml_text.specs.Classes.{is_alpha}

head_clears : (flow : Bool) (p : Place) → is_chunk flow (first p) (peek p 1) ≡ true → Clears (skip 1 p) (chunk flow p)
head_clears flow p h = rw (chunk_more flow p h) (bind_holds (like_clears (chunk flow) (chunk_like flow) (skip 1 p)) (λ x a. ok_holds a))

pub plain_marks : (flow : Bool) (least : ℕ) (p : Place) → is_chunk flow (first p) (peek p 1) ≡ true → Marks (λ (s : Scalar). s.end) (skip 1 p) (plain flow least p)
unfolding plain
plain_marks flow least p h =
    bind_holds (head_clears flow p h) (λ head a.
    bind_holds (then_clears a (many_clears (link flow least) (link_clear flow least) head.end)) (λ links b.
    ok_holds (marked_here b (clear_run is_white links.end sure_white))))

-- directives
pub directive_marks : (p : Place) → Marks (λ (d : Directive). d.end) (skip 1 p) (directive p)
unfolding directive
directive_marks p =
    let letters = run is_alpha (skip 1 p) in
    let end = after_run is_alpha (skip 1 p) in
    let a : Clear (skip 1 p) end = clear_run is_alpha (skip 1 p) sure_alpha in
    if_holds (length letters == 0) (λ e. refuse_holds a) (λ e.
    if_holds (not (ends (first end))) (λ f. refuse_holds a) (λ f.
    bind_holds (then_clears a (like_clears (named letters) (named_like letters) end)) (λ d b.
    bind_holds (from_holds b (line_end_clears d.end) (λ x c. c)) (λ x c. ok_holds (marked_here b c)))))
