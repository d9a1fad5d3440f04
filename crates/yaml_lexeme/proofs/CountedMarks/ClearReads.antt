-- The places where reading ends or is refused are clear.
use Rattle.std.proofs.Common.{ℕ, zero, suc, ◌+◌, List, length, Some, None, Result, Ok, Err}
use Rattle.yaml_lexeme.proofs.CountedMarks.WholePlaces.{Clear, Marked, clear_here, clear_trans}
use Rattle.yaml_lexeme.proofs.Parts.HeldReads.{Holds, ok_holds, bind_holds, so_holds}
use Rattle.yaml_lexeme.proofs.Locality.ComposedReaders.{IsLike, like_clear, Good, good_clear}
use Rattle.yaml_lexeme.proofs.Locality.DirectiveLocality.{line_like}
use Rattle.yaml_lexeme.proofs.Locality.LookaheadLists.{PartClear}
use Rattle.yaml_lexeme.specs.Block.{after_line}
use Rattle.yaml_lexeme.specs.Locality.{reach}
use Rattle.yaml_lexeme.specs.Place.{Place, skip}
use Rattle.yaml_lexeme.specs.Reading.{Offence, Read, found, ◌>>=◌, Part, go_on, at_most, many}
use Rattle.yaml_text.specs.declared.types.yaml_mark_t.{yaml_mark_t}

-- what is read further on
pub from_holds : {B : Type 0} {Q R : B → Type 0} {p q : Place} {r : Result B Offence} → Clear p q → Holds Q (Clear q) r → ((x : B) → Q x → R x) → Holds R (Clear p) r
from_holds a h g = so_holds h g (λ x b. clear_trans a b)

-- reading ends at a clear place
abbrev pub Clears : {A : Type 0} → Place → Read A → Type 0
Clears p r = Holds (λ f. Clear p f.end) (Clear p) r

abbrev pub ClearsTo : Place → Result Place Offence → Type 0
ClearsTo p r = Holds (Clear p) (Clear p) r

-- so are the place of a mark in what was read, and its end
abbrev pub Marks : {A : Type 0} → (A → yaml_mark_t) → Place → Read A → Type 0
Marks mark p r = Holds (λ f. Marked p (mark f.value) f.end) (Clear p) r

pub then_clears : {A : Type 0} {p q : Place} {r : Read A} → Clear p q → Clears q r → Clears p r
then_clears {A} {p} {q} {r} a h = from_holds a h (λ x b. clear_trans a b)

pub then_to : {p q : Place} {r : Result Place Offence} → Clear p q → ClearsTo q r → ClearsTo p r
then_to {p} {q} {r} a h = from_holds a h (λ x b. clear_trans a b)

turn_clears : {A : Type 0} (more : Place → Read (List A)) (p : Place) (r : Part A) → PartClear p r → ((x : Place) → Clears x (more x)) → Clears p (r >>= λ a. go_on more p a)
turn_clears more p (Ok None) h all = ok_holds (clear_here p)
turn_clears more p (Ok (Some f)) h all = bind_holds (then_clears h (all f.end)) (λ r b. ok_holds b)
turn_clears more p (Err e) h all = record { held = h }

most_clears : {A : Type 0} (one : Place → Part A) → ((p : Place) → PartClear p (one p)) → (n : ℕ) (p : Place) → Clears p (at_most one n p)
unfolding at_most
most_clears one all zero p = ok_holds (clear_here p)
most_clears one all (suc n) p = turn_clears (at_most one n) p (one p) (all p) (most_clears one all n)

pub many_clears : {A : Type 0} → (one : Place → Part A) → ((p : Place) → PartClear p (one p)) → (p : Place) → Clears p (many one p)
many_clears one all p = most_clears one all (length p.rest + 1) p

clears_of : {A : Type 0} (p : Place) (r : Read A) → Clear p (reach r) → Clears p r
clears_of p (Ok f) h = ok_holds h
clears_of p (Err e) h = record { held = h }

-- from what is good
pub like_clears : {A : Type 0} (read : Place → Read A) → IsLike read → (p : Place) → Clears p (read p)
like_clears read all p = clears_of p (read p) (like_clear read all p)

pub good_clears : {A : Type 0} (read : Place → Read A) → Good read → (p : Place) → Clears (skip 1 p) (read p)
good_clears read g p = clears_of (skip 1 p) (read p) (good_clear read g p)

to_clears : (p : Place) (r : Result Place Offence) → Clear p (reach (r >>= λ x. found {A = Unit {0}} tt x)) → ClearsTo p r
to_clears p (Ok x) h = ok_holds h
to_clears p (Err e) h = record { held = h }

pub line_end_clears : (p : Place) → ClearsTo p (after_line p)
line_end_clears p = to_clears p (after_line p) (like_clear (λ x. after_line x >>= λ y. found {A = Unit {0}} tt y) (line_like tt) p)
