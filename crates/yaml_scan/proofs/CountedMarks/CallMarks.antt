-- So are the marks in the answers to the calls of a parser.
use Rattle.std.proofs.Common.{ℕ, ◌+◌, List, [], ◌∷◌, ◌++◌, map, take, drop, Option, sym, subst, inl, inr}
use Rattle.std.specs.Prelude.{IfSome}
use Rattle.yaml_text.specs.Fault.{Fault, memory_fault}
use Rattle.yaml_text.specs.declared.types.yaml_encoding_t.{yaml_encoding_t}
use Rattle.yaml_scan.specs.Decoded.{decoded_input}
use Rattle.yaml_scan.specs.ParserCalls.{course_read}
use Rattle.yaml_scan.specs.Token.{yaml_token_t}
use Rattle.yaml_scan.specs.All.{ReadsAll}
use Rattle.yaml_scan.specs.Session.{Call, Answer}
use Rattle.yaml_scan.specs.Sessions.{session}
use Rattle.yaml_scan.specs.Session.Call.{SCAN, PEEK, SKIP}
use Rattle.yaml_scan.specs.Session.{Answer as says}
use Rattle.yaml_scan.specs.Parser.{Parser, course_by}
use Rattle.yaml_scan.specs.Headline.{Calls, Runs}
use Rattle.yaml_scan.specs.Puts.{answered_all, OfSession, idle}
use Rattle.yaml_scan.specs.Seen.{Seen, seen}
use Rattle.yaml_scan.specs.Seen.Seen.{FAULT}
use Rattle.yaml_scan.specs.CountedMarks.{TokensAreCounted, FaultIsCounted, AnswerIsCounted, AllAreCounted}
use Rattle.yaml_scan.specs.CountedMarks.{text_of_input}
use Rattle.yaml_scan.specs.CallMarks.{text_read, IsCountedIn, ReachesTo, SeenIsCounted, SeenAreCounted, AllIsCounted}
use Rattle.yaml_scan.specs.Sessions.{session_reach}
use Rattle.yaml_scan.proofs.CountedMarks.ReadMarks.{start_counted}
use Rattle.yaml_scan.proofs.CountedMarks.TokenMarks.{answers_are_counted, sessions_are_counted, reach_is_counted}
use Rattle.yaml_scan.proofs.SessionCalls.CallByCall.{of_session}

-- A CALL
pub call_is_counted : (call : Call) (p : Parser) (a : Answer) (q : Parser) → Calls decoded_input call p a q → IsCountedIn p a
unfolding session course_by
call_is_counted call p a q (inl k) = subst (λ (x : Answer). IsCountedIn p x) (sym k.0) ((sessions_are_counted p.limit p.setting p.input (call ∷ []) p.session).0)
call_is_counted call p a q (inr k) = subst (λ (x : Answer). IsCountedIn p x) (sym k.0) (inl (start_counted (text_read p)), start_counted (text_read p))

pub reach_reaches : (p : Parser) → ReachesTo p (session_reach (course_read p) p.session)
unfolding course_by
reach_reaches p = reach_is_counted p.limit p.setting p.input p.session

-- A LIST OF CALLS
seen_counted : (text : List ℕ) (a : Answer) → AnswerIsCounted text a → SeenIsCounted text (seen a)
seen_counted text (says.TOKEN x) t = t
seen_counted text (says.PEEKED x) t = t
seen_counted text says.SKIPPED t = tt
seen_counted text says.NOTHING t = tt
seen_counted text (says.FAULT f) t = t

all_seen_counted : (text : List ℕ) (answers : List Answer) → AllAreCounted text answers → SeenAreCounted text (map seen answers)
all_seen_counted text [] t = tt
all_seen_counted text (a ∷ more) t = (seen_counted text a t.0, all_seen_counted text more t.1)

idle_counted : (text : List ℕ) (call : Call) → SeenIsCounted text (idle call)
idle_counted text SCAN = (start_counted text, start_counted text)
idle_counted text PEEK = (start_counted text, start_counted text)
idle_counted text SKIP = tt

all_idle_counted : (text : List ℕ) (calls : List Call) → SeenAreCounted text (map idle calls)
all_idle_counted text [] = tt
all_idle_counted text (call ∷ calls) = (idle_counted text call, all_idle_counted text calls)

joined_counted : (text : List ℕ) (a b : List Seen) → SeenAreCounted text a → SeenAreCounted text b → SeenAreCounted text (a ++ b)
joined_counted text [] b f g = g
joined_counted text (x ∷ a) b f g = (f.0, joined_counted text a b f.1 g)

answered_counted : (p : Parser) (calls : List Call) → SeenAreCounted (text_read p) (map seen (answered_all p calls))
unfolding course_by
answered_counted p calls = all_seen_counted (text_read p) (answered_all p calls) (sessions_are_counted p.limit p.setting p.input calls p.session)

pub runs_are_counted : (p : Parser) (calls : List Call) (answers : List Seen) (q : Parser) → Runs decoded_input p calls answers q → SeenAreCounted (text_read p) answers
runs_are_counted p calls answers q w = go (of_session p calls answers q w)
  where
    go : OfSession p calls answers q → SeenAreCounted (text_read p) answers
    go (inl r) = subst (λ (z : List Seen). SeenAreCounted (text_read p) z) (sym r.0) (answered_counted p calls)
    go (inr r) = subst (λ (z : List Seen). SeenAreCounted (text_read p) z) (sym r.stops.answers_are)
        (joined_counted (text_read p) (map seen (answered_all p (take r.stops.n calls))) (FAULT memory_fault ∷ map idle (drop (r.stops.n + 1) calls)) (answered_counted p (take r.stops.n calls))
        ((inl (start_counted (text_read p)), start_counted (text_read p)), all_idle_counted (text_read p) (drop (r.stops.n + 1) calls)))

-- ALL TOKENS
counted_front : (text : List ℕ) (a b : List yaml_token_t) → TokensAreCounted text (a ++ b) → TokensAreCounted text a
counted_front text [] b t = tt
counted_front text (x ∷ a) b t = (t.0, counted_front text a b t.1)

pub reads_are_counted : (limit : ℕ) (setting : yaml_encoding_t) (input : List ℕ) (tokens : List yaml_token_t) (fault : Option Fault) → ReadsAll limit setting input tokens fault → AllIsCounted setting input tokens fault
reads_are_counted limit setting input tokens fault (inl r) = let t = answers_are_counted limit setting input in let text = text_of_input setting input in
    (subst (λ (z : List yaml_token_t). TokensAreCounted text z) (sym r.0) t.0, subst (λ (z : Option Fault). IfSome z (FaultIsCounted text)) (sym r.1) t.1)
reads_are_counted limit setting input tokens fault (inr r) = let t = answers_are_counted limit setting input in let text = text_of_input setting input in (
  counted_front text tokens r.0.beginning.rest (subst (λ (z : List yaml_token_t). TokensAreCounted text z) r.0.beginning.is t.0),
  subst (λ (z : Option Fault). IfSome z (FaultIsCounted text)) (sym r.1) (inl (start_counted text), start_counted text),
)
