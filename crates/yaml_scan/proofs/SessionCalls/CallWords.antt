-- So can the answers to a list of calls.
use Rattle.yaml_text.specs.Fault.{Fault, memory_fault}
use Rattle.std.proofs.Common.{◌≡◌, ◌+◌, List, [], ◌∷◌, ◌++◌, map, take, drop, sym, subst, inl, inr}
use Rattle.yaml_scan.specs.Decoded.{decoded_input}
use Rattle.yaml_scan.specs.Session.{Call, Answer}
use Rattle.yaml_scan.specs.Sessions.{session}
use Rattle.yaml_scan.specs.Session.Call.{SCAN, PEEK, SKIP}
use Rattle.yaml_scan.specs.Session.{Answer as says}
use Rattle.yaml_scan.specs.Parser.{Parser, course_by}
use Rattle.yaml_scan.specs.Headline.{Calls, Runs}
use Rattle.yaml_scan.specs.Puts.{answered_all, OfSession, idle}
use Rattle.yaml_scan.specs.Token.{yaml_token_t}
use Rattle.yaml_scan.specs.Words.{HasWords, AnswerHasLine, AnswersHaveLines}
use Rattle.yaml_scan.specs.Seen.{Seen, seen}
use Rattle.yaml_scan.specs.Seen.Seen.{FAULT}
use Rattle.yaml_scan.specs.CallWords.{SeenHasLine, SeenHaveLines}
use Rattle.yaml_scan.proofs.SessionCalls.AnswerWords.{sessions_have_lines}
use Rattle.yaml_scan.proofs.SessionCalls.CallByCall.{of_session}

seen_told : (a : Answer) → AnswerHasLine a → SeenHasLine (seen a)
seen_told (says.TOKEN x) t = t
seen_told (says.PEEKED x) t = tt
seen_told says.SKIPPED t = tt
seen_told says.NOTHING t = tt
seen_told (says.FAULT f) t = t

all_seen_told : (answers : List Answer) → AnswersHaveLines answers → SeenHaveLines (map seen answers)
all_seen_told [] t = tt
all_seen_told (a ∷ more) t = (seen_told a t.0, all_seen_told more t.1)

idle_told : (call : Call) → SeenHasLine (idle call)
idle_told SCAN = tt
idle_told PEEK = tt
idle_told SKIP = tt

all_idle_told : (calls : List Call) → SeenHaveLines (map idle calls)
all_idle_told [] = tt
all_idle_told (call ∷ calls) = (idle_told call, all_idle_told calls)

joined_told : (a b : List Seen) → SeenHaveLines a → SeenHaveLines b → SeenHaveLines (a ++ b)
joined_told [] b f g = g
joined_told (x ∷ a) b f g = (f.0, joined_told a b f.1 g)

answered_told : (p : Parser) (calls : List Call) → SeenHaveLines (map seen (answered_all p calls))
unfolding course_by
answered_told p calls = all_seen_told (answered_all p calls) (sessions_have_lines p.limit p.setting p.input calls p.session)

-- the answers to any calls of a parser
pub run_has_lines : (p : Parser) (calls : List Call) (answers : List Seen) (q : Parser) → Runs decoded_input p calls answers q → SeenHaveLines answers
run_has_lines p calls answers q w = go (of_session p calls answers q w)
  where
    go : OfSession p calls answers q → SeenHaveLines answers
    go (inl r) = subst (λ (z : List Seen). SeenHaveLines z) (sym r.0) (answered_told p calls)
    go (inr r) = subst (λ (z : List Seen). SeenHaveLines z) (sym r.stops.answers_are)
        (joined_told (map seen (answered_all p (take r.stops.n calls))) (FAULT memory_fault ∷ map idle (drop (r.stops.n + 1) calls)) (answered_told p (take r.stops.n calls)) (tt, all_idle_told (drop (r.stops.n + 1) calls)))

-- a token that a scan returns
no_fault : (t : yaml_token_t) (f : Fault) → says.TOKEN t ≡ says.FAULT f → ⊥
no_fault t f e = cc

pub scan_has_words : (p : Parser) (t : yaml_token_t) (q : Parser) → Calls decoded_input SCAN p (says.TOKEN t) q → HasWords t.token_data
unfolding session course_by
scan_has_words p t q (inl k) = subst (λ (a : Answer). AnswerHasLine a) (sym k.0) ((sessions_have_lines p.limit p.setting p.input (SCAN ∷ []) p.session).0)
scan_has_words p t q (inr k) = absurd (no_fault t memory_fault k.0)
