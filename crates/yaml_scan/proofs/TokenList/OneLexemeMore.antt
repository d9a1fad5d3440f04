-- The laws of a list with one lexeme more, put together from the files above.
use Rattle.std.proofs.Common.{◌≡◌, ℕ, not, Bool, true, false, List, [], ◌∷◌, ◌++◌, length, filter, slice_get, Option}
use Rattle.std.proofs.Common.{Some, None, refl, ap, sym, ◌∙◌, subst, arith, inl, inr}
use Rattle.std.specs.Prelude.{if◌then◌else◌, option_map, nat_eq}
use Rattle.std.proofs.lemmas.Bool.{cases_Bool, false≢true}
use Rattle.std.proofs.lemmas.List.{take_at, drop_at}
use Rattle.yaml_scan.specs.Course.{ended}
use Rattle.yaml_scan.specs.Laid.{Laid}
use Rattle.yaml_scan.specs.Depth.{depth}
use Rattle.yaml_scan.specs.Keys.{candidate, is_candidate, enters, completed_by}
use Rattle.yaml_scan.specs.Levels.{open_columns, staying_columns, level, greatest_level, keeps}
use Rattle.yaml_scan.specs.Falling.{IsFalling}
use Rattle.yaml_scan.specs.Groups.{Token, group, groups, offline, block_ends}
use Rattle.yaml_scan.specs.Laws.{put_in}
use Rattle.yaml_scan.specs.Settled.{up_to}
use Rattle.yaml_scan.specs.Groups.Token.{OfLexeme}
use Rattle.yaml_scan.specs.Order.{IsHistory}
use Rattle.yaml_scan.specs.Laws.{CandidatesGoOn, CandidatesAreNested, new_column, ColumnsGoOn, ColumnsFall, first_of}
use Rattle.yaml_scan.specs.Laws.{LevelIsFirst, LevelStays, key_tokens, with_key, OfflineGoesOn, CandidateStandsThere}
use Rattle.yaml_scan.specs.Laws.{NeverRevised, FewWait, FewWaitOneStepOn, AllIsHandedOut, LexemesComeInOrder}
use Rattle.yaml_scan.specs.Laws.{EndsNeverOutnumber, AsManyEnds}
use Rattle.yaml_scan.proofs.History.KindTests.{end_no_start, end_no_end}
use Rattle.yaml_scan.proofs.History.DepthOneOn.{depth-same}
use Rattle.yaml_scan.proofs.History.KeyCandidates.{candidate-entered, candidate-other, candidate-saved, candidate-kept}
use Rattle.yaml_scan.proofs.History.KeyCandidates.{candidate-cleared, candidate_split}
use Rattle.yaml_scan.proofs.History.HistoryOrder.{laid_completed, completion_is}
use Rattle.yaml_scan.proofs.TokenList.NeverRevised.{up_to-split}
use Rattle.yaml_scan.proofs.TokenList.SettledStays.{before-before, before-offline_of_more}
use Rattle.yaml_scan.proofs.TokenList.QueueBound.{queued_none, queued_few, queued_fewer}
use Rattle.yaml_scan.proofs.TokenList.GroupInsertion.{offline-more_none, offline-more_some, groups_was, groups_from}
use Rattle.yaml_scan.proofs.TokenList.GroupInsertion.{candidate_not_completed}
use Rattle.yaml_scan.proofs.History.LevelColumns.{open_columns-none, open_columns-some}
use Rattle.yaml_scan.proofs.History.LevelsFall.{open_columns-falls, level_first, level-candidate, falling_filter}
use Rattle.yaml_scan.proofs.TokenList.AllSettled.{waiting-ended, before-ended, candidate_above, candidate_order}
use Rattle.yaml_scan.proofs.TokenList.BlockEnds.{lexeme_tokens, never_more_ends, as_many_ends}

pub candidates_go_on : CandidatesGoOn
candidates_go_on i H k = go (enters k i) (nat_eq i.depth k) (is_candidate i) i.key_allowed refl refl refl refl
  where
    go : (e d c a : Bool) → enters k i ≡ e → nat_eq i.depth k ≡ d → is_candidate i ≡ c → i.key_allowed ≡ a
        → candidate (i ∷ H) k ≡ (if e then None else if not d then candidate H k else if not c then None else if a then Some i else candidate H k)
    go true d c a p q r s = candidate-entered i H k p
    go false false c a p q r s = candidate-other i H k p q
    go false true false a p q r s = candidate-cleared i H k p q r
    go false true true true p q r s = candidate-saved i H k p q r s
    go false true true false p q r s = candidate-kept i H k p q r s

pub candidates_are_nested : CandidatesAreNested
candidates_are_nested limit H h = (λ k l. candidate_above limit H k h (omega arith), λ k n c d s t l m. let r = candidate_order limit H k n c d h s t (omega arith) m in omega arith)

-- by what is completed
completed_same : (limit : ℕ) (i : Laid) (H : List Laid) → IsHistory limit (i ∷ H) → (o : Option Laid) → completed_by limit H i.lexeme.kind i.lexeme.start ≡ o → i.completed ≡ option_map (λ c. c.number) o
completed_same limit i H h o e = ap (λ (j : Laid). j.completed) h.0 ∙ laid_completed limit H i.lexeme ∙ ap (λ (p : Option Laid). option_map (λ c. c.number) p) e

pub columns_go_on : ColumnsGoOn
columns_go_on limit i H h = go (completed_by limit H i.lexeme.kind i.lexeme.start) refl
  where
    go : (o : Option Laid) → completed_by limit H i.lexeme.kind i.lexeme.start ≡ o → open_columns (i ∷ H) ≡ new_column i o ++ staying_columns H i.lexeme.kind i.lexeme.start
    go None e = open_columns-none limit i H h (completed_same limit i H h None e)
    go (Some c) e = open_columns-some limit i H c h (completion_is limit H i.lexeme c e) (completed_same limit i H h (Some c) e)

pub columns_fall : ColumnsFall
columns_fall limit H h = open_columns-falls limit H h

first_is : (cs : List ℕ) → IsFalling cs → greatest_level cs ≡ first_of cs
first_is [] f = refl
first_is (c ∷ cs) f = level_first c cs f

pub level_is_first : LevelIsFirst
unfolding level staying_columns
level_is_first limit H k m h = first_is (filter (keeps (depth H) k m) (open_columns H)) (falling_filter (keeps (depth H) k m) (open_columns H) (columns_fall limit H h))

pub level_stays : LevelStays
level_stays limit i H c h e z = level-candidate limit i H c h (completion_is limit H i.lexeme c e) z

-- THE OFFLINE LIST
put_at : (front ts rest : List Token) (n : ℕ) → length front ≡ n → put_in n ts (front ++ rest) ≡ front ++ (ts ++ rest)
put_at front ts rest n e = rw (take_at front rest n e, drop_at front rest n e) refl

pub offline_goes_on : OfflineGoesOn
offline_goes_on limit i H h = go (completed_by limit H i.lexeme.kind i.lexeme.start) refl
  where
    go : (o : Option Laid) → completed_by limit H i.lexeme.kind i.lexeme.start ≡ o → offline (i ∷ H) ≡ with_key H o ++ group (i ∷ H) i
    go None e = offline-more_none limit i H h (completed_same limit i H h None e)
    go (Some c) e =
        let s = completion_is limit H i.lexeme c e in
        let r = offline-more_some limit i H c h s.candidate (completed_same limit i H h (Some c) e) in
        let n : length r.front ≡ length (up_to H (Some c)) = ap (λ (l : List Token). length l) r.at in
        r.now ∙ ap (λ (l : List Token). l ++ group (i ∷ H) i) (sym (rw r.was (put_at r.front (key_tokens c) (OfLexeme c.lexeme ∷ r.rest) (length (up_to H (Some c))) n)))

get_at : (front : List Token) (x : Token) (rest : List Token) → slice_get (front ++ x ∷ rest) (length front) ≡ Some x
get_at [] x rest = refl
get_at (y ∷ front) x rest = get_at front x rest

pub candidate_stands_there : CandidateStandsThere
unfolding offline
candidate_stands_there limit H k c h s =
    let a = candidate_split H k c s in
    let n = candidate_not_completed limit H k c h s in
    let u = up_to-split limit H a.newer c a.older a.is h in
    let w : groups H H ≡ (groups H a.older ++ block_ends c) ++ (OfLexeme c.lexeme ∷ groups_from H a.newer) = subst (λ (X : List Laid). groups H X ≡ (groups H a.older ++ block_ends c) ++ (OfLexeme c.lexeme ∷ groups_from H a.newer)) (sym a.is) (groups_was H a.newer c a.older a.saved.candidate n) in
    rw (w, u) (get_at (groups H a.older ++ block_ends c) (OfLexeme c.lexeme) (groups_from H a.newer))

pub never_revised : NeverRevised
never_revised limit later H h = (before-before limit later H h, before-offline_of_more limit later H h)

pub few_wait : FewWait
unfolding offline
few_wait limit [] t h l = queued_fewer limit [] t h refl l
few_wait limit (i ∷ H) t h l = elim (cases_Bool (ended (i ∷ H))) [
  | inr e ↦ queued_fewer limit (i ∷ H) t h e l
  | inl e ↦ (let b = ap (λ (x : List Token). length x) (before-ended limit i H h e) in let n = queued_none (i ∷ H) t (i ∷ H) (omega arith) in omega arith)
]

pub few_wait_one_step_on : FewWaitOneStepOn
few_wait_one_step_on limit i H t h l = queued_few limit i H t h l

pub all_is_handed_out : AllIsHandedOut
all_is_handed_out limit [] h e = absurd (false≢true e)
all_is_handed_out limit (i ∷ H) h e = (waiting-ended limit i H h e, before-ended limit i H h e)

-- TOKENS
pub lexemes_come_in_order : LexemesComeInOrder
unfolding offline
lexemes_come_in_order H = lexeme_tokens H H

pub ends_never_outnumber : EndsNeverOutnumber
ends_never_outnumber limit H n h = never_more_ends limit H n h

pub as_many : AsManyEnds
as_many limit [] h e d = absurd (false≢true e)
as_many limit (i ∷ H) h e d = sym (as_many_ends limit i H h e (depth_before d))
  where
    depth_before : depth (i ∷ H) ≡ 0 → depth H ≡ 0
    depth_before d = let q = depth-same i H (end_no_start i.lexeme.kind e) (end_no_end i.lexeme.kind e) in sym q ∙ d
