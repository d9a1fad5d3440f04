-- What the whole scanner holds after one lexeme more.
use Rattle.std.proofs.Common.{◌≡◌, ℕ, zero, suc, ◌+◌, ◌-◌, ◌≤◌, not, ◌&&◌, Bool, true, false, List, [], ◌∷◌, ◌++◌, map, filter, drop, take, slice_get, length, length-append, Option, Some, None, refl, ap, sym, ◌∙◌, subst, arith, inl, inr, eqb, append_assoc, append-nil, ne_eqb, lt-ltb, eq-eqb}
use Rattle.std.specs.Prelude.{if◌then◌else◌, option_map, nat_eq, nat_lt}
use Rattle.std.proofs.lemmas.Bool.{cases_Bool, cases_eq}
use Rattle.std.proofs.lemmas.List.{take_at, map-append, drop-append-le}
use Rattle.yaml_scan.specs.Kind.{Kind, is_block_entry, is_candidate_kind, is_flow_start, is_flow_end}
use Rattle.yaml_text.specs.declared.types.yaml_mark_t.{yaml_mark_t}
use Rattle.yaml_scan.specs.inside.Slots.{Held, held, held_of, still_held, outer_to, slot_after, nested_outer}
use Rattle.yaml_scan.specs.inside.Slots.{nested_top, or_top, is_level}
use Rattle.yaml_scan.specs.Token.{yaml_token_t}
use Rattle.yaml_scan.specs.Groups.{Token, end_at, start_token, block_ends, group, inserted, offline}
use Rattle.yaml_scan.specs.Settled.{before, up_to}
use Rattle.yaml_scan.specs.Groups.Token.{BlockEnd, BlockSequenceStart, BlockMappingStart, InsertedKey, OfLexeme}
use Rattle.yaml_scan.specs.Laid.{Laid, reach, is_none, column, Lexeme}
use Rattle.yaml_scan.specs.Depth.{depth}
use Rattle.yaml_scan.specs.Keys.{live, completed_by, is_candidate, enters}
use Rattle.yaml_scan.specs.Allowed.{allowed, allowed_after, allows}
use Rattle.yaml_scan.specs.Levels.{laid, is_required, stays, open_columns, staying_columns, level, greatest_level}
use Rattle.yaml_scan.specs.Levels.{is_above, opens_level}
use Rattle.yaml_scan.specs.Order.{IsHistory}
use Rattle.yaml_text.specs.declared.types.yaml_encoding_t.{yaml_encoding_t}
use Rattle.yaml_scan.specs.declared.groups.block_t.{block_t}
use Rattle.yaml_scan.specs.declared.groups.block_t.TheVariants.{NONE, SEQUENCE, MAPPING}
use Rattle.yaml_scan.specs.declared.groups.group_t.{group_t}
use Rattle.yaml_text.specs.Token.{token_of}
use Rattle.yaml_scan.specs.inside.Opened.{is_new, opened}
use Rattle.yaml_scan.specs.Laws.{key_tokens}
use Rattle.yaml_scan.specs.inside.Queue.{IsQueue, Fitting, ends_at, starts_at, start_of, leads, keyed_at, completed_in}
use Rattle.yaml_scan.specs.inside.Queue.{opened_by}
use Rattle.yaml_scan.proofs.RunningQueue.QueueGroups.{put_after}
use Rattle.yaml_scan.proofs.RunningQueue.CandidateGroup.{Stands, stands, count, taken_count, key_put, key_at}
use Rattle.yaml_scan.proofs.History.HistoryOrder.{to_start, laid_completed, completion_is, IsCompletion, live_earlier}
use Rattle.yaml_scan.proofs.History.KindTests.{flow_kinds}
use Rattle.yaml_scan.proofs.History.KeyCandidates.{candidate_split}
use Rattle.yaml_scan.proofs.RunningStep.SlotsOneOn.{held-entered, held-cleared, held-other, held-kept, held-saved}
use Rattle.yaml_scan.proofs.TokenList.NeverRevised.{start_in, number_in}
use Rattle.yaml_scan.proofs.TokenList.QueueBound.{length-begins}
use Rattle.yaml_scan.proofs.TokenList.SettledStays.{before-before, before-offline}
use Rattle.yaml_scan.proofs.History.LevelColumns.{opens_itself, open_columns-none, open_columns-some, opens_self, completed_self, completes_not_opener}
use Rattle.yaml_scan.proofs.TokenList.GroupInsertion.{IsInsertion, offline-more_some, and_false}
use Rattle.yaml_scan.proofs.History.LevelsFall.{staying_columns-whole, level-candidate'}
use Rattle.yaml_scan.proofs.RunningQueue.QueueTokens.{queue-more_none, not_settled}
use Rattle.yaml_scan.proofs.History.DepthOneOn.{depth-start, depth-end, depth-same}
use Rattle.yaml_scan.proofs.RunningStep.SlotTests.{outer_length, zero_test}

and_assoc : (a b c : Bool) → (a && (b && c)) ≡ ((a && b) && c)
and_assoc true b c = refl
and_assoc false b c = refl

filter_nothing : (k : Kind) (m : yaml_mark_t) (cs : List ℕ) → filter (λ c. not (stays true k m c)) cs ≡ []
filter_nothing k m [] = refl
filter_nothing k m (c ∷ cs) = filter_nothing k m cs

none_number : (o : Option Laid) → is_none (option_map (λ (i : Laid). i.number) o) ≡ is_none o
none_number None = refl
none_number (Some c) = refl

module _ (limit : ℕ) (H : List Laid) (x : Lexeme) (h : IsHistory limit (laid limit H x ∷ H)) where
  lexeme_is : (laid limit H x).lexeme ≡ x
  unfolding laid
  lexeme_is = refl

  pub depth_is : (laid limit H x).depth ≡ depth H
  unfolding laid
  depth_is = refl

  pub kept_levels : filter (stays (nat_lt 0 (depth H)) x.kind x.start) (open_columns H) ≡ staying_columns H x.kind x.start
  unfolding staying_columns
  kept_levels = refl

  pub ends_are : map (λ c. BlockEnd (end_at x.kind x.gap_end x.start c)) (filter (λ c. not (stays (nat_lt 0 (depth H)) x.kind x.start c)) (open_columns H)) ≡ block_ends (laid limit H x)
  unfolding laid block_ends
  ends_are = refl

  completed_none : completed_by limit H x.kind x.start ≡ None → (laid limit H x).completed ≡ None
  completed_none e = laid_completed limit H x ∙ ap (option_map (λ (c : Laid). c.number)) e

  itself_is : (laid limit H x).completed ≡ None → opens_itself (laid limit H x) ≡ (is_new (nat_lt 0 (depth H)) x.start.column (staying_columns H x.kind x.start) && opens_level x.kind true)
  unfolding laid level
  itself_is e = ap (λ (o : Option ℕ). nat_eq (depth H) 0 && (is_above x.start.column (greatest_level (staying_columns H x.kind x.start)) && opens_level x.kind (is_none o))) e ∙ and_assoc (eqb (depth H) 0) (is_above x.start.column (greatest_level (staying_columns H x.kind x.start))) (opens_level x.kind true)
      ∙ ap (λ (b : Bool). (b && is_above x.start.column (greatest_level (staying_columns H x.kind x.start))) && opens_level x.kind true) (sym (zero_test (depth H)))

  levels_none : completed_by limit H x.kind x.start ≡ None → (if is_new (nat_lt 0 (depth H)) x.start.column (staying_columns H x.kind x.start) && opens_level x.kind true then x.start.column ∷ [] else []) ++ staying_columns H x.kind x.start ≡ open_columns (laid limit H x ∷ H)
  levels_none e = let n = completed_none e in
      sym (open_columns-none limit (laid limit H x) H h n ∙ (rw (itself_is n, lexeme_is) refl))

  module _ (c : Laid) (s : completed_by limit H x.kind x.start ≡ Some c) where
    is_completion : IsCompletion limit H (laid limit H x).lexeme c
    unfolding laid
    is_completion = completion_is limit H x c s

    completed : (laid limit H x).completed ≡ Some c.number
    completed = laid_completed limit H x ∙ ap (option_map (λ (j : Laid). j.number)) s

    candidate_depth : c.depth ≡ depth H
    candidate_depth = (candidate_split H (depth H) c is_completion.candidate).saved.depth

    new_same : (nat_eq c.depth 0 && is_above (column c) c.level) ≡ is_new (nat_lt 0 (depth H)) (column c) (staying_columns H x.kind x.start)
    new_same = elim (cases_eq (depth H) 0) [
      | inl z ↦ (let l : c.level ≡ greatest_level (staying_columns H (laid limit H x).lexeme.kind (laid limit H x).lexeme.start) = level-candidate' limit (laid limit H x) H c h is_completion (candidate_depth ∙ z) in
          let k : c.level ≡ greatest_level (staying_columns H x.kind x.start) = rw lexeme_is at l in rw (candidate_depth, k, zero_test (depth H)) refl)
      | inr z ↦ (let e : nat_eq (depth H) 0 ≡ false = ne_eqb _ _ z in rw (candidate_depth, zero_test (depth H), e) refl)
    ]

    levels_some : (if is_new (nat_lt 0 (depth H)) (column c) (staying_columns H x.kind x.start) then column c ∷ [] else []) ++ staying_columns H x.kind x.start ≡ open_columns (laid limit H x ∷ H)
    levels_some = sym (open_columns-some limit (laid limit H x) H c h is_completion completed ∙ (rw (new_same, lexeme_is) refl))

    no_ends : block_ends (laid limit H x) ≡ []
    no_ends = sym ends_are ∙ ap (λ (cs : List ℕ). map (λ c. BlockEnd (end_at x.kind x.gap_end x.start c)) cs) none
      where
        split : (t : ℕ → Bool) (cs : List ℕ) → filter t cs ≡ cs → filter (λ d. not (t d)) cs ≡ []
        split t [] e = refl
        split t (d ∷ cs) e = elim (cases_Bool (t d)) [
          | inl q ↦ (let f : d ∷ filter t cs ≡ d ∷ cs = rw q at e in rw q (split t cs (tails d _ _ f)))
          | inr q ↦ (let f : filter t cs ≡ d ∷ cs = rw q at e in let n = ap (λ (l : List ℕ). length l) f in let m = shorter t cs in absurd (omega arith))
        ]
          where
            tails : (d : ℕ) (a b : List ℕ) → d ∷ a ≡ d ∷ b → a ≡ b
            tails d a b q = cc

            shorter : (t : ℕ → Bool) (cs : List ℕ) → length (filter t cs) ≤ length cs
            shorter t [] = omega arith
            shorter t (d ∷ cs) = let r = shorter t cs in elim (cases_Bool (t d)) [ inl q ↦ rw q (omega arith) | inr q ↦ rw q (omega arith) ]

        none : filter (λ c. not (stays (nat_lt 0 (depth H)) x.kind x.start c)) (open_columns H) ≡ []
        none = elim (cases_eq (depth H) 0) [
          | inl z ↦ (let w : staying_columns H (laid limit H x).lexeme.kind (laid limit H x).lexeme.start ≡ open_columns H = staying_columns-whole limit (laid limit H x) H c h is_completion (candidate_depth ∙ z) in
              let v : staying_columns H x.kind x.start ≡ open_columns H = rw lexeme_is at w in split (stays (nat_lt 0 (depth H)) x.kind x.start) (open_columns H) (kept_levels ∙ v))
          | inr z ↦ subst (λ (f : Bool). filter (λ c. not (stays f x.kind x.start c)) (open_columns H) ≡ []) (sym (lt-ltb 0 (depth H) (omega arith))) (filter_nothing x.kind x.start (open_columns H))
        ]

    group_some : group (laid limit H x ∷ H) (laid limit H x) ≡ OfLexeme x ∷ []
    unfolding group inserted
    group_some =
        let o : opens_itself (laid limit H x) ≡ false = rw (completes_not_opener (laid limit H x) c.number is_completion.value completed) (and_false _ _) in
        rw (no_ends, opens_self limit (laid limit H x) H h, o, completed_self limit (laid limit H x) H h, lexeme_is) refl

    was_live : live limit c (reach H) ≡ true
    was_live = let a = candidate_split H (depth H) c is_completion.candidate in live_earlier limit c (reach H) (laid limit H x).lexeme.start (start_in limit H a.newer c a.older a.is h.2) (to_start h.1) is_completion.live

    module _ (t : ℕ) (T : t ≤ length (before limit H)) where
      taken_some : t ≤ length (up_to H (Some c))
      taken_some = let n = not_settled limit H (depth H) c h.2 is_completion.candidate was_live in omega arith

      insertion : IsInsertion (laid limit H x) H c
      insertion = offline-more_some limit (laid limit H x) H c h is_completion.candidate completed

      within_front : t ≤ length insertion.front
      within_front = let e = ap (λ (l : List Token). length l) insertion.at in let s = taken_some in omega arith

      place : Stands H t c insertion.front insertion.rest
      place = stands limit H (depth H) c t insertion.front insertion.rest h.2 is_completion.candidate insertion.at insertion.was within_front

      -- the list so far, and with the key
      was_is : drop t (offline H) ≡ place.whole ++ (place.ends ++ OfLexeme c.lexeme ∷ insertion.rest)
      was_is = ap (λ (l : List Token). drop t l) insertion.was ∙ drop-append-le t insertion.front (OfLexeme c.lexeme ∷ insertion.rest) within_front
          ∙ ap (λ (l : List Token). l ++ OfLexeme c.lexeme ∷ insertion.rest) place.front_is ∙ append_assoc place.whole place.ends (OfLexeme c.lexeme ∷ insertion.rest)

      key_same : key_tokens c ≡ key_at (is_new (nat_lt 0 (depth H)) (column c) (staying_columns H x.kind x.start)) c.lexeme.start
      key_same = ap (λ (b : Bool). (if b then BlockMappingStart c.lexeme.start ∷ [] else []) ++ (InsertedKey c.lexeme.start ∷ [])) new_same

      abbrev marked : List Token
      marked = place.whole ++ (place.ends ++ (key_at (is_new (nat_lt 0 (depth H)) (column c) (staying_columns H x.kind x.start)) c.lexeme.start ++ OfLexeme c.lexeme ∷ insertion.rest))

      now_is : drop t (offline (laid limit H x ∷ H)) ≡ marked ++ OfLexeme x ∷ []
      now_is =
          let ks = key_tokens c in
          let f = within_front in
          let m : t ≤ length (insertion.front ++ (ks ++ (OfLexeme c.lexeme ∷ insertion.rest))) = (let a = length-append insertion.front (ks ++ (OfLexeme c.lexeme ∷ insertion.rest)) in omega arith) in
          ap (λ (l : List Token). drop t l) insertion.now
          ∙ drop-append-le t (insertion.front ++ (ks ++ (OfLexeme c.lexeme ∷ insertion.rest))) (group (laid limit H x ∷ H) (laid limit H x)) m
          ∙ ap (λ (l : List Token). l ++ group (laid limit H x ∷ H) (laid limit H x)) (drop-append-le t insertion.front (ks ++ (OfLexeme c.lexeme ∷ insertion.rest)) f
          ∙ ap (λ (l : List Token). l ++ (ks ++ (OfLexeme c.lexeme ∷ insertion.rest))) place.front_is ∙ append_assoc place.whole place.ends (ks ++ (OfLexeme c.lexeme ∷ insertion.rest)))
          ∙ (rw (group_some, key_same) refl)

      module _ (e : yaml_encoding_t) (m : yaml_mark_t) (ys : List group_t) (Q : IsQueue e 0 m ys (drop t (offline H))) (d : ℕ) (D : d + length ys ≡ length H + 1) where
        place_is : (held_of c).step - 1 - d ≡ count place.whole
        place_is = let a = taken_count H t e 0 m ys Q d D in let b = place.place in omega arith

        fits_some : Fitting (Some (held_of c)) d ys
        fits_some = let a = taken_count H t e 0 m ys Q d D in let b = place.place in
            let n = number_in limit H (candidate_split H (depth H) c is_completion.candidate).newer c (candidate_split H (depth H) c is_completion.candidate).older (candidate_split H (depth H) c is_completion.candidate).is h.2 in
            let k = ap (λ (X : List Laid). length X) (candidate_split H (depth H) c is_completion.candidate).is in
            let l = length-append (candidate_split H (depth H) c is_completion.candidate).newer (c ∷ (candidate_split H (depth H) c is_completion.candidate).older) in
            (omega arith, omega arith)

        queue_some : IsQueue e 0 m (keyed_at ((held_of c).step - 1 - d) (is_new (nat_lt 0 (depth H)) (column c) (staying_columns H x.kind x.start)) ys) marked
        queue_some = rw place_is (key_put e m ys place.whole place.ends c.lexeme insertion.rest _ (subst (λ (l : List Token). IsQueue e 0 m ys l) was_is Q) place.is_whole place.are_ends)

  group_none : completed_by limit H x.kind x.start ≡ None → group (laid limit H x ∷ H) (laid limit H x)
      ≡ block_ends (laid limit H x) ++ ((if is_new (nat_lt 0 (depth H)) x.start.column (staying_columns H x.kind x.start) && opens_level x.kind true then start_token x.kind x.start ∷ [] else []) ++ OfLexeme x ∷ [])
  unfolding group inserted laid block_ends staying_columns depth
  group_none e = rw (opens_self limit (laid limit H x) H h, itself_is (completed_none e), completed_self limit (laid limit H x) H h, lexeme_is)
      (ap (λ (l : List Token). block_ends (laid limit H x) ++ (l ++ OfLexeme x ∷ [])) (append-nil _))

  start_is : (b : Bool) → starts_at (if b then start_of x.kind else NONE) x.start ≡ (if b then start_token x.kind x.start ∷ [] else [])
  start_is true = go (is_block_entry x.kind)
    where
      go : (b : Bool) → starts_at (if b then SEQUENCE else MAPPING) x.start ≡ (if b then BlockSequenceStart x.start else BlockMappingStart x.start) ∷ []
      go true = refl
      go false = refl
  start_is false = refl

  queue_none : (t : ℕ) → t ≤ length (before limit H) → completed_by limit H x.kind x.start ≡ None
      → drop t (offline H) ++ ((block_ends (laid limit H x) ++ starts_at (opened_by (nat_lt 0 (depth H)) None x.kind x.start.column (staying_columns H x.kind x.start)) x.start) ++ OfLexeme x ∷ [])
      ≡ drop t (offline (laid limit H x ∷ H))
  queue_none t l e =
      let b = before-offline limit H h.2 in
      let w = length-begins _ _ b in
      let u : t ≤ length (offline H) = omega arith in
      sym (queue-more_none limit (laid limit H x) H t h (completed_none e) u ∙ ap (λ (l : List Token). drop t (offline H) ++ l) (group_none e
      ∙ sym (append_assoc (block_ends (laid limit H x)) _ (OfLexeme x ∷ []))
      ∙ ap (λ (l : List Token). (block_ends (laid limit H x) ++ l) ++ OfLexeme x ∷ []) (sym (start_is (is_new (nat_lt 0 (depth H)) x.start.column (staying_columns H x.kind x.start) && opens_level x.kind true)))))

  -- THE LEVELS AND THE QUEUE
  pub levels_more : opened (nat_lt 0 (depth H)) (option_map held_of (completed_by limit H x.kind x.start)) x.kind x.start (staying_columns H x.kind x.start) ≡ open_columns (laid limit H x ∷ H)
  levels_more = go (completed_by limit H x.kind x.start) refl
    where
      go : (o : Option Laid) → completed_by limit H x.kind x.start ≡ o → opened (nat_lt 0 (depth H)) (option_map held_of o) x.kind x.start (staying_columns H x.kind x.start) ≡ open_columns (laid limit H x ∷ H)
      go None e = levels_none e
      go (Some c) e = levels_some c e

  module _ (t : ℕ) (T : t ≤ length (before limit H)) (e : yaml_encoding_t) (m : yaml_mark_t) (ys : List group_t) (Q : IsQueue e 0 m ys (drop t (offline H))) (d : ℕ) (D : d + length ys ≡ length H + 1)
      (y : group_t) (n : ℕ) (f : yaml_mark_t) (E : ends_at n f ++ ends_at y.ends x.start ≡ block_ends (laid limit H x)) (Y : token_of y.token ≡ record { token_data = x.token_data; start_mark = x.start; end_mark = x.end }) (K : y.key ≡ false) where
    S : y.token.start_mark ≡ x.start
    S = ap (λ (t : yaml_token_t). t.start_mark) Y

    leads_are : (o : block_t) → y.opens ≡ o → ends_at n f ++ leads y ≡ block_ends (laid limit H x) ++ starts_at o x.start
    leads_are o O = rw (K, O, S) (ap (λ (l : List Token). ends_at n f ++ (ends_at y.ends x.start ++ l)) (append-nil (starts_at o x.start)) ∙ sym (append_assoc (ends_at n f) (ends_at y.ends x.start) (starts_at o x.start)) ∙ ap (λ (l : List Token). l ++ starts_at o x.start) E)

    put_here : (zs : List group_t) (q : List Token) (o : block_t) → IsQueue e 0 m zs q → y.opens ≡ o → IsQueue e n f (zs ++ y ∷ []) (q ++ ((block_ends (laid limit H x) ++ starts_at o x.start) ++ OfLexeme x ∷ []))
    put_here zs q o R O = subst (λ (l : List Token). IsQueue e n f (zs ++ y ∷ []) (q ++ (l ++ OfLexeme x ∷ []))) (leads_are o O) (put_after e m f n zs q y (OfLexeme x) R Y refl)

    pub queue_more : y.opens ≡ opened_by (nat_lt 0 (depth H)) (option_map held_of (completed_by limit H x.kind x.start)) x.kind x.start.column (staying_columns H x.kind x.start)
        → IsQueue e n f (completed_in (nat_lt 0 (depth H)) (option_map held_of (completed_by limit H x.kind x.start)) (staying_columns H x.kind x.start) d ys ++ y ∷ []) (drop t (offline (laid limit H x ∷ H)))
    queue_more O = go (completed_by limit H x.kind x.start) refl O
      where
        go : (o : Option Laid) → completed_by limit H x.kind x.start ≡ o → y.opens ≡ opened_by (nat_lt 0 (depth H)) (option_map held_of o) x.kind x.start.column (staying_columns H x.kind x.start)
            → IsQueue e n f (completed_in (nat_lt 0 (depth H)) (option_map held_of o) (staying_columns H x.kind x.start) d ys ++ y ∷ []) (drop t (offline (laid limit H x ∷ H)))
        go None s O = subst (λ (l : List Token). IsQueue e n f (ys ++ y ∷ []) l) (queue_none t T s) (put_here ys (drop t (offline H)) _ Q O)
        go (Some c) s O = subst (λ (l : List Token). IsQueue e n f (keyed_at ((held_of c).step - 1 - d) (is_new (nat_lt 0 (depth H)) (column c) (staying_columns H x.kind x.start)) ys ++ y ∷ []) l)
            (ap (λ (l : List Token). marked c s t T ++ (l ++ OfLexeme x ∷ [])) (append-nil (block_ends (laid limit H x)) ∙ no_ends c s) ∙ sym (now_is c s t T))
            (put_here (keyed_at ((held_of c).step - 1 - d) (is_new (nat_lt 0 (depth H)) (column c) (staying_columns H x.kind x.start)) ys) (marked c s t T) NONE (queue_some c s t T e m ys Q d D) O)

  pub fits : (t : ℕ) → t ≤ length (before limit H) → (e : yaml_encoding_t) (m : yaml_mark_t) (ys : List group_t) → IsQueue e 0 m ys (drop t (offline H)) → (d : ℕ) → d + length ys ≡ length H + 1 → Fitting (option_map held_of (completed_by limit H x.kind x.start)) d ys
  fits t l e m ys Q d D = go (completed_by limit H x.kind x.start) refl
    where
      go : (o : Option Laid) → completed_by limit H x.kind x.start ≡ o → Fitting (option_map held_of o) d ys
      go None s = tt
      go (Some c) s = fits_some c s t l e m ys Q d D

  pub taken_more : (t : ℕ) → t ≤ length (before limit H) → t ≤ length (before limit (laid limit H x ∷ H))
  taken_more t l = let b = before-before limit (laid limit H x ∷ []) H h in let w = length-begins _ _ b in omega arith

  pub allowed_more : (none : Bool) → none ≡ is_none (completed_by limit H x.kind x.start) → allows x.kind (depth H) none x.passed_break ≡ allowed_after (laid limit H x ∷ H)
  unfolding laid
  allowed_more none e = ap (λ (b : Bool). allows x.kind (depth H) b x.passed_break) (e ∙ sym (none_number (completed_by limit H x.kind x.start)))

  -- THE SLOTS
  pub kind_is : (laid limit H x).lexeme.kind ≡ x.kind
  unfolding laid
  kind_is = refl

  pub reach_is : (laid limit H x).lexeme.reach ≡ x.reach
  unfolding laid
  reach_is = refl

  flow_start_is : is_flow_start (laid limit H x).lexeme.kind ≡ is_flow_start x.kind
  flow_start_is = ap is_flow_start kind_is

  flow_end_is : is_flow_end (laid limit H x).lexeme.kind ≡ is_flow_end x.kind
  flow_end_is = ap is_flow_end kind_is

  pub enters_below : (k : ℕ) → k ≤ depth H → enters k (laid limit H x) ≡ false
  enters_below k l = let n : eqb ((laid limit H x).depth + 1) k ≡ false = ne_eqb _ _ (λ q. let d = depth_is in omega arith) in rw n (cases (is_flow_start (laid limit H x).lexeme.kind))
    where
      cases : (b : Bool) → (b && false) ≡ false
      cases true = refl
      cases false = refl

  pub outer_swept : (n : ℕ) → n ≤ depth H → map (still_held limit x.reach) (outer_to limit H n) ≡ outer_to limit (laid limit H x ∷ H) n
  outer_swept zero l = refl
  outer_swept (suc n) l =
      let d = depth_is in
      let e : eqb (laid limit H x).depth n ≡ false = ne_eqb _ _ (λ q. omega arith) in
      let o : held limit (laid limit H x ∷ H) n ≡ still_held limit (laid limit H x).lexeme.reach (held limit H n) = held-other limit (laid limit H x) H n h (omega arith) (enters_below n (omega arith)) e in
      let r : held limit (laid limit H x ∷ H) n ≡ still_held limit x.reach (held limit H n) = o ∙ ap (λ (m : yaml_mark_t). still_held limit m (held limit H n)) reach_is in
      map-append (still_held limit x.reach) (outer_to limit H n) (held limit H n ∷ []) ∙ (rw (outer_swept n (omega arith), r) refl)

  pub required_is : is_required (laid limit H x) ≡ is_level (nat_lt 0 (depth H)) (greatest_level (staying_columns H x.kind x.start)) x.start.column
  unfolding laid level
  required_is = rw (zero_test (depth H)) refl

  pub candidate_is : is_candidate (laid limit H x) ≡ is_candidate_kind x.kind
  candidate_is = ap is_candidate_kind kind_is

  pub allowed_of : (laid limit H x).key_allowed ≡ allowed H x.gap_end
  unfolding laid
  allowed_of = refl

  pub at_depth : eqb (laid limit H x).depth (depth H) ≡ true
  at_depth = eq-eqb _ _ depth_is

  pub new_is : (new : Held) → new ≡ record { step = length H + 2; start = x.start; required = is_level (nat_lt 0 (depth H)) (greatest_level (staying_columns H x.kind x.start)) x.start.column } → new ≡ held_of (laid limit H x)
  unfolding laid level
  new_is new e = e ∙ (rw (zero_test (depth H)) refl)

  module _ (a : Bool) (A : a ≡ allowed H x.gap_end) (new : Held) (N : new ≡ held_of (laid limit H x)) where
    pub top_swept : still_held limit x.reach (slot_after x.kind a new (held limit H (depth H))) ≡ held limit (laid limit H x ∷ H) (depth H)
    top_swept = elim (cases_Bool (is_candidate_kind x.kind)) [
      | inl c ↦ elim (cases_Bool a) [
        | inl b ↦ (let s = held-saved limit (laid limit H x) H (depth H) (enters_below (depth H) (omega arith)) at_depth (candidate_is ∙ c) (allowed_of ∙ sym A ∙ b) in
            rw (c, b, N) (ap (λ (m : yaml_mark_t). still_held limit m (Some (held_of (laid limit H x)))) (sym reach_is) ∙ sym s))
        | inr b ↦ (let s = held-kept limit (laid limit H x) H (depth H) h (omega arith) (enters_below (depth H) (omega arith)) at_depth (candidate_is ∙ c) (allowed_of ∙ sym A ∙ b) in
            rw (c, b) (sym (s ∙ ap (λ (m : yaml_mark_t). still_held limit m (held limit H (depth H))) reach_is)))
      ]
      | inr c ↦ (let s = held-cleared limit (laid limit H x) H (depth H) (enters_below (depth H) (omega arith)) at_depth (candidate_is ∙ c) in rw c (sym s))
    ]

  -- the depth
  pub nested_outer_is : nested_outer x.kind (outer_to limit (laid limit H x ∷ H) (depth H)) (held limit (laid limit H x ∷ H) (depth H)) ≡ outer_to limit (laid limit H x ∷ H) (depth (laid limit H x ∷ H))
  nested_outer_is = elim (cases_Bool (is_flow_start x.kind)) [
    | inl s ↦ (let e : is_flow_end x.kind ≡ false = flow_kinds x.kind s in
        let d : depth (laid limit H x ∷ H) ≡ suc (depth H) = depth-start (laid limit H x) H (flow_start_is ∙ s) (flow_end_is ∙ e) ∙ omega arith in rw (s, d) refl)
    | inr s ↦ elim (cases_Bool (is_flow_end x.kind)) [
      | inl e ↦ (let d : depth (laid limit H x ∷ H) ≡ depth H - 1 = depth-end (laid limit H x) H (flow_start_is ∙ s) (flow_end_is ∙ e) in
          rw (s, e, d, outer_length limit (laid limit H x ∷ H) (depth H)) (take_outer (depth H)))
      | inr e ↦ (let d : depth (laid limit H x ∷ H) ≡ depth H = depth-same (laid limit H x) H (flow_start_is ∙ s) (flow_end_is ∙ e) in rw (s, e, d) refl)
    ]
  ]
    where
      take_outer : (n : ℕ) → take (n - 1) (outer_to limit (laid limit H x ∷ H) n) ≡ outer_to limit (laid limit H x ∷ H) (n - 1)
      take_outer zero = refl
      take_outer (suc n) = let e : suc n - 1 ≡ n = omega arith in rw e (take_at (outer_to limit (laid limit H x ∷ H) n) (held limit (laid limit H x ∷ H) n ∷ []) n (outer_length limit (laid limit H x ∷ H) n))

  pub nested_top_is : nested_top x.kind (outer_to limit (laid limit H x ∷ H) (depth H)) (held limit (laid limit H x ∷ H) (depth H)) ≡ held limit (laid limit H x ∷ H) (depth (laid limit H x ∷ H))
  nested_top_is = elim (cases_Bool (is_flow_start x.kind)) [
    | inl s ↦ (let e : is_flow_end x.kind ≡ false = flow_kinds x.kind s in
        let d : depth (laid limit H x ∷ H) ≡ depth H + 1 = depth-start (laid limit H x) H (flow_start_is ∙ s) (flow_end_is ∙ e) in
        let m = depth_is in
        let q : eqb ((laid limit H x).depth + 1) (depth H + 1) ≡ true = eq-eqb _ _ (omega arith) in
        let t : enters (depth H + 1) (laid limit H x) ≡ true = rw (flow_start_is, s, q) refl in
        rw (s, d) (sym (held-entered limit (laid limit H x) H (depth H + 1) t)))
    | inr s ↦ elim (cases_Bool (is_flow_end x.kind)) [
      | inl e ↦ (let d : depth (laid limit H x ∷ H) ≡ depth H - 1 = depth-end (laid limit H x) H (flow_start_is ∙ s) (flow_end_is ∙ e) in
          rw (s, e, d, outer_length limit (laid limit H x ∷ H) (depth H)) (last_outer (depth H)))
      | inr e ↦ (let d : depth (laid limit H x ∷ H) ≡ depth H = depth-same (laid limit H x) H (flow_start_is ∙ s) (flow_end_is ∙ e) in rw (s, e, d) refl)
    ]
  ]
    where
      get_last : (a : List (Option Held)) (y : Option Held) → slice_get (a ++ y ∷ []) (length a) ≡ Some y
      get_last [] y = refl
      get_last (z ∷ a) y = get_last a y

      last_outer : (n : ℕ) → or_top (held limit (laid limit H x ∷ H) n) (slice_get (outer_to limit (laid limit H x ∷ H) n) (n - 1)) ≡ held limit (laid limit H x ∷ H) (n - 1)
      last_outer zero = refl
      last_outer (suc n) = let e : suc n - 1 ≡ n = omega arith in
          let g = get_last (outer_to limit (laid limit H x ∷ H) n) (held limit (laid limit H x ∷ H) n) in
          let f : slice_get (outer_to limit (laid limit H x ∷ H) n ++ held limit (laid limit H x ∷ H) n ∷ []) n ≡ Some (held limit (laid limit H x ∷ H) n) = subst (λ (k : ℕ). slice_get (outer_to limit (laid limit H x ∷ H) n ++ held limit (laid limit H x ∷ H) n ∷ []) k ≡ Some (held limit (laid limit H x ∷ H) n)) (outer_length limit (laid limit H x ∷ H) n) g in
          rw (e, f) refl
