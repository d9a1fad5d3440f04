-- Every inserted key is followed by its `:`.
use Rattle.std.proofs.Common.{◌≡◌, ℕ, ◌≤◌, ◌&&◌, Bool, true, false, List, [], ◌∷◌, ◌++◌, map, length-append, Option, Some, None, refl, ap, sym, ◌∙◌, subst, arith, inl, inr, append_assoc}
use Rattle.std.specs.Prelude.{◌⊎◌, if◌then◌else◌, nat_eq}
use Rattle.std.specs.List.{list_any}
use Rattle.std.proofs.lemmas.Bool.{cases_Bool, cases_lt, and_from, and_parts, or_left, or_right, false≢true}
use Rattle.yaml_scan.specs.Kind.{is_block_entry}
use Rattle.yaml_scan.specs.Laid.{Laid, column, reach, Lexeme}
use Rattle.yaml_scan.specs.Keys.{candidate, live}
use Rattle.yaml_scan.specs.Depth.{depth}
use Rattle.yaml_scan.specs.Levels.{opens, is_completed, is_above}
use Rattle.yaml_scan.specs.Groups.{Token, block_ends, end_mark, inserted, group, groups, offline}
use Rattle.yaml_scan.specs.Settled.{before, waiting, is_current}
use Rattle.yaml_scan.specs.Groups.Token.{StreamStart, BlockEnd, BlockSequenceStart, BlockMappingStart, InsertedKey, OfLexeme}
use Rattle.yaml_scan.specs.Order.{IsHistory}
use Rattle.yaml_scan.specs.Laws.{key_tokens}
use Rattle.yaml_scan.specs.TokenLaws.{is_value_near, HasValue, KeysHaveValues, KeysAreFollowed}
use Rattle.yaml_scan.proofs.History.KeyCandidates.{candidate-is, candidate_split}
use Rattle.yaml_scan.proofs.History.HistoryOrder.{IsHistory-older, number_at, completed_is}
use Rattle.yaml_scan.proofs.TokenList.NeverRevised.{AllOther, groups-other, other_below}
use Rattle.yaml_scan.proofs.TokenList.SettledStays.{waiting_is, before_all, before_part}
use Rattle.yaml_scan.proofs.TokenList.GroupInsertion.{offline-more_none, offline-more_some}
use Rattle.yaml_scan.proofs.History.LevelColumns.{completed_self}
use Rattle.yaml_scan.proofs.History.LevelsFall.{candidate_completes_nothing}
use Rattle.yaml_scan.proofs.TokenList.AllSettled.{candidate_above}
use Rattle.yaml_scan.proofs.RunningQueue.QueueTokens.{current_candidate}
use Rattle.yaml_scan.proofs.RunningStep.SlotsOneOn.{completed_from}

any_left : (p : Token → Bool) (a b : List Token) → list_any p a ≡ true → list_any p (a ++ b) ≡ true
any_left p [] b e = absurd (false≢true e)
any_left p (t ∷ a) b e = elim (cases_Bool (p t)) [
  | inl q ↦ or_left _ _ q
  | inr q ↦ or_right _ _ (any_left p a b (rw q at e))
]

any_right : (p : Token → Bool) (a b : List Token) → list_any p b ≡ true → list_any p (a ++ b) ≡ true
any_right p [] b e = e
any_right p (t ∷ a) b e = or_right _ _ (any_right p a b e)

-- what is inserted in between leaves what is there
any_between : (p : Token → Bool) (a r k : List Token) → list_any p (a ++ r) ≡ true → list_any p r ≡ true ⊎ (list_any p a ≡ true)
any_between p [] r k e = inl e
any_between p (t ∷ a) r k e = elim (cases_Bool (p t)) [
  | inl q ↦ inr (or_left _ _ q)
  | inr q ↦ elim (any_between p a r k (rw q at e)) [ inl x ↦ inl x | inr x ↦ inr (or_right _ _ x) ]
]

module _ (limit : ℕ) where
  has_more : (t : Token) (ts more : List Token) → HasValue limit t ts → HasValue limit t (ts ++ more)
  has_more StreamStart ts more h = tt
  has_more (BlockEnd m) ts more h = tt
  has_more (BlockSequenceStart m) ts more h = tt
  has_more (BlockMappingStart m) ts more h = tt
  has_more (OfLexeme x) ts more h = tt
  has_more (InsertedKey m) ts more h = any_left (is_value_near limit m) ts more h

  has_between : (t : Token) (a r k g : List Token) → HasValue limit t (a ++ r) → HasValue limit t (a ++ (k ++ (r ++ g)))
  has_between StreamStart a r k g h = tt
  has_between (BlockEnd m) a r k g h = tt
  has_between (BlockSequenceStart m) a r k g h = tt
  has_between (BlockMappingStart m) a r k g h = tt
  has_between (OfLexeme x) a r k g h = tt
  has_between (InsertedKey m) a r k g h = elim (any_between (is_value_near limit m) a r k h) [
    | inl x ↦ any_right (is_value_near limit m) a (k ++ (r ++ g)) (any_right (is_value_near limit m) k (r ++ g) (any_left (is_value_near limit m) r g x))
    | inr x ↦ any_left (is_value_near limit m) a (k ++ (r ++ g)) x
  ]

  keys-append : (a b : List Token) → KeysHaveValues limit a → KeysHaveValues limit b → KeysHaveValues limit (a ++ b)
  keys-append [] b h k = k
  keys-append (t ∷ a) b h k = (has_more t a b h.0, keys-append a b h.1 k)

  keys-rest : (a b : List Token) → KeysHaveValues limit (a ++ b) → KeysHaveValues limit b
  keys-rest [] b h = h
  keys-rest (t ∷ a) b h = keys-rest a b h.1

  keys-between : (a r k g : List Token) → KeysHaveValues limit (a ++ r) → KeysHaveValues limit (k ++ (r ++ g)) → KeysHaveValues limit (a ++ (k ++ (r ++ g)))
  keys-between [] r k g h q = q
  keys-between (t ∷ a) r k g h q = (has_between t a r k g h.0, keys-between a r k g h.1 q)

  keys-ends : (x : Lexeme) (cs : List ℕ) → KeysHaveValues limit (map (λ c. BlockEnd (end_mark x c)) cs)
  keys-ends x [] = tt
  keys-ends x (c ∷ cs) = (tt, keys-ends x cs)

  keys-block_ends : (w : Laid) → KeysHaveValues limit (block_ends w)
  unfolding block_ends
  keys-block_ends w = keys-ends w.lexeme w.closed

  -- a lexeme whose key is not inserted
  keys-group : (W : List Laid) (i : Laid) → is_completed W i ≡ false → KeysHaveValues limit (group W i)
  unfolding group block_ends inserted
  keys-group W i e = keys-append (block_ends i) (inserted W i ++ (OfLexeme i.lexeme ∷ [])) (keys-ends i.lexeme i.closed)
      (keys-append (inserted W i) (OfLexeme i.lexeme ∷ []) (rw e (cases (opens W i) (is_block_entry i.lexeme.kind))) (tt, tt))
    where
      cases : (o b : Bool) → KeysHaveValues limit ((if o then (if b then BlockSequenceStart i.lexeme.start else BlockMappingStart i.lexeme.start) ∷ [] else []) ++ [])
      cases true true = (tt, tt)
      cases true false = (tt, tt)
      cases false b = tt

  any_group : (p : Token → Bool) (W : List Laid) (i : Laid) → p (OfLexeme i.lexeme) ≡ true → list_any p (group W i) ≡ true
  unfolding group
  any_group p W i e = any_right p (block_ends i) (inserted W i ++ (OfLexeme i.lexeme ∷ [])) (any_right p (inserted W i) (OfLexeme i.lexeme ∷ []) (or_left _ _ e))

  keys-inserted : (c : Laid) (ts : List Token) → list_any (is_value_near limit c.lexeme.start) ts ≡ true → KeysHaveValues limit ts → KeysHaveValues limit (key_tokens c ++ ts)
  keys-inserted c ts e h = cases (nat_eq c.depth 0 && is_above (column c) c.level)
    where
      cases : (b : Bool) → KeysHaveValues limit (((if b then BlockMappingStart c.lexeme.start ∷ [] else []) ++ (InsertedKey c.lexeme.start ∷ [])) ++ ts)
      cases true = (tt, (e, h))
      cases false = (e, h)

  keys-offline : (H : List Laid) → IsHistory limit H → KeysHaveValues limit (offline H)
  unfolding offline groups
  keys-offline [] h = (tt, tt)
  keys-offline (i ∷ H) h = go (keys-offline H h.2) i.completed refl
    where
      own : KeysHaveValues limit (group (i ∷ H) i)
      own = keys-group (i ∷ H) i (completed_self limit i H h)

      go : KeysHaveValues limit (offline H) → (o : Option ℕ) → i.completed ≡ o → KeysHaveValues limit (offline (i ∷ H))
      go ih None e = rw (offline-more_none limit i H h e) (keys-append (offline H) (group (i ∷ H) i) ih own)
      go ih (Some n) e =
          let s = completed_is limit H i n h.0 e in
          let c = s.candidate in
          let r = offline-more_some limit i H c h s.is.candidate (e ∙ ap Some (sym s.number)) in
          let R : List Token = OfLexeme c.lexeme ∷ r.rest in
          let G : List Token = group (i ∷ H) i in
          let was : KeysHaveValues limit (r.front ++ R) = subst (λ (l : List Token). KeysHaveValues limit l) r.was ih in
          let v : is_value_near limit c.lexeme.start (OfLexeme i.lexeme) ≡ true = and_from _ _ s.is.value s.is.live in
          let any : list_any (is_value_near limit c.lexeme.start) (R ++ G) ≡ true = any_right (is_value_near limit c.lexeme.start) R G (any_group (is_value_near limit c.lexeme.start) (i ∷ H) i v) in
          let rest : KeysHaveValues limit (R ++ G) = keys-append R G (keys-rest r.front R was) own in
          let all : KeysHaveValues limit (r.front ++ (key_tokens c ++ (R ++ G))) = keys-between r.front R (key_tokens c) G was (keys-inserted c (R ++ G) any rest) in
          let eq : offline (i ∷ H) ≡ r.front ++ (key_tokens c ++ (R ++ G)) = r.now ∙ append_assoc r.front (key_tokens c ++ R) G ∙ ap (λ (l : List Token). r.front ++ l) (append_assoc (key_tokens c) R G) in
          subst (λ (l : List Token). KeysHaveValues limit l) (sym eq) all

  -- while w is the candidate of its depth, nothing that is before it is completed
  groups_before : (N : List Laid) (w : Laid) (B : List Laid) (k : ℕ) → IsHistory limit (N ++ w ∷ B) → candidate (N ++ w ∷ B) k ≡ Some w → groups (N ++ w ∷ B) B ≡ groups B B
  groups_before [] w B k h s =
      let a = candidate_split (w ∷ B) k w s in
      let n = candidate_completes_nothing limit w B h a.saved.candidate in
      groups-other w B B (other_below limit w B h.2 (λ m f. absurd (none_some m (sym n ∙ f))))
    where
      none_some : (m : ℕ) → None ≡ Some m → ⊥
      none_some m f = cc
  groups_before (j ∷ N) w B k h s = elim (candidate-is j (N ++ w ∷ B) k w s) [
    | inl r ↦ (let a = number_at limit [] j (N ++ w ∷ B) h in
        let b = number_at limit N w B h.2 in
        let d = length-append N (w ∷ B) in
        let e = ap (λ (x : Laid). x.number) r.0 in
        absurd (omega arith))
    | inr r ↦ (let b = number_at limit N w B h.2 in
        let g : IsHistory limit B = (IsHistory-older limit N (w ∷ B) h.2).2 in
        let o : AllOther j B = other_below limit j B g (λ n e. let q = completed_from limit j (N ++ w ∷ B) k w h r.0 (within r.0) n e in omega arith) in
        groups-other j (N ++ w ∷ B) B o ∙ groups_before N w B k h.2 r.0)
  ]
    where
      within : candidate (N ++ w ∷ B) k ≡ Some w → k ≤ depth (N ++ w ∷ B)
      within q = elim (cases_lt (depth (N ++ w ∷ B)) k) [
        | inl l ↦ (let z : None ≡ Some w = sym (candidate_above limit (N ++ w ∷ B) k h.2 l) ∙ q in cc)
        | inr l ↦ l
      ]

  keys-before : (H : List Laid) → IsHistory limit H → KeysHaveValues limit (before limit H)
  unfolding offline
  keys-before H h = go (waiting limit H) refl
    where
      go : (o : Option Laid) → waiting limit H ≡ o → KeysHaveValues limit (before limit H)
      go None q = rw (before_all limit H q) (keys-offline H h)
      go (Some w) q =
          let r = waiting_is limit H w q in
          let p = and_parts (is_current H w) (live limit w (reach H)) r.passes in
          let s = current_candidate limit H r.newer w r.older r.is h p.0 in
          let e : groups H r.older ≡ groups r.older r.older = subst (λ (X : List Laid). IsHistory limit X → candidate X w.depth ≡ Some w → groups X r.older ≡ groups r.older r.older) (sym r.is) (groups_before r.newer w r.older w.depth) h s in
          let g : IsHistory limit r.older = (IsHistory-older limit r.newer (w ∷ r.older) (subst (λ (X : List Laid). IsHistory limit X) r.is h)).2 in
          rw (before_part limit H w r.newer r.older q r.is h, e) (keys-append (groups r.older r.older) (block_ends w) (keys-offline r.older g) (keys-block_ends w))

pub keys_are_followed : KeysAreFollowed
keys_are_followed limit H h = (keys-offline limit H h, keys-before limit H h)
