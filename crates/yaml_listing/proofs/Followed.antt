-- What is written of an input that is followed begins its listing, and at the end is all of it.
use Rattle.std.proofs.Common.{◌≡◌, ◌≢◌, ◌≤◌, ◌⊎◌, ◌++◌, [], ◌∷◌, ℕ, zero, suc, Bool, true, false, List, Option, None, Some, length, length-append, take, drop, refl, sym, ap, ◌∙◌, subst, arith, inl, inr, append-nil, append_assoc}
use Rattle.std.proofs.Math.Seq.{take-add}
use Rattle.std.specs.Prelude.{is_some, Result, Ok, Err, IfErr, IsErr, IsErrAnd, MatchResult}
use Rattle.yaml_text.specs.Decode.{encoding_of}
use Rattle.yaml_text.specs.declared.types.yaml_encoding_t.{yaml_encoding_t}
use Rattle.yaml_text.specs.declared.types.yaml_encoding_t.TheVariants.{YAML_UTF8_ENCODING}
use Rattle.yaml_text.specs.Fault.{Fault, memory_fault}
use Rattle.yaml_text.specs.Token.{Token}
use Rattle.yaml_scan.specs.All.{AllOf}
use Rattle.yaml_scan.specs.Answers.{Answers, answers}
use Rattle.yaml_scan.specs.Begins.{Begins}
use Rattle.yaml_scan.specs.Fed.{EndsBy, Fed, HasTakenAll, MayBe, Why, comes}
use Rattle.yaml_scan.specs.Fed.Why.{MORE, WHOLE, OVER}
use Rattle.yaml_scan.specs.FedCalls.{GivesFed, HasNoRoom, IsWhy}
use Rattle.yaml_scan.specs.Inputs.{answers_to}
use Rattle.yaml_scan.specs.Pieces.{is_known, unfinished}
use Rattle.yaml_scan.specs.Words.{HasLine}
use Rattle.yaml_scan.specs.declared.fed.yaml_fed_parser_t.{yaml_fed_parser_t}
use Rattle.yaml_scan.specs.declared.fed.yaml_fed_t.{yaml_fed_t}
use Rattle.yaml_scan.specs.declared.fed.yaml_fed_t.TheVariants as code
use Rattle.yaml_scan.specs.inside.Feeding.{IsFed}
use Rattle.yaml_scan.proofs.RunningCalls.FedGives.{more_comes}
use Rattle.yaml_scan.proofs.Texts.InputPieces.{pieces_go_on}
use Rattle.yaml_scan.proofs.SessionCalls.ListWords.{reads_have_lines}
use Rattle.yaml_listing.specs.Args.{usual_key_limit}
use Rattle.yaml_listing.specs.Follow.{ListsSettled}
use Rattle.yaml_listing.specs.Listing.{fault_line, fault_lines, token_lines}
use Rattle.yaml_listing.specs.inside.Following.{EndsByFault, IsAt, IsBeginning, IsListing, Listed, Settled, SettledAll, Wrote}
use Rattle.yaml_listing.specs.declared.outcome.tool_fault_t.{tool_fault_t}
use Rattle.yaml_listing.specs.declared.outcome.tool_fault_t.TheVariants.{Memory, Read, Write}
use Rattle.yaml_listing.specs.inside.TokenLines.{lines_split}

-- BEGINNINGS
-- a front and what follows it
front_of : {A : Type 0} (n : ℕ) (xs : List A) → take n xs ++ drop n xs ≡ xs
front_of zero xs = refl
front_of (suc n) [] = refl
front_of {A = A} (suc n) (x ∷ xs) = ap (λ (z : List A). x ∷ z) (front_of n xs)

take_begins : {A : Type 0} (n : ℕ) (xs : List A) → Begins (take n xs) xs
take_begins n xs = record { rest = drop n xs; is = sym (front_of n xs) }

-- what may be the whole input begins with what came
pub may_begin : (last : Bool) (given input : List ℕ) → MayBe last given input → Begins given input
may_begin true given input m = record { rest = []; is = m ∙ sym (append-nil given) }
may_begin false given input m = m

-- what came may be the whole input
may_be_all : (last : Bool) (given : List ℕ) → MayBe last given given
may_be_all true given = refl
may_be_all false given = record { rest = []; is = sym (append-nil given) }

-- the lines of the first tokens begin those of all
lines_begin : (xs ys : List Token) (f : Option Fault) → Begins xs ys → Begins (token_lines xs) (token_lines ys ++ fault_lines f)
lines_begin xs ys f b = record {
  rest = token_lines b.rest ++ fault_lines f;
  is = ap (λ (z : List Token). token_lines z ++ fault_lines f) b.is
      ∙ ap (λ (z : List ℕ). z ++ fault_lines f) (lines_split xs b.rest)
      ∙ append_assoc (token_lines xs) (token_lines b.rest) (fault_lines f);
}

-- a listing as far as some lines of it
pub begins_less : (told lines all : List ℕ) (n : ℕ) → Begins (told ++ lines) all → Begins (told ++ take n lines) all
begins_less told lines all n b = record {
  rest = drop n lines ++ b.rest;
  is = b.is
      ∙ ap (λ (z : List ℕ). (told ++ z) ++ b.rest) (sym (front_of n lines))
      ∙ ap (λ (z : List ℕ). z ++ b.rest) (sym (append_assoc told (take n lines) (drop n lines)))
      ∙ append_assoc (told ++ take n lines) (drop n lines) b.rest;
}

-- what is told begins the listing
pub at_begins : (s : yaml_encoding_t) (given : List ℕ) (k : yaml_fed_parser_t) (lines : List ℕ) → IsAt s given k lines
    → (last : Bool) → IsBeginning s last given lines
at_begins s given k lines at last input m =
    let a = answers_to usual_key_limit s input in
    let first = at.first input (may_begin last given input m) in
    record {
      all = token_lines a.tokens ++ fault_lines a.fault;
      has_fault = _;
      lists = record { tokens = a.tokens; fault = a.fault; answers = inl (refl, refl); lines_are = refl; fault_is = refl };
      begins = subst (λ (z : List ℕ). Begins z (token_lines a.tokens ++ fault_lines a.fault)) (sym at.lines_are)
          (lines_begin at.tokens a.tokens a.fault
          (subst (λ (z : List Token). Begins z a.tokens) (sym first) (take_begins (length at.tokens) a.tokens)));
    }

listing_begins : (s : yaml_encoding_t) (last : Bool) (given lines : List ℕ) (has_fault : Bool) → IsListing s last given lines has_fault
    → IsBeginning s last given lines
listing_begins s last given lines has_fault all input m = record {
  all = lines;
  has_fault = has_fault;
  lists = all input m;
  begins = record { rest = []; is = sym (append-nil lines) };
}

-- what was written begins the listing, whatever is settled
pub settled_begins : (s : yaml_encoding_t) (last : Bool) (given : List ℕ) (k : yaml_fed_parser_t) (lines : List ℕ) (done : Option Bool)
    → Settled s last given k lines done → IsBeginning s last given lines
settled_begins s last given k lines None w = at_begins s given k lines w.1 last
settled_begins s last given k lines (Some has_fault) w = listing_begins s last given lines has_fault w

-- all of it was listed, or more may come
pub settled_all : (s : yaml_encoding_t) (last : Bool) (given : List ℕ) (k : yaml_fed_parser_t) (lines : List ℕ) (told : Option Bool) (f : Bool)
    → told ≡ Some f → Settled s last given k lines told → IsListing s last given lines f
settled_all s last given k lines told f e w = subst (λ (d : Option Bool). Settled s last given k lines d) e w

pub settled_on : (s : yaml_encoding_t) (last : Bool) (given : List ℕ) (k : yaml_fed_parser_t) (lines : List ℕ) (told : Option Bool)
    → told ≡ None → Settled s last given k lines told → (last ≡ false) × IsAt s given k lines
settled_on s last given k lines told e w = subst (λ (d : Option Bool). Settled s last given k lines d) e w

-- WHAT IS SETTLED
settled_so_far : (s : yaml_encoding_t) (given : List ℕ)
    → Begins (answers usual_key_limit (unfinished s given)).tokens (answers_to usual_key_limit s given).tokens
settled_so_far s given = subst (λ (z : List ℕ). Begins (answers usual_key_limit (unfinished s given)).tokens (answers_to usual_key_limit s z).tokens)
    (append-nil given) (pieces_go_on usual_key_limit s given []).0

-- as many items of a list or more, beyond its front
past_front : {A : Type 0} (us r : List A) (n : ℕ) → length us ≤ n → (rest : List A) × (take n (us ++ r) ≡ us ++ rest)
past_front [] r n p = (take n r, refl)
past_front (u ∷ us) r zero p = absurd (omega (arith, p))
past_front {A = A} (u ∷ us) r (suc n) p = let w = past_front us r n (omega (arith, p)) in (w.0, ap (λ (z : List A). u ∷ z) w.1)

-- some of the first items begin more of them
begins_more : (us xs all : List Token) → Begins us all → xs ≡ take (length xs) all → length us ≤ length xs → Begins us xs
begins_more us xs all b e less =
    let w = past_front us b.rest (length xs) less in
    record { rest = w.0; is = e ∙ ap (λ (z : List Token). take (length xs) z) b.is ∙ w.1 }

begins_lines : (xs ys : List Token) → Begins xs ys → Begins (token_lines xs) (token_lines ys)
begins_lines xs ys b = record { rest = token_lines b.rest; is = ap token_lines b.is ∙ lines_split xs b.rest }

-- a listing has all that is settled
pub listing_settled : (s : yaml_encoding_t) (last : Bool) (given lines : List ℕ) (has_fault : Bool) → IsListing s last given lines has_fault
    → ListsSettled s given lines
listing_settled s last given lines has_fault all =
    let l = all given (may_be_all last given) in
    let a = answers_to usual_key_limit s given in
    let so_far = (answers usual_key_limit (unfinished s given)).tokens in
    elim l.answers [
      | inl w ↦ inl (subst (λ (z : List ℕ). Begins (token_lines so_far) z)
          (sym (l.lines_are ∙ ap (λ (z : List Token). token_lines z ++ fault_lines l.fault) w.0))
          (lines_begin so_far a.tokens l.fault (settled_so_far s given)))
      | inr w ↦ inr (inl (record {
        before = token_lines l.tokens;
        is = l.lines_are ∙ ap (λ (z : Option Fault). token_lines l.tokens ++ fault_lines z) w.1;
      }))
    ]

-- or a part of it
pub part_begins : (s : yaml_encoding_t) (last : Bool) (given told lines : List ℕ) (n : ℕ) → IsBeginning s last given (told ++ lines)
    → IsBeginning s last given (told ++ take n lines)
part_begins s last given told lines n b input m = let l = b input m in record {
  all = l.all;
  has_fault = l.has_fault;
  lists = l.lists;
  begins = begins_less told lines l.all n l.begins;
}

-- what was written of all that is settled
pub wrote_some : (s : yaml_encoding_t) (last : Bool) (given : List ℕ) (k : yaml_fed_parser_t) (start end : Option (List ℕ))
    (r : Result (Option Bool) tool_fault_t) → Wrote SettledAll s last given k start end r → Wrote Settled s last given k start end r
wrote_some s last given k start end (Ok told) w = (w.0, w.1, w.2.0)
wrote_some s last given k start end (Err fault) w = w

-- RESULTS
-- an error has what all errors have
pub by_error : {A E : Type 0} (r : Result A E) (P : A → Type 0) (Q : Type 0) → IsErr r → Q → MatchResult r P (λ _. Q)
by_error (Ok x) P Q e q = absurd (cc (e))
by_error (Err x) P Q e q = q

pub if_error : {A E : Type 0} (r : Result A E) (Q P : E → Type 0) → IsErrAnd r Q → ((y : E) → Q y → P y) → IfErr r P
if_error (Ok x) Q P h f = absurd h
if_error (Err y) Q P h f = f y h

-- a write or memory failed, and no read
pub no_read : (y f : tool_fault_t) → y ≡ f → (f ≡ Write) ⊎ (f ≡ Memory) → y ≡ Read → ⊥
no_read y f h (inl write) e = let k : Write ≡ Read = sym write ∙ sym h ∙ e in cc
no_read y f h (inr memory) e = let k : Memory ≡ Read = sym memory ∙ sym h ∙ e in cc

-- what was listed, by what the parser says
pub over_listed : (s : yaml_encoding_t) (last : Bool) (given : List ℕ) (k : yaml_fed_parser_t) (lines : List ℕ) (r : yaml_fed_t)
    → r ≡ code.OVER → Listed s last given k lines r → IsListing s last given lines false
over_listed s last given k lines r e w = subst (λ (x : yaml_fed_t). Listed s last given k lines x) e w

pub fault_listed : (s : yaml_encoding_t) (last : Bool) (given : List ℕ) (k : yaml_fed_parser_t) (lines : List ℕ) (r : yaml_fed_t)
    → r ≡ code.FAULT → Listed s last given k lines r
    → (f : Fault) × EndsByFault k f × IsListing s last given (lines ++ fault_line f) true
fault_listed s last given k lines r e w = subst (λ (x : yaml_fed_t). Listed s last given k lines x) e w

pub more_listed : (s : yaml_encoding_t) (last : Bool) (given : List ℕ) (k : yaml_fed_parser_t) (lines : List ℕ) (r : yaml_fed_t)
    → (r ≡ code.OVER → ⊥) → (r ≡ code.FAULT → ⊥) → Listed s last given k lines r → (last ≡ false) × IsAt s given k lines × ListsSettled s given lines
more_listed s last given k lines code.OVER a b w = absurd (a refl)
more_listed s last given k lines code.FAULT a b w = absurd (b refl)
more_listed s last given k lines code.ROOM a b w = w
more_listed s last given k lines code.MORE a b w = w
more_listed s last given k lines code.WHOLE a b w = w

-- MORE IS READ
pub more_read : (s : yaml_encoding_t) (given bytes : List ℕ) (k : yaml_fed_parser_t) (lines : List ℕ) → IsAt s given k lines
    → IsAt s (given ++ bytes) k lines
more_read s given bytes k lines at = record {
  fed = comes at.fed bytes false;
  is = more_comes at.fed k bytes false at.more at.is;
  setting_is = at.setting_is;
  limit = at.limit;
  given_is = ap (λ (z : List ℕ). z ++ bytes) at.given_is;
  more = refl;
  still_open = at.still_open;
  tokens = at.tokens;
  count = at.count;
  first = λ input b. at.first input (record { rest = bytes ++ b.rest; is = b.is ∙ append_assoc given bytes b.rest });
  lines_are = at.lines_are;
}

-- WHAT A CALL GIVES
module _ (s : yaml_encoding_t) (given : List ℕ) (k : yaml_fed_parser_t) (told : List ℕ) (last : Bool) (at : IsAt s given k told) where
  -- the parser, once it is known whether more may come
  abbrev pub p : Fed
  p = comes at.fed [] last

  pub given_now : p.given ≡ given
  given_now = append-nil at.fed.given ∙ at.given_is

  pub fed_now : IsFed p k
  fed_now = more_comes at.fed k [] last at.more at.is

  may_be : (input : List ℕ) → MayBe last given input → MayBe p.whole p.given input
  may_be input m = subst (λ (z : List ℕ). MayBe last z input) (sym given_now) m

  same_answers : (input : List ℕ) → answers_to p.limit p.setting input ≡ answers_to usual_key_limit s input
  same_answers input = λ j. answers_to (at.limit j) (at.setting_is j) input

  module _ (l : yaml_fed_parser_t) (lines : List ℕ) (took : List Token → Type 0) (lacks : ℕ → ℕ → Type 0) (result : yaml_fed_t) (g : GivesFed p l result took lacks)
      (lines_are : (tokens : List Token) → took tokens → lines ≡ token_lines tokens)
      (none : (n m : ℕ) → lacks n m → ⊥) where
    abbrev q : Fed
    q = g.left

    abbrev all : List Token
    all = at.tokens ++ g.tokens

    setting_left : q.setting ≡ s
    setting_left = ap (λ (z : Fed). z.setting) g.gives.same ∙ at.setting_is

    limit_left : q.limit ≡ usual_key_limit
    limit_left = ap (λ (z : Fed). z.limit) g.gives.same ∙ at.limit

    given_left : q.given ≡ given
    given_left = ap (λ (z : Fed). z.given) g.gives.same ∙ given_now

    whole_left : q.whole ≡ last
    whole_left = ap (λ (z : Fed). z.whole) g.gives.same

    answers_left : (input : List ℕ) → answers_to q.limit q.setting input ≡ answers_to usual_key_limit s input
    answers_left input = λ j. answers_to (limit_left j) (setting_left j) input

    count : q.session.taken ≡ length all
    count = let c = g.gives.taken in let n = at.count in omega (arith, length-append at.tokens g.tokens)

    first : (input : List ℕ) → MayBe last given input → all ≡ take (length all) (answers_to usual_key_limit s input).tokens
    first input m =
        let xs = (answers_to usual_key_limit s input).tokens in
        let a = at.first input (may_begin last given input m) in
        let b = g.gives.next input (may_be input m)
        ∙ ap (λ (z : Answers). take (length g.tokens) (drop p.session.taken z.tokens)) (same_answers input)
        ∙ ap (λ (n : ℕ). take (length g.tokens) (drop n xs)) at.count in
        ap (λ (z : List Token). z ++ g.tokens) a
        ∙ ap (λ (z : List Token). take (length at.tokens) xs ++ z) b
        ∙ sym (take-add (length at.tokens) (length g.tokens) xs)
        ∙ ap (λ (n : ℕ). take n xs) (sym (length-append at.tokens g.tokens))

    all_lines : told ++ lines ≡ token_lines all
    all_lines =
        ap (λ (z : List ℕ). z ++ lines) at.lines_are
        ∙ ap (λ (z : List ℕ). token_lines at.tokens ++ z) (lines_are g.tokens g.given)
        ∙ sym (lines_split at.tokens g.tokens)

    taken_all : (f : Option Fault) → HasTakenAll q f → (input : List ℕ) → MayBe last given input
        → AllOf (answers_to usual_key_limit s input) all f
    taken_all f h input m =
        let w = subst (λ (b : Bool). MayBe b q.given input) (sym whole_left) (subst (λ (z : List ℕ). MayBe last z input) (sym given_left) m) in
        let t = h input w in
        let xs = (answers_to usual_key_limit s input).tokens in (
          first input m
              ∙ ap (λ (n : ℕ). take n xs) (sym count)
              ∙ ap (λ (z : Answers). take q.session.taken z.tokens) (sym (answers_left input))
              ∙ t.0
              ∙ ap (λ (z : Answers). z.tokens) (answers_left input),
          t.1 ∙ ap (λ (z : Answers). z.fault) (answers_left input),
        )

    lists_all : (f : Option Fault) (b : Bool) → b ≡ is_some f → HasTakenAll q f → IsListing s last given ((told ++ lines) ++ fault_lines f) b
    lists_all f b e h input m = record {
      tokens = all;
      fault = f;
      answers = inl (taken_all f h input m);
      lines_are = ap (λ (z : List ℕ). z ++ fault_lines f) all_lines;
      fault_is = e;
    }

    lists_refused : IsListing s last given ((told ++ lines) ++ fault_line memory_fault) true
    lists_refused input m = record {
      tokens = all;
      fault = Some memory_fault;
      answers = inr (
        subst (λ (z : List Token). Begins z (answers_to usual_key_limit s input).tokens) (sym (first input m))
            (take_begins (length all) (answers_to usual_key_limit s input).tokens),
        refl,
      );
      lines_are = ap (λ (z : List ℕ). z ++ fault_line memory_fault) all_lines;
      fault_is = refl;
    }

    has_line : (f : Fault) → HasTakenAll q (Some f) → HasLine f
    has_line f h = (reads_have_lines usual_key_limit s given all (Some f) (inl (taken_all (Some f) h given (may_be_all last given)))).1

    on : q.session.over ≡ false → last ≡ false → IsAt s given l (told ++ lines)
    on over goes = record {
      fed = q;
      is = g.is;
      setting_is = setting_left;
      limit = limit_left;
      given_is = given_left;
      more = whole_left ∙ goes;
      still_open = over;
      tokens = all;
      count = count;
      first = λ input b. first input (subst (λ (x : Bool). MayBe x given input) (sym goes) b);
      lines_are = all_lines;
    }

    -- all that is settled was given
    abbrev so_far : List Token
    so_far = (answers usual_key_limit (unfinished s given)).tokens

    same_so_far : (answers p.limit (unfinished p.setting p.given)).tokens ≡ so_far
    same_so_far = λ j. (answers (at.limit j) (unfinished (at.setting_is j) (given_now j))).tokens

    settled : length (answers p.limit (unfinished p.setting p.given)).tokens ≤ q.session.taken → ListsSettled s given (told ++ lines)
    settled few =
        let less : length so_far ≤ length all = (let n = ap length same_so_far in let c = count in omega (arith, few)) in
        inl (subst (λ (z : List ℕ). Begins (token_lines so_far) z) (sym all_lines)
        (begins_lines so_far all (begins_more so_far all (answers_to usual_key_limit s given).tokens (settled_so_far s given)
        (first given (may_be_all last given)) less)))

    in_utf16 : (is_known p.setting p.given ≡ true) × (encoding_of p.setting p.given ≢ YAML_UTF8_ENCODING) → ListsSettled s given (told ++ lines)
    in_utf16 w = inr (inr (subst (λ (z : List ℕ). (is_known s z ≡ true) × (encoding_of s z ≢ YAML_UTF8_ENCODING)) given_now
        (subst (λ (z : yaml_encoding_t). (is_known z p.given ≡ true) × (encoding_of z p.given ≢ YAML_UTF8_ENCODING)) at.setting_is w)))

    goes_on : (w : Why) → EndsBy p q w → (w ≡ MORE) ⊎ (w ≡ WHOLE)
        → (last ≡ false) × IsAt s given l (told ++ lines) × ListsSettled s given (told ++ lines)
    goes_on w ends (inl e) = let z = subst (λ (x : Why). EndsBy p q x) e ends in (z.1, on z.0 z.1, settled z.2.tokens)
    goes_on w ends (inr e) = let z = subst (λ (x : Why). EndsBy p q x) e ends in (z.1, on z.0 z.1, in_utf16 (z.2, z.3))

    no_room : HasNoRoom lacks q → ⊥
    no_room (inl w) = none 1 0 w
    no_room (inr w) = none 1 _ w.3

    by_fault : (f : Fault) → (f ≡ memory_fault) ⊎ HasTakenAll q (Some f)
        → HasLine f × IsListing s last given ((told ++ lines) ++ fault_line f) true
    by_fault f (inl e) = (
      subst (λ (x : Fault). HasLine x) (sym e) tt,
      subst (λ (x : Fault). IsListing s last given ((told ++ lines) ++ fault_line x) true) (sym e) lists_refused,
    )
    by_fault f (inr h) = (has_line f h, lists_all (Some f) true refl h)

    over_lists : EndsBy p q OVER → IsListing s last given (told ++ lines) false
    over_lists ends = subst (λ (z : List ℕ). IsListing s last given z false) (append-nil (told ++ lines))
        (lists_all None false refl (ends.1 (inl at.still_open)).1)

    by_result : (r : yaml_fed_t) → r ≡ result → IsWhy r q g.why → Listed s last given l (told ++ lines) r
    by_result code.ROOM e w = absurd (no_room (g.room (sym e)))
    by_result code.MORE e w = goes_on g.why g.gives.ends (inl w)
    by_result code.WHOLE e w = goes_on g.why g.gives.ends (inr w)
    by_result code.OVER e w = over_lists (subst (λ (x : Why). EndsBy p q x) w g.gives.ends)
    by_result code.FAULT e w =
        let ends = subst (λ (x : Why). EndsBy p q x) w.2 g.gives.ends in
        let b = by_fault w.0 ends.3 in
        (w.0, (q, g.is, w.1, b.0), b.1)

    pub listed : Listed s last given l (told ++ lines) result
    listed = by_result result refl g.is_why
