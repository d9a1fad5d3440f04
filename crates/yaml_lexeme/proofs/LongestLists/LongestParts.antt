-- What is read as a list of parts is the longest list.
use Rattle.std.proofs.Common.{◌≡◌, ℕ, zero, suc, ◌+◌, ◌<◌, List, [], ◌∷◌, ◌++◌, length, take, Some, None, Ok, Err, refl}
use Rattle.std.proofs.Common.{sym, ap, ◌∙◌, subst, arith, append_assoc}
use Rattle.std.proofs.lemmas.List.{append-nil, append_cancel_right, length-take-le, take-append-drop}
use Rattle.yaml_lexeme.specs.Order.{IsBeyond}
use Rattle.yaml_lexeme.specs.Parts.{Piece, past, IsPiece, Pieces, texts, values, IsLongest, OthersBegin}
use Rattle.yaml_lexeme.specs.Place.{Place, skip}
use Rattle.yaml_lexeme.specs.Reading.{Offence, Found, Read, found, ◌>>=◌, Part, part, over, with_front, go_on, many}
use Rattle.yaml_lexeme.proofs.MarkOrder.ReadingAhead.{shorter, part_shorter, PartAhead}
use Rattle.yaml_lexeme.proofs.Parts.PartByPart.{Shortens, many_turn}
use Rattle.yaml_lexeme.proofs.Places.PlaceMoves.{rest_skip}

-- each part takes a character or more
abbrev pub Advances : {A : Type 0} → (Place → Part A) → Type 0
Advances one = (p : Place) → PartAhead 1 p (one p)

-- what is read from p on: pieces, and then none
abbrev Reads : {A : Type 0} → (Place → Part A) → Place → Read (List A) → Type 0
Reads {A} one p (Ok f) = (ts : List (Piece A)) × Pieces one p ts f.end × (f.value ≡ values ts) × (one f.end ≡ over)
Reads {A} one p (Err e) = (ts : List (Piece A)) × (q : Place) × Pieces one p ts q × (one q ≡ Err e)

abbrev piece_of : {A : Type 0} → ℕ → Place → A → Piece A
piece_of n p value = record { text = take n p.rest; value = value }

-- a text, cut after n characters
pub split : (n : ℕ) (p : Place) → p.rest ≡ take n p.rest ++ (skip n p).rest
split n p = sym (ap (λ (cs : List ℕ). take n p.rest ++ cs) (rest_skip n p) ∙ take-append-drop n p.rest)

is_piece : {A : Type 0} → (one : Place → Part A) (p : Place) (f : Found A) → one p ≡ part f.value f.end → (a : IsBeyond 1 p f.end) → IsPiece one p (piece_of a.count p f.value) × (past (piece_of a.count p f.value) p ≡ f.end)
is_piece one p f e a =
    let n = a.count in
    let len : length (take n p.rest) ≡ n = length-take-le n p.rest a.within in
    let there : skip (length (take n p.rest)) p ≡ skip n p = ap (λ (k : ℕ). skip k p) len in (
      record {
        some = omega (arith, a.least, len);
        text = split n p ∙ ap (λ (q : Place). take n p.rest ++ q.rest) (sym there);
        read = e ∙ ap (λ (q : Place). part f.value q) (a.is ∙ sym there);
      },
      there ∙ sym a.is,
    )

front : {A : Type 0} → (one : Place → Part A) (p : Place) (f : Found A) → one p ≡ part f.value f.end → IsBeyond 1 p f.end → (r : Read (List A)) → Reads one f.end r → Reads one p (with_front (f.value ∷ []) r)
front {A} one p f e a (Ok g) h =
    let i = is_piece one p f e a in
    (piece_of a.count p f.value ∷ h.0, (i.0, subst (λ (x : Place). Pieces one x h.0 g.end) (sym i.1) h.1), ap (λ (vs : List A). f.value ∷ vs) h.2, h.3)
front one p f e a (Err o) h =
    let i = is_piece one p f e a in
    (piece_of a.count p f.value ∷ h.0, h.1, (i.0, subst (λ (x : Place). Pieces one x h.0 h.1) (sym i.1) h.2), h.3)

turn : {A : Type 0} → (one : Place → Part A) (p : Place) (r : Part A) → one p ≡ r → PartAhead 1 p r → ((x : Place) → length x.rest < length p.rest → Reads one x (many one x)) → Reads one p (r >>= λ a. go_on (many one) p a)
turn one p (Ok (Some f)) e a more = front one p f e a (many one f.end) (more f.end (shorter p f.end a))
turn one p (Ok None) e a more = ([], refl, refl, e)
turn one p (Err o) e a more = ([], p, refl, e)

shortens : {A : Type 0} → (one : Place → Part A) → Advances one → Shortens one
shortens one all p = part_shorter p (one p) (all p)

reads_within : {A : Type 0} → (one : Place → Part A) → Advances one → (n : ℕ) (p : Place) → length p.rest < n → Reads one p (many one p)
reads_within one all zero p h = absurd (omega arith)
reads_within {A} one all (suc n) p h =
    subst (λ (r : Read (List A)). Reads one p r) (sym (many_turn one (shortens one all) p)) (turn one p (one p) refl (all p) (λ x l. reads_within one all n x (omega arith)))

reads : {A : Type 0} → (one : Place → Part A) → Advances one → (p : Place) → Reads one p (many one p)
reads one all p = reads_within one all (length p.rest + 1) p (omega arith)

joins : {A : Type 0} → (one : Place → Part A) (ts : List (Piece A)) (p q : Place) → Pieces one p ts q → p.rest ≡ texts ts ++ q.rest
joins one [] p q h = ap (λ (x : Place). x.rest) (sym h)
joins one (t ∷ ts) p q h = h.0.text ∙ ap (λ (cs : List ℕ). t.text ++ cs) (joins one ts (past t p) q h.1) ∙ sym (append_assoc t.text (texts ts) q.rest)

-- the text of pieces is what is between
pub joined_of : {A : Type 0} {one : Place → Part A} {p : Place} {ts : List (Piece A)} {q : Place} {next : Part A} → IsLongest one p ts q next → p.rest ≡ texts ts ++ q.rest
joined_of {one = one} {p = p} {ts = ts} {q = q} l = joins one ts p q l.pieces

begin : {A : Type 0} → (r : Read (List A)) → r ≡ with_front [] r
begin (Ok r) = refl
begin (Err e) = refl

fronts : {A : Type 0} → (v : A) (vs : List A) (r : Read (List A)) → with_front (v ∷ []) (with_front vs r) ≡ with_front (v ∷ vs) r
fronts v vs (Ok r) = refl
fronts v vs (Err e) = refl

-- the pieces, and what is read after them
many_as : {A : Type 0} → (one : Place → Part A) → Advances one → (ts : List (Piece A)) (p q : Place) (r : Read (List A)) → Pieces one p ts q → many one q ≡ r → many one p ≡ with_front (values ts) r
many_as one all [] p q r h e = ap (many one) (sym h) ∙ e ∙ begin r
many_as one all (t ∷ ts) p q r h e =
    many_turn one (shortens one all) p ∙ ap (λ a. a >>= λ b. go_on (many one) p b) h.0.read
    ∙ ap (with_front (t.value ∷ [])) (many_as one all ts (past t p) q r h.1 e) ∙ fronts t.value (values ts) r

-- the pieces that `many` reads
pub record Longest {A : Type 0} (one : Place → Part A) (p : Place) (f : Found (List A)) : Type 0 where
  pub pieces : List (Piece A)
  pub values_are : f.value ≡ values pieces
  pub is : IsLongest one p pieces f.end over

of_found : {A : Type 0} → (one : Place → Part A) (p : Place) (f : Found (List A)) → Reads one p (Ok f) → Longest one p f
of_found one p f h = record { pieces = h.0; values_are = h.2; is = record { pieces = h.1; stops = h.3 } }

pub many_longest : {A : Type 0} → (one : Place → Part A) → Advances one → (p : Place) (f : Found (List A)) → many one p ≡ Ok f → Longest one p f
many_longest {A} one all p f e = of_found one p f (subst (λ (r : Read (List A)). Reads one p r) e (reads one all p))

-- and if it is refused
pub many_refused : {A : Type 0} → (one : Place → Part A) → Advances one → (p : Place) (e : Offence) → many one p ≡ Err e → (ts : List (Piece A)) × (q : Place) × IsLongest one p ts q (Err e)
many_refused {A} one all p e h =
    let r = subst (λ (r : Read (List A)). Reads one p r) h (reads one all p) in
    (r.0, r.1, record { pieces = r.2; stops = r.3 })

pub found_of : {A : Type 0} → (one : Place → Part A) → Advances one → (p : Place) (ts : List (Piece A)) (q : Place) → IsLongest one p ts q over → many one p ≡ found (values ts) q
found_of {A} one all p ts q l =
    many_as one all ts p q (found [] q) l.pieces (many_turn one (shortens one all) q ∙ ap (λ a. a >>= λ b. go_on (many one) q b) l.stops)
    ∙ ap (λ (vs : List A). found vs q) (append-nil (values ts))

pub refused_of : {A : Type 0} → (one : Place → Part A) → Advances one → (p : Place) (ts : List (Piece A)) (q : Place) (e : Offence) → IsLongest one p ts q (Err e) → many one p ≡ Err e
refused_of one all p ts q e l =
    many_as one all ts p q (Err e) l.pieces (many_turn one (shortens one all) q ∙ ap (λ a. a >>= λ b. go_on (many one) q b) l.stops)

-- the value of a part, and the place after it
part_value : {A : Type 0} → A → Part A → A
part_value a (Ok (Some f)) = f.value
part_value a other = a

part_end : {A : Type 0} → Place → Part A → Place
part_end q (Ok (Some f)) = f.end
part_end q other = q

-- a place gives one piece
same_piece : {A : Type 0} → (one : Place → Part A) (p : Place) (t u : Piece A) → IsPiece one p t → IsPiece one p u → t ≡ u
unfolding part_value part_end
same_piece {A} one p t u h k =
    let read : part t.value (past t p) ≡ part u.value (past u p) = sym h.read ∙ k.read in
    let value : t.value ≡ u.value = ap (part_value t.value) read in
    let place : past t p ≡ past u p = ap (part_end p) read in
    let rest : (past u p).rest ≡ (past t p).rest = ap (λ (q : Place). q.rest) (sym place) in
    let joined : t.text ++ (past t p).rest ≡ u.text ++ (past t p).rest = sym h.text ∙ k.text ∙ ap (λ (cs : List ℕ). u.text ++ cs) rest in
    let text : t.text ≡ u.text = append_cancel_right t.text u.text (past t p).rest joined in
    let from : t ≡ record { text = u.text; value = t.value } = ap (λ (cs : List ℕ). let piece : Piece A = record { text = cs; value = t.value } in piece) text in
    from ∙ ap (λ (v : A). let piece : Piece A = record { text = u.text; value = v } in piece) value

-- so any other list of pieces is a beginning of the longest one
pub others_begin : {A : Type 0} → (one : Place → Part A) → OthersBegin one
others_begin one p ts q next l none [] x h = (ts, refl)
others_begin one p [] q next l none (u ∷ us) x h =
    absurd (none (record { value = u.value; end = past u p }) (sym l.stops ∙ ap one l.pieces ∙ h.0.read))
others_begin {A} one p (t ∷ ts) q next l none (u ∷ us) x h =
    let same : u ≡ t = same_piece one p u t h.0 l.pieces.0 in
    let rest : Pieces one (past t p) us x = subst (λ (v : Piece A). Pieces one (past v p) us x) same h.1 in
    let more = others_begin one (past t p) ts q next (record { pieces = l.pieces.1; stops = l.stops }) none us x rest in
    (more.0, ap (λ (v : Piece A). v ∷ ts) (sym same) ∙ ap (λ (vs : List (Piece A)). u ∷ vs) more.1)
