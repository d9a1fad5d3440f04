-- A gap is the longest text that is gap lines joined by breaks (YAML 1.1, 6.2 Comments).
use Rattle.std.specs.Prelude.{ℕ, zero, suc, ◌≡◌, ◌⊎◌, ◌<◌, ◌≤◌, Bool, true, false, not, ◌||◌, nat_lt, length}
use Rattle.yaml_text.specs.declared.types.yaml_mark_t.{yaml_mark_t}
use Rattle.yaml_lexeme.specs.Classes.{is_in_line}
use Rattle.yaml_lexeme.specs.Gap.{byte_order_mark, is_gap_blank, gap}
use Rattle.yaml_lexeme.specs.Place.{Place, peek, first, skip, after_run, break_len}
use Rattle.yaml_lexeme.specs.Order.{distance}

-- all characters from p up to q pass
pub record Passes (test : ℕ → Bool) (p q : Place) : Type 0 where
  pub count : ℕ
  pub within : count ≤ length p.rest
  pub is : q ≡ skip count p
  pub all : (i : ℕ) → i < count → test (peek p i) ≡ true

-- a byte order mark at the start of a line, or nothing
abbrev pub MayBeMark : Place → Place → Type 0
MayBeMark p q = (q ≡ p) ⊎ ((p.mark.column ≡ 0) × (first p ≡ byte_order_mark) × (q ≡ skip 1 p))

-- a comment from `#` up to a break or the end, or nothing
abbrev pub MayBeComment : Place → Place → Type 0
MayBeComment p q = (q ≡ p) ⊎ ((first p ≡ 0x23) × Passes is_in_line p q × (is_in_line (first q) ≡ false))

-- a gap line: an optional byte order mark, blanks, and an optional comment
pub record GapLine (tabs : Bool) (p q : Place) : Type 0 where
  pub from : Place
  pub to : Place
  pub mark : MayBeMark p from
  pub blanks : Passes (is_gap_blank tabs) from to
  pub comment : MayBeComment to q

-- Gap lines joined by n breaks. Tabs are blanks in flow, and in the first line if `tabs` says so.
abbrev pub GapLines : ℕ → Bool → Bool → Place → Place → Type 0
GapLines zero flow tabs p q = GapLine tabs p q
GapLines (suc n) flow tabs p q =
    (x : Place) × GapLine tabs p x × (0 < break_len x) × GapLines n flow flow (skip (break_len x) x) q

-- from p up to q is the longest such text, with a break in it or none
pub record LongestGap (flow tabs : Bool) (p q : Place) (broken : Bool) : Type 0 where
  pub breaks : ℕ
  pub text : GapLines breaks flow tabs p q
  pub broken_is : broken ≡ nat_lt 0 breaks
  pub longest : (n : ℕ) (x : Place) → GapLines n flow tabs p x → distance p x ≤ distance p q

-- from p up to a place with the mark is the longest such text, if a key is allowed at p or is not
pub record EndsLongestGap (flow allowed : Bool) (p : Place) (mark : yaml_mark_t) (broken : Bool) : Type 0 where
  pub end : Place
  pub mark_is : mark ≡ end.mark
  pub longest : LongestGap flow (flow || not allowed) p end broken

abbrev pub GapIsLongest : Type 0
GapIsLongest = (flow allowed : Bool) (p : Place) →
    LongestGap flow (flow || not allowed) p (gap flow allowed p).0 (gap flow allowed p).1

-- A run is as many characters that pass as possible.
abbrev pub RunIsLongest : Type 0
RunIsLongest = (test : ℕ → Bool) (p : Place) →
    Passes test p (after_run test p) × (0 < length (after_run test p).rest → test (first (after_run test p)) ≡ false)
