use Rattle.std.proofs.Common.{◌≡◌, ◌≢◌, List, ℕ, None, true, false, length, ◌∙◌, ap, sym, subst, inl, inr}
use Rattle.std.specs.Prelude.{◌⊎◌}
use Rattle.yaml_text.specs.Decode.{encoding_of}
use Rattle.yaml_text.specs.declared.types.yaml_encoding_t.TheVariants.{YAML_UTF8_ENCODING}
use Rattle.yaml_scan.specs.Pieces.{is_known}
use Rattle.yaml_scan.specs.Session.{Session}
use Rattle.yaml_scan.specs.declared.fed.yaml_fed_t.TheVariants as code
use Rattle.yaml_scan.specs.declared.fed.yaml_fed_parser_t.{yaml_fed_parser_t}
use Rattle.yaml_scan.specs.inside.Feeding.{BeginsText, IsFed, IsReadyFed}
use Rattle.yaml_scan.proofs.RunningCalls.MoreCame.{awaits_more, can_feed, ready_whole}
use Rattle.yaml_scan.proofs.fed.yaml_fed_parser_t.feed.Goals as goal
use Rattle.yaml_scan.proofs.fed.yaml_fed_parser_t.feed.Goals.{else-last-via-then-last+else-self-eq0, else-last-via-else-last, then-not-self+in_default, else-not-self}

pub returns-then-self-eq0 : goal.returns-then-self-eq0
returns-then-self-eq0 c = λ p e w F. subst (λ (x : List ℕ). IsReadyFed p (record { scanner = c.args.self.now.scanner; came = length x; known = c.args.self.now.known; certain = true }) x) e
    (ready_whole p c.args.self.now F.came F.is c.requires.still_open c.if-self-eq0.true (w ∙ c.if-last.true))

pub returns-in-Some : goal.returns-in-Some
returns-in-Some c = λ p e w F.
    let z = c.in-Some.ensures in
    let k = c.args.self.now in
    let P : List ℕ → Type 0 = λ x. ((c.in-Some.why ≡ code.MORE) × (is_known k.scanner.setting x ≡ false)) ⊎ ((c.in-Some.why ≡ code.WHOLE) × (is_known k.scanner.setting x ≡ true) × (encoding_of k.scanner.setting x ≢ YAML_UTF8_ENCODING)) in (
      subst (λ (x : yaml_fed_parser_t). IsFed p x) (sym z.0) F,
      awaits_more p c.in-Some.why k.scanner.setting F.is.setting (ap (λ (x : Session). x.over) (sym F.is.session) ∙ c.requires.still_open) (w ∙ (elim c.else-last.branch [
        | else-last-via-then-last+else-self-eq0 v ↦ absurd (v.if-self-eq0.false (F.is.unknown c.requires.uncertain c.if-not-self.true))
        | else-last-via-else-last v ↦ v.if-last.false
      ])) (subst P (sym e) z.1),
    )

-- the text is begun, or was
begun : (k l m : yaml_fed_parser_t) (given input : List ℕ) → given ≡ input → k.known ≡ false → BeginsText k input m None → l ≡ m → ((k.known ≡ false) × BeginsText k given l None) ⊎ ((k.known ≡ true) × (l ≡ k))
begun k l m given input e n b q = inl (n, subst (λ (x : yaml_fed_parser_t). BeginsText k given x None) (sym q) (subst (λ (x : List ℕ). BeginsText k x m None) (sym e) b))

pub decode-requires : goal.decode-requires
decode-requires c = let r = c.requires.at in (
  r.0,
  r.1,
  r.2,
  (can_feed r.0 c.args.self.now r.3.came r.3.is c.requires.still_open c.requires.uncertain c.if-not-self.self (elim c.if-not-self.branch [
    | then-not-self+in_default w ↦ begun c.args.self.now c.if-not-self.self w.begin_text.new.self r.0.given c.args.input.now r.1 w.if-not-self.true w.in_default.ensures w.self-is
    | else-not-self w ↦ inr (w.if-not-self.false, w.self-is)
  ])).0,
)

pub returns : goal.returns
returns c = λ p e w F. let n = can_feed p c.args.self.now F.came F.is c.requires.still_open c.requires.uncertain c.if-not-self.self (elim c.if-not-self.branch [
  | then-not-self+in_default w ↦ begun c.args.self.now c.if-not-self.self w.begin_text.new.self p.given c.args.input.now e w.if-not-self.true w.in_default.ensures w.self-is
  | else-not-self w ↦ inr (w.if-not-self.false, w.self-is)
]) in c.decode.ensures p e w n.0 n.1
