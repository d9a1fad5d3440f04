-- What the functions of decoding keep is kept of the front.
use Rattle.std.proofs.Common.{◌≡◌, ℕ, ◌+◌, ◌<◌, ◌≤◌, Bool, List, [], length, take, drop, Option, None, Some, Result, Ok, Err, refl, sym, ap, ◌∙◌, subst, arith}
use Rattle.std.specs.Prelude.{option_map, IfOk, IsNone, IfSome}
use Rattle.std.specs.Str.{chars}
use Rattle.std.proofs.lemmas.List.{length-drop}
use Rattle.yaml_text.specs.declared.types.yaml_encoding_t.{yaml_encoding_t}
use Rattle.yaml_text.specs.declared.types.yaml_encoding_t.TheVariants.{YAML_UTF8_ENCODING}
use Rattle.yaml_text.specs.declared.offence.offence_t.{offence_t}
use Rattle.yaml_text.specs.TextBytes.{IsText}
use Rattle.yaml_text.specs.Utf8.{offence8}
use Rattle.yaml_text.specs.Utf16.{offence16}
use Rattle.yaml_text.specs.inside.Units.{Reads16, BeginsWithNone16}
use Rattle.yaml_text.specs.Fault.{Fault, reader_fault}
use Rattle.yaml_text.specs.Text.{Text}
use Rattle.yaml_text.specs.Decode.{front, refusal, encoding_of, bom_len}
use Rattle.yaml_text.specs.Decoding.{BeginsWithNone}
use Rattle.yaml_text.specs.Kept.{IsKeptOf, KeptText}
use Rattle.yaml_text.specs.inside.Fronts.{order, KeepsFront}
use Rattle.yaml_text.proofs.Decodings.DecodeResults.{Told, by_encoding, fronts8, fronts16}

-- in UTF-8 it is a part of the input
pub keeps8 : (before len : ℕ) (input : List ℕ) (kept : KeptText) (fault : Option Fault) (o : Option offence_t)
    → kept ≡ record { encoding = YAML_UTF8_ENCODING; own = None; start = before; len = len } → before ≤ length input
    → len ≤ length (drop before input) → IsText (take len (drop before input))
    → BeginsWithNone YAML_UTF8_ENCODING (drop len (drop before input)) → (IsNone o → len ≡ length (drop before input))
    → IfSome o (λ x. x ≡ offence8 (drop len (drop before input)))
    → IfSome o (λ x. len + x.offset < length (drop before input)) → fault ≡ option_map (reader_fault (before + len)) o
    → KeepsFront YAML_UTF8_ENCODING before input kept fault
keeps8 before len input kept fault o kept-is begins within text none whole is left fault-is =
    let part = take len (drop before input) in
    let whole-text : Text = record { encoding = YAML_UTF8_ENCODING; chars = chars part } in
    subst (λ (k : KeptText). KeepsFront YAML_UTF8_ENCODING before input k fault) (sym kept-is) (record {
      text = whole-text;
      keeps = record { is = refl; each = text; within = omega (arith, length-drop before input) };
      front = fronts8 _ _ _ _ _ _ refl within text none whole is left fault-is;
    })

-- in UTF-16 it is the bytes that were written
pub keeps16 : (big : Bool) (e : yaml_encoding_t) (before len : ℕ) (input utf8 : List ℕ) (kept : KeptText) (fault : Option Fault) (o : Option offence_t)
    → e ≡ order big → kept ≡ record { encoding = e; own = Some utf8; start = 0; len = 0 }
    → Reads16 big (drop before input) utf8 len
    → BeginsWithNone16 big (drop len (drop before input)) → (IsNone o → len ≡ length (drop before input))
    → IfSome o (λ x. x ≡ offence16 big (drop len (drop before input)))
    → IfSome o (λ x. len + x.offset < length (drop before input)) → fault ≡ option_map (reader_fault (before + len)) o
    → KeepsFront (order big) before input kept fault
keeps16 big e before len input utf8 kept fault o e-is kept-is reads none whole is left fault-is =
    let whole-text : Text = record { encoding = order big; chars = chars utf8 } in
    let same : kept ≡ record { encoding = order big; own = Some utf8; start = 0; len = 0 } =
    kept-is ∙ ap (λ (x : yaml_encoding_t). let k : KeptText = record { encoding = x; own = Some utf8; start = 0; len = 0 } in k) e-is in
    subst (λ (k : KeptText). KeepsFront (order big) before input k fault) (sym same) (record {
      text = whole-text;
      keeps = record { is = refl; each = reads.is_text; within = omega arith };
      front = fronts16 big _ _ _ _ _ _ _ refl reads none whole is left fault-is;
    })

-- what is kept of the front, and what is wrong after it
pub record ToldKept (setting : yaml_encoding_t) (input : List ℕ) (kept : KeptText) (fault : Option Fault) : Type 0 where
  pub keeps : IsKeptOf (front setting input) input kept
  pub refusal_is : fault ≡ refusal setting input

pub kept_by_encoding : (setting : yaml_encoding_t) (input : List ℕ) (e f : yaml_encoding_t) (before : ℕ) (kept : KeptText) (fault : Option Fault)
    → f ≡ encoding_of setting input → f ≡ e → before ≡ bom_len setting input → KeepsFront e before input kept fault
    → ToldKept setting input kept fault
kept_by_encoding setting input e f before kept fault f-is e-is before-is k =
    let told : Told setting input k.text fault =
    by_encoding setting input e f before (drop before input) k.text fault f-is e-is before-is refl k.front in
    record {
      keeps = subst (λ (t : Text). IsKeptOf t input kept) told.text_is k.keeps;
      refusal_is = told.refusal_is;
    }

-- what holds of each value holds of the value of a result
pub if_ok : {A E : Type 0} {P Q : A → Type 0} (r : Result A E) → ((x : A) → P x → Q x) → IfOk r P → IfOk r Q
if_ok (Ok x) f h = f x h
if_ok (Err e) f h = tt

-- for any input, the text of no characters is a part of none
pub kept_nothing : (input : List ℕ) (kept : KeptText) → kept ≡ record { encoding = YAML_UTF8_ENCODING; own = None; start = 0; len = 0 }
    → IsKeptOf (record { encoding = YAML_UTF8_ENCODING; chars = [] }) input kept
unfolding chars
kept_nothing input kept is =
    let none : Text = record { encoding = YAML_UTF8_ENCODING; chars = [] } in
    subst (IsKeptOf none input) (sym is) (record { is = refl; each = record { each = tt; spelled = refl }; within = omega arith })
