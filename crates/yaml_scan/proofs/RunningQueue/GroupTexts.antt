-- How many bytes the texts of a group have: only its own token has any.
use Rattle.std.proofs.Common.{◌≡◌, ◌+◌, false, List, [], ◌∷◌, ◌++◌, refl, sym, arith}
use Rattle.std.proofs.lemmas.Bool.{false≢true}
use Rattle.yaml_text.specs.declared.types.yaml_encoding_t.TheVariants.{YAML_UTF8_ENCODING}
use Rattle.yaml_text.specs.Token.{token_of}
use Rattle.yaml_scan.specs.declared.groups.group_t.{group_t}
use Rattle.yaml_scan.specs.Groups.{Token, handed_out}
use Rattle.yaml_scan.specs.Groups.Token.{StreamStart, BlockEnd, BlockSequenceStart, BlockMappingStart, InsertedKey, OfLexeme}
use Rattle.yaml_scan.specs.Laws.{is_of_lexeme}
use Rattle.yaml_scan.specs.Sink.{said_len, texts_len}
use Rattle.yaml_scan.specs.Token.{yaml_token_t}
use Rattle.yaml_scan.specs.inside.Handed.{group_tokens, told_leads}
use Rattle.yaml_scan.specs.inside.Queue.{leads}
use Rattle.yaml_scan.proofs.RunningQueue.CandidateGroup.{AreMade, leads_made}

pub texts_append : (xs ys : List yaml_token_t) → texts_len (xs ++ ys) ≡ texts_len xs + texts_len ys
texts_append [] ys = omega arith
texts_append (x ∷ xs) ys = let r = texts_append xs ys in omega arith

made_silent : (x : Token) → is_of_lexeme x ≡ false → said_len (handed_out YAML_UTF8_ENCODING x).token_data ≡ 0
made_silent StreamStart e = refl
made_silent (BlockEnd m) e = refl
made_silent (BlockSequenceStart m) e = refl
made_silent (BlockMappingStart m) e = refl
made_silent (InsertedKey m) e = refl
made_silent (OfLexeme x) e = absurd (false≢true (sym e))

leads_silent : (xs : List Token) → AreMade xs → texts_len (told_leads xs) ≡ 0
leads_silent [] a = refl
leads_silent (x ∷ xs) a = let r = leads_silent xs a.1 in let m = made_silent x a.0 in omega arith

pub group_len : (y : group_t) → texts_len (group_tokens y) ≡ said_len (token_of y.token).token_data
group_len y = let a = texts_append (told_leads (leads y)) (token_of y.token ∷ []) in let b = leads_silent (leads y) (leads_made y) in omega arith
