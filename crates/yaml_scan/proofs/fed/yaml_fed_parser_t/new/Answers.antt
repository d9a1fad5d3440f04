use Rattle.std.proofs.Common.{[], refl, ap}
use Rattle.std.proofs.lemmas.Bool.{false≢true}
use Rattle.yaml_text.specs.Decode.{front}
use Rattle.yaml_text.specs.Pieces.{stand_in}
use Rattle.yaml_text.specs.declared.types.yaml_encoding_t.TheVariants.{YAML_UTF8_ENCODING}
use Rattle.yaml_scan.specs.Parser.{Parser}
use Rattle.yaml_scan.specs.inside.Kept.{scan_of}
use Rattle.yaml_scan.proofs.RunningCalls.MoreCame.{sound_new}
use Rattle.yaml_scan.proofs.fed.yaml_fed_parser_t.new.Goals as goal

pub returns : goal.returns
returns c =
    let k = c.with_key_limit.result in
    let n = c.with_key_limit.ensures.new [] in
    let made = ap (λ (p : Parser). p.session.steps) n in
    record {
      came = [];
      is = record {
        begins = record { rest = []; is = refl };
        came_is = refl;
        setting = ap (λ (p : Parser). p.setting) n;
        limit = ap (λ (p : Parser). p.limit) n;
        session = ap (λ (p : Parser). p.session) n;
        sound = sound_new (scan_of [] k) YAML_UTF8_ENCODING (stand_in (front k.setting []).chars) (c.with_key_limit.ensures.is []).sound (ap (λ (p : Parser). p.session.over) n) made;
        certain = λ e. absurd (false≢true e);
        part = λ a b. absurd (false≢true b);
        unknown = λ a b. made;
        text = λ e o m. absurd (false≢true e);
        all = λ o e. absurd (false≢true o);
      };
    }
