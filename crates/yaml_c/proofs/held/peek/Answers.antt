use Rattle.std.proofs.Common.{refl, subst}
use Rattle.yaml_c.specs.Held.{Shows}
use Rattle.yaml_c.specs.Spelled.{Spelled}
use Rattle.yaml_c.specs.Next.{next_of}
use Rattle.yaml_c.proofs.BatchEnds.{spelled_is}
use Rattle.yaml_c.proofs.held.peek.Goals as goal

pub show-requires : goal.show-requires
show-requires c =
    let l = c.look.ensures c.requires.0 c.requires.1 c.requires.2.keeps in
    (l.parser, l.after, l.keeps.kept, l.keeps.ahead, l.known)

pub returns : goal.returns
returns c = λ s same at.
    let l = c.look.ensures s same at.keeps in
    record {
      parser = l.parser;
      after = l.after;
      known = l.known;
      stays = l.stays;
      over = l.over;
      at = record { keeps = l.keeps; encoding = at.encoding; skipped = at.skipped };
      shows = subst (λ (z : Spelled). Shows z (next_of l.parser l.after) c.args.token.now c.args.texts.now
          c.show.new.token c.show.new.texts c.show.new.answer c.show.result)
          (spelled_is s (record { input = c.args.input; skipped = c.args.held.now.skipped }) c.args.held.now same at refl)
          (c.show.ensures l.parser l.after l.keeps.kept l.keeps.ahead);
    }
