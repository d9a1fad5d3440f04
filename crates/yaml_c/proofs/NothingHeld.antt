-- A value of the type of what is held. A handle that holds nothing knows of some such value, of which nothing is said.
use Rattle.std.proofs.Common.{[], None, false, refl, lit<, lit≤}
use denote.RawPtr.{null_ptr}
use Rattle.std.specs.VecDeque.Ownership.{misplacement}
use Rattle.yaml_text.specs.Fault.{zero_mark}
use Rattle.yaml_text.specs.declared.types.yaml_encoding_t.TheVariants.{YAML_ANY_ENCODING, YAML_UTF8_ENCODING}
use Rattle.yaml_text.specs.declared.token.unnamed_yaml_token_t_data.TheVariants.{NO_TOKEN}
use Rattle.yaml_scan.specs.declared.scanner.scanner_t.{scanner_t as yaml_kept_parser_t}
use Rattle.yaml_c.specs.Handle.{held, heap}
use Rattle.yaml_c.specs.declared.held.ahead_t.TheVariants.{NONE}
use Rattle.yaml_c.specs.declared.kinds.held_any_t.TheVariants.{WHOLE}

no_parser : yaml_kept_parser_t
unfolding misplacement
no_parser = record {
  setting = YAML_ANY_ENCODING;
  text = record { encoding = YAML_UTF8_ENCODING; own = None; start = 0; len = 0 };
  session = record {
    state = record {
      alloc = heap;
      fault = None;
      near = 0;
      limit = 0;
      slots = record {
        outer = record { ptr = null_ptr; len = 0; cap = 0; alloc = heap; items = []; ok = (refl, lit≤ tt); small = lit< tt };
        not_simple_keys = 0;
        top = None;
        awaited = 0;
      };
      allowed = false;
      layout = record {
        levels = record { ptr = null_ptr; len = 0; cap = 0; alloc = heap; items = []; ok = (refl, lit≤ tt); small = lit< tt };
        queue = record {
          groups = record {
            ptr = null_ptr;
            len = 0;
            cap = 0;
            head = 0;
            wrapped = 0;
            alloc = heap;
            items = [];
            ok = (refl, lit≤ tt);
            small = (lit< tt, lit≤ tt);
            ring_fits = refl;
          };
          done = 0;
          early = 0;
          early_mark = zero_mark;
        };
      };
      reach = zero_mark;
      gap_end = zero_mark;
      there = zero_mark;
      taken = 0;
      made = 0;
    };
    lead = record { token_data = NO_TOKEN; start_mark = zero_mark; end_mark = zero_mark };
    peeked = false;
    over = false;
    failed = false;
  };
}

pub nothing_held : held
nothing_held = WHOLE (record {
  parser = no_parser;
  ahead = NONE;
  encoding = 0;
  skipped = None;
  spare = record { ptr = null_ptr; len = 0; cap = 0; alloc = heap; items = []; ok = (refl, lit≤ tt); small = lit< tt };
})
