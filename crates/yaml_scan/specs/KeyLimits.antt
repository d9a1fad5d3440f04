-- Key limits: the one that is meant if none is set, and the greatest.
use Rattle.std.specs.Prelude.{ℕ}

-- how many bytes after its start a candidate is live, if no other limit is set
abbrev pub key_limit : ℕ
key_limit = 1024

-- the greatest limit that can be set
abbrev pub most_key_limit : ℕ
most_key_limit = 65536
