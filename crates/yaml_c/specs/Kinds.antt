-- The two kinds of scanners that a handle may hold, and what is said of each.
use Rattle.yaml_c.specs.declared.held.held_t.{held_t}
use Rattle.yaml_c.specs.declared.pieces.held_pieces_t.{held_pieces_t}
use Rattle.yaml_c.specs.declared.kinds.held_any_t.{held_any_t}
use Rattle.yaml_c.specs.declared.kinds.held_any_t.TheVariants.{WHOLE, PIECES}

-- it is a scanner of a whole input, of which this holds
abbrev pub Whole : held_any_t → (held_t → Type 0) → Type 0
Whole (WHOLE h) holds = holds h
Whole (PIECES h) holds = ⊥

-- if it is one, this holds of it
abbrev pub IfWhole : held_any_t → (held_t → Type 0) → Type 0
IfWhole (WHOLE h) holds = holds h
IfWhole (PIECES h) holds = Unit {0}

-- it is a scanner that is given its input in pieces, of which this holds
abbrev pub Pieces : held_any_t → (held_pieces_t → Type 0) → Type 0
Pieces (WHOLE h) holds = ⊥
Pieces (PIECES h) holds = holds h

-- if it is one, this holds of it
abbrev pub IfPieces : held_any_t → (held_pieces_t → Type 0) → Type 0
IfPieces (WHOLE h) holds = Unit {0}
IfPieces (PIECES h) holds = holds h
