-- Worked rows: a train that comes to C, or to B, two ticks later.
use Rattle.std.proofs.Common.{◌≡◌, ◌∷◌, [], ℕ, List, Some, None, true, false, refl}
use Rattle.std.specs.Prelude.{codes}
use Rattle.rail_model.specs.Layout.{Layout}
use Rattle.document_json.specs.Doc.{Doc, DocTable, times_of}
use Rattle.delayed_documents.specs.Delayed.{first_step_to, with_delay}
use Rattle.delayed_documents.specs.declared.delay.Delay.{Delay}

abbrev layout : Layout
layout = record {
  points = record { name = codes "A"; zone = 0 } ∷ record { name = codes "B"; zone = 0 } ∷ record { name = codes "C"; zone = 0 } ∷ [];
  links = record { first = 0; second = 1 } ∷ record { first = 1; second = 2 } ∷ [];
  zones = 1;
}

-- T0 leaves the layout from C, and T1 goes this way
abbrev table_of : List ℕ → List ℕ → DocTable
table_of points times = record {
  table = record {
    missions = record { points = 2 ∷ []; exits = true } ∷ record { points = points; exits = false } ∷ [];
    sections = [];
    connections = [];
  };
  after = 0;
  times = (1 ∷ []) ∷ times ∷ [];
  nodes = [];
}

abbrev document : Doc
document = record {
  version = 3;
  layout = layout;
  trains = codes "T0" ∷ codes "T1" ∷ [];
  tables = table_of (0 ∷ 1 ∷ 2 ∷ []) (3 ∷ 4 ∷ []) ∷ table_of (0 ∷ 1 ∷ 2 ∷ 1 ∷ []) (5 ∷ 6 ∷ 7 ∷ [])
      ∷ table_of (2 ∷ 1 ∷ 0 ∷ []) (8 ∷ 9 ∷ []) ∷ [];
  start = 0 ∷ 0 ∷ [];
}

-- T1 comes to a point two ticks later
abbrev delay_at : List ℕ → Delay
delay_at point = record {
  train = record { ref_ptr = (0, 0); now = codes "T1" };
  point = record { ref_ptr = (0, 0); now = point };
  ticks = 2;
}

-- over A, B and C the second step leads to C; from C over B to A none does, since C is the start
step_row : first_step_to layout (codes "C") (record { points = 0 ∷ 1 ∷ 2 ∷ []; exits = false }) ≡ Some 1
step_row = refl

start_row : first_step_to layout (codes "C") (record { points = 2 ∷ 1 ∷ 0 ∷ []; exits = true }) ≡ None
start_row = refl

-- so T1 comes to C later under the first two tables, and the third stays
delayed_row : times_of (with_delay document 1 (delay_at (codes "C"))) ≡
    ((1 ∷ []) ∷ (3 ∷ 6 ∷ []) ∷ []) ∷ ((1 ∷ []) ∷ (5 ∷ 8 ∷ 7 ∷ []) ∷ []) ∷ ((1 ∷ []) ∷ (8 ∷ 9 ∷ []) ∷ []) ∷ []
delayed_row = refl

-- where a way leads to B twice, the first step there is longer
twice_row : times_of (with_delay document 1 (delay_at (codes "B"))) ≡
    ((1 ∷ []) ∷ (5 ∷ 4 ∷ []) ∷ []) ∷ ((1 ∷ []) ∷ (7 ∷ 6 ∷ 7 ∷ []) ∷ []) ∷ ((1 ∷ []) ∷ (10 ∷ 9 ∷ []) ∷ []) ∷ []
twice_row = refl
