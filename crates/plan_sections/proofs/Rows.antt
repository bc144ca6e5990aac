-- Worked rows: what stands behind a plan, and documents that are a plan's own or have more sections.
use Rattle.std.proofs.Common.{◌≡◌, ◌∷◌, [], ℕ, zero, suc, ◌<◌, List, true, false, refl, arith}
use Rattle.std.specs.Prelude.{codes, pos}
use Rattle.document_json.specs.Doc.{Doc, DocTable, doc_table}
use Rattle.document_origin.specs.Origin.{IsTableOf}
use Rattle.rail_model.specs.Table.{Section}
use Rattle.plan_sections.specs.Written.{AreBehind, HaveAsMany, IsWhole, is_gap}

a_gap : is_gap (codes "\n\n") ≡ true
a_gap = refl

no_gap : is_gap (codes " \n") ≡ false
no_gap = refl

-- an entry behind a plan of one line
behind_row : AreBehind (codes "open = true\n") (codes "[[section]]\n") (codes "open = true\n\n[[section]]\n")
behind_row = record { gap = codes "\n"; is_gap = refl; is_text = refl }

-- T0 goes from A to B, and has a section to itself there
abbrev the_section : Section
the_section = record { limit = 1; changes = (pos 0 ∷ pos 1 ∷ []) ∷ [] }

abbrev table_with : List Section → DocTable
table_with sections = record {
  table = record { missions = record { points = 0 ∷ 1 ∷ []; exits = false } ∷ []; sections = sections; connections = [] };
  after = 0;
  times = (2 ∷ []) ∷ [];
  nodes = [];
}

abbrev document_with : ℕ → List Section → Doc
document_with version sections = record {
  version = version;
  layout = record {
    points = record { name = codes "A"; zone = 0 } ∷ record { name = codes "B"; zone = 0 } ∷ [];
    links = record { first = 0; second = 1 } ∷ [];
    zones = 1;
  };
  trains = codes "T0" ∷ [];
  tables = table_with sections ∷ [];
  start = 0 ∷ [];
}

-- the version may be another
whole_row : IsWhole (document_with 2 (the_section ∷ [])) (document_with 3 (the_section ∷ []))
whole_row = record { is_of = record { layout = refl; trains = refl; start = refl; count = refl; tables = tables }; as_many = counts }
  where
    tables : (t : ℕ) → t < 1 → IsTableOf (doc_table (document_with 2 (the_section ∷ [])) t) (doc_table (document_with 3 (the_section ∷ [])) t)
    tables zero lt = record { missions = refl; times = refl; connections = refl; after = refl; sections = ([], refl) }
    tables (suc t) lt = absurd (omega (arith, lt))

    counts : HaveAsMany (document_with 2 (the_section ∷ [])) (document_with 3 (the_section ∷ []))
    counts zero lt = refl
    counts (suc t) lt = absurd (omega (arith, lt))

-- one section more is one too many
more_row : HaveAsMany (document_with 3 (the_section ∷ the_section ∷ [])) (document_with 3 (the_section ∷ [])) → ⊥
more_row even = let counts : 2 ≡ 1 = even 0 (omega arith) in absurd (omega (arith, counts))
