-- Worked rows: a document that is of a plan, and ones that aren't.
use Rattle.std.proofs.Common.{◌≡◌, ◌∷◌, [], ℕ, zero, suc, ◌<◌, List, false, refl, arith}
use Rattle.std.specs.Prelude.{codes, pos, slice_index_or}
use Rattle.std.specs.Fmt.{digits}
use Rattle.document_json.specs.Doc.{Doc, DocTable, doc_table}
use Rattle.rail_model.specs.Names.{Names}
use Rattle.rail_model.specs.Table.{Section}
use Rattle.document_origin.specs.Origin.{BeginWith, IsFirst, IsOf, IsTableOf}
use Rattle.document_origin.specs.Words.{difference_words}
use Rattle.document_origin.specs.declared.difference.Part.TheVariants.{Route, Exit}
use Rattle.document_origin.specs.declared.difference.Difference.TheVariants.{Table}

-- T0 goes from A to B, and has a section to itself there
abbrev own : Section
own = record { limit = 1; changes = (pos 0 ∷ pos 1 ∷ []) ∷ [] }

abbrev other : Section
other = record { limit = 2; changes = (pos 0 ∷ pos 1 ∷ []) ∷ [] }

abbrev table_with : List Section → List ℕ → DocTable
table_with sections points = record {
  table = record { missions = record { points = points; exits = false } ∷ []; sections = sections; connections = [] };
  after = 0;
  times = (2 ∷ []) ∷ [];
  nodes = [];
}

abbrev document_with : List Section → List ℕ → Doc
document_with sections points = record {
  version = 3;
  layout = record {
    points = record { name = codes "A"; zone = 0 } ∷ record { name = codes "B"; zone = 0 } ∷ [];
    links = record { first = 0; second = 1 } ∷ [];
    zones = 1;
  };
  trains = codes "T0" ∷ [];
  tables = table_with sections points ∷ [];
  start = 0 ∷ [];
}

abbrev the_plan : Doc
the_plan = document_with (own ∷ []) (0 ∷ 1 ∷ [])

-- a section is added behind the plan's, and the version is another
abbrev added : Doc
added = record (document_with (own ∷ other ∷ []) (0 ∷ 1 ∷ [])) { version = 2 }

added_row : IsOf added the_plan
added_row = record { layout = refl; trains = refl; start = refl; count = refl; tables = tables }
  where
    tables : (t : ℕ) → t < 1 → IsTableOf (doc_table added t) (doc_table the_plan t)
    tables zero lt = record { missions = refl; times = refl; connections = refl; after = refl; sections = (other ∷ [], refl) }
    tables (suc t) lt = absurd (omega (arith, lt))

-- in front of it, it isn't
before_row : BeginWith (own ∷ []) (other ∷ own ∷ []) → ⊥
before_row begins = let limits : 2 ≡ 1 = (λ k. (slice_index_or (begins.1 k) 0 own).limit) in absurd (omega (arith, limits))

-- B is no A
no_way : (codes "B" ∷ codes "A" ∷ []) ≡ (codes "A" ∷ codes "B" ∷ []) → ⊥
no_way same = let letters : 66 ≡ 65 = (λ k. slice_index_or (slice_index_or (same k) 0 []) 0 0) in absurd (omega (arith, letters))

-- the train goes the other way
route_row : IsFirst (document_with (own ∷ []) (1 ∷ 0 ∷ [])) the_plan (Table 0 (Route 0))
route_row = (
  record { trains = refl; count = refl },
  omega arith,
  (λ t lt. absurd (omega (arith, lt))),
  (omega arith, (λ i lt. absurd (omega (arith, lt))), λ same. no_way same),
)

abbrev names : Names
names = record { points = []; trains = codes "T0" ∷ codes "T1" ∷ [] }

words_row : difference_words names (Table 0 (Route 1)) ≡ codes "table 0: train \"T1\" has another route"
unfolding digits
words_row = refl

exit_row : difference_words names (Table 2 (Exit 0)) ≡ codes "table 2: train \"T0\" exits in one of them alone"
unfolding digits
exit_row = refl
