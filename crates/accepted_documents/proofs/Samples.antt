-- A document of one train that goes one way, as the rows cite it.
use Rattle.std.proofs.Common.{ℕ, zero, suc, ◌<◌, List, [], ◌∷◌, codes, refl, arith, lit≤}
use Rattle.std.specs.Prelude.{false}
use Rattle.rail_model.specs.declared.types.Node.{Node}
use Rattle.rail_model.specs.declared.types.Node.TheVariants.{Split, Arrived, Move}
use Rattle.rail_model.specs.Table.{Table}
use Rattle.rail_model.specs.Certificate.{Tree, arrived, move, split, full_box, left_half, right_half, Accepts}
use Rattle.rail_model.proofs.Agree.{Decides-good}
use Rattle.document_json.specs.Doc.{Doc, table_at}
use Rattle.document_json.specs.Trees.{IsTreeOf, tree_at}
use Rattle.accepted_documents.specs.Accepting.{AreAccepted}

abbrev pub table : Table
table = record { missions = record { points = 0 ∷ 1 ∷ []; exits = false } ∷ []; sections = []; connections = [] }

-- one train from A to B, with a certificate
abbrev pub one_train : List Node → Doc
one_train nodes = record {
  version = 1;
  layout = record {
    points = record { name = codes "A"; zone = 0 } ∷ record { name = codes "B"; zone = 0 } ∷ [];
    links = record { first = 0; second = 1 } ∷ [];
    zones = 1;
  };
  trains = codes "T0" ∷ [];
  tables = record { table = table; after = 0; times = (1 ∷ []) ∷ []; nodes = nodes } ∷ [];
  start = 0 ∷ [];
}

abbrev pub good : Doc
good = one_train (Split 0 0 ∷ Move 0 ∷ Arrived ∷ [])

-- a fact of the only number below 1
pub the_only : (P : ℕ → Type 0) → P 0 → (n : ℕ) → n < 1 → P n
the_only P first zero below = first
the_only P first (suc n) below = absurd (omega (arith, below))

abbrev pub trees : List Tree
trees = split 0 0 (move 0) arrived ∷ []

pub accepted : AreAccepted good trees
accepted = record {
  are = record { one_each = refl; spelled = the_only (λ t. IsTreeOf good t (tree_at trees t)) (refl, lit≤ tt) };
  accepted = the_only (λ t. Accepts (table_at good t) (tree_at trees t)) (
    (Decides-good table (full_box table) (Split 0 0)).0 refl,
    (Decides-good table (left_half (full_box table) 0 0) (Move 0)).0 refl,
    (Decides-good table (right_half (full_box table) 0 0) Arrived).0 refl,
  );
}
