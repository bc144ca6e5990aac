-- What making certificates comes to.
use Rattle.std.specs.Prelude.{◌≡◌, ℕ, ◌<◌, List, [], length, map, slice_index_or}
use Rattle.rail_model.specs.Table.{Table}
use Rattle.rail_model.specs.Move.{Stuck as IsStuck}
use Rattle.rail_model.specs.Certificate.{Tree, arrived, Accepts}
use Rattle.cert_maker.specs.Rule.{Makes}
use Rattle.cert_maker.specs.declared.made.Made.TheVariants.{Cert as cert, Stuck as found, Spent as spent}
use Rattle.document_json.specs.Doc.{Doc}
use Rattle.document_json.specs.Trees.{tree_at}
use Rattle.document_json.specs.Replaced.{certified}
use Rattle.ats_answers.specs.declared.failure.Failure.{Failure}
use Rattle.ats_answers.specs.declared.failure.Failure.TheVariants.{Spent, Stuck}
use Rattle.ats_answers.specs.Certificates.{IsAcceptedText}

-- the tables of a document
abbrev pub tables_in : Doc → List Table
tables_in D = map (λ t. t.table) D.tables

abbrev pub table_in : List Table → ℕ → Table
table_in tables t = slice_index_or tables t (record { missions = []; sections = []; connections = [] })

-- A certificate by the maker's rule for each table, within the budget; each table accepts its own.
pub record AreMade (tables : List Table) (budget : ℕ) (trees : List Tree) : Type 0 where
  pub one_each : length trees ≡ length tables
  pub made : (t : ℕ) → t < length tables → Makes (table_in tables t) budget (cert (tree_at trees t))
  pub accepted : (t : ℕ) → t < length tables → Accepts (table_in tables t) (tree_at trees t)

-- the table and certificate with a number
abbrev pub part_in : List (Table × Tree) → ℕ → Table × Tree
part_in parts t = slice_index_or parts t (record { missions = []; sections = []; connections = [] }, arrived)

abbrev pub trees_in : List (Table × Tree) → List Tree
trees_in parts = map (λ p. p.1) parts

-- These are the tables, each with a certificate made by the rule within the budget.
abbrev pub HaveMade : List Table → ℕ → List (Table × Tree) → Type 0
HaveMade tables budget parts = (map (λ p. p.0) parts ≡ tables) × AreMade tables budget (trees_in parts)

-- The rule makes no certificate of the table with this number: the budget is spent, or a state is found that is stuck.
abbrev pub MakesNone : Table → ℕ → ℕ → Failure → Type 0
MakesNone T t budget (Spent u n) = (u ≡ t) × Makes T budget (spent n)
MakesNone T t budget (Stuck u p) = (u ≡ t) × Makes T budget (found p) × IsStuck T p
MakesNone T t budget e = ⊥

-- The first of the tables of which the rule makes no certificate.
pub record FailsToMake (tables : List Table) (budget : ℕ) (e : Failure) : Type 0 where
  pub table : ℕ
  pub in_range : table < length tables
  pub earlier : (u : ℕ) → u < table → (tree : Tree) × Makes (table_in tables u) budget (cert tree)
  pub none : MakesNone (table_in tables table) table budget e

-- Each table gets a certificate by the rule within the budget.
abbrev pub AreMakeable : List Table → ℕ → Type 0
AreMakeable tables budget = (t : ℕ) → t < length tables → (tree : Tree) × Makes (table_in tables t) budget (cert tree)

-- The bytes are the document with each table's certificate made anew, which its table accepts.
abbrev pub IsMade : Doc → ℕ → List ℕ → Type 0
IsMade D budget bytes = (trees : List Tree) × AreMade (tables_in D) budget trees × IsAcceptedText (certified D trees) trees bytes

-- the budget of nodes for the certificate of a generated document
abbrev pub full_budget : ℕ
full_budget = 1000000
