-- Right lines of a document: however they go on, it ends well; they are few, and their trains and points have names.
use Rattle.std.proofs.Common.{◌≡◌, ◌^◌, ◌<◌, List, [], ◌∷◌, ◌++◌, length, Some, refl, sym, ap, subst, arith}
use Rattle.std.specs.List.{All}
use Rattle.std.proofs.lemmas.List.{length-map}
use Rattle.rail_model.specs.declared.types.Line.{Line}
use Rattle.rail_model.specs.Table.{Table, trains, point, IsTable}
use Rattle.rail_model.specs.Move.{Live}
use Rattle.rail_model.specs.Certificate.{Tree}
use Rattle.rail_model.specs.Yard.{Offer, Yard, opening, in_force}
use Rattle.rail_model.specs.Journal.{IsRight, after_line, after_lines}
use Rattle.rail_model.proofs.Live.{completes}
use Rattle.rail_model.proofs.Sound.{live}
use Rattle.table_exchange.specs.Tables.{Stands}
use Rattle.plain_yard.specs.Keeps.{Keeps}
use Rattle.plain_yard.proofs.Keeping.{keeps_stands, keeps_ready, few_moves}
use Rattle.move_journal.specs.Printable.{IsNamed, AreEnough}
use Rattle.move_journal.proofs.Named.{named_right}
use Rattle.document_json.specs.Doc.{Doc, IsDoc, table_at, offers_of, names_of}
use Rattle.document_json.proofs.Offered.{offer_count, table_offered, legal_start}
use Rattle.accepted_documents.specs.Accepting.{AreAccepted}
use Rattle.ats_answers.specs.Going.{GoesOnWell}

right_front : (tables : List Offer) (y : Yard) (front later : List Line) → IsRight tables y (front ++ later) → IsRight tables y front
right_front tables y [] later right = tt
right_front tables y (l ∷ front) later right = (right.0, right_front tables (after_line y l) front later right.1)

-- a table in force is one of the document's
in_document : (D : Doc) (y : Yard) → Stands (offers_of D) y → y.table < length D.tables
in_document D y stands = subst (λ n. y.table < n) (offer_count D) stands.in_range

live_in_force : (D : Doc) (trees : List Tree) (y : Yard) → AreAccepted D trees → Stands (offers_of D) y → Live (in_force (offers_of D) y)
live_in_force D trees y accepted stands =
    let within = in_document D y stands in
    subst Live (sym (table_offered D y.table within)) (live (table_at D y.table) _ (accepted.accepted y.table within))

pub goes_on_well : (D : Doc) (trees : List Tree) (lines : List Line) → IsDoc D → AreAccepted D trees → IsRight (offers_of D) (opening D.start) lines
    → GoesOnWell (offers_of D) (opening D.start) lines
goes_on_well D trees lines doc accepted right front later split =
    let begins = right_front (offers_of D) (opening D.start) front later (subst (IsRight (offers_of D) (opening D.start)) split right) in
    let z = after_lines (opening D.start) front in
    let stands = keeps_stands (offers_of D) z front (record { are = doc.tables; start = D.start; legal = legal_start D doc; right = begins; reached = refl }) in
    completes (in_force (offers_of D) z) z.positions (live_in_force D trees z accepted stands) stands.legal

-- a run has few lines
pub few_lines : (D : Doc) (z : Yard) (lines : List Line) → IsDoc D → Keeps (offers_of D) z lines → length lines < 2 ^ 32
few_lines D z lines doc keeps =
    let stands = keeps_stands (offers_of D) z lines keeps in
    let within = in_document D z stands in
    let formed = subst IsTable (sym (table_offered D z.table within)) (doc.formed z.table within) in
    let ready = keeps_ready (offers_of D) z lines 4079 keeps (omega arith) in
    omega (arith, few_moves (offers_of D) z stands formed, ready.counted, stands.tried, doc.tables.few)

enough : (D : Doc) → IsDoc D → AreEnough (names_of D) (offers_of D)
enough D doc = record {
  each_train = λ t lt.
      let within = subst (λ n. t < n) (offer_count D) lt in
      omega (arith, doc.trains t within, ap trains (table_offered D t within));
  each_point = λ t i k q lt at.
      let within = subst (λ n. t < n) (offer_count D) lt in
      let there = subst (λ (T : Table). point T i k ≡ Some q) (table_offered D t within) at in
      subst (λ n. q < n) (sym (names_count D)) (doc.points t within i k q there);
}
  where
    names_count : (D : Doc) → length (names_of D).points ≡ length D.layout.points
    names_count D = length-map D.layout.points (λ q. q.name)

-- its trains and points have names
pub named_lines : (D : Doc) (z : Yard) (lines : List Line) → IsDoc D → Keeps (offers_of D) z lines → All (IsNamed (names_of D)) lines
named_lines D z lines doc keeps =
    named_right (names_of D) (offers_of D) (opening keeps.start) lines (enough D doc) doc.tables.some keeps.right
