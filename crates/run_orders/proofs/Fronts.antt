-- Runs of a document, and the states along them.
use Rattle.std.proofs.Common.{◌≡◌, ◌∙◌, ℕ, List, [], ◌∷◌, ◌++◌, map, subst}
use Rattle.std.proofs.lemmas.List.{map-id}
use Rattle.std.specs.Prelude.{Result, Ok, Err, OnOk}
use Rattle.rail_model.specs.declared.types.Line.{Line}
use Rattle.rail_model.specs.Journal.{Journal, IsRight, IsWhole, after_line, after_lines}
use Rattle.rail_model.specs.State.{Legal}
use Rattle.rail_model.specs.Yard.{Offer, Yard, in_force, opening}
use Rattle.document_json.specs.Doc.{Doc, offers_of}
use Rattle.move_journal.specs.Replays.{Verifies}
use Rattle.move_journal.specs.declared.faults.BadLine.{BadLine}
use Rattle.reached_states.specs.Reached.{AreOffered}
use Rattle.reached_states.proofs.Reaching.{reached_keeps}

-- a journal that passes is whole under the document's tables
pub whole_of : (D : Doc) (tables : List Offer) (start : List ℕ) (J : Journal) (answer : Result (Unit {0}) BadLine)
    → tables ≡ offers_of D → start ≡ D.start → Verifies (map (λ (o : Offer). o) tables) (opening start) J answer → OnOk answer (IsWhole (offers_of D) (opening D.start) J)
whole_of D tables start J (Ok u) same begins whole =
    subst (λ (os : List Offer). IsWhole os (opening D.start) J) (map-id tables ∙ same)
    (subst (λ (p : List ℕ). IsWhole (map (λ (o : Offer). o) tables) (opening p) J) begins whole)
whole_of D tables start J (Err e) same begins answers = tt

-- the first lines of a right journal are right
right_front : (tables : List Offer) (y : Yard) (front later : List Line) → IsRight tables y (front ++ later) → IsRight tables y front
right_front tables y [] later right = tt
right_front tables y (l ∷ front) later right = (right.0, right_front tables (after_line y l) front later right.1)

pub stays_legal : (tables : List Offer) (start : List ℕ) (J : Journal) (front later : List Line) → AreOffered tables start
    → IsWhole tables (opening start) J → J.lines ≡ front ++ later
    → Legal (in_force tables (after_lines (opening start) front)) (after_lines (opening start) front).positions
stays_legal tables start J front later given whole is =
    let right = right_front tables (opening start) front later (subst (IsRight tables (opening start)) is whole.right) in
    (reached_keeps tables start (λ z. Unit {0}) (after_lines (opening start) front) given tt (λ z l stands here line. tt)
    (record { lines = front; right = right; leads = λ i. after_lines (opening start) front })).stands.legal
