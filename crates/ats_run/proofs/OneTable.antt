-- A run under one table makes just the moves that remain at its start.
use Rattle.std.proofs.Common.{◌≡◌, ◌+◌, List, [], ◌∷◌, length, refl, sym, ◌∙◌, ap, subst, arith}
use Rattle.std.specs.Prelude.{count_by}
use Rattle.rail_model.specs.declared.types.Line.{Line}
use Rattle.rail_model.specs.declared.types.Line.TheVariants.{Move as MoveLine, Table as TableLine, KeptDiffers, KeptOver}
use Rattle.rail_model.specs.Table.{Table}
use Rattle.rail_model.specs.Plain.{Plain}
use Rattle.rail_model.specs.State.{remaining}
use Rattle.rail_model.specs.Move.{Move, advance}
use Rattle.rail_model.specs.Yard.{Offer, Yard, opening, offer, in_force, moved}
use Rattle.rail_model.specs.Journal.{IsRight, after_lines, is_move, is_table}
use Rattle.rail_model.proofs.Moves.{remaining_move, none_remain}
use Rattle.plain_yard.specs.Keeps.{Keeps}
use Rattle.plain_yard.proofs.Keeping.{keeps_moves}
use Rattle.document_json.specs.Doc.{Doc, table_at, offers_of}
use Rattle.document_json.proofs.Offered.{offer_count, table_offered}
use Rattle.shared_run.specs.declared.crews.Crew.{Crew}
use Rattle.ats_run.specs.Headline.{Ends, plain_after}

-- After the lines the table is the same, and as many moves more were made as fewer remain.
record IsBehind (T : Table) (y z : Yard) : Type 0 where
  table : z.table ≡ 0
  moves : remaining T z.positions + z.moves ≡ remaining T y.positions + y.moves

module _ (tables : List Offer) (one : length tables ≡ 1) where
  abbrev T : Table
  T = (offer tables 0).table

  behind : (y : Yard) (lines : List Line) → y.table ≡ 0 → IsRight tables y lines → IsBehind T y (after_lines y lines)
  behind y [] first right = record { table = first; moves = refl }
  behind y (MoveLine i from to ∷ later) first right =
      let move = subst (λ t. Move (offer tables t).table y.positions i (advance y.positions i)) first right.0.0 in
      let step = remaining_move T y.positions i (advance y.positions i) move in
      let rest = behind (moved y i) later first right.1 in
      record { table = rest.table; moves = omega (arith, step, rest.moves) }
  behind y (TableLine t ∷ later) first right = let still = right.0.1.0.0 in absurd (omega (arith, still, one))
  behind y (KeptDiffers t i k ∷ later) first right = let still = right.0.1.0.0 in absurd (omega (arith, still, one))
  behind y (KeptOver t s n ∷ later) first right = let still = right.0.1.0.0 in absurd (omega (arith, still, one))

  no_exchanges : (y : Yard) (lines : List Line) → IsRight tables y lines → count_by is_table lines ≡ 0
  no_exchanges y [] right = refl
  no_exchanges y (MoveLine i from to ∷ later) right = no_exchanges (moved y i) later right.1
  no_exchanges y (TableLine t ∷ later) right = let still = right.0.1.0.0 in absurd (omega (arith, still, one))
  no_exchanges y (KeptDiffers t i k ∷ later) right = let still = right.0.1.0.0 in absurd (omega (arith, still, one))
  no_exchanges y (KeptOver t s n ∷ later) right = let still = right.0.1.0.0 in absurd (omega (arith, still, one))

-- it exchanges no table
pub none_exchanged : (D : Doc) (crew : Crew) (end : Plain) → length D.tables ≡ 1 → Ends D crew (plain_after D []) end → count_by is_table end.lines ≡ 0
none_exchanged D crew end one ends =
    ap (count_by is_table) ends.adds ∙ no_exchanges (offers_of D) (offer_count D ∙ one) (opening D.start) ends.added ends.right

-- the moves of a run of a document with one table
pub all_moves : (D : Doc) (crew : Crew) (end : Plain) → length D.tables ≡ 1 → Keeps (offers_of D) end.yard end.lines → Ends D crew (plain_after D []) end
    → count_by is_move end.lines ≡ remaining (table_at D 0) D.start
all_moves D crew end one keeps ends =
    let tables = offers_of D in
    let z = end.yard in
    let last = subst (IsBehind (offer tables 0).table (opening D.start)) (sym ends.after) (behind tables (offer_count D ∙ one) (opening D.start) ends.added refl ends.right) in
    let none = subst (λ t. remaining (offer tables t).table z.positions ≡ 0) last.table (none_remain (in_force tables z) z.positions ends.done.0) in
    let made : count_by is_move end.lines ≡ remaining (offer tables 0).table D.start = omega (arith, none, last.moves, keeps_moves tables z end.lines keeps) in
    made ∙ ap (λ (T : Table). remaining T D.start) (table_offered D 0 (omega (arith, one)))
