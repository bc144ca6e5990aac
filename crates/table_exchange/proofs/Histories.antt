-- Right lines and histories lead from a yard that stands to one that stands.
use Rattle.std.proofs.Common.{List, [], ◌∷◌, subst}
use Rattle.rail_model.specs.declared.types.Entry.{Entry}
use Rattle.rail_model.specs.declared.types.Line.{Line}
use Rattle.rail_model.specs.Journal.{IsRight, after_line, after_lines}
use Rattle.rail_model.specs.Lines.{journal_of}
use Rattle.rail_model.specs.Yard.{Offer, Yard, after, IsHistory}
use Rattle.rail_model.proofs.Histories.{journal_leads, journal_right}
use Rattle.table_exchange.specs.Tables.{AreTables, Stands}
use Rattle.table_exchange.proofs.Standings.{stands_line}

pub stands_lines : (tables : List Offer) (y : Yard) (lines : List Line) → AreTables tables → Stands tables y → IsRight tables y lines → Stands tables (after_lines y lines)
stands_lines tables y [] are s right = s
stands_lines tables y (l ∷ later) are s right = stands_lines tables (after_line y l) later are (stands_line tables y l are s right.0) right.1

pub stands_history : (tables : List Offer) (y : Yard) (h : List Entry) → AreTables tables → Stands tables y → IsHistory tables y h → Stands tables (after y h)
stands_history tables y h are s legal =
    subst (Stands tables) (journal_leads tables y h) (stands_lines tables y (journal_of tables y h) are s (journal_right tables y h legal))
