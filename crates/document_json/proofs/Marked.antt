-- The sections and connections of a formed table are taken again.
use Rattle.std.proofs.Common.{◌≡◌, [], Ok, refl, arith}
use Rattle.rail_model.specs.Table.{Table, AreMissions, IsTable}
use Rattle.rail_model.proofs.Tables.{with_connections}
use Rattle.section_marks.specs.declared.marks.Marks.{Marks}
use Rattle.section_marks.specs.Connecting.{connected}
use Rattle.section_marks.specs.Keeping.{KeepsTo}
use Rattle.section_marks.specs.Marking.{table_from}
use Rattle.section_marks.proofs.ConnectionsTaken.{connections_taken}
use Rattle.section_marks.proofs.Made.{table_of}
use Rattle.section_marks.proofs.SectionsTaken.{sections_taken}

module _ (T : Table) (formed : IsTable T) where
  -- the table before its connections
  abbrev plain : Table
  plain = table_of T.missions T.sections

  plain_formed : IsTable plain
  plain_formed = with_connections T [] formed (omega arith) (λ c k at. absurd cc)

  pub sections-kept : (marks : Marks) → KeepsTo marks T → table_from marks T.missions T.sections ≡ Ok plain
  sections-kept marks keeps =
      let missions : AreMissions T.missions = record { few = formed.few_trains; each = formed.missions } in
      (sections_taken marks T.missions T.sections plain missions).1 (refl, plain_formed, record { limits = keeps.limits; shares = keeps.shares })

  pub connections-kept : connected plain T.connections ≡ Ok T
  connections-kept = (connections_taken plain T T.connections plain_formed).1 (refl, formed)
