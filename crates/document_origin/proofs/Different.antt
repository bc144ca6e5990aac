-- A document that differs from a plan's is not of the plan.
use Rattle.std.proofs.Common.{[], ℕ, ◌<◌, length, map, false}
use Rattle.std.specs.Prelude.{slice_index_or}
use Rattle.document_json.specs.Doc.{Doc, doc_table, table_at}
use Rattle.rail_model.specs.Layout.{point_names}
use Rattle.document_origin.specs.Origin.{DifferentDocumentsAreNone, IsFirstPart, IsOf, IsTableOf}
use Rattle.document_origin.specs.declared.difference.Part.{Part}
use Rattle.document_origin.specs.declared.difference.Part.TheVariants.{Route, Exit, Times, Connections, After, Section}
use Rattle.document_origin.specs.declared.difference.Difference.TheVariants.{Trains, Tables, Table, Start, Layout}
use Rattle.document_origin.proofs.Beginnings.{alike_begun}

module _ (D P : Doc) (is : IsOf D P) (t : ℕ) (within : t < length P.tables) where
  of_table : IsTableOf (doc_table D t) (doc_table P t)
  of_table = is.tables t within

  -- a table of the plan's does not differ
  pub same_part : (part : Part) → IsFirstPart D P t part → ⊥
  same_part (Route i) first = first.2 (λ k.
      map (λ q. slice_index_or (point_names (is.layout k)) q []) (slice_index_or (of_table.missions k) i (record { points = []; exits = false })).points)
  same_part (Exit i) first = first.3 (λ k. (slice_index_or (of_table.missions k) i (record { points = []; exits = false })).exits)
  same_part (Times i) first = first.4 (λ k. slice_index_or (of_table.times k) i [])
  same_part Connections first = first.1 of_table.connections
  same_part After first = first.1 of_table.after
  same_part (Section s) first =
      first.2.other (alike_begun (table_at P t).sections (table_at D t).sections s first.2.within of_table.sections)

pub different : DifferentDocumentsAreNone
different D P Trains first is = first is.trains
different D P Tables first is = first.1 is.count
different D P (Table t part) first is = same_part D P is t first.1 part first.3
different D P Start first is = first.2 is.start
different D P Layout first is = first.3 is.layout
