-- A state with a train past all places isn't legal.
use Rattle.std.proofs.Common.{◌≡◌, ℕ, ◌<◌, ◌≤◌, length, arith}
use Rattle.std.proofs.lemmas.List.FromFn.{get_or-map-range_with_len}
use Rattle.rail_model.specs.State.{Legal}
use Rattle.rail_model.specs.Table.{place, trains}
use Rattle.document_json.specs.Doc.{Doc, IsDoc, table_at}
use Rattle.run_timetable.specs.declared.run.Run.{Run}
use Rattle.wait_causes.specs.Before.{place_before, positions_before}

pub too_far : (D : Doc) (run : Run) (tick t i : ℕ) → IsDoc D → t < length D.tables → i < length D.trains → 128 ≤ place_before D run tick i
    → Legal (table_at D t) (positions_before D run tick) → ⊥
too_far D run tick t i is lt in_range far legal =
    let train : i < trains (table_at D t) = omega (arith, in_range, is.trains t lt) in
    let at : place (positions_before D run tick) i ≡ place_before D run tick i =
    get_or-map-range_with_len (place_before D run tick) 0 (length D.trains) i i 0 in_range (omega arith) in
    omega (arith, far, at, legal.in_range i train, ((is.formed t lt).missions i train).few_places)
