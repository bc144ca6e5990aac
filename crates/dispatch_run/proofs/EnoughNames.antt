-- The names of a document are enough for its tables.
use Rattle.std.proofs.Common.{◌≡◌, ◌<◌, Some, sym, ap, subst, arith}
use Rattle.std.proofs.lemmas.List.{length-map}
use Rattle.rail_model.specs.Table.{Table, point, trains}
use Rattle.document_json.specs.Doc.{Doc, IsDoc, names_of, offers_of}
use Rattle.document_json.proofs.Offered.{offer_count, table_offered}
use Rattle.move_journal.specs.Printable.{AreEnough}

pub enough : (D : Doc) → IsDoc D → AreEnough (names_of D) (offers_of D)
enough D doc = record {
  each_train = λ t lt.
      let within = subst (λ n. t < n) (offer_count D) lt in
      omega (arith, doc.trains t within, ap trains (table_offered D t within));
  each_point = λ t i k q lt at.
      let within = subst (λ n. t < n) (offer_count D) lt in
      let there = subst (λ (T : Table). point T i k ≡ Some q) (table_offered D t within) at in
      subst (λ n. q < n) (sym (length-map D.layout.points (λ q. q.name))) (doc.points t within i k q there);
}
