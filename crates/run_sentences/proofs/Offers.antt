-- The tables of a document, taken one after another.
use Rattle.std.proofs.Common.{◌≡◌, ℕ, ◌+◌, ◌<◌, List, [], ◌∷◌, ◌++◌, length, map, take, sym, ◌∙◌, ap, subst}
use Rattle.std.proofs.lemmas.List.{map-id, take_more}
use Rattle.rail_model.specs.Yard.{Offer, offer}
use Rattle.rail_model.specs.State.{Legal}
use Rattle.table_exchange.specs.Tables.{AreTables}
use Rattle.document_json.specs.Doc.{Doc, IsDoc, doc_table, offers_of}
use Rattle.document_json.proofs.Offered.{legal_start, offer_count, offer_at}
use Rattle.run_search.specs.Answered.{AnswersRun}
use Rattle.run_search.specs.declared.finding.RunTo.{RunTo}

-- one table more
pub one_more : (D : Doc) (t : ℕ) (taken longer : List Offer) (new : Offer) → t < length D.tables → taken ≡ take t (offers_of D)
    → new ≡ record { table = (doc_table D t).table; after = (doc_table D t).after } → longer ≡ taken ++ new ∷ [] → longer ≡ take (t + 1) (offers_of D)
one_more D t taken longer new lt so_far new_is adds =
    let within : t < length (offers_of D) = subst (λ n. t < n) (sym (offer_count D)) lt in
    adds ∙ ap (λ (os : List Offer). os ++ new ∷ []) so_far ∙ ap (λ (o : Offer). take t (offers_of D) ++ o ∷ []) (new_is ∙ sym (offer_at D t lt))
    ∙ sym (take_more (offers_of D) t _ within)

-- a list of offers that is taken for tables is the document's
given : (D : Doc) (tables : List Offer) → tables ≡ offers_of D → map (λ (o : Offer). o) tables ≡ offers_of D
given D tables same = map-id tables ∙ same

pub are_tables : (D : Doc) (tables : List Offer) → IsDoc D → tables ≡ offers_of D → AreTables (map (λ (o : Offer). o) tables)
are_tables D tables doc same = subst AreTables (sym (given D tables same)) doc.tables

pub legal_at_first : (D : Doc) (tables : List Offer) (start : List ℕ) → IsDoc D → tables ≡ offers_of D → start ≡ D.start
    → Legal (offer (map (λ (o : Offer). o) tables) 0).table start
legal_at_first D tables start doc same begins =
    subst (λ (os : List Offer). Legal (offer os 0).table start) (sym (given D tables same))
    (subst (λ (p : List ℕ). Legal (offer (offers_of D) 0).table p) (sym begins) (legal_start D doc))

pub answered : (D : Doc) (tables : List Offer) (start places : List ℕ) (t : ℕ) (told : RunTo) → tables ≡ offers_of D → start ≡ D.start
    → AnswersRun (map (λ (o : Offer). o) tables) start places t told → AnswersRun (offers_of D) D.start places t told
answered D tables start places t told same begins answers =
    subst (λ (os : List Offer). AnswersRun os D.start places t told) (given D tables same)
    (subst (λ (p : List ℕ). AnswersRun (map (λ (o : Offer). o) tables) p places t told) begins answers)
