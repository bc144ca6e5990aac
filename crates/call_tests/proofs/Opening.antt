-- A yard that begins at a document's start.
use Rattle.std.proofs.Common.{◌≡◌, ◌∙◌, ℕ, List, [], map, sym, subst}
use Rattle.std.proofs.lemmas.List.{map-id}
use Rattle.rail_model.specs.Plain.{Plain}
use Rattle.rail_model.specs.Yard.{Offer, opening}
use Rattle.plain_yard.specs.Keeps.{Keeps}
use Rattle.plain_yard.proofs.Keeping.{keeps_begun}
use Rattle.document_json.specs.Doc.{Doc, IsDoc, offers_of}
use Rattle.document_json.proofs.Offered.{legal_start}

pub begins_well : (D : Doc) (tables : List Offer) (start : List ℕ) (begun : Plain) → IsDoc D → start ≡ D.start → tables ≡ offers_of D
    → begun ≡ record { yard = opening start; lines = [] } → Keeps (map (λ (o : Offer). o) tables) begun.yard begun.lines
begins_well D tables start begun doc same_start same_tables begins =
    subst (λ (p : Plain). Keeps (map (λ (o : Offer). o) tables) p.yard p.lines) (sym begins)
    (subst (λ (os : List Offer). Keeps os (opening start) []) (sym (map-id tables ∙ same_tables))
    (subst (λ (s : List ℕ). Keeps (offers_of D) (opening s) []) (sym same_start) (keeps_begun (offers_of D) D.start doc.tables (legal_start D doc))))
