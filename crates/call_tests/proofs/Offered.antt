-- The tables that a yard has are a document's.
use Rattle.std.proofs.Common.{◌≡◌, ℕ, ◌<◌, List, length, sym, subst}
use Rattle.rail_model.specs.Layout.{Layout}
use Rattle.rail_model.specs.Ways.{IsOn}
use Rattle.rail_model.specs.Yard.{Offer, offer}
use Rattle.document_json.specs.Doc.{Doc, IsDoc, offers_of}
use Rattle.document_json.proofs.Offered.{on_layout}

-- where layout and tables are the document's, the points of the tables are the layout's
pub on_given : (D : Doc) (L : Layout) (tables : List Offer) → IsDoc D → L ≡ D.layout → tables ≡ offers_of D
    → (t : ℕ) → t < length tables → IsOn L (offer tables t).table
on_given D L tables doc layout offers =
    subst (λ (M : Layout). (t : ℕ) → t < length tables → IsOn M (offer tables t).table) (sym layout)
    (subst (λ (os : List Offer). (t : ℕ) → t < length os → IsOn D.layout (offer os t).table) (sym offers) (on_layout D doc))
