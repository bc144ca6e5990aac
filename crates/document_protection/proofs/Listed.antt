-- The tables of a document, in a list.
use Rattle.std.proofs.Common.{◌≡◌, ℕ, zero, suc, map, ◌∷◌, List, [], get_or, refl}
use Rattle.rail_model.specs.Yard.{Offer}
use Rattle.document_json.specs.Doc.{DocTable}
use Rattle.document_json.proofs.FormedDoc.{no_table}
use Rattle.document_protection.specs.Protected.{table_in}

pub listed_there : (ts : List DocTable) (t : ℕ) → table_in (map (λ x. x.table) ts) t ≡ (get_or ts t no_table).table
listed_there [] t = refl
listed_there (x ∷ xs) zero = refl
listed_there (x ∷ xs) (suc t) = listed_there xs t

abbrev pub offer_from : DocTable → Offer
offer_from t = record { table = t.table; after = t.after }
