-- The tables of a document as they are offered.
use Rattle.std.proofs.Common.{◌≡◌, ℕ, ◌+◌, ◌<◌, List, [], ◌∷◌, ◌++◌, length, map, take, Some, sym, ◌∙◌, ap, subst, arith, inl, inr}
use Rattle.std.proofs.lemmas.Bool.{cases_eq}
use Rattle.std.proofs.lemmas.List.{take_more, get_or-map, length-map, map-id}
use Rattle.rail_model.specs.Certificate.{Tree, Accepts}
use Rattle.rail_model.specs.Layout.{Layout}
use Rattle.rail_model.specs.Table.{Table, point}
use Rattle.rail_model.specs.State.{Legal}
use Rattle.rail_model.specs.Ways.{IsOn}
use Rattle.rail_model.specs.Yard.{Offer, offer}
use Rattle.document_json.specs.Doc.{Doc, IsDoc, doc_table, table_at, offers_of}
use Rattle.document_json.specs.Trees.{tree_at}

pub offer_count : (D : Doc) → length (offers_of D) ≡ length D.tables
offer_count D = length-map D.tables (λ t. record { table = t.table; after = t.after })

pub offer_at : (D : Doc) (t : ℕ) → t < length D.tables → offer (offers_of D) t ≡ record { table = table_at D t; after = (doc_table D t).after }
offer_at D t lt = get_or-map (λ t. record { table = t.table; after = t.after }) D.tables t _ _ lt

pub table_offered : (D : Doc) (t : ℕ) → t < length D.tables → (offer (offers_of D) t).table ≡ table_at D t
table_offered D t lt = ap (λ (o : Offer). o.table) (offer_at D t lt)

-- the points of the tables are the layout's
pub on_layout : (D : Doc) → IsDoc D → (t : ℕ) → t < length (offers_of D) → IsOn D.layout (offer (offers_of D) t).table
on_layout D doc t lt i k q at =
    let within = subst (λ n. t < n) (offer_count D) lt in
    let there = subst (λ (T : Table). point T i k ≡ Some q) (table_offered D t within) at in
    doc.points t within i k q there

-- the same of the tables and the layout that a caller has
pub given_on_layout : (D : Doc) (L : Layout) (tables : List Offer) → IsDoc D → L ≡ D.layout → tables ≡ offers_of D → (t : ℕ) → t < length tables
    → IsOn L (offer (map (λ (o : Offer). o) tables) t).table
given_on_layout D L tables doc same_layout same_tables t lt =
    let within = subst (λ (os : List Offer). t < length os) same_tables lt in
    let offered = map-id tables ∙ same_tables in
    subst (λ (M : Layout). IsOn M (offer (map (λ (o : Offer). o) tables) t).table) (sym same_layout)
    (subst (λ (os : List Offer). IsOn D.layout (offer os t).table) (sym offered) (on_layout D doc t within))

-- the start is legal under the first table that is offered
pub legal_start : (D : Doc) → IsDoc D → Legal (offer (offers_of D) 0).table D.start
legal_start D doc =
    let some : 0 < length D.tables = subst (λ n. 0 < n) (offer_count D) doc.tables.some in
    subst (λ (T : Table). Legal T D.start) (sym (table_offered D 0 some)) doc.start

-- one table more
pub offers_more : (D : Doc) (t : ℕ) (a : Offer) (before after : List Offer) → t < length D.tables → before ≡ take t (offers_of D)
    → a ≡ record { table = table_at D t; after = (doc_table D t).after } → after ≡ before ++ a ∷ [] → after ≡ take (t + 1) (offers_of D)
offers_more D t a before after lt front is pushed =
    pushed ∙ (λ i. front i ++ (is ∙ sym (offer_at D t lt)) i ∷ []) ∙ sym (take_more (offers_of D) t _ (subst (λ n. t < n) (sym (offer_count D)) lt))

-- one tree more that is accepted
pub accepts_more : (D : Doc) (trees : List Tree) (t : ℕ) → ((u : ℕ) → u < t → Accepts (table_at D u) (tree_at trees u))
    → Accepts (table_at D t) (tree_at trees t) → (u : ℕ) → u < t + 1 → Accepts (table_at D u) (tree_at trees u)
accepts_more D trees t before here u lt = elim (cases_eq u t) [
  | inl same ↦ subst (λ v. Accepts (table_at D v) (tree_at trees v)) (sym same) here
  | inr other ↦ before u (omega arith)
]
