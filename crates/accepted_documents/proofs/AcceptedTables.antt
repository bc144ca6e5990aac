-- Tables of a document that are accepted one after another.
use Rattle.std.proofs.Common.{◌≡◌, ◌∙◌, ℕ, ◌<◌, List, [], ◌∷◌, ◌++◌, length, map, get_or, sym, ap, ap₂, subst, arith}
use Rattle.std.proofs.lemmas.List.{get_or-map, length-map, map-append, length-append}
use Rattle.std.proofs.Math.Seq.{get_or-append_seam}
use Rattle.rail_model.specs.Certificate.{Tree, Accepts, FirstBad}
use Rattle.rail_model.specs.Table.{Table}
use Rattle.rail_model.specs.Yard.{Offer, offer}
use Rattle.document_json.specs.declared.spelling.Certified.{Certified}
use Rattle.document_json.specs.Doc.{Doc, table_at, offers_of}
use Rattle.document_json.specs.Trees.{tree_at, AreTrees}
use Rattle.document_json.proofs.Offered.{offer_count, table_offered, accepts_more}
use Rattle.accepted_documents.specs.Accepting.{AreAccepted, IsFirstBadTable, IsRejected, Rejects}
use Rattle.accepted_documents.specs.declared.refused.Unaccepted.{Unaccepted}
use Rattle.accepted_documents.specs.declared.refused.Unaccepted.TheVariants.{Memory, Document, Tree as NoTree, Certificate}

abbrev pub certified_offer : Certified → Offer
certified_offer t = record { table = t.table; after = t.after }

abbrev pub certs_of : List Certified → List Tree
certs_of = map (λ t. t.cert)

-- The first tables are accepted, and were put down with their certificates.
pub record AreTaken (D : Doc) (parts done : List Certified) (tables : List Offer) (certs : List Tree) : Type 0 where
  pub tables_are : tables ≡ map certified_offer done
  pub certs_are : certs ≡ certs_of done
  pub accepted : (t : ℕ) → t < length done → Accepts (table_at D t) (tree_at (certs_of parts) t)

module _ (D : Doc) (parts : List Certified) (offers : map certified_offer parts ≡ offers_of D) where
  count : length parts ≡ length D.tables
  count = sym (length-map parts certified_offer) ∙ ap length offers ∙ offer_count D

  module _ (done rest : List Certified) (p : Certified) (whole : parts ≡ done ++ p ∷ rest) where
    within : length done < length parts
    within = let size = ap length whole ∙ length-append done (p ∷ rest) in omega (arith, size)

    pub here_in : length done < length D.tables
    here_in = omega (arith, within, count)

    part_here : get_or parts (length done) p ≡ p
    part_here = ap (λ ps. get_or ps (length done) p) whole ∙ get_or-append_seam done p rest p

    table_here : p.table ≡ table_at D (length done)
    table_here =
        sym (ap (λ (o : Offer). o.table) (get_or-map certified_offer parts (length done) p _ within
        ∙ ap certified_offer part_here))
        ∙ ap (λ (os : List Offer). (offer os (length done)).table) offers ∙ table_offered D (length done) here_in

    cert_here : p.cert ≡ tree_at (certs_of parts) (length done)
    cert_here = sym (get_or-map (λ t. t.cert) parts (length done) p _ within ∙ ap (λ (q : Certified). q.cert) part_here)

    -- one more
    pub taken_more : (tables longer : List Offer) (certs more : List Tree) (a : Offer)
        → AreTaken D parts done tables certs → longer ≡ tables ++ a ∷ [] → a ≡ certified_offer p
        → more ≡ certs ++ p.cert ∷ [] → Accepts p.table p.cert → AreTaken D parts (done ++ p ∷ []) longer more
    taken_more tables longer certs more a so longer_is is more_is accepts = record {
      tables_are = longer_is ∙ ap₂ (λ os (o : Offer). os ++ o ∷ []) so.tables_are is
          ∙ sym (map-append certified_offer done (p ∷ []));
      certs_are = more_is ∙ ap (λ cs. cs ++ p.cert ∷ []) so.certs_are ∙ sym (map-append (λ t. t.cert) done (p ∷ []));
      accepted = λ t lt.
          accepts_more D (certs_of parts) (length done) so.accepted
          (subst (λ (T : Table). Accepts T (tree_at (certs_of parts) (length done))) table_here
          (subst (Accepts p.table) cert_here accepts))
          t (omega (arith, lt, length-append done (p ∷ [])));
    }

    -- the first that isn't accepted
    pub rejected_here : (tables : List Offer) (certs : List Tree) (e : Unaccepted) → AreTaken D parts done tables certs
        → Rejects (length tables) p.table p.cert e → IsRejected D (certs_of parts) e
    rejected_here tables certs Memory so h = tt
    rejected_here tables certs (Document x) so h = absurd h
    rejected_here tables certs (NoTree t x) so h = absurd h
    rejected_here tables certs (Certificate t bad) so h =
        let at = h.0 ∙ ap length so.tables_are ∙ length-map done certified_offer in
        subst (λ k. IsFirstBadTable D (certs_of parts) k bad) (sym at) (record {
          in_range = here_in;
          earlier = so.accepted;
          first_bad = subst (λ (T : Table). FirstBad T (tree_at (certs_of parts) (length done)) bad) table_here
              (subst (λ (c : Tree). FirstBad p.table c bad) cert_here h.1);
        })

  -- all are
  pub all_accepted : (tables : List Offer) (certs : List Tree) → AreTaken D parts parts tables certs
      → AreTrees D (certs_of parts) → AreAccepted D certs
  all_accepted tables certs so trees = subst (AreAccepted D) (sym so.certs_are)
      (record { are = trees; accepted = λ t lt. so.accepted t (omega (arith, lt, count)) })

  pub all_offered : (tables : List Offer) (certs : List Tree) → AreTaken D parts parts tables certs
      → tables ≡ offers_of D
  all_offered tables certs so = so.tables_are ∙ offers
