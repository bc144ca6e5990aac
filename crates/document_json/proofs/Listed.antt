-- Trees of a document's tables, one after another.
use Rattle.std.proofs.Common.{◌≡◌, ◌∙◌, ℕ, ◌+◌, ◌<◌, ◌≤◌, List, [], ◌∷◌, ◌++◌, length, map, get_or, sym, ap, ap₂, subst, arith, inl, inr}
use Rattle.std.proofs.lemmas.Bool.{cases_eq}
use Rattle.std.proofs.lemmas.List.{get_or-map, length-map, map-append, get_or_append_left, length-append}
use Rattle.std.proofs.lemmas.Simd.{map-map}
use Rattle.std.proofs.Math.Seq.{get_or-append_seam}
use Rattle.cert_tree.specs.declared.reading.CertRefused.{CertRefused}
use Rattle.cert_tree.specs.Refused.{IsRefused}
use Rattle.cert_tree.specs.Spelling.{most_nodes}
use Rattle.rail_model.specs.Certificate.{Tree, preorder}
use Rattle.rail_model.specs.Yard.{Offer}
use Rattle.document_json.specs.declared.spelling.Certified.{Certified}
use Rattle.document_json.specs.declared.spelling.TreeRefused.{TreeRefused}
use Rattle.document_json.specs.declared.spelling.TreeRefused.TheVariants.{Tree as NoTree}
use Rattle.document_json.specs.Doc.{Doc, doc_table, nodes_at, offers_of}
use Rattle.document_json.specs.Keeps.{Untimed, untimed}
use Rattle.document_json.specs.Trees.{tree_at, IsTreeOf, AreTrees, TreesRefused}

abbrev pub offer_of : Untimed → Offer
offer_of u = record { table = u.table; after = u.after }

abbrev pub certified_offer : Certified → Offer
certified_offer t = record { table = t.table; after = t.after }

abbrev pub certs_of : List Certified → List Tree
certs_of = map (λ t. t.cert)

module _ (D : Doc) where
  -- The first tables of the document have the trees of their nodes.
  pub record AreSpelled (done : List Untimed) (found : List Certified) : Type 0 where
    pub one_each : length found ≡ length done
    pub offers : map certified_offer found ≡ map offer_of done
    pub trees : (t : ℕ) → t < length done → IsTreeOf D t (tree_at (certs_of found) t)

  module _ (done rest : List Untimed) (u : Untimed) (whole : map untimed D.tables ≡ done ++ u ∷ rest) where
    here-in : length done < length D.tables
    here-in = let size = sym (length-map D.tables untimed) ∙ ap length whole ∙ length-append done (u ∷ rest) in omega (arith, size)

    is-here : untimed (doc_table D (length done)) ≡ u
    is-here = sym (get_or-map untimed D.tables (length done) _ u here-in) ∙ ap (λ us. get_or us (length done) u) whole ∙ get_or-append_seam done u rest u

    -- one more
    pub spelled-more : (found longer : List Certified) (c : Certified) → AreSpelled done found → longer ≡ found ++ c ∷ [] → c.table ≡ u.table → c.after ≡ u.after
        → preorder c.cert ≡ u.nodes → length u.nodes ≤ most_nodes → AreSpelled (done ++ u ∷ []) longer
    spelled-more found longer c so is table after spells few =
        let certs : certs_of longer ≡ certs_of found ++ c.cert ∷ [] = ap certs_of is ∙ map-append (λ t. t.cert) found (c ∷ []) in
        let counted : length (certs_of found) ≡ length done = length-map found (λ t. t.cert) ∙ so.one_each in
        let size = length-append done (u ∷ []) in
        let nodes : nodes_at D (length done) ≡ u.nodes = ap (λ (v : Untimed). v.nodes) is-here in
        record {
          one_each = ap length is ∙ length-append found (c ∷ []) ∙ ap (λ n. n + 1) so.one_each ∙ sym size;
          offers = ap (map certified_offer) is ∙ map-append certified_offer found (c ∷ [])
              ∙ ap₂ (λ os (o : Offer). os ++ o ∷ []) so.offers (λ i. record { table = table i; after = after i }) ∙ sym (map-append offer_of done (u ∷ []));
          trees = λ t lt. elim (cases_eq t (length done)) [
            | inl same ↦
                let place : t ≡ length (certs_of found) = same ∙ sym counted in
                let there : tree_at (certs_of longer) t ≡ c.cert = (λ i. tree_at (certs i) (place i)) ∙ get_or-append_seam (certs_of found) c.cert [] _ in
                let own : nodes_at D t ≡ u.nodes = ap (nodes_at D) same ∙ nodes in (
                  ap preorder there ∙ spells ∙ sym own,
                  subst (λ ns. length ns ≤ most_nodes) (sym own) few,
                )
            | inr other ↦
                let below : t < length done = omega (arith, lt, other, size) in
                let there : tree_at (certs_of longer) t ≡ tree_at (certs_of found) t =
                ap (λ ts. tree_at ts t) certs ∙ get_or_append_left (certs_of found) (c.cert ∷ []) _ t (omega (arith, below, counted)) in
                subst (IsTreeOf D t) (sym there) (so.trees t below)
          ];
        }

    -- where this is the first without a tree
    pub first_without : (found : List Certified) (n : ℕ) (e : TreeRefused) → AreSpelled done found → n ≡ length done
        → (cause : CertRefused) × (e ≡ NoTree n cause) × IsRefused u.nodes cause → TreesRefused D e
    first_without found n e so at h =
        let nodes : u.nodes ≡ nodes_at D n = sym (ap (λ (v : Untimed). v.nodes) is-here) ∙ ap (nodes_at D) (sym at) in
        subst (TreesRefused D) (sym h.1)
        (record {
          in_range = subst (λ k. k < length D.tables) (sym at) here-in;
          earlier = λ t lt. (tree_at (certs_of found) t, so.trees t (omega (arith, lt, at)));
          refused = subst (λ ns. IsRefused ns h.0) nodes h.2;
        })

  -- all
  module _ (done : List Untimed) (found : List Certified) (so : AreSpelled done found) (all : map untimed D.tables ≡ done) where
    pub all-trees : AreTrees D (certs_of found)
    all-trees =
        let size : length done ≡ length D.tables = ap length (sym all) ∙ length-map D.tables untimed in
        record {
          one_each = length-map found (λ t. t.cert) ∙ so.one_each ∙ size;
          spelled = λ t lt. so.trees t (omega (arith, lt, size));
        }

    pub all-offers : map certified_offer found ≡ offers_of D
    all-offers = so.offers ∙ ap (map offer_of) (sym all) ∙ map-map offer_of untimed D.tables
