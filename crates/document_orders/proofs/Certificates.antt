-- Tables with certificates, one more at a time, and certificates that stay.
use Rattle.std.proofs.Common.{◌≡◌, ℕ, ◌+◌, ◌<◌, List, [], ◌∷◌, ◌++◌, length, map, take, sym, ap, ap₂, ◌∙◌, subst, arith, inl, inr}
use Rattle.std.specs.Prelude.{slice_index_or, Result, Ok, Err, IfOk}
use Rattle.std.proofs.lemmas.Bool.{cases_lt}
use Rattle.std.proofs.lemmas.List.{take_more, map-append, get_or_append_left, get_or_default}
use Rattle.std.proofs.Math.Seq.{get_or-append_seam}
use Rattle.rail_model.specs.declared.types.Node.{Node}
use Rattle.rail_model.specs.Certificate.{Tree, arrived, preorder}
use Rattle.rail_model.specs.Table.{Table}
use Rattle.cert_tree.specs.declared.reading.CertRefused.{CertRefused}
use Rattle.cert_tree.specs.Refused.{IsRefused}
use Rattle.cert_tree.specs.Spelling.{tree_of, tree_of-preorder}
use Rattle.cert_tree.proofs.Verdicts.{refused_not_spelled}
use Rattle.document_json.specs.Doc.{Doc, nodes_at}
use Rattle.order_sections.specs.Grids.{table_at}
use Rattle.document_orders.specs.Ordered.{KeepsTree, new_tree}

abbrev none : Table × Tree
none = (record { missions = []; sections = []; connections = [] }, arrived)

-- the tree that nodes spell is the only one
pub keeps_spelled : (nodes : List Node) (tree : Tree) → preorder tree ≡ nodes → KeepsTree nodes tree
keeps_spelled nodes tree spells t is few = sym (tree_of-preorder tree) ∙ ap tree_of (spells ∙ sym is) ∙ tree_of-preorder t

-- where nodes spell no tree, any tree does
pub keeps_any : {E : Type 0} (nodes : List Node) (why : CertRefused) (made : Result Tree E) → IsRefused nodes why → IfOk made (KeepsTree nodes)
keeps_any nodes why (Ok tree) refused = λ t is few. absurd (refused_not_spelled nodes why t refused is few)
keeps_any nodes why (Err e) refused = tt

-- a table that is read in range is the one with the number
pub table_read : (tables : List Table) (n : ℕ) (T : Table) → n < length tables → T ≡ slice_index_or tables n T → T ≡ table_at tables n
table_read tables n T lt is = is ∙ get_or_default tables n T (record { missions = []; sections = []; connections = [] }) lt

pub tables_more : (tables : List Table) (old new : List (Table × Tree)) (n : ℕ) (T : Table) (c : Tree) → n < length tables
    → new ≡ old ++ (T, c) ∷ [] → T ≡ table_at tables n → map (λ p. p.0) old ≡ take n tables → map (λ p. p.0) new ≡ take (n + 1) tables
tables_more tables old new n T c lt added is before =
    ap (map (λ p. p.0)) added ∙ map-append (λ p. p.0) old ((T, c) ∷ []) ∙ ap₂ (λ ts t. ts ++ t ∷ []) before is
    ∙ sym (take_more tables n (record { missions = []; sections = []; connections = [] }) lt)

pub trees_more : (D : Doc) (old new : List (Table × Tree)) (n : ℕ) (p : Table × Tree) → length old ≡ n → new ≡ old ++ p ∷ [] → KeepsTree (nodes_at D n) p.1
    → ((t : ℕ) → t < n → KeepsTree (nodes_at D t) (new_tree old t)) → (t : ℕ) → t < n + 1 → KeepsTree (nodes_at D t) (new_tree new t)
trees_more D old new n p size added here before t lt = elim (cases_lt t n) [
  | inl early ↦
      subst (λ c. KeepsTree (nodes_at D t) c)
      (sym (ap (λ ps. new_tree ps t) added ∙ ap (λ (q : Table × Tree). q.1) (get_or_append_left old (p ∷ []) none t (omega (arith, early, size)))))
      (before t early)
  | inr late ↦
      let there : t ≡ n = omega (arith, lt, late) in
      let behind : t ≡ length old = omega (arith, there, size) in
      let is : new_tree new t ≡ p.1 =
      ap (λ ps. new_tree ps t) added ∙ ap (new_tree (old ++ p ∷ [])) behind ∙ ap (λ (q : Table × Tree). q.1) (get_or-append_seam old p [] none) in
      subst (λ c. KeepsTree (nodes_at D t) c) (sym is) (subst (λ k. KeepsTree (nodes_at D k) p.1) (sym there) here)
]
