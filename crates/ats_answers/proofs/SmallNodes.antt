-- The nodes of a certificate that a table accepts have small numbers.
use Rattle.std.proofs.Common.{◌≡◌, ◌∙◌, ℕ, ◌<◌, ◌≤◌, List, [], ◌∷◌, ◌++◌, length, set, All, ap, subst, sym, arith, inl, inr, length-set, get_or-set_same, get_or-set_other}
use Rattle.std.proofs.lemmas.Bool.{cases_eq}
use Rattle.std.proofs.lemmas.List.{get_or-map, length-map}
use Rattle.std.proofs.lemmas.List.Elements.{All-cons, All-from_recursion, All-append}
use Rattle.rail_model.specs.declared.types.Node.TheVariants.{Split, Clash, Overfull, Arrived, Move}
use Rattle.rail_model.specs.Certificate.{Range, range, full_box, left_half, right_half, Tree, clash, overfull, arrived, move, split, preorder, Shuts, Accepts}
use Rattle.rail_model.specs.Table.{Table, IsTable, trains, last, last_of}
use Rattle.document_shapes.specs.InRange.{NodeIsSmall}

-- A range for each train, none of which goes beyond place 127.
record IsLow (T : Table) (B : List Range) : Type 0 where
  one_each : length B ≡ trains T
  low : (i : ℕ) → i < trains T → (range B i).hi ≤ 127

module _ (T : Table) (formed : IsTable T) where
  -- with a low range in place of another
  low_half : (B : List Range) (i lo hi : ℕ) → i < trains T → hi ≤ 127 → IsLow T B → IsLow T (set B i (record { lo = lo; hi = hi }))
  low_half B i lo hi within few h = record {
    one_each = length-set B i _ ∙ h.one_each;
    low = λ j lt. elim (cases_eq j i) [
      | inl same ↦
          let there : i < length B = omega (arith, within, h.one_each) in
          let at = ap (λ k. range (set B i (record { lo = lo; hi = hi })) k) same ∙ get_or-set_same B i (record { lo = lo; hi = hi }) _ there in
          subst (λ (r : Range). r.hi ≤ 127) (sym at) few
      | inr other ↦ subst (λ (r : Range). r.hi ≤ 127) (sym (get_or-set_other B i j (record { lo = lo; hi = hi }) _ other)) (h.low j lt)
    ];
  }

  nodes-small : (B : List Range) (c : Tree) → IsLow T B → Shuts T B c → All NodeIsSmall (preorder c)
  nodes-small B (clash i j) low h =
      let few = formed.few_trains in
      All-from_recursion NodeIsSmall (Clash i j ∷ []) ((omega (arith, few, h.0), omega (arith, few, h.1)), tt)
  nodes-small B (overfull s) low h =
      let few = formed.few_sections in
      All-from_recursion NodeIsSmall (Overfull s ∷ []) (omega (arith, few, h.0), tt)
  nodes-small B arrived low h = All-from_recursion NodeIsSmall (Arrived ∷ []) (tt, tt)
  nodes-small B (move i) low h =
      let few = formed.few_trains in
      let within = h.train in
      All-from_recursion NodeIsSmall (Move i ∷ []) (omega (arith, few, within), tt)
  nodes-small B (split i m a b) low h =
      let few = formed.few_trains in
      let within : i < trains T = h.0.0 in
      let below : m < (range B i).hi = h.0.2 in
      let high : (range B i).hi ≤ 127 = low.low i within in
      All-cons NodeIsSmall (Split i m) (preorder a ++ preorder b) (omega (arith, few, within), omega (arith, below, high))
      (All-append NodeIsSmall (preorder a) (preorder b) (nodes-small (left_half B i m) a (low_half B i _ m within (omega (arith, below, high)) low) h.1)
      (nodes-small (right_half B i m) b (low_half B i _ (range B i).hi within high low) h.2))

  low_full : IsLow T (full_box T)
  low_full = record {
    one_each = length-map T.missions _;
    low = λ i lt.
        let few : last T i ≤ 127 = (formed.missions i lt).few_places in
        subst (λ (r : Range). r.hi ≤ 127) (sym (get_or-map (λ m. record { lo = 0; hi = last_of m }) T.missions i _ _ lt)) few;
  }

  pub certificate-small : (c : Tree) → Accepts T c → All NodeIsSmall (preorder c)
  certificate-small c accepted = nodes-small (full_box T) c low_full accepted
