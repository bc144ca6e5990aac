-- Where a tree ends among the nodes.
use Rattle.std.proofs.Common.{◌≡◌, ℕ, ◌+◌, List, [], ◌∷◌, ◌++◌, length, drop, refl, sym, ◌∙◌, ap, arith, append_assoc, length-append}
use Rattle.std.proofs.lemmas.List.{append-nil, drop_all}
use Rattle.rail_model.specs.declared.types.Node.{Node}
use Rattle.rail_model.specs.declared.types.Node.TheVariants.{Split}
use Rattle.rail_model.specs.Certificate.{Range, left_half, right_half}
use Rattle.rail_model.proofs.Visits.{Visit}
use Rattle.cert_tree.specs.Open.{opened}
use Rattle.cert_checker.specs.Walked.{walked}
use Rattle.cert_checker.specs.Cut.{IsEnd}

walked_nil : (boxes : List (List Range)) → walked boxes [] ≡ []
walked_nil [] = refl
walked_nil (B ∷ Bs) = refl

-- at the end of the nodes nothing begins
pub nothing_begins : (nodes : List Node) → IsEnd nodes (length nodes) (length nodes)
nothing_begins nodes B later =
    let none : (boxes : List (List Range)) → walked boxes (drop (length nodes) nodes) ≡ [] =
    λ boxes. ap (walked boxes) (drop_all (length nodes) nodes (omega arith)) ∙ walked_nil boxes in (
      none (B ∷ later) ∙ sym (λ k. none (B ∷ []) k ++ none later k),
      omega (arith, ap (λ (vs : List Visit). length vs) (none (B ∷ []))),
    )

-- a leaf ends after itself
pub leaf_ends : (nodes : List Node) (first : ℕ) (n : Node) → drop first nodes ≡ n ∷ drop (first + 1) nodes
    → ((B : List Range) (later : List (List Range)) → opened B n later ≡ later) → IsEnd nodes first (first + 1)
leaf_ends nodes first n here leaf B later =
    let visited : (boxes : List (List Range)) → walked (B ∷ boxes) (drop first nodes) ≡ (B, n) ∷ walked boxes (drop (first + 1) nodes) =
    λ boxes. ap (walked (B ∷ boxes)) here ∙ ap (λ (bs : List (List Range)). (B, n) ∷ walked bs (drop (first + 1) nodes)) (leaf B boxes) in (
      visited later ∙ sym (ap (λ (vs : List Visit). vs ++ walked later (drop (first + 1) nodes)) (visited [])),
      omega (arith, ap (λ (vs : List Visit). length vs) (visited [])),
    )

-- a split ends where its second half does
pub split_ends : (nodes : List Node) (first middle end i m : ℕ) → drop first nodes ≡ Split i m ∷ drop (first + 1) nodes
    → IsEnd nodes (first + 1) middle → IsEnd nodes middle end → IsEnd nodes first end
split_ends nodes first middle end i m here left right B later =
    let root : Visit = (B, Split i m) in
    let L = left_half B i m in
    let R = right_half B i m in
    let vl = walked (L ∷ []) (drop (first + 1) nodes) in
    let vr = walked (R ∷ []) (drop middle nodes) in
    let visited : (boxes : List (List Range)) → walked (B ∷ boxes) (drop first nodes) ≡ (root ∷ (vl ++ vr)) ++ walked boxes (drop end nodes) =
    λ boxes. ap (walked (B ∷ boxes)) here ∙ ap (λ (vs : List Visit). root ∷ vs) ((left L (R ∷ boxes)).0
    ∙ ap (λ (vs : List Visit). vl ++ vs) (right R boxes).0
    ∙ sym (append_assoc vl vr (walked boxes (drop end nodes)))) in
    let alone : walked (B ∷ []) (drop first nodes) ≡ root ∷ (vl ++ vr) =
    visited [] ∙ append-nil (root ∷ (vl ++ vr)) in (
      visited later ∙ ap (λ (vs : List Visit). vs ++ walked later (drop end nodes)) (sym alone),
      omega (arith, ap (λ (vs : List Visit). length vs) alone, length-append vl vr, (left L []).1, (right R []).1),
    )
