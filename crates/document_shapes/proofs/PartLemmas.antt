-- A list of another length is no node and no connection.
use Rattle.std.proofs.Common.{◌≡◌, ◌≤◌, ℕ, List, [], ◌∷◌, length, Option, Some, None, option_map, refl, arith}
use Rattle.std.specs.Prelude.{option_and_then}
use Rattle.serde_json.specs.View.{view, items_view}
use Rattle.serde_json.specs.declared.value.Value.{Value}
use Rattle.document_shapes.specs.Shape.{whole, each}
use Rattle.document_shapes.specs.Parts.{node_of, connection_of}
use Rattle.document_shapes.specs.Values.{each_whole}

abbrev onto : Option ℕ → Option (List ℕ) → Option (List ℕ)
onto o r = option_and_then (λ x. option_map (λ xs. x ∷ xs) r) o

-- no number in front makes it one
after : {X : Type 0} (f : List ℕ → Option X) (a : Option ℕ) (r : Option (List ℕ)) → ((x : ℕ) → option_and_then (λ xs. f (x ∷ xs)) r ≡ None) → option_and_then f (onto a r) ≡ None
after f None r h = refl
after f (Some x) None h = refl
after f (Some x) (Some xs) h = h x

never : {X : Type 0} (f : List ℕ → Option X) (r : Option (List ℕ)) → ((xs : List ℕ) → f xs ≡ None) → option_and_then f r ≡ None
never f None h = refl
never f (Some xs) h = h xs

module _ (a b c d : Option ℕ) (r : Option (List ℕ)) where
  four_or_more : option_and_then node_of (onto a (onto b (onto c (onto d r)))) ≡ None
  four_or_more = after _ a _ (λ w. after _ b _ (λ x. after _ c _ (λ y. after _ d _ (λ z. never _ r (λ zs. refl)))))

  five_or_more : (e : Option ℕ) → option_and_then connection_of (onto a (onto b (onto c (onto d (onto e r))))) ≡ None
  five_or_more e = after _ a _ (λ w. after _ b _ (λ x. after _ c _ (λ y. after _ d _ (λ z. after _ e _ (λ u. never _ r (λ us. refl))))))

pub node_other : (vs : List Value) → (1 ≤ length vs → length vs ≤ 3 → ⊥) → option_and_then node_of (each_whole vs) ≡ None
node_other [] other = refl
node_other (v ∷ []) other = absurd (other (omega arith) (omega arith))
node_other (v ∷ w ∷ []) other = absurd (other (omega arith) (omega arith))
node_other (v ∷ w ∷ x ∷ []) other = absurd (other (omega arith) (omega arith))
node_other (v ∷ w ∷ x ∷ y ∷ rest) other = four_or_more (whole (view v)) (whole (view w)) (whole (view x)) (whole (view y)) (each whole (items_view rest))

pub connection_other : (vs : List Value) → (length vs ≡ 4 → ⊥) → option_and_then connection_of (each_whole vs) ≡ None
connection_other [] other = refl
connection_other (v ∷ []) other = after connection_of (whole (view v)) (Some []) (λ a. refl)
connection_other (v ∷ w ∷ []) other = after connection_of (whole (view v)) (onto (whole (view w)) (Some [])) (λ a. after _ (whole (view w)) (Some []) (λ b. refl))
connection_other (v ∷ w ∷ x ∷ []) other =
    after connection_of (whole (view v)) (onto (whole (view w)) (onto (whole (view x)) (Some [])))
    (λ a. after _ (whole (view w)) (onto (whole (view x)) (Some [])) (λ b. after _ (whole (view x)) (Some []) (λ k. refl)))
connection_other (v ∷ w ∷ x ∷ y ∷ []) other = absurd (other refl)
connection_other (v ∷ w ∷ x ∷ y ∷ z ∷ rest) other =
    five_or_more (whole (view v)) (whole (view w)) (whole (view x)) (whole (view y)) (each whole (items_view rest)) (whole (view z))
