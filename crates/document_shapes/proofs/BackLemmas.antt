-- What stands for a value in range reads as the value, shape by shape.
use Rattle.std.proofs.Common.{◌≡◌, ◌∙◌, ℕ, ◌+◌, ℤ, pos, negsuc, Bool, List, [], ◌∷◌, map, codes, All, Option, Some, None, IsUtf8, refl, ap, sym, subst, arith}
use Rattle.std.specs.List.{AllByRecursion}
use Rattle.std.specs.Prelude.{option_and_then}
use Rattle.std.proofs.lemmas.Bool.Decides.{nat_tests}
use Rattle.std.proofs.lemmas.Int.{ints}
use Rattle.std.proofs.lemmas.List.Elements.{All-head, All-tail, All-from_recursion}
use Rattle.rail_model.specs.declared.types.Node.{Node}
use Rattle.rail_model.specs.declared.types.Node.TheVariants.{Split, Clash, Overfull, Arrived, Move}
use Rattle.rail_model.specs.Table.{Section, Connection}
use Rattle.serde_json.specs.Data.{Data, boolean, string, no_items, no_members}
use Rattle.serde_json.specs.View.{items_of}
use Rattle.document_shapes.specs.InRange.{IsSmall, IsChange, NodeIsSmall, ConnectionIsSmall, SectionIsSmall, IfGiven}
use Rattle.document_shapes.specs.Parts.{node, node_of, section, connection, connection_of}
use Rattle.document_shapes.specs.Shape.{Shape, whole, change, truth, text, each, list_of, pair}
use Rattle.document_shapes.specs.Written.{list_data, pair_data, whole_data, change_data, node_data, section_data, connection_data}
use Rattle.document_shapes.proofs.PlainLemmas.{IsPlain, pos-small, plain-whole, plain-change, plain-text, plain-truth, plain-no_items, plain-item, plain-array, plain-no_members, plain-member, plain-object, plain-list, plain-within}

-- What stands for the value is plain, and reads as the value.
pub record ReadsAs {A : Type 0} (put : A → Data) (levels : ℕ) (shape : Shape A) (x : A) : Type 0 where
  pub plain : IsPlain levels (put x)
  pub back : shape (put x) ≡ Some x

pub whole-as : (n : ℕ) → IsSmall n → ReadsAs whole_data 0 whole n
whole-as n small = record { plain = plain-whole n small; back = grind (arith, nat_tests) }

pub change-back : (z : ℤ) → IsChange z → change (change_data z) ≡ Some z
change-back (pos n) h = let low = h.0 in let high = h.1 in grind (arith, nat_tests, ints, low, high, pos-small n high)
change-back (negsuc n) h = let low = h.0 in let high = h.1 in grind (arith, nat_tests, ints, low, high)

change-as : (z : ℤ) → IsChange z → ReadsAs change_data 0 change z
change-as z h = record { plain = plain-change z h; back = change-back z h }

pub text-as : (s : List ℕ) → IsUtf8 s → ReadsAs string 0 text s
text-as s u = record { plain = plain-text s u; back = refl }

pub truth-as : (b : Bool) → ReadsAs boolean 0 truth b
truth-as b = record { plain = plain-truth b; back = refl }

module _ {A : Type 0} (P : A → Type 0) (put : A → Data) (levels : ℕ) (shape : Shape A) (one : (x : A) → P x → ReadsAs put levels shape x) where
  each-back : (xs : List A) → All P xs → each shape (items_of (map put xs)) ≡ Some xs
  each-back [] h = refl
  each-back (x ∷ xs) h = rw ((one x (All-head P x xs h)).back, each-back xs (All-tail P x xs h)) refl

  -- a list of such values
  pub list-as : (xs : List A) → All P xs → ReadsAs (list_data put) (levels + 1) (list_of shape) xs
  list-as xs h = record { plain = plain-list levels put xs (λ k d lt. (one _ (h k d lt)).plain); back = each-back xs h }

  pub given-as : (o : Option A) → IfGiven P o → IfGiven (ReadsAs put levels shape) o
  given-as None h = tt
  given-as (Some x) h = one x h

pub pair-as : {A B : Type 0} (a : A → Data) (b : B → Data) (first : Shape A) (second : Shape B) (p : A × B) → ReadsAs a 0 first p.0 → ReadsAs b 0 second p.1
    → ReadsAs (pair_data a b) 1 (pair first second) p
pair-as a b first second p h k = record {
  plain = plain-array 0 _ (plain-item 0 (a p.0) _ h.plain (plain-item 0 (b p.1) no_items k.plain (plain-no_items 0)));
  back = rw (h.back, k.back) refl;
}

pub numbers-as : (ns : List ℕ) → All IsSmall ns → ReadsAs (list_data whole_data) 1 (list_of whole) ns
numbers-as = list-as IsSmall whole_data 0 whole whole-as

few_numbers-as : (ns : List ℕ) → AllByRecursion IsSmall ns → ReadsAs (list_data whole_data) 1 (list_of whole) ns
few_numbers-as ns small = numbers-as ns (All-from_recursion IsSmall ns small)

-- a node, as the numbers that stand for it
numbered : (n : Node) (ns : List ℕ) → node_data n ≡ list_data whole_data ns → node_of ns ≡ Some n → AllByRecursion IsSmall ns → ReadsAs node_data 1 node n
numbered n ns stands is small =
    let r = few_numbers-as ns small in
    record { plain = subst (IsPlain 1) (sym stands) r.plain; back = ap node stands ∙ ap (option_and_then node_of) r.back ∙ is }

pub node-as : (n : Node) → NodeIsSmall n → ReadsAs node_data 1 node n
node-as (Split i m) h = numbered (Split i m) (0 ∷ i ∷ m ∷ []) refl refl (omega arith, (h.0, (h.1, tt)))
node-as (Clash i j) h = numbered (Clash i j) (1 ∷ i ∷ j ∷ []) refl refl (omega arith, (h.0, (h.1, tt)))
node-as (Overfull s) h = numbered (Overfull s) (2 ∷ s ∷ []) refl refl (omega arith, (h, tt))
node-as Arrived h = numbered Arrived (3 ∷ []) refl refl (omega arith, tt)
node-as (Move i) h = numbered (Move i) (4 ∷ i ∷ []) refl refl (omega arith, (h, tt))

pub connection-as : (k : Connection) → ConnectionIsSmall k → ReadsAs connection_data 1 connection k
connection-as k h =
    let r = few_numbers-as (k.train ∷ k.place ∷ k.other ∷ k.reached ∷ []) (h.train, (h.place, (h.other, (h.reached, tt)))) in
    record { plain = r.plain; back = ap (option_and_then connection_of) r.back }

pub section-as : (s : Section) → SectionIsSmall s → ReadsAs section_data 3 section s
section-as s h =
    let limit = whole-as s.limit h.limit in
    let changes = list-as (All IsChange) (list_data change_data) 1 (list_of change) (list-as IsChange change_data 0 change change-as) s.changes h.changes in
    record {
      plain =
          plain-object 2 (codes "changes") _
          (plain-member 2 (codes "changes") (codes "limit") refl refl _ _ changes.plain
          (plain-member 2 (codes "limit") (codes "~") refl refl _ no_members (plain-within 0 2 _ (omega arith) limit.plain) (plain-no_members 2 (codes "~"))));
      back = rw (limit.back, changes.back) refl;
    }
