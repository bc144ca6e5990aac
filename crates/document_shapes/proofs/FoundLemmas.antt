-- What is found under a name, with one member more.
use Rattle.std.proofs.Common.{◌≡◌, ℕ, false, List, Option, Some, None, is_eq, true≢false, sym, ap, subst, ◌∙◌}
use Rattle.std.specs.Prelude.{OnSome, MatchOption, IsSomeAnd, option_and_then, option_map, Ok, ok_or}
use Rattle.std.proofs.lemmas.Cmp.{nat_list_cmp_total, tied_itself}
use Rattle.std.specs.Cmp.Lexicographic.{slice_cmp}
use Rattle.std.specs.Ordering.{nat_cmp}
use Rattle.json.specs.Json as json
use Rattle.json.specs.Token.{Token}
use Rattle.serde_json.specs.Data.{Data, null, boolean, number, string, array, object, Members, put}
use Rattle.serde_json.specs.Find.{get_member}
use Rattle.serde_json.specs.Read.{of_json}
use Rattle.serde_json.proofs.Views.{get_member-put, get_member-put_other}
use Rattle.document_shapes.specs.Members.{name_of, need, may, shaped}
use Rattle.document_shapes.specs.Readings.{ReadsGiven}
use Rattle.document_shapes.specs.Shape.{Shape}
use Rattle.document_shapes.specs.Taken.{Finds, FindsAt, Takes, IsObjectWith}
use Rattle.document_shapes.specs.declared.member.Member.{Member}
use Rattle.document_shapes.specs.declared.refused.ShapeRefused.{ShapeRefused}
use Rattle.document_shapes.specs.declared.refused.ShapeRefused.TheVariants as refused

-- what holds of every value that there may be, under a weaker claim
pub on_some : {A : Type 0} {P Q : Type 0} (o : Option A) → OnSome o P → (P → Q) → OnSome o Q
on_some None h k = tt
on_some (Some x) h k = k h

-- the value under a name that is known
pub found-at : {X : Type 0} (F : Members → X → Type 0) (name k : List ℕ) (before after : X) (depth : ℕ) (tokens rest : List Token) (j : json.Json) (d : Data) → name ≡ k
    → json.value depth tokens ≡ Some (j, rest) → of_json j ≡ Some d → ((ms : Members) → F ms before → F (put k d ms) after) → Takes (λ e z. FindsAt F name before e z) depth tokens after rest
found-at F name k before after depth tokens rest j d is read same h = (j, d, read, same, λ ms f. subst (λ n. F (put n d ms) after) (sym is) (h ms f))

-- a member of another name stays
pub kept : (d : Data) (ms : Members) (name k : List ℕ) → is_eq (slice_cmp nat_cmp name k) ≡ false → get_member name (put k d ms) ≡ get_member name ms
kept d ms name k other = get_member-put_other name k d ms (λ e. true≢false (sym (ap is_eq (ap (λ x. slice_cmp nat_cmp x k) e ∙ tied_itself nat_list_cmp_total k)) ∙ other))

module _ (d : Data) (ms : Members) where
  module _ {A X : Type 0} (shape : Shape A) (see : X → A) where
    -- the member that was put there
    pub finds-new : (name : List ℕ) (x : X) → shape d ≡ Some (see x) → Finds shape see name (put name d ms) (Some x)
    finds-new name x h = ap (option_and_then shape) (get_member-put name d ms) ∙ h

    pub finds-read : (R : Data → X → Type 0) → ((e : Data) (x : X) → R e x → shape e ≡ Some (see x)) → (name : List ℕ) (o : Option X) → IsSomeAnd o (λ x. R d x) → Finds shape see name (put name d ms) o
    finds-read R agrees name None h = absurd h
    finds-read R agrees name (Some x) h = finds-new name x (agrees d x h)

  module _ {X : Type 0} (R : Data → X → Type 0) where
    pub reads-new : (name : List ℕ) (o : Option X) → IsSomeAnd o (λ x. R d x) → ReadsGiven R name (object (put name d ms)) o
    reads-new name o h = subst (λ g. MatchOption g (o ≡ None) (λ e. IsSomeAnd o (λ x. R e x))) (sym (get_member-put name d ms)) h

-- ---- what is read of what was found

module _ {A X : Type 0} (shape : Shape A) (see : X → A) (ms : Members) where
  pub need-found : (t : Option ℕ) (m : Member) (x : X) → Finds shape see (name_of m) ms (Some x) → need t m shape (object ms) ≡ Ok (see x)
  need-found t m x h = ap (λ o. ok_or o (refused.Shape t m)) h

  given-found : (e : ShapeRefused) (g : Option Data) (x : X) → option_and_then shape g ≡ Some (see x) → shaped e shape g ≡ Ok (Some (see x))
  given-found e None x h = absurd cc
  given-found e (Some d) x h = ap (λ r. ok_or (option_map Some r) e) h

  pub may-found : (t : ℕ) (m : Member) (o : Option X) → Finds shape see (name_of m) ms o → may t m shape (object ms) ≡ Ok (option_map see o)
  may-found t m None h = ap (shaped (refused.Shape (Some t) m) shape) h
  may-found t m (Some x) h = given-found (refused.Shape (Some t) m) (get_member (name_of m) ms) x h

module _ {X Y : Type 0} (F : Members → X → Type 0) (R : Data → Y → Type 0) (x : X) (y : Y) (reads : (ms : Members) → F ms x → R (object ms) y) where
  reads-object : (d : Data) → IsObjectWith F d x → R d y
  reads-object null h = absurd h
  reads-object (boolean b) h = absurd h
  reads-object (number n) h = absurd h
  reads-object (string s) h = absurd h
  reads-object (array ds) h = absurd h
  reads-object (object ms) h = reads ms h

  -- an object of which this was found reads as that
  pub takes-found : (depth : ℕ) (tokens rest : List Token) → Takes (λ d z. IsObjectWith F d z) depth tokens x rest → Takes R depth tokens y rest
  takes-found depth tokens rest h = (h.0, h.1, h.2, h.3, reads-object h.1 h.4)
