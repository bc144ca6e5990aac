-- What the readings at a type come to, as a shape.
use Rattle.std.proofs.Common.{ℕ, ◌≡◌, List, [], ◌∷◌, map, Option, Some, None, option_map, refl, ap, ◌∙◌, inl, inr, Global, Vec, string_bytes}
use Rattle.std.specs.Prelude.{⊤, option_and_then, IsSomeAnd, MatchOption}
use Rattle.std.specs.List.{AllZip}
use Rattle.std.proofs.lemmas.List.{map-id}
use Rattle.serde_json.specs.Data.{Data, Items, no_items, item}
use Rattle.serde_json.specs.Find.{as_array, get}
use Rattle.document_shapes.specs.Shape.{Shape, whole, change, truth, text, each, two, list_of, pair, at}
use Rattle.document_shapes.specs.Parts.{node, section, connection}
use Rattle.document_shapes.specs.Readings.{elements, SomeMisfits, MisfitsTwo, MisfitsList, MisfitsPair, ReadsList, ReadsTwo, ReadsPair, ReadsAt, MisfitsAt}

-- the readings are the shape, as `see` shows them
pub record Agrees {X A : Type 0} (R : Data → X → Type 0) (M : Data → Type 0) (shape : Shape A) (see : X → A) : Type 0 where
  pub reads : (d : Data) (x : X) → R d x → shape d ≡ Some (see x)
  pub misfits : (d : Data) → M d → shape d ≡ None

pub agrees-whole : Agrees (λ d n. whole d ≡ Some n) (λ d. whole d ≡ None) whole (λ n. n)
agrees-whole = record { reads = λ d n h. h; misfits = λ d h. h }

pub agrees-text : Agrees (λ d s. text d ≡ Some (string_bytes s)) (λ d. text d ≡ None) text (string_bytes {Z = Global})
agrees-text = record { reads = λ d s h. h; misfits = λ d h. h }

pub agrees-change : Agrees (λ d z. change d ≡ Some z) (λ d. change d ≡ None) change (λ z. z)
agrees-change = record { reads = λ d z h. h; misfits = λ d h. h }

pub agrees-truth : Agrees (λ d b. truth d ≡ Some b) (λ d. truth d ≡ None) truth (λ b. b)
agrees-truth = record { reads = λ d b h. h; misfits = λ d h. h }

pub agrees-node : Agrees (λ d n. node d ≡ Some n) (λ d. node d ≡ None) node (λ n. n)
agrees-node = record { reads = λ d n h. h; misfits = λ d h. h }

pub agrees-connection : Agrees (λ d k. connection d ≡ Some k) (λ d. connection d ≡ None) connection (λ k. k)
agrees-connection = record { reads = λ d k h. h; misfits = λ d h. h }

pub agrees-changes : Agrees (λ d c. list_of change d ≡ Some c) (λ d. list_of change d ≡ None) (list_of change) (λ c. c)
agrees-changes = record { reads = λ d c h. h; misfits = λ d h. h }

pub agrees-section : Agrees (λ d s. section d ≡ Some s) (λ d. section d ≡ None) section (λ s. s)
agrees-section = record { reads = λ d s h. h; misfits = λ d h. h }

pub agrees-train_times : Agrees (λ d t. list_of whole d ≡ Some t) (λ d. list_of whole d ≡ None) (list_of whole) (λ t. t)
agrees-train_times = record { reads = λ d t h. h; misfits = λ d h. h }

module _ {X A : Type 0} {R : Data → X → Type 0} {M : Data → Type 0} {shape : Shape A} {see : X → A} (agrees : Agrees R M shape see) where
  each_reads : (ds : Items) (xs : List X) → AllZip R (elements ds) xs → each shape ds ≡ Some (map see xs)
  each_reads no_items [] h = refl
  each_reads no_items (x ∷ xs) h = absurd h
  each_reads (item d ds) [] h = absurd h
  each_reads (item d ds) (x ∷ xs) h = rw (agrees.reads d x h.0, each_reads ds xs h.1) refl

  either_none : {B C : Type 0} (f : B → Option C) (o : Option B) → ((b : B) → f b ≡ None) → option_and_then f o ≡ None
  either_none f None h = refl
  either_none f (Some b) h = h b

  each_misfits : (ds : Items) → SomeMisfits M (elements ds) → each shape ds ≡ None
  each_misfits no_items h = absurd h
  each_misfits (item d ds) h = elim h [
    | inl first ↦ rw (agrees.misfits d first) refl
    | inr later ↦ either_none (λ x. option_map (λ xs. x ∷ xs) (each shape ds)) (shape d) (λ x. rw (each_misfits ds later) refl)
  ]

  list_reads : (o : Option Items) (xs : List X) → IsSomeAnd o (λ ds. AllZip R (elements ds) xs) → option_and_then (each shape) o ≡ Some (map see xs)
  list_reads None xs h = absurd h
  list_reads (Some ds) xs h = each_reads ds xs h

  list_misfits : (o : Option Items) → MatchOption o ⊤ (λ ds. SomeMisfits M (elements ds)) → option_and_then (each shape) o ≡ None
  list_misfits None h = refl
  list_misfits (Some ds) h = each_misfits ds h

  pub agrees-list : Agrees {X = Vec X Global} (λ d v. ReadsList R d v.items) (MisfitsList M) (list_of shape) (λ v. map see v.items)
  agrees-list = record { reads = λ d v h. list_reads (as_array d) v.items h; misfits = λ d h. list_misfits (as_array d) h }

module _ {X : Type 0} {R : Data → X → Type 0} {M : Data → Type 0} {shape : Shape X} (agrees : Agrees R M shape (λ x. x)) where
  -- a list of values that are seen as they are
  pub agrees-items : Agrees {X = Vec X Global} (λ d v. ReadsList R d v.items) (MisfitsList M) (list_of shape) (λ v. v.items)
  agrees-items = record {
    reads = λ d v h. (agrees-list agrees).reads d v h ∙ ap Some (map-id v.items);
    misfits = (agrees-list agrees).misfits;
  }

module _ {X Y A B : Type 0} {R : Data → X → Type 0} {M : Data → Type 0} {S : Data → Y → Type 0} {N : Data → Type 0} {a : Shape A} {b : Shape B} {see : X → A} {look : Y → B}
    (first : Agrees R M a see) (second : Agrees S N b look) where
  two_reads : (ds : Items) (p : X × Y) → ReadsTwo R S (elements ds) p → two a b ds ≡ Some (see p.0, look p.1)
  two_reads no_items p h = absurd h
  two_reads (item x no_items) p h = absurd h
  two_reads (item x (item y no_items)) p h = rw (first.reads x p.0 h.0, second.reads y p.1 h.1) refl
  two_reads (item x (item y (item z ds))) p h = absurd h

  two_misfits : (ds : Items) → MisfitsTwo M N (elements ds) → two a b ds ≡ None
  two_misfits no_items h = refl
  two_misfits (item x no_items) h = refl
  two_misfits (item x (item y no_items)) h = elim h [
    | inl p ↦ rw (first.misfits x p) refl
    | inr q ↦ either_none first (λ u. option_map (λ v. (u, v)) (b y)) (a x) (λ u. rw (second.misfits y q) refl)
  ]
  two_misfits (item x (item y (item z ds))) h = refl

  pair_reads : (o : Option Items) (p : X × Y) → IsSomeAnd o (λ ds. ReadsTwo R S (elements ds) p) → option_and_then (two a b) o ≡ Some (see p.0, look p.1)
  pair_reads None p h = absurd h
  pair_reads (Some ds) p h = two_reads ds p h

  pair_misfits : (o : Option Items) → MatchOption o ⊤ (λ ds. MisfitsTwo M N (elements ds)) → option_and_then (two a b) o ≡ None
  pair_misfits None h = refl
  pair_misfits (Some ds) h = two_misfits ds h

  pub agrees-pair : Agrees (ReadsPair R S) (MisfitsPair M N) (pair a b) (λ p. (see p.0, look p.1))
  agrees-pair = record { reads = λ d p h. pair_reads (as_array d) p h; misfits = λ d h. pair_misfits (as_array d) h }

module _ {X A : Type 0} {R : Data → X → Type 0} {M : Data → Type 0} {shape : Shape A} {see : X → A} (agrees : Agrees R M shape see) where
  at_reads : (o : Option Data) (x : X) → IsSomeAnd o (λ e. R e x) → option_and_then shape o ≡ Some (see x)
  at_reads None x h = absurd h
  at_reads (Some e) x h = agrees.reads e x h

  at_misfits : (o : Option Data) → MatchOption o ⊤ M → option_and_then shape o ≡ None
  at_misfits None h = refl
  at_misfits (Some e) h = agrees.misfits e h

  pub agrees-at : (name : List ℕ) → Agrees (λ d x. ReadsAt R name d x) (MisfitsAt M name) (at name shape) see
  agrees-at name = record { reads = λ d x h. at_reads (get name d) x h; misfits = λ d h. at_misfits (get name d) h }
