-- What a value reads as, at each type.
use Rattle.std.specs.Prelude.{◌≡◌, ℕ, ◌⊎◌, List, [], ◌∷◌, Option, None, MatchOption, ⊤, IsSomeAnd}
use Rattle.std.specs.List.{AllZip}
use Rattle.serde_json.specs.Data.{Data, Items, no_items, item}
use Rattle.serde_json.specs.Find.{as_array, get}

-- the items as a list
abbrev pub elements : Items → List Data
elements no_items = []
elements (item d ds) = d ∷ elements ds

-- A list, each of whose items reads as the one at its place.
abbrev pub ReadsList : {X : Type 0} → (Data → X → Type 0) → Data → List X → Type 0
ReadsList R d xs = IsSomeAnd (as_array d) (λ ds. AllZip R (elements ds) xs)

-- One of the items misfits.
abbrev pub SomeMisfits : (Data → Type 0) → List Data → Type 0
SomeMisfits M [] = ⊥
SomeMisfits M (d ∷ ds) = M d ⊎ SomeMisfits M ds

-- No list, or one of its items misfits.
abbrev pub MisfitsList : (Data → Type 0) → Data → Type 0
MisfitsList M d = MatchOption (as_array d) ⊤ (λ ds. SomeMisfits M (elements ds))

-- Just two items, that read so.
abbrev pub ReadsTwo : {X Y : Type 0} → (Data → X → Type 0) → (Data → Y → Type 0) → List Data → X × Y → Type 0
ReadsTwo R S (x ∷ y ∷ []) p = R x p.0 × S y p.1
ReadsTwo R S _ p = ⊥

-- A list of just two items, that read so.
abbrev pub ReadsPair : {X Y : Type 0} → (Data → X → Type 0) → (Data → Y → Type 0) → Data → X × Y → Type 0
ReadsPair R S d p = IsSomeAnd (as_array d) (λ ds. ReadsTwo R S (elements ds) p)

-- Not two items, or one that misfits.
abbrev pub MisfitsTwo : (Data → Type 0) → (Data → Type 0) → List Data → Type 0
MisfitsTwo M N (x ∷ y ∷ []) = M x ⊎ N y
MisfitsTwo M N _ = ⊤

-- No list of two items that fit.
abbrev pub MisfitsPair : (Data → Type 0) → (Data → Type 0) → Data → Type 0
MisfitsPair M N d = MatchOption (as_array d) ⊤ (λ ds. MisfitsTwo M N (elements ds))

-- The member is there and reads so.
abbrev pub ReadsAt : {X : Type 0} → (Data → X → Type 0) → List ℕ → Data → X → Type 0
ReadsAt R name d x = IsSomeAnd (get name d) (λ e. R e x)

-- The member is missing or misfits.
abbrev pub MisfitsAt : (Data → Type 0) → List ℕ → Data → Type 0
MisfitsAt M name d = MatchOption (get name d) ⊤ M

-- The member is missing, or it reads so.
abbrev pub ReadsGiven : {X : Type 0} → (Data → X → Type 0) → List ℕ → Data → Option X → Type 0
ReadsGiven R name d o = MatchOption (get name d) (o ≡ None) (λ e. IsSomeAnd o (λ x. R e x))

-- The member is there and misfits.
abbrev pub MisfitsGiven : (Data → Type 0) → List ℕ → Data → Type 0
MisfitsGiven M name d = IsSomeAnd (get name d) M
