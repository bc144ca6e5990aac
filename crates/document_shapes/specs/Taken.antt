-- What is read of the tokens of a text.
use Rattle.std.specs.Prelude.{◌≡◌, ◌+◌, ℕ, List, ◌∷◌, length, Option, Some, None, option_and_then, MatchOption, IsSomeAnd}
use Rattle.std.specs.List.{AllZip}
use Rattle.json.specs.Token.{Token}
use Rattle.json.specs.Json as json
use Rattle.serde_json.specs.Data.{Data, number, Items, Members, no_members, put}
use Rattle.serde_json.specs.Find.{get_member, as_object}
use Rattle.serde_json.specs.Read.{number_of, of_json, of_items, of_members}
use Rattle.document_shapes.specs.Readings.{elements}
use Rattle.document_shapes.specs.Shape.{Shape}

-- what the text of a number is read as, in a shape
unfoldable pub number_read : {A : Type 0} → Shape A → List ℕ → Option A
number_read shape text = option_and_then (λ k. shape (number k)) (number_of text)

-- The tokens begin with a value that reads as x and nests at most so deep, and the rest follow it.
abbrev pub Takes : {X : Type 0} → (Data → X → Type 0) → ℕ → List Token → X → List Token → Type 0
Takes R depth tokens x rest = (j : json.Json) × (d : Data) × (json.value depth tokens ≡ Some (j, rest)) × (of_json j ≡ Some d) × R d x

-- The tokens begin with items that read so, and with the end of their list.
abbrev pub TakesItems : {X : Type 0} → (Data → X → Type 0) → ℕ → List Token → List X → List Token → Type 0
TakesItems R depth tokens xs rest =
    (js : json.Items) × (ds : Items) × (json.items (json.value depth) (length tokens) tokens ≡ Some (js, rest)) × (of_items js ≡ Some ds) × AllZip R (elements ds) xs

-- The tokens begin with members of which this is found, and with the end of their object.
abbrev pub TakesMembers : {X : Type 0} → (Members → X → Type 0) → ℕ → List Token → X → List Token → Type 0
TakesMembers F depth tokens x rest =
    (js : json.Members) × (ms : Members) × (json.members (json.value depth) (length tokens) tokens ≡ Some (js, rest)) × (of_members js no_members ≡ Some ms) × F ms x

-- The token comes first, where what it opens may nest one deeper.
abbrev pub Opens : Token → ℕ → List Token → ℕ → List Token → Type 0
Opens t depth tokens inner rest = (depth ≡ inner + 1) × (tokens ≡ t ∷ rest)

-- An object, of whose members this is found.
abbrev pub IsObjectWith : {X : Type 0} → (Members → X → Type 0) → Data → X → Type 0
IsObjectWith F d x = IsSomeAnd (as_object d) (λ ms. F ms x)

-- With the value under the name, what was found becomes this.
abbrev pub FindsAt : {X : Type 0} → (Members → X → Type 0) → List ℕ → X → Data → X → Type 0
FindsAt F name before d after = (ms : Members) → F ms before → F (put name d ms) after

-- What is found of the member of this name: the value in its shape, or none where there is no such member.
abbrev pub Finds : {A X : Type 0} → Shape A → (X → A) → List ℕ → Members → Option X → Type 0
Finds shape see name ms found =
    MatchOption found (get_member name ms ≡ None) (λ x. option_and_then shape (get_member name ms) ≡ Some (see x))
