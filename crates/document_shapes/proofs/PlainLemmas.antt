-- What is written is plain, shape by shape.
use Rattle.std.proofs.Common.{◌≡◌, ℕ, ◌+◌, ◌<◌, ◌≤◌, ◌-◌, ◌^◌, ℤ, pos, negsuc, Bool, true, false, List, [], ◌∷◌, map, All, Option, Some, None, IsUtf8, refl, ap, ◌∙◌, arith}
use Rattle.std.specs.Prelude.{neg_ℤ, ◌≤ℤ◌, MatchOption, ⊤, option_map, option_and_then}
use Rattle.std.proofs.lemmas.Fmt.{IsAscii-decimal, IsAscii-signed}
use Rattle.std.proofs.lemmas.Int.{ints}
use Rattle.std.proofs.lemmas.List.Elements.{All-head, All-tail}
use Rattle.std.proofs.lemmas.Str.{IsUtf8-append, IsUtf8-nil, IsUtf8-from_ascii}
use Rattle.json.specs.Tree.{HasNumbers, ItemsHaveNumbers, MembersHaveNumbers, depth, items_depth, members_depth}
use Rattle.json.proofs.Printed.Decimals.{IsNumber-decimal, IsNumber-signed_decimal}
use Rattle.json.proofs.Printed.Utf8.{are_ascii, IsUtf8-are_ascii, IsUtf8-quoted}
use Rattle.serde_json.specs.Data.{Data, boolean, number, string, array, object, Items, no_items, item, Members, no_members, member}
use Rattle.serde_json.specs.Read.{of_json, of_items}
use Rattle.serde_json.specs.View.{items_of}
use Rattle.serde_json.specs.Written.{outline, items_outline, members_outline, comma_if, compact_text, items_text, members_text}
use Rattle.serde_json.proofs.Numbers.{number_of-decimal, number_of-negative}
use Rattle.document_shapes.specs.InRange.{IsSmall, IsChange}
use Rattle.document_shapes.specs.Written.{whole_data, change_data, list_data, given_member}
use Rattle.document_shapes.proofs.MemberOrder.{Precedes, AreReadFrom, none-read, member-read, skipped-read}

-- The data as JSON have no numbers but integers, are read as the same data, are written in UTF-8, and nest at most so deep.
pub record IsPlain (levels : ℕ) (d : Data) : Type 0 where
  pub numbers : HasNumbers (outline d)
  pub same : of_json (outline d) ≡ Some d
  pub utf8 : IsUtf8 (compact_text d)
  pub deep : depth (outline d) ≤ levels

pub plain-whole : (n : ℕ) → IsSmall n → IsPlain 0 (whole_data n)
plain-whole n small = record {
  numbers = IsNumber-decimal n (omega arith);
  same = ap (option_map number) (number_of-decimal n (omega arith));
  utf8 = IsUtf8-from_ascii _ (IsAscii-decimal n (omega arith));
  deep = omega arith;
}

pub pos-small : (n : ℕ) → pos n ≤ℤ pos (2 ^ 31 - 1) → n < 2 ^ 31
pos-small n high = grind (arith, ints, high)

negsuc-small : (n : ℕ) → neg_ℤ (pos (2 ^ 31)) ≤ℤ negsuc n → n < 2 ^ 31
negsuc-small n low = grind (arith, ints, low)

pub plain-change : (z : ℤ) → IsChange z → IsPlain 0 (change_data z)
plain-change (pos n) h = plain-whole n (omega (arith, pos-small n h.1))
plain-change (negsuc n) h = record {
  numbers = IsNumber-signed_decimal (negsuc n) (omega (arith, negsuc-small n h.0));
  same = ap (option_map number) (number_of-negative n (omega (arith, negsuc-small n h.0)));
  utf8 = IsUtf8-from_ascii _ (IsAscii-signed (negsuc n) (omega (arith, negsuc-small n h.0)));
  deep = omega arith;
}

pub plain-text : (s : List ℕ) → IsUtf8 s → IsPlain 0 (string s)
plain-text s u = record { numbers = tt; same = refl; utf8 = IsUtf8-quoted s u; deep = omega arith }

pub plain-truth : (b : Bool) → IsPlain 0 (boolean b)
plain-truth b = record { numbers = tt; same = refl; utf8 = either b; deep = omega arith }
  where
    either : (c : Bool) → IsUtf8 (compact_text (boolean c))
    either true = IsUtf8-are_ascii _ refl
    either false = IsUtf8-are_ascii _ refl

-- The same of items, and of members, whose names begin with this one.
pub record ItemsArePlain (levels : ℕ) (ds : Items) : Type 0 where
  pub numbers : ItemsHaveNumbers (items_outline ds)
  pub same : of_items (items_outline ds) ≡ Some ds
  pub utf8 : (later : Bool) → IsUtf8 (items_text later ds)
  pub deep : items_depth (items_outline ds) ≤ levels

pub record MembersArePlain (levels : ℕ) (name : List ℕ) (ms : Members) : Type 0 where
  pub numbers : MembersHaveNumbers (members_outline ms)
  pub same : AreReadFrom name ms
  pub utf8 : (later : Bool) → IsUtf8 (members_text later ms)
  pub deep : members_depth (members_outline ms) ≤ levels

comma-utf8 : (later : Bool) → IsUtf8 (comma_if later)
comma-utf8 true = IsUtf8-are_ascii (44 ∷ []) refl
comma-utf8 false = IsUtf8-nil

pub plain-no_items : (k : ℕ) → ItemsArePlain k no_items
plain-no_items k = record { numbers = tt; same = refl; utf8 = λ later. IsUtf8-are_ascii (93 ∷ []) refl; deep = omega arith }

pub plain-item : (k : ℕ) (d : Data) (ds : Items) → IsPlain k d → ItemsArePlain k ds → ItemsArePlain k (item d ds)
plain-item k d ds first rest = record {
  numbers = (first.numbers, rest.numbers);
  same = ap (option_and_then (λ e. option_map (item e) (of_items (items_outline ds)))) first.same ∙ ap (option_map (item d)) rest.same;
  utf8 = λ later. IsUtf8-append _ _ (comma-utf8 later) (IsUtf8-append _ _ first.utf8 (rest.utf8 true));
  deep = let a = first.deep in let b = rest.deep in omega arith;
}

pub plain-array : (k : ℕ) (ds : Items) → ItemsArePlain k ds → IsPlain (k + 1) (array ds)
plain-array k ds h = record {
  numbers = h.numbers;
  same = ap (option_map array) h.same;
  utf8 = IsUtf8-append (91 ∷ []) _ (IsUtf8-are_ascii (91 ∷ []) refl) (h.utf8 false);
  deep = let a = h.deep in omega arith;
}

pub plain-no_members : (k : ℕ) (name : List ℕ) → MembersArePlain k name no_members
plain-no_members k name = record { numbers = tt; same = none-read name; utf8 = λ later. IsUtf8-are_ascii (125 ∷ []) refl; deep = omega arith }

module _ (k : ℕ) (name next : List ℕ) (ascii : are_ascii name ≡ true) (before : Precedes name next) where
  pub plain-member : (d : Data) (ms : Members) → IsPlain k d → MembersArePlain k next ms → MembersArePlain k name (member name d ms)
  plain-member d ms first rest = record {
    numbers = (first.numbers, rest.numbers);
    same = member-read name next d ms before first.same rest.same;
    utf8 = λ later.
        IsUtf8-append _ _ (comma-utf8 later)
        (IsUtf8-append _ _ (IsUtf8-quoted name (IsUtf8-are_ascii name ascii))
        (IsUtf8-append (58 ∷ []) _ (IsUtf8-are_ascii (58 ∷ []) refl) (IsUtf8-append _ _ first.utf8 (rest.utf8 true))));
    deep = let a = first.deep in let b = rest.deep in omega arith;
  }

  pub plain-given : (o : Option Data) (ms : Members) → MatchOption o ⊤ (IsPlain k) → MembersArePlain k next ms → MembersArePlain k name (given_member name o ms)
  plain-given None ms h rest = record { numbers = rest.numbers; same = skipped-read name next ms before rest.same; utf8 = rest.utf8; deep = rest.deep }
  plain-given (Some d) ms h rest = plain-member d ms h rest

pub plain-object : (k : ℕ) (name : List ℕ) (ms : Members) → MembersArePlain k name ms → IsPlain (k + 1) (object ms)
plain-object k name ms h = record {
  numbers = h.numbers;
  same = ap (option_map object) (h.same no_members tt);
  utf8 = IsUtf8-append (123 ∷ []) _ (IsUtf8-are_ascii (123 ∷ []) refl) (h.utf8 false);
  deep = let a = h.deep in omega arith;
}

-- what nests less deep
pub plain-within : (j k : ℕ) (d : Data) → j ≤ k → IsPlain j d → IsPlain k d
plain-within j k d more h = record { numbers = h.numbers; same = h.same; utf8 = h.utf8; deep = let a = h.deep in omega arith }

items-plain : {A : Type 0} (k : ℕ) (put : A → Data) (xs : List A) → All (λ x. IsPlain k (put x)) xs → ItemsArePlain k (items_of (map put xs))
items-plain k put [] h = plain-no_items k
items-plain k put (x ∷ xs) h =
    plain-item k (put x) (items_of (map put xs)) (All-head (λ x. IsPlain k (put x)) x xs h) (items-plain k put xs (All-tail (λ x. IsPlain k (put x)) x xs h))

pub plain-list : {A : Type 0} (k : ℕ) (put : A → Data) (xs : List A) → All (λ x. IsPlain k (put x)) xs → IsPlain (k + 1) (list_data put xs)
plain-list k put xs h = plain-array k (items_of (map put xs)) (items-plain k put xs h)
