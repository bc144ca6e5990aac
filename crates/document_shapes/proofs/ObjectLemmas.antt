-- Tables that are objects, and a list with one that is not.
use Rattle.std.proofs.Common.{◌≡◌, true, false, List, [], ◌∷◌, map, Option, Some, None, option_map, Ok, Err, refl, sym, ap, ◌∙◌}
use Rattle.std.specs.Prelude.{option_and_then, ok_or}
use Rattle.std.specs.List.{list_all}
use Rattle.std.proofs.lemmas.List.Folds.{list_all-map}
use Rattle.serde_json.specs.Data.{Data, null, boolean, number, string, array, object}
use Rattle.serde_json.specs.Find.{get, as_array}
use Rattle.serde_json.specs.View.{view, items_of, items_view}
use Rattle.serde_json.specs.declared.value.Value.{Value}
use Rattle.document_shapes.specs.Members.{name_of, need}
use Rattle.document_shapes.specs.declared.member.Member.TheVariants.{Tables}
use Rattle.document_shapes.specs.declared.refused.ShapeRefused.TheVariants.{Shape}
use Rattle.document_shapes.specs.Shape.{each}
use Rattle.document_shapes.specs.Shape as shape
use Rattle.document_shapes.specs.Values.{is_object}

abbrev onto : Option Data → Option (List Data) → Option (List Data)
onto o r = option_and_then (λ x. option_map (λ xs. x ∷ xs) r) o

pub each-objects : (ds : List Data) → list_all is_object ds ≡ true → each shape.object (items_of ds) ≡ Some ds
each-objects [] h = refl
each-objects (null ∷ ds) h = cc
each-objects (boolean b ∷ ds) h = cc
each-objects (number n ∷ ds) h = cc
each-objects (string s ∷ ds) h = cc
each-objects (array items ∷ ds) h = cc
each-objects (object ms ∷ ds) h = ap (onto (Some (object ms))) (each-objects ds h)

pub each-no_object : (ds : List Data) → list_all is_object ds ≡ false → each shape.object (items_of ds) ≡ None
each-no_object [] h = cc
each-no_object (null ∷ ds) h = refl
each-no_object (boolean b ∷ ds) h = refl
each-no_object (number n ∷ ds) h = refl
each-no_object (string s ∷ ds) h = refl
each-no_object (array items ∷ ds) h = refl
each-no_object (object ms ∷ ds) h = ap (onto (Some (object ms))) (each-no_object ds h)

-- what is shown of the value of an option
pub shown : {X B : Type 0} (look : X → B) (o : Option X) (x : X) (b : Option B) → o ≡ Some x → option_map look o ≡ b → Some (look x) ≡ b
shown look o x b is h = sym (ap (option_map look) is) ∙ h

abbrev tables_in : Option Data → Option (List Data)
tables_in o = option_and_then (shape.list_of shape.object) o

module _ (d : Data) (tables : Value) (vs : List Value) (there : Some (view tables) ≡ get (name_of Tables) d) (list : Some (items_view vs) ≡ as_array (view tables)) where
  in_list : need None Tables (shape.list_of shape.object) d ≡ ok_or (each shape.object (items_view vs)) (Shape None Tables)
  in_list =
      ap (λ o. ok_or (tables_in o) (Shape None Tables)) (sym there)
      ∙ ap (λ o. ok_or (option_and_then (each shape.object) o) (Shape None Tables)) (sym list)

  -- the tables, each of them an object
  pub tables-objects : list_all (λ v. is_object (view v)) vs ≡ true → need None Tables (shape.list_of shape.object) d ≡ Ok (map view vs)
  tables-objects all = in_list ∙ ap (λ o. ok_or o (Shape None Tables)) (each-objects (map view vs) (list_all-map is_object view vs ∙ all))

  -- one of them is no object
  pub tables-no_object : list_all (λ v. is_object (view v)) vs ≡ false → need None Tables (shape.list_of shape.object) d ≡ Err (Shape None Tables)
  tables-no_object all = in_list ∙ ap (λ o. ok_or o (Shape None Tables)) (each-no_object (map view vs) (list_all-map is_object view vs ∙ all))
