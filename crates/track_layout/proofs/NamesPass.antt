-- Names pass the tests of names.
use Rattle.std.proofs.Common.{◌≡◌, ◌∙◌, not, ℕ, ◌<◌, false, List, [], length, take, length-take, get_or, None, option_map, bytes_eq, position, sym, ap, subst, arith}
use Rattle.std.specs.Cmp.Lexicographic.{bytes_decides}
use Rattle.std.proofs.lemmas.Bool.{false_from_ne_true}
use Rattle.std.proofs.lemmas.List.{get_or-take, get_or_default}
use Rattle.rail_model.specs.Names.{IsName, AreNames}
use Rattle.rail_model.specs.Naming.{is_name, double_at, first_double}
use Rattle.rail_model.proofs.Firsts.{first_below-all}
use Rattle.rail_model.proofs.NameTests.{Decides-name}
use Rattle.rail_model.proofs.Places.{position_past}

-- none of them is refused
pub no_bad_name : (names : List (List ℕ)) → AreNames names → position (λ name. not (is_name name)) names ≡ None
no_bad_name names formed =
    position_past (λ name. not (is_name name)) names
    (λ k d lt. ap not ((Decides-name (get_or names k d)).1 (subst IsName (get_or_default names k [] d lt) (formed.each k lt))))

-- no name before a place is the name at the place
before_differs : (names : List (List ℕ)) (second k : ℕ) (d : List ℕ) → AreNames names → second < length names → k < length (take second names)
    → bytes_eq (get_or names second []) (get_or (take second names) k d) ≡ false
before_differs names second k d formed within short =
    let size = length-take second names in
    let earlier : k < second = omega arith in
    let there : get_or (take second names) k d ≡ get_or names k [] = get_or-take second names k d earlier ∙ get_or_default names k d [] (omega arith) in
    false_from_ne_true _ (λ same.
    let equal = (bytes_decides (get_or names second []) (get_or (take second names) k d)).0 same in
    let one : k ≡ second = formed.apart k second (omega arith) within (sym there ∙ sym equal) in
    absurd (omega arith))

-- none of them comes twice
pub no_double : (names : List (List ℕ)) → AreNames names → first_double names ≡ None
no_double names formed =
    first_below-all (length names) (double_at names)
    (λ second within. ap (option_map {U = ℕ × ℕ} (λ first. (first, second)))
    (position_past (bytes_eq (get_or names second [])) (take second names) (λ k d short. before_differs names second k d formed within short)))
