-- Worked rows: the first path, the leaving trains, and each refusal once.
use Rattle.std.proofs.Common.{◌≡◌, ℕ, true, false, List, [], ◌∷◌, length, Some, None, Ok, Err, refl, sym, ap, ◌∙◌}
use Rattle.std.specs.Prelude.{codes}
use Rattle.rail_model.specs.Layout.{Layout}
use Rattle.rail_model.specs.Table.{Mission}
use Rattle.rail_model.specs.Ways.{AreMissionsOf}
use Rattle.mission_table.specs.declared.refused.TrainRefused.TheVariants.{TooMany, Name, DoubleName}
use Rattle.mission_table.specs.declared.refused.MissionRefused.TheVariants.{Lists, Exits, Length, UnknownPoint, NotLinked}
use Rattle.mission_table.specs.Roster.{too_many, trains_from}
use Rattle.mission_table.specs.Ways.{bad_length, missions_from}
use Rattle.mission_table.proofs.Enrolled.{refused_count}
use Rattle.mission_table.proofs.Taken.{missions_taken}

two_trains : trains_from (codes "T0" ∷ codes "T1" ∷ []) ≡ Ok (codes "T0" ∷ codes "T1" ∷ [])
unfolding trains_from
two_trains = refl

no_train : trains_from [] ≡ Ok []
unfolding trains_from
no_train = refl

many_trains : (names : List (List ℕ)) → length names ≡ 33 → trains_from names ≡ Err (TooMany 33)
many_trains names size = refused_count names (TooMany 33) (ap too_many (sym size))

empty_name : trains_from (codes "T0" ∷ codes "" ∷ []) ≡ Err (Name 1)
unfolding trains_from
empty_name = refl

double_name : trains_from (codes "T0" ∷ codes "T1" ∷ codes "T0" ∷ []) ≡ Err (DoubleName 0 2)
unfolding trains_from
double_name = refl

-- the points A, B and C, and the links A B and B C
abbrev layout : Layout
layout = record {
  points = record { name = codes "A"; zone = 0 } ∷ record { name = codes "B"; zone = 0 } ∷ record { name = codes "C"; zone = 0 } ∷ [];
  links = record { first = 0; second = 1 } ∷ record { first = 1; second = 2 } ∷ [];
  zones = 1;
}

abbrev way : List (List ℕ)
way = codes "A" ∷ codes "B" ∷ codes "C" ∷ []

abbrev path : List Mission
path = record { points = 0 ∷ 1 ∷ 2 ∷ []; exits = false } ∷ []

first_path : missions_from layout 1 (way ∷ []) (false ∷ []) ≡ Ok path
unfolding missions_from
first_path = refl

first_path_is_linked : AreMissionsOf layout path
first_path_is_linked = ((missions_taken layout 1 (way ∷ []) (false ∷ []) path).0 first_path).3

-- two trains that leave the layout after B
leaving : missions_from layout 2 ((codes "A" ∷ codes "B" ∷ []) ∷ (codes "C" ∷ codes "B" ∷ []) ∷ []) (true ∷ true ∷ [])
    ≡ Ok (record { points = 0 ∷ 1 ∷ []; exits = true } ∷ record { points = 2 ∷ 1 ∷ []; exits = true } ∷ [])
unfolding missions_from
leaving = refl

missing_list : missions_from layout 2 (way ∷ []) (false ∷ []) ≡ Err (Lists 1)
unfolding missions_from
missing_list = refl

-- the exits are counted before the first mission is read
missing_exit : missions_from layout 2 ([] ∷ way ∷ []) (true ∷ []) ≡ Err (Exits 1)
unfolding missions_from
missing_exit = refl

no_points : missions_from layout 1 ([] ∷ []) (true ∷ []) ≡ Err (Length 0 0)
unfolding missions_from
no_points = refl

long : bad_length 0 129 false ≡ Some (Length 0 129)
long = refl

long_enough : bad_length 0 128 false ≡ None
long_enough = refl

long_with_exit : bad_length 0 128 true ≡ Some (Length 0 128)
long_with_exit = refl

-- a place is read after the place before it: the cut at place 1 comes before the name at place 2
unknown_point : missions_from layout 1 ((codes "A" ∷ codes "B" ∷ codes "D" ∷ []) ∷ []) (false ∷ []) ≡ Err (UnknownPoint 0 2)
unfolding missions_from
unknown_point = refl

cut_first : missions_from layout 1 ((codes "A" ∷ codes "C" ∷ codes "D" ∷ []) ∷ []) (false ∷ []) ≡ Err (NotLinked 0 1)
unfolding missions_from
cut_first = refl

-- the links A B alone
abbrev cut : Layout
cut = record layout { links = record { first = 0; second = 1 } ∷ [] }

not_linked : missions_from cut 1 (way ∷ []) (false ∷ []) ≡ Err (NotLinked 0 2)
unfolding missions_from
not_linked = refl

cut_path_is_none : AreMissionsOf cut path → ⊥
cut_path_is_none are =
    let taken = (missions_taken cut 1 (way ∷ []) (false ∷ []) path).1 (refl, refl, refl, are) in
    absurd (let both : Err (NotLinked 0 2) ≡ Ok path = sym not_linked ∙ taken in cc)

-- the first train's places come before the second train's length
train_by_train : missions_from cut 2 (way ∷ [] ∷ []) (false ∷ false ∷ []) ≡ Err (NotLinked 0 2)
unfolding missions_from
train_by_train = refl
