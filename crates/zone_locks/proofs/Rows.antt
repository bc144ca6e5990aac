-- Worked rows: sets of zones, and who holds a zone.
use Rattle.std.proofs.Common.{◌≡◌, [], ◌∷◌, true, false, Some, None, refl}
use Rattle.std.specs.Prelude.{find, nat_le, not}
use Rattle.zone_locks.specs.Zones.{is_set, members, has, with_zone, without, holder}

bits_1_3_and_4 : members 26 ≡ 1 ∷ 3 ∷ 4 ∷ []
unfolding members
bits_1_3_and_4 = refl

bit_3 : is_set 26 3 ≡ true
bit_3 = refl

bit_2 : is_set 26 2 ≡ false
bit_2 = refl

between : with_zone 2 (1 ∷ 3 ∷ 4 ∷ []) ≡ 1 ∷ 2 ∷ 3 ∷ 4 ∷ []
between = refl

at_the_end : with_zone 9 (1 ∷ 3 ∷ 4 ∷ []) ≡ 1 ∷ 3 ∷ 4 ∷ 9 ∷ []
at_the_end = refl

there_already : with_zone 3 (1 ∷ 3 ∷ 4 ∷ []) ≡ 1 ∷ 3 ∷ 4 ∷ []
there_already = refl

given_back : without 3 (1 ∷ 3 ∷ 4 ∷ []) ≡ 1 ∷ 4 ∷ []
given_back = refl

not_there : without 2 (1 ∷ 3 ∷ 4 ∷ []) ≡ 1 ∷ 3 ∷ 4 ∷ []
not_there = refl

one_of_them : has 3 (1 ∷ 3 ∷ 4 ∷ []) ≡ true
one_of_them = refl

none_of_them : has 2 (1 ∷ 3 ∷ 4 ∷ []) ≡ false
none_of_them = refl

-- from a zone of the set on that zone is the first, from one above all of them on there is none
first_from_3 : find (nat_le 3) (1 ∷ 3 ∷ 4 ∷ []) ≡ Some 3
first_from_3 = refl

first_from_5 : find (nat_le 5) (1 ∷ 3 ∷ 4 ∷ []) ≡ None
first_from_5 = refl

-- the first zone that is needed and isn't held
first_missing : find (λ z. not (has z (1 ∷ 4 ∷ []))) (1 ∷ 3 ∷ 4 ∷ []) ≡ Some 3
first_missing = refl

-- a free zone, one of train 0's driver, and one of the control
free : holder 0 ≡ None
free = refl

driver_0 : holder 1 ≡ Some 0
driver_0 = refl

control : holder 33 ≡ Some 32
control = refl
