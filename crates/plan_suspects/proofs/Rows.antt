-- Worked rows: which names are one letter off.
use Rattle.std.proofs.Common.{◌≡◌, true, false, codes, refl}
use Rattle.plan_suspects.specs.Letters.{is_one_letter_off}

-- a letter that is added, another one, and two that are swapped
pub doubled : is_one_letter_off (codes "bb") (codes "b") ≡ true
unfolding is_one_letter_off
doubled = refl

pub replaced : is_one_letter_off (codes "Yard") (codes "Yord") ≡ true
unfolding is_one_letter_off
replaced = refl

pub swapped : is_one_letter_off (codes "Yard") (codes "Yadr") ≡ true
unfolding is_one_letter_off
swapped = refl

-- two platforms, two points of one letter, and two letters off
pub numbered : is_one_letter_off (codes "P1") (codes "P2") ≡ false
unfolding is_one_letter_off
numbered = refl

pub short : is_one_letter_off (codes "a") (codes "b") ≡ false
unfolding is_one_letter_off
short = refl

pub twice_off : is_one_letter_off (codes "Yard") (codes "Yxrx") ≡ false
unfolding is_one_letter_off
twice_off = refl
