-- Worked rows: what is told of guards of the corridor A M N B against C N M D, and which guards come with a number.
use Rattle.std.proofs.Common.{◌≡◌, List, [], ◌∷◌, codes, refl}
use Rattle.std.specs.Fmt.{digits}
use Rattle.forbidden_states.specs.Forbid.{Stay}
use Rattle.rail_model.specs.Names.{Names}
use Rattle.rail_model.proofs.Samples.{corridor}
use Rattle.document_protection.specs.Protected.{guards_at}
use Rattle.document_protection.specs.Words.{guards_words, why_words}
use Rattle.document_protection.specs.declared.unprotected.Why.TheVariants.{GaveUp, Spent}

abbrev names : Names
names = record {
  points = codes "A" ∷ codes "M" ∷ codes "N" ∷ codes "B" ∷ codes "C" ∷ codes "D" ∷ [];
  trains = codes "T0" ∷ codes "T1" ∷ [];
}

-- the first train at M or N, and the second at N
abbrev head_on : List Stay
head_on =
    record { train = 0; range = record { lo = 1; hi = 2 } }
    ∷ record { train = 1; range = record { lo = 1; hi = 1 } } ∷ []

-- the corridor has a section of its own, so its guard is the next one
told : guards_words names corridor 0 (head_on ∷ [])
    ≡ codes "tables[0].sections[1]: never all at once: T0 from M to N (places 1 to 2), T1 at N (place 1)\n"
unfolding digits
told = refl

none_told : guards_words names corridor 0 [] ≡ []
none_told = refl

gave_up : why_words 2 (GaveUp 9)
    ≡ codes "table 2: gave up after 9 nodes; whether it has a certificate with these sections isn't known\n"
unfolding digits
gave_up = refl

spent : why_words 0 (Spent (1 ∷ 1 ∷ []))
    ≡ codes "with these sections: 206 Stuck table=0 at=1,1; no more rounds are made\n"
unfolding digits
spent = refl

second : guards_at ([] ∷ (head_on ∷ []) ∷ []) 1 ≡ head_on ∷ []
second = refl
