-- Worked rows: on a line of three points two trains are never both at places of one point, nor at places where a section is full.
use Rattle.std.proofs.Common.{◌≡◌, ℕ, true, false, pos, negsuc, [], ◌∷◌, refl, ap, subst, arith, lit<}
use Rattle.std.specs.Prelude.{codes}
use Rattle.std.proofs.lemmas.Int.{ints}
use Rattle.rail_model.specs.State.{Legal}
use Rattle.rail_model.specs.Table.{Table, place, point}
use Rattle.rail_model.specs.Yard.{Yard}
use Rattle.order_sections.proofs.Reaching.{kept_reached}
use Rattle.order_sections.specs.Orders.{with_more}
use Rattle.reached_states.specs.Reached.{AreOffered, IsReached, offered}
use Rattle.run_sentences.specs.Told.{AreApart, PassALimit, apart_words}

-- points 0, 1, 2: the first train starts at point 1 and leaves behind point 2; the second goes from point 0 to point 2
abbrev line : Table
line = record {
  missions = record { points = 1 ∷ 2 ∷ []; exits = true } ∷ record { points = 0 ∷ 1 ∷ 2 ∷ []; exits = false } ∷ [];
  sections = [];
  connections = [];
}

line-apart : AreOffered (record { table = line; after = 0 } ∷ []) (0 ∷ 0 ∷ [])
    → AreApart (record { table = line; after = 0 } ∷ []) (0 ∷ 0 ∷ []) 0 (0 ∷ 1 ∷ []) (record { first = 0; second = 1 })
line-apart given = record {
  first = lit< tt;
  second = lit< tt;
  differ = λ same. omega (arith, same);
  never = never;
}
  where
    never : (y : Yard) → IsReached (record { table = line; after = 0 } ∷ []) (0 ∷ 0 ∷ []) y → y.table ≡ 0
        → place y.positions 0 ≡ 0 → place y.positions 1 ≡ 1 → ⊥
    never y reached table here there =
        let legal : Legal line y.positions =
        subst (λ (t : ℕ). Legal (offered (record { table = line; after = 0 } ∷ []) t) y.positions) table
        (kept_reached (record { table = line; after = 0 } ∷ []) (0 ∷ 0 ∷ []) y given reached).within.legal in
        legal.apart 0 1 1 (lit< tt) (lit< tt) (λ same. omega (arith, same)) (ap (point line 0) here) (ap (point line 1) there)

-- the section is full where the second train has run past the first
full-there : PassALimit (with_more line (record { limit = 4; changes = (pos 4 ∷ negsuc 0 ∷ negsuc 0 ∷ []) ∷ (pos 0 ∷ pos 1 ∷ pos 1 ∷ []) ∷ [] } ∷ []))
    (1 ∷ 2 ∷ []) (record { first = 0; second = 1 })
full-there = record {
  s = 0;
  section = lit< tt;
  first = lit< tt;
  second = lit< tt;
  differ = λ same. omega (arith, same);
  over = omega (arith, ints);
}

apart-told : apart_words (record { points = []; trains = codes "T0" ∷ codes "T1" ∷ [] }) (record { first = 0; second = 1 })
    ≡ codes "No run from the start leads there, since T0 and T1 are never both at these places.\n"
apart-told = refl
