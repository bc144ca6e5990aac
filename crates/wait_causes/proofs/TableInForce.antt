-- The table in force after one takeover more.
use Rattle.std.proofs.Common.{◌≡◌, ◌∙◌, ℕ, ◌+◌, ◌<◌, List, [], ◌∷◌, ◌++◌, length, take, get_or, refl, sym, ap, true, false, Some}
use Rattle.std.specs.Prelude.{cond, find, reverse}
use Rattle.std.specs.Option.{option_map_or}
use Rattle.std.proofs.lemmas.List.{reverse-append, take_more}
use Rattle.run_timetable.specs.declared.run.Takeover.{Takeover}
use Rattle.wait_causes.specs.Before.{table_before, took_over}

after_one : (xs : List Takeover) (u : Takeover) (tick : ℕ) → table_before (xs ++ u ∷ []) tick ≡ cond (took_over tick u) u.table (table_before xs tick)
after_one xs u tick =
    ap (λ back. option_map_or (λ (t : Takeover). t.table) (find (took_over tick) back) 0) (reverse-append xs (u ∷ []))
    ∙ elim (took_over tick u) as (λ b. option_map_or (λ (t : Takeover). t.table) (cond b (Some u) (find (took_over tick) (reverse xs))) 0 ≡ cond b u.table (table_before xs tick)) [
      | true ↦ refl
      | false ↦ refl
    ]

pub table_more : (xs : List Takeover) (k : ℕ) (u : Takeover) (tick : ℕ) → k < length xs → u ≡ get_or xs k u
    → table_before (take (k + 1) xs) tick ≡ cond (took_over tick u) u.table (table_before (take k xs) tick)
table_more xs k u tick lt at =
    ap (λ l. table_before l tick) (take_more xs k u lt ∙ ap (λ x. take k xs ++ x ∷ []) (sym at)) ∙ after_one (take k xs) u tick
