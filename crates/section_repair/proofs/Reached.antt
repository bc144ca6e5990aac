-- The table that some rounds reached, from one round to the next.
use Rattle.std.proofs.Common.{◌≡◌, ℕ, zero, suc, ◌<◌, ◌≤◌, List, [], ◌∷◌, ◌++◌, length, Some, None, refl, arith, ap, ◌∙◌, subst, sym}
use Rattle.std.specs.Prelude.{All, filter, find, unwrap_or, slice_index_or}
use Rattle.std.proofs.lemmas.List.Elements.{All-nil, All-cons}
use Rattle.rail_model.specs.Table.{Table, Mission, trains}
use Rattle.rail_model.specs.Checks.{below}
use Rattle.cert_maker.specs.declared.made.Made.{Made}
use Rattle.cert_maker.specs.declared.made.Made.TheVariants.{Stuck as found}
use Rattle.cert_maker.specs.Rule.{Makes}
use Rattle.forbidden_states.specs.Forbid.{Stay, AreStays, marked}
use Rattle.forbidden_states.proofs.Members.{map-among, filter-among, among-at, below-among, find-among}
use Rattle.section_repair.specs.Core.{widened, widened_times, closure, closures, is_smallest, is_unfinished, core}
use Rattle.section_repair.specs.Repairs.{treated, Treats, IsReached}
use Rattle.section_repair.proofs.Steps.{widened-below}
use Rattle.section_repair.proofs.Lost.{AreSound}
use Rattle.section_repair.proofs.Kept.{reached_sound}

-- ---- the core's trains

times-below : (T : Table) (p : List ℕ) (n : ℕ) (group : List ℕ) → All (λ j. j < trains T) group → All (λ j. j < trains T) (widened_times T p n group)
times-below T p zero group all = all
times-below T p (suc n) group all = times-below T p n (widened T p group) (widened-below T p group)

pub core-below : (T : Table) (p : List ℕ) → All (λ j. j < trains T) (core T p)
core-below T p =
    (elim (find (is_smallest (closures T p)) (closures T p)) as (λ o. find (is_smallest (closures T p)) (closures T p) ≡ o → All (λ j. j < trains T) (unwrap_or o [])) [
      | None ↦ λ e k d l. absurd (omega arith)
      | Some c ↦ λ e.
          let m = map-among (closure T p) (filter (is_unfinished T p) (below (trains T))) c (find-among (is_smallest (closures T p)) (closures T p) c e) in
          let f = filter-among (is_unfinished T p) (below (trains T)) m.0 m.1 in
          let l : m.0 < trains T = below-among (trains T) m.0 f.0 in
          subst (All (λ j. j < trains T)) m.2 (times-below T p (trains T) (m.0 ∷ []) (All-cons (λ j. j < trains T) m.0 [] l (All-nil (λ j. j < trains T))))
    ]) refl

-- ---- rounds

treats-next : (M : List Mission) (budget : ℕ) (states : List (List ℕ)) (S end next : List (List Stay)) (p : List ℕ) →
    Treats M budget S states end → length end ≤ 64 → Makes (marked M end) budget (found p) → next ≡ treated M end p → Treats M budget S (states ++ p ∷ []) next
treats-next M budget [] S end next p t few makes e =
    (subst (λ v. length v ≤ 64) t few, subst (λ v. Makes (marked M v) budget (found p)) t makes, subst (λ v. next ≡ treated M v p) t e)
treats-next M budget (q ∷ later) S end next p t few makes e = (t.0, t.1, treats-next M budget later (treated M S q) end next p t.2 few makes e)

-- What a further round finds and makes of a table that was reached.
pub record IsRound (M : List Mission) (budget : ℕ) (states : List (List ℕ)) (S : List (List Stay)) (T : Table) (p : List ℕ) (next : List (List Stay)) : Type 0 where
  pub reached : IsReached M budget states S T
  pub stuck : Makes T budget (found p)
  pub treated_is : next ≡ treated T.missions S p

module _ (M : List Mission) (budget : ℕ) (states : List (List ℕ)) (S : List (List Stay)) (T : Table) (p : List ℕ) (next : List (List Stay)) where
  pub round_of : (made : Made) → IsReached M budget states S T → Makes T budget made → made ≡ found p → next ≡ treated T.missions S p → IsRound M budget states S T p next
  round_of made reached makes stuck is = record { reached = reached; stuck = subst (Makes T budget) stuck makes; treated_is = is }

module _ {M : List Mission} {budget : ℕ} {states : List (List ℕ)} {S : List (List Stay)} {T : Table} {p : List ℕ} {next : List (List Stay)} (r : IsRound M budget states S T p next) where
  own-missions : T.missions ≡ M
  own-missions = ap (λ (v : Table). v.missions) r.reached.table

  pub round-makes : next ≡ treated M S p
  round-makes = r.treated_is ∙ ap (λ m. treated m S p) own-missions

  next-treats : Treats M budget [] (states ++ p ∷ []) next
  next-treats = treats-next M budget states [] S next p r.reached.treats r.reached.few (subst (λ v. Makes v budget (found p)) r.reached.table r.stuck) round-makes

  -- the sections of a further round are of stays
  pub next-stays : All (AreStays (length T.missions)) next
  next-stays k d l =
      let x : AreSound M next = reached_sound M budget (states ++ p ∷ []) next next-treats in
      subst (λ v. AreStays (length v) (slice_index_or next k d)) (sym own-missions) (x (slice_index_or next k d) (among-at next k d l)).stays

  pub went_on : (N : Table) → length next ≤ 64 → N ≡ marked T.missions next → IsReached M budget (states ++ p ∷ []) next N
  went_on N few e = record { treats = next-treats; few = few; table = e ∙ ap (λ m. marked m next) own-missions }
