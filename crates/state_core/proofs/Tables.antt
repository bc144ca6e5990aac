-- A table with guards is a table, and what its sections count.
use Rattle.std.proofs.Common.{◌≡◌, ℕ, suc, ◌+◌, ◌-◌, ◌<◌, ◌≤◌, ℤ, pos, ◌≤ℤ◌, List, [], ◌++◌, map, length, arith, ap, ◌∙◌, inl, inr, subst, sym}
use Rattle.std.specs.Prelude.{All, slice_index_or}
use Rattle.std.proofs.lemmas.List.{get_or_append_left, get_or-append-add, length-append, length-map}
use Rattle.std.proofs.lemmas.Bool.Decides.{leb_tells}
use Rattle.rail_model.specs.Sums.{total_below}
use Rattle.rail_model.specs.Table.{Table, Mission, Section, Connection, IsTable, IsSection, trains, section, place}
use Rattle.forbidden_states.specs.Forbid.{Stay, AreStays, forbidding, marked}
use Rattle.forbidden_states.proofs.Tables.{is_table}
use Rattle.state_core.specs.Guard.{guarded}

-- what a section counts, from the section alone
abbrev pub section_count : ℕ → Section → List ℕ → ℤ
section_count n S p =
    total_below (λ i. total_below (λ k. slice_index_or (slice_index_or S.changes i []) k (pos 0)) (suc (place p i))) n

-- the table's own sections keep their numbers
pub own_section : (T : Table) (guards : List (List Stay)) (s : ℕ) → s < length T.sections →
    section (guarded T guards) s ≡ section T s
own_section T guards s lt = get_or_append_left T.sections (map (forbidding T.missions) guards) _ s lt

-- the guards' sections come behind them
pub guard_section : (T : Table) (guards : List (List Stay)) (k : ℕ) →
    section (guarded T guards) (length T.sections + k) ≡ section (marked T.missions guards) k
guard_section T guards k = get_or-append-add T.sections (map (forbidding T.missions) guards) k _

-- a section of the same trains in another table
section_again : (M : List Mission) (X Y : List Section) (cs ds : List Connection) (s t : ℕ) →
    section (record {
      missions =
          M;
      sections = X;
      connections = cs;
    }) s ≡ section (record { missions = M; sections = Y; connections = ds }) t →
    IsSection (record {
      missions =
          M;
      sections = X;
      connections = cs;
    }) s → IsSection (record { missions = M; sections = Y; connections = ds }) t
section_again M X Y cs ds s t e h = record {
  low_limit = subst (λ (S : Section). S.limit ≤ 128) e h.low_limit;
  one_each = ap (λ (S : Section). length S.changes) (sym e) ∙ h.one_each;
  per_place = λ i lt. ap (λ (S : Section). length (slice_index_or S.changes i [])) (sym e) ∙ h.per_place i lt;
  not_below =
      λ i k lt le. subst (λ (S : Section). pos 0 ≤ℤ total_below
      (λ a. slice_index_or (slice_index_or S.changes i []) a (pos 0)) (suc k)) e (h.not_below i k lt le);
  not_above =
      λ i k lt le. subst (λ (S : Section). total_below (λ a. slice_index_or (slice_index_or S.changes i []) a (pos 0))
      (suc k) ≤ℤ pos 4) e (h.not_above i k lt le);
}

module _ (T : Table) (guards : List (List Stay)) (table : IsTable T) (few : length T.sections + length guards ≤ 64)
    (stays : All (AreStays (trains T)) guards) where
  with_guards : IsTable (marked T.missions guards)
  with_guards =
      is_table T.missions guards (record { few = table.few_trains; each = table.missions }) (omega arith) stays

  both : length (T.sections ++ map (forbidding T.missions) guards) ≡ length T.sections + length guards
  both =
      length-append T.sections (map (forbidding T.missions) guards)
      ∙ ap (λ n. length T.sections + n) (length-map guards (forbidding T.missions))

  each_section : (s : ℕ) → s < length T.sections + length guards → IsSection (guarded T guards) s
  each_section s lt = elim (leb_tells (length T.sections) s) [
    | inr own ↦ section_again T.missions T.sections _ T.connections T.connections s s
        (sym (own_section T guards s own.1)) (table.sections s own.1)
    | inl later ↦
        let k : ℕ = s - length T.sections in
        let at : length T.sections + k ≡ s = omega (arith, later.1) in
        subst (IsSection (guarded T guards)) at
        (section_again T.missions (map (forbidding T.missions) guards) _ [] T.connections k (length T.sections + k)
        (sym (guard_section T guards k))
        (with_guards.sections k (omega (arith, length-map guards (forbidding T.missions), later.1))))
  ]

  pub is_guarded_table : IsTable (guarded T guards)
  is_guarded_table = record {
    few_trains = table.few_trains;
    missions = table.missions;
    few_sections = omega (arith, both);
    sections = λ s lt. each_section s (omega (arith, both, lt));
    few_connections = table.few_connections;
    connections =
        λ c k at. (let own = table.connections c k at in
        record {
          train =
              own.train;
          other = own.other;
          two = own.two;
          place = own.place;
          reached = own.reached;
        });
  }

-- its parts, put together
pub put_together : (T : Table) (guards : List (List Stay)) (N M : List Mission) (own more both : List Section)
    (cs : List Connection) →
    N ≡ T.missions → M ≡ N → more ≡ map (forbidding N) guards → own ≡ T.sections → both ≡ own ++ more →
    cs ≡ T.connections →
    record { missions = M; sections = both; connections = cs } ≡ guarded T guards
put_together T guards N M own more both cs copied same marks owned joined kept =
    let missions : M ≡ T.missions = same ∙ copied in
    let sections : both ≡ T.sections ++ map (forbidding T.missions) guards =
    joined ∙ ap (λ xs. xs ++ more) owned
    ∙ ap (λ ys. T.sections ++ ys) (marks ∙ ap (λ ms. map (forbidding ms) guards) copied) in
    (λ i. record { missions = missions i; sections = sections i; connections = kept i })
