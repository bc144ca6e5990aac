-- Documents with other travel times are taken.
use Rattle.std.proofs.Common.{◌≡◌, ℕ, ◌<◌, ◌≤◌, List, [], ◌∷◌, None, length, map, get_or, refl, sym, ap, subst, arith}
use Rattle.std.proofs.lemmas.Bool.Decides.{nat_tests}
use Rattle.std.proofs.lemmas.List.{get_or_default}
use Rattle.rail_model.specs.Layout.{Layout}
use Rattle.rail_model.specs.Names.{Names}
use Rattle.rail_model.specs.Table.{Table, trains, last}
use Rattle.rail_model.specs.Times.{AreTimes}
use Rattle.rail_model.specs.Turns.{first_below}
use Rattle.rail_model.proofs.Firsts.{option_or-both, first_below-all}
use Rattle.document_json.specs.Doc.{Doc, DocTable, table_at}
use Rattle.document_json.specs.Keeps.{Untimed, untimed, timed, doc_of_parts, HasParts, IsTaken}
use Rattle.document_json.specs.Members.{members_in}
use Rattle.document_json.specs.Replaced.{each_with}
use Rattle.document_json.specs.Retimed.{retimed, retimed_table, AreTimesOf}
use Rattle.document_json.specs.Tables.{other_lists, bad_length, bad_time, bad_times, times_refusal}
use Rattle.document_json.proofs.FormedDoc.{from, taken-is-formed}
use Rattle.document_json.proofs.NamedLemmas.{of-version}
use Rattle.document_json.proofs.Remade.{changed-is-taken}
use Rattle.document_json.proofs.Taken.{makes}
use Rattle.document_json.proofs.Timed.{length-timed}

-- ---- times are not refused

listed : (t : ℕ) (T : Table) (times : List (List ℕ)) → length times ≡ trains T → other_lists t T times ≡ None
listed t T times h = grind (arith, nat_tests)

each_step : (t : ℕ) (T : Table) (times : List (List ℕ)) (i : ℕ) → length (get_or times i []) ≡ last T i → bad_length t T times i ≡ None
each_step t T times i h = grind (arith, nat_tests)

in_bounds : (t i k v : ℕ) → 1 ≤ v → v ≤ 1000 → bad_time t i k v ≡ None
in_bounds t i k v low high = grind (arith, nat_tests)

times-none : (t : ℕ) (T : Table) (times : List (List ℕ)) → AreTimes T times → times_refusal t T times ≡ None
times-none t T times h =
    option_or-both (other_lists t T times) _ (listed t T times h.one_each)
    (option_or-both (first_below (trains T) (bad_length t T times)) _
    (first_below-all (trains T) (bad_length t T times) (λ i lt. each_step t T times i (h.per_step i lt)))
    (option_or-both (first_below (trains T) (λ i. bad_times t i (get_or times i []))) None
    (first_below-all (trains T) (λ i. bad_times t i (get_or times i []))
    (λ i lt.
    let steps = get_or times i [] in
    first_below-all (length steps) (λ k. bad_time t i k (get_or steps k 0))
    (λ k step.
    let here : k < last T i = omega (arith, step, h.per_step i lt) in
    let same = get_or_default steps k 1 0 step in
    in_bounds t i k (get_or steps k 0) (subst (λ v. 1 ≤ v) same (h.not_below i k lt here))
    (subst (λ v. v ≤ 1000) same (h.not_above i k lt here)))))
    refl))

-- ---- the document

-- nothing is refused with other times
pub retimed-is-taken : (D : Doc) (times : List (List (List ℕ))) → IsTaken D → AreTimesOf D times → IsTaken (retimed D times)
retimed-is-taken D times taken h =
    let made = makes (members_in D) D taken in
    changed-is-taken retimed_table D times h.one_each taken []
    (λ t lt.
    let x = from (members_in D) D made (of-version D) t lt in
    (x.0, x.1, record { due = x.2.due; table = x.2.table; times = times-none t (table_at D t) (get_or times t []) (h.each t lt) }))
    made.start

timed-again : (ts : List Untimed) (xs ys : List (List (List ℕ))) → length ts ≡ length xs → length ts ≡ length ys
    → timed ts ys ≡ each_with retimed_table (timed ts xs) ys
timed-again [] xs ys h k = refl
timed-again (t ∷ ts) [] ys h k = absurd cc
timed-again (t ∷ ts) (x ∷ xs) [] h k = absurd cc
timed-again (t ∷ ts) (x ∷ xs) (y ∷ ys) h k =
    ap (λ (rest : List DocTable). record { table = t.table; after = t.after; times = y; nodes = t.nodes } ∷ rest)
    (timed-again ts xs ys (omega (arith, h)) (omega (arith, k)))

-- the parts with other times are those of the document with these times
module _ (version : ℕ) (L : Layout) (N : Names) (ts : List Untimed) (xs ys : List (List (List ℕ))) (start : List ℕ)
    (has : HasParts version L N ts xs start) (h : AreTimesOf (doc_of_parts version L N ts xs start) ys) where
  abbrev old : Doc
  old = doc_of_parts version L N ts xs start

  each : length ts ≡ length ys
  each = omega (arith, h.one_each, length-timed ts xs has.each_timed)

  pub parts-are : doc_of_parts version L N ts ys start ≡ retimed old ys
  parts-are = ap (λ (tables : List DocTable). record old { tables = tables }) (timed-again ts xs ys has.each_timed each)

  taken : IsTaken (doc_of_parts version L N ts ys start)
  taken = subst IsTaken (sym parts-are) (retimed-is-taken old ys has.taken h)

  pub parts-retimed : HasParts version L N ts ys start
  parts-retimed = record {
    first = has.first;
    last = has.last;
    named = has.named;
    each_timed = each;
    is = (taken-is-formed (doc_of_parts version L N ts ys start) taken has.first has.last).is;
    taken = taken;
  }

untimed-again : (ts : List DocTable) (ys : List (List (List ℕ))) → length ys ≡ length ts
    → map untimed (each_with retimed_table ts ys) ≡ map untimed ts
untimed-again [] ys h = refl
untimed-again (t ∷ ts) [] h = absurd (omega (arith, h))
untimed-again (t ∷ ts) (y ∷ ys) h = ap (λ (rest : List Untimed). untimed t ∷ rest) (untimed-again ts ys (omega (arith, h)))

-- the tables without their times stay
pub untimed-retimed : (D : Doc) (times : List (List (List ℕ))) → AreTimesOf D times
    → map untimed (retimed D times).tables ≡ map untimed D.tables
untimed-retimed D times h = untimed-again D.tables times h.one_each
