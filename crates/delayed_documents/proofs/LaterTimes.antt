-- The times of a document with a delay.
use Rattle.std.proofs.Common.{◌≡◌, ◌∙◌, ℕ, ◌+◌, ◌<◌, ◌≤◌, true, false, List, [], ◌∷◌, Option, Some, None, length, map, get_or, set, drop, refl, sym, ap, ap₂, subst, arith, inl, inr}
use Rattle.std.proofs.lemmas.Bool.Decides.{eqb_tells}
use Rattle.std.proofs.lemmas.List.{length-drop, length-map, length-set, get_or-map, get_or_default, get_or-set_same, get_or-set_other}
use Rattle.std.proofs.lemmas.List.Quantifiers.{position-Some}
use Rattle.rail_model.specs.Layout.{Layout}
use Rattle.rail_model.specs.Table.{Table, Mission, mission, trains, last, last_of}
use Rattle.rail_model.specs.Times.{AreTimes, time}
use Rattle.document_json.specs.Doc.{Doc, DocTable, IsDoc, doc_table, table_at, times_of}
use Rattle.document_json.specs.Replaced.{each_with}
use Rattle.document_json.specs.Retimed.{AreTimesOf, retimed, retimed_table}
use Rattle.document_json.proofs.FormedDoc.{no_table}
use Rattle.delayed_documents.specs.Delayed.{FitsAll, IsFirstStep, first_step_to, is_called, longer, with_delay, with_delay_under, with_longer}
use Rattle.delayed_documents.specs.declared.delay.Delay.{Delay}

-- ---- a step to a point is a step of the way

step-within : (L : Layout) (name : List ℕ) (way : Mission) (k : ℕ) → first_step_to L name way ≡ Some k → k < last_of way
step-within L name way k h =
    let found = position-Some (is_called L name) (drop 1 way.points) k 0 h in
    let below : k + 1 < length way.points = omega (arith, found.0, length-drop 1 way.points) in
    elim way.exits as (λ b. k < last_of (record { points = way.points; exits = b })) [
      | true ↦ omega (arith, below)
      | false ↦ omega (arith, below)
    ]

module _ (D : Doc) (is : IsDoc D) (i : ℕ) (in_range : i < length D.trains) (name : List ℕ) (t k : ℕ)
    (first : IsFirstStep D i name t k) where
  a_train : i < trains (table_at D t)
  a_train = omega (arith, in_range, is.trains t first.0)

  a_step : k < last (table_at D t) i
  a_step = step-within D.layout name (mission (table_at D t) i) k first.1

  pub has-time : k < length (get_or (doc_table D t).times i [])
  has-time = omega (arith, a_step, (is.times t first.0).per_step i a_train)

  pub time-is : time (times_of D) t i k ≡ get_or (get_or (doc_table D t).times i []) k 0
  time-is =
      ap (λ (times : List (List ℕ)). get_or (get_or times i []) k 1) (get_or-map (λ (u : DocTable). u.times) D.tables t no_table [] first.0)
      ∙ get_or_default (get_or (doc_table D t).times i []) k 1 0 has-time

-- ---- times with a longer step are times

module _ (T : Table) (times : List (List ℕ)) (i k ticks : ℕ) (are : AreTimes T times) (a_train : i < trains T) (a_step : k < last T i)
    (fits : get_or (get_or times i []) k 0 + ticks ≤ 1000) where
  abbrev steps : List ℕ
  steps = get_or times i []

  abbrev new : List ℕ
  new = longer steps k ticks

  within : i < length times
  within = omega (arith, a_train, are.one_each)

  here : k < length steps
  here = omega (arith, a_step, are.per_step i a_train)

  own : get_or (set times i new) i [] ≡ new
  own = get_or-set_same times i new [] within

  -- what each time keeps
  each : (P : ℕ → Type 0) → P (get_or steps k 0 + ticks) → ((j n : ℕ) → j < trains T → n < last T j → P (get_or (get_or times j []) n 1))
      → (j n : ℕ) → j < trains T → n < last T j → P (get_or (get_or (set times i new) j []) n 1)
  each P at others j n lt step = elim (eqb_tells j i) [
    | inl e ↦ elim (eqb_tells n k) [
      | inl f ↦
          subst P
          (sym (ap₂ (λ a b. get_or (get_or (set times i new) a []) b 1) e.1 f.1 ∙ ap (λ (l : List ℕ). get_or l k 1) own
          ∙ get_or-set_same steps k (get_or steps k 0 + ticks) 1 here))
          at
      | inr g ↦
          subst P
          (sym (ap (λ a. get_or (get_or (set times i new) a []) n 1) e.1 ∙ ap (λ (l : List ℕ). get_or l n 1) own
          ∙ get_or-set_other steps k n (get_or steps k 0 + ticks) 1 g.1 ∙ ap (λ a. get_or (get_or times a []) n 1) (sym e.1)))
          (others j n lt step)
    ]
    | inr d ↦ subst P (sym (ap (λ (l : List ℕ). get_or l n 1) (get_or-set_other times i j new [] d.1))) (others j n lt step)
  ]

  lengths : (j : ℕ) → j < trains T → length (get_or (set times i new) j []) ≡ last T j
  lengths j lt = elim (eqb_tells j i) [
    | inl e ↦ ap (λ a. length (get_or (set times i new) a [])) e.1 ∙ ap length own ∙ length-set steps k _
        ∙ are.per_step i a_train ∙ ap (last T) (sym e.1)
    | inr d ↦ ap length (get_or-set_other times i j new [] d.1) ∙ are.per_step j lt
  ]

  longer-are-times : AreTimes T (set times i new)
  longer-are-times = record {
    one_each = length-set times i new ∙ are.one_each;
    per_step = lengths;
    not_below = each (λ v. 1 ≤ v) (omega (arith, are.not_below i k a_train a_step, get_or_default steps k 0 1 here)) are.not_below;
    not_above = each (λ v. v ≤ 1000) fits are.not_above;
  }

-- ---- the document

-- a table with a delay differs in its times alone
longer-retimed : (i ticks : ℕ) (t : DocTable) (step : Option ℕ)
    → retimed_table t (with_longer i ticks t step).times ≡ with_longer i ticks t step
longer-retimed i ticks t None = refl
longer-retimed i ticks t (Some k) = refl

module _ (g : DocTable → DocTable) (kept : (t : DocTable) → retimed_table t (g t).times ≡ g t) where
  each-retimed : (ts : List DocTable) → each_with retimed_table ts (map (λ t. (g t).times) ts) ≡ map g ts
  each-retimed [] = refl
  each-retimed (t ∷ ts) = ap₂ (λ (u : DocTable) (us : List DocTable). u ∷ us) (kept t) (each-retimed ts)

pub retimed-is-delayed : (D : Doc) (i : ℕ) (delay : Delay)
    → retimed D (map (λ t. (with_delay_under D.layout i delay t).times) D.tables) ≡ with_delay D i delay
retimed-is-delayed D i delay =
    ap (λ (ts : List DocTable). record D { tables = ts })
    (each-retimed (with_delay_under D.layout i delay)
    (λ t. longer-retimed i delay.ticks t (first_step_to D.layout delay.point.now (mission t.table i))) D.tables)

module _ (D : Doc) (is : IsDoc D) (i : ℕ) (in_range : i < length D.trains) (delay : Delay) (fits : FitsAll D i delay) where
  abbrev times_at : DocTable → List (List ℕ)
  times_at t = (with_delay_under D.layout i delay t).times

  with-step : (t : ℕ) (step : Option ℕ) → t < length D.tables → first_step_to D.layout delay.point.now (mission (table_at D t) i) ≡ step
      → AreTimes (table_at D t) (with_longer i delay.ticks (doc_table D t) step).times
  with-step t None lt at = is.times t lt
  with-step t (Some k) lt at =
      let first : IsFirstStep D i delay.point.now t k = (lt, at) in
      longer-are-times (table_at D t) (doc_table D t).times i k delay.ticks (is.times t lt)
      (a_train D is i in_range delay.point.now t k first)
      (a_step D is i in_range delay.point.now t k first)
      (omega (arith, fits t lt k first, time-is D is i in_range delay.point.now t k first))

  pub delayed-are-times : AreTimesOf D (map times_at D.tables)
  delayed-are-times = record {
    one_each = length-map D.tables times_at;
    each = λ t lt. subst (AreTimes (table_at D t)) (sym (get_or-map times_at D.tables t no_table [] lt)) (with-step t _ lt refl);
  }
