-- The lines that a request adds, and what it keeps.
use Rattle.std.proofs.Common.{◌≡◌, ℕ, ◌≤◌, List, [], ◌∷◌, ◌++◌, length, refl, sym, ap, ◌∙◌, append_assoc, arith, inl}
use Rattle.std.proofs.Common.{inr}
use Rattle.std.specs.Prelude.{slice_index}
use Rattle.std.proofs.lemmas.List.{append-nil}
use Rattle.rail_model.specs.declared.types.Line.{Line}
use Rattle.rail_model.specs.declared.types.Tried.{Tried}
use Rattle.rail_model.specs.declared.types.Tried.TheVariants.{Exchanged, Differs, Over, Early, NoMore}
use Rattle.rail_model.specs.Lines.{move_line}
use Rattle.rail_model.specs.Yard.{Offer, Yard}
use Rattle.plain_yard.specs.Lines.{tried_lines}
use Rattle.live_yard.specs.declared.requests.Request.{Request}
use Rattle.live_yard.specs.declared.requests.Served.{Served}
use Rattle.live_yard.specs.Answers.{IsServed}
use Rattle.live_yard.specs.Firing.{DispatchState, Fires, fired}
use Rattle.live_yard.specs.Reported.{Reported, after_table, granted, reported}
use Rattle.live_yard.proofs.Changing.{Changes, changes}

few_tried : (tables : List Offer) (y : Yard) (tried : Tried) → length (tried_lines tables y tried) ≤ 1
few_tried tables y Exchanged = omega arith
few_tried tables y (Differs i k) = omega arith
few_tried tables y (Over s n) = omega arith
few_tried tables y (Early m) = omega arith
few_tried tables y NoMore = omega arith

-- a request adds one line at most
own : (a b : Reported) → Changes a b → (added : List Line) × (b.run.lines ≡ a.run.lines ++ added) × (length added ≤ 1)
own a b change = elim change [
  | inl same ↦ ([], ap (λ (v : Reported). v.run.lines) same ∙ sym (append-nil a.run.lines), omega arith)
  | inr (inl grant) ↦
      (move_line a.run.tables a.run.yard grant.0 ∷ [], ap (λ (v : Reported). v.run.lines) grant.2, omega arith)
  | inr (inr (inl report)) ↦
      ([], ap (λ (v : Reported). v.run.lines) report.2 ∙ sym (append-nil a.run.lines), omega arith)
  | inr (inr (inr table)) ↦ (
    tried_lines a.run.tables a.run.yard table.0,
    ap
        (λ (v : Reported). v.run.lines) table.2,
    few_tried a.run.tables a.run.yard table.0,
  )
]

-- and each want that is granted one
of_wants : (a b : DispatchState) (from : ℕ) (wants : List ℕ) → Fires a from wants b
    → (added : List Line) × (b.yard.run.lines ≡ a.yard.run.lines ++ added) × (length added ≡ length wants)
of_wants a b from [] same = ([], ap (λ (v : DispatchState). v.yard.run.lines) same ∙ sym (append-nil a.yard.run.lines), refl)
of_wants a b from (k ∷ later) fires =
    let line = move_line a.yard.run.tables a.yard.run.yard (slice_index a.wants k) in
    let rest = of_wants (fired a k) b k later fires.1 in
    (line ∷ rest.0, rest.1 ∙ append_assoc a.yard.run.lines (line ∷ []) rest.0, omega (arith, rest.2))

pub adds : (v w : DispatchState) (request : Request) (served : Served) → IsServed v request served w
    → (first : List Line) × (fires : List Line) × (w.yard.run.lines ≡ v.yard.run.lines ++ (first ++ fires))
    × (length first ≤ 1) × (length fires ≡ served.granted)
adds v w request served is =
    let first = own v.yard is.between.yard (changes v is.between request served.reply is.serves).0 in
    let fires = of_wants is.between w 0 is.settles.wants is.settles.fires in (
      first.0,
      fires.0,
      fires.1 ∙ ap (λ (lines : List Line). lines ++ fires.0) first.1 ∙ append_assoc v.yard.run.lines first.0 fires.0,
      first.2,
      fires.2 ∙ sym is.settles.number,
    )

-- a request keeps what no grant, report or table changes
kept : {A : Type 0} (f : Reported → A) (a b : Reported) → ((v : Reported) (i : ℕ) → f (granted v i) ≡ f v)
    → ((v : Reported) (i k : ℕ) → f (reported v i k) ≡ f v)
    → ((v : Reported) (tried : Tried) → f (after_table v tried) ≡ f v)
    → Changes a b → f b ≡ f a
kept f a b by_grant by_report by_table change = elim change [
  | inl same ↦ ap f same
  | inr (inl grant) ↦ ap f grant.2 ∙ by_grant a grant.0
  | inr (inr (inl report)) ↦ ap f report.2 ∙ by_report a report.0 report.1
  | inr (inr (inr table)) ↦ ap f table.2 ∙ by_table a table.0
]

kept_by_wants : {A : Type 0} (f : Reported → A) (a b : DispatchState) (from : ℕ) (wants : List ℕ)
    → ((v : Reported) (i : ℕ) → f (granted v i) ≡ f v)
    → Fires a from wants b → f b.yard ≡ f a.yard
kept_by_wants f a b from [] by_grant same = ap (λ (v : DispatchState). f v.yard) same
kept_by_wants f a b from (k ∷ later) by_grant fires =
    kept_by_wants f (fired a k) b k later by_grant fires.1 ∙ by_grant a.yard (slice_index a.wants k)

pub keeps_tables : (v w : DispatchState) (request : Request) (served : Served) → IsServed v request served w
    → w.yard.run.tables ≡ v.yard.run.tables
keeps_tables v w request served is =
    kept_by_wants (λ (y : Reported). y.run.tables) is.between w 0 is.settles.wants (λ y i. refl) is.settles.fires
    ∙ kept (λ (y : Reported). y.run.tables) v.yard is.between.yard (λ y i. refl) (λ y i k. refl) (λ y tried. refl)
    (changes v is.between request served.reply is.serves).0

pub keeps_reports : (v w : DispatchState) (request : Request) (served : Served) → IsServed v request served w
    → w.yard.reports ≡ v.yard.reports
keeps_reports v w request served is =
    kept_by_wants (λ (y : Reported). y.reports) is.between w 0 is.settles.wants (λ y i. refl) is.settles.fires
    ∙ kept (λ (y : Reported). y.reports) v.yard is.between.yard (λ y i. refl) (λ y i k. refl) (λ y tried. refl)
    (changes v is.between request served.reply is.serves).0
