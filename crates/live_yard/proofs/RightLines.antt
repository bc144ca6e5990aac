-- The lines that a request adds are right, and lead to the state after it.
use Rattle.std.proofs.Common.{◌≡◌, ℕ, List, [], ◌∷◌, ◌++◌, refl, sym, ap, subst, ◌∙◌, append_assoc, inl, inr}
use Rattle.std.specs.Prelude.{slice_index}
use Rattle.std.proofs.lemmas.List.{append-nil}
use Rattle.rail_model.specs.declared.types.Line.{Line}
use Rattle.rail_model.specs.declared.types.Tried.{Tried}
use Rattle.rail_model.specs.declared.types.Tried.TheVariants.{Exchanged, Differs, Over, Early, NoMore}
use Rattle.rail_model.specs.Journal.{IsRight, after_lines}
use Rattle.rail_model.specs.Lines.{move_line}
use Rattle.rail_model.specs.Yard.{Offer, Yard, Tries}
use Rattle.rail_model.proofs.LinesOfMoves.{move_line_right}
use Rattle.table_exchange.specs.Steps.{after_tried}
use Rattle.plain_yard.specs.Keeps.{PlainRun}
use Rattle.plain_yard.specs.Lines.{tried_lines}
use Rattle.plain_yard.proofs.Keeping.{right_append}
use Rattle.plain_yard.proofs.Reaching.{after_append}
use Rattle.live_yard.specs.declared.requests.Request.{Request}
use Rattle.live_yard.specs.declared.requests.Served.{Served}
use Rattle.live_yard.specs.Answers.{IsServed}
use Rattle.live_yard.specs.Firing.{DispatchState, Fires, fired}
use Rattle.live_yard.specs.Reported.{Reported, MayGoOn, stepped, tried_on}
use Rattle.live_yard.specs.Sessions.{GoesOn}
use Rattle.live_yard.proofs.Changing.{Changes, changes}
use Rattle.live_yard.proofs.Firing.{next_can}

-- by no lines
pub stays : (a b : PlainRun) → b ≡ a → GoesOn a [] b
stays a b same = record {
  tables = ap (λ (r : PlainRun). r.tables) same;
  lines = ap (λ (r : PlainRun). r.lines) same ∙ sym (append-nil a.lines);
  right = tt;
  leads = ap (λ (r : PlainRun). r.yard) same;
}

-- by lines and then by more
pub goes_on : (a b c : PlainRun) (first later : List Line) → GoesOn a first b → GoesOn b later c
    → GoesOn a (first ++ later) c
goes_on a b c first later front behind = record {
  tables = behind.tables ∙ front.tables;
  lines = behind.lines ∙ ap (λ (ls : List Line). ls ++ later) front.lines ∙ append_assoc a.lines first later;
  right = right_append a.tables a.yard first later front.right
      (subst (λ (ts : List Offer). IsRight ts (after_lines a.yard first) later) front.tables
      (subst (λ (y : Yard). IsRight b.tables y later) front.leads behind.right));
  leads = behind.leads ∙ ap (λ (y : Yard). after_lines y later) front.leads
      ∙ sym (after_append a.yard first later);
}

-- by a grant
granted_on : (v : Reported) (i : ℕ) → MayGoOn v i
    → GoesOn v.run (move_line v.run.tables v.run.yard i ∷ []) (stepped v.run i)
granted_on v i may = record {
  tables = refl;
  lines = refl;
  right = (move_line_right v.run.tables v.run.yard i may.moves, tt);
  leads = refl;
}

-- by the answer of a table
tried_right : (tables : List Offer) (y : Yard) (tried : Tried) → Tries tables y tried
    → IsRight tables y (tried_lines tables y tried)
tried_right tables y Exchanged tries = ((refl, tries), tt)
tried_right tables y (Differs i k) tries = ((refl, tries), tt)
tried_right tables y (Over s n) tries = ((refl, tries), tt)
tried_right tables y (Early m) tries = tt
tried_right tables y NoMore tries = tt

tried_leads : (tables : List Offer) (y : Yard) (tried : Tried)
    → after_tried y tried ≡ after_lines y (tried_lines tables y tried)
tried_leads tables y Exchanged = refl
tried_leads tables y (Differs i k) = refl
tried_leads tables y (Over s n) = refl
tried_leads tables y (Early m) = refl
tried_leads tables y NoMore = refl

tried_goes_on : (run : PlainRun) (tried : Tried) → Tries run.tables run.yard tried
    → GoesOn run (tried_lines run.tables run.yard tried) (tried_on run tried)
tried_goes_on run tried tries = record {
  tables = refl;
  lines = refl;
  right = tried_right run.tables run.yard tried tries;
  leads = tried_leads run.tables run.yard tried;
}

-- before wants are tried
own : (a b : Reported) → Changes a b → (added : List Line) × GoesOn a.run added b.run
own a b change = elim change [
  | inl same ↦ ([], stays a.run b.run (ap (λ (v : Reported). v.run) same))
  | inr (inl grant) ↦ (
    move_line a.run.tables a.run.yard grant.0 ∷ [],
    subst (λ (v : Reported). GoesOn a.run (move_line a.run.tables a.run.yard grant.0 ∷ []) v.run) (sym grant.2)
        (granted_on a grant.0 grant.1),
  )
  | inr (inr (inl report)) ↦ ([], stays a.run b.run (ap (λ (v : Reported). v.run) report.2))
  | inr (inr (inr table)) ↦ (
    tried_lines a.run.tables a.run.yard table.0,
    subst (λ (v : Reported). GoesOn a.run (tried_lines a.run.tables a.run.yard table.0) v.run) (sym table.2)
        (tried_goes_on a.run table.0 table.1),
  )
]

-- by wants that are granted
of_wants : (a b : DispatchState) (from : ℕ) (wants : List ℕ) → Fires a from wants b
    → (added : List Line) × GoesOn a.yard.run added b.yard.run
of_wants a b from [] same = ([], stays a.yard.run b.yard.run (ap (λ (v : DispatchState). v.yard.run) same))
of_wants a b from (k ∷ later) fires =
    let i = slice_index a.wants k in
    let line = move_line a.yard.run.tables a.yard.run.yard i in
    let may = (next_can a from k fires.0).1 in
    let rest = of_wants (fired a k) b k later fires.1 in (
      line ∷ rest.0,
      goes_on a.yard.run (stepped a.yard.run i) b.yard.run (line ∷ []) rest.0 (granted_on a.yard i may) rest.1,
    )

pub served_on : (v w : DispatchState) (request : Request) (served : Served) → IsServed v request served w
    → (added : List Line) × GoesOn v.yard.run added w.yard.run
served_on v w request served is =
    let first = own v.yard is.between.yard (changes v is.between request served.reply is.serves).0 in
    let fires = of_wants is.between w 0 is.settles.wants is.settles.fires in (
      first.0 ++ fires.0,
      goes_on v.yard.run is.between.yard.run w.yard.run first.0 fires.0 first.1 fires.1,
    )
