-- What a request keeps, and what its text needs to know.
use Rattle.std.proofs.Common.{◌≡◌, ◌⊎◌, ℕ, ◌+◌, ◌<◌, ◌≤◌, List, [], ◌∷◌, ◌++◌, length, sym, ap, subst, ◌∙◌, arith}
use Rattle.std.proofs.Common.{length-append, inl, inr}
use Rattle.std.specs.Prelude.{slice_index}
use Rattle.std.proofs.lemmas.List.{length-set}
use Rattle.live_yard.specs.declared.told.Told.{Told}
use Rattle.live_yard.specs.declared.told.Told.TheVariants.{May, Arrived, Occupied, Full, Waits, Away, Leaving, Clearing}
use Rattle.live_yard.specs.declared.requests.Reply.{Reply}
use Rattle.live_yard.specs.declared.requests.Reply.TheVariants.{Granted, Held, Elsewhere, Dropped, There, NotThere}
use Rattle.live_yard.specs.declared.requests.Reply.TheVariants.{NoReports, Tried, TriedBefore, TooSoon, NoTable}
use Rattle.live_yard.specs.declared.requests.Request.{Request}
use Rattle.live_yard.specs.declared.requests.Request.TheVariants.{Ask, Want, Drop, At, Table}
use Rattle.live_yard.specs.declared.requests.Served.{Served}
use Rattle.live_yard.specs.Answers.{IsOfRun, IsServed, Serves, Wants}
use Rattle.live_yard.specs.Firing.{DispatchState, Fires, IsSettled, fired}
use Rattle.live_yard.specs.Reported.{Reported, TellsTrain}
use Rattle.live_yard.proofs.Adding.{adds}
use Rattle.live_yard.proofs.Changing.{Changes, changes}
use Rattle.live_yard.proofs.Following.{granted_size}
use Rattle.live_yard.proofs.Holding.{held_stays}
use Rattle.live_session.specs.Replies.{IsOnTable, train_of}

-- no train is added or lost
changed_size : (a b : Reported) → Changes a b → length b.there ≡ length a.there
changed_size a b change = elim change [
  | inl same ↦ ap (λ (v : Reported). length v.there) same
  | inr (inl grant) ↦ ap (λ (v : Reported). length v.there) grant.2 ∙ granted_size a grant.0
  | inr (inr (inl report)) ↦ ap (λ (v : Reported). length v.there) report.2 ∙ length-set a.there report.0 _
  | inr (inr (inr table)) ↦ ap (λ (v : Reported). length v.there) table.2
]

fired_size : (a b : DispatchState) (from : ℕ) (wants : List ℕ) → Fires a from wants b
    → length b.yard.there ≡ length a.yard.there
fired_size a b from [] same = ap (λ (v : DispatchState). length v.yard.there) same
fired_size a b from (k ∷ later) fires =
    fired_size (fired a k) b k later fires.1 ∙ granted_size a.yard (slice_index a.wants k)

pub served_size : (v w : DispatchState) (request : Request) (served : Served) → IsServed v request served w
    → length w.yard.there ≡ length v.yard.there
served_size v w request served is =
    fired_size is.between w 0 is.settles.wants is.settles.fires
    ∙ changed_size v.yard is.between.yard (changes v is.between request served.reply is.serves).0

-- the lines before, and those of the wants that were granted, are among the lines after
pub lines_counted : (v w : DispatchState) (request : Request) (served : Served) → IsServed v request served w
    → length v.yard.run.lines + served.granted ≤ length w.yard.run.lines
lines_counted v w request served is =
    let added = adds v w request served is in
    let all = ap (λ ls. length ls) added.2 in
    omega (arith, all, length-append v.yard.run.lines (added.0 ++ added.1), length-append added.0 added.1, added.4)

-- a table is answered by what concerns tables, and else a train of the run
pub named_or_table : (n : ℕ) (v w : DispatchState) (request : Request) (reply : Reply) → IsOfRun n request
    → Serves v request reply w
    → (train_of request < n) ⊎ IsOnTable reply
named_or_table n v w (Ask i named) reply of serves = inl of
named_or_table n v w (Want i named) reply of serves = inl of
named_or_table n v w (Drop i) reply of serves = inl of
named_or_table n v w (At i k) reply of serves = inl of
named_or_table n v w (Table named) (Tried tried) of serves = inr (record {})
named_or_table n v w (Table named) (TriedBefore m) of serves = inr (record {})
named_or_table n v w (Table named) (TooSoon tried) of serves = inr (record {})
named_or_table n v w (Table named) (NoTable m) of serves = inr (record {})
named_or_table n v w (Table named) (Granted m) of serves = absurd serves
named_or_table n v w (Table named) (Held told) of serves = absurd serves
named_or_table n v w (Table named) (Elsewhere place) of serves = absurd serves
named_or_table n v w (Table named) (Dropped m) of serves = absurd serves
named_or_table n v w (Table named) (There k) of serves = absurd serves
named_or_table n v w (Table named) (NotThere at) of serves = absurd serves
named_or_table n v w (Table named) NoReports of serves = absurd serves

-- a train whose want is held was told so
want_told : (v w : DispatchState) (i : ℕ) (told : Told) → Wants v i (Held told) w → TellsTrain v.yard i told
want_told v w i May wants = wants.0
want_told v w i Arrived wants = wants.0
want_told v w i (Occupied by) wants = wants.0
want_told v w i (Full s n) wants = wants.0
want_told v w i (Waits c) wants = wants.0
want_told v w i Away wants = wants.0
want_told v w i (Leaving by) wants = wants.0
want_told v w i (Clearing s n) wants = wants.0

-- and so was each train that is held
held_told : (n : ℕ) (v w : DispatchState) (request : Request) (told : Told) → IsOfRun n request
    → Serves v request (Held told) w
    → (train_of request < n) × TellsTrain v.yard (train_of request) told
held_told n v w (Ask i named) told of serves = elim serves [
  | inl next ↦ (of, next.1.0)
  | inr other ↦ absurd (let e = other.1 in cc)
]
held_told n v w (Want i named) told of serves = elim serves [
  | inl next ↦ (of, want_told v w i told next.1)
  | inr other ↦ absurd (let e = other.1 in cc)
]
held_told n v w (Drop i) told of serves = absurd (let e = serves.1 in cc)
held_told n v w (At i k) told of serves = absurd serves
held_told n v w (Table named) told of serves = absurd serves

pub held_after : (v w : DispatchState) (request : Request) (served : Served) (told : Told) → IsSettled v
    → IsServed v request served w
    → IsOfRun (length v.yard.there) request → served.reply ≡ Held told
    → (train_of request < length w.yard.there) × TellsTrain w.yard (train_of request) told
held_after v w request served told settled is of reply =
    let serves : Serves v request (Held told) is.between = subst
    (λ (r : Reply). Serves v request r is.between) reply is.serves in
    let was = held_told (length v.yard.there) v is.between request told of serves in
    let same = (held_stays v w request served told settled is reply).0 in (
      omega (arith, was.0, served_size v w request served is),
      subst (λ (y : Reported). TellsTrain y (train_of request) told) (sym same) was.1,
    )
