-- What a request changes in the yard: nothing, or a grant, a report or a table; and what refusals leave.
use Rattle.std.proofs.Common.{◌≡◌, ◌⊎◌, ℕ, List, [], ◌∷◌, length, Option, true, false, refl, ap, subst, ◌∙◌, inl, inr}
use Rattle.rail_model.specs.declared.types.Tried.{Tried as TriedValue}
use Rattle.rail_model.specs.Yard.{Tries}
use Rattle.live_yard.specs.declared.told.Told.{Told}
use Rattle.live_yard.specs.declared.told.Told.TheVariants.{May, Arrived, Occupied, Full, Waits, Away, Leaving, Clearing}
use Rattle.live_yard.specs.declared.requests.Reply.{Reply}
use Rattle.live_yard.specs.declared.requests.Reply.TheVariants.{Granted, Held, Elsewhere, Dropped, There, NotThere}
use Rattle.live_yard.specs.declared.requests.Reply.TheVariants.{NoReports, Tried, TriedBefore, TooSoon, NoTable}
use Rattle.live_yard.specs.declared.requests.Request.{Request}
use Rattle.live_yard.specs.declared.requests.Request.TheVariants.{Ask, Want, Drop, At, Table}
use Rattle.live_yard.specs.declared.requests.Served.{Served}
use Rattle.live_yard.specs.Answers.{Asks, AtNext, IsServed, Reports, Serves, TriesTable, Wants}
use Rattle.live_yard.specs.Firing.{CanFire, DispatchState, Fires, IsSettled}
use Rattle.live_yard.specs.Reported.{Reported, MayGoOn, after_table, granted, reported}
use Rattle.live_yard.specs.Sessions.{is_refusal}
use Rattle.live_yard.proofs.Firing.{next_can}

-- Nothing, a grant, a report, or a table.
abbrev pub Changes : Reported → Reported → Type 0
Changes a b =
    (b ≡ a)
    ⊎ (((i : ℕ) × MayGoOn a i × (b ≡ granted a i))
    ⊎ (((i : ℕ) × (k : ℕ) × (b ≡ reported a i k))
    ⊎ ((tried : TriedValue) × Tries a.run.tables a.run.yard tried × (b ≡ after_table a tried))))

yard_of : (v w : DispatchState) → w ≡ v → w.yard ≡ v.yard
yard_of v w same = ap (λ (u : DispatchState). u.yard) same

-- a train that asks
asked : (v w : DispatchState) (i : ℕ) (reply : Reply) → Asks v i reply w → Changes v.yard w.yard
    × (is_refusal reply ≡ true → w ≡ v)
asked v w i (Granted n) asks = (inr (inl (i, asks.0, ap (λ (u : DispatchState). u.yard) asks.1)), λ e. cc)
asked v w i (Held told) asks = (inl (yard_of v w asks.2), λ e. cc)
asked v w i (Elsewhere place) asks = absurd asks
asked v w i (Dropped n) asks = absurd asks
asked v w i (There k) asks = absurd asks
asked v w i (NotThere at) asks = absurd asks
asked v w i NoReports asks = absurd asks
asked v w i (Tried tried) asks = absurd asks
asked v w i (TriedBefore n) asks = absurd asks
asked v w i (TooSoon tried) asks = absurd asks
asked v w i (NoTable n) asks = absurd asks

-- a train that wants and is held
held : (v w : DispatchState) (i : ℕ) (told : Told) → Wants v i (Held told) w → w.yard ≡ v.yard
held v w i May wants = wants.2
held v w i Arrived wants = yard_of v w wants.1
held v w i (Occupied by) wants = wants.2
held v w i (Full s n) wants = wants.2
held v w i (Waits c) wants = wants.2
held v w i Away wants = wants.2
held v w i (Leaving by) wants = wants.2
held v w i (Clearing s n) wants = wants.2

wanted : (v w : DispatchState) (i : ℕ) (reply : Reply) → Wants v i reply w → Changes v.yard w.yard
    × (is_refusal reply ≡ true → w ≡ v)
wanted v w i (Held told) wants = (inl (held v w i told wants), λ e. cc)
wanted v w i (Granted n) wants = asked v w i (Granted n) wants
wanted v w i (Elsewhere place) wants = absurd wants
wanted v w i (Dropped n) wants = absurd wants
wanted v w i (There k) wants = absurd wants
wanted v w i (NotThere at) wants = absurd wants
wanted v w i NoReports wants = absurd wants
wanted v w i (Tried tried) wants = absurd wants
wanted v w i (TriedBefore n) wants = absurd wants
wanted v w i (TooSoon tried) wants = absurd wants
wanted v w i (NoTable n) wants = absurd wants

-- a place that is named
named : (v w : DispatchState) (i : ℕ) (place : Option ℕ) (reply : Reply) (asks : Type 0)
    → (asks → Changes v.yard w.yard × (is_refusal reply ≡ true → w ≡ v)) → AtNext v i place reply w asks
    → Changes v.yard w.yard × (is_refusal reply ≡ true → w ≡ v)
named v w i place reply asks of at = elim at [
  | inl next ↦ of next.1
  | inr other ↦ (inl (yard_of v w other.3), λ e. other.3)
]

-- a train that reports
told_of : (v w : DispatchState) (i k : ℕ) (reply : Reply) → Reports v i k reply w → Changes v.yard w.yard
    × (is_refusal reply ≡ true → w ≡ v)
told_of v w i k NoReports is = (inl (yard_of v w is.1), λ e. is.1)
told_of v w i k (NotThere at) is = (inl (yard_of v w is.3), λ e. is.3)
told_of v w i k (There at) is = (inr (inr (inl (i, k, ap (λ (u : DispatchState). u.yard) is.2))), λ e. cc)
told_of v w i k (Granted n) is = absurd is
told_of v w i k (Held told) is = absurd is
told_of v w i k (Elsewhere place) is = absurd is
told_of v w i k (Dropped n) is = absurd is
told_of v w i k (Tried tried) is = absurd is
told_of v w i k (TriedBefore n) is = absurd is
told_of v w i k (TooSoon tried) is = absurd is
told_of v w i k (NoTable n) is = absurd is

-- a table
tabled : (v w : DispatchState) (table : Option ℕ) (reply : Reply) → TriesTable v table reply w → Changes v.yard w.yard
    × (is_refusal reply ≡ true → w ≡ v)
tabled v w table (NoTable n) is = (inl (yard_of v w is.2), λ e. is.2)
tabled v w table (TooSoon tried) is = (inl (yard_of v w is.2), λ e. is.2)
tabled v w table (TriedBefore n) is = (inl (yard_of v w is.1), λ e. is.1)
tabled v w table (Tried tried) is = (inr (inr (inr (tried, is.1, ap (λ (u : DispatchState). u.yard) is.2))), λ e. cc)
tabled v w table (Granted n) is = absurd is
tabled v w table (Held told) is = absurd is
tabled v w table (Elsewhere place) is = absurd is
tabled v w table (Dropped n) is = absurd is
tabled v w table (There k) is = absurd is
tabled v w table (NotThere at) is = absurd is
tabled v w table NoReports is = absurd is

-- a request, before wants are tried
pub changes : (v w : DispatchState) (request : Request) (reply : Reply) → Serves v request reply w
    → Changes v.yard w.yard × (is_refusal reply ≡ true → w ≡ v)
changes v w (Ask i place) reply is = named v w i place reply (Asks v i reply w) (asked v w i reply) is
changes v w (Want i place) reply is = named v w i place reply (Wants v i reply w) (wanted v w i reply) is
changes v w (Drop i) reply is =
    (inl is.2, λ e. absurd (let f : is_refusal reply ≡ false = ap (λ (r : Reply). is_refusal r) is.1 in cc))
changes v w (At i k) reply is = told_of v w i k reply is
changes v w (Table table) reply is = tabled v w table reply is

-- no want is granted where none can be
pub none_fires : (v w : DispatchState) (from : ℕ) (wants : List ℕ) → IsSettled v → Fires v from wants w
    → (w ≡ v) × (length wants ≡ 0)
none_fires v w from [] settled same = (same, refl)
none_fires v w from (k ∷ later) settled fires = absurd (settled k (next_can v from k fires.0))

pub refused : (v w : DispatchState) (request : Request) (served : Served) → IsSettled v → IsServed v request served w
    → is_refusal served.reply ≡ true → (w ≡ v) × (served.granted ≡ 0)
refused v w request served settled is refusal =
    let same : is.between ≡ v = (changes v is.between request served.reply is.serves).1 refusal in
    let none = none_fires is.between w 0 is.settles.wants
    (λ k can. settled k (subst (λ (u : DispatchState). CanFire u k) same can)) is.settles.fires in
    (none.0 ∙ same, is.settles.number ∙ none.1)
