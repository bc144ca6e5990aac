-- A train that has to wait lets no other go.
use Rattle.std.proofs.Common.{◌≡◌, ◌≢◌, ◌⊎◌, ℕ, ◌+◌, ◌-◌, ◌<◌, List, [], ◌∷◌, ◌++◌, length, get_or, refl, ap, subst}
use Rattle.std.proofs.Common.{◌∙◌, arith, length-append, inl, inr}
use Rattle.std.specs.Prelude.{slice_index}
use Rattle.std.specs.List.{remove}
use Rattle.std.proofs.lemmas.Bool.{cases_lt}
use Rattle.std.proofs.lemmas.List.{get_or_append_left, get_or-append_right}
use Rattle.std.proofs.lemmas.List.Edits.{get_or-remove_below, get_or-remove_above, length-remove}
use Rattle.live_yard.specs.Wants.{Drops, StandsIn}
use Rattle.live_yard.proofs.Once.{tells_may}
use Rattle.live_yard.specs.declared.told.Told.{Told}
use Rattle.live_yard.specs.declared.told.Told.TheVariants.{May, Arrived, Occupied, Full, Waits, Away, Leaving, Clearing}
use Rattle.live_yard.specs.declared.requests.Reply.{Reply}
use Rattle.live_yard.specs.declared.requests.Reply.TheVariants.{Held}
use Rattle.live_yard.specs.declared.requests.Request.{Request}
use Rattle.live_yard.specs.declared.requests.Request.TheVariants.{Ask, Want, Drop, At, Table}
use Rattle.live_yard.specs.declared.requests.Served.{Served}
use Rattle.live_yard.specs.Answers.{IsServed, Serves, StandsLast, Wants}
use Rattle.live_yard.specs.Firing.{CanFire, DispatchState, IsSettled}
use Rattle.live_yard.specs.Reported.{Reported, MayGoOn, TellsTrain}
use Rattle.live_yard.proofs.Changing.{none_fires}

-- where the yard is the same, a train still may go on
may_before : (v u : DispatchState) (i j : ℕ) → u.yard ≡ v.yard → i ≡ j → MayGoOn u.yard i → MayGoOn v.yard j
may_before v u i j same train may =
    subst (λ (y : Reported). MayGoOn y j) same (subst (λ (k : ℕ). MayGoOn u.yard k) train may)

settled_as : (v u : DispatchState) → IsSettled v → u ≡ v → IsSettled u
settled_as v u settled same = λ k can. settled k (subst (λ (w : DispatchState). CanFire w k) same can)

-- an index of the wants that are left, in those before
left_before : (wants fewer : List ℕ) (i n k : ℕ) → Drops wants i n fewer → k < length fewer
    → (j : ℕ) × (j < length wants) × (slice_index fewer k ≡ slice_index wants j)
left_before wants fewer i n k drops here = elim drops [
  | inl none ↦ (k, subst (λ (ws : List ℕ). k < length ws) none.2 here, ap (λ (ws : List ℕ). slice_index ws k) none.2)
  | inr one ↦
      let at = one.1.0 in
      let within = one.1.1 in
      let same = one.1.3 in
      let left : k < length (remove wants at) = subst (λ (ws : List ℕ). k < length ws) same here in
      let there = ap (λ (ws : List ℕ). slice_index ws k) same in
      elim (cases_lt k at) [
        | inl below ↦ (k, omega (arith, below, within), there ∙ get_or-remove_below wants at 0 k below within)
        | inr above ↦ (
          k + 1,
          omega (arith, left, length-remove wants at within),
          there ∙ get_or-remove_above wants at 0 k above within,
        )
      ]
]

-- where a want stands, an index is one of those before, or that of the train
stood_before : (wants longer : List ℕ) (i k : ℕ) → StandsIn wants i longer → k < length longer
    → ((k < length wants) × (slice_index longer k ≡ slice_index wants k)) ⊎ (slice_index longer k ≡ i)
stood_before wants longer i k stands here = elim stands [
  | inl had ↦ inl (subst (λ (ws : List ℕ). k < length ws) had.1 here, ap (λ (ws : List ℕ). slice_index ws k) had.1)
  | inr new ↦
      let within : k < length (wants ++ i ∷ []) = subst (λ (ws : List ℕ). k < length ws) new.1 here in
      let there = ap (λ (ws : List ℕ). slice_index ws k) new.1 in
      elim (cases_lt k (length wants)) [
        | inl earlier ↦ inl (earlier, there ∙ get_or_append_left wants (i ∷ []) 0 k earlier)
        | inr last ↦
            let first : k - length wants ≡ 0 = omega (arith, last, within, length-append wants (i ∷ [])) in
            inr
            (there ∙ get_or-append_right wants (i ∷ []) (length wants) k 0 refl last
            ∙ ap (λ (n : ℕ). get_or (i ∷ []) n 0) first)
      ]
]

-- the want of a train that has to wait
stands_settled : (v u : DispatchState) (i : ℕ) (told : Told) → IsSettled v → TellsTrain v.yard i told → told ≢ May
    → u.yard ≡ v.yard
    → StandsLast v.wants i u.wants → IsSettled u
stands_settled v u i told settled tells held same stands = λ k can.
    elim (stood_before stands.others u.wants i k stands.stands can.0) [
      | inl other ↦
          let was = left_before v.wants stands.others i stands.number k stands.drops other.0 in
          settled was.0 (was.1, may_before v u _ _ same (other.1 ∙ was.2) can.1)
      | inr train ↦ held (tells_may _ _ _ i told tells (may_before v u _ _ same train can.1))
    ]

-- a want that is held
want_settled : (v u : DispatchState) (i : ℕ) (told : Told) → IsSettled v → Wants v i (Held told) u → (u.yard ≡ v.yard)
    × IsSettled u
want_settled v u i May settled wants = absurd (wants.1 refl)
want_settled v u i Arrived settled wants = (ap (λ (w : DispatchState). w.yard) wants.1, settled_as v u settled wants.1)
want_settled v u i (Occupied by) settled wants =
    (wants.2, stands_settled v u i (Occupied by) settled wants.0 wants.1 wants.2 wants.3)
want_settled v u i (Full s n) settled wants =
    (wants.2, stands_settled v u i (Full s n) settled wants.0 wants.1 wants.2 wants.3)
want_settled v u i (Waits c) settled wants =
    (wants.2, stands_settled v u i (Waits c) settled wants.0 wants.1 wants.2 wants.3)
want_settled v u i Away settled wants = (wants.2, stands_settled v u i Away settled wants.0 wants.1 wants.2 wants.3)
want_settled v u i (Leaving by) settled wants =
    (wants.2, stands_settled v u i (Leaving by) settled wants.0 wants.1 wants.2 wants.3)
want_settled v u i (Clearing s n) settled wants =
    (wants.2, stands_settled v u i (Clearing s n) settled wants.0 wants.1 wants.2 wants.3)

-- a request that is held
held_settled : (v u : DispatchState) (request : Request) (told : Told) → IsSettled v → Serves v request (Held told) u
    → (u.yard ≡ v.yard) × IsSettled u
held_settled v u (Ask i named) told settled serves = elim serves [
  | inl next ↦ (ap (λ (w : DispatchState). w.yard) next.1.2, settled_as v u settled next.1.2)
  | inr other ↦ absurd (let e = other.1 in cc)
]
held_settled v u (Want i named) told settled serves = elim serves [
  | inl next ↦ want_settled v u i told settled next.1
  | inr other ↦ absurd (let e = other.1 in cc)
]
held_settled v u (Drop i) told settled serves = absurd (let e = serves.1 in cc)
held_settled v u (At i k) told settled serves = absurd serves
held_settled v u (Table named) told settled serves = absurd serves

pub held_stays : (v w : DispatchState) (request : Request) (served : Served) (told : Told) → IsSettled v
    → IsServed v request served w
    → served.reply ≡ Held told → (w.yard ≡ v.yard) × (served.granted ≡ 0)
held_stays v w request served told settled is reply =
    let serves : Serves v request (Held told) is.between =
    subst (λ (r : Reply). Serves v request r is.between) reply is.serves in
    let between = held_settled v is.between request told settled serves in
    let none = none_fires is.between w 0 is.settles.wants between.1 is.settles.fires in
    (ap (λ (u : DispatchState). u.yard) none.0 ∙ between.0, is.settles.number ∙ none.1)
