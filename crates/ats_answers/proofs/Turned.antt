-- Turns that are drawn.
use Rattle.std.proofs.Common.{◌≡◌, ℕ, suc, ◌+◌, ◌-◌, ◌<◌, ◌≤◌, List, [], ◌∷◌, length, get_or, Some, None, Result, Ok, Err, sym, ◌∙◌, ap, ap₂, subst, arith}
use Rattle.std.specs.Prelude.{Option}
use Rattle.rail_model.specs.Table.{trains}
use Rattle.rail_model.specs.Layout.{Layout}
use Rattle.rail_model.specs.Yard.{Offer, opening, offer, after, IsHistory}
use Rattle.zone_machine.specs.declared.steps.Step.{Step}
use Rattle.zone_machine.specs.declared.steps.Seen.{Seen}
use Rattle.zone_machine.specs.declared.steps.NotAllowed.{NotAllowed}
use Rattle.zone_machine.specs.World.{Setup, World}
use Rattle.zone_machine.specs.Steps.{step_of}
use Rattle.zone_machine.specs.Program.{next}
use Rattle.zone_machine.specs.Weave.{first_world, plain_of}
use Rattle.zone_machine.specs.Calls.{Steps}
use Rattle.document_generator.specs.Draws.{next_draw, drawn_of}
use Rattle.document_json.specs.Doc.{Doc, offers_of}
use Rattle.ats_answers.specs.Weaving.{core_of, woven, after_turn, drawn_actor, drawn_world}

-- what a step leaves, whether it is made or refused
made : (r : Result (Seen × World) NotAllowed) (told : Result Seen NotAllowed) (w v : World) → Steps r w told v → v ≡ elim r [ Ok after ↦ after.1 | Err e ↦ w ]
made (Ok x) (Ok s) w v h = h.1
made (Ok x) (Err e) w v h = absurd h
made (Err e) (Ok s) w v h = absurd h
made (Err e) (Err f) w v h = h.1

pub turned : (S : Setup) (p : ℕ) (w v : World) (step : Step) (told : Result Seen NotAllowed) → next S w p ≡ Some step → Steps (step_of S p w step) w told v → v ≡ after_turn S p w
turned S p w v step told is h =
    made (step_of S p w step) told w v h
    ∙ ap (λ (o : Option Step). elim o [ None ↦ w | Some step ↦ elim (step_of S p w step) [ Ok after ↦ after.1 | Err e ↦ w ] ]) (sym is)

pub not_turned : (S : Setup) (p : ℕ) (w : World) → next S w p ≡ None → w ≡ after_turn S p w
not_turned S p w none = ap (λ (o : Option Step). elim o [ None ↦ w | Some step ↦ elim (step_of S p w step) [ Ok after ↦ after.1 | Err e ↦ w ] ]) (sym none)

-- one turn more
pub turned_on : (S : Setup) (count turns k x : ℕ) (w v all : World) → k < turns → drawn_world S count (turns - k) x w ≡ all → v ≡ after_turn S (drawn_actor count (next_draw x)) w
    → drawn_world S count (turns - (k + 1)) (next_draw x) v ≡ all
turned_on S count turns k x w v all lt so_far is =
    let more : turns - k ≡ suc (turns - (k + 1)) = omega arith in
    ap (drawn_world S count (turns - (k + 1)) (next_draw x)) is ∙ (sym (ap (λ n. drawn_world S count n x w) more) ∙ so_far)

-- the same, from what the calls say
pub turned_here : (S U : Setup) (count turns k x drawn y p : ℕ) (w v all : World) → k < turns → U ≡ S → drawn ≡ next_draw x → y ≡ next_draw x → p ≡ drawn_actor count drawn
    → drawn_world S count (turns - k) x w ≡ all → v ≡ after_turn U p w → drawn_world S count (turns - (k + 1)) y v ≡ all
turned_here S U count turns k x drawn y p w v all lt same drawn_is y_is p_is so_far is =
    subst (λ n. drawn_world S count (turns - (k + 1)) n v ≡ all) (sym y_is)
    (turned_on S count turns k x w v all lt so_far (is ∙ ap₂ (λ (T : Setup) q. after_turn T q w) same (p_is ∙ ap (drawn_actor count) drawn_is)))

-- all turns were made
pub all_turned : (S : Setup) (count turns k x : ℕ) (w all : World) → turns ≤ k → drawn_world S count (turns - k) x w ≡ all → w ≡ all
all_turned S count turns k x w all le so_far =
    let none : turns - k ≡ 0 = omega arith in
    sym (ap (λ n. drawn_world S count n x w) none) ∙ so_far

-- the setup of equal parts
pub same_setup : (L M : Layout) (ts us : List Offer) (p q : List ℕ) (m n : ℕ) → L ≡ M → ts ≡ us → p ≡ q → m ≡ n
    → ◌≡◌ {A = Setup} (record { layout = L; tables = ts; opening = opening p; most = m }) (record { layout = M; tables = us; opening = opening q; most = n })
same_setup L M ts us p q m n l t o k = λ i. record { layout = l i; tables = t i; opening = opening (o i); most = k i }

-- the first of some tables
pub first_offer : (os : List Offer) (o : Offer) → 0 < length os → o ≡ get_or os 0 o → o ≡ offer os 0
first_offer [] o lt at = absurd (omega arith)
first_offer (x ∷ xs) o lt at = at

-- what the calls leave is the world after the drawn turns of the document's core
module _ (D : Doc) (seed turns count : ℕ) (S T : Setup) (w v : World) (core_is : S ≡ core_of D turns) (still : T ≡ S) (count_is : count ≡ trains (offer (offers_of D) 0).table)
    (opened : w ≡ first_world S) (made_turns : v ≡ drawn_world S count turns (drawn_of seed) w) where
  world_is : v ≡ woven D seed turns
  world_is =
      made_turns
      ∙ (ap (drawn_world S count turns (drawn_of seed)) opened
      ∙ ap₂ (λ (U : Setup) n. drawn_world U n turns (drawn_of seed) (first_world U)) core_is count_is)

  pub plain_is : plain_of T [] v ≡ plain_of (core_of D turns) [] (woven D seed turns)
  plain_is = ap₂ (λ (U : Setup) (x : World). plain_of U [] x) (still ∙ core_is) world_is

  pub legal_is : IsHistory T.tables T.opening v.history → IsHistory (offers_of D) (opening D.start) (woven D seed turns).history
  legal_is legal =
      subst (λ (x : World). IsHistory (offers_of D) (opening D.start) x.history) world_is
      (subst (λ (U : Setup). IsHistory U.tables U.opening v.history) (still ∙ core_is) legal)
