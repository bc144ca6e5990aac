-- Nothing lost: all rounds of a repair.
use Rattle.std.proofs.Common.{◌≡◌, ◌↔◌, ℕ, ◌<◌, ◌≤◌, List, [], ◌∷◌, length, Some, arith, subst, sym}
use Rattle.std.specs.Prelude.{slice_get, slice_index_or, pos}
use Rattle.std.proofs.lemmas.List.{length-map}
use Rattle.std.proofs.lemmas.Option.{slice_get-get_or}
use Rattle.std.proofs.lemmas.Int.{by_lt_z}
use Rattle.rail_model.specs.Table.{Table, Mission, limit, place, count, last}
use Rattle.rail_model.specs.State.{Legal}
use Rattle.rail_model.specs.Move.{Move, Run, Stuck, IsOver, Live}
use Rattle.rail_model.specs.Certificate.{IsIn}
use Rattle.rail_model.proofs.Found.{Among}
use Rattle.rail_model.proofs.Live.{completes}
use Rattle.rail_model.proofs.Sound.{live}
use Rattle.legal_state.specs.declared.judges.Illegal.TheVariants.{Over}
use Rattle.legal_state.specs.Illegal.{IsIllegal}
use Rattle.legal_state.proofs.Legality.{legal_from}
use Rattle.cert_maker.specs.declared.made.Made.TheVariants.{Cert as cert, Stuck as found}
use Rattle.cert_maker.proofs.Meaning.{gives_accepted, gives_stuck}
use Rattle.forbidden_states.specs.Forbid.{Stay, AreStays, InStays, unmarked, forbidding, marked}
use Rattle.forbidden_states.proofs.Members.{among-at}
use Rattle.forbidden_states.proofs.Over.{over_in}
use Rattle.section_repair.specs.declared.repaired.Repair.{Repair}
use Rattle.section_repair.specs.declared.repaired.Repair.TheVariants.{Done, Spent, Rounds, Many}
use Rattle.section_repair.specs.Core.{core}
use Rattle.section_repair.specs.Joining.{stays_of}
use Rattle.section_repair.specs.Repairs.{treated, Treats, IsReached, Repairs}
use Rattle.section_repair.specs.Claims.{Completable, IsApart, ForbidsOnlyIncompletable, table_of, LosesNothing, IsExact, HasShare, StandAlike, DoomsAlike, EachRoundLosesNothing}
use Rattle.section_repair.proofs.Stays.{stay-below, InStays-moved, share-inside}
use Rattle.section_repair.proofs.Lost.{AreSound, core_sound}
use Rattle.section_repair.proofs.Unions.{settled_sound}

-- the sections that some rounds make of sound ones are sound
pub treats_sound : (M : List Mission) (budget : ℕ) (ps : List (List ℕ)) (S end : List (List Stay)) → AreSound M S → Treats M budget S ps end → AreSound M end
treats_sound M budget [] S end x t = subst (AreSound M) (sym t) x
treats_sound M budget (p ∷ later) S end x t =
    let stuck : Stuck (marked M S) p = gives_stuck (marked M S) budget (found p) t.1 in
    treats_sound M budget later (treated M S p) end (settled_sound M (length S) S (stays_of p (core (marked M S) p)) x (core_sound M S p x stuck)) t.2

pub reached_sound : (M : List Mission) (budget : ℕ) (ps : List (List ℕ)) (S : List (List Stay)) → Treats M budget [] ps S → AreSound M S
reached_sound M budget ps S t = treats_sound M budget ps [] S (λ b a. absurd a) t

-- The state is in the ranges of a section of the list, the number s.
record IsInside (M : List Mission) (S : List (List Stay)) (s : ℕ) (p : List ℕ) : Type 0 where
  stays : List Stay
  get : slice_get S s ≡ Some stays
  among : Among S stays
  inside : InStays p stays

-- where a state with distinct points is over one of sound sections, its trains are in the section's ranges
over_inside : (M : List Mission) (S : List (List Stay)) (p : List ℕ) (s : ℕ) → AreSound M S → IsApart M p → IsOver (marked M S) p s → IsInside M S s p
over_inside M S p s x apart over =
    let within : s < length S = omega (arith, over.0, length-map S (forbidding M)) in
    let b : List Stay = slice_index_or S s [] in
    let got : slice_get S s ≡ Some b = slice_get-get_or S s [] within in
    let a : Among S b = among-at S s [] within in
    record { stays = b; get = got; among = a; inside = over_in M S s b p got (x b a).stays (λ i l. apart.in_range i l) over }

sound_loses_nothing : (M : List Mission) (S : List (List Stay)) → AreSound M S → ForbidsOnlyIncompletable M (marked M S)
sound_loses_nothing M S x p s apart over run =
    let r : IsInside M S s p = over_inside M S p s x apart over in
    (x r.stays r.among).doomed p apart r.inside run

pub each_round_loses_nothing : EachRoundLosesNothing
each_round_loses_nothing M budget ps S t = sound_loses_nothing M S (reached_sound M budget ps S t)

-- ---- an accepted table

unmarked_legal : (M : List Mission) (S : List (List Stay)) (p : List ℕ) → Legal (marked M S) p → Legal (unmarked M) p
unmarked_legal M S p l = record { one_each = l.one_each; in_range = l.in_range; apart = l.apart; within = λ s k. absurd (omega (arith, k)) }

-- a move under sections is one under the missions alone
unmarked_move : (M : List Mission) (S : List (List Stay)) (p q : List ℕ) (i : ℕ) → Move (marked M S) p i q → Move (unmarked M) p i q
unmarked_move M S p q i m = record {
  before = unmarked_legal M S p m.before;
  train = m.train;
  step = m.step;
  after = unmarked_legal M S q m.after;
  free = m.free;
}

unmarked_run : (M : List Mission) (S : List (List Stay)) (l p q : List ℕ) → Run (marked M S) p l q → Run (unmarked M) p l q
unmarked_run M S [] p q r = r
unmarked_run M S (i ∷ later) p q r = (r.0, unmarked_move M S p r.0 i r.1, unmarked_run M S later r.0 q r.2)

-- where the table is live, legal and completable are one
sound_is_exact : (M : List Mission) (S : List (List Stay)) → AreSound M S → Live (marked M S) → (p : List ℕ) → IsApart M p → Legal (marked M S) p ↔ Completable M p
sound_is_exact M S x alive p apart = (
  (λ legal.
      let c = completes (marked M S) p alive legal in
      let r = c.exists in
      (r.0, r.1, unmarked_run M S r.0 p r.1 r.2, (c.ends r.0 r.1 r.2 r.3).0)),
  (λ run. record {
    one_each = apart.one_each;
    in_range = apart.in_range;
    apart = apart.apart;
    within = λ s l. by_lt_z (pos (limit (marked M S) s)) (count (marked M S) s p)
        (λ lt. absurd (sound_loses_nothing M S x p s apart (l, lt) run)) (λ le. le);
  }),
)

-- ---- a state over a section

-- a state that is illegal only for a section has distinct points
illegal_apart : (M : List Mission) (S : List (List Stay)) (p : List ℕ) (s n l : ℕ) → IsIllegal (marked M S) p (Over s n l) → IsApart M p
illegal_apart M S p s n l h = legal_from (unmarked M) p h.0 h.1 h.2 (λ t over. absurd (omega (arith, over.0)))

sound_dooms : (M : List Mission) (S : List (List Stay)) → AreSound M S → (start p : List ℕ) (s n l : ℕ) →
    IsIllegal (marked M S) start (Over s n l) → IsApart M p → StandAlike (marked M S) s p start → Completable M p → ⊥
sound_dooms M S x start p s n l illegal free alike run =
    let apart : IsApart M start = illegal_apart M S start s n l illegal in
    let r : IsInside M S s start = over_inside M S start s x apart illegal.3.0 in
    let all : AreStays (length M) r.stays = (x r.stays r.among).stays in
    let start-share : (t : Stay) → Among r.stays t → IsIn (place start t.train) t.range → HasShare (marked M S) t.train s = λ t a i.
    let low : place start t.train ≤ last (unmarked M) t.train = apart.in_range t.train (stay-below (length M) r.stays t all a) in
    (place start t.train, low, share-inside M S s r.stays t start r.get all a low i) in
    (x r.stays r.among).doomed p free
    (InStays-moved start p r.stays
    (λ t a i. alike t.train (stay-below (length M) r.stays t all a) (start-share t a i))
    r.inside) run

-- ---- what a repair's answer keeps

-- The table has sound sections.
record HasSound (M : List Mission) (T : Table) : Type 0 where
  sections : List (List Stay)
  sound : AreSound M sections
  table : T ≡ marked M sections

reached : (M : List Mission) (budget : ℕ) (ps : List (List ℕ)) (S : List (List Stay)) (T : Table) → IsReached M budget ps S T → HasSound M T
reached M budget ps S T h = record { sections = S; sound = reached_sound M budget ps S h.treats; table = h.table }

has_sound : (M : List Mission) (budget rounds : ℕ) (r : Repair) → Repairs M budget rounds r → HasSound M (table_of r)
has_sound M budget rounds (Done T c n) h = reached M budget h.0 h.1 T h.2
has_sound M budget rounds (Spent T n) h = reached M budget h.0 h.1 T h.2
has_sound M budget rounds (Rounds T n at) h = reached M budget h.0 h.1 T h.2
has_sound M budget rounds (Many T n) h = reached M budget h.0 h.1 T h.2

pub loses_nothing : (M : List Mission) (budget rounds : ℕ) (r : Repair) → Repairs M budget rounds r → LosesNothing M r
loses_nothing M budget rounds r h =
    let u : HasSound M (table_of r) = has_sound M budget rounds r h in
    subst (ForbidsOnlyIncompletable M) (sym u.table) (sound_loses_nothing M u.sections u.sound)

exact_table : (M : List Mission) (T : Table) → HasSound M T → Live T → (p : List ℕ) → IsApart M p → Legal T p ↔ Completable M p
exact_table M T u alive p apart =
    subst (λ (V : Table). Legal V p ↔ Completable M p) (sym u.table)
    (sound_is_exact M u.sections u.sound (subst Live u.table alive) p apart)

pub is_exact : (M : List Mission) (budget rounds : ℕ) (r : Repair) → Repairs M budget rounds r → IsExact M r
is_exact M budget rounds (Done T c n) h =
    exact_table M T (has_sound M budget rounds (Done T c n) h) (live T c (gives_accepted T budget (cert c) h.5))
is_exact M budget rounds (Spent T n) h = tt
is_exact M budget rounds (Rounds T n at) h = tt
is_exact M budget rounds (Many T n) h = tt

pub dooms_alike : (M : List Mission) (budget rounds : ℕ) (r : Repair) → Repairs M budget rounds r → DoomsAlike M r
dooms_alike M budget rounds r h start p s n l =
    let u : HasSound M (table_of r) = has_sound M budget rounds r h in
    subst (λ (V : Table). IsIllegal V start (Over s n l) → IsApart M p → StandAlike V s p start → Completable M p → ⊥) (sym u.table)
    (sound_dooms M u.sections u.sound start p s n l)
