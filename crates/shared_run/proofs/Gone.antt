-- One driver more has gone its round.
use Rattle.std.proofs.Common.{◌≡◌, ◌≢◌, ℕ, zero, suc, ◌+◌, ◌<◌, ◌≤◌, ◌↔◌, List, [], ◌∷◌, ◌++◌, refl, length, get_or, set, Bool, IsTrue, sym, ap, ◌∙◌, subst, arith, get_or-set_same, get_or-set_other, length-set}
use Rattle.std.specs.List.{AllZip}
use Rattle.std.proofs.Math.Seq.{get_or-append_seam}
use Rattle.std.proofs.lemmas.List.{length-append, get_or_append_left}
use Rattle.std.proofs.lemmas.List.Elements.{All-push}
use mathlib.Core.Logic.{dite}
use native.Mathlib.Decide.{ℕ_discrete}
use Rattle.zone_yard.specs.Setup.{SharedYard}
use Rattle.zone_yard.specs.Passes.{Pass}
use Rattle.shared_run.specs.declared.rounds.Round.{Round}
use Rattle.shared_run.specs.Rounds.{AllOurs, AllAsked, AllGoRound, GoesRound, HasNoMore, HasFinished}

-- a fact at each place of two lists that are as long
pub zipped : {A : Type 0} (R : A → A → Type 0) (xs ys : List A) → length ys ≡ length xs
    → ((k : ℕ) (d : A) → k < length xs → R (get_or xs k d) (get_or ys k d)) → AllZip R xs ys
zipped R [] [] same each = tt
zipped R [] (y ∷ ys) same each = absurd (omega (arith, same))
zipped R (x ∷ xs) [] same each = absurd (omega (arith, same))
zipped R (x ∷ xs) (y ∷ ys) same each =
    (each 0 x (omega arith), zipped R xs ys (omega (arith, same)) (λ k d lt. each (suc k) d (omega (arith, lt))))

-- inside the list the default plays no part
pub any_default : (ds : List Pass) (i : ℕ) (d e : Pass) → i < length ds → get_or ds i d ≡ get_or ds i e
any_default [] i d e lt = absurd (omega arith)
any_default (x ∷ xs) zero d e lt = refl
any_default (x ∷ xs) (suc i) d e lt = any_default xs i d e (omega arith)

pub ours_set : (yard : SharedYard) (ds : List Pass) (i : ℕ) (e : Pass) → i < length ds → AllOurs yard ds → e.yard ≡ yard → AllOurs yard (set ds i e)
ours_set yard ds i e lt ours mine k d inside = dite (ℕ_discrete k i)
    (λ (same : k ≡ i). subst (λ j. (get_or (set ds i e) j d).yard ≡ yard) (sym same) (ap (λ (x : Pass). x.yard) (get_or-set_same ds i e d lt) ∙ mine))
    (λ (ne : k ≢ i). ap (λ (x : Pass). x.yard) (get_or-set_other ds i k e d ne) ∙ ours k d (let x = length-set ds i e in omega arith))

-- a round at each place is one of each driver in order
all_gone : (steps : ℕ) (told : List Round) (olds news : List Pass) → length told ≡ length olds → length news ≡ length olds
    → ((k : ℕ) (r : Round) (d : Pass) → k < length olds → GoesRound steps (get_or told k r) (get_or olds k d) (get_or news k d))
    → AllGoRound steps told olds news
all_gone steps [] [] [] long same each = tt
all_gone steps [] [] (n ∷ news) long same each = absurd (omega (arith, same))
all_gone steps [] (o ∷ olds) news long same each = absurd (omega (arith, long))
all_gone steps (r ∷ told) [] news long same each = absurd (omega (arith, long))
all_gone steps (r ∷ told) (o ∷ olds) [] long same each = absurd (omega (arith, same))
all_gone steps (r ∷ told) (o ∷ olds) (n ∷ news) long same each =
    (each 0 r o (omega arith), all_gone steps told olds news (omega (arith, long)) (omega (arith, same)) (λ k x d lt. each (suc k) x d (omega (arith, lt))))

-- The first n drivers have gone their round, and this tells whether none of them has more to ask for. The others are as they were.
pub record Gone (steps n : ℕ) (over : Bool) (before ds : List Pass) : Type 0 where
  pub told : List Round
  pub long : length told ≡ n
  pub each : (k : ℕ) (r : Round) (d : Pass) → k < n → GoesRound steps (get_or told k r) (get_or before k d) (get_or ds k d)
  pub rest : (k : ℕ) (d : Pass) → n ≤ k → get_or ds k d ≡ get_or before k d
  pub ends : IsTrue over ↔ HasFinished told

-- the round of one more driver
module _ (told : List Round) (round : Round) where
  abbrev more : List Round
  more = told ++ round ∷ []

  longer : length more ≡ length told + 1
  longer = length-append told (round ∷ [])

  over_more : (over ended over' : Bool) → (IsTrue over ↔ HasFinished told) → (IsTrue ended ↔ HasNoMore round) → (IsTrue over' ↔ (IsTrue over × IsTrue ended))
      → IsTrue over' ↔ HasFinished more
  over_more over ended over' were is both = (
    λ t. let now = both.0 t in All-push HasNoMore told round (were.0 now.0) (is.0 now.1),
    λ all. both.1 (
      (were.1 (λ k d lt. subst HasNoMore (get_or_append_left told (round ∷ []) d k lt) (all k d (let e = longer in omega (arith, e, lt))))),
      (is.1 (subst HasNoMore (get_or-append_seam told round [] round) (all (length told) round (let e = longer in omega (arith, e))))),
    ),
  )

pub one_more : (steps i : ℕ) (over ended over' : Bool) (before ds : List Pass) (e : Pass) (round : Round) → i < length ds → Gone steps i over before ds
    → ((d : Pass) → GoesRound steps round (get_or ds i d) e) → (IsTrue ended ↔ HasNoMore round) → (IsTrue over' ↔ (IsTrue over × IsTrue ended))
    → Gone steps (i + 1) over' before (set ds i e)
one_more steps i over ended over' before ds e round lt gone now end both = record {
  told = more gone.told round;
  long = longer gone.told round ∙ ap (λ n. n + 1) gone.long;
  each = λ k r d below. dite (ℕ_discrete k i)
      (λ (same : k ≡ i). subst (λ j. GoesRound steps (get_or (more gone.told round) j r) (get_or before j d) (get_or (set ds i e) j d)) (sym same)
      (subst (λ (x : Round × Pass × Pass). GoesRound steps x.0 x.1 x.2)
      (λ j. (
        sym (subst (λ n. get_or (more gone.told round) n r ≡ round) gone.long (get_or-append_seam gone.told round [] r)) j,
        gone.rest i d (omega arith) j,
        sym (get_or-set_same ds i e d lt) j,
      ))
      (now d)))
      (λ (ne : k ≢ i). subst (λ (x : Round × Pass). GoesRound steps x.0 (get_or before k d) x.1)
      (λ j. (sym (get_or_append_left gone.told (round ∷ []) r k (let l = gone.long in omega (arith, l, below, ne))) j, sym (get_or-set_other ds i k e d ne) j))
      (gone.each k r d (omega (arith, below, ne))));
  rest = λ k d le. get_or-set_other ds i k e d (λ same. omega (arith, le, same)) ∙ gone.rest k d (omega (arith, le));
  ends = over_more gone.told round over ended over' gone.ends end both;
}

pub whole_round : (steps n : ℕ) (over : Bool) (before ds : List Pass) → n ≡ length before → length ds ≡ length before → Gone steps n over before ds → AllAsked steps over before ds
whole_round steps n over before ds long same gone =
    (gone.told, all_gone steps gone.told before ds (gone.long ∙ long) same (λ k r d lt. gone.each k r d (omega (arith, long, lt))), gone.ends)
