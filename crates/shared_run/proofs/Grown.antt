-- How many entries a pass makes at most: four in a round, and one in a turn.
use Rattle.std.proofs.Common.{◌≡◌, ◌≤◌, ◌+◌, ◌*◌, ℕ, suc, List, [], ◌∷◌, refl, length, sym, ap, ◌∙◌, subst, arith}
use Rattle.std.specs.Prelude.{replicate}
use Rattle.std.specs.List.{AllZip}
use Rattle.std.proofs.lemmas.List.{length-append, length-map, length-replicate}
use Rattle.rail_model.specs.declared.types.Entry.{Entry}
use Rattle.rail_model.specs.declared.types.Ask.TheVariants.{Yes}
use Rattle.rail_model.specs.declared.types.Reply.{Reply as EntryReply}
use Rattle.rail_model.specs.declared.types.Reply.TheVariants.{Driver}
use Rattle.zone_yard.specs.declared.replies.Reply.{Reply}
use Rattle.zone_yard.specs.declared.replies.Reply.TheVariants as one
use Rattle.zone_yard.specs.declared.replies.BlockReply.{BlockReply}
use Rattle.zone_yard.specs.declared.replies.BlockReply.TheVariants as block
use Rattle.zone_yard.specs.declared.replies.Turn.{Turn}
use Rattle.zone_yard.specs.declared.replies.Turn.TheVariants as turn
use Rattle.zone_yard.specs.Passes.{Pass, receipts_from, told}
use Rattle.zone_yard.specs.Entering.{Enters}
use Rattle.zone_yard.specs.Replies.{Replies, BlockReplies, Turns, IsGranted, steps_after}
use Rattle.shared_run.specs.declared.rounds.Round.{Round}
use Rattle.shared_run.specs.declared.rounds.Round.TheVariants.{One, Block, Halved}
use Rattle.shared_run.specs.Rounds.{GoesRound, AllGoRound, MakesRounds, MakesTurns}
use Rattle.shared_run.proofs.Lists.{zip_same, zip_then}

-- It is the same pass, with at most this many entries more.
pub record Grew (most : ℕ) (old new : Pass) : Type 0 where
  pub number : new.number ≡ old.number
  pub yard : new.yard ≡ old.yard
  pub few : length new.mine ≤ length old.mine + most

count_receipts : (k : ℕ) (es : List Entry) → length (receipts_from k es) ≡ length es
count_receipts k [] = refl
count_receipts k (e ∷ es) = ap suc (count_receipts (suc k) es)

pub enters_grew : (ticket most : ℕ) (replies : List EntryReply) (old new : Pass) → Enters ticket replies old new → length replies ≤ most → Grew most old new
enters_grew ticket most replies old new e few =
    let by : EntryReply → Entry = λ r. record { who = old.number; reply = r } in
    let counted : length (receipts_from ticket (told old.number replies)) ≡ length replies =
    count_receipts ticket (told old.number replies) ∙ length-map replies by in
    let more : length new.mine ≡ length old.mine + length replies =
    ap length e.mine ∙ length-append old.mine (receipts_from ticket (told old.number replies)) ∙ ap (λ n. length old.mine + n) counted in
    record { number = e.number; yard = e.yard; few = omega (arith, more, few) }

pub kept_grew : (most : ℕ) (old new : Pass) → new ≡ old → Grew most old new
kept_grew most old new same = record {
  number = ap (λ (p : Pass). p.number) same;
  yard = ap (λ (p : Pass). p.yard) same;
  few = let e : length new.mine ≡ length old.mine = ap (λ (p : Pass). length p.mine) same in omega (arith, e);
}

pub grew_more : (most many : ℕ) (old new : Pass) → most ≤ many → Grew most old new → Grew many old new
grew_more most many old new le g = record { number = g.number; yard = g.yard; few = let few = g.few in omega (arith, few, le) }

pub grew_then : (m n : ℕ) (a b c : Pass) → Grew m a b → Grew n b c → Grew (m + n) a c
grew_then m n a b c one two = record {
  number = two.number ∙ one.number;
  yard = two.yard ∙ one.yard;
  few = let f = one.few in let g = two.few in omega (arith, f, g);
}

-- a try at a held zone adds no entry
busy_grew : (old new : Pass) → new ≡ record old { tries = new.tries } → Grew 1 old new
busy_grew old new rest = record {
  number = ap (λ (p : Pass). p.number) rest;
  yard = ap (λ (p : Pass). p.yard) rest;
  few = let e : length new.mine ≡ length old.mine = ap (λ (p : Pass). length p.mine) rest in omega (arith, e);
}

pub one_grew : (old new : Pass) (reply : Reply) → Replies old reply new → Grew 1 old new
one_grew old new (one.Granted t) h = enters_grew t 1 _ old new h.1 (omega arith)
one_grew old new (one.Occupied t by) h = enters_grew t 1 _ old new h.1 (omega arith)
one_grew old new (one.Full t s n) h = enters_grew t 1 _ old new h.1 (omega arith)
one_grew old new (one.Waits t c) h = enters_grew t 1 _ old new h.1 (omega arith)
one_grew old new (one.Arrived t) h = enters_grew t 1 _ old new h.1 (omega arith)
one_grew old new (one.Busy zone holder) h = busy_grew old new h.1.rest
one_grew old new one.Spent h = kept_grew 1 old new h.1.0

granted_grew : (want : ℕ) (old new : Pass) (t n : ℕ) → want ≤ 4 → IsGranted want old t n new → Grew 4 old new
granted_grew want old new t n le h =
    let granted : EntryReply = Driver Yes in
    let all : n ≡ steps_after old h.1.0.before want = h.1.1 in
    let few : n ≤ want = omega (arith, all) in
    enters_grew t 4 (replicate n granted) old new h.1.0 (let long : length (replicate n granted) ≡ n = length-replicate n granted in omega (arith, long, few, le))

pub block_grew : (want : ℕ) (old new : Pass) (reply : BlockReply) → want ≤ 4 → BlockReplies want old reply new → Grew 4 old new
block_grew want old new (block.Granted t n) le h = granted_grew want old new t n le h
block_grew want old new (block.NotWhole t k a) le h = enters_grew t 4 _ old new h.1.0 (omega arith)
block_grew want old new (block.Occupied t by) le h = enters_grew t 4 _ old new h.1 (omega arith)
block_grew want old new (block.Full t s n) le h = enters_grew t 4 _ old new h.1 (omega arith)
block_grew want old new (block.Waits t c) le h = enters_grew t 4 _ old new h.1 (omega arith)
block_grew want old new (block.Arrived t) le h = enters_grew t 4 _ old new h.1 (omega arith)
block_grew want old new (block.Busy zone holder) le h = grew_more 1 4 old new (omega arith) (busy_grew old new h.1.rest)
block_grew want old new block.Spent le h = kept_grew 4 old new h.1.0

round_grew : (steps : ℕ) (old new : Pass) (round : Round) → steps ≤ 4 → GoesRound steps round old new → Grew 4 old new
round_grew steps old new (One reply) le h = grew_more 1 4 old new (omega arith) (one_grew old new reply h.1)
round_grew steps old new (Block reply) le h = block_grew steps old new reply le h.1
round_grew steps old new (Halved t k a reply) le h =
    grew_more 2 4 old new (omega arith) (grew_then 1 1 old h.1.0 new (enters_grew t 1 _ old h.1.0 h.1.1.1.0 (omega arith)) (one_grew h.1.0 new reply h.1.2))

all_grew : (steps : ℕ) (told : List Round) (olds news : List Pass) → steps ≤ 4 → AllGoRound steps told olds news → AllZip (Grew 4) olds news
all_grew steps [] [] [] le gone = tt
all_grew steps [] [] (n ∷ news) le gone = absurd gone
all_grew steps [] (o ∷ olds) news le gone = absurd gone
all_grew steps (r ∷ told) [] news le gone = absurd gone
all_grew steps (r ∷ told) (o ∷ olds) [] le gone = absurd gone
all_grew steps (r ∷ told) (o ∷ olds) (n ∷ news) le gone = (round_grew steps o n r le gone.0, all_grew steps told olds news le gone.1)

pub rounds_grew : (steps : ℕ) (told : List (List Round)) (olds news : List Pass) → steps ≤ 4 → MakesRounds steps told olds news
    → AllZip (Grew (4 * length told)) olds news
rounds_grew steps [] olds news le made = subst (AllZip (Grew 0) olds) (sym made) (zip_same (Grew 0) (λ d. kept_grew 0 d d refl) olds)
rounds_grew steps (round ∷ earlier) olds news le made =
    zip_then (Grew (4 * length earlier)) (Grew 4) (Grew (4 * length (round ∷ earlier)))
    (λ a b c one two. grew_more (4 * length earlier + 4) _ a c (omega arith) (grew_then _ 4 a b c one two))
    olds made.0 news (rounds_grew steps earlier olds made.0 le made.1) (all_grew steps round made.0 news le made.2)

turn_grew : (old new : Pass) (answer : Turn) → Turns old answer new → Grew 1 old new
turn_grew old new (turn.Exchanged t) h = enters_grew t 1 _ old new h.2 (omega arith)
turn_grew old new (turn.Differs t i k) h = enters_grew t 1 _ old new h.2 (omega arith)
turn_grew old new (turn.Over t s n) h = enters_grew t 1 _ old new h.2 (omega arith)
turn_grew old new (turn.Early t m) h = enters_grew t 1 _ old new h.2 (omega arith)
turn_grew old new turn.NoMore h = kept_grew 1 old new h.2.0
turn_grew old new turn.Spent h = kept_grew 1 old new h.1.0

pub turns_grew : (old new : Pass) (turns : List Turn) → MakesTurns turns old new → Grew (length turns) old new
turns_grew old new [] made = kept_grew _ old new made
turns_grew old new (answer ∷ earlier) made =
    grew_more (length earlier + 1) _ old new (omega arith)
    (grew_then _ 1 old made.0 new (turns_grew old made.0 earlier made.1) (turn_grew made.0 new answer made.2))
