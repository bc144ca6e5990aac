-- From what a request was told, or what came of it, to its reply.
use Rattle.zone_yard.proofs.Prelude.{◌≡◌, ℕ, zero, suc, ◌-◌, ◌<◌, ◌≤◌, [], ◌∷◌, ◌++◌, length, refl, ap, ◌∙◌, subst, arith, true, sym, BlockAsk, Driver, Table, offer, claim_of, zones_of, state_after, IsLegalHistory, Pass, StartsWith, told, receipts_from, standing, Enters, replies_of, CanAnswer, steps_left, Replies, BlockReplies, has, Claim, Told, Busy}
use Rattle.std.proofs.Common.{min}
use Rattle.rail_model.specs.declared.types.Ask.{Ask}
use Rattle.rail_model.specs.declared.types.Ask.TheVariants as ask
use Rattle.rail_model.specs.declared.types.BlockAsk.TheVariants as block
use Rattle.rail_model.specs.Table.{last}
use Rattle.rail_model.specs.Yard.{in_force}
use Rattle.move_claim.specs.Deciding.{one_ask}
use Rattle.zone_yard.specs.Entering.{HasRoom}
use Rattle.zone_yard.specs.Blocks.{IsAnswered}
use Rattle.zone_yard.specs.Replies.{asked_steps, reply_to, block_reply_to, IsReplied}
use Rattle.zone_yard.proofs.Lists.{starts_on}
use Rattle.zone_yard.specs.declared.requests.Attempt.{Attempt}
use Rattle.zone_yard.specs.Asked.{Attempted, reply_of, block_reply_of}

pub replies_to : (old new : Pass) (ticket : ℕ) (answer : Ask) → IsReplied old ticket answer new → Replies old (reply_to ticket answer) new
replies_to old new ticket ask.Yes h = h
replies_to old new ticket ask.Arrived h = h
replies_to old new ticket (ask.Occupied by) h = h
replies_to old new ticket (ask.Full s n) h = h
replies_to old new ticket (ask.Waits c) h = h

-- the answer to one step is one reply
one_reply : (n : ℕ) (answer : BlockAsk) → n ≤ 1 → CanAnswer n answer → replies_of n answer ≡ Driver (one_ask answer) ∷ []
one_reply zero block.Yes le can = absurd (omega (arith, can))
one_reply (suc zero) block.Yes le can = refl
one_reply (suc (suc n)) block.Yes le can = absurd (omega (arith, le))
one_reply n (block.First a) le can = refl
one_reply n (block.NotWhole step a) le can = absurd (omega (arith, le, can.0, can.1))

pub answers_one : (old new : Pass) (steps ticket : ℕ) (answer : BlockAsk) → HasRoom old → IsAnswered 1 answer steps ticket old new → Replies old (reply_to ticket (one_ask answer)) new
answers_one old new steps ticket answer room a =
    let few : steps ≤ 1 = (let e = a.remain in omega (arith, e)) in
    replies_to old new ticket (one_ask answer) (room, subst (λ l. Enters ticket l old new) (one_reply steps answer few a.can) a.entered)

-- A pass asks for what it wants, but for no more steps than it has entries left.
module _ (pass : Pass) (want asked : ℕ) (room : HasRoom pass) (is : asked ≡ min want (pass.yard.setup.calls - length pass.mine)) where
  -- the steps are the same under each table
  pub same_claim : (T : Table) → claim_of T pass.number pass.position asked ≡ claim_of T pass.number pass.position (asked_steps T pass want)
  same_claim T =
      let same : min asked (last T pass.number - pass.position) ≡ min (asked_steps T pass want) (last T pass.number - pass.position) = omega (arith, room, is) in
      ap (λ n. record { train = pass.number; place = pass.position; steps = n }) same

  -- where some steps remain, they are all that are asked for
  some_asked : (T : Table) (steps : ℕ) → 0 < steps → steps ≡ (claim_of T pass.number pass.position asked).steps → steps ≡ asked_steps T pass want
  some_asked T steps some e = omega (arith, room, is, some, e)

  pub answers_block : (new : Pass) (steps ticket : ℕ) (answer : BlockAsk) → IsAnswered asked answer steps ticket pass new → BlockReplies want pass (block_reply_to ticket steps answer) new
  answers_block new steps ticket block.Yes a =
      (room, (a.entered, some_asked (in_force pass.yard.setup.tables (state_after pass.yard.setup a.entered.before)) steps a.can a.remain))
  answers_block new steps ticket (block.NotWhole step x) a =
      let can = a.can in
      let all = some_asked (in_force pass.yard.setup.tables (state_after pass.yard.setup a.entered.before)) steps (omega (arith, can.1)) a.remain in
      (room, (a.entered, omega (arith, can.1, all)))
  answers_block new steps ticket (block.First ask.Yes) a = absurd (a.can refl)
  answers_block new steps ticket (block.First ask.Arrived) a = (room, a.entered)
  answers_block new steps ticket (block.First (ask.Occupied by)) a = (room, a.entered)
  answers_block new steps ticket (block.First (ask.Full s n)) a = (room, a.entered)
  answers_block new steps ticket (block.First (ask.Waits c)) a = (room, a.entered)

-- what was answered since only tries were added
pub answered_since : (asked steps ticket : ℕ) (answer : BlockAsk) (old m new : Pass) → m ≡ record old { tries = m.tries } → StartsWith m.tries old.tries
    → IsAnswered asked answer steps ticket m new → IsAnswered asked answer steps ticket old new
answered_since asked steps ticket answer old m new same tries a =
    let e = a.entered in
    record {
      entered = record {
        before = e.before;
        begins = subst (λ (x : Pass). StartsWith e.before x.seen) same e.begins;
        counted = e.counted;
        seen = e.seen ∙ ap (λ (x : Pass). e.before ++ told x.number (replies_of steps answer)) same;
        legal = subst (λ (x : Pass). IsLegalHistory x.yard.setup new.seen) same e.legal;
        mine = e.mine ∙ ap (λ (x : Pass). x.mine ++ receipts_from ticket (told x.number (replies_of steps answer))) same;
        own = e.own;
        stands = e.stands ∙ ap (λ (x : Pass). standing (state_after x.yard.setup new.seen) new.number) same;
        number = e.number ∙ ap (λ (x : Pass). x.number) same;
        yard = e.yard ∙ ap (λ (x : Pass). x.yard) same;
        tries = starts_on new.tries m.tries old.tries e.tries tries;
        free = e.free;
      };
      remain = a.remain ∙ ap (λ (x : Pass). steps_left x e.before asked) same;
      can = a.can;
    }

pub asked_reply : (attempt : Attempt) (old new : Pass) → HasRoom old → Attempted 1 old attempt new → Replies old (reply_of attempt) new
asked_reply (Told answer steps ticket) old new room h = answers_one old new steps ticket answer room h
asked_reply (Busy zone holder) old new room h = (room, h)

pub asked_block : (want asked : ℕ) (attempt : Attempt) (old new : Pass) → HasRoom old → asked ≡ min want (old.yard.setup.calls - length old.mine) → Attempted asked old attempt new
    → BlockReplies want old (block_reply_of attempt) new
asked_block want asked (Told answer steps ticket) old new room is h = answers_block old want asked room is new steps ticket answer h
asked_block want asked (Busy zone holder) old new room is b =
    let T : Table = (offer old.yard.setup.tables b.glanced).table in (
      room,
      record {
        earlier = b.earlier;
        glanced = b.glanced;
        tries = b.tries;
        another = b.another;
        pass = b.pass;
        listed = b.listed;
        needed = subst (λ (c : Claim). has zone (zones_of old.yard.setup.layout T c) ≡ true) (sym (same_claim old asked asked room (omega (arith, is)) T) ∙ same_claim old want asked room is T) b.needed;
        rest = b.rest;
        free = b.free;
      },
    )
