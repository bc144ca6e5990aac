-- What a request for a block leaves of its driver.
use Rattle.zone_yard.proofs.Prelude.{◌≡◌, ℕ, suc, ◌+◌, ◌<◌, ◌≤◌, ◌^◌, List, length, true, sym, ap, ◌∙◌, subst, arith, length-append, TableId, BlockAsk, Driver, Table, trains, offer, has, Claim, zones_of, Told, Busy, Setup, SharedYard, IsLegalHistory, told, receipts_from, replies_of, granted_steps, pass_of, Seat, IsPass, IsToldBlock}
use Rattle.std.proofs.lemmas.List.{length-replicate}
use Rattle.rail_model.specs.declared.types.BlockAsk.TheVariants as block
use Rattle.rail_model.specs.declared.types.Ask.TheVariants.{Yes}
use Rattle.rail_model.specs.declared.types.Reply.{Reply}
use Rattle.zone_yard.specs.declared.requests.Attempt.{Attempt}
use Rattle.zone_yard.specs.Asked.{Attempted}
use Rattle.zone_yard.specs.Aboard.{IsDriver, IsIdle}
use Rattle.zone_yard.specs.Attempts.{Asks}
use Rattle.zone_yard.proofs.BlockEntries.{told_long}
use Rattle.zone_yard.proofs.Entered.{length-receipts}
use Rattle.zone_yard.proofs.Replied.{same_claim}

-- an answer to some steps has no more replies than steps
few_replies : (n most : ℕ) (answer : BlockAsk) → n ≤ most → 1 ≤ most → length (replies_of n answer) ≤ most
few_replies n most block.Yes le some = let long = length-replicate n (Driver Yes) in omega (arith, le, long)
few_replies n most (block.First ask) le some = some
few_replies n most (block.NotWhole step ask) le some = some

module _ (id : TableId) (train position entries : ℕ) (old new : Seat) (driver : IsDriver train position entries old) where
  pass : IsPass train position entries old
  pass = driver.pass

  pub driver_told : (asked steps ticket : ℕ) (answer : BlockAsk) → 1 ≤ asked → length old.view.mine + asked ≤ old.view.setup.calls → IsToldBlock id asked answer steps ticket old new
      → IsDriver train (position + granted_steps steps answer) (entries + length (replies_of steps answer)) new
  driver_told asked steps ticket answer some room h =
      let e = h.0.entered in
      let replies : List Reply = replies_of steps answer in
      let made : new.view.setup ≡ old.view.setup = ap (λ (y : SharedYard). y.setup) e.yard in
      let long : length new.view.mine ≡ length old.view.mine + length replies =
      ap length e.mine ∙ (length-append old.view.mine (receipts_from ticket (told old.view.number replies))
      ∙ ap (λ n. length old.view.mine + n) (length-receipts ticket (told old.view.number replies) ∙ told_long old.view.number replies)) in
      let few : length replies ≤ asked = (let r = h.0.remain in few_replies steps asked answer (omega (arith, r)) some) in
      record {
        pass = record {
          aboard = h.1.aboard;
          number_is = e.number ∙ pass.number_is;
          idle = subst (λ a. IsIdle (a + granted_steps steps answer) new.view.actor) pass.idle.stands h.1.idle;
          made = long ∙ ap (λ n. n + length replies) pass.made;
          room = subst (λ (S : Setup). entries + length replies ≤ S.calls) (sym made) (let was = pass.made in omega (arith, few, room, was));
          few_calls = subst (λ (S : Setup). S.calls < 2 ^ 32) (sym made) pass.few_calls;
          legal = subst (λ (S : Setup). IsLegalHistory S new.view.seen) (sym made) e.legal;
          slots = h.1.slots ∙ pass.slots;
        };
        named = subst (λ (S : Setup). train < trains (offer S.tables 0).table) (sym made) driver.named;
      }

  -- what contracts see of it
  pub asks_asked : (asked : ℕ) (attempt : Attempt) → 1 ≤ asked → length old.view.mine + asked ≤ old.view.setup.calls → Asks id asked old attempt new
      → Attempted asked (pass_of id old.view) attempt (pass_of id new.view)
  asks_asked asked (Told answer steps ticket) some room h = h.0
  asks_asked asked (Busy zone holder) some room t =
      let T : Table = (offer old.view.setup.tables t.table).table in
      record {
        earlier = t.earlier;
        glanced = t.table;
        tries = t.tries;
        another = λ same. t.another.1 (ap suc same);
        pass = t.another.2;
        listed = t.listed;
        needed = subst (λ (c : Claim). has zone (zones_of old.view.setup.layout T c) ≡ true) (same_claim (pass_of id old.view) asked asked (omega (arith, some, room)) (omega (arith, room)) T) t.needed;
        rest = ap (λ (m : Seat). pass_of id m.view) t.since.now;
        free = (ap (λ (m : Seat). m.view.actor.held) t.since.now ∙ pass.idle.held, ap (λ (m : Seat). m.view.actor.owed) t.since.now ∙ pass.idle.owed);
      }
