-- What a driver's append that is allowed says of its actor, and the world that it leaves.
use Rattle.zone_machine.proofs.Prelude.{◌≡◌, ℕ, zero, suc, ◌+◌, ◌<◌, ◌≤◌, ◌==◌, nat_lt, List, ◌++◌, length, get_or, replicate, Bool, false, true≢false, cond, Some, None, refl, sym, ap, ◌∙◌, subst, arith, ltb-false, ne_eqb, length-append, ◌||◌, or_parts, Yes, Driver, Entry, control, then_some-none, Cell, number_of, number_in, Footprint, claim_of, footprint_of, Block, Setup, Actor, World, actor, trains_of, yard_after, table_of, zones, block_entries, known_table, own_claim, answer, driver_after, checks, refusal, room_for, after_driver, Sound, IsSetup, Is, CoreValue, IsCore}
use Rattle.std.proofs.Common.{set}
use Rattle.std.proofs.lemmas.List.{length-replicate}
use Rattle.std.proofs.lemmas.Bool.Decides.{Decides-eqb}
use Rattle.rail_model.specs.declared.types.BlockAsk.{BlockAsk}
use Rattle.rail_model.specs.declared.types.BlockAsk.TheVariants as block
use Rattle.move_claim.specs.Deciding.{decided}
use Rattle.zone_machine.specs.declared.steps.NotAllowed.TheVariants as no
use Rattle.zone_machine.specs.Entered.{driver_told}
use Rattle.zone_machine.proofs.Acting.{in_place, passed, there, is_row, allowed_here}
use Rattle.zone_machine.proofs.Allowed.{Passes, asked, is_aboard_at}
use Rattle.zone_machine.proofs.InForce.{stands, in_range as known_in}
use Rattle.zone_machine.proofs.Refusing.{is_driver}

-- What the code asks of a driver that adds the entries of n steps.
pub record Enters (S : Setup) (w : World) (p n : ℕ) (a : Actor) : Type 0 where
  pub driver : (p == control) ≡ false
  pub train : p < trains_of S
  pub few : n ≤ 4
  pub table : known_table a < length S.tables
  pub small : (d : Cell) (m : ℕ) → number_of d a.known ≡ Some m → m < 2147483648
  pub room : length w.history + cond ((own_claim S p a n).steps == 0) 1 (own_claim S p a n).steps ≤ S.most
  pub place : a.position + (own_claim S p a n).steps < 4294967296

module _ (S : Setup) (w : World) (p n : ℕ) (ok : IsSetup S) (s : Sound S w) (allowed : refusal S p w (Block n) ≡ None) where
  abbrev own : Actor
  own = actor w p

  at : Is w p own
  at = there S w p (Block n) allowed

  none : Passes (checks S p w own (Block n))
  none = passed S w p (Block n) allowed

  differ : (p == control) ≡ false
  differ = then_some-none (p == control) (no.Actor p) none.0

  size : ((n == 0) ≡ false) × (nat_lt 4 n ≡ false)
  size = or_parts (n == 0) (nat_lt 4 n) (then_some-none ((n == 0) || nat_lt 4 n) (no.Steps n) none.1.0)

  low : p < trains_of S
  low = is_driver S p (s.present p own at (λ left. absurd (cc (sym (is_aboard_at own.stage (in_place S w p (Block n) allowed)) ∙ left)))) (λ e. true≢false (sym ((Decides-eqb p control).1 e) ∙ differ))

  in_range : known_table own < length S.tables
  in_range = let h = asked S w p own n none.1.1 in known_in S w ok s p own at h.0 h.1

  room : length w.history + cond ((own_claim S p own n).steps == 0) 1 (own_claim S p own n).steps ≤ S.most
  room =
      let le = ltb-false S.most (length w.history + room_for S p own n) (then_some-none (nat_lt S.most (length w.history + room_for S p own n)) (no.Full S.most) none.1.1.1.1.1.1.1.0) in
      subst (λ (b : Bool). length w.history + cond b 1 (cond ((own_claim S p own n).steps == 0) 1 (own_claim S p own n).steps) ≤ S.most) differ le

  small_place : own.position + (own_claim S p own n).steps < 4294967296
  small_place =
      let yard = stands S w ok s in
      let table = ok.formed (yard_after S w.history).table yard.in_range in
      let same = ok.tables.same (yard_after S w.history).table yard.in_range in
      let lt = low in
      let within = yard.legal.in_range p (omega arith) in
      let short = (table.missions p (omega arith)).few_places in
      let here = s.places p own at low in
      let few = ltb-false 4 n size.1 in
      omega arith

  pub enters : Enters S w p n own
  enters = record {
    driver = differ;
    train = low;
    few = ltb-false 4 n size.1;
    table = in_range;
    small = λ c m k. s.known_small p own c m at k;
    room = room;
    place = small_place;
  }

-- the same of the row that was found
pub enters_at : (v now : CoreValue) (p n : ℕ) (core : IsCore v) (is : v ≡ now) (allowed : refusal now.setup p now.world (Block n) ≡ None)
    (d a : Actor) → d ≡ get_or v.world.actors p d → a ≡ d → Enters v.setup v.world p n a
enters_at v now p n core is allowed d a found same =
    subst (Enters v.setup v.world p n) (is_row v now p (Block n) core is allowed d a found same)
    (enters v.setup v.world p n core.made core.sound (allowed_here v now p (Block n) core is allowed))

-- the entries of a block are few enough
at_least : (n : ℕ) → (1 ≤ cond (n == 0) 1 n) × (n ≤ cond (n == 0) 1 n)
at_least zero = (omega arith, omega arith)
at_least (suc n) = let e : (suc n == 0) ≡ false = ne_eqb (suc n) 0 (λ h. omega arith) in (rw e (omega arith), rw e (omega arith))

entries_fit : (p n : ℕ) (r : BlockAsk) → length (block_entries p n r) ≤ cond (n == 0) 1 n
entries_fit p n block.Yes =
    let entry : Entry = record { who = p; reply = Driver Yes } in
    let few = (at_least n).1 in
    let long : length (replicate n entry) ≡ n = length-replicate n entry in
    omega arith
entries_fit p n (block.First x) = (at_least n).0
entries_fit p n (block.NotWhole m x) = (at_least n).0

-- so they fit
pub room_left : (S : Setup) (w : World) (p n : ℕ) (a : Actor) (steps : ℕ) (told : BlockAsk) → Enters S w p n a → steps ≡ (own_claim S p a n).steps
    → length w.history + length (block_entries p steps told) ≤ S.most
room_left S w p n a steps told f same =
    let fit = entries_fit p steps told in
    let e : cond (steps == 0) 1 steps ≡ cond ((own_claim S p a n).steps == 0) 1 (own_claim S p a n).steps = ap (λ (k : ℕ). cond (k == 0) 1 k) same in
    let room = f.room in
    omega arith

-- the footprint of the setup that is the same
pub needs_here : (v now : CoreValue) (is : v ≡ now) (p table position n : ℕ) (f : Footprint)
    → f ≡ footprint_of now.setup.layout (table_of now.setup table) (claim_of (table_of now.setup table) p position n)
    → f ≡ footprint_of v.setup.layout (table_of v.setup table) (claim_of (table_of v.setup table) p position n)
needs_here v now is p table position n f e =
    subst (λ (x : CoreValue). f ≡ footprint_of x.setup.layout (table_of x.setup table) (claim_of (table_of x.setup table) p position n)) (sym is) e

-- what was written is the world after the driver's append
module _ (S : Setup) (w : World) (p n : ℕ) (a : Actor) (table : ℕ) (f : Footprint) (told : BlockAsk)
    (table_is : table ≡ known_table a)
    (f_is : f ≡ footprint_of S.layout (table_of S table) (claim_of (table_of S table) p a.position n))
    (told_is : told ≡ decided f.table f.claim (number_in a.known)) where
  abbrev F : Footprint
  F = footprint_of S.layout (table_of S (known_table a)) (own_claim S p a n)

  same_needs : f ≡ F
  same_needs = f_is ∙ ap (λ t. footprint_of S.layout (table_of S t) (claim_of (table_of S t) p a.position n)) table_is

  pub same_steps : f.claim.steps ≡ (own_claim S p a n).steps
  same_steps = ap (λ (x : Footprint). x.claim.steps) same_needs

  pub same_told : told ≡ answer S p a n
  same_told = told_is ∙ ap (λ (x : Footprint). decided x.table x.claim (number_in a.known)) same_needs

  same_row : (p == control) ≡ false → driver_told f told a ≡ driver_after S p a n
  same_row differ =
      ap (λ (x : Footprint). driver_told x told a) same_needs
      ∙ (ap (λ (r : BlockAsk). driver_told F r a) same_told
      ∙ ap (λ (zs : List ℕ). record (driver_told F (answer S p a n) a) { claimed = zs }) (sym own_zones))
    where
      own_zones : zones S p a (known_table a) n ≡ F.zones
      own_zones = rw differ refl

  pub driver_world : (p == control) ≡ false → (steps word : ℕ) (history : List Entry) (row : Actor) → steps ≡ f.claim.steps → history ≡ w.history ++ block_entries p steps told
      → word ≡ length history → row ≡ driver_told f told a
      → record { words = set w.words 0 word; history = history; actors = set w.actors p row } ≡ after_driver S p w a n
  driver_world differ steps word history row steps_is history_is word_is row_is =
      let N = (own_claim S p a n).steps in
      let entries : block_entries p steps told ≡ block_entries p N (answer S p a n) = ap (λ k. block_entries p k told) (steps_is ∙ same_steps) ∙ ap (block_entries p N) same_told in
      let all : history ≡ w.history ++ block_entries p N (answer S p a n) = history_is ∙ ap (λ es. w.history ++ es) entries in
      let count : word ≡ length w.history + length (block_entries p N (answer S p a n)) = word_is ∙ (ap length all ∙ length-append w.history (block_entries p N (answer S p a n))) in
      let own = row_is ∙ same_row differ in
      λ i. record { words = set w.words 0 (count i); history = all i; actors = set w.actors p (own i) }
