use Rattle.zone_yard.proofs.Prelude.{◌≡◌, ◌<◌, ◌≤◌, ◌^◌, ℕ, suc, [], false, ⊎_elim, List, ◌∷◌, ◌+◌, ◌-◌, length, sym, ap, ◌∙◌, subst, arith, Entry, Setup, SharedYard, core, most_passes, IsLegalHistory, Root, StartsWith, entries_of, Seat, View, pass_of, trains, offer, control, has}
use Rattle.std.proofs.Common.{All}
use Rattle.std.proofs.lemmas.List.Elements.{All-head, All-tail}
use Rattle.zone_yard.specs.Passes.{IsAshore}
use Rattle.zone_yard.specs.Views.{root_of, leaving, looked}
use Rattle.zone_yard.specs.Boarding.{TakesBack}
use Rattle.zone_machine.specs.Sound.{IsActor}
use Rattle.zone_yard.proofs.LinesKept.{left_more}
use Rattle.zone_yard.proofs.passes.take_back.Goals as goal

pub returns : goal.returns
returns c =
    let v : View = c.root.inside.seat.me.view in
    let w : View = c.args.seat.me.view in
    let joined : c.join.new.root.me.view ≡ leaving v w = ap (λ (m : Seat). m.view) c.join.ensures.root.2 in
    let L = c.look.ensures.looks in
    let H : List Entry = L.history in
    let new : View = c.look.new.root.me.view in
    let me : c.look.new.root.me.view ≡ looked H (leaving v w) = ap (λ (m : Seat). m.view) L.now ∙ ap (looked H) joined in
    let seen : new.seen ≡ H = ap (λ (x : View). x.seen) me in
    let all : All (StartsWith H) (v.seen ∷ w.seen ∷ v.joined) = subst (λ (x : View). All (StartsWith H) x.joined) joined L.joined in
    let now : (leaving v w).out + length (leaving v w).done ≡ length (leaving v w).boarded = subst (λ (x : View). x.out + length x.done ≡ length x.boarded) joined L.left in
    let was = c.root.invariant.0.few in let same = c.root.invariant.0.out_is in
    let out : new.out ≡ v.out - 1 = ap (λ (x : View). x.out) me in
    let id : c.look.new.root.table_id ≡ c.root.inside.seat.table_id = c.look.ensures.root.0 ∙ c.join.ensures.root.0 in
    let made : new.setup ≡ v.setup = ap (λ (x : View). x.setup) me in
    subst (λ (r : Root). TakesBack r (pass_of c.args.seat.table_id w) (root_of c.look.new.root.table_id new)) c.root.view_is record {
      out = omega arith;
      done = ap (λ (x : View). x.done) me;
      boarded = ap (λ (x : View). x.boarded) me;
      yard = λ i. record { id = id i; setup = made i };
      legal = subst (IsLegalHistory v.setup) (sym seen) (subst (λ (x : View). IsLegalHistory x.setup H) joined L.legal);
      own = subst (λ l. StartsWith l v.seen) (sym seen) (All-head (StartsWith H) v.seen (w.seen ∷ v.joined) all);
      theirs = subst (λ l. StartsWith l w.seen) (sym seen) (All-head (StartsWith H) w.seen v.joined (All-tail (StartsWith H) v.seen (w.seen ∷ v.joined) all));
    }

pub invariant_of-root : goal.invariant_of-root
invariant_of-root c =
    let v : View = c.root.inside.seat.me.view in
    let w : View = c.args.seat.me.view in
    let r = c.root.invariant.0 in
    let joined : c.join.new.root.me.view ≡ leaving v w = ap (λ (m : Seat). m.view) c.join.ensures.root.2 in
    let L = c.look.ensures.looks in
    let H : List Entry = L.history in
    let new : View = c.look.new.root.me.view in
    let me : c.look.new.root.me.view ≡ looked H (leaving v w) = ap (λ (m : Seat). m.view) L.now ∙ ap (looked H) joined in
    let seen : new.seen ≡ H = ap (λ (x : View). x.seen) me in
    let all : All (StartsWith H) (v.seen ∷ w.seen ∷ v.joined) = subst (λ (x : View). All (StartsWith H) x.joined) joined L.joined in
    let now : (leaving v w).out + length (leaving v w).done ≡ length (leaving v w).boarded = subst (λ (x : View). x.out + length x.done ≡ length x.boarded) joined L.left in
    let was = r.few in
    let same = r.out_is in
    let boarded : new.boarded ≡ v.boarded = ap (λ (x : View). x.boarded) me in
    let out : new.out ≡ v.out - 1 = ap (λ (x : View). x.out) me in
    let done : length new.done ≡ suc (length v.done) = ap (λ (x : View). length x.done) me in
    let long : length new.boarded ≡ length v.boarded = ap length boarded in
    let made : new.setup ≡ v.setup = ap (λ (x : View). x.setup) me in
    let ours : w.setup ≡ v.setup = c.requires.seat.0.1 ∙ (sym (ap (λ (y : SharedYard). y.setup) c.requires.root) ∙ sym (ap (λ (x : Root). x.yard.setup) c.root.view_is)) in
    let few = (L.formed.formed 0 L.formed.tables.some).few_trains in
    let setup : c.join.new.root.me.view.setup ≡ v.setup = ap (λ (x : View). x.setup) joined in
    let trains_few : trains (offer c.args.yard.now.setup.tables 0).table ≤ 32 = subst (λ (S : Setup). trains (offer S.tables 0).table ≤ 32) (setup ∙ (sym ours ∙ c.requires.seat.0.1)) few in
    let low : c.args.number < most_passes = ⊎_elim (λ (lt : c.args.number < trains (offer c.args.yard.now.setup.tables 0).table). omega arith) (λ (e : c.args.number ≡ control). omega arith) c.requires.number.1 in (
      record {
        first = c.look.ensures.root.1 ∙ (c.join.ensures.root.1 ∙ r.first);
        wide = r.wide;
        known = λ p lt. r.known p lt ∙ ap (has p) (sym boarded);
        counted = long ∙ r.counted;
        out_is = omega arith;
        few = omega arith;
        away = subst (λ (x : View). (p : ℕ) → IsActor (core x.setup) p → has p x.boarded ≡ false → entries_of p x.seen ≡ []) (sym (ap (λ (m : Seat). m.view) L.now)) L.away;
        legal = subst (λ (l : List Entry). IsLegalHistory new.setup l) (sym seen) (subst (λ (S : Setup). IsLegalHistory S H) (setup ∙ sym made) L.legal);
        ashore = subst (λ (x : View). IsAshore x.setup x.boarded x.seen) (sym (ap (λ (m : Seat). m.view) L.now)) L.ashore;
        few_calls = subst (λ (S : Setup). S.calls < 2 ^ 32) (sym made) r.few_calls;
      },
      left_more v w new c.root.inside.lines.items c.args.number c.into_lines.result c.args.receipts c.root.invariant.1 c.requires.lines c.requires.number.0 low ours made
          (ap (λ (x : View). x.done) me)
          (subst (λ l. StartsWith l v.seen) (sym seen) (All-head (StartsWith H) v.seen (w.seen ∷ v.joined) all))
          (subst (λ l. StartsWith l w.seen) (sym seen) (All-head (StartsWith H) w.seen v.joined (All-tail (StartsWith H) v.seen (w.seen ∷ v.joined) all)))
          c.into_lines.ensures,
    )
