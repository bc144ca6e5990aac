use Rattle.zone_yard.proofs.Prelude.{◌≡◌, ℕ, List, [], suc, ◌+◌, ◌<◌, ◌^◌, ◌∷◌, length, get_or, set, Bool, true, false, refl, sym, ap, ◌∙◌, subst, arith, eq-eqb, ne_eqb, get_or-set_other, get_or-set_same, has, Setup, SharedYard, state_after, IsLegalHistory, entries_of, standing, IsPass, AreLeft, AreLines, IsPassNumber, View, pass_view, Seat}
use Rattle.std.proofs.Common.{length-set}
use mathlib.Core.Logic.{dite}
use native.Mathlib.Decide.{ℕ_discrete}
use Rattle.zone_yard.specs.Passes.{Root as RootValue}
use Rattle.zone_yard.specs.Views.{boarding}
use Rattle.zone_yard.proofs.LinesKept.{left_stay, lines_begin}
use Rattle.zone_yard.proofs.Keeps.{has_less}
use Rattle.zone_yard.proofs.Roots.{many_few, many_set, fresh}
use Rattle.zone_yard.proofs.passes.seat_of.Goals as goal

not_true : (b : Bool) → (b ≡ true → ⊥) → b ≡ false
not_true true none = absurd (none refl)
not_true false none = refl

-- the pass hasn't boarded
ashore : (boarded now : List ℕ) (p : ℕ) → boarded ≡ now → (has p now ≡ true → ⊥) → has p boarded ≡ false
ashore boarded now p same none = not_true (has p boarded) (λ e. none (sym (ap (has p) same) ∙ e))

pub overflow_add-root : goal.overflow_add-root
overflow_add-root c =
    let r = c.root.invariant.0 in
    let few = many_few c.root.inside.boarded in
    omega (arith, r.few, r.counted)

pub invariant_of-root : goal.invariant_of-root
invariant_of-root c =
    let r = c.root.invariant.0 in
    let v : View = c.root.inside.seat.me.view in
    let t : ℕ = c.args.number in
    let flags : List Bool = c.root.inside.boarded in
    let me : c.board_seat-seat.new.root.me.view ≡ boarding c.args.number c.root.inside.seat.me.view = ap (λ (m : Seat). m.view) c.board_seat-seat.ensures.root.2 in
    let wide = r.wide in
    let small = c.requires.pass.1 in
    let low : c.args.number < length c.root.inside.boarded = omega arith in
    let off = r.known t small ∙ ashore v.boarded c.args.root.now.boarded t (ap (λ (x : RootValue). x.boarded) c.root.view_is) c.requires.ashore in
    let boarded : c.board_seat-seat.new.root.me.view.boarded ≡ t ∷ v.boarded = ap (λ (x : View). x.boarded) me in
    let out : c.board_seat-seat.new.root.me.view.out ≡ v.out + 1 = ap (λ (x : View). x.out) me in
    let done : length c.board_seat-seat.new.root.me.view.done ≡ length v.done = ap (λ (x : View). length x.done) me in
    let many' = many_set flags t low off in
    let few = r.few in
    let counted = r.counted in
    let out_is = r.out_is in
    let long : length c.board_seat-seat.new.root.me.view.boarded ≡ suc (length v.boarded) = ap length boarded in (
      record {
        first = c.board_seat-seat.ensures.root.1 ∙ r.first;
        wide = length-set flags t true ∙ r.wide;
        known = λ p lt. dite (ℕ_discrete p t)
            (λ e. rw (boarded, eq-eqb p t e) (ap (λ k. get_or (set flags t true) k false) e ∙ get_or-set_same flags t true false low))
            (λ ne. rw (boarded, ne_eqb p t ne) (get_or-set_other flags t p true false ne ∙ r.known p lt));
        counted = long ∙ (ap suc counted ∙ sym many');
        out_is = omega arith;
        few = omega arith;
        away = subst (λ (x : View). (p : ℕ) → IsPassNumber x.setup p → has p x.boarded ≡ false → entries_of p x.seen ≡ []) (sym me)
            (λ p actor h. r.away p actor (has_less p t v.boarded h));
        legal = subst (λ (x : View). IsLegalHistory x.setup x.seen) (sym me) r.legal;
        few_calls = subst (λ (x : View). x.setup.calls < 2 ^ 32) (sym me) r.few_calls;
        ashore = λ p is e. subst (λ (x : View). standing (state_after x.setup x.seen) p ≡ standing x.setup.opening.yard p) (sym me) (r.ashore p (subst (λ (x : View). IsPassNumber x.setup p) me is) (has_less p t v.boarded (sym (ap (has p) boarded) ∙ e)));
      },
      subst (λ (x : View). AreLeft x c.root.inside.lines.items) (sym me) (left_stay v (boarding t v) c.root.inside.lines.items refl refl refl c.root.invariant.1),
    )

pub returns-clause-fresh : goal.returns-clause-fresh
returns-clause-fresh c =
    let stands = ap (λ (x : RootValue). standing x.yard.setup.opening.yard c.args.number) c.root.view_is in
    subst (λ (x : ℕ × Seat). IsPass c.args.number x.0 0 x.1) (λ i. (stands i, sym c.board_seat-seat.ensures.seat.1 i))
    (fresh c.root.inside.seat.me.view c.args.number c.root.invariant.0.few_calls c.root.invariant.0.legal)

pub returns-clause-lines : goal.returns-clause-lines
returns-clause-lines c = λ l none room.
    let v : View = c.root.inside.seat.me.view in
    let me : c.board_seat-seat.result.me.view ≡ pass_view c.args.number v = ap (λ (m : Seat). m.view) c.board_seat-seat.ensures.seat.1 in
    let made : v.setup ≡ c.args.yard.now.setup = ap (λ (x : RootValue). x.yard.setup) c.root.view_is ∙ ap (λ (y : SharedYard). y.setup) c.requires.ours in
    let actor = subst (λ (S : Setup). IsPassNumber S c.args.number) (sym made) c.requires.pass.0 in
    let none_yet = ashore v.boarded c.args.root.now.boarded c.args.number (ap (λ (x : RootValue). x.boarded) c.root.view_is) c.requires.ashore in
    subst (λ (x : View). AreLines x l) (sym me) (lines_begin v c.args.number l none room (c.root.invariant.0.away c.args.number actor none_yet))
