use Rattle.zone_yard.proofs.Prelude.{◌≡◌, ◌++◌, ◌<◌, ℕ, List, Ok, sym, ap, ◌∙◌, subst, Line, journal_of, Row, Setup, SharedYard, most_passes, Root, entries_of, done_of, View}
use Rattle.std.proofs.Common.{Err}
use Rattle.std.specs.Prelude.{Result, IfOk}
use Rattle.ticket_lines.specs.Merging.{AreRows}
use Rattle.zone_yard.proofs.Closed.{rows_are}
use Rattle.zone_yard.proofs.closing.all_lines.Goals as goal

if_ok : {A E : Type 0} (P Q : A → Type 0) (r : Result A E) → ((a : A) → P a → Q a) → IfOk r P → IfOk r Q
if_ok P Q (Ok a) f h = f a h
if_ok P Q (Err e) f h = tt

pub returns-clause-lines : goal.returns-clause-lines
returns-clause-lines c =
    let v : View = c.root.inside.seat.me.view in
    let L = c.look.ensures.looks in
    let nobody : v.out ≡ 0 = ap (λ (x : Root). x.out) c.root.view_is ∙ c.requires.nobody in
    let passes : (p : ℕ) → p < most_passes → entries_of p v.seen ≡ done_of p v.done = λ p lt. ap (entries_of p) (L.whole nobody) ∙ L.passes nobody p lt in
    let rows : AreRows c.root.inside.lines.items (record { tables = v.setup.tables; opening = v.setup.opening.yard; history = v.seen }) =
    rows_are v c.root.inside.lines.items L.formed c.root.invariant.0.legal c.root.invariant.1 passes in
    let made : c.yard.inside.key ≡ v.setup =
    ap (λ (y : SharedYard). y.setup) (c.yard.view_is ∙ sym c.requires.ours) ∙ sym (ap (λ (x : Root). x.yard.setup) c.root.view_is) in
    let first : c.lines.result.now ≡ v.setup.opening.lines = c.lines.ensures ∙ ((λ i. (c.yard-inside.view_is i).key.opening.lines) ∙ ap (λ (S : Setup). S.opening.lines) made) in
    if_ok _ _ c.merged.result
    (λ lines h. h (record { tables = v.setup.tables; opening = v.setup.opening.yard; history = v.seen })
    (subst (λ (l : List Row). AreRows l (record { tables = v.setup.tables; opening = v.setup.opening.yard; history = v.seen })) (sym c.deref.ensures.value) rows)
    ∙ (ap (λ (l : List Line). l ++ journal_of v.setup.tables v.setup.opening.yard v.seen) first
    ∙ ap (λ (x : Root). x.yard.setup.opening.lines ++ journal_of x.yard.setup.tables x.yard.setup.opening.yard x.seen) c.root.view_is))
    c.merged.ensures
