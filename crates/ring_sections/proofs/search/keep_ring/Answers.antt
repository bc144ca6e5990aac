use Rattle.std.proofs.Common.{◌≡◌, ◌<◌, ◌++◌, List, [], ◌∷◌, length, length-append, append-nil, ap, ◌∙◌, subst, sym, refl, inr, arith, rules, true, false}
use Rattle.ring_sections.specs.Ring.{Pair, IsRing, is_ring}
use Rattle.ring_sections.specs.Search.{own_ring}
use Rattle.std.proofs.lemmas.Bool.{false_from_ne_true}
use Rattle.rail_model.specs.Table.{Mission}
use Rattle.ring_sections.proofs.RingTests.{Decides-ring}
use Rattle.ring_sections.proofs.search.keep_ring.Goals as goal

own_yes : (M : List Mission) (r : List Pair) → IsRing M r → own_ring M r ≡ r ∷ []
own_yes M r ring = let e : is_ring M r ≡ true = (Decides-ring M r).1 ring in rw e refl

own_no : (M : List Mission) (r : List Pair) → (IsRing M r → ⊥) → own_ring M r ≡ []
own_no M r none = let e : is_ring M r ≡ false = false_from_ne_true (is_ring M r) (λ e. none ((Decides-ring M r).0 e)) in rw e refl

pub returns-then-not-is_ring : goal.returns-then-not-is_ring
returns-then-not-is_ring c =
    let none : own_ring c.args.missions.now c.args.way.now ≡ [] =
    own_no c.args.missions.now c.args.way.now (λ ring. let t = c.is_ring.ensures.1 ring in let f = c.if-not-is_ring.true in cc) in
    (sym (ap (λ added. c.args.found.now.items ++ added) none ∙ append-nil c.args.found.now.items), c.requires.few)

pub returns-then-len-eq-MOST_RINGS : goal.returns-then-len-eq-MOST_RINGS
returns-then-len-eq-MOST_RINGS c =
    let ring : IsRing c.args.missions.now c.args.way.now = search rules in
    let n : length c.args.found.now.items ≡ 64 = search rules in
    inr (
      refl,
      subst (λ (added : List (List Pair)). 64 < length (c.args.found.now.items ++ added)) (sym (own_yes c.args.missions.now c.args.way.now ring))
          (omega (arith, length-append c.args.found.now.items (c.args.way.now ∷ []))),
    )

pub returns : goal.returns
returns c =
    let ring : IsRing c.args.missions.now c.args.way.now = search rules in
    let other : length c.args.found.now.items < 64 = search rules in
    let pushed : c.push.new.self.items ≡ c.args.found.now.items ++ c.args.way.now ∷ [] =
    c.in_ok-push.ensures.items ∙ ap (λ (r : List Pair). c.args.found.now.items ++ r ∷ []) (c.from.ensures ∙ c.in_ok-pairs.ensures.items) in (
      pushed ∙ ap (λ added. c.args.found.now.items ++ added) (sym (own_yes c.args.missions.now c.args.way.now ring)),
      omega (arith, ap length pushed, length-append c.args.found.now.items (c.args.way.now ∷ [])),
    )
