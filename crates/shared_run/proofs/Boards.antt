-- Passes board one after the other.
use Rattle.std.proofs.Common.{◌≡◌, ◌≢◌, ◌<◌, ◌+◌, ◌%◌, ◌==◌, ℕ, List, [], ◌∷◌, ◌++◌, refl, length, map, true, false, cond, sym, ap, ◌∙◌, subst, arith, eq-eqb, ne_eqb}
use Rattle.std.specs.Prelude.{Ok, filter}
use Rattle.std.specs.List.{All}
use Rattle.std.proofs.lemmas.List.{length-append, map-append, map-id, append-nil}
use Rattle.std.proofs.lemmas.List.Elements.{All-nil, All-cons, All-append, filter-append}
use Rattle.std.proofs.lemmas.List.FromFn.{map-range_with_len_more}
use Rattle.rail_model.specs.Checks.{below}
use Rattle.zone_yard.specs.Setup.{most_passes}
use Rattle.zone_yard.specs.Passes.{Pass, Root}
use Rattle.zone_yard.specs.Boarding.{Boards, boarded_pass, with_pass}
use Rattle.shared_run.specs.Boarding.{onto, AreOnce, numbers, IsFresh, HaveBoarded}
use Rattle.shared_run.specs.Crews.{dealt}
use Rattle.shared_run.proofs.Lists.{onto_append}

pub none_boarded : (old : Root) → HaveBoarded old [] old
none_boarded old = record {
  now = λ i. record old { out = let e : old.out ≡ old.out + 0 = omega arith in e i };
  once = λ o. o;
  each = All-nil _;
}

one_boarded : (old new : Root) (p : ℕ) (pass : Pass) → (new ≡ with_pass old p) → pass ≡ boarded_pass old p → p < most_passes
    → (AreOnce old.boarded → AreOnce (p ∷ old.boarded)) → HaveBoarded old (pass ∷ []) new
one_boarded old new p pass now is low once =
    subst (λ (x : Pass). HaveBoarded old (x ∷ []) new) (sym is) (record {
      now = now;
      once = λ o. subst (λ (r : Root). AreOnce r.boarded) (sym now) (once o);
      each = All-cons (IsFresh old.yard) (boarded_pass old p) [] (refl, low, refl) (All-nil _);
    })

-- one board more
boards_one : (old new : Root) (p : ℕ) (pass : Pass) → Boards old p (Ok pass) new → p < most_passes → HaveBoarded old (pass ∷ []) new
boards_one old new p pass boards low = one_boarded old new p pass boards.2 boards.1 low (λ o. (boards.0, o))

pub then_boarded : (a b c : Root) (xs ys : List Pass) → HaveBoarded a xs b → HaveBoarded b ys c → HaveBoarded a (xs ++ ys) c
then_boarded a b c xs ys one two = record {
  now = two.now ∙ ap (λ (r : Root). record r { boarded = onto (numbers ys) r.boarded; out = r.out + length ys }) one.now ∙ joined;
  once = λ o. two.once (one.once o);
  each = All-append (IsFresh a.yard) xs ys one.each (subst (λ y. All (IsFresh y) ys) (ap (λ (r : Root). r.yard) one.now) two.each);
}
  where
    joined : record a { boarded = onto (numbers ys) (onto (numbers xs) a.boarded); out = (a.out + length xs) + length ys }
        ≡ record a { boarded = onto (numbers (xs ++ ys)) a.boarded; out = a.out + length (xs ++ ys) }
    joined = λ i. record a {
      boarded = (sym (onto_append (numbers xs) (numbers ys) a.boarded) ∙ ap (λ ns. onto ns a.boarded) (sym (map-append (λ (p : Pass). p.number) xs ys))) i;
      out = (let long = length-append xs ys in let e : (a.out + length xs) + length ys ≡ a.out + length (xs ++ ys) = omega (arith, long) in e) i;
    }

-- what boards later is the same pass as before
pub same_pass : (old new : Root) (passes : List Pass) (p : ℕ) → HaveBoarded old passes new → boarded_pass new p ≡ boarded_pass old p
same_pass old new passes p boarded = ap (λ (r : Root). boarded_pass r p) boarded.now

below_more : (n : ℕ) → below (n + 1) ≡ below n ++ n ∷ []
below_more n =
    sym (map-id (below (n + 1))) ∙ map-range_with_len_more (λ i. i) 0 n n (omega arith) ∙ ap (λ is. is ++ n ∷ []) (map-id (below n))

-- the trains of a worker among one more
dealt_more : (n workers g : ℕ) → dealt (n + 1) workers g ≡ dealt n workers g ++ cond (n % workers == g) (n ∷ []) []
dealt_more n workers g = ap (filter (λ i. i % workers == g)) (below_more n) ∙ filter-append (λ i. i % workers == g) (below n) (n ∷ [])

deals_one : (n workers g : ℕ) → (n % workers == g) ≡ true → dealt (n + 1) workers g ≡ dealt n workers g ++ n ∷ []
deals_one n workers g is = dealt_more n workers g ∙ ap (λ b. dealt n workers g ++ cond b (n ∷ []) []) is

deals_none : (n workers g : ℕ) → (n % workers == g) ≡ false → dealt (n + 1) workers g ≡ dealt n workers g
deals_none n workers g is = dealt_more n workers g ∙ ap (λ b. dealt n workers g ++ cond b (n ∷ []) []) is ∙ append-nil (dealt n workers g)

-- one pass more boards in the same way
boards_more : (old now : Root) (drivers : List Pass) (ps : List ℕ) (p : ℕ) (pass : Pass) → HaveBoarded old drivers now
    → drivers ≡ map (boarded_pass old) ps → pass ≡ boarded_pass now p → drivers ++ pass ∷ [] ≡ map (boarded_pass old) (ps ++ p ∷ [])
boards_more old now drivers ps p pass boarded are is =
    ap (λ ds. ds ++ pass ∷ []) are
    ∙ ap (λ x. map (boarded_pass old) ps ++ x ∷ []) (is ∙ same_pass old now drivers p boarded)
    ∙ sym (map-append (boarded_pass old) ps (p ∷ []))

-- What a worker's loop over the trains keeps, n of which it has gone over.
pub record Deals (old : Root) (n workers g : ℕ) (drivers : List Pass) (now : Root) : Type 0 where
  pub boarded : HaveBoarded old drivers now
  pub dealt : drivers ≡ map (boarded_pass old) (dealt n workers g)

pub deals_more : (old now new : Root) (drivers items : List Pass) (n workers g : ℕ) (pass : Pass) → Deals old n workers g drivers now → n % workers ≡ g
    → Boards now n (Ok pass) new → n < 32 → items ≡ drivers ++ pass ∷ [] → Deals old (n + 1) workers g items new
deals_more old now new drivers items n workers g pass deals is boards low items_are =
    subst (λ ds. Deals old (n + 1) workers g ds new) (sym items_are) (record {
      boarded = then_boarded old now new drivers (pass ∷ []) deals.boarded (boards_one now new n pass boards (omega (arith, low)));
      dealt = boards_more old now drivers (dealt n workers g) n pass deals.boarded deals.dealt boards.1
          ∙ ap (map (boarded_pass old)) (sym (deals_one n workers g (eq-eqb (n % workers) g is)));
    })

pub deals_on : (old now : Root) (drivers : List Pass) (n workers g : ℕ) → Deals old n workers g drivers now → n % workers ≢ g → Deals old (n + 1) workers g drivers now
deals_on old now drivers n workers g deals is =
    record { boarded = deals.boarded; dealt = deals.dealt ∙ ap (map (boarded_pass old)) (sym (deals_none n workers g (ne_eqb (n % workers) g is))) }
