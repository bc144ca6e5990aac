use Rattle.zone_yard.proofs.Prelude.{◌≡◌, ◌*◌, ◌^◌, ◌<◌, ℕ, List, [], length, get_or, replicate, false, refl, sym, ap, ◌∙◌, subst, arith, Offer, offer, Setup, core, most_passes, View, root_view, KeepsRule, Row, AreLeft, spread}
use Rattle.std.proofs.lemmas.List.{map-id, get_or-replicate}
use Rattle.atomic_table.specs.Table.{opening}
use Rattle.rail_model.specs.Table.{IsTable}
use Rattle.rail_model.specs.Yard.{Yard as YardValue}
use Rattle.table_exchange.specs.Tables.{Stands}
use Rattle.plain_yard.proofs.Keeping.{keeps_stands}
use Rattle.zone_machine.specs.Sound.{IsSetup}
use Rattle.zone_machine.specs.Weave.{first_words}
use Rattle.zone_machine.proofs.Opening.{opened}
use Rattle.zone_yard.specs.Aboard.{IsRoot}
use Rattle.zone_yard.proofs.Apart.{spread-length}
use Rattle.zone_yard.proofs.Opens.{opens}
use Rattle.zone_yard.proofs.yard.Yard.resume.Goals.{After-deref}
use Rattle.zone_yard.proofs.yard.Yard.resume.Goals as goal

pub table_words-requires : goal.table_words-requires
table_words-requires c = subst (Stands c.args.tables.now) (sym c.yard.ensures) (keeps_stands c.args.tables.now c.args.state.yard c.args.state.lines c.requires.keeps)

-- what the yard is made with
module _ (c : After-deref) where
  abbrev S : Setup
  S = record { layout = c.args.layout.now; tables = c.args.tables.now; opening = c.args.state; calls = c.args.calls }

  formed : IsSetup (core S)
  formed = record {
    layout = c.zones_of-zones.ensures.formed;
    tables = c.requires.keeps.are;
    formed = subst (λ (ts : List Offer). (t : ℕ) → t < length c.args.tables.now → IsTable (offer ts t).table) (map-id c.args.tables.now) c.look_at_all.ensures;
    on = c.requires.points;
    opening = keeps_stands c.args.tables.now c.args.state.yard c.args.state.lines c.requires.keeps;
  }

  words : c.deref.result.now ≡ spread (first_words (core S))
  words = c.deref.ensures.value ∙ (c.in-Ok.ensures (core S).most
      ∙ ap (λ (y : YardValue). spread (first_words (record { layout = c.args.layout.now; tables = c.args.tables.now; opening = y; most = (core S).most }))) c.yard.ensures)

pub of_words-requires : goal.of_words-requires
of_words-requires c =
    let at = (goal.at.of_words-requires c).After-deref in
    subst (λ (ws : List ℕ). KeepsRule (S at) (opening ws [] (root_view (S at) []))) (sym (words at)) (opens (S at) (formed at) (omega (arith, c.ranges.calls.fits)))

pub invariant_of-result : goal.invariant_of-result
invariant_of-result c =
    let at = (goal.at.invariant_of-result c).After-deref in
    let e = c.in-Ok-of_words.ensures in
    record {
      key_is = e.5;
      words = e.0 ∙ (ap length (words at) ∙ (spread-length (first_words (core (S at))) ∙ ap (λ n. 8 * n) (opened (core (S at)) (formed at)).wide));
      slots = e.1;
      formed = formed at;
      keeps = c.requires.keeps;
      few_calls = omega (arith, c.ranges.calls.fits);
    }

-- the root of a yard that opens
opens_root : (S : Setup) (rows : List Row) (id : ℕ) (v : View) → S.calls < 2 ^ 32 → id ≡ 0 → v ≡ root_view S [] → length rows ≡ most_passes
    → ((p : ℕ) (d : Row) → p < most_passes → (get_or rows p d).items ≡ []) → IsRoot (replicate 33 false) 0 id v × AreLeft v rows
opens_root S rows id v few first is wide empty = subst (λ (x : View). IsRoot (replicate 33 false) 0 id x × AreLeft x rows) (sym is) (
  record {
    first = first;
    wide = refl;
    known = λ p lt. get_or-replicate 33 p false false lt;
    counted = refl;
    out_is = refl;
    few = refl;
    away = λ p actor h. refl;
    legal = tt;
    ashore = λ p actor h. refl;
    few_calls = few;
  },
  record { wide = wide; each = λ p d lt. record { seen = []; begins = ([], refl); own = refl; items = empty p d lt } },
)

pub invariant_of-result-in-Ok-of_words : goal.invariant_of-result-in-Ok-of_words
invariant_of-result-in-Ok-of_words c =
    let e = c.in-Ok-of_words.ensures in
    opens_root (S (goal.at.invariant_of-result-in-Ok-of_words c).After-deref) c.in-Ok-empty_rows.lines.items c.in-Ok-of_words.seat.id c.in-Ok-of_words.seat.me.0 (omega (arith, c.ranges.calls.fits)) e.3
    (ap (λ m. m.0) e.4) c.in-Ok-empty_rows.ensures.wide c.in-Ok-empty_rows.ensures.empty
