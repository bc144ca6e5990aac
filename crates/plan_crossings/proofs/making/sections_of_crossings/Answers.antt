use Rattle.std.proofs.Common.{◌≡◌, ◌∙◌, sym, ap, subst, refl, ◌++◌, ◌-◌, List, [], All, map, take, arith}
use Rattle.std.proofs.lemmas.List.{get_or_read, length-append, length-map, map-append, take_all}
use Rattle.std.proofs.lemmas.List.Elements.{All-append}
use Rattle.plan_crossings.specs.Answer.{crossing_of}
use Rattle.plan_crossings.specs.Crossings.{Crossing}
use Rattle.plan_crossings.specs.Sections.{WaySection, IsExact, IsExactFor, IsSized, seen_section}
use Rattle.plan_crossings.proofs.Joined.{exact-next}
use Rattle.plan_crossings.proofs.making.sections_of_crossings.Goals as goal

pub returns-in-Err-clause-refused : goal.returns-in-Err-clause-refused
returns-in-Err-clause-refused c = c.in-Err.ensures.err (64 - c.args.others)

pub returns-in-Err-Many-clause-refused : goal.returns-in-Err-Many-clause-refused
returns-in-Err-Many-clause-refused c =
    let routes = c.args.routes.now in
    let found = map seen_section c.loop-index.found.items in
    let read : c.index-crossings-index.result ≡ crossing_of c.args.crossings.now c.loop-index.index =
    get_or_read c.args.crossings.now c.loop-index.index c.index-crossings-index.result (omega arith) c.index-crossings-index.is
    (record { ways = []; parallel = [] }) in
    let many = rw c.in-Err-Many.field-0-is at c.in-Err-Many.ensures.err in
    let more : List WaySection = many.1.0 in
    record {
      sound = c.in_default.ensures.ok;
      many = omega (arith, many.0, c.saturating_add.ensures, c.ranges.others.fits);
      would_do = (
        found ++ more,
        omega (arith, c.saturating_add.ensures, many.1.1, length-append found more, length-map c.loop-index.found.items seen_section),
        exact-next c.args.crossings.now routes c.loop-index.index found more (found ++ more) (omega arith) c.loop-index.invariant.exact
            (subst (λ (x : Crossing). IsExactFor x routes more) read many.1.2) refl,
      );
    }

pub returns-then-len-room-clause-refused : goal.returns-then-len-room-clause-refused
returns-then-len-room-clause-refused c =
    let routes = c.args.routes.now in
    let found = map seen_section c.loop-index.found.items in
    let made = map seen_section c.in-Ok.made.items in
    let read : c.index-crossings-index.result ≡ crossing_of c.args.crossings.now c.loop-index.index =
    get_or_read c.args.crossings.now c.loop-index.index c.index-crossings-index.result (omega arith) c.index-crossings-index.is
    (record { ways = []; parallel = [] }) in
    let joined : map seen_section c.append.new.self.items ≡ found ++ made =
    ap (map seen_section) c.in_ok-append.ensures.items ∙ map-append seen_section c.loop-index.found.items c.in-Ok.made.items in
    record {
      sound = c.in_default.ensures.ok;
      many = omega arith;
      would_do = (
        map seen_section c.append.new.self.items,
        omega (arith, length-map c.append.new.self.items seen_section),
        exact-next c.args.crossings.now routes c.loop-index.index found made (map seen_section c.append.new.self.items) (omega arith)
            c.loop-index.invariant.exact (subst (λ (x : Crossing). IsExactFor x routes made) read c.in-Ok.ensures.exact) joined,
      );
    }

pub loop-index-preserved : goal.loop-index-preserved
loop-index-preserved c =
    let routes = c.args.routes.now in
    let found = map seen_section c.loop-index.found.items in
    let made = map seen_section c.in-Ok.made.items in
    let read : c.index-crossings-index.result ≡ crossing_of c.args.crossings.now c.loop-index.index =
    get_or_read c.args.crossings.now c.loop-index.index c.index-crossings-index.result (omega arith) c.index-crossings-index.is
    (record { ways = []; parallel = [] }) in
    let joined : map seen_section c.append.new.self.items ≡ found ++ made =
    ap (map seen_section) c.in_ok-append.ensures.items ∙ map-append seen_section c.loop-index.found.items c.in-Ok.made.items in
    record {
      exact = exact-next c.args.crossings.now routes c.loop-index.index found made (map seen_section c.append.new.self.items) (omega arith)
          c.loop-index.invariant.exact (subst (λ (x : Crossing). IsExactFor x routes made) read c.in-Ok.ensures.exact) joined;
      few = omega arith;
      sized = subst (All (IsSized routes)) (sym joined)
          (All-append (IsSized routes) found made c.loop-index.invariant.sized c.in-Ok.ensures.sized);
    }

pub returns-clause-exact : goal.returns-clause-exact
returns-clause-exact c =
    let all : take c.loop-index.index c.args.crossings.now ≡ c.args.crossings.now =
    take_all c.loop-index.index c.args.crossings.now (omega arith) in
    subst (λ (cs : List Crossing). IsExact cs c.args.routes.now (map seen_section c.loop-index.found.items)) all
    c.loop-index.invariant.exact
