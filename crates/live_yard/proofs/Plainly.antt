-- A session without reports and wants has the same grants.
use Rattle.std.proofs.Common.{◌≡◌, ℕ, ◌+◌, List, [], ◌∷◌, ◌++◌, length, None, refl, ap, subst, ◌∙◌, inl, inr, arith}
use Rattle.std.specs.Prelude.{slice_index, false}
use Rattle.std.proofs.lemmas.List.Elements.{All-append, All-cons, All-nil}
use Rattle.rail_model.specs.declared.types.Tried.{Tried as TriedValue}
use Rattle.rail_model.specs.Yard.{Tries}
use Rattle.live_yard.specs.declared.requests.Reply.{Reply}
use Rattle.live_yard.specs.declared.requests.Reply.TheVariants.{Granted, Tried}
use Rattle.live_yard.specs.declared.requests.Request.{Request}
use Rattle.live_yard.specs.declared.requests.Request.TheVariants.{Ask, Table}
use Rattle.live_yard.specs.declared.requests.Served.{Served}
use Rattle.live_yard.specs.Answers.{IsServed, Serves}
use Rattle.live_yard.specs.Firing.{DispatchState, Fires, fired}
use Rattle.live_yard.specs.Reported.{Reported, MayGoOn, after_table, forgotten, granted, positions_of, table_of}
use Rattle.live_yard.specs.Sessions.{IsPlain, IsSession, PlainSession, plain}
use Rattle.live_yard.proofs.Changing.{Changes, changes}
use Rattle.live_yard.proofs.Firing.{next_can}
use Rattle.live_yard.proofs.Following.{tried_positions}
use Rattle.live_yard.proofs.Forgetting.{may_forget}

-- sessions one after the other
joined : (a b c : DispatchState) (first later : List Request) (answers rest : List Served)
    → IsSession a first answers b → IsSession b later rest c → IsSession a (first ++ later) (answers ++ rest) c
joined a b c [] later [] rest same session = subst (λ (u : DispatchState). IsSession u later rest c) same session
joined a b c [] later (s ∷ answers) rest none session = absurd none
joined a b c (r ∷ first) later [] rest none session = absurd none
joined a b c (r ∷ first) later (s ∷ answers) rest before session =
    (before.0, before.1, joined before.0 b c first later answers rest before.2 session)

pub then : (a b c : DispatchState) → PlainSession a b → PlainSession b c → PlainSession a c
then a b c first later = record {
  requests = first.requests ++ later.requests;
  served = first.served ++ later.served;
  plain_requests = All-append IsPlain first.requests later.requests first.plain_requests later.plain_requests;
  session = joined (plain a) (plain b)
      (plain c) first.requests later.requests first.served later.served first.session later.session;
}

-- nothing happens where the run is the same
pub same_yard : (a b : DispatchState) → forgotten b.yard ≡ forgotten a.yard → PlainSession a b
same_yard a b same = record {
  requests = [];
  served = [];
  plain_requests = All-nil IsPlain;
  session = ap (λ (yard : Reported). record { yard = yard; wants = [] }) same;
}

-- one request that is served, after which no want stands
one : (a b : DispatchState) (request : Request) (reply : Reply) → IsPlain request
    → Serves (plain a) request reply (plain b) → PlainSession a b
one a b request reply is serves = record {
  requests = request ∷ [];
  served = record { reply = reply; granted = 0 } ∷ [];
  plain_requests = All-cons IsPlain request [] is (All-nil IsPlain);
  session = (
    plain b,
    record {
      between = plain b;
      serves = serves;
      settles = record { wants = []; number = refl; fires = refl; settled = λ k can. omega (arith, can.0) };
    },
    refl,
  );
}

-- a grant is asked for
grants : (a b : DispatchState) (i : ℕ) → MayGoOn a.yard i → b.yard ≡ granted a.yard i → PlainSession a b
grants a b i may is =
    let there : plain b ≡ record (plain a) { yard = granted (forgotten a.yard) i } =
    ap (λ (yard : Reported). record { yard = forgotten yard; wants = [] }) is in
    one a b (Ask i None) (Granted (length a.yard.run.lines + 1)) refl
    (inl (record {}, (may_forget (table_of a.yard) (positions_of a.yard) a.yard.there i may, there, refl)))

-- a table is tried
tries : (a b : DispatchState) (tried : TriedValue) → Tries a.yard.run.tables a.yard.run.yard tried
    → b.yard ≡ after_table a.yard tried → PlainSession a b
tries a b tried answer is =
    let positions = tried_positions a.yard.run.yard tried in
    let there : forgotten (after_table a.yard tried) ≡ after_table (forgotten a.yard) tried =
    λ j. record { run = (after_table a.yard tried).run; there = positions j; reports = false } in
    one a b (Table None) (Tried tried) refl
    (inl refl, answer, ap (λ (yard : Reported). record { yard = yard; wants = [] }) (ap forgotten is ∙ there))

-- what a request changes
serves_plainly : (a b : DispatchState) → Changes a.yard b.yard → PlainSession a b
serves_plainly a b change = elim change [
  | inl same ↦ same_yard a b (ap forgotten same)
  | inr (inl grant) ↦ grants a b grant.0 grant.1 grant.2
  | inr (inr (inl report)) ↦ same_yard a b (ap forgotten report.2)
  | inr (inr (inr table)) ↦ tries a b table.0 table.1 table.2
]

-- wants that are granted
fires_plainly : (a b : DispatchState) (from : ℕ) (wants : List ℕ) → Fires a from wants b → PlainSession a b
fires_plainly a b from [] same = same_yard a b (ap (λ (u : DispatchState). forgotten u.yard) same)
fires_plainly a b from (k ∷ later) fires =
    let i = slice_index a.wants k in
    let may = (next_can a from k fires.0).1 in
    then a (fired a k) b (grants a (fired a k) i may refl) (fires_plainly (fired a k) b k later fires.1)

pub served_plainly : (a b : DispatchState) (request : Request) (served : Served) → IsServed a request served b
    → PlainSession a b
served_plainly a b request served is =
    then a is.between b (serves_plainly a is.between (changes a is.between request served.reply is.serves).0)
    (fires_plainly is.between b 0 is.settles.wants is.settles.fires)

pub plainly : (a b : DispatchState) (requests : List Request) (served : List Served) → IsSession a requests served b
    → PlainSession a b
plainly a b [] [] same = same_yard a b (ap (λ (u : DispatchState). forgotten u.yard) same)
plainly a b [] (s ∷ rest) none = absurd none
plainly a b (r ∷ later) [] none = absurd none
plainly a b (r ∷ later) (s ∷ rest) session =
    then a session.0 b (served_plainly a session.0 r s session.1) (plainly session.0 b later rest session.2)
