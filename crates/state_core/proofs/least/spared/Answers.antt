use Rattle.std.proofs.Common.{List, ℕ, subst}
use Rattle.std.proofs.lemmas.Option.{MatchOption-at_none, MatchOption-at_some}
use Rattle.state_core.specs.Least.{IsWithin, HasNoCore}
use Rattle.state_core.proofs.Leaving.{others_in, needs_no_other, needed_by_all}
use Rattle.state_core.proofs.least.spared.Goals as goal

pub returns-in-Some-clause-inside : goal.returns-in-Some-clause-inside
returns-in-Some-clause-inside c =
    let found = MatchOption-at_some _ _ _ c.in-Some.is c.in_ok-left.ensures in
    λ i lt member. others_in c.args.core c.args.train i
    (subst (λ (rest : List ℕ). IsWithin c.args.table.now c.in-Some.left rest) c.in_ok-rest.ensures found.inside i lt member)

pub returns-in-Some-clause-needed : goal.returns-in-Some-clause-needed
returns-in-Some-clause-needed c =
    let found = MatchOption-at_some _ _ _ c.in-Some.is c.in_ok-left.ensures in
    needs_no_other c.args.table.now c.args.state.now c.args.core c.in-Some.left c.args.train c.requires.train
    (subst (λ (rest : List ℕ). IsWithin c.args.table.now c.in-Some.left rest) c.in_ok-rest.ensures found.inside)

pub returns-in-None-clause-needed : goal.returns-in-None-clause-needed
returns-in-None-clause-needed c =
    let none = MatchOption-at_none _ _ c.in-None.is c.in_ok-left.ensures in
    needed_by_all c.args.table.now c.args.state.now c.args.core c.args.train
    (subst (HasNoCore c.args.table.now c.args.state.now) c.in_ok-rest.ensures none)
