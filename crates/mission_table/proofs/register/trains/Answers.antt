use Rattle.std.proofs.Common.{◌≡◌, ◌∙◌, ◌⊎◌, Ok, Err, ap, sym, subst, inl, inr, arith, length, string_bytes}
use Rattle.std.proofs.lemmas.List.{length-map}
use Rattle.rail_model.proofs.Firsts.{Answers-err}
use Rattle.track_layout.proofs.Doubles.{numbered_apart}
use Rattle.mission_table.specs.declared.refused.TrainRefused.TheVariants.{Memory}
use Rattle.mission_table.specs.Doubling.{train_refusal}
use Rattle.mission_table.specs.Roster.{AreTrains, too_many, bad_name, trains_from}
use Rattle.mission_table.specs.Seen.{names_seen}
use Rattle.mission_table.proofs.Enrolled.{refused_count, refused_name, refused_double, enrolled, are_trains}
use Rattle.mission_table.proofs.register.trains.Goals.{After-check_count, After-check_names}
use Rattle.mission_table.proofs.register.trains.Goals as goal

-- the checks are of the names that are given
counted : (c : After-check_count) → too_many c.len.result ≡ too_many (length (names_seen c.args.names.items))
counted c =
    let size : c.len.result ≡ length (names_seen c.args.names.items) = omega (arith, c.args.names.ok.0, length-map c.args.names.items string_bytes) in
    ap too_many size

names_tested : (c : After-check_names) → bad_name (names_seen c.deref.result.now) ≡ bad_name (names_seen c.args.names.items)
names_tested c = ap (λ ns. bad_name (names_seen ns)) c.deref.ensures.value

pub returns-in_err-check_count : goal.returns-in_err-check_count
returns-in_err-check_count c =
    let at = goal.at.returns-in_err-check_count c in
    let names = names_seen c.args.names.items in
    let e = c.in_err-check_count.field-0.0 in
    Answers-err Memory (λ trains. trains) c.from_residual.result (trains_from names) e c.from_residual.ensures.1
    (inr (refused_count names e (c.in_err-check_count.ensures ∙ counted at.After-check_count)))

pub returns-in_err-check_names : goal.returns-in_err-check_names
returns-in_err-check_names c =
    let at = goal.at.returns-in_err-check_names c in
    let names = names_seen c.args.names.items in
    let count = c.in_ok-check_count.ensures ∙ counted at.After-check_count in
    let e = c.in_err-check_names.field-0.0 in
    Answers-err Memory (λ trains. trains) c.from_residual-in_err-check_names.result (trains_from names) e
    c.from_residual-in_err-check_names.ensures.1
    (inr (refused_name names e count (c.in_err-check_names.ensures ∙ names_tested at.After-check_names)))

pub returns-in_err-new : goal.returns-in_err-new
returns-in_err-new c =
    let at = goal.at.returns-in_err-new c in
    let names = names_seen c.args.names.items in
    let count = c.in_ok-check_count.ensures ∙ counted at.After-check_count in
    let good = c.in_ok-check_names.ensures ∙ names_tested at.After-check_names in
    let e = c.in_err-new.field-0.0 in
    let answer = elim c.in_err-new.ensures as (λ _. (train_refusal e ≡ Memory) ⊎ (trains_from names ≡ Err (train_refusal e))) [
      | inl m ↦ inl (ap train_refusal m)
      | inr d ↦ inr (refused_double names e count good d)
    ] in
    Answers-err Memory (λ trains. trains) c.from_residual-in_err-new.result (trains_from names) (train_refusal e)
    c.from_residual-in_err-new.ensures.1 answer

pub new-requires-2 : goal.new-requires-2
new-requires-2 c =
    let at = goal.at.new-requires-2 c in
    let names = names_seen c.args.names.items in
    let count = c.in_ok-check_count.ensures ∙ counted at.After-check_count in
    let good = c.in_ok-check_names.ensures ∙ names_tested at.After-check_names in
    let apart = numbered_apart names c.in_ok-new.field-0 c.in_ok-new.ensures in
    subst AreTrains (apart.1 ∙ sym c.in_ok-names.ensures) (are_trains names count good apart.0)

pub returns : goal.returns
returns c =
    let at = goal.at.returns c in
    let names = names_seen c.args.names.items in
    let count = c.in_ok-check_count.ensures ∙ counted at.After-check_count in
    let good = c.in_ok-check_names.ensures ∙ names_tested at.After-check_names in
    let apart = numbered_apart names c.in_ok-new.field-0 c.in_ok-new.ensures in
    enrolled names count good apart.0 ∙ ap Ok (apart.1 ∙ sym c.in_ok-names.ensures ∙ sym c.new-2.ensures)
