use Rattle.std.proofs.Common.{◌≡◌, ◌∙◌, ap, sym, ℕ, List, string_bytes, bytes_eq, position}
use Rattle.track_layout.proofs.Known.{first_lost, second_lost, both_found}
use Rattle.track_layout.proofs.making.join.Goals.{After-number, After-number-2}
use Rattle.track_layout.proofs.making.join.Goals as goal

-- the names of the link are looked up
first_asked : (c : After-number) → c.number.result ≡ position (bytes_eq (string_bytes c.args.link.now.0)) c.args.numbers.now
first_asked c = c.number.ensures ∙ ap (λ (n : List ℕ). position (bytes_eq n) c.args.numbers.now) c.deref.ensures

second_asked : (c : After-number-2) → c.number-2.result ≡ position (bytes_eq (string_bytes c.args.link.now.1)) c.args.numbers.now
second_asked c = c.number-2.ensures ∙ ap (λ (n : List ℕ). position (bytes_eq n) c.args.numbers.now) c.deref-2.ensures

pub returns-in_err-first : goal.returns-in_err-first
returns-in_err-first c =
    let at = goal.at.returns-in_err-first c in
    c.from_residual.ensures
    ∙ first_lost c.args.numbers.now (string_bytes c.args.link.now.0) (string_bytes c.args.link.now.1)
    (sym c.in_err-first.was ∙ first_asked at.After-number)

pub returns-in_err-second : goal.returns-in_err-second
returns-in_err-second c =
    let at = goal.at.returns-in_err-second c in
    c.from_residual-in_err-second.ensures
    ∙ second_lost c.args.numbers.now (string_bytes c.args.link.now.0) (string_bytes c.args.link.now.1) c.in_ok-first.first
    (sym c.in_ok-first.was ∙ first_asked at.After-number) (sym c.in_err-second.was ∙ second_asked at.After-number-2)

pub returns : goal.returns
returns c =
    let at = goal.at.returns c in
    both_found c.args.numbers.now (string_bytes c.args.link.now.0) (string_bytes c.args.link.now.1) c.in_ok-first.first c.in_ok-second.second
    c.new.result (sym c.in_ok-first.was ∙ first_asked at.After-number) (sym c.in_ok-second.was ∙ second_asked at.After-number-2) c.new.ensures
