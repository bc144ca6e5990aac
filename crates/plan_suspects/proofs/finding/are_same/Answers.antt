use Rattle.std.proofs.Common.{◌≡◌, ℕ, List, Bool, IsTrue, rules, map}
use Rattle.std.specs.Prelude.{bytes_eq}
use Rattle.std.specs.Char.{to_ascii_lowercase}
use Rattle.std.proofs.lemmas.Slice.Eq.{bytes_eq-Decides}
use Rattle.plan_suspects.proofs.finding.are_same.Goals as goal

tested : (xs ys : List ℕ) (r : Bool) → (IsTrue r → xs ≡ ys) × (xs ≡ ys → IsTrue r) → r ≡ bytes_eq xs ys
tested xs ys r is = search (rules, bytes_eq-Decides)

pub returns : goal.returns
returns c = tested (map to_ascii_lowercase c.args.one.now) (map to_ascii_lowercase c.args.other.now) c.eq_ignore_ascii_case.result c.eq_ignore_ascii_case.ensures.test
