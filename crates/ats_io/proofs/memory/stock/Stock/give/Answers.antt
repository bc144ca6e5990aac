use Rattle.std.proofs.Common.{◌≡◌, ◌≤◌, ◌-◌, length, take, drop, sym, ap, ◌∙◌, arith, take_all, length-drop}
use Rattle.ats_io.proofs.Giving.{given_front}
use Rattle.ats_io.proofs.memory.stock.Stock.give.Goals as goal

pub returns-clause-given : goal.returns-clause-given
returns-clause-given c =
    let all = c.self.inside.bytes.items in
    let given = c.self.inside.given in
    let slice = c.deref.result.now in
    let rest : take (length slice - given) (drop given slice) ≡ drop given all =
    take_all _ _ (omega (arith, length-drop given slice)) ∙ ap (drop given) c.deref.ensures.value in
    let copied = c.copy_from_slice.ensures.after ∙ ap (take c.min-count.result) rest in
    let fits : c.min-count.result ≤ length (drop given all) = omega (arith, c.min.ensures, c.min-count.ensures, ap length rest) in
    sym c.self.view_is ∙ given_front all _ _ given _ copied fits
