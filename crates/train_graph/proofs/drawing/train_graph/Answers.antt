use Rattle.std.proofs.lemmas.Result.{IfOk-weaker}
use Rattle.train_graph.proofs.Threefold.{all_three}
use Rattle.train_graph.proofs.drawing.train_graph.Goals as goal

pub returns : goal.returns
returns c =
    let axes = c.in_ok-axes.axes in
    let lie = c.in_ok-axes.ensures in
    let drawn = c.drawn.ensures in
    IfOk-weaker c.drawn.result _ _ (λ picture is. record {
      axes = axes;
      span = lie.span;
      wide = lie.wide;
      each = lie.each;
      apart = lie.apart;
      rows = lie.rows;
      once = lie.once;
      broad = is.1;
      high = is.2;
      groups = is.0;
    })
    (all_three _ _ _ c.drawn.result drawn.groups drawn.broad drawn.high)
