-- Named points and links, as definitions see them.
use Rattle.std.specs.Prelude.{ℕ, List, String, string_bytes}
use Rattle.std.specs.declared.alloc.Global.{Global}

abbrev pub point_seen : String Global × ℕ → List ℕ × ℕ
point_seen p = (string_bytes p.0, p.1)

abbrev pub link_seen : String Global × String Global → List ℕ × List ℕ
link_seen l = (string_bytes l.0, string_bytes l.1)
