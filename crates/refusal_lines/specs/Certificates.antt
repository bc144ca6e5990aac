-- What is printed of a table's certificate that is refused.
use Rattle.std.specs.Prelude.{ℕ, List, ◌++◌, codes, decimal}
use Rattle.cert_tree.specs.declared.reading.CertRefused.{CertRefused}
use Rattle.cert_tree.specs.declared.reading.CertRefused.TheVariants as tree
use Rattle.rail_model.specs.declared.types.Bad.{Bad}
use Rattle.rail_model.specs.declared.types.Bad.TheVariants as bad

-- The refusals of lists that spell no tree.
abbrev pub tree_words : ℕ → CertRefused → List ℕ
tree_words t (tree.Short n) = codes "41 Short table=" ++ decimal t ++ codes " missing=" ++ decimal n
tree_words t (tree.Over n) = codes "42 Over table=" ++ decimal t ++ codes " used=" ++ decimal n
tree_words t (tree.TooMany n) = codes "43 TooMany table=" ++ decimal t ++ codes " count=" ++ decimal n

-- The refusals of nodes.
abbrev pub bad_words : ℕ → Bad → List ℕ
bad_words t (bad.Split n) = codes "51 Split table=" ++ decimal t ++ codes " index=" ++ decimal n
bad_words t (bad.Clash n) = codes "52 Clash table=" ++ decimal t ++ codes " index=" ++ decimal n
bad_words t (bad.Overfull n s least) = codes "53 Overfull table=" ++ decimal t ++ codes " index=" ++ decimal n ++ codes " section=" ++ decimal s ++ codes " least=" ++ decimal least
bad_words t (bad.Arrived n i) = codes "54 Arrived table=" ++ decimal t ++ codes " index=" ++ decimal n ++ codes " train=" ++ decimal i
bad_words t (bad.MoveEnd n i) = codes "55 MoveEnd table=" ++ decimal t ++ codes " index=" ++ decimal n ++ codes " train=" ++ decimal i
bad_words t (bad.MovePoint n i k) = codes "56 MovePoint table=" ++ decimal t ++ codes " index=" ++ decimal n ++ codes " train=" ++ decimal i ++ codes " other=" ++ decimal k
bad_words t (bad.MoveRoom n i s) = codes "57 MoveRoom table=" ++ decimal t ++ codes " index=" ++ decimal n ++ codes " train=" ++ decimal i ++ codes " section=" ++ decimal s
bad_words t (bad.Name n) = codes "58 Name table=" ++ decimal t ++ codes " index=" ++ decimal n
bad_words t (bad.MoveWait n i c) = codes "59 MoveWait table=" ++ decimal t ++ codes " index=" ++ decimal n ++ codes " train=" ++ decimal i ++ codes " connection=" ++ decimal c
