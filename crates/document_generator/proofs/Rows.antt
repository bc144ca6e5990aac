-- Worked rows of the generator.
use Rattle.std.proofs.Common.{◌≡◌, [], ◌∷◌, refl}
use Rattle.std.specs.Prelude.{codes, map}
use Rattle.std.specs.Fmt.{digits}
use Rattle.serde_json.proofs.OnLiterals.{serde_json_on_literals}
use Rattle.document_generator.specs.Draws.{draws, drawn_of}
use Rattle.document_generator.specs.Pairs.{all_pairs, pair_count}
use Rattle.document_generator.specs.Pieces.{name}
use Rattle.document_generator.specs.Generated.{generated}
use Rattle.document_generator.specs.declared.names.Spot.TheVariants.{Joint, Upper, Lower}

-- the first five numbers of seed 2
five_draws : draws 5 (drawn_of 2) ≡ 224 ∷ 16874 ∷ 20421 ∷ 24298 ∷ 52925 ∷ []
five_draws = refl

-- two trains of one pair, with one loop
one_pair : all_pairs 2 2 ≡ record { number = 0; first = 0; loops = 1; times = (9 ∷ 1 ∷ []) ∷ (8 ∷ 6 ∷ []) ∷ [] } ∷ []
one_pair = refl

-- no train has one pair too, and three trains have two
pair_counts : (pair_count 0 ∷ pair_count 1 ∷ pair_count 2 ∷ pair_count 3 ∷ pair_count 32 ∷ []) ≡ 1 ∷ 1 ∷ 1 ∷ 2 ∷ 16 ∷ []
pair_counts = refl

point_names : map (name (record { number = 0; first = 0; loops = 1; times = [] })) (Joint 1 ∷ Upper 0 ∷ Lower 0 ∷ []) ≡ codes "P0J1" ∷ codes "P0U0" ∷ codes "P0L0" ∷ []
unfolding digits
point_names = refl

two_trains : generated 2 2 ≡ codes "{\"links\":[[\"P0J0\",\"P0U0\"],[\"P0U0\",\"P0J1\"],[\"P0J1\",\"P0L0\"],[\"P0L0\",\"P0J0\"]],\"points\":[[\"P0J0\",0],[\"P0U0\",1],[\"P0L0\",2],[\"P0J1\",3]],\"start\":[0,0],\"tables\":[{\"after\":0,\"certificate\":[],\"missions\":[[\"P0J0\",\"P0U0\",\"P0J1\"],[\"P0J1\",\"P0L0\",\"P0J0\"]],\"sections\":[{\"changes\":[[0,1,-1],[0,1,-1]],\"limit\":2}],\"times\":[[9,1],[8,6]]}],\"trains\":[\"T0\",\"T1\"],\"version\":1,\"zones\":4}\n"
unfolding serde_json_on_literals digits
two_trains = refl

one_train : generated 2 1 ≡ codes "{\"links\":[[\"P0J0\",\"P0U0\"],[\"P0U0\",\"P0J1\"],[\"P0J1\",\"P0L0\"],[\"P0L0\",\"P0J0\"]],\"points\":[[\"P0J0\",0],[\"P0U0\",1],[\"P0L0\",2],[\"P0J1\",3]],\"start\":[0],\"tables\":[{\"after\":0,\"certificate\":[],\"missions\":[[\"P0J0\",\"P0U0\",\"P0J1\"]],\"sections\":[{\"changes\":[[0,1,-1]],\"limit\":2}],\"times\":[[9,1]]}],\"trains\":[\"T0\"],\"version\":1,\"zones\":4}\n"
unfolding serde_json_on_literals digits
one_train = refl

no_train : generated 2 0 ≡ codes "{\"links\":[[\"P0J0\",\"P0U0\"],[\"P0U0\",\"P0J1\"],[\"P0J1\",\"P0L0\"],[\"P0L0\",\"P0J0\"]],\"points\":[[\"P0J0\",0],[\"P0U0\",1],[\"P0L0\",2],[\"P0J1\",3]],\"start\":[],\"tables\":[{\"after\":0,\"certificate\":[],\"missions\":[],\"sections\":[],\"times\":[]}],\"trains\":[],\"version\":1,\"zones\":4}\n"
unfolding serde_json_on_literals digits
no_train = refl
